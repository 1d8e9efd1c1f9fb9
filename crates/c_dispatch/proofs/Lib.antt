pub mod Small
mod Reading
