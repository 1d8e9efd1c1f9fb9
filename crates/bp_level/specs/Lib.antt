pub mod RootStart
