pub mod OneTree
