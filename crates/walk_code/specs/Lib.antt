pub mod WalkParts
