pub mod NodeLevels
pub mod LevelEnds
