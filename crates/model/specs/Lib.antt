pub mod Lanes
pub mod Parts
pub mod Stages
pub mod Places
