pub mod Numeral
pub mod Answer
pub mod Line
pub mod Gather
pub mod Size
pub mod Shown
