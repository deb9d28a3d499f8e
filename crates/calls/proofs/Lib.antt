pub mod Calls
pub mod Promise8Code
pub mod Exist
pub mod Promise11Code
