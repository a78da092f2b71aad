pub mod Cells
pub mod Features
pub mod Placed
