pub mod Drawing
pub mod Features
pub mod Shapes
pub mod Wire
