pub mod Line
pub mod Print
pub mod Turn
pub mod Example
