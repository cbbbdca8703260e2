pub mod Numbers
pub mod Clean
pub mod Becomes
pub mod Back
