pub mod Round
pub mod Tidy
pub mod Written
