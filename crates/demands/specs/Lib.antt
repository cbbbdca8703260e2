pub mod Promises
pub mod Outcomes
pub mod Histories
pub mod Totality
pub mod Demands
pub mod Requests
pub mod Bench
