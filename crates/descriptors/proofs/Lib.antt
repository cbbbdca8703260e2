pub mod Tests
pub mod Row
pub mod Match
pub mod Clash
pub mod Enable
pub mod Raised
pub mod Clean
