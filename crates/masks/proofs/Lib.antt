pub mod Bits
pub mod Every
pub mod Flags
pub mod Laws
pub mod Free
