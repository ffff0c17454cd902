pub mod Every
pub mod Facts
