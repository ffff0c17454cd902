pub mod Links
pub mod Fabrics
pub mod Marked
