pub mod Records
pub mod Grammar
pub mod Reading
pub mod MessageOfBytes
