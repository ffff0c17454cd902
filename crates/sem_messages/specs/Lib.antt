pub mod Messages
pub mod EachKind
