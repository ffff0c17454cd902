pub mod Count
pub mod SourceBytes
pub mod SinkBytes
