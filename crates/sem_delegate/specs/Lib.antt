pub mod Delegating
pub mod PendingStore
