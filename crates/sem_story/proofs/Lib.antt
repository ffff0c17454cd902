pub mod Next
pub mod Laws
pub mod Told
pub mod First
pub mod Walking
