pub mod Laws
pub mod Masters
