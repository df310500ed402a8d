pub mod Grid
pub mod Places
pub mod Sample
