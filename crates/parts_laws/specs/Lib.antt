-- Parts one behind the other.
pub mod Cut
