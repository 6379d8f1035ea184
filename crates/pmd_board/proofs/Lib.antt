pub mod HeldLists
pub mod Pushed
pub mod Caches
pub mod Sweeps
pub mod LookedUp
pub mod Settles
pub mod Roomier
pub mod Listed
