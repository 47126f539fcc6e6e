pub mod Inlet
pub mod Outlet
