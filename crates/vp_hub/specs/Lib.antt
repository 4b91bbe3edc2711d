pub mod Faults
pub mod Openings
pub mod Calls
pub mod Desks
pub mod Hubs
pub mod Closing
pub mod ServerFaults
pub mod Clients
