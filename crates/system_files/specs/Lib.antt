-- The definitions.
pub mod Locations
pub mod UntoldDisk
pub mod Faults
pub mod Prefixes
pub mod UntoldFiles
pub mod Takes
pub mod NoReports
