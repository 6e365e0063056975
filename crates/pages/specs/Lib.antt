pub mod Rows
pub mod Lines
pub mod Sheet
pub mod Layout
pub mod Working
