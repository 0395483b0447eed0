pub mod Texts
pub mod Told
pub mod Sheets
