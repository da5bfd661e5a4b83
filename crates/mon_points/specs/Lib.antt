pub mod Fitting
pub mod Keys
pub mod Leading
pub mod Left
pub mod Records
