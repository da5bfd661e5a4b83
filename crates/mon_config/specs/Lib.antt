pub mod Configs
pub mod Numbers
pub mod Objects
