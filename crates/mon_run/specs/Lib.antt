pub mod Endings
pub mod Laws
pub mod Outside
pub mod Plans
pub mod Steps
pub mod Trials
pub mod within
