pub mod Weaves
pub mod Offers
pub mod Ends
pub mod Pours
pub mod Roles
pub mod Feeding
pub mod Coming
