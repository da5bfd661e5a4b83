pub mod DueLists
pub mod QuietMoments
pub mod StandingFields
