pub mod Stretches
pub mod Years
pub mod Seasons
pub mod Starts
pub mod Sessions
pub mod HoursLaw
pub mod Computed
