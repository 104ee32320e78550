pub mod Hours
pub mod Civil
pub mod Timetable
pub mod Sessions
pub mod KnownHours
