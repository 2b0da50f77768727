pub mod Same
pub mod OnReel
pub mod Fewest
pub mod Reading
