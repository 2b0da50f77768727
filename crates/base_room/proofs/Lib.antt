pub mod RoomLaws
pub mod Filling
