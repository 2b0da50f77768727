pub mod Observation
