pub mod Afternoon
