pub mod Governing
