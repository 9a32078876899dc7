pub mod Choring
