pub mod Bijections
