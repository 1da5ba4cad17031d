pub mod Printed
pub mod Text
