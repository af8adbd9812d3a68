pub mod Timely
pub mod Done
pub mod Printed
pub mod Happened
