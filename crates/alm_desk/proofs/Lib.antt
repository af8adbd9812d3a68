pub mod Pieces
pub mod Slots
pub mod Cuts
pub mod Wholes
pub mod Printed
pub mod CutLines
pub mod Remembering
