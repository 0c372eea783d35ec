-- The command lines that the program takes.
pub mod Grammar
pub mod Lines
