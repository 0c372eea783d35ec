-- What a tap shows of the reader or the writer behind it.
pub mod Taps
