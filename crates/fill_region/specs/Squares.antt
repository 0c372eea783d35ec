-- Sets of squares that rectangles hold.
pub use Rattle.fill_bands.specs.Squares.{covered}
