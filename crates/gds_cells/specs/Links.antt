-- The single references that a link stands for, row by row.
use Rattle.std.specs.Prelude.{ℕ, ◌*◌, ◌/◌, ◌%◌, ℤ, pos, ◌+ℤ◌, ◌*ℤ◌, List, map}
use Rattle.std.specs.List.{range_with_len}
use Rattle.gds_cells.specs.declared.link.Link.{Link}
use Rattle.gds_cells.specs.declared.placement.Placement.{Placement}

-- so many steps of two kinds from a number
abbrev pub stepped : ℤ → ℕ → ℤ → ℕ → ℤ → ℤ
stepped first column column_step row row_step = (first +ℤ (pos column *ℤ column_step)) +ℤ (pos row *ℤ row_step)

-- the k-th of them
abbrev pub single : Link → ℕ → Placement
single l k = record l.placement {
  x = stepped l.placement.x (k % l.columns) l.column_step.x (k / l.columns) l.row_step.x;
  y = stepped l.placement.y (k % l.columns) l.column_step.y (k / l.columns) l.row_step.y;
}

abbrev pub singles : Link → List Placement
singles l = map (single l) (range_with_len 0 (l.columns * l.rows))
