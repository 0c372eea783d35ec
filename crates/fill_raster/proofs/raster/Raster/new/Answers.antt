use Rattle.fill_base.proofs.Areas.{read_x1, read_x2, read_y1, read_y2}
use Rattle.fill_raster.proofs.Reading.{length_read, coordinate_read, spacing_read}
use Rattle.fill_raster.proofs.raster.Raster.new.Goals as goal

pub returns-clause-ok : goal.returns-clause-ok
returns-clause-ok c =
    rw (c.x1.ensures, c.x2.ensures, c.y1.ensures, c.y2.ensures, read_x1 c.args.frame, read_x2 c.args.frame, read_y1 c.args.frame, read_y2 c.args.frame, length_read c.args.size.0 c.requires.width, length_read c.args.size.1 c.requires.height, length_read c.args.step.0 c.requires.step_right, length_read c.args.step.1 c.requires.step_up, coordinate_read c.args.origin.x c.requires.origin_x, coordinate_read c.args.origin.y c.requires.origin_y, spacing_read c.args.fill_spacing c.requires.fill_spacing)
    at c.checked.ensures.ok

pub returns-clause-bad_pitch : goal.returns-clause-bad_pitch
returns-clause-bad_pitch c = (
  λ e. rw (length_read c.args.size.0 c.requires.width, length_read c.args.size.1 c.requires.height, length_read c.args.step.0 c.requires.step_right, length_read c.args.step.1 c.requires.step_up, spacing_read c.args.fill_spacing c.requires.fill_spacing) at (c.checked.ensures.bad_pitch.0 e),
  λ n. c.checked.ensures.bad_pitch.1 (rw (length_read c.args.size.0 c.requires.width, length_read c.args.size.1 c.requires.height, length_read c.args.step.0 c.requires.step_right, length_read c.args.step.1 c.requires.step_up, spacing_read c.args.fill_spacing c.requires.fill_spacing) n),
)

pub returns-clause-too_many : goal.returns-clause-too_many
returns-clause-too_many c =
    rw (c.x1.ensures, c.x2.ensures, c.y1.ensures, c.y2.ensures, read_x1 c.args.frame, read_x2 c.args.frame, read_y1 c.args.frame, read_y2 c.args.frame, length_read c.args.size.0 c.requires.width, length_read c.args.size.1 c.requires.height, length_read c.args.step.0 c.requires.step_right, length_read c.args.step.1 c.requires.step_up, coordinate_read c.args.origin.x c.requires.origin_x, coordinate_read c.args.origin.y c.requires.origin_y, spacing_read c.args.fill_spacing c.requires.fill_spacing)
    at c.checked.ensures.too_many

pub returns-clause-raster : goal.returns-clause-raster
returns-clause-raster c =
    rw (c.x1.ensures, c.x2.ensures, c.y1.ensures, c.y2.ensures, read_x1 c.args.frame, read_x2 c.args.frame, read_y1 c.args.frame, read_y2 c.args.frame, length_read c.args.size.0 c.requires.width, length_read c.args.size.1 c.requires.height, length_read c.args.step.0 c.requires.step_right, length_read c.args.step.1 c.requires.step_up, coordinate_read c.args.origin.x c.requires.origin_x, coordinate_read c.args.origin.y c.requires.origin_y)
    at c.checked.ensures.raster
