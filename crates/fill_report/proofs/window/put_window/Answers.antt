use Rattle.std.proofs.Common.{◌≡◌, ◌+◌, ◌+ℤ◌, ℕ, ℤ, Fits, arith, w32, ◌∙◌, ◌%◌, ◌/◌, ap, refl, rules, pos, w64, FitsSigned}
use Rattle.std.proofs.lemmas.Int.{ints}
use Rattle.fill_base.proofs.Signed.{read, read_is}
use Rattle.fill_area.specs.Grid.{counted_size, window_left, window_right, window_bottom, window_top}
use Rattle.fill_report.specs.Report.{density_of, share_of}
use Rattle.fill_report.proofs.Lines.{read_at}
use Rattle.fill_report.proofs.window.put_window.Goals as goal

row_told : (x y : ℤ) (m n : ℕ) → Fits w32 m → Fits w32 n → x ≡ pos m → y ≡ pos n → read (read x +ℤ read y) ≡ pos (m + n)
row_told x y m n m_fits n_fits x_is y_is = rw (x_is, y_is, read_is (pos m) (one m m_fits), read_is (pos n) (one n n_fits)) (read_is _ (sum m n m_fits n_fits))
  where
    one : (m : ℕ) → Fits w32 m → FitsSigned w64 (pos m)
    one m h = omega (arith, ints, h)

    sum : (m n : ℕ) → Fits w32 m → Fits w32 n → FitsSigned w64 (pos (m + n))
    sum m n h k = omega (arith, ints, h, k)

pub returns-clause-text : goal.returns-clause-text
returns-clause-text c front so_far =
    let g = c.args.windows.now in
    let m = c.args.measures in
    let a = c.column_and_row-a.ensures.column in
    let b = c.column_and_row-a.ensures.row in
    let drawn : FitsSigned w64 m.drawn = search rules in
    let fill : FitsSigned w64 m.fill = search rules in
    let total : FitsSigned w64 m.total = search rules in
    let counted = counted_size g (c.args.place.0 % g.across.count) (c.args.place.0 / g.across.count) in
    let size : read c.counted_size-size.result ≡ counted = read_at _ _ (search rules) (c.counted_size-size.ensures.size ∙ (ap (λ i. counted_size g i c.column_and_row-a.result.1) a ∙ ap (counted_size g (c.args.place.0 % g.across.count)) b)) in
    let share_read : share_of (read m.total) (read c.counted_size-size.result) ≡ share_of m.total counted = rw (read_is m.total total, size) refl in
    let density_read : density_of (read m.total) c.args.limits (read c.counted_size-size.result) ≡ density_of m.total c.args.limits counted =
    rw (read_is m.total total, size) refl in
    let share : read c.share.result ≡ share_of m.total counted = read_at _ _ (search rules) (c.share.ensures ∙ share_read) in
    let density = c.density.ensures ∙ density_read in
    let row : read (read c.from-2.result +ℤ read c.from-3.result) ≡ pos (c.args.place.1 + c.args.place.0 / g.across.count) = row_told c.from-2.result c.from-3.result c.args.place.1 _ (search rules) (search rules) c.from-2.ensures (c.from-3.ensures ∙ ap pos b) in
    rw (
      read_at c.from.result (pos (c.args.place.0 % g.across.count)) (search rules) (c.from.ensures ∙ ap pos a),
      row,
      read_at c.x1.result (window_left g (c.args.place.0 % g.across.count)) (search rules) (c.x1.ensures ∙ (c.rect-window.ensures.left ∙ ap (window_left g) a)),
      read_at c.y1.result (window_bottom g (c.args.place.0 / g.across.count)) (search rules) (c.y1.ensures ∙ (c.rect-window.ensures.bottom ∙ ap (window_bottom g) b)),
      read_at c.x2.result (window_right g (c.args.place.0 % g.across.count)) (search rules) (c.x2.ensures ∙ (c.rect-window.ensures.right ∙ ap (window_right g) a)),
      read_at c.y2.result (window_top g (c.args.place.0 / g.across.count)) (search rules) (c.y2.ensures ∙ (c.rect-window.ensures.top ∙ ap (window_top g) b)),
      read_is m.drawn drawn,
      read_is m.fill fill,
      read_is m.total total,
      share,
      density,
    )
    at (c.put_line.ensures.text front so_far)
