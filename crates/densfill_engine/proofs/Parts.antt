-- A part of a chip, filled as a smaller chip.
use Rattle.std.proofs.Common.{◌≡◌, refl, ap, sym, subst, ◌∙◌, ℕ, ◌+◌, ◌*◌, ◌≤◌, ◌<◌, arith, ℤ, ◌≤ℤ◌, ◌<ℤ◌, true, false, ◌&&◌, inl, inr, List, map, None, Some}
use Rattle.std.specs.Prelude.{int_lt}
use Rattle.std.specs.List.{filter}
use Rattle.std.proofs.Math.Path.{fun_ext}
use Rattle.std.proofs.lemmas.Bool.{and_from, and_parts, cases_Bool, false_from_ne_true}
use Rattle.std.proofs.lemmas.Int.{ints}
use Rattle.fill_base.specs.Counts.{is_between}
use Rattle.fill_base.specs.Sides.{Sides}
use Rattle.fill_base.specs.Squares.{squares}
use Rattle.fill_base.specs.declared.rect.Rect.{Rect}
use Rattle.fill_base.proofs.Between.{is_between_bounds}
use Rattle.fill_raster.specs.Axes.{first, past}
use Rattle.fill_raster.proofs.Tiling.{tiles_few}
use Rattle.fill_stacks.specs.Laws.{AreItsRows}
use Rattle.fill_text.specs.Chips.{with_rows}
use Rattle.fill_text.specs.Rules.{Values, raster_of}
use Rattle.fill_text.specs.Script.{change_of}
use Rattle.fill_text.specs.declared.chip.ChipRows.{ChipRows}
use Rattle.fill_text.specs.declared.script.Edit.{Edit}
use Rattle.fill_job.specs.Plans.{IsPlan, Layers, plan_of}
use Rattle.fill_parts.specs.Cuts.{Part}
use Rattle.fill_parts.specs.Needs.{in_coordinates, is_inside, layers_met, needed_sides}
use Rattle.fill_parts.specs.PartChip.{HoldsPart, StandsIn}
use Rattle.fill_parts.specs.PartFill.{layers_by, layers_with, part_fill, rect_of}
use Rattle.fill_parts.specs.Laws.{ChipRunIsThePart, ClippedAgrees, EditsAreChanges}
use Rattle.fill_parts.specs.Told.{tiles_in, windows_in}
use Rattle.fill_parts.specs.declared.part_rules.ToldRows.{ToldRows}
use Rattle.fill_state.proofs.HaloMetal.{rect_in_range}
use Rattle.gds_out.specs.FillText.{fill_text}
use Rattle.gds_out.specs.Laws.{TextOfSomeRows}
use Rattle.densfill_engine.specs.Designs.{IsRanged, layers_within}
use Rattle.densfill_engine.specs.Fills.{IsOnlyFillOf, IsPartFillOf}
use Rattle.densfill_engine.specs.Runs.{IsTooShort, tile_count}
use Rattle.densfill_engine.specs.Views.{IsPartView, is_near}
use Rattle.densfill_engine.specs.declared.scope.Reach.TheVariants.{Needs}
use Rattle.densfill_engine.specs.declared.view.Told.TheVariants.{Rows}

-- ---- edits

-- a rectangle that holds a square of another one is near it
near_squares : (frame : Rect) (edit : Edit) (x y : ℤ) → squares frame x y ≡ true → squares (rect_of edit) x y ≡ true → is_near frame edit ≡ true
near_squares frame edit x y f r =
    let a = and_parts (is_between frame.x1 frame.x2 x) (is_between frame.y1 frame.y2 y) f in
    let b = and_parts (is_between (rect_of edit).x1 (rect_of edit).x2 x) (is_between (rect_of edit).y1 (rect_of edit).y2 y) r in
    and_from _ _ (meets _ _ _ _ x a.0 b.0) (meets _ _ _ _ y a.1 b.1)
  where
    less : (a b x : ℤ) → (a ≤ℤ x) → (x <ℤ b) → int_lt a b ≡ true
    less a b x h k = grind (arith, ints)

    meets : (a b c d x : ℤ) → is_between a b x ≡ true → is_between c d x ≡ true → (int_lt c b && int_lt a d) ≡ true
    meets a b c d x h k =
        let p = is_between_bounds a b x h in let q = is_between_bounds c d x k in
        and_from _ _ (less c b x q.0 p.1) (less a d x p.0 q.1)

-- so one that isn't near has no square between the sides of the rectangle
far_edit : (s : Sides) (frame : Rect) (edit : Edit) → ClippedAgrees → ((x y : ℤ) → squares frame x y ≡ is_inside (in_coordinates s) x y) → is_near frame edit ≡ false
    → (x y : ℤ) → is_inside s x y ≡ true → squares (rect_of edit) x y ≡ false
far_edit s frame edit law same far x y inside = elim (cases_Bool (squares (rect_of edit) x y)) [
  | inl held ↦ absurd (
      let both : (squares (rect_of edit) x y && is_inside (in_coordinates s) x y) ≡ true = sym (law s (squares (rect_of edit)) (rect_in_range (rect_of edit)) x y inside) ∙ held in
      let in_frame : squares frame x y ≡ true = same x y ∙ (and_parts (squares (rect_of edit) x y) (is_inside (in_coordinates s) x y) both).1 in
      let clash : true ≡ false = sym (near_squares frame edit x y in_frame held) ∙ far in
      cc
      )
  | inr free ↦ free
]

-- ---- the places of a part, written by its chip's rules

-- they stand in the chip's rows
own_rows_are : (values : Values) (k : Part) (small : Values) (rows : ChipRows) (layers : Layers) → small ≡ with_rows values rows → StandsIn values k small
    → AreItsRows (part_fill (plan_of values) layers k) (raster_of values.numbers) (raster_of (with_rows values rows).numbers)
own_rows_are values k small rows layers alone stands = record {
  across = refl;
  from = subst (λ (v : Values). first (plan_of values).raster.up ≤ℤ first (plan_of v).raster.up) alone stands.from;
  to = subst (λ (v : Values). past (plan_of v).raster.up ≤ℤ past (plan_of values).raster.up) alone stands.to;
  below = λ i j under. false_from_ne_true (part_fill (plan_of values) layers k i j) (λ filled. let low = (there i j filled).0 in omega (arith, ints, low, under));
  above = λ i j over. false_from_ne_true (part_fill (plan_of values) layers k i j) (λ filled. let high = (there i j filled).1 in omega (arith, ints, high, over));
}
  where
    there : (i j : ℤ) → part_fill (plan_of values) layers k i j ≡ true → (first (raster_of (with_rows values rows).numbers).up ≤ℤ j) × (j <ℤ past (raster_of (with_rows values rows).numbers).up)
    there i j filled = subst (λ (v : Values). (first (plan_of v).raster.up ≤ℤ j) × (j <ℤ past (plan_of v).raster.up)) alone (stands.fill layers i j filled)

part_text : (values : Values) (k : Part) (small : Values) (told : ToldRows) → HoldsPart values k small (tiles_in told) (windows_in told) told.below → TextOfSomeRows → (layers : Layers) (units dates : List ℕ)
    → fill_text units dates small (part_fill (plan_of values) layers k) ≡ fill_text units dates values (part_fill (plan_of values) layers k)
part_text values k small told holds law layers units dates =
    ap (λ (v : Values). fill_text units dates v (part_fill (plan_of values) layers k)) holds.alone
    ∙ law values holds.rows units dates (part_fill (plan_of values) layers k) (own_rows_are values k small holds.rows layers holds.alone holds.stands)

-- ---- its texts

-- within the rectangle the edits beside it do nothing, and nothing farther away counts
pub is_of_part : (values : Values) (k : Part) (small : Values) (rows : ToldRows) (frame : Rect) (near layers : Layers) (units dates : List ℕ) (made : List Edit) (library report : List ℕ)
    → IsPartView Needs values k small rows frame → IsPlan (plan_of small) → EditsAreChanges → ClippedAgrees → ChipRunIsThePart → TextOfSomeRows
    → IsRanged (Some frame) layers.metal → IsRanged (Some frame) layers.fill → IsRanged (Some frame) layers.keep → near ≡ layers_within (Some frame) layers
    → IsOnlyFillOf (Rows rows) small (layers_by (map change_of (filter (is_near frame) made)) near) units dates library report
    → IsPartFillOf values (layers_by (map change_of made) layers) units dates k library report
is_of_part values k small rows frame near layers units dates made library report view plan changes clip law text metal_in fill_in keep_in within texts =
    let s = needed_sides (plan_of small) in
    let same = λ (x y : ℤ). ap (λ (t : Sides). is_inside t x y) view.frame_is in
    let met : near ≡ layers_met (in_coordinates s) layers = within ∙ (λ i. record {
      metal = fun_ext (λ x. fun_ext (λ y. ap (λ b. layers.metal x y && b) (same x y))) i;
      fill = fun_ext (λ x. fun_ext (λ y. ap (λ b. layers.fill x y && b) (same x y))) i;
      keep = fun_ext (λ x. fun_ext (λ y. ap (λ b. layers.keep x y && b) (same x y))) i;
    }) in
    let all = layers_by (map change_of made) layers in
    let fill = subst (λ (l : Layers). IsOnlyFillOf (Rows rows) small l units dates library report)
    (sym (changes (filter (is_near frame) made) near) ∙ ap (layers_with (filter (is_near frame) made)) met) texts in
    let run = law values k small (tiles_in rows) (windows_in rows) rows.below layers (is_near frame) made view.holds plan (view.fits rows refl).0 (view.fits rows refl).1 metal_in fill_in keep_in
    (λ edit far. far_edit s frame edit clip same far) in
    record {
      library_is = fill.library_is ∙ (ap (fill_text units dates small) run.places ∙ part_text values k small rows view.holds text all units dates);
      report_is = fill.report_is ∙ run.lines;
      sound = view.holds.sound all;
    }

-- without a limit there are turns for all tiles, and the history has room for them
pub never_short : (values : Values) → IsPlan (plan_of values) → IsTooShort values None 0 4294967296 → ⊥
never_short values plan (inl few) = turns (tile_count values) few
  where
    turns : (t : ℕ) → 2 * (t + 1) < t → ⊥
    turns t lt = omega (arith, lt)
never_short values plan (inr full) = room (tile_count values) (tiles_few (plan_of values).raster plan.raster) full
  where
    room : (t : ℕ) → t ≤ 16777216 → 4294967296 < 0 + t → ⊥
    room t tiles full = omega (arith, tiles, full)
