use Rattle.std.proofs.Common.{◌≡◌, ◌∙◌, ◌≤◌, ◌&&◌, ℕ, ℤ, arith, ap, sym, subst, rules, Bool, true, false, nat_lt}
use Rattle.std.proofs.lemmas.Bool.Decides.{nat_tests}
use Rattle.fill_raster.specs.Lattice.{IsLattice, in_raster, tile_of, tiles}
use Rattle.fill_text.specs.Rules.{Values, raster_of}
use Rattle.fill_job.specs.Plans.{plan_of}
use Rattle.fill_core.specs.Accounts.{opening_of, state_of}
use Rattle.fill_core.specs.Histories.{events_in}
use Rattle.fill_core.proofs.Replays.{filled_allowed}
use Rattle.fill_state.specs.Filling.{is_filled}
use Rattle.fill_parts.specs.Needs.{row_of}
use Rattle.fill_parts.specs.PartChip.{is_row_in}
use Rattle.fill_parts.specs.Told.{tiles_in}
use Rattle.densfill_engine.proofs.TileRows.{all_own, in_rows, own_more}
use Rattle.densfill_engine.proofs.texts.told_places.Goals as goal

none : (t : ℕ) (b : Bool) → false ≡ (nat_lt t 0 && b)
none t b = let below : nat_lt t 0 ≡ false = grind (arith, nat_tests) in sym (ap (λ x. x && b) below)

pub loop-tile-init : goal.loop-tile-init
loop-tile-init g c =
    let a = g.B.FillBook.account c.args.book.now in
    let plan = plan_of a.rules in
    record {
      raster = c.in_ok-filled.ensures.raster ∙ ap (λ (v : Values). raster_of v.numbers) c.rules-rules.ensures;
      told = λ i j. c.in_ok-filled.ensures.none i j ∙ none (tile_of plan.raster i j) ((state_of a).fill i j && is_row_in (tiles_in c.args.told.now) (row_of plan.raster (tile_of plan.raster i j)));
    }

pub loop-tile-preserved : goal.loop-tile-preserved
loop-tile-preserved g c =
    let a = g.B.FillBook.account c.args.book.now in
    let plan = plan_of a.rules in
    record {
      raster = c.take_told.ensures.raster ∙ c.loop-tile.invariant.raster;
      told = own_more plan.raster (state_of a).fill (λ tile. is_row_in (tiles_in c.args.told.now) (row_of plan.raster tile)) (λ i j h. (filled_allowed plan (opening_of a) (events_in a.history) i j h).0) (is_filled c.loop-tile.filled) (is_filled c.take_told.new.filled)
          c.loop-tile.tile c.loop-tile.invariant.told c.take_told.ensures.told;
    }

pub returns-clause-told : goal.returns-clause-told
returns-clause-told g c =
    let a = g.B.FillBook.account c.args.book.now in
    let plan = plan_of a.rules in
    let raster : c.raster.result ≡ plan.raster = c.raster.ensures.raster ∙ ap (λ (v : Values). raster_of v.numbers) c.rules-rules.ensures in
    let found : IsLattice c.raster.result = search rules in
    let inside : (i j : ℤ) → (state_of a).fill i j ≡ true → in_raster plan.raster i j ≡ true = λ i j h. (filled_allowed plan (opening_of a) (events_in a.history) i j h).0 in
    all_own plan.raster (state_of a).fill (λ tile. is_row_in (tiles_in c.args.told.now) (row_of plan.raster tile)) inside (is_filled c.loop-tile.filled) c.loop-tile.tile
    (subst IsLattice raster found) c.loop-tile.invariant.told (ended c.loop-tile.tile c.tiles-tile-end.result (tiles plan.raster) c.loop-tile-test.false c.loop-tile.auto.tile-end (c.tiles-tile-end.ensures ∙ ap tiles raster))
    ∙ in_rows plan.raster (tiles_in c.args.told.now) (state_of a).fill (subst IsLattice raster found) inside
  where
    ended : (n e t : ℕ) → e ≤ n → n ≤ e → e ≡ t → n ≡ t
    ended n e t p q is = omega (arith, p, q, is)
