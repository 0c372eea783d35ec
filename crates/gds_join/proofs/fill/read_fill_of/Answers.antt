use Rattle.std.proofs.Common.{◌≡◌, refl, sym, ap, ◌∙◌, ℤ, Bool, true, false, not, List, ℕ}
use Rattle.std.proofs.Math.Path.{fun_ext}
use Rattle.std.proofs.lemmas.Slice.Eq.{bytes_eq-Decides}
use Rattle.std.specs.Str.{bytes_eq}
use Rattle.fill_raster.specs.Lattice.{Lattice, in_raster}
use Rattle.fill_state.specs.Filling.{Filling, is_filled}
use Rattle.fill_text.specs.ValuesOfRules.{values_of}
use Rattle.gds_grammar.specs.Values.{contents_of}
use Rattle.gds_out.specs.FillText.{fill_text}
use Rattle.gds_out.specs.Laws.{raster_in}
use Rattle.gds_out.specs.Places.{PlaceSet}
use Rattle.gds_join.specs.Reading.{places_in}
use Rattle.gds_join.proofs.Telling.{few_corners, first_holds, read_again, tells_fill}
use Rattle.gds_join.proofs.fill.read_fill_of.Goals as goal

same_bytes : (xs ys : List ℕ) → bytes_eq xs ys ≡ true → xs ≡ ys
same_bytes xs ys h = (bytes_eq-Decides xs ys).0 h

not_same : (xs ys : List ℕ) → not (bytes_eq xs ys) ≡ true → xs ≡ ys → ⊥
not_same xs ys h e = let k : bytes_eq xs ys ≡ true = (bytes_eq-Decides xs ys).1 e in let f : not true ≡ true = sym (ap not k) ∙ h in absurd (let g : false ≡ true = f in cc)

are_same : (b : Bool) → not b ≡ false → b ≡ true
are_same true h = refl
are_same false h = absurd (let e : true ≡ false = h in cc)

on_rules : (f : Filling) (r : Lattice) (i j : ℤ) → f.raster ≡ r → is_filled f i j ≡ true → in_raster r i j ≡ true
on_rules f r i j e h = rw e at (first_holds (in_raster f.raster i j) _ h)

-- what was read is what the library says, or both are nothing
places_are : (some : Bool) (got told filled : PlaceSet) → (some ≡ true → got ≡ told) → (some ≡ false → (i j : ℤ) → got i j ≡ false) → (some ≡ false → (i j : ℤ) → filled i j ≡ false) → told ≡ filled → got ≡ told
places_are true got told filled with_some with_none none is = with_some refl
places_are false got told filled with_some with_none none is = fun_ext (λ i. fun_ext (λ j. with_none refl i j ∙ sym (none refl i j))) ∙ sym is

pub returns-then-not-has_few_references-clause-refused : goal.returns-then-not-has_few_references-clause-refused
returns-then-not-has_few_references-clause-refused c = λ units dates filled is none.
    let few = few_corners c.args.rules.now c.args.bytes.now units dates filled (contents_of c.in_ok-library.library) c.rules_make_a_plan.ensures.raster is c.in_ok-library.ensures.ok in
    absurd (let f : true ≡ false = sym (c.has_few_references.ensures.1 few) ∙ c.if-not-has_few_references.true in cc)

pub returns-then-ne-clause-refused : goal.returns-then-ne-clause-refused
returns-then-ne-clause-refused c = λ units dates filled is none.
    let contents = contents_of c.in_ok-library.library in
    let r = raster_in c.args.rules.now in
    let told = tells_fill c.args.rules.now c.args.bytes.now units dates filled contents is c.in_ok-library.ensures.ok in
    let places : is_filled c.in_ok-filled.filled ≡ places_in r contents =
    places_are c.args.some (is_filled c.in_ok-filled.filled) (places_in r contents) filled c.in_ok-filled.ensures.some c.in_ok-filled.ensures.none none told.places_are in
    let written = c.in_ok-text.ensures.text ∙ ap (fill_text contents.units contents.dates (values_of c.args.rules.now)) places in
    not_same c.as_slice.result.now c.args.bytes.now (sym c.ne.ensures ∙ c.if-ne.true)
    (c.as_slice.ensures.value ∙ (written ∙ sym (read_again c.args.rules.now c.args.bytes.now units dates filled contents is c.in_ok-library.ensures.ok)))

pub returns-clause-fill : goal.returns-clause-fill
returns-clause-fill c =
    let same : c.as_slice.result.now ≡ c.args.bytes.now = same_bytes c.as_slice.result.now c.args.bytes.now (are_same _ (sym c.ne.ensures ∙ c.if-ne.false)) in
    record {
      units_size = c.in_ok-text.ensures.units;
      dates_size = c.in_ok-text.ensures.dates;
      on_raster = λ i j h. on_rules c.in_ok-filled.filled (raster_in c.args.rules.now) i j c.in_ok-filled.ensures.raster h;
      text = sym same ∙ (c.as_slice.ensures.value ∙ c.in_ok-text.ensures.text);
    }
