-- What the bytes of a design draw near a rectangle, where there is one, once some of its layers are read.
use Rattle.std.proofs.Common.{◌≡◌, ◌≤◌, ◌^◌, inl, inr, ℕ, ℤ, Bool, length, List, [], ◌∷◌, ◌++◌, true, false, map, Option, Some, None, refl, sym, ap, ap₂, subst, ◌∙◌, ◌&&◌, ◌||◌}
use Rattle.std.proofs.Math.Path.{fun_ext}
use Rattle.std.proofs.lemmas.Grind.{flat_map-append}
use Rattle.std.proofs.lemmas.List.Folds.{list_any-append}
use Rattle.std.specs.List.{flat_map}
use Rattle.std.specs.Global.{Vec}
use Rattle.std.specs.Vec.{vec_items}
use Rattle.fill_base.specs.declared.layer.Layer.{Layer}
use Rattle.fill_base.specs.Squares.{squares}
use Rattle.fill_base.specs.declared.rect.Rect.{Rect}
use Rattle.fill_region.specs.Squares.{covered}
use Rattle.fill_region.proofs.Members.{covered_either}
use Rattle.fill_text.specs.Chips.{with_rows}
use Rattle.fill_text.specs.Rules.{Values, existing_layers, keep_layers, metal_layers}
use Rattle.fill_text.specs.declared.chip.ChipRows.{ChipRows}
use Rattle.fill_job.specs.Plans.{Layers, PointSet}
use Rattle.gds_grammar.specs.Layers.{has_layer, kept_cell, of_layers, same_layer}
use Rattle.gds_grammar.specs.Outcomes.{Spells}
use Rattle.gds_grammar.specs.Values.{Cell, Contents}
use Rattle.gds_cells.specs.Copies.{Copy, drawn, AllStayInRange}
use Rattle.gds_cells.specs.Designs.{copies_of}
use Rattle.gds_cells.specs.declared.error.FlattenError.{FlattenError}
use Rattle.gds_flatten.specs.Layers.{AreKept, LayersSuffice, LayersSufficeWithin}
use Rattle.densfill_engine.specs.Designs.{AreCounted, IsCountable, IsCountableNear, IsCountedNear, IsDesignNear, IsDrawn, IsDrawnNear, IsDrawnOn, IsFewNear, IsOnAny, IsOnAnyNear, IsRanged, IsRead, IsRefusedNear, IsUncounted, IsUndrawn, IsUnflattened, IsUnflattenedFill, IsUnflattenedKeep, size_near, squares_within}
use Rattle.densfill_engine.specs.Scopes.{Size}

-- ---- what is told of the second library is told of the first one

record TellsNear (frame : Option Rect) (cells others : List Cell) (top : List ℕ) (layers : List Layer) : Type 0 where
  copies : copies_of others top layers ≡ copies_of cells top layers
  countable : IsCountableNear frame others top layers → IsCountableNear frame cells top layers
  refused : (e : FlattenError) → IsRefusedNear frame others top layers e → IsRefusedNear frame cells top layers e

tells_near : (frame : Option Rect) (keep : Layer → Bool) (cells : List Cell) (top : List ℕ) (layers : List Layer) → LayersSuffice → LayersSufficeWithin → AreKept keep layers
    → TellsNear frame cells (map (kept_cell keep) cells) top layers
tells_near None keep cells top layers law near among =
    let tells = (law keep cells top layers among).0 in
    record { copies = tells.copies; countable = tells.countable; refused = tells.refused }
tells_near (Some frame) keep cells top layers law near among =
    let tells = near keep cells top layers frame among in
    record { copies = tells.copies; countable = tells.countable; refused = tells.refused }

count_near : (frame : Option Rect) (cells : List Cell) (top : List ℕ) (layers : List Layer) → IsCountableNear frame cells top layers → IsCountable (size_near frame) cells top layers
count_near None cells top layers countable = countable
count_near (Some frame) cells top layers countable = (countable.sound, countable.fine)

-- no square is ranged, and within anything
abbrev none : PointSet
none x y = false

none_ranged : (frame : Option Rect) → IsRanged frame none
none_ranged None = tt
none_ranged (Some frame) = λ x y member. absurd (let f : false ≡ true = member in cc)

none_within : (frame : Option Rect) (x y : ℤ) → squares_within frame none x y ≡ false
none_within None x y = refl
none_within (Some frame) x y = refl

both_within : (frame : Option Rect) (p q : PointSet) (x y : ℤ) → (squares_within frame p x y || squares_within frame q x y) ≡ squares_within frame (λ x y. p x y || q x y) x y
both_within None p q x y = refl
both_within (Some frame) p q x y = apart (p x y) (q x y) (squares frame x y)
  where
    apart : (a b c : Bool) → ((a && c) || (b && c)) ≡ ((a || b) && c)
    apart true b true = refl
    apart true true false = refl
    apart true false false = refl
    apart false b c = refl

-- ---- the bytes spell a library, of which some layers were read, and of these some were drawn

module _ (bytes : List ℕ) (values : Values) (design left : Contents) (read_of : List Layer) (frame : Option Rect) (law : LayersSuffice) (near : LayersSufficeWithin)
    (short : length bytes ≤ 2 ^ 31) (spelled : Spells bytes design) (left_is : left ≡ of_layers read_of design) where
  read : IsRead bytes design
  read = record { short = short; spelled = spelled }

  tells : (layers : List Layer) → AreKept (has_layer read_of) layers → TellsNear frame design.cells left.cells values.top layers
  tells layers among =
      subst (λ (x : Contents). TellsNear frame design.cells x.cells values.top layers) (sym left_is)
      (tells_near frame (has_layer read_of) design.cells values.top layers law near among)

  abbrev all_on : List Layer → PointSet
  all_on layers = drawn (copies_of design.cells values.top layers)

  module _ (layers : List Layer) (among : AreKept (has_layer read_of) layers) (p : PointSet) (on : IsDrawnNear frame left.cells values.top layers p) where
    drawn_on : IsDrawnOn (size_near frame) design.cells values.top layers (all_on layers)
    drawn_on = record {
      countable = count_near frame design.cells values.top layers ((tells layers among).countable on.countable);
      inside = subst AllStayInRange (tells layers among).copies on.inside;
      squares_are = refl;
    }

    squares_on : p ≡ squares_within frame (all_on layers)
    squares_on = fun_ext (λ x. fun_ext (λ y. on.squares_are x y ∙ ap (λ cs. squares_within frame (drawn cs) x y) (tells layers among).copies))

    ranged_on : IsRanged frame (all_on layers)
    ranged_on = subst (λ (cs : List Copy). IsRanged frame (drawn cs)) (tells layers among).copies on.ranged

  -- the metal
  module _ (layers : List Layer) (is : layers ≡ metal_layers values) (among : AreKept (has_layer read_of) layers) where
    pub not_flattened : (e : FlattenError) → IsRefusedNear frame left.cells values.top layers e → IsUnflattened frame bytes values e
    not_flattened e refused = record {
      design = design;
      read = read;
      refused = subst (λ (ls : List Layer). IsRefusedNear frame design.cells values.top ls e) is ((tells layers among).refused e refused);
    }

    module _ (metal : PointSet) (on : IsDrawnNear frame left.cells values.top layers metal) where
      unfoldable whole : IsDrawn (size_near frame) bytes values (all_on layers)
      whole = record {
        design = design;
        read = read;
        drawn = subst (λ (ls : List Layer). IsDrawnOn (size_near frame) design.cells values.top ls (all_on layers)) is (drawn_on layers among metal on);
      }

      -- what is drawn on any layers, which were read
      abbrev all_any : List Layer → PointSet
      all_any [] = none
      all_any (l ∷ more) = all_on (l ∷ more)

      any_whole : (ls : List Layer) (p : PointSet) → AreKept (has_layer read_of) ls → IsOnAnyNear frame left.cells values.top ls p → IsOnAny (size_near frame) design.cells values.top ls (all_any ls)
      any_whole [] p kept on_them = λ x y. refl
      any_whole (l ∷ more) p kept on_them = drawn_on (l ∷ more) kept p on_them

      any_in : (ls : List Layer) (p : PointSet) → AreKept (has_layer read_of) ls → IsOnAnyNear frame left.cells values.top ls p → IsRanged frame (all_any ls)
      any_in [] p kept on_them = none_ranged frame
      any_in (l ∷ more) p kept on_them = ranged_on (l ∷ more) kept p on_them

      any_same : (ls : List Layer) (p : PointSet) → AreKept (has_layer read_of) ls → IsOnAnyNear frame left.cells values.top ls p → p ≡ squares_within frame (all_any ls)
      any_same [] p kept on_them = fun_ext (λ x. fun_ext (λ y. on_them x y ∙ sym (none_within frame x y)))
      any_same (l ∷ more) p kept on_them = squares_on (l ∷ more) kept p on_them

      any_few : (ls : List Layer) (p : PointSet) → AreKept (has_layer read_of) ls → IsOnAnyNear frame left.cells values.top ls p → IsFewNear frame design.cells values.top ls
      any_few [] p kept on_them = tt
      any_few (l ∷ more) p kept on_them = (tells (l ∷ more) kept).countable on_them.countable

      few_metal : IsCountableNear frame design.cells values.top (metal_layers values)
      few_metal = subst (λ (ls : List Layer). IsCountableNear frame design.cells values.top ls) is ((tells layers among).countable on.countable)

      -- and the existing fill
      module _ (fill_on : List Layer) (fill_is : fill_on ≡ existing_layers values) (second : AreKept (has_layer read_of) fill_on) where
        pub fill_not_flattened : (e : FlattenError) → ¬ (fill_on ≡ []) → IsRefusedNear frame left.cells values.top fill_on e → IsUnflattenedFill frame bytes values e
        unfolding whole
        fill_not_flattened e some refused = record {
          metal = all_on layers;
          drawn = whole;
          few = few_metal;
          some = subst (λ (ls : List Layer). ¬ (ls ≡ [])) fill_is some;
          refused = subst (λ (ls : List Layer). IsRefusedNear frame design.cells values.top ls e) fill_is ((tells fill_on second).refused e refused);
        }

        module _ (fill : PointSet) (filled : IsOnAnyNear frame left.cells values.top fill_on fill) where
          unfoldable both_whole : AreCounted (size_near frame) bytes values (all_on layers) (all_any fill_on)
          unfolding whole
          both_whole = record {
            drawn = whole;
            filled = subst (λ (ls : List Layer). IsOnAny (size_near frame) design.cells values.top ls (all_any fill_on)) fill_is (any_whole fill_on fill second filled);
          }

          pub counted_near : (p : PointSet) → p ≡ (λ x y. metal x y || fill x y) → IsCountedNear frame bytes values p
          counted_near p p_is = record {
            metal = all_on layers;
            fill = all_any fill_on;
            counted = both_whole;
            within = p_is ∙ (ap₂ (λ (q r : PointSet). (λ (x y : ℤ). q x y || r x y)) (squares_on layers among metal on) (any_same fill_on fill second filled)
                ∙ fun_ext (λ x. fun_ext (λ y. both_within frame (all_on layers) (all_any fill_on) x y)));
          }

          -- and the keep-outs
          module _ (kept_on : List Layer) (keep_is : kept_on ≡ keep_layers values) (third : AreKept (has_layer read_of) kept_on) where
            pub design_near : (keep : PointSet) (units dates : List ℕ) → units ≡ left.units → dates ≡ left.dates → IsOnAnyNear frame left.cells values.top kept_on keep
                → IsDesignNear frame bytes values (record { metal = metal; fill = fill; keep = keep }) units dates
            unfolding whole both_whole
            design_near keep units dates units_are dates_are kept = record {
              layers = record { metal = all_on layers; fill = all_any fill_on; keep = all_any kept_on };
              whole = record {
                drawn = record {
                  counted = both_whole;
                  kept = subst (λ (ls : List Layer). IsOnAny (size_near frame) design.cells values.top ls (all_any kept_on)) keep_is (any_whole kept_on keep third kept);
                };
                units_are = units_are ∙ ap (λ (x : Contents). x.units) left_is;
                dates_are = dates_are ∙ ap (λ (x : Contents). x.dates) left_is;
              };
              metal_in = ranged_on layers among metal on;
              fill_in = any_in fill_on fill second filled;
              keep_in = any_in kept_on keep third kept;
              within = λ t. record { metal = squares_on layers among metal on t; fill = any_same fill_on fill second filled t; keep = any_same kept_on keep third kept t };
            }

            pub keep_not_flattened : (e : FlattenError) → ¬ (kept_on ≡ []) → IsRefusedNear frame left.cells values.top kept_on e → IsUnflattenedKeep frame bytes values e
            unfolding whole both_whole
            keep_not_flattened e some refused = record {
              metal = all_on layers;
              fill = all_any fill_on;
              counted = both_whole;
              few = few_metal;
              few_filled = subst (λ (ls : List Layer). IsFewNear frame design.cells values.top ls) fill_is (any_few fill_on fill second filled);
              some = subst (λ (ls : List Layer). ¬ (ls ≡ [])) keep_is some;
              refused = subst (λ (ls : List Layer). IsRefusedNear frame design.cells values.top ls e) keep_is ((tells kept_on third).refused e refused);
            }

-- layers are among themselves, and among themselves and others
pub among_themselves : (layers : List Layer) → AreKept (has_layer layers) layers
among_themselves layers l member = member

pub among_first : (layers others read_of : List Layer) → read_of ≡ layers ++ others → AreKept (has_layer read_of) layers
among_first layers others read_of is l member = rw (is, list_any-append (λ m. same_layer m l) layers others, member) refl

pub among_second : (layers others read_of : List Layer) → read_of ≡ layers ++ others → AreKept (has_layer read_of) others
among_second layers others read_of is l member = rw (is, list_any-append (λ m. same_layer m l) layers others) (behind (has_layer layers l) (has_layer others l) member)
  where
    behind : (a b : Bool) → b ≡ true → (a || b) ≡ true
    behind true b h = refl
    behind false b h = h

-- the first two of three
pub among_of_first : (a b c both all : List Layer) → both ≡ a ++ b → all ≡ both ++ c → AreKept (has_layer all) a × AreKept (has_layer all) b
among_of_first a b c both all is is_all = (
  (λ l member. among_first both c all is_all l (among_first a b both is l member)),
  (λ l member. among_first both c all is_all l (among_second a b both is l member)),
)

-- ---- the rows of a chip change neither its top nor its layers

module _ (bytes : List ℕ) (values : Values) (rows : ChipRows) where
  abbrev metal_rows : (size : Size) (p : PointSet) → IsDrawn size bytes (with_rows values rows) p → IsDrawn size bytes values p
  metal_rows size p is = record { design = is.design; read = is.read; drawn = is.drawn }

  abbrev both_rows : (size : Size) (p q : PointSet) → AreCounted size bytes (with_rows values rows) p q → AreCounted size bytes values p q
  both_rows size p q is = record { drawn = metal_rows size p is.drawn; filled = is.filled }

  module _ (frame : Option Rect) where
    pub counted_rows : (p : PointSet) → IsCountedNear frame bytes (with_rows values rows) p → IsCountedNear frame bytes values p
    counted_rows p is = record { metal = is.metal; fill = is.fill; counted = both_rows (size_near frame) is.metal is.fill is.counted; within = is.within }

    pub design_rows : (near : Layers) (units dates : List ℕ) → IsDesignNear frame bytes (with_rows values rows) near units dates → IsDesignNear frame bytes values near units dates
    design_rows near units dates is = record {
      layers = is.layers;
      whole = record {
        drawn = record { counted = both_rows (size_near frame) is.layers.metal is.layers.fill is.whole.drawn.counted; kept = is.whole.drawn.kept };
        units_are = is.whole.units_are;
        dates_are = is.whole.dates_are;
      };
      metal_in = is.metal_in;
      fill_in = is.fill_in;
      keep_in = is.keep_in;
      within = is.within;
    }

    pub uncounted_rows : (e : FlattenError) → IsUncounted frame bytes (with_rows values rows) e → IsUncounted frame bytes values e
    uncounted_rows e (inl metal) = inl (record { design = metal.design; read = metal.read; refused = metal.refused })
    uncounted_rows e (inr fill) = inr (record { metal = fill.metal; drawn = metal_rows (size_near frame) fill.metal fill.drawn; few = fill.few; some = fill.some; refused = fill.refused })

    pub undrawn_rows : (e : FlattenError) → IsUndrawn frame bytes (with_rows values rows) e → IsUndrawn frame bytes values e
    undrawn_rows e (inl counted) = inl (uncounted_rows e counted)
    undrawn_rows e (inr keep) = inr (record {
      metal = keep.metal;
      fill = keep.fill;
      counted = both_rows (size_near frame) keep.metal keep.fill keep.counted;
      few = keep.few;
      few_filled = keep.few_filled;
      some = keep.some;
      refused = keep.refused;
    })

-- ---- lists of rectangles, one behind the other

pub lists_both : (a b all : List (Vec Rect)) → all ≡ a ++ b → covered (flat_map vec_items all) ≡ (λ x y. covered (flat_map vec_items a) x y || covered (flat_map vec_items b) x y)
lists_both a b all is = fun_ext (λ x. fun_ext (λ y.
    ap (λ (ls : List (Vec Rect)). covered (flat_map vec_items ls) x y) is
    ∙ (ap (λ (rs : List Rect). covered rs x y) (flat_map-append vec_items a b) ∙ covered_either (flat_map vec_items a) (flat_map vec_items b) x y)))
