-- What is answered of a part of a design, from what each step says.
use Rattle.std.proofs.Common.{◌≡◌, inl, inr, ℕ, ℤ, arith, Bool, true, false, ◌&&◌, ◌||◌, List, [], ◌∷◌, ◌++◌, length, refl, sym, ap, subst, ◌∙◌}
use Rattle.std.specs.Prelude.{filter, Option}
use Rattle.std.specs.Global.{Vec}
use Rattle.std.specs.List.{flat_map}
use Rattle.std.specs.Vec.{vec_items}
use Rattle.std.proofs.lemmas.Grind.{flat_map-append}
use Rattle.std.proofs.lemmas.List.Folds.{list_any-append}
use Rattle.fill_base.specs.declared.layer.Layer.{Layer}
use Rattle.fill_base.specs.declared.rect.Rect.{Rect}
use Rattle.fill_base.specs.Squares.{squares}
use Rattle.fill_region.specs.Squares.{covered}
use Rattle.gds_shape.specs.declared.bounds.Bounds.{Bounds}
use Rattle.gds_cells.specs.declared.cell.Cell.{Cell}
use Rattle.gds_cells.specs.declared.error.FlattenError.{FlattenError}
use Rattle.gds_cells.specs.declared.error.FlattenError.TheVariants.{Memory, NoTop, MissingCell, Cycle, TooDeep, BadTransform, BadArray, NotManhattan, RoundEnd, OddWidth, DoublesBack, BadExtension, TooManyShapes, OutOfRange}
use Rattle.gds_cells.specs.Copies.{Copy, drawn, AllStayInRange}
use Rattle.gds_cells.specs.Designs.{Entry, copies_of}
use Rattle.gds_cells.specs.steps.Walks.{top_copies, IsDrawn, IsRefusal}
use Rattle.gds_flatten.specs.declared.found.Found.{Found}
use Rattle.gds_flatten.specs.declared.found.Framed.{Framed}
use Rattle.gds_flatten.specs.Frames.{met}
use Rattle.gds_flatten.specs.Flattening.{IsCountableOn, IsRefused, IsRefusedOn}
use Rattle.gds_flatten.specs.steps.Finding.{IsFound, IsKept, IsRefusalOn, inner, seen}
use Rattle.gds_flatten.specs.steps.Framing.{IsRight, AreHeld, extent_at}
use Rattle.gds_flatten.specs.steps.Idle.{is_full}
use Rattle.gds_flatten.specs.steps.Reached.{AreReached}
use Rattle.gds_flatten.specs.steps.Roots.{roots_copies, AreRooted}
use Rattle.gds_flatten.proofs.Seen.{held_here}
use Rattle.gds_flatten.proofs.Sparse.{full_drawn, full_met, full_stay}

-- what refuses a design before a copy is looked at, refuses a part of it
pub told_on : (entries : List Entry) (top : List ℕ) (layers : List Layer) (e : FlattenError) (frame : Rect) → (e ≡ TooManyShapes → ⊥) → (e ≡ OutOfRange → ⊥)
    → IsRefused entries top layers e → IsRefusedOn entries top layers frame e
told_on entries top layers TooManyShapes frame many far h = absurd (many refl)
told_on entries top layers OutOfRange frame many far h = absurd (far refl)
told_on entries top layers Memory frame many far h = h
told_on entries top layers NoTop frame many far h = h
told_on entries top layers MissingCell frame many far h = h
told_on entries top layers Cycle frame many far h = h
told_on entries top layers TooDeep frame many far h = h
told_on entries top layers BadTransform frame many far h = h
told_on entries top layers BadArray frame many far h = h
told_on entries top layers NotManhattan frame many far h = h
told_on entries top layers RoundEnd frame many far h = h
told_on entries top layers OddWidth frame many far h = h
told_on entries top layers DoublesBack frame many far h = h
told_on entries top layers BadExtension frame many far h = h

-- what a walk within a frame has found from nothing on
pub record IsPartOf (entries : List Entry) (top : List ℕ) (layers : List Layer) (r : Rect) (cells : List Cell) (counts : List ℕ) (found : Found) : Type 0 where
  pub countable : IsCountableOn entries top layers r
  pub rooted : AreRooted cells counts found.roots.items
  pub number : found.inside ≡ length (roots_copies cells found.roots.items)
  pub stay : AllStayInRange (copies_of entries top layers) → AllStayInRange (roots_copies cells found.roots.items)
  pub met : AllStayInRange (copies_of entries top layers) → (x y : ℤ)
      → ((covered found.rects.items x y || drawn (roots_copies cells found.roots.items) x y) && squares r x y) ≡ (drawn (copies_of entries top layers) x y && squares r x y)

module _ (entries : List Entry) (top : List ℕ) (layers : List Layer) (cells : List Cell) (t : ℕ) (reached : AreReached entries top layers cells t)
    (ds : List Cell) (u : ℕ) (fewer : top_copies ds u ≡ filter is_full (top_copies cells t)) where
  pub right_told : (extents : List (Option Bounds)) (o : Option Bounds) → o ≡ extent_at extents u → AreHeld ds extents 256 u → IsRight (filter is_full (copies_of entries top layers)) o
  right_told extents o is held =
      subst (λ cs. IsRight cs o) (fewer ∙ ap (filter is_full) reached.same) (subst (IsRight (top_copies ds u)) (sym is) (held_here ds extents 256 u held))

  module _ (w : Framed) (cells_are : w.cells.now ≡ ds) (cs : List Copy) (cs_are : cs ≡ top_copies w.cells.now u) where
    all_same : cs ≡ filter is_full (copies_of entries top layers)
    all_same = cs_are ∙ ap (λ xs. top_copies xs u) cells_are ∙ fewer ∙ ap (filter is_full) reached.same

    met_same : met w.frame.now cs ≡ met w.frame.now (copies_of entries top layers)
    met_same = ap (met w.frame.now) all_same ∙ full_met w.frame.now (copies_of entries top layers)

    stay_here : AllStayInRange (copies_of entries top layers) → AllStayInRange cs
    stay_here stay = subst AllStayInRange (sym all_same) (full_stay (copies_of entries top layers) stay)

    pub walk_told : (e : FlattenError) (old : Found) → old.copies ≡ 0 → IsRefusalOn w.frame.now cs old e → IsRefusedOn entries top layers w.frame.now e
    walk_told e old none (inl m) = subst (IsRefusedOn entries top layers w.frame.now) (sym m) tt
    walk_told e old none (inr (is, many)) =
        let all = met_same in subst (IsRefusedOn entries top layers w.frame.now) (sym is) (reached.sound, reached.fine, omega (arith, none, many, all))

    module _ (counts : List ℕ) (counts_are : w.counts.now ≡ counts) (old new : Found) (none : old.copies ≡ 0) (no_rects : old.rects.items ≡ []) (no_roots : old.roots.items ≡ []) (nothing : old.inside ≡ 0)
        (found : IsFound w cs old new) where
      rootless : inner w old ≡ []
      rootless = ap (roots_copies w.cells.now) no_roots

      -- what was found, met with the frame, is all that is drawn, met with it
      frame_met : AllStayInRange (copies_of entries top layers) → (x y : ℤ) → (seen w new x y && squares w.frame.now x y) ≡ (drawn (copies_of entries top layers) x y && squares w.frame.now x y)
      frame_met stay x y = cases (squares w.frame.now x y) refl where
        cases : (b : Bool) → squares w.frame.now x y ≡ b → (seen w new x y && b) ≡ (drawn (copies_of entries top layers) x y && b)
        cases true on = ap (λ c. c && true) (found.drawn (stay_here stay) x y on
            ∙ ap (λ rs. (covered rs x y || drawn (inner w old) x y) || drawn cs x y) no_rects ∙ ap (λ ds. drawn ds x y || drawn cs x y) rootless
            ∙ ap (λ ds. drawn ds x y) all_same ∙ full_drawn (copies_of entries top layers) x y)
        cases false on = off (seen w new x y) ∙ sym (off (drawn (copies_of entries top layers) x y)) where
          off : (b : Bool) → (b && false) ≡ false
          off true = refl
          off false = refl

      kept : IsKept w new
      kept = found.kept (record {
        rooted = subst (AreRooted w.cells.now w.counts.now) (sym no_roots) (λ k d lt. absurd (omega (arith, lt)));
        number = nothing ∙ sym (ap length rootless);
      })

      pub found_told : IsPartOf entries top layers w.frame.now ds counts new
      found_told =
          subst (λ ns. IsPartOf entries top layers w.frame.now ds ns new) counts_are (subst (λ xs. IsPartOf entries top layers w.frame.now xs w.counts.now new) cells_are (record {
            countable = record {
              sound = reached.sound;
              fine = reached.fine;
              few = let counted = found.counted in let few = new.few in let all = met_same in omega (arith, none, few, counted, all);
            };
            rooted = kept.rooted;
            number = kept.number;
            stay = λ stay. found.stay (stay_here stay) (subst AllStayInRange (sym rootless) (λ k d lt. absurd (omega (arith, lt))));
            met = frame_met;
          }))

-- what stays in range can't leave it
pub memory_told : (entries : List Entry) (top : List ℕ) (layers : List Layer) (frame : Rect) (cs : List Copy) → AllStayInRange cs → (e : FlattenError) → IsRefusal cs e → IsRefusedOn entries top layers frame e
memory_told entries top layers frame cs stay e (inl m) = subst (IsRefusedOn entries top layers frame) (sym m) tt
memory_told entries top layers frame cs stay e (inr (is, leaves)) = absurd (leaves stay)

-- the rectangles of the roots, and those found beside them
pub parts_seen : (parts : List (Vec Rect)) (rects : Vec Rect) (cs : List Copy) → IsDrawn cs [] (flat_map vec_items parts) → (x y : ℤ)
    → covered (flat_map vec_items (parts ++ rects ∷ [])) x y ≡ (covered rects.items x y || drawn cs x y)
parts_seen parts rects cs h x y =
    ap (λ rs. covered rs x y) (flat_map-append vec_items parts (rects ∷ []) ∙ ap (λ xs. flat_map vec_items parts ++ xs) (nothing_more rects.items))
    ∙ list_any-append (λ r. squares r x y) (flat_map vec_items parts) rects.items ∙ ap (λ b. b || covered rects.items x y) (h.added x y) ∙ turned (drawn cs x y) (covered rects.items x y)
  where
    nothing_more : (xs : List Rect) → xs ++ [] ≡ xs
    nothing_more [] = refl
    nothing_more (r ∷ xs) = ap (λ ys. r ∷ ys) (nothing_more xs)

    turned : (a b : Bool) → (a || b) ≡ (b || a)
    turned a b = grind arith
