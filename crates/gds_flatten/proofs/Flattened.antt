-- Why a design is refused, and what is answered, from what each step says.
use Rattle.std.proofs.Common.{◌≡◌, ℕ, ◌<◌, ◌≤◌, ◌⊎◌, inl, inr, Bool, true, false, List, [], ◌∷◌, length, refl, sym, ap, subst, arith, ◌∙◌, ℤ}
use Rattle.std.specs.Prelude.{Option, Some, None, if◌then◌else◌, cond}
use Rattle.std.specs.List.{list_any}
use Rattle.std.proofs.lemmas.Grind.{common_steps}
use Rattle.fill_base.specs.declared.layer.Layer.{Layer}
use Rattle.fill_base.specs.declared.rect.Rect.{Rect}
use Rattle.fill_region.specs.Squares.{covered}
use Rattle.gds_grammar.specs.Values.{boundary, path, reference, array, Shape as Element}
use Rattle.gds_cells.specs.Designs.{Entry, copies_of}
use Rattle.gds_shape.specs.declared.error.ShapeError.{ShapeError}
use Rattle.gds_shape.specs.declared.error.ShapeError.TheVariants as shapes
use Rattle.gds_shape.specs.Winding.{edges}
use Rattle.gds_shape.specs.Paths.{is_slanted, is_drawn, corners_of, has_round_end, has_odd_width, doubles_back, has_bad_extension, fault_among, first_of}
use Rattle.gds_cells.specs.declared.cell.Cell.{Cell}
use Rattle.gds_cells.specs.declared.error.FlattenError.{FlattenError}
use Rattle.gds_cells.specs.declared.error.FlattenError.TheVariants.{Memory, NoTop, MissingCell, Cycle, TooDeep, BadTransform, BadArray, NotManhattan, RoundEnd, OddWidth, DoublesBack, BadExtension, TooManyShapes, OutOfRange}
use Rattle.gds_cells.specs.Graphs.{Graph, item, IsReached}
use Rattle.gds_cells.specs.References.{reference_fault, is_bad_transform, is_bad_array}
use Rattle.gds_cells.specs.Shapes.{is_shape, shape_fault, refusal_if}
use Rattle.gds_cells.specs.Copies.{Copy, drawn, AllStayInRange}
use Rattle.gds_cells.specs.Designs.{index_of, graph_of, element_fault, IsFirstFault}
use Rattle.gds_flatten.specs.Flattening.{HasTop, LacksCell, IsSound, IsCountable, IsRefused}
use Rattle.gds_flatten.specs.steps.Reached.{IsArranged, AreReached}
use Rattle.gds_cells.specs.steps.Searches.{State, IsIn}
use Rattle.gds_cells.specs.steps.Surveys.{IsSurveyed, IsUnsound}
use Rattle.gds_cells.specs.steps.Walks.{IsDrawn}
use Rattle.gds_cells.specs.steps.Built.{AreBuilt, IsFaultAmong}
use Rattle.gds_cells.specs.steps.Counting.{IsCapped}
use Rattle.gds_flatten.proofs.Agreeing.{agree, tied, shallow}

-- ---- which refusals are an element's own

is_own : FlattenError → Bool
is_own BadTransform = true
is_own BadArray = true
is_own NotManhattan = true
is_own RoundEnd = true
is_own OddWidth = true
is_own DoublesBack = true
is_own BadExtension = true
is_own _ = false

abbrev IsOwn : Option FlattenError → Type 0
IsOwn (Some e) = is_own e ≡ true
IsOwn None = Unit {0}

own_slant : (b : Bool) → IsOwn (cond b (Some NotManhattan) None)
unfolding is_own
own_slant true = refl
own_slant false = tt

own_path : (a b c d f : Bool) → IsOwn (refusal_if (first_of ((a, shapes.NotManhattan) ∷ (b, shapes.RoundEnd) ∷ (c, shapes.OddWidth) ∷ (d, shapes.DoublesBack) ∷ (f, shapes.BadExtension) ∷ [])))
unfolding is_own
own_path true b c d f = refl
own_path false true c d f = refl
own_path false false true d f = refl
own_path false false false true f = refl
own_path false false false false true = refl
own_path false false false false false = tt

own_reference : (a b : Bool) → IsOwn (if a then Some BadTransform else if b then Some BadArray else None)
unfolding is_own
own_reference true b = refl
own_reference false true = refl
own_reference false false = tt

own_single : (a : Bool) → IsOwn (if a then Some BadTransform else None)
unfolding is_own
own_single true = refl
own_single false = tt

own_drawn : (drawn_it : Bool) (o : Option ShapeError) → IsOwn (refusal_if o) → IsOwn (refusal_if (if drawn_it then o else None))
own_drawn true o h = h
own_drawn false o h = tt

own_shape : (e : Element) → IsOwn (shape_fault e)
own_shape (boundary l points) = own_slant (list_any is_slanted (edges points))
own_shape (path l p) = own_drawn (is_drawn p) (fault_among p (corners_of p))
    (own_path (list_any is_slanted (edges (corners_of p))) (has_round_end p) (has_odd_width p) (doubles_back (corners_of p)) (has_bad_extension p))
own_shape (reference cell transform origin) = tt
own_shape (array cell transform columns rows points) = tt

own_ref : (e : Element) → IsOwn (reference_fault e)
own_ref (boundary l points) = tt
own_ref (path l p) = tt
own_ref (reference cell transform origin) = own_single (is_bad_transform transform)
own_ref (array cell transform columns rows points) = own_reference (is_bad_transform transform) (is_bad_array columns rows points)

own_fault : (layers : List Layer) (e : Element) → IsOwn (element_fault layers e)
own_fault layers e = cases (is_shape layers e) where
  cases : (b : Bool) → IsOwn (if b then shape_fault e else reference_fault e)
  cases true = own_shape e
  cases false = own_ref e

is_the_own : (layers : List Layer) (e : Element) (f : FlattenError) → element_fault layers e ≡ Some f → is_own f ≡ true
is_the_own layers e f is = subst (λ o. IsOwn o) is (own_fault layers e)

-- ---- refusals

module _ (entries : List Entry) (top : List ℕ) (layers : List Layer) where
  refused_own : (e : FlattenError) → is_own e ≡ true → IsSound entries top → IsFirstFault entries (index_of entries top) layers e
      → IsRefused entries top layers e
  unfolding is_own
  refused_own BadTransform own sound fault = (sound, fault)
  refused_own BadArray own sound fault = (sound, fault)
  refused_own NotManhattan own sound fault = (sound, fault)
  refused_own RoundEnd own sound fault = (sound, fault)
  refused_own OddWidth own sound fault = (sound, fault)
  refused_own DoublesBack own sound fault = (sound, fault)
  refused_own BadExtension own sound fault = (sound, fault)
  refused_own Memory own sound fault = tt
  refused_own NoTop own sound fault = absurd cc
  refused_own MissingCell own sound fault = absurd cc
  refused_own Cycle own sound fault = absurd cc
  refused_own TooDeep own sound fault = absurd cc
  refused_own TooManyShapes own sound fault = absurd cc
  refused_own OutOfRange own sound fault = absurd cc

  -- no fault of an element is one of copies
  not_own : (f e : FlattenError) → is_own f ≡ false → is_own e ≡ true → e ≡ f → ⊥
  not_own f e other own is = let same = ap is_own is in let both : true ≡ false = sym own ∙ same ∙ other in cc

  pub long : length (graph_of entries) ≡ length entries
  long = grind (arith, common_steps)

  lacks : IsReached (graph_of entries) (index_of entries top) (length (graph_of entries)) → LacksCell entries top
  lacks reached = subst (λ n. IsReached (graph_of entries) (index_of entries top) n) long reached

  lacked : LacksCell entries top → IsReached (graph_of entries) (index_of entries top) (length (graph_of entries))
  lacked reached = subst (λ n. IsReached (graph_of entries) (index_of entries top) n) (sym long) reached

  pub unsound_refused : HasTop entries top → (e : FlattenError) → IsUnsound (graph_of entries) (index_of entries top) e
      → IsRefused entries top layers e
  unsound_refused has Memory h = tt
  unsound_refused has MissingCell h = (has, lacks h)
  unsound_refused has Cycle h = (has, (λ l. h.0 (lacked l)), h.1)
  unsound_refused has TooDeep h = (has, (λ l. h.0 (lacked l)), h.1, h.2)
  unsound_refused has NoTop h = absurd h
  unsound_refused has BadTransform h = absurd h
  unsound_refused has BadArray h = absurd h
  unsound_refused has NotManhattan h = absurd h
  unsound_refused has RoundEnd h = absurd h
  unsound_refused has OddWidth h = absurd h
  unsound_refused has DoublesBack h = absurd h
  unsound_refused has BadExtension h = absurd h
  unsound_refused has TooManyShapes h = absurd h
  unsound_refused has OutOfRange h = absurd h

  module _ (has : HasTop entries top) (s : State) (surveyed : IsSurveyed (graph_of entries) (index_of entries top) s) where
    pub sound : IsSound entries top
    sound = record {
      has_top = has;
      complete = λ l. surveyed.complete (lacked l);
      acyclic = surveyed.acyclic;
      shallow = surveyed.shallow;
    }

    pub fault_refused : (e : FlattenError) → ((e ≡ Memory) ⊎ IsFaultAmong entries layers s.steps e) → IsRefused entries top layers e
    fault_refused e (inl m) = subst (λ x. IsRefused entries top layers x) (sym m) tt
    fault_refused e (inr among) =
        refused_own e (is_the_own layers among.fault.element e among.fault.faulty) sound (record {
          cell = among.cell;
          index = among.fault.index;
          element = among.fault.element;
          reached = surveyed.marked among.cell among.marked;
          stands = among.fault.stands;
          faulty = among.fault.faulty;
          before = among.fault.before;
          earlier = λ c less reached. among.earlier c less (surveyed.found c reached);
        })

    pub fault_early : (e : FlattenError) → ((e ≡ Memory) ⊎ IsFaultAmong entries layers s.steps e) → (e ≡ TooManyShapes → ⊥) × (e ≡ OutOfRange → ⊥)
    unfolding is_own
    fault_early e (inl m) = ((λ is. let both : Memory ≡ TooManyShapes = sym m ∙ is in cc), (λ is. let both : Memory ≡ OutOfRange = sym m ∙ is in cc))
    fault_early e (inr among) =
        let own = is_the_own layers among.fault.element e among.fault.faulty in (
          (λ is. not_own TooManyShapes e refl own is),
          (λ is. not_own OutOfRange e refl own is),
        )

pub unsound_told : (entries : List Entry) (top : List ℕ) (layers : List Layer) (t : ℕ) (g : Graph) → HasTop entries top → t ≡ index_of entries top
    → g ≡ graph_of entries → (e : FlattenError) → IsUnsound g t e → IsRefused entries top layers e
unsound_told entries top layers t g has at is e h =
    unsound_refused entries top layers has e (subst (λ i. IsUnsound (graph_of entries) i e) at (subst (λ x. IsUnsound x t e) is h))

pub told_surveyed : (entries : List Entry) (top : List ℕ) (t : ℕ) (g : Graph) (s : State) → t ≡ index_of entries top → g ≡ graph_of entries
    → IsSurveyed g t s → IsSurveyed (graph_of entries) (index_of entries top) s
told_surveyed entries top t g s at is h = subst (λ i. IsSurveyed (graph_of entries) i s) at (subst (λ x. IsSurveyed x t s) is h)

-- what was surveyed and built
pub reached_told : (entries : List Entry) (top : List ℕ) (layers : List Layer) (t : ℕ) (s : State) (cells : List Cell) → HasTop entries top → t ≡ index_of entries top → IsSurveyed (graph_of entries) (index_of entries top) s
    → AreBuilt entries layers s.steps (length entries) cells → AreReached entries top layers cells t
reached_told entries top layers t s cells has at surveyed built = subst (AreReached entries top layers cells) (sym at) (record {
  sound = sound entries top layers has s surveyed;
  fine = λ c reached.
      let (q, within, is) = surveyed.all c reached in
      let small : c < length entries = subst (λ n. c < n) (long entries top layers) (subst (λ x. x < length (graph_of entries)) is (surveyed.within q within)) in
      (built.built c small (surveyed.found c reached)).fine;
  same = agree entries layers (index_of entries top) s surveyed cells built 256 (index_of entries top) (0, refl);
})

pub arranged_told : (entries : List Entry) (top : List ℕ) (layers : List Layer) (t : ℕ) (s : State) (cells : List Cell) → t ≡ index_of entries top → IsSurveyed (graph_of entries) (index_of entries top) s
    → AreBuilt entries layers s.steps (length entries) cells → IsArranged cells s.order t
arranged_told entries top layers t s cells at surveyed built = record {
  graph = graph_of entries;
  ordered = surveyed.ordered;
  tied = tied entries layers (index_of entries top) s surveyed cells built;
  shallow = λ q within. shallow entries layers (index_of entries top) s surveyed cells built (item s.order q) (surveyed.order q within);
  here = subst (IsIn s.order) (sym at) (surveyed.all (index_of entries top) (0, refl));
}

pub countable_told : (entries : List Entry) (top : List ℕ) (layers : List Layer) (t : ℕ) (cells : List Cell) (cs : List Copy) (n : ℕ) → AreReached entries top layers cells t → n ≡ length cs → cs ≡ copies_of entries top layers → n ≤ 4000000
    → IsCountable entries top layers
countable_told entries top layers t cells cs n reached all same few = record { sound = reached.sound; fine = reached.fine; few = subst (λ k. k ≤ 4000000) (all ∙ ap length same) few }

pub many_told : (entries : List Entry) (top : List ℕ) (layers : List Layer) (t : ℕ) (cells : List Cell) (cs : List Copy) → AreReached entries top layers cells t → cs ≡ copies_of entries top layers
    → (e : FlattenError) → ((e ≡ Memory) ⊎ ((e ≡ TooManyShapes) × (4000000 < length cs))) → IsRefused entries top layers e
many_told entries top layers t cells cs reached same e (inl m) = subst (IsRefused entries top layers) (sym m) tt
many_told entries top layers t cells cs reached same e (inr (is, many)) = subst (IsRefused entries top layers) (sym is) (reached.sound, reached.fine, subst (λ ds. 4000000 < length ds) same many)

-- ---- counts of the top

pub many_copies : (n count number : ℕ) → IsCapped n count → number ≡ count → 4000001 ≤ number → 4000000 < n
many_copies n count number capped is many = cases capped.exact where
  cases : ((count ≡ n) ⊎ ((count ≡ 4000001) × (4000001 ≤ n))) → 4000000 < n
  cases (inl e) = omega (arith, is, many, e)
  cases (inr (full, large)) = omega (arith, large)

pub few_copies : (n count number : ℕ) → IsCapped n count → number ≡ count → number < 4000001 → number ≡ n
few_copies n count number capped is few = cases capped.exact where
  cases : ((count ≡ n) ⊎ ((count ≡ 4000001) × (4000001 ≤ n))) → number ≡ n
  cases (inl e) = is ∙ e
  cases (inr (full, large)) = absurd (omega (arith, is, few, full))

-- ---- what is carried

module _ (entries : List Entry) (top : List ℕ) (layers : List Layer) (cs : List Copy) (same : cs ≡ copies_of entries top layers) where
  pub all_inside : (rects : List Rect) → IsDrawn cs [] rects → AllStayInRange (copies_of entries top layers)
  all_inside rects h = subst AllStayInRange same h.inside

  pub all_drawn : (rects : List Rect) → IsDrawn cs [] rects → (x y : ℤ) → covered rects x y ≡ drawn (copies_of entries top layers) x y
  all_drawn rects h x y = h.added x y ∙ ap (λ ds. drawn ds x y) same

  pub range_refused : IsCountable entries top layers → (e : FlattenError) → ((e ≡ Memory) ⊎ ((e ≡ OutOfRange) × (AllStayInRange cs → ⊥)))
      → IsRefused entries top layers e
  range_refused countable e (inl m) = subst (λ x. IsRefused entries top layers x) (sym m) tt
  range_refused countable e (inr (is, leaves)) = subst (λ x. IsRefused entries top layers x) (sym is)
      (countable, (λ stay. leaves (subst AllStayInRange (sym same) stay)))
