-- A library without the shapes of other layers than those that a test keeps.
use Rattle.std.proofs.Common.{◌≡◌, ℕ, zero, suc, ◌+◌, ◌<◌, ◌≤◌, Bool, true, false, cond, List, [], ◌∷◌, length, map, take, refl, sym, ap, subst, arith, ◌∙◌}
use Rattle.std.specs.Prelude.{slice_get, filter, not, Some, None}
use Rattle.std.specs.Str.{bytes_eq}
use Rattle.std.proofs.lemmas.List.{length-map}
use Rattle.fill_base.specs.declared.layer.Layer.{Layer}
use Rattle.fill_base.specs.declared.rect.Rect.{Rect}
use Rattle.gds_grammar.specs.Values.{boundary, path, reference, array, Shape as Element}
use Rattle.gds_grammar.specs.Layers.{is_kept, kept_shapes, kept_cell, has_layer}
use Rattle.gds_cells.specs.declared.error.FlattenError.{FlattenError}
use Rattle.gds_cells.specs.declared.error.FlattenError.TheVariants as errors
use Rattle.gds_cells.specs.Graphs.{Graph, IsReached, IsCyclic, IsTooDeep}
use Rattle.gds_cells.specs.Shapes.{is_shape}
use Rattle.gds_cells.specs.Copies.{Hierarchy, copies, AllStayInRange}
use Rattle.gds_cells.specs.Designs.{Entry, index_of, elements_at, targets, graph_of, singles_among, hierarchy_of, element_fault, AreFine, AllFine, IsFirstFault, copies_of}
use Rattle.gds_flatten.specs.Flattening.{IsSound, IsCountable, IsCountableOn, IsRefused, IsRefusedOn}
use Rattle.gds_flatten.specs.Frames.{met}
use Rattle.gds_flatten.specs.Layers.{AreKept, TellsOf, TellsOfWithin, LayersSuffice, LayersSufficeWithin}

-- the first fault of a cell, by its place
pub record IsAtIn (layers : List Layer) (es : List Element) (e : FlattenError) : Type 0 where
  pub index : ℕ
  pub element : Element
  pub stands : slice_get es index ≡ Some element
  pub faulty : element_fault layers element ≡ Some e
  pub before : AreFine layers (take index es)

module _ (keep : Layer → Bool) where
  abbrev left : List Entry → List Entry
  left cells = map (kept_cell keep) cells

  -- ---- cells, by names and indices

  index_left : (cells : List Entry) (name : List ℕ) → index_of (left cells) name ≡ index_of cells name
  index_left [] name = refl
  index_left (c ∷ cells) name = ap (λ n. cond (not (bytes_eq name c.name)) (1 + n) 0) (index_left cells name)

  many_left : (cells : List Entry) → length (left cells) ≡ length cells
  many_left cells = length-map cells (kept_cell keep)

  elements_left : (cells : List Entry) (c : ℕ) → elements_at (left cells) c ≡ kept_shapes keep (elements_at cells c)
  elements_left [] c = refl
  elements_left (e ∷ cells) zero = refl
  elements_left (e ∷ cells) (suc c) = elements_left cells c

  -- ---- references stay

  module _ (cells : List Entry) where
    targets_left : (es : List Element) → targets (left cells) (kept_shapes keep es) ≡ targets cells es
    targets_left [] = refl
    targets_left (boundary l points ∷ es) = cases (keep l) (targets_left es) where
      cases : (b : Bool) → targets (left cells) (kept_shapes keep es) ≡ targets cells es → targets (left cells) (cond b (boundary l points ∷ kept_shapes keep es) (kept_shapes keep es)) ≡ targets cells es
      cases true rest = rest
      cases false rest = rest
    targets_left (path l wire ∷ es) = cases (keep l) (targets_left es) where
      cases : (b : Bool) → targets (left cells) (kept_shapes keep es) ≡ targets cells es → targets (left cells) (cond b (path l wire ∷ kept_shapes keep es) (kept_shapes keep es)) ≡ targets cells es
      cases true rest = rest
      cases false rest = rest
    targets_left (reference name transform origin ∷ es) = rw (index_left cells name, targets_left es) refl
    targets_left (array name transform columns rows points ∷ es) = rw (index_left cells name, targets_left es) refl

    singles_left : (es : List Element) → singles_among (left cells) (kept_shapes keep es) ≡ singles_among cells es
    singles_left [] = refl
    singles_left (boundary l points ∷ es) = cases (keep l) (singles_left es) where
      cases : (b : Bool) → singles_among (left cells) (kept_shapes keep es) ≡ singles_among cells es → singles_among (left cells) (cond b (boundary l points ∷ kept_shapes keep es) (kept_shapes keep es)) ≡ singles_among cells es
      cases true rest = rest
      cases false rest = rest
    singles_left (path l wire ∷ es) = cases (keep l) (singles_left es) where
      cases : (b : Bool) → singles_among (left cells) (kept_shapes keep es) ≡ singles_among cells es → singles_among (left cells) (cond b (path l wire ∷ kept_shapes keep es) (kept_shapes keep es)) ≡ singles_among cells es
      cases true rest = rest
      cases false rest = rest
    singles_left (reference name transform origin ∷ es) = rw (index_left cells name, singles_left es) refl
    singles_left (array name transform columns rows points ∷ es) = rw (index_left cells name, singles_left es) refl

  rows_left : (all cells : List Entry) → map (λ (e : Entry). targets (left all) e.shapes) (left cells) ≡ map (λ (e : Entry). targets all e.shapes) cells
  rows_left all [] = refl
  rows_left all (c ∷ cells) = rw (targets_left all c.shapes, rows_left all cells) refl

  graph_left : (cells : List Entry) → graph_of (left cells) ≡ graph_of cells
  graph_left cells = rows_left cells cells

  -- ---- shapes of the layers stay

  module _ (layers : List Layer) (wanted : AreKept keep layers) where
    own_left : (es : List Element) → filter (is_shape layers) (kept_shapes keep es) ≡ filter (is_shape layers) es
    own_left [] = refl
    own_left (boundary l points ∷ es) = cases (own_left es) (keep l) refl (has_layer layers l) refl where
      cases : filter (is_shape layers) (kept_shapes keep es) ≡ filter (is_shape layers) es → (b : Bool) → keep l ≡ b → (s : Bool) → has_layer layers l ≡ s
          → filter (is_shape layers) (cond b (boundary l points ∷ kept_shapes keep es) (kept_shapes keep es)) ≡ cond s (boundary l points ∷ filter (is_shape layers) es) (filter (is_shape layers) es)
      cases rest true is s same = rw (same, rest) refl
      cases rest false is false same = rest
      cases rest false is true same = let h = sym is ∙ wanted l same in absurd cc
    own_left (path l wire ∷ es) = cases (own_left es) (keep l) refl (has_layer layers l) refl where
      cases : filter (is_shape layers) (kept_shapes keep es) ≡ filter (is_shape layers) es → (b : Bool) → keep l ≡ b → (s : Bool) → has_layer layers l ≡ s
          → filter (is_shape layers) (cond b (path l wire ∷ kept_shapes keep es) (kept_shapes keep es)) ≡ cond s (path l wire ∷ filter (is_shape layers) es) (filter (is_shape layers) es)
      cases rest true is s same = rw (same, rest) refl
      cases rest false is false same = rest
      cases rest false is true same = let h = sym is ∙ wanted l same in absurd cc
    own_left (reference name transform origin ∷ es) = own_left es
    own_left (array name transform columns rows points ∷ es) = own_left es

    hierarchy_left : (cells : List Entry) → hierarchy_of (left cells) layers ≡ hierarchy_of cells layers
    hierarchy_left cells =
        let own : (c : ℕ) → filter (is_shape layers) (elements_at (left cells) c) ≡ filter (is_shape layers) (elements_at cells c) =
        λ c. ap (filter (is_shape layers)) (elements_left cells c) ∙ own_left (elements_at cells c) in
        let singles : (c : ℕ) → singles_among (left cells) (elements_at (left cells) c) ≡ singles_among cells (elements_at cells c) =
        λ c. ap (singles_among (left cells)) (elements_left cells c) ∙ singles_left cells (elements_at cells c) in
        λ k. record { own = λ c. own c k; singles = λ c. singles c k }

    copies_left : (cells : List Entry) (top : List ℕ) → copies_of (left cells) top layers ≡ copies_of cells top layers
    copies_left cells top =
        ap (λ (h : Hierarchy). copies h 256 (index_of (left cells) top)) (hierarchy_left cells)
        ∙ ap (copies (hierarchy_of cells layers) 256) (index_left cells top)

    -- ---- faults stay: what is left out has none

    abbrev fine : Element → Type 0
    fine e = element_fault layers e ≡ None

    out_is_fine : (e : Element) → is_kept keep e ≡ false → fine e
    out_is_fine (boundary l points) out = cases (has_layer layers l) refl where
      cases : (s : Bool) → has_layer layers l ≡ s → fine (boundary l points)
      cases false same = rw same refl
      cases true same = let h = sym out ∙ wanted l same in absurd cc
    out_is_fine (path l wire) out = cases (has_layer layers l) refl where
      cases : (s : Bool) → has_layer layers l ≡ s → fine (path l wire)
      cases false same = rw same refl
      cases true same = let h = sym out ∙ wanted l same in absurd cc
    out_is_fine (reference name transform origin) out = absurd cc
    out_is_fine (array name transform columns rows points) out = absurd cc

    none_fine : AreFine layers []
    none_fine k d lt = absurd (omega (arith, lt))

    more_fine : (e : Element) (es : List Element) → fine e → AreFine layers es → AreFine layers (e ∷ es)
    more_fine e es h rest zero d lt = h
    more_fine e es h rest (suc k) d lt = rest k d (omega (arith, lt))

    first_fine : (e : Element) (es : List Element) → AreFine layers (e ∷ es) → fine e
    first_fine e es h = h zero e (omega arith)

    rest_fine : (e : Element) (es : List Element) → AreFine layers (e ∷ es) → AreFine layers es
    rest_fine e es h k d lt = h (suc k) d (omega (arith, lt))

    fine_left : (es : List Element) → AreFine layers es → AreFine layers (kept_shapes keep es)
    fine_left [] h = h
    fine_left (e ∷ es) h = cases (is_kept keep e) (fine_left es (rest_fine e es h)) where
      cases : (b : Bool) → AreFine layers (kept_shapes keep es) → AreFine layers (cond b (e ∷ kept_shapes keep es) (kept_shapes keep es))
      cases true rest = more_fine e (kept_shapes keep es) (first_fine e es h) rest
      cases false rest = rest

    left_fine : (es : List Element) → AreFine layers (kept_shapes keep es) → AreFine layers es
    left_fine [] h = h
    left_fine (e ∷ es) h = cases (left_fine es) (is_kept keep e) refl h where
      cases : (AreFine layers (kept_shapes keep es) → AreFine layers es) → (b : Bool) → is_kept keep e ≡ b → AreFine layers (cond b (e ∷ kept_shapes keep es) (kept_shapes keep es)) → AreFine layers (e ∷ es)
      cases rest true is h = more_fine e es (first_fine e (kept_shapes keep es) h) (rest (rest_fine e (kept_shapes keep es) h))
      cases rest false is h = more_fine e es (out_is_fine e is) (rest h)

    next_at : (x : Element) (es : List Element) (e : FlattenError) → fine x → IsAtIn layers es e → IsAtIn layers (x ∷ es) e
    next_at x es e h at = record {
      index = suc at.index;
      element = at.element;
      stands = at.stands;
      faulty = at.faulty;
      before = more_fine x (take at.index es) h at.before;
    }

    at_left : (es : List Element) (e : FlattenError) (k : ℕ) (y : Element) → slice_get es k ≡ Some y → element_fault layers y ≡ Some e → AreFine layers (take k es)
        → IsAtIn layers (kept_shapes keep es) e
    at_left [] e k y stands faulty before = absurd cc
    at_left (x ∷ es) e zero y stands faulty before = cases (is_kept keep x) refl where
      same : x ≡ y
      same = cc

      cases : (b : Bool) → is_kept keep x ≡ b → IsAtIn layers (cond b (x ∷ kept_shapes keep es) (kept_shapes keep es)) e
      cases true is = record { index = zero; element = y; stands = stands; faulty = faulty; before = none_fine }
      cases false is = let h = sym (out_is_fine x is) ∙ ap (element_fault layers) same ∙ faulty in absurd cc
    at_left (x ∷ es) e (suc k) y stands faulty before = cases (is_kept keep x) (at_left es e k y stands faulty (rest_fine x (take k es) before)) where
      cases : (b : Bool) → IsAtIn layers (kept_shapes keep es) e → IsAtIn layers (cond b (x ∷ kept_shapes keep es) (kept_shapes keep es)) e
      cases true later = next_at x (kept_shapes keep es) e (first_fine x (take k es) before) later
      cases false later = later

    left_at : (es : List Element) (e : FlattenError) (k : ℕ) (y : Element) → slice_get (kept_shapes keep es) k ≡ Some y → element_fault layers y ≡ Some e
        → AreFine layers (take k (kept_shapes keep es)) → IsAtIn layers es e
    left_at [] e k y stands faulty before = absurd cc
    left_at (x ∷ es) e k y stands faulty before = cases (λ j at fine_before. left_at es e j y at faulty fine_before) (is_kept keep x) refl k stands before where
      cases : ((j : ℕ) → slice_get (kept_shapes keep es) j ≡ Some y → AreFine layers (take j (kept_shapes keep es)) → IsAtIn layers es e) → (b : Bool) → is_kept keep x ≡ b → (k : ℕ) → slice_get (cond b (x ∷ kept_shapes keep es) (kept_shapes keep es)) k ≡ Some y
          → AreFine layers (take k (cond b (x ∷ kept_shapes keep es) (kept_shapes keep es))) → IsAtIn layers (x ∷ es) e
      cases rest true is zero stands before = record { index = zero; element = y; stands = stands; faulty = faulty; before = none_fine }
      cases rest true is (suc k) stands before =
          next_at x es e (first_fine x (take k (kept_shapes keep es)) before) (rest k stands (rest_fine x (take k (kept_shapes keep es)) before))
      cases rest false is k stands before = next_at x es e (out_is_fine x is) (rest k stands before)

-- ---- what is told of one library is told of another that has the same references, copies and faults

module _ (layers : List Layer) (cells others : List Entry) (top : List ℕ) where
  pub record IsSame : Type 0 where
    pub index : index_of others top ≡ index_of cells top
    pub many : length others ≡ length cells
    pub graph : graph_of others ≡ graph_of cells
    pub copies : copies_of others top layers ≡ copies_of cells top layers
    pub fine : (c : ℕ) → AreFine layers (elements_at others c) → AreFine layers (elements_at cells c)
    pub fault : (c k : ℕ) (y : Element) (e : FlattenError) → slice_get (elements_at others c) k ≡ Some y → element_fault layers y ≡ Some e
        → AreFine layers (take k (elements_at others c)) → IsAtIn layers (elements_at cells c) e

  module _ (same : IsSame) where
    told : (P : Graph → ℕ → ℕ → Type 0) → P (graph_of others) (index_of others top) (length others) → P (graph_of cells) (index_of cells top) (length cells)
    told P h =
        subst (λ n. P (graph_of cells) (index_of cells top) n) same.many
        (subst (λ t. P (graph_of cells) t (length others)) same.index
        (subst (λ g. P g (index_of others top) (length others)) same.graph h))

    sound : IsSound others top → IsSound cells top
    sound s = record {
      has_top = told (λ g t n. t < n) s.has_top;
      complete = told (λ g t n. IsReached g t n → ⊥) s.complete;
      acyclic = told (λ g t n. IsCyclic g t → ⊥) s.acyclic;
      shallow = told (λ g t n. IsTooDeep g t → ⊥) s.shallow;
    }

    all_fine : AllFine others (index_of others top) layers → AllFine cells (index_of cells top) layers
    all_fine h = told (λ g t n. (c : ℕ) → IsReached g t c → AreFine layers (elements_at cells c)) (λ c reached. same.fine c (h c reached))

    first : (e : FlattenError) → IsFirstFault others (index_of others top) layers e → IsFirstFault cells (index_of cells top) layers e
    first e f =
        let at = same.fault f.cell f.index f.element e f.stands f.faulty f.before in
        record {
          cell = f.cell;
          index = at.index;
          element = at.element;
          reached = told (λ g t n. IsReached g t f.cell) f.reached;
          stands = at.stands;
          faulty = at.faulty;
          before = at.before;
          earlier = told (λ g t n. (c : ℕ) → c < f.cell → IsReached g t c → AreFine layers (elements_at cells c)) (λ c lt reached. same.fine c (f.earlier c lt reached));
        }

    countable : IsCountable others top layers → IsCountable cells top layers
    countable h = record { sound = sound h.sound; fine = all_fine h.fine; few = subst (λ cs. length cs ≤ 4000000) same.copies h.few }

    refused : (e : FlattenError) → IsRefused others top layers e → IsRefused cells top layers e
    refused errors.Memory h = tt
    refused errors.NoTop h = told (λ g t n. t < n → ⊥) h
    refused errors.MissingCell h = (told (λ g t n. t < n) h.0, told (λ g t n. IsReached g t n) h.1)
    refused errors.Cycle h = (told (λ g t n. t < n) h.0, told (λ g t n. IsReached g t n → ⊥) h.1, told (λ g t n. IsCyclic g t) h.2)
    refused errors.TooDeep h = (told (λ g t n. t < n) h.0, told (λ g t n. IsReached g t n → ⊥) h.1, told (λ g t n. IsCyclic g t → ⊥) h.2, told (λ g t n. IsTooDeep g t) h.3)
    refused errors.BadTransform h = (sound h.0, first errors.BadTransform h.1)
    refused errors.BadArray h = (sound h.0, first errors.BadArray h.1)
    refused errors.NotManhattan h = (sound h.0, first errors.NotManhattan h.1)
    refused errors.RoundEnd h = (sound h.0, first errors.RoundEnd h.1)
    refused errors.OddWidth h = (sound h.0, first errors.OddWidth h.1)
    refused errors.DoublesBack h = (sound h.0, first errors.DoublesBack h.1)
    refused errors.BadExtension h = (sound h.0, first errors.BadExtension h.1)
    refused errors.TooManyShapes h = (sound h.0, all_fine h.1, subst (λ cs. 4000000 < length cs) same.copies h.2)
    refused errors.OutOfRange h = (countable h.0, subst (λ cs. AllStayInRange cs → ⊥) same.copies h.1)

    pub tells : TellsOf cells others top layers
    tells = record { copies = same.copies; countable = countable; refused = refused }

    module _ (frame : Rect) where
      countable_on : IsCountableOn others top layers frame → IsCountableOn cells top layers frame
      countable_on h = record { sound = sound h.sound; fine = all_fine h.fine; few = subst (λ cs. met frame cs ≤ 4000000) same.copies h.few }

      refused_on : (e : FlattenError) → IsRefusedOn others top layers frame e → IsRefusedOn cells top layers frame e
      refused_on errors.Memory h = refused errors.Memory h
      refused_on errors.NoTop h = refused errors.NoTop h
      refused_on errors.MissingCell h = refused errors.MissingCell h
      refused_on errors.Cycle h = refused errors.Cycle h
      refused_on errors.TooDeep h = refused errors.TooDeep h
      refused_on errors.BadTransform h = refused errors.BadTransform h
      refused_on errors.BadArray h = refused errors.BadArray h
      refused_on errors.NotManhattan h = refused errors.NotManhattan h
      refused_on errors.RoundEnd h = refused errors.RoundEnd h
      refused_on errors.OddWidth h = refused errors.OddWidth h
      refused_on errors.DoublesBack h = refused errors.DoublesBack h
      refused_on errors.BadExtension h = refused errors.BadExtension h
      refused_on errors.TooManyShapes h = (sound h.0, all_fine h.1, subst (λ cs. 4000000 < met frame cs) same.copies h.2)
      refused_on errors.OutOfRange h = (countable_on h.0, subst (λ cs. AllStayInRange cs → ⊥) same.copies h.1)

      pub tells_within : TellsOfWithin cells others top layers frame
      tells_within = record { copies = same.copies; countable = countable_on; refused = refused_on }

-- ---- so do the library and what is left of it

module _ (keep : Layer → Bool) (cells : List Entry) (top : List ℕ) (layers : List Layer) (wanted : AreKept keep layers) where
  left_is_same : IsSame layers cells (left keep cells) top
  left_is_same = record {
    index = index_left keep cells top;
    many = many_left keep cells;
    graph = graph_left keep cells;
    copies = copies_left keep layers wanted cells top;
    fine = λ c h. left_fine keep layers wanted (elements_at cells c) (subst (AreFine layers) (elements_left keep cells c) h);
    fault = λ c k y e stands faulty before.
        let es = elements_left keep cells c in
        left_at keep layers wanted (elements_at cells c) e k y (subst (λ xs. slice_get xs k ≡ Some y) es stands) faulty (subst (λ xs. AreFine layers (take k xs)) es before);
  }

  whole_is_same : IsSame layers (left keep cells) cells top
  whole_is_same = record {
    index = sym (index_left keep cells top);
    many = sym (many_left keep cells);
    graph = sym (graph_left keep cells);
    copies = sym (copies_left keep layers wanted cells top);
    fine = λ c h. subst (AreFine layers) (sym (elements_left keep cells c)) (fine_left keep layers wanted (elements_at cells c) h);
    fault = λ c k y e stands faulty before.
        subst (λ xs. IsAtIn layers xs e) (sym (elements_left keep cells c)) (at_left keep layers wanted (elements_at cells c) e k y stands faulty before);
  }

pub layers_suffice : LayersSuffice
layers_suffice keep cells top layers wanted = (
  tells layers cells (left keep cells) top (left_is_same keep cells top layers wanted),
  tells layers (left keep cells) cells top (whole_is_same keep cells top layers wanted),
)

pub layers_suffice_within : LayersSufficeWithin
layers_suffice_within keep cells top layers frame wanted = tells_within layers cells (left keep cells) top (left_is_same keep cells top layers wanted) frame
