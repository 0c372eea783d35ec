-- What the machine takes is in the grammar. From a state on, the records that are left are the rest
-- of a library: each kind of state has a record that says so, and one record in front of the rest
-- leads from one to the next.
use Rattle.std.proofs.Common.{◌≡◌, ℕ, Bool, true, false, cond, eqb, List, [], ◌∷◌, ◌++◌, map, refl, sym, ap, subst, ◌∙◌, append_assoc, inl, inr}
use Rattle.std.specs.Prelude.{Option, Some, None}
use Rattle.std.specs.List.{flat_map, AllByRecursion}
use Rattle.std.proofs.lemmas.Bool.{eqb-true}
use Rattle.std.proofs.lemmas.List.{append-nil, map_push}
use Rattle.gds_record.specs.declared.kind.TheConstants as kinds
use Rattle.gds_record.specs.Records.{Rec, IsRecord}
use Rattle.gds_record.specs.Numbers.{trimmed}
use Rattle.gds_grammar.specs.declared.element.ElementKind.{ElementKind}
use Rattle.gds_grammar.specs.declared.error.Refusal.TheVariants.{Unexpected, BadXY, NotClosed, DuplicateCell}
use Rattle.gds_grammar.specs.Forms.{among}
use Rattle.gds_grammar.specs.Values.{Shape, Contents}
use Rattle.gds_grammar.specs.Elements.{opening, may_stand, kinds_in, is_whole, has_string, shapes_in}
use Rattle.gds_grammar.specs.Grammar.{Rules, ElementPart, property_records, element_records, MayStand, AreStrings, IsProperty, IsElement, element_shapes, CellPart, cell_records, AtMostOne, cell_value, AreCells, library_kinds, IsLibraryPart, AreWell, IsLibrary}
use Rattle.gds_grammar.specs.Machine.{State, Start, Headed, Dated, Titled, Between, Opened, Named, Within, Body, Unlettered, Tail, Paired, Done, fine, refuse, expect, with_cell, behind_xy, opened, within, at_xy, next_state, run}
use Rattle.gds_grammar.proofs.Runs.{fine_is, not_fine, chosen, only_true, only_false, expect_ok, bind_ok, moves, run_is_moves, run_well}
use Rattle.gds_grammar.proofs.Along.{library_leads}

module _ (ρ : Rules) where
  record DoneLeft (l : Contents) (xs : List Rec) (v : Contents) : Type 0 where
    none : xs ≡ []
    is : v ≡ l

  record BetweenLeft (l : Contents) (xs : List Rec) (v : Contents) : Type 0 where
    cells : List CellPart
    stop : Rec
    parts : xs ≡ flat_map cell_records cells ++ stop ∷ []
    each : AreCells ρ l.cells cells
    stops : stop.kind ≡ kinds.ENDLIB
    is : v ≡ record { dates = l.dates; units = l.units; cells = l.cells ++ map cell_value cells }

  record WithinLeft (l : Contents) (n : List ℕ) (sh : List Shape) (xs : List Rec) (v : Contents) : Type 0 where
    elements : List ElementPart
    stop : Rec
    rest : List Rec
    parts : xs ≡ flat_map element_records elements ++ stop ∷ rest
    each : AllByRecursion (IsElement ρ) elements
    stops : stop.kind ≡ kinds.ENDSTR
    left : BetweenLeft (with_cell l n (sh ++ flat_map element_shapes elements)) rest v

  record NamedLeft (l : Contents) (n : List ℕ) (xs : List Rec) (v : Contents) : Type 0 where
    class : List Rec
    rest : List Rec
    parts : xs ≡ class ++ rest
    one : AtMostOne kinds.STRCLASS class
    left : WithinLeft l n [] rest v

  record OpenedLeft (l : Contents) (xs : List Rec) (v : Contents) : Type 0 where
    name : Rec
    rest : List Rec
    parts : xs ≡ name ∷ rest
    kind : name.kind ≡ kinds.STRNAME
    fresh : ρ.taken l.cells (trimmed name.body) ≡ false
    left : NamedLeft l (trimmed name.body) rest v

  record TailLeft (l : Contents) (n : List ℕ) (sh : List Shape) (xs : List Rec) (v : Contents) : Type 0 where
    properties : List (Rec × Rec)
    stop : Rec
    rest : List Rec
    parts : xs ≡ flat_map property_records properties ++ stop ∷ rest
    each : AllByRecursion IsProperty properties
    stops : stop.kind ≡ kinds.ENDEL
    left : WithinLeft l n sh rest v

  record PairedLeft (l : Contents) (n : List ℕ) (sh : List Shape) (xs : List Rec) (v : Contents) : Type 0 where
    value : Rec
    rest : List Rec
    parts : xs ≡ value ∷ rest
    kind : value.kind ≡ kinds.PROPVALUE
    left : TailLeft l n sh rest v

  record UnletteredLeft (l : Contents) (n : List ℕ) (sh : List Shape) (xs : List Rec) (v : Contents) : Type 0 where
    string : Rec
    rest : List Rec
    parts : xs ≡ string ∷ rest
    kind : string.kind ≡ kinds.STRING
    left : TailLeft l n sh rest v

  record BehindLeft (b : Bool) (l : Contents) (n : List ℕ) (sh : List Shape) (xs : List Rec) (v : Contents) : Type 0 where
    strings : List Rec
    rest : List Rec
    parts : xs ≡ strings ++ rest
    are : AreStrings b strings
    left : TailLeft l n sh rest v

  record BodyLeft (l : Contents) (n : List ℕ) (sh : List Shape) (o : ElementKind) (before : List Rec) (xs : List Rec) (v : Contents) : Type 0 where
    more : List Rec
    xy : Rec
    rest : List Rec
    parts : xs ≡ more ++ xy ∷ rest
    stand : MayStand o (kinds_in before) more
    whole : is_whole o (kinds_in (before ++ more)) ≡ true
    kind : xy.kind ≡ kinds.XY
    points : ρ.points o xy.body ≡ true
    closed : ρ.closed o xy.body ≡ true
    left : BehindLeft (has_string o) l n (sh ++ shapes_in o (before ++ more) xy.body) rest v

  record TitledLeft (dates : List ℕ) (xs : List Rec) (v : Contents) : Type 0 where
    after : List Rec
    units : Rec
    rest : List Rec
    parts : xs ≡ after ++ units ∷ rest
    each : AllByRecursion IsLibraryPart after
    kind : units.kind ≡ kinds.UNITS
    left : BetweenLeft (record { dates = dates; units = units.body; cells = [] }) rest v

  record DatedLeft (dates : List ℕ) (xs : List Rec) (v : Contents) : Type 0 where
    before : List Rec
    name : Rec
    rest : List Rec
    parts : xs ≡ before ++ name ∷ rest
    each : AllByRecursion IsLibraryPart before
    kind : name.kind ≡ kinds.LIBNAME
    left : TitledLeft dates rest v

  record HeadedLeft (xs : List Rec) (v : Contents) : Type 0 where
    start : Rec
    rest : List Rec
    parts : xs ≡ start ∷ rest
    kind : start.kind ≡ kinds.BGNLIB
    left : DatedLeft start.body rest v

  record StartLeft (xs : List Rec) (v : Contents) : Type 0 where
    header : Rec
    rest : List Rec
    parts : xs ≡ header ∷ rest
    kind : header.kind ≡ kinds.HEADER
    left : HeadedLeft rest v

  abbrev Left : State → List Rec → Contents → Type 0
  Left Start xs v = StartLeft xs v
  Left Headed xs v = HeadedLeft xs v
  Left (Dated dates) xs v = DatedLeft dates xs v
  Left (Titled dates) xs v = TitledLeft dates xs v
  Left (Between l) xs v = BetweenLeft l xs v
  Left (Opened l) xs v = OpenedLeft l xs v
  Left (Named l n) xs v = NamedLeft l n xs v
  Left (Within l n sh) xs v = WithinLeft l n sh xs v
  Left (Body l n sh o before) xs v = BodyLeft l n sh o before xs v
  Left (Unlettered l n sh) xs v = UnletteredLeft l n sh xs v
  Left (Tail l n sh) xs v = TailLeft l n sh xs v
  Left (Paired l n sh) xs v = PairedLeft l n sh xs v
  Left (Done l) xs v = DoneLeft l xs v

  at : (s t : State) (xs : List Rec) (v : Contents) → s ≡ t → Left t xs v → Left s xs v
  at s t xs v e h = subst (λ u. Left u xs v) (sym e) h

  -- ---- one record in front of the rest

  front_dated : (dates : List ℕ) (r : Rec) (t : State) (xs : List Rec) (v : Contents) → next_state ρ (Dated dates) r ≡ fine t → Left t xs v → DatedLeft dates (r ∷ xs) v
  unfolding next_state
  front_dated dates r t xs v e h =
      elim (chosen (eqb r.kind kinds.LIBNAME) (fine (Titled dates)) (cond (among library_kinds r.kind) (fine (Dated dates)) (refuse Unexpected)) (fine t) e) [
        | inl p ↦
            let left : TitledLeft dates xs v = at (Titled dates) t xs v (fine_is _ _ p.1) h in
            record { before = []; name = r; rest = xs; parts = refl; each = tt; kind = eqb-true r.kind kinds.LIBNAME p.0; left = left }
        | inr p ↦
            let q = only_true (among library_kinds r.kind) (fine (Dated dates)) Unexpected t p.1 in
            let d : DatedLeft dates xs v = at (Dated dates) t xs v (fine_is _ _ q.1) h in
            record { before = r ∷ d.before; name = d.name; rest = d.rest; parts = ap (λ ys. r ∷ ys) d.parts; each = (q.0, d.each); kind = d.kind; left = d.left }
      ]

  front_titled : (dates : List ℕ) (r : Rec) (t : State) (xs : List Rec) (v : Contents) → next_state ρ (Titled dates) r ≡ fine t → Left t xs v → TitledLeft dates (r ∷ xs) v
  unfolding next_state
  front_titled dates r t xs v e h =
      let next : State = Between (record { dates = dates; units = r.body; cells = [] }) in
      elim (chosen (among library_kinds r.kind) (fine (Titled dates)) (expect kinds.UNITS r next) (fine t) e) [
        | inl p ↦
            let d : TitledLeft dates xs v = at (Titled dates) t xs v (fine_is _ _ p.1) h in
            record { after = r ∷ d.after; units = d.units; rest = d.rest; parts = ap (λ ys. r ∷ ys) d.parts; each = (p.0, d.each); kind = d.kind; left = d.left }
        | inr p ↦
            let q = expect_ok kinds.UNITS r next t p.1 in
            let d : BetweenLeft (record { dates = dates; units = r.body; cells = [] }) xs v = at next t xs v q.1 h in
            record { after = []; units = r; rest = xs; parts = refl; each = tt; kind = q.0; left = d }
      ]

  front_between : (l : Contents) (r : Rec) (t : State) (xs : List Rec) (v : Contents) → next_state ρ (Between l) r ≡ fine t → Left t xs v → BetweenLeft l (r ∷ xs) v
  unfolding next_state
  front_between l r t xs v e h =
      elim (chosen (eqb r.kind kinds.BGNSTR) (fine (Opened l)) (expect kinds.ENDLIB r (Done l)) (fine t) e) [
        | inl p ↦
            let o : OpenedLeft l xs v = at (Opened l) t xs v (fine_is _ _ p.1) h in
            let n = o.left in
            let w = n.left in
            let b = w.left in
            let c : CellPart = record { start = r; name = o.name; class = n.class; elements = w.elements; stop = w.stop } in
            let shapes = flat_map element_shapes w.elements in
            let whole : xs ≡ o.name ∷ (n.class ++ (flat_map element_records w.elements ++ w.stop ∷ (flat_map cell_records b.cells ++ b.stop ∷ []))) =
            o.parts ∙ ap (λ ys. o.name ∷ ys) (n.parts ∙ ap (λ ys. n.class ++ ys) (w.parts ∙ ap (λ ys. flat_map element_records w.elements ++ w.stop ∷ ys) b.parts)) in
            let tail : List Rec = flat_map cell_records b.cells ++ b.stop ∷ [] in
            let inside : List Rec = flat_map element_records w.elements ++ w.stop ∷ [] in
            let grouped : n.class ++ (flat_map element_records w.elements ++ w.stop ∷ tail) ≡ (n.class ++ inside) ++ tail =
            ap (λ ys. n.class ++ ys) (sym (append_assoc (flat_map element_records w.elements) (w.stop ∷ []) tail)) ∙ sym (append_assoc n.class inside tail) in
            let regrouped : cell_records c ++ tail ≡ (cell_records c ++ flat_map cell_records b.cells) ++ b.stop ∷ [] = sym (append_assoc (cell_records c) (flat_map cell_records b.cells) (b.stop ∷ [])) in
            record {
              cells = c ∷ b.cells;
              stop = b.stop;
              parts = ap (λ ys. r ∷ ys) (whole ∙ ap (λ ys. o.name ∷ ys) grouped) ∙ regrouped;
              each = (record { start = eqb-true r.kind kinds.BGNSTR p.0; name = o.kind; class = n.one; elements = w.each; stop = w.stops }, o.fresh, b.each);
              stops = b.stops;
              is = b.is ∙ ap (λ cells. record { dates = l.dates; units = l.units; cells = cells }) (append_assoc l.cells (cell_value c ∷ []) (map cell_value b.cells));
            }
        | inr p ↦
            let q = expect_ok kinds.ENDLIB r (Done l) t p.1 in
            let d : DoneLeft l xs v = at (Done l) t xs v q.1 h in
            record {
              cells = [];
              stop = r;
              parts = ap (λ ys. r ∷ ys) d.none;
              each = tt;
              stops = q.0;
              is = d.is ∙ ap (λ cells. record { dates = l.dates; units = l.units; cells = cells }) (sym (append-nil l.cells));
            }
      ]

  front_opened : (l : Contents) (r : Rec) (t : State) (xs : List Rec) (v : Contents) → next_state ρ (Opened l) r ≡ fine t → Left t xs v → OpenedLeft l (r ∷ xs) v
  unfolding next_state
  front_opened l r t xs v e h =
      let p = only_true (eqb r.kind kinds.STRNAME) (cond (ρ.taken l.cells (trimmed r.body)) (refuse DuplicateCell) (fine (Named l (trimmed r.body)))) Unexpected t e in
      let q = only_false (ρ.taken l.cells (trimmed r.body)) (fine (Named l (trimmed r.body))) DuplicateCell t p.1 in
      let d : NamedLeft l (trimmed r.body) xs v = at (Named l (trimmed r.body)) t xs v (fine_is _ _ q.1) h in
      record { name = r; rest = xs; parts = refl; kind = eqb-true r.kind kinds.STRNAME p.0; fresh = q.0; left = d }

  front_opening : (l : Contents) (n : List ℕ) (sh : List Shape) (o : Option ElementKind) (r : Rec) (t : State) (xs : List Rec) (v : Contents) → opening r.kind ≡ o → opened l n sh r o ≡ fine t → Left t xs v → WithinLeft l n sh (r ∷ xs) v
  front_opening l n sh (Some o) r t xs v is e h =
      let b : BodyLeft l n sh o [] xs v = at (Body l n sh o []) t xs v (fine_is _ _ e) h in
      let s = b.left in
      let k = s.left in
      let w = k.left in
      let part : ElementPart = record { element = o; start = r; before = b.more; xy = b.xy; strings = s.strings; properties = k.properties; stop = k.stop } in
      let tail : List Rec = flat_map element_records w.elements ++ w.stop ∷ w.rest in
      let end : List Rec = flat_map property_records k.properties ++ k.stop ∷ [] in
      let e1 : k.rest ≡ tail = w.parts in
      let e2 : s.rest ≡ end ++ tail = k.parts ∙ ap (λ ys. flat_map property_records k.properties ++ k.stop ∷ ys) e1 ∙ sym (append_assoc (flat_map property_records k.properties) (k.stop ∷ []) tail) in
      let e3 : b.rest ≡ (s.strings ++ end) ++ tail = s.parts ∙ ap (λ ys. s.strings ++ ys) e2 ∙ sym (append_assoc s.strings end tail) in
      let e4 : xs ≡ (b.more ++ b.xy ∷ (s.strings ++ end)) ++ tail = b.parts ∙ ap (λ ys. b.more ++ b.xy ∷ ys) e3 ∙ sym (append_assoc b.more (b.xy ∷ (s.strings ++ end)) tail) in
      record {
        elements = part ∷ w.elements;
        stop = w.stop;
        rest = w.rest;
        parts = ap (λ ys. r ∷ ys) e4 ∙ sym (append_assoc (element_records part) (flat_map element_records w.elements) (w.stop ∷ w.rest));
        each = (record { opens = is; stand = b.stand; whole = b.whole; xy = b.kind; points = b.points; closed = b.closed; strings = s.are; properties = k.each; stop = k.stops }, w.each);
        stops = w.stops;
        left = subst (λ shapes. BetweenLeft (with_cell l n shapes) w.rest v) (append_assoc sh (element_shapes part) (flat_map element_shapes w.elements)) w.left;
      }
  front_opening l n sh None r t xs v is e h =
      let q = expect_ok kinds.ENDSTR r (Between (with_cell l n sh)) t e in
      let d : BetweenLeft (with_cell l n sh) xs v = at (Between (with_cell l n sh)) t xs v q.1 h in
      record {
        elements = [];
        stop = r;
        rest = xs;
        parts = refl;
        each = tt;
        stops = q.0;
        left = subst (λ shapes. BetweenLeft (with_cell l n shapes) xs v) (sym (append-nil sh)) d;
      }

  front_within : (l : Contents) (n : List ℕ) (sh : List Shape) (r : Rec) (t : State) (xs : List Rec) (v : Contents) → next_state ρ (Within l n sh) r ≡ fine t → Left t xs v → WithinLeft l n sh (r ∷ xs) v
  unfolding next_state
  front_within l n sh r t xs v e h = front_opening l n sh (opening r.kind) r t xs v refl e h

  front_named : (l : Contents) (n : List ℕ) (r : Rec) (t : State) (xs : List Rec) (v : Contents) → next_state ρ (Named l n) r ≡ fine t → Left t xs v → NamedLeft l n (r ∷ xs) v
  unfolding next_state
  front_named l n r t xs v e h =
      elim (chosen (eqb r.kind kinds.STRCLASS) (fine (Within l n [])) (within l n [] r) (fine t) e) [
        | inl p ↦
            let w : WithinLeft l n [] xs v = at (Within l n []) t xs v (fine_is _ _ p.1) h in
            record { class = r ∷ []; rest = xs; parts = refl; one = eqb-true r.kind kinds.STRCLASS p.0; left = w }
        | inr p ↦ record { class = []; rest = r ∷ xs; parts = refl; one = tt; left = front_opening l n [] (opening r.kind) r t xs v refl p.1 h }
      ]

  behind : (b : Bool) (l : Contents) (n : List ℕ) (sh : List Shape) (xs : List Rec) (v : Contents) → Left (behind_xy b l n sh) xs v → BehindLeft b l n sh xs v
  behind true l n sh xs v h = record { strings = h.string ∷ []; rest = h.rest; parts = h.parts; are = h.kind; left = h.left }
  behind false l n sh xs v h = record { strings = []; rest = xs; parts = refl; are = tt; left = h }

  front_body : (l : Contents) (n : List ℕ) (sh : List Shape) (o : ElementKind) (before : List Rec) (r : Rec) (t : State) (xs : List Rec) (v : Contents) → next_state ρ (Body l n sh o before) r ≡ fine t → Left t xs v → BodyLeft l n sh o before (r ∷ xs) v
  unfolding next_state
  front_body l n sh o before r t xs v e h =
      let next : State = behind_xy (has_string o) l n (sh ++ shapes_in o before r.body) in
      let more : State = Body l n sh o (before ++ r ∷ []) in
      elim (chosen (eqb r.kind kinds.XY) (at_xy ρ l n sh o before r.body) (cond (may_stand o (kinds_in before) r.kind) (fine more) (refuse Unexpected)) (fine t) e) [
        | inl p ↦
            let q = only_true (is_whole o (kinds_in before)) _ Unexpected t p.1 in
            let k = only_true (ρ.points o r.body) _ BadXY t q.1 in
            let m = only_true (ρ.closed o r.body) (fine next) NotClosed t k.1 in
            let d : Left next xs v = at next t xs v (fine_is _ _ m.1) h in
            let same : before ++ [] ≡ before = append-nil before in
            record {
              more = [];
              xy = r;
              rest = xs;
              parts = refl;
              stand = tt;
              whole = ap (λ b. is_whole o (kinds_in b)) same ∙ q.0;
              kind = eqb-true r.kind kinds.XY p.0;
              points = k.0;
              closed = m.0;
              left = subst (λ b. BehindLeft (has_string o) l n (sh ++ shapes_in o b r.body) xs v) (sym same) (behind (has_string o) l n (sh ++ shapes_in o before r.body) xs v d);
            }
        | inr p ↦
            let q = only_true (may_stand o (kinds_in before) r.kind) (fine more) Unexpected t p.1 in
            let d : BodyLeft l n sh o (before ++ r ∷ []) xs v = at more t xs v (fine_is _ _ q.1) h in
            let kinds_are : kinds_in (before ++ r ∷ []) ≡ kinds_in before ++ r.kind ∷ [] = map_push (λ r. r.kind) before r in
            let grouped : (before ++ r ∷ []) ++ d.more ≡ before ++ r ∷ d.more = append_assoc before (r ∷ []) d.more in
            record {
              more = r ∷ d.more;
              xy = d.xy;
              rest = d.rest;
              parts = ap (λ ys. r ∷ ys) d.parts;
              stand = (q.0, subst (λ ks. MayStand o ks d.more) kinds_are d.stand);
              whole = ap (λ b. is_whole o (kinds_in b)) (sym grouped) ∙ d.whole;
              kind = d.kind;
              points = d.points;
              closed = d.closed;
              left = subst (λ b. BehindLeft (has_string o) l n (sh ++ shapes_in o b d.xy.body) d.rest v) grouped d.left;
            }
      ]

  front_tail : (l : Contents) (n : List ℕ) (sh : List Shape) (r : Rec) (t : State) (xs : List Rec) (v : Contents) → next_state ρ (Tail l n sh) r ≡ fine t → Left t xs v → TailLeft l n sh (r ∷ xs) v
  unfolding next_state
  front_tail l n sh r t xs v e h =
      elim (chosen (eqb r.kind kinds.PROPATTR) (fine (Paired l n sh)) (expect kinds.ENDEL r (Within l n sh)) (fine t) e) [
        | inl p ↦
            let d : PairedLeft l n sh xs v = at (Paired l n sh) t xs v (fine_is _ _ p.1) h in
            let k = d.left in
            record {
              properties = (r, d.value) ∷ k.properties;
              stop = k.stop;
              rest = k.rest;
              parts = ap (λ ys. r ∷ ys) (d.parts ∙ ap (λ ys. d.value ∷ ys) k.parts);
              each = ((eqb-true r.kind kinds.PROPATTR p.0, d.kind), k.each);
              stops = k.stops;
              left = k.left;
            }
        | inr p ↦
            let q = expect_ok kinds.ENDEL r (Within l n sh) t p.1 in
            record { properties = []; stop = r; rest = xs; parts = refl; each = tt; stops = q.0; left = at (Within l n sh) t xs v q.1 h }
      ]

  in_front : (s : State) (r : Rec) (t : State) (xs : List Rec) (v : Contents) → next_state ρ s r ≡ fine t → Left t xs v → Left s (r ∷ xs) v
  unfolding next_state
  in_front Start r t xs v e h = let q = expect_ok kinds.HEADER r Headed t e in record { header = r; rest = xs; parts = refl; kind = q.0; left = at Headed t xs v q.1 h }
  in_front Headed r t xs v e h = let q = expect_ok kinds.BGNLIB r (Dated r.body) t e in record { start = r; rest = xs; parts = refl; kind = q.0; left = at (Dated r.body) t xs v q.1 h }
  in_front (Dated dates) r t xs v e h = front_dated dates r t xs v e h
  in_front (Titled dates) r t xs v e h = front_titled dates r t xs v e h
  in_front (Between l) r t xs v e h = front_between l r t xs v e h
  in_front (Opened l) r t xs v e h = front_opened l r t xs v e h
  in_front (Named l n) r t xs v e h = front_named l n r t xs v e h
  in_front (Within l n sh) r t xs v e h = front_within l n sh r t xs v e h
  in_front (Body l n sh o before) r t xs v e h = front_body l n sh o before r t xs v e h
  in_front (Unlettered l n sh) r t xs v e h = let q = expect_ok kinds.STRING r (Tail l n sh) t e in record { string = r; rest = xs; parts = refl; kind = q.0; left = at (Tail l n sh) t xs v q.1 h }
  in_front (Tail l n sh) r t xs v e h = front_tail l n sh r t xs v e h
  in_front (Paired l n sh) r t xs v e h = let q = expect_ok kinds.PROPVALUE r (Tail l n sh) t e in record { value = r; rest = xs; parts = refl; kind = q.0; left = at (Tail l n sh) t xs v q.1 h }
  in_front (Done l) r t xs v e h = not_fine Unexpected t e

  all_left : (s : State) (xs : List Rec) (v : Contents) → moves ρ s xs ≡ fine (Done v) → Left s xs v
  unfolding moves
  all_left s [] v e = at s (Done v) [] v (fine_is s (Done v) e) (record { none = refl; is = refl })
  all_left s (r ∷ xs) v e =
      let b = bind_ok (next_state ρ s r) (λ t. moves ρ t xs) (Done v) e in
      in_front s r b.0 xs v b.1 (all_left b.0 xs v b.2)

  -- ---- both ways

  is_library : (records : List Rec) (v : Contents) → AreWell records → StartLeft records v → IsLibrary ρ records v
  is_library records v well h =
      let a = h.left in
      let d = a.left in
      let t = d.left in
      let b = t.left in
      let e1 : t.rest ≡ flat_map cell_records b.cells ++ b.stop ∷ [] = b.parts in
      let e2 : d.rest ≡ t.after ++ t.units ∷ (flat_map cell_records b.cells ++ b.stop ∷ []) = t.parts ∙ ap (λ ys. t.after ++ t.units ∷ ys) e1 in
      let e3 : a.rest ≡ d.before ++ d.name ∷ (t.after ++ t.units ∷ (flat_map cell_records b.cells ++ b.stop ∷ [])) = d.parts ∙ ap (λ ys. d.before ++ d.name ∷ ys) e2 in
      record {
        part = record { header = h.header; start = a.start; before = d.before; name = d.name; after = t.after; units = t.units; cells = b.cells; stop = b.stop };
        spelled = h.parts ∙ ap (λ ys. h.header ∷ ys) (a.parts ∙ ap (λ ys. a.start ∷ ys) e3);
        well = well;
        is_library = record { header = h.kind; start = a.kind; before = d.each; name = d.kind; after = t.each; units = t.kind; cells = b.each; stop = b.stops };
        says = b.is;
      }

  pub run_is_library : (records : List Rec) (v : Contents) → AllByRecursion IsRecord records → run ρ Start records ≡ fine (Done v) → IsLibrary ρ records v
  run_is_library records v fit e =
      let p = run_well ρ Start (Done v) records e in
      is_library records v (record { fit = fit; well = p.0 }) (all_left Start records v p.1)

  pub library_runs : (records : List Rec) (v : Contents) → IsLibrary ρ records v → run ρ Start records ≡ fine (Done v)
  library_runs records v h =
      run_is_moves ρ Start records h.well.well ∙ ap (moves ρ Start) h.spelled ∙ library_leads ρ h.part h.is_library ∙ ap (λ x. fine (Done x)) (sym h.says)
