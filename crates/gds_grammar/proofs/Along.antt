-- What is in the grammar the machine takes.
use Rattle.std.proofs.Common.{◌≡◌, ℕ, Bool, true, false, eqb, List, [], ◌∷◌, ◌++◌, map, refl, sym, ap, subst, ◌∙◌, append_assoc}
use Rattle.std.specs.Prelude.{Some, None}
use Rattle.std.specs.List.{flat_map, AllByRecursion}
use Rattle.std.proofs.lemmas.Bool.{eq-eqb}
use Rattle.std.proofs.lemmas.List.{append-nil, map_push}
use Rattle.gds_record.specs.declared.kind.TheConstants as kinds
use Rattle.gds_record.specs.Records.{Rec}
use Rattle.gds_record.specs.Numbers.{trimmed}
use Rattle.gds_grammar.specs.declared.element.ElementKind.{ElementKind}
use Rattle.gds_grammar.specs.declared.element.ElementKind.TheVariants.{Boundary, Path, Reference, Array, Text, Node, Box}
use Rattle.gds_grammar.specs.Forms.{among}
use Rattle.gds_grammar.specs.Values.{Shape, Contents}
use Rattle.gds_grammar.specs.Elements.{opening, may_stand, kinds_in, is_whole, has_string, shapes_in}
use Rattle.gds_grammar.specs.Grammar.{Rules, ElementPart, property_records, element_records, MayStand, AreStrings, IsProperty, IsElement, element_shapes, CellPart, cell_records, AtMostOne, IsCell, cell_value, AreCells, library_kinds, IsLibraryPart, LibraryPart, library_records, IsLibraryOf, library_value}
use Rattle.gds_grammar.specs.Machine.{State, Start, Headed, Dated, Titled, Between, Opened, Named, Within, Body, Unlettered, Tail, Paired, Done, fine, with_cell, behind_xy, next_state}
use Rattle.gds_grammar.proofs.Runs.{apart, expected, moves, leads_nil, leads_cons, leads_append}

-- XY stands in no body
pub xy_not_before : (element : ElementKind) (seen : List ℕ) → may_stand element seen kinds.XY ≡ false
xy_not_before Boundary seen = refl
xy_not_before Path seen = refl
xy_not_before Reference seen = refl
xy_not_before Array seen = refl
xy_not_before Text seen = refl
xy_not_before Node seen = refl
xy_not_before Box seen = refl

pub not_xy : (element : ElementKind) (seen : List ℕ) (kind : ℕ) → may_stand element seen kind ≡ true → eqb kind kinds.XY ≡ false
not_xy element seen kind h = apart (may_stand element seen) kind kinds.XY (λ e. let both = sym h ∙ e ∙ xy_not_before element seen in cc)

-- STRCLASS and ENDSTR open no element
class_opens_nothing : opening kinds.STRCLASS ≡ None
unfolding opening
class_opens_nothing = refl

pub end_opens_nothing : opening kinds.ENDSTR ≡ None
unfolding opening
end_opens_nothing = refl

pub opening_not_class : (kind : ℕ) (element : ElementKind) → opening kind ≡ Some element → eqb kind kinds.STRCLASS ≡ false
opening_not_class kind element h = apart opening kind kinds.STRCLASS (λ e. let both = sym h ∙ e ∙ class_opens_nothing in cc)

module _ (ρ : Rules) where
  -- ---- one record

  move_opens : (l : Contents) (n : List ℕ) (sh : List Shape) (r : Rec) (o : ElementKind) → opening r.kind ≡ Some o → next_state ρ (Within l n sh) r ≡ fine (Body l n sh o [])
  unfolding next_state
  move_opens l n sh r o e = rw e refl

  move_before : (l : Contents) (n : List ℕ) (sh : List Shape) (o : ElementKind) (seen : List Rec) (r : Rec) → may_stand o (kinds_in seen) r.kind ≡ true
      → next_state ρ (Body l n sh o seen) r ≡ fine (Body l n sh o (seen ++ r ∷ []))
  unfolding next_state
  move_before l n sh o seen r h = rw (not_xy o (kinds_in seen) r.kind h, h) refl

  move_xy : (l : Contents) (n : List ℕ) (sh : List Shape) (o : ElementKind) (before : List Rec) (r : Rec) → r.kind ≡ kinds.XY → is_whole o (kinds_in before) ≡ true
      → ρ.points o r.body ≡ true → ρ.closed o r.body ≡ true
      → next_state ρ (Body l n sh o before) r ≡ fine (behind_xy (has_string o) l n (sh ++ shapes_in o before r.body))
  unfolding next_state
  move_xy l n sh o before r k whole points closed = rw (eq-eqb r.kind kinds.XY k, whole, points, closed) refl

  move_string : (l : Contents) (n : List ℕ) (sh : List Shape) (r : Rec) → r.kind ≡ kinds.STRING → next_state ρ (Unlettered l n sh) r ≡ fine (Tail l n sh)
  unfolding next_state
  move_string l n sh r e = expected kinds.STRING r (Tail l n sh) e

  pub move_attribute : (l : Contents) (n : List ℕ) (sh : List Shape) (r : Rec) → r.kind ≡ kinds.PROPATTR → next_state ρ (Tail l n sh) r ≡ fine (Paired l n sh)
  unfolding next_state
  move_attribute l n sh r e = rw (eq-eqb r.kind kinds.PROPATTR e) refl

  move_value : (l : Contents) (n : List ℕ) (sh : List Shape) (r : Rec) → r.kind ≡ kinds.PROPVALUE → next_state ρ (Paired l n sh) r ≡ fine (Tail l n sh)
  unfolding next_state
  move_value l n sh r e = expected kinds.PROPVALUE r (Tail l n sh) e

  pub move_endel : (l : Contents) (n : List ℕ) (sh : List Shape) (r : Rec) → r.kind ≡ kinds.ENDEL → next_state ρ (Tail l n sh) r ≡ fine (Within l n sh)
  unfolding next_state
  move_endel l n sh r e = rw (ap (λ k. eqb k kinds.PROPATTR) e) (expected kinds.ENDEL r (Within l n sh) e)

  pub move_endstr : (l : Contents) (n : List ℕ) (sh : List Shape) (r : Rec) → r.kind ≡ kinds.ENDSTR → next_state ρ (Within l n sh) r ≡ fine (Between (with_cell l n sh))
  unfolding next_state
  move_endstr l n sh r e = rw (ap opening e ∙ end_opens_nothing) (expected kinds.ENDSTR r (Between (with_cell l n sh)) e)

  move_class : (l : Contents) (n : List ℕ) (r : Rec) → r.kind ≡ kinds.STRCLASS → next_state ρ (Named l n) r ≡ fine (Within l n [])
  unfolding next_state
  move_class l n r e = rw (eq-eqb r.kind kinds.STRCLASS e) refl

  pub named_is_within : (l : Contents) (n : List ℕ) (r : Rec) → eqb r.kind kinds.STRCLASS ≡ false → next_state ρ (Named l n) r ≡ next_state ρ (Within l n []) r
  unfolding next_state
  named_is_within l n r e = rw e refl

  move_name : (l : Contents) (r : Rec) → r.kind ≡ kinds.STRNAME → ρ.taken l.cells (trimmed r.body) ≡ false → next_state ρ (Opened l) r ≡ fine (Named l (trimmed r.body))
  unfolding next_state
  move_name l r e fresh = rw (eq-eqb r.kind kinds.STRNAME e, fresh) refl

  pub move_bgnstr : (l : Contents) (r : Rec) → r.kind ≡ kinds.BGNSTR → next_state ρ (Between l) r ≡ fine (Opened l)
  unfolding next_state
  move_bgnstr l r e = rw (eq-eqb r.kind kinds.BGNSTR e) refl

  pub move_endlib : (l : Contents) (r : Rec) → r.kind ≡ kinds.ENDLIB → next_state ρ (Between l) r ≡ fine (Done l)
  unfolding next_state
  move_endlib l r e = rw (ap (λ k. eqb k kinds.BGNSTR) e) (expected kinds.ENDLIB r (Done l) e)

  -- ---- an element

  before_leads : (l : Contents) (n : List ℕ) (sh : List Shape) (o : ElementKind) (seen more : List Rec) → MayStand o (kinds_in seen) more
      → moves ρ (Body l n sh o seen) more ≡ fine (Body l n sh o (seen ++ more))
  before_leads l n sh o seen [] h = leads_nil ρ (Body l n sh o seen) ∙ ap (λ b. fine (Body l n sh o b)) (sym (append-nil seen))
  before_leads l n sh o seen (r ∷ rs) h =
      let kinds_are : kinds_in (seen ++ r ∷ []) ≡ kinds_in seen ++ r.kind ∷ [] = map_push (λ r. r.kind) seen r in
      let rest = before_leads l n sh o (seen ++ r ∷ []) rs (subst (λ ks. MayStand o ks rs) (sym kinds_are) h.1) in
      leads_cons ρ (Body l n sh o seen) (Body l n sh o (seen ++ r ∷ [])) (Body l n sh o (seen ++ r ∷ rs)) r rs
      (move_before l n sh o seen r h.0) (rest ∙ ap (λ b. fine (Body l n sh o b)) (append_assoc seen (r ∷ []) rs))

  strings_lead : (b : Bool) (l : Contents) (n : List ℕ) (sh : List Shape) (rs : List Rec) → AreStrings b rs → moves ρ (behind_xy b l n sh) rs ≡ fine (Tail l n sh)
  strings_lead true l n sh [] h = absurd h
  strings_lead true l n sh (r ∷ []) h = leads_cons ρ _ _ _ r [] (move_string l n sh r h) (leads_nil ρ (Tail l n sh))
  strings_lead true l n sh (r ∷ q ∷ rs) h = absurd h
  strings_lead false l n sh [] h = leads_nil ρ (Tail l n sh)
  strings_lead false l n sh (r ∷ rs) h = absurd h

  properties_lead : (l : Contents) (n : List ℕ) (sh : List Shape) (ps : List (Rec × Rec)) → AllByRecursion IsProperty ps → moves ρ (Tail l n sh) (flat_map property_records ps) ≡ fine (Tail l n sh)
  properties_lead l n sh [] h = leads_nil ρ (Tail l n sh)
  properties_lead l n sh (p ∷ ps) h =
      leads_cons ρ (Tail l n sh) (Paired l n sh) (Tail l n sh) p.0 (p.1 ∷ flat_map property_records ps) (move_attribute l n sh p.0 h.0.0)
      (leads_cons ρ (Paired l n sh) (Tail l n sh) (Tail l n sh) p.1 (flat_map property_records ps) (move_value l n sh p.1 h.0.1) (properties_lead l n sh ps h.1))

  element_leads : (l : Contents) (n : List ℕ) (sh : List Shape) (e : ElementPart) → IsElement ρ e
      → moves ρ (Within l n sh) (element_records e) ≡ fine (Within l n (sh ++ element_shapes e))
  element_leads l n sh e h =
      let sh' = sh ++ element_shapes e in
      let last = leads_cons ρ (Tail l n sh') (Within l n sh') (Within l n sh') e.stop [] (move_endel l n sh' e.stop h.stop) (leads_nil ρ (Within l n sh')) in
      let tail = leads_append ρ (Tail l n sh') (Tail l n sh') (Within l n sh') (flat_map property_records e.properties) (e.stop ∷ []) (properties_lead l n sh' e.properties h.properties) last in
      let behind = leads_append ρ (behind_xy (has_string e.element) l n sh') (Tail l n sh') (Within l n sh') e.strings (flat_map property_records e.properties ++ e.stop ∷ [])
      (strings_lead (has_string e.element) l n sh' e.strings h.strings) tail in
      let at = leads_cons ρ (Body l n sh e.element e.before) _ _ e.xy _ (move_xy l n sh e.element e.before e.xy h.xy h.whole h.points h.closed) behind in
      let body = leads_append ρ (Body l n sh e.element []) (Body l n sh e.element e.before) (Within l n sh') e.before _ (before_leads l n sh e.element [] e.before h.stand) at in
      leads_cons ρ (Within l n sh) (Body l n sh e.element []) (Within l n sh') e.start _ (move_opens l n sh e.start e.element h.opens) body

  elements_lead : (l : Contents) (n : List ℕ) (sh : List Shape) (es : List ElementPart) → AllByRecursion (IsElement ρ) es
      → moves ρ (Within l n sh) (flat_map element_records es) ≡ fine (Within l n (sh ++ flat_map element_shapes es))
  elements_lead l n sh [] h = leads_nil ρ (Within l n sh) ∙ ap (λ x. fine (Within l n x)) (sym (append-nil sh))
  elements_lead l n sh (e ∷ es) h =
      leads_append ρ (Within l n sh) (Within l n (sh ++ element_shapes e)) _ (element_records e) (flat_map element_records es) (element_leads l n sh e h.0) (elements_lead l n (sh ++ element_shapes e) es h.1)
      ∙ ap (λ x. fine (Within l n x)) (append_assoc sh (element_shapes e) (flat_map element_shapes es))

  -- ---- a cell

  skips_no_class : (l : Contents) (n : List ℕ) (u : State) (r : Rec) (rs : List Rec) → eqb r.kind kinds.STRCLASS ≡ false → moves ρ (Within l n []) (r ∷ rs) ≡ fine u → moves ρ (Named l n) (r ∷ rs) ≡ fine u
  unfolding moves
  skips_no_class l n u r rs h k = rw (named_is_within l n r h) k

  class_leads : (l : Contents) (n : List ℕ) (u : State) (class : List Rec) (es : List ElementPart) (stop : Rec) → AtMostOne kinds.STRCLASS class → AllByRecursion (IsElement ρ) es → stop.kind ≡ kinds.ENDSTR
      → moves ρ (Within l n []) (flat_map element_records es ++ stop ∷ []) ≡ fine u → moves ρ (Named l n) (class ++ (flat_map element_records es ++ stop ∷ [])) ≡ fine u
  class_leads l n u [] [] stop h all e k = skips_no_class l n u stop [] (ap (λ x. eqb x kinds.STRCLASS) e) k
  class_leads l n u [] (e ∷ es) stop h all end k = skips_no_class l n u e.start _ (opening_not_class e.start.kind e.element all.0.opens) k
  class_leads l n u (r ∷ []) es stop h all end k = leads_cons ρ (Named l n) (Within l n []) u r _ (move_class l n r h) k
  class_leads l n u (r ∷ q ∷ rs) es stop h all end k = absurd h

  cell_leads : (l : Contents) (c : CellPart) → IsCell ρ c → ρ.taken l.cells (trimmed c.name.body) ≡ false
      → moves ρ (Between l) (cell_records c) ≡ fine (Between (with_cell l (trimmed c.name.body) (flat_map element_shapes c.elements)))
  cell_leads l c h fresh =
      let n = trimmed c.name.body in
      let sh = flat_map element_shapes c.elements in
      let u = Between (with_cell l n sh) in
      let last = leads_cons ρ (Within l n sh) u u c.stop [] (move_endstr l n sh c.stop h.stop) (leads_nil ρ u) in
      let inside = leads_append ρ (Within l n []) (Within l n sh) u (flat_map element_records c.elements) (c.stop ∷ []) (elements_lead l n [] c.elements h.elements) last in
      let named = class_leads l n u c.class c.elements c.stop h.class h.elements h.stop inside in
      leads_cons ρ (Between l) (Opened l) u c.start _ (move_bgnstr l c.start h.start) (leads_cons ρ (Opened l) (Named l n) u c.name _ (move_name l c.name h.name fresh) named)

  cells_lead : (l : Contents) (cs : List CellPart) → AreCells ρ l.cells cs
      → moves ρ (Between l) (flat_map cell_records cs) ≡ fine (Between (record { dates = l.dates; units = l.units; cells = l.cells ++ map cell_value cs }))
  cells_lead l [] h = leads_nil ρ (Between l) ∙ ap (λ cells. fine (Between (record { dates = l.dates; units = l.units; cells = cells }))) (sym (append-nil l.cells))
  cells_lead l (c ∷ cs) h =
      let next = with_cell l (trimmed c.name.body) (flat_map element_shapes c.elements) in
      leads_append ρ (Between l) (Between next) _ (cell_records c) (flat_map cell_records cs) (cell_leads l c h.0 h.1) (cells_lead next cs h.2)
      ∙ ap (λ cells. fine (Between (record { dates = l.dates; units = l.units; cells = cells }))) (append_assoc l.cells (cell_value c ∷ []) (map cell_value cs))

  -- ---- the library

  move_header : (r : Rec) → r.kind ≡ kinds.HEADER → next_state ρ Start r ≡ fine Headed
  unfolding next_state
  move_header r e = expected kinds.HEADER r Headed e

  move_bgnlib : (r : Rec) → r.kind ≡ kinds.BGNLIB → next_state ρ Headed r ≡ fine (Dated r.body)
  unfolding next_state
  move_bgnlib r e = expected kinds.BGNLIB r (Dated r.body) e

  not_libname : (kind : ℕ) → among library_kinds kind ≡ true → eqb kind kinds.LIBNAME ≡ false
  not_libname kind h = apart (among library_kinds) kind kinds.LIBNAME (λ e. let both = sym h ∙ e in cc)

  move_part : (dates : List ℕ) (r : Rec) → IsLibraryPart r → next_state ρ (Dated dates) r ≡ fine (Dated dates)
  unfolding next_state
  move_part dates r h = rw (not_libname r.kind h, h) refl

  pub move_title : (dates : List ℕ) (r : Rec) → r.kind ≡ kinds.LIBNAME → next_state ρ (Dated dates) r ≡ fine (Titled dates)
  unfolding next_state
  move_title dates r e = rw (eq-eqb r.kind kinds.LIBNAME e) refl

  move_later_part : (dates : List ℕ) (r : Rec) → IsLibraryPart r → next_state ρ (Titled dates) r ≡ fine (Titled dates)
  unfolding next_state
  move_later_part dates r h = rw h refl

  pub move_units : (dates : List ℕ) (r : Rec) → r.kind ≡ kinds.UNITS → next_state ρ (Titled dates) r ≡ fine (Between (record { dates = dates; units = r.body; cells = [] }))
  unfolding next_state
  move_units dates r e = rw (ap (among library_kinds) e) (expected kinds.UNITS r (Between (record { dates = dates; units = r.body; cells = [] })) e)

  parts_lead : (dates : List ℕ) (rs : List Rec) → AllByRecursion IsLibraryPart rs → moves ρ (Dated dates) rs ≡ fine (Dated dates)
  parts_lead dates [] h = leads_nil ρ (Dated dates)
  parts_lead dates (r ∷ rs) h = leads_cons ρ (Dated dates) (Dated dates) (Dated dates) r rs (move_part dates r h.0) (parts_lead dates rs h.1)

  later_parts_lead : (dates : List ℕ) (rs : List Rec) → AllByRecursion IsLibraryPart rs → moves ρ (Titled dates) rs ≡ fine (Titled dates)
  later_parts_lead dates [] h = leads_nil ρ (Titled dates)
  later_parts_lead dates (r ∷ rs) h = leads_cons ρ (Titled dates) (Titled dates) (Titled dates) r rs (move_later_part dates r h.0) (later_parts_lead dates rs h.1)

  pub library_leads : (l : LibraryPart) → IsLibraryOf ρ l → moves ρ Start (library_records l) ≡ fine (Done (library_value l))
  library_leads l h =
      let dates = l.start.body in
      let empty : Contents = record { dates = dates; units = l.units.body; cells = [] } in
      let u = Done (library_value l) in
      let last = leads_cons ρ (Between (library_value l)) u u l.stop [] (move_endlib (library_value l) l.stop h.stop) (leads_nil ρ u) in
      let cells = leads_append ρ (Between empty) (Between (library_value l)) u (flat_map cell_records l.cells) (l.stop ∷ []) (cells_lead empty l.cells h.cells) last in
      let units = leads_cons ρ (Titled dates) (Between empty) u l.units _ (move_units dates l.units h.units) cells in
      let after = leads_append ρ (Titled dates) (Titled dates) u l.after _ (later_parts_lead dates l.after h.after) units in
      let name = leads_cons ρ (Dated dates) (Titled dates) u l.name _ (move_title dates l.name h.name) after in
      let before = leads_append ρ (Dated dates) (Dated dates) u l.before _ (parts_lead dates l.before h.before) name in
      leads_cons ρ Start Headed u l.header _ (move_header l.header h.header) (leads_cons ρ Headed (Dated dates) u l.start _ (move_bgnlib l.start h.start) before)
