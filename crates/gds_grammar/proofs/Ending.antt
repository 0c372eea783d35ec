-- From each state some records lead to the end of a library.
use Rattle.std.proofs.Common.{◌≡◌, ℕ, suc, ◌^◌, ◌<◌, Bool, true, false, eqb, List, [], ◌∷◌, ◌++◌, length, map, refl, sym, ap, subst, ◌∙◌, append_assoc, arith, lit<, lit≤}
use Rattle.std.specs.Prelude.{◌||◌}
use Rattle.std.specs.Int.{w64, to_be_bytes, from_be_bytes}
use Rattle.std.specs.List.{list_any, list_all, AllByRecursion}
use Rattle.std.specs.Str.{bytes_eq}
use Rattle.std.proofs.lemmas.List.{append-nil, map_push, map-append}
use Rattle.std.proofs.lemmas.Bool.{eq-eqb}
use Rattle.std.proofs.lemmas.List.Folds.{list_any-append}
use Rattle.std.proofs.lemmas.Nat.{from_be_bytes-to_be_bytes_8}
use Rattle.gds_record.specs.declared.form.TheConstants as forms
use Rattle.gds_record.specs.declared.kind.TheConstants as kinds
use Rattle.gds_record.specs.Records.{Rec, IsRecord}
use Rattle.gds_record.specs.Numbers.{trimmed}
use Rattle.gds_record.proofs.Trimming.{stays}
use Rattle.gds_grammar.specs.declared.element.ElementKind.{ElementKind}
use Rattle.gds_grammar.specs.declared.element.ElementKind.TheVariants.{Boundary, Path, Reference, Array, Text, Node, Box}
use Rattle.gds_grammar.specs.Forms.{among, has_form, has_size, has_name_if_asked, IsWell}
use Rattle.gds_grammar.specs.Values.{Shape, Cell, Contents}
use Rattle.gds_grammar.specs.Elements.{opening, may_stand, kinds_in, is_whole, required, has_string, shapes_in, are_points, is_closed}
use Rattle.gds_grammar.specs.Grammar.{Rules, has_name, no_rules, points_alone, points_and_closing, all_rules}
use Rattle.gds_grammar.specs.Machine.{State, Start, Headed, Dated, Titled, Between, Opened, Named, Within, Body, Unlettered, Tail, Paired, Done, fine, with_cell, behind_xy, next_state, step, run}
use Rattle.gds_grammar.proofs.Runs.{run_cons}
use Rattle.gds_grammar.proofs.Along.{not_xy}
use Rattle.gds_grammar.proofs.Fresh.{OneToOne, fresh}

-- ---- records with as little data as their kind allows

abbrev zeros_8 : List ℕ
zeros_8 = 0 ∷ 0 ∷ 0 ∷ 0 ∷ 0 ∷ 0 ∷ 0 ∷ 0 ∷ []

-- a record that may be put anywhere
pub record IsBlank (r : Rec) (kind : ℕ) : Type 0 where
  pub kind_is : r.kind ≡ kind
  pub fits : IsRecord r
  pub well : IsWell r

abbrev blank : ℕ → ℕ → List ℕ → Rec
blank kind form body = record { kind = kind; form = form; body = body }

blank_header : IsBlank (blank kinds.HEADER forms.WORDS ([])) kinds.HEADER
unfolding has_form has_size has_name_if_asked
blank_header = record { kind_is = refl; fits = record { kind_fits = lit< tt; form_fits = lit< tt; even = refl; short = lit≤ tt }; well = refl }

blank_bgnlib : IsBlank (blank kinds.BGNLIB forms.WORDS (zeros_8 ++ zeros_8 ++ zeros_8)) kinds.BGNLIB
unfolding has_form has_size has_name_if_asked
blank_bgnlib = record { kind_is = refl; fits = record { kind_fits = lit< tt; form_fits = lit< tt; even = refl; short = lit≤ tt }; well = refl }

blank_libname : IsBlank (blank kinds.LIBNAME forms.TEXT ([])) kinds.LIBNAME
unfolding has_form has_size has_name_if_asked
blank_libname = record { kind_is = refl; fits = record { kind_fits = lit< tt; form_fits = lit< tt; even = refl; short = lit≤ tt }; well = refl }

blank_units : IsBlank (blank kinds.UNITS forms.REALS (zeros_8 ++ zeros_8)) kinds.UNITS
unfolding has_form has_size has_name_if_asked
blank_units = record { kind_is = refl; fits = record { kind_fits = lit< tt; form_fits = lit< tt; even = refl; short = lit≤ tt }; well = refl }

blank_endlib : IsBlank (blank kinds.ENDLIB forms.NONE ([])) kinds.ENDLIB
unfolding has_form has_size has_name_if_asked
blank_endlib = record { kind_is = refl; fits = record { kind_fits = lit< tt; form_fits = lit< tt; even = refl; short = lit≤ tt }; well = refl }

blank_endstr : IsBlank (blank kinds.ENDSTR forms.NONE ([])) kinds.ENDSTR
unfolding has_form has_size has_name_if_asked
blank_endstr = record { kind_is = refl; fits = record { kind_fits = lit< tt; form_fits = lit< tt; even = refl; short = lit≤ tt }; well = refl }

blank_endel : IsBlank (blank kinds.ENDEL forms.NONE ([])) kinds.ENDEL
unfolding has_form has_size has_name_if_asked
blank_endel = record { kind_is = refl; fits = record { kind_fits = lit< tt; form_fits = lit< tt; even = refl; short = lit≤ tt }; well = refl }

blank_string : IsBlank (blank kinds.STRING forms.TEXT ([])) kinds.STRING
unfolding has_form has_size has_name_if_asked
blank_string = record { kind_is = refl; fits = record { kind_fits = lit< tt; form_fits = lit< tt; even = refl; short = lit≤ tt }; well = refl }

blank_value : IsBlank (blank kinds.PROPVALUE forms.TEXT ([])) kinds.PROPVALUE
unfolding has_form has_size has_name_if_asked
blank_value = record { kind_is = refl; fits = record { kind_fits = lit< tt; form_fits = lit< tt; even = refl; short = lit≤ tt }; well = refl }

blank_layer : IsBlank (blank kinds.LAYER forms.WORDS (0 ∷ 0 ∷ [])) kinds.LAYER
unfolding has_form has_size has_name_if_asked
blank_layer = record { kind_is = refl; fits = record { kind_fits = lit< tt; form_fits = lit< tt; even = refl; short = lit≤ tt }; well = refl }

blank_data_type : IsBlank (blank kinds.DATATYPE forms.WORDS (0 ∷ 0 ∷ [])) kinds.DATATYPE
unfolding has_form has_size has_name_if_asked
blank_data_type = record { kind_is = refl; fits = record { kind_fits = lit< tt; form_fits = lit< tt; even = refl; short = lit≤ tt }; well = refl }

blank_sname : IsBlank (blank kinds.SNAME forms.TEXT (65 ∷ 65 ∷ [])) kinds.SNAME
unfolding has_form has_size has_name_if_asked
blank_sname = record { kind_is = refl; fits = record { kind_fits = lit< tt; form_fits = lit< tt; even = refl; short = lit≤ tt }; well = refl }

blank_strname : IsBlank (blank kinds.STRNAME forms.TEXT (65 ∷ 65 ∷ [])) kinds.STRNAME
unfolding has_form has_size has_name_if_asked
blank_strname = record { kind_is = refl; fits = record { kind_fits = lit< tt; form_fits = lit< tt; even = refl; short = lit≤ tt }; well = refl }

blank_colrow : IsBlank (blank kinds.COLROW forms.WORDS (0 ∷ 0 ∷ 0 ∷ 0 ∷ [])) kinds.COLROW
unfolding has_form has_size has_name_if_asked
blank_colrow = record { kind_is = refl; fits = record { kind_fits = lit< tt; form_fits = lit< tt; even = refl; short = lit≤ tt }; well = refl }

blank_text_type : IsBlank (blank kinds.TEXTTYPE forms.WORDS ([])) kinds.TEXTTYPE
unfolding has_form has_size has_name_if_asked
blank_text_type = record { kind_is = refl; fits = record { kind_fits = lit< tt; form_fits = lit< tt; even = refl; short = lit≤ tt }; well = refl }

blank_node_type : IsBlank (blank kinds.NODETYPE forms.WORDS ([])) kinds.NODETYPE
unfolding has_form has_size has_name_if_asked
blank_node_type = record { kind_is = refl; fits = record { kind_fits = lit< tt; form_fits = lit< tt; even = refl; short = lit≤ tt }; well = refl }

blank_box_type : IsBlank (blank kinds.BOXTYPE forms.WORDS ([])) kinds.BOXTYPE
unfolding has_form has_size has_name_if_asked
blank_box_type = record { kind_is = refl; fits = record { kind_fits = lit< tt; form_fits = lit< tt; even = refl; short = lit≤ tt }; well = refl }

-- points that each kind of element may have
abbrev blank_points : ElementKind → List ℕ
blank_points Reference = zeros_8
blank_points Array = zeros_8 ++ zeros_8 ++ zeros_8
blank_points Boundary = zeros_8 ++ zeros_8 ++ zeros_8 ++ zeros_8
blank_points Path = zeros_8
blank_points Text = zeros_8
blank_points Node = zeros_8
blank_points Box = zeros_8

blank_xy : (o : ElementKind) → IsBlank (blank kinds.XY forms.NUMBERS (blank_points o)) kinds.XY
unfolding has_form has_size has_name_if_asked
blank_xy Reference = record { kind_is = refl; fits = record { kind_fits = lit< tt; form_fits = lit< tt; even = refl; short = lit≤ tt }; well = refl }
blank_xy Array = record { kind_is = refl; fits = record { kind_fits = lit< tt; form_fits = lit< tt; even = refl; short = lit≤ tt }; well = refl }
blank_xy Boundary = record { kind_is = refl; fits = record { kind_fits = lit< tt; form_fits = lit< tt; even = refl; short = lit≤ tt }; well = refl }
blank_xy Path = record { kind_is = refl; fits = record { kind_fits = lit< tt; form_fits = lit< tt; even = refl; short = lit≤ tt }; well = refl }
blank_xy Text = record { kind_is = refl; fits = record { kind_fits = lit< tt; form_fits = lit< tt; even = refl; short = lit≤ tt }; well = refl }
blank_xy Node = record { kind_is = refl; fits = record { kind_fits = lit< tt; form_fits = lit< tt; even = refl; short = lit≤ tt }; well = refl }
blank_xy Box = record { kind_is = refl; fits = record { kind_fits = lit< tt; form_fits = lit< tt; even = refl; short = lit≤ tt }; well = refl }

-- a record that an element asks for, and that may still be put
record CanFill (o : ElementKind) (kind : ℕ) : Type 0 where
  filler : Rec
  blank : IsBlank filler kind
  stands : (seen : List ℕ) → among seen kind ≡ false → may_stand o seen kind ≡ true

can_fill : (o : ElementKind) → AllByRecursion (CanFill o) (required o)
can_fill Boundary = (record { filler = _; blank = blank_layer; stands = λ seen h. rw h refl }, (record { filler = _; blank = blank_data_type; stands = λ seen h. rw h refl }, tt))
can_fill Path = (record { filler = _; blank = blank_layer; stands = λ seen h. rw h refl }, (record { filler = _; blank = blank_data_type; stands = λ seen h. rw h refl }, tt))
can_fill Reference = (record { filler = _; blank = blank_sname; stands = λ seen h. rw h refl }, tt)
can_fill Array = (record { filler = _; blank = blank_sname; stands = λ seen h. rw h refl }, (record { filler = _; blank = blank_colrow; stands = λ seen h. rw h refl }, tt))
can_fill Text = (record { filler = _; blank = blank_layer; stands = λ seen h. rw h refl }, (record { filler = _; blank = blank_text_type; stands = λ seen h. rw h refl }, tt))
can_fill Node = (record { filler = _; blank = blank_layer; stands = λ seen h. rw h refl }, (record { filler = _; blank = blank_node_type; stands = λ seen h. rw h refl }, tt))
can_fill Box = (record { filler = _; blank = blank_layer; stands = λ seen h. rw h refl }, (record { filler = _; blank = blank_box_type; stands = λ seen h. rw h refl }, tt))

-- ---- names that are new

pub record FreshName (ρ : Rules) (cells : List Cell) : Type 0 where
  pub name : Rec
  pub blank : IsBlank name kinds.STRNAME
  pub free : ρ.taken cells (trimmed name.body) ≡ false

-- rules that blank points keep, and under which there is a new name where the cells are few
pub record TakesBlank (ρ : Rules) (AreFew : List Cell → Type 0) : Type 0 where
  pub points : (o : ElementKind) → ρ.points o (blank_points o) ≡ true
  pub closed : (o : ElementKind) → ρ.closed o (blank_points o) ≡ true
  pub names : (cells : List Cell) → AreFew cells → FreshName ρ cells

-- eight bytes that count, and a byte that isn't zero
abbrev counted : ℕ → List ℕ
counted i = to_be_bytes w64 i ++ 65 ∷ 65 ∷ []

counted_stays : (i : ℕ) → trimmed (counted i) ≡ counted i
counted_stays i = stays (counted i) (to_be_bytes w64 i ++ 65 ∷ []) 65 refl (λ e. omega arith)

abbrev front : List ℕ → List ℕ
front (a ∷ b ∷ c ∷ d ∷ e ∷ f ∷ g ∷ h ∷ rest) = a ∷ b ∷ c ∷ d ∷ e ∷ f ∷ g ∷ h ∷ []
front other = []

counted_one : OneToOne counted (2 ^ 64)
counted_one a b la lb e =
    let same : to_be_bytes w64 a ≡ to_be_bytes w64 b = ap front e in
    sym (from_be_bytes-to_be_bytes_8 a la) ∙ ap (from_be_bytes w64) same ∙ from_be_bytes-to_be_bytes_8 b lb

named_among : (cells : List Cell) (n : List ℕ) → has_name cells n ≡ list_any (λ x. bytes_eq n x) (map (λ c. c.name) cells)
named_among [] n = refl
named_among (c ∷ cs) n = ap (λ b. bytes_eq n c.name || b) (named_among cs n)

as_many : (cells : List Cell) → length (map (λ c. c.name) cells) ≡ length cells
as_many [] = refl
as_many (c ∷ cs) = ap suc (as_many cs)

blank_counted : (i : ℕ) → IsBlank (blank kinds.STRNAME forms.TEXT (counted i)) kinds.STRNAME
unfolding has_form has_size has_name_if_asked
blank_counted i = record { kind_is = refl; fits = record { kind_fits = lit< tt; form_fits = lit< tt; even = refl; short = lit≤ tt }; well = rw (counted_stays i) refl }

new_name : (cells : List Cell) → length cells < 2 ^ 64 → FreshName all_rules cells
new_name cells lt =
    let p = fresh (map (λ c. c.name) cells) counted (2 ^ 64) counted_one (subst (λ k. k < 2 ^ 64) (sym (as_many cells)) lt) in
    record { name = _; blank = blank_counted p.0; free = ap (has_name cells) (counted_stays p.0) ∙ named_among cells (counted p.0) ∙ p.2 }

any_name : (points closed : ElementKind → List ℕ → Bool) (cells : List Cell) → FreshName (record { points = points; closed = closed; taken = λ cells name. false }) cells
any_name points closed cells = record { name = _; blank = blank_strname; free = refl }

good_points : (o : ElementKind) → are_points o (blank_points o) ≡ true
good_points Boundary = refl
good_points Path = refl
good_points Reference = refl
good_points Array = refl
good_points Text = refl
good_points Node = refl
good_points Box = refl

good_ring : (o : ElementKind) → is_closed o (blank_points o) ≡ true
good_ring Boundary = refl
good_ring Path = refl
good_ring Reference = refl
good_ring Array = refl
good_ring Text = refl
good_ring Node = refl
good_ring Box = refl

abbrev pub Always : List Cell → Type 0
Always cells = Unit {0}

abbrev pub BelowLimit : List Cell → Type 0
BelowLimit cells = length cells < 2 ^ 64

pub blank_none : TakesBlank no_rules Always
blank_none = record { points = λ o. refl; closed = λ o. refl; names = λ cells lt. any_name _ _ cells }

pub blank_alone : TakesBlank points_alone Always
blank_alone = record { points = good_points; closed = λ o. refl; names = λ cells lt. any_name _ _ cells }

pub blank_closing : TakesBlank points_and_closing Always
blank_closing = record { points = good_points; closed = good_ring; names = λ cells lt. any_name _ _ cells }

pub blank_all : TakesBlank all_rules BelowLimit
blank_all = record { points = good_points; closed = good_ring; names = new_name }

-- ---- from state to state

-- the cells that stand already
abbrev pub cells_before : State → List Cell
cells_before Start = []
cells_before Headed = []
cells_before (Dated dates) = []
cells_before (Titled dates) = []
cells_before (Between l) = l.cells
cells_before (Opened l) = l.cells
cells_before (Named l n) = l.cells
cells_before (Within l n sh) = l.cells
cells_before (Body l n sh o before) = l.cells
cells_before (Unlettered l n sh) = l.cells
cells_before (Tail l n sh) = l.cells
cells_before (Paired l n sh) = l.cells
cells_before (Done l) = l.cells

pub record CanEnd (ρ : Rules) (s : State) : Type 0 where
  pub more : List Rec
  pub value : Contents
  pub fit : AllByRecursion IsRecord more
  pub runs : run ρ s more ≡ fine (Done value)

module _ (ρ : Rules) (AreFew : List Cell → Type 0) (good : TakesBlank ρ AreFew) where
  after_move : (s t : State) (r : Rec) (kind : ℕ) → IsBlank r kind → next_state ρ s r ≡ fine t → CanEnd ρ t → CanEnd ρ s
  after_move s t r kind b h c =
      let led : step ρ s r ≡ fine t = rw b.well h in
      record { more = r ∷ c.more; value = c.value; fit = (b.fits, c.fit); runs = run_cons ρ s t r c.more led ∙ c.runs }

  ends_done : (l : Contents) → CanEnd ρ (Done l)
  unfolding run
  ends_done l = record { more = []; value = l; fit = tt; runs = refl }

  ends_between : (l : Contents) → CanEnd ρ (Between l)
  unfolding next_state
  ends_between l = after_move (Between l) (Done l) _ kinds.ENDLIB blank_endlib refl (ends_done l)

  ends_within : (l : Contents) (n : List ℕ) (sh : List Shape) → CanEnd ρ (Within l n sh)
  unfolding next_state opening
  ends_within l n sh = after_move (Within l n sh) (Between (with_cell l n sh)) _ kinds.ENDSTR blank_endstr refl (ends_between (with_cell l n sh))

  ends_named : (l : Contents) (n : List ℕ) → CanEnd ρ (Named l n)
  unfolding next_state opening
  ends_named l n = after_move (Named l n) (Between (with_cell l n [])) _ kinds.ENDSTR blank_endstr refl (ends_between (with_cell l n []))

  ends_tail : (l : Contents) (n : List ℕ) (sh : List Shape) → CanEnd ρ (Tail l n sh)
  unfolding next_state
  ends_tail l n sh = after_move (Tail l n sh) (Within l n sh) _ kinds.ENDEL blank_endel refl (ends_within l n sh)

  ends_paired : (l : Contents) (n : List ℕ) (sh : List Shape) → CanEnd ρ (Paired l n sh)
  unfolding next_state
  ends_paired l n sh = after_move (Paired l n sh) (Tail l n sh) _ kinds.PROPVALUE blank_value refl (ends_tail l n sh)

  ends_unlettered : (l : Contents) (n : List ℕ) (sh : List Shape) → CanEnd ρ (Unlettered l n sh)
  unfolding next_state
  ends_unlettered l n sh = after_move (Unlettered l n sh) (Tail l n sh) _ kinds.STRING blank_string refl (ends_tail l n sh)

  ends_behind : (b : Bool) (l : Contents) (n : List ℕ) (sh : List Shape) → CanEnd ρ (behind_xy b l n sh)
  ends_behind true l n sh = ends_unlettered l n sh
  ends_behind false l n sh = ends_tail l n sh

  put_xy : (l : Contents) (n : List ℕ) (sh : List Shape) (o : ElementKind) (before : List Rec) → is_whole o (kinds_in before) ≡ true → CanEnd ρ (Body l n sh o before)
  unfolding next_state
  put_xy l n sh o before whole =
      after_move (Body l n sh o before) (behind_xy (has_string o) l n (sh ++ shapes_in o before (blank_points o))) _ kinds.XY (blank_xy o) (rw (whole, good.points o, good.closed o) refl)
      (ends_behind (has_string o) l n (sh ++ shapes_in o before (blank_points o)))

  put_before : (l : Contents) (n : List ℕ) (sh : List Shape) (o : ElementKind) (before : List Rec) (r : Rec) → may_stand o (kinds_in before) r.kind ≡ true
      → next_state ρ (Body l n sh o before) r ≡ fine (Body l n sh o (before ++ r ∷ []))
  unfolding next_state
  put_before l n sh o before r h = rw (not_xy o (kinds_in before) r.kind h, h) refl

  -- the records of these kinds that are still missing are put, and then the rest follows
  fill : (l : Contents) (n : List ℕ) (sh : List Shape) (o : ElementKind) (todo : List ℕ) (before : List Rec) → AllByRecursion (CanFill o) todo
      → ((extra : List Rec) → list_all (λ k. among (kinds_in (before ++ extra)) k) todo ≡ true → CanEnd ρ (Body l n sh o (before ++ extra)))
      → CanEnd ρ (Body l n sh o before)
  fill l n sh o [] before can ends = subst (λ b. CanEnd ρ (Body l n sh o b)) (append-nil before) (ends [] refl)
  fill l n sh o (k ∷ ks) before can ends = cases (among (kinds_in before) k) refl (λ b e. fill l n sh o ks b can.1 e) where
    stays_among : (first extra : List Rec) → among (kinds_in first) k ≡ true → among (kinds_in (first ++ extra)) k ≡ true
    stays_among first extra h =
        ap (λ ks. among ks k) (map-append (λ r. r.kind) first extra) ∙ list_any-append (λ j. eqb j k) (kinds_in first) (kinds_in extra) ∙ rw h refl

    cases : (b : Bool) → among (kinds_in before) k ≡ b
        → ((first : List Rec) → ((extra : List Rec) → list_all (λ j. among (kinds_in (first ++ extra)) j) ks ≡ true → CanEnd ρ (Body l n sh o (first ++ extra))) → CanEnd ρ (Body l n sh o first))
        → CanEnd ρ (Body l n sh o before)
    cases true h again = again before (λ extra whole. ends extra (rw (stays_among before extra h) whole))
    cases false h again =
        let put = can.0 in
        let r = put.filler in
        let here : among (kinds_in (before ++ r ∷ [])) k ≡ true =
        ap (λ ks. among ks k) (map_push (λ r. r.kind) before r) ∙ list_any-append (λ j. eqb j k) (kinds_in before) (r.kind ∷ []) ∙ rw (h, eq-eqb r.kind k put.blank.kind_is) refl in
        let stands : may_stand o (kinds_in before) r.kind ≡ true = subst (λ j. may_stand o (kinds_in before) j ≡ true) (sym put.blank.kind_is) (put.stands (kinds_in before) h) in
        after_move (Body l n sh o before) (Body l n sh o (before ++ r ∷ [])) r k put.blank (put_before l n sh o before r stands)
        (again (before ++ r ∷ []) (λ extra whole.
        let grouped : (before ++ r ∷ []) ++ extra ≡ before ++ r ∷ extra = append_assoc before (r ∷ []) extra in
        let all : list_all (λ j. among (kinds_in (before ++ r ∷ extra)) j) ks ≡ true = subst (λ b. list_all (λ j. among (kinds_in b) j) ks ≡ true) grouped whole in
        let first : among (kinds_in (before ++ r ∷ extra)) k ≡ true = subst (λ b. among (kinds_in b) k ≡ true) grouped (stays_among (before ++ r ∷ []) extra here) in
        subst (λ b. CanEnd ρ (Body l n sh o b)) (sym grouped) (ends (r ∷ extra) (rw first all))))

  ends_body : (l : Contents) (n : List ℕ) (sh : List Shape) (o : ElementKind) (before : List Rec) → CanEnd ρ (Body l n sh o before)
  ends_body l n sh o before = fill l n sh o (required o) before (can_fill o) (λ extra whole. put_xy l n sh o (before ++ extra) whole)

  ends_opened : (l : Contents) → AreFew l.cells → CanEnd ρ (Opened l)
  unfolding next_state
  ends_opened l few =
      let f = good.names l.cells few in
      after_move (Opened l) (Named l (trimmed f.name.body)) f.name kinds.STRNAME f.blank (rw (eq-eqb f.name.kind kinds.STRNAME f.blank.kind_is, f.free) refl) (ends_named l (trimmed f.name.body))

  ends_titled : (dates : List ℕ) → CanEnd ρ (Titled dates)
  unfolding next_state
  ends_titled dates = after_move (Titled dates) (Between (record { dates = dates; units = zeros_8 ++ zeros_8; cells = [] })) _ kinds.UNITS blank_units refl (ends_between _)

  ends_dated : (dates : List ℕ) → CanEnd ρ (Dated dates)
  unfolding next_state
  ends_dated dates = after_move (Dated dates) (Titled dates) _ kinds.LIBNAME blank_libname refl (ends_titled dates)

  ends_headed : CanEnd ρ Headed
  unfolding next_state
  ends_headed = after_move Headed (Dated (zeros_8 ++ zeros_8 ++ zeros_8)) _ kinds.BGNLIB blank_bgnlib refl (ends_dated _)

  ends_start : CanEnd ρ Start
  unfolding next_state
  ends_start = after_move Start Headed _ kinds.HEADER blank_header refl ends_headed

  pub ends : (s : State) → AreFew (cells_before s) → CanEnd ρ s
  ends Start few = ends_start
  ends Headed few = ends_headed
  ends (Dated dates) few = ends_dated dates
  ends (Titled dates) few = ends_titled dates
  ends (Between l) few = ends_between l
  ends (Opened l) few = ends_opened l few
  ends (Named l n) few = ends_named l n
  ends (Within l n sh) few = ends_within l n sh
  ends (Body l n sh o before) few = ends_body l n sh o before
  ends (Unlettered l n sh) few = ends_unlettered l n sh
  ends (Tail l n sh) few = ends_tail l n sh
  ends (Paired l n sh) few = ends_paired l n sh
  ends (Done l) few = ends_done l
