-- What is taken is viable, what is refused is not, and which rule it breaks.
use Rattle.std.proofs.Common.{◌≡◌, ℕ, suc, ◌+◌, ◌^◌, ◌<◌, ◌≤◌, Bool, true, false, cond, eqb, List, [], ◌∷◌, ◌++◌, length, Result, refl, sym, subst, ◌∙◌, arith, inl, inr, length-append}
use Rattle.std.specs.Prelude.{Option, Some, None}
use Rattle.std.specs.List.{AllByRecursion}
use Rattle.gds_record.specs.declared.kind.TheConstants as kinds
use Rattle.gds_record.specs.Records.{Rec, IsRecord}
use Rattle.gds_record.specs.Numbers.{trimmed}
use Rattle.gds_grammar.specs.declared.element.ElementKind.{ElementKind}
use Rattle.gds_grammar.specs.declared.error.Refusal.{Refusal}
use Rattle.gds_grammar.specs.declared.error.Refusal.TheVariants.{Unexpected, BadXY, NotClosed, DuplicateCell}
use Rattle.gds_grammar.specs.Forms.{among, is_well}
use Rattle.gds_grammar.specs.Values.{Shape, Cell, Contents}
use Rattle.gds_grammar.specs.Elements.{opening, may_stand, kinds_in, is_whole, are_points, is_closed, has_string, shapes_in}
use Rattle.gds_grammar.specs.Grammar.{Rules, has_name, no_rules, points_alone, points_and_closing, all_rules, library_kinds, IsViable}
use Rattle.gds_grammar.specs.Machine.{State, Start, Headed, Dated, Titled, Between, Opened, Named, Within, Body, Unlettered, Tail, Paired, Done, fine, refuse, expect, with_cell, behind_xy, opened, within, at_xy, next_state, step, run}
use Rattle.gds_grammar.specs.Laws.{IsWhy, RefusedAtTheFirst}
use Rattle.gds_grammar.proofs.Runs.{fine_is, not_fine, chosen, only_true, only_false, expect_ok, bind_ok, run_append, run_one, run_refused}
use Rattle.gds_grammar.proofs.Back.{run_is_library, library_runs}
use Rattle.gds_grammar.proofs.Ending.{TakesBlank, cells_before, CanEnd, Always, BelowLimit, ends, blank_none, blank_alone, blank_closing, blank_all}

pub all_append : {A : Type 0} (P : A → Type 0) (xs ys : List A) → AllByRecursion P xs → AllByRecursion P ys → AllByRecursion P (xs ++ ys)
all_append P [] ys h k = k
all_append P (x ∷ xs) ys h k = (h.0, all_append P xs ys h.1 k)

-- ---- each record brings at most one cell

abbrev few : State → ℕ
few s = length (cells_before s)

module _ (ρ : Rules) where
  few_at : (s t : State) (k : ℕ) → fine s ≡ fine t → few s ≤ k → few t ≤ k
  few_at s t k e h = subst (λ u. few u ≤ k) (fine_is s t e) h

  few_expected : (kind : ℕ) (r : Rec) (s t : State) (k : ℕ) → expect kind r s ≡ fine t → few s ≤ k → few t ≤ k
  few_expected kind r s t k e h = subst (λ u. few u ≤ k) ((expect_ok kind r s t e).1) h

  few_opened : (l : Contents) (n : List ℕ) (sh : List Shape) (r : Rec) (t : State) (o : Option ElementKind) → opened l n sh r o ≡ fine t → few t ≤ suc (length l.cells)
  few_opened l n sh r t (Some o) e = few_at (Body l n sh o []) t (suc (length l.cells)) e (omega arith)
  few_opened l n sh r t None e =
      few_expected kinds.ENDSTR r (Between (with_cell l n sh)) t (suc (length l.cells)) e (omega (arith, length-append l.cells (record { name = n; shapes = sh } ∷ [])))

  few_behind : (b : Bool) (l : Contents) (n : List ℕ) (sh : List Shape) → few (behind_xy b l n sh) ≡ length l.cells
  few_behind true l n sh = refl
  few_behind false l n sh = refl

  few_more : (s t : State) (r : Rec) → next_state ρ s r ≡ fine t → few t ≤ suc (few s)
  unfolding next_state
  few_more Start t r e = few_expected kinds.HEADER r Headed t 1 e (omega arith)
  few_more Headed t r e = few_expected kinds.BGNLIB r (Dated r.body) t 1 e (omega arith)
  few_more (Dated dates) t r e =
      elim (chosen (eqb r.kind kinds.LIBNAME) (fine (Titled dates)) (cond (among library_kinds r.kind) (fine (Dated dates)) (refuse Unexpected)) (fine t) e) [
        | inl p ↦ few_at (Titled dates) t 1 p.1 (omega arith)
        | inr p ↦ few_at (Dated dates) t 1 (only_true (among library_kinds r.kind) (fine (Dated dates)) Unexpected t p.1).1 (omega arith)
      ]
  few_more (Titled dates) t r e =
      let next : State = Between (record { dates = dates; units = r.body; cells = [] }) in
      elim (chosen (among library_kinds r.kind) (fine (Titled dates)) (expect kinds.UNITS r next) (fine t) e) [
        | inl p ↦ few_at (Titled dates) t 1 p.1 (omega arith)
        | inr p ↦ few_expected kinds.UNITS r next t 1 p.1 (omega arith)
      ]
  few_more (Between l) t r e =
      elim (chosen (eqb r.kind kinds.BGNSTR) (fine (Opened l)) (expect kinds.ENDLIB r (Done l)) (fine t) e) [
        | inl p ↦ few_at (Opened l) t (suc (length l.cells)) p.1 (omega arith)
        | inr p ↦ few_expected kinds.ENDLIB r (Done l) t (suc (length l.cells)) p.1 (omega arith)
      ]
  few_more (Opened l) t r e =
      let p = only_true (eqb r.kind kinds.STRNAME) (cond (ρ.taken l.cells (trimmed r.body)) (refuse DuplicateCell) (fine (Named l (trimmed r.body)))) Unexpected t e in
      let q = only_false (ρ.taken l.cells (trimmed r.body)) (fine (Named l (trimmed r.body))) DuplicateCell t p.1 in
      few_at (Named l (trimmed r.body)) t (suc (length l.cells)) q.1 (omega arith)
  few_more (Named l n) t r e =
      elim (chosen (eqb r.kind kinds.STRCLASS) (fine (Within l n [])) (within l n [] r) (fine t) e) [
        | inl p ↦ few_at (Within l n []) t (suc (length l.cells)) p.1 (omega arith)
        | inr p ↦ few_opened l n [] r t (opening r.kind) p.1
      ]
  few_more (Within l n sh) t r e = few_opened l n sh r t (opening r.kind) e
  few_more (Body l n sh o before) t r e =
      let next : State = behind_xy (has_string o) l n (sh ++ shapes_in o before r.body) in
      let more : State = Body l n sh o (before ++ r ∷ []) in
      elim (chosen (eqb r.kind kinds.XY) (at_xy ρ l n sh o before r.body) (cond (may_stand o (kinds_in before) r.kind) (fine more) (refuse Unexpected)) (fine t) e) [
        | inl p ↦
            let q = only_true (is_whole o (kinds_in before)) _ Unexpected t p.1 in
            let k = only_true (ρ.points o r.body) _ BadXY t q.1 in
            let m = only_true (ρ.closed o r.body) (fine next) NotClosed t k.1 in
            few_at next t (suc (length l.cells)) m.1 (omega (arith, few_behind (has_string o) l n (sh ++ shapes_in o before r.body)))
        | inr p ↦ few_at more t (suc (length l.cells)) (only_true (may_stand o (kinds_in before) r.kind) (fine more) Unexpected t p.1).1 (omega arith)
      ]
  few_more (Unlettered l n sh) t r e = few_expected kinds.STRING r (Tail l n sh) t (suc (length l.cells)) e (omega arith)
  few_more (Tail l n sh) t r e =
      elim (chosen (eqb r.kind kinds.PROPATTR) (fine (Paired l n sh)) (expect kinds.ENDEL r (Within l n sh)) (fine t) e) [
        | inl p ↦ few_at (Paired l n sh) t (suc (length l.cells)) p.1 (omega arith)
        | inr p ↦ few_expected kinds.ENDEL r (Within l n sh) t (suc (length l.cells)) p.1 (omega arith)
      ]
  few_more (Paired l n sh) t r e = few_expected kinds.PROPVALUE r (Tail l n sh) t (suc (length l.cells)) e (omega arith)
  few_more (Done l) t r e = not_fine Unexpected t e

  few_after : (s t : State) (rs : List Rec) → run ρ s rs ≡ fine t → few t ≤ few s + length rs
  unfolding run
  few_after s t [] e = few_at s t (few s + 0) e (omega arith)
  few_after s t (r ∷ rs) e =
      let b = bind_ok (step ρ s r) (λ u. run ρ u rs) t e in
      let p = only_true (is_well r) (next_state ρ s r) Unexpected b.0 b.1 in
      let here = few_more s b.0 r p.1 in
      let later = few_after b.0 t rs b.2 in
      omega (arith, here, later)

  -- ---- taken is viable, refused is not

  pub ends_viable : (rs : List Rec) (s : State) → AllByRecursion IsRecord rs → run ρ Start rs ≡ fine s → CanEnd ρ s → IsViable ρ rs
  ends_viable rs s fit e c =
      record { more = c.more; value = c.value; library = run_is_library ρ (rs ++ c.more) c.value (all_append IsRecord rs c.more fit c.fit) (run_append ρ Start rs c.more ∙ rw e c.runs) }

  pub viable : TakesBlank ρ BelowLimit → (rs : List Rec) (s : State) → AllByRecursion IsRecord rs → length rs < 2 ^ 64 → run ρ Start rs ≡ fine s → IsViable ρ rs
  viable good rs s fit lt e = ends_viable rs s fit e (ends ρ BelowLimit good s (omega (arith, few_after Start s rs e)))

  run_ends : (rs : List Rec) (s : State) (r : Rec) (e : Refusal) → run ρ Start rs ≡ fine s → step ρ s r ≡ refuse e → run ρ Start (rs ++ r ∷ []) ≡ refuse e
  run_ends rs s r e h k = run_append ρ Start rs (r ∷ []) ∙ rw h (run_refused ρ s r [] e k)

  pub not_viable : (rs : List Rec) (s : State) (r : Rec) (e : Refusal) → run ρ Start rs ≡ fine s → step ρ s r ≡ refuse e → IsViable ρ (rs ++ r ∷ []) → ⊥
  not_viable rs s r e h k v =
      let all = library_runs ρ ((rs ++ r ∷ []) ++ v.more) v.value v.library in
      let parts : run ρ Start ((rs ++ r ∷ []) ++ v.more) ≡ refuse e = run_append ρ Start (rs ++ r ∷ []) v.more ∙ rw (run_ends rs s r e h k) refl in
      not_fine e (Done v.value) (sym parts ∙ all)

-- ---- looser rules take what stricter ones take

pub record IsLooser (σ ρ : Rules) : Type 0 where
  pub points : (o : ElementKind) (xy : List ℕ) → ρ.points o xy ≡ true → σ.points o xy ≡ true
  pub closed : (o : ElementKind) (xy : List ℕ) → ρ.closed o xy ≡ true → σ.closed o xy ≡ true
  pub taken : (cells : List Cell) (n : List ℕ) → ρ.taken cells n ≡ false → σ.taken cells n ≡ false

module _ (σ ρ : Rules) (looser : IsLooser σ ρ) where
  move_looser : (s t : State) (r : Rec) → next_state ρ s r ≡ fine t → next_state σ s r ≡ fine t
  unfolding next_state
  move_looser Start t r e = e
  move_looser Headed t r e = e
  move_looser (Dated dates) t r e = e
  move_looser (Titled dates) t r e = e
  move_looser (Between l) t r e = e
  move_looser (Opened l) t r e =
      let p = only_true (eqb r.kind kinds.STRNAME) (cond (ρ.taken l.cells (trimmed r.body)) (refuse DuplicateCell) (fine (Named l (trimmed r.body)))) Unexpected t e in
      let q = only_false (ρ.taken l.cells (trimmed r.body)) (fine (Named l (trimmed r.body))) DuplicateCell t p.1 in
      rw (p.0, looser.taken l.cells (trimmed r.body) q.0) q.1
  move_looser (Named l n) t r e = e
  move_looser (Within l n sh) t r e = e
  move_looser (Body l n sh o before) t r e =
      let next : State = behind_xy (has_string o) l n (sh ++ shapes_in o before r.body) in
      let more : State = Body l n sh o (before ++ r ∷ []) in
      elim (chosen (eqb r.kind kinds.XY) (at_xy ρ l n sh o before r.body) (cond (may_stand o (kinds_in before) r.kind) (fine more) (refuse Unexpected)) (fine t) e) [
        | inl p ↦
            let q = only_true (is_whole o (kinds_in before)) _ Unexpected t p.1 in
            let k = only_true (ρ.points o r.body) _ BadXY t q.1 in
            let m = only_true (ρ.closed o r.body) (fine next) NotClosed t k.1 in
            rw (p.0, q.0, looser.points o r.body k.0, looser.closed o r.body m.0) m.1
        | inr p ↦ rw p.0 p.1
      ]
  move_looser (Unlettered l n sh) t r e = e
  move_looser (Tail l n sh) t r e = e
  move_looser (Paired l n sh) t r e = e
  move_looser (Done l) t r e = e

  pub run_looser : (s t : State) (rs : List Rec) → run ρ s rs ≡ fine t → run σ s rs ≡ fine t
  unfolding run
  run_looser s t [] e = e
  run_looser s t (r ∷ rs) e =
      let b = bind_ok (step ρ s r) (λ u. run ρ u rs) t e in
      let p = only_true (is_well r) (next_state ρ s r) Unexpected b.0 b.1 in
      rw (p.0, move_looser s b.0 r p.1) (run_looser b.0 t rs b.2)

none_looser : IsLooser no_rules all_rules
none_looser = record { points = λ o xy h. refl; closed = λ o xy h. refl; taken = λ cells n h. refl }

alone_looser : IsLooser points_alone all_rules
alone_looser = record { points = λ o xy h. h; closed = λ o xy h. refl; taken = λ cells n h. refl }

closing_looser : IsLooser points_and_closing all_rules
closing_looser = record { points = λ o xy h. h; closed = λ o xy h. h; taken = λ cells n h. refl }

pub none_of_alone : IsLooser no_rules points_alone
none_of_alone = record { points = λ o xy h. refl; closed = λ o xy h. refl; taken = λ cells n h. refl }

pub alone_of_closing : IsLooser points_alone points_and_closing
alone_of_closing = record { points = λ o xy h. h; closed = λ o xy h. refl; taken = λ cells n h. refl }

-- ---- which rule a refused record breaks

-- What the rules that are no stricter do at that record. Here f is how rules step or move.
abbrev WhyAt : (Rules → Result State Refusal) → Refusal → Type 0
WhyAt f Unexpected = f no_rules ≡ refuse Unexpected
WhyAt f BadXY = (t : State) × (f no_rules ≡ fine t) × (f points_alone ≡ refuse BadXY)
WhyAt f NotClosed = (t : State) × (f points_alone ≡ fine t) × (f points_and_closing ≡ refuse NotClosed)
WhyAt f DuplicateCell = (t : State) × (f points_and_closing ≡ fine t) × (f all_rules ≡ refuse DuplicateCell)

refusal_is : (d e : Refusal) → refuse d ≡ refuse e → d ≡ e
refusal_is d e h = cc

not_refused : {A : Type 0} (t : State) (e : Refusal) → fine t ≡ refuse e → A
not_refused t e h = absurd cc

expect_err : (kind : ℕ) (r : Rec) (s : State) (e : Refusal) → expect kind r s ≡ refuse e → Unexpected ≡ e
expect_err kind r s e h =
    elim (chosen (eqb r.kind kind) (fine s) (refuse Unexpected) (refuse e) h) [ inl p ↦ not_refused s e p.1 | inr p ↦ refusal_is Unexpected e p.1 ]

-- where no rule is asked, only Unexpected comes
plain : (s : State) (r : Rec) (e : Refusal) → ((ρ : Rules) → next_state ρ s r ≡ next_state all_rules s r) → Unexpected ≡ e → next_state all_rules s r ≡ refuse e → WhyAt (λ ρ. next_state ρ s r) e
plain s r e same is h = subst (λ d. next_state all_rules s r ≡ refuse d → WhyAt (λ ρ. next_state ρ s r) d) is (λ k. same no_rules ∙ k) h

opened_err : (l : Contents) (n : List ℕ) (sh : List Shape) (r : Rec) (o : Option ElementKind) (e : Refusal) → opened l n sh r o ≡ refuse e → Unexpected ≡ e
opened_err l n sh r (Some o) e h = not_refused (Body l n sh o []) e h
opened_err l n sh r None e h = expect_err kinds.ENDSTR r (Between (with_cell l n sh)) e h

-- the name is taken, or the record is no STRNAME
why_opened : (l : Contents) (r : Rec) (e : Refusal) → next_state all_rules (Opened l) r ≡ refuse e → WhyAt (λ ρ. next_state ρ (Opened l) r) e
unfolding next_state
why_opened l r e h =
    let named : State = Named l (trimmed r.body) in
    elim (chosen (eqb r.kind kinds.STRNAME) (cond (has_name l.cells (trimmed r.body)) (refuse DuplicateCell) (fine named)) (refuse Unexpected) (refuse e) h) [
      | inl p ↦ elim (chosen (has_name l.cells (trimmed r.body)) (refuse DuplicateCell) (fine named) (refuse e) p.1) [
        | inl q ↦
            let shown : WhyAt (λ ρ. next_state ρ (Opened l) r) DuplicateCell = (named, rw p.0 refl, rw (p.0, q.0) refl) in
            subst (WhyAt (λ ρ. next_state ρ (Opened l) r)) (refusal_is DuplicateCell e q.1) shown
        | inr q ↦ not_refused named e q.1
      ]
      | inr p ↦
          let shown : WhyAt (λ ρ. next_state ρ (Opened l) r) Unexpected = rw p.0 refl in
          subst (WhyAt (λ ρ. next_state ρ (Opened l) r)) (refusal_is Unexpected e p.1) shown
    ]

why_body : (l : Contents) (n : List ℕ) (sh : List Shape) (o : ElementKind) (before : List Rec) (r : Rec) (e : Refusal)
    → next_state all_rules (Body l n sh o before) r ≡ refuse e → WhyAt (λ ρ. next_state ρ (Body l n sh o before) r) e
unfolding next_state
why_body l n sh o before r e h =
    let f : Rules → Result State Refusal = λ ρ. next_state ρ (Body l n sh o before) r in
    let next : State = behind_xy (has_string o) l n (sh ++ shapes_in o before r.body) in
    let more : State = Body l n sh o (before ++ r ∷ []) in
    elim (chosen (eqb r.kind kinds.XY) (at_xy all_rules l n sh o before r.body) (cond (may_stand o (kinds_in before) r.kind) (fine more) (refuse Unexpected)) (refuse e) h) [
      | inl p ↦ elim (chosen (is_whole o (kinds_in before)) (cond (are_points o r.body) (cond (is_closed o r.body) (fine next) (refuse NotClosed)) (refuse BadXY)) (refuse Unexpected) (refuse e) p.1) [
        | inl q ↦ elim (chosen (are_points o r.body) (cond (is_closed o r.body) (fine next) (refuse NotClosed)) (refuse BadXY) (refuse e) q.1) [
          | inl k ↦ elim (chosen (is_closed o r.body) (fine next) (refuse NotClosed) (refuse e) k.1) [
            | inl m ↦ not_refused next e m.1
            | inr m ↦
                let shown : WhyAt (λ ρ. next_state ρ (Body l n sh o before) r) NotClosed = (next, rw (p.0, q.0, k.0) refl, rw (p.0, q.0, k.0, m.0) refl) in
                subst (WhyAt (λ ρ. next_state ρ (Body l n sh o before) r)) (refusal_is NotClosed e m.1) shown
          ]
          | inr k ↦
              let shown : WhyAt (λ ρ. next_state ρ (Body l n sh o before) r) BadXY = (next, rw (p.0, q.0) refl, rw (p.0, q.0, k.0) refl) in
              subst (WhyAt (λ ρ. next_state ρ (Body l n sh o before) r)) (refusal_is BadXY e k.1) shown
        ]
        | inr q ↦
            let shown : WhyAt (λ ρ. next_state ρ (Body l n sh o before) r) Unexpected = rw (p.0, q.0) refl in
            subst (WhyAt (λ ρ. next_state ρ (Body l n sh o before) r)) (refusal_is Unexpected e q.1) shown
      ]
      | inr p ↦ elim (chosen (may_stand o (kinds_in before) r.kind) (fine more) (refuse Unexpected) (refuse e) p.1) [
        | inl q ↦ not_refused more e q.1
        | inr q ↦
            let shown : WhyAt (λ ρ. next_state ρ (Body l n sh o before) r) Unexpected = rw (p.0, q.0) refl in
            subst (WhyAt (λ ρ. next_state ρ (Body l n sh o before) r)) (refusal_is Unexpected e q.1) shown
      ]
    ]

why_move : (s : State) (r : Rec) (e : Refusal) → next_state all_rules s r ≡ refuse e → WhyAt (λ ρ. next_state ρ s r) e
unfolding next_state
why_move Start r e h = plain Start r e (λ ρ. refl) (expect_err kinds.HEADER r Headed e h) h
why_move Headed r e h = plain Headed r e (λ ρ. refl) (expect_err kinds.BGNLIB r (Dated r.body) e h) h
why_move (Dated dates) r e h =
    plain (Dated dates) r e (λ ρ. refl) (elim (chosen (eqb r.kind kinds.LIBNAME) (fine (Titled dates)) (cond (among library_kinds r.kind) (fine (Dated dates)) (refuse Unexpected)) (refuse e) h) [
      | inl p ↦ not_refused (Titled dates) e p.1
      | inr p ↦ elim (chosen (among library_kinds r.kind) (fine (Dated dates)) (refuse Unexpected) (refuse e) p.1) [ inl q ↦ not_refused (Dated dates) e q.1 | inr q ↦ refusal_is Unexpected e q.1 ]
    ]) h
why_move (Titled dates) r e h =
    let next : State = Between (record { dates = dates; units = r.body; cells = [] }) in
    plain (Titled dates) r e (λ ρ. refl) (elim (chosen (among library_kinds r.kind) (fine (Titled dates)) (expect kinds.UNITS r next) (refuse e) h) [
      | inl p ↦ not_refused (Titled dates) e p.1
      | inr p ↦ expect_err kinds.UNITS r next e p.1
    ]) h
why_move (Between l) r e h =
    plain (Between l) r e (λ ρ. refl) (elim (chosen (eqb r.kind kinds.BGNSTR) (fine (Opened l)) (expect kinds.ENDLIB r (Done l)) (refuse e) h) [
      | inl p ↦ not_refused (Opened l) e p.1
      | inr p ↦ expect_err kinds.ENDLIB r (Done l) e p.1
    ]) h
why_move (Opened l) r e h = why_opened l r e h
why_move (Named l n) r e h =
    plain (Named l n) r e (λ ρ. refl) (elim (chosen (eqb r.kind kinds.STRCLASS) (fine (Within l n [])) (within l n [] r) (refuse e) h) [
      | inl p ↦ not_refused (Within l n []) e p.1
      | inr p ↦ opened_err l n [] r (opening r.kind) e p.1
    ]) h
why_move (Within l n sh) r e h = plain (Within l n sh) r e (λ ρ. refl) (opened_err l n sh r (opening r.kind) e h) h
why_move (Body l n sh o before) r e h = why_body l n sh o before r e h
why_move (Unlettered l n sh) r e h = plain (Unlettered l n sh) r e (λ ρ. refl) (expect_err kinds.STRING r (Tail l n sh) e h) h
why_move (Tail l n sh) r e h =
    plain (Tail l n sh) r e (λ ρ. refl) (elim (chosen (eqb r.kind kinds.PROPATTR) (fine (Paired l n sh)) (expect kinds.ENDEL r (Within l n sh)) (refuse e) h) [
      | inl p ↦ not_refused (Paired l n sh) e p.1
      | inr p ↦ expect_err kinds.ENDEL r (Within l n sh) e p.1
    ]) h
why_move (Paired l n sh) r e h = plain (Paired l n sh) r e (λ ρ. refl) (expect_err kinds.PROPVALUE r (Tail l n sh) e h) h
why_move (Done l) r e h = plain (Done l) r e (λ ρ. refl) (refusal_is Unexpected e h) h

step_well : (ρ : Rules) (s : State) (r : Rec) → is_well r ≡ true → step ρ s r ≡ next_state ρ s r
step_well ρ s r h = rw h refl

why_well : (s : State) (r : Rec) (e : Refusal) → is_well r ≡ true → WhyAt (λ ρ. next_state ρ s r) e → WhyAt (λ ρ. step ρ s r) e
why_well s r Unexpected w h = step_well no_rules s r w ∙ h
why_well s r BadXY w h = (h.0, step_well no_rules s r w ∙ h.1, step_well points_alone s r w ∙ h.2)
why_well s r NotClosed w h = (h.0, step_well points_alone s r w ∙ h.1, step_well points_and_closing s r w ∙ h.2)
why_well s r DuplicateCell w h = (h.0, step_well points_and_closing s r w ∙ h.1, step_well all_rules s r w ∙ h.2)

why_step : (s : State) (r : Rec) (e : Refusal) → step all_rules s r ≡ refuse e → WhyAt (λ ρ. step ρ s r) e
why_step s r e h =
    elim (chosen (is_well r) (next_state all_rules s r) (refuse Unexpected) (refuse e) h) [
      | inl p ↦ why_well s r e p.0 (why_move s r e p.1)
      | inr p ↦
          let shown : WhyAt (λ ρ. step ρ s r) Unexpected = rw p.0 refl in
          subst (WhyAt (λ ρ. step ρ s r)) (refusal_is Unexpected e p.1) shown
    ]

-- ---- the law

pub run_more : (ρ : Rules) (rs : List Rec) (s t : State) (r : Rec) → run ρ Start rs ≡ fine s → step ρ s r ≡ fine t → run ρ Start (rs ++ r ∷ []) ≡ fine t
run_more ρ rs s t r h k = run_append ρ Start rs (r ∷ []) ∙ rw h (run_one ρ s t r k)

one_more : (ρ : Rules) → TakesBlank ρ Always → (rs : List Rec) (s t : State) (r : Rec) → AllByRecursion IsRecord rs → IsRecord r → run ρ Start rs ≡ fine s → step ρ s r ≡ fine t → IsViable ρ (rs ++ r ∷ [])
one_more ρ good rs s t r fit fits h k =
    ends_viable ρ (rs ++ r ∷ []) t (all_append IsRecord rs (r ∷ []) fit (fits, tt)) (run_more ρ rs s t r h k) (ends ρ Always good t tt)

pub is_why : (rs : List Rec) (s : State) (r : Rec) (e : Refusal) → AllByRecursion IsRecord rs → IsRecord r → run all_rules Start rs ≡ fine s → WhyAt (λ ρ. step ρ s r) e → IsWhy e (rs ++ r ∷ [])
is_why rs s r Unexpected fit fits h w = not_viable no_rules rs s r Unexpected (run_looser no_rules all_rules none_looser Start s rs h) w
is_why rs s r BadXY fit fits h w = (
  one_more no_rules blank_none rs s w.0 r fit fits (run_looser no_rules all_rules none_looser Start s rs h) w.1,
  not_viable points_alone rs s r BadXY (run_looser points_alone all_rules alone_looser Start s rs h) w.2,
)
is_why rs s r NotClosed fit fits h w = (
  one_more points_alone blank_alone rs s w.0 r fit fits (run_looser points_alone all_rules alone_looser Start s rs h) w.1,
  not_viable points_and_closing rs s r NotClosed (run_looser points_and_closing all_rules closing_looser Start s rs h) w.2,
)
is_why rs s r DuplicateCell fit fits h w = (
  one_more points_and_closing blank_closing rs s w.0 r fit fits (run_looser points_and_closing all_rules closing_looser Start s rs h) w.1,
  not_viable all_rules rs s r DuplicateCell h w.2,
)

pub refused_at_the_first_lem : RefusedAtTheFirst
refused_at_the_first_lem = record {
  taken = λ rs s fit lt h. viable all_rules blank_all rs s fit lt h;
  refused = λ rs s r e fit fits h k. (not_viable all_rules rs s r e h k, is_why rs s r e fit fits h (why_step s r e k));
}
