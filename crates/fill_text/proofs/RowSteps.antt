-- What a step of an iterator over records does to the records that it stands before.
use Rattle.std.proofs.Common.{◌≡◌, ◌<◌, ◌⊎◌, ℕ, zero, suc, List, [], ◌∷◌, ◌++◌, length, Bool, true, false, Option, Some, None, Ok, ◌∙◌, ap, sym, refl, inl, inr, arith, if◌then◌else◌}
use Rattle.csv.specs.Machine.{Read, ends_at_end, field_after, fields_after, is_end, next_record, step}
use Rattle.csv.specs.Reading.{FlexibleStep, Reached, RowStep, default_config, records_from}
use Rattle.csv.proofs.ReadFacts.{rows-end, rows-more}
use Rattle.csv.specs.Records.{Row, fields_of}
use Rattle.csv.specs.declared.parser.Config.{Config}
use Rattle.csv.specs.declared.parser.State.{State}
use Rattle.csv.specs.declared.parser.State.TheVariants as st
use Rattle.csv.specs.declared.reader.Reader.{Reader}
use Rattle.fill_text.specs.steps.Rows.{Enough, StandsBefore}

some_same : {A : Type 0} (a b : A) → Some a ≡ Some b → a ≡ b
some_same a b e = cc e

-- a record takes at least a byte, or is the last of the text
next_shrinks : (cfg : Config) (s : State) (fields : List (List ℕ)) (field text : List ℕ) (p : Read)
    → next_record cfg s fields field text ≡ Some p → (length p.2 < length text) ⊎ ((p.1 ≡ st.StartRecord) × (p.2 ≡ []))
unfolding next_record
next_shrinks cfg s fields field [] p e = by (ends_at_end s) e
  where
    by : (b : Bool) → (if b then Some (fields ++ (field ∷ []), st.StartRecord, []) else None) ≡ Some p → (length p.2 < 0) ⊎ ((p.1 ≡ st.StartRecord) × (p.2 ≡ []))
    by true e =
        let h = some_same (fields ++ (field ∷ []), st.StartRecord, []) p e in
        inr (ap (λ (q : Read). q.1) (sym h), ap (λ (q : Read). q.2) (sym h))
    by false e = cc e
next_shrinks cfg s fields field (c ∷ rest) p e =
    by (is_end (step cfg s c).1) e (next_shrinks cfg (step cfg s c).0 (fields_after (step cfg s c).1 fields field) (field_after (step cfg s c).1 c field) rest p)
  where
    by : (b : Bool)
        → (if b then Some (fields_after (step cfg s c).1 fields field, (step cfg s c).0, rest)
        else next_record cfg (step cfg s c).0 (fields_after (step cfg s c).1 fields field) (field_after (step cfg s c).1 c field) rest) ≡ Some p
        → (next_record cfg (step cfg s c).0 (fields_after (step cfg s c).1 fields field) (field_after (step cfg s c).1 c field) rest ≡ Some p → (length p.2 < length rest) ⊎ ((p.1 ≡ st.StartRecord) × (p.2 ≡ [])))
        → (length p.2 < suc (length rest)) ⊎ ((p.1 ≡ st.StartRecord) × (p.2 ≡ []))
    by true e later =
        let h = some_same (fields_after (step cfg s c).1 fields field, (step cfg s c).0, rest) p e in
        let same : rest ≡ p.2 = ap (λ (q : Read). q.2) h in
        inl (rw (← same) (omega arith))
    by false e later = elim (later e) [ inl less ↦ inl (omega arith) | inr ended ↦ inr ended ]

-- the first record and those behind it
rows_next : (cfg : Config) (n : ℕ) (s : State) (text : List ℕ) (p : Read) → Enough n s text → next_record cfg s [] [] text ≡ Some p
    → (m : ℕ) × Enough m p.1 p.2 × (records_from cfg n s text ≡ p.0 ∷ records_from cfg m p.1 p.2)
unfolding next_record records_from
rows_next cfg n s text p (inr (start, ended)) e = let h : None ≡ Some p = rw (start, ended) at e in cc h
rows_next cfg zero s text p (inl short) e = absurd (omega arith)
rows_next cfg (suc n) s text p (inl short) e =
    let fewer : Enough n p.1 p.2 = elim (next_shrinks cfg s [] [] text p e) [ inl less ↦ inl (omega arith) | inr last ↦ inr last ] in
    (n, fewer, rw e refl)

rows_done : (cfg : Config) (n : ℕ) (s : State) (text : List ℕ) → next_record cfg s [] [] text ≡ None → records_from cfg n s text ≡ []
unfolding records_from
rows_done cfg zero s text e = refl
rows_done cfg (suc n) s text e = rw e refl

-- what is known of a read, at the fields, the state and the bytes that the reader shows
at_reader : (cfg : Config) (whole : List (List (List ℕ))) (m : ℕ) (p : Read) (fields : List (List ℕ)) (s : State) (text : List ℕ)
    → fields ≡ p.0 → p.1 ≡ s → p.2 ≡ text → whole ≡ p.0 ∷ records_from cfg m p.1 p.2 → whole ≡ fields ∷ records_from cfg m s text
at_reader cfg whole m p fields s text f e t h = rw (f, ← e, ← t) h

enough_at_reader : (m : ℕ) (p : Read) (s : State) (text : List ℕ) → p.1 ≡ s → p.2 ≡ text → Enough m p.1 p.2 → Enough m s text
enough_at_reader m p s text e t h = rw (← e, ← t) h

-- a step that gives a record: it is the first of those that the reader stood before
pub stands_next : {R : Type 0} (rem : R → Option (List ℕ)) (a b : Reader R) (left now : ℕ) (rest : List (List (List ℕ))) (row : Row)
    → StandsBefore rem a left rest → RowStep rem a b now (Some (Ok row)) → FlexibleStep a b (Some (Ok row))
    → (more : List (List (List ℕ))) × (rest ≡ fields_of row ∷ more) × StandsBefore rem b now more
unfolding Reached
stands_next rem a b left now rest row stands taken flexible =
    let (z, known, (p, next, fields, (state, bytes))) =
    rows-more rem a b (fields_of row) default_config a.state stands.bytes stands.bytes [] stands.config stands.known (refl, refl) taken.0 in
    let (m, enough, behind) = rows_next default_config stands.count a.state stands.bytes p stands.enough next in (
      records_from default_config m b.state z,
      stands.rows ∙ at_reader default_config _ m p (fields_of row) b.state z fields state bytes behind,
      record {
        plain = taken.0.3 ∙ stands.plain;
        ready = inl taken.1;
        turns = taken.2;
        flexible = flexible ∙ stands.flexible;
        config = taken.0.2 ∙ stands.config;
        bytes = z;
        known = known;
        count = m;
        enough = enough_at_reader m p b.state z state bytes enough;
        rows = refl;
      },
    )

-- a step that gives none: there was none
pub stands_end : {R : Type 0} (rem : R → Option (List ℕ)) (a b : Reader R) (left now : ℕ) (rest : List (List (List ℕ)))
    → StandsBefore rem a left rest → RowStep rem a b now None → rest ≡ []
stands_end rem a b left now rest stands taken =
    stands.rows ∙ rows_done default_config stands.count a.state stands.bytes
    (rows-end rem a b [] default_config stands.bytes stands.config stands.known taken)
