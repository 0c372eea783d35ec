-- Cells without the links that draw nothing draw the same.
use Rattle.std.proofs.Common.{◌≡◌, ℕ, zero, suc, ◌+◌, ◌<◌, ◌≤◌, ◌⊎◌, inl, inr, Bool, true, false, List, [], ◌∷◌, ◌++◌, length, map, take, drop, get_or, set, ◌≢◌, refl, sym, ap, subst, arith, ◌∙◌}
use Rattle.std.specs.Prelude.{filter, slice_get, nat_lt, Option, Some, None, All}
use Rattle.std.specs.List.{AllZip, flat_map}
use Rattle.std.proofs.lemmas.Grind.{common_steps, flat_map-append}
use Rattle.std.proofs.lemmas.List.Elements.{All-filter}
use Rattle.std.proofs.lemmas.List.{get_or_default, get_or-set_same, get_or-set_other, length-set}
use Rattle.std.proofs.lemmas.Bool.{cases_eq}
use Rattle.std.specs.Vec.{vec_items}
use Rattle.gds_grammar.specs.Values.{shape_of}
use Rattle.gds_cells.specs.declared.shape.Shape.{Shape}
use Rattle.std.proofs.lemmas.Bool.Decides.{nat_tests}
use Rattle.gds_cells.specs.declared.cell.Cell.{Cell}
use Rattle.gds_cells.specs.declared.link.Link.{Link}
use Rattle.gds_cells.specs.declared.placement.Placement.{Placement}
use Rattle.gds_cells.specs.Copies.{Copy, own_copy, carry_copy, copies}
use Rattle.gds_cells.specs.Graphs.{item}
use Rattle.gds_cells.specs.Links.{singles}
use Rattle.gds_cells.specs.steps.Counting.{links_in, IsCapped, AreCounted}
use Rattle.gds_shape.specs.declared.bounds.Bounds.{Bounds}
use Rattle.gds_flatten.specs.steps.Framing.{IsRight, AreHeld, extent_at}
use Rattle.gds_flatten.specs.steps.Idle.{is_busy, IsBusy}
use Rattle.gds_cells.specs.steps.Walks.{singles_of, singles_in, own_in, hierarchy}
use Rattle.gds_flatten.proofs.Tight.{all_first, all_rest}

abbrev pub through : (ℕ → List Copy) → ℕ × Placement → List Copy
through below s = map (carry_copy s.1) (below s.0)

same_link : (f g : ℕ → List Copy) (c : ℕ) (ps : List Placement) → f c ≡ g c → flat_map (through f) (map (λ p. (c, p)) ps) ≡ flat_map (through g) (map (λ p. (c, p)) ps)
same_link f g c [] same = refl
same_link f g c (p ∷ ps) same = rw (same, same_link f g c ps same) refl

idle_link : (g : ℕ → List Copy) (c : ℕ) (ps : List Placement) → g c ≡ [] → flat_map (through g) (map (λ p. (c, p)) ps) ≡ []
idle_link g c [] none = refl
idle_link g c (p ∷ ps) none = rw (none, idle_link g c ps none) refl

none_of : (cs : List Copy) (count : ℕ) → IsCapped (length cs) count → nat_lt 0 count ≡ false → cs ≡ []
none_of [] count capped idle = refl
none_of (c ∷ cs) count capped idle = absurd (some capped.exact) where
  zero_count : count ≡ 0
  zero_count = grind (arith, nat_tests, idle)

  some : ((count ≡ length (c ∷ cs)) ⊎ ((count ≡ 4000001) × (4000001 ≤ length (c ∷ cs)))) → ⊥
  some (inl e) = let z = zero_count in grind (arith, common_steps, e, z)
  some (inr (full, large)) = let z = zero_count in omega (arith, full, z)

pub single_links : (o : Option Cell) → singles_in o ≡ flat_map singles_of (links_in o)
single_links None = refl
single_links (Some c) = refl

-- what is told of cells place by place is told of what stands at an index
pub zipped_at : {X : Type 0} (R : Cell → Cell → Type 0) (f g : Option Cell → X) → f None ≡ g None → ((x y : Cell) → R x y → f (Some y) ≡ g (Some x)) → (old new : List Cell) → AllZip R old new
    → (c : ℕ) → f (slice_get new c) ≡ g (slice_get old c)
zipped_at R f g none some [] [] all c = none
zipped_at R f g none some (x ∷ xs) (y ∷ ys) all zero = some x y all.0
zipped_at R f g none some (x ∷ xs) (y ∷ ys) all (suc c) = zipped_at R f g none some xs ys all.1 c
zipped_at R f g none some [] (y ∷ ys) all c = absurd all
zipped_at R f g none some (x ∷ xs) [] all c = absurd all

module _ (counts : List ℕ) (old new : List Cell) (busy : AllZip (IsBusy counts) old new) where
  pub busy_own : (c : ℕ) → own_in (slice_get new c) ≡ own_in (slice_get old c)
  busy_own = zipped_at (IsBusy counts) own_in own_in refl (λ x y b. ap (λ ss. map (λ (s : Shape). shape_of s.element.now) (flat_map vec_items ss.items)) b.shapes) old new busy

  busy_links : (c : ℕ) → links_in (slice_get new c) ≡ filter (is_busy counts) (links_in (slice_get old c))
  busy_links = zipped_at (IsBusy counts) links_in (λ o. filter (is_busy counts) (links_in o)) refl (λ x y b. b.links) old new busy

  link_step : (f g : ℕ → List Copy) (l : Link) (links : List Link) (b : Bool) → is_busy counts l ≡ b → f l.cell ≡ g l.cell → (is_busy counts l ≡ false → g l.cell ≡ [])
      → flat_map (through f) (flat_map singles_of (filter (is_busy counts) links)) ≡ flat_map (through g) (flat_map singles_of links)
      → flat_map (through f) (flat_map singles_of (filter (is_busy counts) (l ∷ links))) ≡ flat_map (through g) (flat_map singles_of (l ∷ links))
  link_step f g l links true is same idle rest =
      rw is (flat_map-append (through f) (singles_of l) (flat_map singles_of (filter (is_busy counts) links))
      ∙ rw (same_link f g l.cell (singles l) same, rest) (sym (flat_map-append (through g) (singles_of l) (flat_map singles_of links))))
  link_step f g l links false is same idle rest =
      rw is (rest ∙ sym (flat_map-append (through g) (singles_of l) (flat_map singles_of links) ∙ rw (idle_link g l.cell (singles l) (idle is)) refl))

  links_same : (n : ℕ) (links : List Link) → All (λ l. AreCounted old counts n l.cell) links
      → ((c : ℕ) → AreCounted old counts n c → copies (hierarchy new) n c ≡ copies (hierarchy old) n c)
      → ((c : ℕ) → AreCounted old counts n c → nat_lt 0 (item counts c) ≡ false → copies (hierarchy old) n c ≡ [])
      → flat_map (through (copies (hierarchy new) n)) (flat_map singles_of (filter (is_busy counts) links))
      ≡ flat_map (through (copies (hierarchy old) n)) (flat_map singles_of links)
  links_same n [] counted same idle = refl
  links_same n (l ∷ links) counted same idle =
      let here = all_first (λ m. AreCounted old counts n m.cell) l links counted in
      link_step (copies (hierarchy new) n) (copies (hierarchy old) n) l links (is_busy counts l) refl (same l.cell here) (idle l.cell here)
      (links_same n links (all_rest (λ m. AreCounted old counts n m.cell) l links counted) same idle)

  counted_here : (n c : ℕ) → AreCounted old counts n c → IsCapped (length (copies (hierarchy old) n c)) (item counts c)
  unfolding AreCounted copies
  counted_here zero c h = h
  counted_here (suc n) c h = h.0

  idle_here : (n c : ℕ) → AreCounted old counts n c → nat_lt 0 (item counts c) ≡ false → copies (hierarchy old) n c ≡ []
  idle_here n c h idle = none_of (copies (hierarchy old) n c) (item counts c) (counted_here n c h) idle

  pub busy_same : (n c : ℕ) → AreCounted old counts n c → copies (hierarchy new) n c ≡ copies (hierarchy old) n c
  unfolding AreCounted copies
  busy_same zero c h = refl
  busy_same (suc n) c h =
      rw (busy_own c, single_links (slice_get new c), single_links (slice_get old c), busy_links c)
      (ap (λ cs. map own_copy (own_in (slice_get old c)) ++ cs) (links_same n (links_in (slice_get old c)) h.1 (busy_same n) (idle_here n)))

  pub busy_counted : (n c : ℕ) → AreCounted old counts n c → AreCounted new counts n c
  unfolding AreCounted
  busy_counted zero c h = h
  busy_counted (suc n) c h = (
    subst (λ cs. IsCapped (length cs) (item counts c)) (sym (busy_same (suc n) c h)) h.0,
    subst (All (λ l. AreCounted new counts n l.cell)) (sym (busy_links c))
        (All-filter (is_busy counts) (λ l. AreCounted new counts n l.cell) (links_in (slice_get old c)) (λ k d lt. busy_counted n _ (h.1 k d lt))),
  )

  -- the copies are the same, and so are their extents
  pub busy_held : (extents : List (Option Bounds)) (n c : ℕ) → AreCounted old counts n c → AreHeld old extents n c → AreHeld new extents n c
  unfolding AreCounted AreHeld
  busy_held extents zero c counted held = held
  busy_held extents (suc n) c counted held = (
    subst (λ cs. IsRight cs (extent_at extents c)) (sym (busy_same (suc n) c counted)) held.0,
    subst (All (λ l. AreHeld new extents n l.cell)) (sym (busy_links c)) (All-filter (is_busy counts) (λ l. AreHeld new extents n l.cell) (links_in (slice_get old c))
        (λ k d lt. busy_held extents n _ (counted.1 k d lt) (held.1 k d lt))),
  )

-- ---- one after another

pub record AreChanged {X : Type 0} (R : X → X → Type 0) (old new : List X) (i : ℕ) : Type 0 where
  pub long : length new ≡ length old
  pub done : (k : ℕ) (d : X) → k < i → k < length old → R (get_or old k d) (get_or new k d)
  pub rest : (k : ℕ) (d : X) → i ≤ k → get_or new k d ≡ get_or old k d

pub changed_none : {X : Type 0} (R : X → X → Type 0) (xs : List X) → AreChanged R xs xs 0
changed_none R xs = record { long = refl; done = λ k d lt within. absurd (omega (arith, lt)); rest = λ k d le. refl }

pub changed_next : {X : Type 0} (R : X → X → Type 0) (old new : List X) (i : ℕ) (c at : X) → i < length new → AreChanged R old new i → at ≡ get_or new i at → R at c
    → AreChanged R old (set new i c) (i + 1)
changed_next {X = X} R old new i c at within h at_is changed = record {
  long = length-set new i c ∙ h.long;
  done = λ k d lt in_old. cases k d in_old (cases_eq k i) (λ apart. h.done k d (omega (arith, lt, apart)) in_old);
  rest = λ k d le.
      let apart : k ≢ i = omega (arith, le) in
      get_or-set_other new i k c d apart ∙ h.rest k d (omega (arith, le));
} where
  cases : (k : ℕ) (d : X) → k < length old → ((k ≡ i) ⊎ (k ≡ i → ⊥)) → ((k ≡ i → ⊥) → R (get_or old k d) (get_or new k d)) → R (get_or old k d) (get_or (set new i c) k d)
  cases k d in_old (inl e) before =
      let now : get_or (set new i c) k d ≡ c = ap (λ j. get_or (set new i c) j d) e ∙ get_or-set_same new i c d within in
      let was : get_or old k d ≡ at = sym (h.rest k d (omega (arith, e))) ∙ ap (λ j. get_or new j d) e ∙ get_or_default new i d at within ∙ sym at_is in
      subst (λ x. R x (get_or (set new i c) k d)) (sym was) (subst (R at) (sym now) changed)
  cases k d in_old (inr apart) before =
      subst (R (get_or old k d)) (sym (get_or-set_other new i k c d apart)) (before apart)

pub changed_all : {X : Type 0} (R : X → X → Type 0) (old new : List X) (i : ℕ) → (i < length new → ⊥) → AreChanged R old new i → AllZip R old new
changed_all {X = X} R old new i ended h = zipped old new h.long (λ k d lt. h.done k d (let long = h.long in omega (arith, lt, ended, long)) lt) where
  zipped : (xs ys : List X) → length ys ≡ length xs → ((k : ℕ) (d : X) → k < length xs → R (get_or xs k d) (get_or ys k d)) → AllZip R xs ys
  zipped [] [] long each = tt
  zipped (x ∷ xs) (y ∷ ys) long each = (each 0 x (omega arith), zipped xs ys (omega (arith, long)) (λ k d lt. each (suc k) d (omega (arith, lt))))
  zipped [] (y ∷ ys) long each = absurd (omega (arith, long))
  zipped (x ∷ xs) [] long each = absurd (omega (arith, long))

-- a list that was written through a slice of all of it
pub written_back : {X : Type 0} (n : ℕ) (new old : List X) → length new ≡ n → length old ≡ n → take n (new ++ drop (length new) old) ≡ new
written_back n new old long was = grind (arith, common_steps, long, was)

pub changed_back : {X : Type 0} (R : X → X → Type 0) (n : ℕ) (new old xs : List X) → length new ≡ length xs → length xs ≡ n → xs ≡ old → AllZip R xs new
    → (take n (new ++ drop (length new) old) ≡ new) × AllZip R old new
changed_back R n new old xs same long is all = (written_back n new old (same ∙ long) (sym (ap length is) ∙ long), subst (λ ys. AllZip R ys new) is all)
