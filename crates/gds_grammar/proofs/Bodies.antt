-- The records of an element, as the code holds them.
use Rattle.std.proofs.Common.{◌≡◌, ℕ, suc, ◌-◌, ◌/◌, ◌%◌, ◌<◌, ◌≤◌, Bool, true, false, eqb, ltb, List, [], ◌∷◌, ◌++◌, length, map, take, drop, append_assoc, length-drop, refl, sym, ap, subst, ◌∙◌, arith}
use Rattle.std.specs.Cmp.{first_so, second_so}
use Rattle.std.specs.Prelude.{◌||◌, ◌&&◌, ◌==◌, Option, Some, None, ℤ, slice_get, IsSome}
use Rattle.std.specs.Borrow.{Bor}
use Rattle.std.specs.Option.{option_copied}
use Rattle.std.specs.Ordering.{int_eq}
use Rattle.std.proofs.lemmas.Bool.Decides.{Decides-int_eq}
use Rattle.std.proofs.lemmas.List.{take_all, drop_all}
use Rattle.std.specs.List.{list_any, list_all, AllByRecursion}
use Rattle.fill_base.specs.declared.place.Point.{Point}
use Rattle.gds_record.specs.declared.records.Record.{Record}
use Rattle.gds_record.specs.Records.{Rec, view}
use Rattle.gds_record.specs.Numbers.{point_of}
use Rattle.gds_grammar.specs.Points.{points_of}
use Rattle.gds_grammar.specs.Forms.{among, has_size, kinds_of_2, kinds_of_4, kinds_of_8, IsWell}
use Rattle.gds_grammar.specs.Elements.{kinds_in, last_of, is_same_point, is_ring, has_count, are_points, body_of}
use Rattle.gds_grammar.specs.declared.element.ElementKind.{ElementKind}
use Rattle.gds_grammar.specs.declared.element.ElementKind.TheVariants.{Boundary}
use Rattle.std.proofs.lemmas.Bool.{eqb-true, ltb-true}
use Rattle.gds_grammar.proofs.Paths.{well_size}

pub among_is : (rs : List Record) (k : ℕ) → among (kinds_in (map view rs)) k ≡ list_any (λ r. r.kind == k) rs
among_is [] k = refl
among_is (r ∷ rs) k = ap (λ b. (r.kind == k) || b) (among_is rs k)

pub all_is : (rs : List Record) (k : ℕ) → list_all (λ j. j == k) (kinds_in (map view rs)) ≡ list_all (λ r. r.kind == k) rs
all_is [] k = refl
all_is (r ∷ rs) k = ap (λ b. (r.kind == k) && b) (all_is rs k)

pub length_is : (rs : List Record) → length (kinds_in (map view rs)) ≡ length rs
length_is [] = refl
length_is (r ∷ rs) = ap suc (length_is rs)

-- ---- points

pub whole_points : (o : ElementKind) (xy : List ℕ) → are_points o xy ≡ true → (length xy % 8 ≡ 0) × (8 ≤ length xy)
whole_points o xy h =
    let front = first_so (ltb 0 (length xy) && eqb (length xy % 8) 0) (has_count o (length xy / 8)) h in
    let some : 0 < length xy = ltb-true 0 (length xy) (first_so (ltb 0 (length xy)) (eqb (length xy % 8) 0) front) in
    let eights : length xy % 8 ≡ 0 = eqb-true (length xy % 8) 0 (second_so (ltb 0 (length xy)) (eqb (length xy % 8) 0) front) in
    (eights, omega (arith, some, eights))

last_point : (p : Point) (xs : List ℕ) → length xs % 8 ≡ 0 → 8 ≤ length xs → last_of p (points_of xs) ≡ point_of (drop (length xs - 8) xs)
last_point p [] m le = absurd (omega arith)
last_point p (a ∷ []) m le = absurd (omega arith)
last_point p (a ∷ b ∷ []) m le = absurd (omega arith)
last_point p (a ∷ b ∷ c ∷ []) m le = absurd (omega arith)
last_point p (a ∷ b ∷ c ∷ d ∷ []) m le = absurd (omega arith)
last_point p (a ∷ b ∷ c ∷ d ∷ e ∷ []) m le = absurd (omega arith)
last_point p (a ∷ b ∷ c ∷ d ∷ e ∷ f ∷ []) m le = absurd (omega arith)
last_point p (a ∷ b ∷ c ∷ d ∷ e ∷ f ∷ g ∷ []) m le = absurd (omega arith)
last_point p (a ∷ b ∷ c ∷ d ∷ e ∷ f ∷ g ∷ h ∷ []) m le = refl
last_point p (a ∷ b ∷ c ∷ d ∷ e ∷ f ∷ g ∷ h ∷ r ∷ rest) m le =
    let xs : List ℕ = a ∷ b ∷ c ∷ d ∷ e ∷ f ∷ g ∷ h ∷ r ∷ rest in
    let k : ℕ = length (r ∷ rest) - 8 in
    let here : length xs - 8 ≡ suc (suc (suc (suc (suc (suc (suc (suc k))))))) = omega arith in
    last_point (point_of (a ∷ b ∷ c ∷ d ∷ e ∷ f ∷ g ∷ h ∷ [])) (r ∷ rest) (omega arith) (omega arith) ∙ sym (ap (λ n. point_of (drop n xs)) here)

ring_ends : (xy : List ℕ) → length xy % 8 ≡ 0 → 8 ≤ length xy → is_ring (points_of xy) ≡ is_same_point (point_of (take 8 xy)) (point_of (drop (length xy - 8) xy))
ring_ends [] m le = absurd (omega arith)
ring_ends (a ∷ []) m le = absurd (omega arith)
ring_ends (a ∷ b ∷ []) m le = absurd (omega arith)
ring_ends (a ∷ b ∷ c ∷ []) m le = absurd (omega arith)
ring_ends (a ∷ b ∷ c ∷ d ∷ []) m le = absurd (omega arith)
ring_ends (a ∷ b ∷ c ∷ d ∷ e ∷ []) m le = absurd (omega arith)
ring_ends (a ∷ b ∷ c ∷ d ∷ e ∷ f ∷ []) m le = absurd (omega arith)
ring_ends (a ∷ b ∷ c ∷ d ∷ e ∷ f ∷ g ∷ []) m le = absurd (omega arith)
ring_ends (a ∷ b ∷ c ∷ d ∷ e ∷ f ∷ g ∷ h ∷ rest) m le =
    let p : Point = point_of (a ∷ b ∷ c ∷ d ∷ e ∷ f ∷ g ∷ h ∷ []) in
    ap (is_same_point p) (last_point p (a ∷ b ∷ c ∷ d ∷ e ∷ f ∷ g ∷ h ∷ rest) m le)

pub ring_is : (xy : List ℕ) → are_points Boundary xy ≡ true → is_ring (points_of xy) ≡ is_same_point (point_of (take 8 xy)) (point_of (drop (length xy - 8) xy))
ring_is xy h = let p = whole_points Boundary xy h in ring_ends xy p.0 p.1

points_front : (xs : List ℕ) → 8 ≤ length xs → points_of xs ≡ point_of (take 8 xs) ∷ points_of (drop 8 xs)
points_front [] le = absurd (omega arith)
points_front (a ∷ []) le = absurd (omega arith)
points_front (a ∷ b ∷ []) le = absurd (omega arith)
points_front (a ∷ b ∷ c ∷ []) le = absurd (omega arith)
points_front (a ∷ b ∷ c ∷ d ∷ []) le = absurd (omega arith)
points_front (a ∷ b ∷ c ∷ d ∷ e ∷ []) le = absurd (omega arith)
points_front (a ∷ b ∷ c ∷ d ∷ e ∷ f ∷ []) le = absurd (omega arith)
points_front (a ∷ b ∷ c ∷ d ∷ e ∷ f ∷ g ∷ []) le = absurd (omega arith)
points_front (a ∷ b ∷ c ∷ d ∷ e ∷ f ∷ g ∷ h ∷ rest) le = refl

-- one point more is read
pub point_read : (done : List Point) (xs all : List ℕ) → 8 ≤ length xs → done ++ points_of xs ≡ points_of all → (done ++ point_of (take 8 xs) ∷ []) ++ points_of (drop 8 xs) ≡ points_of all
point_read done xs all le h = append_assoc done (point_of (take 8 xs) ∷ []) (points_of (drop 8 xs)) ∙ ap (λ ps. done ++ ps) (sym (points_front xs le)) ∙ h

pub all_points : (xs : List ℕ) → length xs ≡ 24 → points_of xs ≡ point_of (take 8 xs) ∷ point_of (take 8 (drop 8 xs)) ∷ point_of (drop 8 (drop 8 xs)) ∷ []
all_points xs e =
    let two : length (drop 8 xs) ≡ 16 = omega (arith, length-drop 8 xs) in
    let one : length (drop 8 (drop 8 xs)) ≡ 8 = omega (arith, length-drop 8 (drop 8 xs)) in
    points_front xs (omega arith) ∙ ap (λ ps. point_of (take 8 xs) ∷ ps) (points_front (drop 8 xs) (omega arith)
    ∙ ap (λ ps. point_of (take 8 (drop 8 xs)) ∷ ps) (last_one (drop 8 (drop 8 xs)) one)) where
      last_one : (ys : List ℕ) → length ys ≡ 8 → points_of ys ≡ point_of ys ∷ []
      last_one ys h = points_front ys (omega arith) ∙ rw (take_all 8 ys (omega arith), drop_all 8 ys (omega arith)) refl

-- ---- a ring

int_same : (x y : ℤ) → int_eq x y ≡ true → x ≡ y
int_same x y h = (Decides-int_eq x y).0 h

same_point : (p q : Point) → is_same_point p q ≡ true → p ≡ q
same_point p q h =
    let x : p.x ≡ q.x = int_same p.x q.x (first_so (int_eq p.x q.x) (int_eq p.y q.y) h) in
    let y : p.y ≡ q.y = int_same p.y q.y (second_so (int_eq p.x q.x) (int_eq p.y q.y) h) in
    let P : ℤ → Type 0 = λ a. p ≡ record { x = a; y = q.y } in
    let Q : ℤ → Type 0 = λ b. p ≡ record { x = p.x; y = b } in
    subst P x (subst Q y refl)

last_get : (p : Point) (ps : List Point) → slice_get (p ∷ ps) (length ps) ≡ Some (last_of p ps)
last_get p [] = refl
last_get p (q ∷ qs) = last_get q qs

-- a ring has points, and its last is its first
abbrev some_of : List ℕ → Option (List ℕ)
some_of xs = Some xs

pub some_is : (xs ys : List ℕ) → some_of xs ≡ some_of ys → xs ≡ ys
some_is xs ys e = cc

pub record IsRing (ps : List Point) : Type 0 where
  pub filled : 0 < length ps
  pub closed : slice_get ps 0 ≡ slice_get ps (length ps - 1)

pub ring : (ps : List Point) → is_ring ps ≡ true → IsRing ps
ring [] h = absurd cc
ring (p ∷ ps) h =
    let same : p ≡ last_of p ps = same_point p (last_of p ps) h in
    let last : length (p ∷ ps) - 1 ≡ length ps = omega arith in
    record { filled = omega arith; closed = ap Some same ∙ sym (last_get p ps) ∙ sym (ap (slice_get (p ∷ ps)) last) }

-- ---- records that stand there, and how much data they have

pub stands : (k : ℕ) (rs : List Rec) → among (kinds_in rs) k ≡ true → body_of k rs ≡ None → ⊥
stands k [] h e = absurd cc
stands k (r ∷ rs) h e = cases (eqb r.kind k) refl (stands k rs) where
  cases : (b : Bool) → eqb r.kind k ≡ b → (among (kinds_in rs) k ≡ true → body_of k rs ≡ None → ⊥) → ⊥
  cases true is later = let found : body_of k (r ∷ rs) ≡ Some r.body = rw is refl in let both = sym found ∙ e in cc
  cases false is later = later (sym (rw is refl) ∙ h) (sym (rw is refl) ∙ e)

-- what holds of each of some kinds holds of one among them
pick : (P : ℕ → Type 0) (ks : List ℕ) (k : ℕ) → among ks k ≡ true → AllByRecursion P ks → P k
pick P [] k h all = absurd cc
pick P (j ∷ js) k h all = cases (eqb j k) refl (λ h. pick P js k h all.1) where
  cases : (b : Bool) → eqb j k ≡ b → (among js k ≡ true → P k) → P k
  cases true is later = subst P (eqb-true j k is) all.0
  cases false is later = later (sym (rw is refl) ∙ h)

abbrev HasSize : ℕ → ℕ → Type 0
HasSize size k = (n : ℕ) → has_size k n ≡ true → n ≡ size

two_bytes : AllByRecursion (HasSize 2) kinds_of_2
unfolding has_size
two_bytes = ((λ n h. eqb-true n 2 h), ((λ n h. eqb-true n 2 h), ((λ n h. eqb-true n 2 h), ((λ n h. eqb-true n 2 h), tt))))

four_bytes : AllByRecursion (HasSize 4) kinds_of_4
unfolding has_size
four_bytes = ((λ n h. eqb-true n 4 h), ((λ n h. eqb-true n 4 h), ((λ n h. eqb-true n 4 h), ((λ n h. eqb-true n 4 h), tt))))

eight_bytes : AllByRecursion (HasSize 8) kinds_of_8
unfolding has_size
eight_bytes = ((λ n h. eqb-true n 8 h), ((λ n h. eqb-true n 8 h), tt))

body_size : (size k : ℕ) → HasSize size k → (rs : List Rec) (body : List ℕ) → AllByRecursion IsWell rs → body_of k rs ≡ Some body → length body ≡ size
body_size size k has [] body well e = absurd cc
body_size size k has (r ∷ rs) body well e = cases (eqb r.kind k) refl (λ h. body_size size k has rs body well.1 h) where
  cases : (b : Bool) → eqb r.kind k ≡ b → (body_of k rs ≡ Some body → length body ≡ size) → length body ≡ size
  cases true is later =
      let found : body_of k (r ∷ rs) ≡ Some r.body = rw is refl in
      let same : r.body ≡ body = some_is r.body body (sym found ∙ e) in
      subst (λ b. length b ≡ size) same (has (length r.body) (subst (λ j. has_size j (length r.body) ≡ true) (eqb-true r.kind k is) (well_size r well.0)))
  cases false is later = later (sym (rw is refl) ∙ e)

pub size_2 : (k : ℕ) (rs : List Rec) (body : List ℕ) → among kinds_of_2 k ≡ true → AllByRecursion IsWell rs → body_of k rs ≡ Some body → length body ≡ 2
size_2 k rs body h = body_size 2 k (pick (HasSize 2) kinds_of_2 k h two_bytes) rs body

pub size_4 : (k : ℕ) (rs : List Rec) (body : List ℕ) → among kinds_of_4 k ≡ true → AllByRecursion IsWell rs → body_of k rs ≡ Some body → length body ≡ 4
size_4 k rs body h = body_size 4 k (pick (HasSize 4) kinds_of_4 k h four_bytes) rs body

pub size_8 : (k : ℕ) (rs : List Rec) (body : List ℕ) → among kinds_of_8 k ≡ true → AllByRecursion IsWell rs → body_of k rs ≡ Some body → length body ≡ 8
size_8 k rs body h = body_size 8 k (pick (HasSize 8) kinds_of_8 k h eight_bytes) rs body

pub is_there : (o : Option (Bor (List ℕ))) (found : Option (List ℕ)) → option_copied o ≡ found → (found ≡ None → ⊥) → IsSome o
is_there (Some b) found e h = refl
is_there None found e h = absurd (h (sym e))
