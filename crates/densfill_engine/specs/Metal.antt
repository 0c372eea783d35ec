-- The metal that a script's changes leave of nothing.
use Rattle.std.specs.Prelude.{◌≡◌, ℤ, ◌&&◌, not, Bool, true, false, List, [], ◌∷◌, Option, Some, None, if◌then◌else◌}
use Rattle.fill_base.specs.declared.rect.Rect.{Rect}
use Rattle.fill_base.specs.Counts.{is_between}
use Rattle.fill_base.specs.Sides.{Sides}
use Rattle.fill_region.specs.Squares.{covered}
use Rattle.fill_text.specs.Script.{Change}
use Rattle.fill_text.specs.declared.script.Kind.{Kind}
use Rattle.fill_text.specs.declared.script.Kind.TheVariants.{Add, Cut, Keep}

-- the square is in the rectangle
abbrev pub is_within : Sides → ℤ → ℤ → Bool
is_within c x y = is_between c.left c.right x && is_between c.bottom c.top y

-- whether a change makes metal of the squares that it touches, if it touches metal at all: a keep-out doesn't
abbrev pub makes_metal : Kind → Option Bool
makes_metal Add = Some true
makes_metal Cut = Some false
makes_metal Keep = None

-- the later of two answers, if there is one, and else the earlier
abbrev pub later : Option Bool → Option Bool → Option Bool
later (Some metal) earlier = Some metal
later None earlier = earlier

-- whether the last change that touches the metal of a square makes it metal
unfoldable pub last_change : List Change → ℤ → ℤ → Option Bool
last_change [] x y = None
last_change (change ∷ changes) x y = later (last_change changes x y) (if is_within change.rect x y then makes_metal change.kind else None)

abbrev pub is_added : Option Bool → Bool
is_added None = false
is_added (Some metal) = metal

abbrev pub is_cut : Option Bool → Bool
is_cut None = false
is_cut (Some metal) = not metal

-- a square is metal where the last change that touches its metal adds it
abbrev pub is_metal : List Change → ℤ → ℤ → Bool
is_metal changes x y = is_added (last_change changes x y)

-- the changes add the squares of these rectangles, and cut nothing
abbrev pub AreAdded : List Change → List Rect → Type 0
AreAdded changes rects = (x y : ℤ) → last_change changes x y ≡ if covered rects x y then Some true else None
