-- By how much the areas of a window differ, where squares come or go.
use Rattle.std.specs.Prelude.{◌≡◌, ℕ, ◌+◌, ℤ, Bool, true, ◌&&◌, ◌||◌, not}
use Rattle.fill_area.specs.Density.{window_area}
use Rattle.fill_area.specs.Grid.{Grid}

-- squares of which none was in the set add their part in the window: a box that shares no square with metal and boxes
abbrev pub ABoxAdds : Type 0
ABoxAdds = (p box : ℤ → ℤ → Bool) (g : Grid) (a b : ℕ) → ((x y : ℤ) → p x y ≡ true → box x y ≡ true → ⊥)
    → window_area (λ x y. p x y || box x y) g a b ≡ window_area p g a b + window_area box g a b

-- squares that were all in the set take their part off: a box that is withdrawn
abbrev pub ABoxTakesOff : Type 0
ABoxTakesOff = (p box : ℤ → ℤ → Bool) (g : Grid) (a b : ℕ) → ((x y : ℤ) → box x y ≡ true → p x y ≡ true)
    → window_area p g a b ≡ window_area (λ x y. p x y && not (box x y)) g a b + window_area box g a b

-- metal that is added adds the part of it that was none
abbrev pub MetalAdds : Type 0
MetalAdds = (p r : ℤ → ℤ → Bool) (g : Grid) (a b : ℕ) → window_area (λ x y. p x y || r x y) g a b ≡ window_area p g a b + window_area (λ x y. r x y && not (p x y)) g a b

-- metal that is cut takes off the part of it that was metal
abbrev pub MetalTakesOff : Type 0
MetalTakesOff = (p r : ℤ → ℤ → Bool) (g : Grid) (a b : ℕ) → window_area p g a b ≡ window_area (λ x y. p x y && not (r x y)) g a b + window_area (λ x y. p x y && r x y) g a b
