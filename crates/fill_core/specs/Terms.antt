-- What a book is opened with. It stays so for good.
use Rattle.std.specs.Prelude.{ℕ, List, [], None, false}
use Rattle.fill_region.specs.Runs.{Sides}
use Rattle.fill_text.specs.Rules.{Values}
use Rattle.fill_job.specs.Basis.{layers_in}
use Rattle.fill_job.specs.Plans.{Layers}

-- the rules, the metal, the existing fill and the keep-outs, and how many events the history may have
pub record Terms : Type 0 where
  pub rules : Values
  pub opening : List Sides
  pub existing : List Sides
  pub keep : List Sides
  pub most : ℕ

-- the metal, the existing fill and the keep-outs as sets
abbrev pub layers_at : Terms → Layers
layers_at t = layers_in t.opening t.existing t.keep

-- no rules, no metal and no event
abbrev pub no_terms : Terms
no_terms = record { rules = record { numbers = []; top = []; fill_lib = []; fill_cell = []; fill_top = []; keep = None; also_metal = []; also_fill = []; also_keep = []; ignores = false }; opening = []; existing = []; keep = []; most = 0 }
