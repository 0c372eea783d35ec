-- What the metal of a script is in the words of a fill's events.
use Rattle.std.specs.Prelude.{◌≡◌, ℤ, false, List, map}
use Rattle.fill_text.specs.Script.{change_of}
use Rattle.fill_text.specs.declared.script.Edit.{Edit}
use Rattle.fill_job.specs.Plans.{Layers, Plan}
use Rattle.fill_core.specs.Machine.{replay}
use Rattle.fill_core.specs.declared.event.Event.TheVariants as event
use Rattle.densfill_engine.specs.Metal.{is_metal}

-- nothing is drawn, and nothing is kept out
abbrev pub no_layers : Layers
no_layers = record { metal = λ x y. false; fill = λ x y. false; keep = λ x y. false }

-- The metal that a script leaves of nothing is that of a fill that was opened on nothing and edited so: one union with a rectangle or
-- difference from it after the other.
abbrev pub MetalIsReplayed : Type 0
MetalIsReplayed = (plan : Plan) (edits : List Edit) (x y : ℤ) → is_metal (map change_of edits) x y ≡ (replay plan no_layers (map event.Edit edits)).layers.metal x y
