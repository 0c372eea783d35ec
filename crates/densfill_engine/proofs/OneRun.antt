-- The parts of a chip, joined, are one run.
use Rattle.std.proofs.Common.{◌≡◌, refl, ap, sym, subst, ◌∙◌, ℕ, ◌<◌, ◌==◌, arith, true, false, List, [], ◌∷◌, ◌++◌, length, get_or, Option, Some, None, Result, Ok, Err}
use Rattle.std.specs.Prelude.{slice_get}
use Rattle.std.specs.List.{AllByRecursion, concat, flat_map, range_with_len}
use Rattle.std.proofs.Math.Path.{fun_ext}
use Rattle.std.proofs.lemmas.Bool.Decides.{nat_tests}
use Rattle.std.proofs.lemmas.List.Concat.{concat_is}
use Rattle.std.proofs.lemmas.List.Folds.{flat_map-map}
use Rattle.std.proofs.lemmas.List.FromFn.{fill_by_all}
use Rattle.std.proofs.lemmas.Option.{slice_get-get_or}
use Rattle.fill_base.specs.declared.layer.Layer.{Layer}
use Rattle.fill_text.specs.Rules.{Values, existing_layers, keep_layers, metal_layers}
use Rattle.fill_text.specs.Script.{Change}
use Rattle.fill_job.specs.Plans.{Layers, PointSet, drawn_squares, plan_of}
use Rattle.fill_core.specs.Boxes.{low_fill}
use Rattle.fill_report.specs.BookReport.{fill_report}
use Rattle.fill_parts.specs.Laws.{part}
use Rattle.fill_parts.specs.PartFill.{layers_by, part_fill}
use Rattle.fill_parts.specs.PartReport.{part_report}
use Rattle.fill_parts.proofs.Reporting.{parts_report}
use Rattle.gds_record.specs.Records.{Rec}
use Rattle.gds_record.specs.declared.kind.TheConstants as kinds
use Rattle.gds_grammar.specs.Forms.{IsWell, has_size}
use Rattle.gds_grammar.specs.Grammar.{library_records}
use Rattle.gds_grammar.specs.Outcomes.{Spells}
use Rattle.gds_grammar.specs.Values.{Cell, Contents}
use Rattle.gds_grammar.proofs.Unique.{spelled_once}
use Rattle.gds_grammar.proofs.Paths.{well_size}
use Rattle.gds_cells.specs.Copies.{drawn}
use Rattle.gds_cells.specs.Designs.{copies_of}
use Rattle.gds_out.specs.FillText.{fill_text}
use Rattle.gds_join.proofs.Libraries.{parts_library}
use Rattle.densfill_engine.specs.Designs.{IsDesign, IsOnAny}
use Rattle.densfill_engine.specs.Fills.{Inputs, IsFilled}
use Rattle.densfill_engine.specs.Inputs.{answer_of, chip_answer, script_answer}
use Rattle.densfill_engine.specs.Joiners.{IsJoinOf}
use Rattle.densfill_engine.specs.OneRun.{AreParts, PartsAreOneRun}
use Rattle.densfill_engine.specs.Scopes.{Size, limited, unlimited}
use Rattle.densfill_engine.specs.declared.scope.Scope.TheVariants as asked
use Rattle.densfill_engine.proofs.Reasons.{rules_chip}

-- ---- a design has units of 16 bytes and dates of 24

behind : {X : Type 0} (P : X → Type 0) (xs ys : List X) → AllByRecursion P (xs ++ ys) → AllByRecursion P ys
behind P [] ys all = all
behind P (x ∷ xs) ys all = behind P xs ys all.1

record HasSizes (value : Contents) : Type 0 where
  units : length value.units ≡ 16
  dates : length value.dates ≡ 24

same_size : (a b : ℕ) → (a == b) ≡ true → a ≡ b
same_size a b h = grind (arith, nat_tests)

units_of_16 : (r : Rec) → r.kind ≡ kinds.UNITS → has_size r.kind (length r.body) ≡ true → length r.body ≡ 16
unfolding has_size
units_of_16 r is sized = same_size (length r.body) 16 (subst (λ k. has_size k (length r.body) ≡ true) is sized)

dates_of_24 : (r : Rec) → r.kind ≡ kinds.BGNLIB → has_size r.kind (length r.body) ≡ true → length r.body ≡ 24
unfolding has_size
dates_of_24 r is sized = same_size (length r.body) 24 (subst (λ k. has_size k (length r.body) ≡ true) is sized)

has_sizes : (bytes : List ℕ) (value : Contents) → Spells bytes value → HasSizes value
has_sizes bytes value spelled =
    let l = spelled.library.part in
    let all : AllByRecursion IsWell (library_records l) = subst (λ rs. AllByRecursion IsWell rs) spelled.library.spelled spelled.library.well.well in
    let rest = behind IsWell l.after _ (behind IsWell l.before _ all.1.1).1 in
    record {
      units = ap (λ (c : Contents). length c.units) spelled.library.says ∙ units_of_16 l.units spelled.library.is_library.units (well_size l.units rest.0);
      dates = ap (λ (c : Contents). length c.dates) spelled.library.says ∙ dates_of_24 l.start spelled.library.is_library.start (well_size l.start all.1.0);
    }

-- ---- inputs say one thing

one_answer : {A E : Type 0} (r : Result A E) (x y : A) → r ≡ Ok x → r ≡ Ok y → x ≡ y
one_answer {A = A} {E = E} r x y p q = ap (ok_or x) (sym p ∙ q)
  where
    ok_or : A → Result A E → A
    ok_or d (Ok z) = z
    ok_or d (Err e) = d

-- what a top draws on layers, if there are any
abbrev all_on : List Cell → List ℕ → List Layer → PointSet
all_on cells top [] x y = false
all_on cells top (layer ∷ more) x y = drawn (copies_of cells top (layer ∷ more)) x y

-- what a design draws, however many copies there are
record IsSeen (bytes : List ℕ) (values : Values) (layers : Layers) (units dates : List ℕ) : Type 0 where
  design : Contents
  spelled : Spells bytes design
  metal : layers.metal ≡ drawn (copies_of design.cells values.top (metal_layers values))
  fill : layers.fill ≡ all_on design.cells values.top (existing_layers values)
  keep : layers.keep ≡ all_on design.cells values.top (keep_layers values)
  units_are : units ≡ design.units
  dates_are : dates ≡ design.dates

design_seen : (size : Size) (bytes : List ℕ) (values : Values) (layers : Layers) (units dates : List ℕ) → IsDesign size bytes values layers units dates → IsSeen bytes values layers units dates
design_seen size bytes values layers units dates is = record {
  design = is.drawn.counted.drawn.design;
  spelled = is.drawn.counted.drawn.read.spelled;
  metal = is.drawn.counted.drawn.drawn.squares_are;
  fill = on_any is.drawn.counted.drawn.design.cells values.top (existing_layers values) layers.fill is.drawn.counted.filled;
  keep = on_any is.drawn.counted.drawn.design.cells values.top (keep_layers values) layers.keep is.drawn.kept;
  units_are = is.units_are;
  dates_are = is.dates_are;
} where
  on_any : (cells : List Cell) (top : List ℕ) (layers : List Layer) (p : PointSet) → IsOnAny size cells top layers p → p ≡ all_on cells top layers
  on_any cells top [] p none = fun_ext (λ x. fun_ext (λ y. none x y))
  on_any cells top (layer ∷ more) p on = on.squares_are

-- a rule file of a chip within the limits of a run says the same of one of any size
answer_chip : (size : Size) (r : List ℕ) (values : Values) → answer_of size r ≡ Ok values → chip_answer r ≡ Ok values
answer_chip limited r values accepted = rules_chip r values accepted
answer_chip unlimited r values accepted = accepted

-- what the three inputs say
record Said (r d s : List ℕ) : Type 0 where
  values : Values
  accepted : chip_answer r ≡ Ok values
  layers : Layers
  units : List ℕ
  dates : List ℕ
  seen : IsSeen d values layers units dates
  changes : List Change
  edits : script_answer s ≡ Ok changes

abbrev said : (size : Size) (r d s : List ℕ) → Inputs size r d s → Said r d s
said size r d s i = record {
  values = i.values;
  accepted = answer_chip size r i.values i.accepted;
  layers = i.layers;
  units = i.units;
  dates = i.dates;
  seen = design_seen size d i.values i.layers i.units i.dates i.drawn;
  changes = i.changes;
  edits = i.edits;
}

-- is said once
record AreSame (r d s : List ℕ) (a b : Said r d s) : Type 0 where
  values_are : a.values ≡ b.values
  layers_are : a.layers ≡ b.layers
  units_are : a.units ≡ b.units
  dates_are : a.dates ≡ b.dates
  changes_are : a.changes ≡ b.changes

said_once : (r d s : List ℕ) (a b : Said r d s) → AreSame r d s a b
said_once r d s a b =
    let values : a.values ≡ b.values = one_answer (chip_answer r) a.values b.values a.accepted b.accepted in
    let seen = subst (λ (v : Values). IsSeen d v b.layers b.units b.dates) (sym values) b.seen in
    let design : a.seen.design ≡ seen.design = spelled_once d a.seen.design seen.design a.seen.spelled seen.spelled in
    let metal : a.layers.metal ≡ b.layers.metal =
    a.seen.metal ∙ (ap (λ (c : Contents). drawn (copies_of c.cells a.values.top (metal_layers a.values))) design ∙ sym seen.metal) in
    let fill : a.layers.fill ≡ b.layers.fill = a.seen.fill ∙ (ap (λ (c : Contents). all_on c.cells a.values.top (existing_layers a.values)) design ∙ sym seen.fill) in
    let keep : a.layers.keep ≡ b.layers.keep = a.seen.keep ∙ (ap (λ (c : Contents). all_on c.cells a.values.top (keep_layers a.values)) design ∙ sym seen.keep) in
    record {
      values_are = values;
      layers_are = λ t. record { metal = metal t; fill = fill t; keep = keep t };
      units_are = a.seen.units_are ∙ (ap (λ (c : Contents). c.units) design ∙ sym seen.units_are);
      dates_are = a.seen.dates_are ∙ (ap (λ (c : Contents). c.dates) design ∙ sym seen.dates_are);
      changes_are = one_answer (script_answer s) a.changes b.changes a.edits b.edits;
    }

-- ---- all parts together

module _ (rules design script : List ℕ) (libraries reports : List (List ℕ)) (library : List ℕ) (parts : AreParts rules design script libraries reports) (join : IsJoinOf rules libraries library) where
  given : (k : ℕ) → k < length libraries → IsFilled (asked.Part (part k (length libraries))) rules design script 1 None (get_or libraries k []) (get_or reports k [])
  given k lt = parts.each k (get_or libraries k []) (get_or reports k []) (slice_get-get_or libraries k [] lt) (slice_get-get_or reports k [] (subst (λ n. k < n) (sym parts.count) lt))

  abbrev inputs : Inputs unlimited rules design script
  inputs = (given 0 join.some).0

  abbrev layers : Layers
  layers = layers_by inputs.changes inputs.layers

  same : (k : ℕ) (lt : k < length libraries) → AreSame rules design script (said unlimited rules design script (given k lt).0) (said unlimited rules design script inputs)
  same k lt = said_once rules design script (said unlimited rules design script (given k lt).0) (said unlimited rules design script inputs)

  -- the rules of the join are those of the parts
  rules_are : inputs.values ≡ join.values
  rules_are = one_answer (chip_answer rules) inputs.values join.values inputs.accepted join.said

  library_of : (k : ℕ) (lt : k < length libraries)
      → slice_get libraries k ≡ Some (fill_text inputs.units inputs.dates join.values (part_fill (plan_of join.values) layers (part k (length libraries))))
  library_of k lt =
      let s = same k lt in
      slice_get-get_or libraries k [] lt ∙ ap Some ((given k lt).1.library_is
      ∙ ((λ t. fill_text (s.units_are t) (s.dates_are t) (s.values_are t) (part_fill (plan_of (s.values_are t)) (layers_by (s.changes_are t) (s.layers_are t)) (part k (length libraries))))
      ∙ (λ t. fill_text inputs.units inputs.dates (rules_are t) (part_fill (plan_of (rules_are t)) layers (part k (length libraries))))))

  report_of : (k : ℕ) (lt : k < length libraries) → get_or reports k [] ≡ part_report inputs.values (drawn_squares layers) (low_fill (plan_of inputs.values) layers) (part k (length libraries))
  report_of k lt =
      let s = same k lt in
      (given k lt).1.report_is
      ∙ (λ t. part_report (s.values_are t) (drawn_squares (layers_by (s.changes_are t) (s.layers_are t))) (low_fill (plan_of (s.values_are t)) (layers_by (s.changes_are t) (s.layers_are t))) (part k (length libraries)))

  whole_library : library ≡ fill_text inputs.units inputs.dates inputs.values (low_fill (plan_of inputs.values) layers)
  whole_library =
      let sizes = has_sizes design inputs.drawn.drawn.counted.drawn.design inputs.drawn.drawn.counted.drawn.read.spelled in
      parts_library join.values inputs.units inputs.dates layers libraries library join.plan join.some (ap length inputs.drawn.units_are ∙ sizes.units) (ap length inputs.drawn.dates_are ∙ sizes.dates) join.few
      library_of join.joined
      ∙ sym (λ t. fill_text inputs.units inputs.dates (rules_are t) (low_fill (plan_of (rules_are t)) layers))

  whole_report : concat reports ≡ fill_report inputs.values (drawn_squares layers) (low_fill (plan_of inputs.values) layers)
  whole_report =
      let lines : ℕ → List ℕ = λ k. part_report inputs.values (drawn_squares layers) (low_fill (plan_of inputs.values) layers) (part k (length libraries)) in
      concat_is reports
      ∙ (ap (flat_map (λ x. x)) (fill_by_all lines reports (length libraries) [] parts.count report_of)
      ∙ (flat_map-map (λ x. x) lines (range_with_len 0 (length libraries)) ∙ parts_report inputs.values (drawn_squares layers) (low_fill (plan_of inputs.values) layers) (length libraries) join.some))

  of_run : (limit : Option ℕ) (whole lines : List ℕ) → IsFilled asked.Whole rules design script 1 limit whole lines → (library ≡ whole) × (concat reports ≡ lines)
  of_run limit whole lines filled =
      let only = filled.1.alone refl in
      let s = said_once rules design script (said unlimited rules design script inputs) (said limited rules design script filled.0) in (
        whole_library
            ∙ ((λ t. fill_text (s.units_are t) (s.dates_are t) (s.values_are t) (low_fill (plan_of (s.values_are t)) (layers_by (s.changes_are t) (s.layers_are t)))) ∙ sym only.library_is),
        whole_report
            ∙ ((λ t. fill_report (s.values_are t) (drawn_squares (layers_by (s.changes_are t) (s.layers_are t))) (low_fill (plan_of (s.values_are t)) (layers_by (s.changes_are t) (s.layers_are t)))) ∙ sym only.report_is),
      )

pub parts_are_one : PartsAreOneRun
parts_are_one rules design script libraries reports library parts join =
    let all = inputs rules design script libraries reports library parts join in
    record {
      inputs = all;
      fill = record {
        library_is = whole_library rules design script libraries reports library parts join;
        report_is = whole_report rules design script libraries reports library parts join;
        sound = (given rules design script libraries reports library parts join 0 join.some).1.sound;
      };
      run = of_run rules design script libraries reports library parts join;
    }
