use Rattle.std.proofs.Common.{map, sym, ap, subst, arith, ◌∙◌}
use Rattle.std.specs.Prelude.{All, ◌&&◌}
use Rattle.std.specs.List.{flat_map}
use Rattle.std.specs.Vec.{vec_items}
use Rattle.std.proofs.lemmas.Result.{err_from_is_err_and}
use Rattle.fill_base.specs.Squares.{squares}
use Rattle.fill_region.specs.Squares.{covered}
use Rattle.gds_grammar.specs.Values.{cell_of}
use Rattle.gds_cells.specs.Designs.{copies_of}
use Rattle.gds_flatten.specs.declared.found.Framed.{Framed}
use Rattle.gds_flatten.specs.steps.Framing.{IsFineIf, extent_at}
use Rattle.gds_flatten.specs.steps.Idle.{AreFull}
use Rattle.gds_flatten.specs.steps.Roots.{turns_copies, roots_copies}
use Rattle.gds_flatten.proofs.Framing.{right_told, walk_told, found_told, parts_seen, memory_told}
use Rattle.gds_flatten.proofs.Ranged.{all_in_range}
use Rattle.gds_flatten.proofs.Sparse.{full_stay, stay_full}
use Rattle.gds_flatten.proofs.flattening.flatten_within.Goals as goal

pub returns-in_err-built-clause-refused : goal.returns-in_err-built-clause-refused
returns-in_err-built-clause-refused g c =
    let p = err_from_is_err_and c.from_residual.result c.from_residual.ensures.1 in
    rw (p.1, p.2) (c.in_err-built.ensures.refused.1 c.args.frame.now)

pub find_turns-requires-clause-ready : goal.find_turns-requires-clause-ready
find_turns-requires-clause-ready g c =
    record {
      fine = subst (All IsFineIf) (sym c.deref-3.ensures.value) c.in_ok-extents.ensures.fine;
      full = subst AreFull (sym c.deref.ensures.value) (c.in_ok-counted.ensures.full c.without_bare-reached.ensures.full);
    }

pub returns-in_err-find_turns-clause-refused : goal.returns-in_err-find_turns-clause-refused
returns-in_err-find_turns-clause-refused g c =
    let p = err_from_is_err_and c.from_residual-in_err-find_turns.result c.from_residual-in_err-find_turns.ensures.1 in
    let entries = map cell_of c.args.library.now.cells.entries in
    let built = c.in_ok-built.built in
    let d = c.in_ok-counted.counted in
    let w : Framed = record { cells = c.deref.result; counts = c.deref-2.result; extents = c.deref-3.result; frame = c.args.frame } in
    rw (p.1, p.2) (walk_told entries c.args.top.now c.args.layers.now built.cells.items built.top c.in_ok-built.ensures.reached d.cells.items d.top (c.in_ok-counted.ensures.same ∙ c.without_bare-reached.ensures.same)
    w c.deref.ensures.value (turns_copies w.cells.now c.top_turns.result) (c.top_turns.ensures.copies w.cells.now) c.in_err-find_turns.field-0.0 c.new-found.result c.new-found.ensures.none c.in_err-find_turns.ensures.refused)

pub returns-then-not-is_inside-clause-refused : goal.returns-then-not-is_inside-clause-refused
returns-then-not-is_inside-clause-refused g c =
    let entries = map cell_of c.args.library.now.cells.entries in
    let built = c.in_ok-built.built in
    let d = c.in_ok-counted.counted in
    let w : Framed = record { cells = c.deref.result; counts = c.deref-2.result; extents = c.deref-3.result; frame = c.args.frame } in
    let none = c.new-found.ensures in
    let told = found_told entries c.args.top.now c.args.layers.now built.cells.items built.top c.in_ok-built.ensures.reached d.cells.items d.top (c.in_ok-counted.ensures.same ∙ c.without_bare-reached.ensures.same)
    w c.deref.ensures.value (turns_copies w.cells.now c.top_turns.result) (c.top_turns.ensures.copies w.cells.now) d.counts.items c.deref-2.ensures.value c.new-found.result c.find_turns.new.found none.none none.empty none.rootless none.nothing c.in_ok-find_turns.ensures.found in
    let extents = c.in_ok-extents.extents.items in
    let right = right_told entries c.args.top.now c.args.layers.now built.cells.items built.top c.in_ok-built.ensures.reached d.cells.items d.top (c.in_ok-counted.ensures.same ∙ c.without_bare-reached.ensures.same)
    extents c.extent_at.result (c.extent_at.ensures ∙ ap (λ es. extent_at es d.top) c.deref-4.ensures.value) (c.in_ok-counted.ensures.held extents c.in_ok-extents.ensures.held) in
    (told.countable, (λ stay. c.is_inside.ensures.no c.if-not-is_inside.true _ right.tight (full_stay (copies_of entries c.args.top.now c.args.layers.now) stay)))

pub invariant_of-design : goal.invariant_of-design
invariant_of-design g c =
    let entries = map cell_of c.args.library.now.cells.entries in
    let built = c.in_ok-built.built in
    let d = c.in_ok-counted.counted in
    let w : Framed = record { cells = c.deref.result; counts = c.deref-2.result; extents = c.deref-3.result; frame = c.args.frame } in
    let none = c.new-found.ensures in
    let told = found_told entries c.args.top.now c.args.layers.now built.cells.items built.top c.in_ok-built.ensures.reached d.cells.items d.top (c.in_ok-counted.ensures.same ∙ c.without_bare-reached.ensures.same)
    w c.deref.ensures.value (turns_copies w.cells.now c.top_turns.result) (c.top_turns.ensures.copies w.cells.now) d.counts.items c.deref-2.ensures.value c.new-found.result c.find_turns.new.found none.none none.empty none.rootless none.nothing c.in_ok-find_turns.ensures.found in
    let fewer = c.find_turns.new.found.fewer in
    let few = c.find_turns.new.found.few in
    record { all = told.number; few = omega (arith, fewer, few) }

pub parts-requires-clause-counted : goal.parts-requires-clause-counted
parts-requires-clause-counted g c =
    let entries = map cell_of c.args.library.now.cells.entries in
    let built = c.in_ok-built.built in
    let d = c.in_ok-counted.counted in
    let w : Framed = record { cells = c.deref.result; counts = c.deref-2.result; extents = c.deref-3.result; frame = c.args.frame } in
    let none = c.new-found.ensures in
    let told = found_told entries c.args.top.now c.args.layers.now built.cells.items built.top c.in_ok-built.ensures.reached d.cells.items d.top (c.in_ok-counted.ensures.same ∙ c.without_bare-reached.ensures.same)
    w c.deref.ensures.value (turns_copies w.cells.now c.top_turns.result) (c.top_turns.ensures.copies w.cells.now) d.counts.items c.deref-2.ensures.value c.new-found.result c.find_turns.new.found none.none none.empty none.rootless none.nothing c.in_ok-find_turns.ensures.found in
    λ κs within. told.rooted

pub returns-in_err-rects-clause-refused : goal.returns-in_err-rects-clause-refused
returns-in_err-rects-clause-refused g c =
    let p = err_from_is_err_and c.from_residual-in_err-rects.result c.from_residual-in_err-rects.ensures.1 in
    let entries = map cell_of c.args.library.now.cells.entries in
    let built = c.in_ok-built.built in
    let d = c.in_ok-counted.counted in
    let w : Framed = record { cells = c.deref.result; counts = c.deref-2.result; extents = c.deref-3.result; frame = c.args.frame } in
    let none = c.new-found.ensures in
    let told = found_told entries c.args.top.now c.args.layers.now built.cells.items built.top c.in_ok-built.ensures.reached d.cells.items d.top (c.in_ok-counted.ensures.same ∙ c.without_bare-reached.ensures.same)
    w c.deref.ensures.value (turns_copies w.cells.now c.top_turns.result) (c.top_turns.ensures.copies w.cells.now) d.counts.items c.deref-2.ensures.value c.new-found.result c.find_turns.new.found none.none none.empty none.rootless none.nothing c.in_ok-find_turns.ensures.found in
    let extents = c.in_ok-extents.extents.items in
    let right = right_told entries c.args.top.now c.args.layers.now built.cells.items built.top c.in_ok-built.ensures.reached d.cells.items d.top (c.in_ok-counted.ensures.same ∙ c.without_bare-reached.ensures.same)
    extents c.extent_at.result (c.extent_at.ensures ∙ ap (λ es. extent_at es d.top) c.deref-4.ensures.value) (c.in_ok-counted.ensures.held extents c.in_ok-extents.ensures.held) in
    let stay = stay_full (copies_of entries c.args.top.now c.args.layers.now) (c.is_inside.ensures.yes c.if-not-is_inside.false _ right.tight) in
    rw (p.1, p.2) (memory_told entries c.args.top.now c.args.layers.now c.args.frame.now (roots_copies d.cells.items c.find_turns.new.found.roots.items) (told.stay stay) c.in_err-rects.field-0.0 c.in_err-rects.ensures.refused)

pub returns-clause-fine : goal.returns-clause-fine
returns-clause-fine g c =
    let entries = map cell_of c.args.library.now.cells.entries in
    let built = c.in_ok-built.built in
    let d = c.in_ok-counted.counted in
    let w : Framed = record { cells = c.deref.result; counts = c.deref-2.result; extents = c.deref-3.result; frame = c.args.frame } in
    let none = c.new-found.ensures in
    let told = found_told entries c.args.top.now c.args.layers.now built.cells.items built.top c.in_ok-built.ensures.reached d.cells.items d.top (c.in_ok-counted.ensures.same ∙ c.without_bare-reached.ensures.same)
    w c.deref.ensures.value (turns_copies w.cells.now c.top_turns.result) (c.top_turns.ensures.copies w.cells.now) d.counts.items c.deref-2.ensures.value c.new-found.result c.find_turns.new.found none.none none.empty none.rootless none.nothing c.in_ok-find_turns.ensures.found in
    told.countable

pub returns-clause-inside : goal.returns-clause-inside
returns-clause-inside g c =
    let entries = map cell_of c.args.library.now.cells.entries in
    let built = c.in_ok-built.built in
    let d = c.in_ok-counted.counted in
    let extents = c.in_ok-extents.extents.items in
    let right = right_told entries c.args.top.now c.args.layers.now built.cells.items built.top c.in_ok-built.ensures.reached d.cells.items d.top (c.in_ok-counted.ensures.same ∙ c.without_bare-reached.ensures.same)
    extents c.extent_at.result (c.extent_at.ensures ∙ ap (λ es. extent_at es d.top) c.deref-4.ensures.value) (c.in_ok-counted.ensures.held extents c.in_ok-extents.ensures.held) in
    let stay = stay_full (copies_of entries c.args.top.now c.args.layers.now) (c.is_inside.ensures.yes c.if-not-is_inside.false _ right.tight) in
    stay

pub returns-clause-squares : goal.returns-clause-squares
returns-clause-squares g c =
    let entries = map cell_of c.args.library.now.cells.entries in
    let built = c.in_ok-built.built in
    let d = c.in_ok-counted.counted in
    let w : Framed = record { cells = c.deref.result; counts = c.deref-2.result; extents = c.deref-3.result; frame = c.args.frame } in
    let none = c.new-found.ensures in
    let told = found_told entries c.args.top.now c.args.layers.now built.cells.items built.top c.in_ok-built.ensures.reached d.cells.items d.top (c.in_ok-counted.ensures.same ∙ c.without_bare-reached.ensures.same)
    w c.deref.ensures.value (turns_copies w.cells.now c.top_turns.result) (c.top_turns.ensures.copies w.cells.now) d.counts.items c.deref-2.ensures.value c.new-found.result c.find_turns.new.found none.none none.empty none.rootless none.nothing c.in_ok-find_turns.ensures.found in
    let extents = c.in_ok-extents.extents.items in
    let right = right_told entries c.args.top.now c.args.layers.now built.cells.items built.top c.in_ok-built.ensures.reached d.cells.items d.top (c.in_ok-counted.ensures.same ∙ c.without_bare-reached.ensures.same)
    extents c.extent_at.result (c.extent_at.ensures ∙ ap (λ es. extent_at es d.top) c.deref-4.ensures.value) (c.in_ok-counted.ensures.held extents c.in_ok-extents.ensures.held) in
    let stay = stay_full (copies_of entries c.args.top.now c.args.layers.now) (c.is_inside.ensures.yes c.if-not-is_inside.false _ right.tight) in
    let found = c.find_turns.new.found in
    λ x y.
    c.in_ok-kept.ensures x y ∙ ap (λ rs. covered (flat_map vec_items rs) x y && squares c.args.frame.now x y) (c.deref-5.ensures.value ∙ c.in_ok-push.ensures.items)
    ∙ ap (λ b. b && squares c.args.frame.now x y) (parts_seen c.in_ok-rects.rects.items found.rects (roots_copies d.cells.items found.roots.items) c.in_ok-rects.ensures.drawn x y) ∙ told.met stay x y

pub returns-clause-range : goal.returns-clause-range
returns-clause-range g c =
    let entries = map cell_of c.args.library.now.cells.entries in
    let built = c.in_ok-built.built in
    let d = c.in_ok-counted.counted in
    let extents = c.in_ok-extents.extents.items in
    let right = right_told entries c.args.top.now c.args.layers.now built.cells.items built.top c.in_ok-built.ensures.reached d.cells.items d.top (c.in_ok-counted.ensures.same ∙ c.without_bare-reached.ensures.same)
    extents c.extent_at.result (c.extent_at.ensures ∙ ap (λ es. extent_at es d.top) c.deref-4.ensures.value) (c.in_ok-counted.ensures.held extents c.in_ok-extents.ensures.held) in
    λ x y. all_in_range (copies_of entries c.args.top.now c.args.layers.now) c.extent_at.result right.held (c.is_inside.ensures.range c.if-not-is_inside.false) x y
