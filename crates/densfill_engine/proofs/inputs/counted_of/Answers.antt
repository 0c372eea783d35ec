use Rattle.std.proofs.Common.{inl, inr}
use Rattle.std.proofs.lemmas.Result.{err_from_is_err_and}
use Rattle.std.specs.List.{flat_map}
use Rattle.std.specs.Vec.{vec_items}
use Rattle.fill_region.specs.Squares.{covered}
use Rattle.fill_text.specs.ValuesOfRules.{values_of}
use Rattle.gds_grammar.specs.Values.{contents_of}
use Rattle.densfill_engine.proofs.Drawing.{among_first, among_second, counted_near, fill_not_flattened, lists_both, not_flattened}
use Rattle.densfill_engine.proofs.inputs.counted_of.Goals as goal

pub returns-in_err-lists-clause-refused : goal.returns-in_err-lists-clause-refused
returns-in_err-lists-clause-refused g c =
    let p = err_from_is_err_and c.from_residual-in_err-lists.result c.from_residual-in_err-lists.ensures.1 in
    let read = c.in_ok-library.ensures.ok in
    let metal = c.in_ok-metal_layers.metal_layers.items in
    let fill = c.existing_layers-existing_layers.result.now in
    let all = c.in_ok-layers.layers.items in
    rw (p.1, p.2) (inl (not_flattened c.args.bytes.now (values_of c.args.view.now.rules) read.0 (contents_of c.in_ok-library.library) all c.args.view.now.frame
    c.layers_suffice.ensures c.layers_suffice_within.ensures c.requires read.1 (rw c.deref-2.ensures.value at read.2) metal c.in_ok-metal_layers.ensures (among_first metal fill all (rw c.deref.ensures.value at c.in_ok-layers.ensures)) c.in_err-lists.field-0.0 (rw c.deref-3.ensures.value at c.in_err-lists.ensures.refused)))

pub returns-in_err-filled-clause-refused : goal.returns-in_err-filled-clause-refused
returns-in_err-filled-clause-refused g c =
    let p = err_from_is_err_and c.from_residual-in_err-filled.result c.from_residual-in_err-filled.ensures.1 in
    let read = c.in_ok-library.ensures.ok in
    let metal = c.in_ok-metal_layers.metal_layers.items in
    let fill = c.existing_layers-existing_layers.result.now in
    let all = c.in_ok-layers.layers.items in
    let why = c.in_err-filled.ensures.refused in
    rw (p.1, p.2) (inr (fill_not_flattened c.args.bytes.now (values_of c.args.view.now.rules) read.0 (contents_of c.in_ok-library.library) all c.args.view.now.frame
    c.layers_suffice.ensures c.layers_suffice_within.ensures c.requires read.1 (rw c.deref-2.ensures.value at read.2) metal c.in_ok-metal_layers.ensures (among_first metal fill all (rw c.deref.ensures.value at c.in_ok-layers.ensures))
    (covered (flat_map vec_items c.in_ok-lists.lists.items)) (rw c.deref-3.ensures.value at c.in_ok-lists.ensures.drawn) fill c.existing_layers-existing_layers.ensures (among_second metal fill all (rw c.deref.ensures.value at c.in_ok-layers.ensures))
    c.in_err-filled.field-0.0 why.0 why.1))

pub returns-clause-counted : goal.returns-clause-counted
returns-clause-counted g c =
    let read = c.in_ok-library.ensures.ok in
    let metal = c.in_ok-metal_layers.metal_layers.items in
    let fill = c.existing_layers-existing_layers.result.now in
    let all = c.in_ok-layers.layers.items in
    counted_near c.args.bytes.now (values_of c.args.view.now.rules) read.0 (contents_of c.in_ok-library.library) all c.args.view.now.frame
    c.layers_suffice.ensures c.layers_suffice_within.ensures c.requires read.1 (rw c.deref-2.ensures.value at read.2) metal c.in_ok-metal_layers.ensures (among_first metal fill all (rw c.deref.ensures.value at c.in_ok-layers.ensures))
    (covered (flat_map vec_items c.in_ok-lists.lists.items)) (rw c.deref-3.ensures.value at c.in_ok-lists.ensures.drawn) fill c.existing_layers-existing_layers.ensures (among_second metal fill all (rw c.deref.ensures.value at c.in_ok-layers.ensures))
    (covered (flat_map vec_items c.in_ok-filled.filled.items)) c.in_ok-filled.ensures.drawn
    (covered (flat_map vec_items c.append.new.self.items)) (lists_both c.in_ok-lists.lists.items c.in_ok-filled.filled.items c.append.new.self.items c.in_ok-append.ensures.items)
