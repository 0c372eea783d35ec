use Rattle.std.proofs.Common.{inl, inr, refl}
use Rattle.std.proofs.lemmas.Result.{err_from_is_err_and}
use Rattle.fill_region.specs.Runs.{holds}
use Rattle.fill_text.specs.ValuesOfRules.{values_of}
use Rattle.gds_grammar.specs.Values.{contents_of}
use Rattle.densfill_engine.proofs.Drawing.{among_of_first, among_second, design_near, fill_not_flattened, keep_not_flattened, not_flattened}
use Rattle.densfill_engine.proofs.inputs.design_of.Goals as goal

pub returns-in_err-metal-clause-refused : goal.returns-in_err-metal-clause-refused
returns-in_err-metal-clause-refused g c =
    let p = err_from_is_err_and c.from_residual-in_err-metal.result c.from_residual-in_err-metal.ensures.1 in
    let read = c.in_ok-library.ensures.ok in
    let metal = c.in_ok-metal_layers.metal_layers.items in
    let fill = c.existing_layers-existing_layers.result.now in
    let keep = c.in_ok-keep_layers.keep_layers.items in
    let all = c.in_ok-layers.layers.items in
    let first = (among_of_first metal fill keep c.in_ok-counted.counted.items all (rw c.deref.ensures.value at c.in_ok-counted.ensures) (rw (c.deref-2.ensures.value, c.deref-3.ensures.value) at c.in_ok-layers.ensures)).0 in
    rw (p.1, p.2) (inl (inl (not_flattened c.args.bytes.now (values_of c.args.view.now.rules) read.0 (contents_of c.in_ok-library.library) all c.args.view.now.frame
    c.layers_suffice.ensures c.layers_suffice_within.ensures c.requires read.1 (rw c.deref-4.ensures.value at read.2) metal c.in_ok-metal_layers.ensures first c.in_err-metal.field-0.0 (rw c.deref-5.ensures.value at c.in_err-metal.ensures.refused))))

pub returns-in_err-fill-clause-refused : goal.returns-in_err-fill-clause-refused
returns-in_err-fill-clause-refused g c =
    let p = err_from_is_err_and c.from_residual-in_err-fill.result c.from_residual-in_err-fill.ensures.1 in
    let read = c.in_ok-library.ensures.ok in
    let metal = c.in_ok-metal_layers.metal_layers.items in
    let fill = c.existing_layers-existing_layers.result.now in
    let keep = c.in_ok-keep_layers.keep_layers.items in
    let all = c.in_ok-layers.layers.items in
    let among = among_of_first metal fill keep c.in_ok-counted.counted.items all (rw c.deref.ensures.value at c.in_ok-counted.ensures) (rw (c.deref-2.ensures.value, c.deref-3.ensures.value) at c.in_ok-layers.ensures) in
    let why = c.in_err-fill.ensures.refused in
    rw (p.1, p.2) (inl (inr (fill_not_flattened c.args.bytes.now (values_of c.args.view.now.rules) read.0 (contents_of c.in_ok-library.library) all c.args.view.now.frame
    c.layers_suffice.ensures c.layers_suffice_within.ensures c.requires read.1 (rw c.deref-4.ensures.value at read.2) metal c.in_ok-metal_layers.ensures among.0
    (holds c.in_ok-metal.metal) (rw c.deref-5.ensures.value at c.in_ok-metal.ensures.drawn) fill c.existing_layers-existing_layers.ensures among.1 c.in_err-fill.field-0.0 why.0 why.1)))

pub returns-in_err-keep-clause-refused : goal.returns-in_err-keep-clause-refused
returns-in_err-keep-clause-refused g c =
    let p = err_from_is_err_and c.from_residual-in_err-keep.result c.from_residual-in_err-keep.ensures.1 in
    let read = c.in_ok-library.ensures.ok in
    let metal = c.in_ok-metal_layers.metal_layers.items in
    let fill = c.existing_layers-existing_layers.result.now in
    let keep = c.in_ok-keep_layers.keep_layers.items in
    let counted = c.in_ok-counted.counted.items in
    let all = c.in_ok-layers.layers.items in
    let among = among_of_first metal fill keep counted all (rw c.deref.ensures.value at c.in_ok-counted.ensures) (rw (c.deref-2.ensures.value, c.deref-3.ensures.value) at c.in_ok-layers.ensures) in
    let why = rw c.deref-6.ensures.value at c.in_err-keep.ensures.refused in
    rw (p.1, p.2) (inr (keep_not_flattened c.args.bytes.now (values_of c.args.view.now.rules) read.0 (contents_of c.in_ok-library.library) all c.args.view.now.frame
    c.layers_suffice.ensures c.layers_suffice_within.ensures c.requires read.1 (rw c.deref-4.ensures.value at read.2) metal c.in_ok-metal_layers.ensures among.0
    (holds c.in_ok-metal.metal) (rw c.deref-5.ensures.value at c.in_ok-metal.ensures.drawn) fill c.existing_layers-existing_layers.ensures among.1
    (holds c.in_ok-fill.fill) c.in_ok-fill.ensures.drawn keep c.in_ok-keep_layers.ensures
    (among_second counted keep all (rw (c.deref-2.ensures.value, c.deref-3.ensures.value) at c.in_ok-layers.ensures)) c.in_err-keep.field-0.0 why.0 why.1))

pub returns-clause-design : goal.returns-clause-design
returns-clause-design g c =
    let read = c.in_ok-library.ensures.ok in
    let metal = c.in_ok-metal_layers.metal_layers.items in
    let fill = c.existing_layers-existing_layers.result.now in
    let keep = c.in_ok-keep_layers.keep_layers.items in
    let counted = c.in_ok-counted.counted.items in
    let all = c.in_ok-layers.layers.items in
    let among = among_of_first metal fill keep counted all (rw c.deref.ensures.value at c.in_ok-counted.ensures) (rw (c.deref-2.ensures.value, c.deref-3.ensures.value) at c.in_ok-layers.ensures) in
    design_near c.args.bytes.now (values_of c.args.view.now.rules) read.0 (contents_of c.in_ok-library.library) all c.args.view.now.frame
    c.layers_suffice.ensures c.layers_suffice_within.ensures c.requires read.1 (rw c.deref-4.ensures.value at read.2) metal c.in_ok-metal_layers.ensures among.0
    (holds c.in_ok-metal.metal) (rw c.deref-5.ensures.value at c.in_ok-metal.ensures.drawn) fill c.existing_layers-existing_layers.ensures among.1
    (holds c.in_ok-fill.fill) c.in_ok-fill.ensures.drawn keep c.in_ok-keep_layers.ensures
    (among_second counted keep all (rw (c.deref-2.ensures.value, c.deref-3.ensures.value) at c.in_ok-layers.ensures))
    (holds c.in_ok-keep.keep) c.in_ok-library.library.units c.in_ok-library.library.dates refl refl (rw c.deref-6.ensures.value at c.in_ok-keep.ensures.drawn)
