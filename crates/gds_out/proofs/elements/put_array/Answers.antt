use Rattle.std.proofs.Common.{subst, sym, ap, [], ◌∷◌, ◌++◌, pos, ◌+ℤ◌, ◌*ℤ◌, List, map}
use Rattle.std.specs.List.{All}
use Rattle.fill_base.specs.declared.place.Point.{Point}
use Rattle.gds_record.specs.Numbers.{IsStored}
use Rattle.gds_out.specs.FillText.{rec, padded, word_bytes, points_bytes, coordinates}
use Rattle.gds_out.proofs.Appending.{five, with_data}
use Rattle.gds_out.proofs.Corners.{array_fits}
use Rattle.gds_out.proofs.elements.put_array.Goals as goal

pub put_points-requires-clause-stored : goal.put_points-requires-clause-stored
put_points-requires-clause-stored c =
    subst (λ (ps : List Point). All IsStored ps) (sym c.array_points.ensures) (array_fits c.args.corner c.args.step c.args.stack.columns c.args.stack.rows c.requires.array)

pub returns : goal.returns
returns c =
    let p = c.args.corner in
    let n = c.args.stack.columns in let k = c.args.stack.rows in
    five _ _ _ _ _ _ (rec 0x0b 0x00 []) (rec 0x12 0x06 (padded c.args.cell.now)) (rec 0x13 0x02 (word_bytes n ++ word_bytes k))
    (rec 0x10 0x03 (points_bytes ((p.x, p.y) ∷ (p.x +ℤ (pos n *ℤ c.args.step.x), p.y) ∷ (p.x, p.y +ℤ (pos k *ℤ c.args.step.y)) ∷ []))) (rec 0x11 0x00 [])
    c.in_ok-put.ensures c.in_ok-put_name.ensures c.in_ok-put_words.ensures
    (with_data _ _ 0x10 0x03 _ _ (ap (λ (ps : List Point). points_bytes (map coordinates ps)) c.array_points.ensures) c.in_ok-put_points.ensures)
    c.in_ok-put-2.ensures
