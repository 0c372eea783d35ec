use Rattle.std.proofs.Common.{◌∙◌, sym}
use Rattle.gds_shape.proofs.Faults.{fault_1, fault_2, fault_3, fault_4, fault_5, no_fault}
use Rattle.gds_grammar.specs.Values.{wire_of}
use Rattle.gds_shape.proofs.path.fault_among.Goals as goal

pub returns-then-has_slanted : goal.returns-then-has_slanted
returns-then-has_slanted c = fault_1 (wire_of c.args.path.now) c.args.corners.now (sym c.has_slanted.ensures ∙ c.if-has_slanted.true)

pub returns-then-has_round_end : goal.returns-then-has_round_end
returns-then-has_round_end c = fault_2 (wire_of c.args.path.now) c.args.corners.now (sym c.has_slanted.ensures ∙ c.if-has_slanted.false) (sym c.has_round_end.ensures ∙ c.if-has_round_end.true)

pub returns-then-has_odd_width : goal.returns-then-has_odd_width
returns-then-has_odd_width c = fault_3 (wire_of c.args.path.now) c.args.corners.now (sym c.has_slanted.ensures ∙ c.if-has_slanted.false) (sym c.has_round_end.ensures ∙ c.if-has_round_end.false)
    (sym c.has_odd_width.ensures ∙ c.if-has_odd_width.true)

pub returns-then-doubles_back : goal.returns-then-doubles_back
returns-then-doubles_back c = fault_4 (wire_of c.args.path.now) c.args.corners.now (sym c.has_slanted.ensures ∙ c.if-has_slanted.false) (sym c.has_round_end.ensures ∙ c.if-has_round_end.false)
    (sym c.has_odd_width.ensures ∙ c.if-has_odd_width.false) (sym c.doubles_back.ensures ∙ c.if-doubles_back.true)

pub returns-then-has_bad_extension : goal.returns-then-has_bad_extension
returns-then-has_bad_extension c = fault_5 (wire_of c.args.path.now) c.args.corners.now (sym c.has_slanted.ensures ∙ c.if-has_slanted.false) (sym c.has_round_end.ensures ∙ c.if-has_round_end.false)
    (sym c.has_odd_width.ensures ∙ c.if-has_odd_width.false) (sym c.doubles_back.ensures ∙ c.if-doubles_back.false) (sym c.has_bad_extension.ensures ∙ c.if-has_bad_extension.true)

pub returns : goal.returns
returns c = no_fault (wire_of c.args.path.now) c.args.corners.now (sym c.has_slanted.ensures ∙ c.if-has_slanted.false) (sym c.has_round_end.ensures ∙ c.if-has_round_end.false)
    (sym c.has_odd_width.ensures ∙ c.if-has_odd_width.false) (sym c.doubles_back.ensures ∙ c.if-doubles_back.false) (sym c.has_bad_extension.ensures ∙ c.if-has_bad_extension.false)
