use Rattle.fill_area.proofs.Axes.{begin_is, end_is, extent_is, place_few}
use Rattle.fill_area.proofs.axis.Axis.extent.Goals as goal

pub overflow_add-lo : goal.overflow_add-lo
overflow_add-lo c = (begin_is c.args.self.first c.args.self.step c.from.result c.args.a c.requires.axis.first_is c.requires.axis.step_is (place_few _ _ c.requires.index c.requires.axis.count_is) c.from.ensures).0

pub overflow_add-result : goal.overflow_add-result
overflow_add-result c = (end_is c.args.self.first c.args.self.length c.args.self.step c.from.result c.args.a c.requires.axis.first_is c.requires.axis.length_is c.requires.axis.step_is (place_few _ _ c.requires.index c.requires.axis.count_is) c.from.ensures).0

pub returns : goal.returns
returns c = extent_is c.args.self.first c.args.self.length c.args.self.step c.from.result c.args.self.count c.args.a c.requires.axis c.requires.index c.from.ensures
