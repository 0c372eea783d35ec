use Rattle.std.proofs.Common.{refl, subst, ◌∙◌}
use Rattle.fill_base.specs.Squares.{squares}
use Rattle.fill_area.specs.Grid.{Grid}
use Rattle.fill_region.specs.Runs.{holds}
use Rattle.fill_sums.specs.Numbers.{IsMoved}
use Rattle.fill_sums.specs.declared.moving.Way.TheVariants.{Up, Down}
use Rattle.fill_tests.proofs.Moving.{began, is_gone, may_come, may_go, none_at, stays_at}
use Rattle.fill_tests.proofs.sums.moved_sums.Goals as goal

pub add_box-requires : goal.add_box-requires
add_box-requires g c = record { room = may_come (squares c.args.rect.now) c.in_ok-sums.sums.windows c.in_ok-sums.sums.total (began _ c.in_ok-sums.sums.windows c.args.windows.now c.in_ok-sums.sums.total c.in_ok-sums.ensures.windows c.empty.ensures.squares c.in_ok-sums.ensures.total) }

pub drop_box-requires : goal.drop_box-requires
drop_box-requires g c =
    let none = began _ c.in_ok-sums.sums.windows c.args.windows.now c.in_ok-sums.sums.total c.in_ok-sums.ensures.windows c.empty.ensures.squares c.in_ok-sums.ensures.total in
    record {
      there = stays_at Down (squares c.args.rect.now) c.add_box.new.self.windows c.in_ok-sums.sums.windows c.add_box.new.self.total c.add_box.new.self.total c.add_box.ensures.windows refl
          (may_go (squares c.args.rect.now) c.in_ok-sums.sums.windows c.in_ok-sums.sums.total c.add_box.new.self.total none c.add_box.ensures.total);
    }

pub add_metal-requires-clause-drawn_room : goal.add_metal-requires-clause-drawn_room
add_metal-requires-clause-drawn_room g c =
    let none = began _ c.in_ok-sums.sums.windows c.args.windows.now c.in_ok-sums.sums.drawn c.in_ok-sums.ensures.windows c.empty.ensures.squares c.in_ok-sums.ensures.drawn in
    stays_at Up (holds c.args.metal.now) c.drop_box.new.self.windows c.in_ok-sums.sums.windows c.drop_box.new.self.drawn c.in_ok-sums.sums.drawn (c.drop_box.ensures.windows ∙ c.add_box.ensures.windows) (c.drop_box.ensures.drawn ∙ c.add_box.ensures.drawn)
    (may_come (holds c.args.metal.now) c.in_ok-sums.sums.windows c.in_ok-sums.sums.drawn none)

pub add_metal-requires-clause-total_room : goal.add_metal-requires-clause-total_room
add_metal-requires-clause-total_room g c =
    let none = began _ c.in_ok-sums.sums.windows c.args.windows.now c.in_ok-sums.sums.total c.in_ok-sums.ensures.windows c.empty.ensures.squares c.in_ok-sums.ensures.total in
    let gone = is_gone (squares c.args.rect.now) c.in_ok-sums.sums.windows c.in_ok-sums.sums.total c.add_box.new.self.total c.drop_box.new.self.total none c.add_box.ensures.total
    (subst (λ (q : Grid). IsMoved Down (squares c.args.rect.now) q c.add_box.new.self.total c.drop_box.new.self.total) c.add_box.ensures.windows c.drop_box.ensures.total) in
    stays_at Up (holds c.args.metal.now) c.drop_box.new.self.windows c.in_ok-sums.sums.windows c.drop_box.new.self.total c.drop_box.new.self.total (c.drop_box.ensures.windows ∙ c.add_box.ensures.windows) refl
    (may_come (holds c.args.metal.now) c.in_ok-sums.sums.windows c.drop_box.new.self.total gone)

pub cut_metal-requires-clause-drawn_there : goal.cut_metal-requires-clause-drawn_there
cut_metal-requires-clause-drawn_there g c =
    let none = began _ c.in_ok-sums.sums.windows c.args.windows.now c.in_ok-sums.sums.drawn c.in_ok-sums.ensures.windows c.empty.ensures.squares c.in_ok-sums.ensures.drawn in
    let before = none_at c.drop_box.new.self.windows c.in_ok-sums.sums.windows c.drop_box.new.self.drawn c.in_ok-sums.sums.drawn (c.drop_box.ensures.windows ∙ c.add_box.ensures.windows) (c.drop_box.ensures.drawn ∙ c.add_box.ensures.drawn) none in
    stays_at Down (holds c.args.metal.now) c.add_metal.new.self.windows c.drop_box.new.self.windows c.add_metal.new.self.drawn c.add_metal.new.self.drawn c.add_metal.ensures.windows refl
    (may_go (holds c.args.metal.now) c.drop_box.new.self.windows c.drop_box.new.self.drawn c.add_metal.new.self.drawn before c.add_metal.ensures.drawn)

pub cut_metal-requires-clause-total_there : goal.cut_metal-requires-clause-total_there
cut_metal-requires-clause-total_there g c =
    let none = began _ c.in_ok-sums.sums.windows c.args.windows.now c.in_ok-sums.sums.total c.in_ok-sums.ensures.windows c.empty.ensures.squares c.in_ok-sums.ensures.total in
    let gone = is_gone (squares c.args.rect.now) c.in_ok-sums.sums.windows c.in_ok-sums.sums.total c.add_box.new.self.total c.drop_box.new.self.total none c.add_box.ensures.total
    (subst (λ (q : Grid). IsMoved Down (squares c.args.rect.now) q c.add_box.new.self.total c.drop_box.new.self.total) c.add_box.ensures.windows c.drop_box.ensures.total) in
    let before = none_at c.drop_box.new.self.windows c.in_ok-sums.sums.windows c.drop_box.new.self.total c.drop_box.new.self.total (c.drop_box.ensures.windows ∙ c.add_box.ensures.windows) refl gone in
    stays_at Down (holds c.args.metal.now) c.add_metal.new.self.windows c.drop_box.new.self.windows c.add_metal.new.self.total c.add_metal.new.self.total c.add_metal.ensures.windows refl
    (may_go (holds c.args.metal.now) c.drop_box.new.self.windows c.drop_box.new.self.total c.add_metal.new.self.total before c.add_metal.ensures.total)
