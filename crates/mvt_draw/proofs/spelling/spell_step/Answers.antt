use Rattle.std.proofs.Common.{◌≡◌, arith, to_z, of_z, w32}
use Rattle.std.proofs.lemmas.Int.{ints}
use Rattle.mvt_draw.proofs.SpellingSteps.{step_pushed}
use Rattle.mvt_draw.proofs.spelling.spell_step.Goals as goal

pub returns-clause-spelled : goal.returns-clause-spelled
returns-clause-spelled c =
    let from_x : to_z w32 (of_z w32 c.x.result) ≡ c.args.from.x = omega (arith, ints, c.x.ensures) in
    let to_x : to_z w32 (of_z w32 c.x-2.result) ≡ c.args.to.x = omega (arith, ints, c.x-2.ensures) in
    let from_y : to_z w32 (of_z w32 c.y.result) ≡ c.args.from.y = omega (arith, ints, c.y.ensures) in
    let to_y : to_z w32 (of_z w32 c.y-2.result) ≡ c.args.to.y = omega (arith, ints, c.y-2.ensures) in
    step_pushed c.args.from c.args.to c.in-Some.x c.in-Some-parameter.y c.args.numbers.now.items c.push.new.self.items c.push-2.new.self.items
    c.x-2.ensures.in_range (rw (from_x, to_x) at c.in-Some.ensures.parameter) (rw (from_y, to_y) at c.in-Some-parameter.ensures.parameter)
    c.in_ok-push.ensures.items c.in_ok-push-2.ensures.items
