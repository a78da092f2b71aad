use Rattle.std.proofs.Common.{rules}
use Rattle.mvt_sweep.proofs.Vertices.WiderBounds.{lower, upper, at_most, at_least}
use Rattle.mvt_sweep.proofs.bounds.Bounds.with.Goals as goal

pub returns-clause-own : goal.returns-clause-own
returns-clause-own c = λ vertex within.
    let own = c.args.self in
    record {
      left = lower c.min.result own.left vertex.x (search rules) (search rules) c.min.ensures.self_bound within.left;
      right = upper c.max.result own.right vertex.x (search rules) (search rules) c.max.ensures.self_bound within.right;
      low = lower c.min-2.result own.low vertex.y (search rules) (search rules) c.min-2.ensures.self_bound within.low;
      high = upper c.max-2.result own.high vertex.y (search rules) (search rules) c.max-2.ensures.self_bound within.high;
    }

pub returns-clause-more : goal.returns-clause-more
returns-clause-more c =
    let position = c.args.position in
    record {
      left = lower c.min.result c.x.result position.x (search rules) (search rules) c.min.ensures.other_bound (at_most c.x.result position.x c.x.ensures.value);
      right = upper c.max.result c.x-2.result position.x (search rules) (search rules) c.max.ensures.other_bound (at_least c.x-2.result position.x c.x-2.ensures.value);
      low = lower c.min-2.result c.y.result position.y (search rules) (search rules) c.min-2.ensures.other_bound (at_most c.y.result position.y c.y.ensures.value);
      high = upper c.max-2.result c.y-2.result position.y (search rules) (search rules) c.max-2.ensures.other_bound (at_least c.y-2.result position.y c.y-2.ensures.value);
    }
