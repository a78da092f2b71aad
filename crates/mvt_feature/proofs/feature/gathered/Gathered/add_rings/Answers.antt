use Rattle.std.proofs.Common.{◌≡◌, ◌++◌, [], ◌∷◌, ◌∙◌, ap, arith}
use Rattle.mvt_feature.proofs.Features.GatheredSteps.{rings_more, both_more, range_more}
use Rattle.mvt_feature.proofs.feature.gathered.Gathered.add_rings.Goals as goal

pub loop-ring-preserved : goal.loop-ring-preserved
loop-ring-preserved c =
    let ring = c.loop-ring.ring in
    let from = c.args.from in
    let copied = c.extend_from_slice.new.self in
    let extended : copied.items ≡ c.new-vertices.result.items ++ c.deref.result.now = c.in_ok-extend_from_slice.ensures.items in
    let same : copied.items ≡ c.index-rings-ring.result.items = extended ∙ ap (λ xs. xs ++ c.deref.result.now) c.new-vertices.ensures.items ∙ c.deref.ensures.value in
    let pushed : c.push.new.self.items ≡ c.loop-ring.self.rings.items ++ copied ∷ [] = c.in_ok-push.ensures.items in
    let place : c.push-in-loop-ring.new.self.items ≡ c.loop-ring.self.ring_of.items ++ ring ∷ [] = c.in_ok-push-2.ensures.items in
    record {
      rings = rings_more c.args.rings.now c.loop-ring.self.rings.items c.push.new.self.items _ from ring c.index-rings-ring.result copied (omega arith) (omega arith) c.index-rings-ring.is same pushed c.loop-ring.invariant.rings;
      places = both_more c.loop-ring.self.ring_of.items c.push-in-loop-ring.new.self.items c.args.self.now.ring_of.items _ _ ring place c.loop-ring.invariant.places (range_more from ring (omega arith));
      numbers = c.loop-ring.invariant.numbers;
    }
