use Rattle.std.proofs.Common.{◌≤◌, ℕ, set, get_or, ◌∙◌, below_more, arith}
use Rattle.std.proofs.Math.ListN.{length-set}
use Rattle.mvt_feature.specs.Calls.Lands.{IsHeld}
use Rattle.mvt_feature.proofs.Cells.Lakes.{still_held, now_held}
use Rattle.mvt_feature.proofs.feature.lakes.hold.Goals as goal

pub loop-hole-preserved : goal.loop-hole-preserved
loop-hole-preserved c =
    let ring_cells = c.args.ring_cells.now in
    let held = c.loop-hole.held in
    let hole = c.loop-hole.hole in
    let cell = get_or ring_cells hole 0 in
    let it = c.with.result in
    let size = c.loop-hole.invariant.size in
    let below = c.requires.cells.below hole (omega arith) in
    let newer = set held cell it in
    let keeps = λ (other : ℕ) (is : IsHeld ring_cells held other). still_held ring_cells held cell other it (omega arith) (c.with.ensures.kept other) is in
    record {
      size = length-set held cell it ∙ size;
      added = below_more (λ (other : ℕ). c.args.from ≤ other → IsHeld ring_cells newer other) hole (λ other before from. keeps other (c.loop-hole.invariant.added other before from))
          (λ _. now_held ring_cells held hole it (omega arith) c.with.ensures.own);
      kept = λ other is. keeps other (c.loop-hole.invariant.kept other is);
    }
