use Rattle.std.proofs.Common.{◌+◌, rules, arith}
use Rattle.mvt_sweep.proofs.Chains.ChainEdges.{no_chains}
use Rattle.mvt_sweep.proofs.sweep.chains.Chains.new.Goals as goal

pub returns : goal.returns
returns c =
    no_chains c.args.vertices.now _ (c.len-2.result + 1) _ (omega (arith, c.in_ok-vec.ensures.len, c.len.ensures)) (c.in_ok-vec-2.ensures.items_if_clones_equal (λ y same. same)) (omega (arith, c.len-2.ensures))
    (search rules) (search rules)
