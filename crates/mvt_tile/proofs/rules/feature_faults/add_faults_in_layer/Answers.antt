use Rattle.std.proofs.Common.{◌≡◌, ◌∙◌, ◌++◌, sym, ap, subst, inl, ℕ, List, length, take, arith}
use Rattle.std.proofs.Math.Seq.{take-append_seam}
use Rattle.mvt_fault.specs.declared.fault.Fault.{Fault}
use Rattle.mvt_tile.specs.Calls.Gathered.{AreGatheredTo}
use Rattle.mvt_tile.proofs.RuleFaults.FeatureScan.{IsLike-counted}
use Rattle.mvt_tile.proofs.rules.feature_faults.add_faults_in_layer.Goals as goal

pub returns-then-scan-values-clause-gathers : goal.returns-then-scan-values-clause-gathers
returns-then-scan-values-clause-gathers over c = λ tile layer_record in_tile is in_front.
    c.in_ok-scan.ensures.gathers tile layer_record in_tile is
    (IsLike-counted c.args.part.bytes.now c.args.part.from c.args.part.to layer_record c.args.part.forward is c.if-scan-keys.true c.if-scan-values.true (c.in_ok-scan.ensures.summary layer_record is)) in_front

-- what the first walk added is taken back
pub returns-clause-gathers : goal.returns-clause-gathers
returns-clause-gathers over c = λ tile layer_record in_tile is in_front.
    let old = c.args.faults.now.items in
    let own = c.in_ok-scan.ensures.added.0 in
    let size : c.len-before.result ≡ length old = omega (arith, c.len-before.ensures, c.args.faults.now.ok.0) in
    let back : c.truncate.new.self.items ≡ old =
    c.truncate.ensures.items ∙ ap (λ (list : List Fault). take c.len-before.result list) c.in_ok-scan.ensures.added.1
    ∙ ap (λ (n : ℕ). take n (old ++ own)) size ∙ take-append_seam old own in
    let sum = c.in_ok-scan.ensures.summary layer_record is in
    c.in_ok-add_faults.ensures.gathers tile layer_record in_tile is (inl (sum.keys, sum.values))
    (subst (AreGatheredTo over.R.FeatureRule.IsFree over.R.FeatureRule.IsBroken over.R.FeatureRule.IsKept tile c.args.layer_index 0) (sym back) in_front)
