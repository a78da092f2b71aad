use Rattle.std.proofs.Common.{inl, inr, refl, sym, subst, ℕ}
use Rattle.mvt_fault.specs.Place.{IsLeast}
use Rattle.mvt_rules.specs.Parts.TrueFaults.{IsFaultOfLayers}
use Rattle.mvt_fault.specs.declared.fault.Fault.TheVariants.{Version}
use Rattle.mvt_tile.proofs.RuleFaults.LayerNames.{IsLeast-name, fault_at_other, none_at_end}
use Rattle.mvt_tile.proofs.rules.layer_rules.LayerRules.find_fault.Goals as goal

pub returns-in-Some : goal.returns-in-Some
returns-in-Some c = inl (_, c.store_name.ensures, λ tile ends. IsLeast-name c.args.self tile ends.layers c.in-Some.first c.in-Some.second c.in-Some.ensures.first)

pub returns-in-None : goal.returns-in-None
returns-in-None c = inl (
  _,
  c.store_version.ensures,
  λ tile ends. subst (λ (count : ℕ). IsLeast (IsFaultOfLayers tile) (Version count)) (sym c.len-count.ensures) (fault_at_other c.args.self tile ends c.in-None.ensures.none c.if-self.true),
)

pub returns-else-self : goal.returns-else-self
returns-else-self c = inr (refl, λ tile ends. none_at_end c.args.self tile ends c.in-None.ensures.none c.if-self.false)
