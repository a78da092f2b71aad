use Rattle.std.proofs.Common.{◌≡◌, sym, ◌∙◌, Some}
use Rattle.mvt_tile.proofs.RuleFaults.LayerFaults.{finds_version, finds_name, finds_none}
use Rattle.mvt_tile.proofs.rules.layer_faults.fault_of_layer.Goals as goal

pub returns-then-version-ne2 : goal.returns-then-version-ne2
returns-then-version-ne2 c = λ layers tile are summary there version first. finds_version tile layers are c.args.layer summary there (λ two. c.if-version-ne2.true (version ∙ two))

pub returns-in-Some : goal.returns-in-Some
returns-in-Some c = λ layers tile are summary there version first.
    finds_name tile layers are c.args.layer summary there (sym version ∙ c.if-version-ne2.false) c.in-Some.first ((first c.in-Some.first).0 c.in-Some.is)

pub returns-in-None : goal.returns-in-None
returns-in-None c = λ layers tile are summary there version first.
    finds_none tile layers are c.args.layer summary there (sym version ∙ c.if-version-ne2.false) (λ other repeated. let both : _ ≡ Some other = sym c.in-None.is ∙ (first other).1 repeated in absurd (cc))
