-- Where there is no advice.
use Rattle.std.proofs.Common.{List, ℕ, ◌≡◌, inr, refl, subst}
use Rattle.mvt_rules.proofs.Validity.TrueFaults.{no_fault_of_tile}
use Rattle.mvt_fault.specs.Place.{IsLeast}
use Rattle.mvt_rules.specs.Parts.TrueFaults.{IsWireFault}
use Rattle.mvt_fault.specs.declared.fault.Fault.{Fault}
use Rattle.mvt_tile.specs.ReadFault.{IsReadFault}
use Rattle.mvt_tile.specs.declared.read.ReadFault.{ReadFault}
use Rattle.mvt_tile.specs.declared.read.ReadFault.TheVariants.{Wire}
use Rattle.mvt_gate.specs.Advice.{AddsAdvice}

-- bytes with a wire fault are no tile, so nothing is after their line
pub no_advice : (input line : List ℕ) (found : ReadFault) (fault : Fault) → found ≡ Wire fault → IsReadFault input found → AddsAdvice input line line
no_advice input line found fault is holds =
    let least : IsLeast (IsWireFault input) fault = subst (IsReadFault input) is holds in
    inr (λ tile its. no_fault_of_tile input tile fault its least.holds, refl)
