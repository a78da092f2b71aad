use Rattle.std.proofs.Common.{◌↔◌, ℕ, Option, Some, None, IfSome, IfNone, IsTrue, is_some, refl}
use Rattle.std.proofs.lemmas.Option.{IfSome_then}
use Rattle.mvt_wire.proofs.NothingFound.{IfNone_then}
use Rattle.mvt_confirm.proofs.nesting.is_hole.Goals as goal

-- what is found, if anything, decides a claim
decided : {Claim : Type 0} (found : Option ℕ) → IfSome found (λ it. Claim) → IfNone found (¬ Claim) → IsTrue (is_some found) ↔ Claim
decided None there none = (λ is. absurd (cc), λ claim. absurd (none claim))
decided (Some it) there none = (λ is. there, λ claim. refl)

pub returns : goal.returns
returns c = λ rings draws sound.
    rw c.is_some.ensures (decided c.exterior_round.result
    (IfSome_then c.exterior_round.result c.exterior_round.ensures.there (λ exterior told. let it = told rings draws sound in (it.0, it.1, it.2)))
    (IfNone_then c.exterior_round.result c.exterior_round.ensures.none (λ none hole. none rings hole.0 draws sound hole.1 hole.2)))
