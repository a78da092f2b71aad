-- Refusals of a spelling that come out of a call on the way.
use Rattle.std.proofs.Common.{◌≡◌, ◌∙◌, Result, sym}
use Rattle.std.specs.Result.{IfErr, IsErrAnd}
use Rattle.std.proofs.lemmas.Result.{err_from_is_err_and}
use Rattle.mvt_draw.specs.declared.spelling.SpellFault.{SpellFault}
use Rattle.mvt_draw.specs.declared.spelling.SpellFault.TheVariants.{Unspellable}

-- where the whole can't be but by this, a refusal of this is one of the whole
pub fault_passed : {T This Whole : Type 0} (result : Result T SpellFault) (fault : SpellFault) → IsErrAnd result (λ it. it ≡ fault) → (fault ≡ Unspellable → ¬ This) → (Whole → This)
    → IfErr result (λ it. it ≡ Unspellable → ¬ Whole)
fault_passed result fault returned refused needed =
    let p = err_from_is_err_and result returned in
    rw (p.1) (λ told whole. refused (sym p.2 ∙ told) (needed whole))
