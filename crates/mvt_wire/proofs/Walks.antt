-- What the contract of the reader of fields says of its walk.
use Rattle.std.proofs.Common.{◌≡◌, ℕ, ◌<◌, List, length, refl, subst}
use Rattle.mvt_wire.specs.Field.{FieldDefect}
use Rattle.mvt_wire.specs.Walk.{Walk, FindsDefect}
use Rattle.mvt_wire.specs.declared.cause.WireCause.{WireCause}

-- a defect at the place of a walk, which is seen as a whole
pub FindsDefect-at : (old : Walk) (bytes : List ℕ) (at : ℕ) (cause : WireCause) → record { bytes = bytes; at = at } ≡ old → at < length bytes → FieldDefect bytes at cause → FindsDefect old (record { bytes = bytes; at = length bytes }) cause
FindsDefect-at old bytes at cause is left defect =
    let found : FindsDefect (record { bytes = bytes; at = at }) (record { bytes = bytes; at = length bytes }) cause = record { left = left; defect = defect; stopped = refl; same_bytes = refl } in
    subst (λ (walk : Walk). FindsDefect walk (record { bytes = bytes; at = length bytes }) cause) is found
