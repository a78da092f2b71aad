-- The one defect of a message, as a walk over its fields meets it.
use Rattle.std.proofs.Common.{ℕ, ◌≡◌, ◌↔◌, IsTrue, Bool, false, List, subst}
use Rattle.mvt_wire.specs.Field.{Entry}
use Rattle.mvt_wire.specs.Message.{HasDefect}
use Rattle.mvt_wire.specs.Walk.{Walk, IsOver, FindsDefect}
use Rattle.mvt_wire.specs.declared.cause.WireCause.{WireCause}
use Rattle.mvt_wire.proofs.Encoding.Messages.{one_defect, whole_or_defect}
use Rattle.mvt_wire.proofs.Walking.{IsWalking, IsWalking-defect, IsWalking-whole}

-- a message has one defect, or none
pub IsWalking-its_defect : (bytes : List ℕ) (from : ℕ) (old new : Walk) (entries : List Entry) (found cause : WireCause) (same : Bool) → IsWalking bytes from old entries → FindsDefect old new found
    → (IsTrue same ↔ (found ≡ cause)) → IsTrue same ↔ HasDefect bytes from cause
IsWalking-its_defect bytes from old new entries found cause same so_far finds decides =
    let defect = IsWalking-defect bytes from old new entries found so_far finds in (
      λ here. subst (HasDefect bytes from) (decides.0 here) defect,
      λ other. decides.1 (one_defect bytes from found cause defect other),
    )

pub IsWalking-no_defect : (bytes : List ℕ) (from : ℕ) (old new : Walk) (entries : List Entry) (cause : WireCause) → IsWalking bytes from old entries → IsOver old new → IsTrue false ↔ HasDefect bytes from cause
IsWalking-no_defect bytes from old new entries cause so_far over =
    (λ never. absurd (cc), λ defect. absurd (whole_or_defect bytes from entries cause (IsWalking-whole bytes from old new entries so_far over) defect))
