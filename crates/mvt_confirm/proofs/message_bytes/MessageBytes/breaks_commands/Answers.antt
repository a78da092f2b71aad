use Rattle.std.proofs.Common.{◌≡◌, ◌↔◌, ℕ, IsTrue, Some, ◌∙◌, subst}
use Rattle.mvt_fault.specs.Code.{command_code}
use Rattle.mvt_plane.specs.FeatureGeometry.{BreaksCommands}
use Rattle.mvt_confirm.proofs.message_bytes.MessageBytes.breaks_commands.Goals as goal

-- the one of two numbers is the other
same_number : (n m : ℕ) → Some n ≡ Some m → n ≡ m
same_number n m same = cc

pub returns-in_default : goal.returns-in_default
returns-in_default c = λ it is. absurd (c.in_default.not-Some it.kind (c.kind.ensures it is))

pub returns : goal.returns
returns c = λ it is.
    subst (λ (kind : ℕ). IsTrue c.breaks_commands.result ↔ BreaksCommands kind it.geometry (command_code c.args.code) c.args.index)
    (c.from.ensures ∙ same_number c.in-Some.kind it.kind (c.in-Some.ensures it is)) (c.breaks_commands.ensures it.geometry (c.geometry.ensures it is))
