-- No two causes have one number.
use Rattle.std.proofs.Common.{◌≡◌, ℕ, ◌-◌, [], ◌∷◌, get_or, refl}
use Rattle.mvt_wire.specs.Code.{code_of}
use Rattle.mvt_wire.specs.declared.cause.WireCode.{WireCode}
use Rattle.mvt_wire.specs.declared.cause.WireCode.TheVariants.{Ends, TooLong, BadNumber, BadWireType, PastEnd, OtherType, Again, Missing, OneField, NotUtf8, OutOfRange}
use Rattle.mvt_fault.specs.Code.{tag_code, command_code, ring_code}
use Rattle.mvt_fault.specs.declared.tag.TagCode.{TagCode}
use Rattle.mvt_fault.specs.declared.tag.TagCode.TheVariants.{OddLength, NoKey, NoValue, Repeated}
use Rattle.mvt_fault.specs.declared.command.CommandCode.{CommandCode}
use Rattle.mvt_fault.specs.declared.command.CommandCode.TheVariants.{OtherCommand, OtherCount, Unfinished, GreatestParameter, OutOfBounds, NoStep}
use Rattle.mvt_fault.specs.declared.ring.RingCode.{RingCode}
use Rattle.mvt_fault.specs.declared.ring.RingCode.TheVariants.{EndsAtItsBeginning, NoArea, BeginsWithHole}

-- the cause of a wire fault with a number
abbrev pub wire_code_at : ℕ → WireCode
wire_code_at n =
    get_or (Ends ∷ TooLong ∷ BadNumber ∷ BadWireType ∷ PastEnd ∷ OtherType ∷ Again ∷ Missing ∷ OneField ∷ NotUtf8 ∷ []) (n - 101) OutOfRange

-- each number is that of one cause
pub wire_code_at-code_of : (code : WireCode) → wire_code_at (code_of code) ≡ code
wire_code_at-code_of Ends = refl
wire_code_at-code_of code = refl

-- the cause of a fault of tags with a number
abbrev pub tag_code_at : ℕ → TagCode
tag_code_at n = get_or (OddLength ∷ NoKey ∷ NoValue ∷ []) (n - 301) Repeated

-- each number is that of one cause
pub tag_code_at-tag_code : (code : TagCode) → tag_code_at (tag_code code) ≡ code
tag_code_at-tag_code OddLength = refl
tag_code_at-tag_code code = refl

-- the cause of a fault of commands with a number
abbrev pub command_code_at : ℕ → CommandCode
command_code_at n = get_or (OtherCommand ∷ OtherCount ∷ Unfinished ∷ GreatestParameter ∷ OutOfBounds ∷ []) (n - 401) NoStep

-- each number is that of one cause
pub command_code_at-command_code : (code : CommandCode) → command_code_at (command_code code) ≡ code
command_code_at-command_code OtherCommand = refl
command_code_at-command_code code = refl

-- the cause of a fault of rings with a number
abbrev pub ring_code_at : ℕ → RingCode
ring_code_at n = get_or (EndsAtItsBeginning ∷ NoArea ∷ []) (n - 501) BeginsWithHole

-- each number is that of one cause
pub ring_code_at-ring_code : (code : RingCode) → ring_code_at (ring_code code) ≡ code
ring_code_at-ring_code EndsAtItsBeginning = refl
ring_code_at-ring_code code = refl
