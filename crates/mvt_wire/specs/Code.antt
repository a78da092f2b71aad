-- The numbers of the codes of wire faults.
use Rattle.std.specs.Prelude.{ℕ}
use Rattle.mvt_wire.specs.declared.cause.WireCode.{WireCode}
use Rattle.mvt_wire.specs.declared.cause.WireCode.TheVariants.{Ends, TooLong, BadNumber, BadWireType, PastEnd, OtherType, Again, Missing, OneField, NotUtf8, OutOfRange}

-- the number of a code
abbrev pub code_of : WireCode → ℕ
code_of Ends = 101
code_of TooLong = 102
code_of BadNumber = 103
code_of BadWireType = 104
code_of PastEnd = 105
code_of OtherType = 106
code_of Again = 107
code_of Missing = 108
code_of OneField = 109
code_of NotUtf8 = 110
code_of OutOfRange = 111
