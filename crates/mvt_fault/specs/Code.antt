-- The numbers that name the causes of faults.
use Rattle.std.specs.Prelude.{ℕ}
use Rattle.mvt_wire.specs.Code.{code_of}
use Rattle.mvt_fault.specs.declared.command.CommandCode.{CommandCode}
use Rattle.mvt_fault.specs.declared.command.CommandCode.TheVariants.{OtherCommand, OtherCount, Unfinished, GreatestParameter, OutOfBounds, NoStep}
use Rattle.mvt_fault.specs.declared.fault.Fault.{Fault}
use Rattle.mvt_fault.specs.declared.fault.Fault.TheVariants.{Wire, Version, Name, Tag, Command, Ring, Meeting, Outside, HoleInHole, InPolygon}
use Rattle.mvt_fault.specs.declared.ring.RingCode.{RingCode}
use Rattle.mvt_fault.specs.declared.ring.RingCode.TheVariants.{EndsAtItsBeginning, NoArea, BeginsWithHole}
use Rattle.mvt_fault.specs.declared.tag.TagCode.{TagCode}
use Rattle.mvt_fault.specs.declared.tag.TagCode.TheVariants.{OddLength, NoKey, NoValue, Repeated}

-- the number of what is wrong with tags
abbrev pub tag_code : TagCode → ℕ
tag_code OddLength = 301
tag_code NoKey = 302
tag_code NoValue = 303
tag_code Repeated = 304

-- the number of what is wrong with geometry commands
abbrev pub command_code : CommandCode → ℕ
command_code OtherCommand = 401
command_code OtherCount = 402
command_code Unfinished = 403
command_code GreatestParameter = 404
command_code OutOfBounds = 405
command_code NoStep = 406

-- the number of what is wrong with a ring
abbrev pub ring_code : RingCode → ℕ
ring_code EndsAtItsBeginning = 501
ring_code NoArea = 502
ring_code BeginsWithHole = 503

-- the number of a fault's cause
abbrev pub fault_code : Fault → ℕ
fault_code (Wire code scope at field) = code_of code
fault_code (Version layer) = 201
fault_code (Name first second) = 202
fault_code (Tag code layer feature index) = tag_code code
fault_code (Command code layer feature index) = command_code code
fault_code (Ring code layer feature ring) = ring_code code
fault_code (Meeting layer feature polygon first second x y w) = 504
fault_code (Outside layer feature polygon ring vertex) = 505
fault_code (HoleInHole layer feature polygon ring vertex other) = 506
fault_code (InPolygon layer feature polygon vertex other) = 507
