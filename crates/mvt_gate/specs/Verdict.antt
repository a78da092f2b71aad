-- What the gate says of a tile's bytes.
use Rattle.std.specs.Prelude.{ℕ, List, Option, Some, None}
use Rattle.mvt_rules.specs.Shows.{ShowsBy}
use Rattle.mvt_rules.specs.Valid.{ValidBy}
use Rattle.mvt_fault.specs.Place.{IsLeast}
use Rattle.mvt_fault.specs.declared.fault.Fault.{Fault}
use Rattle.mvt_fault.specs.declared.profile.Profile.{Profile}
use Rattle.mvt_fault.specs.declared.profile.Profile.TheVariants.{Polygon}
use Rattle.mvt_gate.specs.Quick.{IsQuickFaultBy}
use Rattle.mvt_gate.specs.declared.quick.Search.{Search}
use Rattle.mvt_gate.specs.declared.quick.Search.TheVariants.{Least, Quick}
use Rattle.mvt_gate.specs.declared.verdict.Verdict.{Verdict}
use Rattle.mvt_gate.specs.declared.verdict.Verdict.TheVariants.{Yes, No}

-- the verdict where a fault is found, or none
abbrev pub verdict_of : Option Fault → Verdict
verdict_of None = Yes
verdict_of (Some fault) = No fault

-- The bytes are a valid tile by the profile; or a fault is true of them, and of all these the one that is named comes first.
-- No bytes have two verdicts, but that of two meetings in one polygon either may be named (the law `one_verdict`).
abbrev pub IsVerdictBy : Profile → List ℕ → Verdict → Type 0
IsVerdictBy profile bytes Yes = ValidBy profile bytes
IsVerdictBy profile bytes (No fault) = IsLeast (ShowsBy profile bytes) fault

-- the same by the profile that checks each polygon by itself
abbrev pub IsVerdict : List ℕ → Verdict → Type 0
IsVerdict = IsVerdictBy Polygon

-- the bytes are a valid tile by the profile; or the fault is true of them and is named quickly
abbrev pub IsQuickVerdictBy : Profile → List ℕ → Verdict → Type 0
IsQuickVerdictBy profile bytes Yes = ValidBy profile bytes
IsQuickVerdictBy profile bytes (No fault) = IsQuickFaultBy profile bytes fault

-- the verdict, by a search
abbrev pub IsVerdictFor : Search → Profile → List ℕ → Verdict → Type 0
IsVerdictFor Least = IsVerdictBy
IsVerdictFor Quick = IsQuickVerdictBy
