-- For private clauses: the object that a value is, if it has a fault's shape.
use Rattle.std.specs.Prelude.{◌≡◌, ◌≢◌, ℕ, ⊤, codes, Option, Some, MatchOption, Result, Ok, Err}
use Rattle.serde_json.specs.Data.{Data}
use Rattle.serde_json.specs.Find.{get}
use Rattle.serde_json.specs.View.{view}
use Rattle.mvt_fault.specs.declared.fault.Fault.{Fault}
use Rattle.mvt_fault.specs.declared.reading.FaultTextError.{FaultTextError}
use Rattle.mvt_fault.specs.declared.reading.FaultTextError.TheVariants.{Json, Shape, Range, Memory}
use Rattle.mvt_fault.specs.declared.reading.candidate.Candidate.{Candidate}
use Rattle.mvt_fault.specs.Reading.{StandsFor, HasShape, IsOutOfRange}
use Rattle.mvt_fault.specs.Text.{whole_number, IsInRange}

-- the answer to a value is right; where memory is refused, there is none
abbrev pub IsAnswerTo : Data → Result Fault FaultTextError → Type 0
IsAnswerTo d (Ok f) = StandsFor f d × IsInRange f
IsAnswerTo d (Err Json) = ⊥
IsAnswerTo d (Err Shape) = ¬ HasShape d
IsAnswerTo d (Err Range) = IsOutOfRange d
IsAnswerTo d (Err Memory) = ⊤

-- the value has this code
abbrev pub HasCode : Data → ℕ → Type 0
HasCode d n = get (codes "code") d ≡ Some (whole_number n)

-- if the value has a fault's shape, it is the object, and the fault is the one that the object means, where that is in range
pub record IsCandidate (d : Data) (c : Candidate) : Type 0 where
  pub only : (f : Fault) → StandsFor f d → d ≡ view c.object
  pub fault : MatchOption c.fault (IsOutOfRange (view c.object)) (λ f. StandsFor f (view c.object) × IsInRange f)

-- the value has a fault's shape only as this candidate, if any
abbrev pub HasCandidate : Data → Option Candidate → Type 0
HasCandidate d o = MatchOption o (¬ HasShape d) (IsCandidate d)

-- the number is none of the codes that have no type
abbrev pub HasNoBareCode : ℕ → Type 0
HasNoBareCode n = (n ≢ 201) × (n ≢ 202) × (n ≢ 504) × (n ≢ 505) × (n ≢ 506) × (n ≢ 507)
