-- What an engine reads and writes that has two inputs, a tile and a claim about it.
use Rattle.std.specs.Prelude.{◌≡◌, ◌≢◌, ◌+◌, ℕ, ◌⊎◌, List, take, Option, Result, Err, IfErr, IfOk, OnOk}
use Rattle.mvt_fault.specs.declared.reading.FaultTextError.{FaultTextError}
use Rattle.mvt_fault.specs.declared.reading.FaultTextError.TheVariants.{Json, Shape, Range}
use Rattle.mvt_engine.specs.Engine.{HasFailed, IsClean, IsOfClaim, IsTooLarge, ReadsBytes, ReadsWhole, Writes}
use Rattle.mvt_engine.specs.Tally.{IsUntouched, counts_of}
use Rattle.mvt_engine.specs.declared.engine.EngineFault.{EngineFault}
use Rattle.mvt_engine.specs.declared.engine.EngineFault.TheVariants.{Read, TooLarge, Write, NotJson, NotAFault, FaultRange, Memory}
use Rattle.mvt_engine.specs.declared.engine.Outcome.{Outcome}
use Rattle.mvt_engine.specs.declared.tally.Tally.{Tally}

-- both inputs are all that their readers gave, up to their ends
pub record ReadsBoth {R Q : Type 0} (remaining : R → Option (List ℕ)) (left : Q → Option (List ℕ))
    (tile tile' : Tally R) (claim claim' : Tally Q) (input claimed : List ℕ) : Type 0 where
  pub of_tile : ReadsWhole remaining tile tile' input
  pub of_claim : ReadsWhole left claim claim' claimed

-- The tile comes first: either this of the tile ended the run, and the claim's reader was left alone; or the tile was
-- read whole, and that of the claim ended the run.
abbrev pub EndsReading : {R Q : Type 0} → (R → Option (List ℕ)) → Tally R → Tally R → Tally Q → Tally Q → Type 0 → Type 0 → Type 0
EndsReading remaining tile tile' claim claim' OfTile OfClaim =
    (OfTile × IsUntouched claim claim') ⊎ (((input : List ℕ) × ReadsWhole remaining tile tile' input) × OfClaim)

-- both inputs were read whole, and this is so of them
pub record Finds {R Q : Type 0} (Holds : List ℕ → List ℕ → Type 0) (remaining : R → Option (List ℕ)) (left : Q → Option (List ℕ))
    (tile tile' : Tally R) (claim claim' : Tally Q) : Type 0 where
  pub input : List ℕ
  pub claimed : List ℕ
  pub read : ReadsBoth remaining left tile tile' claim claim' input claimed
  pub holds : Holds input claimed

-- both inputs were read whole, and the line of an answer to them went out, once and whole
pub record AnswersClaim {R Q W : Type 0} (IsAnswer : List ℕ → List ℕ → Outcome → List ℕ → Type 0)
    (remaining : R → Option (List ℕ)) (left : Q → Option (List ℕ)) (contents : W → Option (List ℕ))
    (tile tile' : Tally R) (claim claim' : Tally Q) (writer writer' : Tally W) (outcome : Outcome) : Type 0 where
  pub input : List ℕ
  pub claimed : List ℕ
  pub line : List ℕ
  pub read : ReadsBoth remaining left tile tile' claim claim' input claimed
  pub answer : IsAnswer input claimed outcome line
  pub written : Writes contents writer writer' line

-- both inputs were read whole, and a first part of the line of an answer to them went out
pub record BreaksOffClaim {R Q W : Type 0} (IsAnswer : List ℕ → List ℕ → Outcome → List ℕ → Type 0)
    (remaining : R → Option (List ℕ)) (left : Q → Option (List ℕ)) (contents : W → Option (List ℕ))
    (tile tile' : Tally R) (claim claim' : Tally Q) (writer writer' : Tally W) : Type 0 where
  pub input : List ℕ
  pub claimed : List ℕ
  pub outcome : Outcome
  pub line : List ℕ
  pub count : ℕ
  pub read : ReadsBoth remaining left tile tile' claim claim' input claimed
  pub answer : IsAnswer input claimed outcome line
  pub written : Writes contents writer writer' (take count line)

-- how often these two devices were interrupted
abbrev pub interruptions_of : {A B : Type 0} → Tally A → Tally B → ℕ
interruptions_of one other = (counts_of one).interrupted + (counts_of other).interrupted

-- What an engine of a tile and a claim promises. Where it answers, its line is that of all that both readers gave, and went out
-- once and whole. Where it fails, the counts show why: a fault of reading the tile comes before one of reading the claim, and
-- only a claim that was read whole is refused, after a tile that was. The bytes that the readers' tallies count came in this
-- run. Before the line is whole nothing goes out, and after a failed write a first part of it has.
pub record IsRunOnClaim {R Q W : Type 0} (IsAnswer : List ℕ → List ℕ → Outcome → List ℕ → Type 0) (IsRefused : List ℕ → FaultTextError → Type 0)
    (remaining : R → Option (List ℕ)) (left : Q → Option (List ℕ)) (contents : W → Option (List ℕ))
    (tile tile' : Tally R) (claim claim' : Tally Q) (writer writer' : Tally W) (result : Result Outcome EngineFault) : Type 0 where
  pub answers : IfOk result (AnswersClaim IsAnswer remaining left contents tile tile' claim claim' writer writer')
  pub clean : OnOk result (IsClean writer' (interruptions_of tile' claim'))
  pub read : result ≡ Err Read → EndsReading remaining tile tile' claim claim'
      (HasFailed tile' (interruptions_of claim' writer')) (HasFailed claim' (interruptions_of tile' writer'))
  pub too_large : result ≡ Err TooLarge → EndsReading remaining tile tile' claim claim'
      (IsTooLarge tile' (interruptions_of claim' writer')) (IsTooLarge claim' (interruptions_of tile' writer'))
  pub memory : result ≡ Err Memory → EndsReading remaining tile tile' claim claim'
      (IsClean tile' (interruptions_of claim' writer')) (IsClean claim' (interruptions_of tile' writer'))
  pub write : result ≡ Err Write → HasFailed writer' (interruptions_of tile' claim')
  pub counted : IfErr result (λ _. (input : List ℕ) × (claimed : List ℕ)
      × ReadsBytes remaining tile tile' input × ReadsBytes left claim claim' claimed)
  pub not_json : result ≡ Err NotJson → Finds (λ _ claimed. IsRefused claimed Json) remaining left tile tile' claim claim'
  pub not_a_fault : result ≡ Err NotAFault → Finds (λ _ claimed. IsRefused claimed Shape) remaining left tile tile' claim claim'
  pub fault_range : result ≡ Err FaultRange → Finds (λ _ claimed. IsRefused claimed Range) remaining left tile tile' claim claim'
  pub refused : IfErr result (λ fault. IsOfClaim fault → IsClean claim' (interruptions_of tile' writer'))
  pub untouched : IfErr result (λ fault. fault ≢ Write → IsUntouched writer writer')
  pub prefix : result ≡ Err Write → BreaksOffClaim IsAnswer remaining left contents tile tile' claim claim' writer writer'
