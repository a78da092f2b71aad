-- What an engine reads and writes, as the counts of its tallies show it.
use Rattle.std.specs.Prelude.{◌≡◌, ◌≢◌, ℕ, suc, ◌+◌, ◌<◌, ◌≤◌, ◌⊎◌, List, length, take, Option, Result, Err, IfErr, IfOk, OnOk}
use Rattle.std.specs.Io.KnownBytes.{Appends, Consumes, IsAtEnd}
use Rattle.mvt_engine.specs.declared.engine.EngineFault.{EngineFault}
use Rattle.mvt_engine.specs.declared.engine.EngineFault.TheVariants.{Read, TooLarge, Write, NotJson, NotAFault, FaultRange, Memory}
use Rattle.mvt_engine.specs.declared.engine.Outcome.{Outcome}
use Rattle.mvt_engine.specs.declared.tally.Tally.{Tally}
use Rattle.mvt_engine.specs.Tally.{IsUntouched, counts_of, tally_bytes}

-- how many bytes an input may have
abbrev pub input_limit : ℕ
input_limit = 67108864

-- how many interruptions a run bears, those of all its devices together
abbrev pub interruption_limit : ℕ
interruption_limit = 1000

-- the most bytes of one read
abbrev pub chunk_length : ℕ
chunk_length = 65536

-- the input is all that the reader gave, up to its end, and no read of it failed
pub record ReadsWhole {T : Type 0} (known : T → Option (List ℕ)) (old new : Tally T) (input : List ℕ) : Type 0 where
  pub gave : Consumes (tally_bytes known old) (tally_bytes known new) input
  pub at_end : IsAtEnd (tally_bytes known new)
  pub counted : (counts_of new).bytes ≡ length input
  pub small : length input ≤ input_limit
  pub clean : (counts_of new).failed ≡ 0

-- these bytes and no others came in
pub record ReadsBytes {T : Type 0} (known : T → Option (List ℕ)) (old new : Tally T) (bytes : List ℕ) : Type 0 where
  pub gave : Consumes (tally_bytes known old) (tally_bytes known new) bytes
  pub counted : (counts_of new).bytes ≡ length bytes

-- these bytes and no others went out
pub record Writes {T : Type 0} (known : T → Option (List ℕ)) (old new : Tally T) (bytes : List ℕ) : Type 0 where
  pub appended : Appends (tally_bytes known old) (tally_bytes known new) bytes
  pub counted : (counts_of new).bytes ≡ length bytes

-- No call on the device failed, and the run bears its interruptions. Here and below, `others` is how often the engine's
-- other devices were interrupted.
pub record IsClean {T : Type 0} (t : Tally T) (others : ℕ) : Type 0 where
  pub failed : (counts_of t).failed ≡ 0
  pub patient : (counts_of t).interrupted + others ≤ interruption_limit

-- The device ended the run. A run begins with no counts and ends with the first failure, so its counts are these: one
-- call failed, and the run bears the interruptions; or none failed, and the device was interrupted once more than it bears.
abbrev pub HasFailed : {T : Type 0} → Tally T → ℕ → Type 0
HasFailed t others =
    (((counts_of t).failed ≡ 1) × ((counts_of t).interrupted + others ≤ interruption_limit))
    ⊎ (((counts_of t).failed ≡ 0) × ((counts_of t).interrupted + others ≡ suc interruption_limit) × (others ≤ interruption_limit))

-- the last read passed the limit on bytes, and no read failed
pub record IsTooLarge {T : Type 0} (t : Tally T) (others : ℕ) : Type 0 where
  pub above : input_limit < (counts_of t).bytes
  pub last : (counts_of t).bytes ≤ input_limit + chunk_length
  pub clean : IsClean t others

-- the fault is one of a second input, which is to be the text of a fault
abbrev pub IsOfClaim : EngineFault → Type 0
IsOfClaim fault = (fault ≡ NotJson) ⊎ (fault ≡ NotAFault) ⊎ (fault ≡ FaultRange)

-- What the only reader shows of a result: a fault of reading comes only where its counts are so, and after any fault the bytes
-- that they count came in this run. There is no second input that could be wrong.
pub record ReaderShows {A T : Type 0} (known : T → Option (List ℕ)) (old new : Tally T) (others : ℕ) (result : Result A EngineFault) : Type 0 where
  pub read : result ≡ Err Read → HasFailed new others
  pub too_large : result ≡ Err TooLarge → IsTooLarge new others
  pub memory : result ≡ Err Memory → IsClean new others
  pub counted : IfErr result (λ _. (input : List ℕ) × ReadsBytes known old new input)
  pub no_claim : IfErr result (λ fault. ¬ IsOfClaim fault)

-- An engine is described by its answers: which outcome and which line answer an input. Where there are several lines, all in
-- turn stand for the line.

-- the engine read its whole input, and the line of an answer to it went out, once and whole
pub record Answers {R W : Type 0} (IsAnswer : List ℕ → Outcome → List ℕ → Type 0)
    (remaining : R → Option (List ℕ)) (contents : W → Option (List ℕ))
    (reader reader' : Tally R) (writer writer' : Tally W) (outcome : Outcome) : Type 0 where
  pub input : List ℕ
  pub line : List ℕ
  pub read : ReadsWhole remaining reader reader' input
  pub answer : IsAnswer input outcome line
  pub written : Writes contents writer writer' line

-- the engine read its whole input, and a first part of the line of an answer to it went out
pub record BreaksOff {R W : Type 0} (IsAnswer : List ℕ → Outcome → List ℕ → Type 0)
    (remaining : R → Option (List ℕ)) (contents : W → Option (List ℕ))
    (reader reader' : Tally R) (writer writer' : Tally W) : Type 0 where
  pub input : List ℕ
  pub outcome : Outcome
  pub line : List ℕ
  pub count : ℕ
  pub read : ReadsWhole remaining reader reader' input
  pub answer : IsAnswer input outcome line
  pub written : Writes contents writer writer' (take count line)

-- What an engine of one input promises. Where it answers, its line is that of all that the reader gave, and went out once and
-- whole. Where it fails, the counts show why. Before the line is whole nothing goes out, and after a failed write a first part
-- of it has.
pub record IsRunOf {R W : Type 0} (IsAnswer : List ℕ → Outcome → List ℕ → Type 0)
    (remaining : R → Option (List ℕ)) (contents : W → Option (List ℕ))
    (reader reader' : Tally R) (writer writer' : Tally W) (result : Result Outcome EngineFault) : Type 0 where
  pub answers : IfOk result (Answers IsAnswer remaining contents reader reader' writer writer')
  pub clean : OnOk result (IsClean writer' (counts_of reader').interrupted)
  pub reading : ReaderShows remaining reader reader' (counts_of writer').interrupted result
  pub write : result ≡ Err Write → HasFailed writer' (counts_of reader').interrupted
  pub untouched : IfErr result (λ fault. fault ≢ Write → IsUntouched writer writer')
  pub prefix : result ≡ Err Write → BreaksOff IsAnswer remaining contents reader reader' writer writer'
