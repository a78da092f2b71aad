-- What is written of advice.
use Rattle.std.proofs.Common.{◌≡◌, List, ℕ, ◌++◌, Result, Ok, Err, OnOk, if◌then◌else◌}
use Rattle.std.specs.Result.{is_ok}

-- a piece was written after a text
pub pushed : {E : Type 0} (result : Result (Unit {0}) E) (old new piece : List ℕ)
    → new ≡ (if is_ok result then old ++ piece else old)
    → OnOk result (new ≡ old ++ piece)
pushed (Ok unit) old new piece written = written
pushed (Err error) old new piece written = tt
