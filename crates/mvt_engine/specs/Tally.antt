-- What a tally has counted, and the device that it passes its calls on to.
use Rattle.std.specs.Prelude.{◌≡◌, ℕ, ◌+◌, ◌-◌, ◌^◌, min, List, Option}
use Rattle.mvt_engine.specs.declared.tally.Tally.{Tally}

-- bytes moved, calls that failed and calls that were interrupted
pub record Counts : Type 0 where
  pub bytes : ℕ
  pub failed : ℕ
  pub interrupted : ℕ

-- what the tally has counted
abbrev pub counts_of : {T : Type 0} → Tally T → Counts
counts_of t = record { bytes = t.bytes; failed = t.failed; interrupted = t.interrupted }

-- what the tally passes its calls on to
abbrev pub device_of : {T : Type 0} → Tally T → T
device_of t = t.device

-- the bytes that are known of the tally are those of its device
abbrev pub tally_bytes : {T : Type 0} → (T → Option (List ℕ)) → Tally T → Option (List ℕ)
tally_bytes known t = known t.device

-- nothing was counted yet
abbrev pub no_counts : Counts
no_counts = record { bytes = 0; failed = 0; interrupted = 0 }

-- the device is as it was, and nothing was counted
pub record IsUntouched {T : Type 0} (old new : Tally T) : Type 0 where
  pub device : device_of new ≡ device_of old
  pub counts : counts_of new ≡ no_counts

-- a count that stays at the greatest `u64`
abbrev pub raised : ℕ → ℕ → ℕ
raised count by = min (count + by) (2 ^ 64 - 1)

-- the counts after a call that moved n bytes
abbrev pub after_bytes : Counts → ℕ → Counts
after_bytes counts n = record counts { bytes = raised counts.bytes n }

-- the counts after a call that failed
abbrev pub after_failure : Counts → Counts
after_failure counts = record counts { failed = raised counts.failed 1 }

-- the counts after a call that was interrupted
abbrev pub after_interruption : Counts → Counts
after_interruption counts = record counts { interrupted = raised counts.interrupted 1 }
