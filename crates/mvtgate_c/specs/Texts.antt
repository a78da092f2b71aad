-- Texts, and how they are handed to a caller.
use Rattle.std.specs.Prelude.{◌≡◌, ◌≢◌, ◌<◌, ◌++◌, ℕ, List, [], length, drop}
use Rattle.mvt_fault.specs.Place.{IsLeast}
use Rattle.mvt_fault.specs.Text.{text_of}
use Rattle.mvt_rules.specs.Parts.TrueFaults.{IsWireFault}
use Rattle.mvt_fault.specs.declared.fault.Fault.{Fault}
use Rattle.mvt_fault.specs.declared.profile.Profile.{Profile}
use Rattle.mvt_engine.specs.AdviceText.{advice_text}
use Rattle.mvt_engine.specs.Dump.{dump_text}
use Rattle.mvt_engine.specs.FaultLine.{fault_lines}
use Rattle.mvt_gate.specs.FaultList.{AreFaultsFor}
use Rattle.mvt_gate.specs.Verdict.{IsVerdictBy, IsVerdictFor}
use Rattle.mvt_gate.specs.declared.quick.Search.{Search}
use Rattle.mvt_gate.specs.declared.verdict.Verdict.TheVariants.{No}
use Rattle.mvt_tile.specs.Advice.{IsAdvice}
use Rattle.mvt_tile.specs.declared.advice.Advice.{Advice}
use Rattle.mvt_rules.specs.Tile.{IsTile, TileRecord}

-- the text of the fault that the verdict on the bytes names, by the profile
abbrev pub IsFaultText : Profile → List ℕ → List ℕ → Type 0
IsFaultText profile bytes text = (fault : Fault) × IsVerdictBy profile bytes (No fault) × (text ≡ text_of fault)

-- the same of the verdict by a search
abbrev pub IsFaultTextFor : Search → Profile → List ℕ → List ℕ → Type 0
IsFaultTextFor search profile bytes text = (fault : Fault) × IsVerdictFor search profile bytes (No fault) × (text ≡ text_of fault)

-- the lines of the faults of bytes that have any, by the profile and a search
abbrev pub IsFaultsTextFor : Search → Profile → List ℕ → List ℕ → Type 0
IsFaultsTextFor search profile bytes text = (faults : List Fault) × AreFaultsFor search profile bytes faults × (faults ≢ []) × (text ≡ fault_lines faults)

-- the text of the first wire fault of the bytes
abbrev pub IsWireFaultText : List ℕ → List ℕ → Type 0
IsWireFaultText bytes text = (fault : Fault) × IsLeast (IsWireFault bytes) fault × (text ≡ text_of fault)

-- the text of what a tile holds
abbrev pub IsDumpText : List ℕ → List ℕ → Type 0
IsDumpText bytes text = (tile : TileRecord) × IsTile bytes tile × (text ≡ dump_text tile)

-- the text of the advice on a tile
abbrev pub IsAdviceText : List ℕ → List ℕ → Type 0
IsAdviceText bytes text = (tile : TileRecord) × (advice : List Advice) × IsTile bytes tile × IsAdvice tile advice × (text ≡ advice_text advice)

-- such a text is at the front of the room, with what was there after it, and its length is reported
pub record Hands (Is : List ℕ → Type 0) (old new : List ℕ) (reported : ℕ) : Type 0 where
  pub text : List ℕ
  pub is : Is text
  pub written : new ≡ text ++ drop reported old
  pub its_length : reported ≡ length text

-- such a text is longer than the room, and its length is reported
pub record Wants (Is : List ℕ → Type 0) (old : List ℕ) (reported : ℕ) : Type 0 where
  pub text : List ℕ
  pub is : Is text
  pub its_length : reported ≡ length text
  pub longer : length old < reported
