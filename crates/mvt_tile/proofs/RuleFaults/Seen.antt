-- Features in front of a place that was seen to be sound.
use Rattle.std.proofs.Common.{◌≡◌, ℕ, List, take, arith}
use Rattle.mvt_wire.specs.Field.{Entry}
use Rattle.mvt_wire.specs.Payload.{Span}
use Rattle.mvt_wire.specs.Walk.{Walk}
use Rattle.mvt_wire.proofs.Walking.{IsWalking}
use Rattle.mvt_tile.specs.RuleFaults.{Breaks, Keeps}
use Rattle.mvt_tile.specs.Sound.{AreSoundBefore, AreSoundTo}
use Rattle.mvt_tile.specs.Calls.Reading.{GivesSummary}
use Rattle.mvt_tile.specs.declared.rules.summary.LayerSummary.{LayerSummary}
use Rattle.mvt_tile.specs.declared.seen.Seen.{Seen}
use Rattle.mvt_tile.proofs.WireFaults.Known.{IsPart-after}

module _ (IsBroken : Breaks) (IsKept : Keeps) (bytes : List ℕ) (seen : Seen) (nothing : seen.to ≡ 0) where
  -- in front of the first byte is no feature
  pub none_before : (keys values layer : ℕ) (outer : Span) → AreSoundBefore IsBroken IsKept bytes keys values seen layer outer
  none_before keys values layer outer feature inner part ends =
      let lies = IsPart-after bytes outer 2 feature inner part in
      absurd (omega (arith, lies.after, lies.forward))

  pub nothing_seen : AreSoundTo IsBroken IsKept bytes seen
  nothing_seen layer outer part = record { whole = λ less layer_record is. absurd (omega arith); front = λ beyond. none_before _ _ layer outer }

-- the fields that were passed of a layer, and their content
pub record IsSummaryWalk (bytes : List ℕ) (span : Span) (summary : LayerSummary) (walk : Walk) : Type 0 where
  pub entries : List Entry
  pub walking : IsWalking (take span.to bytes) span.from walk entries
  pub gives : GivesSummary entries summary
