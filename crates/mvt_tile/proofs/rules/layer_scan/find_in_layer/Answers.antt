use Rattle.mvt_tile.proofs.RuleFaults.FeatureScan.{IsLike-counted}
use Rattle.std.proofs.Common.{◌≡◌, is_some, false, Option, Some, None, MatchOption}
use Rattle.mvt_tile.proofs.RuleFaults.Seen.{none_before}
use Rattle.mvt_tile.proofs.rules.layer_scan.find_in_layer.Goals as goal

pub returns-then-scan-values-clause-finds : goal.returns-then-scan-values-clause-finds
returns-then-scan-values-clause-finds over c = λ none layer_record is.
    c.in_ok-scan.ensures.finds none layer_record is
    (IsLike-counted c.args.part.bytes.now c.args.part.from c.args.part.to layer_record c.args.part.forward is c.if-scan-keys.true c.if-scan-values.true (c.in_ok-scan.ensures.summary layer_record is))

-- where nothing was found, the other fact is what is found
found_nothing : {F X : Type 0} (First : F → Type 0) (found : Option F) → is_some found ≡ false → X → MatchOption found X First
found_nothing First None is holds = holds
found_nothing First (Some first) is holds = absurd (cc)

pub returns-then-part-seen-clause-finds : goal.returns-then-part-seen-clause-finds
returns-then-part-seen-clause-finds over c = λ none layer_record is. found_nothing _ c.args.found.now none (c.requires.sound.whole c.if-part-seen.true layer_record is)

pub scan_layer-requires-clause-sound : goal.scan_layer-requires-clause-sound
scan_layer-requires-clause-sound over c = c.requires.sound.front c.if-part-seen.false

pub scan_layer-requires-2-clause-sound : goal.scan_layer-requires-2-clause-sound
scan_layer-requires-2-clause-sound over c = none_before over.R.FeatureRule.IsBroken over.R.FeatureRule.IsKept c.args.part.bytes.now c.nothing-nothing.result c.nothing-nothing.ensures _ _ _ _
