-- What the steps of a quick search answer.
use Rattle.std.specs.Prelude.{List, Option, Some, None}
use Rattle.mvt_plane.specs.Position.{Position}
use Rattle.mvt_feature.specs.Feature.{IsFeatureAnswer, IsFirstFault}
use Rattle.mvt_feature.specs.QuickFeature.{IsAnyMeeting}
use Rattle.mvt_feature.specs.declared.feature.FeatureCause.{FeatureCause}
use Rattle.mvt_feature.specs.declared.feature.FeatureCause.TheVariants.{Meeting, Nesting, Apart}
use Rattle.mvt_feature.specs.declared.feature.FeatureFault.{FeatureFault}

-- this cause is a meeting
abbrev pub IsOfMeeting : FeatureCause → Type 0
IsOfMeeting (Meeting meeting) = Unit {0}
IsOfMeeting (Nesting fault) = ⊥
IsOfMeeting (Apart fault) = ⊥

-- a fault was found, and it is a meeting
abbrev pub IsMeetingFault : Option FeatureFault → Type 0
IsMeetingFault (Some fault) = IsOfMeeting fault.cause
IsMeetingFault None = ⊥

-- Together

-- a meeting may be any; each other fault is the first
abbrev pub IsTogetherCause : List (List Position) → FeatureFault → FeatureCause → Type 0
IsTogetherCause rings fault (Meeting meeting) = IsAnyMeeting rings fault
IsTogetherCause rings fault (Nesting wrong) = IsFirstFault rings fault
IsTogetherCause rings fault (Apart wrong) = IsFirstFault rings fault

-- so the answer is; or there is none, where no polygon has a fault
abbrev pub IsTogetherAnswer : List (List Position) → Option FeatureFault → Type 0
IsTogetherAnswer rings (Some fault) = IsTogetherCause rings fault fault.cause
IsTogetherAnswer rings None = IsFeatureAnswer rings None
