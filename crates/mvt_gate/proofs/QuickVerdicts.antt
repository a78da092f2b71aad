-- What a quick verdict says of all faults that are true of bytes: it is the judge's own, but where edges of its feature meet.
use Rattle.std.proofs.Common.{◌≡◌, ◌↔◌, ℕ, List, Option, Some, None, refl}
use Rattle.mvt_rules.proofs.Validity.TrueFaults.{shown_is_invalid}
use Rattle.mvt_rules.specs.Shows.{ShowsBy}
use Rattle.mvt_rules.specs.Valid.{ValidBy}
use Rattle.mvt_fault.specs.Place.{IsLeast}
use Rattle.mvt_fault.specs.declared.fault.Fault.{Fault}
use Rattle.mvt_fault.specs.declared.fault.Fault.TheVariants.{Meeting}
use Rattle.mvt_fault.specs.declared.profile.Profile.{Profile}
use Rattle.mvt_fault.specs.declared.profile.Profile.TheVariants.{Polygon, Feature}
use Rattle.mvt_tile.proofs.RuleFaults.FreeFaults.{least_or_holds, least_unless_free}
use Rattle.mvt_tile.specs.FreeFaults.{of_least, of_free}
use Rattle.mvt_gate.specs.FaultList.{HasNoMeetingIn, subject_of}
use Rattle.mvt_gate.specs.Quick.{IsFreeBy, HasMeetingCode, IsQuickFaultBy}
use Rattle.mvt_gate.specs.Verdict.{IsQuickVerdictBy, IsVerdictBy, IsVerdictFor, verdict_of}
use Rattle.mvt_gate.specs.declared.quick.Search.{Search}
use Rattle.mvt_gate.specs.declared.quick.Search.TheVariants.{Least, Quick}
use Rattle.mvt_gate.specs.declared.verdict.Verdict.{Verdict}
use Rattle.mvt_gate.specs.declared.verdict.Verdict.TheVariants.{Yes, No}

-- it is true of the bytes
pub quick_is_shown : (profile : Profile) (bytes : List ℕ) (fault : Fault) → IsQuickFaultBy profile bytes fault → ShowsBy profile bytes fault
quick_is_shown profile bytes fault quick = least_or_holds (IsFreeBy profile) (ShowsBy profile bytes) fault quick

-- The judge's own fault

-- no meeting is true of a feature of which no edges meet
no_meeting_shown : (bytes : List ℕ) (fault : Fault) → ShowsBy Feature bytes fault → HasNoMeetingIn bytes (subject_of fault) → ¬ HasMeetingCode fault
no_meeting_shown bytes (Meeting layer feature polygon first second x y w) shown apart is =
    apart layer feature shown.0 shown.1 refl shown.2 shown.3.0 shown.3.1 first second (record { x = x; y = y; w = w }) shown.3.2.meets
no_meeting_shown bytes fault shown apart is = is

-- so none may be named there
pub none_free : (profile : Profile) (bytes : List ℕ) (fault : Fault) → ShowsBy profile bytes fault → HasNoMeetingIn bytes (subject_of fault) → ¬ IsFreeBy profile fault
none_free Polygon bytes fault shown apart is = is
none_free Feature bytes fault shown apart is = no_meeting_shown bytes fault shown apart is

-- and the quick fault is the first
pub first_where_apart : (profile : Profile) (bytes : List ℕ) (fault : Fault) → IsQuickFaultBy profile bytes fault → HasNoMeetingIn bytes (subject_of fault) → IsLeast (ShowsBy profile bytes) fault
first_where_apart profile bytes fault (of_least first) apart = first
first_where_apart profile bytes fault (of_free is holds none) apart = absurd (none_free profile bytes fault holds apart is)

-- Verdicts

-- by the profile that checks each polygon by itself, the judge's verdict is the quick one
pub quick_verdict_by_polygon : (bytes : List ℕ) (verdict : Verdict) → IsVerdictBy Polygon bytes verdict → IsQuickVerdictBy Polygon bytes verdict
quick_verdict_by_polygon bytes Yes valid = valid
quick_verdict_by_polygon bytes (No fault) least = of_least least

-- and the other way round
pub verdict_by_polygon : (bytes : List ℕ) (verdict : Verdict) → IsQuickVerdictBy Polygon bytes verdict → IsVerdictBy Polygon bytes verdict
verdict_by_polygon bytes Yes valid = valid
verdict_by_polygon bytes (No fault) quick = least_unless_free (IsFreeBy Polygon) (ShowsBy Polygon bytes) fault (λ other is. is) quick

-- the quick verdict on bytes that aren't valid names a fault that is true of them
pub fault_of_invalid : (profile : Profile) (bytes : List ℕ) (verdict : Verdict) → IsQuickVerdictBy profile bytes verdict → ¬ ValidBy profile bytes → (fault : Fault) × (verdict ≡ No fault) × ShowsBy profile bytes fault
fault_of_invalid profile bytes Yes valid invalid = absurd (invalid valid)
fault_of_invalid profile bytes (No fault) quick invalid = (fault, refl, quick_is_shown profile bytes fault quick)

-- By either search

-- the verdict is yes just where the bytes are valid
pub yes_where_valid : (search : Search) (profile : Profile) (bytes : List ℕ) (verdict : Verdict) → IsVerdictFor search profile bytes verdict → (verdict ≡ Yes) ↔ ValidBy profile bytes
yes_where_valid Least profile bytes Yes valid = (λ same. valid, λ its. refl)
yes_where_valid Quick profile bytes Yes valid = (λ same. valid, λ its. refl)
yes_where_valid Least profile bytes (No fault) least = (λ same. absurd (cc), λ valid. absurd (shown_is_invalid profile bytes fault least.holds valid))
yes_where_valid Quick profile bytes (No fault) quick = (λ same. absurd (cc), λ valid. absurd (shown_is_invalid profile bytes fault (quick_is_shown profile bytes fault quick) valid))

-- and no fault is found
pub none_where_valid : (search : Search) (profile : Profile) (bytes : List ℕ) (found : Option Fault) → IsVerdictFor search profile bytes (verdict_of found) → (found ≡ None) ↔ ValidBy profile bytes
none_where_valid Least profile bytes None valid = (λ same. valid, λ its. refl)
none_where_valid Quick profile bytes None valid = (λ same. valid, λ its. refl)
none_where_valid Least profile bytes (Some fault) least = (λ same. absurd (cc), λ valid. absurd (shown_is_invalid profile bytes fault least.holds valid))
none_where_valid Quick profile bytes (Some fault) quick = (λ same. absurd (cc), λ valid. absurd (shown_is_invalid profile bytes fault (quick_is_shown profile bytes fault quick) valid))
