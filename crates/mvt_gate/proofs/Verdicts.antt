-- Verdicts by the parts of a tile. No bytes have two, and no input has two answers of `check`, but for two meetings in one
-- polygon.
use Rattle.std.proofs.Common.{◌≡◌, ◌↔◌, ℕ, List, Option, Some, None, IfNone, IfSome, Result, Ok, Err, OnOk, ◌⊎◌, inl, inr, refl, sym, ◌∙◌, ap, subst}
use Rattle.mvt_rules.proofs.Validity.ShownParts.{shown_by_parts}
use Rattle.mvt_rules.proofs.Validity.TrueFaults.{no_fault_of_tile, shown_is_invalid}
use Rattle.mvt_rules.proofs.Validity.ValidParts.{valid_by_parts}
use Rattle.mvt_rules.specs.Parts.Geometry.{IsFaultOfGeometryBy}
use Rattle.mvt_rules.specs.Shows.{OfTile, ShowsBy}
use Rattle.mvt_rules.specs.Valid.{IsValidGeometryBy, ValidBy}
use Rattle.mvt_fault.proofs.Places.{ComesFirst-antisymmetric, same_place_or_meetings}
use Rattle.mvt_fault.specs.Place.{AreMeetingsInOne, IsLeast, place_of}
use Rattle.mvt_rules.specs.Parts.TrueFaults.{IsWireFault}
use Rattle.mvt_fault.specs.declared.fault.Fault.{Fault}
use Rattle.mvt_fault.specs.declared.profile.Profile.{Profile}
use Rattle.mvt_tile.proofs.WireFaults.Tiles.{is_tile}
use Rattle.mvt_tile.proofs.RuleFaults.FreeFaults.{lifted}
use Rattle.mvt_tile.specs.FreeFaults.{IsLeastOr}
use Rattle.mvt_tile.specs.RuleFaults.{Breaks, BreaksAnyRule, Frees, KeepsRules}
use Rattle.mvt_rules.proofs.Tiles.Tiles.{one_tile}
use Rattle.mvt_rules.specs.Tile.{IsTile, TileRecord}
use Rattle.mvt_rules.specs.WireFault.{WireFault}
use Rattle.mvt_wire.specs.declared.cause.WireCause.{WireCause}
use Rattle.mvt_wire.specs.declared.scope.Scope.{Scope}
use Rattle.mvt_gate.specs.Check.{IsCheckAnswerBy}
use Rattle.mvt_engine.specs.FaultLine.{fault_line}
use Rattle.mvt_gate.specs.Quick.{IsFreeBy, IsQuickFaultBy}
use Rattle.mvt_gate.specs.Verdict.{IsQuickVerdictBy, IsVerdictBy, verdict_of}
use Rattle.mvt_engine.specs.declared.engine.Outcome.{Outcome}
use Rattle.mvt_engine.specs.declared.engine.Outcome.TheVariants as outcomes
use Rattle.mvt_gate.specs.declared.verdict.Verdict.{Verdict}
use Rattle.mvt_gate.specs.declared.verdict.Verdict.TheVariants.{Yes, No}

-- The verdict of each kind of bytes

-- where no wire fault is true of the bytes, and they keep the rules as a tile, they are valid
pub valid_without_fault : (profile : Profile) (bytes : List ℕ) → ((scope : Scope) (cause : WireCause) → ¬ WireFault bytes scope cause) → ((tile : TileRecord) → IsTile bytes tile → KeepsRules (IsValidGeometryBy profile) tile) → ValidBy profile bytes
valid_without_fault profile bytes none keeps =
    let tile = is_tile bytes none in
    let kept = keeps tile.0 tile.1 in
    (valid_by_parts profile bytes).1 (tile.0, tile.1, kept.parts, kept.features)

-- Of bytes whose shown faults are their wire faults and, where they are a tile, those of the rules between its parts and of a
-- further one on its features
module _ (bytes : List ℕ) (Shown : Fault → Type 0) (IsBroken : Breaks) (by_parts : (fault : Fault) → Shown fault ↔ (IsWireFault bytes fault ⊎ OfTile bytes (λ tile. BreaksAnyRule IsBroken tile fault))) where
  -- the first wire fault is the first of all
  pub first_of_wire : (fault : Fault) → IsLeast (IsWireFault bytes) fault → IsLeast Shown fault
  first_of_wire fault least = record {
    holds = (by_parts fault).1 (inl least.holds);
    least = λ other shows. elim ((by_parts other).0 shows) [
      | inl its ↦ least.least other its
      | inr broken ↦ absurd (no_fault_of_tile bytes broken.0 fault broken.1 least.holds)
    ];
  }

  -- where no wire fault is true of the bytes, the first fault of the tile is
  pub first_of_tile : (fault : Fault) → ((scope : Scope) (cause : WireCause) → ¬ WireFault bytes scope cause)
      → ((tile : TileRecord) → IsTile bytes tile → IsLeast (BreaksAnyRule IsBroken tile) fault) → IsLeast Shown fault
  first_of_tile fault none first =
      let tile = is_tile bytes none in
      let least = first tile.0 tile.1 in
      record {
        holds = (by_parts fault).1 (inr (tile.0, tile.1, least.holds));
        least = λ other shows. elim ((by_parts other).0 shows) [
          | inl its ↦ absurd (no_fault_of_tile bytes tile.0 other tile.1 its)
          | inr broken ↦
              let same : broken.0 ≡ tile.0 = one_tile bytes broken.0 tile.0 broken.1 tile.1 in
              least.least other (subst (λ (it : TileRecord). BreaksAnyRule IsBroken it other) same broken.2)
        ];
      }

  -- so is what is found of it where some are free
  pub found_of_tile : (IsFree : Frees) (fault : Fault) → ((scope : Scope) (cause : WireCause) → ¬ WireFault bytes scope cause)
      → ((tile : TileRecord) → IsTile bytes tile → IsLeastOr IsFree (BreaksAnyRule IsBroken tile) fault) → IsLeastOr IsFree Shown fault
  found_of_tile IsFree fault none first =
      let tile = is_tile bytes none in
      lifted IsFree (BreaksAnyRule IsBroken tile.0) fault Shown (λ holds. (by_parts fault).1 (inr (tile.0, tile.1, holds)))
      (λ other shows. elim ((by_parts other).0 shows) [
        | inl its ↦ absurd (no_fault_of_tile bytes tile.0 other tile.1 its)
        | inr broken ↦
            let same : broken.0 ≡ tile.0 = one_tile bytes broken.0 tile.0 broken.1 tile.1 in
            inl (subst (λ (it : TileRecord). BreaksAnyRule IsBroken it other) same broken.2)
      ]) (first tile.0 tile.1)

-- so by a profile
pub least_of_wire : (profile : Profile) (bytes : List ℕ) (fault : Fault) → IsLeast (IsWireFault bytes) fault → IsLeast (ShowsBy profile bytes) fault
least_of_wire profile bytes = first_of_wire bytes (ShowsBy profile bytes) (IsFaultOfGeometryBy profile) (shown_by_parts profile bytes)

pub least_of_tile : (profile : Profile) (bytes : List ℕ) (fault : Fault) → ((scope : Scope) (cause : WireCause) → ¬ WireFault bytes scope cause)
    → ((tile : TileRecord) → IsTile bytes tile → IsLeast (BreaksAnyRule (IsFaultOfGeometryBy profile) tile) fault) → IsLeast (ShowsBy profile bytes) fault
least_of_tile profile bytes = first_of_tile bytes (ShowsBy profile bytes) (IsFaultOfGeometryBy profile) (shown_by_parts profile bytes)

-- and quickly
pub quick_of_tile : (profile : Profile) (bytes : List ℕ) (fault : Fault) → ((scope : Scope) (cause : WireCause) → ¬ WireFault bytes scope cause)
    → ((tile : TileRecord) → IsTile bytes tile → IsLeastOr (IsFreeBy profile) (BreaksAnyRule (IsFaultOfGeometryBy profile) tile) fault) → IsQuickFaultBy profile bytes fault
quick_of_tile profile bytes = found_of_tile bytes (ShowsBy profile bytes) (IsFaultOfGeometryBy profile) (shown_by_parts profile bytes) (IsFreeBy profile)

-- the verdict where the first fault of the tile is found, or none
pub verdict_by_rules : (profile : Profile) (bytes : List ℕ) (found : Option Fault) → ((scope : Scope) (cause : WireCause) → ¬ WireFault bytes scope cause)
    → IfNone found ((tile : TileRecord) → IsTile bytes tile → KeepsRules (IsValidGeometryBy profile) tile)
    → IfSome found (λ fault. (tile : TileRecord) → IsTile bytes tile → IsLeast (BreaksAnyRule (IsFaultOfGeometryBy profile) tile) fault) → IsVerdictBy profile bytes (verdict_of found)
verdict_by_rules profile bytes None none keeps least = valid_without_fault profile bytes none keeps
verdict_by_rules profile bytes (Some fault) none keeps least = least_of_tile profile bytes fault none least

pub quick_by_rules : (profile : Profile) (bytes : List ℕ) (found : Option Fault) → ((scope : Scope) (cause : WireCause) → ¬ WireFault bytes scope cause)
    → IfNone found ((tile : TileRecord) → IsTile bytes tile → KeepsRules (IsValidGeometryBy profile) tile)
    → IfSome found (λ fault. (tile : TileRecord) → IsTile bytes tile → IsLeastOr (IsFreeBy profile) (BreaksAnyRule (IsFaultOfGeometryBy profile) tile) fault) → IsQuickVerdictBy profile bytes (verdict_of found)
quick_by_rules profile bytes None none keeps first = valid_without_fault profile bytes none keeps
quick_by_rules profile bytes (Some fault) none keeps first = quick_of_tile profile bytes fault none first

-- where that wasn't refused memory
pub verdict_found : {R E : Type 0} (profile : Profile) (bytes : List ℕ) (result : Result R E) (found : Option Fault) → ((scope : Scope) (cause : WireCause) → ¬ WireFault bytes scope cause)
    → OnOk result (IfNone found ((tile : TileRecord) → IsTile bytes tile → KeepsRules (IsValidGeometryBy profile) tile))
    → OnOk result (IfSome found (λ fault. (tile : TileRecord) → IsTile bytes tile → IsLeast (BreaksAnyRule (IsFaultOfGeometryBy profile) tile) fault)) → OnOk result (IsVerdictBy profile bytes (verdict_of found))
verdict_found profile bytes (Ok r) found none keeps least = verdict_by_rules profile bytes found none keeps least
verdict_found profile bytes (Err e) found none keeps least = tt

pub quick_found : {R E : Type 0} (profile : Profile) (bytes : List ℕ) (result : Result R E) (found : Option Fault) → ((scope : Scope) (cause : WireCause) → ¬ WireFault bytes scope cause)
    → OnOk result (IfNone found ((tile : TileRecord) → IsTile bytes tile → KeepsRules (IsValidGeometryBy profile) tile))
    → OnOk result (IfSome found (λ fault. (tile : TileRecord) → IsTile bytes tile → IsLeastOr (IsFreeBy profile) (BreaksAnyRule (IsFaultOfGeometryBy profile) tile) fault)) → OnOk result (IsQuickVerdictBy profile bytes (verdict_of found))
quick_found profile bytes (Ok r) found none keeps first = quick_by_rules profile bytes found none keeps first
quick_found profile bytes (Err e) found none keeps first = tt

-- the verdict on bytes that aren't valid names a fault that is true of them
pub fault_of_invalid : (profile : Profile) (bytes : List ℕ) (verdict : Verdict) → IsVerdictBy profile bytes verdict → ¬ ValidBy profile bytes → (fault : Fault) × (verdict ≡ No fault) × ShowsBy profile bytes fault
fault_of_invalid profile bytes Yes valid invalid = absurd (invalid valid)
fault_of_invalid profile bytes (No fault) least invalid = (fault, refl, least.holds)

-- One verdict

-- bytes have one fault of least place, or several meetings in one polygon
pub one_least : (profile : Profile) (bytes : List ℕ) (fault other : Fault) → IsLeast (ShowsBy profile bytes) fault → IsLeast (ShowsBy profile bytes) other → (fault ≡ other) ⊎ AreMeetingsInOne fault other
one_least profile bytes fault other first second =
    same_place_or_meetings fault other
    (ComesFirst-antisymmetric (place_of fault) (place_of other) (first.least other second.holds) (second.least fault first.holds))

-- two verdicts name two meetings in one polygon
abbrev NameMeetings : Verdict → Verdict → Type 0
NameMeetings first second = (fault : Fault) × (other : Fault) × (first ≡ No fault) × (second ≡ No other) × AreMeetingsInOne fault other

-- and so do two lines
abbrev ReportMeetings : List ℕ → List ℕ → Type 0
ReportMeetings line other = (fault : Fault) × (its : Fault) × (line ≡ fault_line fault) × (other ≡ fault_line its) × AreMeetingsInOne fault its

-- verdicts on the same bytes are the same, or do that
pub one_verdict : (profile : Profile) (bytes : List ℕ) (first second : Verdict) → IsVerdictBy profile bytes first → IsVerdictBy profile bytes second → (first ≡ second) ⊎ NameMeetings first second
one_verdict profile bytes Yes Yes valid its = inl refl
one_verdict profile bytes Yes (No fault) valid its = absurd (shown_is_invalid profile bytes fault its.holds valid)
one_verdict profile bytes (No fault) Yes least valid = absurd (shown_is_invalid profile bytes fault least.holds valid)
one_verdict profile bytes (No fault) (No other) least its = elim (one_least profile bytes fault other least its) [
  | inl same ↦ inl (ap No same)
  | inr meetings ↦ inr (fault, other, refl, refl, meetings)
]

-- so for answers of `check`
pub one_answer : (profile : Profile) (input : List ℕ) (first second : Outcome) (line other : List ℕ) → IsCheckAnswerBy profile input first line → IsCheckAnswerBy profile input second other → (first ≡ second) × ((line ≡ other) ⊎ ReportMeetings line other)
one_answer profile input outcomes.Yes outcomes.Yes line other a b = (refl, inl (a.1 ∙ sym b.1))
one_answer profile input outcomes.Yes outcomes.No line other a b = absurd (shown_is_invalid profile input b.0 b.1.holds a.0)
one_answer profile input outcomes.No outcomes.Yes line other a b = absurd (shown_is_invalid profile input a.0 a.1.holds b.0)
one_answer profile input outcomes.No outcomes.No line other a b = (
  refl,
  elim (one_least profile input a.0 b.0 a.1 b.1) [
    | inl same ↦ inl (a.2 ∙ ap fault_line same ∙ sym b.2)
    | inr meetings ↦ inr (a.0, b.0, a.2, b.2, meetings)
  ],
)
