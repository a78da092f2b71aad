-- The fault of a polygon by itself, with the numbers that its rings have in the feature.
use Rattle.std.proofs.Common.{◌≡◌, ℕ, ◌+◌, ◌<◌, ◌≤◌, inl, inr, Bool, true, false, List, length, Option, Some, None, option_map, is_some, IfNone, refl, sym, ◌∙◌, subst, arith}
use Rattle.std.proofs.lemmas.Bool.{cases_lt}
use Rattle.mvt_plane.specs.Counted.{Counted}
use Rattle.mvt_rules.specs.Parts.Rings.{part_of}
use Rattle.mvt_rules.specs.Polygon.{PolygonRings}
use Rattle.mvt_plane.specs.Position.{Position}
use Rattle.mvt_feature.specs.Calls.Alone.{IsFine, AreFineBefore, IsOwnAnswer, own_fault}
use Rattle.mvt_sweep.specs.Work.{IsCounted}
use Rattle.mvt_feature.specs.Feature.{front_of}
use Rattle.mvt_feature.specs.Calls.FeatureParts.{listed_at}
use Rattle.mvt_sweep.specs.Meeting.{IsMeetingOf}
use Rattle.mvt_polygon.specs.PolygonFault.{IsPolygonAnswer, meeting_in}
use Rattle.mvt_feature.specs.declared.feature.FeatureFault.{FeatureFault}
use Rattle.mvt_sweep.specs.declared.meeting.Meeting.{Meeting as MeetingOf}
use Rattle.mvt_polygon.specs.declared.polygon.PolygonFault.{PolygonFault}
use Rattle.mvt_polygon.specs.declared.polygon.PolygonFault.TheVariants.{Meeting, Nesting}
use Rattle.mvt_status.specs.Counts.{raised}
use Rattle.mvt_feature.proofs.Features.GatheredLists.{IsUnmarked}
use Rattle.mvt_feature.proofs.Features.RingCopies.{meeting_there, part_of_front_copies}

-- what is found of it is its fault in the feature
pub own_answer : (rings : List (List Position)) (polygon : ℕ) (it : PolygonRings) (found : Option PolygonFault) → it.exterior < it.after → it.after ≤ length rings → IsPolygonAnswer rings it found
    → IsOwnAnswer rings polygon it (option_map (own_fault polygon it) found)
own_answer rings polygon it (Some (Meeting meeting)) further within is = (
  refl,
  refl,
  subst (λ (found : MeetingOf). IsMeetingOf (part_of rings (front_of it)) found) (sym is.moved)
      (meeting_there (part_of rings it) (part_of rings (front_of it)) (λ (ring : ℕ). it.exterior + ring) (part_of_front_copies rings it further within) is.alone is.is),
)
own_answer rings polygon it (Some (Nesting fault)) further within is = (refl, refl, is)
own_answer rings polygon it None further within is = record { apart = is.0; nested = is.1 }

-- where nothing is found, so many probes were made
pub own_least : {T : Type 0} (vertices : ℕ) (before after : Counted) (found : Option PolygonFault) (f : PolygonFault → T) → IsCounted vertices before after (meeting_in found) → IfNone (option_map f found) (raised vertices before.probes ≤ after.probes)
own_least vertices before after (Some fault) f counted = tt
own_least vertices before after None f counted = counted

-- one more that is fine
pub fine_more : (rings : List (List Position)) (polygons : List (ℕ × ℕ)) (marks : List Bool) (polygon : ℕ) → AreFineBefore rings polygons marks polygon → (IsUnmarked marks polygon → IsFine rings (listed_at polygons polygon))
    → AreFineBefore rings polygons marks (polygon + 1)
fine_more rings polygons marks polygon before here other less unmarked = elim (cases_lt other polygon) [
  | inl earlier ↦ before other earlier unmarked
  | inr last ↦
      let same : polygon ≡ other = omega arith in
      subst (λ (n : ℕ). IsFine rings (listed_at polygons n)) same (here (subst (IsUnmarked marks) (sym same) unmarked))
]

-- where nothing is found, it is fine
pub none_found : (rings : List (List Position)) (polygon : ℕ) (it : PolygonRings) (found : Option FeatureFault) (test : Bool) → test ≡ false → test ≡ is_some found → IsOwnAnswer rings polygon it found → IsFine rings it
none_found rings polygon it (Some fault) test fails decides is = let both : true ≡ false = sym decides ∙ fails in absurd (cc both)
none_found rings polygon it None test fails decides is = is

-- and so is what holds then
pub where_none : (Holds : Type 0) (found : Option FeatureFault) (test : Bool) → test ≡ false → test ≡ is_some found → IfNone found Holds → Holds
where_none Holds (Some fault) test fails decides is = let both : true ≡ false = sym decides ∙ fails in absurd (cc both)
where_none Holds None test fails decides is = is
