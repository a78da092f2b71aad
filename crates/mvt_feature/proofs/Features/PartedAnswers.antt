-- What is answered of a feature, and the work for it, by its polygons one by one and by those that are gathered.
use Rattle.std.proofs.Common.{◌≡◌, ℕ, zero, suc, ◌+◌, ◌<◌, ◌≤◌, inl, inr, Bool, true, false, List, [], ◌∷◌, length, slice_index, Option, Some, None, option_map, IfNone, IfOk, IfSome, Result, Ok, Err, refl, sym, ◌∙◌, ap, subst, arith}
use Rattle.mvt_plane.specs.Counted.{Counted}
use Rattle.mvt_rules.specs.Parts.Rings.{part_of}
use Rattle.mvt_rules.specs.Polygon.{IsPolygon}
use Rattle.mvt_plane.specs.Position.{Position}
use Rattle.mvt_feature.specs.Calls.Alone.{IsAloneAnswer, earlier_of, vertices_alone}
use Rattle.mvt_sweep.specs.Work.{vertex_count}
use Rattle.mvt_feature.specs.Feature.{AddsSweeps, AreAtMost, IsCountedAnswer, IsCountedFault, IsFeatureAnswer, rings_in}
use Rattle.mvt_feature.specs.Calls.FeatureParts.{listed_at}
use Rattle.mvt_feature.specs.Calls.Gathered.{gathered_rings, gathered_places, gathered_numbers, fault_moved, IsFaultWithin}
use Rattle.mvt_feature.specs.Calls.Islands.{AreMarked}
use Rattle.mvt_sweep.specs.Meeting.{NoMeeting}
use Rattle.mvt_rules.specs.Ring.{ArePolygonRings}
use Rattle.mvt_polygon.specs.Polygons.{ArePolygons}
use Rattle.mvt_feature.specs.QuickFeature.{IsQuickAnswer}
use Rattle.mvt_sweep.specs.Rings.{AreProperRings}
use Rattle.mvt_feature.specs.declared.feature.FeatureFault.{FeatureFault}
use Rattle.mvt_status.specs.Counts.{bits, raised}
use Rattle.mvt_feature.proofs.Features.CountedFaults.{counted_earlier, counted_from, counted_moved, counted_to}
use Rattle.mvt_feature.proofs.Features.FeatureShares.{HasFault, answer_of_both, found_is_there, shared_answer, found_within, moved_parts, IsSharedAnswer}
use Rattle.mvt_feature.proofs.Features.FirstPolygons.{listed_within}
use Rattle.mvt_feature.proofs.Features.GatheredLists.{IsMarked, marked_or_not, total_marked, total_unmarked}
use Rattle.mvt_feature.proofs.Features.GatheredPolygons.{is_it, rank_of, parts_able, parts_copies, parts_drawn, places, ranked}
use Rattle.mvt_feature.proofs.Features.RingCopies.{none_meet}
use Rattle.mvt_feature.proofs.Features.SweepShares.{raised_then, shares, sweeps_then, sweeps_within}

-- Two faults

-- where neither is found, what holds of both
both_none : (One Other Both : Type 0) (one : Option FeatureFault) (found : Option FeatureFault) (f : FeatureFault → FeatureFault) (result : Option FeatureFault) → result ≡ earlier_of one (option_map f found)
    → IfNone one One → IfNone found Other → (One → Other → Both) → IfNone result Both
both_none One Other Both one found f result is own its both = subst (λ (answer : Option FeatureFault). IfNone answer Both) (sym is) (cases one found own its)
  where
    -- of each of the two
    cases : (one : Option FeatureFault) (found : Option FeatureFault) → IfNone one One → IfNone found Other → IfNone (earlier_of one (option_map f found)) Both
    cases (Some fault) (Some other) own its = tt
    cases (Some fault) None own its = tt
    cases None (Some other) own its = tt
    cases None None own its = both own its

-- what always holds
if_none : (Holds : Type 0) (found : Option FeatureFault) → Holds → IfNone found Holds
if_none Holds (Some fault) holds = tt
if_none Holds None holds = holds

-- fewer polygons are marked than there are
rank_within : (marks : List Bool) (polygon : ℕ) → rank_of marks polygon ≤ polygon
rank_within marks zero = omega arith
rank_within marks (suc polygon) =
    let before = rank_within marks polygon in
    elim (marked_or_not marks polygon) [
      | inl marked ↦ let more : rank_of marks (suc polygon) ≡ rank_of marks polygon + 1 = total_marked marks (λ (number : ℕ). 1) polygon marked in omega arith
      | inr unmarked ↦ let same : rank_of marks (suc polygon) ≡ rank_of marks polygon = total_unmarked marks (λ (number : ℕ). 1) polygon unmarked in omega arith
    ]

module _ (rings : List (List Position)) (polygons : List (ℕ × ℕ)) (marks : List Bool) (able : ArePolygonRings rings) (listed : ArePolygons rings polygons) where
  -- those that aren't marked have no more vertices than all
  pub alone_within : vertices_alone rings polygons marks (length polygons) ≤ vertex_count rings
  alone_within = omega (arith, shares rings polygons marks able listed)

  -- so their work is no more than that of several sweeps over all
  pub alone_sweeps : (sweeps : ℕ) (before after : Counted) → 1 ≤ sweeps → AddsSweeps 1 (vertices_alone rings polygons marks (length polygons)) before after → AddsSweeps sweeps (vertex_count rings) before after
  alone_sweeps sweeps before after some work = sweeps_within sweeps (vertices_alone rings polygons marks (length polygons)) (vertex_count rings) before after some alone_within work

  module _ (all : List (List Position)) (gathered : all ≡ gathered_rings rings polygons marks (length polygons)) where
    -- the gathered rings and the others have all vertices
    all_shares : vertex_count all + vertices_alone rings polygons marks (length polygons) ≡ vertex_count rings
    all_shares = ap (λ (rings_of_it : List (List Position)). vertex_count rings_of_it + vertices_alone rings polygons marks (length polygons)) gathered ∙ shares rings polygons marks able listed

    -- they have no fault of their own
    pub all_able : ArePolygonRings all
    all_able = subst ArePolygonRings (sym gathered) (parts_able rings polygons marks able listed)

    -- they are drawn
    pub all_drawn : AreProperRings rings → AreProperRings all
    all_drawn drawn = subst AreProperRings (sym gathered) (parts_drawn rings polygons marks able listed drawn)

    -- the work of both
    pub both_sweeps : (sweeps : ℕ) (before between after : Counted) → 1 ≤ sweeps → AddsSweeps 1 (vertices_alone rings polygons marks (length polygons)) before between → AddsSweeps sweeps (vertex_count all) between after → AddsSweeps sweeps (vertex_count rings) before after
    both_sweeps sweeps before between after some first second =
        let sum = all_shares in
        sweeps_then sweeps (vertices_alone rings polygons marks (length polygons)) (vertex_count all) (vertex_count rings) before between after some (omega arith) first second

    -- the gathered polygons are no more than all
    all_few : (many : ℕ) → AreAtMost rings many → AreAtMost all many
    all_few many few number it is =
        let its = ranked rings polygons marks able listed number it (subst (λ (rings_of_it : List (List Position)). IsPolygon rings_of_it number it) gathered is) in
        let rank = its.rank in
        let below : its.polygon < many = few its.polygon (listed_at polygons its.polygon) (is_it rings polygons marks able listed its.polygon its.within) in
        let within = rank_within marks its.polygon in
        omega arith

    -- the work of both, by the number of polygons
    pub both_counted : (before between after : Counted) → AddsSweeps 1 (vertices_alone rings polygons marks (length polygons)) before between
        → ((many : ℕ) → AreAtMost all many → AddsSweeps (bits many + 2) (vertex_count all) between after) → (many : ℕ) → AreAtMost rings many → AddsSweeps (bits many + 2) (vertex_count rings) before after
    both_counted before between after first second many few = both_sweeps (bits many + 2) before between after (omega arith) first (second many (all_few many few))

    -- the work of the others is that of some sweeps
    pub some_sweeps : (between after : Counted) → ((many : ℕ) → AreAtMost all many → AddsSweeps (bits many + 2) (vertex_count all) between after) → AddsSweeps (bits (length polygons) + 2) (vertex_count all) between after
    some_sweeps between after second = second (length polygons) (all_few (length polygons) (λ polygon it is_it. listed_within rings polygons polygon it listed is_it))

    -- no gathered edges meet where none do
    none_of_gathered : NoMeeting rings → NoMeeting all
    none_of_gathered none =
        subst NoMeeting (sym gathered)
        (none_meet (gathered_rings rings polygons marks (length polygons)) rings (slice_index (places rings polygons marks able listed)) (parts_copies rings polygons marks able listed) none)

    -- where no edges meet
    pub both_apart : (before between after : Counted) → AddsSweeps 1 (vertices_alone rings polygons marks (length polygons)) before between
        → (NoMeeting all → AddsSweeps 2 (vertex_count all) between after) → NoMeeting rings → AddsSweeps 2 (vertex_count rings) before after
    both_apart before between after first second none =
        both_sweeps 2 before between after (omega arith) first (second (none_of_gathered none))

    -- the least work of both
    both_least : (before between after : Counted) → raised (vertices_alone rings polygons marks (length polygons)) before.probes ≤ between.probes → raised (vertex_count all) between.probes ≤ after.probes
        → raised (vertex_count rings) before.probes ≤ after.probes
    both_least before between after first second =
        let sum = all_shares in
        raised_then (vertices_alone rings polygons marks (length polygons)) (vertex_count all) (vertex_count rings) before.probes between.probes after.probes (omega arith) first second

    module _ (apart : AreMarked rings polygons marks) (its_places its_numbers : List ℕ) (places_are : its_places ≡ gathered_places polygons marks (length polygons)) (numbers_are : its_numbers ≡ gathered_numbers marks (length polygons)) where
      -- what is found of the gathered ones names known numbers
      pub all_within : (found : Option FeatureFault) → IsQuickAnswer all found → IfSome found (IsFaultWithin polygons its_places its_numbers)
      all_within found is =
          subst (λ (numbers : List ℕ). IfSome found (IsFaultWithin polygons its_places numbers)) (sym numbers_are)
          (subst (λ (places : List ℕ). IfSome found (IsFaultWithin polygons places (gathered_numbers marks (length polygons)))) (sym places_are)
          (found_within rings polygons marks able listed apart found (subst (λ (rings_of_it : List (List Position)). IfSome found (HasFault rings_of_it)) gathered (found_is_there all found is))))

      -- its polygon has the same rings
      all_parts : (found : Option FeatureFault) → IsQuickAnswer all found → IfSome found (λ fault. part_of rings (rings_in (fault_moved polygons its_places its_numbers fault)) ≡ part_of all (rings_in fault))
      all_parts found is =
          subst (λ (its : List (List Position)). IfSome found (λ fault. part_of rings (rings_in (fault_moved polygons its_places its_numbers fault)) ≡ part_of its (rings_in fault))) (sym gathered)
          (subst (λ (numbers : List ℕ). IfSome found (λ fault. part_of rings (rings_in (fault_moved polygons its_places numbers fault)) ≡ part_of (gathered_rings rings polygons marks (length polygons)) (rings_in fault))) (sym numbers_are)
          (moved_parts rings polygons marks able listed apart found (subst (λ (rings_of_it : List (List Position)). IfSome found (HasFault rings_of_it)) gathered (found_is_there all found is))))

      -- what is counted where a fault of theirs is found
      pub moved_found : (found moved : Option FeatureFault) (before between after : Counted) → IsQuickAnswer all found → moved ≡ option_map (fault_moved polygons its_places its_numbers) found
          → AddsSweeps 1 (vertices_alone rings polygons marks (length polygons)) before between → IfSome found (IsCountedFault all between after) → IfSome moved (IsCountedFault rings before after)
      moved_found found moved before between after is moved_is first shared =
          subst (λ (answer : Option FeatureFault). IfSome answer (IsCountedFault rings before after)) (sym moved_is)
          (counted_from rings (option_map (fault_moved polygons its_places its_numbers) found) before between after first.no_fewer_tests first.no_fewer_probes
          (counted_moved rings all polygons its_places its_numbers between after found (all_parts found is) shared))

      -- what both count where a fault is found
      both_found : (sweeps : ℕ) (one found moved result : Option FeatureFault) (before between after : Counted) → IsQuickAnswer all found → moved ≡ option_map (fault_moved polygons its_places its_numbers) found → result ≡ earlier_of one moved
          → AddsSweeps 1 (vertices_alone rings polygons marks (length polygons)) before between → AddsSweeps sweeps (vertex_count all) between after
          → IfSome one (IsCountedFault rings before between) → IfSome found (IsCountedFault all between after) → IfSome result (IsCountedFault rings before after)
      both_found sweeps one found moved result before between after is moved_is result_is first more own shared =
          subst (λ (answer : Option FeatureFault). IfSome answer (IsCountedFault rings before after)) (sym result_is)
          (counted_earlier rings one moved before after (counted_to rings one before between after more.no_fewer_tests more.no_fewer_probes own)
          (moved_found found moved before between after is moved_is first shared))

      -- what both count by their answer
      pub both_counted_by_answer : (sweeps : ℕ) (one found moved result : Option FeatureFault) (before between after : Counted) → IsQuickAnswer all found → moved ≡ option_map (fault_moved polygons its_places its_numbers) found → result ≡ earlier_of one moved
          → AddsSweeps 1 (vertices_alone rings polygons marks (length polygons)) before between → AddsSweeps sweeps (vertex_count all) between after
          → IfNone one (raised (vertices_alone rings polygons marks (length polygons)) before.probes ≤ between.probes) → IfSome one (IsCountedFault rings before between)
          → IsCountedAnswer all between after found → IsCountedAnswer rings before after result
      both_counted_by_answer sweeps one found moved result before between after is moved_is result_is first more least own shared =
          let alone = vertices_alone rings polygons marks (length polygons) in
          let f = fault_moved polygons its_places its_numbers in
          let of_both = result_is ∙ ap (earlier_of one) moved_is in
          record {
            valid = both_none (AddsSweeps 1 alone before between) (AddsSweeps 1 (vertex_count all) between after) (AddsSweeps 1 (vertex_count rings) before after) one found f result of_both
                (if_none (AddsSweeps 1 alone before between) one first) shared.valid (both_sweeps 1 before between after (omega arith));
            least = both_none (raised alone before.probes ≤ between.probes) (raised (vertex_count all) between.probes ≤ after.probes) (raised (vertex_count rings) before.probes ≤ after.probes) one found f result of_both
                least shared.least (both_least before between after);
            found = both_found sweeps one found moved result before between after is moved_is result_is first more own shared.found;
          }

      -- the answer for all
      pub both_answer : (one found moved result : Option FeatureFault) → IsAloneAnswer rings polygons marks one → IsFeatureAnswer all found → moved ≡ option_map (fault_moved polygons its_places its_numbers) found
          → result ≡ earlier_of one moved → IsFeatureAnswer rings result
      both_answer one found moved result own is moved_is result_is =
          let shared = shared_answer rings polygons marks able listed apart found (subst (λ (rings_of_it : List (List Position)). IsFeatureAnswer rings_of_it found) gathered is) in
          let same : moved ≡ option_map (fault_moved polygons (gathered_places polygons marks (length polygons)) (gathered_numbers marks (length polygons))) found =
          moved_is ∙ ap (λ (places : List ℕ). option_map (fault_moved polygons places its_numbers) found) places_are
          ∙ ap (λ (numbers : List ℕ). option_map (fault_moved polygons (gathered_places polygons marks (length polygons)) numbers) found) numbers_are in
          subst (IsFeatureAnswer rings) (sym result_is)
          (answer_of_both rings polygons marks able listed apart one moved own (subst (IsSharedAnswer rings polygons marks able listed apart) (sym same) shared))

-- One polygon

-- it isn't marked
abbrev not_marked : List Bool
not_marked = false ∷ []

-- so it is apart from all others, of which there are none
one_marked : (rings : List (List Position)) (polygons : List (ℕ × ℕ)) → length polygons ≡ 1 → AreMarked rings polygons not_marked
one_marked rings polygons one = record { count = sym one; apart = λ polygon other within other_within differ. absurd (differ (omega arith)) }

-- the first of a fault and none
earlier_or_none : (found : Option FeatureFault) → earlier_of found None ≡ found
earlier_or_none (Some fault) = refl
earlier_or_none None = refl

-- its answer is the feature's
pub one_answer : (rings : List (List Position)) (polygons : List (ℕ × ℕ)) (found : Option FeatureFault) → ArePolygonRings rings → ArePolygons rings polygons → length polygons ≡ 1 → IsAloneAnswer rings polygons (false ∷ []) found → IsFeatureAnswer rings found
one_answer rings polygons found able listed one own =
    subst (IsFeatureAnswer rings) (earlier_or_none found) (answer_of_both rings polygons not_marked able listed (one_marked rings polygons one) found None own
    (λ polygon within marked.
    let first : polygon ≡ 0 = omega arith in
    let both : false ≡ true = subst (IsMarked not_marked) first marked in
    absurd (cc both)))

-- and its vertices are all
pub one_vertices : (rings : List (List Position)) (polygons : List (ℕ × ℕ)) → ArePolygonRings rings → ArePolygons rings polygons → length polygons ≡ 1 → vertices_alone rings polygons (false ∷ []) (length polygons) ≡ vertex_count rings
one_vertices rings polygons able listed one =
    let none : vertex_count (gathered_rings rings polygons not_marked (length polygons)) ≡ 0 = ap (λ (n : ℕ). vertex_count (gathered_rings rings polygons not_marked n)) one in
    omega (arith, shares rings polygons not_marked able listed)

-- what is counted of it is counted of the feature
pub one_counted_by_answer : {E : Type 0} (rings : List (List Position)) (polygons : List (ℕ × ℕ)) (before after : Counted) (result : Result (Option FeatureFault) E) → ArePolygonRings rings → ArePolygons rings polygons → length polygons ≡ 1
    → AddsSweeps 1 (vertices_alone rings polygons (false ∷ []) (length polygons)) before after
    → IfOk result (λ found. IfNone found (raised (vertices_alone rings polygons (false ∷ []) (length polygons)) before.probes ≤ after.probes))
    → IfOk result (λ found. IfSome found (IsCountedFault rings before after)) → IfOk result (IsCountedAnswer rings before after)
one_counted_by_answer rings polygons before after (Ok found) able listed one swept least counted = record {
  valid = if_none (AddsSweeps 1 (vertex_count rings) before after) found (alone_sweeps rings polygons not_marked able listed 1 before after (omega arith) swept);
  least = subst (λ (vertices : ℕ). IfNone found (raised vertices before.probes ≤ after.probes)) (one_vertices rings polygons able listed one) least;
  found = counted;
}
one_counted_by_answer rings polygons before after (Err error) able listed one swept least counted = tt

-- Results

-- what follows of an answer
pub if_ok : {A E : Type 0} (result : Result A E) (P Q : A → Type 0) → ((answer : A) → P answer → Q answer) → IfOk result P → IfOk result Q
if_ok (Ok answer) P Q follows holds = follows answer holds
if_ok (Err error) P Q follows holds = tt
