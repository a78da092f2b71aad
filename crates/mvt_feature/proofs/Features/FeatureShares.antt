-- The first fault of a feature, of that of its marked polygons, which are gathered, and that of the others.
use Rattle.std.proofs.Common.{◌≡◌, ℕ, suc, ◌+◌, ◌-◌, ◌<◌, ◌≤◌, inl, inr, Bool, true, false, cond, ltb, List, length, slice_index, Option, Some, None, option_map, IfSome, refl, sym, ◌∙◌, ap, subst, arith}
use Rattle.std.proofs.lemmas.Bool.{cases_lt, ltb-true, ltb-false}
use Rattle.mvt_rules.specs.Parts.Rings.{part_of}
use Rattle.mvt_rules.specs.Polygon.{PolygonRings, IsPolygon, IsRingOf}
use Rattle.mvt_plane.specs.Position.{Position}
use Rattle.mvt_feature.specs.Calls.Alone.{IsFine, AreFineBefore, IsOwnCause, IsFirstAlone, IsAloneAnswer, earlier_of}
use Rattle.mvt_rules.specs.Ring.{ArePolygonRings}
use Rattle.mvt_polygon.specs.Apart.{IsApartFault, IsFirstApartFault}
use Rattle.mvt_feature.specs.Feature.{front_of, IsPlaced, IsClear, IsFeatureCause, rings_in, IsFirstFault, IsFeatureAnswer}
use Rattle.mvt_feature.specs.Calls.FeatureParts.{listed_at}
use Rattle.mvt_feature.specs.Calls.Gathered.{cause_moved, fault_moved, IsCauseWithin, IsFaultWithin}
use Rattle.mvt_feature.specs.Calls.Islands.{AreMarked}
use Rattle.mvt_sweep.specs.Meeting.{IsMeetingOf, NoMeeting, first_of, second_of}
use Rattle.mvt_polygon.specs.InFeature.{AreNestRings, IsFirstNestFaultIn, nest_moved}
use Rattle.mvt_polygon.specs.Nesting.{IsFirstNestFault, IsNestFault, outside, in_hole}
use Rattle.mvt_polygon.specs.Polygons.{ArePolygons}
use Rattle.mvt_feature.specs.QuickFeature.{IsAnyMeeting, IsMeetingCause, IsQuickAnswer}
use Rattle.mvt_polygon.specs.declared.apart.ApartFault.{ApartFault}
use Rattle.mvt_feature.specs.declared.feature.FeatureCause.{FeatureCause}
use Rattle.mvt_feature.specs.declared.feature.FeatureCause.TheVariants.{Meeting, Nesting, Apart}
use Rattle.mvt_feature.specs.declared.feature.FeatureFault.{FeatureFault}
use Rattle.mvt_polygon.specs.declared.nesting.NestFault.{NestFault}
use Rattle.mvt_polygon.specs.declared.nesting.NestFault.TheVariants.{Outside, InHole}
use Rattle.mvt_rules.proofs.Rings.PartsOfRings.{count_of_part}
use Rattle.mvt_feature.proofs.Features.FeatureFronts.{AreOwnApart, AreFrontsApart, none_of_front, marked_in_no_unmarked, unmarked_in_none, fault_back, fault_there}
use Rattle.mvt_feature.proofs.Features.GatheredLists.{IsMarked, IsUnmarked, marked_or_not, total_after}
use Rattle.mvt_feature.proofs.Features.GatheredPolygons.{size_of, start_of, rank_of, block_of, parts, places, numbers, is_it, ends, place_at, number_at, block_within, gathered_of, place_of, parts_copies, polygon_at, ranked, same_part, count_of_parts, count_of_places, count_of_numbers}
use Rattle.mvt_feature.proofs.Placed.PolygonOrder.{of_list, in_turn}
use Rattle.mvt_feature.proofs.Features.RingCopies.{AreCopies, ring_within, meeting_there, front_copies, count_of_front}

-- The polygon that a fault names

-- it has this fault
pub record HasFault (rings : List (List Position)) (fault : FeatureFault) : Type 0 where
  pub there : IsPolygon rings fault.polygon (rings_in fault)
  pub is : IsFeatureCause rings fault.polygon (rings_in fault) fault.cause

-- a meeting is one of the causes
cause_of_meeting : (rings : List (List Position)) (polygon : ℕ) (it : PolygonRings) (cause : FeatureCause) → IsMeetingCause rings it cause → IsFeatureCause rings polygon it cause
cause_of_meeting rings polygon it (Meeting meeting) is = is.0
cause_of_meeting rings polygon it (Nesting fault) is = absurd is
cause_of_meeting rings polygon it (Apart fault) is = absurd is

-- so it has what is found
pub found_is_there : (rings : List (List Position)) (found : Option FeatureFault) → IsQuickAnswer rings found → IfSome found (HasFault rings)
found_is_there rings None is = tt
found_is_there rings (Some fault) (inl first) = record { there = first.there; is = first.is }
found_is_there rings (Some fault) (inr meets) = record { there = meets.there; is = cause_of_meeting rings fault.polygon (rings_in fault) fault.cause meets.is }

module _ (rings : List (List Position)) (polygons : List (ℕ × ℕ)) (marks : List Bool) (able : ArePolygonRings rings) (listed : ArePolygons rings polygons) (apart : AreMarked rings polygons marks) where
  -- the gathered rings, and which rings and polygons they are
  abbrev own_parts : List (List Position)
  own_parts = parts rings polygons marks able listed

  -- which rings of the feature they are
  abbrev own_places : List ℕ
  own_places = places rings polygons marks able listed

  -- which polygons they make up
  abbrev own_numbers : List ℕ
  own_numbers = numbers rings polygons marks able listed

  -- Marked polygons

  -- those before a number are clear in the gathered feature
  abbrev pub AreSharedClear : ℕ → Type 0
  AreSharedClear to = (polygon : ℕ) → polygon < to → IsMarked marks polygon → IsClear own_parts (rank_of marks polygon) (block_of polygons marks polygon)

  -- the rings up to a marked polygon's last one are copies too
  place_before : (polygon ring : ℕ) → polygon < length polygons → IsMarked marks polygon → ring < (block_of polygons marks polygon).after → slice_index own_places ring < (listed_at polygons polygon).after
  place_before polygon ring within marked below =
      let fits = block_within rings polygons marks able listed polygon within marked in
      let home = gathered_of rings polygons marks able listed ring (omega arith) in
      let is = home.is in
      let at_below = home.below in
      let place = place_of rings polygons marks able listed ring home in
      elim (cases_lt polygon home.polygon) [
        | inl later ↦ let following = total_after marks (size_of polygons) polygon home.polygon later marked in absurd (omega arith)
        | inr not_later ↦ elim (cases_lt home.polygon polygon) [
          | inl earlier ↦
              let turn = in_turn rings polygons able listed home.polygon polygon earlier within in
              let further = (is_it rings polygons marks able listed polygon within).further in
              omega arith
          | inr not_earlier ↦
              let same : home.polygon ≡ polygon = omega arith in
              let after : (listed_at polygons home.polygon).after ≡ (listed_at polygons polygon).after = ap (λ (number : ℕ). (listed_at polygons number).after) same in
              omega arith
        ]
      ]

  -- of those up to its last one in the feature
  fronts_copies : (polygon : ℕ) → polygon < length polygons → IsMarked marks polygon → AreCopies (part_of own_parts (front_of (block_of polygons marks polygon))) (part_of rings (front_of (listed_at polygons polygon))) (slice_index own_places)
  fronts_copies polygon within marked =
      let block = block_of polygons marks polygon in
      let it = listed_at polygons polygon in
      let fits = block_within rings polygons marks able listed polygon within marked in
      let its_fits = ends rings polygons marks able listed polygon within in
      let count = count_of_front own_parts block fits in
      let its_count = count_of_front rings it its_fits in
      let copies = parts_copies rings polygons marks able listed in
      record {
        same = λ ring less.
            let place = place_before polygon ring within marked (omega arith) in
            (front_copies own_parts block fits).same ring less ∙ copies.same ring (omega arith) ∙ sym ((front_copies rings it its_fits).same (slice_index own_places ring) (omega arith));
        in_order = λ ring other less other_less. copies.in_order ring other less (omega arith);
      }

  -- its first fault, by the numbers of the feature
  abbrev IsSharedCause : ℕ → FeatureCause → Type 0
  IsSharedCause polygon (Meeting meeting) = IsMeetingOf (part_of rings (front_of (listed_at polygons polygon))) meeting
  IsSharedCause polygon (Nesting fault) = NoMeeting (part_of own_parts (front_of (block_of polygons marks polygon))) × IsFirstNestFaultIn rings (listed_at polygons polygon) fault
  IsSharedCause polygon (Apart fault) =
      NoMeeting (part_of own_parts (front_of (block_of polygons marks polygon))) × ((wrong : NestFault) → ¬ IsNestFault (part_of rings (listed_at polygons polygon)) wrong) × IsFirstApartFault rings polygon fault

  -- lesser ranks are those of lesser polygons
  by_rank : (polygon other : ℕ) → IsMarked marks other → rank_of marks polygon ≤ rank_of marks other → polygon ≤ other
  by_rank polygon other marked up = elim (cases_lt other polygon) [
    | inl less ↦ let following = total_after marks (λ (number : ℕ). 1) other polygon less marked in absurd (omega arith)
    | inr not_less ↦ not_less
  ]

  -- the first vertex inside another polygon
  first_apart : (polygon : ℕ) (fault : ApartFault) → polygon < length polygons → IsMarked marks polygon → IsFirstApartFault own_parts (rank_of marks polygon) fault
      → IsFirstApartFault rings polygon (record fault { other = slice_index own_numbers fault.other })
  first_apart polygon fault within marked is =
      let there = fault_there rings polygons marks able listed apart polygon fault.vertex fault.other within marked is.holds in
      let number : slice_index own_numbers fault.other ≡ there.other = ap (slice_index own_numbers) there.rank ∙ number_at rings polygons marks able listed there.other there.within there.marked in
      record {
        holds = subst (IsApartFault rings polygon fault.vertex) (sym number) there.fault;
        first = λ vertex other wrong. elim (marked_or_not marks other) [
          | inr unmarked ↦ absurd (marked_in_no_unmarked rings polygons marks able listed apart polygon vertex other marked unmarked wrong)
          | inl other_marked ↦ elim (is.first vertex (rank_of marks other) (fault_back rings polygons marks able listed apart polygon vertex other marked other_marked wrong)) [
            | inl less ↦ inl less
            | inr same ↦
                let most = same.1 in
                let rank = there.rank in
                let up : there.other ≤ other = by_rank there.other other other_marked (omega arith) in
                inr (same.0, omega arith)
          ]
        ];
      }

  -- the rings that a fault of a hole names
  nest_place : (polygon : ℕ) (fault : NestFault) → polygon < length polygons → IsMarked marks polygon → IsNestFault (part_of rings (listed_at polygons polygon)) fault
      → nest_moved (slice_index own_places) (nest_moved (λ (ring : ℕ). start_of polygons marks polygon + ring) fault) ≡ nest_moved (λ (ring : ℕ). (listed_at polygons polygon).exterior + ring) fault
  nest_place polygon _ within marked (outside ring vertex wrong) =
      let count = count_of_part rings (listed_at polygons polygon) (ends rings polygons marks able listed polygon within) in
      let before : ring < length (part_of rings (listed_at polygons polygon)) = wrong.hole.before in
      ap (λ (place : ℕ). Outside place vertex) (place_at rings polygons marks able listed polygon ring within marked (omega arith))
  nest_place polygon _ within marked (in_hole ring vertex other wrong) =
      let count = count_of_part rings (listed_at polygons polygon) (ends rings polygons marks able listed polygon within) in
      let before : ring < length (part_of rings (listed_at polygons polygon)) = wrong.hole.before in
      let other_before : other < length (part_of rings (listed_at polygons polygon)) = wrong.other_hole.before in
      ap (λ (place : ℕ). InHole place vertex (slice_index own_places (start_of polygons marks polygon + other))) (place_at rings polygons marks able listed polygon ring within marked (omega arith))
      ∙ ap (λ (place : ℕ). InHole ((listed_at polygons polygon).exterior + ring) vertex place) (place_at rings polygons marks able listed polygon other within marked (omega arith))

  -- and they are among those that are gathered
  nest_within : (polygon : ℕ) (fault : NestFault) → polygon < length polygons → IsMarked marks polygon → IsNestFault (part_of rings (listed_at polygons polygon)) fault
      → AreNestRings (λ (ring : ℕ). ring < length own_places) (nest_moved (λ (ring : ℕ). start_of polygons marks polygon + ring) fault)
  nest_within polygon _ within marked (outside ring vertex wrong) =
      let count = count_of_part rings (listed_at polygons polygon) (ends rings polygons marks able listed polygon within) in
      let fits = block_within rings polygons marks able listed polygon within marked in
      let all = count_of_parts rings polygons marks able listed in
      let all_places = count_of_places rings polygons marks able listed in
      let before : ring < length (part_of rings (listed_at polygons polygon)) = wrong.hole.before in
      omega arith
  nest_within polygon _ within marked (in_hole ring vertex other wrong) =
      let count = count_of_part rings (listed_at polygons polygon) (ends rings polygons marks able listed polygon within) in
      let fits = block_within rings polygons marks able listed polygon within marked in
      let all = count_of_parts rings polygons marks able listed in
      let all_places = count_of_places rings polygons marks able listed in
      let before : ring < length (part_of rings (listed_at polygons polygon)) = wrong.hole.before in
      let other_before : other < length (part_of rings (listed_at polygons polygon)) = wrong.other_hole.before in
      (omega arith, omega arith)

  -- the first fault of a hole
  first_nest : (polygon : ℕ) (fault : NestFault) → polygon < length polygons → IsMarked marks polygon → IsFirstNestFaultIn own_parts (block_of polygons marks polygon) fault
      → IsFirstNestFaultIn rings (listed_at polygons polygon) (nest_moved (slice_index own_places) fault)
  first_nest polygon fault within marked is =
      let first : IsFirstNestFault (part_of rings (listed_at polygons polygon)) is.alone = subst (λ (all : List (List Position)). IsFirstNestFault all is.alone) (same_part rings polygons marks able listed polygon within marked) is.is in
      record {
        alone = is.alone;
        is = first;
        moved = ap (nest_moved (slice_index own_places)) is.moved ∙ nest_place polygon is.alone within marked first.holds;
      }

  -- any cause
  shared_cause : (polygon : ℕ) (cause : FeatureCause) → polygon < length polygons → IsMarked marks polygon → IsFeatureCause own_parts (rank_of marks polygon) (block_of polygons marks polygon) cause
      → IsSharedCause polygon (cause_moved own_places own_numbers cause)
  shared_cause polygon (Meeting meeting) within marked is =
      meeting_there (part_of own_parts (front_of (block_of polygons marks polygon))) (part_of rings (front_of (listed_at polygons polygon))) (slice_index own_places) (fronts_copies polygon within marked) meeting is
  shared_cause polygon (Nesting fault) within marked is =
      (is.0, first_nest polygon fault within marked is.1)
  shared_cause polygon (Apart fault) within marked is =
      (is.0, subst (λ (all : List (List Position)). (wrong : NestFault) → ¬ IsNestFault all wrong) (same_part rings polygons marks able listed polygon within marked) is.1, first_apart polygon fault within marked is.2)

  -- the first of the marked polygons with a fault
  pub record IsFirstShared (fault : FeatureFault) : Type 0 where
    pub within : fault.polygon < length polygons
    pub marked : IsMarked marks fault.polygon
    pub there : rings_in fault ≡ listed_at polygons fault.polygon
    pub before : AreSharedClear fault.polygon
    pub is : IsSharedCause fault.polygon fault.cause

  -- or nothing, where none has one
  abbrev pub IsSharedAnswer : Option FeatureFault → Type 0
  IsSharedAnswer (Some fault) = IsFirstShared fault
  IsSharedAnswer None = AreSharedClear (length polygons)

  -- what is found in the gathered feature
  first_shared : (fault : FeatureFault) → IsFirstFault own_parts fault → IsFirstShared (fault_moved polygons own_places own_numbers fault)
  first_shared fault is =
      let its = ranked rings polygons marks able listed fault.polygon (rings_in fault) is.there in
      let rank = its.rank in
      let number : its.polygon ≡ slice_index own_numbers fault.polygon = sym (ap (slice_index own_numbers) rank ∙ number_at rings polygons marks able listed its.polygon its.within its.marked) in
      let cause : IsFeatureCause own_parts (rank_of marks its.polygon) (block_of polygons marks its.polygon) fault.cause =
      subst (λ (it : PolygonRings). IsFeatureCause own_parts (rank_of marks its.polygon) it fault.cause) its.block (subst (λ (n : ℕ). IsFeatureCause own_parts n (rings_in fault) fault.cause) rank is.is) in
      record {
        within = subst (λ (n : ℕ). n < length polygons) number its.within;
        marked = subst (IsMarked marks) number its.marked;
        there = refl;
        before = λ polygon less marked.
            let following = total_after marks (λ (n : ℕ). 1) polygon its.polygon (omega arith) marked in
            let among = its.within in
            is.before (rank_of marks polygon) (block_of polygons marks polygon) (omega arith) (polygon_at rings polygons marks able listed polygon (omega arith) marked);
        is = subst (λ (n : ℕ). IsSharedCause n (cause_moved own_places own_numbers fault.cause)) number (shared_cause its.polygon fault.cause its.within its.marked cause);
      }

  -- what is answered for it
  pub shared_answer : (found : Option FeatureFault) → IsFeatureAnswer own_parts found → IsSharedAnswer (option_map (fault_moved polygons own_places own_numbers) found)
  shared_answer (Some fault) is = first_shared fault is
  shared_answer None is = λ polygon within marked. is (rank_of marks polygon) (block_of polygons marks polygon) (polygon_at rings polygons marks able listed polygon within marked)

  -- the numbers that it names are known
  cause_within : (polygon : ℕ) (cause : FeatureCause) → polygon < length polygons → IsMarked marks polygon → IsFeatureCause own_parts (rank_of marks polygon) (block_of polygons marks polygon) cause → IsCauseWithin own_places own_numbers cause
  cause_within polygon (Meeting meeting) within marked is =
      let block = block_of polygons marks polygon in
      let fits = block_within rings polygons marks able listed polygon within marked in
      let count = count_of_front own_parts block fits in
      let all = count_of_parts rings polygons marks able listed in
      let all_places = count_of_places rings polygons marks able listed in
      let copies = front_copies own_parts block fits in
      let first : meeting.first_ring < length (part_of own_parts (front_of block)) = ring_within (part_of own_parts (front_of block)) own_parts (λ (ring : ℕ). ring) copies (first_of meeting) is.one is.one_there in
      let second : meeting.second_ring < length (part_of own_parts (front_of block)) = ring_within (part_of own_parts (front_of block)) own_parts (λ (ring : ℕ). ring) copies (second_of meeting) is.other is.other_there in
      (omega arith, omega arith)
  cause_within polygon (Nesting fault) within marked is =
      let first : IsFirstNestFault (part_of rings (listed_at polygons polygon)) is.1.alone = subst (λ (all : List (List Position)). IsFirstNestFault all is.1.alone) (same_part rings polygons marks able listed polygon within marked) is.1.is in
      subst (AreNestRings (λ (ring : ℕ). ring < length own_places)) (sym is.1.moved) (nest_within polygon is.1.alone within marked first.holds)
  cause_within polygon (Apart fault) within marked is =
      let its = ranked rings polygons marks able listed fault.other is.2.holds.other_rings is.2.holds.other_there in
      let rank = its.rank in
      let all = count_of_numbers rings polygons marks able listed in
      let following = total_after marks (λ (n : ℕ). 1) its.polygon (length polygons) its.within its.marked in
      omega arith

  -- of any fault
  fault_within : (fault : FeatureFault) → HasFault own_parts fault → IsFaultWithin polygons own_places own_numbers fault
  fault_within fault is =
      let its = ranked rings polygons marks able listed fault.polygon (rings_in fault) is.there in
      let rank = its.rank in
      let all = count_of_numbers rings polygons marks able listed in
      let following = total_after marks (λ (n : ℕ). 1) its.polygon (length polygons) its.within its.marked in
      let number : its.polygon ≡ slice_index own_numbers fault.polygon = sym (ap (slice_index own_numbers) rank ∙ number_at rings polygons marks able listed its.polygon its.within its.marked) in
      let cause : IsFeatureCause own_parts (rank_of marks its.polygon) (block_of polygons marks its.polygon) fault.cause =
      subst (λ (it : PolygonRings). IsFeatureCause own_parts (rank_of marks its.polygon) it fault.cause) its.block (subst (λ (n : ℕ). IsFeatureCause own_parts n (rings_in fault) fault.cause) rank is.is) in
      record {
        polygon = omega arith;
        listed = subst (λ (n : ℕ). n < length polygons) number its.within;
        cause = cause_within its.polygon fault.cause its.within its.marked cause;
      }

  -- of any answer
  pub found_within : (found : Option FeatureFault) → IfSome found (HasFault own_parts) → IfSome found (IsFaultWithin polygons own_places own_numbers)
  found_within (Some fault) is = fault_within fault is
  found_within None is = tt

  -- All polygons

  -- a polygon that isn't marked is placed where it is fine
  unmarked_placed : (polygon : ℕ) → IsUnmarked marks polygon → IsFine rings (listed_at polygons polygon) → IsPlaced rings polygon (listed_at polygons polygon)
  unmarked_placed polygon unmarked fine = record {
    nested = fine.nested;
    alone = λ vertex other wrong. unmarked_in_none rings polygons marks able listed apart polygon vertex other unmarked fine.apart wrong;
  }

  -- a marked one
  marked_placed : (polygon : ℕ) → polygon < length polygons → IsMarked marks polygon → IsClear own_parts (rank_of marks polygon) (block_of polygons marks polygon) → IsPlaced rings polygon (listed_at polygons polygon)
  marked_placed polygon within marked clear = record {
    nested = subst (λ (all : List (List Position)). (wrong : NestFault) → ¬ IsNestFault all wrong) (same_part rings polygons marks able listed polygon within marked) clear.placed.nested;
    alone = λ vertex other wrong. elim (marked_or_not marks other) [
      | inr unmarked ↦ marked_in_no_unmarked rings polygons marks able listed apart polygon vertex other marked unmarked wrong
      | inl other_marked ↦ clear.placed.alone vertex (rank_of marks other) (fault_back rings polygons marks able listed apart polygon vertex other marked other_marked wrong)
    ];
  }

  -- so all before a number are clear, where those that are marked are and the others are fine
  clear_before : (to polygon : ℕ) → to ≤ length polygons → AreFineBefore rings polygons marks to → AreSharedClear to → polygon < to → IsClear rings polygon (listed_at polygons polygon)
  clear_before to polygon within fine shared less = record {
    apart = none_of_front rings polygons marks able listed apart polygon (omega arith)
        (λ other before unmarked. (fine other (omega arith) unmarked).apart)
        (λ other before marked. (shared other (omega arith) marked).apart);
    placed = elim (marked_or_not marks polygon) [
      | inl marked ↦ marked_placed polygon (omega arith) marked (shared polygon less marked)
      | inr unmarked ↦ unmarked_placed polygon unmarked (fine polygon less unmarked)
    ];
  }

  -- so are all polygons
  all_clear : (to : ℕ) → to ≤ length polygons → AreFineBefore rings polygons marks to → AreSharedClear to → (polygon : ℕ) (it : PolygonRings) → polygon < to → IsPolygon rings polygon it → IsClear rings polygon it
  all_clear to within fine shared polygon it less is =
      subst (IsClear rings polygon) (sym (of_list rings polygons able listed polygon it is).1) (clear_before to polygon within fine shared less)

  -- no edges of the rings up to a polygon's last one meet, where those before it are fine and its own don't meet
  none_from_own : (polygon : ℕ) → polygon < length polygons → IsUnmarked marks polygon → AreFineBefore rings polygons marks polygon → AreSharedClear polygon → NoMeeting (part_of rings (listed_at polygons polygon))
      → NoMeeting (part_of rings (front_of (listed_at polygons polygon)))
  none_from_own polygon within unmarked fine shared none =
      none_of_front rings polygons marks able listed apart polygon within own fronts
    where
      -- those that aren't marked
      own : AreOwnApart rings polygons marks able listed apart (suc polygon)
      own other before its_unmarked = elim (cases_lt other polygon) [
        | inl less ↦ (fine other less its_unmarked).apart
        | inr last ↦ let same : polygon ≡ other = omega arith in subst (λ (number : ℕ). NoMeeting (part_of rings (listed_at polygons number))) same none
      ]

      -- those that are
      fronts : AreFrontsApart rings polygons marks able listed apart (suc polygon)
      fronts other before marked = elim (cases_lt other polygon) [
        | inl less ↦ (shared other less marked).apart
        | inr last ↦
            let same : polygon ≡ other = omega arith in
            let both : true ≡ false = sym marked ∙ subst (IsUnmarked marks) same unmarked in
            absurd (cc both)
      ]

  -- the same for a marked one
  none_from_shared : (polygon : ℕ) → polygon < length polygons → IsMarked marks polygon → AreFineBefore rings polygons marks polygon → AreSharedClear polygon → NoMeeting (part_of own_parts (front_of (block_of polygons marks polygon)))
      → NoMeeting (part_of rings (front_of (listed_at polygons polygon)))
  none_from_shared polygon within marked fine shared none =
      none_of_front rings polygons marks able listed apart polygon within own fronts
    where
      -- those that aren't marked
      own : AreOwnApart rings polygons marks able listed apart (suc polygon)
      own other before unmarked = elim (cases_lt other polygon) [
        | inl less ↦ (fine other less unmarked).apart
        | inr last ↦
            let same : polygon ≡ other = omega arith in
            let both : true ≡ false = sym (subst (IsMarked marks) same marked) ∙ unmarked in
            absurd (cc both)
      ]

      -- those that are
      fronts : AreFrontsApart rings polygons marks able listed apart (suc polygon)
      fronts other before its_marked = elim (cases_lt other polygon) [
        | inl less ↦ (shared other less its_marked).apart
        | inr last ↦
            let same : polygon ≡ other = omega arith in
            subst (λ (number : ℕ). NoMeeting (part_of own_parts (front_of (block_of polygons marks number)))) same none
      ]

  -- Rings of a fault's polygon

  -- those of the gathered polygon are the same
  moved_part : (fault : FeatureFault) → IsPolygon own_parts fault.polygon (rings_in fault) → part_of rings (rings_in (fault_moved polygons own_places own_numbers fault)) ≡ part_of own_parts (rings_in fault)
  moved_part fault there =
      let its = ranked rings polygons marks able listed fault.polygon (rings_in fault) there in
      let number : slice_index own_numbers fault.polygon ≡ its.polygon = ap (slice_index own_numbers) its.rank ∙ number_at rings polygons marks able listed its.polygon its.within its.marked in
      ap (λ (n : ℕ). part_of rings (listed_at polygons n)) number ∙ sym (same_part rings polygons marks able listed its.polygon its.within its.marked) ∙ sym (ap (part_of own_parts) its.block)

  -- of any answer
  pub moved_parts : (found : Option FeatureFault) → IfSome found (HasFault own_parts) → IfSome found (λ fault. part_of rings (rings_in (fault_moved polygons own_places own_numbers fault)) ≡ part_of own_parts (rings_in fault))
  moved_parts (Some fault) is = moved_part fault is.there
  moved_parts None is = tt

  -- Meetings

  -- a ring of a marked polygon is one of it in the feature
  ring_there : (polygon ring : ℕ) → polygon < length polygons → IsMarked marks polygon → IsRingOf (block_of polygons marks polygon) ring → IsRingOf (listed_at polygons polygon) (slice_index own_places ring)
  ring_there polygon ring within marked of =
      let from = of.from in
      let before = of.before in
      let further = (is_it rings polygons marks able listed polygon within).further in
      let at : ℕ = ring - start_of polygons marks polygon in
      let place : slice_index own_places (start_of polygons marks polygon + at) ≡ (listed_at polygons polygon).exterior + at = place_at rings polygons marks able listed polygon at within marked (omega arith) in
      let same : ring ≡ start_of polygons marks polygon + at = omega arith in
      let its : slice_index own_places ring ≡ (listed_at polygons polygon).exterior + at = ap (slice_index own_places) same ∙ place in
      record { from = omega arith; before = omega arith }

  -- one of a marked polygon, by the numbers of the feature
  meeting_at : (polygon : ℕ) (cause : FeatureCause) → polygon < length polygons → IsMarked marks polygon → IsMeetingCause own_parts (block_of polygons marks polygon) cause → IsMeetingCause rings (listed_at polygons polygon) (cause_moved own_places own_numbers cause)
  meeting_at polygon (Meeting meeting) within marked is = (
    meeting_there (part_of own_parts (front_of (block_of polygons marks polygon))) (part_of rings (front_of (listed_at polygons polygon))) (slice_index own_places) (fronts_copies polygon within marked) meeting is.0,
    ring_there polygon meeting.second_ring within marked is.1,
  )
  meeting_at polygon (Nesting fault) within marked is = absurd is
  meeting_at polygon (Apart fault) within marked is = absurd is

  -- any of the gathered feature is one of the feature
  pub meeting_moved : (fault : FeatureFault) → IsAnyMeeting own_parts fault → IsAnyMeeting rings (fault_moved polygons own_places own_numbers fault)
  meeting_moved fault is =
      let its = ranked rings polygons marks able listed fault.polygon (rings_in fault) is.there in
      let number : its.polygon ≡ slice_index own_numbers fault.polygon = sym (ap (slice_index own_numbers) its.rank ∙ number_at rings polygons marks able listed its.polygon its.within its.marked) in
      let cause = meeting_at its.polygon fault.cause its.within its.marked (subst (λ (it : PolygonRings). IsMeetingCause own_parts it fault.cause) its.block is.is) in
      record {
        there = subst (λ (n : ℕ). IsPolygon rings n (listed_at polygons n)) number (is_it rings polygons marks able listed its.polygon its.within);
        is = subst (λ (n : ℕ). IsMeetingCause rings (listed_at polygons n) (cause_moved own_places own_numbers fault.cause)) number cause;
      }

  -- The first fault

  -- the cause of a polygon that isn't marked is one of the feature
  own_is : (polygon : ℕ) (it : PolygonRings) (cause : FeatureCause) → polygon < length polygons → IsUnmarked marks polygon → it ≡ listed_at polygons polygon → AreFineBefore rings polygons marks polygon → AreSharedClear polygon
      → IsOwnCause rings it cause → IsFeatureCause rings polygon it cause
  own_is polygon it (Meeting meeting) within unmarked same fine shared is = is
  own_is polygon it (Nesting fault) within unmarked same fine shared is = (
    subst (λ (its : PolygonRings). NoMeeting (part_of rings (front_of its))) (sym same)
        (none_from_own polygon within unmarked fine shared (subst (λ (its : PolygonRings). NoMeeting (part_of rings its)) same is.0)),
    is.1,
  )
  own_is polygon it (Apart fault) within unmarked same fine shared is = absurd is

  -- so is that of a marked one
  shared_is : (polygon : ℕ) (cause : FeatureCause) → polygon < length polygons → IsMarked marks polygon → AreFineBefore rings polygons marks polygon → AreSharedClear polygon
      → IsSharedCause polygon cause → IsFeatureCause rings polygon (listed_at polygons polygon) cause
  shared_is polygon (Meeting meeting) within marked fine shared is = is
  shared_is polygon (Nesting fault) within marked fine shared is = (none_from_shared polygon within marked fine shared is.0, is.1)
  shared_is polygon (Apart fault) within marked fine shared is = (none_from_shared polygon within marked fine shared is.0, is.1, is.2)

  -- that of a polygon that isn't marked
  first_is_own : (fault : FeatureFault) → IsFirstAlone rings polygons marks fault → AreSharedClear fault.polygon → IsFirstFault rings fault
  first_is_own fault first shared =
      let within = first.within in
      record {
        there = subst (IsPolygon rings fault.polygon) (sym first.there) (is_it rings polygons marks able listed fault.polygon within);
        before = λ polygon it less is. all_clear fault.polygon (omega arith) first.before shared polygon it less is;
        is = own_is fault.polygon (rings_in fault) fault.cause within first.unmarked first.there first.before shared first.is;
      }

  -- that of a marked one
  first_is_shared : (fault : FeatureFault) → IsFirstShared fault → AreFineBefore rings polygons marks fault.polygon → IsFirstFault rings fault
  first_is_shared fault first fine =
      let within = first.within in
      record {
        there = subst (IsPolygon rings fault.polygon) (sym first.there) (is_it rings polygons marks able listed fault.polygon within);
        before = λ polygon it less is. all_clear fault.polygon (omega arith) fine first.before polygon it less is;
        is = subst (λ (it : PolygonRings). IsFeatureCause rings fault.polygon it fault.cause) (sym first.there) (shared_is fault.polygon fault.cause within first.marked fine first.before first.is);
      }

  -- the first of two
  of_two : (fault its : FeatureFault) → IsFirstAlone rings polygons marks fault → IsFirstShared its → (test : Bool) → ltb fault.polygon its.polygon ≡ test → IsFirstFault rings (cond test fault its)
  of_two fault its own shared true is =
      let less : fault.polygon < its.polygon = ltb-true fault.polygon its.polygon is in
      first_is_own fault own (λ polygon before marked. shared.before polygon (omega arith) marked)
  of_two fault its own shared false is =
      let not_less = ltb-false fault.polygon its.polygon is in
      first_is_shared its shared (λ polygon before unmarked. own.before polygon (omega arith) unmarked)

  -- the answer for all polygons
  pub answer_of_both : (one other : Option FeatureFault) → IsAloneAnswer rings polygons marks one → IsSharedAnswer other → IsFeatureAnswer rings (earlier_of one other)
  answer_of_both (Some fault) (Some its) own shared = of_two fault its own shared (ltb fault.polygon its.polygon) refl
  answer_of_both (Some fault) None own shared = let within = own.within in first_is_own fault own (λ polygon before marked. shared polygon (omega arith) marked)
  answer_of_both None (Some its) own shared = let within = shared.within in first_is_shared its shared (λ polygon before unmarked. own polygon (omega arith) unmarked)
  answer_of_both None None own shared = λ polygon it is. all_clear (length polygons) (omega arith) own shared polygon it (of_list rings polygons able listed polygon it is).0 is
