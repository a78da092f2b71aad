-- The polygons of a feature that are marked, and those that aren't: edges of theirs that meet, and vertices inside them.
use Rattle.std.proofs.Common.{◌≡◌, ◌≢◌, ℕ, suc, ◌+◌, ◌-◌, ◌<◌, ◌≤◌, ◌⊎◌, inl, inr, Bool, true, false, List, length, slice_get, slice_index, Some, sym, ◌∙◌, ap, subst, arith}
use Rattle.std.proofs.lemmas.Bool.{cases_lt, cases_order}
use Rattle.mvt_rules.specs.Meeting.{MeetsWrongly}
use Rattle.mvt_fault.specs.declared.ring.RingEdge.{RingEdge}
use Rattle.mvt_rules.specs.Nesting.{IsInsidePolygon, IsInPolygon}
use Rattle.mvt_rules.specs.Parts.Rings.{part_of}
use Rattle.mvt_rules.specs.Polygon.{PolygonRings, IsRingOf, IsHoleOf}
use Rattle.mvt_plane.specs.Position.{Position}
use Rattle.mvt_plane.specs.Geometry.RationalPoint.{RationalPoint}
use Rattle.mvt_rules.specs.Ring.{ArePolygonRings}
use Rattle.mvt_rules.proofs.Rings.PartsOfRings.{count_of_part}
use Rattle.mvt_rules.proofs.Rings.SamePolygons.{same_polygon}
use Rattle.mvt_polygon.specs.Apart.{IsApartFault}
use Rattle.mvt_feature.specs.Calls.Bounds.{AreFarApart}
use Rattle.mvt_feature.specs.Feature.{front_of}
use Rattle.mvt_feature.specs.Calls.FeatureParts.{listed_at}
use Rattle.mvt_feature.specs.Calls.Islands.{AreApartByHole, AreMarked}
use Rattle.mvt_sweep.specs.Meeting.{NoMeeting}
use Rattle.mvt_polygon.specs.Polygons.{ArePolygons}
use Rattle.mvt_polygon.proofs.ApartFaults.{other_exterior, other_number}
use Rattle.mvt_feature.proofs.Cells.FarApart.{far_back, far_edges, far_inside}
use Rattle.mvt_feature.proofs.Features.GatheredLists.{IsMarked, IsUnmarked, marked_or_not, total_after}
use Rattle.mvt_feature.proofs.Features.GatheredPolygons.{size_of, start_of, rank_of, block_of, parts, places, is_it, ends, place_at, ring_at, first_at, block_within, parts_copies, polygon_at, ranked}
use Rattle.mvt_feature.proofs.Cells.Islands.{edges_by_hole, vertices_by_hole}
use Rattle.mvt_feature.proofs.Placed.PolygonOrder.{of_list, in_turn, home_of}
use Rattle.mvt_feature.proofs.Features.RingCopies.{ring_within, meets_there, meets_back, part_copies, front_copies, count_of_front}

-- an edge's number by that of its ring
abbrev numbered : ℕ → ℕ → RingEdge
numbered edge ring = record { ring = ring; edge = edge }

-- edges that meet, at other numbers of their rings
meets_at : (rings : List (List Position)) (first second : RingEdge) (point : RationalPoint) (ring other : ℕ) → ring ≡ first.ring → other ≡ second.ring → MeetsWrongly rings first second point
    → MeetsWrongly rings (record { ring = ring; edge = first.edge }) (record { ring = other; edge = second.edge }) point
meets_at rings first second point ring other same other_same meets =
    subst (λ (number : ℕ). MeetsWrongly rings (numbered first.edge ring) (numbered second.edge number) point) (sym other_same)
    (subst (λ (number : ℕ). MeetsWrongly rings (numbered first.edge number) second point) (sym same) meets)

module _ (rings : List (List Position)) (polygons : List (ℕ × ℕ)) (marks : List Bool) (able : ArePolygonRings rings) (listed : ArePolygons rings polygons) (apart : AreMarked rings polygons marks) where
  -- the gathered rings
  abbrev own_parts : List (List Position)
  own_parts = parts rings polygons marks able listed

  -- which rings of the feature they are
  abbrev own_places : List ℕ
  own_places = places rings polygons marks able listed

  -- Rings

  -- the polygon of a ring that isn't after those of another polygon
  record IsBefore (polygon ring : ℕ) : Type 0 where
    number : ℕ
    before : number < suc polygon
    of_it : IsRingOf (listed_at polygons number) ring

  -- each ring before the end of a polygon is
  is_before : (polygon ring : ℕ) → polygon < length polygons → ring < (listed_at polygons polygon).after → IsBefore polygon ring
  is_before polygon ring within below =
      let last = ends rings polygons marks able listed polygon within in
      let home = home_of rings polygons able listed ring (omega arith) in
      let from = home.2.from in
      elim (cases_lt polygon home.0) [
        | inl later ↦ let turn = in_turn rings polygons able listed polygon home.0 later home.1 in absurd (omega arith)
        | inr not_later ↦ record { number = home.0; before = omega arith; of_it = home.2 }
      ]

  -- a ring of a marked polygon, among those gathered up to another one
  record IsGatheredBefore (last ring : ℕ) : Type 0 where
    at : ℕ
    below : at < (block_of polygons marks last).after
    place : slice_index own_places at ≡ ring

  -- each ring of a marked polygon is, up to a later one
  gathered_before : (polygon last ring : ℕ) → polygon ≤ last → last < length polygons → IsMarked marks polygon → IsRingOf (listed_at polygons polygon) ring → IsGatheredBefore last ring
  gathered_before polygon last ring up within marked of_it =
      let from = of_it.from in
      let before = of_it.before in
      let at : ℕ = ring - (listed_at polygons polygon).exterior in
      let below : start_of polygons marks polygon + at < start_of polygons marks last + size_of polygons last = elim (cases_lt polygon last) [
        | inl less ↦ let following = total_after marks (size_of polygons) polygon last less marked in omega arith
        | inr not_less ↦
            let same : polygon ≡ last = omega arith in
            let starts : start_of polygons marks polygon ≡ start_of polygons marks last = ap (start_of polygons marks) same in
            let sizes : size_of polygons polygon ≡ size_of polygons last = ap (size_of polygons) same in
            omega arith
      ] in
      let place : slice_index own_places (start_of polygons marks polygon + at) ≡ (listed_at polygons polygon).exterior + at = place_at rings polygons marks able listed polygon at (omega arith) marked (omega arith) in
      record { at = start_of polygons marks polygon + at; below = below; place = place ∙ (omega arith) }

  -- Edges

  -- edges of two marked polygons don't meet, where no edges of the gathered ones meet
  none_together : (last : ℕ) (first second : RingEdge) (point : RationalPoint) (polygon other : ℕ) → last < length polygons → IsMarked marks last → NoMeeting (part_of own_parts (front_of (block_of polygons marks last)))
      → polygon ≤ last → other ≤ last → IsMarked marks polygon → IsMarked marks other → IsRingOf (listed_at polygons polygon) first.ring → IsRingOf (listed_at polygons other) second.ring → ¬ MeetsWrongly rings first second point
  none_together last first second point polygon other within last_marked none up other_up marked other_marked of_it of_its meets =
      let block = block_of polygons marks last in
      let one = gathered_before polygon last first.ring up within marked of_it in
      let another = gathered_before other last second.ring other_up within other_marked of_its in
      let fits = block_within rings polygons marks able listed last within last_marked in
      let below = one.below in
      let its_below = another.below in
      let count = count_of_front own_parts block fits in
      let moved : MeetsWrongly rings (record { ring = slice_index own_places one.at; edge = first.edge }) (record { ring = slice_index own_places another.at; edge = second.edge }) point =
      meets_at rings first second point (slice_index own_places one.at) (slice_index own_places another.at) one.place another.place meets in
      let gathered : MeetsWrongly own_parts (record { ring = one.at; edge = first.edge }) (record { ring = another.at; edge = second.edge }) point =
      meets_back own_parts rings (slice_index own_places) (parts_copies rings polygons marks able listed) (record { ring = one.at; edge = first.edge }) (record { ring = another.at; edge = second.edge }) point (omega arith) (omega arith) moved in
      none (record { ring = one.at; edge = first.edge }) (record { ring = another.at; edge = second.edge }) point
      (meets_back (part_of own_parts (front_of block)) own_parts (λ (ring : ℕ). ring) (front_copies own_parts block fits) (record { ring = one.at; edge = first.edge }) (record { ring = another.at; edge = second.edge }) point (omega arith) (omega arith) gathered)

  -- edges of one polygon don't meet, where no edges of its part do
  none_of_own : (polygon : ℕ) (first second : RingEdge) (point : RationalPoint) → polygon < length polygons → NoMeeting (part_of rings (listed_at polygons polygon))
      → IsRingOf (listed_at polygons polygon) first.ring → IsRingOf (listed_at polygons polygon) second.ring → ¬ MeetsWrongly rings first second point
  none_of_own polygon first second point within none of_it of_its meets =
      let it = listed_at polygons polygon in
      let fits = ends rings polygons marks able listed polygon within in
      let from = of_it.from in
      let before = of_it.before in
      let its_from = of_its.from in
      let its_before = of_its.before in
      let count = count_of_part rings it fits in
      let at : ℕ = first.ring - it.exterior in
      let its_at : ℕ = second.ring - it.exterior in
      none (record { ring = at; edge = first.edge }) (record { ring = its_at; edge = second.edge }) point
      (meets_back (part_of rings it) rings (λ (ring : ℕ). it.exterior + ring) (part_copies rings it fits) (record { ring = at; edge = first.edge }) (record { ring = its_at; edge = second.edge }) point (omega arith) (omega arith)
      (meets_at rings first second point (it.exterior + at) (it.exterior + its_at) (omega arith) (omega arith) meets))

  -- neither of two polygons is marked, and the one lies in a hole of the other
  record AreUnmarkedByHole (polygon other : ℕ) : Type 0 where
    one : IsUnmarked marks polygon
    another : IsUnmarked marks other
    by_hole : AreApartByHole rings (listed_at polygons polygon) (listed_at polygons other)

  -- two polygons of which one isn't marked are far apart, or this
  are_apart : (polygon other : ℕ) → polygon < length polygons → other < length polygons → polygon ≢ other → IsUnmarked marks polygon ⊎ IsUnmarked marks other
      → AreFarApart rings (listed_at polygons polygon) (listed_at polygons other) ⊎ AreUnmarkedByHole polygon other
  are_apart polygon other within other_within differ (inl unmarked) = elim (apart.apart polygon other within other_within differ unmarked) [
    | inl far ↦ inl far
    | inr both ↦ inr (record { one = unmarked; another = both.0; by_hole = both.1 })
  ]
  are_apart polygon other within other_within differ (inr unmarked) = elim (apart.apart other polygon other_within within (λ same. differ (sym same)) unmarked) [
    | inl far ↦ inl (far_back rings (listed_at polygons other) (listed_at polygons polygon) far)
    | inr both ↦ inr (record { one = both.0; another = unmarked; by_hole = elim both.1 [ inl its ↦ inr its | inr it ↦ inl it ] })
  ]

  -- no edges of a polygon that isn't marked meet, of those before a number
  abbrev pub AreOwnApart : ℕ → Type 0
  AreOwnApart to = (polygon : ℕ) → polygon < to → IsUnmarked marks polygon → NoMeeting (part_of rings (listed_at polygons polygon))

  -- nor do those of the gathered rings up to a marked one
  abbrev pub AreFrontsApart : ℕ → Type 0
  AreFrontsApart to = (polygon : ℕ) → polygon < to → IsMarked marks polygon → NoMeeting (part_of own_parts (front_of (block_of polygons marks polygon)))

  -- so edges of two polygons don't meet
  none_of_marked : (to : ℕ) (first second : RingEdge) (point : RationalPoint) (polygon other : ℕ) → to ≤ length polygons → AreFrontsApart to → polygon < to → other < to → IsMarked marks polygon → IsMarked marks other
      → IsRingOf (listed_at polygons polygon) first.ring → IsRingOf (listed_at polygons other) second.ring → ¬ MeetsWrongly rings first second point
  none_of_marked to first second point polygon other within none before other_before marked other_marked of_it of_its = elim (cases_lt polygon other) [
    | inl less ↦ none_together other first second point polygon other (omega arith) other_marked (none other other_before other_marked) (omega arith) (omega arith) marked other_marked of_it of_its
    | inr not_less ↦ none_together polygon first second point polygon other (omega arith) marked (none polygon before marked) (omega arith) not_less marked other_marked of_it of_its
  ]

  -- nor do those of two polygons of which one isn't marked
  none_of_two : (to : ℕ) (first second : RingEdge) (point : RationalPoint) (polygon other : ℕ) → to ≤ length polygons → AreOwnApart to → polygon < to → other < to → IsUnmarked marks polygon ⊎ IsUnmarked marks other
      → IsRingOf (listed_at polygons polygon) first.ring → IsRingOf (listed_at polygons other) second.ring → ¬ MeetsWrongly rings first second point
  none_of_two to first second point polygon other within own before other_before unmarked of_it of_its = elim (cases_order polygon other) [
    | inl same ↦
        let own_ring : IsRingOf (listed_at polygons polygon) second.ring = subst (λ (number : ℕ). IsRingOf (listed_at polygons number) second.ring) (sym same) of_its in
        let none : IsUnmarked marks polygon = elim unmarked [ inl it ↦ it | inr its ↦ subst (λ (number : ℕ). IsUnmarked marks number) (sym same) its ] in
        none_of_own polygon first second point (omega arith) (own polygon before none) of_it own_ring
    | inr differ ↦
        let apart_numbers : polygon ≢ other = λ same. elim differ [ inl less ↦ omega arith | inr more ↦ omega arith ] in
        elim (are_apart polygon other (omega arith) (omega arith) apart_numbers unmarked) [
          | inl far ↦ far_edges rings (listed_at polygons polygon) (listed_at polygons other) first second point far of_it of_its
          | inr both ↦
              edges_by_hole rings (listed_at polygons polygon) (listed_at polygons other) both.by_hole (own polygon before both.one) (own other other_before both.another) first second point of_it of_its
        ]
  ]

  -- so none of any two do
  none_of_any : (to : ℕ) (first second : RingEdge) (point : RationalPoint) (polygon other : ℕ) → to ≤ length polygons → AreOwnApart to → AreFrontsApart to → polygon < to → other < to
      → IsRingOf (listed_at polygons polygon) first.ring → IsRingOf (listed_at polygons other) second.ring → ¬ MeetsWrongly rings first second point
  none_of_any to first second point polygon other within own none before other_before of_it of_its = elim (marked_or_not marks polygon) [
    | inr unmarked ↦ none_of_two to first second point polygon other within own before other_before (inl unmarked) of_it of_its
    | inl marked ↦ elim (marked_or_not marks other) [
      | inr unmarked ↦ none_of_two to first second point polygon other within own before other_before (inr unmarked) of_it of_its
      | inl other_marked ↦ none_of_marked to first second point polygon other within none before other_before marked other_marked of_it of_its
    ]
  ]

  -- and none of the rings up to a polygon's last one do
  pub none_of_front : (polygon : ℕ) → polygon < length polygons → AreOwnApart (suc polygon) → AreFrontsApart (suc polygon) → NoMeeting (part_of rings (front_of (listed_at polygons polygon)))
  none_of_front polygon within own none first second point meets =
      let it = listed_at polygons polygon in
      let fits = ends rings polygons marks able listed polygon within in
      let copies = front_copies rings it fits in
      let count = count_of_front rings it fits in
      let first_within = ring_within (part_of rings (front_of it)) rings (λ (ring : ℕ). ring) copies first meets.one meets.one_there in
      let second_within = ring_within (part_of rings (front_of it)) rings (λ (ring : ℕ). ring) copies second meets.other meets.other_there in
      let one = is_before polygon first.ring within (omega arith) in
      let another = is_before polygon second.ring within (omega arith) in
      none_of_any (suc polygon) first second point one.number another.number within own none one.before another.before one.of_it another.of_it
      (meets_there (part_of rings (front_of it)) rings (λ (ring : ℕ). ring) copies first second point meets)

  -- Vertices inside other polygons

  -- a fault of two polygons of the list
  record IsInListed (polygon vertex other : ℕ) : Type 0 where
    within : polygon < length polygons
    other_within : other < length polygons
    differ : polygon ≢ other
    inside : IsInPolygon rings (listed_at polygons polygon) (listed_at polygons other) vertex

  -- each fault is
  in_listed : (polygon vertex other : ℕ) → IsApartFault rings polygon vertex other → IsInListed polygon vertex other
  in_listed polygon vertex other fault =
      let one = of_list rings polygons able listed polygon fault.polygon_rings fault.there in
      let another = of_list rings polygons able listed other fault.other_rings fault.other_there in
      let numbers_differ = other_number rings polygon other fault.polygon_rings fault.other_rings fault.there fault.other_there fault.inside.different in
      record {
        within = one.0;
        other_within = another.0;
        differ = λ same. numbers_differ (sym same);
        inside = subst (λ (it : PolygonRings). IsInPolygon rings it (listed_at polygons other) vertex) one.1 (subst (λ (its : PolygonRings). IsInPolygon rings fault.polygon_rings its vertex) another.1 fault.inside);
      }

  -- there is none of two polygons that are far apart
  not_far_apart : (polygon vertex other : ℕ) → IsInListed polygon vertex other → ¬ AreFarApart rings (listed_at polygons polygon) (listed_at polygons other)
  not_far_apart polygon vertex other it far =
      let own = listed_at polygons polygon in
      let its = listed_at polygons other in
      far_inside rings own its own.exterior vertex its.exterior it.inside.position it.inside.inside.around far
      (record { from = omega arith; before = (is_it rings polygons marks able listed polygon it.within).further })
      it.inside.here
      (record { from = omega arith; before = (is_it rings polygons marks able listed other it.other_within).further })
      it.inside.inside.there it.inside.inside.inside

  -- no vertex of a marked polygon is inside one that isn't marked
  pub marked_in_no_unmarked : (polygon vertex other : ℕ) → IsMarked marks polygon → IsUnmarked marks other → ¬ IsApartFault rings polygon vertex other
  marked_in_no_unmarked polygon vertex other marked unmarked fault =
      let it = in_listed polygon vertex other fault in
      elim (are_apart polygon other it.within it.other_within it.differ (inr unmarked)) [
        | inl far ↦ not_far_apart polygon vertex other it far
        | inr both ↦ let wrong : true ≡ false = sym marked ∙ both.one in absurd (cc wrong)
      ]

  -- none of one that isn't marked is inside another polygon, where no edges of its own meet
  pub unmarked_in_none : (polygon vertex other : ℕ) → IsUnmarked marks polygon → NoMeeting (part_of rings (listed_at polygons polygon)) → ¬ IsApartFault rings polygon vertex other
  unmarked_in_none polygon vertex other unmarked none fault =
      let it = in_listed polygon vertex other fault in
      elim (are_apart polygon other it.within it.other_within it.differ (inl unmarked)) [
        | inl far ↦ not_far_apart polygon vertex other it far
        | inr both ↦ vertices_by_hole rings (listed_at polygons polygon) (listed_at polygons other) both.by_hole none vertex it.inside
      ]

  -- a hole of a marked polygon, among the gathered rings
  hole_there : (polygon hole : ℕ) (vertices : List Position) → polygon < length polygons → IsMarked marks polygon → IsHoleOf (listed_at polygons polygon) hole → slice_get rings hole ≡ Some vertices
      → (own : ℕ) × IsHoleOf (block_of polygons marks polygon) own × (slice_get own_parts own ≡ Some vertices)
  hole_there polygon hole vertices within marked is there =
      let it = listed_at polygons polygon in
      let following = is.following in
      let before = is.before in
      let at : ℕ = hole - it.exterior in
      let same : it.exterior + at ≡ hole = omega arith in (
        start_of polygons marks polygon + at,
        record { following = omega arith; before = omega arith },
        ring_at rings polygons marks able listed polygon at within marked (omega arith) ∙ ap (slice_get rings) same ∙ there,
      )

  -- and back
  hole_back : (polygon hole : ℕ) (vertices : List Position) → polygon < length polygons → IsMarked marks polygon → IsHoleOf (block_of polygons marks polygon) hole → slice_get own_parts hole ≡ Some vertices
      → (own : ℕ) × IsHoleOf (listed_at polygons polygon) own × (slice_get rings own ≡ Some vertices)
  hole_back polygon hole vertices within marked is there =
      let it = listed_at polygons polygon in
      let following = is.following in
      let before = is.before in
      let at : ℕ = hole - start_of polygons marks polygon in
      let same : hole ≡ start_of polygons marks polygon + at = omega arith in (
        it.exterior + at,
        record { following = omega arith; before = omega arith },
        sym (ap (slice_get own_parts) same ∙ ring_at rings polygons marks able listed polygon at within marked (omega arith)) ∙ there,
      )

  -- a position inside a marked polygon
  inside_there : (polygon : ℕ) (position : Position) → polygon < length polygons → IsMarked marks polygon → IsInsidePolygon own_parts (block_of polygons marks polygon) position → IsInsidePolygon rings (listed_at polygons polygon) position
  inside_there polygon position within marked inside = record {
    around = inside.around;
    there = sym (first_at rings polygons marks able listed polygon within marked) ∙ inside.there;
    inside = inside.inside;
    in_no_hole = λ wrong.
        let own = hole_there polygon wrong.hole wrong.vertices within marked wrong.is wrong.there in
        inside.in_no_hole (record { hole = own.0; is = own.1; vertices = wrong.vertices; there = own.2; inside = wrong.inside });
  }

  -- and back
  inside_back : (polygon : ℕ) (position : Position) → polygon < length polygons → IsMarked marks polygon → IsInsidePolygon rings (listed_at polygons polygon) position → IsInsidePolygon own_parts (block_of polygons marks polygon) position
  inside_back polygon position within marked inside = record {
    around = inside.around;
    there = first_at rings polygons marks able listed polygon within marked ∙ inside.there;
    inside = inside.inside;
    in_no_hole = λ wrong.
        let own = hole_back polygon wrong.hole wrong.vertices within marked wrong.is wrong.there in
        inside.in_no_hole (record { hole = own.0; is = own.1; vertices = wrong.vertices; there = own.2; inside = wrong.inside });
  }

  -- a fault of two marked polygons is one of the gathered feature
  pub fault_back : (polygon vertex other : ℕ) → IsMarked marks polygon → IsMarked marks other → IsApartFault rings polygon vertex other → IsApartFault own_parts (rank_of marks polygon) vertex (rank_of marks other)
  fault_back polygon vertex other marked other_marked fault =
      let it = in_listed polygon vertex other fault in
      let is_one = polygon_at rings polygons marks able listed polygon it.within marked in
      let is_other = polygon_at rings polygons marks able listed other it.other_within other_marked in
      let ranks_differ : rank_of marks other ≢ rank_of marks polygon = λ same. elim (cases_order polygon other) [
        | inl one ↦ it.differ one
        | inr apart_numbers ↦ elim apart_numbers [
          | inl less ↦ let following = total_after marks (λ (number : ℕ). 1) polygon other less marked in omega arith
          | inr more ↦ let following = total_after marks (λ (number : ℕ). 1) other polygon more other_marked in omega arith
        ]
      ] in
      record {
        polygon_rings = block_of polygons marks polygon;
        there = is_one;
        other_rings = block_of polygons marks other;
        other_there = is_other;
        inside = record {
          position = it.inside.position;
          here = record { vertices = it.inside.here.vertices; there = first_at rings polygons marks able listed polygon it.within marked ∙ it.inside.here.there; here = it.inside.here.here };
          different = other_exterior own_parts (rank_of marks polygon) (rank_of marks other) (block_of polygons marks polygon) (block_of polygons marks other) is_one is_other ranks_differ;
          inside = inside_back other it.inside.position it.other_within other_marked it.inside.inside;
        };
      }

  -- and the other way round
  pub record IsFaultThere (polygon vertex number : ℕ) : Type 0 where
    pub other : ℕ
    pub within : other < length polygons
    pub marked : IsMarked marks other
    pub rank : number ≡ rank_of marks other
    pub fault : IsApartFault rings polygon vertex other

  -- each fault of a marked polygon is
  pub fault_there : (polygon vertex number : ℕ) → polygon < length polygons → IsMarked marks polygon → IsApartFault own_parts (rank_of marks polygon) vertex number → IsFaultThere polygon vertex number
  fault_there polygon vertex number within marked fault =
      let its = ranked rings polygons marks able listed number fault.other_rings fault.other_there in
      let own = same_polygon own_parts (rank_of marks polygon) fault.polygon_rings (block_of polygons marks polygon) fault.there (polygon_at rings polygons marks able listed polygon within marked) in
      let inside : IsInPolygon own_parts (block_of polygons marks polygon) (block_of polygons marks its.polygon) vertex =
      subst (λ (it : PolygonRings). IsInPolygon own_parts it (block_of polygons marks its.polygon) vertex) own (subst (λ (other : PolygonRings). IsInPolygon own_parts fault.polygon_rings other vertex) its.block fault.inside) in
      let is_one = is_it rings polygons marks able listed polygon within in
      let is_other = is_it rings polygons marks able listed its.polygon its.within in
      let differ : its.polygon ≢ polygon = λ same. inside.different (ap (start_of polygons marks) same) in
      record {
        other = its.polygon;
        within = its.within;
        marked = its.marked;
        rank = its.rank;
        fault = record {
          polygon_rings = listed_at polygons polygon;
          there = is_one;
          other_rings = listed_at polygons its.polygon;
          other_there = is_other;
          inside = record {
            position = inside.position;
            here = record { vertices = inside.here.vertices; there = sym (first_at rings polygons marks able listed polygon within marked) ∙ inside.here.there; here = inside.here.here };
            different = other_exterior rings polygon its.polygon (listed_at polygons polygon) (listed_at polygons its.polygon) is_one is_other differ;
            inside = inside_there its.polygon inside.position its.within its.marked inside.inside;
          };
        };
      }
