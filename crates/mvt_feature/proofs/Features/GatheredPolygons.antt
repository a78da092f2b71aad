-- The marked polygons of a feature, gathered: which polygons their rings are.
use Rattle.std.proofs.Common.{◌≡◌, ℕ, zero, suc, ◌+◌, ◌-◌, ◌<◌, ◌≤◌, ◌⊎◌, inl, inr, Bool, List, [], ◌∷◌, length, slice_get, slice_index, Some, pos, ◌<ℤ◌, refl, sym, ◌∙◌, ap, ap₂, subst, arith}
use Rattle.std.proofs.lemmas.Bool.{cases_lt}
use Rattle.std.proofs.lemmas.List.FromFn.{length-range_with_len, get_or-range_with_len}
use Rattle.std.proofs.lemmas.Option.{slice_get_within, slice_get-get_or, get_or_from_slice_get, same_Some}
use Rattle.std.specs.List.{range_with_len}
use Rattle.mvt_plane.proofs.Orders.Order.{zs}
use Rattle.mvt_rules.proofs.Rings.PartsOfRings.{ring_of_part, count_of_part}
use Rattle.mvt_rules.proofs.Rings.SamePolygons.{exterior_of_polygon, polygon_begins_within, one_polygon}
use Rattle.mvt_rules.specs.Parts.Rings.{part_of}
use Rattle.mvt_rules.specs.Polygon.{IsExterior, NoExterior, IsExteriorOf, first, next, PolygonRings, IsPolygon}
use Rattle.mvt_plane.specs.Position.{Position}
use Rattle.mvt_plane.specs.Geometry.Ring.{doubled_area}
use Rattle.mvt_feature.specs.Calls.FeatureParts.{listed_at}
use Rattle.mvt_feature.specs.Calls.Gathered.{gathered_rings, gathered_places, gathered_numbers}
use Rattle.mvt_rules.specs.Ring.{ArePolygonRings}
use Rattle.mvt_polygon.specs.Polygons.{ArePolygons}
use Rattle.mvt_sweep.specs.Rings.{AreProperRings}
use Rattle.mvt_polygon.proofs.ApartFaults.{rings_listed, ends_within}
use Rattle.mvt_feature.proofs.Features.GatheredLists.{IsMarked, marked_or_not, total_of, total_marked, total_unmarked, total_after, home_in, length_gathered, gathered_at}
use Rattle.mvt_feature.proofs.Placed.PolygonOrder.{in_turn}
use Rattle.mvt_feature.proofs.Features.RingCopies.{AreCopies}

-- how many rings a polygon has
abbrev pub size_of : List (ℕ × ℕ) → ℕ → ℕ
size_of polygons polygon = (listed_at polygons polygon).after - (listed_at polygons polygon).exterior

-- how many rings the marked ones before it have
abbrev pub start_of : List (ℕ × ℕ) → List Bool → ℕ → ℕ
start_of polygons marks = total_of marks (size_of polygons)

-- how many those are
abbrev pub rank_of : List Bool → ℕ → ℕ
rank_of marks = total_of marks (λ (polygon : ℕ). 1)

-- the rings of a marked polygon among those that are gathered
abbrev pub block_of : List (ℕ × ℕ) → List Bool → ℕ → PolygonRings
block_of polygons marks polygon = record { exterior = start_of polygons marks polygon; after = start_of polygons marks polygon + size_of polygons polygon }

-- lists of one length that have the same at each place
same_lists : {X : Type 0} (xs ys : List X) → length xs ≡ length ys → ((place : ℕ) → place < length xs → slice_get xs place ≡ slice_get ys place) → xs ≡ ys
same_lists [] [] count same = refl
same_lists [] (y ∷ ys) count same = absurd (omega arith)
same_lists (x ∷ xs) [] count same = absurd (omega arith)
same_lists (x ∷ xs) (y ∷ ys) count same =
    let first : x ≡ y = same_Some x y (same 0 (omega arith)) in
    let rest : xs ≡ ys = same_lists xs ys (omega arith) (λ place within. same (suc place) (omega arith)) in
    ap₂ (λ z zs. z ∷ zs) first rest

module _ (rings : List (List Position)) (polygons : List (ℕ × ℕ)) (marks : List Bool) (able : ArePolygonRings rings) (listed : ArePolygons rings polygons) where
  -- the gathered rings, and which they are
  abbrev pub parts : List (List Position)
  parts = gathered_rings rings polygons marks (length polygons)

  -- the number in the feature of each of them
  abbrev pub places : List ℕ
  places = gathered_places polygons marks (length polygons)

  -- the number in the feature of each gathered polygon
  abbrev pub numbers : List ℕ
  numbers = gathered_numbers marks (length polygons)

  -- a polygon of the list
  pub is_it : (polygon : ℕ) → polygon < length polygons → IsPolygon rings polygon (listed_at polygons polygon)
  is_it polygon within = rings_listed rings polygons polygon listed within

  -- its rings are within the feature's
  pub ends : (polygon : ℕ) → polygon < length polygons → (listed_at polygons polygon).after ≤ length rings
  ends polygon within = ends_within rings polygon (listed_at polygons polygon) (is_it polygon within)

  -- its rings are as many
  ring_counts : (polygon : ℕ) → polygon < length polygons → length (part_of rings (listed_at polygons polygon)) ≡ size_of polygons polygon
  ring_counts polygon within = count_of_part rings (listed_at polygons polygon) (ends polygon within)

  -- so are their numbers
  place_counts : (polygon : ℕ) → polygon < length polygons → length (range_with_len (listed_at polygons polygon).exterior (size_of polygons polygon)) ≡ size_of polygons polygon
  place_counts polygon within = length-range_with_len (listed_at polygons polygon).exterior (size_of polygons polygon)

  -- how many are gathered
  pub count_of_parts : length parts ≡ start_of polygons marks (length polygons)
  count_of_parts = length_gathered marks (λ (polygon : ℕ). part_of rings (listed_at polygons polygon)) (size_of polygons) (length polygons) ring_counts (length polygons) (omega arith)

  -- so many numbers are kept for them
  pub count_of_places : length places ≡ start_of polygons marks (length polygons)
  count_of_places = length_gathered marks (λ (polygon : ℕ). range_with_len (listed_at polygons polygon).exterior (size_of polygons polygon)) (size_of polygons) (length polygons) place_counts (length polygons) (omega arith)

  -- and so many polygons
  pub count_of_numbers : length numbers ≡ rank_of marks (length polygons)
  count_of_numbers = length_gathered marks (λ (polygon : ℕ). polygon ∷ []) (λ (polygon : ℕ). 1) (length polygons) (λ polygon within. refl) (length polygons) (omega arith)

  -- a ring of a marked polygon
  pub ring_at : (polygon at : ℕ) → polygon < length polygons → IsMarked marks polygon → at < size_of polygons polygon
      → slice_get parts (start_of polygons marks polygon + at) ≡ slice_get rings ((listed_at polygons polygon).exterior + at)
  ring_at polygon at within marked below =
      gathered_at marks (λ (polygon : ℕ). part_of rings (listed_at polygons polygon)) (size_of polygons) (length polygons) ring_counts polygon (length polygons) at within (omega arith) marked below
      ∙ ring_of_part rings (listed_at polygons polygon) at below

  -- its number in the feature
  pub place_at : (polygon at : ℕ) → polygon < length polygons → IsMarked marks polygon → at < size_of polygons polygon
      → slice_index places (start_of polygons marks polygon + at) ≡ (listed_at polygons polygon).exterior + at
  place_at polygon at within marked below =
      let from = (listed_at polygons polygon).exterior in
      let size = size_of polygons polygon in
      let all = range_with_len from size in
      let count : length all ≡ size = length-range_with_len from size in
      let here : slice_get all at ≡ Some (from + at) = slice_get-get_or all at 0 (omega arith) ∙ ap Some (get_or-range_with_len from size at 0 below) in
      get_or_from_slice_get places (start_of polygons marks polygon + at) (from + at) 0
      (gathered_at marks (λ (polygon : ℕ). range_with_len (listed_at polygons polygon).exterior (size_of polygons polygon)) (size_of polygons) (length polygons) place_counts polygon (length polygons) at within (omega arith) marked below ∙ here)

  -- the polygon's own number
  pub number_at : (polygon : ℕ) → polygon < length polygons → IsMarked marks polygon → slice_index numbers (rank_of marks polygon) ≡ polygon
  number_at polygon within marked =
      let same : rank_of marks polygon ≡ rank_of marks polygon + 0 = omega arith in
      get_or_from_slice_get numbers (rank_of marks polygon) polygon 0
      (ap (slice_get numbers) same ∙ gathered_at marks (λ (polygon : ℕ). polygon ∷ []) (λ (polygon : ℕ). 1) (length polygons) (λ polygon within. refl) polygon (length polygons) 0 within (omega arith) marked (omega arith))

  -- a marked polygon's rings are among those that are gathered
  pub block_within : (polygon : ℕ) → polygon < length polygons → IsMarked marks polygon → start_of polygons marks polygon + size_of polygons polygon ≤ length parts
  block_within polygon within marked =
      let all = count_of_parts in
      let following = total_after marks (size_of polygons) polygon (length polygons) within marked in
      omega arith

  -- it has a ring
  pub some_rings : (polygon : ℕ) → polygon < length polygons → 0 < size_of polygons polygon
  some_rings polygon within =
      let further = (is_it polygon within).further in
      omega arith

  -- a gathered ring is of a marked polygon
  pub record IsGatheredOf (ring : ℕ) : Type 0 where
    pub polygon : ℕ
    pub within : polygon < length polygons
    pub marked : IsMarked marks polygon
    pub at : ℕ
    pub below : at < size_of polygons polygon
    pub is : ring ≡ start_of polygons marks polygon + at

  -- each is
  pub gathered_of : (ring : ℕ) → ring < length parts → IsGatheredOf ring
  gathered_of ring within =
      let all = count_of_parts in
      let home = home_in marks (size_of polygons) (length polygons) ring (omega arith) in
      record { polygon = home.0; within = home.2; marked = home.3; at = home.1; below = home.4; is = home.5 }

  -- its place
  pub place_of : (ring : ℕ) (home : IsGatheredOf ring) → slice_index places ring ≡ (listed_at polygons home.polygon).exterior + home.at
  place_of ring home = ap (slice_index places) home.is ∙ place_at home.polygon home.at home.within home.marked home.below

  -- places of two rings are in their order
  places_in_order : (ring other : ℕ) (home : IsGatheredOf ring) (its : IsGatheredOf other) → ring < other
      → (listed_at polygons home.polygon).exterior + home.at < (listed_at polygons its.polygon).exterior + its.at
  places_in_order ring other home its less =
      let is = home.is in
      let its_is = its.is in
      let below = home.below in
      let its_below = its.below in
      elim (cases_lt its.polygon home.polygon) [
        | inl later ↦ let following = total_after marks (size_of polygons) its.polygon home.polygon later its.marked in absurd (omega arith)
        | inr not_later ↦ elim (cases_lt home.polygon its.polygon) [
          | inl earlier ↦ let turn = in_turn rings polygons able listed home.polygon its.polygon earlier its.within in omega arith
          | inr not_earlier ↦
              let same : home.polygon ≡ its.polygon = omega arith in
              let starts : start_of polygons marks home.polygon ≡ start_of polygons marks its.polygon = ap (start_of polygons marks) same in
              let exteriors : (listed_at polygons home.polygon).exterior ≡ (listed_at polygons its.polygon).exterior = ap (λ (number : ℕ). (listed_at polygons number).exterior) same in
              omega arith
        ]
      ]

  -- so they are copies
  pub parts_copies : AreCopies parts rings (slice_index places)
  parts_copies = record {
    same = λ ring within.
        let home = gathered_of ring within in
        ap (slice_get parts) home.is ∙ ring_at home.polygon home.at home.within home.marked home.below ∙ sym (ap (slice_get rings) (place_of ring home));
    in_order = λ ring other less within.
        let home = gathered_of ring (omega arith) in
        let its = gathered_of other within in
        let one = place_of ring home in
        let another = place_of other its in
        let order = places_in_order ring other home its less in
        omega arith;
  }

  -- Exteriors

  -- the first ring of a marked polygon
  pub first_at : (polygon : ℕ) → polygon < length polygons → IsMarked marks polygon → slice_get parts (start_of polygons marks polygon) ≡ slice_get rings (listed_at polygons polygon).exterior
  first_at polygon within marked =
      let one : start_of polygons marks polygon ≡ start_of polygons marks polygon + 0 = omega arith in
      let other : (listed_at polygons polygon).exterior + 0 ≡ (listed_at polygons polygon).exterior = omega arith in
      ap (slice_get parts) one ∙ ring_at polygon 0 within marked (some_rings polygon within) ∙ ap (slice_get rings) other

  -- is an exterior
  exterior_at : (polygon : ℕ) → polygon < length polygons → IsMarked marks polygon → IsExterior parts (start_of polygons marks polygon)
  exterior_at polygon within marked =
      let exterior = exterior_of_polygon rings polygon (listed_at polygons polygon).exterior (is_it polygon within).begins in
      record { ring = exterior.ring; there = first_at polygon within marked ∙ exterior.there; positive = exterior.positive }

  -- the others aren't
  holes_at : (polygon : ℕ) → polygon < length polygons → IsMarked marks polygon
      → NoExterior parts (suc (start_of polygons marks polygon)) (start_of polygons marks polygon + size_of polygons polygon)
  holes_at polygon within marked number following before exterior =
      let at : ℕ = number - start_of polygons marks polygon in
      let is : number ≡ start_of polygons marks polygon + at = omega arith in
      let further = (is_it polygon within).further in
      (is_it polygon within).holes ((listed_at polygons polygon).exterior + at) (omega arith) (omega arith)
      (record { ring = exterior.ring; there = sym (ap (slice_get parts) is ∙ ring_at polygon at within marked (omega arith)) ∙ exterior.there; positive = exterior.positive })

  -- the gathered rings before a polygon end with those of the last marked one
  record IsLast (other : ℕ) : Type 0 where
    polygon : ℕ
    within : polygon < length polygons
    marked : IsMarked marks polygon
    begins : IsExteriorOf parts (rank_of marks polygon) (start_of polygons marks polygon)
    rank : rank_of marks other ≡ suc (rank_of marks polygon)
    start : start_of polygons marks other ≡ start_of polygons marks polygon + size_of polygons polygon

  -- or there are none
  record IsNone (other : ℕ) : Type 0 where
    rank : rank_of marks other ≡ 0
    start : start_of polygons marks other ≡ 0

  -- so a marked polygon begins after them
  begins_from : (polygon : ℕ) → polygon < length polygons → IsMarked marks polygon → IsNone polygon ⊎ IsLast polygon → IsExteriorOf parts (rank_of marks polygon) (start_of polygons marks polygon)
  begins_from polygon within marked (inl none) =
      let start = none.start in
      subst (λ (number : ℕ). IsExteriorOf parts number (start_of polygons marks polygon)) (sym none.rank)
      (first (start_of polygons marks polygon) (exterior_at polygon within marked) (λ number following before _. omega arith))
  begins_from polygon within marked (inr last) =
      let start = last.start in
      let some = some_rings last.polygon last.within in
      subst (λ (number : ℕ). IsExteriorOf parts number (start_of polygons marks polygon)) (sym last.rank)
      (next (rank_of marks last.polygon) (start_of polygons marks last.polygon) (start_of polygons marks polygon) last.begins (omega arith) (exterior_at polygon within marked)
      (λ number following before. holes_at last.polygon last.within last.marked number following (omega arith)))

  -- so it is before each polygon
  after_last : (other : ℕ) → other ≤ length polygons → IsNone other ⊎ IsLast other
  after_last zero within = inl (record { rank = refl; start = refl })
  after_last (suc other) within =
      let before = after_last other (omega arith) in
      elim (marked_or_not marks other) [
        | inl marked ↦
            let rank : rank_of marks (suc other) ≡ rank_of marks other + 1 = total_marked marks (λ (polygon : ℕ). 1) other marked in
            inr (record {
              polygon = other;
              within = within;
              marked = marked;
              begins = begins_from other within marked before;
              rank = omega arith;
              start = total_marked marks (size_of polygons) other marked;
            })
        | inr unmarked ↦
            let rank = total_unmarked marks (λ (polygon : ℕ). 1) other unmarked in
            let start = total_unmarked marks (size_of polygons) other unmarked in
            elim before [
              | inl none ↦ inl (record { rank = rank ∙ none.rank; start = start ∙ none.start })
              | inr last ↦ inr (record { polygon = last.polygon; within = last.within; marked = last.marked; begins = last.begins; rank = rank ∙ last.rank; start = start ∙ last.start })
            ]
      ]

  -- after a polygon the next marked one begins, or there is none
  next_or_end : (left other : ℕ) → left + other ≡ length polygons → (start_of polygons marks other ≡ start_of polygons marks (length polygons)) ⊎ IsExterior parts (start_of polygons marks other)
  next_or_end zero other sum = let same : other ≡ length polygons = omega arith in inl (ap (start_of polygons marks) same)
  next_or_end (suc left) other sum = elim (marked_or_not marks other) [
    | inl marked ↦ inr (exterior_at other (omega arith) marked)
    | inr unmarked ↦
        let same = total_unmarked marks (size_of polygons) other unmarked in
        elim (next_or_end left (suc other) (omega arith)) [
          | inl all ↦ inl (sym same ∙ all)
          | inr exterior ↦ inr (subst (IsExterior parts) same exterior)
        ]
  ]

  -- Polygons

  -- a marked polygon is one of the gathered feature
  pub polygon_at : (polygon : ℕ) → polygon < length polygons → IsMarked marks polygon → IsPolygon parts (rank_of marks polygon) (block_of polygons marks polygon)
  polygon_at polygon within marked =
      let some = some_rings polygon within in
      let all = count_of_parts in
      let following : start_of polygons marks (suc polygon) ≡ start_of polygons marks polygon + size_of polygons polygon = total_marked marks (size_of polygons) polygon marked in
      record {
        begins = begins_from polygon within marked (after_last polygon (omega arith));
        further = omega arith;
        holes = holes_at polygon within marked;
        ends = elim (next_or_end (length polygons - suc polygon) (suc polygon) (omega arith)) [
          | inl last ↦ inl (sym following ∙ last ∙ sym all)
          | inr exterior ↦ inr (subst (IsExterior parts) following exterior)
        ];
      }

  -- and it has no other ones
  pub record IsRanked (number : ℕ) (it : PolygonRings) : Type 0 where
    pub polygon : ℕ
    pub within : polygon < length polygons
    pub marked : IsMarked marks polygon
    pub rank : number ≡ rank_of marks polygon
    pub block : it ≡ block_of polygons marks polygon

  -- so it is with each of its polygons
  pub ranked : (number : ℕ) (it : PolygonRings) → IsPolygon parts number it → IsRanked number it
  ranked number it is =
      let home = gathered_of it.exterior (polygon_begins_within parts number it.exterior is.begins) in
      let below = home.below in
      let there = home.is in
      let same = one_polygon parts it.exterior number (rank_of marks home.polygon) it (block_of polygons marks home.polygon) is (record { from = omega arith; before = is.further })
      (polygon_at home.polygon home.within home.marked) (record { from = omega arith; before = omega arith }) in
      record { polygon = home.polygon; within = home.within; marked = home.marked; rank = same.0; block = same.1 }

  -- Rings

  -- the gathered rings have no fault of their own
  pub parts_able : ArePolygonRings parts
  parts_able = record {
    open_ends = λ number wrong.
        able.open_ends (slice_index places number)
        (record { ring = wrong.ring; there = sym (parts_copies.same number (slice_get_within parts number wrong.ring wrong.there)) ∙ wrong.there; position = wrong.position; first = wrong.first; last = wrong.last });
    areas = λ number wrong.
        able.areas (slice_index places number)
        (record { ring = wrong.ring; there = sym (parts_copies.same number (slice_get_within parts number wrong.ring wrong.there)) ∙ wrong.there; none = wrong.none });
    exterior_first = λ number wrong.
        let home = gathered_of number (slice_get_within parts number wrong.ring wrong.there) in
        let first = wrong.first in
        let is = home.is in
        let begins : number ≡ start_of polygons marks home.polygon = omega arith in
        let exterior = exterior_at home.polygon home.within home.marked in
        let same : wrong.ring ≡ exterior.ring = same_Some wrong.ring exterior.ring (sym wrong.there ∙ ap (slice_get parts) begins ∙ exterior.there) in
        let positive : pos 0 <ℤ doubled_area wrong.ring = subst (λ (ring : List Position). pos 0 <ℤ doubled_area ring) (sym same) exterior.positive in
        let negative = wrong.negative in
        omega (arith, zs);
  }

  -- they are drawn
  pub parts_drawn : AreProperRings rings → AreProperRings parts
  parts_drawn drawn = record {
    several = λ number ring there. drawn.several (slice_index places number) ring (sym (parts_copies.same number (slice_get_within parts number ring there)) ∙ there);
    apart = λ number vertex ring position next there. drawn.apart (slice_index places number) vertex ring position next (sym (parts_copies.same number (slice_get_within parts number ring there)) ∙ there);
  }

  -- those of a polygon are the polygon's
  pub same_part : (polygon : ℕ) → polygon < length polygons → IsMarked marks polygon → part_of parts (block_of polygons marks polygon) ≡ part_of rings (listed_at polygons polygon)
  same_part polygon within marked =
      let block = block_of polygons marks polygon in
      let it = listed_at polygons polygon in
      let count : length (part_of parts block) ≡ block.after - block.exterior = count_of_part parts block (block_within polygon within marked) in
      let its_count = ring_counts polygon within in
      same_lists (part_of parts block) (part_of rings it) (omega arith)
      (λ at below.
      let own : at < size_of polygons polygon = omega arith in
      ring_of_part parts block at (omega arith) ∙ ring_at polygon at within marked own ∙ sym (ring_of_part rings it at own))
