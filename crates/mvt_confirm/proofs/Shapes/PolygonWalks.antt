-- Two walks over the rings of a feature, of which one is ahead: up to a polygon, and over its holes.
use Rattle.std.proofs.Common.{◌≡◌, ◌≢◌, ℕ, zero, suc, ◌+◌, ◌<◌, ◌≤◌, inl, inr, List, [], ◌∷◌, length, drop, slice_get, Some, sym, subst, arith}
use Rattle.std.proofs.lemmas.Bool.{cases_lt}
use Rattle.std.proofs.lemmas.Option.{slice_get_within}
use Rattle.mvt_confirm.specs.Calls.Apart.{StandAtPolygon}
use Rattle.mvt_confirm.specs.Calls.Vertices.{VertexWalk, EndsVertices, RingsLeft}
use Rattle.mvt_confirm.specs.Calls.Rings.{GivesRing}
use Rattle.mvt_confirm.specs.declared.rings.Measure.{Measure}
use Rattle.mvt_confirm.proofs.Shapes.RingCounts.{HavePassed, all_passed, IsMeasureOf, next_passed, none_passed}
use Rattle.mvt_confirm.proofs.Shapes.RingPlaces.{IsCounted, none_yet, some_passed, exterior_counted, exterior_place, given_within, hole_counted, none_counted}
use Rattle.mvt_rules.proofs.Rings.SamePolygons.{exterior_of_polygon, polygon_begins_within}
use Rattle.mvt_plane.specs.Geometry.Inside.{IsInside}
use Rattle.mvt_rules.specs.Nesting.{IsInHoles}
use Rattle.mvt_rules.specs.Polygon.{IsExterior, NoExterior, IsExteriorOf, first, next, PolygonRings, IsPolygon}
use Rattle.mvt_plane.specs.Position.{Position}
use Rattle.mvt_rules.specs.Ring.{ArePolygonRings}

-- Places of a list

-- what stands at a place is the first of the rest from there
pub rest_from : {X : Type 0} (xs : List X) (i : ℕ) (x : X) → slice_get xs i ≡ Some x → drop i xs ≡ x ∷ drop (suc i) xs
rest_from [] i x there = absurd (cc)
rest_from (y ∷ xs) zero x there = cc
rest_from (y ∷ xs) (suc i) x there = rest_from xs i x there

-- and the other way round
pub first_of_rest : {X : Type 0} (xs : List X) (i : ℕ) (x : X) → slice_get (drop i xs) 0 ≡ Some x → slice_get xs i ≡ Some x
first_of_rest xs zero x is = is
first_of_rest [] (suc i) x is = absurd (cc)
first_of_rest (y ∷ xs) (suc i) x is = first_of_rest xs i x is

-- The order of exteriors

-- an exterior that isn't after the one before this is the latter or comes before it
not_between : (rings : List (List Position)) (before to exterior : ℕ) → NoExterior rings (suc before) to → IsExterior rings exterior → exterior < to → exterior ≤ before
not_between rings before to exterior none is less = elim (cases_lt before exterior) [
  | inl following ↦ absurd (none exterior following less is)
  | inr here ↦ here
]

-- where the exterior of a polygon comes first, so does its number
numbers_in_order : (rings : List (List Position)) (other last polygon exterior : ℕ) → IsExteriorOf rings other last → IsExteriorOf rings polygon exterior → exterior ≤ last → polygon ≤ other
numbers_in_order rings _ _ _ _ (first last is none) (first exterior it none_before) before = omega arith
numbers_in_order rings _ _ _ _ (first last is none) (next polygon earlier exterior begins less it none_before) before =
    absurd (none earlier (omega arith) (omega arith) (exterior_of_polygon rings polygon earlier begins))
numbers_in_order rings _ _ _ _ (next other middle last others nearer is none) (first exterior it none_before) before = omega arith
numbers_in_order rings _ _ _ _ (next other middle last others nearer is none) (next polygon earlier exterior begins less it none_before) before =
    let at = not_between rings middle last earlier none (exterior_of_polygon rings polygon earlier begins) (omega arith) in
    omega (arith, numbers_in_order rings other middle polygon earlier others begins at)

-- Up to a polygon

-- both walks have passed as many rings, and of their exteriors as many as make up the polygon's number with those that are
-- still to come
pub record AreBefore (rings : List (List Position)) (polygon before : ℕ) (ahead walk : VertexWalk) : Type 0 where
  pub number : ℕ
  pub exteriors : ℕ
  pub last : ℕ
  pub ahead_passed : HavePassed rings ahead number
  pub passed : HavePassed rings walk number
  pub counted : IsCounted rings number exteriors last
  pub count : exteriors + before ≡ polygon

-- in front of the first ring
pub before_all : (rings : List (List Position)) (polygon : ℕ) (ahead walk : VertexWalk) → RingsLeft ahead rings → RingsLeft walk rings → AreBefore rings polygon polygon ahead walk
before_all rings polygon ahead walk ahead_left left = record {
  number = 0;
  exteriors = 0;
  last = 0;
  ahead_passed = none_passed rings ahead ahead_left;
  passed = none_passed rings walk left;
  counted = none_counted rings 0;
  count = omega arith;
}

-- after the last ring there is no such polygon
pub none_so_far : (rings : List (List Position)) (polygon before : ℕ) (ahead walk : VertexWalk) (its : PolygonRings) → AreBefore rings polygon before ahead walk → EndsVertices ahead → ¬ IsPolygon rings polygon its
none_so_far rings polygon before ahead walk its so_far ends is = by_count so_far.exteriors so_far.last so_far.counted so_far.count
  where
    size : length rings ≡ so_far.number
    size = all_passed rings ahead so_far.number so_far.ahead_passed ends

    within : its.exterior < so_far.number
    within = let less = polygon_begins_within rings polygon its.exterior is.begins in omega (arith, size)

    by_count : (exteriors last : ℕ) → IsCounted rings so_far.number exteriors last → exteriors + before ≡ polygon → ⊥
    by_count exteriors last (none_yet none_is none) count = none its.exterior (omega arith) within (exterior_of_polygon rings polygon its.exterior is.begins)
    by_count exteriors last (some_passed other one_more begins less none) count =
        let at = not_between rings last so_far.number its.exterior none (exterior_of_polygon rings polygon its.exterior is.begins) within in
        let order = numbers_in_order rings other last polygon its.exterior begins is.begins at in
        omega arith

-- Of a ring that the walk ahead gives
module _ (rings : List (List Position)) (polygon before : ℕ) (ahead new walk : VertexWalk) (measure : Measure) (so_far : AreBefore rings polygon before ahead walk) (given : GivesRing ahead new measure) where
  -- it is the polygon's exterior
  pub at_polygon : ArePolygonRings rings → before ≡ 0 → IsExterior rings so_far.number → StandAtPolygon rings polygon new walk
  at_polygon able over exterior =
      let place = exterior_place rings so_far.number so_far.exteriors so_far.last able so_far.counted exterior in
      let all : so_far.exteriors ≡ polygon = omega (arith, so_far.count) in
      let its = place.polygon_rings in
      let here : so_far.number ≡ its.exterior = sym place.begins in
      let following : so_far.number + 1 ≡ suc its.exterior = omega (arith, here) in
      let passed = (next_passed rings ahead new so_far.number measure so_far.ahead_passed given).1 in
      record {
        polygon_rings = its;
        there = subst (λ (number : ℕ). IsPolygon rings number its) all place.there;
        following = subst (λ (n : ℕ). RingsLeft new (drop n rings)) following passed.left;
        in_front = subst (λ (n : ℕ). RingsLeft walk (drop n rings)) here so_far.passed.left;
      }

  -- the other walk has it ahead too
  pub not_alone : EndsVertices walk → ⊥
  not_alone ends =
      let within = given_within rings ahead new so_far.number measure so_far.ahead_passed given in
      let size = all_passed rings walk so_far.number so_far.passed ends in
      omega arith

  -- it is another exterior, which both pass
  pub exterior_passed : (less : ℕ) (next_vertices : VertexWalk) (its : Measure) → GivesRing walk next_vertices its → IsExterior rings so_far.number → less + 1 ≡ before → AreBefore rings polygon less new next_vertices
  exterior_passed less next_vertices its its_given exterior one_less = record {
    number = so_far.number + 1;
    exteriors = so_far.exteriors + 1;
    last = so_far.number;
    ahead_passed = (next_passed rings ahead new so_far.number measure so_far.ahead_passed given).1;
    passed = (next_passed rings walk next_vertices so_far.number its so_far.passed its_given).1;
    counted = exterior_counted rings so_far.number so_far.exteriors so_far.last so_far.counted exterior;
    count = omega (arith, so_far.count);
  }

  -- it is a hole, which both pass
  pub hole_passed : (next_vertices : VertexWalk) (its : Measure) → GivesRing walk next_vertices its → ¬ IsExterior rings so_far.number → AreBefore rings polygon before new next_vertices
  hole_passed next_vertices its its_given hole = record {
    number = so_far.number + 1;
    exteriors = so_far.exteriors;
    last = so_far.last;
    ahead_passed = (next_passed rings ahead new so_far.number measure so_far.ahead_passed given).1;
    passed = (next_passed rings walk next_vertices so_far.number its so_far.passed its_given).1;
    counted = hole_counted rings so_far.number so_far.exteriors so_far.last so_far.counted hole;
    count = so_far.count;
  }

-- Over the holes of a polygon

-- both walks have passed as many rings, none of them after the polygon's last one, and the position is inside none of its
-- holes among them
pub record AreAmidHoles (rings : List (List Position)) (its : PolygonRings) (position : Position) (ahead walk : VertexWalk) : Type 0 where
  pub number : ℕ
  pub following : its.exterior < number
  pub up_to : number ≤ its.after
  pub ahead_passed : HavePassed rings ahead number
  pub passed : HavePassed rings walk number
  pub outside : (hole : ℕ) (vertices : List Position) → its.exterior < hole → hole < number → slice_get rings hole ≡ Some vertices → ¬ IsInside position vertices

-- in front of the first hole
pub before_holes : (rings : List (List Position)) (polygon : ℕ) (its : PolygonRings) (position : Position) (ahead walk : VertexWalk) → IsPolygon rings polygon its
    → RingsLeft ahead (drop (suc its.exterior) rings) → RingsLeft walk (drop (suc its.exterior) rings) → AreAmidHoles rings its position ahead walk
before_holes rings polygon its position ahead walk is ahead_left left =
    let within = polygon_begins_within rings polygon its.exterior is.begins in
    let further = is.further in
    record {
      number = suc its.exterior;
      following = omega arith;
      up_to = further;
      ahead_passed = record { within = within; left = ahead_left };
      passed = record { within = within; left = left };
      outside = λ hole vertices following before there inside. omega arith;
    }

-- where all the holes were passed, the position is inside none
none_round : (rings : List (List Position)) (its : PolygonRings) (position : Position) (ahead walk : VertexWalk) (amid : AreAmidHoles rings its position ahead walk) → its.after ≤ amid.number → ¬ IsInHoles rings its position
none_round rings its position ahead walk amid all is =
    let before = is.is.before in
    amid.outside is.hole is.vertices is.is.following (omega arith) is.there is.inside

-- so after the last ring
pub none_at_end : (rings : List (List Position)) (polygon : ℕ) (its : PolygonRings) (position : Position) (ahead walk : VertexWalk) → IsPolygon rings polygon its
    → AreAmidHoles rings its position ahead walk → EndsVertices ahead → ¬ IsInHoles rings its position
none_at_end rings polygon its position ahead walk is amid ends =
    let size = all_passed rings ahead amid.number amid.ahead_passed ends in
    none_round rings its position ahead walk amid (elim is.ends [
      | inl last ↦ omega (arith, size)
      | inr exterior ↦ let within = polygon_ends_within exterior in omega (arith, size)
    ])
  where
    polygon_ends_within : IsExterior rings its.after → its.after < length rings
    polygon_ends_within exterior = slice_get_within rings its.after exterior.ring exterior.there

-- Of a ring that the walk ahead gives
module _ (rings : List (List Position)) (polygon : ℕ) (its : PolygonRings) (position : Position) (ahead new walk : VertexWalk) (measure : Measure) (is : IsPolygon rings polygon its)
    (amid : AreAmidHoles rings its position ahead walk) (given : GivesRing ahead new measure) where
  -- it is an exterior: the holes are over
  pub none_at_exterior : IsExterior rings amid.number → ¬ IsInHoles rings its position
  none_at_exterior exterior = none_round rings its position ahead walk amid (elim (cases_lt amid.number its.after) [
    | inl before ↦ absurd (is.holes amid.number amid.following before exterior)
    | inr following ↦ following
  ])

  -- otherwise it is one of the holes
  is_hole : ¬ IsExterior rings amid.number → amid.number < its.after
  is_hole hole =
      let within = given_within rings ahead new amid.number measure amid.ahead_passed given in
      let up_to = amid.up_to in
      let other : amid.number ≢ its.after = λ same. elim is.ends [
        | inl last ↦ omega arith
        | inr exterior ↦ hole (subst (IsExterior rings) (sym same) exterior)
      ] in
      elim (cases_lt amid.number its.after) [ inl before ↦ before | inr following ↦ absurd (other (omega arith)) ]

  -- with these vertices
  pub decided : IsMeasureOf rings amid.number measure
  decided = (next_passed rings ahead new amid.number measure amid.ahead_passed given).0

  -- which the other walk has ahead
  pub hole_ahead : RingsLeft walk (decided.ring ∷ drop (suc amid.number) rings)
  hole_ahead = subst (RingsLeft walk) (rest_from rings amid.number decided.ring decided.there) amid.passed.left

  -- inside which the position is
  pub in_this_hole : ¬ IsExterior rings amid.number → IsInside position decided.ring → IsInHoles rings its position
  in_this_hole hole inside = record { hole = amid.number; is = record { following = amid.following; before = is_hole hole }; vertices = decided.ring; there = decided.there; inside = inside }

  -- or not
  pub one_more_outside : (next_vertices : VertexWalk) → ¬ IsExterior rings amid.number → RingsLeft next_vertices (drop (suc amid.number) rings) → ¬ IsInside position decided.ring
      → AreAmidHoles rings its position new next_vertices
  one_more_outside next_vertices hole left outside =
      let passed = (next_passed rings ahead new amid.number measure amid.ahead_passed given).1 in
      let following = amid.following in
      let before = is_hole hole in
      let more : suc amid.number ≡ amid.number + 1 = omega arith in
      record {
        number = amid.number + 1;
        following = omega arith;
        up_to = omega arith;
        ahead_passed = passed;
        passed = record { within = passed.within; left = subst (λ (n : ℕ). RingsLeft next_vertices (drop n rings)) more left };
        outside = λ number vertices from to there. elim (cases_lt number amid.number) [
          | inl earlier ↦ amid.outside number vertices from earlier there
          | inr later ↦
              let here : number ≡ amid.number = omega arith in
              let same : decided.ring ≡ vertices = cc (decided.there, there, here) in
              λ inside. outside (subst (IsInside position) (sym same) inside)
        ];
      }
