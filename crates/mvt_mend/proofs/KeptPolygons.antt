-- Which polygons are still there among other rings.
use Rattle.std.proofs.Common.{◌≡◌, ℕ, ◌+◌, ◌<◌, ◌≤◌, ◌⊎◌, inl, inr, Bool, true, false, not, cond, nat_lt, IsTrue, List, [], ◌∷◌, ◌++◌, length, slice_get, slice_range, get_or, take, Some, Vec, pos, ◌<ℤ◌, sym, ◌∙◌, ap, ap₂, subst, arith}
use Rattle.std.proofs.lemmas.Bool.{cases_lt, cond-true, cond-false, lt-ltb, le-ltb}
use Rattle.std.proofs.lemmas.Int.{ints}
use Rattle.std.proofs.lemmas.List.{take_more, take_all}
use Rattle.std.proofs.lemmas.Option.{same_Some, get_or_from_slice_get, slice_get_within, slice_get-get_or}
use Rattle.std.specs.declared.alloc.Global.{Global}
use Rattle.mvt_rules.specs.Polygon.{IsExterior, PolygonRings, IsPolygon}
use Rattle.mvt_rules.specs.Ring.{HasNoArea}
use Rattle.mvt_plane.specs.Geometry.Ring.{doubled_area}
use Rattle.mvt_plane.specs.Position.{Position}
use Rattle.mvt_sweep.specs.Rings.{rings_of}
use Rattle.mvt_polygon.proofs.PolygonSlices.{part_read}
use Rattle.mvt_polygon.proofs.PolygonList.{is_exterior}
use Rattle.mvt_mend.specs.Calls.Judged.{AreJudged, IsFoundFrom}
use Rattle.mvt_mend.specs.Kept.{AreKept, BeginWithExterior, IsRightPolygon, IsSamePolygon}

-- an exterior has an area
exterior_has_area : (rings : List (List Position)) (ring : ℕ) → IsExterior rings ring → ¬ HasNoArea rings ring
exterior_has_area rings ring exterior flat =
    let same : exterior.ring ≡ flat.ring = same_Some exterior.ring flat.ring (sym exterior.there ∙ flat.there) in
    let area : doubled_area exterior.ring ≡ doubled_area flat.ring = ap doubled_area same in
    let positive = exterior.positive in
    let none = flat.none in
    omega (arith, ints)

-- a ring with these vertices has no area only if they go round none
flat_there : (rings : List (List Position)) (ring : ℕ) (vertices : List Position) → slice_get rings ring ≡ Some vertices → HasNoArea rings ring → doubled_area vertices ≡ pos 0
flat_there rings ring vertices there flat = ap doubled_area (same_Some vertices flat.ring (sym there ∙ flat.there)) ∙ flat.none

-- the first ring that has an area is an exterior
pub first_with_area : (rings : List (List Position)) (ring : ℕ) (vertices : List Position) → slice_get rings ring ≡ Some vertices → ((before : ℕ) → before < ring → HasNoArea rings before)
    → ¬ (doubled_area vertices ≡ pos 0) → BeginWithExterior rings → pos 0 <ℤ doubled_area vertices
first_with_area rings ring vertices there before some begin = elim (cases_lt begin.first ring) [
  | inl earlier ↦ absurd (exterior_has_area rings begin.first begin.exterior (before begin.first earlier))
  | inr later ↦ elim (cases_lt ring begin.first) [
    | inl this ↦ absurd (some (flat_there rings ring vertices there (begin.flat ring this)))
    | inr same ↦
        let equal : begin.first ≡ ring = omega arith in
        (is_exterior rings ring vertices there).1 (subst (IsExterior rings) equal begin.exterior)
  ]
]

-- Lists, compared one by one

-- what is the same up to a place and at it is the same up to the next
pub same_more : {X : Type 0} (one other : List X) (place : ℕ) (its others : X) → take place one ≡ take place other → place < length one → place < length other → slice_get one place ≡ Some its → slice_get other place ≡ Some others
    → its ≡ others → take (place + 1) one ≡ take (place + 1) other
same_more {X = X} one other place its others same within other_within here other_here equal =
    take_more one place its within ∙ ap₂ (λ (list : List X) (x : X). list ++ x ∷ []) same (get_or_from_slice_get one place its its here ∙ equal ∙ sym (get_or_from_slice_get other place others others other_here))
    ∙ sym (take_more other place others other_within)

-- and up to their ends they are the same
pub same_whole : {X : Type 0} (one other : List X) (place : ℕ) → take place one ≡ take place other → length one ≤ place → length other ≤ place → one ≡ other
same_whole one other place same ends other_ends = sym (take_all place one ends) ∙ same ∙ take_all place other other_ends

-- Tests

-- what isn't true is false
pub not_false : (test : Bool) → IsTrue (not test) → ¬ IsTrue test
not_false true = λ no yes. let both : false ≡ true = no in cc both
not_false false = λ no yes. let both : false ≡ true = yes in cc both

-- a ring read again has an area too
pub flat_elsewhere : (rings : List (List Position)) (ring : ℕ) (vertices others : List Position) → slice_get rings ring ≡ Some vertices → slice_get rings ring ≡ Some others
    → ¬ (doubled_area vertices ≡ pos 0) → ¬ (doubled_area others ≡ pos 0)
flat_elsewhere rings ring vertices others there others_there some none = some (ap doubled_area (same_Some vertices others (sym there ∙ others_there)) ∙ none)

-- Polygons that are still there

-- the polygons before a number that are marked have their places, before a place
pub record AreKeptBefore (old new : List (List Position)) (right : List Bool) (many next : ℕ) : Type 0 where
  pub place : ℕ → ℕ
  pub there : (polygon : ℕ) → polygon < many → slice_get right polygon ≡ Some true → IsSamePolygon old polygon new (place polygon)
  pub before : (polygon : ℕ) → polygon < many → slice_get right polygon ≡ Some true → place polygon < next
  pub in_order : (polygon other : ℕ) → polygon < other → other < many → slice_get right polygon ≡ Some true → slice_get right other ≡ Some true → place polygon < place other

-- at first there are none
pub none_kept : (old new : List (List Position)) (right : List Bool) (next : ℕ) → AreKeptBefore old new right 0 next
none_kept old new right next = record {
  place = λ polygon. 0;
  there = λ polygon none marked. absurd (omega arith);
  before = λ polygon none marked. absurd (omega arith);
  in_order = λ polygon other less none marked other_marked. absurd (omega arith);
}

-- a number before the next is before this one, or is this one
before_next : (polygon many : ℕ) → polygon < many + 1 → (polygon < many) ⊎ (polygon ≡ many)
before_next polygon many less = elim (cases_lt polygon many) [ inl earlier ↦ inl earlier | inr later ↦ inr (omega arith) ]

-- one that isn't marked is passed over
pub one_passed : (old new : List (List Position)) (right : List Bool) (many next : ℕ) → AreKeptBefore old new right many next → slice_get right many ≡ Some false → AreKeptBefore old new right (many + 1) next
one_passed old new right many next kept unmarked = record {
  place = kept.place;
  there = λ polygon less marked. kept.there polygon (earlier polygon less marked) marked;
  before = λ polygon less marked. kept.before polygon (earlier polygon less marked) marked;
  in_order = λ polygon other less within marked other_marked. kept.in_order polygon other less (earlier other within other_marked) marked other_marked;
}
  where
    earlier : (polygon : ℕ) → polygon < many + 1 → slice_get right polygon ≡ Some true → polygon < many
    earlier polygon less marked = elim (before_next polygon many less) [
      | inl before ↦ before
      | inr same ↦ let both : Some true ≡ Some false = sym marked ∙ ap (slice_get right) same ∙ unmarked in absurd (cc both)
    ]

-- the places with one more
abbrev with_place : (ℕ → ℕ) → ℕ → ℕ → ℕ → ℕ
with_place place many at polygon = cond (nat_lt polygon many) (place polygon) at

-- those before stay
place_before : (place : ℕ → ℕ) (many at polygon : ℕ) → polygon < many → with_place place many at polygon ≡ place polygon
place_before place many at polygon less = cond-true (nat_lt polygon many) (place polygon) at (lt-ltb polygon many less)

-- and the new one is there
place_here : (place : ℕ → ℕ) (many at polygon : ℕ) → polygon ≡ many → with_place place many at polygon ≡ at
place_here place many at polygon same = cond-false (nat_lt polygon many) (place polygon) at (le-ltb polygon many (omega arith))

-- one that is found is kept
pub one_kept : (old new : List (List Position)) (right : List Bool) (many next at : ℕ) → AreKeptBefore old new right many next → next ≤ at → IsSamePolygon old many new at → AreKeptBefore old new right (many + 1) (at + 1)
one_kept old new right many next at kept following found = record {
  place = with_place kept.place many at;
  there = λ polygon less marked. elim (before_next polygon many less) [
    | inl earlier ↦ subst (λ (place : ℕ). IsSamePolygon old polygon new place) (sym (place_before kept.place many at polygon earlier)) (kept.there polygon earlier marked)
    | inr same ↦ subst (λ (place : ℕ). IsSamePolygon old polygon new place) (sym (place_here kept.place many at polygon same)) (subst (λ (number : ℕ). IsSamePolygon old number new at) (sym same) found)
  ];
  before = λ polygon less marked. elim (before_next polygon many less) [
    | inl earlier ↦ omega (arith, place_before kept.place many at polygon earlier, kept.before polygon earlier marked)
    | inr same ↦ omega (arith, place_here kept.place many at polygon same)
  ];
  in_order = λ polygon other less within marked other_marked. elim (before_next other many within) [
    | inl earlier ↦ omega (arith, place_before kept.place many at polygon (omega arith), place_before kept.place many at other earlier, kept.in_order polygon other less earlier marked other_marked)
    | inr same ↦ omega (arith, place_before kept.place many at polygon (omega arith), place_here kept.place many at other same, kept.before polygon (omega arith) marked)
  ];
}

-- a right polygon is marked
marked_right : (old : List (List Position)) (polygons : List (ℕ × ℕ)) (right : List Bool) (polygon : ℕ) (it : PolygonRings) → AreJudged old polygons right → IsRightPolygon old polygon it → (polygon < length polygons) × (slice_get right polygon ≡ Some true)
marked_right old polygons right polygon it judged is_right =
    let within : polygon < length polygons = slice_get_within polygons polygon (it.exterior, it.after) (judged.listed.all polygon it is_right.there) in
    let mark : Bool = get_or right polygon false in
    let there : slice_get right polygon ≡ Some mark = slice_get-get_or right polygon false (omega (arith, judged.as_many)) in
    (within, true_or_false mark there)
  where
    true_or_false : (mark : Bool) → slice_get right polygon ≡ Some mark → slice_get right polygon ≡ Some true
    true_or_false true there = there
    true_or_false false there = absurd (judged.wrong polygon it there is_right)

-- at the end all are kept
pub all_kept : (old new : List (List Position)) (polygons : List (ℕ × ℕ)) (right : List Bool) (many next : ℕ) → AreJudged old polygons right → length polygons ≤ many → AreKeptBefore old new right many next → AreKept old new
all_kept old new polygons right many next judged whole kept = record {
  place = kept.place;
  there = λ polygon it is_right.
      let marked = marked_right old polygons right polygon it judged is_right in
      kept.there polygon (omega (arith, marked.0)) marked.1;
  in_order = λ polygon other it its is_right its_right less.
      let marked = marked_right old polygons right polygon it judged is_right in
      let its_marked = marked_right old polygons right other its judged its_right in
      kept.in_order polygon other less (omega (arith, its_marked.0)) marked.1 its_marked.1;
}

-- a polygon that was found is the same one
pub found_is_same : (old : List (Vec Position Global)) (new : List (List Position)) (polygon : ℕ) (it : PolygonRings) (others : List (ℕ × ℕ)) (from place : ℕ) → IsPolygon (rings_of old) polygon it
    → IsFoundFrom (rings_of (slice_range old it.exterior it.after)) new others from place → IsSamePolygon (rings_of old) polygon new place
found_is_same old new polygon it others from place is_it found = record {
  polygon_rings = it;
  there = is_it;
  other_rings = found.polygon_rings;
  other_there = found.there;
  same = found.same ∙ part_read old it;
}
