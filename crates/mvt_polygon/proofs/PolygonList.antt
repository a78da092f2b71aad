-- The polygons of a feature, listed one by one.
use Rattle.std.proofs.Common.{◌≡◌, ℕ, zero, suc, ◌<◌, ◌≤◌, ◌⊎◌, ◌↔◌, inl, inr, List, [], ◌∷◌, ◌++◌, length, slice_get, Some, pos, ◌<ℤ◌, refl, sym, ◌∙◌, ap, subst, arith}
use Rattle.std.proofs.lemmas.Bool.{cases_lt}
use Rattle.std.proofs.lemmas.List.{length_push}
use Rattle.mvt_plane.specs.Position.{Position}
use Rattle.mvt_plane.specs.Geometry.Ring.{doubled_area}
use Rattle.mvt_rules.specs.Ring.{ArePolygonRings}
use Rattle.mvt_rules.specs.Polygon.{IsExterior, NoExterior, IsExteriorOf, next, PolygonRings, IsPolygon}
use Rattle.mvt_rules.proofs.Rings.SamePolygons.{first_begins, one_polygon, polygon_begins_within}
use Rattle.mvt_polygon.specs.Polygons.{ArePolygons}
use Rattle.mvt_sweep.proofs.Chains.ChainParts.{in_longer}

-- Lists

-- what was there stays
pub stays : {X : Type 0} (xs : List X) (y : X) (i : ℕ) (z : X) → slice_get xs i ≡ Some z → slice_get (xs ++ y ∷ []) i ≡ Some z
stays [] y i z here = absurd (cc)
stays (x ∷ xs) y zero z here = here
stays (x ∷ xs) y (suc i) z here = stays xs y i z here

-- the new one is the last
pub is_last : {X : Type 0} (xs : List X) (y : X) → slice_get (xs ++ y ∷ []) (length xs) ≡ Some y
is_last [] y = refl
is_last (x ∷ xs) y = is_last xs y

-- Exteriors

-- a ring of positive area is one, and no other
pub is_exterior : (rings : List (List Position)) (ring : ℕ) (vertices : List Position) → slice_get rings ring ≡ Some vertices → pos 0 <ℤ doubled_area vertices ↔ IsExterior rings ring
is_exterior rings ring vertices there = (
  λ positive. record { ring = vertices; there = there; positive = positive },
  λ exterior.
      let both : Some vertices ≡ Some exterior.ring = sym there ∙ exterior.there in
      let same : vertices ≡ exterior.ring = cc both in
      subst (λ (ring : List Position). pos 0 <ℤ doubled_area ring) (sym same) exterior.positive,
)

-- the next exterior is that of the next polygon
next_begins : (rings : List (List Position)) (polygon exterior after : ℕ) → IsPolygon rings polygon (record { exterior = exterior; after = after }) → (after ≡ length rings) ⊎ IsExteriorOf rings (suc polygon) after
next_begins rings polygon exterior after it = elim it.ends [
  | inl last ↦ inl last
  | inr is_exterior ↦ inr (next polygon exterior after it.begins it.further is_exterior it.holes)
]

-- Lists of polygons

-- a polygon of the list has the ring
pub record IsListed (polygons : List (ℕ × ℕ)) (ring : ℕ) : Type 0 where
  pub polygon : ℕ
  pub exterior : ℕ
  pub after : ℕ
  pub there : slice_get polygons polygon ≡ Some (exterior, after)
  pub from : exterior ≤ ring
  pub before : ring < after

-- The polygons of the rings before one are listed, and that one begins the next polygon, if there is one
pub record AreListed (rings : List (List Position)) (polygons : List (ℕ × ℕ)) (to : ℕ) : Type 0 where
  pub within : to ≤ length rings
  pub begins : (to ≡ length rings) ⊎ IsExteriorOf rings (length polygons) to
  pub only : (polygon exterior after : ℕ) → slice_get polygons polygon ≡ Some (exterior, after)
      → IsPolygon rings polygon (record { exterior = exterior; after = after })
  pub all : (ring : ℕ) → ring < to → IsListed polygons ring

-- there are none before the first ring
pub none_listed : (rings : List (List Position)) → ArePolygonRings rings → AreListed rings [] 0
none_listed rings able = record {
  within = omega arith;
  begins = elim (cases_lt 0 (length rings)) [ inl some ↦ inr (first_begins rings able some) | inr none ↦ inl (omega arith) ];
  only = λ polygon exterior after there. absurd (cc);
  all = λ ring before. absurd (omega arith);
}

-- the polygon that begins with the next ring
next_polygon : (rings : List (List Position)) (polygons : List (ℕ × ℕ)) (exterior after : ℕ) → AreListed rings polygons exterior → exterior < length rings → exterior < after → NoExterior rings (suc exterior) after → (after ≡ length rings) ⊎ IsExterior rings after → IsPolygon rings (length polygons) (record { exterior = exterior; after = after })
next_polygon rings polygons exterior after listed some further holes ends = elim listed.begins [
  | inl last ↦ absurd (omega arith)
  | inr begins ↦ record { begins = begins; further = further; holes = holes; ends = ends }
]

-- each number of the longer list has its polygon
only_longer : (rings : List (List Position)) (polygons : List (ℕ × ℕ)) (exterior after : ℕ) → AreListed rings polygons exterior → IsPolygon rings (length polygons) (record { exterior = exterior; after = after }) → (polygon its_exterior its_after : ℕ) → slice_get (polygons ++ (exterior, after) ∷ []) polygon ≡ Some (its_exterior, its_after) → IsPolygon rings polygon (record { exterior = its_exterior; after = its_after })
only_longer rings polygons exterior after listed it polygon its_exterior its_after there = elim (in_longer polygons (exterior, after) polygon (its_exterior, its_after) there) [
  | inl before ↦ listed.only polygon its_exterior its_after before
  | inr last ↦
      let as_rings : ℕ × ℕ → PolygonRings = λ pair. record { exterior = pair.0; after = pair.1 } in
      let numbered : IsPolygon rings polygon (record { exterior = exterior; after = after }) = subst (λ (number : ℕ). IsPolygon rings number (record { exterior = exterior; after = after })) (sym last.0) it in
      subst (IsPolygon rings polygon) (ap as_rings last.1) numbered
]

-- each ring before the next exterior is in the longer list
all_longer : (polygons : List (ℕ × ℕ)) (exterior after : ℕ) → ((ring : ℕ) → ring < exterior → IsListed polygons ring) → (ring : ℕ) → ring < after → IsListed (polygons ++ (exterior, after) ∷ []) ring
all_longer polygons exterior after all ring before = elim (cases_lt ring exterior) [
  | inl earlier ↦
      let old = all ring earlier in
      record { polygon = old.polygon; exterior = old.exterior; after = old.after; there = stays polygons (exterior, after) old.polygon (old.exterior, old.after) old.there; from = old.from; before = old.before }
  | inr later ↦ record { polygon = length polygons; exterior = exterior; after = after; there = is_last polygons (exterior, after); from = later; before = before }
]

-- so the list goes on
pub more_listed : (rings : List (List Position)) (polygons : List (ℕ × ℕ)) (exterior after : ℕ) → AreListed rings polygons exterior → exterior < length rings → exterior < after → after ≤ length rings → NoExterior rings (suc exterior) after → (after ≡ length rings) ⊎ IsExterior rings after → AreListed rings (polygons ++ (exterior, after) ∷ []) after
more_listed rings polygons exterior after listed some further within holes ends =
    let it = next_polygon rings polygons exterior after listed some further holes ends in
    let count : suc (length polygons) ≡ length (polygons ++ (exterior, after) ∷ []) = omega (arith, length_push polygons (exterior, after)) in
    record {
      within = within;
      begins = elim (next_begins rings (length polygons) exterior after it) [ inl last ↦ inl last | inr begins ↦ inr (subst (λ (number : ℕ). IsExteriorOf rings number after) count begins) ];
      only = only_longer rings polygons exterior after listed it;
      all = all_longer polygons exterior after listed.all;
    }

-- where a ring of a polygon is listed, so is the polygon
of_listed : (rings : List (List Position)) (polygons : List (ℕ × ℕ)) (to polygon : ℕ) (it : PolygonRings) → AreListed rings polygons to → IsPolygon rings polygon it → IsListed polygons it.exterior → slice_get polygons polygon ≡ Some (it.exterior, it.after)
of_listed rings polygons to polygon it listed is_it home =
    let its : PolygonRings = record { exterior = home.exterior; after = home.after } in
    let same = one_polygon rings it.exterior polygon home.polygon it its is_it (record { from = omega arith; before = is_it.further }) (listed.only home.polygon home.exterior home.after home.there) (record { from = home.from; before = home.before }) in
    ap (slice_get polygons) same.0 ∙ home.there ∙ sym (ap (λ (rings : PolygonRings). Some (rings.exterior, rings.after)) same.1)

-- after the last ring all are listed
pub all_listed : (rings : List (List Position)) (polygons : List (ℕ × ℕ)) (to : ℕ) → AreListed rings polygons to → length rings ≤ to → ArePolygons rings polygons
all_listed rings polygons to listed past = record {
  all = λ polygon it is_it.
      let there : it.exterior < length rings = polygon_begins_within rings polygon it.exterior is_it.begins in
      of_listed rings polygons to polygon it listed is_it (listed.all it.exterior (omega arith));
  only = listed.only;
}
