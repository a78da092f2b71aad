-- The polygons of any rings, listed one by one from the first exterior on.
use Rattle.std.proofs.Common.{◌≡◌, ℕ, suc, ◌<◌, ◌≤◌, ◌⊎◌, inl, inr, List, [], ◌∷◌, ◌++◌, length, slice_get, Some, sym, ◌∙◌, ap, subst, arith}
use Rattle.std.proofs.lemmas.Bool.{cases_lt}
use Rattle.std.proofs.lemmas.List.{length_push}
use Rattle.mvt_plane.specs.Position.{Position}
use Rattle.mvt_rules.specs.Polygon.{IsExterior, NoExterior, IsExteriorOf, first, next, PolygonRings, IsPolygon}
use Rattle.mvt_rules.proofs.Rings.SamePolygons.{exterior_of_polygon, one_polygon, polygon_begins_within}
use Rattle.mvt_polygon.specs.Polygons.{ArePolygons}
use Rattle.mvt_sweep.proofs.Chains.ChainParts.{in_longer}
use Rattle.mvt_polygon.proofs.PolygonList.{stays, is_last, IsListed}

-- The polygons of the rings before one are listed, and that one begins the next polygon, if there is one. The first
-- begins at a ring before which there is no exterior.
pub record AreListedFrom (rings : List (List Position)) (polygons : List (ℕ × ℕ)) (begin to : ℕ) : Type 0 where
  pub none : NoExterior rings 0 begin
  pub within : to ≤ length rings
  pub begins : (to ≡ length rings) ⊎ IsExteriorOf rings (length polygons) to
  pub only : (polygon exterior after : ℕ) → slice_get polygons polygon ≡ Some (exterior, after)
      → IsPolygon rings polygon (record { exterior = exterior; after = after })
  pub all : (ring : ℕ) → begin ≤ ring → ring < to → IsListed polygons ring

-- none are there before the first exterior
pub none_listed : (rings : List (List Position)) (begin : ℕ) → begin ≤ length rings → NoExterior rings 0 begin → (begin ≡ length rings) ⊎ IsExterior rings begin → AreListedFrom rings [] begin begin
none_listed rings begin within none there = record {
  none = none;
  within = within;
  begins = elim there [ inl last ↦ inl last | inr is_exterior ↦ inr (first begin is_exterior none) ];
  only = λ polygon exterior after there. absurd (cc);
  all = λ ring from before. absurd (omega arith);
}

-- the polygon that begins with the next ring
next_polygon : (rings : List (List Position)) (polygons : List (ℕ × ℕ)) (begin exterior after : ℕ) → AreListedFrom rings polygons begin exterior → exterior < length rings → exterior < after
    → NoExterior rings (suc exterior) after → (after ≡ length rings) ⊎ IsExterior rings after → IsPolygon rings (length polygons) (record { exterior = exterior; after = after })
next_polygon rings polygons begin exterior after listed some further holes ends = elim listed.begins [
  | inl last ↦ absurd (omega arith)
  | inr begins ↦ record { begins = begins; further = further; holes = holes; ends = ends }
]

-- the next exterior is that of the next polygon
next_begins : (rings : List (List Position)) (polygon exterior after : ℕ) → IsPolygon rings polygon (record { exterior = exterior; after = after }) → (after ≡ length rings) ⊎ IsExteriorOf rings (suc polygon) after
next_begins rings polygon exterior after it = elim it.ends [
  | inl last ↦ inl last
  | inr is_exterior ↦ inr (next polygon exterior after it.begins it.further is_exterior it.holes)
]

-- each number of the longer list has its polygon
only_longer : (rings : List (List Position)) (polygons : List (ℕ × ℕ)) (begin exterior after : ℕ) → AreListedFrom rings polygons begin exterior → IsPolygon rings (length polygons) (record { exterior = exterior; after = after })
    → (polygon its_exterior its_after : ℕ) → slice_get (polygons ++ (exterior, after) ∷ []) polygon ≡ Some (its_exterior, its_after)
    → IsPolygon rings polygon (record { exterior = its_exterior; after = its_after })
only_longer rings polygons begin exterior after listed it polygon its_exterior its_after there = elim (in_longer polygons (exterior, after) polygon (its_exterior, its_after) there) [
  | inl before ↦ listed.only polygon its_exterior its_after before
  | inr last ↦
      let as_rings : ℕ × ℕ → PolygonRings = λ pair. record { exterior = pair.0; after = pair.1 } in
      let numbered : IsPolygon rings polygon (record { exterior = exterior; after = after }) = subst (λ (number : ℕ). IsPolygon rings number (record { exterior = exterior; after = after })) (sym last.0) it in
      subst (IsPolygon rings polygon) (ap as_rings last.1) numbered
]

-- each ring before the next exterior is in the longer list
all_longer : (polygons : List (ℕ × ℕ)) (begin exterior after : ℕ) → ((ring : ℕ) → begin ≤ ring → ring < exterior → IsListed polygons ring)
    → (ring : ℕ) → begin ≤ ring → ring < after → IsListed (polygons ++ (exterior, after) ∷ []) ring
all_longer polygons begin exterior after all ring from before = elim (cases_lt ring exterior) [
  | inl earlier ↦
      let old = all ring from earlier in
      record { polygon = old.polygon; exterior = old.exterior; after = old.after; there = stays polygons (exterior, after) old.polygon (old.exterior, old.after) old.there; from = old.from; before = old.before }
  | inr later ↦ record { polygon = length polygons; exterior = exterior; after = after; there = is_last polygons (exterior, after); from = later; before = before }
]

-- so the list goes on
pub more_listed : (rings : List (List Position)) (polygons longer : List (ℕ × ℕ)) (begin exterior after : ℕ) → longer ≡ polygons ++ (exterior, after) ∷ [] → AreListedFrom rings polygons begin exterior → exterior < length rings
    → exterior < after → after ≤ length rings → NoExterior rings (suc exterior) after → (after ≡ length rings) ⊎ IsExterior rings after → AreListedFrom rings longer begin after
more_listed rings polygons longer begin exterior after is listed some further within holes ends =
    let it = next_polygon rings polygons begin exterior after listed some further holes ends in
    let count : suc (length polygons) ≡ length (polygons ++ (exterior, after) ∷ []) = omega (arith, length_push polygons (exterior, after)) in
    subst (λ (list : List (ℕ × ℕ)). AreListedFrom rings list begin after) (sym is) (record {
      none = listed.none;
      within = within;
      begins = elim (next_begins rings (length polygons) exterior after it) [ inl last ↦ inl last | inr begins ↦ inr (subst (λ (number : ℕ). IsExteriorOf rings number after) count begins) ];
      only = only_longer rings polygons begin exterior after listed it;
      all = all_longer polygons begin exterior after listed.all;
    })

-- where a ring of a polygon is listed, so is the polygon
of_listed : (rings : List (List Position)) (polygons : List (ℕ × ℕ)) (begin to polygon : ℕ) (it : PolygonRings) → AreListedFrom rings polygons begin to → IsPolygon rings polygon it → IsListed polygons it.exterior
    → slice_get polygons polygon ≡ Some (it.exterior, it.after)
of_listed rings polygons begin to polygon it listed is_it home =
    let its : PolygonRings = record { exterior = home.exterior; after = home.after } in
    let same = one_polygon rings it.exterior polygon home.polygon it its is_it (record { from = omega arith; before = is_it.further }) (listed.only home.polygon home.exterior home.after home.there) (record { from = home.from; before = home.before }) in
    ap (slice_get polygons) same.0 ∙ home.there ∙ sym (ap (λ (rings : PolygonRings). Some (rings.exterior, rings.after)) same.1)

-- an exterior isn't before the first one
not_before : (rings : List (List Position)) (begin exterior : ℕ) → NoExterior rings 0 begin → IsExterior rings exterior → begin ≤ exterior
not_before rings begin exterior none there = elim (cases_lt exterior begin) [
  | inl earlier ↦ absurd (none exterior (omega arith) earlier there)
  | inr later ↦ later
]

-- after the last ring all are listed
pub all_listed : (rings : List (List Position)) (polygons : List (ℕ × ℕ)) (begin to : ℕ) → AreListedFrom rings polygons begin to → length rings ≤ to → ArePolygons rings polygons
all_listed rings polygons begin to listed past = record {
  all = λ polygon it is_it.
      let there : it.exterior < length rings = polygon_begins_within rings polygon it.exterior is_it.begins in
      let from : begin ≤ it.exterior = not_before rings begin it.exterior listed.none (exterior_of_polygon rings polygon it.exterior is_it.begins) in
      of_listed rings polygons begin to polygon it listed is_it (listed.all it.exterior from (omega arith));
  only = listed.only;
}
