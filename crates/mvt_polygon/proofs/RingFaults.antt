-- Faults that rings have of their own, ring by ring.
use Rattle.std.proofs.Common.{ℕ, ◌<◌, inl, inr, List, length, refl, sym, subst}
use Rattle.std.proofs.lemmas.Bool.{cases_order}
use Rattle.std.proofs.lemmas.Option.{slice_get_within}
use Rattle.mvt_fault.specs.declared.ring.RingCode.{RingCode}
use Rattle.mvt_plane.specs.Position.{Position}
use Rattle.mvt_rules.specs.Ring.{BreaksRings, ends_at_its_beginning, no_area, begins_with_hole, ArePolygonRings}
use Rattle.mvt_polygon.specs.Calls.Rings.{IsLeastCode}
use Rattle.mvt_polygon.specs.RingFault.{IsFirstRingFault}

-- rings of which none has a fault are those of polygons
pub no_fault : (rings : List (List Position)) → ((ring : ℕ) → ring < length rings → (code : ℕ) → ¬ BreaksRings rings code ring) → ArePolygonRings rings
no_fault rings none = record {
  open_ends = λ ring ends. none ring (slice_get_within rings ring ends.ring ends.there) 501 (ends_at_its_beginning refl ends);
  areas = λ ring flat. none ring (slice_get_within rings ring flat.ring flat.there) 502 (no_area refl flat);
  exterior_first = λ ring hole. none ring (slice_get_within rings ring hole.ring hole.there) 503 (begins_with_hole refl hole);
}

-- the first ring with a fault has the first of all faults
pub first_fault : (rings : List (List Position)) (code : RingCode) (ring : ℕ) → ((before : ℕ) → before < ring → (code : ℕ) → ¬ BreaksRings rings code before) → IsLeastCode rings ring code → IsFirstRingFault rings (record { code = code; ring = ring })
first_fault rings code ring none least = record {
  broken = least.broken;
  first = λ other_code other broken. elim (cases_order ring other) [
    | inl same ↦ inr (same, least.least other_code (subst (BreaksRings rings other_code) (sym same) broken))
    | inr (inl less) ↦ inl less
    | inr (inr more) ↦ absurd (none other more other_code broken)
  ];
}
