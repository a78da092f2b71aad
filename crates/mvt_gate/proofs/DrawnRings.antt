-- Rings that numbers spell have three vertices or more, and none at the position of the next one.
use Rattle.std.proofs.Common.{◌≡◌, ◌≢◌, ℕ, zero, suc, ◌-◌, ◌≤◌, inl, inr, List, [], ◌∷◌, length, slice_get, Some, sym, ◌∙◌, ap, subst, arith}
use Rattle.std.proofs.lemmas.Bool.{cases_eq}
use Rattle.mvt_plane.specs.Commands.Figure.{cursor, AreApart, IsPath, ArePaths}
use Rattle.mvt_plane.specs.FeatureGeometry.{HasRings}
use Rattle.mvt_plane.specs.Position.{Position, origin}
use Rattle.mvt_sweep.specs.Rings.{AreProperRings}
use Rattle.mvt_rules.specs.Ring.{ArePolygonRings}
use Rattle.mvt_plane.proofs.Rings.RingEdges.{round_last, round_next}

-- no position is that of the next one
apart_at : (from : Position) (rest : List Position) (vertex : ℕ) (position next : Position) → AreApart from rest → slice_get (from ∷ rest) vertex ≡ Some position → slice_get rest vertex ≡ Some next → position ≢ next
apart_at from [] vertex position next apart here there = absurd (cc)
apart_at from (to ∷ rest) zero position next apart here there = λ same. apart.0 (cc)
apart_at from (to ∷ rest) (suc vertex) position next apart here there = apart_at to rest vertex position next apart.1 here there

-- the ring of a number is drawn from some position
ring_at : (from : Position) (parts : List (List Position)) (number : ℕ) (ring : List Position) → ArePaths 2 from parts → slice_get parts number ≡ Some ring → (start : Position) × IsPath 2 start ring
ring_at from [] number ring paths there = absurd (cc)
ring_at from (part ∷ rest) zero ring paths there =
    let same : part ≡ ring = cc in
    (from, subst (IsPath 2 from) same paths.0)
ring_at from (part ∷ rest) (suc number) ring paths there = ring_at (cursor from part) rest number ring paths.1 there

-- it has three vertices or more
several : (start : Position) (ring : List Position) → IsPath 2 start ring → 3 ≤ length ring
several start [] path = absurd path
several start (first ∷ rest) path =
    let most : 2 ≤ length rest = path.3 in
    omega arith

-- and none but the last is at the position of the next one
apart_in_ring : (start : Position) (ring : List Position) (vertex : ℕ) (position next : Position) → IsPath 2 start ring → slice_get ring vertex ≡ Some position → slice_get ring (suc vertex) ≡ Some next → position ≢ next
apart_in_ring start [] vertex position next path here there = absurd path
apart_in_ring start (first ∷ rest) vertex position next path here there = apart_at first rest vertex position next path.2 here there

-- drawn rings of which none ends where it begins
pub rings_are_drawn : (kind : ℕ) (numbers : List ℕ) (parts : List (List Position)) → HasRings kind numbers parts → ArePolygonRings parts → AreProperRings parts
rings_are_drawn kind numbers parts has sound = record {
  several = λ number ring there. let path = ring_at origin parts number ring has.spelled.able.0 there in several path.0 ring path.1;
  apart = λ number vertex ring position next there here following same. elim (cases_eq (suc vertex) (length ring)) [
    | inl last ↦
        let at_end : slice_get ring (length ring - 1) ≡ Some position = ap (slice_get ring) (omega arith) ∙ here in
        let at_beginning : slice_get ring 0 ≡ Some position = ap (slice_get ring) (sym (round_last (length ring) vertex last)) ∙ (following ∙ ap Some (sym same)) in
        sound.open_ends number (record { ring = ring; there = there; position = position; first = at_beginning; last = at_end })
    | inr other ↦
        let path = ring_at origin parts number ring has.spelled.able.0 there in
        let after_it : slice_get ring (suc vertex) ≡ Some next = ap (slice_get ring) (sym (round_next (length ring) vertex other)) ∙ following in
        apart_in_ring path.0 ring vertex position next path.1 here after_it same
  ];
}
