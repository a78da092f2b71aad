-- Of the faults of one feature's geometry, the first: a fault of its commands, or of its rings.
use Rattle.std.proofs.Common.{◌≡◌, ℕ, ◌<◌, ◌≤◌, ◌⊎◌, inl, inr, List, [], ◌∷◌, refl, sym, ◌∙◌, subst, arith}
use Rattle.std.proofs.lemmas.Bool.{cases_lt}
use Rattle.mvt_rules.proofs.Validity.TileFeatures.{one_list_of_rings}
use Rattle.mvt_rules.specs.Shows.{OfRings}
use Rattle.mvt_rules.specs.Parts.Geometry.{IsFaultOfGeometryBy, command, ring, meeting, outside, hole_in_hole, in_polygon}
use Rattle.mvt_fault.proofs.Places.{ComesFirst-reflexive}
use Rattle.mvt_fault.specs.Code.{command_code, ring_code}
use Rattle.mvt_fault.specs.Place.{place_of, ComesFirst, IsLeast}
use Rattle.mvt_fault.specs.declared.command.CommandCode.{CommandCode}
use Rattle.mvt_fault.specs.declared.fault.Fault.{Fault}
use Rattle.mvt_fault.specs.declared.fault.Fault.TheVariants.{Command, Ring}
use Rattle.mvt_fault.specs.declared.profile.Profile.{Profile}
use Rattle.mvt_plane.proofs.Spelling.CommandFaults.{one_command_fault}
use Rattle.mvt_plane.specs.Commands.CommandFault.{HasCommandFault}
use Rattle.mvt_plane.specs.Commands.Figure.{GeometryType, polygon, rings}
use Rattle.mvt_plane.specs.FeatureGeometry.{BreaksCommands, HasRings}
use Rattle.mvt_plane.specs.Position.{Position}
use Rattle.mvt_polygon.specs.RingFault.{IsFirstRingFault}
use Rattle.mvt_rules.specs.Ring.{BreaksRings}
use Rattle.mvt_polygon.specs.declared.rings.RingFault.{RingFault}
use Rattle.mvt_rules.specs.Tile.{FeatureRecord}
use Rattle.mvt_plane.proofs.Spelling.Geometries.{one_type}

-- A feature and its rings

-- what is true of its rings is true of these
pub of_these : (it : FeatureRecord) (parts : List (List Position)) (Holds : List (List Position) → Type 0) → HasRings it.kind it.geometry parts → OfRings it Holds → Holds parts
of_these it parts Holds has of = subst Holds (one_list_of_rings it of.0 parts of.1 has) of.2

-- a feature that has rings has no fault of commands
pub no_command_fault : (it : FeatureRecord) (parts : List (List Position)) (code index : ℕ) → HasRings it.kind it.geometry parts → ¬ BreaksCommands it.kind it.geometry code index
no_command_fault it parts code index has bad =
    let same : bad.0 ≡ polygon = one_type bad.0 polygon (sym bad.1 ∙ has.typed) in
    let fault : HasCommandFault polygon it.geometry code index = subst (λ (geometry_type : GeometryType). HasCommandFault geometry_type it.geometry code index) same bad.2 in
    fault.unspelled (rings parts) has.spelled

-- Commands

-- numbers have one command fault
one_fault : (kind : ℕ) (numbers : List ℕ) (code other index place : ℕ) → BreaksCommands kind numbers code index → BreaksCommands kind numbers other place → (code ≡ other) × (index ≡ place)
one_fault kind numbers code other index place bad its =
    let same : its.0 ≡ bad.0 = one_type its.0 bad.0 (sym its.1 ∙ bad.1) in
    one_command_fault bad.0 numbers code other index place bad.2
    (subst (λ (geometry_type : GeometryType). HasCommandFault geometry_type numbers other place) same its.2)

-- so it comes before all other faults that a feature may have
before_commands : (profile : Profile) (it : FeatureRecord) (layer feature : ℕ) (code : CommandCode) (index : ℕ) (other : Fault) → BreaksCommands it.kind it.geometry (command_code code) index → IsFaultOfGeometryBy profile it layer feature other
    → ComesFirst (place_of (Command code layer feature index)) (place_of other)
before_commands profile it layer feature code index other bad (command its_code place its) =
    let same = one_fault it.kind it.geometry (command_code code) (command_code its_code) index place bad its in
    inr (refl, inr (refl, inr (refl, inr (refl, inr (same.1, inr (same.0, ComesFirst-reflexive (0 ∷ 0 ∷ 0 ∷ 0 ∷ [])))))))
before_commands profile it layer feature code index other bad (ring its_code number of) = inr (refl, inr (refl, inr (refl, inl (omega arith))))
before_commands profile it layer feature code index other bad (meeting number first second x y w of) = inr (refl, inr (refl, inr (refl, inl (omega arith))))
before_commands profile it layer feature code index other bad (outside number hole vertex of) = inr (refl, inr (refl, inr (refl, inl (omega arith))))
before_commands profile it layer feature code index other bad (hole_in_hole number hole vertex another of) = inr (refl, inr (refl, inr (refl, inl (omega arith))))
before_commands profile it layer feature code index other bad (in_polygon number vertex another of) = inr (refl, inr (refl, inr (refl, inl (omega arith))))

-- a fault of commands is the first of its feature's geometry
pub command_is_least : (profile : Profile) (it : FeatureRecord) (layer feature : ℕ) (code : CommandCode) (index : ℕ) → BreaksCommands it.kind it.geometry (command_code code) index
    → IsLeast (IsFaultOfGeometryBy profile it layer feature) (Command code layer feature index)
command_is_least profile it layer feature code index bad = record {
  holds = command code index bad;
  least = λ other broken. before_commands profile it layer feature code index other bad broken;
}

-- Rings

-- by ring, and then by code
by_ring : (number code place other : ℕ) → (number < place) ⊎ ((number ≡ place) × (code ≤ other)) → ComesFirst (number ∷ code ∷ 0 ∷ 0 ∷ 0 ∷ 0 ∷ []) (place ∷ other ∷ 0 ∷ 0 ∷ 0 ∷ 0 ∷ [])
by_ring number code place other (inl less) = inl less
by_ring number code place other (inr same) = elim (cases_lt code other) [
  | inl less ↦ inr (same.0, inl less)
  | inr more ↦ inr (same.0, inr (omega arith, ComesFirst-reflexive (0 ∷ 0 ∷ 0 ∷ 0 ∷ [])))
]

-- the first ring with a fault of its own comes before all other faults of its feature
before_rings : (profile : Profile) (it : FeatureRecord) (layer feature : ℕ) (parts : List (List Position)) (found : RingFault) (other : Fault) → HasRings it.kind it.geometry parts → IsFirstRingFault parts found → IsFaultOfGeometryBy profile it layer feature other
    → ComesFirst (place_of (Ring found.code layer feature found.ring)) (place_of other)
before_rings profile it layer feature parts found other has least (command its_code place its) = absurd (no_command_fault it parts (command_code its_code) place has its)
before_rings profile it layer feature parts found other has least (ring its_code number of) =
    let first = least.first (ring_code its_code) number (of_these it parts (λ those. BreaksRings those (ring_code its_code) number) has of) in
    inr (refl, inr (refl, inr (refl, inr (refl, by_ring found.ring (ring_code found.code) number (ring_code its_code) first))))
before_rings profile it layer feature parts found other has least (meeting number first second x y w of) = inr (refl, inr (refl, inr (refl, inl (omega arith))))
before_rings profile it layer feature parts found other has least (outside number hole vertex of) = inr (refl, inr (refl, inr (refl, inl (omega arith))))
before_rings profile it layer feature parts found other has least (hole_in_hole number hole vertex another of) = inr (refl, inr (refl, inr (refl, inl (omega arith))))
before_rings profile it layer feature parts found other has least (in_polygon number vertex another of) = inr (refl, inr (refl, inr (refl, inl (omega arith))))

-- it is the first fault of the feature's geometry
pub ring_is_least : (profile : Profile) (it : FeatureRecord) (layer feature : ℕ) (parts : List (List Position)) (found : RingFault) → HasRings it.kind it.geometry parts → IsFirstRingFault parts found
    → IsLeast (IsFaultOfGeometryBy profile it layer feature) (Ring found.code layer feature found.ring)
ring_is_least profile it layer feature parts found has least = record {
  holds = ring found.code found.ring (parts, has, least.broken);
  least = λ other broken. before_rings profile it layer feature parts found other has least broken;
}
