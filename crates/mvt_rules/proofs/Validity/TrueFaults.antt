-- Faults that are true of bytes: none of a valid tile, nothing but wire faults of bytes that are no tile, and nothing of
-- polygons where a ring has a fault.
use Rattle.std.proofs.Common.{◌≡◌, ◌≢◌, inl, inr, ℕ, List, ℤ, refl, sym, ap, subst}
use Rattle.mvt_rules.specs.Parts.TrueFaults.{IsWireFault, wire}
use Rattle.mvt_fault.specs.Code.{ring_code}
use Rattle.mvt_fault.specs.declared.profile.Profile.{Profile}
use Rattle.mvt_fault.specs.declared.profile.Profile.TheVariants.{Polygon, Feature}
use Rattle.mvt_fault.specs.declared.fault.Fault.{Fault}
use Rattle.mvt_fault.specs.declared.fault.Fault.TheVariants.{Wire, Ring, Meeting}
use Rattle.mvt_fault.specs.declared.ring.RingCode.{RingCode}
use Rattle.mvt_fault.specs.declared.ring.RingEdge.{RingEdge}
use Rattle.mvt_rules.proofs.Rings.SamePolygons.{one_polygon, same_polygon}
use Rattle.mvt_rules.specs.Polygon.{PolygonRings, IsPolygon, IsRingOf}
use Rattle.mvt_plane.specs.Position.{Position}
use Rattle.mvt_rules.specs.Ring.{BreaksRings, ArePolygonRings}
use Rattle.mvt_rules.proofs.Tiles.Tiles.{tile_faultless}
use Rattle.mvt_wire.specs.Field.{cause_at}
use Rattle.mvt_rules.specs.Tile.{TileRecord, IsTile}
use Rattle.mvt_wire.specs.declared.cause.WireCode.{WireCode}
use Rattle.mvt_wire.specs.declared.scope.Scope.{Scope}
use Rattle.mvt_rules.proofs.Validity.InvalidRings.{not_sound}
use Rattle.mvt_rules.proofs.Validity.ShownParts.{BreaksOne, shown_by_parts}
use Rattle.mvt_rules.proofs.Validity.ValidParts.{parts_kept}
use Rattle.mvt_rules.proofs.Validity.TileFeatures.{of_this_tile, same_rings}
use Rattle.mvt_rules.specs.Shows.{OfRings, OfFeature, ShowsBy}
use Rattle.mvt_rules.specs.PolygonFault.{IsMeetingBy, IsVertexInPolygonBy}
use Rattle.mvt_rules.specs.Profiles.{IsInPolygonBy}
use Rattle.mvt_rules.specs.Valid.{ValidBy}

-- No fault of a valid tile

-- no wire fault is true of a tile
pub no_fault_of_tile : (bytes : List ℕ) (tile : TileRecord) (fault : Fault) → IsTile bytes tile → ¬ IsWireFault bytes fault
no_fault_of_tile bytes tile fault is (wire code scope at field broken) = tile_faultless bytes tile scope (cause_at code at field) is broken

-- so no fault is true of them
pub shown_is_invalid : (profile : Profile) (bytes : List ℕ) (fault : Fault) → ShowsBy profile bytes fault → ¬ ValidBy profile bytes
shown_is_invalid profile bytes fault shown valid = elim ((shown_by_parts profile bytes fault).0 shown) [
  | inl own ↦ no_fault_of_tile bytes valid.tile fault valid.is own
  | inr part ↦ parts_kept profile valid.tile fault valid.valid (of_this_tile bytes valid.tile (λ tile. BreaksOne profile tile fault) valid.is part)
]

-- Wire faults alone

-- bytes with a wire fault are no tile
pub wire_faults_alone : (profile : Profile) (bytes : List ℕ) (code : WireCode) (scope : Scope) (at field : ℕ) (fault : Fault) → ShowsBy profile bytes (Wire code scope at field) → ShowsBy profile bytes fault
    → (other : WireCode) × (its : Scope) × (place : ℕ) × (number : ℕ) × (fault ≡ Wire other its place number)
wire_faults_alone profile bytes code scope at field fault broken shown = elim ((shown_by_parts profile bytes fault).0 shown) [
  | inl is ↦ named fault is
  | inr part ↦ absurd (tile_faultless bytes part.0 scope (cause_at code at field) part.1 broken)
]
  where
    named : (it : Fault) → IsWireFault bytes it → (other : WireCode) × (its : Scope) × (place : ℕ) × (number : ℕ) × (it ≡ Wire other its place number)
    named _ (wire code scope at field broken) = (code, scope, at, field, refl)

-- Rings before polygons

-- where a ring has a fault, nothing is true that has a polygon of these rings
pub rings_before_polygons : (profile : Profile) (bytes : List ℕ) (code : RingCode) (layer feature ring : ℕ) (Holds : List (List Position) → Type 0)
    → ((rings : List (List Position)) → Holds rings → ArePolygonRings rings)
    → ShowsBy profile bytes (Ring code layer feature ring) → ¬ OfFeature bytes layer feature (λ layer_record it. OfRings it Holds)
rings_before_polygons profile bytes code layer feature ring Holds sound broken shown =
    let same = same_rings bytes layer feature Holds (λ rings. BreaksRings rings (ring_code code) ring) shown broken in
    not_sound broken.3.0 (ring_code code) ring broken.3.2 (subst ArePolygonRings same (sound shown.3.0 shown.3.2))

-- One polygon

-- two meetings of one feature that have a ring in common
pub one_polygon_of_ring : (profile : Profile) (bytes : List ℕ) (layer feature polygon other ring its_ring : ℕ) (first second its_first its_second : RingEdge) (x y w its_x its_y its_w : ℤ)
    → (one : ShowsBy profile bytes (Meeting layer feature polygon first second x y w)) → (another : ShowsBy profile bytes (Meeting layer feature other its_first its_second its_x its_y its_w))
    → IsRingOf one.3.2.polygon_rings ring → IsRingOf another.3.2.polygon_rings its_ring → ring ≡ its_ring → polygon ≡ other
one_polygon_of_ring profile bytes layer feature polygon other ring its_ring first second its_first its_second x y w its_x its_y its_w one another ring_in its_ring_in same =
    let rings = same_rings bytes layer feature (λ rings. IsMeetingBy profile rings polygon first second (record { x = x; y = y; w = w }))
    (λ rings. IsMeetingBy profile rings other its_first its_second (record { x = its_x; y = its_y; w = its_w })) one another in
    let moved : IsPolygon another.3.0 polygon one.3.2.polygon_rings = subst (λ (rings : List (List Position)). IsPolygon rings polygon one.3.2.polygon_rings) rings one.3.2.of.there in
    let both = one_polygon another.3.0 ring polygon other one.3.2.polygon_rings another.3.2.polygon_rings moved ring_in another.3.2.of.there (subst (IsRingOf another.3.2.polygon_rings) (sym same) its_ring_in) in
    both.0

-- Another polygon

-- what is inside a polygon by a profile is no vertex of its own exterior
inside_another : (profile : Profile) (rings : List (List Position)) (one other : PolygonRings) (vertex : ℕ) → IsInPolygonBy profile rings one other vertex → other.exterior ≢ one.exterior
inside_another Polygon rings one other vertex inside = absurd inside
inside_another Feature rings one other vertex inside = inside.different

-- so it is one of another polygon
pub another_polygon : (profile : Profile) (rings : List (List Position)) (polygon vertex other : ℕ) → IsVertexInPolygonBy profile rings polygon vertex other → polygon ≢ other
another_polygon profile rings polygon vertex other inside same =
    let there : IsPolygon rings other inside.polygon_rings = subst (λ (number : ℕ). IsPolygon rings number inside.polygon_rings) same inside.of.there in
    let one : inside.other_rings ≡ inside.polygon_rings = same_polygon rings other inside.other_rings inside.polygon_rings inside.other_there there in
    inside_another profile rings inside.polygon_rings inside.other_rings vertex inside.inside (ap (λ (it : PolygonRings). it.exterior) one)
