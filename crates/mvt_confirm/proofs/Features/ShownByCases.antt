-- A test of the tile that bytes are, or of a feature of it, is a test of a fault of the bytes.
use Rattle.std.proofs.Common.{◌≡◌, ◌↔◌, ◌⊎◌, inl, inr, ℕ, ℤ, Bool, IsTrue, false, List, refl, sym, subst}
use Rattle.mvt_fault.specs.Calls.Place.{IsOfPolygon}
use Rattle.mvt_fault.specs.declared.profile.Profile.{Profile}
use Rattle.mvt_fault.specs.declared.fault.Fault.{Fault}
use Rattle.mvt_fault.specs.declared.fault.Fault.TheVariants.{Wire, Meeting, Outside, HoleInHole, InPolygon}
use Rattle.mvt_fault.specs.declared.ring.RingEdge.{RingEdge}
use Rattle.mvt_rules.proofs.Tiles.Tiles.{tile_faultless, tile_or_fault}
use Rattle.mvt_wire.specs.Field.{cause_at}
use Rattle.mvt_rules.specs.Tile.{TileRecord, IsTile}
use Rattle.mvt_wire.specs.declared.cause.WireCode.{WireCode}
use Rattle.mvt_wire.specs.declared.scope.Scope.{Scope}
use Rattle.mvt_rules.proofs.Validity.TrueFaults.{wire_faults_alone}
use Rattle.mvt_rules.proofs.Validity.TileFeatures.{of_this_tile}
use Rattle.mvt_confirm.specs.Calls.HoleFault.{IsOfHole, outside, hole_in_hole}
use Rattle.mvt_rules.specs.Shows.{OfTile, ShowsBy}

-- a claim with the fact that the fault is one of a polygon
pub with_polygon : {Found Is Told : Type 0} → Is → (Found ↔ Told) → Found ↔ Is × Told
with_polygon is decides = (λ holds. (is, decides.0 holds), λ both. decides.1 both.1)

-- where the fault is one of a polygon, the test decides whether it is true
pub of_polygon : (profile : Profile) (bytes : List ℕ) (test : Bool) (fault : Fault) → IsOfPolygon fault → (IsTrue test ↔ IsOfPolygon fault × ShowsBy profile bytes fault)
    → IsTrue test ↔ ShowsBy profile bytes fault
of_polygon profile bytes test fault is_polygon decides = (λ holds. let both = decides.0 holds in both.1, λ shown. decides.1 (is_polygon, shown))

-- the faults of polygons, one by one
abbrev IsOneOfPolygon : Fault → Type 0
IsOneOfPolygon fault =
    ((layer feature polygon : ℕ) × (first second : RingEdge) × (x y w : ℤ) × (fault ≡ Meeting layer feature polygon first second x y w))
    ⊎ (((layer feature polygon ring vertex : ℕ) × (fault ≡ Outside layer feature polygon ring vertex))
    ⊎ (((layer feature polygon ring vertex other : ℕ) × (fault ≡ HoleInHole layer feature polygon ring vertex other))
    ⊎ ((layer feature polygon vertex other : ℕ) × (fault ≡ InPolygon layer feature polygon vertex other))))

-- each of them is one of a polygon
pub any_of_polygon : (fault : Fault) → IsOneOfPolygon fault → IsOfPolygon fault
any_of_polygon fault (inl is) = subst IsOfPolygon (sym is.8) tt
any_of_polygon fault (inr (inl is)) = subst IsOfPolygon (sym is.5) tt
any_of_polygon fault (inr (inr (inl is))) = subst IsOfPolygon (sym is.6) tt
any_of_polygon fault (inr (inr (inr is))) = subst IsOfPolygon (sym is.5) tt

-- Faults of holes

-- are faults of polygons
pub hole_of_polygon : (fault : Fault) → IsOfHole fault → IsOfPolygon fault
hole_of_polygon _ (outside layer feature polygon ring vertex) = tt
hole_of_polygon _ (hole_in_hole layer feature polygon ring vertex other) = tt

-- are those that are no meetings, and of no vertex in a polygon
pub others_of_hole : (fault : Fault)
    → ((layer feature polygon : ℕ) (first second : RingEdge) (x y w : ℤ) → fault ≡ Meeting layer feature polygon first second x y w → ⊥)
    → ((layer feature polygon vertex other : ℕ) → fault ≡ InPolygon layer feature polygon vertex other → ⊥) → IsOfPolygon fault → IsOfHole fault
others_of_hole (Meeting layer feature polygon first second x y w) meeting in_polygon is = absurd (meeting layer feature polygon first second x y w refl)
others_of_hole (InPolygon layer feature polygon vertex other) meeting in_polygon is = absurd (in_polygon layer feature polygon vertex other refl)
others_of_hole (Outside layer feature polygon ring vertex) meeting in_polygon is = outside layer feature polygon ring vertex
others_of_hole (HoleInHole layer feature polygon ring vertex other) meeting in_polygon is = hole_in_hole layer feature polygon ring vertex other
others_of_hole fault meeting in_polygon is = absurd is

-- so a test of a hole's fault is one of a polygon's
pub by_hole : {Found Told : Type 0} (fault : Fault)
    → ((layer feature polygon : ℕ) (first second : RingEdge) (x y w : ℤ) → fault ≡ Meeting layer feature polygon first second x y w → ⊥)
    → ((layer feature polygon vertex other : ℕ) → fault ≡ InPolygon layer feature polygon vertex other → ⊥) → Found ↔ IsOfHole fault × Told → Found ↔ IsOfPolygon fault × Told
by_hole fault meeting in_polygon decides = (
  λ holds. let both = decides.0 holds in (hole_of_polygon fault both.0, both.1),
  λ both. decides.1 (others_of_hole fault meeting in_polygon both.0, both.1),
)

-- and there are no others
pub not_of_hole : (fault : Fault) → ((layer feature polygon ring vertex : ℕ) → fault ≡ Outside layer feature polygon ring vertex → ⊥)
    → ((layer feature polygon ring vertex other : ℕ) → fault ≡ HoleInHole layer feature polygon ring vertex other → ⊥) → ¬ IsOfHole fault
not_of_hole _ none none_in_hole (outside layer feature polygon ring vertex) = none layer feature polygon ring vertex refl
not_of_hole _ none none_in_hole (hole_in_hole layer feature polygon ring vertex other) = none_in_hole layer feature polygon ring vertex other refl

-- The tile, and its features

module _ (bytes : List ℕ) (tile : TileRecord) (is : IsTile bytes tile) where
  -- of the tile
  pub of_tile : (test : Bool) (Holds : TileRecord → Type 0) → (IsTrue test ↔ Holds tile) → IsTrue test ↔ OfTile bytes Holds
  of_tile test Holds decides = (λ holds. (tile, is, decides.0 holds), λ shown. decides.1 (of_this_tile bytes tile Holds is shown))

  -- it has no wire fault
  pub no_wire : (profile : Profile) (code : WireCode) (scope : Scope) (at field : ℕ) → IsTrue false ↔ ShowsBy profile bytes (Wire code scope at field)
  no_wire profile code scope at field = (λ holds. absurd (cc holds), λ shown. absurd (tile_faultless bytes tile scope (cause_at code at field) is shown))

-- bytes that are no tile have no fault but wire faults
pub no_tile : (profile : Profile) (bytes : List ℕ) (fault : Fault) → ((tile : TileRecord) → ¬ IsTile bytes tile)
    → ((code : WireCode) (scope : Scope) (at field : ℕ) → fault ≡ Wire code scope at field → ⊥) → ¬ ShowsBy profile bytes fault
no_tile profile bytes fault none other shown = elim (tile_or_fault bytes) [
  | inl tile ↦ none tile.0 tile.1
  | inr bad ↦
      let cause = bad.1 in
      let wire = wire_faults_alone profile bytes cause.code bad.0 cause.at cause.field fault bad.2 shown in
      other wire.0 wire.1 wire.2 wire.3 wire.4
]
