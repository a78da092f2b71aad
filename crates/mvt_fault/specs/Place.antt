-- The order of faults: each has a place of ten numbers, and places are compared as words in a dictionary are.
use Rattle.std.specs.Prelude.{◌≡◌, ℕ, ◌<◌, ◌⊎◌, List, ℤ, [], ◌∷◌, ◌++◌}
use Rattle.mvt_wire.specs.Code.{code_of}
use Rattle.mvt_wire.specs.declared.scope.Scope.{Scope}
use Rattle.mvt_wire.specs.declared.scope.Scope.TheVariants.{Tile, Layer, Value, Feature}
use Rattle.mvt_fault.specs.declared.fault.Fault.{Fault}
use Rattle.mvt_fault.specs.declared.fault.Fault.TheVariants.{Wire, Version, Name, Tag, Command, Ring, Meeting, Outside, HoleInHole, InPolygon}
use Rattle.mvt_fault.specs.declared.ring.RingEdge.{RingEdge}
use Rattle.mvt_fault.specs.Code.{tag_code, command_code, ring_code}

-- the tile's own fields come first; then, layer by layer, the layer's fields, its values and its features
abbrev pub scope_place : Scope → List ℕ
scope_place Tile = 0 ∷ 0 ∷ 0 ∷ 0 ∷ 0 ∷ []
scope_place (Layer layer) = 0 ∷ 1 ∷ layer ∷ 0 ∷ 0 ∷ []
scope_place (Value layer value) = 0 ∷ 1 ∷ layer ∷ 1 ∷ value ∷ []
scope_place (Feature layer feature) = 0 ∷ 1 ∷ layer ∷ 2 ∷ feature ∷ []

-- the ten numbers of a fault; those that it doesn't have are 0
abbrev pub place_of : Fault → List ℕ
place_of (Wire code scope at field) = scope_place scope ++ (at ∷ code_of code ∷ field ∷ 0 ∷ 0 ∷ [])
place_of (Version layer) = 1 ∷ layer ∷ 201 ∷ 0 ∷ 0 ∷ 0 ∷ 0 ∷ 0 ∷ 0 ∷ 0 ∷ []
place_of (Name first second) = 1 ∷ second ∷ 202 ∷ first ∷ 0 ∷ 0 ∷ 0 ∷ 0 ∷ 0 ∷ 0 ∷ []
place_of (Tag code layer feature index) = 2 ∷ layer ∷ feature ∷ 0 ∷ index ∷ tag_code code ∷ 0 ∷ 0 ∷ 0 ∷ 0 ∷ []
place_of (Command code layer feature index) = 2 ∷ layer ∷ feature ∷ 1 ∷ index ∷ command_code code ∷ 0 ∷ 0 ∷ 0 ∷ 0 ∷ []
place_of (Ring code layer feature ring) = 2 ∷ layer ∷ feature ∷ 2 ∷ ring ∷ ring_code code ∷ 0 ∷ 0 ∷ 0 ∷ 0 ∷ []
place_of (Meeting layer feature polygon first second x y w) = 2 ∷ layer ∷ feature ∷ 3 ∷ polygon ∷ 0 ∷ 0 ∷ 0 ∷ 0 ∷ 0 ∷ []
place_of (Outside layer feature polygon ring vertex) = 2 ∷ layer ∷ feature ∷ 3 ∷ polygon ∷ 1 ∷ ring ∷ vertex ∷ 505 ∷ 0 ∷ []
place_of (HoleInHole layer feature polygon ring vertex other) = 2 ∷ layer ∷ feature ∷ 3 ∷ polygon ∷ 1 ∷ ring ∷ vertex ∷ 506 ∷ other ∷ []
place_of (InPolygon layer feature polygon vertex other) = 2 ∷ layer ∷ feature ∷ 3 ∷ polygon ∷ 2 ∷ vertex ∷ 507 ∷ other ∷ 0 ∷ []

-- a meeting of two edges of this polygon
pub record IsMeetingIn (layer feature polygon : ℕ) (fault : Fault) : Type 0 where
  pub first : RingEdge
  pub second : RingEdge
  pub x : ℤ
  pub y : ℤ
  pub w : ℤ
  pub is : fault ≡ Meeting layer feature polygon first second x y w

-- two meetings in one polygon; they have one place, since any of them may be reported
pub record AreMeetingsInOne (fault other : Fault) : Type 0 where
  pub layer : ℕ
  pub feature : ℕ
  pub polygon : ℕ
  pub one : IsMeetingIn layer feature polygon fault
  pub another : IsMeetingIn layer feature polygon other

-- the first list comes before the second, or is the same
abbrev pub ComesFirst : List ℕ → List ℕ → Type 0
ComesFirst [] ys = Unit {0}
ComesFirst (x ∷ xs) [] = ⊥
ComesFirst (x ∷ xs) (y ∷ ys) = (x < y) ⊎ ((x ≡ y) × ComesFirst xs ys)

-- of all faults of a kind, one with the least place
pub record IsLeast (Holds : Fault → Type 0) (fault : Fault) : Type 0 where
  pub holds : Holds fault
  pub least : (other : Fault) → Holds other → ComesFirst (place_of fault) (place_of other)
