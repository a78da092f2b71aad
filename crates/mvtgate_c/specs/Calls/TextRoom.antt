-- Faults whose ordinals and numbers are those of memory and of machine words.
use Rattle.std.specs.Prelude.{◌^◌, ◌<◌, ℕ}
use Rattle.mvt_fault.specs.Text.{HasWidth}
use Rattle.mvt_fault.specs.declared.fault.Fault.{Fault}
use Rattle.mvt_fault.specs.declared.fault.Fault.TheVariants.{Wire, Version, Name, Tag, Command, Ring, Meeting, Outside, HoleInHole, InPolygon}
use Rattle.mvt_fault.specs.declared.ring.RingEdge.{RingEdge}
use Rattle.mvt_wire.specs.declared.scope.Scope.{Scope}
use Rattle.mvt_wire.specs.declared.scope.Scope.TheVariants.{Tile, Layer, Value, Feature}

-- an offset or an ordinal has 64 bits
abbrev pub IsWord : ℕ → Type 0
IsWord n = n < 2 ^ 64

abbrev pub IsScopeOfWords : Scope → Type 0
IsScopeOfWords Tile = Unit {0}
IsScopeOfWords (Layer layer) = IsWord layer
IsScopeOfWords (Value layer value) = IsWord layer × IsWord value
IsScopeOfWords (Feature layer feature) = IsWord layer × IsWord feature

abbrev pub IsEdgeOfWords : RingEdge → Type 0
IsEdgeOfWords edge = IsWord edge.ring × IsWord edge.edge

-- a fault as memory holds it: each number has the bits of its type
abbrev pub IsInMemory : Fault → Type 0
IsInMemory (Wire code scope at field) = IsScopeOfWords scope × IsWord at × (field < 2 ^ 32)
IsInMemory (Version layer) = IsWord layer
IsInMemory (Name first second) = IsWord first × IsWord second
IsInMemory (Tag code layer feature index) = IsWord layer × IsWord feature × IsWord index
IsInMemory (Command code layer feature index) = IsWord layer × IsWord feature × IsWord index
IsInMemory (Ring code layer feature ring) = IsWord layer × IsWord feature × IsWord ring
IsInMemory (Meeting layer feature polygon first second x y w) = IsWord layer × IsWord feature × IsWord polygon × IsEdgeOfWords first × IsEdgeOfWords second × HasWidth x × HasWidth y × HasWidth w
IsInMemory (Outside layer feature polygon ring vertex) = IsWord layer × IsWord feature × IsWord polygon × IsWord ring × IsWord vertex
IsInMemory (HoleInHole layer feature polygon ring vertex other) = IsWord layer × IsWord feature × IsWord polygon × IsWord ring × IsWord vertex × IsWord other
IsInMemory (InPolygon layer feature polygon vertex other) = IsWord layer × IsWord feature × IsWord polygon × IsWord vertex × IsWord other
