-- Which of several faults is found, where it is left open for some.
use Rattle.std.specs.Prelude.{take}
use Rattle.mvt_fault.specs.Place.{ComesFirst, IsLeast, place_of}
use Rattle.mvt_fault.specs.declared.fault.Fault.{Fault}

-- of all faults of a kind, the one of least place; or a free one, where none is of an earlier layer or feature, by the first
-- three numbers of their places
pub data IsLeastOr (IsFree Holds : Fault → Type 0) (fault : Fault) : Type 0 where
  of_least : IsLeast Holds fault → IsLeastOr IsFree Holds fault
  of_free : IsFree fault → Holds fault → ((other : Fault) → Holds other → ComesFirst (take 3 (place_of fault)) (take 3 (place_of other))) → IsLeastOr IsFree Holds fault
