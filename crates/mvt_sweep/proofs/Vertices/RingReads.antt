-- Rings, as the code reads them.
use Rattle.std.proofs.Common.{◌≡◌, ◌↔◌, ℕ, ◌<◌, Bool, true, false, IsTrue, List, length, get_or, slice_get, Some, Vec, option_map, refl, sym, ◌∙◌, ap}
use Rattle.std.proofs.lemmas.List.{length-map}
use Rattle.std.proofs.lemmas.Option.{slice_get_read, slice_get-map}
use Rattle.std.specs.declared.alloc.Global.{Global}
use Rattle.mvt_plane.specs.Position.{Position}
use Rattle.mvt_sweep.specs.Rings.{rings_of}

-- the vertices of a list of them are a ring
pub ring_there : (rings : List (Vec Position Global)) (number : ℕ) (ring : Vec Position Global) → number < length rings → ring ≡ get_or rings number ring → slice_get (rings_of rings) number ≡ Some ring.items
ring_there rings number ring within is =
    slice_get-map (λ ring. ring.items) rings number ∙ ap (option_map (λ (ring : Vec Position Global). ring.items)) (slice_get_read rings (length rings) number ring refl within is)

-- also by a reference to them
pub vertices_there : (rings : List (Vec Position Global)) (number : ℕ) (ring : Vec Position Global) (vertices : List Position) → number < length rings → ring ≡ get_or rings number ring → vertices ≡ ring.items → slice_get (rings_of rings) number ≡ Some vertices
vertices_there rings number ring vertices within is value = ring_there rings number ring within is ∙ ap Some (sym value)

-- they are as many
pub count_of_rings : (rings : List (Vec Position Global)) → length (rings_of rings) ≡ length rings
count_of_rings rings = length-map rings (λ ring. ring.items)

-- Tests

-- a test that fails
pub fails : (Holds : Type 0) (test : Bool) → IsTrue test ↔ Holds → test ≡ false → ¬ Holds
fails Holds test decides not holds =
    let passes : test ≡ true = decides.1 holds in
    let both : true ≡ false = sym passes ∙ not in
    cc both
