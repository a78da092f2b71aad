-- Lists that grow ring by ring.
use Rattle.std.proofs.Common.{◌≡◌, ℕ, zero, suc, ◌+◌, ◌-◌, ◌<◌, ◌≤◌, List, [], ◌∷◌, ◌++◌, length, get_or, slice_get, slice_range, drop, take, Some, Vec, refl, sym, ◌∙◌, ap, arith, append_assoc}
use Rattle.std.proofs.lemmas.List.{map-append, take_more, length-drop}
use Rattle.std.proofs.lemmas.Option.{get_or_from_slice_get}
use Rattle.std.specs.List.{range_with_len}
use Rattle.std.specs.declared.alloc.Global.{Global}
use Rattle.mvt_plane.specs.Position.{Position}
use Rattle.mvt_sweep.specs.Rings.{rings_of}
use Rattle.mvt_sweep.proofs.Vertices.RingReads.{ring_there, count_of_rings}

-- one number more
numbers_more : (from count last : ℕ) → from + count ≡ last → range_with_len from (suc count) ≡ range_with_len from count ++ last ∷ []
numbers_more from zero last is = let same : from ≡ last = omega arith in ap (λ (n : ℕ). n ∷ []) same
numbers_more from (suc count) last is = ap (λ rest. from ∷ rest) (numbers_more (from + 1) count last (omega arith))

-- up to one number more
pub range_more : (from to : ℕ) → from ≤ to → range_with_len from (to + 1 - from) ≡ range_with_len from (to - from) ++ to ∷ []
range_more from to up =
    let count : to + 1 - from ≡ suc (to - from) = omega arith in
    ap (range_with_len from) count ∙ numbers_more from (to - from) to (omega arith)

-- what is at a place after others
drop_there : {X : Type 0} (from : ℕ) (xs : List X) (place : ℕ) → slice_get (drop from xs) place ≡ slice_get xs (from + place)
drop_there zero xs place = ap (slice_get xs) (omega arith)
drop_there (suc from) [] place = refl
drop_there (suc from) (x ∷ xs) place =
    let number : suc (from + place) ≡ suc from + place = omega arith in
    drop_there from xs place ∙ ap (slice_get (x ∷ xs)) number

-- one element more of a part of a list
part_more : {X : Type 0} (xs : List X) (from to : ℕ) (x : X) → from ≤ to → to < length xs → slice_get xs to ≡ Some x → slice_range xs from (to + 1) ≡ slice_range xs from to ++ x ∷ []
part_more {X = X} xs from to x up within there =
    let count : to + 1 - from ≡ to - from + 1 = omega arith in
    let number : from + (to - from) ≡ to = omega arith in
    let rest = length-drop from xs in
    let here : slice_get (drop from xs) (to - from) ≡ Some x = drop_there from xs (to - from) ∙ ap (slice_get xs) number ∙ there in
    ap (λ (n : ℕ). take n (drop from xs)) count ∙ take_more (drop from xs) (to - from) x (omega arith)
    ∙ ap (λ (last : X). take (to - from) (drop from xs) ++ last ∷ []) (get_or_from_slice_get (drop from xs) (to - from) x x here)

-- one more of both lists
pub both_more : {X : Type 0} (old new before part more : List X) (x : X) → new ≡ old ++ x ∷ [] → old ≡ before ++ part → more ≡ part ++ x ∷ [] → new ≡ before ++ more
both_more old new before part more x is was grown =
    is ∙ ap (λ xs. xs ++ x ∷ []) was ∙ append_assoc before part (x ∷ []) ∙ ap (λ xs. before ++ xs) (sym grown)

-- a ring more
pub rings_more : (all : List (Vec Position Global)) (old new : List (Vec Position Global)) (before : List (List Position)) (from to : ℕ) (ring copied : Vec Position Global) → from ≤ to → to < length all → ring ≡ get_or all to ring
    → copied.items ≡ ring.items → new ≡ old ++ copied ∷ [] → rings_of old ≡ before ++ slice_range (rings_of all) from to → rings_of new ≡ before ++ slice_range (rings_of all) from (to + 1)
rings_more all old new before from to ring copied up within read same is was =
    let there : slice_get (rings_of all) to ≡ Some ring.items = ring_there all to ring within read in
    let count = count_of_rings all in
    both_more (rings_of old) (rings_of new) before (slice_range (rings_of all) from to) (slice_range (rings_of all) from (to + 1)) ring.items
    (ap rings_of is ∙ map-append (λ ring. ring.items) old (copied ∷ []) ∙ ap (λ (items : List Position). rings_of old ++ items ∷ []) same)
    was (part_more (rings_of all) from to ring.items up (omega arith) there)
