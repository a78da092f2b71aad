-- What the spelling of rings says of each of them.
use Rattle.std.proofs.Common.{◌≡◌, ℕ, zero, suc, ◌≤◌, List, [], ◌∷◌, length, slice_get, Some, subst, arith}
use Rattle.mvt_plane.specs.Commands.Figure.{AreSteps, IsPath, ArePaths, polygon, rings, cursor, Spells}
use Rattle.mvt_plane.specs.Position.{Position, origin, IsPosition}

-- steps lead to positions in range
steps_in_range : (from : Position) (rest : List Position) (number : ℕ) (position : Position) → AreSteps from rest → slice_get rest number ≡ Some position → IsPosition position
steps_in_range from [] number position able here = absurd (cc)
steps_in_range from (to ∷ rest) zero position able here = let same : to ≡ position = cc in subst IsPosition same able.0.there
steps_in_range from (to ∷ rest) (suc number) position able here = steps_in_range to rest number position able.1 here

-- so do those of a line or ring
path_in_range : (least : ℕ) (from : Position) (part : List Position) (number : ℕ) (position : Position) → IsPath least from part → slice_get part number ≡ Some position → IsPosition position
path_in_range least from [] number position able here = absurd able
path_in_range least from (first ∷ rest) zero position able here = let same : first ≡ position = cc in subst IsPosition same able.0.there
path_in_range least from (first ∷ rest) (suc number) position able here = steps_in_range first rest number position able.1 here

-- which has so many of them
path_length : (least : ℕ) (from : Position) (part : List Position) → IsPath least from part → suc least ≤ length part
path_length least from [] able = absurd able
path_length least from (first ∷ rest) able = let long : least ≤ length rest = able.3 in omega arith

-- each of several lines or rings is one, from where the cursor is
one_of_paths : (least : ℕ) (from : Position) (parts : List (List Position)) (number : ℕ) (part : List Position) → ArePaths least from parts → slice_get parts number ≡ Some part
    → (at : Position) × IsPath least at part
one_of_paths least from [] number part able here = absurd (cc)
one_of_paths least from (first ∷ rest) zero part able here = let same : first ≡ part = cc in (from, subst (IsPath least from) same able.0)
one_of_paths least from (first ∷ rest) (suc number) part able here = one_of_paths least (cursor from first) rest number part able.1 here

-- the law: a ring has three vertices or more
pub three_vertices : (parts : List (List Position)) (numbers : List ℕ) (number : ℕ) (ring : List Position) → Spells polygon (rings parts) numbers → slice_get parts number ≡ Some ring → 3 ≤ length ring
three_vertices parts numbers number ring spells there =
    let path = one_of_paths 2 origin parts number ring spells.able.0 there in
    path_length 2 path.0 ring path.1

-- and each of them is in range
pub vertices_in_range : (parts : List (List Position)) (numbers : List ℕ) (number vertex : ℕ) (ring : List Position) (position : Position) → Spells polygon (rings parts) numbers
    → slice_get parts number ≡ Some ring → slice_get ring vertex ≡ Some position → IsPosition position
vertices_in_range parts numbers number vertex ring position spells there here =
    let path = one_of_paths 2 origin parts number ring spells.able.0 there in
    path_in_range 2 path.0 ring vertex position path.1 here
