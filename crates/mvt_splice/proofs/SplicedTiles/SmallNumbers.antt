-- The numbers that spell rings have 32 bits (Mapbox Vector Tile Specification 2.1, sections 4.3.1 and 4.3.2).
use Rattle.std.proofs.Common.{ℕ, ◌^◌, ◌<◌, List, [], ◌∷◌, ◌++◌, length, ℤ, pos, negsuc, ◌-ℤ◌, sym, subst, arith}
use Rattle.mvt_plane.proofs.Orders.Order.{zs}
use Rattle.std.proofs.lemmas.List.Elements.{All-nil, All-cons, All-append}
use Rattle.mvt_plane.specs.Commands.Figure.{zigzag, move_to, line_to, close_path, command_integer, steps, path, cursor, paths, IsParameter, AreSteps, IsCount, IsPath, ArePaths}
use Rattle.mvt_plane.specs.FeatureGeometry.{HasRings}
use Rattle.mvt_plane.specs.Position.{Position, origin}
use Rattle.mvt_wire.specs.Number.{AreSmall}

abbrev IsSmall : ℕ → Type 0
IsSmall n = n < 2 ^ 32

parameter_small : (d : ℤ) → IsParameter d → IsSmall (zigzag d)
parameter_small (pos n) fits = omega (arith, zs)
parameter_small (negsuc n) fits = omega (arith, zs)

command_small : (id count : ℕ) → id < 8 → IsCount count → IsSmall (command_integer id count)
command_small id count low few = omega arith

steps_small : (from : Position) (positions : List Position) → AreSteps from positions → AreSmall (steps from positions)
steps_small from [] are = All-nil IsSmall
steps_small from (to ∷ rest) are =
    let step = are.0 in
    All-cons IsSmall (zigzag (to.x -ℤ from.x)) (zigzag (to.y -ℤ from.y) ∷ steps to rest) (parameter_small (to.x -ℤ from.x) step.x)
    (All-cons IsSmall (zigzag (to.y -ℤ from.y)) (steps to rest) (parameter_small (to.y -ℤ from.y) step.y) (steps_small to rest are.1))

path_small : (least : ℕ) (from : Position) (part : List Position) → IsPath least from part → AreSmall (path from part)
path_small least from [] it = absurd it
path_small least from (first ∷ rest) it =
    let step = it.0 in
    All-cons IsSmall (command_integer move_to 1) (zigzag (first.x -ℤ from.x) ∷ zigzag (first.y -ℤ from.y) ∷ command_integer line_to (length rest) ∷ steps first rest) (omega arith)
    (All-cons IsSmall (zigzag (first.x -ℤ from.x)) (zigzag (first.y -ℤ from.y) ∷ command_integer line_to (length rest) ∷ steps first rest) (parameter_small (first.x -ℤ from.x) step.x)
    (All-cons IsSmall (zigzag (first.y -ℤ from.y)) (command_integer line_to (length rest) ∷ steps first rest) (parameter_small (first.y -ℤ from.y) step.y)
    (All-cons IsSmall (command_integer line_to (length rest)) (steps first rest) (command_small line_to (length rest) (omega arith) it.4) (steps_small first rest it.1))))

paths_small : (ending : List ℕ) (least : ℕ) (from : Position) (parts : List (List Position)) → AreSmall ending → ArePaths least from parts → AreSmall (paths ending from parts)
paths_small ending least from [] small are = All-nil IsSmall
paths_small ending least from (part ∷ rest) small are =
    All-append IsSmall (path from part) (ending ++ paths ending (cursor from part) rest) (path_small least from part are.0)
    (All-append IsSmall ending (paths ending (cursor from part) rest) small (paths_small ending least (cursor from part) rest small are.1))

pub rings_small : (kind : ℕ) (numbers : List ℕ) (parts : List (List Position)) → HasRings kind numbers parts → AreSmall numbers
rings_small kind numbers parts has =
    let end : AreSmall (command_integer close_path 1 ∷ []) = All-cons IsSmall (command_integer close_path 1) [] (omega arith) (All-nil IsSmall) in
    let spelled = has.spelled in
    subst (λ (list : List ℕ). AreSmall list) (sym spelled.spelled) (paths_small (command_integer close_path 1 ∷ []) 2 origin parts end spelled.able.0)
