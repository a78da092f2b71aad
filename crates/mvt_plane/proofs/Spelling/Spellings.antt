-- A list of numbers spells at most one figure of a geometry type.
use Rattle.std.proofs.Common.{◌≡◌, ◌≢◌, ℕ, List, [], ◌∷◌, ◌++◌, length, ℤ, ◌-ℤ◌, refl, sym, ◌∙◌, ap, ap₂, subst, arith}
use Rattle.std.proofs.lemmas.Int.{ints}
use Rattle.mvt_plane.specs.Position.{Position, origin}
use Rattle.mvt_plane.specs.Commands.Figure.{GeometryType, Figure, points, lines, rings, type_of, zigzag, move_to, line_to, close_path, command_integer, steps, path, cursor, paths, spelling, IsPath, ArePaths, HasSpelling, Spells}
use Rattle.mvt_plane.proofs.Spelling.Parameters.{zigzag_injective}

-- the position of two coordinates
abbrev pub position_at : ℤ → ℤ → Position
position_at x y = record { x = x; y = y }

-- a parameter leads to one coordinate
same_coordinate : (from a b : ℤ) → zigzag (a -ℤ from) ≡ zigzag (b -ℤ from) → a ≡ b
same_coordinate from a b same =
    let difference : a -ℤ from ≡ b -ℤ from = zigzag_injective (a -ℤ from) (b -ℤ from) same in
    omega (arith, ints)

-- two parameters lead to one position
same_position : (from to other : Position) → zigzag (to.x -ℤ from.x) ≡ zigzag (other.x -ℤ from.x) → zigzag (to.y -ℤ from.y) ≡ zigzag (other.y -ℤ from.y) → to ≡ other
same_position from to other x y = ap₂ position_at (same_coordinate from.x to.x other.x x) (same_coordinate from.y to.y other.y y)

-- as many steps lead through the same positions, and the same numbers follow
same_steps : (from : Position) (positions others : List Position) (after other_after : List ℕ) → length positions ≡ length others → steps from positions ++ after ≡ steps from others ++ other_after → (positions ≡ others) × (after ≡ other_after)
same_steps from [] [] after other_after size same = (refl, same)
same_steps from [] (other ∷ others) after other_after size same = absurd (omega arith)
same_steps from (to ∷ rest) [] after other_after size same = absurd (omega arith)
same_steps from (to ∷ rest) (other ∷ others) after other_after size same =
    let here : to ≡ other = same_position from to other (cc) (cc) in
    let there : steps to rest ++ after ≡ steps other others ++ other_after = cc in
    let tail : steps to rest ++ after ≡ steps to others ++ other_after = subst (λ (p : Position). steps to rest ++ after ≡ steps p others ++ other_after) (sym here) there in
    let following = same_steps to rest others after other_after (omega arith) tail in
    (ap₂ (λ (p : Position) (ps : List Position). p ∷ ps) here following.0, following.1)

-- the numbers of a line, or of a ring without its end, lead through the same positions too
same_path : (from : Position) (part other : List Position) (after other_after : List ℕ) (least : ℕ) → IsPath least from part → IsPath least from other → path from part ++ after ≡ path from other ++ other_after → (part ≡ other) × (after ≡ other_after)
same_path from [] other after other_after least able other_able same = absurd able
same_path from (first ∷ rest) [] after other_after least able other_able same = absurd other_able
same_path from (first ∷ rest) (one ∷ others) after other_after least able other_able same =
    let here : first ≡ one = same_position from first one (cc) (cc) in
    let counts : command_integer line_to (length rest) ≡ command_integer line_to (length others) = cc in
    let there : steps first rest ++ after ≡ steps one others ++ other_after = cc in
    let tail : steps first rest ++ after ≡ steps first others ++ other_after = subst (λ (p : Position). steps first rest ++ after ≡ steps p others ++ other_after) (sym here) there in
    let following = same_steps first rest others after other_after (omega arith) tail in
    (ap₂ (λ (p : Position) (ps : List Position). p ∷ ps) here following.0, following.1)

-- the same front can be taken off
same_back : (front back other : List ℕ) → front ++ back ≡ front ++ other → back ≡ other
same_back [] back other same = same
same_back (n ∷ front) back other same = same_back front back other (cc)

-- a path has numbers
path_first : (least : ℕ) (from : Position) (part : List Position) (after : List ℕ) → IsPath least from part → path from part ++ after ≢ []
path_first least from [] after able same = absurd able
path_first least from (first ∷ rest) after able same = cc

-- lines or rings of the same numbers are the same
same_paths : (least : ℕ) (ending : List ℕ) (from : Position) (parts others : List (List Position)) → ArePaths least from parts → ArePaths least from others → paths ending from parts ≡ paths ending from others → parts ≡ others
same_paths least ending from [] [] able other_able same = refl
same_paths least ending from [] (other ∷ others) able other_able same = absurd (path_first least from other _ other_able.0 (sym same))
same_paths least ending from (part ∷ rest) [] able other_able same = absurd (path_first least from part _ able.0 same)
same_paths least ending from (part ∷ rest) (other ∷ others) able other_able same =
    let front = same_path from part other (ending ++ paths ending (cursor from part) rest) (ending ++ paths ending (cursor from other) others) least able.0 other_able.0 same in
    let there : paths ending (cursor from part) rest ≡ paths ending (cursor from other) others = same_back ending _ _ front.1 in
    let moved : cursor from part ≡ cursor from other = ap (cursor from) front.0 in
    let tail : paths ending (cursor from part) rest ≡ paths ending (cursor from part) others = subst (λ (p : Position). paths ending (cursor from part) rest ≡ paths ending p others) (sym moved) there in
    let able_after : ArePaths least (cursor from part) others = subst (λ (p : Position). ArePaths least p others) (sym moved) other_able.1 in
    ap₂ (λ (p : List Position) (ps : List (List Position)). p ∷ ps) front.0 (same_paths least ending (cursor from part) rest others able.1 able_after tail)

-- the law
pub one_figure : (geometry_type : GeometryType) (numbers : List ℕ) (figure other : Figure) → Spells geometry_type figure numbers → Spells geometry_type other numbers → figure ≡ other
one_figure geometry_type numbers figure other first second =
    same_figure figure other (first.kind ∙ sym second.kind) first.able second.able (sym first.spelled ∙ second.spelled)
  where
    -- by the sort of figure
    same_figure : (figure other : Figure) → type_of figure ≡ type_of other → HasSpelling figure → HasSpelling other → spelling figure ≡ spelling other → figure ≡ other
    same_figure (points positions) (points others) kind able other_able same =
        let counts : command_integer move_to (length positions) ≡ command_integer move_to (length others) = cc in
        let tail : steps origin positions ++ [] ≡ steps origin others ++ [] = ap (λ (ns : List ℕ). ns ++ []) (cc) in
        ap points (same_steps origin positions others [] [] (omega arith) tail).0
    same_figure (lines parts) (lines others) kind able other_able same = ap lines (same_paths 1 [] origin parts others able.0 other_able.0 same)
    same_figure (rings parts) (rings others) kind able other_able same =
        ap rings (same_paths 2 (command_integer close_path 1 ∷ []) origin parts others able.0 other_able.0 same)
    same_figure figure other kind able other_able same = absurd (cc)
