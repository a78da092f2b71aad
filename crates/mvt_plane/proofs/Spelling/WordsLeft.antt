-- Words that are drawn from a step on are the words of steps, and others after them.
use Rattle.std.proofs.Common.{◌≡◌, ℕ, zero, suc, List, [], ◌∷◌, ◌++◌, length, ℤ, pos, ◌+ℤ◌, ◌-ℤ◌, refl, sym, ◌∙◌, ap, ap₂, subst, arith}
use Rattle.std.proofs.lemmas.Int.{ints}
use Rattle.mvt_plane.specs.Position.{Position}
use Rattle.mvt_plane.specs.Commands.Figure.{GeometryType, zigzag, move_to, line_to, cursor, IsStep, IsParameter, AreSteps, AreApart}
use Rattle.mvt_plane.specs.Commands.CommandFault.{Part, x_of_step, y_of_step, Word, word, step_words}
use Rattle.mvt_plane.proofs.Spelling.Parameters.{zigzag-unzigzag}
use Rattle.mvt_plane.specs.Commands.Drawing.{Leg, to_point, to_first, to_next, step_x, id_of, GoesElsewhere, moved, after_path, following, Draws, unzigzag}
use Rattle.mvt_plane.proofs.Spelling.Figures.{AreApartOn}

-- from where it leads, a parameter is the step back
step_back : (from : ℤ) (n : ℕ) → (from +ℤ unzigzag n) -ℤ from ≡ unzigzag n
step_back from n = omega (arith, ints)

-- so its zigzag form is the parameter
number_back : (from : ℤ) (n : ℕ) → zigzag ((from +ℤ unzigzag n) -ℤ from) ≡ n
number_back from n = ap zigzag (step_back from n) ∙ zigzag-unzigzag n

-- and the step can be a parameter
parameter_back : (from : ℤ) (n : ℕ) → IsParameter (unzigzag n) → IsParameter ((from +ℤ unzigzag n) -ℤ from)
parameter_back from n parameter = subst IsParameter (sym (step_back from n)) parameter

-- a parameter that leads nowhere is 0
stays_none : (from : ℤ) (n : ℕ) → from ≡ from +ℤ unzigzag n → n ≡ 0
stays_none from n same =
    let none : unzigzag n ≡ pos 0 = omega (arith, ints) in
    sym (zigzag-unzigzag n) ∙ ap zigzag none

-- a step that isn't (0, 0) leads to another position
are_apart : (leg : Leg) (from : Position) (x y : ℕ) → GoesElsewhere leg x y → AreApartOn leg from (moved from x y)
are_apart (to_point left) from x y elsewhere = tt
are_apart to_first from x y elsewhere = tt
are_apart (to_next left) from x y elsewhere = λ same.
    elsewhere (stays_none from.x x (ap (λ (p : Position). p.x) same)) (stays_none from.y y (ap (λ (p : Position). p.y) same))

-- a word is its part and its number
pub same_word : (part : Part) (number : ℕ) (it : Word) → part ≡ it.part → number ≡ it.number → it ≡ word part number
same_word part number it parts numbers = ap₂ word (sym parts) (sym numbers)

-- The words of a step, and others that are drawn after it
pub record StepResidue (geometry_type : GeometryType) (leg : Leg) (from : Position) (all : List Word) : Type 0 where
  pub to : Position
  pub after : List Word
  pub step : IsStep from to
  pub apart : AreApartOn leg from to
  pub split : all ≡ step_words (id_of leg) from (to ∷ []) ++ after
  pub draws : Draws geometry_type (following geometry_type leg to) after

pub step_residue : (geometry_type : GeometryType) (leg : Leg) (from : Position) (all : List Word) → Draws geometry_type (step_x leg from) all → StepResidue geometry_type leg from all
step_residue geometry_type leg from [] draws = absurd draws
step_residue geometry_type leg from (first ∷ []) draws = absurd draws.2
step_residue geometry_type leg from (first ∷ second ∷ after) draws =
    let x_there = draws.1 in
    let y_there = draws.2.1.0 in
    let x_number : zigzag ((from.x +ℤ unzigzag first.number) -ℤ from.x) ≡ first.number = number_back from.x first.number in
    let y_number : zigzag ((from.y +ℤ unzigzag second.number) -ℤ from.y) ≡ second.number = number_back from.y second.number in
    let x_part : x_of_step from.x ≡ first.part = cc in
    let y_part : y_of_step (id_of leg) from.y first.number ≡ second.part = cc (draws.2.0) in
    let y_part' : y_of_step (id_of leg) from.y (zigzag ((from.x +ℤ unzigzag first.number) -ℤ from.x)) ≡ second.part = ap (y_of_step (id_of leg) from.y) x_number ∙ y_part in
    record {
      to = moved from first.number second.number;
      after = after;
      step = record { there = record { x = x_there.there; y = y_there.there }; x = parameter_back from.x first.number x_there.parameter; y = parameter_back from.y second.number y_there.parameter };
      apart = are_apart leg from first.number second.number draws.2.1.1;
      split = ap₂ (λ (one other : Word). one ∷ other ∷ after) (same_word _ _ first x_part x_number) (same_word _ _ second y_part' y_number);
      draws = draws.2.2;
    }

-- The words of the further positions of a line or ring, and others that are drawn after them
pub record LineResidue (geometry_type : GeometryType) (left : ℕ) (from : Position) (all : List Word) : Type 0 where
  pub positions : List Position
  pub after : List Word
  pub steps : AreSteps from positions
  pub apart : AreApart from positions
  pub size : length positions ≡ suc left
  pub split : all ≡ step_words line_to from positions ++ after
  pub draws : Draws geometry_type (after_path geometry_type (cursor from positions)) after

pub line_residue : (geometry_type : GeometryType) (left : ℕ) (from : Position) (all : List Word) → Draws geometry_type (step_x (to_next left) from) all → LineResidue geometry_type left from all
line_residue geometry_type zero from all draws =
    let one = step_residue geometry_type (to_next zero) from all draws in
    record { positions = one.to ∷ []; after = one.after; steps = (one.step, tt); apart = (one.apart, tt); size = refl; split = one.split; draws = one.draws }
line_residue geometry_type (suc left) from all draws =
    let one = step_residue geometry_type (to_next (suc left)) from all draws in
    let more = line_residue geometry_type left one.to one.after one.draws in
    let size = more.size in
    record {
      positions = one.to ∷ more.positions;
      after = more.after;
      steps = (one.step, more.steps);
      apart = (one.apart, more.apart);
      size = omega arith;
      split = one.split ∙ ap (λ (back : List Word). step_words line_to from (one.to ∷ []) ++ back) more.split;
      draws = more.draws;
    }

-- The words of points, which are the last
pub record PointsResidue (left : ℕ) (from : Position) (all : List Word) : Type 0 where
  pub positions : List Position
  pub steps : AreSteps from positions
  pub size : length positions ≡ suc left
  pub split : all ≡ step_words move_to from positions

pub points_residue : (geometry_type : GeometryType) (left : ℕ) (from : Position) (all : List Word) → Draws geometry_type (step_x (to_point left) from) all → PointsResidue left from all
points_residue geometry_type zero from all draws =
    let one = step_residue geometry_type (to_point zero) from all draws in
    let last : one.after ≡ [] = nothing_after one.after one.draws in
    record { positions = one.to ∷ []; steps = (one.step, tt); size = refl; split = one.split ∙ ap (λ (back : List Word). step_words move_to from (one.to ∷ []) ++ back) last }
  where
    nothing_after : (after : List Word) → Draws geometry_type (following geometry_type (to_point zero) from) after → after ≡ []
    nothing_after [] draws = refl
    nothing_after (it ∷ after) draws = absurd draws.1
points_residue geometry_type (suc left) from all draws =
    let one = step_residue geometry_type (to_point (suc left)) from all draws in
    let more = points_residue geometry_type left one.to one.after one.draws in
    let size = more.size in
    record {
      positions = one.to ∷ more.positions;
      steps = (one.step, more.steps);
      size = omega arith;
      split = one.split ∙ ap (λ (back : List Word). step_words move_to from (one.to ∷ []) ++ back) more.split;
    }
