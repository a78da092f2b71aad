-- Steps that are spelled in part: what was pushed, with the spelling of what is left, is the spelling of the whole.
use Rattle.std.proofs.Common.{◌≡◌, ℕ, List, [], ◌∷◌, ◌++◌, ◌-ℤ◌, ◌+◌, ◌<◌, length, get_or, drop, ◌∙◌, sym, ap, subst, append_assoc}
use Rattle.std.proofs.lemmas.List.{drop_more}
use Rattle.mvt_plane.specs.Commands.Figure.{AreApart, AreSteps, IsParameter, IsStep, cursor, steps, zigzag}
use Rattle.mvt_plane.specs.Position.{Position, IsPosition}

-- what is left from a place on begins with what is there
pub drop_from : {X : Type 0} (all : List X) (place : ℕ) (here : X) → place < length all → here ≡ get_or all place here → drop place all ≡ here ∷ drop (place + 1) all
drop_from all place here within is = drop_more all place here within ∙ ap (λ it. it ∷ drop (place + 1) all) (sym is)

-- the two parameters of a step, pushed one after the other
pub step_pushed : (from to : Position) (x y : ℕ) (before middle after : List ℕ) → IsPosition to
    → IsParameter (to.x -ℤ from.x) × (x ≡ zigzag (to.x -ℤ from.x)) → IsParameter (to.y -ℤ from.y) × (y ≡ zigzag (to.y -ℤ from.y))
    → middle ≡ before ++ x ∷ [] → after ≡ middle ++ y ∷ []
    → IsStep from to × (after ≡ before ++ zigzag (to.x -ℤ from.x) ∷ zigzag (to.y -ℤ from.y) ∷ [])
step_pushed from to x y before middle after there of_x of_y first second = (
  record { there = there; x = of_x.0; y = of_y.0 },
  second ∙ ap (λ (list : List ℕ). list ++ y ∷ []) first ∙ append_assoc before (x ∷ []) (y ∷ [])
      ∙ ap (λ (it : ℕ). before ++ it ∷ y ∷ []) of_x.1 ∙ ap (λ (it : ℕ). before ++ zigzag (to.x -ℤ from.x) ∷ it ∷ []) of_y.1,
)

-- after the numbers before, the steps from a position are spelled up to the last one, and these are left
pub record AreStepsTo (before : List ℕ) (from : Position) (all : List Position) (numbers : List ℕ) (last : Position) (rest : List Position) : Type 0 where
  pub spelled : before ++ steps from all ≡ numbers ++ steps last rest
  pub able : AreSteps last rest → AreSteps from all
  pub left : AreSteps from all → AreSteps last rest
  pub following : cursor from all ≡ cursor last rest

-- the next position is the one that is at the place
pub AreStepsTo-at : (before : List ℕ) (from : Position) (all : List Position) (numbers : List ℕ) (last to : Position) (place : ℕ)
    → AreStepsTo before from all numbers last (drop place all) → place < length all → to ≡ get_or all place to → AreStepsTo before from all numbers last (to ∷ drop (place + 1) all)
AreStepsTo-at before from all numbers last to place so_far within is = subst (λ (rest : List Position). AreStepsTo before from all numbers last rest) (drop_from all place to within is) so_far

-- one step further
pub AreStepsTo-on : (before : List ℕ) (from : Position) (all : List Position) (numbers : List ℕ) (last : Position) (to : Position) (rest : List Position) (more : List ℕ)
    → AreStepsTo before from all numbers last (to ∷ rest) → IsStep last to → more ≡ numbers ++ zigzag (to.x -ℤ last.x) ∷ zigzag (to.y -ℤ last.y) ∷ [] → AreStepsTo before from all more to rest
AreStepsTo-on before from all numbers last to rest more so_far step pushed = record {
  spelled =
      so_far.spelled ∙ sym (append_assoc numbers (zigzag (to.x -ℤ last.x) ∷ zigzag (to.y -ℤ last.y) ∷ []) (steps to rest))
      ∙ ap (λ (list : List ℕ). list ++ steps to rest) (sym pushed);
  able = λ others. so_far.able (step, others);
  left = λ whole. (so_far.left whole).1;
  following = so_far.following;
}

-- no position up to the last one is the same as its neighbour, and these are left
pub record AreApartTo (from : Position) (all : List Position) (last : Position) (rest : List Position) : Type 0 where
  pub able : AreApart last rest → AreApart from all
  pub left : AreApart from all → AreApart last rest
