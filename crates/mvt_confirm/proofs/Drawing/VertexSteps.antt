-- How a walk over the vertices of rings takes numbers and steps.
use Rattle.std.proofs.Common.{◌≡◌, ℕ, ◌-ℤ◌, ◌∷◌, [], List, Option, Some, None, Result, Ok, Err, IfOk, IfErr, sym, ap, ◌∙◌, subst}
use Rattle.std.specs.Result.{result_ok}
use Rattle.mvt_confirm.specs.Calls.Numbers.{TakesNumber}
use Rattle.mvt_confirm.specs.Calls.Vertices.{VertexWalk, TakesStep}
use Rattle.mvt_plane.specs.Commands.Figure.{IsStep, zigzag}
use Rattle.mvt_plane.specs.Position.{Position}
use Rattle.mvt_wire.specs.Numbers.{NumberWalk, NumbersLeft, GivesNumber, EndsNumbers}
use Rattle.mvt_wire.specs.declared.cause.WireCause.{WireCause}

-- Numbers and steps

-- of numbers that are left, the first is found
pub number_taken : (old new : NumberWalk) (item : Result ℕ WireCause) (found : Option ℕ) → found ≡ result_ok item → IfOk item (GivesNumber old new)
    → IfErr item (λ cause. EndsNumbers old new (Some cause)) → TakesNumber old new found
number_taken old new (Ok n) (Some m) is given fault = λ numbers left.
    let step = given.others numbers None left in
    let same : n ≡ m = cc in
    (step.0, subst (λ (it : ℕ). numbers ≡ it ∷ step.0) same step.1, step.2)
number_taken old new (Err cause) (Some m) is given fault = absurd (cc)
number_taken old new (Ok n) None is given fault = absurd (cc)
number_taken old new (Err cause) None is given fault = λ numbers left. (fault.only numbers None left).0

-- where none was left there is no first
pub none_taken : (old new : NumberWalk) (found : Option ℕ) → found ≡ None → EndsNumbers old new None → TakesNumber old new found
none_taken old new (Some m) is ends = absurd (cc)
none_taken old new None is ends = λ numbers left. (ends.only numbers None left).0

-- the numbers of a step
abbrev step_numbers : Position → Position → List ℕ → List ℕ
step_numbers from to rest = zigzag (to.x -ℤ from.x) ∷ zigzag (to.y -ℤ from.y) ∷ rest

-- a step is two numbers
pub step_taken : (old : VertexWalk) (halfway new : NumberWalk) (x y : ℕ) (found : Option Position) → TakesNumber old.numbers halfway (Some x) → TakesNumber halfway new (Some y)
    → ((to : Position) → IsStep old.here to → x ≡ zigzag (to.x -ℤ old.here.x) → y ≡ zigzag (to.y -ℤ old.here.y) → found ≡ Some to) → TakesStep old new found
step_taken old halfway new x y found first second moved = λ numbers rest to left ahead.
    let of_x = first numbers left in
    let of_y = second of_x.0 of_x.2 in
    let stands : x ∷ y ∷ of_y.0 ≡ step_numbers old.here to rest = ap (λ (it : List ℕ). x ∷ it) (sym of_y.1) ∙ (sym of_x.1 ∙ ahead.stands) in
    let following : of_y.0 ≡ rest = cc (stands) in
    (moved to ahead.able (cc (stands)) (cc (stands)), subst (λ (it : List ℕ). NumbersLeft new it None) following of_y.2)

-- there is none where one of its numbers is missing
pub no_x_taken : (old : VertexWalk) (new : NumberWalk) (found : Option Position) → TakesNumber old.numbers new None → TakesStep old new found
no_x_taken old new found first = λ numbers rest to left ahead.
    let none : step_numbers old.here to rest ≡ [] = sym ahead.stands ∙ first numbers left in
    absurd (cc (none))

pub no_y_taken : (old : VertexWalk) (halfway new : NumberWalk) (x : ℕ) (found : Option Position) → TakesNumber old.numbers halfway (Some x) → TakesNumber halfway new None → TakesStep old new found
no_y_taken old halfway new x found first second = λ numbers rest to left ahead.
    let of_x = first numbers left in
    let none : x ∷ [] ≡ step_numbers old.here to rest = ap (λ (it : List ℕ). x ∷ it) (sym (second of_x.0 of_x.2)) ∙ (sym of_x.1 ∙ ahead.stands) in
    absurd (cc (none))

pub no_step_taken : (old : VertexWalk) (new : NumberWalk) (found : Option Position) → TakesStep old new None → TakesStep old new found
no_step_taken old new found taken = λ numbers rest to left ahead.
    let none = (taken numbers rest to left ahead).0 in
    absurd (cc)
