-- Where the parameters of a step lead.
use Rattle.std.proofs.Common.{◌≡◌, ℕ, ℤ, ◌+ℤ◌, ◌-ℤ◌, Some, Result, Ok, Err, IfOk, IfErr, ap, sym, ◌∙◌, subst, arith}
use Rattle.std.proofs.lemmas.Int.{ints}
use Rattle.std.specs.Result.{result_ok}
use Rattle.mvt_confirm.specs.Calls.Commands.{IsNoMove, greatest, outside}
use Rattle.mvt_fault.specs.declared.command.CommandCode.{CommandCode}
use Rattle.mvt_plane.proofs.Spelling.Parameters.{unzigzag-zigzag}
use Rattle.mvt_plane.specs.Commands.CommandFault.{greatest_parameter}
use Rattle.mvt_plane.specs.Commands.Drawing.{unzigzag}
use Rattle.mvt_plane.specs.Commands.Figure.{IsParameter, IsStep, zigzag}
use Rattle.mvt_plane.specs.Position.{Position, IsCoordinate}

-- a parameter leads where it is to lead
pub leads_there : (from to : ℤ) (n : ℕ) → n ≡ zigzag (to -ℤ from) → from +ℤ unzigzag n ≡ to
leads_there from to n is =
    let step : unzigzag n ≡ to -ℤ from = ap unzigzag is ∙ unzigzag-zigzag (to -ℤ from) in
    omega (arith, ints)

-- one that leads to a coordinate leads somewhere
pub leads_somewhere : (from to : ℤ) (n : ℕ) (code : CommandCode) → IsParameter (to -ℤ from) → IsCoordinate to → n ≡ zigzag (to -ℤ from) → IsNoMove from n code → ⊥
leads_somewhere from to n code able there is (greatest same is_code) =
    let step : to -ℤ from ≡ unzigzag greatest_parameter = sym (unzigzag-zigzag (to -ℤ from)) ∙ ap unzigzag (sym is ∙ same) in
    omega (arith, ints)
leads_somewhere from to n code able there is (outside other far is_code) = far (subst IsCoordinate (sym (leads_there from to n is)) there)

-- so that the code finds where
pub moved_there : {T : Type 0} (place : ℤ → T) (from to : ℤ) (n : ℕ) (moved : Result T CommandCode) → IsParameter (to -ℤ from) → IsCoordinate to → n ≡ zigzag (to -ℤ from)
    → IfOk moved (λ it. it ≡ place (from +ℤ unzigzag n)) → IfErr moved (IsNoMove from n) → result_ok moved ≡ Some (place to)
moved_there place from to n (Ok it) able there is found lost = ap Some (found ∙ ap place (leads_there from to n is))
moved_there place from to n (Err code) able there is found lost = absurd (leads_somewhere from to n code able there is lost)

-- from beside the cursor, the y leads to the position
pub moved_from_beside : (from to beside : Position) (y : ℕ) (moved : Result Position CommandCode) → IsStep from to → beside ≡ record { x = to.x; y = from.y } → y ≡ zigzag (to.y -ℤ from.y)
    → IfOk moved (λ it. it ≡ record { x = beside.x; y = beside.y +ℤ unzigzag y }) → IfErr moved (IsNoMove beside.y y) → result_ok moved ≡ Some to
moved_from_beside from to beside y moved able is y_is found lost =
    let from_there = subst (λ (it : Position). IfOk moved (λ p. p ≡ record { x = it.x; y = it.y +ℤ unzigzag y })) is found in
    let not_there = subst (λ (it : Position). IfErr moved (IsNoMove it.y y)) is lost in
    moved_there (λ (z : ℤ). record { x = to.x; y = z }) from.y to.y y moved able.y able.there.y y_is from_there not_there
