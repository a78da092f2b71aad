-- Where a geometry's number leads that is next in a state, and what is wrong with it where it leads nowhere.
use Rattle.std.proofs.Common.{◌≡◌, ◌≢◌, ℕ, ◌+◌, ◌-◌, ◌/◌, ◌%◌, ◌≤◌, ◌⊎◌, inl, inr, get_or, ℤ, ◌+ℤ◌, ◌-ℤ◌, refl, sym, ◌∙◌, ap, subst, arith}
use Rattle.std.proofs.lemmas.Int.{ints}
use Rattle.mvt_confirm.specs.Calls.Commands.{Goes, Faults, IsCommandOf, IsNoCommand, other_command, other_count, IsNoMove, greatest, outside, IsStay, before_x}
use Rattle.mvt_fault.specs.Code.{command_code}
use Rattle.mvt_fault.specs.declared.command.CommandCode.{CommandCode}
use Rattle.mvt_fault.specs.declared.command.CommandCode.TheVariants.{OtherCommand, NoStep}
use Rattle.mvt_plane.proofs.Spelling.Readers.{leads_on, blamed_there, command_leads, other_command_there, other_count_there, greatest_there, outside_there, stays_inside}
use Rattle.mvt_plane.specs.Commands.CommandFault.{greatest_parameter, y_of_step, Applies, greatest_y, y_outside, no_step, LeavesRange}
use Rattle.mvt_plane.specs.Commands.Drawing.{Leg, to_point, to_next, State, points_command, line_command, step_x, step_y, all_drawn, start, least, IsMove, GoesElsewhere, moved, following, next, unzigzag, not_due, not_allowed, IsFirstCode}
use Rattle.mvt_plane.specs.Commands.Figure.{GeometryType, command_integer, move_to, line_to}
use Rattle.mvt_plane.specs.Position.{Position, origin, IsCoordinate}
use Rattle.mvt_plane.specs.Calls.Reading.{StandsAt, IsFaulty}
use Rattle.mvt_plane.specs.Commands.Reading.{AsksCommand, of_points, of_line, greatest_count, AsksCoordinate}

-- Commands

-- the command that is due leads on
pub command_goes : (geometry_type : GeometryType) (state : State) (id fewest most number : ℕ) → AsksCommand geometry_type state id fewest most → IsCommandOf id fewest most number
    → Goes geometry_type state number (next geometry_type state (command_integer id (number / 8)))
command_goes geometry_type state id fewest most number asks is numbers at next_there =
    let here = next_there.here in
    subst (λ (n : ℕ). StandsAt geometry_type numbers (at + 1) (next geometry_type state (command_integer id (n / 8)))) here
    (command_leads geometry_type (start geometry_type) numbers at state id fewest most asks next_there.there next_there.within
    (ap (λ (n : ℕ). n % 8) here ∙ is.fits) (omega (arith, ap (λ (n : ℕ). n / 8) here, is.enough)) (omega (arith, ap (λ (n : ℕ). n / 8) here, is.few)))

-- any other number is a fault
pub command_faults : (geometry_type : GeometryType) (state : State) (id fewest most number : ℕ) (code : CommandCode) → AsksCommand geometry_type state id fewest most
    → IsNoCommand id fewest most number code → Faults geometry_type state number code
command_faults geometry_type state id fewest most number code asks (other_command other is) numbers at next_there =
    subst (λ (it : CommandCode). IsFaulty geometry_type numbers (command_code it) at) (sym is)
    (other_command_there geometry_type (start geometry_type) numbers at state id fewest most asks next_there.there next_there.within
    (subst (λ (n : ℕ). n % 8 ≢ id) (sym next_there.here) other))
command_faults geometry_type state id fewest most number code asks (other_count same bad is) numbers at next_there =
    subst (λ (it : CommandCode). IsFaulty geometry_type numbers (command_code it) at) (sym is)
    (other_count_there geometry_type (start geometry_type) numbers at state id fewest most asks next_there.there next_there.within
    (subst (λ (n : ℕ). n % 8 ≡ id) (sym next_there.here) same)
    (subst (λ (n : ℕ). fewest ≤ n / 8 → n / 8 ≤ most → ⊥) (sym next_there.here) bad))

-- the LineTo asks for as many positions as its type needs
pub asks_line : (geometry_type : GeometryType) (from : Position) (fewest : ℕ) → fewest ≡ least geometry_type → AsksCommand geometry_type (line_command from) line_to fewest greatest_count
asks_line geometry_type from fewest is_least = subst (λ (n : ℕ). AsksCommand geometry_type (line_command from) line_to n greatest_count) (sym is_least) (of_line from)

-- so many steps are due after the command of points
pub points_go : (geometry_type : GeometryType) (from : Position) (count number : ℕ) → from ≡ origin → count ≡ number / 8 → IsCommandOf move_to 1 greatest_count number
    → Goes geometry_type points_command number (step_x (to_point (count - 1)) from)
points_go geometry_type from count number is_origin is_count is =
    let left : command_integer move_to (number / 8) / 8 - 1 ≡ count - 1 = omega arith in
    subst (λ (it : Position). Goes geometry_type points_command number (step_x (to_point (count - 1)) it)) (sym is_origin)
    (subst (λ (n : ℕ). Goes geometry_type points_command number (step_x (to_point n) origin)) left
    (command_goes geometry_type points_command move_to 1 greatest_count number of_points is))

-- and after the LineTo of a line or ring
pub line_goes : (geometry_type : GeometryType) (from : Position) (fewest count number : ℕ) → fewest ≡ least geometry_type → count ≡ number / 8 → IsCommandOf line_to fewest greatest_count number
    → Goes geometry_type (line_command from) number (step_x (to_next (count - 1)) from)
line_goes geometry_type from fewest count number is_least is_count is =
    let left : command_integer line_to (number / 8) / 8 - 1 ≡ count - 1 = omega arith in
    subst (λ (n : ℕ). Goes geometry_type (line_command from) number (step_x (to_next n) from)) left
    (command_goes geometry_type (line_command from) line_to fewest greatest_count number (asks_line geometry_type from fewest is_least) is)

-- Parameters

-- a parameter that leads nowhere is a fault
pub move_faults : (geometry_type : GeometryType) (state : State) (from : ℤ) (number : ℕ) (code : CommandCode) → AsksCoordinate state from
    → IsNoMove from number code → Faults geometry_type state number code
move_faults geometry_type state from number code asks (greatest is_greatest is) numbers at next_there =
    subst (λ (it : CommandCode). IsFaulty geometry_type numbers (command_code it) at) (sym is)
    (greatest_there geometry_type (start geometry_type) state numbers at from asks next_there.there next_there.within (next_there.here ∙ is_greatest))
move_faults geometry_type state from number code asks (outside other far is) numbers at next_there =
    subst (λ (it : CommandCode). IsFaulty geometry_type numbers (command_code it) at) (sym is)
    (outside_there geometry_type (start geometry_type) state numbers at from asks next_there.there next_there.within
    (subst (λ (n : ℕ). n ≢ greatest_parameter) (sym next_there.here) other)
    (subst (λ (n : ℕ). IsCoordinate (from +ℤ unzigzag n) → ⊥) (sym next_there.here) far))

-- the position of the cursor, where it was before an x led from it
before_moved : (from : Position) (x : ℕ) → from ≡ before_x (record { x = from.x +ℤ unzigzag x; y = from.y }) x
before_moved from x =
    let back : from.x ≡ (from.x +ℤ unzigzag x) -ℤ unzigzag x = omega (arith, ints) in
    λ i. record { x = back i; y = from.y }

-- an x leads beside the cursor
pub x_goes : (geometry_type : GeometryType) (leg : Leg) (from beside : Position) (number : ℕ) → IsMove from.x number → beside ≡ record { x = from.x +ℤ unzigzag number; y = from.y }
    → Goes geometry_type (step_x leg from) number (step_y leg (before_x beside number) number)
x_goes geometry_type leg from beside number move there numbers at next_there =
    let here = next_there.here in
    let same : from ≡ before_x beside number = before_moved from number ∙ ap (λ (it : Position). before_x it number) (sym there) in
    subst (λ (it : Position). StandsAt geometry_type numbers (at + 1) (step_y leg it number)) same
    (subst (λ (n : ℕ). StandsAt geometry_type numbers (at + 1) (step_y leg from n)) here
    (leads_on geometry_type (start geometry_type) numbers at (step_x leg from) next_there.there next_there.within (subst (λ (n : ℕ). IsMove from.x n) (sym here) move)))

-- where a step leads whose x led beside the cursor
moved_beside : (beside : Position) (x y : ℕ) → moved (before_x beside x) x y ≡ record { x = beside.x; y = beside.y +ℤ unzigzag y }
moved_beside beside x y =
    let there : (beside.x -ℤ unzigzag x) +ℤ unzigzag x ≡ beside.x = omega (arith, ints) in
    λ i. record { x = there i; y = beside.y +ℤ unzigzag y }

-- a y leads after the step, where it goes elsewhere
pub y_goes : (geometry_type : GeometryType) (leg : Leg) (beside to : Position) (x number : ℕ) → IsMove beside.y number → to ≡ record { x = beside.x; y = beside.y +ℤ unzigzag number }
    → GoesElsewhere leg x number → Goes geometry_type (step_y leg (before_x beside x) x) number (following geometry_type leg to)
y_goes geometry_type leg beside to x number move there elsewhere numbers at next_there =
    let here = next_there.here in
    subst (λ (it : Position). StandsAt geometry_type numbers (at + 1) (following geometry_type leg it)) (moved_beside beside x number ∙ sym there)
    (subst (λ (n : ℕ). StandsAt geometry_type numbers (at + 1) (following geometry_type leg (moved (before_x beside x) x n))) here
    (leads_on geometry_type (start geometry_type) numbers at (step_y leg (before_x beside x) x) next_there.there next_there.within
    (subst (λ (n : ℕ). IsMove beside.y n × GoesElsewhere leg x n) (sym here) (move, elsewhere))))

-- Steps that stay

-- the codes that apply to a y
y_code_is : (id : ℕ) (from : ℤ) (x n code : ℕ) → Applies (y_of_step id from x) n code → (n ≡ greatest_parameter) ⊎ LeavesRange from n ⊎ (code ≡ 406)
y_code_is _ _ _ _ _ (greatest_y id from x) = inl refl
y_code_is _ _ _ _ _ (y_outside id from x n leaves) = inr (inl leaves)
y_code_is _ _ _ _ _ (no_step from) = inr (inr refl)

-- of a LineTo that stays it is the first
stays_first : (from : ℤ) (x n : ℕ) → x ≡ 0 → n ≡ 0 → IsCoordinate (from +ℤ unzigzag n) → IsFirstCode (y_of_step line_to from x) n 406
stays_first from x n none_x none_y inside = record {
  applies = subst (λ (m : ℕ). Applies (y_of_step line_to from m) n 406) (sym none_x) (subst (λ (m : ℕ). Applies (y_of_step line_to from 0) m 406) (sym none_y) (no_step from));
  first = λ code applies. elim (y_code_is line_to from x n code applies) [
    | inl same ↦ absurd (omega arith)
    | inr more ↦ elim more [ inl leaves ↦ absurd (stays_inside from n inside leaves) | inr is ↦ omega arith ]
  ];
}

-- and a fault
line_faults : (geometry_type : GeometryType) (left : ℕ) (beside : Position) (x number : ℕ) → IsMove beside.y number → x ≡ 0 → number ≡ 0
    → Faults geometry_type (step_y (to_next left) (before_x beside x) x) number NoStep
line_faults geometry_type left beside x number move none_x none_y numbers at next_there =
    let here = next_there.here in
    let none = here ∙ none_y in
    let inside = subst (λ (n : ℕ). IsCoordinate (beside.y +ℤ unzigzag n)) (sym here) move.there in
    blamed_there geometry_type (start geometry_type) numbers at (step_y (to_next left) (before_x beside x) x) 406 next_there.there next_there.within
    (λ both. both.1 none_x none)
    (not_allowed (y_of_step line_to beside.y x) refl (stays_first beside.y x (get_or numbers at 0) none_x none inside))

pub stay_faults : (geometry_type : GeometryType) (leg : Leg) (beside : Position) (x number : ℕ) → IsMove beside.y number → IsStay leg x number
    → Faults geometry_type (step_y leg (before_x beside x) x) number NoStep
stay_faults geometry_type leg beside x number move stay =
    subst (λ (it : Leg). Faults geometry_type (step_y it (before_x beside x) x) number NoStep) (sym stay.of_line) (line_faults geometry_type stay.left beside x number move stay.none_x stay.none_y)

-- no number may stand after all points
pub drawn_faults : (geometry_type : GeometryType) (number : ℕ) → Faults geometry_type all_drawn number OtherCommand
drawn_faults geometry_type number numbers at next_there =
    blamed_there geometry_type (start geometry_type) numbers at all_drawn 401 next_there.there next_there.within (λ refused. refused) (not_due refl refl)
