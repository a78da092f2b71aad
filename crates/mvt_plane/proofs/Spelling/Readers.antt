-- What is so of numbers that are read on: each one that is allowed leads further, and the first that isn't is the
-- fault.
use Rattle.std.proofs.Common.{◌≡◌, ◌≢◌, ℕ, zero, suc, ◌+◌, ◌-◌, ◌/◌, ◌%◌, ◌^◌, ◌<◌, ◌≤◌, Bool, true, false, List, [], ◌∷◌, length, get_or, ℤ, pos, negsuc, ◌+ℤ◌, Some, refl, sym, ◌∙◌, ap, subst, arith, add-one}
use Rattle.std.proofs.lemmas.Int.{ints}
use Rattle.mvt_plane.proofs.Spelling.FirstCodes.{other_command_first, other_count_first, greatest_x_first, greatest_y_first, x_outside_first, y_outside_first, no_step_first}
use Rattle.mvt_plane.proofs.Spelling.Parameters.{zigzag-unzigzag, unzigzag-zigzag}
use Rattle.mvt_plane.specs.Commands.CommandFault.{command, x_of_step, y_of_step, greatest_parameter, LeavesRange}
use Rattle.mvt_plane.specs.Commands.Drawing.{Leg, to_point, to_first, to_next, State, points_command, path_command, line_command, close_command, step_x, step_y, due, id_of, IsMove, IsAllowed, GoesElsewhere, MayEnd, moved, following, after_path, next, Passes, state_after, unzigzag, IsBlamed, not_allowed, FaultFrom}
use Rattle.mvt_plane.specs.Commands.Figure.{GeometryType, zigzag, move_to, line_to, command_integer, IsParameter}
use Rattle.mvt_plane.specs.Position.{Position, origin, IsCoordinate}
use Rattle.mvt_plane.specs.Commands.Reading.{Leads, AsksCommand, of_points, of_path, of_line, of_close, AsksCoordinate, of_x, of_y, is_line, with_left, path_type}

-- How far the numbers are allowed

-- the place is within the numbers
pub leads_within : (geometry_type : GeometryType) (from : State) (numbers : List ℕ) (index : ℕ) (to : State) → Leads geometry_type from numbers index to → index ≤ length numbers
leads_within geometry_type from numbers zero to leads = omega arith
leads_within geometry_type from [] (suc index) to leads = absurd leads
leads_within geometry_type from (n ∷ rest) (suc index) to leads =
    let within = leads_within geometry_type (next geometry_type from n) rest index to leads.1 in
    omega arith

-- one number further
leads_suc : (geometry_type : GeometryType) (from : State) (numbers : List ℕ) (index : ℕ) (to : State) → Leads geometry_type from numbers index to → index < length numbers
    → IsAllowed geometry_type to (get_or numbers index 0) → Leads geometry_type from numbers (suc index) (next geometry_type to (get_or numbers index 0))
leads_suc geometry_type from [] index to leads within allowed = absurd (omega arith)
leads_suc geometry_type from (n ∷ rest) zero to leads within allowed =
    (subst (λ (s : State). IsAllowed geometry_type s n) (sym leads) allowed, ap (λ (s : State). next geometry_type s n) leads)
leads_suc geometry_type from (n ∷ rest) (suc index) to leads within allowed =
    (leads.0, leads_suc geometry_type (next geometry_type from n) rest index to leads.1 (omega arith) allowed)

pub leads_on : (geometry_type : GeometryType) (from : State) (numbers : List ℕ) (index : ℕ) (to : State) → Leads geometry_type from numbers index to → index < length numbers
    → IsAllowed geometry_type to (get_or numbers index 0) → Leads geometry_type from numbers (index + 1) (next geometry_type to (get_or numbers index 0))
leads_on geometry_type from numbers index to leads within allowed =
    subst (λ (i : ℕ). Leads geometry_type from numbers i (next geometry_type to (get_or numbers index 0))) (sym (add-one index)) (leads_suc geometry_type from numbers index to leads within allowed)

-- a number that isn't allowed is the fault
pub blamed_there : (geometry_type : GeometryType) (from : State) (numbers : List ℕ) (index : ℕ) (to : State) (code : ℕ) → Leads geometry_type from numbers index to → index < length numbers
    → (IsAllowed geometry_type to (get_or numbers index 0) → ⊥) → IsBlamed to (get_or numbers index 0) code → FaultFrom geometry_type from numbers code index
blamed_there geometry_type from [] index to code leads within refused blamed = absurd (omega arith)
blamed_there geometry_type from (n ∷ rest) zero to code leads within refused blamed =
    subst (λ (s : State). FaultFrom geometry_type s (n ∷ rest) code 0) (sym leads) (refused, blamed)
blamed_there geometry_type from (n ∷ rest) (suc index) to code leads within refused blamed =
    (leads.0, blamed_there geometry_type (next geometry_type from n) rest index to code leads.1 (omega arith) refused blamed)

-- so is an end where the numbers may not end
pub unfinished_there : (geometry_type : GeometryType) (from : State) (numbers : List ℕ) (index : ℕ) (to : State) → Leads geometry_type from numbers index to → length numbers ≤ index
    → (MayEnd to → ⊥) → FaultFrom geometry_type from numbers 403 index
unfinished_there geometry_type from [] zero to leads past more = (subst (λ (s : State). MayEnd s → ⊥) (sym leads) more, refl, refl)
unfinished_there geometry_type from [] (suc index) to leads past more = absurd leads
unfinished_there geometry_type from (n ∷ rest) zero to leads past more = absurd (omega arith)
unfinished_there geometry_type from (n ∷ rest) (suc index) to leads past more =
    (leads.0, unfinished_there geometry_type (next geometry_type from n) rest index to leads.1 (omega arith) more)

-- at the end all numbers are allowed, and may end where the state may
pub whole_there : (geometry_type : GeometryType) (from : State) (numbers : List ℕ) (index : ℕ) (to : State) → Leads geometry_type from numbers index to → length numbers ≤ index
    → MayEnd to → Passes geometry_type from numbers × MayEnd (state_after geometry_type from numbers)
whole_there geometry_type from [] zero to leads past end = (tt, subst MayEnd (sym leads) end)
whole_there geometry_type from [] (suc index) to leads past end = absurd leads
whole_there geometry_type from (n ∷ rest) zero to leads past end = absurd (omega arith)
whole_there geometry_type from (n ∷ rest) (suc index) to leads past end =
    let more = whole_there geometry_type (next geometry_type from n) rest index to leads.1 (omega arith) end in
    ((leads.0, more.0), more.1)

-- Commands

-- the command is due
command_due : (geometry_type : GeometryType) (state : State) (id fewest most : ℕ) → AsksCommand geometry_type state id fewest most → due state ≡ Some (command id)
command_due geometry_type _ _ _ _ of_points = refl
command_due geometry_type _ _ _ _ (of_path drawn from) = refl
command_due geometry_type _ _ _ _ (of_line from) = refl
command_due geometry_type _ _ _ _ (of_close from) = refl

-- with its id and a count in range it is allowed
pub command_allowed : (geometry_type : GeometryType) (state : State) (id fewest most n : ℕ) → AsksCommand geometry_type state id fewest most
    → n % 8 ≡ id → fewest ≤ n / 8 → n / 8 ≤ most → IsAllowed geometry_type state n
command_allowed geometry_type _ _ _ _ n of_points fits enough few = record { fits = fits; enough = enough; counted = omega arith }
command_allowed geometry_type _ _ _ _ n (of_path drawn from) fits enough few = omega arith
command_allowed geometry_type _ _ _ _ n (of_line from) fits enough few = record { fits = fits; enough = enough; counted = omega arith }
command_allowed geometry_type _ _ _ _ n (of_close from) fits enough few = omega arith

-- and only so
record FitsCommand (id fewest most n : ℕ) : Type 0 where
  fits : n % 8 ≡ id
  enough : fewest ≤ n / 8
  few : n / 8 ≤ most

command_fits : (geometry_type : GeometryType) (state : State) (id fewest most n : ℕ) → AsksCommand geometry_type state id fewest most
    → IsAllowed geometry_type state n → FitsCommand id fewest most n
command_fits geometry_type _ _ _ _ n of_points allowed = record { fits = allowed.fits; enough = allowed.enough; few = omega (arith, allowed.counted) }
command_fits geometry_type _ _ _ _ n (of_path drawn from) allowed = record { fits = omega arith; enough = omega arith; few = omega arith }
command_fits geometry_type _ _ _ _ n (of_line from) allowed = record { fits = allowed.fits; enough = allowed.enough; few = omega (arith, allowed.counted) }
command_fits geometry_type _ _ _ _ n (of_close from) allowed = record { fits = omega arith; enough = omega arith; few = omega arith }

-- another id
pub other_command_there : (geometry_type : GeometryType) (from : State) (numbers : List ℕ) (index : ℕ) (state : State) (id fewest most : ℕ) → AsksCommand geometry_type state id fewest most
    → Leads geometry_type from numbers index state → index < length numbers → get_or numbers index 0 % 8 ≢ id → FaultFrom geometry_type from numbers 401 index
other_command_there geometry_type from numbers index state id fewest most asks leads within other =
    blamed_there geometry_type from numbers index state 401 leads within
    (λ allowed. other (command_fits geometry_type state id fewest most (get_or numbers index 0) asks allowed).fits)
    (not_allowed (command id) (command_due geometry_type state id fewest most asks) (other_command_first id (get_or numbers index 0) other))

-- a count that is out of range
pub other_count_there : (geometry_type : GeometryType) (from : State) (numbers : List ℕ) (index : ℕ) (state : State) (id fewest most : ℕ) → AsksCommand geometry_type state id fewest most
    → Leads geometry_type from numbers index state → index < length numbers → get_or numbers index 0 % 8 ≡ id
    → (fewest ≤ get_or numbers index 0 / 8 → get_or numbers index 0 / 8 ≤ most → ⊥) → FaultFrom geometry_type from numbers 402 index
other_count_there geometry_type from numbers index state id fewest most asks leads within same outside =
    blamed_there geometry_type from numbers index state 402 leads within
    (λ allowed. let fits = command_fits geometry_type state id fewest most (get_or numbers index 0) asks allowed in outside fits.enough fits.few)
    (not_allowed (command id) (command_due geometry_type state id fewest most asks) (other_count_first id (get_or numbers index 0) same))

-- after a command
pub command_leads : (geometry_type : GeometryType) (from : State) (numbers : List ℕ) (index : ℕ) (state : State) (id fewest most : ℕ) → AsksCommand geometry_type state id fewest most
    → Leads geometry_type from numbers index state → index < length numbers → get_or numbers index 0 % 8 ≡ id
    → fewest ≤ get_or numbers index 0 / 8 → get_or numbers index 0 / 8 ≤ most → Leads geometry_type from numbers (index + 1) (next geometry_type state (command_integer id (get_or numbers index 0 / 8)))
command_leads geometry_type from numbers index state id fewest most asks leads within same enough few =
    let n = get_or numbers index 0 in
    let whole : n ≡ command_integer id (n / 8) = whole_command n id same in
    subst (λ (m : ℕ). Leads geometry_type from numbers (index + 1) (next geometry_type state m)) whole
    (leads_on geometry_type from numbers index state leads within (command_allowed geometry_type state id fewest most n asks same enough few))
  where
    whole_command : (n id : ℕ) → n % 8 ≡ id → n ≡ command_integer id (n / 8)
    whole_command n id same = omega arith

-- Parameters

-- all parameters of 32 bits but the greatest encode a step
parameter_of : (z : ℤ) → zigzag z < greatest_parameter → IsParameter z
parameter_of (pos k) small = (omega (arith, ints), omega (arith, ints))
parameter_of (negsuc k) small = (omega (arith, ints), omega (arith, ints))

pub is_parameter : (n : ℕ) → n < 2 ^ 32 → n ≢ greatest_parameter → IsParameter (unzigzag n)
is_parameter n small other = parameter_of (unzigzag n) (subst (λ (m : ℕ). m < greatest_parameter) (sym (zigzag-unzigzag n)) (omega arith))

-- the greatest doesn't
pub greatest_moves_not : (from : ℤ) (n : ℕ) → n ≡ greatest_parameter → IsMove from n → ⊥
greatest_moves_not from n greatest move =
    let value : unzigzag n ≡ negsuc 2147483647 = ap unzigzag greatest in
    let least_step = move.parameter in
    omega (arith, ints)

-- a step of 0 is the parameter 0
pub zero_parameter : (from : ℤ) (n : ℕ) → from +ℤ unzigzag n ≡ from → n ≡ 0
zero_parameter from n stays =
    let none : unzigzag n ≡ pos 0 = omega (arith, ints) in
    sym (zigzag-unzigzag n) ∙ ap zigzag none

-- a number that leads to a coordinate doesn't leave the range
pub stays_inside : (from : ℤ) (n : ℕ) → IsCoordinate (from +ℤ unzigzag n) → LeavesRange from n → ⊥
stays_inside from n inside leaves =
    let step : unzigzag n ≡ leaves.0 = ap unzigzag (sym leaves.1) ∙ unzigzag-zigzag leaves.0 in
    leaves.2 (subst (λ (d : ℤ). IsCoordinate (from +ℤ d)) step inside)

-- where a coordinate is due, an allowed number is a move
coordinate_moves : (geometry_type : GeometryType) (state : State) (from : ℤ) (n : ℕ) → AsksCoordinate state from → IsAllowed geometry_type state n → IsMove from n
coordinate_moves geometry_type _ _ n (of_x leg from) allowed = allowed
coordinate_moves geometry_type _ _ n (of_y leg from x) allowed = allowed.0

-- the numbers may not end there
coordinate_ends_not : (state : State) (from : ℤ) → AsksCoordinate state from → MayEnd state → ⊥
coordinate_ends_not _ _ (of_x leg from) end = end
coordinate_ends_not _ _ (of_y leg from x) end = end

-- the greatest parameter is to blame
greatest_blamed : (state : State) (from : ℤ) (n : ℕ) → AsksCoordinate state from → n ≡ greatest_parameter → IsBlamed state n 404
greatest_blamed _ _ n (of_x leg from) greatest = not_allowed (x_of_step from.x) refl (greatest_x_first from.x n greatest)
greatest_blamed _ _ n (of_y leg from x) greatest = not_allowed (y_of_step (id_of leg) from.y x) refl (greatest_y_first (id_of leg) from.y x n greatest)

-- so is one that leads out of range
outside_blamed : (state : State) (from : ℤ) (n : ℕ) → AsksCoordinate state from → n ≢ greatest_parameter → (IsCoordinate (from +ℤ unzigzag n) → ⊥) → IsBlamed state n 405
outside_blamed _ _ n (of_x leg from) other outside = not_allowed (x_of_step from.x) refl (x_outside_first from.x n other outside)
outside_blamed _ _ n (of_y leg from x) other outside = not_allowed (y_of_step (id_of leg) from.y x) refl (y_outside_first (id_of leg) from.y x n other outside)

-- The faults of a parameter

pub unfinished_coordinate : (geometry_type : GeometryType) (start state : State) (numbers : List ℕ) (index : ℕ) (from : ℤ) → AsksCoordinate state from
    → Leads geometry_type start numbers index state → length numbers ≤ index → FaultFrom geometry_type start numbers 403 index
unfinished_coordinate geometry_type start state numbers index from asks leads past = unfinished_there geometry_type start numbers index state leads past (coordinate_ends_not state from asks)

pub greatest_there : (geometry_type : GeometryType) (start state : State) (numbers : List ℕ) (index : ℕ) (from : ℤ) → AsksCoordinate state from
    → Leads geometry_type start numbers index state → index < length numbers → get_or numbers index 0 ≡ greatest_parameter → FaultFrom geometry_type start numbers 404 index
greatest_there geometry_type start state numbers index from asks leads within greatest =
    let n = get_or numbers index 0 in
    blamed_there geometry_type start numbers index state 404 leads within
    (λ allowed. greatest_moves_not from n greatest (coordinate_moves geometry_type state from n asks allowed)) (greatest_blamed state from n asks greatest)

pub outside_there : (geometry_type : GeometryType) (start state : State) (numbers : List ℕ) (index : ℕ) (from : ℤ) → AsksCoordinate state from
    → Leads geometry_type start numbers index state → index < length numbers → get_or numbers index 0 ≢ greatest_parameter
    → (IsCoordinate (from +ℤ unzigzag (get_or numbers index 0)) → ⊥) → FaultFrom geometry_type start numbers 405 index
outside_there geometry_type start state numbers index from asks leads within other outside =
    let n = get_or numbers index 0 in
    blamed_there geometry_type start numbers index state 405 leads within
    (λ allowed. outside (coordinate_moves geometry_type state from n asks allowed).there) (outside_blamed state from n asks other outside)

-- Steps

-- a step that goes somewhere, or belongs to no LineTo
goes_elsewhere : (leg : Leg) (x y : ℕ) → (is_line leg ≡ true → x ≡ 0 → y ≡ 0 → ⊥) → GoesElsewhere leg x y
goes_elsewhere (to_point left) x y apart = tt
goes_elsewhere to_first x y apart = tt
goes_elsewhere (to_next left) x y apart = apart refl

-- after the two parameters of a step
pub step_leads : (geometry_type : GeometryType) (start : State) (numbers : List ℕ) (index : ℕ) (leg : Leg) (from to : Position) → Leads geometry_type start numbers index (step_x leg from)
    → index + 1 < length numbers → IsMove from.x (get_or numbers index 0) → IsMove from.y (get_or numbers (index + 1) 0)
    → (is_line leg ≡ true → get_or numbers index 0 ≡ 0 → get_or numbers (index + 1) 0 ≡ 0 → ⊥)
    → moved from (get_or numbers index 0) (get_or numbers (index + 1) 0) ≡ to
    → Leads geometry_type start numbers (index + 2) (following geometry_type leg to)
step_leads geometry_type start numbers index leg from to leads within x y apart there =
    let half = leads_on geometry_type start numbers index (step_x leg from) leads (omega arith) x in
    let whole = leads_on geometry_type start numbers (index + 1) (step_y leg from (get_or numbers index 0)) half within (y, goes_elsewhere leg (get_or numbers index 0) (get_or numbers (index + 1) 0) apart) in
    subst (λ (p : Position). Leads geometry_type start numbers (index + 2) (following geometry_type leg p)) there
    (subst (λ (i : ℕ). Leads geometry_type start numbers i (following geometry_type leg (moved from (get_or numbers index 0) (get_or numbers (index + 1) 0)))) (omega arith) whole)

-- a LineTo that stays
pub no_step_there : (geometry_type : GeometryType) (start : State) (numbers : List ℕ) (index : ℕ) (leg : Leg) (from : Position) → is_line leg ≡ true
    → Leads geometry_type start numbers index (step_x leg from) → index + 1 < length numbers → IsMove from.x (get_or numbers index 0) → IsMove from.y (get_or numbers (index + 1) 0)
    → get_or numbers index 0 ≡ 0 → get_or numbers (index + 1) 0 ≡ 0 → FaultFrom geometry_type start numbers 406 (index + 1)
no_step_there geometry_type start numbers index (to_point left) from line leads within x y none_x none_y = cc
no_step_there geometry_type start numbers index to_first from line leads within x y none_x none_y = cc
no_step_there geometry_type start numbers index (to_next left) from line leads within x y none_x none_y =
    let half = leads_on geometry_type start numbers index (step_x (to_next left) from) leads (omega arith) x in
    let at_x = get_or numbers index 0 in
    let at_y = get_or numbers (index + 1) 0 in
    blamed_there geometry_type start numbers (index + 1) (step_y (to_next left) from at_x) 406 half within (λ both. both.1 none_x none_y)
    (not_allowed (y_of_step line_to from.y at_x) refl (no_step_first from.y at_x at_y (stays_inside from.y at_y y.there) none_x none_y))

-- a number is one less than the next
one_less : (left : ℕ) → suc left ≡ suc (suc left) - 1
one_less left = omega arith

-- with steps to go, the next one is due; after it there is one less
pub first_left : (geometry_type : GeometryType) (line : Bool) (left : ℕ) (from : Position) → 0 < left → (leg : Leg) × (is_line leg ≡ line)
    × (with_left geometry_type line left from ≡ step_x leg from) × ((to : Position) → following geometry_type leg to ≡ with_left geometry_type line (left - 1) to)
first_left geometry_type line zero from some = absurd (omega arith)
first_left geometry_type true (suc zero) from some = (to_next 0, refl, refl, λ to. refl)
first_left geometry_type true (suc (suc left)) from some = (to_next (suc left), refl, refl, λ to. ap (λ (n : ℕ). with_left geometry_type true n to) (one_less left))
first_left geometry_type false (suc zero) from some = (to_point 0, refl, refl, λ to. refl)
first_left geometry_type false (suc (suc left)) from some = (to_point (suc left), refl, refl, λ to. ap (λ (n : ℕ). with_left geometry_type false n to) (one_less left))

-- after a command that steps follow
pub points_left : (geometry_type : GeometryType) (count : ℕ) → 1 ≤ count → next geometry_type points_command (command_integer move_to count) ≡ with_left geometry_type false count origin
points_left geometry_type zero some = absurd (omega arith)
points_left geometry_type (suc left) some = ap (λ (n : ℕ). step_x (to_point n) origin) (omega arith)

pub line_left : (geometry_type : GeometryType) (from : Position) (count : ℕ) → 1 ≤ count → next geometry_type (line_command from) (command_integer line_to count) ≡ with_left geometry_type true count from
line_left geometry_type from zero some = absurd (omega arith)
line_left geometry_type from (suc left) some = ap (λ (n : ℕ). step_x (to_next n) from) (omega arith)

-- after the last position of a line, and of a ring
pub after_line : (closed : Bool) (to : Position) → closed ≡ false → after_path (path_type closed) to ≡ path_command true to
after_line false to is_closed = refl
after_line true to is_closed = cc

pub after_ring : (closed : Bool) (to : Position) → closed ≡ true → after_path (path_type closed) to ≡ close_command to
after_ring false to is_closed = cc
after_ring true to is_closed = refl
