-- How a pass gets on that keeps the sum of parameters and no position.
use Rattle.std.proofs.Common.{◌≡◌, ℕ, zero, suc, ◌+◌, ◌-◌, ◌/◌, ◌^◌, ◌<◌, ◌≤◌, Bool, true, false, List, [], ◌∷◌, drop, get_or, ℤ, pos, negsuc, ◌+ℤ◌, Option, Some, None, refl, sym, subst, arith}
use Rattle.std.specs.Option.{IfSome}
use Rattle.std.proofs.lemmas.Int.{ints}
use Rattle.std.proofs.lemmas.Option.{same_Some}
use Rattle.mvt_plane.proofs.Spelling.Parameters.{zigzag-unzigzag}
use Rattle.mvt_plane.proofs.Spelling.Readers.{command_leads, line_left, points_left, step_leads, whole_there}
use Rattle.mvt_plane.specs.Calls.Reading.{StandsAt}
use Rattle.mvt_plane.specs.Commands.Drawing.{IsMove, Leg, to_point, to_first, to_next, MayEnd, State, following, line_command, moved, next, path_command, points_command, start, step_x, unzigzag}
use Rattle.mvt_plane.specs.Commands.Figure.{GeometryType, IsCount, command_integer, line_string, line_to, move_to, point, zigzag}
use Rattle.mvt_plane.specs.Commands.Reading.{AsksCommand, IsWhole, greatest_count, is_line, of_line, of_path, of_points, with_left}
use Rattle.mvt_plane.specs.Position.{Position, origin}
use Rattle.mvt_wire.proofs.FieldNumbers.Sources.{at_end}
use Rattle.mvt_draw.proofs.Sources.{number_left, pair_left}
use Rattle.mvt_draw.specs.Calls.Reach.{Follows, IsNear, Reaches}

-- How far parameters lead

-- a signed number is no further from 0 than the parameter that encodes it
near_zigzag : (z : ℤ) → IsNear (zigzag z) z
near_zigzag (pos k) = (omega (arith, ints), omega (arith, ints))
near_zigzag (negsuc k) = (omega (arith, ints), omega (arith, ints))

leads_near : (n : ℕ) → IsNear n (unzigzag n)
leads_near n = subst (λ (m : ℕ). IsNear m (unzigzag n)) (zigzag-unzigzag n) (near_zigzag (unzigzag n))

-- a parameter leads no further than that
goes_near : (from : ℤ) (reach further n : ℕ) → n ≤ further → IsNear reach from → IsNear (reach + further) (from +ℤ unzigzag n)
goes_near from reach further n fits near =
    let step = leads_near n in (omega (arith, ints, step.0, step.1, near.0, near.1), omega (arith, ints, step.0, step.1, near.0, near.1))

-- and is a move where it doesn't leave the range
is_move : (from : ℤ) (reach n : ℕ) → reach + n ≤ 2 ^ 30 → IsNear reach from → IsMove from n
is_move from reach n small near =
    let step = leads_near n in
    record {
      parameter = (omega (arith, ints, step.0, step.1), omega (arith, ints, step.0, step.1));
      there = (omega (arith, ints, step.0, step.1, near.0, near.1), omega (arith, ints, step.0, step.1, near.0, near.1));
    }

-- Numbers that are left

-- a number that a source gave was in front of those that it leaves
pub first_given : (Before After : List ℕ → Type 0) (given : Option ℕ) (n : ℕ) → given ≡ Some n
    → IfSome given (λ number. (numbers : List ℕ) → Before numbers → (rest : List ℕ) × (numbers ≡ number ∷ rest) × After rest)
    → (numbers : List ℕ) → Before numbers → Follows n After numbers
first_given Before After None n is number = cc
first_given Before After (Some first) n is number = λ numbers left. subst (λ (it : ℕ). Follows it After numbers) (same_Some first n is) (number numbers left)

module _ (geometry_type : GeometryType) (numbers : List ℕ) where
  -- those that are left, by other words
  pub same_left : (Before After : List ℕ → Type 0) (reach : ℕ) (state : Position → State) → ((left : List ℕ) → Before left → After left)
      → Reaches geometry_type numbers Before reach state → Reaches geometry_type numbers After reach state
  same_left Before After reach state leaves from = record {
    index = from.index;
    left = leaves (drop from.index numbers) from.left;
    stands = from.stands;
  }

  -- states that are the same at each position
  same_state : (Leaves : List ℕ → Type 0) (reach : ℕ) (state other : Position → State) → ((p : Position) → state p ≡ other p)
      → Reaches geometry_type numbers Leaves reach state → Reaches geometry_type numbers Leaves reach other
  same_state Leaves reach state other same from = record {
    index = from.index;
    left = from.left;
    stands = λ near.
        let before = from.stands near in
        record {
          position = before.position;
          x = before.x;
          y = before.y;
          stands = subst (λ (it : State). StandsAt geometry_type numbers from.index it) (same before.position) before.stands;
        };
  }

-- Commands

module _ (geometry_type : GeometryType) (numbers : List ℕ) (After : List ℕ → Type 0) (id fewest most count : ℕ) (small : id < 8) (enough : fewest ≤ count) (few : count ≤ most) where
  -- a command leads on from where it is asked for
  command_at : (index : ℕ) (state : State) → AsksCommand geometry_type state id fewest most → Follows (command_integer id count) After (drop index numbers)
      → StandsAt geometry_type numbers index state → StandsAt geometry_type numbers (index + 1) (next geometry_type state (command_integer id count))
  command_at index state asks given stands =
      let there = number_left After numbers index (command_integer id count) given in
      let number : get_or numbers index 0 ≡ command_integer id count = there.0.1 in
      let so_many : get_or numbers index 0 / 8 ≡ count = omega arith in
      subst (λ (n : ℕ). StandsAt geometry_type numbers (index + 1) (next geometry_type state (command_integer id n))) so_many
      (command_leads geometry_type (start geometry_type) numbers index state id fewest most asks stands there.0.0 (omega arith) (omega arith) (omega arith))

  after_command : (Before : List ℕ → Type 0) (reach : ℕ) (state : Position → State) → ((p : Position) → AsksCommand geometry_type (state p) id fewest most)
      → ((left : List ℕ) → Before left → Follows (command_integer id count) After left)
      → Reaches geometry_type numbers Before reach state → Reaches geometry_type numbers After reach (λ p. next geometry_type (state p) (command_integer id count))
  after_command Before reach state asks given from =
      let next_given = given (drop from.index numbers) from.left in
      record {
        index = from.index + 1;
        left = (number_left After numbers from.index (command_integer id count) next_given).1;
        stands = λ near.
            let before = from.stands near in
            record {
              position = before.position;
              x = before.x;
              y = before.y;
              stands = command_at from.index (state before.position) (asks before.position) next_given before.stands;
            };
      }

-- Steps

-- the two parameters of a step lead on
pub after_step : (geometry_type : GeometryType) (numbers : List ℕ) (Before After : List ℕ → Type 0) (leg : Leg) (reach x y : ℕ)
    → ((left : List ℕ) → Before left → (rest : List ℕ) × (left ≡ x ∷ y ∷ rest) × After rest) → (is_line leg ≡ true → 0 < x + y)
    → Reaches geometry_type numbers Before reach (step_x leg) → Reaches geometry_type numbers After (reach + (x + y)) (following geometry_type leg)
after_step geometry_type numbers Before After leg reach x y given elsewhere from =
    let there = pair_left After numbers from.index x y (given (drop from.index numbers) from.left) in
    let at_x : get_or numbers from.index 0 ≡ x = there.0.1 in
    let at_y : get_or numbers (from.index + 1) 0 ≡ y = there.0.2 in
    record {
      index = from.index + 2;
      left = there.1;
      stands = λ small.
          let before = from.stands (omega arith) in
          let position = before.position in
          record {
            position = moved position x y;
            x = goes_near position.x reach (x + y) x (omega arith) before.x;
            y = goes_near position.y reach (x + y) y (omega arith) before.y;
            stands = step_leads geometry_type (start geometry_type) numbers from.index leg position (moved position x y) before.stands there.0.0
                (subst (λ (n : ℕ). IsMove position.x n) (sym at_x) (is_move position.x reach x (omega arith) before.x))
                (subst (λ (n : ℕ). IsMove position.y n) (sym at_y) (is_move position.y reach y (omega arith) before.y))
                (λ line none_x none_y. let some = elsewhere line in omega arith)
                (λ i. moved position (at_x i) (at_y i));
          };
    }

-- with steps to go, the next one leads to where one less is to go
module _ (geometry_type : GeometryType) (numbers : List ℕ) (Before After : List ℕ → Type 0) (reach further : ℕ) where
  one_step : (line : Bool) (left : ℕ)
      → ((leg : Leg) → is_line leg ≡ line → Reaches geometry_type numbers Before reach (step_x leg) → Reaches geometry_type numbers After further (following geometry_type leg))
      → Reaches geometry_type numbers Before reach (with_left geometry_type line (suc left)) → Reaches geometry_type numbers After further (with_left geometry_type line left)
  one_step true zero passes from = passes (to_next 0) refl from
  one_step true (suc left) passes from = passes (to_next (suc left)) refl from
  one_step false zero passes from = passes (to_point 0) refl from
  one_step false (suc left) passes from = passes (to_point (suc left)) refl from

  pub next_step : (line : Bool) (left : ℕ) → 0 < left
      → ((leg : Leg) → is_line leg ≡ line → Reaches geometry_type numbers Before reach (step_x leg) → Reaches geometry_type numbers After further (following geometry_type leg))
      → Reaches geometry_type numbers Before reach (with_left geometry_type line left) → Reaches geometry_type numbers After further (with_left geometry_type line (left - 1))
  next_step line left some passes from =
      let one_more : left ≡ suc (left - 1) = omega arith in
      one_step line (left - 1) passes (subst (λ (n : ℕ). Reaches geometry_type numbers Before reach (with_left geometry_type line n)) one_more from)

-- Where a geometry begins and ends

-- nothing has led anywhere
at_origin : IsNear 0 (pos 0)
at_origin = (omega (arith, ints), omega (arith, ints))

-- after the MoveTo of points
pub begin_points : (numbers : List ℕ) (Before After : List ℕ → Type 0) (count : ℕ) → 1 ≤ count → IsCount count → Before numbers
    → ((left : List ℕ) → Before left → Follows (command_integer move_to count) After left) → Reaches point numbers After 0 (with_left point false count)
begin_points numbers Before After count some few left given = record {
  index = 1;
  left = (number_left After numbers 0 (command_integer move_to count) (given numbers left)).1;
  stands = λ near. record {
    position = origin;
    x = at_origin;
    y = at_origin;
    stands = subst (λ (it : State). StandsAt point numbers 1 it) (points_left point count some)
        (command_at point numbers After move_to 1 greatest_count count (omega arith) some (omega arith) 0 points_command of_points (given numbers left) refl);
  };
}

-- in front of the first line
pub begin_lines : (numbers : List ℕ) (After : List ℕ → Type 0) (first : ℕ) → Follows first After numbers → Reaches line_string numbers (Follows first After) 0 (path_command false)
begin_lines numbers After first given = record {
  index = 0;
  left = given;
  stands = λ near. record {
    position = origin;
    x = at_origin;
    y = at_origin;
    stands = refl;
  };
}

-- after the MoveTo of a line
pub begin_line : (numbers : List ℕ) (After : List ℕ → Type 0) (reach : ℕ) (drawn : Bool) → Reaches line_string numbers (Follows (command_integer move_to 1) After) reach (path_command drawn)
    → Reaches line_string numbers After reach (step_x to_first)
begin_line numbers After reach drawn from =
    after_command line_string numbers After move_to 1 1 1 (omega arith) (omega arith) (omega arith) (Follows (command_integer move_to 1) After) reach (path_command drawn) (of_path drawn) (λ left given. given) from

-- after its LineTo
pub begin_steps : (numbers : List ℕ) (Before After : List ℕ → Type 0) (reach count : ℕ) → 1 ≤ count → IsCount count
    → ((left : List ℕ) → Before left → Follows (command_integer line_to count) After left)
    → Reaches line_string numbers Before reach line_command → Reaches line_string numbers After reach (with_left line_string true count)
begin_steps numbers Before After reach count some few given from =
    same_state line_string numbers After reach (λ (p : Position). next line_string (line_command p) (command_integer line_to count)) (with_left line_string true count) (λ p. line_left line_string p count some)
    (after_command line_string numbers After line_to 1 greatest_count count (omega arith) some (omega arith) Before reach line_command of_line given from)

-- where no number is left and they may end
pub ends_whole : (geometry_type : GeometryType) (numbers : List ℕ) (Leaves : List ℕ → Type 0) (reach : ℕ) (state : Position → State) → reach ≤ 2 ^ 30
    → ((left : List ℕ) → Leaves left → left ≡ []) → ((p : Position) → MayEnd (state p)) → Reaches geometry_type numbers Leaves reach state → IsWhole geometry_type numbers
ends_whole geometry_type numbers Leaves reach state near end may from =
    let last = from.stands near in
    whole_there geometry_type (start geometry_type) numbers from.index (state last.position) last.stands (at_end numbers from.index (end (drop from.index numbers) from.left)) (may last.position)
