-- The first code that applies to a number where a part is due.
use Rattle.std.proofs.Common.{◌≡◌, ◌≢◌, ℕ, ◌%◌, ◌≤◌, ◌⊎◌, inl, inr, ℤ, ◌+ℤ◌, refl, sym, subst, arith}
use Rattle.mvt_plane.specs.Position.{IsCoordinate}
use Rattle.mvt_plane.specs.Commands.Figure.{line_to}
use Rattle.mvt_plane.specs.Commands.CommandFault.{Part, command, x_of_step, y_of_step, greatest_parameter, LeavesRange, Applies, other_command, other_count, greatest_x, greatest_y, x_outside, y_outside, no_step}
use Rattle.mvt_plane.specs.Commands.Drawing.{unzigzag, IsFirstCode}
use Rattle.mvt_plane.proofs.Spelling.Parameters.{zigzag-unzigzag}

-- what a code says of a parameter
abbrev SenseOfParameter : ℤ → ℕ → ℕ → Type 0
SenseOfParameter from n code = ((n ≡ greatest_parameter) × (code ≡ 404)) ⊎ (LeavesRange from n × (code ≡ 405)) ⊎ ((n ≡ 0) × (code ≡ 406))

-- and of a number where a part is due
abbrev Sense : Part → ℕ → ℕ → Type 0
Sense (command id) n code = ((n % 8 ≢ id) × (code ≡ 401)) ⊎ ((n % 8 ≡ id) × (code ≡ 402))
Sense (x_of_step from) n code = SenseOfParameter from n code
Sense (y_of_step id from x) n code = SenseOfParameter from n code

-- a code that applies says that
sense : (part : Part) (n code : ℕ) → Applies part n code → Sense part n code
sense _ _ _ (other_command id n other) = inl (other, refl)
sense _ _ _ (other_count id n same) = inr (same, refl)
sense _ _ _ (greatest_x from) = inl (refl, refl)
sense _ _ _ (greatest_y id from x) = inl (refl, refl)
sense _ _ _ (x_outside from n leaves) = inr (inl (leaves, refl))
sense _ _ _ (y_outside id from x n leaves) = inr (inl (leaves, refl))
sense _ _ _ (no_step from) = inr (inr (refl, refl))

-- 404 is the least code of a parameter
least_404 : (from : ℤ) (n code : ℕ) → SenseOfParameter from n code → 404 ≤ code
least_404 from n code is = omega arith

-- 405 is, but for the greatest
least_405 : (from : ℤ) (n code : ℕ) → n ≢ greatest_parameter → SenseOfParameter from n code → 405 ≤ code
least_405 from n code other is = omega arith

-- of another command
pub other_command_first : (id n : ℕ) → n % 8 ≢ id → IsFirstCode (command id) n 401
other_command_first id n other = record { applies = other_command id n other; first = λ code applies. let is = sense (command id) n code applies in omega arith }

-- of a count that isn't allowed
pub other_count_first : (id n : ℕ) → n % 8 ≡ id → IsFirstCode (command id) n 402
other_count_first id n same = record { applies = other_count id n same; first = λ code applies. let is = sense (command id) n code applies in omega arith }

-- of the greatest parameter
pub greatest_x_first : (from : ℤ) (n : ℕ) → n ≡ greatest_parameter → IsFirstCode (x_of_step from) n 404
greatest_x_first from n greatest = record {
  applies = subst (λ (m : ℕ). Applies (x_of_step from) m 404) (sym greatest) (greatest_x from);
  first = λ code applies. least_404 from n code (sense (x_of_step from) n code applies);
}

pub greatest_y_first : (id : ℕ) (from : ℤ) (x n : ℕ) → n ≡ greatest_parameter → IsFirstCode (y_of_step id from x) n 404
greatest_y_first id from x n greatest = record {
  applies = subst (λ (m : ℕ). Applies (y_of_step id from x) m 404) (sym greatest) (greatest_y id from x);
  first = λ code applies. least_404 from n code (sense (y_of_step id from x) n code applies);
}

-- of one that leads out of range
pub x_outside_first : (from : ℤ) (n : ℕ) → n ≢ greatest_parameter → (IsCoordinate (from +ℤ unzigzag n) → ⊥) → IsFirstCode (x_of_step from) n 405
x_outside_first from n other outside = record {
  applies = x_outside from n (unzigzag n, zigzag-unzigzag n, outside);
  first = λ code applies. least_405 from n code other (sense (x_of_step from) n code applies);
}

pub y_outside_first : (id : ℕ) (from : ℤ) (x n : ℕ) → n ≢ greatest_parameter → (IsCoordinate (from +ℤ unzigzag n) → ⊥) → IsFirstCode (y_of_step id from x) n 405
y_outside_first id from x n other outside = record {
  applies = y_outside id from x n (unzigzag n, zigzag-unzigzag n, outside);
  first = λ code applies. least_405 from n code other (sense (y_of_step id from x) n code applies);
}

-- of a LineTo that stays
pub no_step_first : (from : ℤ) (x n : ℕ) → ¬ LeavesRange from n → x ≡ 0 → n ≡ 0 → IsFirstCode (y_of_step line_to from x) n 406
no_step_first from x n stays none_x none_y = record {
  applies = subst (λ (m : ℕ). Applies (y_of_step line_to from m) n 406) (sym none_x) (subst (λ (m : ℕ). Applies (y_of_step line_to from 0) m 406) (sym none_y) (no_step from));
  first = λ code applies. elim (sense (y_of_step line_to from x) n code applies) [
    | inl same ↦ absurd (omega (arith, same.0))
    | inr (inl leaving) ↦ absurd (stays leaving.0)
    | inr (inr none) ↦ omega arith
  ];
}
