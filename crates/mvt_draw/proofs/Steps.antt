-- The coordinates of a step, as they were passed and as they are.
use Rattle.std.proofs.Common.{◌≡◌, ℕ, ℤ, pos, ◌+ℤ◌, ap, sym, subst, w32, SFits, to_z, of_z, arith}
use Rattle.std.proofs.lemmas.Int.{ints, to_z-of_z}
use Rattle.mvt_plane.specs.Commands.Drawing.{unzigzag, IsMove}
use Rattle.mvt_plane.specs.Position.{Position}

-- a coordinate as it was passed
abbrev pub passed : ℤ → ℤ
passed z = to_z w32 (of_z w32 z)

-- a parameter of 0 stays
pub stays : (from : ℤ) (n : ℕ) → n ≡ 0 → from +ℤ unzigzag n ≡ from
stays from n none =
    let zero_step : unzigzag n ≡ pos 0 = ap unzigzag none in
    omega (arith, ints)

-- positions of the same coordinates
abbrev pub position : ℤ → ℤ → Position
position x y = record { x = x; y = y }

pub same_position : (x y x' y' : ℤ) → x ≡ x' → y ≡ y' → position x y ≡ position x' y'
same_position x y x' y' same_x same_y = cc

-- what is said of a coordinate as it was passed
pub passed_move : (from to : ℤ) (n : ℕ) → SFits w32 from → IsMove (passed from) n × (to ≡ passed from +ℤ unzigzag n) → IsMove from n × (to ≡ from +ℤ unzigzag n)
passed_move from to n fits = subst (λ (z : ℤ). IsMove z n × (to ≡ z +ℤ unzigzag n) → IsMove from n × (to ≡ from +ℤ unzigzag n)) (sym (to_z-of_z w32 from fits)) (λ move. move)

-- the same of a number that stands at a place
pub there_move : (from to : ℤ) (n m : ℕ) → SFits w32 from → m ≡ n → IsMove (passed from) n × (to ≡ passed from +ℤ unzigzag n) → IsMove from m × (to ≡ from +ℤ unzigzag m)
there_move from to n m fits is move = passed_move from to m fits (subst (λ (k : ℕ). IsMove (passed from) k × (to ≡ passed from +ℤ unzigzag k)) (sym is) move)
