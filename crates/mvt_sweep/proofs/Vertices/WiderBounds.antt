-- Bounds that get wider, as the code computes them: by signed numbers of 32 bits.
use Rattle.std.proofs.Common.{◌≡◌, ℤ, ◌≤ℤ◌, ◌<ℤ◌, false, SFits, w32, to_z, of_z, arith}
use Rattle.std.specs.Int.Signed.{le_z}
use Rattle.std.proofs.lemmas.Int.{ints, to_z-of_z}
use Rattle.mvt_plane.proofs.Orders.Order.{zs}

-- a lower bound that is at most another one
pub lower : (it own z : ℤ) → SFits w32 it → SFits w32 own → it ≤ℤ to_z w32 (of_z w32 own) → own ≤ℤ z → to_z w32 (of_z w32 it) ≤ℤ z
lower it own z fits own_fits most least =
    let same = to_z-of_z w32 it fits in
    let its = to_z-of_z w32 own own_fits in
    omega (arith, zs)

-- an upper bound that is at least another one
pub upper : (it own z : ℤ) → SFits w32 it → SFits w32 own → to_z w32 (of_z w32 own) ≤ℤ it → z ≤ℤ own → z ≤ℤ to_z w32 (of_z w32 it)
upper it own z fits own_fits least most =
    let same = to_z-of_z w32 it fits in
    let its = to_z-of_z w32 own own_fits in
    omega (arith, zs)

-- what is the same is within
pub at_most : (a b : ℤ) → a ≡ b → a ≤ℤ b
at_most a b same = omega (arith, zs)

-- also the other way round
pub at_least : (a b : ℤ) → a ≡ b → b ≤ℤ a
at_least a b same = omega (arith, zs)

-- an upper bound is one as the code computes it
pub within_upper : (it z : ℤ) → SFits w32 it → z ≤ℤ it → z ≤ℤ to_z w32 (of_z w32 it)
within_upper it z fits most = let same = to_z-of_z w32 it fits in omega (arith, zs)

-- what is beyond a number as the code reads it is beyond it
pub beyond_read : (it z : ℤ) → SFits w32 it → to_z w32 (of_z w32 it) <ℤ z → it <ℤ z
beyond_read it z fits beyond = let same = to_z-of_z w32 it fits in omega (arith, zs)

-- a test of two numbers that fails
pub not_at_most : (one other : ℤ) → SFits w32 one → SFits w32 other → le_z (to_z w32 (of_z w32 one)) (to_z w32 (of_z w32 other)) ≡ false → other <ℤ one
not_at_most one other fits its_fits fails = grind (arith, ints)
