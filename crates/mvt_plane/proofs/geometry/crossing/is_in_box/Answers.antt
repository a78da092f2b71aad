use Rattle.std.proofs.Common.{◌≡◌, ◌↔◌, Bool, ℤ, IsTrue, w32, to_z, of_z, FitsSigned, ◌∙◌}
use Rattle.std.proofs.lemmas.Int.{to_z-of_z}
use Rattle.mvt_plane.specs.Geometry.RationalPoint.{IsBetween}
use Rattle.mvt_plane.proofs.geometry.crossing.is_in_box.Goals as goal

-- what the test says of numbers that are passed on
passed : (r : Bool) (a b z from to at : ℤ) → FitsSigned w32 a → FitsSigned w32 b → FitsSigned w32 z → a ≡ from → b ≡ to → z ≡ at
    → IsTrue r ↔ IsBetween (to_z w32 (of_z w32 a)) (to_z w32 (of_z w32 b)) (to_z w32 (of_z w32 z)) → IsTrue r ↔ IsBetween from to at
passed r a b z from to at a_fits b_fits z_fits a_is b_is z_is test =
    rw (← (to_z-of_z w32 a a_fits ∙ a_is), ← (to_z-of_z w32 b b_fits ∙ b_is), ← (to_z-of_z w32 z z_fits ∙ z_is)) test

pub returns-then-is_between : goal.returns-then-is_between
returns-then-is_between c =
    let x = passed c.is_between.result c.x.result c.x-2.result c.x-3.result c.args.a.x c.args.b.x c.args.position.x
    (record { sfits = c.x.type_inv }) (record { sfits = c.x-2.type_inv }) (record { sfits = c.x-3.type_inv }) c.x.ensures.value c.x-2.ensures.value c.x-3.ensures.value c.is_between.ensures in
    let y = passed c.is_between-then-is_between.result c.y.result c.y-then-is_between.result c.y-then-is_between-2.result c.args.a.y c.args.b.y c.args.position.y
    (record { sfits = c.y.type_inv }) (record { sfits = c.y-then-is_between.type_inv }) (record { sfits = c.y-then-is_between-2.type_inv }) c.y.ensures.value c.y-then-is_between.ensures.value c.y-then-is_between-2.ensures.value
    c.is_between-then-is_between.ensures in
    (λ found. (x.0 c.if-is_between.true, y.0 found), λ both. y.1 both.1)
