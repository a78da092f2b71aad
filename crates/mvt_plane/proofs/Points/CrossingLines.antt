-- Two lines that aren't parallel have one rational point in common.
use Rattle.std.proofs.Common.{◌≡◌, [], ◌∷◌, ℤ, pos, ◌-ℤ◌, ◌*ℤ◌, sym, arith}
use Rattle.mvt_plane.specs.Position.{Position}
use Rattle.mvt_plane.specs.Geometry.RationalPoint.{RationalPoint, whole}
use Rattle.mvt_plane.specs.Geometry.CommonPoint.{cross_product}
use Rattle.mvt_plane.specs.Geometry.Measure.{orientation}
use Rattle.mvt_plane.specs.declared.geometry.edge.Edge.{Edge}
use Rattle.mvt_plane.proofs.Orders.Polynomials.{negated, ◌⊖◌, ◌⊗◌, consequence}
use Rattle.mvt_plane.proofs.Points.Lines.{through}
use Rattle.mvt_plane.proofs.Orders.Order.{zs, cancel_apart}
use Rattle.mvt_plane.proofs.Points.RationalPoints.{IsSame, times_one}

-- the point is on the line through the edge
abbrev pub IsOnLine : RationalPoint → Edge → Type 0
IsOnLine point edge = (edge.b.x -ℤ edge.a.x) *ℤ (point.y -ℤ edge.a.y *ℤ point.w) ≡ (edge.b.y -ℤ edge.a.y) *ℤ (point.x -ℤ edge.a.x *ℤ point.w)

-- two points on two lines that aren't parallel are alike in the first coordinate
one_x : (ax ay ux uy cx cy vx vy px py pw qx qy qw : ℤ) → ¬ (ux *ℤ vy -ℤ uy *ℤ vx ≡ pos 0)
    → ux *ℤ (py -ℤ ay *ℤ pw) ≡ uy *ℤ (px -ℤ ax *ℤ pw) → vx *ℤ (py -ℤ cy *ℤ pw) ≡ vy *ℤ (px -ℤ cx *ℤ pw)
    → ux *ℤ (qy -ℤ ay *ℤ qw) ≡ uy *ℤ (qx -ℤ ax *ℤ qw) → vx *ℤ (qy -ℤ cy *ℤ qw) ≡ vy *ℤ (qx -ℤ cx *ℤ qw) → px *ℤ qw ≡ qx *ℤ pw
one_x ax ay ux uy cx cy vx vy px py pw qx qy qw crossed p_first p_second q_first q_second =
    cancel_apart (ux *ℤ vy -ℤ uy *ℤ vx) _ _ crossed (consequence (ax ∷ ay ∷ ux ∷ uy ∷ cx ∷ cy ∷ vx ∷ vy ∷ px ∷ py ∷ pw ∷ qx ∷ qy ∷ qw ∷ [])
    (λ AX AY UX UY CX CY VX VY PX PY PW QX QY QW. (
      (UX ⊗ VY ⊖ UY ⊗ VX) ⊗ (PX ⊗ QW),
      (UX ⊗ VY ⊖ UY ⊗ VX) ⊗ (QX ⊗ PW),
      through (QW ⊗ VX) UX UY AX AY PX PY PW ∷ through (negated QW ⊗ UX) VX VY CX CY PX PY PW ∷ through (negated PW ⊗ VX) UX UY AX AY QX QY QW ∷ through (PW ⊗ UX) VX VY CX CY QX QY QW ∷ [],
    )) (p_first, (p_second, (q_first, (q_second, tt)))) tt)

-- two points on two lines that aren't parallel are the same
pub one_crossing : (first second : Edge) (point other : RationalPoint) → ¬ (cross_product first second ≡ pos 0)
    → IsOnLine point first → IsOnLine point second → IsOnLine other first → IsOnLine other second → IsSame point other
one_crossing first second point other crossed p_first p_second q_first q_second =
    let a = first.a in
    let ux = first.b.x -ℤ a.x in
    let uy = first.b.y -ℤ a.y in
    let c = second.a in
    let vx = second.b.x -ℤ c.x in
    let vy = second.b.y -ℤ c.y in
    record {
      x = one_x a.x a.y ux uy c.x c.y vx vy point.x point.y point.w other.x other.y other.w crossed p_first p_second q_first q_second;
      y = one_x a.y a.x uy ux c.y c.x vy vx point.y point.x point.w other.y other.x other.w (λ none. crossed (omega (arith, zs))) (sym p_first) (sym p_second) (sym q_first) (sym q_second);
    }

-- ---- positions on lines

-- a position on no side is on the line
pub on_line_by_side : (edge : Edge) (position : Position) → orientation edge.a edge.b position ≡ pos 0 → IsOnLine (whole position) edge
on_line_by_side edge position none = rw (times_one edge.a.x, times_one edge.a.y) (omega (arith, zs))

-- and one on the line is on no side
pub side_by_line : (edge : Edge) (position : Position) → IsOnLine (whole position) edge → orientation edge.a edge.b position ≡ pos 0
side_by_line edge position on_line = let flat = rw (times_one edge.a.x, times_one edge.a.y) at on_line in omega (arith, zs)
