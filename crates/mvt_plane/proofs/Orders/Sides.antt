-- On which side of a line a position is, by the sign of a difference.
use Rattle.std.proofs.Common.{◌≡◌, ◌↔◌, Bool, true, false, IsTrue, Option, Some, Ordering, is_eq, ℤ, pos, [], ◌∷◌, ◌+ℤ◌, ◌-ℤ◌, ◌*ℤ◌, ◌<ℤ◌, int_cmp, refl, sym, ◌∙◌, ap₂, arith}
use Rattle.std.specs.Cmp.{int_cmp_is}
use Rattle.std.specs.Ordering.{MatchOrdering}
use Rattle.std.specs.declared.cmp.Ordering.TheVariants.{Less, Equal, Greater}
use Rattle.std.proofs.lemmas.Cmp.{int_ranked}
use Rattle.mvt_plane.proofs.Orders.Order.{zs}
use Rattle.mvt_plane.proofs.Orders.Polynomials.{unknown, constant, ◌⊕◌, ◌⊖◌, ◌⊗◌, ring}
use Rattle.mvt_plane.proofs.Points.CrossingLines.{on_line_by_side, side_by_line}
use Rattle.mvt_plane.proofs.Points.RationalPoints.{times_one}
use Rattle.mvt_plane.specs.Geometry.Measure.{orientation}
use Rattle.mvt_plane.specs.Position.{Position}
use Rattle.mvt_plane.specs.Geometry.RationalPoint.{RationalPoint, LiesOn, IsAt, IsBetween, whole}
use Rattle.mvt_plane.specs.declared.geometry.edge.Edge.{Edge}

-- two numbers compare as their difference does with 0
pub cmp_by_difference : (a b : ℤ) → int_cmp a b ≡ int_cmp (a -ℤ b) (pos 0)
cmp_by_difference a b = int_cmp_is (a -ℤ b) (pos 0) (int_cmp a b) (ranks (int_cmp a b) (int_ranked a b (int_cmp a b) refl))
  where
    ranks : (r : Ordering) → MatchOrdering r (a <ℤ b) (a ≡ b) (b <ℤ a) → MatchOrdering r ((a -ℤ b) <ℤ pos 0) (a -ℤ b ≡ pos 0) (pos 0 <ℤ (a -ℤ b))
    ranks Less below = omega (arith, zs)
    ranks Equal same = omega (arith, zs)
    ranks Greater above = omega (arith, zs)

-- a line has a position on the other side where it goes the other way
pub turned_back : (from to it : Position) → orientation to from it +ℤ orientation from to it ≡ pos 0
turned_back from to it =
    let FX = unknown 0 in
    let FY = unknown 1 in
    let TX = unknown 2 in
    let TY = unknown 3 in
    let X = unknown 4 in
    let Y = unknown 5 in
    ring (from.x ∷ from.y ∷ to.x ∷ to.y ∷ it.x ∷ it.y ∷ [])
    (((FX ⊖ TX) ⊗ (Y ⊖ TY) ⊖ (FY ⊖ TY) ⊗ (X ⊖ TX)) ⊕ ((TX ⊖ FX) ⊗ (Y ⊖ FY) ⊖ (TY ⊖ FY) ⊗ (X ⊖ FX))) (constant (pos 0)) tt

-- a number that compares as equal to 0 is 0
pub zero_by_side : (z : ℤ) (r : Ordering) → r ≡ int_cmp z (pos 0) → is_eq r ≡ true → z ≡ pos 0
zero_by_side z r side equal = by_case r (int_ranked z (pos 0) r side) equal
  where
    by_case : (r : Ordering) → MatchOrdering r (z <ℤ pos 0) (z ≡ pos 0) (pos 0 <ℤ z) → is_eq r ≡ true → z ≡ pos 0
    by_case Equal same equal = same
    by_case other order equal = absurd (cc)

-- and 0 compares so
pub side_by_zero : (z : ℤ) (r : Ordering) → r ≡ int_cmp z (pos 0) → z ≡ pos 0 → is_eq r ≡ true
side_by_zero z r side zero = by_case r (int_ranked z (pos 0) r side)
  where
    by_case : (r : Ordering) → MatchOrdering r (z <ℤ pos 0) (z ≡ pos 0) (pos 0 <ℤ z) → is_eq r ≡ true
    by_case Equal same = refl
    by_case other order = absurd (omega (arith, zs))

-- ---- positions on an edge

-- a number is between two where it is between their products with 1
between_one : (a b z : ℤ) → IsBetween a b z → IsBetween (a *ℤ pos 1) (b *ℤ pos 1) z
between_one a b z between = rw (times_one a, times_one b) between

-- and the other way round
one_between : (a b z : ℤ) → IsBetween (a *ℤ pos 1) (b *ℤ pos 1) z → IsBetween a b z
one_between a b z between = rw (times_one a, times_one b) at between

-- both coordinates of the position are between those of the edge's ends
abbrev pub IsInBox : Edge → Position → Type 0
IsInBox edge position = IsBetween edge.a.x edge.b.x position.x × IsBetween edge.a.y edge.b.y position.y

-- a position on the line lies on the edge where it is in its box
pub lies_by_box : (edge : Edge) (position : Position) → orientation edge.a edge.b position ≡ pos 0 → IsInBox edge position → LiesOn (whole position) edge
lies_by_box edge position zero box = record {
  positive = omega (arith, zs);
  on_line = on_line_by_side edge position zero;
  x_between = between_one edge.a.x edge.b.x position.x box.0;
  y_between = between_one edge.a.y edge.b.y position.y box.1;
}

-- and a position that lies on it is in its box
pub box_by_lies : (edge : Edge) (position : Position) → LiesOn (whole position) edge → IsInBox edge position
box_by_lies edge position lies = (one_between edge.a.x edge.b.x position.x lies.x_between, one_between edge.a.y edge.b.y position.y lies.y_between)

-- ---- ends that touch

-- a position isn't at the shared vertex
abbrev pub IsApart : Option Position → RationalPoint → Type 0
IsApart shared point = (vertex : Position) → shared ≡ Some vertex → ¬ IsAt point vertex

-- it isn't where it isn't the shared vertex
apart_by_other : (shared : Option Position) (position : Position) → ¬ (shared ≡ Some position) → IsApart shared (whole position)
apart_by_other shared position other vertex there at =
    other (there ∙ ap₂ (λ (x y : ℤ). Some (record { x = x; y = y })) (sym (at.x ∙ times_one vertex.x)) (sym (at.y ∙ times_one vertex.y)))

-- and the other way round
other_by_apart : (shared : Option Position) (position : Position) → IsApart shared (whole position) → ¬ (shared ≡ Some position)
other_by_apart shared position apart there = apart position there (record { x = sym (times_one position.x); y = sym (times_one position.y) })

-- a test of the box finds what touches, for a position on the line that isn't the shared vertex
pub touches_by_box : (edge : Edge) (position : Position) (shared : Option Position) (r : Bool) → orientation edge.a edge.b position ≡ pos 0 → ¬ (shared ≡ Some position)
    → IsTrue r ↔ IsInBox edge position → IsTrue r ↔ (LiesOn (whole position) edge × IsApart shared (whole position))
touches_by_box edge position shared r zero other test =
    (λ found. (lies_by_box edge position zero (test.0 found), apart_by_other shared position other), λ both. test.1 (box_by_lies edge position both.0))

-- nothing else touches
pub touches_nowhere : (edge : Edge) (position : Position) (shared : Option Position) (r : Bool) → ¬ ((orientation edge.a edge.b position ≡ pos 0) × ¬ (shared ≡ Some position))
    → r ≡ false → IsTrue r ↔ (LiesOn (whole position) edge × IsApart shared (whole position))
touches_nowhere edge position shared r off none =
    (λ found. absurd (cc), λ both. absurd (off (side_by_line edge position both.0.on_line, other_by_apart shared position both.1)))
