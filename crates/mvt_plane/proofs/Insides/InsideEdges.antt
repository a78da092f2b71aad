-- Which edges pass over a position: two rectangles say it, that from the edge's first end to the x of its second one
-- and the y of the position, and that to the x of the position and the y of the second end.
use Rattle.std.proofs.Common.{◌≡◌, inl, inr, ◌↔◌, [], ◌∷◌, ℤ, pos, ◌+ℤ◌, ◌-ℤ◌, ◌*ℤ◌, ◌≤ℤ◌, ◌<ℤ◌, refl, arith}
use Rattle.mvt_plane.specs.Position.{Position}
use Rattle.mvt_plane.specs.Geometry.RationalPoint.{RationalPoint, LiesOn, IsBetween}
use Rattle.mvt_plane.specs.Geometry.Inside.{Differ, PassesOver}
use Rattle.mvt_plane.proofs.Orders.Polynomials.{negated, once, ◌⊕◌, ◌⊖◌, ◌⊗◌, identity, consequence, given}
use Rattle.mvt_plane.proofs.Orders.Order.{zs, le_or_lt, sub-mul_ℤ, mono_le_right, mono_le, turn_le, cancel_lt, mono_lt, mul_nonneg, mul_nonpos_nonneg}
use Rattle.mvt_plane.proofs.Points.RationalPoints.{lies_on_reversed}

-- ---- the rectangles

-- the area from a corner to an x and a y, with sign
abbrev pub rectangle : Position → Position → Position → ℤ
rectangle corner across along = (across.x -ℤ corner.x) *ℤ (along.y -ℤ corner.y)

-- ---- the point of an edge over a position

-- the first number times w, and a part of the way to the second, is between both times w
sum_between : (m n part w : ℤ) → pos 0 ≤ℤ part → part ≤ℤ w → IsBetween (m *ℤ w) (n *ℤ w) (m *ℤ w +ℤ (n -ℤ m) *ℤ part)
sum_between m n part w begun within =
    let whole = sub-mul_ℤ n m w in
    elim (le_or_lt m n) [
      | inl up ↦
          let rise : pos 0 ≤ℤ (n -ℤ m) = omega (arith, zs) in
          let some = mul_nonneg rise begun in
          let most = mono_le rise within in
          inl (omega (arith, zs), omega (arith, zs))
      | inr down ↦
          let fall : (n -ℤ m) ≤ℤ pos 0 = omega (arith, zs) in
          let some = mul_nonpos_nonneg fall begun in
          let most = turn_le fall within in
          inr (omega (arith, zs), omega (arith, zs))
    ]

-- the point of an edge at the position's x, where the edge goes to the right
abbrev pub point_over : Position → Position → Position → RationalPoint
point_over p a b = record {
  x = p.x *ℤ (b.x -ℤ a.x);
  y = a.y *ℤ (b.x -ℤ a.x) +ℤ (b.y -ℤ a.y) *ℤ (p.x -ℤ a.x);
  w = b.x -ℤ a.x;
}

-- it is on the edge's line
over_on_line : (p a b : Position) →
    (b.x -ℤ a.x) *ℤ ((point_over p a b).y -ℤ a.y *ℤ (b.x -ℤ a.x)) ≡ (b.y -ℤ a.y) *ℤ ((point_over p a b).x -ℤ a.x *ℤ (b.x -ℤ a.x))
over_on_line p a b =
    identity (p.x ∷ a.x ∷ a.y ∷ b.x ∷ b.y ∷ [])
    (λ px ax ay bx by. ((bx ⊖ ax) ⊗ ((ay ⊗ (bx ⊖ ax) ⊕ (by ⊖ ay) ⊗ (px ⊖ ax)) ⊖ ay ⊗ (bx ⊖ ax)), (by ⊖ ay) ⊗ (px ⊗ (bx ⊖ ax) ⊖ ax ⊗ (bx ⊖ ax)))) tt

-- it is on the edge, where the edge goes by the position's x
pub over_on_edge : (p a b : Position) → a.x ≤ℤ p.x → p.x <ℤ b.x → LiesOn (point_over p a b) (record { a = a; b = b })
over_on_edge p a b begun ended =
    let length : pos 0 ≤ℤ (b.x -ℤ a.x) = omega (arith, zs) in
    let before : p.x ≤ℤ b.x = omega (arith, zs) in
    record {
      positive = omega (arith, zs);
      on_line = over_on_line p a b;
      x_between = inl (mono_le_right begun length, mono_le_right before length);
      y_between = sum_between a.y b.y (p.x -ℤ a.x) (b.x -ℤ a.x) (omega (arith, zs)) (omega (arith, zs));
    }

-- it has a greater y than the position, where the rectangles say so
over_greater : (p a b : Position) → rectangle a b p <ℤ rectangle a p b → (p.y *ℤ (b.x -ℤ a.x)) <ℤ (point_over p a b).y
over_greater p a b less =
    let same = identity (p.x ∷ p.y ∷ a.x ∷ a.y ∷ b.x ∷ b.y ∷ [])
    (λ px py ax ay bx by. (py ⊗ (bx ⊖ ax) ⊖ (ay ⊗ (bx ⊖ ax) ⊕ (by ⊖ ay) ⊗ (px ⊖ ax)), (bx ⊖ ax) ⊗ (py ⊖ ay) ⊖ (px ⊖ ax) ⊗ (by ⊖ ay))) tt in
    omega (arith, zs)

-- ---- any point of an edge over a position

-- by how much the rectangles differ, by a point of the edge at the position's x
rectangles_differ : (p a b : Position) (q : RationalPoint) → LiesOn q (record { a = a; b = b }) → q.x ≡ p.x *ℤ q.w →
    q.w *ℤ rectangle a p b +ℤ (b.x -ℤ a.x) *ℤ (p.y *ℤ q.w) ≡ q.w *ℤ rectangle a b p +ℤ (b.x -ℤ a.x) *ℤ q.y
rectangles_differ p a b q on_edge same_x =
    consequence (p.x ∷ p.y ∷ a.x ∷ a.y ∷ b.x ∷ b.y ∷ q.x ∷ q.y ∷ q.w ∷ [])
    (λ px py ax ay bx by x y w. (
      w ⊗ ((px ⊖ ax) ⊗ (by ⊖ ay)) ⊕ (bx ⊖ ax) ⊗ (py ⊗ w),
      w ⊗ ((bx ⊖ ax) ⊗ (py ⊖ ay)) ⊕ (bx ⊖ ax) ⊗ y,
      given (negated once) ((bx ⊖ ax) ⊗ (y ⊖ ay ⊗ w)) ((by ⊖ ay) ⊗ (x ⊖ ax ⊗ w)) ∷ given (ay ⊖ by) x (px ⊗ w) ∷ [],
    )) (on_edge.on_line, (same_x, tt)) tt

-- so where the point has a greater y, the rectangles say so
greater_decides : (p a b : Position) (q : RationalPoint) → a.x <ℤ b.x → LiesOn q (record { a = a; b = b }) → q.x ≡ p.x *ℤ q.w → (p.y *ℤ q.w) <ℤ q.y →
    rectangle a b p <ℤ rectangle a p b
greater_decides p a b q order on_edge same_x greater =
    let length : pos 0 <ℤ (b.x -ℤ a.x) = omega (arith, zs) in
    let positive = on_edge.positive in
    let differ = rectangles_differ p a b q on_edge same_x in
    cancel_lt q.w (rectangle a b p) (rectangle a p b) (omega (arith, zs)) (omega (arith, zs, mono_lt length greater))

-- ---- the edge that goes back

-- one of two holds, whichever is the first
pub differ_back : {One Other : Type 0} → Differ One Other → Differ Other One
differ_back (inl (one, not_other)) = inr (not_other, one)
differ_back (inr (not_one, other)) = inl (other, not_one)

-- not where both hold, or neither does
pub not_differ : {One Other : Type 0} → One ↔ Other → ¬ Differ One Other
not_differ together (inl (one, none)) = none (together.0 one)
not_differ together (inr (none, other)) = none (together.1 other)

-- the edge that goes back passes over the same positions
pub passes_back : (p a b : Position) → PassesOver p (record { a = a; b = b }) → PassesOver p (record { a = b; b = a })
passes_back p a b passes = record {
  parted = differ_back passes.parted;
  point = passes.point;
  on_edge = lies_on_reversed passes.point (record { a = a; b = b }) passes.on_edge;
  same_x = passes.same_x;
  greater_y = passes.greater_y;
}

-- its rectangles differ by as much the other way
rectangles_back : (p a b : Position) → rectangle b a p +ℤ rectangle a b p ≡ rectangle b p a +ℤ rectangle a p b
rectangles_back p a b =
    identity (p.x ∷ p.y ∷ a.x ∷ a.y ∷ b.x ∷ b.y ∷ []) (λ px py ax ay bx by. ((ax ⊖ bx) ⊗ (py ⊖ by) ⊕ (bx ⊖ ax) ⊗ (py ⊖ ay), (px ⊖ bx) ⊗ (ay ⊖ by) ⊕ (px ⊖ ax) ⊗ (by ⊖ ay))) tt

-- ---- which edges pass over the position

-- one that goes by its x to the right, exactly where the rectangle to its y is the lesser one
pub passes_rightward : (p a b : Position) → a.x ≤ℤ p.x → p.x <ℤ b.x → (rectangle a b p <ℤ rectangle a p b) ↔ PassesOver p (record { a = a; b = b })
passes_rightward p a b begun ended = (there, back)
  where
    there : rectangle a b p <ℤ rectangle a p b → PassesOver p (record { a = a; b = b })
    there less = record {
      parted = inl (begun, λ (ends : b.x ≤ℤ p.x). omega (arith, zs));
      point = point_over p a b;
      on_edge = over_on_edge p a b begun ended;
      same_x = refl;
      greater_y = over_greater p a b less;
    }

    back : PassesOver p (record { a = a; b = b }) → rectangle a b p <ℤ rectangle a p b
    back passes = greater_decides p a b passes.point (omega (arith, zs)) passes.on_edge passes.same_x passes.greater_y

-- one that goes by to the left, exactly where it is the greater one
pub passes_leftward : (p a b : Position) → b.x ≤ℤ p.x → p.x <ℤ a.x → (rectangle a p b <ℤ rectangle a b p) ↔ PassesOver p (record { a = a; b = b })
passes_leftward p a b begun ended = (there, back)
  where
    there : rectangle a p b <ℤ rectangle a b p → PassesOver p (record { a = a; b = b })
    there less = passes_back p b a ((passes_rightward p b a begun ended).0 (omega (arith, zs, rectangles_back p a b)))

    back : PassesOver p (record { a = a; b = b }) → rectangle a p b <ℤ rectangle a b p
    back passes =
        let less = (passes_rightward p b a begun ended).1 (passes_back p a b passes) in
        omega (arith, zs, rectangles_back p a b)

-- none whose ends are both at its x or to the left, or both to the right
pub passes_apart : (p a b : Position) → ((a.x ≤ℤ p.x) ↔ (b.x ≤ℤ p.x)) → ¬ PassesOver p (record { a = a; b = b })
passes_apart p a b together passes = not_differ together passes.parted
