use Rattle.std.proofs.Common.{◌≡◌, Bool, true, false, not, ◌∙◌, sym, refl, ap}
use Rattle.mvt_plane.specs.Geometry.Measure.{orientation}
use Rattle.mvt_plane.specs.declared.geometry.edge.Edge.{Edge}
use Rattle.mvt_plane.proofs.Orders.Sides.{zero_by_side, side_by_zero, touches_by_box, touches_nowhere}
use Rattle.mvt_plane.proofs.geometry.crossing.touches.Goals as goal
use Rattle.mvt_plane.proofs.geometry.crossing.touches.Goals.{then-is_eq, else-is_eq}

-- what isn't not so is so
true_by_not : (r : Bool) → not r ≡ false → r ≡ true
true_by_not true same = refl
true_by_not false same = absurd (cc)

pub returns-then-not-is_shared : goal.returns-then-not-is_shared
returns-then-not-is_shared c =
    let edge : Edge = record { a = c.args.a; b = c.args.b } in
    elim c.if-is_eq.branch [
      | then-is_eq w ↦
          let zero = zero_by_side (orientation c.args.a c.args.b c.args.end) c.args.side c.requires (sym c.is_eq.ensures ∙ w.if-is_eq.true) in
          let other = sym w.value-is ∙ c.if-not-is_shared.true in
          touches_by_box edge c.args.end c.args.shared.now c.is_in_box.result zero (λ same. let one = ap not (w.is_shared.ensures.1 same) in absurd (cc)) c.is_in_box.ensures
      | else-is_eq w ↦ absurd (let both = sym w.if-is_eq.false ∙ sym w.value-is ∙ c.if-not-is_shared.true in cc)
    ]

pub returns-else-not-is_shared : goal.returns-else-not-is_shared
returns-else-not-is_shared c =
    let edge : Edge = record { a = c.args.a; b = c.args.b } in
    let missed = c.if-not-is_shared.false in
    elim c.if-is_eq.branch [
      | then-is_eq w ↦
          touches_nowhere edge c.args.end c.args.shared.now c.if-is_eq.value (λ both. both.1 (w.is_shared.ensures.0 (true_by_not w.is_shared.result (sym w.value-is ∙ missed)))) missed
      | else-is_eq w ↦
          touches_nowhere edge c.args.end c.args.shared.now c.if-is_eq.value
          (λ both. let equal = side_by_zero (orientation c.args.a c.args.b c.args.end) c.args.side c.requires both.0 in
          let other = sym c.is_eq.ensures ∙ w.if-is_eq.false in absurd (cc)) missed
    ]
