use Rattle.std.proofs.Common.{FitsSigned}
use Rattle.std.proofs.lemmas.Int.{to_z-of_z}
use mir.Syntax.{w128}
use Rattle.mvt_plane.specs.declared.geometry.edge.Edge.{Edge}
use Rattle.mvt_plane.proofs.Points.EdgeTests.{x_passes, y_passes}
use Rattle.mvt_plane.proofs.geometry.edge.on_edge.Goals as goal

pub returns-then-not-has_zero_between : goal.returns-then-not-has_zero_between
returns-then-not-has_zero_between c =
    let edge : Edge = record { a = c.args.a; b = c.args.b } in
    let one : FitsSigned w128 c.x_offset-x_from_a.result = record { sfits = c.x_offset-x_from_a.type_inv } in
    let other : FitsSigned w128 c.x_offset-x_from_b.result = record { sfits = c.x_offset-x_from_b.type_inv } in
    let test = simp to_z-of_z at c.has_zero_between.ensures in
    let between = x_passes c.args.point.now edge _ _ c.x_offset-x_from_a.ensures.value c.x_offset-x_from_b.ensures.value in
    (λ none. absurd cc, λ lies. let found = test.1 (between.1 lies.x_between) in cc)

pub returns-then-not-has_zero_between-2 : goal.returns-then-not-has_zero_between-2
returns-then-not-has_zero_between-2 c =
    let edge : Edge = record { a = c.args.a; b = c.args.b } in
    let one : FitsSigned w128 c.y_offset-y_from_a.result = record { sfits = c.y_offset-y_from_a.type_inv } in
    let other : FitsSigned w128 c.y_offset-y_from_b.result = record { sfits = c.y_offset-y_from_b.type_inv } in
    let test = simp to_z-of_z at c.has_zero_between-2.ensures in
    let between = y_passes c.args.point.now edge _ _ c.y_offset-y_from_a.ensures.value c.y_offset-y_from_b.ensures.value in
    (λ none. absurd cc, λ lies. let found = test.1 (between.1 lies.y_between) in cc)

pub returns : goal.returns
returns c =
    let edge : Edge = record { a = c.args.a; b = c.args.b } in
    let x_a : FitsSigned w128 c.x_offset-x_from_a.result = record { sfits = c.x_offset-x_from_a.type_inv } in
    let x_b : FitsSigned w128 c.x_offset-x_from_b.result = record { sfits = c.x_offset-x_from_b.type_inv } in
    let y_a : FitsSigned w128 c.y_offset-y_from_a.result = record { sfits = c.y_offset-y_from_a.type_inv } in
    let y_b : FitsSigned w128 c.y_offset-y_from_b.result = record { sfits = c.y_offset-y_from_b.type_inv } in
    let x_test = simp to_z-of_z at c.has_zero_between.ensures in
    let y_test = simp to_z-of_z at c.has_zero_between-2.ensures in
    let line_test = simp to_z-of_z at c.is_along.ensures in
    let x_between = x_passes c.args.point.now edge _ _ c.x_offset-x_from_a.ensures.value c.x_offset-x_from_b.ensures.value in
    let y_between = y_passes c.args.point.now edge _ _ c.y_offset-y_from_a.ensures.value c.y_offset-y_from_b.ensures.value in
    let line = rw (c.x_offset-x_from_a.ensures.value, c.y_offset-y_from_a.ensures.value) at line_test in (
      λ found. record {
        positive = c.x_offset-x_from_a.ensures.positive;
        on_line = line.0 found;
        x_between = x_between.0 (x_test.0 c.if-not-has_zero_between.false);
        y_between = y_between.0 (y_test.0 c.if-not-has_zero_between-2.false);
      },
      λ lies. line.1 lies.on_line,
    )
