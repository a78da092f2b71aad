use Rattle.std.proofs.Common.{ℕ, inl, inr, refl, sym, ◌∙◌, ap, subst}
use Rattle.mvt_plane.specs.FeatureGeometry.{HasFigure}
use Rattle.mvt_tile.proofs.RuleFaults.PolygonScan.{other_kind}
use Rattle.mvt_tile.specs.View.{kind_number}
use Rattle.mvt_gate.proofs.FeatureGeometries.{valid_by_figure}
use Rattle.mvt_gate.proofs.figures.FigureTestFeatureTest.keeps.Goals as goal

pub returns-in-Polygon : goal.returns-in-Polygon
returns-in-Polygon c = record {
  kept = λ is it encodes. inr (refl, sym (c.kind.ensures it encodes) ∙ ap kind_number c.in-Polygon.is);
  still = λ it kept. elim kept [
    | inl valid ↦ inl valid
    | inr polygons ↦ inr (refl, polygons.1)
  ];
}

pub returns-then-draws_figure : goal.returns-then-draws_figure
returns-then-draws_figure c = record {
  kept = λ is it encodes. inl (λ profile.
      valid_by_figure profile it (other_kind c.kind.result it c.in_default.not-Polygon (c.kind.ensures it encodes))
      (subst (λ (n : ℕ). HasFigure n it.geometry) (c.kind.ensures it encodes) (c.draws_figure.ensures c.if-draws_figure.true it encodes)));
  still = λ it kept. kept;
}

pub returns-in-None : goal.returns-in-None
returns-in-None c = record {
  kept = λ is it encodes. inl (λ profile.
      valid_by_figure profile it (other_kind c.kind.result it c.in_default.not-Polygon (c.kind.ensures it encodes))
      (subst (λ (n : ℕ). HasFigure n it.geometry) (c.kind.ensures it encodes) (c.in-None.ensures.figure it.geometry (c.geometry.ensures.all it encodes))));
  still = λ it kept. kept;
}
