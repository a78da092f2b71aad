-- Numbers that are a figure's spelling.
use Rattle.std.proofs.Common.{◌≡◌, ℕ, List, [], ◌++◌, Some, ◌∙◌, ap, refl}
use Rattle.mvt_plane.specs.Commands.Figure.{HasSpelling, spelling, type_of}
use Rattle.mvt_plane.specs.Commands.Figure as plane
use Rattle.mvt_draw.specs.Geometry.{IsSpelled, figure_of}
use Rattle.mvt_draw.specs.declared.figure.Figure.{Figure}

-- nothing was before the spelling of what the figure shows
pub spelled_alone : (figure : Figure) (shape : plane.Figure) (before numbers : List ℕ) → figure_of figure ≡ Some shape → HasSpelling shape × (numbers ≡ before ++ spelling shape) → before ≡ []
    → IsSpelled figure numbers
spelled_alone figure shape before numbers shows spelled none = record {
  geometry_type = type_of shape;
  shape = shape;
  shows = shows;
  spells = record { kind = refl; able = spelled.0; spelled = spelled.1 ∙ ap (λ (list : List ℕ). list ++ spelling shape) none };
}
