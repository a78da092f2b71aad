-- The geometry of a feature, by the number of its type: its figure, or its command fault.
use Rattle.std.proofs.Common.{◌≡◌, ℕ, List, refl, sym, ◌∙◌, subst, arith}
use Rattle.mvt_plane.proofs.Spelling.SpellingPrefixes.{passes_spells}
use Rattle.mvt_plane.specs.Commands.Figure.{GeometryType, point, line_string, polygon, Figure, Spells}
use Rattle.mvt_plane.specs.FeatureGeometry.{type_number, HasFigure, BreaksCommands}
use Rattle.mvt_plane.specs.Commands.Reading.{IsWhole}

-- no two types have one number
pub one_type : (geometry_type other : GeometryType) → type_number geometry_type ≡ type_number other → geometry_type ≡ other
one_type point point same = refl
one_type point line_string same = absurd (omega arith)
one_type point polygon same = absurd (omega arith)
one_type line_string point same = absurd (omega arith)
one_type line_string line_string same = refl
one_type line_string polygon same = absurd (omega arith)
one_type polygon point same = absurd (omega arith)
one_type polygon line_string same = absurd (omega arith)
one_type polygon polygon same = refl

-- numbers that are allowed and may end draw a figure
pub whole_figure : (geometry_type : GeometryType) (kind : ℕ) (numbers : List ℕ) → kind ≡ type_number geometry_type → IsWhole geometry_type numbers → HasFigure kind numbers
whole_figure geometry_type kind numbers is whole = λ other other_is.
    subst (λ (one : GeometryType). (figure : Figure) × Spells one figure numbers) (one_type geometry_type other (sym is ∙ other_is))
    (passes_spells geometry_type numbers whole.0 whole.1)

-- what draws a figure has no command fault
pub figure_faultless : (kind : ℕ) (numbers : List ℕ) → HasFigure kind numbers → (code index : ℕ) → BreaksCommands kind numbers code index → ⊥
figure_faultless kind numbers figure code index fault =
    let drawn = figure fault.0 fault.1 in
    fault.2.unspelled drawn.0 drawn.1
