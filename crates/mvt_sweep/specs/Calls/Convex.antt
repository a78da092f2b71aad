-- Rings of four vertices that turn one way at each.
use Rattle.std.specs.Prelude.{◌≡◌, pos}
use Rattle.std.specs.Ordering.{int_cmp}
use Rattle.std.specs.declared.cmp.Ordering.{Ordering}
use Rattle.std.specs.declared.cmp.Ordering.TheVariants.{Equal}
use Rattle.mvt_plane.specs.Geometry.Measure.{orientation}
use Rattle.mvt_plane.specs.Position.{Position}
use Rattle.mvt_sweep.specs.Calls.SweepVertices.{next_at}
use Rattle.mvt_sweep.specs.declared.sweep.vertices.SweepVertices.{SweepVertices}

-- four vertices follow one another round
pub record GoRound (vertices : SweepVertices) : Type 0 where
  pub first : next_at vertices 0 ≡ 1
  pub second : next_at vertices 1 ≡ 2
  pub third : next_at vertices 2 ≡ 3
  pub last : next_at vertices 3 ≡ 0

-- the third of three positions is on this side of the line through the others
abbrev pub IsOnSide : Ordering → Position → Position → Position → Type 0
IsOnSide turn a b c = turn ≡ int_cmp (orientation a b c) (pos 0)

-- a ring through four positions turns one way at each
pub record TurnOneWay (a b c d : Position) : Type 0 where
  pub turn : Ordering
  pub turns : ¬ (turn ≡ Equal)
  pub second : IsOnSide turn a b c
  pub third : IsOnSide turn b c d
  pub last : IsOnSide turn c d a
  pub first : IsOnSide turn d a b
