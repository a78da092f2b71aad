-- How often edges go round a place, those of an exterior and those of holes, each in 32 bits.
use Rattle.std.specs.Prelude.{pos}
use Rattle.std.specs.Int.{w32, int_wrapping_add, int_wrapping_neg}
use Rattle.mvt_segments.specs.declared.segment.Winding.{Winding}

-- nothing goes round
abbrev pub nothing : Winding
nothing = record { exterior = pos 0; holes = pos 0 }

-- both together; beyond the greatest number of 32 bits comes the least
abbrev pub together : Winding → Winding → Winding
together one other = record { exterior = int_wrapping_add w32 one.exterior other.exterior; holes = int_wrapping_add w32 one.holes other.holes }

-- the same the other way round
abbrev pub reversed : Winding → Winding
reversed it = record { exterior = int_wrapping_neg w32 it.exterior; holes = int_wrapping_neg w32 it.holes }
