-- What the readers and the writer of geometry answer, by the number of its type (Mapbox Vector Tile Specification 2.1, section 4.3.4).
use Rattle.std.specs.Prelude.{◌≡◌, ◌≢◌, ℕ, List, map, Option, Some, None}
use Rattle.mvt_fault.specs.Code.{command_code}
use Rattle.mvt_fault.specs.declared.command.CommandCode.{CommandCode}
use Rattle.mvt_plane.specs.Commands.Figure.{GeometryType, points, lines, rings, HasSpelling, Spells}
use Rattle.mvt_plane.specs.Commands.Figure as plane
use Rattle.mvt_plane.specs.FeatureGeometry.{type_number, BreaksCommands}
use Rattle.mvt_draw.specs.declared.drawing.DrawFault.{DrawFault}
use Rattle.mvt_draw.specs.declared.drawing.DrawFault.TheVariants as draw_faults
use Rattle.mvt_draw.specs.declared.figure.Figure.{Figure}
use Rattle.mvt_draw.specs.declared.figure.Figure.TheVariants.{Points, Lines, Rings, Unknown}
use Rattle.mvt_draw.specs.declared.spelling.SpellFault.{SpellFault}
use Rattle.mvt_draw.specs.declared.spelling.SpellFault.TheVariants as spell_faults

-- the type is known, and the numbers have this fault
abbrev pub IsCommandFault : ℕ → List ℕ → CommandCode → ℕ → Type 0
IsCommandFault kind numbers code index = BreaksCommands kind numbers (command_code code) index

-- the figure that a value of the code shows, where it is known
abbrev pub figure_of : Figure → Option plane.Figure
figure_of (Points positions) = Some (points positions.items)
figure_of (Lines parts) = Some (lines (map (λ part. part.items) parts.items))
figure_of (Rings parts) = Some (rings (map (λ part. part.items) parts.items))
figure_of Unknown = None

-- the figure is the one that the numbers draw, or both it and the type are unknown
pub data IsDrawn (kind : ℕ) (numbers : List ℕ) (figure : Figure) : Type 0 where
  drawn : (geometry_type : GeometryType) (shape : plane.Figure) → kind ≡ type_number geometry_type
      → figure_of figure ≡ Some shape → Spells geometry_type shape numbers → IsDrawn kind numbers figure
  unknown : ((geometry_type : GeometryType) → kind ≢ type_number geometry_type) → figure_of figure ≡ None → IsDrawn kind numbers figure

-- the numbers have the fault, or memory was refused
abbrev pub IsDrawFault : ℕ → List ℕ → DrawFault → Type 0
IsDrawFault kind numbers (draw_faults.Command code index) = IsCommandFault kind numbers code index
IsDrawFault kind numbers draw_faults.Memory = Unit {0}

-- the numbers are the figure's spelling
pub record IsSpelled (figure : Figure) (numbers : List ℕ) : Type 0 where
  pub geometry_type : GeometryType
  pub shape : plane.Figure
  pub shows : figure_of figure ≡ Some shape
  pub spells : Spells geometry_type shape numbers

-- the figure has no spelling, or memory was refused
abbrev pub IsSpellFault : Figure → SpellFault → Type 0
IsSpellFault figure spell_faults.Unspellable = (shape : plane.Figure) → figure_of figure ≡ Some shape → ¬ HasSpelling shape
IsSpellFault figure spell_faults.Memory = Unit {0}
