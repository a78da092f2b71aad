use Rattle.mvt_plane.proofs.Spelling.SpelledRings.{three_vertices, vertices_in_range}
use Rattle.mvt_plane.proofs.laws.commands.spelled.spelled_rings.Goals as goal

pub returns-clause-several : goal.returns-clause-several
returns-clause-several c = three_vertices

pub returns-clause-in_range : goal.returns-clause-in_range
returns-clause-in_range c = vertices_in_range
