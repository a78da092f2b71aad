use Rattle.std.proofs.Common.{List, subst, sym}
use Rattle.mvt_plane.specs.Commands.Figure.{polygon}
use Rattle.mvt_plane.specs.FeatureGeometry.{HasRings, type_number}
use Rattle.mvt_plane.specs.Position.{Position}
use Rattle.mvt_sweep.specs.Rings.{rings_of}
use Rattle.mvt_tile.specs.FeatureBytes.{Encodes}
use Rattle.mvt_gate.proofs.FeatureGeometries.{valid_by_rings, least_by_commands, least_by_rings}
use Rattle.mvt_gate.proofs.geometry.GeometryRule.find_in_polygons.Goals as goal

pub find_in_rings-requires-clause-drawn : goal.find_in_rings-requires-clause-drawn
find_in_rings-requires-clause-drawn c =
    let it = c.geometry.ensures.encodes.0 in
    (it.geometry, subst (λ (rings : List (List Position)). HasRings (type_number polygon) it.geometry rings) (sym c.rings.ensures) (c.in-Ok.ensures.rings it.geometry (c.geometry.ensures.all it c.geometry.ensures.encodes.1)))

pub returns-in-Ok-clause-found : goal.returns-in-Ok-clause-found
returns-in-Ok-clause-found c =
    least_by_rings c.args.search c.args.profile c.find_in_rings.result c.find_in_rings.new.found (Encodes c.args.feature.now) (rings_of c.rings.result.now) c.draw.new.self c.args.layer c.args.ordinal c.rings.ensures c.requires.kind
    (λ it encodes. c.in-Ok.ensures.rings it.geometry (c.geometry.ensures.all it encodes)) c.find_in_rings.ensures.found

pub returns-in-Ok-clause-kept : goal.returns-in-Ok-clause-kept
returns-in-Ok-clause-kept c =
    valid_by_rings c.args.search c.args.profile c.find_in_rings.result c.find_in_rings.new.found (Encodes c.args.feature.now) (rings_of c.rings.result.now) c.draw.new.self c.rings.ensures c.requires.kind
    (λ it encodes. c.in-Ok.ensures.rings it.geometry (c.geometry.ensures.all it encodes)) c.find_in_rings.ensures.valid

pub returns-in-Err-Command-clause-found : goal.returns-in-Err-Command-clause-found
returns-in-Err-Command-clause-found c =
    rw c.store_command.ensures
    (rw (c.in-Err-Command.code-is, c.in-Err-Command.index-is)
    (λ it encodes.
    least_by_commands c.args.search c.args.profile it (type_number polygon) c.in-Err-Command.code c.in-Err-Command.index c.args.layer c.args.ordinal (c.requires.kind it encodes)
    ((rw c.in-Err-Command.field-0-is at c.in-Err-Command.ensures.fault) it.geometry (c.geometry.ensures.all it encodes))))
