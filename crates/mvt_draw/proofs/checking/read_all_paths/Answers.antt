use Rattle.std.proofs.Common.{true, refl, arith}
use Rattle.mvt_plane.specs.Commands.Drawing.{start, path_command}
use Rattle.mvt_plane.specs.Commands.Reading.{path_type}
use Rattle.mvt_draw.specs.Calls.Cursor.{position_of}
use Rattle.mvt_plane.proofs.Spelling.Readers.{whole_there}
use Rattle.mvt_wire.proofs.FieldNumbers.Sources.{at_end}
use Rattle.mvt_draw.proofs.Sources.{number_left}
use Rattle.mvt_draw.proofs.checking.read_all_paths.Goals as goal

pub paths-preserved : goal.paths-preserved
paths-preserved g c = record {
  fewer = omega (arith, c.in_ok-read_path.ensures.forward, c.in_ok-read_path.ensures.fewer, c.in-Some-next_number.ensures.fewer);
  there = λ given left.
      let before = c.paths.invariant.there given left in (
        number_left _ given c.read_path.new.cursor.at _ (c.in-Some-next_number.ensures.number _ (c.in_ok-read_path.ensures.left given before.0)),
        (true, c.in_ok-read_path.ensures.goes given before.0 before.1.0 before.1.1),
      );
}

pub returns-in-None-clause-whole : goal.returns-in-None-clause-whole
returns-in-None-clause-whole g c = λ given left.
    let at = c.read_path.new.cursor.at in
    let before = c.paths.invariant.there given left in
    whole_there (path_type c.args.closed) (start (path_type c.args.closed)) given at (path_command true (position_of c.read_path.new.cursor))
    (c.in_ok-read_path.ensures.goes given before.0 before.1.0 before.1.1) (at_end given at (c.in-None.ensures.end _ (c.in_ok-read_path.ensures.left given before.0))) refl
