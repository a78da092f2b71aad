use Rattle.std.proofs.Common.{[], ℕ, List, true, length, drop, ap, sym, ◌∙◌, subst, refl, arith}
use Rattle.std.proofs.lemmas.Result.{err_from_is_err_and}
use Rattle.mvt_plane.proofs.Spelling.SpellingPrefixes.{passes_spells}
use Rattle.mvt_plane.proofs.Spelling.FigurePaths.{rings_ahead}
use Rattle.mvt_plane.proofs.Spelling.Readers.{whole_there}
use Rattle.mvt_plane.specs.Commands.Drawing.{start, path_command}
use Rattle.mvt_plane.specs.Commands.Figure.{Figure, Spells, polygon, rings}
use Rattle.mvt_draw.specs.Calls.Cursor.{position_of, course_of}
use Rattle.mvt_draw.proofs.Paths.{IsAmidPaths-next, IsAmidPaths-over}
use Rattle.mvt_draw.proofs.ReadGeometries.{rings_fault}
use Rattle.mvt_wire.proofs.FieldNumbers.Sources.{at_end}
use Rattle.mvt_draw.proofs.Sources.{some_left, number_left}
use Rattle.mvt_draw.proofs.ring_buffer.RingBuffer.draw_rings.Goals as goal

pub returns-in_default-clause-fault : goal.returns-in_default-clause-fault
returns-in_default-clause-fault g c = λ given left. rw (c.in_default.ensures.end given left) (rings_fault [] c.into.result (rw c.into.ensures ((λ may. cc), refl, refl)))

pub returns-in_err-draw_ring-clause-fault : goal.returns-in_err-draw_ring-clause-fault
returns-in_err-draw_ring-clause-fault g c =
    let p = err_from_is_err_and c.from_residual.result c.from_residual.ensures.1 in
    rw (p.1, p.2) (λ given left.
    let before = c.rings.invariant.there given left in
    rings_fault given c.in_err-draw_ring.field-0.0 (c.in_err-draw_ring.ensures.fault given before.0 before.1.0 before.1.1))

pub rings-preserved : goal.rings-preserved
rings-preserved g c = record {
  fewer = omega (arith, c.in_ok-draw_ring.ensures.forward, c.in_ok-draw_ring.ensures.fewer, c.in-Some-next_number.ensures.fewer);
  there = λ given left.
      let before = c.rings.invariant.there given left in (
        number_left _ given c.draw_ring.new.cursor.at _ (c.in-Some-next_number.ensures.number _ (c.in_ok-draw_ring.ensures.left given before.0)),
        (true, c.in_ok-draw_ring.ensures.goes given before.0 before.1.0 before.1.1),
      );
  drawn = λ given left rings ahead.
      let before = c.rings.invariant.there given left in
      IsAmidPaths-next true rings c.rings.self c.draw_ring.new.self (course_of given c.rings.cursor)
      (course_of given c.draw_ring.new.cursor)
      (c.rings.invariant.drawn given left rings ahead) (some_left given c.rings.cursor.at before.0.0.0) (c.in_ok-draw_ring.ensures.drawn given before.0);
}

pub returns-in-None-clause-rings : goal.returns-in-None-clause-rings
returns-in-None-clause-rings g c = λ given left.
    let cursor = c.draw_ring.new.cursor in
    let before = c.rings.invariant.there given left in
    let following = c.in_ok-draw_ring.ensures.left given before.0 in
    let none = c.in-None.ensures.end (drop cursor.at given) following in
    let whole = whole_there polygon (start polygon) given cursor.at (path_command true (position_of cursor)) (c.in_ok-draw_ring.ensures.goes given before.0 before.1.0 before.1.1) (at_end given cursor.at none) refl in
    let figure = passes_spells polygon given whole.0 whole.1 in
    let ahead = rings_ahead figure.0 given figure.1 in
    let drawn = IsAmidPaths-next true ahead.0 c.rings.self c.draw_ring.new.self (course_of given c.rings.cursor) (course_of given cursor)
    (c.rings.invariant.drawn given left ahead.0 ahead.2) (some_left given c.rings.cursor.at before.0.0.0) (c.in_ok-draw_ring.ensures.drawn given before.0) in
    let same = IsAmidPaths-over true ahead.0 c.draw_ring.new.self (course_of given cursor) drawn (ap (λ (it : List ℕ). length it) none) in
    record { typed = refl; spelled = subst (λ (it : Figure). Spells polygon it given) (ahead.1 ∙ ap rings (sym same)) figure.1 }
