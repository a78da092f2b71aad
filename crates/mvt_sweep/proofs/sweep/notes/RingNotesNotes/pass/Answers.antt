use Rattle.std.proofs.Common.{◌≡◌, ◌∙◌, ℕ, ◌%◌, ◌==◌, length, slice_get, Some, refl, sym, ap, subst, arith}
use Rattle.std.proofs.lemmas.Option.{slice_get_read}
use Rattle.mvt_plane.specs.Geometry.Measure.{key_of}
use Rattle.mvt_sweep.specs.Calls.SweepVertices.{position_at}
use Rattle.mvt_sweep.specs.Calls.RingNotes.{IsNoteAbove}
use Rattle.mvt_sweep.specs.Calls.Steps.{IsPassed}
use Rattle.mvt_sweep.specs.declared.sweep.notes.Around.TheVariants.{Unknown, Nothing}
use Rattle.mvt_sweep.proofs.Vertices.VertexNumbers.{numbered_within, sweep_vertex_there}
use Rattle.mvt_sweep.proofs.Notes.RingsNoted.{as_written, below_noted, index_noted, noted_above, noted_after_an_end, noted_alone, noted_before, ring_read}
use Rattle.mvt_sweep.proofs.sweep.notes.RingNotesNotes.pass.Goals as goal
use Rattle.mvt_sweep.proofs.sweep.notes.RingNotesNotes.pass.Goals.{in-Some-front, in-None}

pub returns-in_default : goal.returns-in_default
returns-in_default c rings key edges noted passed =
    noted_after_an_end rings c.args.vertices.now key c.args.self.now.index.rings.items c.args.self.now.around.items c.args.self.now.come_to.items c.args.number edges noted
    (rw c.in_default.is at passed)

pub ring_of-ring-requires-clause-known : goal.ring_of-ring-requires-clause-known
ring_of-ring-requires-clause-known c = let (rings, key, edges, noted, passed) = c.requires in passed.known

pub ring_of-ring-requires-clause-indexed : goal.ring_of-ring-requires-clause-indexed
ring_of-ring-requires-clause-indexed c = let (rings, key, edges, noted, passed) = c.requires in (rings, index_noted noted)

pub index-requires : goal.index-requires
index-requires c =
    let (rings, key, edges, noted, passed) = c.requires in
    let vertices = c.args.vertices.now in
    let it = sweep_vertex_there rings vertices.list.now c.args.number noted.are passed.known in
    let ring = ring_read c.args.number c.ring_of-ring.result it.place noted it.is c.ring_of-ring.ensures in
    omega (arith, ring.1, c.args.self.now.around.ok.0)

pub index_mut-requires : goal.index_mut-requires
index_mut-requires c =
    let (rings, key, edges, noted, passed) = c.requires in
    let vertices = c.args.vertices.now in
    let it = sweep_vertex_there rings vertices.list.now c.args.number noted.are passed.known in
    let ring = ring_read c.args.number c.ring_of-ring.result it.place noted it.is c.ring_of-ring.ensures in
    omega (arith, ring.1, c.args.self.now.around.ok.0)

pub returns-in_default-index : goal.returns-in_default-index
returns-in_default-index c rings key edges noted passed =
    let vertices = c.args.vertices.now in
    let notes = c.args.self.now.around.items in
    let it = sweep_vertex_there rings vertices.list.now c.args.number noted.are passed.known in
    let ring = ring_read c.args.number c.ring_of-ring.result it.place noted it.is c.ring_of-ring.ensures in
    let read : slice_get notes c.ring_of-ring.result ≡ Some c.index.result.now = slice_get_read notes (length notes) c.ring_of-ring.result c.index.result.now refl ring.1 c.index.ensures in
    noted_before rings vertices key c.args.self.now.index.rings.items notes c.args.self.now.come_to.items c.args.number it.place c.args.begun edges noted passed it.is
    (c.index.result.now, ap (slice_get notes) (sym ring.0) ∙ read, c.in_default-index.not-Unknown)

pub ring_of-below-requires-clause-known : goal.ring_of-below-requires-clause-known
ring_of-below-requires-clause-known c =
    let (rings, key, edges, noted, passed) = c.requires in
    let vertices = c.args.vertices.now in
    let (lower, is, its) = below_noted rings vertices key c.args.self.now.index.rings.items c.args.self.now.around.items c.args.self.now.come_to.items c.args.number c.in-Some-front.edge c.in-Some.place edges noted
    (rw c.in-Some.is at passed) c.in-Some-front.is in
    numbered_within rings vertices.list.now c.in-Some-front.edge lower noted.are is

pub ring_of-below-requires-clause-indexed : goal.ring_of-below-requires-clause-indexed
ring_of-below-requires-clause-indexed c = let (rings, key, edges, noted, passed) = c.requires in (rings, index_noted noted)

pub around_above-around-requires : goal.around_above-around-requires
around_above-around-requires c =
    let (rings, key, edges, noted, passed) = c.requires in
    let vertices = c.args.vertices.now in
    let (lower, is, its) = below_noted rings vertices key c.args.self.now.index.rings.items c.args.self.now.around.items c.args.self.now.come_to.items c.args.number c.in-Some-front.edge c.in-Some.place edges noted
    (rw c.in-Some.is at passed) c.in-Some-front.is in
    (ring_read c.in-Some-front.edge c.ring_of-below.result lower noted is c.ring_of-below.ensures).1

pub returns : goal.returns
returns c rings key edges noted passed_so =
    let vertices = c.args.vertices.now in
    let self = c.args.self.now in
    let index = self.index.rings.items in
    let notes = self.around.items in
    let come_to = self.come_to.items in
    let number = c.args.number in
    let place = c.in-Some.place in
    let passed : IsPassed vertices key number (Some place) edges = rw c.in-Some.is at passed_so in
    let it = sweep_vertex_there rings vertices.list.now number noted.are passed.known in
    let ring = ring_read number c.ring_of-ring.result it.place noted it.is c.ring_of-ring.ensures in
    let read : slice_get notes c.ring_of-ring.result ≡ Some c.index.result.now = slice_get_read notes (length notes) c.ring_of-ring.result c.index.result.now refl ring.1 c.index.ensures in
    let nothing : slice_get notes it.place.ring ≡ Some Unknown = ap (slice_get notes) (sym ring.0) ∙ read ∙ ap Some c.in-Unknown.is in
    elim c.match-place.branch [
      | in-Some-front w ↦
          let edge = w.in-Some-front.edge in
          let (lower, is, one) = below_noted rings vertices key index notes come_to number edge place edges noted passed w.in-Some-front.is in
          let its = ring_read edge w.ring_of-below.result lower noted is w.ring_of-below.ensures in
          as_written rings vertices (key_of (position_at vertices number)) index notes come_to c.push.new.self.items c.ring_of-ring.result it.place.ring c.match-place.around w.around_above-around.result
          ring.0 w.around-is c.in_ok-push.ensures.items
          (noted_above rings vertices key index notes come_to number edge it.place lower place edges one.0 w.around_above-around.result noted passed it.is nothing w.in-Some-front.is is one.1 one.2
          (subst (λ (r : ℕ). IsNoteAbove one.0 r (place.point % 2 == 1) w.around_above-around.result) its.0 (w.around_above-around.ensures one.0 (ap (slice_get notes) its.0 ∙ one.1))))
      | in-None w ↦
          as_written rings vertices (key_of (position_at vertices number)) index notes come_to c.push.new.self.items c.ring_of-ring.result it.place.ring c.match-place.around
          Nothing ring.0 w.around-is c.in_ok-push.ensures.items
          (noted_alone rings vertices key index notes come_to number it.place place edges noted passed it.is nothing w.in-None.is)
    ]
