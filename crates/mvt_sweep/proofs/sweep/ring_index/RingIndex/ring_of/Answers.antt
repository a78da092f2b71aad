use Rattle.std.proofs.Common.{◌≡◌, ◌+◌, ℕ, sym, ◌∙◌, subst, arith}
use Rattle.mvt_sweep.specs.Calls.SweepVertices.{IsNumbered}
use Rattle.mvt_sweep.proofs.Notes.RingIndexes.{kept_read, kept_within, ring_begins, ring_goes_on, ring_up_to}
use Rattle.mvt_sweep.proofs.Vertices.VertexNumbers.{sweep_vertex_there}
use Rattle.mvt_sweep.proofs.sweep.ring_index.RingIndex.ring_of.Goals as goal
use Rattle.mvt_sweep.proofs.sweep.ring_index.RingIndex.ring_of.Goals.{then-is_first, else-is_first}

pub index-ring-requires : goal.index-ring-requires
index-ring-requires c =
    let (rings, indexed) = c.requires.indexed in
    let within = kept_within rings c.args.vertices.now c.args.self.now.rings.items c.args.number indexed c.requires.known in
    omega (arith, within, c.args.self.now.rings.ok.0)

pub loop-before-init : goal.loop-before-init
loop-before-init c rings at indexed is = kept_read rings c.args.vertices.now c.args.self.now.rings.items c.args.number c.index-ring.result.now at indexed c.index-ring.ensures is

pub overflow_add-ring : goal.overflow_add-ring
overflow_add-ring c =
    let (rings, indexed) = c.requires.indexed in
    let vertices = c.args.vertices.now in
    let before = c.loop-before.before in
    let one = sweep_vertex_there rings vertices.list.now before indexed.are (omega (arith, c.loop-before-test.true, c.requires.known)) in
    let next = sweep_vertex_there rings vertices.list.now (before + 1) indexed.are (omega (arith, c.loop-before-test.true, c.requires.known)) in
    let ring = c.loop-before.invariant rings one.place indexed one.is in
    let begins = ring_begins rings vertices before one.place next.place indexed.proper indexed.are one.is next.is (sym c.is_first.ensures ∙ c.if-is_first.true) in
    omega (arith, ring, begins, ring_up_to rings (before + 1) next.place indexed.proper next.is, c.loop-before-test.true, c.requires.known, vertices.few)

pub loop-before-preserved : goal.loop-before-preserved
loop-before-preserved c rings at indexed is =
    let vertices = c.args.vertices.now in
    let before = c.loop-before.before in
    let one = sweep_vertex_there rings vertices.list.now before indexed.are (omega (arith, c.loop-before-test.true, c.requires.known)) in
    let ring = c.loop-before.invariant rings one.place indexed one.is in
    elim c.if-is_first.branch [
      | then-is_first w ↦
          let begins = ring_begins rings vertices before one.place at indexed.proper indexed.are one.is is (sym c.is_first.ensures ∙ w.if-is_first.true) in
          omega (arith, ring, begins, w.ring-is)
      | else-is_first w ↦ w.ring-is ∙ ring ∙ sym (ring_goes_on rings vertices before one.place at indexed.proper indexed.are one.is is (sym c.is_first.ensures ∙ w.if-is_first.false))
    ]

pub returns : goal.returns
returns c rings at indexed is =
    let last : c.loop-before.before ≡ c.args.number = omega (arith, c.loop-before-test.false, c.loop-before.auto.before-end) in
    c.loop-before.invariant rings at indexed (subst (λ (n : ℕ). IsNumbered rings n at) (sym last) is)
