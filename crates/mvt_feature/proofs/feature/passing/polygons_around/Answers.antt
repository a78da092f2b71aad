use Rattle.std.proofs.Common.{◌≡◌, ℕ, Some, length, get_or, refl, sym, ◌∙◌, ap, subst, arith}
use Rattle.std.proofs.lemmas.Option.{slice_get_read, slice_get-get_or}
use Rattle.mvt_sweep.specs.RingsAround.{nearest_at}
use Rattle.mvt_feature.specs.declared.feature.passing.Passing.TheVariants.{Enters}
use Rattle.mvt_feature.proofs.Placed.CountedPassings.{AreNothing, no_rings, one_ring_more, none_counted, outermost_counted, inner_counted, next_there, all_counted, come_here}
use Rattle.mvt_feature.proofs.feature.passing.polygons_around.Goals as goal
use Rattle.mvt_feature.proofs.feature.passing.polygons_around.Goals.{in-Some, in_default}

pub loop-ring-init : goal.loop-ring-init
loop-ring-init c = rw c.in_ok-around.ensures.items no_rings

pub loop-ring-preserved : goal.loop-ring-preserved
loop-ring-preserved c = rw c.in_ok-push.ensures.items (one_ring_more c.loop-ring._ring c.loop-ring.around.items c.loop-ring.invariant)

pub loop-at-init : goal.loop-at-init
loop-at-init c =
    let many : c.loop-ring._ring ≡ length c.args.passings.now = omega arith in
    none_counted c.args.notes.now.around.items c.args.notes.now.come_to.items c.args.passings.now c.loop-ring.around.items
    (subst (λ (size : ℕ). AreNothing size c.loop-ring.around.items) many c.loop-ring.invariant)

pub nearest-requires : goal.nearest-requires
nearest-requires c =
    let at = c.loop-at.at in
    let here = come_here c.come_to-rings.result.now c.args.notes.now.come_to.items at c.come_to-rings.ensures c.loop-at-test.true in
    omega (arith, c.requires.inwards.only at (get_or c.come_to-rings.result.now at 0) here, c.requires.inwards.noted)

pub index-requires : goal.index-requires
index-requires c =
    let at = c.loop-at.at in
    let own = get_or c.come_to-rings.result.now at 0 in
    let here = come_here c.come_to-rings.result.now c.args.notes.now.come_to.items at c.come_to-rings.ensures c.loop-at-test.true in
    let within = c.requires.inwards.known own c.in-Some.nearest (c.requires.inwards.only at own here) (sym c.nearest.ensures ∙ c.in-Some.is) in
    omega (arith, within, c.loop-at.invariant.size, c.loop-at.around.ok.0)

pub bounds-passings-nearest : goal.bounds-passings-nearest
bounds-passings-nearest c =
    let at = c.loop-at.at in
    let own = get_or c.come_to-rings.result.now at 0 in
    let here = come_here c.come_to-rings.result.now c.args.notes.now.come_to.items at c.come_to-rings.ensures c.loop-at-test.true in
    c.requires.inwards.known own c.in-Some.nearest (c.requires.inwards.only at own here) (sym c.nearest.ensures ∙ c.in-Some.is)

pub around_within-requires : goal.around_within-requires
around_within-requires c =
    let at = c.loop-at.at in
    let near = c.in-Some.nearest in
    let own = get_or c.come_to-rings.result.now at 0 in
    let here = come_here c.come_to-rings.result.now c.args.notes.now.come_to.items at c.come_to-rings.ensures c.loop-at-test.true in
    let is : nearest_at c.args.notes.now.around.items own ≡ Some near = sym c.nearest.ensures ∙ c.in-Some.is in
    let within = c.requires.inwards.known own near (c.requires.inwards.only at own here) is in
    let outer = slice_get_read c.loop-at.around.items (length c.loop-at.around.items) near c.index.result.now refl (omega (arith, c.loop-at.invariant.size)) c.index.ensures in
    next_there c.args.notes.now.around.items c.args.notes.now.come_to.items c.args.passings.now at own near c.index.result.now (get_or c.args.passings.now near Enters) c.loop-at.around.items
    c.requires.inwards c.requires.some here is outer (slice_get-get_or c.args.passings.now near Enters within) c.loop-at.invariant

pub loop-at-preserved : goal.loop-at-preserved
loop-at-preserved c =
    let notes = c.args.notes.now.around.items in
    let come_to = c.args.notes.now.come_to.items in
    let at = c.loop-at.at in
    let own = get_or c.come_to-rings.result.now at 0 in
    let here = come_here c.come_to-rings.result.now come_to at c.come_to-rings.ensures c.loop-at-test.true in
    elim c.match-nearest.branch [
      | in-Some w ↦
          let near = w.in-Some.nearest in
          let is : nearest_at notes own ≡ Some near = sym c.nearest.ensures ∙ w.in-Some.is in
          let within = c.requires.inwards.known own near (c.requires.inwards.only at own here) is in
          let outer = slice_get_read c.loop-at.around.items (length c.loop-at.around.items) near w.index.result.now refl (omega (arith, c.loop-at.invariant.size)) w.index.ensures in
          let counted = inner_counted notes come_to c.args.passings.now at own near w.index.result.now w.around_within.result (get_or c.args.passings.now near Enters) c.loop-at.around.items
          c.requires.inwards here is outer (slice_get-get_or c.args.passings.now near Enters within) w.around_within.ensures c.loop-at.invariant in
          rw w.around-is counted
      | in_default w ↦
          rw w.around-is
          (outermost_counted notes come_to c.args.passings.now at own c.loop-at.around.items c.requires.inwards here (sym c.nearest.ensures ∙ w.in_default.is) c.loop-at.invariant)
    ]

pub returns-clause-counts : goal.returns-clause-counts
returns-clause-counts c =
    all_counted c.args.notes.now.around.items c.args.notes.now.come_to.items c.args.passings.now c.loop-at.at c.loop-at.around.items c.requires.inwards
    (omega (arith, ap length c.come_to-rings.ensures, c.loop-at-test.false)) c.loop-at.invariant

pub index_mut-requires : goal.index_mut-requires
index_mut-requires c =
    let at = c.loop-at.at in
    let own = get_or c.come_to-rings.result.now at 0 in
    let here = come_here c.come_to-rings.result.now c.args.notes.now.come_to.items at c.come_to-rings.ensures c.loop-at-test.true in
    omega (arith, c.requires.inwards.only at own here, c.loop-at.invariant.size)

pub returns-clause-size : goal.returns-clause-size
returns-clause-size c =
    c.loop-at.invariant.size
