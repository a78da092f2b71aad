-- An edge at a time, its test is taken from what is to come and joined to the parity so far.
use Rattle.std.proofs.Common.{◌≡◌, [], ◌∷◌, drop, ◌+◌, sym, ◌∙◌, ap}
use Rattle.std.proofs.lemmas.List.{drop_more, drop_all}
use Rattle.mvt_plane.specs.Position.{Position}
use Rattle.mvt_plane.specs.Geometry.Inside.{IsInside}
use Rattle.mvt_plane.proofs.Insides.InsideParity.{completes_start, completes_edge, completes_last}
use Rattle.mvt_plane.proofs.geometry.parity.inside.Goals as goal

pub loop-to-init : goal.loop-to-init
loop-to-init c = completes_start c.args.point c.in-Some.first.now c.in-Some.rest.now c.args.ring.now c.in-Some.ensures.cases.0

pub loop-to-preserved : goal.loop-to-preserved
loop-to-preserved c =
    let rest = c.in-Some.rest.now in
    let at = c.loop-to.to-index in
    let to = c.to-item.result in
    let opened : drop at rest ≡ to ∷ drop (at + 1) rest = drop_more rest at to c.loop-to-test.true ∙ ap (λ (position : Position). position ∷ drop (at + 1) rest) (sym c.to-item.is) in
    completes_edge c.args.point c.in-Some.first.now c.loop-to.from.now to (drop at rest) (drop (at + 1) rest) (IsInside c.args.point c.args.ring.now) c.loop-to.is_odd
    c.passes_over-is_odd.result opened c.passes_over-is_odd.ensures c.loop-to.invariant

pub returns : goal.returns
returns c =
    let rest = c.in-Some.rest.now in
    let closed : drop c.loop-to.to-index rest ≡ [] = drop_all c.loop-to.to-index rest c.loop-to-test.false in
    completes_last c.args.point c.in-Some.first.now c.loop-to.from.now (drop c.loop-to.to-index rest) (IsInside c.args.point c.args.ring.now) c.loop-to.is_odd
    c.passes_over.result closed c.passes_over.ensures c.loop-to.invariant
