use Rattle.std.proofs.Common.{◌≡◌, ℕ, List, refl, subst}
use Rattle.mvt_splice.specs.Splice.{fate_in, stays, HasPayload}
use Rattle.mvt_splice.proofs.Splicing.Layers.{IsSplicedLayer-same}
use Rattle.mvt_splice.proofs.Splicing.Tiles.{HasPayload-in}
use Rattle.mvt_splice.proofs.Splicing.Walks.{WritesFields-copy}
use Rattle.mvt_splice.proofs.tile.add_layer.Goals as goal

pub returns : goal.returns
returns c = λ piece encodes there.
    let written = c.in_ok-add_delimited.ensures in (
      written.0,
      written.2,
      (
        c.in_ok-spliced.spliced.items,
        subst (λ (payload : List ℕ). HasPayload 3 payload written.0.field) c.deref.ensures.value written.1,
        c.in_ok-spliced.ensures,
        λ stay. absurd (c.has_change_in.ensures.some c.if-not-has_change_in.false stay),
      ),
    )

pub returns-then-not-has_change_in : goal.returns-then-not-has_change_in
returns-then-not-has_change_in c = λ piece encodes there.
    let message = c.args.message.now in
    let stay : (feature : ℕ) → fate_in c.args.changes.now c.args.layer feature ≡ stays = c.has_change_in.ensures.none (λ some. let none = c.if-not-has_change_in.true in cc) in (
      piece,
      WritesFields-copy c.args.out.now.items c.extend_from_slice.new.self.items c.args.encoding.now piece encodes c.in_ok-extend_from_slice.ensures.items,
      (message, HasPayload-in 3 piece.field message there, IsSplicedLayer-same (fate_in c.args.changes.now c.args.layer) message c.requires.whole stay, λ all. refl),
    )
