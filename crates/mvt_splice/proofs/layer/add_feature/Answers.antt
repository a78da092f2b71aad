use Rattle.std.proofs.Common.{[], ◌∷◌, refl, sym, subst}
use Rattle.mvt_splice.specs.Splice.{Fate, Becomes}
use Rattle.mvt_splice.proofs.Splicing.Walks.{WritesFields-copy}
use Rattle.mvt_splice.proofs.layer.add_feature.Goals as goal

pub returns-in_default : goal.returns-in_default
returns-in_default c = λ piece encodes. (
  piece ∷ [],
  WritesFields-copy c.args.out.now.items c.extend_from_slice.new.self.items c.args.encoding.now piece encodes c.in_ok-extend_from_slice.ensures.items,
  subst (λ (fate : Fate). Becomes fate c.args.message.now piece (piece ∷ [])) (sym c.in_default.ensures.none) refl,
)
