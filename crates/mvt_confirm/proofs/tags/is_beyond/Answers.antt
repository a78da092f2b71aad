use Rattle.std.proofs.Common.{◌≡◌, ◌≤◌, ℕ, length, subst}
use Rattle.mvt_wire.specs.Payload.{spans_of}
use Rattle.mvt_confirm.proofs.Features.LayerTexts.{none_found}
use Rattle.mvt_confirm.proofs.tags.is_beyond.Goals as goal

pub returns-in-Some : goal.returns-in-Some
returns-in-Some c = λ outer entries scope whole.
    let past = none_found c.args.bytes.now outer c.args.layer c.args.field_number c.in-Some.own entries c.part_of_layer.result c.is_none.result scope whole
    c.part_of_layer.ensures.there c.part_of_layer.ensures.none c.is_none.ensures in (
      λ holds. (c.in-Some.own, c.in-Some.is, past.0 holds),
      λ beyond.
          let same : beyond.0 ≡ c.in-Some.own = cc (beyond.1, c.in-Some.is) in
          past.1 (subst (λ (n : ℕ). length (spans_of c.args.field_number entries) ≤ n) same beyond.2),
    )

pub returns-in-None : goal.returns-in-None
returns-in-None c = λ outer entries scope whole. (λ holds. absurd (cc holds), λ beyond. absurd (cc (beyond.1, c.in-None.is)))
