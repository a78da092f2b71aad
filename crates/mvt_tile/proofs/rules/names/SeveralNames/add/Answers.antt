use Rattle.std.proofs.Common.{◌≡◌, subst, sym, arith}
use Rattle.std.specs.Prelude.{All}
use Rattle.std.proofs.lemmas.List.Elements.{All-push}
use Rattle.mvt_tile.specs.Calls.Names.{name_key}
use Rattle.mvt_tile.specs.declared.first_places.Held.{Held}
use Rattle.mvt_tile.proofs.RuleFaults.Names.{numbered_pushed}
use Rattle.mvt_tile.proofs.rules.names.SeveralNames.add.Goals as goal

pub invariant_of-self-2 : goal.invariant_of-self-2
invariant_of-self-2 c = (
  numbered_pushed (λ named. named.place) c.self.inside.names.items c.push.new.self.items _ c.in_ok-push.ensures.items (omega (arith, c.len-place.ensures, c.self.inside.names.ok)) c.self.invariant.0,
  subst (All (λ (named : Held). named.number ≡ name_key named.text.now)) (sym c.in_ok-push.ensures.items)
      (All-push (λ (named : Held). named.number ≡ name_key named.text.now) c.self.inside.names.items _ c.self.invariant.1 c.name_key-number.ensures),
)
