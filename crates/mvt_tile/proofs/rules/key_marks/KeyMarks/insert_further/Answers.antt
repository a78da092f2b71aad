use Rattle.std.proofs.Common.{rules, ◌≡◌, ◌-◌, ◌==◌, ◌||◌, ℕ, Bool, ◌∙◌, ap}
use Rattle.std.proofs.lemmas.List.{places, with_items_is}
use Rattle.mvt_tile.specs.Calls.KeyMarks.{block_at}
use Rattle.mvt_tile.proofs.RuleFaults.KeyBits.{has_key-add_further, same_added}
use Rattle.mvt_tile.proofs.rules.key_marks.KeyMarks.insert_further.Goals as goal

pub returns-clause-holds : goal.returns-clause-holds
returns-clause-holds c =
    let set = c.args.self.now in
    let same : (place : ℕ) → block_at c.deref_mut.result.now place ≡ block_at set.further.items place = λ place. search rules in
    rw (with_items_is c.if-place-len.self.1.1.0 c.add_key.new.blocks (search (rules, places)))
    (has_key-add_further set c.args.key c.add_key.new.blocks c.requires.further
    (λ other. c.add_key.ensures.holds other ∙ ap (λ (has : Bool). other == c.args.key - 256 || has) (same_added set.current set.further.items c.deref_mut.result.now same other)))
