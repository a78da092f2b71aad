use Rattle.std.proofs.Common.{sym, ◌<◌, ◌∙◌, ap, not, arith}
use Rattle.mvt_tile.proofs.RuleFaults.KeyBits.{has_key-add_first, has_key-first}
use Rattle.mvt_tile.proofs.rules.key_marks.KeyMarks.insert.Goals as goal

pub returns-clause-added : goal.returns-clause-added
returns-clause-added c =
    let first : c.args.key < 256 = omega (arith, c.if-index-ge-FIRST_KEYS.false) in
    c.add_first.ensures.added ∙ ap not (sym (has_key-first c.args.self.now c.args.key first))

pub returns-clause-holds : goal.returns-clause-holds
returns-clause-holds c =
    let first : c.args.key < 256 = omega (arith, c.if-index-ge-FIRST_KEYS.false) in
    has_key-add_first c.args.self.now c.args.key _ first c.add_first.ensures.holds
