use Rattle.std.proofs.Common.{◌/◌, ◌%◌, get_or, w64, arith}
use Rattle.mvt_tile.proofs.RuleFaults.KeyBits.{is_in-add, is_new}
use Rattle.mvt_tile.proofs.rules.key_marks.add_first.Goals as goal

pub returns-clause-added : goal.returns-clause-added
returns-clause-added c = is_new w64 (get_or c.args.words.now (c.args.key / 64) 0) (c.args.key % 64) (omega arith)

pub returns-clause-holds : goal.returns-clause-holds
returns-clause-holds c = is_in-add c.args.key c.args.words.now (omega (arith, c.told-words, c.requires))
