use Rattle.std.proofs.Common.{rules, ◌≡◌, ◌*◌, ◌/◌, ◌%◌, ◌^◌, ◌==◌, ℕ, bit_and, bit_or, set, ◌∙◌, ap, w32, arith}
use Rattle.mvt_tile.specs.Calls.KeyMarks.{block_at, is_added, keys_under}
use Rattle.mvt_tile.proofs.RuleFaults.KeyBits.{is_added-add, is_new}
use Rattle.mvt_tile.proofs.rules.key_marks.add_key.Goals as goal

pub returns-clause-added : goal.returns-clause-added
returns-clause-added c =
    let keys : ℕ = keys_under c.args.mark (block_at c.args.blocks.now (c.args.key / 32)) in
    let read : c.keys_under-keys.result ≡ keys = search rules in
    ap (λ (keys : ℕ). bit_and keys (1 * 2 ^ (c.args.key % 32) % 2 ^ 32) == 0) read ∙ is_new w32 keys (c.args.key % 32) (omega arith)

pub returns-clause-holds : goal.returns-clause-holds
returns-clause-holds c = λ other.
    let read : c.keys_under-keys.result ≡ keys_under c.args.mark (block_at c.args.blocks.now (c.args.key / 32)) = search rules in
    ap (λ (keys : ℕ). is_added c.args.mark (set c.args.blocks.now (c.args.key / 32) (record { mark = c.args.mark; keys = bit_or keys (1 * 2 ^ (c.args.key % 32) % 2 ^ 32) })) other) read
    ∙ is_added-add c.args.mark c.args.key c.args.blocks.now c.requires other
