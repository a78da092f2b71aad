use Rattle.std.proofs.Common.{◌≡◌, ℕ, ◌<◌, ◌≤◌, nat_lt, List, length, slice_index, ap, ◌∙◌, arith}
use Rattle.std.proofs.lemmas.Bool.{lt-ltb, le-ltb}
use Rattle.mvt_status.specs.Split.{IsSplit}
use Rattle.polygon_tests.proofs.status.split_below.Goals as goal

-- numbers at their own places split at a limit
splits_at_limit : (edges : List ℕ) (limit : ℕ) → limit ≤ length edges → ((at : ℕ) → at < length edges → slice_index edges at ≡ at)
    → IsSplit (λ edge answer. answer ≡ nat_lt edge limit) edges limit
splits_at_limit edges limit within numbered = record {
  within = within;
  front = λ i below answer is. is ∙ ap (λ edge. nat_lt edge limit) (numbered i (omega arith)) ∙ lt-ltb i limit below;
  rest = λ i from below answer is. is ∙ ap (λ edge. nat_lt edge limit) (numbered i below) ∙ le-ltb i limit from;
}

pub split_point-requires-clause-splits : goal.split_point-requires-clause-splits
split_point-requires-clause-splits g c =
    (c.args.limit, splits_at_limit (g.S.Status.edges c.args.status.now) c.args.limit c.requires.within c.requires.numbered)
