use Rattle.std.proofs.Common.{◌≡◌, ℕ, zero, suc, ◌<◌, ◌≤◌, ◌==◌, not, Bool, true, false, List, [], ◌∷◌, insert, slice_index, subst, arith}
use Rattle.mvt_status.specs.Split.{IsSplit}
use Rattle.polygon_tests.proofs.status.three_edges.Goals as goal

abbrev three : List ℕ
three = 4 ∷ 9 ∷ 7 ∷ []

-- the answers of the test whether an edge is another than 7
abbrev is_other : ℕ → Bool → Type 0
is_other edge answer = answer ≡ not (edge == 7)

others_in_front : (i : ℕ) → i < 2 → (answer : Bool) → is_other (slice_index three i) answer → answer ≡ true
others_in_front zero below answer is = is
others_in_front (suc zero) below answer is = is
others_in_front (suc (suc i)) below answer is = absurd (omega arith)

seven_after : (i : ℕ) → 2 ≤ i → i < 3 → (answer : Bool) → is_other (slice_index three i) answer → answer ≡ false
seven_after zero from below answer is = absurd (omega arith)
seven_after (suc zero) from below answer is = absurd (omega arith)
seven_after (suc (suc zero)) from below answer is = is
seven_after (suc (suc (suc i))) from below answer is = absurd (omega arith)

splits_at_two : IsSplit is_other three 2
splits_at_two = record { within = omega arith; front = others_in_front; rest = seven_after }

inserted : (empty first second third : List ℕ) → empty ≡ [] → first ≡ insert empty 0 7 → second ≡ insert first 0 4 → third ≡ insert second 1 9 → three ≡ third
inserted empty first second third none one two all = cc

splits : (edges : List ℕ) → three ≡ edges → (point : ℕ) × IsSplit is_other edges point
splits edges same = (2, subst (λ (list : List ℕ). IsSplit is_other list 2) same splits_at_two)

pub split_point-split-requires-clause-splits : goal.split_point-split-requires-clause-splits
split_point-split-requires-clause-splits g c =
    let edges = g.S.Status.edges in
    splits (edges c.insert-3.new.self)
    (inserted (edges c.args.status.now) (edges c.insert.new.self) (edges c.insert-2.new.self) (edges c.insert-3.new.self) c.requires
    c.in_ok-insert.ensures.list c.in_ok-insert-2.ensures.list c.in_ok-insert-3.ensures.list)
