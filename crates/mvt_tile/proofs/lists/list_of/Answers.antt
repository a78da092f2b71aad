use Rattle.std.proofs.Common.{◌≡◌, List, ℕ, [], ◌∷◌, ◌++◌, sym, ap, ◌∙◌}
use Rattle.std.proofs.lemmas.List.{append-nil, append_assoc}
use Rattle.mvt_tile.proofs.lists.list_of.Goals as goal

-- one more number goes from what is left into the list
one_more : (given list rest after left : List ℕ) (number : ℕ) → given ≡ list ++ rest → rest ≡ number ∷ left → after ≡ list ++ number ∷ [] → given ≡ after ++ left
one_more given list rest after left number is next pushed =
    is ∙ ap (λ (it : List ℕ). list ++ it) next ∙ sym (append_assoc list (number ∷ []) left) ∙ ap (λ (it : List ℕ). it ++ left) (sym pushed)

none_left : (given list rest : List ℕ) → given ≡ list ++ rest → rest ≡ [] → list ≡ given
none_left given list rest is none = sym (is ∙ ap (λ (it : List ℕ). list ++ it) none ∙ append-nil list)

pub numbers-init : goal.numbers-init
numbers-init g c = λ given left. (given, ap (λ (list : List ℕ). list ++ given) (sym c.new-list.ensures.items), left)

pub numbers-preserved : goal.numbers-preserved
numbers-preserved g c = λ given left.
    let so_far = c.numbers.invariant given left in
    let next = c.in-Some.ensures.number so_far.0 so_far.2 in
    (next.0, one_more given c.numbers.list.items so_far.0 c.push.new.self.items next.0 c.in-Some.number so_far.1 next.1 c.in_ok-push.ensures.items, next.2)

pub returns : goal.returns
returns g c = λ given left.
    let so_far = c.numbers.invariant given left in
    none_left given c.numbers.list.items so_far.0 so_far.1 (c.in_default.ensures.end so_far.0 so_far.2)
