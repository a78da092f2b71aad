use Rattle.std.proofs.Common.{◌≡◌, ◌+◌, ◌-◌, ◌<◌, ◌≤◌, nat_eq, true≢false, List, ℕ, length, true, refl, sym, ◌∙◌, subst, arith}
use Rattle.std.specs.Cmp.Lexicographic.{pointwise}
use Rattle.std.proofs.lemmas.List.Sorted.{All-permutation}
use Rattle.std.proofs.lemmas.Option.{slice_get_read}
use Rattle.std.proofs.lemmas.Slice.Eq.{bytes_eq-Decides}
use Rattle.mvt_tile.specs.Calls.Names.{name_key}
use Rattle.mvt_tile.specs.declared.first_places.Held.{Held}
use Rattle.mvt_tile.proofs.RuleFaults.Names.{IsNamed, IsLeastPair, IsLeastPair-none, pair_kept, pair_taken, one_key, IsNaming-numbered, grouped_by_sort, IsNaming, if_none, if_some}
use Rattle.mvt_tile.proofs.rules.names.SeveralNames.first_repeated.Goals.{then-layer-next+then-eq+then-comes_first, else-layer-next, else-layer-next-via-then-layer-next+then-eq+else-comes_first, else-layer-next-via-then-layer-next+else-eq, else-layer-next-via-else-layer-next}
use Rattle.mvt_tile.proofs.rules.names.SeveralNames.first_repeated.Goals as goal

abbrev key : Held → ℕ
key named = named.number

abbrev name : Held → List ℕ
name named = named.text.now

abbrev ordinal : Held → ℕ
ordinal named = named.place

pub loop-at-init : goal.loop-at-init
loop-at-init c = IsLeastPair-none name ordinal c.args.self c.sort_unstable.new.self.items

-- the texts are compared byte by byte
same_bytes : (one other : List ℕ) → pointwise nat_eq one other ≡ true → one ≡ other
same_bytes one other is = (bytes_eq-Decides one other).0 is

pub loop-at-preserved : goal.loop-at-preserved
loop-at-preserved c =
    let xs = c.sort_unstable.new.self.items in
    let at = c.loop-at.at in
    let x = c.index.result.now in
    let y = c.index-in-loop-at.result.now in
    let some : 1 ≤ at = c.loop-at.auto.at in
    let within : at < length xs = omega (arith, c.len-at-end.ensures, c.loop-at-test.true) in
    let keyed = All-permutation (λ (named : Held). named.number ≡ name_key named.text.now) c.self.inside.names.items xs c.sort_unstable.ensures.permutation c.self.invariant.1 in
    elim c.if-layer-next.branch [
      | then-layer-next+then-eq+then-comes_first w ↦
          subst (IsLeastPair name ordinal c.args.self xs (at + 1)) (sym w.found-is)
          (pair_taken name ordinal c.args.self xs at x y some within c.index.ensures c.index-in-loop-at.ensures c.loop-at.found c.loop-at.invariant
          (same_bytes _ _ (sym w.eq.ensures ∙ w.if-eq.true))
          (w.comes_first.ensures.earlier w.if-comes_first.true))
      | else-layer-next w ↦
          subst (IsLeastPair name ordinal c.args.self xs (at + 1)) (sym w.found-is)
          (pair_kept name ordinal c.args.self xs at x y some within c.index.ensures c.index-in-loop-at.ensures c.loop-at.found c.loop-at.invariant
          (λ same. elim w.else-layer-next.branch [
            | else-layer-next-via-then-layer-next+then-eq+else-comes_first v ↦ v.comes_first.ensures.later v.if-comes_first.false
            | else-layer-next-via-then-layer-next+else-eq v ↦ absurd (true≢false (sym ((bytes_eq-Decides _ _).1 same) ∙ sym v.eq.ensures ∙ v.if-eq.false))
            | else-layer-next-via-else-layer-next v ↦
                absurd (v.if-layer-next.false (one_key name ordinal (IsNamed c.args.self) key name_key xs keyed (at - 1) at x y (slice_get_read xs (length xs) (at - 1) x refl (omega arith) c.index.ensures) (slice_get_read xs (length xs) at y refl within c.index-in-loop-at.ensures) same))
          ]))
    ]

pub returns-clause-none : goal.returns-clause-none
returns-clause-none c = if_none name ordinal c.args.self c.sort_unstable.new.self.items
    (grouped_by_sort name ordinal (IsNamed c.args.self) key name_key c.self.inside.names.items c.sort_unstable.new.self.items (subst (λ (names : List (List ℕ)). IsNaming name ordinal (IsNamed names) c.self.inside.names.items) c.self.view_is (IsNaming-numbered name ordinal c.self.inside.names.items c.self.invariant.0)) c.self.invariant.1 c.sort_unstable.ensures.permutation c.sort_unstable.ensures.sorted)
    c.loop-at.at c.loop-at.found (omega (arith, c.len-at-end.ensures, c.loop-at-test.false)) c.loop-at.invariant

pub returns-clause-first : goal.returns-clause-first
returns-clause-first c = if_some name ordinal c.args.self c.sort_unstable.new.self.items
    (grouped_by_sort name ordinal (IsNamed c.args.self) key name_key c.self.inside.names.items c.sort_unstable.new.self.items (subst (λ (names : List (List ℕ)). IsNaming name ordinal (IsNamed names) c.self.inside.names.items) c.self.view_is (IsNaming-numbered name ordinal c.self.inside.names.items c.self.invariant.0)) c.self.invariant.1 c.sort_unstable.ensures.permutation c.sort_unstable.ensures.sorted)
    c.loop-at.at c.loop-at.found (omega (arith, c.len-at-end.ensures, c.loop-at-test.false)) c.loop-at.invariant
