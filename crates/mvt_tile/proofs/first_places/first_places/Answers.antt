use Rattle.std.proofs.Common.{◌≡◌, ◌∙◌, ◌+◌, ◌-◌, ◌<◌, ◌≤◌, nat_eq, true≢false, sym, ap, subst, refl, ℕ, Vec, Global, List, ◌∷◌, length, get_or, slice_get, set, true, Option, Some, None, unwrap_or, arith}
use Rattle.std.specs.Cmp.Lexicographic.{pointwise}
use Rattle.std.proofs.lemmas.List.{get_or_default, length-replicate, length-set}
use Rattle.std.proofs.lemmas.Option.{slice_get_read}
use Rattle.std.proofs.lemmas.Slice.Eq.{bytes_eq-Decides}
use Rattle.mvt_tile.specs.Calls.Equal.{HeldAt, held_value}
use Rattle.mvt_tile.specs.declared.first_places.Held.{Held}
use Rattle.mvt_tile.proofs.RuleFaults.HeldPlaces.{place_of, grouped, below_bound}
use Rattle.mvt_tile.proofs.RuleFaults.Repetitions.{AreNoted, AreNoted-none, AreNoted-same, AreNoted-other, all_noted}
use Rattle.mvt_tile.proofs.first_places.first_places.Goals.{then-before-item+then-eq, else-before-item, else-before-item-via-then-before-item+else-eq, else-before-item-via-else-before-item}
use Rattle.mvt_tile.proofs.first_places.first_places.Goals as goal

-- an item of the sorted list, as it is read
read : (xs : List Held) (at : ℕ) (item : Held) → at < length xs → item ≡ get_or xs at item → slice_get xs at ≡ Some item
read xs at item within is = slice_get_read xs (length xs) at item refl within is

-- the list of places, of a Vec
abbrev items_of : Vec (Option ℕ) Global → List (Option ℕ)
items_of firsts = firsts.items

-- a copy of none is none
none_cloned : (Cloned : Option ℕ → Type 0) → ((first : ℕ) → ¬ Cloned (Some first)) → (place : Option ℕ) → Cloned place → place ≡ None
none_cloned Cloned none None same = refl
none_cloned Cloned none (Some first) same = absurd (none first same)

pub loop-at-init : goal.loop-at-init
loop-at-init c =
    let xs = c.sort_unstable.new.self.items in
    let are = grouped c.args.bound c.args.held.items c.requires xs c.sort_unstable.ensures.permutation c.sort_unstable.ensures.sorted in
    let is = c.in_ok-firsts.ensures.items_if_clones_equal (none_cloned _ (λ first same. same)) in
    (ap length is ∙ length-replicate c.args.bound None, subst (AreNoted held_value place_of (HeldAt c.args.held.items) xs 1) (sym is) (AreNoted-none held_value place_of (HeldAt c.args.held.items) xs are c.args.bound))

pub index-requires-then-eq : goal.index-requires-then-eq
index-requires-then-eq c =
    let xs = c.sort_unstable.new.self.items in
    let are = grouped c.args.bound c.args.held.items c.requires xs c.sort_unstable.ensures.permutation c.sort_unstable.ensures.sorted in
    let some : 1 ≤ c.loop-at.at = c.loop-at.auto.at in
    let within : c.loop-at.at < length xs = omega (arith, c.len-at-end.ensures, c.loop-at-test.true) in
    let below = below_bound c.args.bound c.args.held.items c.requires xs are (c.loop-at.at - 1) c.index.result.now (read xs (c.loop-at.at - 1) c.index.result.now (omega arith) c.index.ensures) in
    omega (arith, below, c.loop-at.invariant.0)

pub index_mut-requires : goal.index_mut-requires
index_mut-requires c =
    let xs = c.sort_unstable.new.self.items in
    let are = grouped c.args.bound c.args.held.items c.requires xs c.sort_unstable.ensures.permutation c.sort_unstable.ensures.sorted in
    let within : c.loop-at.at < length xs = omega (arith, c.len-at-end.ensures, c.loop-at-test.true) in
    let below = below_bound c.args.bound c.args.held.items c.requires xs are c.loop-at.at c.index-in-loop-at.result.now (read xs c.loop-at.at c.index-in-loop-at.result.now within c.index-in-loop-at.ensures) in
    omega (arith, below, c.loop-at.invariant.0)

-- the texts are compared byte by byte
same_bytes : (one other : List ℕ) → pointwise nat_eq one other ≡ true → one ≡ other
same_bytes one other is = (bytes_eq-Decides one other).0 is

pub loop-at-preserved : goal.loop-at-preserved
loop-at-preserved c =
    let xs = c.sort_unstable.new.self.items in
    let at = c.loop-at.at in
    let x = c.index.result.now in
    let y = c.index-in-loop-at.result.now in
    let firsts = c.loop-at.firsts.items in
    let bound = c.args.bound in
    let items = c.args.held.items in
    let are = grouped bound items c.requires xs c.sort_unstable.ensures.permutation c.sort_unstable.ensures.sorted in
    let some : 1 ≤ at = c.loop-at.auto.at in
    let within : at < length xs = omega (arith, c.len-at-end.ensures, c.loop-at-test.true) in
    let near = read xs (at - 1) x (omega arith) c.index.ensures in
    let there = read xs at y within c.index-in-loop-at.ensures in
    let size = c.loop-at.invariant.0 in
    let below_x = below_bound bound items c.requires xs are (at - 1) x near in
    let below_y = below_bound bound items c.requires xs are at y there in
    elim c.if-before-item.branch [
      | then-before-item+then-eq w ↦
          let numbers = w.if-before-item.true in
          let texts = same_bytes x.text.now y.text.now (sym w.eq.ensures ∙ w.if-eq.true) in
          let same : held_value x ≡ held_value y = λ i. numbers i ∷ texts i in
          let known : w.index-then-eq.result.now ≡ get_or firsts x.place None = w.index-then-eq.ensures ∙ get_or_default firsts x.place w.index-then-eq.result.now None (omega (arith, below_x, size)) in
          let first : w.unwrap_or.result ≡ unwrap_or (get_or firsts x.place None) x.place = w.unwrap_or.ensures ∙ ap (λ (place : Option ℕ). unwrap_or place x.place) known in
          let new : c.if-before-item.firsts.items ≡ set firsts y.place (Some w.unwrap_or.result) = ap items_of w.firsts-is in (
            ap length new ∙ length-set firsts y.place (Some w.unwrap_or.result) ∙ size,
            subst (AreNoted held_value place_of (HeldAt items) xs (at + 1)) (sym new)
                (AreNoted-same held_value place_of (HeldAt items) xs are at x y some near there firsts c.loop-at.invariant.1 w.unwrap_or.result first (omega (arith, below_y, size)) same),
          )
      | else-before-item w ↦
          let new : c.if-before-item.firsts.items ≡ firsts = ap items_of w.firsts-is in (
            ap length new ∙ size,
            subst (AreNoted held_value place_of (HeldAt items) xs (at + 1)) (sym new)
                (AreNoted-other held_value place_of (HeldAt items) xs are at x y some near there firsts c.loop-at.invariant.1 (λ same. elim w.else-before-item.branch [
                  | else-before-item-via-then-before-item+else-eq v ↦
                      let texts : x.text.now ≡ y.text.now = cc same in
                      absurd (true≢false (sym ((bytes_eq-Decides x.text.now y.text.now).1 texts) ∙ sym v.eq.ensures ∙ v.if-eq.false))
                  | else-before-item-via-else-before-item v ↦
                      let numbers : x.number ≡ y.number = cc same in
                      absurd (v.if-before-item.false numbers)
                ])),
          )
    ]

pub returns : goal.returns
returns c =
    let xs = c.sort_unstable.new.self.items in
    let are = grouped c.args.bound c.args.held.items c.requires xs c.sort_unstable.ensures.permutation c.sort_unstable.ensures.sorted in
    all_noted held_value place_of (HeldAt c.args.held.items) xs are c.loop-at.at c.loop-at.firsts.items (omega (arith, c.len-at-end.ensures, c.loop-at-test.false)) c.loop-at.invariant.1
