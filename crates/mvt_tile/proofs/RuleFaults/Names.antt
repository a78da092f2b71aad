-- Names of layers, sorted so that those that are the same are neighbours.
use Rattle.std.proofs.Common.{◌≡◌, ◌∙◌, sym, ap, subst, refl, true≢false, ℕ, ◌+◌, ◌-◌, ◌<◌, ◌≤◌, false, List, [], ◌∷◌, ◌++◌, length, get_or, slice_get, map, Option, Some, None, IfSome, IfNone, inl, inr, All, arith}
use Rattle.std.specs.Cmp.{IsTotalOrder, nat_cmp_is}
use Rattle.std.specs.Cmp.Lexicographic.{slice_cmp}
use Rattle.std.specs.List.{swap}
use Rattle.std.specs.Option.{option_map}
use Rattle.std.specs.List.Sorted.{IsPermutation, IsSorted}
use Rattle.std.specs.Ordering.{nat_cmp, ordering_then, ordering_reverse, is_lt}
use Rattle.std.specs.declared.cmp.Ordering.{Ordering}
use Rattle.std.specs.declared.cmp.Ordering.TheVariants.{Less, Equal, Greater}
use Rattle.std.proofs.lemmas.Bool.{cases_lt, cases_eq}
use Rattle.std.proofs.lemmas.Cmp.{nat_list_cmp_total, nat_cmp_total, on_total, then_total}
use Rattle.std.proofs.lemmas.List.{map-append, length-map}
use Rattle.std.proofs.lemmas.List.Elements.{All-get_or}
use Rattle.std.proofs.lemmas.List.Sorted.{All-permutation, IsPermutation-keeps, ranks_by, sorted_far}
use Rattle.std.proofs.lemmas.Option.{slice_get_within, slice_get-get_or, same_Some, get_or_from_slice_get, slice_get_cases, slice_get_read, slice_get-map}
use Rattle.mvt_fault.proofs.Places.{equal_decides}
use Rattle.mvt_fault.proofs.Swaps.{place_before, place_twice, swap_get}
use Rattle.mvt_wire.proofs.Parts.EmbeddedSpans.{slice_get-push}
use Rattle.mvt_tile.specs.Calls.Names.{AreNumbered, IsRepeated, IsFirstRepeated}

-- names are compared byte by byte, and those that are the same by their ordinals
abbrev pub compare_named : {X : Type 0} → (X → List ℕ) → (X → ℕ) → X → X → Ordering
compare_named name ordinal x y = ordering_then (slice_cmp nat_cmp (name x) (name y)) (nat_cmp (ordinal x) (ordinal y))

-- and so are those of one key
abbrev pub compare_keyed : {X : Type 0} → (X → ℕ) → (X → List ℕ) → (X → ℕ) → X → X → Ordering
compare_keyed key name ordinal x y = ordering_then (nat_cmp (key x) (key y)) (compare_named name ordinal x y)

-- two lists neither of which is less than the other are the same
neither_less : (xs ys : List ℕ) → ¬ (slice_cmp nat_cmp xs ys ≡ Less) → ¬ (slice_cmp nat_cmp ys xs ≡ Less) → xs ≡ ys
neither_less xs ys one other = by_order (slice_cmp nat_cmp xs ys) refl
  where
    by_order : (o : Ordering) → o ≡ slice_cmp nat_cmp xs ys → xs ≡ ys
    by_order Less is = absurd (one (sym is))
    by_order Equal is = (equal_decides Equal xs ys is).0 refl
    by_order Greater is = absurd (other (nat_list_cmp_total.antisymm ys xs ∙ ap ordering_reverse (sym is)))

-- where one isn't less, neither is its key
key_not_less : (m n : ℕ) (then : Ordering) → is_lt (ordering_then (nat_cmp m n) then) ≡ false → n ≤ m
key_not_less m n then not = elim (cases_lt m n) [
  | inr at_least ↦ at_least
  | inl below ↦ absurd (true≢false (ap (λ (it : Ordering). is_lt (ordering_then it then)) (nat_cmp_is m n Less below) ∙ not))
]

-- and where the keys are the same, neither is what comes after them
of_one_key : (m n : ℕ) (then : Ordering) → m ≡ n → is_lt (ordering_then (nat_cmp m n) then) ≡ false → is_lt then ≡ false
of_one_key m n then same not = ap (λ (it : Ordering). is_lt (ordering_then it then)) (nat_cmp_is m n Equal same) ∙ not

-- where a pair isn't less, neither is its first part
first_not_less : (xs ys : List ℕ) (then : Ordering) → is_lt (ordering_then (slice_cmp nat_cmp xs ys) then) ≡ false → ¬ (slice_cmp nat_cmp xs ys ≡ Less)
first_not_less xs ys then not less = absurd (true≢false (ap (λ (it : Ordering). is_lt (ordering_then it then)) (sym less) ∙ not))

-- and where the first parts are the same, neither is its second part
of_one_name : (xs ys : List ℕ) (m n : ℕ) → xs ≡ ys → is_lt (ordering_then (slice_cmp nat_cmp xs ys) (nat_cmp m n)) ≡ false → n ≤ m
of_one_name xs ys m n same not =
    elim (cases_lt m n) [
      | inr at_least ↦ omega arith
      | inl below ↦
          absurd (true≢false (ap is_lt (nat_cmp_is m n Less below) ∙ ap (λ (it : Ordering). is_lt (ordering_then it (nat_cmp m n))) (sym ((equal_decides (slice_cmp nat_cmp xs ys) xs ys refl).1 same)) ∙ not))
    ]

module _ {X : Type 0} (name : X → List ℕ) (ordinal : X → ℕ) (At : ℕ → List ℕ → Type 0) where
  -- what is at the places, as layers' names at those of the layers, in any order, each once and with its ordinal
  pub record IsNaming (xs : List X) : Type 0 where
    pub known : (at : ℕ) (x : X) → slice_get xs at ≡ Some x → At (ordinal x) (name x)
    pub all : (number : ℕ) (it : List ℕ) → At number it → (at : ℕ) × (x : X) × (slice_get xs at ≡ Some x) × (ordinal x ≡ number) × (name x ≡ it)
    pub once : (at other : ℕ) (x y : X) → slice_get xs at ≡ Some x → slice_get xs other ≡ Some y → ordinal x ≡ ordinal y → at ≡ other

  naming_swapped : (xs : List X) (one other : ℕ) → one < length xs → other < length xs → IsNaming xs → IsNaming (swap xs one other)
  naming_swapped xs one other first second it = elim (slice_get_cases xs one).1 [
    | inr past ↦ absurd (let beyond = past.0 in omega arith)
    | inl inside ↦
        let moved = λ (at : ℕ). swap_get xs inside.0 one other at first second in
        record {
          known = λ at x there. it.known (place_before one other at) x (sym (moved at) ∙ there);
          all = λ number its there. let found = it.all number its there in
              (place_before one other found.0, found.1, moved (place_before one other found.0) ∙ ap (slice_get xs) (place_twice one other found.0) ∙ found.2, found.3, found.4);
          once = λ at another x y there elsewhere same.
              sym (place_twice one other at)
              ∙ ap (place_before one other) (it.once (place_before one other at) (place_before one other another) x y (sym (moved at) ∙ there) (sym (moved another) ∙ elsewhere) same)
              ∙ place_twice one other another;
        }
  ]

  -- they are ordered so that equal names are neighbours, and those of one name in the order of their ordinals
  pub record AreGrouped (xs : List X) : Type 0 where
    pub naming : IsNaming xs
    pub rising : (at other : ℕ) (x y : X) → at < other → slice_get xs at ≡ Some x → slice_get xs other ≡ Some y → name x ≡ name y → ordinal x < ordinal y
    pub together : (at middle other : ℕ) (x z y : X) → at ≤ middle → middle ≤ other → slice_get xs at ≡ Some x → slice_get xs middle ≡ Some z → slice_get xs other ≡ Some y
        → name x ≡ name y → name x ≡ name z

  module _ (key : X → ℕ) (name_key : List ℕ → ℕ) where
    keyed_total : IsTotalOrder (compare_keyed key name ordinal)
    keyed_total = then_total (on_total key nat_cmp_total) (then_total (on_total name nat_list_cmp_total) (on_total ordinal nat_cmp_total))

    -- what is after isn't less
    not_less : (xs : List X) → IsSorted (compare_keyed key name ordinal) xs → (at other : ℕ) (x y : X) → at ≤ other → slice_get xs at ≡ Some x → slice_get xs other ≡ Some y
        → is_lt (compare_keyed key name ordinal y x) ≡ false
    not_less xs sorted at other x y following there elsewhere =
        let within = slice_get_within xs other y elsewhere in
        let here : get_or xs at x ≡ x = get_or_from_slice_get xs at x x there in
        let further : get_or xs other x ≡ y = get_or_from_slice_get xs other y x elsewhere in
        rw (here, further) at (sorted_far (λ (x y : X). is_lt (compare_keyed key name ordinal x y)) (ranks_by keyed_total (λ (x : X). x)) xs sorted at other x following within)

    -- those of one name have one key
    pub one_key : (xs : List X) → All (λ (x : X). key x ≡ name_key (name x)) xs → (at other : ℕ) (x y : X) → slice_get xs at ≡ Some x → slice_get xs other ≡ Some y → name x ≡ name y → key x ≡ key y
    one_key xs keyed at other x y there elsewhere same = its at x there ∙ ap name_key same ∙ sym (its other y elsewhere)
      where
        its : (at : ℕ) (x : X) → slice_get xs at ≡ Some x → key x ≡ name_key (name x)
        its at x there = subst (λ (it : X). key it ≡ name_key (name it)) (get_or_from_slice_get xs at x x there)
            (All-get_or (λ (it : X). key it ≡ name_key (name it)) xs at x (slice_get_within xs at x there) keyed)

    -- so names that are the same are neighbours, and those of one name in the order of their ordinals
    pub grouped_by_sort : (before xs : List X) → IsNaming before → All (λ (x : X). key x ≡ name_key (name x)) before → IsPermutation before xs → IsSorted (compare_keyed key name ordinal) xs → AreGrouped xs
    grouped_by_sort before xs it keyed permutation sorted = record { naming = naming; rising = rising; together = together }
      where
        naming : IsNaming xs
        naming = IsPermutation-keeps before IsNaming it naming_swapped xs permutation

        same_key : (at other : ℕ) (x y : X) → slice_get xs at ≡ Some x → slice_get xs other ≡ Some y → name x ≡ name y → key x ≡ key y
        same_key = one_key xs (All-permutation (λ (x : X). key x ≡ name_key (name x)) before xs permutation keyed)

        rising : (at other : ℕ) (x y : X) → at < other → slice_get xs at ≡ Some x → slice_get xs other ≡ Some y → name x ≡ name y → ordinal x < ordinal y
        rising at other x y ahead there elsewhere same =
            let not = of_one_key (key y) (key x) (compare_named name ordinal y x) (sym (same_key at other x y there elsewhere same)) (not_less xs sorted at other x y (omega arith) there elsewhere) in
            let no_more = of_one_name (name y) (name x) (ordinal y) (ordinal x) (sym same) not in
            elim (cases_eq (ordinal x) (ordinal y)) [
              | inl equal ↦ let one = naming.once at other x y there elsewhere equal in absurd (omega arith)
              | inr differ ↦ omega arith
            ]

        together : (at middle other : ℕ) (x z y : X) → at ≤ middle → middle ≤ other → slice_get xs at ≡ Some x → slice_get xs middle ≡ Some z → slice_get xs other ≡ Some y
            → name x ≡ name y → name x ≡ name z
        together at middle other x z y near far there between elsewhere same =
            let low = not_less xs sorted at middle x z near there between in
            let high = not_less xs sorted middle other z y far between elsewhere in
            let lower : key x ≤ key z = key_not_less (key z) (key x) (compare_named name ordinal z x) low in
            let upper : key z ≤ key y = key_not_less (key y) (key z) (compare_named name ordinal y z) high in
            let ends : key x ≡ key y = same_key at other x y there elsewhere same in
            let first = first_not_less (name z) (name x) (nat_cmp (ordinal z) (ordinal x)) (of_one_key (key z) (key x) (compare_named name ordinal z x) (omega arith) low) in
            let second = first_not_less (name y) (name z) (nat_cmp (ordinal y) (ordinal z)) (of_one_key (key y) (key z) (compare_named name ordinal y z) (omega arith) high) in
            neither_less (name x) (name z) (λ less. second (ap (λ (it : List ℕ). slice_cmp nat_cmp it (name z)) (sym same) ∙ less)) first

-- a layer has this name
abbrev pub IsNamed : List (List ℕ) → ℕ → List ℕ → Type 0
IsNamed names number name = slice_get names number ≡ Some name

module _ {X : Type 0} (name : X → List ℕ) (ordinal : X → ℕ) (names : List (List ℕ)) where
  -- a pair of neighbours that have one name
  pub record AreAlike (xs : List X) (at first second : ℕ) : Type 0 where
    pub one : X
    pub other : X
    pub there : slice_get xs at ≡ Some one
    pub next : slice_get xs (at + 1) ≡ Some other
    pub same : name one ≡ name other
    pub first_is : ordinal one ≡ first
    pub second_is : ordinal other ≡ second

  -- of the neighbours before a place that have one name, the pair with the least second ordinal
  pub record IsLeastPair (xs : List X) (end : ℕ) (found : Option (ℕ × ℕ)) : Type 0 where
    pub alike : (first second : ℕ) → found ≡ Some (first, second) → (at : ℕ) × AreAlike xs at first second
    pub least : (at first second : ℕ) → at + 1 < end → AreAlike xs at first second → (pair : ℕ × ℕ) × (found ≡ Some pair) × (pair.1 ≤ second)

  -- no pair at the first place
  pub IsLeastPair-none : (xs : List X) → IsLeastPair xs 1 None
  IsLeastPair-none xs = record { alike = λ first second is. absurd (cc); least = λ at first second before alike. absurd (omega arith) }

  module _ (xs : List X) (at : ℕ) (x y : X) (there : slice_get xs at ≡ Some x) (next : slice_get xs (at + 1) ≡ Some y) (found : Option (ℕ × ℕ)) (so_far : IsLeastPair xs (at + 1) found) where
    -- the neighbours at this place are these
    is_this : (first second : ℕ) → AreAlike xs at first second → (name x ≡ name y) × (ordinal y ≡ second)
    is_this first second alike =
        let one : alike.one ≡ x = same_Some _ _ (sym alike.there ∙ there) in
        let other : alike.other ≡ y = same_Some _ _ (sym alike.next ∙ next) in
        (ap name (sym one) ∙ alike.same ∙ ap name other, ap ordinal (sym other) ∙ alike.second_is)

    -- one more pair of neighbours was passed, and the pair that was found stays the least
    pub IsLeastPair-kept : (name x ≡ name y → (pair : ℕ × ℕ) × (found ≡ Some pair) × (pair.1 ≤ ordinal y)) → IsLeastPair xs (at + 2) found
    IsLeastPair-kept kept = record {
      alike = so_far.alike;
      least = λ place first second before alike. elim (cases_eq place at) [
        | inr other ↦ so_far.least place first second (omega arith) alike
        | inl here ↦
            let this = is_this first second (subst (λ (p : ℕ). AreAlike xs p first second) here alike) in
            let it = kept this.0 in
            let bound = it.2 in
            let ends = this.1 in
            (it.0, it.1, omega arith)
      ];
    }

    -- or it is the least
    pub IsLeastPair-taken : name x ≡ name y → IfSome found (λ pair. ordinal y < pair.1) → IsLeastPair xs (at + 2) (Some (ordinal x, ordinal y))
    IsLeastPair-taken same earlier = record {
      alike = λ first second is.
          let pair : (ordinal x, ordinal y) ≡ (first, second) = same_Some _ _ is in
          (at, record { one = x; other = y; there = there; next = next; same = same; first_is = ap (λ (p : ℕ × ℕ). p.0) pair; second_is = ap (λ (p : ℕ × ℕ). p.1) pair });
      least = λ place first second before alike. elim (cases_eq place at) [
        | inr other ↦
            let it = so_far.least place first second (omega arith) alike in
            let less : ordinal y < it.0.1 = rw it.1 at earlier in
            let bound = it.2 in
            ((ordinal x, ordinal y), refl, omega arith)
        | inl here ↦
            let ends = (is_this first second (subst (λ (p : ℕ). AreAlike xs p first second) here alike)).1 in
            ((ordinal x, ordinal y), refl, omega arith)
      ];
    }

  -- the same as the code reads the neighbours
  module _ (xs : List X) (at : ℕ) (x y : X) (some : 1 ≤ at) (within : at < length xs) (there : x ≡ get_or xs (at - 1) x) (next : y ≡ get_or xs at y)
      (found : Option (ℕ × ℕ)) (so_far : IsLeastPair xs at found) where
    back : (at - 1) + 1 ≡ at
    back = omega arith

    first_there : slice_get xs (at - 1) ≡ Some x
    first_there = slice_get_read xs (length xs) (at - 1) x refl (omega arith) there

    second_there : slice_get xs ((at - 1) + 1) ≡ Some y
    second_there = ap (slice_get xs) back ∙ slice_get_read xs (length xs) at y refl within next

    before : IsLeastPair xs ((at - 1) + 1) found
    before = subst (λ (end : ℕ). IsLeastPair xs end found) (sym back) so_far

    forward : (new : Option (ℕ × ℕ)) → IsLeastPair xs ((at - 1) + 2) new → IsLeastPair xs (at + 1) new
    forward new it = let end : (at - 1) + 2 ≡ at + 1 = omega arith in subst (λ (end : ℕ). IsLeastPair xs end new) end it

    pub pair_kept : (name x ≡ name y → (pair : ℕ × ℕ) × (found ≡ Some pair) × (pair.1 ≤ ordinal y)) → IsLeastPair xs (at + 1) found
    pair_kept kept = forward found (IsLeastPair-kept xs (at - 1) x y first_there second_there found before kept)

    pub pair_taken : name x ≡ name y → IfSome found (λ pair. ordinal y < pair.1) → IsLeastPair xs (at + 1) (Some (ordinal x, ordinal y))
    pair_taken same earlier = forward (Some (ordinal x, ordinal y)) (IsLeastPair-taken xs (at - 1) x y first_there second_there found before same earlier)

  module _ (xs : List X) (grouped : AreGrouped name ordinal (IsNamed names) xs) (found : Option (ℕ × ℕ)) (is : IsLeastPair xs (length xs) found) where
    -- two layers of one name are one after the other
    following : (first second at other : ℕ) (x y : X) → first < second → slice_get xs at ≡ Some x → slice_get xs other ≡ Some y → ordinal x ≡ first → ordinal y ≡ second → name x ≡ name y → at < other
    following first second at other x y before there elsewhere its others same = elim (cases_lt at other) [
      | inl ahead ↦ ahead
      | inr not ↦ elim (cases_lt other at) [
        | inl turned ↦ let order = grouped.rising other at y x turned elsewhere there (sym same) in absurd (omega arith)
        | inr equal ↦
            let one : at ≡ other = omega arith in
            let both : Some x ≡ Some y = sym there ∙ ap (slice_get xs) one ∙ elsewhere in
            let it : x ≡ y = same_Some x y both in
            let number : ordinal x ≡ ordinal y = ap ordinal it in
            absurd (omega arith)
      ]
    ]

    -- the pair that was found ends no later than any two layers of one name
    pub no_later : (first second : ℕ) → IsRepeated names first second → (pair : ℕ × ℕ) × (found ≡ Some pair) × (pair.1 ≤ second)
    no_later first second repeated =
        let a = grouped.naming.all first repeated.name repeated.there in
        let b = grouped.naming.all second repeated.name repeated.again in
        let named_a : name a.1 ≡ repeated.name = same_Some _ _ (sym (grouped.naming.known a.0 a.1 a.2) ∙ ap (slice_get names) a.3 ∙ repeated.there) in
        let named_b : name b.1 ≡ repeated.name = same_Some _ _ (sym (grouped.naming.known b.0 b.1 b.2) ∙ ap (slice_get names) b.3 ∙ repeated.again) in
        let same : name a.1 ≡ name b.1 = named_a ∙ sym named_b in
        let order = following first second a.0 b.0 a.1 b.1 repeated.earlier a.2 b.2 a.3 b.3 same in
        let within = slice_get_within xs b.0 b.1 b.2 in
        let z = get_or xs (a.0 + 1) a.1 in
        let next : slice_get xs (a.0 + 1) ≡ Some z = slice_get-get_or xs (a.0 + 1) a.1 (omega arith) in
        let alike : AreAlike xs a.0 (ordinal a.1) (ordinal z) = record {
          one = a.1;
          other = z;
          there = a.2;
          next = next;
          same = grouped.together a.0 (a.0 + 1) b.0 a.1 z b.1 (omega arith) (omega arith) a.2 next b.2 same;
          first_is = refl;
          second_is = refl;
        } in
        let least = is.least a.0 (ordinal a.1) (ordinal z) (omega arith) alike in
        let near : ordinal z ≤ second = elim (cases_lt (a.0 + 1) b.0) [
          | inl further ↦
              let rise = grouped.rising (a.0 + 1) b.0 z b.1 further next b.2 (sym alike.same ∙ same) in
              let is_b = b.3 in omega arith
          | inr last ↦
              let one : a.0 + 1 ≡ b.0 = omega arith in
              let it : z ≡ b.1 = same_Some z b.1 (sym next ∙ ap (slice_get xs) one ∙ b.2) in
              let number : ordinal z ≡ ordinal b.1 = ap ordinal it in
              let is_b = b.3 in omega arith
        ] in
        (least.0, least.1, let bound = least.2 in omega arith)

    -- where none was found, no two layers have one name
    pub none_repeated : found ≡ None → (first second : ℕ) → ¬ IsRepeated names first second
    none_repeated none first second repeated = let it = no_later first second repeated in let both : None ≡ Some it.0 = sym none ∙ it.1 in cc

    -- the pair that was found is the first
    pub first_repeated : (first second : ℕ) → found ≡ Some (first, second) → IsFirstRepeated names first second
    first_repeated first second here =
        let it = is.alike first second here in
        let known_one = grouped.naming.known it.0 it.1.one it.1.there in
        let known_other = grouped.naming.known (it.0 + 1) it.1.other it.1.next in
        let there : slice_get names first ≡ Some (name it.1.one) = ap (slice_get names) (sym it.1.first_is) ∙ known_one in
        let again : slice_get names second ≡ Some (name it.1.one) = ap (slice_get names) (sym it.1.second_is) ∙ known_other ∙ ap Some (sym it.1.same) in
        let rise = grouped.rising it.0 (it.0 + 1) it.1.one it.1.other (omega arith) it.1.there it.1.next it.1.same in
        let firsts = it.1.first_is in
        let seconds = it.1.second_is in
        let earlier : first < second = omega arith in
        record {
          repeated = record { earlier = earlier; name = name it.1.one; there = there; again = again };
          least = λ other later repeated.
              let bound = no_later other later repeated in
              let pair : bound.0 ≡ (first, second) = same_Some _ _ (sym bound.1 ∙ here) in
              let ends : bound.0.1 ≡ second = ap (λ (p : ℕ × ℕ). p.1) pair in
              let least = bound.2 in
              elim (cases_lt second later) [
                | inl before ↦ inl before
                | inr not ↦
                    let one : second ≡ later = omega arith in
                    inr (
                      one,
                      elim (cases_lt other first) [
                        | inr at_least ↦ omega arith
                        | inl below ↦
                            let named : repeated.name ≡ name it.1.one = same_Some _ _ (sym repeated.again ∙ ap (slice_get names) (sym one) ∙ again) in
                            let nearer = no_later other first (record { earlier = below; name = repeated.name; there = repeated.there; again = there ∙ ap Some (sym named) }) in
                            let its : nearer.0 ≡ (first, second) = same_Some _ _ (sym nearer.1 ∙ here) in
                            let its_end : nearer.0.1 ≡ second = ap (λ (p : ℕ × ℕ). p.1) its in
                            let least_end = nearer.2 in
                            absurd (omega arith)
                      ],
                    )
              ];
        }

module _ {X : Type 0} (name : X → List ℕ) (ordinal : X → ℕ) (names : List (List ℕ)) (xs : List X) (grouped : AreGrouped name ordinal (IsNamed names) xs) where
  -- all neighbours were passed
  to_the_end : (end : ℕ) (found : Option (ℕ × ℕ)) → length xs ≤ end → IsLeastPair name ordinal names xs end found → IsLeastPair name ordinal names xs (length xs) found
  to_the_end end found all is = record { alike = is.alike; least = λ at first second before alike. is.least at first second (omega arith) alike }

  pub if_none : (end : ℕ) (found : Option (ℕ × ℕ)) → length xs ≤ end → IsLeastPair name ordinal names xs end found → IfNone found ((first second : ℕ) → ¬ IsRepeated names first second)
  if_none end None all is = none_repeated name ordinal names xs grouped None (to_the_end end None all is) refl
  if_none end (Some pair) all is = tt

  pub if_some : (end : ℕ) (found : Option (ℕ × ℕ)) → length xs ≤ end → IsLeastPair name ordinal names xs end found → IfSome found (λ pair. IsFirstRepeated names pair.0 pair.1)
  if_some end None all is = tt
  if_some end (Some pair) all is = first_repeated name ordinal names xs grouped (Some pair) (to_the_end end (Some pair) all is) pair.0 pair.1 refl

-- names that are in the order of their layers
pub IsNaming-numbered : {X : Type 0} (name : X → List ℕ) (ordinal : X → ℕ) (xs : List X) → AreNumbered (map ordinal xs) → IsNaming name ordinal (IsNamed (map name xs)) xs
IsNaming-numbered name ordinal xs numbered = record { known = known; all = all; once = λ at other x y there elsewhere same. sym (place at x there) ∙ same ∙ place other y elsewhere }
  where
    place : (at : ℕ) (x : _) → slice_get xs at ≡ Some x → ordinal x ≡ at
    place at x there = numbered at (ordinal x) (slice_get-map ordinal xs at ∙ ap (option_map ordinal) there)

    known : (at : ℕ) (x : _) → slice_get xs at ≡ Some x → slice_get (map name xs) (ordinal x) ≡ Some (name x)
    known at x there = ap (slice_get (map name xs)) (place at x there) ∙ slice_get-map name xs at ∙ ap (option_map name) there

    all : (number : ℕ) (it : List ℕ) → slice_get (map name xs) number ≡ Some it → (at : ℕ) × (x : _) × (slice_get xs at ≡ Some x) × (ordinal x ≡ number) × (name x ≡ it)
    all number it there = elim (slice_get_cases xs number).1 [
      | inl inside ↦
          let number_is = place number inside.0 inside.2 in
          (number, inside.0, inside.2, number_is, same_Some _ _ (sym (known number inside.0 inside.2) ∙ ap (slice_get (map name xs)) number_is ∙ there))
      | inr past ↦ let both : None ≡ Some it = sym (slice_get-map name xs number ∙ ap (option_map name) past.1) ∙ there in cc
    ]

-- one more name, with the next ordinal
pub numbered_pushed : {X : Type 0} (ordinal : X → ℕ) (old new : List X) (x : X) → new ≡ old ++ x ∷ [] → ordinal x ≡ length old → AreNumbered (map ordinal old) → AreNumbered (map ordinal new)
numbered_pushed ordinal old new x more is numbered place number there =
    let split : map ordinal new ≡ map ordinal old ++ ordinal x ∷ [] = ap (map ordinal) more ∙ map-append ordinal old (x ∷ []) in
    let size : length (map ordinal old) ≡ length old = length-map old ordinal in
    elim (slice_get-push (map ordinal old) (ordinal x) place number (ap (λ (list : List ℕ). slice_get list place) (sym split) ∙ there)) [
      | inl here ↦ numbered place number here
      | inr last ↦ last.1 ∙ is ∙ sym size ∙ sym last.0
    ]
