-- Sides of bounds that a vector of four lanes compares.
use Rattle.std.proofs.Common.{◌≡◌, ◌≢◌, ℕ, zero, suc, ◌+◌, ◌-◌, ◌^◌, ◌<◌, ◌≤◌, ◌%◌, ◌⊎◌, inl, inr, List, [], ◌∷◌, map, length, length-drop, get_or, set, take, drop, ℤ, pos, ◌<ℤ◌, refl, sym, ◌∙◌, ap, subst, arith, Bool, true, false, cond, eqb, w32, to_z, of_z, SFits, bit_or, lit<, replicate, T}
use Rattle.std.proofs.lemmas.Bool.{cases_lt, cases_order}
use Rattle.std.proofs.lemmas.Int.{to_z-of_z}
use Rattle.std.proofs.lemmas.List.{get_or-replicate, get_or-set_other, get_or-set_same, get_or_past, length-set, take_all}
use Rattle.mvt_plane.proofs.Orders.Order.{zs}
use Rattle.mvt_sweep.specs.Bounds.{AreBoundsApart}
use Rattle.mvt_sweep.specs.Calls.EdgeBounds.{bounds_at, bounds_count}
use Rattle.mvt_sweep.specs.Calls.Sides.{AreSides}
use Rattle.mvt_sweep.specs.declared.bounds.Bounds.{Bounds}
use Rattle.mvt_sweep.specs.declared.edge_bounds.EdgeBounds.{EdgeBounds}
use lib.Lanes.{zip2, chunk, mask_l, top}
use lib.Signed.{lt_z}

-- Lists of sides

-- with another side at a place
pub sides_set : (sides : List ℤ) (place : ℕ) (side : ℤ) → AreSides sides → SFits w32 side → AreSides (set sides place side)
sides_set sides place side are fits = record {
  count = length-set sides place side ∙ are.count;
  fit = λ number. elim (cases_order number place) [
    | inl same ↦ at_place number (cases_lt place (length sides)) same
    | inr (inl fewer) ↦ elsewhere number (omega arith)
    | inr (inr more) ↦ elsewhere number (omega arith)
  ];
}
  where
    elsewhere : (number : ℕ) → number ≢ place → SFits w32 (get_or (set sides place side) number (pos 0))
    elsewhere number other = subst (SFits w32) (sym (get_or-set_other sides place number side (pos 0) other)) (are.fit number)

    at_place : (number : ℕ) → (place < length sides) ⊎ (length sides ≤ place) → number ≡ place → SFits w32 (get_or (set sides place side) number (pos 0))
    at_place number (inl within) same = rw same (subst (SFits w32) (sym (get_or-set_same sides place side (pos 0) within)) fits)
    at_place number (inr past) same =
        subst (SFits w32) (sym (get_or_past (set sides place side) number (pos 0) (omega (arith, same, past, length-set sides place side)))) (record { sfits = lit< tt })

-- the numbers that are there at first
pub zeros_fit : (number : ℕ) → SFits w32 (get_or (replicate 40 (pos 0)) number (pos 0))
zeros_fit number = elim (cases_lt number 40) [
  | inl within ↦ rw (get_or-replicate 40 number (pos 0) (pos 0) within) zero_fits
  | inr past ↦ rw (get_or_past (replicate 40 (pos 0)) number (pos 0) past) zero_fits
]
  where
    zero_fits : SFits w32 (pos 0)
    zero_fits = record { sfits = lit< tt }

-- Four at once

-- a comparison of two lanes, as a mask has it
abbrev less : ℕ → ℕ → ℕ
less a b = cond (lt_z (to_z w32 a) (to_z w32 b)) 4294967295 0

-- four elements of a list
four_of : (xs : List ℤ) (at : ℕ) → at + 4 ≤ length xs → take 4 (drop at xs) ≡ get_or xs at (pos 0) ∷ get_or xs (suc at) (pos 0) ∷ get_or xs (suc (suc at)) (pos 0) ∷ get_or xs (suc (suc (suc at))) (pos 0) ∷ []
four_of [] at few = absurd (omega arith)
four_of (x ∷ []) zero few = absurd (omega arith)
four_of (x ∷ y ∷ []) zero few = absurd (omega arith)
four_of (x ∷ y ∷ z ∷ []) zero few = absurd (omega arith)
four_of (x ∷ y ∷ z ∷ w ∷ rest) zero few = refl
four_of (x ∷ rest) (suc at) few = four_of rest at (omega arith)

-- the same where they are loaded
sides_of : (sides : List ℤ) (at : ℕ) → AreSides sides → at + 4 ≤ 40
    → chunk 0 4 (take (40 - at) (drop at sides)) ≡ get_or sides at (pos 0) ∷ get_or sides (suc at) (pos 0) ∷ get_or sides (suc (suc at)) (pos 0) ∷ get_or sides (suc (suc (suc at))) (pos 0) ∷ []
sides_of sides at are few =
    let size : length (drop at sides) ≡ length sides - at = length-drop at sides in
    ap (λ (rest : List ℤ). take 4 (drop 0 rest)) (take_all (40 - at) (drop at sides) (omega (arith, size, are.count))) ∙ four_of sides at (omega (arith, few, are.count))

-- which comparison set a lane
which : (p q r s : Bool) → top 31 (bit_or (bit_or (bit_or (cond p 4294967295 0) (cond q 4294967295 0)) (cond r 4294967295 0)) (cond s 4294967295 0)) ≡ true
    → ((p ≡ true) ⊎ (q ≡ true)) ⊎ ((r ≡ true) ⊎ (s ≡ true))
which true q r s set = inl (inl refl)
which false true r s set = inl (inr refl)
which false false true s set = inr (inl refl)
which false false false true set = inr (inr refl)
which false false false false set = absurd (cc)

-- where all four are set, each is
all_set : (a b c d : Bool) → eqb (mask_l (a ∷ b ∷ c ∷ d ∷ []) % 2 ^ 64) 15 ≡ true → (a ≡ true) × (b ≡ true) × (c ≡ true) × (d ≡ true)
all_set true true true true set = (refl, refl, refl, refl)
all_set false b c d set = absurd (none_set b c d set)
  where
    none_set : (b c d : Bool) → ¬ (eqb (mask_l (false ∷ b ∷ c ∷ d ∷ []) % 2 ^ 64) 15 ≡ true)
    none_set true true true set = cc
    none_set true true false set = cc
    none_set true false true set = cc
    none_set true false false set = cc
    none_set false true true set = cc
    none_set false true false set = cc
    none_set false false true set = cc
    none_set false false false set = cc
all_set true false true true set = absurd (cc)
all_set true false true false set = absurd (cc)
all_set true false false true set = absurd (cc)
all_set true false false false set = absurd (cc)
all_set true true false true set = absurd (cc)
all_set true true false false set = absurd (cc)
all_set true true true false set = absurd (cc)

-- such a comparison of two numbers
is_less : (a b : ℤ) → SFits w32 a → SFits w32 b → lt_z (to_z w32 (of_z w32 a)) (to_z w32 (of_z w32 b)) ≡ true → a <ℤ b
is_less a b fits_a fits_b less =
    let one = to_z-of_z w32 a fits_a in
    let other = to_z-of_z w32 b fits_b in
    record { lt = subst T (sym (rw (one, other) at less)) tt }

-- the sides of bounds fit lanes
pub record AreFit (bounds : Bounds) : Type 0 where
  pub left : SFits w32 bounds.left
  pub low : SFits w32 bounds.low
  pub right : SFits w32 bounds.right
  pub high : SFits w32 bounds.high

-- whether bounds are apart, as a lane says it
by_lane : (one other : Bounds) → AreFit one → AreFit other
    → top 31 (bit_or (bit_or (bit_or (less (of_z w32 one.right) (of_z w32 other.left)) (less (of_z w32 other.right) (of_z w32 one.left))) (less (of_z w32 one.high) (of_z w32 other.low)))
    (less (of_z w32 other.high) (of_z w32 one.low))) ≡ true → AreBoundsApart one other
by_lane one other fit its set position within inside =
    elim (which _ _ _ _ set) [
      | inl (inl before) ↦
          let apart = is_less one.right other.left fit.right its.left before in
          absurd (omega (arith, zs, apart, within.right, inside.left))
      | inl (inr after) ↦
          let apart = is_less other.right one.left its.right fit.left after in
          absurd (omega (arith, zs, apart, within.left, inside.right))
      | inr (inl below) ↦
          let apart = is_less one.high other.low fit.high its.low below in
          absurd (omega (arith, zs, apart, within.high, inside.low))
      | inr (inr above) ↦
          let apart = is_less other.high one.low its.high fit.low above in
          absurd (omega (arith, zs, apart, within.low, inside.high))
    ]

-- one of four numbers in a row
one_of_four : (at k : ℕ) → at ≤ k → k < at + 4 → ((k ≡ at) ⊎ (k ≡ suc at)) ⊎ ((k ≡ suc (suc at)) ⊎ (k ≡ suc (suc (suc at))))
one_of_four at k from to = elim (cases_order k at) [
  | inl same ↦ inl (inl same)
  | inr (inl fewer) ↦ absurd (omega arith)
  | inr (inr more) ↦ elim (cases_order k (suc at)) [
    | inl same ↦ inl (inr same)
    | inr (inl fewer) ↦ absurd (omega arith)
    | inr (inr more) ↦ elim (cases_order k (suc (suc at))) [
      | inl same ↦ inr (inl same)
      | inr (inl fewer) ↦ absurd (omega arith)
      | inr (inr more) ↦ inr (inr (omega arith))
    ]
  ]
]

-- four copies of a number, and four numbers of a list
abbrev copies : ℤ → List ℕ
copies z = of_z w32 z ∷ of_z w32 z ∷ of_z w32 z ∷ of_z w32 z ∷ []

abbrev lanes : List ℤ → ℕ → List ℕ
lanes sides at = map (of_z w32) (chunk 0 4 (take (40 - at) (drop at sides)))

-- what a mask of four lanes says of four bounds
pub four_apart : (list : EdgeBounds) (at : ℕ) (other : Bounds) → AreFit other → at + 4 ≤ bounds_count list
    → eqb (mask_l (map (top 31) (zip2 bit_or (zip2 bit_or (zip2 bit_or (zip2 less (lanes list.right at) (copies other.left)) (zip2 less (copies other.right) (lanes list.left at)))
    (zip2 less (lanes list.high at) (copies other.low))) (zip2 less (copies other.high) (lanes list.low at)))) % 2 ^ 64) 15 ≡ true
    → (number : ℕ) → at ≤ number → number < at + 4 → AreBoundsApart (bounds_at list number) other
four_apart list at other its within set number from to =
    let lefts = sides_of list.left at list.lefts (omega (arith, within, list.few)) in
    let rights = sides_of list.right at list.rights (omega (arith, within, list.few)) in
    let highs = sides_of list.high at list.highs (omega (arith, within, list.few)) in
    let lows = sides_of list.low at list.lows (omega (arith, within, list.few)) in
    let each = all_set _ _ _ _ (rw (lefts, rights, highs, lows) at set) in
    let fit : (k : ℕ) → AreFit (bounds_at list k) = λ k. record { left = list.lefts.fit k; low = list.lows.fit k; right = list.rights.fit k; high = list.highs.fit k } in
    let apart = λ (k : ℕ). AreBoundsApart (bounds_at list k) other in
    elim (one_of_four at number from to) [
      | inl (inl zeroth) ↦ subst apart (sym zeroth) (by_lane (bounds_at list at) other (fit at) its each.0)
      | inl (inr first) ↦ subst apart (sym first) (by_lane (bounds_at list (suc at)) other (fit (suc at)) its each.1)
      | inr (inl second) ↦ subst apart (sym second) (by_lane (bounds_at list (suc (suc at))) other (fit (suc (suc at))) its each.2)
      | inr (inr third) ↦ subst apart (sym third) (by_lane (bounds_at list (suc (suc (suc at)))) other (fit (suc (suc (suc at)))) its each.3)
    ]
