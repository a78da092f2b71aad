-- Sets of keys as the bits of numbers.
use Rattle.std.proofs.Common.{◌≡◌, ℕ, ◌+◌, ◌-◌, ◌*◌, ◌/◌, ◌%◌, ◌^◌, ◌<◌, ◌≤◌, ◌==◌, ◌||◌, Bool, not, cond, nat_lt, bit_and, bit_or, List, length, get_or, set, refl, sym, ◌∙◌, ap, inl, inr, ap₂, div-add-mod', eq-eqb, ne_eqb, lt-ltb, le-ltb, get_or-set_same, get_or-set_other, w32, w64, arith}
use Rattle.std.proofs.lemmas.Bool.{cases_eq, cases_lt}
use Rattle.std.proofs.lemmas.Nat.{one_shl, pow_pos}
use Rattle.std.proofs.lemmas.Nat.Bits.{and_pow, bit_at_set_other, bit_at_set_same}
use Rattle.std.specs.Int.{Width, bit_at}
use Rattle.mvt_tile.specs.Calls.KeyMarks.{block_at, has_bit, is_added, is_in, keys_under, no_keys}
use Rattle.mvt_tile.specs.Calls.PassedTags.{has_key}
use Rattle.mvt_tile.specs.declared.rules.key_marks.KeyBlock.{KeyBlock}
use Rattle.mvt_tile.specs.declared.rules.key_marks.KeyMarks.{KeyMarks}
use mir.Val.{bits}

-- `keys & 1 << key == 0`, and `keys | 1 << key`
module _ (w : Width) (keys key : ℕ) (low : key < bits w) where
  pub is_new : (bit_and keys (1 * 2 ^ key % 2 ^ bits w) == 0) ≡ not (has_bit keys key)
  is_new =
      let bit : ℕ = bit_at keys key in
      let both : bit_and keys (1 * 2 ^ key % 2 ^ bits w) ≡ bit * 2 ^ key = ap (bit_and keys) (one_shl key (bits w) low) ∙ and_pow keys key in
      elim (cases_eq bit 1) [
        | inl one ↦
            let some : 0 < bit_and keys (1 * 2 ^ key % 2 ^ bits w) = rw (both, one) (omega (arith, pow_pos key)) in
            ne_eqb _ 0 (omega arith) ∙ sym (ap not (eq-eqb bit 1 one))
        | inr other ↦
            let none : bit ≡ 0 = omega arith in
            eq-eqb _ 0 (rw (both, none) (omega arith)) ∙ sym (ap not (ne_eqb bit 1 other))
      ]

  pub has_bit-add : (other : ℕ) → has_bit (bit_or keys (1 * 2 ^ key % 2 ^ bits w)) other ≡ (other == key || has_bit keys other)
  has_bit-add other = elim (cases_eq other key) as (λ _. has_bit (bit_or keys (1 * 2 ^ key % 2 ^ bits w)) other ≡ (other == key || has_bit keys other)) [
    | inl same ↦
        ap (has_bit (bit_or keys (1 * 2 ^ key % 2 ^ bits w))) same ∙ eq-eqb _ 1 (bit_at_set_same w keys key low)
        ∙ sym (ap (λ b. b || has_bit keys other) (eq-eqb other key same))
    | inr apart ↦
        ap (λ bit. bit == 1) (bit_at_set_other w keys key low other apart) ∙ sym (ap (λ b. b || has_bit keys other) (ne_eqb other key apart))
  ]

-- keys with the same place in words or blocks of so many are equal where these are the same
same_place : (size other key : ℕ) → other / size ≡ key / size → (other % size == key % size) ≡ (other == key)
same_place size other key same = elim (cases_eq other key) [
  | inl equal ↦ eq-eqb _ _ (ap (λ n. n % size) equal) ∙ sym (eq-eqb other key equal)
  | inr apart ↦
      ne_eqb (other % size) (key % size) (λ equal. apart (sym (div-add-mod' other size) ∙ ap₂ (λ n rest. n * size + rest) same equal ∙ div-add-mod' key size))
      ∙ sym (ne_eqb other key apart)
]

module _ (key : ℕ) (words : List ℕ) where
  -- the word of the key with it
  abbrev pub with_bit : ℕ
  with_bit = bit_or (get_or words (key / 64) 0) (1 * 2 ^ (key % 64) % 2 ^ 64)

  pub is_in-add : key / 64 < length words → (other : ℕ) → is_in (set words (key / 64) with_bit) other ≡ (other == key || is_in words other)
  is_in-add within other = elim (cases_eq (other / 64) (key / 64)) as (λ _. is_in (set words (key / 64) with_bit) other ≡ (other == key || is_in words other)) [
    | inl same ↦
        let old : ℕ = get_or words (key / 64) 0 in
        let here : get_or (set words (key / 64) with_bit) (other / 64) 0 ≡ with_bit =
        ap (λ (place : ℕ). get_or (set words (key / 64) with_bit) place 0) same ∙ get_or-set_same words (key / 64) with_bit 0 within in
        ap (λ (word : ℕ). has_bit word (other % 64)) here
        ∙ has_bit-add w64 old (key % 64) (omega arith) (other % 64)
        ∙ ap (λ (equal : Bool). equal || has_bit old (other % 64)) (same_place 64 other key same)
        ∙ ap (λ (place : ℕ). other == key || has_bit (get_or words place 0) (other % 64)) (sym same)
    | inr apart ↦
        ap (λ (word : ℕ). has_bit word (other % 64)) (get_or-set_other words (key / 64) (other / 64) with_bit 0 apart)
        ∙ sym (ap (λ (equal : Bool). equal || is_in words other) (ne_eqb other key (λ equal. apart (ap (λ n. n / 64) equal))))
  ]

module _ (mark key : ℕ) (blocks : List KeyBlock) where
  -- the block of the key with it
  abbrev pub with_key : KeyBlock
  with_key = record { mark = mark; keys = bit_or (keys_under mark (block_at blocks (key / 32))) (1 * 2 ^ (key % 32) % 2 ^ 32) }

  module _ (within : key / 32 < length blocks) where
    pub is_added-add : (other : ℕ) → is_added mark (set blocks (key / 32) with_key) other ≡ (other == key || is_added mark blocks other)
    is_added-add other = elim (cases_eq (other / 32) (key / 32)) as (λ _. is_added mark (set blocks (key / 32) with_key) other ≡ (other == key || is_added mark blocks other)) [
      | inl same ↦
          let old : ℕ = keys_under mark (block_at blocks (key / 32)) in
          let here : block_at (set blocks (key / 32) with_key) (other / 32) ≡ with_key =
          ap (block_at (set blocks (key / 32) with_key)) same ∙ get_or-set_same blocks (key / 32) with_key no_keys within in
          ap (λ (block : KeyBlock). has_bit (keys_under mark block) (other % 32)) here
          ∙ ap (λ (counts : Bool). has_bit (cond counts with_key.keys 0) (other % 32)) (eq-eqb mark mark refl)
          ∙ has_bit-add w32 old (key % 32) (omega arith) (other % 32)
          ∙ ap (λ (equal : Bool). equal || has_bit old (other % 32)) (same_place 32 other key same)
          ∙ ap (λ (place : ℕ). other == key || has_bit (keys_under mark (block_at blocks place)) (other % 32)) (sym same)
      | inr apart ↦
          let there : block_at (set blocks (key / 32) with_key) (other / 32) ≡ block_at blocks (other / 32) =
          get_or-set_other blocks (key / 32) (other / 32) with_key no_keys apart in
          ap (λ (block : KeyBlock). has_bit (keys_under mark block) (other % 32)) there
          ∙ sym (ap (λ (equal : Bool). equal || is_added mark blocks other) (ne_eqb other key (λ equal. apart (ap (λ n. n / 32) equal))))
    ]

pub same_added : (mark : ℕ) (blocks more : List KeyBlock) → ((place : ℕ) → block_at more place ≡ block_at blocks place) → (key : ℕ) → is_added mark more key ≡ is_added mark blocks key
same_added mark blocks more same key = ap (λ (block : KeyBlock). has_bit (keys_under mark block) (key % 32)) (same (key / 32))

pub has_key-first : (set : KeyMarks) (key : ℕ) → key < 256 → has_key set key ≡ is_in set.first key
has_key-first set key first = ap (λ (is_first : Bool). cond is_first (is_in set.first key) (is_added set.current set.further.items (key - 256))) (lt-ltb key 256 first)

pub has_key-further : (set : KeyMarks) (key : ℕ) → 256 ≤ key → has_key set key ≡ is_added set.current set.further.items (key - 256)
has_key-further set key further = ap (λ (is_first : Bool). cond is_first (is_in set.first key) (is_added set.current set.further.items (key - 256))) (le-ltb key 256 further)

-- a key is added to a set
module _ (set : KeyMarks) (key : ℕ) where
  -- one of the first keys
  pub has_key-add_first : (first : List ℕ) → key < 256 → ((other : ℕ) → is_in first other ≡ (other == key || is_in set.first other))
      → (other : ℕ) → cond (nat_lt other 256) (is_in first other) (is_added set.current set.further.items (other - 256)) ≡ (other == key || has_key set other)
  has_key-add_first first low adds other = elim (cases_lt other 256) [
    | inl is_first ↦
        ap (λ (is_first : Bool). cond is_first (is_in first other) (is_added set.current set.further.items (other - 256))) (lt-ltb other 256 is_first)
        ∙ adds other ∙ ap (λ (has : Bool). other == key || has) (sym (has_key-first set other is_first))
    | inr further ↦
        ap (λ (is_first : Bool). cond is_first (is_in first other) (is_added set.current set.further.items (other - 256))) (le-ltb other 256 further)
        ∙ sym (has_key-further set other further) ∙ sym (ap (λ (equal : Bool). equal || has_key set other) (ne_eqb other key (omega arith)))
  ]

  -- one of those after them
  pub has_key-add_further : (blocks : List KeyBlock) → 256 ≤ key → ((other : ℕ) → is_added set.current blocks other ≡ (other == key - 256 || is_added set.current set.further.items other))
      → (other : ℕ) → cond (nat_lt other 256) (is_in set.first other) (is_added set.current blocks (other - 256)) ≡ (other == key || has_key set other)
  has_key-add_further blocks high adds other = elim (cases_lt other 256) [
    | inl is_first ↦
        ap (λ (is_first : Bool). cond is_first (is_in set.first other) (is_added set.current blocks (other - 256))) (lt-ltb other 256 is_first)
        ∙ sym (has_key-first set other is_first) ∙ sym (ap (λ (equal : Bool). equal || has_key set other) (ne_eqb other key (omega arith)))
    | inr further ↦
        ap (λ (is_first : Bool). cond is_first (is_in set.first other) (is_added set.current blocks (other - 256))) (le-ltb other 256 further)
        ∙ adds (other - 256)
        ∙ ap (λ (equal : Bool). equal || is_added set.current set.further.items (other - 256)) (moved other further)
        ∙ ap (λ (has : Bool). other == key || has) (sym (has_key-further set other further))
  ]
    where
      moved : (other : ℕ) → 256 ≤ other → (other - 256 == key - 256) ≡ (other == key)
      moved other further = elim (cases_eq other key) [
        | inl equal ↦ eq-eqb _ _ (ap (λ n. n - 256) equal) ∙ sym (eq-eqb other key equal)
        | inr apart ↦ ne_eqb (other - 256) (key - 256) (omega arith) ∙ sym (ne_eqb other key apart)
      ]
