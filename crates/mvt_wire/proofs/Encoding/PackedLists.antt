-- Packed lists: a place has one list of varints up to an end, and of two lists one is a front of the other. A payload is
-- a list of small numbers or has a fault, and not both.
use Rattle.std.proofs.Common.{◌≡◌, ℕ, ◌+◌, ◌^◌, ◌<◌, ◌≤◌, ◌⊎◌, inl, inr, zero, suc, List, [], ◌∷◌, ◌++◌, length, get_or, drop, refl, sym, ◌∙◌, ap, subst, arith, append-nil, length-append}
use Rattle.std.proofs.lemmas.Bool.{cases_lt}
use Rattle.std.proofs.lemmas.List.{get_or_at}
use Rattle.std.proofs.lemmas.List.Elements.{All-nil, All-cons}
use Rattle.mvt_wire.specs.Varint.{EncodesVarint, VarintDefect}
use Rattle.mvt_wire.specs.Field.{cause_at}
use Rattle.mvt_wire.specs.Number.{VarintList, AreSmall, PackedFault, no_varint, too_large}
use Rattle.mvt_wire.specs.declared.cause.WireCause.{WireCause}
use Rattle.mvt_wire.specs.declared.cause.WireCode.{WireCode}
use Rattle.mvt_wire.specs.declared.cause.WireCode.TheVariants.{OutOfRange}
use Rattle.mvt_wire.proofs.Encoding.Defects.{varint_begins}
use Rattle.mvt_wire.proofs.Encoding.Varints.{one_end, one_value, varint_or_defect}

-- a list of varints goes forward
pub varints_forward : (bytes : List ℕ) (from to : ℕ) (numbers : List ℕ) → VarintList bytes from numbers to → from ≤ to
varints_forward bytes from to [] list = omega arith
varints_forward bytes from to (n ∷ numbers) list =
    let rest = varints_forward bytes list.0 to numbers list.2 in
    omega arith

-- What a list of varints has after a shorter one from the same place.
abbrev pub GoesOn : List ℕ → List ℕ → List ℕ → ℕ → ℕ → Type 0
GoesOn bytes longer shorter at to = (rest : List ℕ) × (longer ≡ shorter ++ rest) × VarintList bytes at rest to

-- of two lists of varints from one place, one is a front of the other
pub one_goes_on : (bytes : List ℕ) (from to end : ℕ) (ms ns : List ℕ) → VarintList bytes from ms to → VarintList bytes from ns end
    → GoesOn bytes ms ns end to ⊎ GoesOn bytes ns ms to end
one_goes_on bytes from to end ms [] h k = inl (ms, refl, subst (λ (place : ℕ). VarintList bytes place ms to) k h)
one_goes_on bytes from to end [] (n ∷ ns) h k = inr (n ∷ ns, refl, subst (λ (place : ℕ). VarintList bytes place (n ∷ ns) end) h k)
one_goes_on bytes from to end (m ∷ ms) (n ∷ ns) h k =
    let same : h.0 ≡ k.0 = one_end bytes from h.0 k.0 m n h.1 k.1 in
    let value : m ≡ n = one_value bytes from h.0 k.0 m n h.1 k.1 in
    let next : VarintList bytes h.0 ns end = subst (λ (place : ℕ). VarintList bytes place ns end) (sym same) k.2 in
    elim (one_goes_on bytes h.0 to end ms ns h.2 next) [
      | inl longer ↦ inl (longer.0, let tail : ms ≡ ns ++ longer.0 = longer.1 in cc, longer.2)
      | inr longer ↦ inr (longer.0, let tail : ns ≡ ms ++ longer.0 = longer.1 in cc, longer.2)
    ]

-- no varint is at the end
no_varint_at_end : (bytes : List ℕ) (next n : ℕ) → EncodesVarint bytes (length bytes) next n → ⊥
no_varint_at_end bytes next n encoded = let forward = encoded.forward in let within = encoded.within in omega arith

-- a list up to the end has nothing after it
ends_there : (bytes : List ℕ) (at : ℕ) (whole numbers rest : List ℕ) → numbers ≡ whole ++ rest → VarintList bytes (length bytes) rest at → GoesOn bytes whole numbers at (length bytes)
ends_there bytes at whole numbers [] is list =
    let same : numbers ≡ whole = is ∙ append-nil whole in ([], sym same ∙ sym (append-nil numbers), sym list)
ends_there bytes at whole numbers (n ∷ rest) is list = absurd (no_varint_at_end bytes list.0 n list.1)

-- where a list of varints goes up to the end, each other one from its place is a front of it
pub whole_goes_on : (bytes : List ℕ) (from at : ℕ) (whole numbers : List ℕ) → VarintList bytes from whole (length bytes) → VarintList bytes from numbers at → GoesOn bytes whole numbers at (length bytes)
whole_goes_on bytes from at whole numbers h k = elim (one_goes_on bytes from (length bytes) at whole numbers h k) [
  | inl longer ↦ longer
  | inr shorter ↦ ends_there bytes at whole numbers shorter.0 shorter.1 shorter.2
]

-- a place has one list of varints up to an end
pub one_varint_list : (bytes : List ℕ) (from to : ℕ) (ms ns : List ℕ) → VarintList bytes from ms to → VarintList bytes from ns to → ms ≡ ns
one_varint_list bytes from to [] [] h k = refl
one_varint_list bytes from to [] (n ∷ ns) h k =
    let forward = k.1.forward in let rest = varints_forward bytes k.0 to ns k.2 in absurd (omega arith)
one_varint_list bytes from to (m ∷ ms) [] h k =
    let forward = h.1.forward in let rest = varints_forward bytes h.0 to ms h.2 in absurd (omega arith)
one_varint_list bytes from to (m ∷ ms) (n ∷ ns) h k =
    let same : h.0 ≡ k.0 = one_end bytes from h.0 k.0 m n h.1 k.1 in
    let value : m ≡ n = one_value bytes from h.0 k.0 m n h.1 k.1 in
    let next : VarintList bytes h.0 ns to = subst (λ (place : ℕ). VarintList bytes place ns to) (sym same) k.2 in
    let tail : ms ≡ ns = one_varint_list bytes h.0 to ms ns h.2 next in
    cc

-- the number of small ones after others
pub small_after : (numbers shorter rest : List ℕ) (n : ℕ) → numbers ≡ shorter ++ n ∷ rest → AreSmall numbers → n < 2 ^ 32
small_after numbers shorter rest n is small =
    let longer : length numbers ≡ length shorter + suc (length rest) = ap length is ∙ length-append shorter (n ∷ rest) in
    let here : get_or numbers (length shorter) 0 ≡ n = ap (λ (list : List ℕ). get_or list (length shorter) 0) is ∙ get_or_at shorter n rest 0 (length shorter) refl in
    subst (λ (k : ℕ). k < 2 ^ 32) here (small (length shorter) 0 (omega arith))

-- the front of a whole list ends at no defect
front_or_defect : (part : List ℕ) (at : ℕ) (code : WireCode) (rest : List ℕ) → VarintList part at rest (length part) → at < length part → VarintDefect code (drop at part) → ⊥
front_or_defect part at code [] list left defect = omega arith
front_or_defect part at code (n ∷ rest) list left defect = varint_or_defect part at list.0 n code list.1 defect

-- nor at a large number
front_or_large : (part : List ℕ) (at next n : ℕ) (whole shorter rest : List ℕ) → AreSmall whole → whole ≡ shorter ++ rest → VarintList part at rest (length part) → EncodesVarint part at next n → 2 ^ 32 ≤ n → ⊥
front_or_large part at next n whole shorter [] small is list encoded large =
    let forward = encoded.forward in let within = encoded.within in omega arith
front_or_large part at next n whole shorter (m ∷ rest) small is list encoded large =
    let below : m < 2 ^ 32 = small_after whole shorter rest m is small in
    let same : m ≡ n = one_value part at list.0 next m n list.1 encoded in
    omega arith

-- a payload that is a list of small numbers has no fault of a packed list
pub packed_or_fault : (from : ℕ) (part : List ℕ) (field_number : ℕ) (cause : WireCause) (numbers : List ℕ) → VarintList part 0 numbers (length part) → AreSmall numbers → PackedFault from part field_number cause → ⊥
packed_or_fault from part field_number cause numbers list small (no_varint shorter at code before left defect is) =
    let following = whole_goes_on part 0 at numbers shorter list before in
    front_or_defect part at code following.0 following.2 left defect
packed_or_fault from part field_number cause numbers list small (too_large shorter at next n before encoded large is) =
    let following = whole_goes_on part 0 at numbers shorter list before in
    front_or_large part at next n numbers shorter following.0 small following.1 following.2 encoded large

-- no number of 32 bits is at a place
abbrev pub NoSmallNumber : List ℕ → ℕ → Type 0
NoSmallNumber part at =
    ((code : WireCode) × (at < length part) × VarintDefect code (drop at part)) ⊎ ((next n : ℕ) × EncodesVarint part at next n × (2 ^ 32 ≤ n))

-- from a place on there are small numbers up to the end, or up to a place that has no small one
abbrev pub NumbersOrStop : List ℕ → ℕ → Type 0
NumbersOrStop part at =
    ((numbers : List ℕ) × VarintList part at numbers (length part) × AreSmall numbers)
    ⊎ ((numbers : List ℕ) × (stop : ℕ) × VarintList part at numbers stop × NoSmallNumber part stop × AreSmall numbers)

-- each place has one or the other
pub numbers_or_stop : (fuel : ℕ) (part : List ℕ) (at : ℕ) → at ≤ length part → length part ≤ at + fuel → NumbersOrStop part at
numbers_or_stop zero part at within left = inl ([], omega arith, All-nil _)
numbers_or_stop (suc fuel) part at within left = elim (cases_lt at (length part)) [
  | inr none ↦ inl ([], omega arith, All-nil _)
  | inl more ↦ elim (varint_begins part at within) [
    | inr bad ↦ inr ([], at, refl, inl (bad.0, more, bad.1), All-nil _)
    | inl found ↦ elim (cases_lt found.1 (2 ^ 32)) [
      | inr large ↦ inr ([], at, refl, inr (found.0, found.1, found.2, large), All-nil _)
      | inl small ↦
          elim (numbers_or_stop fuel part found.0 found.2.within (omega arith)) [
            | inl rest ↦ inl (found.1 ∷ rest.0, (found.0, found.2, rest.1), All-cons (λ (n : ℕ). n < 2 ^ 32) found.1 rest.0 small rest.2)
            | inr rest ↦ inr (found.1 ∷ rest.0, rest.1, (found.0, found.2, rest.2), rest.3, All-cons (λ (n : ℕ). n < 2 ^ 32) found.1 rest.0 small rest.4)
          ]
    ]
  ]
]

stop_faults : (from : ℕ) (part : List ℕ) (field_number : ℕ) (numbers : List ℕ) (stop : ℕ) → VarintList part 0 numbers stop → NoSmallNumber part stop → (cause : WireCause) × PackedFault from part field_number cause
stop_faults from part field_number numbers stop list (inl bad) = (cause_at bad.0 (from + stop) field_number, no_varint numbers stop bad.0 list bad.1 bad.2 refl)
stop_faults from part field_number numbers stop list (inr large) = (cause_at OutOfRange (from + stop) field_number, too_large numbers stop large.0 large.1 list large.2 large.3 refl)

-- a payload is a list of small numbers, or has a fault of a packed list
pub numbers_or_fault : (from : ℕ) (part : List ℕ) (field_number : ℕ)
    → ((numbers : List ℕ) × VarintList part 0 numbers (length part) × AreSmall numbers) ⊎ ((cause : WireCause) × PackedFault from part field_number cause)
numbers_or_fault from part field_number = elim (numbers_or_stop (length part) part 0 (omega arith) (omega arith)) [
  | inl whole ↦ inl whole
  | inr bad ↦ inr (stop_faults from part field_number bad.0 bad.1 bad.2 bad.3)
]
