-- Short fields with their bytes: each number below 128 is a varint of one byte.
use Rattle.std.proofs.Common.{◌≡◌, ℕ, zero, suc, ◌+◌, ◌*◌, ◌<◌, ◌≤◌, List, [], ◌∷◌, length, drop, All, refl, sym, subst, arith}
use Rattle.std.proofs.lemmas.List.{take_all, drop_more, drop_all}
use Rattle.std.proofs.lemmas.List.Elements.{All-get_or}
use Rattle.mvt_wire.specs.Field.{varint, delimited, IsFieldEncoding}
use Rattle.mvt_wire.specs.Number.{VarintList}
use Rattle.mvt_wire.proofs.Encoding.WholeFields.{one_byte}
use Rattle.mvt_splice.specs.Splice.{Piece}

-- a field of a varint
abbrev pub number_piece : ℕ → ℕ → Piece
number_piece number value = record { bytes = (number * 8 + 0) ∷ value ∷ []; field = record { number = number; at = 0; content = varint value 1 } }

-- a field of a length and as many bytes
abbrev pub length_piece : ℕ → List ℕ → Piece
length_piece number payload = record { bytes = (number * 8 + 2) ∷ length payload ∷ payload; field = record { number = number; at = 0; content = delimited 2 payload } }

pub number_encoded : (number value : ℕ) → 1 ≤ number → number < 16 → value < 128 → IsFieldEncoding ((number * 8 + 0) ∷ value ∷ []) (record { number = number; at = 0; content = varint value 1 })
number_encoded number value numbered low small = (
  refl,
  record {
    key_end = 1;
    key = record { encoded = one_byte ((number * 8 + 0) ∷ value ∷ []) 0 (omega arith) (omega arith); below_limit = omega arith; numbered = numbered; low_bits = omega arith };
    payload = (refl, one_byte ((number * 8 + 0) ∷ value ∷ []) 1 (omega arith) small);
  },
)

pub length_encoded : (number : ℕ) (payload : List ℕ) → 1 ≤ number → number < 15 → length payload < 128 → IsFieldEncoding ((number * 8 + 2) ∷ length payload ∷ payload) (record { number = number; at = 0; content = delimited 2 payload })
length_encoded number payload numbered low small = (
  refl,
  record {
    key_end = 1;
    key = record { encoded = one_byte ((number * 8 + 2) ∷ length payload ∷ payload) 0 (omega arith) (omega arith); below_limit = omega arith; numbered = numbered; low_bits = omega arith };
    payload = (length payload, one_byte ((number * 8 + 2) ∷ length payload ∷ payload) 1 (omega arith) small, omega arith, omega arith, sym (take_all _ payload (omega arith)));
  },
)

-- numbers below 128 encode themselves
encoded_from : (fuel : ℕ) (bytes : List ℕ) (at : ℕ) → All (λ (n : ℕ). n < 128) bytes → at + fuel ≡ length bytes → VarintList bytes at (drop at bytes) (length bytes)
encoded_from zero bytes at small all = subst (λ (list : List ℕ). VarintList bytes at list (length bytes)) (sym (drop_all at bytes (omega arith))) (omega arith)
encoded_from (suc fuel) bytes at small all =
    subst (λ (list : List ℕ). VarintList bytes at list (length bytes)) (sym (drop_more bytes at 0 (omega arith)))
    (at + 1, one_byte bytes at (omega arith) (All-get_or (λ (n : ℕ). n < 128) bytes at 0 (omega arith) small), encoded_from fuel bytes (at + 1) small (omega arith))

pub encode_themselves : (numbers : List ℕ) → All (λ (n : ℕ). n < 128) numbers → VarintList numbers 0 numbers (length numbers)
encode_themselves numbers small = encoded_from (length numbers) numbers 0 small (omega arith)
