-- Varints one after another, in a front and in the rest of a byte list.
use Rattle.std.proofs.Common.{◌≡◌, ℕ, ◌+◌, ◌-◌, ◌<◌, ◌≤◌, List, [], ◌∷◌, ◌++◌, All, length, take, drop, slice_range, refl, sym, ◌∙◌, ap, subst, arith, length-drop}
use Rattle.std.proofs.lemmas.List.{drop-drop, length-take-le, take-append-drop}
use Rattle.std.proofs.lemmas.List.Elements.{All-head, All-tail, All-cons, All-nil}
use Rattle.mvt_wire.specs.Varint.{IsVarint, EncodesVarint}
use Rattle.mvt_wire.specs.Number.{VarintList}
use Rattle.mvt_wire.proofs.Encoding.Varints.{one_end}
use Rattle.mvt_wire.proofs.Encoding.PackedLists.{varints_forward, one_varint_list}
use Rattle.mvt_wire.proofs.Encoding.Entries.{slice_range-append}

-- both parts of a list whose elements all have a property
pub All-front : (P : ℕ → Type 0) (xs ys : List ℕ) → All P (xs ++ ys) → All P xs
All-front P [] ys h = All-nil P
All-front P (x ∷ xs) ys h = All-cons P x xs (All-head P x (xs ++ ys) h) (All-front P xs ys (All-tail P x (xs ++ ys) h))

pub All-back : (P : ℕ → Type 0) (xs ys : List ℕ) → All P (xs ++ ys) → All P ys
All-back P [] ys h = h
All-back P (x ∷ xs) ys h = All-back P xs ys (All-tail P x (xs ++ ys) h)

-- an empty span has no numbers
pub empty_list : (bytes : List ℕ) (at : ℕ) (numbers : List ℕ) → VarintList bytes at numbers at → numbers ≡ []
empty_list bytes at numbers list = one_varint_list bytes at at numbers [] list refl

-- a span that is one varint has its number alone
pub alone_in_span : (bytes : List ℕ) (from to n : ℕ) (numbers : List ℕ) → EncodesVarint bytes from to n → VarintList bytes from numbers to → numbers ≡ n ∷ []
alone_in_span bytes from to n numbers encoded list = one_varint_list bytes from to numbers (n ∷ []) list (to, encoded, refl)

-- a varint after the first bytes, counted from their end
pub EncodesVarint-drop : (bytes : List ℕ) (start from to n : ℕ) → start ≤ from → EncodesVarint bytes from to n → EncodesVarint (drop start bytes) (from - start) (to - start) n
EncodesVarint-drop bytes start from to n following encoded =
    let forward = encoded.forward in
    let within = encoded.within in
    let size = length-drop start bytes in
    let place : start + (from - start) ≡ from = omega arith in
    let span : to - start - (from - start) ≡ to - from = omega arith in
    let same : slice_range (drop start bytes) (from - start) (to - start) ≡ slice_range bytes from to =
    ap (λ (k : ℕ). take k (drop (from - start) (drop start bytes))) span ∙ ap (take (to - from)) (drop-drop (from - start) start bytes) ∙ ap (λ (k : ℕ). take (to - from) (drop k bytes)) place in
    record { forward = omega arith; within = omega arith; encoding = subst (λ (part : List ℕ). IsVarint part n) (sym same) encoded.encoding }

-- and a list of them
pub VarintList-drop : (bytes : List ℕ) (start from : ℕ) (numbers : List ℕ) (to : ℕ) → start ≤ from → VarintList bytes from numbers to → VarintList (drop start bytes) (from - start) numbers (to - start)
VarintList-drop bytes start from [] to following list = ap (λ (k : ℕ). k - start) list
VarintList-drop bytes start from (n ∷ numbers) to following list =
    (list.0 - start, EncodesVarint-drop bytes start from list.0 n following list.1, VarintList-drop bytes start list.0 numbers to (omega arith) list.2)

-- before a varint's end begins no other number of a list
pub front_of_one : (bytes : List ℕ) (from to n : ℕ) (numbers : List ℕ) (at : ℕ) → EncodesVarint bytes from to n → VarintList bytes from numbers at → at < to → (numbers ≡ []) × (at ≡ from)
front_of_one bytes from to n [] at encoded list before = (refl, sym list)
front_of_one bytes from to n (m ∷ numbers) at encoded list before =
    let ends = one_end bytes from list.0 to m n list.1 encoded in
    let rest = varints_forward bytes list.0 at numbers list.2 in
    absurd (omega arith)

-- a varint of bytes that are cut after it
pub EncodesVarint-take : (bytes : List ℕ) (cut from to n : ℕ) → to ≤ cut → cut ≤ length bytes → EncodesVarint bytes from to n → EncodesVarint (take cut bytes) from to n
EncodesVarint-take bytes cut from to n following inside encoded =
    let forward = encoded.forward in
    let size = length-take-le cut bytes inside in
    let ordered : from ≤ to = omega arith in
    let within : to ≤ length (take cut bytes) = omega arith in
    let same : slice_range bytes from to ≡ slice_range (take cut bytes) from to =
    ap (λ (whole : List ℕ). slice_range whole from to) (sym (take-append-drop cut bytes)) ∙ slice_range-append (take cut bytes) (drop cut bytes) from to ordered within in
    record { forward = forward; within = within; encoding = subst (λ (part : List ℕ). IsVarint part n) same encoded.encoding }
