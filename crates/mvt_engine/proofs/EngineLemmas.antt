-- What holds while an engine reads or writes.
use Rattle.std.proofs.Common.{◌≡◌, ℕ, ◌+◌, ◌-◌, ◌^◌, ◌<◌, ◌≤◌, min, List, ◌++◌, length, take, drop, Option, arith, ap, subst, sym, ◌∙◌}
use Rattle.std.proofs.KnownBytes.{Appends-kept, Appends-trans, Consumes-trans}
use Rattle.std.proofs.Math.Seq.{take-add, take-length}
use Rattle.std.proofs.lemmas.List.{length-append, length-drop, length-take, take-take}
use Rattle.std.specs.Io.KnownBytes.{Appends, Consumes, Keeps}
use Rattle.mvt_engine.specs.declared.engine.TheConstants.{CHUNK_LENGTH, INPUT_LIMIT}
use Rattle.mvt_engine.specs.declared.tally.Tally.{Tally}
use Rattle.mvt_engine.specs.Engine.{IsClean, ReadsBytes, Writes, interruption_limit}
use Rattle.mvt_engine.specs.Tally.{Counts, after_bytes, counts_of, tally_bytes}

-- the input so far is what the reader gave so far, and the chunk has its whole length
pub record Reading {T : Type 0} (known : T → Option (List ℕ)) (old new : Tally T) (chunk input : List ℕ) (others : ℕ) : Type 0 where
  pub room : length chunk ≡ CHUNK_LENGTH
  pub gave : Consumes (tally_bytes known old) (tally_bytes known new) input
  pub counted : (counts_of new).bytes ≡ length input
  pub small : length input ≤ INPUT_LIMIT
  pub clean : IsClean new others

-- what one more read gave came in too
pub ReadsBytes-more : {T : Type 0} (known : T → Option (List ℕ)) (first old new : Tally T) (chunk given input : List ℕ) (n others : ℕ)
    → Reading known first old chunk input others
    → Consumes (tally_bytes known old) (tally_bytes known new) (take n given)
    → n ≤ length given
    → n ≤ CHUNK_LENGTH
    → counts_of new ≡ after_bytes (counts_of old) n
    → (bytes : List ℕ) × ReadsBytes known first new bytes
ReadsBytes-more known first old new chunk given input n others so_far gave within small counts =
    let bytes : (counts_of new).bytes ≡ min ((counts_of old).bytes + n) (2 ^ 64 - 1) = ap (λ (c : Counts). c.bytes) counts in
    let counted : (counts_of old).bytes ≡ length input = so_far.counted in
    let few : length input ≤ INPUT_LIMIT = so_far.small in (
      input ++ take n given,
      record {
        gave = Consumes-trans _ _ _ _ _ so_far.gave gave;
        counted = omega (arith, length-append input (take n given), length-take n given);
      },
    )

-- the first bytes of the line went out
pub record Writing {T : Type 0} (known : T → Option (List ℕ)) (old new : Tally T) (line : List ℕ) (written others : ℕ) : Type 0 where
  pub within : written ≤ length line
  pub appended : Appends (tally_bytes known old) (tally_bytes known new) (take written line)
  pub counted : (counts_of new).bytes ≡ written
  pub clean : IsClean new others

-- the bytes of the line from a place on, as the code takes them
abbrev rest_of : List ℕ → ℕ → List ℕ
rest_of line written = take (length line - written) (drop written line)

-- one more part of the line
take-part : (line : List ℕ) (written n : ℕ) → n ≤ length (rest_of line written)
    → take (written + n) line ≡ take written line ++ take n (rest_of line written)
take-part line written n within =
    let below : n ≤ length line - written = omega (arith, length-take (length line - written) (drop written line)) in
    take-add written n line ∙ ap (λ part. take written line ++ part) (sym (take-take n (length line - written) (drop written line) below))

-- a write took n more bytes of the line
pub Writing-more : {T : Type 0} (known : T → Option (List ℕ)) (first old new : Tally T) (line : List ℕ) (written n others : ℕ)
    → Writing known first old line written others
    → Appends (tally_bytes known old) (tally_bytes known new) (take n (rest_of line written))
    → n ≤ length (rest_of line written)
    → counts_of new ≡ after_bytes (counts_of old) n
    → length line < 2 ^ 64
    → Writing known first new line (written + n) others
Writing-more known first old new line written n others so_far appended within counts fits =
    let below : n ≤ length line - written =
    omega (arith, length-take (length line - written) (drop written line), length-drop written line) in
    let bytes : (counts_of new).bytes ≡ min ((counts_of old).bytes + n) (2 ^ 64 - 1) = ap (λ (c : Counts). c.bytes) counts in
    let failed : (counts_of new).failed ≡ (counts_of old).failed = ap (λ (c : Counts). c.failed) counts in
    let interrupted : (counts_of new).interrupted ≡ (counts_of old).interrupted = ap (λ (c : Counts). c.interrupted) counts in
    let inside : written ≤ length line = so_far.within in
    let counted : (counts_of old).bytes ≡ written = so_far.counted in
    let unfailed : (counts_of old).failed ≡ 0 = so_far.clean.failed in
    record {
      within = omega arith;
      appended = subst (Appends (tally_bytes known first) (tally_bytes known new)) (sym (take-part line written n within))
          (Appends-trans _ _ _ _ _ so_far.appended appended);
      counted = omega arith;
      clean = record { failed = failed ∙ unfailed; patient = subst (λ i. i + others ≤ interruption_limit) (sym interrupted) so_far.clean.patient };
    }

-- what went out stays so where the device keeps its bytes and the count of bytes stays
pub Writes-kept : {T : Type 0} (known : T → Option (List ℕ)) (first old new : Tally T) (bytes : List ℕ)
    → Writes known first old bytes
    → Keeps (tally_bytes known old) (tally_bytes known new)
    → (counts_of new).bytes ≡ (counts_of old).bytes
    → Writes known first new bytes
Writes-kept known first old new bytes out kept counted = record {
  appended = Appends-kept _ _ _ bytes out.appended kept;
  counted = counted ∙ out.counted;
}

-- a whole line is its own first part
pub take_whole : {T : Type 0} (known : T → Option (List ℕ)) (first new : Tally T) (line : List ℕ)
    → Writes known first new line → Writes known first new (take (length line) line)
take_whole known first new line out = subst (Writes known first new) (sym (take-length line)) out
