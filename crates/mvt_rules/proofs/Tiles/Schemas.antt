-- A message that keeps its schema has no fault of a field, and none at its end.
use Rattle.std.proofs.Common.{◌≡◌, ◌≢◌, ℕ, suc, nat_lt, ◌+◌, ◌≤◌, ◌==◌, Bool, true, false, ◌⊎◌, inl, inr, List, [], ◌∷◌, ◌++◌, length, refl, ◌∙◌, ap, subst, arith, length-append, All}
use Rattle.std.proofs.lemmas.Bool.{both_ways, ltb-false, lt-ltb, le-ltb, eq-eqb, ne_eqb, cond-true, cond-false}
use Rattle.std.proofs.lemmas.List.{get_or_at}
use Rattle.std.proofs.lemmas.List.Elements.{filter-append}
use Rattle.mvt_wire.specs.Field.{Content, Entry}
use Rattle.mvt_wire.specs.Number.{States}
use Rattle.mvt_wire.specs.Schema.{is_singular}
use Rattle.mvt_wire.specs.Payload.{fields_of, count_of}
use Rattle.mvt_rules.specs.Tile.{Fits, KeepsSchema}
use Rattle.mvt_rules.specs.Parts.Fields.{FitsRule}
use Rattle.mvt_rules.specs.WireFault.{stands_in, EntryFault, other_type, again, no_text, out_of_range, packed, FieldFault, EndFault, missing, not_one}
use Rattle.mvt_wire.specs.declared.cause.WireCause.{WireCause}
use Rattle.mvt_wire.specs.declared.schema.FieldRule.{FieldRule}
use Rattle.mvt_wire.specs.declared.schema.Message.{Message}
use Rattle.mvt_wire.proofs.Encoding.PackedLists.{packed_or_fault}

-- the fields of a number are counted in both parts of a list
pub count_of-append : (field_number : ℕ) (xs ys : List Entry) → count_of field_number (xs ++ ys) ≡ count_of field_number xs + count_of field_number ys
count_of-append field_number xs ys =
    ap length (filter-append (λ (entry : Entry). entry.number == field_number) xs ys) ∙ length-append (fields_of field_number xs) (fields_of field_number ys)

-- a field counts for its own number
pub count_of-own : (entry : Entry) (after : List Entry) → count_of entry.number (entry ∷ after) ≡ suc (count_of entry.number after)
count_of-own entry after = ap length (cond-true (entry.number == entry.number) (entry ∷ fields_of entry.number after) (fields_of entry.number after) (eq-eqb entry.number entry.number refl))

-- the number of the last field occurs
pub stands_in-own : (field_number : ℕ) (entries : List Entry) (entry : Entry) → entry.number ≡ field_number → stands_in field_number (entries ++ entry ∷ []) ≡ true
stands_in-own field_number entries entry own =
    let parts = count_of-append field_number entries (entry ∷ []) in
    let one : count_of field_number (entry ∷ []) ≡ 1 = ap length (cond-true (entry.number == field_number) (entry ∷ []) [] (eq-eqb entry.number field_number own)) in
    lt-ltb 0 (count_of field_number (entries ++ entry ∷ [])) (omega arith)

-- another number occurs where it did before
pub stands_in-other : (field_number : ℕ) (entries : List Entry) (entry : Entry) → entry.number ≢ field_number → stands_in field_number (entries ++ entry ∷ []) ≡ stands_in field_number entries
stands_in-other field_number entries entry other =
    let parts = count_of-append field_number entries (entry ∷ []) in
    let none : count_of field_number (entry ∷ []) ≡ 0 = ap length (cond-false (entry.number == field_number) (entry ∷ []) [] (ne_eqb entry.number field_number other)) in
    let same : count_of field_number (entries ++ entry ∷ []) ≡ count_of field_number entries = omega arith in
    ap (nat_lt 0) same

-- an element in the middle of a list
All-middle : {X : Type 0} (P : X → Type 0) (xs : List X) (x : X) (ys : List X) → All P (xs ++ x ∷ ys) → P x
All-middle P xs x ys all =
    let longer = length-append xs (x ∷ ys) in
    subst P (get_or_at xs x ys x (length xs) refl) (all (length xs) x (omega arith))

-- a field that fits its rule, and is alone where it has to be, has no fault
fits_or_fault : (rule : FieldRule) (stood : Bool) (entry : Entry) (cause : WireCause) → Fits rule entry.content → (is_singular rule.occurrence ≡ true → stood ≡ false) → EntryFault rule stood entry cause → ⊥
fits_or_fault rule stood entry cause fits alone (other_type other is) = both_ways _ other fits.own
fits_or_fault rule stood entry cause fits alone (again singular stands is) = both_ways stood (alone singular) stands
fits_or_fault rule stood entry cause fits alone (no_text from part shape content not is) = not (fits.text from part shape content)
fits_or_fault rule stood entry cause fits alone (out_of_range value at content over is) = both_ways _ (fits.in_range value at content) over
fits_or_fault rule stood entry cause fits alone (packed from part shape content fault) =
    let read = fits.packed from part shape content in
    packed_or_fault from part entry.number cause read.0 (subst (λ (c : Content). States c read.0) content read.1) read.2 fault

-- a field that may occur once has none of its number before it
alone_before : (message : Message) (before : List Entry) (entry : Entry) (after : List Entry) → count_of entry.number (before ++ entry ∷ after) ≤ 1 → stands_in entry.number before ≡ false
alone_before message before entry after few =
    let parts = count_of-append entry.number before (entry ∷ after) in
    let own = count_of-own entry after in
    le-ltb 0 (count_of entry.number before) (omega arith)

field_or_fault : (message : Message) (entries : List Entry) (cause : WireCause) → KeepsSchema message entries → FieldFault message entries cause → ⊥
field_or_fault message entries cause keeps fault =
    let whole : KeepsSchema message (fault.before ++ fault.entry ∷ fault.after) = subst (λ (list : List Entry). KeepsSchema message list) fault.split keeps in
    let fits = All-middle (FitsRule message) fault.before fault.entry fault.after whole.fits fault.rule fault.known in
    fits_or_fault fault.rule (stands_in fault.entry.number fault.before) fault.entry cause fits
    (λ singular. alone_before message fault.before fault.entry fault.after (whole.at_most fault.entry.number fault.rule fault.known singular)) fault.fault

end_or_fault : (message : Message) (entries : List Entry) (end : ℕ) (cause : WireCause) → KeepsSchema message entries → EndFault message entries end cause → ⊥
end_or_fault message entries end cause keeps (missing field_number rule known required none is) =
    let present = keeps.at_least field_number rule known required in
    let absent = ltb-false 0 (count_of field_number entries) none in
    omega arith
end_or_fault message entries end cause keeps (not_one value count is) = count (keeps.one value)

-- a message that keeps its schema has no fault
pub KeepsSchema-faultless : (message : Message) (entries : List Entry) (end : ℕ) (cause : WireCause) → KeepsSchema message entries → (FieldFault message entries cause ⊎ EndFault message entries end cause) → ⊥
KeepsSchema-faultless message entries end cause keeps (inl fault) = field_or_fault message entries cause keeps fault
KeepsSchema-faultless message entries end cause keeps (inr fault) = end_or_fault message entries end cause keeps fault
