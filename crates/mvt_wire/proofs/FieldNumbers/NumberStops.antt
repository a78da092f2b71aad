-- The numbers of a message end at the fault of least place.
use Rattle.std.proofs.Common.{◌≡◌, ℕ, ◌^◌, ◌<◌, ◌≤◌, inl, inr, List, [], ◌∷◌, Option, Some, None, sym, ◌∙◌, ap, subst, arith}
use Rattle.mvt_wire.specs.Field.{Entry, IsField, FieldDefect, key, key_out_of_range, refused_type, leading_varint, past_end}
use Rattle.mvt_wire.specs.Message.{FieldList}
use Rattle.mvt_wire.specs.Number.{StateTogether, AreSmall}
use Rattle.mvt_wire.specs.Payload.{contents_of}
use Rattle.mvt_wire.specs.Numbers.{StopsAt, at_defect, in_field, IsNumbersFault, NumbersEnd}
use Rattle.mvt_wire.specs.declared.cause.WireCause.{WireCause}
use Rattle.mvt_wire.proofs.Encoding.Entries.{one_field, no_field_at_end, field_extent}
use Rattle.mvt_wire.proofs.Encoding.Defects.{field_or_defect, one_field_defect}
use Rattle.mvt_wire.proofs.Encoding.VarintLists.{All-back}
use Rattle.mvt_wire.proofs.FieldNumbers.NumberFaults.{FaultOf, fault_of, StandsFirst, least_fault_of, fault_extent}
use Rattle.mvt_wire.proofs.FieldNumbers.NumberLaws.{EndsAt, at_end, at_stop, walked, stated_after, StatedAfter, field_or_stop, end_or_stop}

-- a field list goes forward
pub fields_forward : (bytes : List ℕ) (from to : ℕ) (entries : List Entry) → FieldList bytes from entries to → from ≤ to
fields_forward bytes from to [] list = omega arith
fields_forward bytes from to (e ∷ entries) list =
    let extent = field_extent bytes list.1.0 e list.1.1 in
    let rest = fields_forward bytes list.1.0 to entries list.1.2 in
    omega arith

-- a defect is at its field or later
pub defect_after : (bytes : List ℕ) (at : ℕ) (cause : WireCause) → FieldDefect bytes at cause → at ≤ cause.at
defect_after bytes at cause (key code defect is) = let here : cause.at ≡ at = ap (λ (c : WireCause). c.at) is in omega arith
defect_after bytes at cause (key_out_of_range to n encoded range is) = let here : cause.at ≡ at = ap (λ (c : WireCause). c.at) is in omega arith
defect_after bytes at cause (refused_type to n t k refused is) = let here : cause.at ≡ at = ap (λ (c : WireCause). c.at) is in omega arith
defect_after bytes at cause (leading_varint to n t code k leading defect is) =
    let here : cause.at ≡ to = ap (λ (c : WireCause). c.at) is in
    omega arith
defect_after bytes at cause (past_end to n t end k ends past is) = let here : cause.at ≡ at = ap (λ (c : WireCause). c.at) is in omega arith

-- a field's fault is within it
pub fault_in_field : (bytes : List ℕ) (to : ℕ) (e : Entry) (numbers : List ℕ) (cause : WireCause) → IsField bytes to e → FaultOf e.at e.number e.content numbers cause → (e.at ≤ cause.at) × (cause.at < to)
fault_in_field bytes to e numbers cause field fault =
    fault_extent bytes e.at field.key_end to e.number e.content numbers cause field.key.encoded.forward field.key.encoded.within field.payload fault

-- the fault that ends the numbers at a place is there or later
pub stop_after : (bytes : List ℕ) (at k : ℕ) (numbers : List ℕ) (cause : WireCause) → StopsAt bytes at k numbers cause → at ≤ cause.at
stop_after bytes at k numbers cause (at_defect left defect none) = defect_after bytes at cause defect
stop_after bytes at k numbers cause (in_field to e here field is fault) =
    let extent = (fault_in_field bytes to e numbers cause field (fault_of e numbers cause fault)).0 in
    omega arith

-- and, where a field is there, within it
pub stop_within : (bytes : List ℕ) (at to k : ℕ) (e : Entry) (numbers : List ℕ) (cause : WireCause) → e.at ≡ at → IsField bytes to e → StopsAt bytes at k numbers cause → cause.at < to
stop_within bytes at to k e numbers cause here field (at_defect left defect none) =
    absurd (field_or_defect bytes to e cause field (subst (λ (place : ℕ). FieldDefect bytes place cause) (sym here) defect))
stop_within bytes at to k e numbers cause here field (in_field end f there other is fault) =
    let same = one_field bytes to end e f (here ∙ sym there) field other in
    let extent = (fault_in_field bytes end f numbers cause other (fault_of f numbers cause fault)).1 in
    omega arith

-- of all faults that may end the numbers at a place, that after small numbers comes first
least_stop : (bytes : List ℕ) (at k : ℕ) (ms ns : List ℕ) (c d : WireCause) → StopsAt bytes at k ms c → AreSmall ms → StopsAt bytes at k ns d → StandsFirst c d
least_stop bytes at k ms ns c d (at_defect left x none) small (at_defect also y neither) = inr (one_field_defect bytes at c d x y)
least_stop bytes at k ms ns c d (at_defect left x none) small (in_field to e here field is fault) =
    absurd (field_or_defect bytes to e c field (subst (λ (place : ℕ). FieldDefect bytes place c) (sym here) x))
least_stop bytes at k ms ns c d (in_field to e here field is fault) small (at_defect left y none) =
    absurd (field_or_defect bytes to e d field (subst (λ (place : ℕ). FieldDefect bytes place d) (sym here) y))
least_stop bytes at k ms ns c d (in_field to e here field is fault) small (in_field end f there other also second) =
    let same : e ≡ f = (one_field bytes to end e f (here ∙ sym there) field other).1 in
    least_fault_of e.at e.number e.content ms ns c d (fault_of e ms c fault) small (subst (λ (x : Entry). FaultOf x.at x.number x.content ns d) (sym same) (fault_of f ns d second))

-- the numbers end at a fault, or before it
abbrev pub EndsBefore : Option WireCause → WireCause → Type 0
EndsBefore None other = ⊥
EndsBefore (Some cause) other = StandsFirst cause other

end_before_stop : (bytes : List ℕ) (at k : ℕ) (ms ns : List ℕ) (ending : Option WireCause) (other : WireCause) → EndsAt bytes at k ms ending → AreSmall ms → StopsAt bytes at k ns other → EndsBefore ending other
end_before_stop bytes at k ms ns ending other (at_end end none is) small stop = absurd (end_or_stop bytes at k ns other end stop)
end_before_stop bytes at k ms ns ending other (at_stop cause first is) small stop = subst (λ (e : Option WireCause). EndsBefore e other) (sym is) (least_stop bytes at k ms ns cause other first small stop)

end_before_field : (bytes : List ℕ) (at to k : ℕ) (e : Entry) (ms : List ℕ) (ending : Option WireCause) (other : WireCause) → e.at ≡ at → IsField bytes to e → EndsAt bytes at k ms ending → to ≤ other.at → EndsBefore ending other
end_before_field bytes at to k e ms ending other here field (at_end end none is) following = absurd (no_field_at_end bytes at to e end here field)
end_before_field bytes at to k e ms ending other here field (at_stop cause first is) following =
    let within = stop_within bytes at to k e ms cause here field first in
    let less : cause.at < other.at = omega arith in
    subst (λ (e : Option WireCause). EndsBefore e other) (sym is) (inl less)

-- what is after a field's own numbers
rest_of : (k : ℕ) (e : Entry) (es : List Entry) (numbers : List ℕ) → AreSmall numbers → StatedAfter k e es numbers → (rest : List ℕ) × StateTogether (contents_of k es) rest × AreSmall rest
rest_of k e es numbers small (inl own) = (own.1.1, own.1.3, All-back (λ (n : ℕ). n < 2 ^ 32) own.1.0 own.1.1 (subst AreSmall own.1.4 small))
rest_of k e es numbers small (inr other) = (numbers, other.1, small)

end_before_later : (bytes : List ℕ) (from at place k : ℕ) (es fs : List Entry) (first ms ns : List ℕ) (ending : Option WireCause) (other : WireCause)
    → FieldList bytes from es at → FieldList bytes from fs place → StateTogether (contents_of k es) first → AreSmall first → EndsAt bytes at k ms ending → AreSmall ms → StopsAt bytes place k ns other → EndsBefore ending other
end_before_later bytes from at place k [] [] first ms ns ending other h j stated small end last stop =
    end_before_stop bytes place k ms ns ending other (subst (λ (p : ℕ). EndsAt bytes p k ms ending) (sym h ∙ j) end) last stop
end_before_later bytes from at place k [] (f ∷ fs) first ms ns ending other h j stated small end last stop =
    let forward = fields_forward bytes j.1.0 place fs j.1.2 in
    let following = stop_after bytes place k ns other stop in
    end_before_field bytes from j.1.0 k f ms ending other j.0 j.1.1 (subst (λ (p : ℕ). EndsAt bytes p k ms ending) (sym h) end) (omega arith)
end_before_later bytes from at place k (e ∷ es) [] first ms ns ending other h j stated small end last stop =
    absurd (field_or_stop bytes from h.1.0 k e es first ns other h.0 h.1.1 stated small (subst (λ (p : ℕ). StopsAt bytes p k ns other) (sym j) stop))
end_before_later bytes from at place k (e ∷ es) (f ∷ fs) first ms ns ending other h j stated small end last stop =
    let same = one_field bytes h.1.0 j.1.0 e f (h.0 ∙ sym j.0) h.1.1 j.1.1 in
    let next : FieldList bytes h.1.0 fs place = subst (λ (p : ℕ). FieldList bytes p fs place) (sym same.0) j.1.2 in
    let rest = rest_of k e es first small (stated_after k e es first stated) in
    end_before_later bytes h.1.0 at place k es fs rest.0 ms ns ending other h.1.2 next rest.1 rest.2 end last stop

-- the numbers end at the first of all faults that may end them, and at the message's end where there is none
pub ends_before : (bytes : List ℕ) (from k : ℕ) (numbers : List ℕ) (ending : Option WireCause) (other : WireCause) → NumbersEnd bytes from k numbers ending → IsNumbersFault bytes from k other → EndsBefore ending other
ends_before bytes from k numbers ending other end fault =
    let w = walked bytes from k numbers ending end in
    end_before_later bytes from w.at fault.at k w.entries fault.entries w.first w.last fault.numbers ending other w.before fault.before w.stated w.first_small w.end w.last_small fault.stop

-- where they end with a fault, it is one of these
pub ends_at_fault : (bytes : List ℕ) (from k : ℕ) (numbers : List ℕ) (cause : WireCause) → NumbersEnd bytes from k numbers (Some cause) → IsNumbersFault bytes from k cause
ends_at_fault bytes from k numbers cause end = record { entries = end.entries; at = end.at; before = end.before; numbers = end.last; stop = end.stop }

-- of the faults in their way this is the one of least place
pub ends_at_least : (bytes : List ℕ) (from k : ℕ) (numbers : List ℕ) (cause other : WireCause) → NumbersEnd bytes from k numbers (Some cause) → IsNumbersFault bytes from k other → cause.at ≤ other.at
ends_at_least bytes from k numbers cause other end fault = elim (ends_before bytes from k numbers (Some cause) other end fault) [
  | inl less ↦ omega arith
  | inr same ↦ let places : cause.at ≡ other.at = ap (λ (c : WireCause). c.at) same in omega arith
]

-- and the only one there
pub ends_at_only : (bytes : List ℕ) (from k : ℕ) (numbers : List ℕ) (cause other : WireCause) → NumbersEnd bytes from k numbers (Some cause) → IsNumbersFault bytes from k other → cause.at ≡ other.at → cause ≡ other
ends_at_only bytes from k numbers cause other end fault here = elim (ends_before bytes from k numbers (Some cause) other end fault) [
  | inl less ↦ absurd (omega arith)
  | inr same ↦ same
]
