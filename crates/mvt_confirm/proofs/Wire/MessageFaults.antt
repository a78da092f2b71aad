-- The faults of a message: those at its end, those of the message in a span, and those of a scope.
use Rattle.std.proofs.Common.{◌≡◌, ℕ, ◌↔◌, IsTrue, nat_lt, Bool, true, false, inl, inr, List, Some, sym, ◌∙◌, ap, subst, length, take, length-take-le, ◌≤◌}
use Rattle.mvt_wire.specs.Field.{Entry}
use Rattle.mvt_wire.specs.Message.{IsMessage, HasDefect}
use Rattle.mvt_wire.specs.Schema.{rule_of, is_required}
use Rattle.mvt_wire.specs.Payload.{Span, count_of}
use Rattle.mvt_rules.specs.Scope.{whole_span, IsPart, IsScope, message_of}
use Rattle.mvt_rules.specs.WireFault.{FieldFault, EndFault, missing, not_one, MessageFault, WireFault}
use Rattle.mvt_wire.specs.declared.cause.WireCause.{WireCause}
use Rattle.mvt_wire.specs.declared.cause.WireCode.TheVariants.{Missing, OneField}
use Rattle.mvt_wire.specs.declared.schema.FieldRule.{FieldRule}
use Rattle.mvt_wire.specs.declared.schema.Message.{Message}
use Rattle.mvt_wire.specs.declared.scope.Scope.{Scope}
use Rattle.mvt_wire.specs.declared.scope.Scope.TheVariants.{Tile, Layer, Value, Feature}
use Rattle.mvt_wire.proofs.Encoding.Messages.{one_list}
use Rattle.mvt_confirm.proofs.Wire.Payloads.{one_part}

-- a number that has to stand and doesn't
pub missing_there : (message : Message) (entries : List Entry) (cause : WireCause) (of_number : ℕ) (test : Bool) → cause.code ≡ Missing → of_number ≡ count_of cause.field entries → of_number ≡ 0
    → (IsTrue test ↔ ((rule : FieldRule) × (rule_of message cause.field ≡ Some rule) × (is_required rule.occurrence ≡ true))) → IsTrue test ↔ EndFault message entries cause.at cause
missing_there message entries cause of_number test code counted none decides = (
  λ so.
      let asked = decides.0 so in
      missing cause.field asked.0 asked.1 asked.2 (ap (nat_lt 0) (sym counted ∙ none)) (λ i. record { code = code i; at = cause.at; field = cause.field }),
  λ fault. decides.1 (asked fault),
)
  where
    asked : EndFault message entries cause.at cause → (rule : FieldRule) × (rule_of message cause.field ≡ Some rule) × (is_required rule.occurrence ≡ true)
    asked (missing field_number rule known required absent is) =
        let same : cause.field ≡ field_number = ap (λ (c : WireCause). c.field) is in
        (rule, ap (rule_of message) same ∙ known, required)
    asked (not_one value count is) = let both : Missing ≡ OneField = sym code ∙ ap (λ (c : WireCause). c.code) is in absurd (cc)

-- the faults at the end of the one field list of a message
pub at_end : (bytes : List ℕ) (from to : ℕ) (message : Message) (entries : List Entry) (cause : WireCause) (test : Bool) → IsMessage bytes from entries → cause.at ≡ to
    → (IsTrue test ↔ EndFault message entries cause.at cause) → IsTrue test ↔ ((list : List Entry) × IsMessage bytes from list × EndFault message list to cause)
at_end bytes from to message entries cause test whole here decides = (
  λ so. (entries, whole, subst (λ (end : ℕ). EndFault message entries end cause) here (decides.0 so)),
  λ there. decides.1 (subst (λ (list : List Entry). EndFault message list cause.at cause) (one_list bytes from there.0 entries there.1 whole)
      (subst (λ (end : ℕ). EndFault message there.0 end cause) (sym here) there.2)),
)

-- the faults of the message in a span, by where they are
pub by_place : (bytes : List ℕ) (from to : ℕ) (message : Message) (cause : WireCause) (defect : Bool) (rest : Bool) → to ≤ length bytes → (IsTrue defect ↔ HasDefect (take to bytes) from cause) → defect ≡ false
    → (field : Bool) → (IsTrue field ↔ ((entries : List Entry) × IsMessage (take to bytes) from entries × FieldFault message entries cause)) → field ≡ false
    → (IsTrue rest ↔ ((entries : List Entry) × IsMessage (take to bytes) from entries × EndFault message entries to cause)) → IsTrue rest ↔ MessageFault message (take to bytes) from cause
by_place bytes from to message cause defect rest within defect_decides no_defect field field_decides no_field end_decides =
    let size : length (take to bytes) ≡ to = length-take-le to bytes within in (
      λ so.
          let found = end_decides.0 so in
          inr (found.0, found.1, inr (subst (λ (end : ℕ). EndFault message found.0 end cause) (sym size) found.2)),
      λ fault. elim fault [
        | inl here ↦ let both : false ≡ true = sym no_defect ∙ defect_decides.1 here in absurd (cc)
        | inr whole ↦ elim whole.2 [
          | inl in_field ↦ let both : false ≡ true = sym no_field ∙ field_decides.1 (whole.0, whole.1, in_field) in absurd (cc)
          | inr ending ↦ end_decides.1 (whole.0, whole.1, subst (λ (end : ℕ). EndFault message whole.0 end cause) size ending)
        ]
      ],
    )

-- a scope lies at one place
one_scope : (bytes : List ℕ) (scope : Scope) (first second : Span) → IsScope bytes scope first → IsScope bytes scope second → first ≡ second
one_scope bytes Tile first second h k = h ∙ sym k
one_scope bytes (Layer layer) first second h k = one_part bytes (whole_span bytes) first second 3 layer h k
one_scope bytes (Value layer value) first second h k =
    let same = one_part bytes (whole_span bytes) k.0 h.0 3 layer k.1 h.1 in
    one_part bytes h.0 first second 4 value h.2 (subst (λ (outer : Span). IsPart bytes outer 4 value second) same k.2)
one_scope bytes (Feature layer feature) first second h k =
    let same = one_part bytes (whole_span bytes) k.0 h.0 3 layer k.1 h.1 in
    one_part bytes h.0 first second 2 feature h.2 (subst (λ (outer : Span). IsPart bytes outer 2 feature second) same k.2)

-- so a fault of the message there is one of the scope
pub in_scope : (bytes : List ℕ) (scope : Scope) (span : Span) (cause : WireCause) (message : Message) (test : Bool) → IsScope bytes scope span → message ≡ message_of scope
    → (IsTrue test ↔ MessageFault message (take span.to bytes) span.from cause) → IsTrue test ↔ WireFault bytes scope cause
in_scope bytes scope span cause message test there is decides = (
  λ so. record { span = span; there = there; fault = subst (λ (m : Message). MessageFault m (take span.to bytes) span.from cause) is (decides.0 so) },
  λ fault. decides.1 (subst (λ (m : Message). MessageFault m (take span.to bytes) span.from cause) (sym is)
      (subst (λ (s : Span). MessageFault (message_of scope) (take s.to bytes) s.from cause) (one_scope bytes scope fault.span span fault.there there) fault.fault)),
)
