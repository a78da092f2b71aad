use Rattle.std.proofs.lemmas.Bool.{cases_Bool}
use Rattle.std.proofs.Common.{inl, inr, ◌≡◌, true, false, is_some, Option, Some, None, MatchOption, List, [], refl, sym, ◌∙◌, ap, subst, arith}
use Rattle.mvt_wire.specs.Field.{Entry}
use Rattle.mvt_fault.specs.declared.fault.Fault.{Fault}
use Rattle.mvt_rules.specs.Tile.{IsFeature}
use Rattle.mvt_rules.specs.Parts.Fields.{FitsRule}
use Rattle.mvt_wire.specs.declared.schema.Message.TheVariants as messages
use Rattle.mvt_tile.specs.Calls.Reading.{GivesSummary}
use Rattle.mvt_tile.proofs.WireFaults.CleanWalk.{CleanWalk-nothing, CleanWalk-next}
use Rattle.mvt_tile.proofs.RuleFaults.FeatureScan.{IsScanned-other, IsScanned-more, IsScanned-finds}
use Rattle.mvt_tile.proofs.Reading.ReadingRules.{own_type}
use Rattle.mvt_wire.proofs.Walking.{IsWalking-none, IsWalking-defectless, IsWalking-over, All-given, IsWalking-more}
use Rattle.mvt_tile.proofs.WireFaults.EmbeddedSpans.{Embeds-given, LiesIn-given}
use Rattle.mvt_tile.proofs.RuleFaults.SummaryReading.{few_counted, IsSummary-from_told}
use Rattle.mvt_tile.proofs.rules.layer_scan.scan_layer.Goals as goal
use Rattle.mvt_tile.proofs.rules.layer_scan.scan_layer.Goals.{else-field-eq-FEATURES-via-then-field-eq-FEATURES+else-is_none, else-field-eq-FEATURES-via-else-field-eq-FEATURES}

-- what was found stays found
still_found : {F : Type 0} (X Y : Type 0) (First : F → Type 0) (found : Option F) → is_some found ≡ true → MatchOption found X First → MatchOption found Y First
still_found X Y First None is held = absurd (cc)
still_found X Y First (Some first) is held = held

-- where nothing was found, the other fact holds
nothing_found : {F X : Type 0} (First : F → Type 0) (found : Option F) → is_some found ≡ false → MatchOption found X First → X
nothing_found First None is held = held
nothing_found First (Some first) is held = absurd (cc)

found_nothing : {F X : Type 0} (First : F → Type 0) (found : Option F) → is_some found ≡ false → X → MatchOption found X First
found_nothing First None is holds = holds
found_nothing First (Some first) is holds = absurd (cc)

pub walk-init : goal.walk-init
walk-init over c = record {
  entries = [];
  walking = IsWalking-none c.new-fields.ensures;
  gives = c.empty_summary-summary.ensures;
  kept = λ some. refl;
  features = λ none. record { first = found_nothing _ c.args.found.now none (CleanWalk-nothing c.new-fields.ensures) };
  few = omega arith;
}

pub next_usual-requires-clause-whole : goal.next_usual-requires-clause-whole
next_usual-requires-clause-whole over c = let there = c.requires.stands.1 in IsWalking-defectless there.entries c.walk.invariant.walking there.whole

pub add_field-requires-clause-fits : goal.add_field-requires-clause-fits
add_field-requires-clause-fits over c =
    let there = c.requires.stands.1 in
    All-given there.entries c.walk.invariant.walking there.whole c.in-Some.ensures.field (FitsRule messages.Layer) there.keeps.fits

pub add_field-requires-clause-keys : goal.add_field-requires-clause-keys
add_field-requires-clause-keys over c =
    let few = few_counted c.args.part.bytes.now c.args.part.to c.walk.invariant.walking c.in-Some.ensures.field c.walk.invariant.gives in
    omega (arith, few.0)

pub add_field-requires-clause-values : goal.add_field-requires-clause-values
add_field-requires-clause-values over c =
    let few = few_counted c.args.part.bytes.now c.args.part.to c.walk.invariant.walking c.in-Some.ensures.field c.walk.invariant.gives in
    omega (arith, few.1)

pub payload_span-from-requires-clause-own : goal.payload_span-from-requires-clause-own
payload_span-from-requires-clause-own over c =
    let there = c.requires.stands.1 in
    let fits = All-given there.entries c.walk.invariant.walking there.whole c.in-Some.ensures.field (FitsRule messages.Layer) there.keeps.fits in
    own_type messages.Layer c.in-Some.field 2 2 fits c.if-field-eq-FEATURES.true refl (λ t. refl)

pub payload_span-from-requires-clause-below : goal.payload_span-from-requires-clause-below
payload_span-from-requires-clause-below over c = λ span there.
    let inside = LiesIn-given c.args.part.bytes.now c.args.part.to c.walk.invariant.walking c.in-Some.ensures.field span there in
    omega (arith, inside.1, c.args.part.within)

pub invariant_of-find_unless_seen : goal.invariant_of-find_unless_seen
invariant_of-find_unless_seen over c =
    let inside = LiesIn-given c.args.part.bytes.now c.args.part.to c.walk.invariant.walking c.in-Some.ensures.field _ c.payload_span-from.ensures in
    record { forward = inside.0; within = inside.1 }

pub find_unless_seen-requires-clause-stands : goal.find_unless_seen-requires-clause-stands
find_unless_seen-requires-clause-stands over c =
    let there = c.requires.stands.1 in
    Embeds-given there.entries c.walk.invariant.walking there.whole c.in-Some.ensures.field 2 (IsFeature c.args.part.bytes.now) c.requires.stands.0.features there.features
    _ c.if-field-eq-FEATURES.true c.payload_span-from.ensures

-- nothing was found before
none_before : (before found : Option Fault) → (is_some before ≡ true → found ≡ before) → is_some found ≡ false → is_some before ≡ false
none_before before found kept none = elim (cases_Bool (is_some before)) [
  | inl some ↦ let both : true ≡ false = sym some ∙ ap is_some (sym (kept some)) ∙ none in absurd (cc)
  | inr nothing ↦ nothing
]

pub find_unless_seen-requires-clause-sound : goal.find_unless_seen-requires-clause-sound
find_unless_seen-requires-clause-sound over c = λ ends.
    let there = c.requires.stands.1 in
    let so_far = c.walk.invariant in
    let none = none_before c.args.found.now c.walk.found so_far.kept c.if-is_none.ensures in
    c.requires.sound c.walk.feature_index _
    (record {
      entries = there.entries;
      whole = there.whole;
      here = (CleanWalk-next (nothing_found _ c.walk.found c.if-is_none.ensures (so_far.features none).first) c.in-Some.ensures.field c.if-field-eq-FEATURES.true _ c.payload_span-from.ensures there.entries there.whole).here;
    })
    ends

pub walk-preserved-then-is_none : goal.walk-preserved-then-is_none
walk-preserved-then-is_none over c =
    let so_far = c.walk.invariant in
    let given = c.in-Some.ensures.field in
    record {
      entries = _;
      walking = IsWalking-more _ _ _ _ _ _ so_far.walking given;
      gives = c.add_field.ensures so_far.entries so_far.gives;
      kept = λ some. let both : true ≡ false = sym some ∙ ap is_some (sym (so_far.kept some)) ∙ c.if-is_none.ensures in absurd (cc);
      features = λ none.
          IsScanned-more (nothing_found _ c.walk.found c.if-is_none.ensures (so_far.features none).first) given c.if-field-eq-FEATURES.true _ c.payload_span-from.ensures
          c.find_unless_seen.new.needs c.find_unless_seen.ensures.no_fewer_keys c.find_unless_seen.ensures.no_fewer_values
          c.requires.after_tags _ (λ it is. is) c.find_unless_seen.new.found (λ layer_record it is like. c.in_ok-find_unless_seen.ensures.finds layer_record it is like);
      few = omega (arith, given.further, so_far.few);
    }

pub walk-preserved : goal.walk-preserved
walk-preserved over c =
    let so_far = c.walk.invariant in
    let given = c.in-Some.ensures.field in
    record {
      entries = _;
      walking = IsWalking-more _ _ _ _ _ _ so_far.walking given;
      gives = c.add_field.ensures so_far.entries so_far.gives;
      kept = so_far.kept;
      features = λ none. elim c.else-field-eq-FEATURES.branch [
        | else-field-eq-FEATURES-via-then-field-eq-FEATURES+else-is_none w ↦ record { first = still_found _ _ _ c.walk.found w.if-is_none.ensures (so_far.features none).first }
        | else-field-eq-FEATURES-via-else-field-eq-FEATURES w ↦ IsScanned-other c.walk.found (so_far.features none) given w.if-field-eq-FEATURES.false
      ];
      few = omega (arith, given.further, so_far.few);
    }

pub returns-clause-summary : goal.returns-clause-summary
returns-clause-summary over c = λ layer there.
    let so_far = c.walk.invariant in
    IsSummary-from_told there
    (subst (λ (entries : List Entry). GivesSummary entries c.walk.summary) (IsWalking-over there.entries so_far.walking there.whole c.in_default.ensures.over) so_far.gives)

pub returns-clause-finds : goal.returns-clause-finds
returns-clause-finds over c = λ none. IsScanned-finds c.requires.after_tags c.walk.found c.in_default.ensures.over (c.walk.invariant.features none)
