use Rattle.std.proofs.Common.{◌≡◌, List, [], ◌++◌, Vec, Global, refl, sym, ◌∙◌, ap, subst, arith}
use Rattle.std.proofs.lemmas.List.{append-nil, append_assoc}
use Rattle.mvt_wire.specs.Field.{Entry}
use Rattle.mvt_rules.specs.Tile.{IsFeature}
use Rattle.mvt_rules.specs.Parts.Fields.{FitsRule}
use Rattle.mvt_wire.specs.declared.schema.Message.TheVariants as messages
use Rattle.mvt_wire.proofs.Walking.{IsWalking-none, IsWalking-defectless, IsWalking-over, All-given, IsWalking-more}
use Rattle.mvt_fault.specs.declared.fault.Fault.{Fault}
use Rattle.mvt_tile.specs.FeatureBytes.{Encodes}
use Rattle.mvt_tile.specs.Calls.Reading.{GivesSummary}
use Rattle.mvt_tile.proofs.WireFaults.CleanWalk.{CleanWalk-nothing, CleanWalk-other, CleanWalk-more}
use Rattle.mvt_tile.proofs.WireFaults.EmbeddedSpans.{Embeds-given, LiesIn-given}
use Rattle.mvt_tile.proofs.Reading.ReadingRules.{own_type}
use Rattle.mvt_tile.proofs.RuleFaults.GatheredScan.{Gathers-more, Gathers-all, with_found, with_found-more}
use Rattle.mvt_tile.proofs.RuleFaults.SummaryReading.{few_counted, IsSummary-from_told}
use Rattle.mvt_tile.proofs.rules.feature_faults.add_faults.Goals.{in-Some-found+in_ok-push, in_default-found}
use Rattle.mvt_tile.proofs.rules.feature_faults.add_faults.Goals as goal

-- the list of faults, of a Vec
abbrev items_of : Vec Fault Global → List Fault
items_of faults = faults.items

pub walk-init : goal.walk-init
walk-init over c = record {
  entries = [];
  walking = IsWalking-none c.new-fields.ensures;
  gives = c.empty_summary-summary.ensures;
  features = CleanWalk-nothing c.new-fields.ensures;
  own = [];
  added = sym (append-nil c.args.faults.now.items);
  gathers = λ tile layer_record in_tile is like in_front. in_front;
  few = omega arith;
}

pub next_usual-requires-clause-whole : goal.next_usual-requires-clause-whole
next_usual-requires-clause-whole over c = let there = c.requires.stands.1 in IsWalking-defectless there.entries c.walk.invariant.walking there.whole

pub add_field-requires-clause-fits : goal.add_field-requires-clause-fits
add_field-requires-clause-fits over c =
    let there = c.requires.stands.1 in
    All-given there.entries c.walk.invariant.walking there.whole c.in-Some.ensures.field (FitsRule messages.Layer) there.keeps.fits

pub add_field-requires-clause-keys : goal.add_field-requires-clause-keys
add_field-requires-clause-keys over c =
    let few = few_counted c.args.part.bytes.now c.args.part.to c.walk.invariant.walking c.in-Some.ensures.field c.walk.invariant.gives in
    omega (arith, few.0)

pub add_field-requires-clause-values : goal.add_field-requires-clause-values
add_field-requires-clause-values over c =
    let few = few_counted c.args.part.bytes.now c.args.part.to c.walk.invariant.walking c.in-Some.ensures.field c.walk.invariant.gives in
    omega (arith, few.1)

pub payload_span-from-requires-clause-own : goal.payload_span-from-requires-clause-own
payload_span-from-requires-clause-own over c =
    let there = c.requires.stands.1 in
    let fits = All-given there.entries c.walk.invariant.walking there.whole c.in-Some.ensures.field (FitsRule messages.Layer) there.keeps.fits in
    own_type messages.Layer c.in-Some.field 2 2 fits c.if-field-eq-FEATURES.true refl (λ t. refl)

pub payload_span-from-requires-clause-below : goal.payload_span-from-requires-clause-below
payload_span-from-requires-clause-below over c = λ span there.
    let inside = LiesIn-given c.args.part.bytes.now c.args.part.to c.walk.invariant.walking c.in-Some.ensures.field span there in
    omega (arith, inside.1, c.args.part.within)

pub invariant_of-new : goal.invariant_of-new
invariant_of-new over c =
    let inside = LiesIn-given c.args.part.bytes.now c.args.part.to c.walk.invariant.walking c.in-Some.ensures.field _ c.payload_span-from.ensures in
    record { forward = inside.0; within = inside.1 }

pub new-feature-requires : goal.new-feature-requires
new-feature-requires over c =
    let there = c.requires.stands.1 in
    Embeds-given there.entries c.walk.invariant.walking there.whole c.in-Some.ensures.field 2 (IsFeature c.args.part.bytes.now) c.requires.stands.0.features there.features
    _ c.if-field-eq-FEATURES.true c.payload_span-from.ensures

pub walk-preserved-then-field-eq-FEATURES : goal.walk-preserved-then-field-eq-FEATURES
walk-preserved-then-field-eq-FEATURES over c =
    let so_far = c.walk.invariant in
    let given = c.in-Some.ensures.field in
    let faults = c.walk.faults.items in
    let longer : c.match-found.faults.items ≡ with_found faults c.find_in_feature.new.found = elim c.match-found.branch [
      | in-Some-found+in_ok-push w ↦ ap items_of w.faults-is ∙ w.in_ok-push.ensures.items ∙ ap (with_found faults) (sym w.in-Some-found.is)
      | in_default-found w ↦ ap items_of w.faults-is ∙ ap (with_found faults) (sym w.in_default-found.is)
    ] in
    let more = with_found-more faults c.find_in_feature.new.found in
    record {
      entries = _;
      walking = IsWalking-more _ _ _ _ _ _ so_far.walking given;
      gives = c.add_field.ensures so_far.entries so_far.gives;
      features = CleanWalk-more so_far.features given c.if-field-eq-FEATURES.true _ c.payload_span-from.ensures tt;
      own = so_far.own ++ more.0;
      added = longer ∙ more.1 ∙ ap (λ (list : List Fault). list ++ more.0) so_far.added ∙ append_assoc c.args.faults.now.items so_far.own more.0;
      gathers = Gathers-more over.R.FeatureRule.IsFree over.R.FeatureRule.IsBroken over.R.FeatureRule.IsKept c.requires.after_tags c.args.part.bytes.now (record { from = c.args.part.from; to = c.args.part.to })
          c.args.layer_index c.args.keys c.args.values c.args.faults.now.items so_far.features given c.if-field-eq-FEATURES.true _ c.payload_span-from.ensures
          c.walk.needs c.find_in_feature.new.needs c.find_in_feature.ensures.no_fewer_keys c.find_in_feature.ensures.no_fewer_values
          (Encodes c.new-feature.result) c.new-feature.ensures faults so_far.gathers c.find_in_feature.new.found
          (λ layer_record it encodes like. c.in_ok-find_in_feature.ensures.finds layer_record it encodes like) c.match-found.faults.items longer;
      few = omega (arith, given.further, so_far.few);
    }

pub walk-preserved : goal.walk-preserved
walk-preserved over c =
    let so_far = c.walk.invariant in
    let given = c.in-Some.ensures.field in
    record {
      entries = _;
      walking = IsWalking-more _ _ _ _ _ _ so_far.walking given;
      gives = c.add_field.ensures so_far.entries so_far.gives;
      features = CleanWalk-other so_far.features given c.if-field-eq-FEATURES.false;
      own = so_far.own;
      added = so_far.added;
      gathers = so_far.gathers;
      few = omega (arith, given.further, so_far.few);
    }

pub returns-clause-summary : goal.returns-clause-summary
returns-clause-summary over c = λ layer there.
    let so_far = c.walk.invariant in
    IsSummary-from_told there
    (subst (λ (entries : List Entry). GivesSummary entries c.walk.summary) (IsWalking-over there.entries so_far.walking there.whole c.in_default.ensures.over) so_far.gives)

pub returns-clause-added : goal.returns-clause-added
returns-clause-added over c = (c.walk.invariant.own, c.walk.invariant.added)

pub returns-clause-gathers : goal.returns-clause-gathers
returns-clause-gathers over c =
    Gathers-all over.R.FeatureRule.IsFree over.R.FeatureRule.IsBroken over.R.FeatureRule.IsKept c.requires.after_tags c.args.part.bytes.now (record { from = c.args.part.from; to = c.args.part.to }) c.args.layer_index c.args.keys c.args.values c.args.faults.now.items
    c.walk.invariant.features c.in_default.ensures.over c.walk.needs c.walk.faults.items c.walk.invariant.gathers
