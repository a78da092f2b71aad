-- A walk over a tile, none of whose fields and layers that were passed has a fault.
use Rattle.std.proofs.Common.{◌≡◌, ◌≢◌, ◌⊎◌, ℕ, ◌+◌, ◌-◌, ◌<◌, ◌≤◌, List, [], ◌∷◌, ◌++◌, length, take, false, is_some, Option, Some, None, inl, inr, refl, sym, ◌∙◌, ap, subst, arith}
use Rattle.std.proofs.Math.Seq.{take-length}
use Rattle.std.proofs.lemmas.List.{length-take-le}
use Rattle.mvt_wire.specs.Field.{Entry, entry_of}
use Rattle.mvt_wire.specs.Message.{FieldList, IsMessage}
use Rattle.mvt_wire.specs.Payload.{Span, span_of, spans_of}
use Rattle.mvt_wire.specs.Walk.{Walk, IsOver}
use Rattle.mvt_wire.specs.declared.cause.WireCause.{WireCause}
use Rattle.mvt_wire.specs.declared.field.Field.{Field}
use Rattle.mvt_wire.specs.declared.schema.Message.TheVariants as messages
use Rattle.mvt_wire.specs.declared.scope.Scope.{Scope}
use Rattle.mvt_wire.specs.declared.scope.Scope.TheVariants as scopes
use Rattle.mvt_fault.specs.Cause.{wire_fault_in}
use Rattle.mvt_fault.specs.declared.fault.Fault.{Fault}
use Rattle.mvt_rules.specs.Parts.Fields.{FitsRule}
use Rattle.mvt_rules.specs.Parts.TrueFaults.{IsFaultOfLayers}
use Rattle.mvt_rules.specs.Scope.{IsPart, whole_span}
use Rattle.mvt_rules.specs.Tile.{FeatureRecord, IsTile, TileRecord}
use Rattle.mvt_rules.specs.WireFault.{EndFault, WireFault}
use Rattle.mvt_tile.specs.Passed.{IsPassed}
use Rattle.mvt_tile.specs.RuleFaults.{Keeps, KeepsRules}
use Rattle.mvt_tile.specs.Calls.Embedded.{IsFaultlessLayer, wire}
use Rattle.mvt_tile.specs.Calls.FieldScan.{HasScanned, PassesNext}
use Rattle.mvt_tile.specs.Calls.Least.{FindsLeastCause}
use Rattle.mvt_tile.specs.Calls.OneWalk.{PassesLayer}
use Rattle.mvt_tile.specs.Sound.{AreSoundBefore, AreSoundTo, IsSoundTo, tells_none}
use Rattle.mvt_tile.specs.declared.seen.Seen.{Seen}
use Rattle.mvt_tile.specs.Calls.Passed.{ArePartsPassed, IsKnownTo}
use Rattle.mvt_tile.specs.Calls.PassedLayers.{passed, EndsLayers, IsNextLayer, PassesLayers}
use Rattle.mvt_tile.specs.declared.rules.layer_rules.LayerRules.{LayerRules}
use Rattle.mvt_tile.specs.declared.rules.summary.LayerSummary.{LayerSummary}
use Rattle.mvt_tile.specs.declared.wire.scan.FieldScan.{FieldScan}
use Rattle.mvt_tile.proofs.OneWalk.Layers.{after_tags}
use Rattle.mvt_tile.proofs.Reading.ScannedFeatures.{FitsRule-scanned, nothing_found}
use Rattle.mvt_tile.proofs.RuleFaults.FeatureFaults.{good_tile}
use Rattle.mvt_tile.proofs.RuleFaults.RuleOrder.{no_rule_broken}
use Rattle.mvt_tile.proofs.RuleFaults.TileScan.{Summarizes, IsNextLayer-given, EndsLayers-over}
use Rattle.mvt_tile.proofs.WireFaults.CleanWalk.{CleanWalk, CleanWalk-nothing, CleanWalk-weaker, CleanWalk-other, CleanWalk-more, CleanWalk-over}
use Rattle.mvt_tile.proofs.WireFaults.Known.{IsPart-after}
use Rattle.mvt_tile.proofs.WireFaults.LaterParts.{LiesAfter, field_after, parts_after, passed_or_later}
use Rattle.mvt_tile.proofs.WireFaults.Tiles.{WireFault-none}
use Rattle.mvt_tile.proofs.WireFaults.Walking.{IsScanning, IsScanning-more, IsScanning-whole}

-- the layer with an ordinal has no wire fault, and its features pass
abbrev pub IsRight : Keeps → List ℕ → ℕ → Span → Type 0
IsRight IsKept bytes ordinal span = IsFaultlessLayer bytes ordinal span × PassesLayer IsKept bytes ordinal span

-- the walk at a place
abbrev pub walk_to : List ℕ → ℕ → Walk
walk_to bytes at = record { bytes = bytes; at = at }

-- a layer without fault has none in front of any place
no_fault_in : (bytes : List ℕ) (place ordinal : ℕ) (span : Span) → IsFaultlessLayer bytes ordinal span → IsKnownTo bytes place span
no_fault_in bytes place ordinal span faultless = record {
  own = λ cause fault. absurd (faultless (wire_fault_in (scopes.Layer ordinal) cause) (wire cause.code (scopes.Layer ordinal) cause.at cause.field (refl, fault)));
  parts = record {
    values = λ value inner cause part fault. absurd (faultless (wire_fault_in (scopes.Value ordinal value) cause) (wire cause.code (scopes.Value ordinal value) cause.at cause.field (refl, (inner, part, fault))));
    features = λ feature inner cause part fault. absurd (faultless (wire_fault_in (scopes.Feature ordinal feature) cause) (wire cause.code (scopes.Feature ordinal feature) cause.at cause.field (refl, (inner, part, fault))));
  };
}

-- where the layers that were passed have no fault in front of a place that the walk has reached, the tile has none
module _ (bytes : List ℕ) (place : ℕ) {at : ℕ} (reached : place ≤ at + 1) {count : ℕ} (so_far : CleanWalk (λ ordinal. IsKnownTo bytes place) 3 (take (length bytes) bytes) 0 (walk_to bytes at) count) where
  known_or_later : (layer : ℕ) (span : Span) → IsPart bytes (whole_span bytes) 3 layer span → IsKnownTo bytes place span ⊎ LiesAfter at (length (take (length bytes) bytes)) span
  known_or_later layer span part = elim (passed_or_later (take (length bytes) bytes) 0 at 3 so_far.entries part.entries so_far.walking.passed part.whole layer span part.here) [
    | inl here ↦ inl (so_far.clean layer span here)
    | inr later ↦ inr later
  ]

  all_passed : IsPassed bytes place
  all_passed scopes.Tile cause fault = tt
  all_passed (scopes.Layer layer) cause fault = elim (known_or_later layer fault.span fault.there) [
    | inl known ↦ known.own cause fault.fault
    | inr later ↦ omega (arith, later.after, later.forward)
  ]
  all_passed (scopes.Value layer value) cause fault = elim (known_or_later layer fault.there.0 fault.there.1) [
    | inl known ↦ known.parts.values value fault.span cause fault.there.2 fault.fault
    | inr later ↦ let lies = IsPart-after bytes fault.there.0 4 value fault.span fault.there.2 in omega (arith, later.after, lies.after, lies.forward)
  ]
  all_passed (scopes.Feature layer feature) cause fault = elim (known_or_later layer fault.there.0 fault.there.1) [
    | inl known ↦ known.parts.features feature fault.span cause fault.there.2 fault.fault
    | inr later ↦ let lies = IsPart-after bytes fault.there.0 2 feature fault.span fault.there.2 in omega (arith, later.after, lies.after, lies.forward)
  ]

-- the layers that were passed are sound in front of a later place, by a more lenient rule
sound_in_front : (IsKept Other : Keeps) → ((it : FeatureRecord) → IsKept it → Other it) → (bytes : List ℕ) (seen : Seen) {at count : ℕ} → CleanWalk (IsRight IsKept bytes) 3 (take (length bytes) bytes) 0 (walk_to bytes at) count → at < seen.to
    → CleanWalk (IsSoundTo tells_none Other bytes seen) 3 (take (length bytes) bytes) 0 (walk_to bytes at) count
sound_in_front IsKept Other still bytes seen {at} so_far ends = record {
  entries = so_far.entries;
  walking = so_far.walking;
  counted = so_far.counted;
  clean = λ ordinal span here.
      let lies = parts_after (take (length bytes) bytes) 0 at 3 so_far.entries so_far.walking.passed ordinal span here in
      let before = lies.before in
      record {
        whole = λ less layer_record is feature it there. let sound = (so_far.clean ordinal span here).1 layer_record is feature it there in record { faultless = sound.faultless; kept = still it sound.kept };
        front = λ beyond. absurd (omega arith);
      };
  few = so_far.few;
}

-- where the layers that were passed are sound in front of a place that the walk has reached, all are
all_sound : {IsKept : Keeps} (bytes : List ℕ) (seen : Seen) {at count : ℕ} → seen.to ≤ at + 1 → CleanWalk (IsSoundTo tells_none IsKept bytes seen) 3 (take (length bytes) bytes) 0 (walk_to bytes at) count → AreSoundTo tells_none IsKept bytes seen
all_sound bytes seen {at} reached so_far layer outer part = elim (passed_or_later (take (length bytes) bytes) 0 at 3 so_far.entries part.entries so_far.walking.passed part.whole layer outer part.here) [
  | inl here ↦ so_far.clean layer outer here
  | inr later ↦ record {
    whole = λ less. absurd (omega (arith, later.after, later.forward));
    front = λ beyond feature inner there ends. let lies = IsPart-after bytes outer 2 feature inner there in absurd (omega (arith, later.after, lies.after, lies.forward));
  }
]

-- What is known of the fields up to a place: none has a fault, nor has a layer among them, whose versions and names are kept.
pub record IsTilePassed (IsKept : Keeps) (bytes : List ℕ) (at : ℕ) (own : FieldScan) (rules : LayerRules) : Type 0 where
  pub within : at ≤ length bytes
  pub entries : List Entry
  pub scanning : IsScanning messages.Tile bytes 0 at own entries
  pub count : ℕ
  pub layers : CleanWalk (IsRight IsKept bytes) 3 (take (length bytes) bytes) 0 (walk_to bytes at) count
  pub named : passed rules ≡ count
  pub passes : (tile : TileRecord) → IsTile bytes tile → PassesLayers rules tile

-- before the first field
pub passes_nothing : (IsKept : Keeps) (bytes : List ℕ) (own : FieldScan) (rules : LayerRules) → HasScanned messages.Tile own [] → passed rules ≡ 0 → ((tile : TileRecord) → PassesLayers rules tile) → IsTilePassed IsKept bytes 0 own rules
passes_nothing IsKept bytes own rules scanned none passes = record {
  within = omega arith;
  entries = [];
  scanning = record { passed = refl; passes = scanned };
  count = 0;
  layers = CleanWalk-nothing (ap (λ (list : List ℕ). walk_to list 0) (sym (take-length bytes)));
  named = none;
  passes = λ tile is. passes tile;
}

-- where no field was passed, nothing has changed
pub passed_unchanged : {IsKept : Keeps} {bytes : List ℕ} {at : ℕ} {own next_own : FieldScan} {rules : LayerRules} → IsTilePassed IsKept bytes at own rules → next_own ≡ own → IsTilePassed IsKept bytes at next_own rules
passed_unchanged {IsKept} {bytes} {at} {rules = rules} so_far same = subst (λ (scan : FieldScan). IsTilePassed IsKept bytes at scan rules) (sym same) so_far

-- what was passed has no fault in front of any place
known_to : {IsKept : Keeps} {bytes : List ℕ} {at : ℕ} {own : FieldScan} {rules : LayerRules} (place : ℕ) (so_far : IsTilePassed IsKept bytes at own rules)
    → CleanWalk (λ ordinal. IsKnownTo bytes place) 3 (take (length bytes) bytes) 0 (walk_to bytes at) so_far.count
known_to {bytes = bytes} place so_far = CleanWalk-weaker (λ ordinal. IsKnownTo bytes place) (λ ordinal span right. no_fault_in bytes place ordinal span right.0) so_far.layers

-- so nothing in front of the walk's place has one
pub passed_to : {IsKept : Keeps} {bytes : List ℕ} {at : ℕ} {own : FieldScan} {rules : LayerRules} (place : ℕ) → place ≡ at + 1 → IsTilePassed IsKept bytes at own rules → IsPassed bytes place
passed_to {bytes = bytes} {at = at} place is so_far = all_passed bytes place (omega arith) (known_to place so_far)

-- and no feature there
pub sound_to : {IsKept : Keeps} {bytes : List ℕ} {at : ℕ} {own : FieldScan} {rules : LayerRules} (seen : Seen) → seen.to ≡ at + 1 → IsTilePassed IsKept bytes at own rules → AreSoundTo tells_none IsKept bytes seen
sound_to {IsKept} {bytes} {at} seen is so_far = all_sound bytes seen (omega arith) (sound_in_front IsKept IsKept (λ it kept. kept) bytes seen so_far.layers (omega arith))

module _ {IsKept : Keeps} {bytes : List ℕ} {at : ℕ} {own next_own : FieldScan} {rules : LayerRules} (so_far : IsTilePassed IsKept bytes at own rules) {read : Field × ℕ} (next : PassesNext messages.Tile bytes at own next_own read) where
  -- the next field fits its rule
  pub fits_next : FitsRule messages.Tile (entry_of read.0)
  fits_next = FitsRule-scanned so_far.entries (entry_of read.0) (next.passed so_far.entries so_far.scanning.passes)

  -- it is passed: one that holds no layer
  pub passes_other : read.0.number ≢ 3 → IsTilePassed IsKept bytes read.1 next_own rules
  passes_other other = record {
    within = next.given.within;
    entries = so_far.entries ++ entry_of read.0 ∷ [];
    scanning = IsScanning-more so_far.scanning next;
    count = so_far.count;
    layers = CleanWalk-other so_far.layers next.given other;
    named = so_far.named;
    passes = so_far.passes;
  }

  module _ (own_layer : read.0.number ≡ 3) (span : Span) (there : span_of (entry_of read.0).content ≡ Some span) where
    -- a layer is the next of the tile
    pub next_layer : {summary : LayerSummary} → Summarizes bytes span summary → (tile : TileRecord) → IsTile bytes tile → IsNextLayer rules tile summary.version summary.name.now
    next_layer summarizes tile is = IsNextLayer-given (CleanWalk-weaker (λ ordinal other. Unit {0}) (λ ordinal other right. tt) so_far.layers) so_far.named is next.given own_layer span there summarizes

    -- where it isn't passed, it may be known up to a place
    pub passed_in_layer : (place : ℕ) → place ≤ span.to → ArePartsPassed bytes place span → IsPassed bytes place
    passed_in_layer place inside parts =
        let lies = field_after bytes read.1 (entry_of read.0) span next.given.encoded there in
        let before = lies.before in
        all_passed bytes place (omega arith) (CleanWalk-more (known_to place so_far) next.given own_layer span there (record { own = λ cause fault. inside; parts = parts }))

    -- or have no wire fault
    pub passed_layer : (place : ℕ) → place ≡ read.1 + 1 → ((ordinal : ℕ) → IsFaultlessLayer bytes ordinal span) → IsPassed bytes place
    passed_layer place is faultless = all_passed bytes place (omega arith) (CleanWalk-more (known_to place so_far) next.given own_layer span there (no_fault_in bytes place so_far.count span (faultless so_far.count)))

    -- so with its features, by a more lenient rule
    module _ (Other : Keeps) (still : (it : FeatureRecord) → IsKept it → Other it) (seen : Seen) where
      pub sound_in_layer : span.from ≤ seen.to → seen.to ≤ span.to → ((layer : ℕ) → AreSoundBefore tells_none Other bytes (span.to - span.from) (span.to - span.from) seen layer span) → AreSoundTo tells_none Other bytes seen
      sound_in_layer begun inside front =
          let lies = field_after bytes read.1 (entry_of read.0) span next.given.encoded there in
          let here = next.given.here in
          let after = lies.after in
          let before = lies.before in
          all_sound bytes seen (omega arith)
          (CleanWalk-more (sound_in_front IsKept Other still bytes seen so_far.layers (omega arith)) next.given own_layer span there (record { whole = λ less. absurd (omega arith); front = λ beyond. front so_far.count }))

      pub sound_layer : seen.to ≡ read.1 + 1 → ((ordinal : ℕ) → PassesLayer Other bytes ordinal span) → AreSoundTo tells_none Other bytes seen
      sound_layer is passes =
          let lies = field_after bytes read.1 (entry_of read.0) span next.given.encoded there in
          let before = lies.before in
          let further = next.given.further in
          all_sound bytes seen (omega arith)
          (CleanWalk-more (sound_in_front IsKept Other still bytes seen so_far.layers (omega arith)) next.given own_layer span there (record { whole = λ less. passes so_far.count; front = λ beyond. absurd (omega arith) }))

    -- and passed where it is right
    pub passes_more : (Other : Keeps) → ((it : FeatureRecord) → IsKept it → Other it) → (more : LayerRules) → passed more ≡ passed rules + 1 → ((tile : TileRecord) → IsTile bytes tile → PassesLayers more tile)
        → ((ordinal : ℕ) → IsFaultlessLayer bytes ordinal span) → ((ordinal : ℕ) → PassesLayer Other bytes ordinal span) → IsTilePassed Other bytes read.1 next_own more
    passes_more Other still more one passes faultless good = record {
      within = next.given.within;
      entries = so_far.entries ++ entry_of read.0 ∷ [];
      scanning = IsScanning-more so_far.scanning next;
      count = so_far.count + 1;
      layers = CleanWalk-more (CleanWalk-weaker (IsRight Other bytes) lenient so_far.layers) next.given own_layer span there (faultless so_far.count, good so_far.count);
      named = omega (arith, one, so_far.named);
      passes = passes;
    }
      where
        lenient : (ordinal : ℕ) (other : Span) → IsRight IsKept bytes ordinal other → IsRight Other bytes ordinal other
        lenient ordinal other right = (right.0, λ layer_record is feature it here. let sound = right.1 layer_record is feature it here in record { faultless = sound.faultless; kept = still it sound.kept })

-- after the last field
module _ {IsKept : Keeps} {bytes : List ℕ} {at : ℕ} {own : FieldScan} {rules : LayerRules} (end : at ≡ length bytes) (so_far : IsTilePassed IsKept bytes at own rules) where
  scanning : IsScanning messages.Tile (take (length bytes) bytes) 0 at own so_far.entries
  scanning = rw (take-length bytes) so_far.scanning

  whole : IsMessage (take (length bytes) bytes) 0 so_far.entries
  whole = subst (λ (place : ℕ). FieldList (take (length bytes) bytes) 0 so_far.entries place) (end ∙ sym (length-take-le (length bytes) bytes (omega arith))) scanning.passed

  over : IsOver (walk_to bytes at) (walk_to bytes at)
  over = record { at_end = end; unchanged = refl }

  -- the tile has no wire fault
  pub no_wire_fault : (found : Option WireCause) → false ≡ is_some found → ((passed : List Entry) → HasScanned messages.Tile own passed → FindsLeastCause (EndFault messages.Tile passed (length bytes)) found)
      → (scope : Scope) (cause : WireCause) → ¬ WireFault bytes scope cause
  no_wire_fault found nothing finds =
      let right = CleanWalk-over so_far.layers over so_far.entries whole in
      WireFault-none bytes so_far.entries whole (nothing_found _ found nothing (IsScanning-whole bytes (length bytes) found (omega arith) end scanning finds))
      (length (spans_of 3 so_far.entries)) (refl, λ ordinal span here. (right ordinal span here).0)

  -- and keeps the rules
  pub keeps_rules : ((tile : TileRecord) → EndsLayers rules tile → (fault : Fault) → ¬ IsFaultOfLayers tile fault) → (tile : TileRecord) → IsTile bytes tile → KeepsRules IsKept tile
  keeps_rules none =
      no_rule_broken tells_none after_tags bytes rules (λ tile is. EndsLayers-over (CleanWalk-weaker (λ ordinal other. Unit {0}) (λ ordinal other right. tt) so_far.layers) so_far.named is over (so_far.passes tile is)) none
      (λ fault. ⊥) IsKept None
      (λ tile is all. good_tile tells_none after_tags IsKept bytes tile is (λ ordinal span here. (CleanWalk-over so_far.layers over is.entries is.whole ordinal span here).1))
