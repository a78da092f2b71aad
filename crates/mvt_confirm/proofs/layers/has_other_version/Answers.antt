use Rattle.std.proofs.Common.{◌≡◌, ◌≢◌, ◌↔◌, ℕ, ◌==◌, ◌^◌, Bool, true, false, not, IsTrue, List, [], ◌∷◌, take, Option, Some, None, inl, inr, refl, sym, ◌∙◌, ap, subst}
use Rattle.std.proofs.lemmas.Bool.{cases_eq, eq-eqb, ne_eqb, leb-false}
use Rattle.std.specs.Option.{option_eq}
use Rattle.mvt_wire.specs.Numbers.{NumbersEnd}
use Rattle.mvt_rules.specs.Rules.{OtherVersion}
use Rattle.mvt_wire.specs.Schema.{field_rule}
use Rattle.mvt_wire.specs.Payload.{Span}
use Rattle.mvt_rules.specs.Scope.{IsScope}
use Rattle.mvt_rules.specs.Tile.{LayerRecord, IsLayer, TileRecord, IsTile}
use Rattle.mvt_wire.specs.declared.schema.Message.TheVariants as messages
use Rattle.mvt_wire.specs.declared.schema.Occurrence.TheVariants.{Once}
use Rattle.mvt_wire.specs.declared.schema.Shape.TheVariants.{Uint32}
use Rattle.mvt_wire.specs.declared.scope.Scope.TheVariants.{Layer}
use Rattle.mvt_confirm.specs.Calls.ByteSpan.{as_span}
use Rattle.mvt_confirm.proofs.Wire.SingularNumbers.{singular_number_ends}
use Rattle.mvt_confirm.proofs.Features.TileScopes.{layer_of_scope, scope_of_layer}
use Rattle.mvt_confirm.proofs.layers.has_other_version.Goals as goal

-- the test decides whether a version is another one than 2
test_decides : (test : Bool) (version : ℕ) → test ≡ not (version == 2) → IsTrue test ↔ (version ≢ 2)
test_decides test version is = elim (cases_eq version 2) [
  | inl two ↦
      let false_test : test ≡ false = is ∙ ap not (eq-eqb version 2 two) in
      (λ holds. absurd (cc), λ other. absurd (other two))
  | inr other ↦
      let true_test : test ≡ true = is ∙ ap not (ne_eqb version 2 other) in
      (λ holds. other, λ different. true_test)
]

-- and so whether that of a layer of a tile is
version_decides : (bytes : List ℕ) (tile : TileRecord) (layer : ℕ) (span : Span) (test : Bool) (found : Option ℕ) → IsTile bytes tile → IsScope bytes (Layer layer) span
    → ((layer_record : LayerRecord) → IsLayer bytes span layer_record → found ≡ Some layer_record.version) → test ≡ not (option_eq (λ n m. n == m) found (Some 2))
    → IsTrue test ↔ OtherVersion tile layer
version_decides bytes tile layer span test found is scope version tests =
    let there = layer_of_scope bytes tile layer span is scope in
    let decides = test_decides test there.0.version (tests ∙ ap (λ (o : Option ℕ). not (option_eq (λ n m. n == m) o (Some 2))) (version there.0 there.2)) in (
      λ holds. record { layer_record = there.0; there = there.1; other = decides.0 holds },
      λ other. let same : there.0 ≡ other.layer_record = cc (there.1, other.there) in decides.1 (subst (λ (layer_record : LayerRecord). layer_record.version ≢ 2) (sym same) other.other),
    )

-- the numbers of the fields 15 of a layer are its version
version_ends : (bytes : List ℕ) (span : Span) (layer_record : LayerRecord) → IsLayer bytes span layer_record
    → NumbersEnd (take span.to bytes) span.from 15 (layer_record.version ∷ []) None
version_ends bytes span layer_record is =
    singular_number_ends messages.Layer 15 (field_rule 15 Uint32 Once) (take span.to bytes) span.from is.entries layer_record.version refl refl
    (λ value. leb-false (2 ^ 32) value) is.whole is.keeps is.version

pub returns-in-Some : goal.returns-in-Some
returns-in-Some c = λ tile is.
    version_decides c.args.bytes.now tile c.args.layer (as_span c.in-Some.span) c.ne.result c.number_of.result is c.in-Some.ensures.there
    (λ layer_record is_layer. c.number_of.ensures (layer_record.version ∷ []) (version_ends c.args.bytes.now (as_span c.in-Some.span) layer_record is_layer)) c.ne.ensures

pub returns-in-None : goal.returns-in-None
returns-in-None c = λ tile is.
    (λ holds. absurd (cc), λ other. let found = scope_of_layer c.args.bytes.now tile c.args.layer other.layer_record is other.there in absurd (c.in-None.ensures.none found.0 found.1))
