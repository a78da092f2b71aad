-- The numbers of the fields of a feature in the bytes: its geometry type, and its geometry.
use Rattle.std.proofs.Common.{◌≡◌, ◌↔◌, ◌<◌, ◌==◌, ℕ, Bool, IsTrue, true, false, List, [], ◌∷◌, take, Option, Some, None, refl, sym, ◌∙◌, ap, subst, arith}
use Rattle.std.proofs.lemmas.Bool.{eq-eqb, eqb-true, leb-false}
use Rattle.std.specs.Option.{option_eq}
use Rattle.mvt_plane.specs.FeatureGeometry.{HasRings}
use Rattle.mvt_plane.specs.Position.{Position}
use Rattle.mvt_wire.specs.Numbers.{NumbersEnd}
use Rattle.mvt_wire.specs.Schema.{field_rule}
use Rattle.mvt_wire.specs.Payload.{Span}
use Rattle.mvt_rules.specs.Tile.{FeatureRecord, IsFeature}
use Rattle.mvt_wire.specs.declared.schema.FieldRule.{FieldRule}
use Rattle.mvt_wire.specs.declared.schema.Message.TheVariants.{Feature}
use Rattle.mvt_wire.specs.declared.schema.Occurrence.TheVariants.{Once}
use Rattle.mvt_wire.specs.declared.schema.Shape.TheVariants.{GeometryType}
use Rattle.mvt_confirm.proofs.Wire.SingularNumbers.{TakesSmall, singular_number_ends}

-- the rule for geometry types
abbrev type_rule : FieldRule
type_rule = field_rule 3 GeometryType Once

small_type : TakesSmall type_rule
small_type value within = let below : value < 4 = leb-false 4 value within in omega arith

-- the numbers of the fields 3 of a feature are its geometry type
pub kind_ends : (bytes : List ℕ) (span : Span) (it : FeatureRecord) → IsFeature bytes span it → NumbersEnd (take span.to bytes) span.from 3 (it.kind ∷ []) None
kind_ends bytes span it is =
    singular_number_ends Feature 3 type_rule (take span.to bytes) span.from is.entries it.kind refl refl small_type is.whole is.keeps is.kind

module _ (it : FeatureRecord) (found : Option ℕ) (fits : Bool) (found_kind : found ≡ Some it.kind)
    (compared : fits ≡ option_eq (λ n m. n == m) found (Some 3)) where
  -- the test of the geometry type
  fits_is : fits ≡ (it.kind == 3)
  fits_is = compared ∙ ap (λ (o : Option ℕ). option_eq (λ n m. n == m) o (Some 3)) found_kind

  -- of the type of polygons, the feature draws rings where its geometry does
  pub draws_if_fit : (test : Bool) → fits ≡ true → IsTrue test ↔ ((rings : List (List Position)) × HasRings 3 it.geometry rings)
      → IsTrue test ↔ ((rings : List (List Position)) × HasRings it.kind it.geometry rings)
  draws_if_fit test fit decides =
      let same : it.kind ≡ 3 = eqb-true it.kind 3 (sym fits_is ∙ fit) in
      subst (λ (kind : ℕ). IsTrue test ↔ ((rings : List (List Position)) × HasRings kind it.geometry rings)) (sym same) decides

  -- of another type, it draws none
  pub draws_none : fits ≡ false → IsTrue fits ↔ ((rings : List (List Position)) × HasRings it.kind it.geometry rings)
  draws_none other = (
    λ holds. absurd (cc),
    λ drawn. fits_is ∙ eq-eqb it.kind 3 drawn.1.typed,
  )
