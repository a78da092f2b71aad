-- The places of the features of faults, found one after another.
use Rattle.std.proofs.Common.{◌≡◌, ℕ, ◌+◌, ◌<◌, ◌≤◌, inl, inr, List, [], ◌∷◌, ◌++◌, length, slice_get, Some, sym, ◌∙◌, ap, subst, arith, length-append}
use Rattle.std.proofs.lemmas.Option.{slice_get_within}
use Rattle.mvt_fault.specs.declared.fault.Fault.{Fault}
use Rattle.mvt_wire.proofs.Parts.EmbeddedSpans.{slice_get-push}
use Rattle.mvt_mender.specs.Calls.Features.{ArePlacesOf, IsOfPlace, MayBeMended}
use Rattle.mvt_mender.specs.declared.place.FeaturePlace.{FeaturePlace}

-- each of the first faults has its place
pub record ArePlacesTo (faults : List Fault) (count : ℕ) (places : List FeaturePlace) : Type 0 where
  pub size : length places ≡ count
  pub within : count ≤ length faults
  pub each : (at : ℕ) (place : FeaturePlace) → slice_get places at ≡ Some place → (fault : Fault) × (slice_get faults at ≡ Some fault) × MayBeMended fault × IsOfPlace place fault

-- one more has
pub places_more : (faults : List Fault) (count : ℕ) (places longer : List FeaturePlace) (fault : Fault) (place : FeaturePlace) → ArePlacesTo faults count places → count < length faults
    → slice_get faults count ≡ Some fault → MayBeMended fault → IsOfPlace place fault → longer ≡ places ++ place ∷ [] → ArePlacesTo faults (count + 1) longer
places_more faults count places longer fault place so_far less here may at_place more = subst (ArePlacesTo faults (count + 1)) (sym more) (record {
  size = length-append places (place ∷ []) ∙ ap (λ (n : ℕ). n + 1) so_far.size;
  within = omega arith;
  each = λ at it there. elim (slice_get-push places place at it there) [
    | inl before ↦ so_far.each at it before
    | inr (last, same) ↦ (fault, ap (slice_get faults) (last ∙ so_far.size) ∙ here, may, subst (λ (p : FeaturePlace). IsOfPlace p fault) (sym same) at_place)
  ];
})

-- there are no more faults
pub places_all : (faults : List Fault) (count : ℕ) (places : List FeaturePlace) → ArePlacesTo faults count places → length faults ≤ count → ArePlacesOf faults places
places_all faults count places so_far over = record {
  few = omega (arith, so_far.size, so_far.within);
  each = so_far.each;
  stop = λ it there. absurd (omega (arith, slice_get_within faults (length places) it there, so_far.size));
}
