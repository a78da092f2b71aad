-- The changes to the features of a tile that have faults.
use Rattle.std.proofs.Common.{◌≡◌, ℕ, ◌+◌, ◌<◌, inl, inr, Bool, List, [], ◌∷◌, ◌++◌, length, slice_get, get_or, Option, Some, Vec, sym, ◌∙◌, ap, subst, arith, length-append}
use Rattle.std.proofs.lemmas.Bool.{cases_lt}
use Rattle.std.proofs.lemmas.Option.{same_Some, slice_get-get_or, slice_get_within}
use Rattle.std.specs.declared.alloc.Global.{Global}
use Rattle.mvt_rules.specs.Shows.{IsFeatureIn}
use Rattle.mvt_fault.specs.declared.fault.Fault.{Fault}
use Rattle.mvt_fault.specs.declared.profile.Profile.{Profile}
use Rattle.mvt_gate.specs.FaultList.{AreFaultsFor, of_feature}
use Rattle.mvt_gate.specs.declared.quick.Search.TheVariants.{Least}
use Rattle.mvt_plane.specs.Commands.Figure.{polygon}
use Rattle.mvt_plane.specs.FeatureGeometry.{type_number}
use Rattle.mvt_splice.specs.Splice.{AreChangesInOrder, IsBefore}
use Rattle.mvt_splice.specs.declared.change.Change.{Change}
use Rattle.mvt_tile.specs.FeatureBytes.{Encodes}
use Rattle.mvt_tile.specs.declared.feature_bytes.FeatureBytes.{FeatureBytes}
use Rattle.mvt_wire.proofs.Encoding.Payloads.{slice_get-last}
use Rattle.mvt_wire.proofs.Parts.EmbeddedSpans.{slice_get-some}
use Rattle.mvt_rules.specs.Tile.{Each, FeatureRecord}
use Rattle.mvt_mender.proofs.Lists.{each_by_number, present}
use Rattle.mvt_mender.specs.Calls.Features.{AreAllFound, AreInTurn, AreOfPolygons, ArePlacesOf, IsInFront, StandsAt}
use Rattle.mvt_mender.specs.Calls.Steps.{AreMade, IsMadeAt, IsMadeOf}
use Rattle.mvt_mender.specs.Changed.{IsChangedTo, IsChangeOf}
use Rattle.mvt_mender.specs.declared.mending.FeatureChange.{FeatureChange}
use Rattle.mvt_mender.specs.declared.mending.WhatChanged.{WhatChanged}
use Rattle.mvt_mender.specs.declared.mending.WhatChanged.TheVariants.{Mended, Dropped}
use Rattle.mvt_mender.specs.declared.place.FeaturePlace.{FeaturePlace}

-- what became of a feature's bytes became of its record
changed_from : (profile : Profile) (drop : Bool) (feature : FeatureBytes) (it : FeatureRecord) (what : WhatChanged) (geometry : Option (Vec ℕ Global)) → Encodes feature it → it.kind ≡ type_number polygon
    → IsMadeOf profile drop feature what geometry → IsChangedTo profile drop it what geometry
changed_from profile drop feature it (Mended mended) geometry encodes kind (numbers, is, made) = (kind, (numbers, is, made it encodes))
changed_from profile drop feature it Dropped geometry encodes kind made = made

module _ (profile : Profile) (drop : Bool) (bytes : List ℕ) (places : List FeaturePlace) (features : List FeatureBytes) (found : AreAllFound bytes places features)
    (told : List FeatureChange) (made : List Change) (all : AreMade profile drop places features (length features) told made) where
  -- a change, and the feature that it is about
  pub record MadeHere (at : ℕ) (change : Change) : Type 0 where
    pub place : FeaturePlace
    pub here : slice_get places at ≡ Some place
    pub feature : FeatureBytes
    pub there : slice_get features at ≡ Some feature
    pub one : FeatureChange
    pub told_here : slice_get told at ≡ Some one
    pub is : IsMadeAt profile drop place feature one change
    pub stands : StandsAt bytes place feature

  pub made_here : (at : ℕ) (change : Change) → slice_get made at ≡ Some change → MadeHere at change
  made_here at change given =
      let within = slice_get_within made at change given in
      let few : at < length features = omega (arith, all.made_count) in
      let (feature, there) = present features at few in
      let (place, here, stands) = found.each at feature there in
      let (one, other, told_there, made_there, its) = all.each at place feature few here there in
      let same : other ≡ change = same_Some other change (sym made_there ∙ given) in
      record {
        place = place;
        here = here;
        feature = feature;
        there = there;
        one = one;
        told_here = told_there;
        is = subst (IsMadeAt profile drop place feature one) same its;
        stands = stands;
      }

  -- they are in the order of their features
  pub made_in_order : AreInTurn places → AreChangesInOrder made
  made_in_order in_turn i j d less within =
      let first = get_or made i d in
      let second = get_or made j d in
      let one = made_here i first (slice_get-get_or made i d (omega arith)) in
      let two = made_here j second (slice_get-get_or made j d within) in
      before first second one.place two.place one.is.layer one.is.ordinal two.is.layer two.is.ordinal (in_turn i j one.place two.place less one.here two.here)
    where
      before : (first second : Change) (place other : FeaturePlace) → first.layer ≡ place.layer → first.feature ≡ place.feature → second.layer ≡ other.layer → second.feature ≡ other.feature
          → IsInFront place other.layer other.feature → IsBefore first second.layer second.feature
      before first second place other layer feature its_layer its_feature (inl less) = inl (omega arith)
      before first second place other layer feature its_layer its_feature (inr (same, less)) = inr (omega arith, omega arith)

  module _ (faults : List Fault) (list : AreFaultsFor Least profile bytes faults) (of : ArePlacesOf faults places) (polygons : AreOfPolygons features) where
    -- each is what is told of it
    change_told : (at : ℕ) (one : FeatureChange) (change : Change) → slice_get told at ≡ Some one → slice_get made at ≡ Some change → IsChangeOf profile drop bytes one change
    change_told at one change told_there made_there =
        let its = made_here at change made_there in
        let same : its.one ≡ one = same_Some its.one one (sym its.told_here ∙ told_there) in
        let is : IsMadeAt profile drop its.place its.feature one change = subst (λ (it : FeatureChange). IsMadeAt profile drop its.place its.feature it change) same its.is in
        let (fault, shown, may, at_place) = of.each at its.place its.here in
        let first = list.each at fault shown in
        let stands = its.stands in
        record {
          layer = is.layer ∙ sym is.told_layer;
          feature = is.ordinal ∙ sym is.told_feature;
          fault = fault;
          shown = first.holds;
          its = at_place ∙ ap (λ (n : ℕ). of_feature n its.place.feature) (sym is.told_layer) ∙ ap (λ (n : ℕ). of_feature one.layer n) (sym is.told_feature);
          layer_record = stands.layer_record;
          feature_record = stands.feature_record;
          there = subst (λ (n : ℕ). IsFeatureIn bytes one.layer n stands.layer_record stands.feature_record) (sym is.told_feature)
              (subst (λ (n : ℕ). IsFeatureIn bytes n its.place.feature stands.layer_record stands.feature_record) (sym is.told_layer) stands.there);
          changed = changed_from profile drop its.feature stands.feature_record one.what change.geometry stands.encodes (polygons at its.feature stands.feature_record its.there stands.encodes) is.made;
        }

    pub each_told : Each (IsChangeOf profile drop bytes) told made
    each_told = each_by_number (IsChangeOf profile drop bytes) told made (all.told_count ∙ sym all.made_count) change_told

-- there is a change for one more feature
pub made_more : (profile : Profile) (drop : Bool) (places : List FeaturePlace) (features : List FeatureBytes) (at : ℕ) (told longer_told : List FeatureChange) (made longer_made : List Change) (one : FeatureChange) (change : Change) (place : FeaturePlace) (feature : FeatureBytes)
    → AreMade profile drop places features at told made → IsMadeAt profile drop place feature one change → slice_get places at ≡ Some place → slice_get features at ≡ Some feature
    → longer_told ≡ told ++ one ∷ [] → longer_made ≡ made ++ change ∷ [] → AreMade profile drop places features (at + 1) longer_told longer_made
made_more profile drop places features at told longer_told made longer_made one change place feature so_far is here there more_told more_made = record {
  told_count = ap length more_told ∙ length-append told (one ∷ []) ∙ ap (λ (n : ℕ). n + 1) so_far.told_count;
  made_count = ap length more_made ∙ length-append made (change ∷ []) ∙ ap (λ (n : ℕ). n + 1) so_far.made_count;
  each = each;
}
  where
    each : (k : ℕ) (its_place : FeaturePlace) (its : FeatureBytes) → k < at + 1 → slice_get places k ≡ Some its_place → slice_get features k ≡ Some its
        → (it : FeatureChange) × (its_change : Change) × (slice_get longer_told k ≡ Some it) × (slice_get longer_made k ≡ Some its_change) × IsMadeAt profile drop its_place its it its_change
    each k its_place its less its_here its_there = elim (cases_lt k at) [
      | inl before ↦
          let (it, its_change, in_told, in_made, made_so) = so_far.each k its_place its before its_here its_there in (
            it,
            its_change,
            ap (λ (l : List FeatureChange). slice_get l k) more_told ∙ slice_get-some told (one ∷ []) k it in_told,
            ap (λ (l : List Change). slice_get l k) more_made ∙ slice_get-some made (change ∷ []) k its_change in_made,
            made_so,
          )
      | inr after ↦
          let same : k ≡ at = omega arith in
          let one_place : place ≡ its_place = same_Some place its_place (sym here ∙ ap (slice_get places) (sym same) ∙ its_here) in
          let one_feature : feature ≡ its = same_Some feature its (sym there ∙ ap (slice_get features) (sym same) ∙ its_there) in (
            one,
            change,
            ap (λ (l : List FeatureChange). slice_get l k) more_told ∙ ap (slice_get (told ++ one ∷ [])) (same ∙ sym so_far.told_count) ∙ slice_get-last told one,
            ap (λ (l : List Change). slice_get l k) more_made ∙ ap (slice_get (made ++ change ∷ [])) (same ∙ sym so_far.made_count) ∙ slice_get-last made change,
            subst (λ (f : FeatureBytes). IsMadeAt profile drop its_place f one change) one_feature (subst (λ (p : FeaturePlace). IsMadeAt profile drop p feature one change) one_place is),
          )
    ]
