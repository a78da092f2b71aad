-- After the changes each feature is valid.
use Rattle.std.proofs.Common.{◌≡◌, ℕ, ◌<◌, Bool, inl, inr, List, length, Option, Vec, sym, ◌∙◌, ap, subst, arith}
use Rattle.std.proofs.lemmas.Option.{same_Some, slice_get_within}
use Rattle.std.specs.declared.alloc.Global.{Global}
use Rattle.mvt_rules.proofs.Validity.TileFeatures.{one_feature}
use Rattle.mvt_rules.specs.Shows.{IsFeatureIn, ShowsBy}
use Rattle.mvt_fault.specs.declared.fault.Fault.{Fault}
use Rattle.mvt_fault.specs.declared.fault.Fault.TheVariants.{Wire, Version, Name, Tag, Command, Ring, Meeting, Outside, HoleInHole, InPolygon}
use Rattle.mvt_fault.specs.declared.profile.Profile.{Profile}
use Rattle.mvt_gate.specs.FaultList.{AreFaultsFor, of_feature, subject_of}
use Rattle.mvt_gate.specs.declared.quick.Search.TheVariants.{Least}
use Rattle.mvt_plane.specs.Commands.Figure.{polygon}
use Rattle.mvt_plane.specs.FeatureGeometry.{type_number}
use Rattle.mvt_splice.proofs.SplicedTiles.ValidFeatures.{rings_are_valid_after, unnamed_is_valid}
use Rattle.mvt_splice.specs.FeatureFaults.{IsOfFeature, AreRightTags}
use Rattle.mvt_splice.specs.Splice.{Fate, fate_in, fate_of}
use Rattle.mvt_splice.specs.SplicedTile.{IsValidAfter, IsValidOnceSpliced}
use Rattle.mvt_splice.specs.declared.change.Change.{Change}
use Rattle.mvt_tile.specs.FeatureBytes.{Encodes}
use Rattle.mvt_tile.specs.declared.feature_bytes.FeatureBytes.{FeatureBytes}
use Rattle.mvt_rules.specs.Rules.{IsFeatureOf}
use Rattle.mvt_rules.specs.Tile.{FeatureRecord, LayerRecord, TileRecord, IsTile}
use Rattle.mvt_mender.proofs.Fates.{HasChange, HasNone, change_or_none}
use Rattle.mvt_mender.proofs.Lists.{present}
use Rattle.mvt_mender.proofs.MadeChanges.{made_here}
use Rattle.mvt_mender.specs.Calls.Features.{AreAllFound, AreOfPolygons, ArePlacesOf}
use Rattle.mvt_mender.specs.Calls.Steps.{AreMade, IsMadeOf}
use Rattle.mvt_mender.specs.Mendable.{AreAllMendable}
use Rattle.mvt_mender.specs.declared.mending.FeatureChange.{FeatureChange}
use Rattle.mvt_mender.specs.declared.mending.WhatChanged.{WhatChanged}
use Rattle.mvt_mender.specs.declared.mending.WhatChanged.TheVariants.{Mended, Dropped}
use Rattle.mvt_mender.specs.declared.place.FeaturePlace.{FeaturePlace}

-- a fault that names a feature is of it
named_subject : (layer feature : ℕ) (fault : Fault) → IsOfFeature layer feature fault → subject_of fault ≡ of_feature layer feature
named_subject layer feature (Wire code scope at field) named = absurd named
named_subject layer feature (Version its) named = absurd named
named_subject layer feature (Name first second) named = absurd named
named_subject layer feature (Tag code its other index) named = let one = named.0 in let another = named.1 in cc
named_subject layer feature (Command code its other index) named = let one = named.0 in let another = named.1 in cc
named_subject layer feature (Ring code its other ring) named = let one = named.0 in let another = named.1 in cc
named_subject layer feature (Meeting its other number first second x y w) named = let one = named.0 in let another = named.1 in cc
named_subject layer feature (Outside its other number ring vertex) named = let one = named.0 in let another = named.1 in cc
named_subject layer feature (HoleInHole its other number ring vertex hole) named = let one = named.0 in let another = named.1 in cc
named_subject layer feature (InPolygon its other number vertex another) named = let one = named.0 in let another = named.1 in cc

-- what is left of a feature is valid, by what became of it
made_right : (profile : Profile) (drop : Bool) (layer_record : LayerRecord) (it : FeatureRecord) (feature : FeatureBytes) (what : WhatChanged) (geometry : Option (Vec ℕ Global)) → AreRightTags layer_record it
    → it.kind ≡ type_number polygon → Encodes feature it → IsMadeOf profile drop feature what geometry → IsValidAfter profile (fate_of geometry) layer_record it
made_right profile drop layer_record it feature (Mended mended) geometry tags kind encodes (numbers, is, made) =
    let new = made it encodes in
    subst (λ (g : Option (Vec ℕ Global)). IsValidAfter profile (fate_of g) layer_record it) (sym is)
    (rings_are_valid_after profile layer_record it numbers.items new.new_rings tags kind new.spelled new.valid)
made_right profile drop layer_record it feature Dropped geometry tags kind encodes (asked, is) =
    subst (λ (g : Option (Vec ℕ Global)). IsValidAfter profile (fate_of g) layer_record it) (sym is) tt

module _ (profile : Profile) (drop : Bool) (bytes : List ℕ) (faults : List Fault) (list : AreFaultsFor Least profile bytes faults) (places : List FeaturePlace) (of : ArePlacesOf faults places)
    (features : List FeatureBytes) (found : AreAllFound bytes places features) (polygons : AreOfPolygons features) (complete : length faults ≡ length features) (mendable : AreAllMendable profile bytes)
    (told : List FeatureChange) (made : List Change) (all : AreMade profile drop places features (length features) told made) (tile : TileRecord) (is : IsTile bytes tile) where
  module _ (layer feature : ℕ) (layer_record : LayerRecord) (it : FeatureRecord) (there : IsFeatureOf tile layer feature layer_record it) where
    in_bytes : IsFeatureIn bytes layer feature layer_record it
    in_bytes = record { tile = tile; is = is; there = there }

    -- no fault of its tags is true, since none would be mended
    good_tags : AreRightTags layer_record it
    good_tags code index broken = mendable (Tag code layer feature index) (layer_record, it, in_bytes, broken)

    -- no fault that is true names a feature with no change
    unnamed : HasNone made layer feature → (fault : Fault) → ShowsBy profile bytes fault → ¬ IsOfFeature layer feature fault
    unnamed none fault shown named =
        let subject = named_subject layer feature fault named in
        let (at, first, here, same) = list.every fault shown in
        let within = slice_get_within faults at first here in
        let few : at < length made = omega (arith, all.made_count) in
        let (change, its) = present made at few in
        let one = made_here profile drop bytes places features found told made all at change its in
        let (other, also, may, at_place) = of.each at one.place one.here in
        let alike : other ≡ first = same_Some other first (sym also ∙ here) in
        let its_subject : subject_of other ≡ of_feature layer feature = ap subject_of alike ∙ same ∙ subject in
        let in_layer : one.place.layer ≡ layer = cc (at_place, its_subject) in
        let ordinal : one.place.feature ≡ feature = cc (at_place, its_subject) in
        none.none at change its (one.is.layer ∙ in_layer) (one.is.ordinal ∙ ordinal)

    changed : (one : HasChange made layer feature) → IsValidAfter profile (fate_of one.change.geometry) layer_record it
    changed one =
        let its = made_here profile drop bytes places features found told made all one.at one.change one.here in
        let in_layer : its.place.layer ≡ layer = sym its.is.layer ∙ one.in_layer in
        let ordinal : its.place.feature ≡ feature = sym its.is.ordinal ∙ one.ordinal in
        let stands = its.stands in
        let moved : IsFeatureIn bytes layer feature stands.layer_record stands.feature_record = subst (λ (n : ℕ). IsFeatureIn bytes layer n stands.layer_record stands.feature_record) ordinal
        (subst (λ (n : ℕ). IsFeatureIn bytes n its.place.feature stands.layer_record stands.feature_record) in_layer stands.there) in
        let same = one_feature bytes layer feature stands.layer_record layer_record stands.feature_record it moved in_bytes in
        let encodes : Encodes its.feature it = subst (Encodes its.feature) same.1 stands.encodes in
        made_right profile drop layer_record it its.feature its.one.what one.change.geometry good_tags (polygons one.at its.feature it its.there encodes) encodes its.is.made

    -- so what is left of each feature is valid
    right : IsValidAfter profile (fate_in made layer feature) layer_record it
    right = elim (change_or_none made layer feature) [
      | inl one ↦ subst (λ (fate : Fate). IsValidAfter profile fate layer_record it) (sym one.fate) (changed one)
      | inr none ↦ subst (λ (fate : Fate). IsValidAfter profile fate layer_record it) (sym none.fate) (unnamed_is_valid profile bytes layer feature layer_record it in_bytes (unnamed none))
    ]

  -- no rule between the layers is broken, since that wouldn't be mended
  pub valid_once_spliced : IsValidOnceSpliced profile (fate_in made) tile
  valid_once_spliced = record {
    versions = λ layer other. mendable (Version layer) (tile, is, other);
    names = λ first second same. mendable (Name first second) (tile, is, same);
    features = right;
  }
