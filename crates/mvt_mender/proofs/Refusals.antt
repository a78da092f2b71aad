-- The fault for which a tile is refused.
use Rattle.std.proofs.Common.{◌≡◌, ℕ, ◌<◌, inl, inr, List, length, slice_get, Some, sym, ◌∙◌, ap, subst, arith}
use Rattle.std.proofs.lemmas.Bool.{cases_order}
use Rattle.std.proofs.lemmas.Option.{same_Some, slice_get_within}
use Rattle.mvt_fault.proofs.Places.{ComesFirst-transitive}
use Rattle.mvt_fault.specs.Place.{ComesFirst, IsLeast, place_of}
use Rattle.mvt_fault.specs.declared.fault.Fault.{Fault}
use Rattle.mvt_fault.specs.declared.profile.Profile.{Profile}
use Rattle.mvt_gate.specs.FaultList.{AreFaultsFor, of_feature, subject_of}
use Rattle.mvt_gate.specs.declared.quick.Search.TheVariants.{Least}
use Rattle.mvt_plane.specs.Commands.Figure.{polygon}
use Rattle.mvt_plane.specs.FeatureGeometry.{type_number}
use Rattle.mvt_tile.proofs.RuleFaults.FreeFaults.{first_by_taken}
use Rattle.mvt_tile.specs.FeatureBytes.{Encodes}
use Rattle.mvt_tile.specs.declared.feature_bytes.FeatureBytes.{FeatureBytes}
use Rattle.mvt_rules.specs.Tile.{FeatureRecord}
use Rattle.mvt_mender.proofs.Lists.{present, within_or_end}
use Rattle.mvt_mender.proofs.MendableFaults.{all_of_feature, is_mendable, kind_is_polygon, may_be}
use Rattle.mvt_mender.specs.Calls.Features.{AreAllFound, AreOfPolygons, ArePlacesOf, IsFirstOther}
use Rattle.mvt_mender.specs.Mendable.{AreAllMendable, IsMendable, IsOther}
use Rattle.mvt_mender.specs.declared.place.FeaturePlace.{FeaturePlace}

module _ (profile : Profile) (bytes : List ℕ) (faults : List Fault) (list : AreFaultsFor Least profile bytes faults) where
  -- where each fault of the list is mended, all that are true are
  pub all_mendable : ((at : ℕ) (fault : Fault) → slice_get faults at ≡ Some fault → IsMendable bytes fault) → AreAllMendable profile bytes
  all_mendable each fault shown =
      let (at, first, there, same) = list.every fault shown in
      all_of_feature profile bytes first fault (list.each at first there) (each at first there) shown (sym same)

  -- the first that isn't is the least of all that aren't
  pub least_other : (at : ℕ) (fault : Fault) → slice_get faults at ≡ Some fault → ¬ IsMendable bytes fault
      → ((earlier : ℕ) (it : Fault) → earlier < at → slice_get faults earlier ≡ Some it → IsMendable bytes it) → IsLeast (IsOther profile bytes) fault
  least_other at fault there other before = record {
    holds = record { shown = let its = list.each at fault there in its.holds; other = other };
    least = λ it is.
        let (place, first, here, same) = list.every it is.shown in
        let its = list.each place first here in
        let after : ComesFirst (place_of first) (place_of it) = its.least it is.shown (sym same) in
        elim (cases_order place at) [
          | inl alike ↦
              let one : first ≡ fault = same_Some first fault (sym here ∙ ap (slice_get faults) alike ∙ there) in
              subst (λ (f : Fault). ComesFirst (place_of f) (place_of it)) one after
          | inr (inl less) ↦ absurd (is.other (all_of_feature profile bytes first it its (before place first less here) is.shown (sym same)))
          | inr (inr more) ↦
              let order = list.in_order at place fault first more there here in
              ComesFirst-transitive (place_of fault) (place_of first) (place_of it) (first_by_taken 3 (place_of fault) (place_of first) order.first order.differ) after
        ];
  }

  module _ (places : List FeaturePlace) (of : ArePlacesOf faults places) where
    -- the first fault isn't mended where no place was found
    pub none_is_least : (fault : Fault) → length places ≡ 0 → slice_get faults 0 ≡ Some fault → IsLeast (IsOther profile bytes) fault
    none_is_least fault none there =
        least_other 0 fault there
        (λ mendable. of.stop fault (ap (slice_get faults) none ∙ there) (may_be bytes fault mendable))
        (λ earlier it less here. absurd (omega arith))

    module _ (features : List FeatureBytes) (found : AreAllFound bytes places features) where
      -- a fault of a feature of polygons is mended
      pub of_polygons_mendable : (at : ℕ) (fault : Fault) (it : FeatureBytes) → slice_get faults at ≡ Some fault → slice_get features at ≡ Some it
          → ((feature_record : FeatureRecord) → Encodes it feature_record → feature_record.kind ≡ type_number polygon) → IsMendable bytes fault
      of_polygons_mendable at fault it there here kind =
          let (place, its, stands) = found.each at it here in
          let (other, also, may, is) = of.each at place its in
          let one : other ≡ fault = same_Some other fault (sym also ∙ there) in
          subst (IsMendable bytes) one
          (is_mendable bytes place.layer place.feature other may is (stands.layer_record, stands.feature_record, stands.there, kind stands.feature_record stands.encodes))

      -- one of another feature isn't
      other_kind : (at : ℕ) (fault : Fault) (it : FeatureBytes) → slice_get faults at ≡ Some fault → slice_get features at ≡ Some it
          → ((feature_record : FeatureRecord) → Encodes it feature_record → ¬ (feature_record.kind ≡ type_number polygon)) → ¬ IsMendable bytes fault
      other_kind at fault it there here kind mendable =
          let (place, its, stands) = found.each at it here in
          let (other, also, may, is) = of.each at place its in
          let one : other ≡ fault = same_Some other fault (sym also ∙ there) in
          let first = list.each at fault there in
          kind stands.feature_record stands.encodes
          (kind_is_polygon profile bytes place.layer place.feature stands.layer_record stands.feature_record stands.there fault first.holds (subst (λ (f : Fault). subject_of f ≡ of_feature place.layer place.feature) one is) mendable)

      -- so the first of another kind, or the first after all of them, is the least
      pub first_is_least : (fault : Fault) → IsFirstOther faults features fault → IsLeast (IsOther profile bytes) fault
      first_is_least fault first =
          least_other first.at fault first.here not_it
          (λ earlier it less there.
          let (feature, here) = present features earlier (omega (arith, first.within)) in
          of_polygons_mendable earlier it feature there here (λ feature_record encodes. first.before earlier feature feature_record less here encodes))
        where
          not_it : ¬ IsMendable bytes fault
          not_it = elim (within_or_end features first.at first.within) [
            | inl (it, here) ↦ other_kind first.at fault it first.here here (λ feature_record encodes. first.other it feature_record here encodes)
            | inr at_end ↦ λ mendable.
                let end : length places ≡ first.at = omega (arith, found.count) in
                of.stop fault (ap (slice_get faults) end ∙ first.here) (may_be bytes fault mendable)
          ]

      -- where all are of polygons and there are no more faults, all are mended
      pub each_mendable : AreOfPolygons features → length faults ≡ length features → (at : ℕ) (fault : Fault) → slice_get faults at ≡ Some fault → IsMendable bytes fault
      each_mendable polygons same at fault there =
          let within = slice_get_within faults at fault there in
          let (it, here) = present features at (omega arith) in
          of_polygons_mendable at fault it there here (λ feature_record encodes. polygons at it feature_record here encodes)
