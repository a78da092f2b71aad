-- Where the features are that the first faults of a tile are of.
use Rattle.std.proofs.Common.{◌≡◌, ◌≢◌, ℕ, ◌<◌, ◌⊎◌, inl, inr, List, ◌∷◌, slice_get, Some, sym, ◌∙◌, ap, subst, arith}
use Rattle.mvt_fault.specs.Place.{ComesFirst, place_of}
use Rattle.mvt_fault.specs.declared.fault.Fault.{Fault}
use Rattle.mvt_fault.specs.declared.profile.Profile.{Profile}
use Rattle.mvt_gate.proofs.FaultListLaws.{one_of_each}
use Rattle.mvt_gate.specs.FaultList.{of_feature, subject_of, AreFaultsFor}
use Rattle.mvt_gate.specs.declared.quick.Search.TheVariants.{Least}
use Rattle.mvt_tile.proofs.RuleFaults.FreeFaults.{first_by_taken}
use Rattle.mvt_rules.specs.Tile.{TileRecord, IsTile}
use Rattle.mvt_mender.proofs.MendableFaults.{later_than_tags, of_one}
use Rattle.mvt_mender.specs.Calls.Features.{ArePlacesOf, AreInTurn, HaveFeatures, IsOfPlace, IsInFront, MayBeMended}
use Rattle.mvt_mender.specs.declared.place.FeaturePlace.{FeaturePlace}

-- of two places of faults of features, the first is of an earlier feature or of the same
in_order : (layer feature its other : ℕ) (rest more : List ℕ) → ComesFirst (2 ∷ layer ∷ feature ∷ rest) (2 ∷ its ∷ other ∷ more)
    → ((layer < its) ⊎ ((layer ≡ its) × (feature < other))) ⊎ ((layer ≡ its) × (feature ≡ other))
in_order layer feature its other rest more (inl less) = absurd (omega arith)
in_order layer feature its other rest more (inr (same, inl less)) = inl (inl less)
in_order layer feature its other rest more (inr (same, inr (again, inl less))) = inl (inr (again, less))
in_order layer feature its other rest more (inr (same, inr (again, inr (third, last)))) = inr (again, third)

-- so are faults that may be mended
in_front : (place other : FeaturePlace) (fault another : Fault) → MayBeMended fault → MayBeMended another → IsOfPlace place fault → IsOfPlace other another → ComesFirst (place_of fault) (place_of another)
    → subject_of fault ≢ subject_of another → IsInFront place other.layer other.feature
in_front place other fault another may its is also first differ =
    let one = later_than_tags fault may in
    let two = later_than_tags another its in
    let layer : one.layer ≡ place.layer = cc (one.its, is) in
    let feature : one.feature ≡ place.feature = cc (one.its, is) in
    let its_layer : two.layer ≡ other.layer = cc (two.its, also) in
    let its_feature : two.feature ≡ other.feature = cc (two.its, also) in
    let (part, rest, least, here) = one.after in
    let (its_part, its_rest, its_least, there) = two.after in
    let spelled : ComesFirst (2 ∷ one.layer ∷ one.feature ∷ part ∷ rest) (2 ∷ two.layer ∷ two.feature ∷ its_part ∷ its_rest) = subst (λ (list : List ℕ). ComesFirst list (2 ∷ two.layer ∷ two.feature ∷ its_part ∷ its_rest)) here
    (subst (λ (list : List ℕ). ComesFirst (place_of fault) list) there first) in
    elim (in_order one.layer one.feature two.layer two.feature (part ∷ rest) (its_part ∷ its_rest) spelled) [
      | inl (inl less) ↦ inl (omega arith)
      | inl (inr (same, less)) ↦ inr (omega arith, omega arith)
      | inr (same, again) ↦ absurd (differ (one.its ∙ ap (λ (n : ℕ). of_feature n one.feature) same ∙ ap (λ (n : ℕ). of_feature two.layer n) again ∙ sym two.its))
    ]

module _ (profile : Profile) (bytes : List ℕ) (faults : List Fault) (list : AreFaultsFor Least profile bytes faults) (places : List FeaturePlace) (of : ArePlacesOf faults places) where
  -- so the places are in turn
  pub in_turn : AreInTurn places
  in_turn at later place other less here there =
      let (fault, its, may, is) = of.each at place here in
      let (another, its_too, may_too, is_too) = of.each later other there in
      let order = list.in_order at later fault another less its its_too in
      in_front place other fault another may may_too is is_too (first_by_taken 3 (place_of fault) (place_of another) order.first order.differ)
      (λ same. let one : at ≡ later = one_of_each Least profile bytes faults list at later fault another its its_too same in absurd (omega arith))

  -- at each is a feature
  pub have_features : HaveFeatures bytes places
  have_features at place here =
      let (fault, its, may, is) = of.each at place here in
      let first = list.each at fault its in
      let own = of_one profile bytes place.layer place.feature fault first.holds is in
      (own.layer_record, own.feature_record, own.there)

  -- so the bytes are a tile
  pub is_tile : (place : FeaturePlace) → slice_get places 0 ≡ Some place → (tile : TileRecord) × IsTile bytes tile
  is_tile place here = let (layer_record, feature_record, there) = have_features 0 place here in (there.tile, there.is)
