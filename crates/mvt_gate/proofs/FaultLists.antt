-- The list of a tile's faults, by the faults that its rules find.
use Rattle.std.proofs.Common.{◌≡◌, ◌↔◌, ◌⊎◌, inl, inr, ℕ, zero, suc, List, [], ◌∷◌, Some, slice_get, refl, sym, ◌∙◌, subst, arith}
use Rattle.std.proofs.lemmas.Option.{same_Some, none-some}
use Rattle.mvt_rules.proofs.Validity.TileFeatures.{one_feature_of}
use Rattle.mvt_rules.proofs.Validity.ShownParts.{shown_by_parts}
use Rattle.mvt_rules.proofs.Validity.TrueFaults.{no_fault_of_tile}
use Rattle.mvt_rules.specs.Parts.Geometry.{IsFaultOfGeometryBy}
use Rattle.mvt_rules.specs.Shows.{OfTile, ShowsBy}
use Rattle.mvt_rules.specs.Valid.{IsValidGeometryBy}
use Rattle.mvt_fault.specs.Place.{IsLeast}
use Rattle.mvt_rules.specs.Parts.TrueFaults.{IsWireFault}
use Rattle.mvt_fault.specs.declared.fault.Fault.{Fault}
use Rattle.mvt_fault.specs.declared.profile.Profile.{Profile}
use Rattle.mvt_tile.specs.FirstFaults.{AreFirstFaults, AreFaultsInOrder, IsFaultOfLayer, IsFirstOfPart, of_feature as first_of_feature, of_layer as first_of_layer, OneOf}
use Rattle.mvt_tile.proofs.RuleFaults.FreeFaults.{least_or_holds}
use Rattle.mvt_tile.specs.FreeFaults.{of_least, of_free}
use Rattle.mvt_tile.specs.RuleFaults.{Breaks, BreaksAnyRule, Frees, IsFaultOfFeature}
use Rattle.mvt_rules.proofs.Tiles.Tiles.{one_tile}
use Rattle.mvt_rules.specs.Rules.{IsFeatureOf}
use Rattle.mvt_rules.specs.Tile.{FeatureRecord, LayerRecord, TileRecord, IsTile}
use Rattle.mvt_gate.proofs.FaultSubjects.{AreOfTheirFeature, layer_or_feature, subject_of_feature, subject_of_geometry, subject_of_layer, subject_of_wire}
use Rattle.mvt_gate.proofs.Verdicts.{first_of_wire}
use Rattle.mvt_gate.specs.Calls.Faults.{AreFoundBy}
use Rattle.mvt_gate.specs.FaultList.{Subject, of_layer, of_feature, subject_of, IsFirstOfItsSubject, IsListedFor, AreFaultsFor}
use Rattle.mvt_gate.specs.Quick.{IsFreeFor}
use Rattle.mvt_gate.specs.declared.quick.Search.{Search}
use Rattle.mvt_gate.specs.declared.quick.Search.TheVariants.{Least, Quick}

-- the list has a fault with this subject
abbrev HasOneOf : List Fault → Subject → Type 0
HasOneOf faults subject = OneOf faults (λ first. subject_of first ≡ subject)

-- Of bytes whose shown faults are their wire faults and, where they are a tile, those of the rules between its parts and of a
-- further one on its features
module _ (bytes : List ℕ) (Shown : Fault → Type 0) (IsBroken : Breaks) (theirs : AreOfTheirFeature IsBroken)
    (by_parts : (fault : Fault) → Shown fault ↔ (IsWireFault bytes fault ⊎ OfTile bytes (λ tile. BreaksAnyRule IsBroken tile fault))) where
  -- the first wire fault is the first of all
  pub first_of_bytes : (fault : Fault) → IsLeast (IsWireFault bytes) fault → IsFirstOfItsSubject Shown fault
  first_of_bytes fault least =
      let all = first_of_wire bytes Shown IsBroken by_parts fault least in
      record { holds = all.holds; least = λ other shown same. all.least other shown }

  -- a shown fault of a tile is one of its rules
  of_tile : (tile : TileRecord) (fault : Fault) → IsTile bytes tile → Shown fault → BreaksAnyRule IsBroken tile fault
  of_tile tile fault is shown = elim ((by_parts fault).0 shown) [
    | inl broken ↦ absurd (no_fault_of_tile bytes tile fault is broken)
    | inr (other, its, broken) ↦ subst (λ (it : TileRecord). BreaksAnyRule IsBroken it fault) (one_tile bytes other tile its is) broken
  ]

  -- the first fault of a layer is the first with its subject
  first_of_its_layer : (tile : TileRecord) (layer : ℕ) (fault : Fault) → IsTile bytes tile → IsLeast (IsFaultOfLayer tile layer) fault → IsFirstOfItsSubject Shown fault
  first_of_its_layer tile layer fault is first =
      let subject : subject_of fault ≡ of_layer layer = subject_of_layer tile layer fault first.holds in
      let its = first.holds in
      record {
        holds = (by_parts fault).1 (inr (tile, is, inl (inl its.broken)));
        least = λ other shown same. elim (layer_or_feature IsBroken theirs tile other (of_tile tile other is shown)) [
          | inl of ↦
              let alike : of.layer ≡ layer = cc (of.subject, same, subject) in
              first.least other (subst (λ (n : ℕ). IsFaultOfLayer tile n other) alike of.its)
          | inr of ↦ absurd (cc (of.subject, same, subject))
        ];
      }

  -- so it is for a feature
  first_of_its_feature : (tile : TileRecord) (layer feature : ℕ) (layer_record : LayerRecord) (it : FeatureRecord) (fault : Fault) → IsTile bytes tile → IsFeatureOf tile layer feature layer_record it
      → IsLeast (IsFaultOfFeature IsBroken layer_record it layer feature) fault → IsFirstOfItsSubject Shown fault
  first_of_its_feature tile layer feature layer_record it fault is there first =
      let subject : subject_of fault ≡ of_feature layer feature = subject_of_feature IsBroken theirs layer_record it layer feature fault first.holds in
      record {
        holds = (by_parts fault).1 (inr (tile, is, of_rules first.holds));
        least = λ other shown same. elim (layer_or_feature IsBroken theirs tile other (of_tile tile other is shown)) [
          | inl of ↦ absurd (cc (of.subject, same, subject))
          | inr of ↦
              let one : of.layer ≡ layer = cc (of.subject, same, subject) in
              let another : of.feature ≡ feature = cc (of.subject, same, subject) in
              let begun : IsFeatureOf tile layer feature of.layer_record of.feature_record = rw (sym one, sym another) of.there in
              let alike = one_feature_of tile layer feature of.layer_record layer_record of.feature_record it begun there in
              let moved : IsFaultOfFeature IsBroken of.layer_record of.feature_record layer feature other = rw (sym one, sym another) of.its in
              first.least other
              (subst (λ (its : FeatureRecord). IsFaultOfFeature IsBroken layer_record its layer feature other) alike.1
              (subst (λ (its : LayerRecord). IsFaultOfFeature IsBroken its of.feature_record layer feature other) alike.0 moved))
        ];
      }
    where
      of_rules : IsFaultOfFeature IsBroken layer_record it layer feature fault → BreaksAnyRule IsBroken tile fault
      of_rules (inl tags) = inl (inr (record { layer = layer; feature = feature; layer_record = layer_record; feature_record = it; there = there; broken = tags }))
      of_rules (inr broken) = inr (record { layer = layer; feature = feature; layer_record = layer_record; feature_record = it; there = there; broken = broken })

  -- a free one of a feature is true
  free_of_its_feature : (tile : TileRecord) (layer feature : ℕ) (layer_record : LayerRecord) (it : FeatureRecord) (fault : Fault) → IsTile bytes tile → IsFeatureOf tile layer feature layer_record it
      → IsFaultOfFeature IsBroken layer_record it layer feature fault → Shown fault
  free_of_its_feature tile layer feature layer_record it fault is there (inl tags) =
      (by_parts fault).1 (inr (tile, is, inl (inr (record { layer = layer; feature = feature; layer_record = layer_record; feature_record = it; there = there; broken = tags }))))
  free_of_its_feature tile layer feature layer_record it fault is there (inr broken) =
      (by_parts fault).1 (inr (tile, is, inr (record { layer = layer; feature = feature; layer_record = layer_record; feature_record = it; there = there; broken = broken })))

  -- so each of a tile's first faults is the first with its subject, or a free one
  pub each_of_tile : (IsFree : Frees) (tile : TileRecord) (fault : Fault) → IsTile bytes tile → IsFirstOfPart IsFree IsBroken tile fault → IsFirstOfItsSubject Shown fault ⊎ (IsFree fault × Shown fault)
  each_of_tile IsFree tile fault is (first_of_layer layer first) = inl (first_of_its_layer tile layer fault is first)
  each_of_tile IsFree tile fault is (first_of_feature layer feature layer_record it there (of_least first)) = inl (first_of_its_feature tile layer feature layer_record it fault is there first)
  each_of_tile IsFree tile fault is (first_of_feature layer feature layer_record it there (of_free free holds none)) =
      inr (free, free_of_its_feature tile layer feature layer_record it fault is there holds)

-- Lists by a search

-- the fault that a search lists
pub listed : (search : Search) (profile : Profile) (bytes : List ℕ) (fault : Fault) → IsFirstOfItsSubject (ShowsBy profile bytes) fault ⊎ (IsFreeFor search profile fault × ShowsBy profile bytes fault) → IsListedFor search profile bytes fault
listed Least profile bytes fault (inl first) = first
listed Least profile bytes fault (inr both) = absurd both.0
listed Quick profile bytes fault its = its

module _ (search : Search) (profile : Profile) (bytes : List ℕ) where
  -- the kept rule is that of valid geometries, so whatever fault is true has one of its subject among the tile's first faults
  every_of_tile : (tile : TileRecord) (faults : List Fault) (fault : Fault) → IsTile bytes tile
      → AreFirstFaults (IsFreeFor search profile) (IsFaultOfGeometryBy profile) (IsValidGeometryBy profile) tile faults → ShowsBy profile bytes fault → HasOneOf faults (subject_of fault)
  every_of_tile tile faults fault is first shown =
      elim (layer_or_feature (IsFaultOfGeometryBy profile) (subject_of_geometry profile) tile fault
      (of_tile bytes (ShowsBy profile bytes) (IsFaultOfGeometryBy profile) (subject_of_geometry profile) (shown_by_parts profile bytes) tile fault is shown)) [
        | inl of ↦
            let (at, it, there, least) = first.layers of.layer fault of.its in
            (at, it, there, subject_of_layer tile of.layer it least.holds ∙ sym of.subject)
        | inr of ↦ elim (first.features of.layer of.feature of.layer_record of.feature_record of.there) [
          | inl (at, it, there, found) ↦ (
            at,
            it,
            there,
            subject_of_feature (IsFaultOfGeometryBy profile) (subject_of_geometry profile) of.layer_record of.feature_record of.layer of.feature it
                (least_or_holds (IsFreeFor search profile) (IsFaultOfFeature (IsFaultOfGeometryBy profile) of.layer_record of.feature_record of.layer of.feature) it found) ∙ sym of.subject,
          )
          | inr sound ↦ absurd (sound.faultless fault of.its)
        ]
      ]

  -- the first faults of a tile are its list
  list_of_tile : (tile : TileRecord) (faults : List Fault) → IsTile bytes tile → AreFirstFaults (IsFreeFor search profile) (IsFaultOfGeometryBy profile) (IsValidGeometryBy profile) tile faults → AreFaultsFor search profile bytes faults
  list_of_tile tile faults is first = record {
    each = λ at fault there.
        listed search profile bytes fault
        (each_of_tile bytes (ShowsBy profile bytes) (IsFaultOfGeometryBy profile) (subject_of_geometry profile) (shown_by_parts profile bytes) (IsFreeFor search profile) tile fault is (first.each at fault there));
    every = λ fault shown. every_of_tile tile faults fault is first shown;
    in_order = first.in_order;
  }

  -- the first wire fault alone is that of bytes that have one
  list_of_wire : (fault : Fault) → IsLeast (IsWireFault bytes) fault → AreFaultsFor search profile bytes (fault ∷ [])
  list_of_wire fault least = record {
    each = each;
    every = λ other shown. (0, fault, refl, subject_of_wire bytes fault least.holds ∙ sym (subject_of_wire bytes other (wire_alone other shown)));
    in_order = in_order;
  }
    where
      each : (at : ℕ) (it : Fault) → slice_get (fault ∷ []) at ≡ Some it → IsListedFor search profile bytes it
      each zero it there =
          subst (IsListedFor search profile bytes) (same_Some fault it there)
          (listed search profile bytes fault (inl (first_of_bytes bytes (ShowsBy profile bytes) (IsFaultOfGeometryBy profile) (subject_of_geometry profile) (shown_by_parts profile bytes) fault least)))
      each (suc at) it there = absurd (none-some it there)

      wire_alone : (other : Fault) → ShowsBy profile bytes other → IsWireFault bytes other
      wire_alone other shown = elim ((shown_by_parts profile bytes other).0 shown) [
        | inl broken ↦ broken
        | inr broken ↦ absurd (no_fault_of_tile bytes broken.0 fault broken.1 least.holds)
      ]

      in_order : AreFaultsInOrder (fault ∷ [])
      in_order at zero it other less there its = absurd (omega arith)
      in_order at (suc later) it other less there its = absurd (none-some other its)

  -- so is what is found in any bytes
  pub list_found : (faults : List Fault) → AreFoundBy (IsFreeFor search profile) (IsFaultOfGeometryBy profile) (IsValidGeometryBy profile) bytes faults → AreFaultsFor search profile bytes faults
  list_found faults (inl (fault, least, is)) = subst (AreFaultsFor search profile bytes) (sym is) (list_of_wire fault least)
  list_found faults (inr (tile, is, first)) = list_of_tile tile faults is first
