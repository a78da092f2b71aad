-- One pass over the pairs of tags.
use Rattle.std.proofs.Common.{◌≡◌, ℕ, ◌+◌, ◌*◌, ◌<◌, ◌≤◌, ◌==◌, ◌||◌, inl, inr, true, false, List, [], ◌∷◌, length, drop, slice_get, Option, Some, None, refl, sym, ◌∙◌, ap, subst, arith}
use Rattle.std.proofs.lemmas.Option.{slice_get_within}
use Rattle.mvt_rules.specs.Rules.{TagsBreak}
use Rattle.mvt_rules.specs.Tile.{FeatureRecord}
use Rattle.mvt_tile.specs.Calls.OneWalk.{HasGoodTags}
use Rattle.mvt_tile.specs.Calls.PassedTags.{HasFoundBefore, IsScanned, AreGoodWith, AreMetBy, has_key}
use Rattle.mvt_tile.specs.Calls.RuleFaults.{IsFirstTagFault, FindsFirstTagFault}
use Rattle.mvt_tile.specs.declared.rules.key_marks.KeyMarks.{KeyMarks}
use Rattle.mvt_tile.specs.declared.rules.tags.TagNeeds.{TagNeeds}
use Rattle.mvt_fault.specs.declared.tag.TagCode.{TagCode}
use Rattle.mvt_fault.specs.declared.tag.TagCode.TheVariants.{OddLength, NoKey, NoValue, Repeated}
use Rattle.mvt_wire.proofs.FieldNumbers.Sources.{at_end, number_at}
use Rattle.mvt_tile.proofs.RuleFaults.TagFaults.{AreCleanBefore-pair, AreMetBy-all, IsMetBefore-pair, IsFirstTagFault-odd, IsPassed-pair, no_tag_fault}

-- a pair that a source gives: it stands at the place, and the rest is left
pub record IsGivenAt (Leaves : List ℕ → Type 0) (given : List ℕ) (at key value : ℕ) : Type 0 where
  pub first : slice_get given at ≡ Some key
  pub second : slice_get given (at + 1) ≡ Some value
  pub left : Leaves (drop (at + 2) given)

pub given_at : (Leaves : List ℕ → Type 0) (given : List ℕ) (at key value : ℕ) → (rest : List ℕ) × (drop at given ≡ key ∷ value ∷ rest) × Leaves rest → IsGivenAt Leaves given at key value
given_at Leaves given at key value taken =
    let one = number_at given at key (value ∷ taken.0) taken.1 in
    let two = number_at given (at + 1) value taken.0 (sym one.following) in
    let place : at + 1 + 1 ≡ at + 2 = omega arith in
    record { first = one.here; second = two.here; left = subst Leaves (two.following ∙ ap (λ (at : ℕ). drop at given) place) taken.2 }

module _ {set : KeyMarks} {keys values : ℕ} {tags : List ℕ} {at : ℕ} {needs : TagNeeds} {found : Option (TagCode × ℕ)} (scanned : IsScanned set keys values tags at needs found) where
  -- one more pair
  pub IsScanned-pair : (more : KeyMarks) (key value : ℕ) (more_needs : TagNeeds) (more_found : Option (TagCode × ℕ)) → slice_get tags at ≡ Some key → slice_get tags (at + 1) ≡ Some value
      → (needs.keys ≤ more_needs.keys) × (key + 1 ≤ more_needs.keys) → (needs.values ≤ more_needs.values) × (value + 1 ≤ more_needs.values)
      → ((pairs : ℕ) → length tags ≡ 2 * pairs → HasFoundBefore more keys values tags (at + 2) more_found)
      → IsScanned more keys values tags (at + 2) more_needs more_found
  IsScanned-pair more key value more_needs more_found here following in_keys in_values so_far = record {
    within = let inside : at + 1 < length tags = slice_get_within tags (at + 1) value following in omega arith;
    met = IsMetBefore-pair needs.keys needs.values more_needs.keys more_needs.values tags at key value scanned.met here following in_keys.0 in_values.0 (omega (arith, in_keys.1)) (omega (arith, in_values.1));
    so_far = so_far;
  }

  -- at the end of a list of pairs
  pub all_scanned : drop at tags ≡ [] → FindsFirstTagFault keys values tags found × AreMetBy needs tags
  all_scanned left = (ends found (scanned.so_far scanned.met.pair all), AreMetBy-all needs tags at (omega (arith, at_end tags at left)) scanned.met)
    where
      all : length tags ≡ 2 * scanned.met.pair
      all = let even : at ≡ 2 * scanned.met.pair = scanned.met.even in let within : at ≤ length tags = scanned.within in omega (arith, at_end tags at left)

      ends : (found : Option (TagCode × ℕ)) → HasFoundBefore set keys values tags at found → FindsFirstTagFault keys values tags found
      ends None passed = no_tag_fault keys values tags scanned.met.pair all at (at_end tags at left) passed.clean
      ends (Some fault) first = first

  -- and in front of a number after which nothing is left
  pub odd_scanned : (key : ℕ) → drop at tags ≡ key ∷ [] → FindsFirstTagFault keys values tags (Some (OddLength, at + 1)) × AreMetBy needs tags
  odd_scanned key left =
      let even : at ≡ 2 * scanned.met.pair = scanned.met.even in
      let one = number_at tags at key [] left in
      let all : length tags ≡ at + 1 = omega (arith, one.within) in (
        subst (λ (place : ℕ). IsFirstTagFault keys values tags OddLength place) all (IsFirstTagFault-odd keys values tags scanned.met.pair (omega arith)),
        AreMetBy-all needs tags at (omega arith) scanned.met,
      )

-- Tags that no layer is held against

-- nothing was passed
pub none_scanned : (set : KeyMarks) (tags : List ℕ) (needs : TagNeeds) (keys values : ℕ) → ((key : ℕ) → has_key set key ≡ false) → IsScanned set keys values tags 0 needs None
none_scanned set tags needs keys values empty = record {
  within = omega arith;
  met = record { pair = 0; even = refl; key = λ earlier key below here. absurd (omega arith); value = λ earlier value below here. absurd (omega arith) };
  so_far = λ pairs even. record {
    passed = record {
      pair = 0;
      even = refl;
      stood = λ key held. let both : true ≡ false = sym held ∙ empty key in absurd (cc);
      kept = λ key earlier below there. absurd (omega arith);
    };
    clean = record { clean = λ code place below. absurd (omega arith) };
  };
}

module _ {set : KeyMarks} {keys values : ℕ} {tags : List ℕ} {at : ℕ} {needs : TagNeeds} (scanned : IsScanned set keys values tags at needs None) where
  -- one more pair without a fault
  pub IsScanned-new : (more : KeyMarks) (key value : ℕ) (more_needs : TagNeeds) → slice_get tags at ≡ Some key → slice_get tags (at + 1) ≡ Some value
      → (needs.keys ≤ more_needs.keys) × (key + 1 ≤ more_needs.keys) → (needs.values ≤ more_needs.values) × (value + 1 ≤ more_needs.values)
      → key < keys → value < values → has_key set key ≡ false → ((other : ℕ) → has_key more other ≡ (other == key || has_key set other))
      → IsScanned more keys values tags (at + 2) more_needs None
  IsScanned-new more key value more_needs here following in_keys in_values below in_range unheld adds =
      IsScanned-pair scanned more key value more_needs None here following in_keys in_values (λ pairs even.
      let before = scanned.so_far pairs even in
      record {
        passed = IsPassed-pair keys values tags pairs even (has_key set) at key before.passed here (has_key more) adds;
        clean = AreCleanBefore-pair keys values tags pairs even (has_key set) at key before.passed here value before.clean below unheld following in_range;
      })

  -- at the end of a list of pairs, a layer that has what they need is enough
  pub AreGoodWith-all : drop at tags ≡ [] → AreGoodWith needs tags
  AreGoodWith-all left other_keys other_values enough enough_values = good
    where
      all : FindsFirstTagFault keys values tags None × AreMetBy needs tags
      all = all_scanned scanned left

      good : (code : TagCode) (place : ℕ) → ¬ TagsBreak code other_keys other_values tags place
      good OddLength place broken = all.0 OddLength place broken
      good NoKey place broken = all.1.keys other_keys place enough broken
      good NoValue place broken = all.1.values other_values place enough_values broken
      good Repeated place broken = all.0 Repeated place broken

-- so it is in a layer that is like one of so many keys and values, or has more than they need
pub HasGoodTags-own : (most : ℕ) (own needs : TagNeeds) (it : FeatureRecord) → AreGoodWith own it.tags → own.keys ≤ needs.keys → own.values ≤ needs.values → own.keys ≤ most → own.values ≤ most → HasGoodTags most needs it
HasGoodTags-own most own needs it good in_keys in_values keys values layer_record (inl same) =
    good (length layer_record.keys) (length layer_record.values) (omega (arith, same.0)) (omega (arith, same.1))
HasGoodTags-own most own needs it good in_keys in_values keys values layer_record (inr enough) =
    good (length layer_record.keys) (length layer_record.values) (omega (arith, enough.0.keys)) (omega (arith, enough.0.values))
