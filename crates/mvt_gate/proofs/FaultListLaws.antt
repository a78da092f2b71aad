-- What follows of a list of faults.
use Rattle.std.proofs.Common.{◌≡◌, ◌↔◌, ◌⊎◌, ◌<◌, inl, inr, ℕ, zero, suc, List, [], ◌∷◌, take, Some, slice_get, refl, sym, ◌∙◌, ap, ap₂, subst, arith}
use Rattle.std.proofs.lemmas.Bool.{cases_order}
use Rattle.std.proofs.lemmas.Option.{same_Some, none-some}
use Rattle.mvt_rules.proofs.Validity.ShownParts.{shown_by_parts}
use Rattle.mvt_rules.proofs.Validity.TrueFaults.{no_fault_of_tile, shown_is_invalid}
use Rattle.mvt_rules.proofs.Validity.ValidWithoutFaults.{unshown_is_valid}
use Rattle.mvt_rules.specs.Shows.{ShowsBy}
use Rattle.mvt_rules.specs.Valid.{IsValidGeometryBy, ValidBy}
use Rattle.mvt_fault.proofs.Places.{ComesFirst-reflexive, ComesFirst-transitive, ComesFirst-antisymmetric}
use Rattle.mvt_fault.specs.Place.{ComesFirst, IsLeast, place_of}
use Rattle.mvt_rules.specs.Parts.TrueFaults.{IsWireFault}
use Rattle.mvt_fault.specs.declared.fault.Fault.{Fault}
use Rattle.mvt_fault.specs.declared.fault.Fault.TheVariants.{Tag, Command, Ring, Meeting, Outside, HoleInHole, InPolygon}
use Rattle.mvt_fault.specs.declared.profile.Profile.{Profile}
use Rattle.mvt_fault.specs.declared.profile.Profile.TheVariants.{Polygon, Feature}
use Rattle.mvt_rules.specs.Parts.Geometry.{IsFaultOfGeometryBy}
use Rattle.mvt_gate.proofs.FaultLists.{list_found}
use Rattle.mvt_gate.proofs.FaultSubjects.{subject_of_wire}
use Rattle.mvt_gate.specs.Calls.Faults.{AreFoundBy}
use Rattle.mvt_gate.proofs.QuickVerdicts.{none_free}
use Rattle.mvt_tile.proofs.RuleFaults.FreeFaults.{first_by_taken, lifted}
use Rattle.mvt_tile.specs.FreeFaults.{IsLeastOr, of_least, of_free}
use Rattle.mvt_gate.specs.FaultList.{AreFaultsFor, HasNoMeetingIn, IsFirstOfItsSubject, IsListedFor, of_feature, subject_of}
use Rattle.mvt_gate.specs.Quick.{IsFreeBy, IsFreeFor, IsQuickFaultBy}
use Rattle.mvt_gate.specs.Verdict.{IsVerdictFor}
use Rattle.mvt_gate.specs.declared.verdict.Verdict.TheVariants.{No}
use Rattle.mvt_gate.specs.declared.quick.Search.{Search}
use Rattle.mvt_gate.specs.declared.quick.Search.TheVariants.{Least, Quick}

-- what a search lists is the first of its subject, or free
pub first_or_free : (search : Search) (profile : Profile) (bytes : List ℕ) (fault : Fault) → IsListedFor search profile bytes fault → IsFirstOfItsSubject (ShowsBy profile bytes) fault ⊎ (IsFreeBy profile fault × ShowsBy profile bytes fault)
first_or_free Least profile bytes fault first = inl first
first_or_free Quick profile bytes fault its = its

-- so it is true of the bytes
pub listed_is_true : (search : Search) (profile : Profile) (bytes : List ℕ) (fault : Fault) → IsListedFor search profile bytes fault → ShowsBy profile bytes fault
listed_is_true search profile bytes fault its = elim (first_or_free search profile bytes fault its) [ inl first ↦ first.holds | inr both ↦ both.1 ]

-- the first numbers of one feature
begin_alike : (layer feature its_layer its_feature : ℕ) → of_feature its_layer its_feature ≡ of_feature layer feature → 2 ∷ layer ∷ feature ∷ [] ≡ 2 ∷ its_layer ∷ its_feature ∷ []
begin_alike layer feature its_layer its_feature same =
    let one : layer ≡ its_layer = cc same in
    let another : feature ≡ its_feature = cc same in
    ap₂ (λ (x y : ℕ). 2 ∷ x ∷ y ∷ []) one another

-- the places of a meeting and of another fault of its feature begin alike
three_of_meeting : (layer feature : ℕ) (other : Fault) → subject_of other ≡ of_feature layer feature → 2 ∷ layer ∷ feature ∷ [] ≡ take 3 (place_of other)
three_of_meeting layer feature (Tag code its_layer its_feature index) same = begin_alike layer feature its_layer its_feature same
three_of_meeting layer feature (Command code its_layer its_feature index) same = begin_alike layer feature its_layer its_feature same
three_of_meeting layer feature (Ring code its_layer its_feature number) same = begin_alike layer feature its_layer its_feature same
three_of_meeting layer feature (Meeting its_layer its_feature polygon first second x y w) same = begin_alike layer feature its_layer its_feature same
three_of_meeting layer feature (Outside its_layer its_feature polygon hole vertex) same = begin_alike layer feature its_layer its_feature same
three_of_meeting layer feature (HoleInHole its_layer its_feature polygon hole vertex other) same = begin_alike layer feature its_layer its_feature same
three_of_meeting layer feature (InPolygon its_layer its_feature polygon vertex other) same = begin_alike layer feature its_layer its_feature same
three_of_meeting layer feature other same = absurd (cc)

three_of_free : (profile : Profile) (fault other : Fault) → IsFreeBy profile fault → subject_of other ≡ subject_of fault → take 3 (place_of fault) ≡ take 3 (place_of other)
three_of_free Polygon fault other free same = absurd free
three_of_free Feature (Meeting layer feature polygon first second x y w) other free same = three_of_meeting layer feature other same
three_of_free Feature fault other free same = absurd free

-- a list of no faults has none
not_empty : (at : ℕ) (fault : Fault) → ¬ (slice_get [] at ≡ Some fault)
not_empty at fault there = none-some fault there

-- a number isn't above itself
not_both : (n m : ℕ) → n ≡ m → ¬ (n < m)
not_both n m same less = omega arith

module _ (search : Search) (profile : Profile) (bytes : List ℕ) where
  -- the faults of the list are true
  pub each_is_true : (faults : List Fault) → AreFaultsFor search profile bytes faults → (at : ℕ) (fault : Fault) → slice_get faults at ≡ Some fault → ShowsBy profile bytes fault
  each_is_true faults list at fault there = listed_is_true search profile bytes fault (list.each at fault there)

  -- where the list is empty, the bytes are valid
  valid_of_empty : AreFaultsFor search profile bytes [] → ValidBy profile bytes
  valid_of_empty list = unshown_is_valid profile bytes (λ fault shown. let one = list.every fault shown in not_empty one.0 one.1 one.2)

  -- and it is empty where they are
  empty_of_valid : (faults : List Fault) → AreFaultsFor search profile bytes faults → ValidBy profile bytes → faults ≡ []
  empty_of_valid [] list valid = refl
  empty_of_valid (fault ∷ rest) list valid = absurd (shown_is_invalid profile bytes fault (each_is_true (fault ∷ rest) list 0 fault refl) valid)

  pub empty_where_valid : (faults : List Fault) → AreFaultsFor search profile bytes faults → (faults ≡ []) ↔ ValidBy profile bytes
  empty_where_valid faults list = (λ none. valid_of_empty (subst (AreFaultsFor search profile bytes) none list), empty_of_valid faults list)

  -- the first of the list comes before each of them
  before_each : (faults : List Fault) → AreFaultsFor search profile bytes faults → (at : ℕ) (first other : Fault) → slice_get faults 0 ≡ Some first → slice_get faults at ≡ Some other → ComesFirst (place_of first) (place_of other)
  before_each faults list zero first other there its = subst (λ (it : Fault). ComesFirst (place_of first) (place_of it)) (same_Some first other (sym there ∙ its)) (ComesFirst-reflexive (place_of first))
  before_each faults list (suc at) first other there its =
      let order = list.in_order 0 (suc at) first other (omega arith) there its in
      first_by_taken 3 (place_of first) (place_of other) order.first order.differ

  -- so it comes before all that are true, but those of its own subject where it is free
  before_all : (faults : List Fault) → AreFaultsFor search profile bytes faults → (first other : Fault) → slice_get faults 0 ≡ Some first → ShowsBy profile bytes other
      → (ShowsBy profile bytes other × (subject_of other ≡ subject_of first)) ⊎ ComesFirst (place_of first) (place_of other)
  before_all faults list first other there shown = let (at, it, here, subject) = list.every other shown in elim (first_or_free search profile bytes it (list.each at it here)) [
    | inl least ↦ inr (ComesFirst-transitive (place_of first) (place_of it) (place_of other) (before_each faults list at first it there here) (least.least other shown (sym subject)))
    | inr both ↦ after at it here subject both.0
  ]
    where
      after : (at : ℕ) (it : Fault) → slice_get faults at ≡ Some it → subject_of it ≡ subject_of other → IsFreeBy profile it → (ShowsBy profile bytes other × (subject_of other ≡ subject_of first)) ⊎ ComesFirst (place_of first) (place_of other)
      after zero it here subject free = let same : it ≡ first = same_Some it first (sym here ∙ there) in inl (shown, sym subject ∙ ap subject_of same)
      after (suc at) it here subject free =
          let order = list.in_order 0 (suc at) first it (omega arith) there here in
          let three = three_of_free profile it other free (sym subject) in
          inr (first_by_taken 3 (place_of first) (place_of other) (subst (ComesFirst (take 3 (place_of first))) three order.first) (λ same. order.differ (same ∙ sym three)))

  -- of its own subject it is the first, or free
  first_of_own : (first : Fault) → IsListedFor search profile bytes first → IsLeastOr (IsFreeBy profile) (λ other. ShowsBy profile bytes other × (subject_of other ≡ subject_of first)) first
  first_of_own first its = elim (first_or_free search profile bytes first its) [
    | inl least ↦ of_least (record { holds = (least.holds, refl); least = λ other both. least.least other both.0 both.1 })
    | inr both ↦
        of_free both.0 (both.1, refl)
        (λ other its_own. subst (ComesFirst (take 3 (place_of first))) (three_of_free profile first other both.0 its_own.1) (ComesFirst-reflexive (take 3 (place_of first))))
  ]

  -- so it is the quick fault
  pub quick_of_list : (faults : List Fault) → AreFaultsFor search profile bytes faults → (first : Fault) → slice_get faults 0 ≡ Some first → IsQuickFaultBy profile bytes first
  quick_of_list faults list first there =
      lifted (IsFreeBy profile) (λ other. ShowsBy profile bytes other × (subject_of other ≡ subject_of first)) first (ShowsBy profile bytes) (λ both. both.0)
      (λ other shown. before_all faults list first other there shown) (first_of_own first (list.each 0 first there))

  -- no two faults of the list have one subject
  pub one_of_each : (faults : List Fault) → AreFaultsFor search profile bytes faults → (at other : ℕ) (fault again : Fault) → slice_get faults at ≡ Some fault → slice_get faults other ≡ Some again
      → subject_of fault ≡ subject_of again → at ≡ other
  one_of_each faults list at other fault again there its same = elim (cases_order at other) [
    | inl alike ↦ alike
    | inr (inl less) ↦ let order = list.in_order at other fault again less there its in absurd (order.differ both)
    | inr (inr more) ↦ let order = list.in_order other at again fault more its there in absurd (order.differ (sym both))
  ]
    where
      both : take 3 (place_of fault) ≡ take 3 (place_of again)
      both = elim (first_or_free search profile bytes fault (list.each at fault there)) [
        | inr free ↦ three_of_free profile fault again free.0 (sym same)
        | inl one ↦ elim (first_or_free search profile bytes again (list.each other again its)) [
          | inr free ↦ sym (three_of_free profile again fault free.0 same)
          | inl another ↦ ap (take 3) (ComesFirst-antisymmetric (place_of fault) (place_of again) (one.least again another.holds (sym same)) (another.least fault one.holds same))
        ]
      ]

  -- where one of the list is a wire fault, so is each that is true
  all_of_wire : (fault other : Fault) → IsWireFault bytes fault → ShowsBy profile bytes other → IsWireFault bytes other
  all_of_wire fault other broken shown = elim ((shown_by_parts profile bytes other).0 shown) [
    | inl is ↦ is
    | inr part ↦ absurd (no_fault_of_tile bytes part.0 fault part.1 broken)
  ]

  -- so it is the whole list
  pub wire_fault_alone : (faults : List Fault) → AreFaultsFor search profile bytes faults → (at : ℕ) (fault : Fault) → slice_get faults at ≡ Some fault → IsWireFault bytes fault → faults ≡ fault ∷ []
  wire_fault_alone [] list at fault there broken = absurd (not_empty at fault there)
  wire_fault_alone (first ∷ []) list zero fault there broken = let same : first ≡ fault = same_Some first fault there in subst (λ (it : Fault). (first ∷ []) ≡ (it ∷ [])) same refl
  wire_fault_alone (first ∷ []) list (suc at) fault there broken = absurd (none-some fault there)
  wire_fault_alone (first ∷ (second ∷ rest)) list at fault there broken =
      let faults : List Fault = first ∷ (second ∷ rest) in
      let one : IsWireFault bytes first = all_of_wire fault first broken (each_is_true faults list 0 first refl) in
      let another : IsWireFault bytes second = all_of_wire fault second broken (each_is_true faults list 1 second refl) in
      absurd (not_both 0 1 (one_of_each faults list 0 1 first second refl refl (subject_of_wire bytes first one ∙ sym (subject_of_wire bytes second another))) (omega arith))

-- The first of a list

-- it is the least of all, where each is the first of its subject
least_of_list : (profile : Profile) (bytes : List ℕ) (faults : List Fault) → AreFaultsFor Least profile bytes faults → (first : Fault) → slice_get faults 0 ≡ Some first → IsLeast (ShowsBy profile bytes) first
least_of_list profile bytes faults list first there = record {
  holds = let its = list.each 0 first there in its.holds;
  least = λ other shown.
      let (at, it, here, subject) = list.every other shown in
      let its = list.each at it here in
      ComesFirst-transitive (place_of first) (place_of it) (place_of other) (before_each Least profile bytes faults list at first it there here) (its.least other shown (sym subject));
}

-- so it is what the verdict of the search names
pub first_of_list : (search : Search) (profile : Profile) (bytes : List ℕ) (faults : List Fault) → AreFaultsFor search profile bytes faults → (first : Fault) → slice_get faults 0 ≡ Some first → IsVerdictFor search profile bytes (No first)
first_of_list Least profile bytes faults list first there = least_of_list profile bytes faults list first there
first_of_list Quick profile bytes faults list first there = quick_of_list Quick profile bytes faults list first there

-- Quick lists

-- by the profile that checks each polygon by itself, they are those of the other search
pub list_by_polygon : (bytes : List ℕ) (faults : List Fault) → AreFaultsFor Least Polygon bytes faults → AreFaultsFor Quick Polygon bytes faults
list_by_polygon bytes faults list = record {
  each = λ at fault there. inl (list.each at fault there);
  every = list.every;
  in_order = list.in_order;
}

-- and the other way round
pub least_list_by_polygon : (bytes : List ℕ) (faults : List Fault) → AreFaultsFor Quick Polygon bytes faults → AreFaultsFor Least Polygon bytes faults
least_list_by_polygon bytes faults list = record {
  each = λ at fault there. elim (list.each at fault there) [ inl first ↦ first | inr both ↦ absurd both.0 ];
  every = list.every;
  in_order = list.in_order;
}

-- where no edges meet in its feature, a fault of the list is the first of its subject
pub first_in_list_where_apart : (profile : Profile) (bytes : List ℕ) (faults : List Fault) → AreFaultsFor Quick profile bytes faults → (at : ℕ) (fault : Fault) → slice_get faults at ≡ Some fault → HasNoMeetingIn bytes (subject_of fault)
    → IsFirstOfItsSubject (ShowsBy profile bytes) fault
first_in_list_where_apart profile bytes faults list at fault there apart = elim (list.each at fault there) [
  | inl first ↦ first
  | inr both ↦ absurd (none_free profile bytes fault both.1 apart both.0)
]

-- what is found by that profile's rule
pub list_found_by_polygon : (search : Search) (bytes : List ℕ) (faults : List Fault) → AreFoundBy (IsFreeFor Least Polygon) (IsFaultOfGeometryBy Polygon) (IsValidGeometryBy Polygon) bytes faults → AreFaultsFor search Polygon bytes faults
list_found_by_polygon Least bytes faults found = list_found Least Polygon bytes faults found
list_found_by_polygon Quick bytes faults found = list_by_polygon bytes faults (list_found Least Polygon bytes faults found)
