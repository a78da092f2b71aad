-- The first fault of tags, as one pass over their pairs finds it.
use Rattle.std.proofs.Common.{◌≡◌, ℕ, ◌+◌, ◌*◌, ◌<◌, ◌≤◌, ◌⊎◌, Bool, true, false, List, [], ◌∷◌, length, map, option_map, get_or, slice_get, Some, inl, inr, sym, ◌∙◌, ap, subst, arith, lit≤, refl, ◌||◌, ◌==◌}
use Rattle.std.proofs.lemmas.Bool.{cases_lt, cases_order, or_cases, or_left, or_right, eqb-true, eq-eqb}
use Rattle.std.proofs.lemmas.Option.{slice_get_within, slice_get_read, slice_get-map}
use Rattle.mvt_fault.specs.Code.{tag_code}
use Rattle.mvt_fault.specs.Place.{place_of, ComesFirst, IsLeast}
use Rattle.mvt_rules.specs.Rules.{TagsBreak, OddTags, IsKeyAt, NoSuchKey, NoSuchValue}
use Rattle.mvt_rules.specs.Parts.TrueFaults.{IsFaultOfTags, tag}
use Rattle.mvt_fault.specs.declared.fault.Fault.{Fault}
use Rattle.mvt_fault.specs.declared.fault.Fault.TheVariants.{Tag}
use Rattle.mvt_fault.specs.declared.tag.TagCode.{TagCode}
use Rattle.mvt_fault.specs.declared.tag.TagCode.TheVariants.{OddLength, NoKey, NoValue, Repeated}
use Rattle.mvt_rules.specs.Tile.{FeatureRecord, LayerRecord}
use Rattle.mvt_tile.specs.Calls.PassedTags.{AreCleanBefore, IsMetBefore, IsPassed, AreMetBy}
use Rattle.mvt_tile.specs.Calls.RuleFaults.{IsFirstTagFault}
use Rattle.mvt_tile.specs.View.{feature_of}
use Rattle.mvt_tile.specs.declared.record.Feature.{Feature}
use Rattle.mvt_tile.specs.declared.rules.tags.TagNeeds.{TagNeeds}

-- a list of odd length is no list of pairs
odd_even : (tags : List ℕ) (pairs others : ℕ) → length tags ≡ 2 * pairs + 1 → length tags ≡ 2 * others → ⊥
odd_even tags pairs others odd even = omega arith

-- a place is that of a key or of a value, and not of both
key_value : (place pair other : ℕ) → place ≡ 2 * pair → place ≡ 2 * other + 1 → ⊥
key_value place pair other key value = omega arith

-- at one place is one number
one_number : (tags : List ℕ) (place first second : ℕ) → slice_get tags place ≡ Some first → slice_get tags place ≡ Some second → first ≡ second
one_number tags place first second here there = let both : Some first ≡ Some second = sym here ∙ there in cc

-- in a list of odd length nothing else is wrong
odd_only : (keys values : ℕ) (tags : List ℕ) (pairs : ℕ) → length tags ≡ 2 * pairs + 1 → (code : TagCode) (place : ℕ) → TagsBreak code keys values tags place
    → (length tags < place) ⊎ ((length tags ≡ place) × (301 ≤ tag_code code))
odd_only keys values tags pairs odd OddLength place broken = inr (sym broken.at_end, lit≤ tt)
odd_only keys values tags pairs odd NoKey place broken = absurd (odd_even tags pairs broken.here.pairs odd broken.here.even)
odd_only keys values tags pairs odd NoValue place broken = absurd (odd_even tags pairs broken.here.pairs odd broken.here.even)
odd_only keys values tags pairs odd Repeated place broken = absurd (odd_even tags pairs broken.here.pairs odd broken.here.even)

-- the first fault of a list of odd length
pub IsFirstTagFault-odd : (keys values : ℕ) (tags : List ℕ) (pairs : ℕ) → length tags ≡ 2 * pairs + 1 → IsFirstTagFault keys values tags OddLength (length tags)
IsFirstTagFault-odd keys values tags pairs odd = record {
  broken = record { pairs = pairs; odd = odd; at_end = refl };
  first = odd_only keys values tags pairs odd;
}

-- a fault after clean tags is the first, where its code is the least at its place
first_from : (keys values : ℕ) (tags : List ℕ) (code : TagCode) (place : ℕ) → AreCleanBefore keys values tags place → TagsBreak code keys values tags place
    → ((other : TagCode) → TagsBreak other keys values tags place → tag_code code ≤ tag_code other) → IsFirstTagFault keys values tags code place
first_from keys values tags code place before broken least = record {
  broken = broken;
  first = λ other other_place there. elim (cases_order place other_place) [
    | inl same ↦ inr (same, least other (subst (λ (at : ℕ). TagsBreak other keys values tags at) (sym same) there))
    | inr apart ↦ elim apart [
      | inl below ↦ inl below
      | inr above ↦ absurd (before.clean other other_place above there)
    ]
  ];
}

-- tags with no fault at a place go on clean
clean_more : (keys values : ℕ) (tags : List ℕ) (to : ℕ) → AreCleanBefore keys values tags to → ((code : TagCode) → ¬ TagsBreak code keys values tags to)
    → AreCleanBefore keys values tags (to + 1)
clean_more keys values tags to before here = record {
  clean = λ code place below broken. elim (cases_order place to) [
    | inl same ↦ here code (subst (λ (at : ℕ). TagsBreak code keys values tags at) same broken)
    | inr apart ↦ elim apart [
      | inl earlier ↦ before.clean code place earlier broken
      | inr later ↦ absurd (omega arith)
    ]
  ];
}

module _ (keys values : ℕ) (tags : List ℕ) (pairs : ℕ) (even : length tags ≡ 2 * pairs) where
  -- in pairs, the key at a place is in the list
  key_at : (place pair key : ℕ) → place ≡ 2 * pair → slice_get tags place ≡ Some key → IsKeyAt tags place key
  key_at place pair key first here = record { pairs = pairs; even = even; pair = pair; first = first; here = here }

  -- where a key is, its list is no list of odd length
  no_odd : (place : ℕ) → ¬ OddTags tags place
  no_odd place odd = odd_even tags odd.pairs pairs odd.odd even

  -- a key that is out of range is the first fault
  pub IsFirstTagFault-no_key : (has : ℕ → Bool) (place key : ℕ) → AreCleanBefore keys values tags place → IsPassed tags has place → slice_get tags place ≡ Some key
      → keys ≤ key → IsFirstTagFault keys values tags NoKey place
  IsFirstTagFault-no_key has place key before passed here beyond =
      first_from keys values tags NoKey place before (record { key = key; here = key_at place passed.pair key passed.even here; beyond = beyond }) least
    where
      least : (other : TagCode) → TagsBreak other keys values tags place → 302 ≤ tag_code other
      least OddLength broken = absurd (no_odd place broken)
      least NoKey broken = lit≤ tt
      least NoValue broken = lit≤ tt
      least Repeated broken = lit≤ tt

  module _ (has : ℕ → Bool) (place key : ℕ) (passed : IsPassed tags has place) (here : slice_get tags place ≡ Some key) where
    -- a key in range is at the place of a key, where no value is
    in_range : key < keys → ¬ NoSuchKey keys tags place
    in_range below broken = let same : broken.key ≡ key = one_number tags place broken.key key broken.here.here here in let beyond : keys ≤ broken.key = broken.beyond in absurd (omega arith)

    no_value_here : ¬ NoSuchValue values tags place
    no_value_here broken = key_value place passed.pair broken.here.pair passed.even broken.here.second

    -- a key that was kept is the first fault, where it is in range
    pub IsFirstTagFault-repeated : AreCleanBefore keys values tags place → key < keys → has key ≡ true → IsFirstTagFault keys values tags Repeated place
    IsFirstTagFault-repeated before below held =
        let there = passed.stood key held in
        first_from keys values tags Repeated place before
        (record { key = key; here = key_at place passed.pair key passed.even here; earlier = there.0; before = there.1; there = there.2 }) least
      where
        least : (other : TagCode) → TagsBreak other keys values tags place → 304 ≤ tag_code other
        least OddLength broken = absurd (no_odd place broken)
        least NoKey broken = absurd (in_range below broken)
        least NoValue broken = absurd (no_value_here broken)
        least Repeated broken = lit≤ tt

    -- a key in range that wasn't kept is no fault
    clean_key : AreCleanBefore keys values tags place → key < keys → has key ≡ false → AreCleanBefore keys values tags (place + 1)
    clean_key before below unheld = clean_more keys values tags place before clean
      where
        clean : (code : TagCode) → ¬ TagsBreak code keys values tags place
        clean OddLength broken = no_odd place broken
        clean NoKey broken = in_range below broken
        clean NoValue broken = no_value_here broken
        clean Repeated broken =
            let same : broken.key ≡ key = one_number tags place broken.key key broken.here.here here in
            let held : has broken.key ≡ true = passed.kept broken.key broken.earlier broken.before broken.there in
            let both : true ≡ false = sym held ∙ ap has same ∙ unheld in
            absurd (cc)

    -- after the place of a key is no key
    no_key_after : (other : ℕ) → ¬ IsKeyAt tags (place + 1) other
    no_key_after other there = key_value (place + 1) there.pair passed.pair there.first (ap (λ (n : ℕ). n + 1) passed.even)

    -- a value that is out of range, after a key with no fault, is the first fault
    pub IsFirstTagFault-no_value : (value : ℕ) → AreCleanBefore keys values tags place → key < keys → has key ≡ false
        → slice_get tags (place + 1) ≡ Some value → values ≤ value → IsFirstTagFault keys values tags NoValue (place + 1)
    IsFirstTagFault-no_value value before below unheld following beyond =
        first_from keys values tags NoValue (place + 1) (clean_key before below unheld)
        (record { value = value; here = record { pairs = pairs; even = even; pair = passed.pair; second = ap (λ (n : ℕ). n + 1) passed.even; here = following }; beyond = beyond }) least
      where
        least : (other : TagCode) → TagsBreak other keys values tags (place + 1) → 303 ≤ tag_code other
        least OddLength broken = absurd (no_odd (place + 1) broken)
        least NoKey broken = absurd (no_key_after broken.key broken.here)
        least NoValue broken = lit≤ tt
        least Repeated broken = lit≤ tt

    -- a pair with no fault is passed
    pub AreCleanBefore-pair : (value : ℕ) → AreCleanBefore keys values tags place → key < keys → has key ≡ false
        → slice_get tags (place + 1) ≡ Some value → value < values → AreCleanBefore keys values tags (place + 2)
    AreCleanBefore-pair value before below unheld following within =
        subst (λ (to : ℕ). AreCleanBefore keys values tags to) two (clean_more keys values tags (place + 1) (clean_key before below unheld) clean)
      where
        two : place + 1 + 1 ≡ place + 2
        two = omega arith

        clean : (code : TagCode) → ¬ TagsBreak code keys values tags (place + 1)
        clean OddLength broken = no_odd (place + 1) broken
        clean NoKey broken = no_key_after broken.key broken.here
        clean NoValue broken =
            let same : broken.value ≡ value = one_number tags (place + 1) broken.value value broken.here.here following in
            let beyond : values ≤ broken.value = broken.beyond in
            absurd (omega arith)
        clean Repeated broken = no_key_after broken.key broken.here

    -- its key is kept
    pub IsPassed-pair : (more : ℕ → Bool) → ((other : ℕ) → more other ≡ (other == key || has other)) → IsPassed tags more (place + 2)
    IsPassed-pair more adds = record {
      pair = passed.pair + 1;
      even = let so_far : place ≡ 2 * passed.pair = passed.even in omega arith;
      stood = λ other there. elim (or_cases (other == key) (has other) (sym (adds other) ∙ there)) [
        | inl same ↦ (place, omega arith, subst (λ (n : ℕ). IsKeyAt tags place n) (sym (eqb-true other key same)) (key_at place passed.pair key passed.even here))
        | inr held ↦ let earlier = passed.stood other held in (earlier.0, below_two earlier.0 earlier.1, earlier.2)
      ];
      kept = λ other earlier below there. adds other ∙ elim (cases_order earlier place) [
        | inl same ↦ or_left (other == key) (has other) (eq-eqb other key
            (one_number tags place other key (subst (λ (at : ℕ). slice_get tags at ≡ Some other) same there.here) here))
        | inr apart ↦ elim apart [
          | inl before ↦ or_right (other == key) (has other) (passed.kept other earlier before there)
          | inr following ↦ absurd (no_key_after other (subst (λ (at : ℕ). IsKeyAt tags at other) (next earlier below following) there))
        ]
      ];
    }
      where
        below_two : (earlier : ℕ) → earlier < place → earlier < place + 2
        below_two earlier below = omega arith

        next : (earlier : ℕ) → earlier < place + 2 → place < earlier → earlier ≡ place + 1
        next earlier below following = omega arith

  -- tags that are clean to their end have no fault
  pub no_tag_fault : (to : ℕ) → length tags ≤ to → AreCleanBefore keys values tags to → (code : TagCode) (place : ℕ) → ¬ TagsBreak code keys values tags place
  no_tag_fault to all clean OddLength place broken = no_odd place broken
  no_tag_fault to all clean NoKey place broken =
      let within : place < length tags = slice_get_within tags place broken.key broken.here.here in clean.clean NoKey place (omega arith) broken
  no_tag_fault to all clean NoValue place broken =
      let within : place < length tags = slice_get_within tags place broken.value broken.here.here in clean.clean NoValue place (omega arith) broken
  no_tag_fault to all clean Repeated place broken =
      let within : place < length tags = slice_get_within tags place broken.key broken.here.here in clean.clean Repeated place (omega arith) broken

-- where there are no tags, they have no fault
pub no_tags : (keys values : ℕ) (tags : List ℕ) → tags ≡ [] → (code : TagCode) (place : ℕ) → ¬ TagsBreak code keys values tags place
no_tags keys values tags none =
    let empty : length tags ≡ 0 = ap length none in
    no_tag_fault keys values tags 0 (omega (arith, empty)) 0 (omega (arith, empty)) (record { clean = λ code place below broken. absurd (omega arith) })

-- a feature whose tags break no rule has no fault of them
pub no_tag_broken : (layer_record : LayerRecord) (it : FeatureRecord) (layer feature : ℕ) → ((code : TagCode) (place : ℕ) → ¬ TagsBreak code (length layer_record.keys) (length layer_record.values) it.tags place)
    → (fault : Fault) → ¬ IsFaultOfTags layer_record it layer feature fault
no_tag_broken layer_record it layer feature none fault (tag code index broken) = none code index broken

-- lists with one rest, of which the second begins with no lesser number
head_first : (first second : ℕ) (rest : List ℕ) → first ≤ second → ComesFirst rest rest → ComesFirst (first ∷ rest) (second ∷ rest)
head_first first second rest at_most same = elim (cases_order first second) [
  | inl equal ↦ inr (equal, same)
  | inr apart ↦ elim apart [
    | inl below ↦ inl below
    | inr above ↦ absurd (omega arith)
  ]
]

-- of two faults of one feature's tags, the one that is first in the list has the lesser place
index_first : (code other : TagCode) (index at : ℕ) → (index < at) ⊎ ((index ≡ at) × (tag_code code ≤ tag_code other))
    → ComesFirst (index ∷ tag_code code ∷ 0 ∷ 0 ∷ 0 ∷ 0 ∷ []) (at ∷ tag_code other ∷ 0 ∷ 0 ∷ 0 ∷ 0 ∷ [])
index_first code other index at (inl before) = inl before
index_first code other index at (inr same) = inr (same.0, head_first (tag_code code) (tag_code other) (0 ∷ 0 ∷ 0 ∷ 0 ∷ []) same.1 (inr (refl, inr (refl, inr (refl, inr (refl, tt))))))

module _ (layer_record : LayerRecord) (it : FeatureRecord) (layer feature : ℕ) (code : TagCode) (index : ℕ) (first : IsFirstTagFault (length layer_record.keys) (length layer_record.values) it.tags code index) where
  -- no fault of the feature's tags has a lesser place than their first
  comes_first : (other : Fault) → IsFaultOfTags layer_record it layer feature other → ComesFirst (place_of (Tag code layer feature index)) (place_of other)
  comes_first fault (tag other at broken) = inr (refl, inr (refl, inr (refl, inr (refl, index_first code other index at (first.first other at broken)))))

  -- the first fault of a feature's tags, given with its layer and its feature, is the one with the least place
  pub IsLeast-first : IsLeast (IsFaultOfTags layer_record it layer feature) (Tag code layer feature index)
  IsLeast-first = record { holds = tag code index first.broken; least = comes_first }

-- a record's feature shows the tags that the record has
pub feature_tags : (features : List Feature) (feature : ℕ) (shown : Feature) (it : FeatureRecord) → feature < length features → shown ≡ get_or features feature shown
    → slice_get (map feature_of features) feature ≡ Some it → shown.tags.items ≡ it.tags
feature_tags features feature shown it within here there =
    let both : Some (feature_of shown) ≡ Some it =
    ap (option_map feature_of) (sym (slice_get_read features (length features) feature shown refl within here)) ∙ sym (slice_get-map feature_of features feature) ∙ there in
    let same : feature_of shown ≡ it = cc in
    ap (λ (record_of : FeatureRecord). record_of.tags) same

-- of two pairs, the one that is before the next but not before this one is this one
this_pair : (to pair earlier : ℕ) → to ≡ 2 * pair → 2 * earlier < to + 2 → to ≤ 2 * earlier → 2 * earlier ≡ to
this_pair to pair earlier even below following = omega arith

-- one more pair is met, where the numbers are no less than before and greater than its indices
pub IsMetBefore-pair : (keys values more_keys more_values : ℕ) (tags : List ℕ) (to key value : ℕ) → IsMetBefore keys values tags to
    → slice_get tags to ≡ Some key → slice_get tags (to + 1) ≡ Some value → keys ≤ more_keys → values ≤ more_values → key < more_keys → value < more_values
    → IsMetBefore more_keys more_values tags (to + 2)
IsMetBefore-pair keys values more_keys more_values tags to key value met here following no_fewer_keys no_fewer_values in_keys in_values = record {
  pair = met.pair + 1;
  even = let so_far : to ≡ 2 * met.pair = met.even in omega arith;
  key = λ earlier other below there. elim (cases_lt (2 * earlier) to) [
    | inl before ↦ let held : other < keys = met.key earlier other before there in omega arith
    | inr at_least ↦ let at : 2 * earlier ≡ to = this_pair to met.pair earlier met.even below at_least in
        let same : other ≡ key = one_number tags to other key (subst (λ (place : ℕ). slice_get tags place ≡ Some other) at there) here in
        omega arith
  ];
  value = λ earlier other below there. elim (cases_lt (2 * earlier) to) [
    | inl before ↦ let held : other < values = met.value earlier other before there in omega arith
    | inr at_least ↦ let at : 2 * earlier ≡ to = this_pair to met.pair earlier met.even below at_least in
        let same : other ≡ value = one_number tags (to + 1) other value (subst (λ (place : ℕ). slice_get tags (place + 1) ≡ Some other) at there) following in
        omega arith
  ];
}

-- tags that are met to their end find their keys and values
pub AreMetBy-all : (needs : TagNeeds) (tags : List ℕ) (to : ℕ) → length tags ≤ to + 1 → IsMetBefore needs.keys needs.values tags to → AreMetBy needs tags
AreMetBy-all needs tags to all met = record { keys = no_key; values = no_value }
  where
    before_end : (place pair pairs : ℕ) → place ≡ 2 * pair → length tags ≡ 2 * pairs → place < length tags → place < to
    before_end place pair pairs first even within = let so_far : to ≡ 2 * met.pair = met.even in omega arith

    no_key : (count place : ℕ) → needs.keys ≤ count → ¬ NoSuchKey count tags place
    no_key count place enough broken =
        let first : place ≡ 2 * broken.here.pair = broken.here.first in
        let below : place < to = before_end place broken.here.pair broken.here.pairs first broken.here.even (slice_get_within tags place broken.key broken.here.here) in
        let beyond : count ≤ broken.key = broken.beyond in
        let held : broken.key < needs.keys = met.key broken.here.pair broken.key (omega arith) (subst (λ (at : ℕ). slice_get tags at ≡ Some broken.key) first broken.here.here) in
        absurd (omega arith)

    no_value : (count place : ℕ) → needs.values ≤ count → ¬ NoSuchValue count tags place
    no_value count place enough broken =
        let second : place ≡ 2 * broken.here.pair + 1 = broken.here.second in
        let within : place < length tags = slice_get_within tags place broken.value broken.here.here in
        let even : length tags ≡ 2 * broken.here.pairs = broken.here.even in
        let below : 2 * broken.here.pair < to = before_end (2 * broken.here.pair) broken.here.pair broken.here.pairs refl even (omega arith) in
        let beyond : count ≤ broken.value = broken.beyond in
        let held : broken.value < needs.values = met.value broken.here.pair broken.value below (subst (λ (at : ℕ). slice_get tags at ≡ Some broken.value) second broken.here.here) in
        absurd (omega arith)
