-- The first polygons of a feature, by the list of all.
use Rattle.std.proofs.Common.{◌≡◌, ℕ, suc, ◌<◌, ◌≤◌, inl, inr, List, length, take, sym, ◌∙◌, ap, subst, arith}
use Rattle.std.proofs.lemmas.Bool.{cases_lt, cases_order}
use Rattle.std.proofs.lemmas.Option.{slice_get_within}
use Rattle.mvt_rules.specs.Polygon.{IsExteriorOf, first, next, PolygonRings, IsPolygon, IsRingOf}
use Rattle.mvt_plane.specs.Position.{Position}
use Rattle.mvt_feature.specs.Calls.FeatureParts.{listed_at}
use Rattle.mvt_rules.specs.Ring.{ArePolygonRings}
use Rattle.mvt_rules.proofs.Rings.PolygonNumbers.{polygon_of_ring}
use Rattle.mvt_rules.proofs.Rings.SamePolygons.{exterior_of_polygon, polygon_begins_within, same_polygon}
use Rattle.mvt_polygon.specs.Polygons.{ArePolygons}
use Rattle.mvt_polygon.proofs.ApartFaults.{rings_listed}
use Rattle.mvt_feature.proofs.Features.FirstRings.{AreWhole, begins_among_first, in_first, of_first, polygon_in_first, polygon_of_first}

-- Polygons come in turn

-- up to an exterior
pub numbers_up_to : (rings : List (List Position)) (polygon other one another : ℕ) → IsExteriorOf rings polygon one → IsExteriorOf rings other another → one ≤ another → polygon ≤ other
numbers_up_to rings _ other _ another (first one is_exterior none) others below = omega arith
numbers_up_to rings _ _ _ _ (next polygon before one begins less is_exterior none) (first another is_another none_before) below =
    absurd (none_before before (omega arith) (omega arith) (exterior_of_polygon rings polygon before begins))
numbers_up_to rings _ _ _ _ (next polygon before one begins less is_exterior none) (next other its_before another its_begins its_less is_another its_none) below = elim (cases_lt its_before before) [
  | inl following ↦ absurd (its_none before following (omega arith) (exterior_of_polygon rings polygon before begins))
  | inr up_to ↦ let most = numbers_up_to rings polygon other before its_before begins its_begins up_to in omega arith
]

-- a polygon ends before a later one begins
pub in_turn : (rings : List (List Position)) (polygon other : ℕ) (it its : PolygonRings) → IsPolygon rings polygon it → IsPolygon rings other its → polygon < other → it.after ≤ its.exterior
in_turn rings polygon other it its is_it is_its less = elim (cases_lt it.exterior its.exterior) [
  | inl before ↦ elim (cases_lt its.exterior it.after) [
    | inl within ↦ absurd (is_it.holes its.exterior before within (exterior_of_polygon rings other its.exterior is_its.begins))
    | inr following ↦ following
  ]
  | inr following ↦
      let most : other ≤ polygon = numbers_up_to rings other polygon its.exterior it.exterior is_its.begins is_it.begins following in
      absurd (omega arith)
]

-- so one that begins before another has a lesser number
pub number_in_turn : (rings : List (List Position)) (polygon other : ℕ) (it its : PolygonRings) → IsPolygon rings polygon it → IsPolygon rings other its → it.exterior < its.exterior → polygon < other
number_in_turn rings polygon other it its is_it is_its before = elim (cases_order polygon other) [
  | inl same ↦
      let one : it ≡ its = same_polygon rings other it its (subst (λ (number : ℕ). IsPolygon rings number it) same is_it) is_its in
      let begins : it.exterior ≡ its.exterior = ap (λ (rings : PolygonRings). rings.exterior) one in
      absurd (omega arith)
  | inr (inl less) ↦ less
  | inr (inr more) ↦
      let ends : its.after ≤ it.exterior = in_turn rings other polygon its it is_its is_it more in
      let further : its.exterior < its.after = is_its.further in
      absurd (omega arith)
]

-- The list

-- one that is there is in the list
pub listed_within : (rings : List (List Position)) (polygons : List (ℕ × ℕ)) (polygon : ℕ) (it : PolygonRings) → ArePolygons rings polygons → IsPolygon rings polygon it → polygon < length polygons
listed_within rings polygons polygon it listed is_it = slice_get_within polygons polygon (it.exterior, it.after) (listed.all polygon it is_it)

-- the list has its rings
pub is_listed : (rings : List (List Position)) (polygons : List (ℕ × ℕ)) (polygon : ℕ) (it : PolygonRings) → ArePolygons rings polygons → IsPolygon rings polygon it → listed_at polygons polygon ≡ it
is_listed rings polygons polygon it listed is_it =
    same_polygon rings polygon (listed_at polygons polygon) it (rings_listed rings polygons polygon listed (listed_within rings polygons polygon it listed is_it)) is_it

-- the polygon of a ring
pub record IsOfListed (polygons : List (ℕ × ℕ)) (ring : ℕ) : Type 0 where
  pub polygon : ℕ
  pub within : polygon < length polygons
  pub of : IsRingOf (listed_at polygons polygon) ring

-- each ring has one
pub of_listed : (rings : List (List Position)) (polygons : List (ℕ × ℕ)) (ring : ℕ) → ArePolygonRings rings → ArePolygons rings polygons → ring < length rings → IsOfListed polygons ring
of_listed rings polygons ring sound listed within =
    let home = polygon_of_ring rings ring sound within in
    record {
      polygon = home.0;
      within = listed_within rings polygons home.0 home.1 listed home.2;
      of = subst (λ (it : PolygonRings). IsRingOf it ring) (sym (is_listed rings polygons home.0 home.1 listed home.2)) home.3;
    }

-- the first polygon begins with the first ring
pub first_listed : (rings : List (List Position)) (polygons : List (ℕ × ℕ)) → ArePolygonRings rings → ArePolygons rings polygons → 0 < length polygons → (listed_at polygons 0).exterior ≡ 0
first_listed rings polygons sound listed some =
    let it = listed_at polygons 0 in
    let is_it = rings_listed rings polygons 0 listed some in
    let begins : it.exterior < length rings = polygon_begins_within rings 0 it.exterior is_it.begins in
    let home = of_listed rings polygons 0 sound listed (omega arith) in
    let from : (listed_at polygons home.polygon).exterior ≤ 0 = home.of.from in
    elim (cases_lt 0 home.polygon) [
      | inl later ↦
          let ends : it.after ≤ (listed_at polygons home.polygon).exterior = in_turn rings 0 home.polygon it (listed_at polygons home.polygon) is_it (rings_listed rings polygons home.polygon listed home.within) later in
          let further : it.exterior < it.after = is_it.further in
          absurd (omega arith)
      | inr here ↦
          let same : home.polygon ≡ 0 = omega arith in
          let one : (listed_at polygons home.polygon).exterior ≡ it.exterior = ap (λ (number : ℕ). (listed_at polygons number).exterior) same in
          omega arith
    ]

-- after a polygon the next one begins
pub next_listed : (rings : List (List Position)) (polygons : List (ℕ × ℕ)) (polygon : ℕ) → ArePolygonRings rings → ArePolygons rings polygons → suc polygon < length polygons → (listed_at polygons polygon).after ≡ (listed_at polygons (suc polygon)).exterior
next_listed rings polygons polygon sound listed within =
    let it = listed_at polygons polygon in
    let its = listed_at polygons (suc polygon) in
    let is_it = rings_listed rings polygons polygon listed (omega arith) in
    let is_its = rings_listed rings polygons (suc polygon) listed within in
    let ends : it.after ≤ its.exterior = in_turn rings polygon (suc polygon) it its is_it is_its (omega arith) in
    let begins : its.exterior < length rings = polygon_begins_within rings (suc polygon) its.exterior is_its.begins in
    let home = of_listed rings polygons it.after sound listed (omega arith) in
    let between = listed_at polygons home.polygon in
    let is_between = rings_listed rings polygons home.polygon listed home.within in
    let from : between.exterior ≤ it.after = home.of.from in
    let before : it.after < between.after = home.of.before in
    let further : it.exterior < it.after = is_it.further in
    let its_further : its.exterior < its.after = is_its.further in
    elim (cases_order home.polygon (suc polygon)) [
      | inl same ↦
          let one : between.exterior ≡ its.exterior = ap (λ (number : ℕ). (listed_at polygons number).exterior) same in
          omega arith
      | inr (inl less) ↦ elim (cases_order home.polygon polygon) [
        | inl same ↦
            let one : between.after ≡ it.after = ap (λ (number : ℕ). (listed_at polygons number).after) same in
            absurd (omega arith)
        | inr (inl earlier) ↦
            let its_ends : between.after ≤ it.exterior = in_turn rings home.polygon polygon between it is_between is_it earlier in
            absurd (omega arith)
        | inr (inr later) ↦ absurd (omega arith)
      ]
      | inr (inr more) ↦
          let its_ends : its.after ≤ between.exterior = in_turn rings (suc polygon) home.polygon its between is_its is_between more in
          absurd (omega arith)
    ]

-- The first polygons

-- these first rings are those of the first so many polygons
pub record AreFirst (rings : List (List Position)) (polygons ring_count : ℕ) : Type 0 where
  pub whole : AreWhole rings ring_count
  pub begins : (polygon : ℕ) (it : PolygonRings) → IsPolygon rings polygon it → polygon < polygons → it.exterior < ring_count
  pub only : (polygon : ℕ) (it : PolygonRings) → IsPolygon rings polygon it → it.exterior < ring_count → polygon < polygons

-- all rings are those of all polygons
pub all_first : (rings : List (List Position)) (polygons : List (ℕ × ℕ)) → ArePolygons rings polygons → AreFirst rings (length polygons) (length rings)
all_first rings polygons listed = record {
  whole = record { within = omega arith; ends = inl (λ i. length rings) };
  begins = λ polygon it is_it before. polygon_begins_within rings polygon it.exterior is_it.begins;
  only = λ polygon it is_it begins. listed_within rings polygons polygon it listed is_it;
}

-- those before a polygon are of the polygons before it
pub before_first : (rings : List (List Position)) (polygons : List (ℕ × ℕ)) (count : ℕ) → ArePolygons rings polygons → count < length polygons → AreFirst rings count (listed_at polygons count).exterior
before_first rings polygons count listed within =
    let its = listed_at polygons count in
    let is_its = rings_listed rings polygons count listed within in
    let there : its.exterior < length rings = polygon_begins_within rings count its.exterior is_its.begins in
    record {
      whole = record { within = omega arith; ends = inr (exterior_of_polygon rings count its.exterior is_its.begins) };
      begins = λ polygon it is_it before.
          let ends : it.after ≤ its.exterior = in_turn rings polygon count it its is_it is_its before in
          let further : it.exterior < it.after = is_it.further in
          omega arith;
      only = λ polygon it is_it begins. number_in_turn rings polygon count it its is_it is_its begins;
    }

-- the first polygons are those of the first rings
pub first_are_listed : (rings : List (List Position)) (polygons : List (ℕ × ℕ)) (count ring_count : ℕ) → ArePolygons rings polygons → AreFirst rings count ring_count → ArePolygons (take ring_count rings) (take count polygons)
first_are_listed rings polygons count ring_count listed are = record {
  all = λ polygon it is_it.
      let of_all = polygon_of_first rings ring_count polygon it are.whole is_it in
      let before : polygon < count = are.only polygon it of_all (begins_among_first rings ring_count polygon it are.whole.within is_it) in
      in_first count polygons polygon before ∙ listed.all polygon it of_all;
  only = λ polygon exterior after there.
      let of_list = of_first count polygons polygon (exterior, after) there in
      let it : PolygonRings = record { exterior = exterior; after = after } in
      let is_it : IsPolygon rings polygon it = listed.only polygon exterior after of_list.1 in
      polygon_in_first rings ring_count polygon it are.whole (are.begins polygon it is_it of_list.0) is_it;
}
