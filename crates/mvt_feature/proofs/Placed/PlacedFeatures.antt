-- Where all polygons are placed, by notes of the rings around rings; and how many polygons are around each ring.
use Rattle.std.proofs.Common.{◌≡◌, ◌↔◌, inl, inr, ℕ, suc, ◌^◌, ◌<◌, ◌≤◌, Bool, false, IsTrue, List, length, slice_get, Some, sym, ◌∙◌, subst, arith}
use Rattle.std.proofs.lemmas.Bool.{cases_lt}
use Rattle.std.proofs.lemmas.Option.{slice_get_within, same_Some}
use Rattle.mvt_rules.specs.Polygon.{PolygonRings, IsExteriorOf, first, next, IsPolygon, IsHoleOf}
use Rattle.mvt_plane.specs.Position.{Position}
use Rattle.mvt_feature.specs.Feature.{IsPlaced}
use Rattle.mvt_feature.specs.Calls.FeatureParts.{AreAllPlaced}
use Rattle.mvt_sweep.specs.Meeting.{NoMeeting}
use Rattle.mvt_feature.specs.Calls.Passings.{AreAroundExteriors, AreCounts, AreInwards, ArePassings, HasRightNotes}
use Rattle.mvt_rules.specs.Ring.{ArePolygonRings}
use Rattle.mvt_rules.proofs.Rings.PolygonNumbers.{polygon_of_ring}
use Rattle.mvt_rules.proofs.Rings.SamePolygons.{polygon_begins_within, same_polygon}
use Rattle.mvt_polygon.specs.Polygons.{ArePolygons}
use Rattle.mvt_sweep.specs.Rings.{AreProperRings}
use Rattle.mvt_sweep.specs.RingsAround.{AreNoted, nearest_at, odd_at}
use Rattle.mvt_sweep.specs.Swept.{IsNotedClear}
use Rattle.mvt_feature.specs.declared.feature.passing.Passing.{Passing}
use Rattle.mvt_sweep.specs.declared.sweep.notes.Around.{Around}
use Rattle.mvt_sweep.specs.declared.sweep.notes.RingNotes.{RingNotes}
use Rattle.mvt_polygon.proofs.ApartFaults.{rings_at, rings_listed}
use Rattle.mvt_feature.proofs.Placed.OwnPassings.{noted_by}
use Rattle.mvt_feature.proofs.Placed.PolygonCounts.{around_count, around_most, outermost_count, next_count, count_decides, apart_by_count}
use Rattle.mvt_feature.proofs.Placed.RightNotes.{AreNotesRight, AreClear, right_is_clear, clear_is_right}
use Rattle.mvt_sweep.proofs.Vertices.RingReads.{fails}

-- ---- polygons of a list

-- the list has each polygon
same_listed : (rings : List (List Position)) (polygons : List (ℕ × ℕ)) (polygon : ℕ) (it : PolygonRings) → ArePolygons rings polygons → IsPolygon rings polygon it
    → (polygon < length polygons) × (rings_at polygons polygon ≡ it)
same_listed rings polygons polygon it listed is_it =
    let within = slice_get_within polygons polygon (it.exterior, it.after) (listed.all polygon it is_it) in
    (within, same_polygon rings polygon (rings_at polygons polygon) it (rings_listed rings polygons polygon listed within) is_it)

-- an exterior has no lesser number than its polygon
exterior_at_least : (rings : List (List Position)) (polygon exterior : ℕ) → IsExteriorOf rings polygon exterior → polygon ≤ exterior
exterior_at_least rings _ _ (first exterior is_exterior none) = omega arith
exterior_at_least rings _ _ (next polygon before exterior begins less is_exterior none) = let earlier = exterior_at_least rings polygon before begins in omega arith

-- so there are no more polygons than rings
few_polygons : (rings : List (List Position)) (polygons : List (ℕ × ℕ)) → ArePolygons rings polygons → length polygons ≤ length rings
few_polygons rings polygons listed = elim (cases_lt (length rings) (length polygons)) [
  | inr few ↦ few
  | inl more ↦
      let it = rings_at polygons (length rings) in
      let is_it = rings_listed rings polygons (length rings) listed more in
      let least = exterior_at_least rings (length rings) it.exterior is_it.begins in
      let within = polygon_begins_within rings (length rings) it.exterior is_it.begins in
      absurd (omega arith)
]

-- ---- placed polygons

-- one that the list has in its place is placed
pub placed_as_listed : (rings : List (List Position)) (polygons : List (ℕ × ℕ)) (polygon : ℕ) (it : PolygonRings) → ArePolygons rings polygons → IsPolygon rings polygon it
    → IsPlaced rings polygon (rings_at polygons polygon) → IsPlaced rings polygon it
placed_as_listed rings polygons polygon it listed is_it placed = subst (IsPlaced rings polygon) (same_listed rings polygons polygon it listed is_it).1 placed

-- where each polygon of the list is placed, all are
pub all_placed : (rings : List (List Position)) (polygons : List (ℕ × ℕ)) → ArePolygons rings polygons
    → ((polygon : ℕ) → polygon < length polygons → IsPlaced rings polygon (rings_at polygons polygon)) → AreAllPlaced rings
all_placed rings polygons listed placed polygon it is_it =
    let same = same_listed rings polygons polygon it listed is_it in
    subst (IsPlaced rings polygon) same.1 (placed polygon same.0)

-- that is where no polygon has a fault
clear_where_placed : (rings : List (List Position)) → AreAllPlaced rings → AreClear rings
clear_where_placed rings placed = record {
  nesting = λ polygon it is_it. (placed polygon it is_it).nested;
  apart = λ polygon vertex other fault. (placed polygon fault.polygon_rings fault.there).alone vertex other fault;
}

-- and the other way round
placed_where_clear : (rings : List (List Position)) → AreClear rings → AreAllPlaced rings
placed_where_clear rings clear polygon it is_it = record { nested = clear.nesting polygon it is_it; alone = clear.apart polygon }

-- ---- right notes

-- the notes of each polygon of the list are right
abbrev pub AreRightOf : List (ℕ × ℕ) → List Around → Type 0
AreRightOf polygons notes = (polygon : ℕ) → polygon < length polygons → HasRightNotes notes (rings_at polygons polygon) (rings_at polygons polygon).after

-- exactly where those of all are
right_of_all : (rings : List (List Position)) (polygons : List (ℕ × ℕ)) (notes : List Around) → ArePolygons rings polygons
    → AreRightOf polygons notes ↔ AreNotesRight rings (nearest_at notes) (odd_at notes)
right_of_all rings polygons notes listed = (
  λ right. record {
    even = λ polygon it is_it.
        let same = same_listed rings polygons polygon it listed is_it in
        subst (λ (its : PolygonRings). odd_at notes its.exterior ≡ false) same.1 (right polygon same.0).even;
    directly = λ polygon it hole is_it is.
        let same = same_listed rings polygons polygon it listed is_it in
        let own : IsHoleOf (rings_at polygons polygon) hole = subst (λ (its : PolygonRings). IsHoleOf its hole) (sym same.1) is in
        subst (λ (its : PolygonRings). nearest_at notes hole ≡ Some its.exterior) same.1 ((right polygon same.0).directly hole own.following own.before);
  },
  λ right polygon within.
      let it = rings_at polygons polygon in
      let is_it = rings_listed rings polygons polygon listed within in
      record { even = right.even polygon it is_it; directly = λ hole following before. right.directly polygon it hole is_it (record { following = following; before = before }) },
)

-- where they are right, all polygons are placed
pub placed_by_notes : (rings : List (List Position)) (polygons : List (ℕ × ℕ)) (notes : RingNotes) → ArePolygonRings rings → AreProperRings rings → ArePolygons rings polygons → IsNotedClear rings notes
    → AreRightOf polygons notes.around.items → AreAllPlaced rings
placed_by_notes rings polygons notes able proper listed noted right =
    placed_where_clear rings (right_is_clear rings able noted.clear proper (noted_by rings notes.around.items notes.come_to.items noted.noted)
    ((right_of_all rings polygons notes.around.items listed).0 right))

-- and the other way round
pub right_where_placed : (rings : List (List Position)) (polygons : List (ℕ × ℕ)) (notes : RingNotes) → ArePolygonRings rings → AreProperRings rings → ArePolygons rings polygons → IsNotedClear rings notes
    → AreAllPlaced rings → AreRightOf polygons notes.around.items
right_where_placed rings polygons notes able proper listed noted placed =
    (right_of_all rings polygons notes.around.items listed).1
    (clear_is_right rings able noted.clear proper (noted_by rings notes.around.items notes.come_to.items noted.noted) (clear_where_placed rings placed))

-- so they aren't all placed where a test of the notes failed
pub not_placed : (rings : List (List Position)) (polygons : List (ℕ × ℕ)) (notes : RingNotes) (test : Bool) → ArePolygonRings rings → AreProperRings rings → ArePolygons rings polygons
    → IsNotedClear rings notes → IsTrue test ↔ AreRightOf polygons notes.around.items → test ≡ false → ¬ AreAllPlaced rings
not_placed rings polygons notes test able proper listed noted decides failed placed =
    fails (AreRightOf polygons notes.around.items) test decides failed (right_where_placed rings polygons notes able proper listed noted placed)

-- ---- numbers of polygons

-- the order of the notes, by the list of what rings are
pub in_order : (rings : List (List Position)) (notes : List Around) (come_to : List ℕ) (count : ℕ) → AreNoted rings notes come_to → length rings ≡ count → AreInwards count notes come_to
in_order rings notes come_to count noted size = subst (λ (many : ℕ). AreInwards many notes come_to) size (record {
  noted = noted.count;
  known = noted.known;
  listed = noted.listed;
  only = noted.only;
  following = noted.following;
})

-- how many polygons are around each ring
pub are_counts : (rings : List (List Position)) (polygons : List (ℕ × ℕ)) (notes : List Around) (come_to : List ℕ) (passings : List Passing) → ArePolygonRings rings → ArePolygons rings polygons
    → AreNoted rings notes come_to → ArePassings rings passings → length passings ≡ length rings → length passings < 2 ^ 64 → AreCounts notes passings (around_count rings polygons)
are_counts rings polygons notes come_to passings able listed noted passed size fits =
    let by = noted_by rings notes come_to noted in
    record {
      few = λ ring. omega (arith, around_most rings polygons ring, few_polygons rings polygons listed);
      outermost = λ ring within none. outermost_count rings polygons by ring (omega arith) none;
      inner = λ ring near passing within is there.
          let here : ring < length rings = omega arith in
          let home = polygon_of_ring rings near able (noted.known ring near here is) in
          next_count rings polygons by listed home.0 home.1 ring near passing here is home.2 home.3 (passed.each home.0 near home.1 passing home.2 home.3 there);
    }

-- and what those of the exteriors say
pub around_exteriors : (rings : List (List Position)) (polygons : List (ℕ × ℕ)) (around : List ℕ) → NoMeeting rings → ArePolygons rings polygons → length around ≡ length rings
    → ((ring : ℕ) → ring < length rings → slice_get around ring ≡ Some (around_count rings polygons ring)) → AreAroundExteriors rings around
around_exteriors rings polygons around clear listed size counts = record {
  count = size;
  none = λ polygon its is_its there.
      let within = polygon_begins_within rings polygon its.exterior is_its.begins in
      let none : around_count rings polygons its.exterior ≡ 0 = same_Some (around_count rings polygons its.exterior) 0 (sym (counts its.exterior within) ∙ there) in
      apart_by_count rings polygons polygon its clear listed is_its none;
  some = λ polygon many its is_its there.
      let within = polygon_begins_within rings polygon its.exterior is_its.begins in
      let some : around_count rings polygons its.exterior ≡ suc many = same_Some (around_count rings polygons its.exterior) (suc many) (sym (counts its.exterior within) ∙ there) in
      (count_decides rings polygons polygon its clear listed is_its).0 (omega arith);
}
