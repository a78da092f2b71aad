-- Lakes: which holes of lands are near the exteriors of other polygons.
use Rattle.std.proofs.Common.{◌≡◌, ◌≢◌, ◌⊎◌, inl, inr, ℕ, ◌+◌, ◌<◌, Bool, false, List, [], ◌∷◌, ◌++◌, length, get_or, set, slice_get, Option, Some, ℤ, IfSome, sym, ◌∙◌, ap, subst, arith, below_more, get_or-set_other, get_or-set_same}
use Rattle.std.proofs.lemmas.Bool.{cases_eq}
use Rattle.std.proofs.lemmas.List.{length_push}
use Rattle.std.proofs.lemmas.Option.{same_Some, slice_get-get_or, slice_get_within}
use Rattle.mvt_rules.specs.Polygon.{PolygonRings, IsHoleOf, IsRingOf}
use Rattle.mvt_plane.specs.Position.{Position}
use Rattle.mvt_plane.proofs.Orders.Order.{zs}
use Rattle.mvt_feature.specs.Calls.Cells.{AreCells, AreRefined, AreRingSpans, AreSpansApart, HasRingSpans, span_at}
use Rattle.mvt_feature.specs.Calls.FeatureParts.{listed_at}
use Rattle.mvt_feature.specs.Calls.Islands.{AreRingsFarApart}
use Rattle.mvt_feature.specs.Calls.Lands.{AreFirstCells, AreHeld, AreLakes, AreLakesParted, AreLakesUnmarked, AreLands, HoldsHole, IsHeld, IsLakeOf, IsOnlyLake, IsSingleLakeOf, land_of}
use Rattle.mvt_rules.proofs.Rings.SamePolygons.{one_polygon}
use Rattle.mvt_polygon.specs.Polygons.{ArePolygons}
use Rattle.mvt_feature.specs.declared.feature.lakes.Held.{Held}
use Rattle.mvt_feature.specs.declared.feature.lakes.Held.TheVariants.{Empty}
use Rattle.mvt_polygon.proofs.ApartFaults.{rings_listed}
use Rattle.mvt_sweep.proofs.Chains.ChainParts.{in_longer}

-- what is read from a list
pub read_as : {X : Type 0} (xs : List X) (at : ℕ) (it default : X) → at < length xs → it ≡ get_or xs at it → it ≡ get_or xs at default
read_as xs at it default within is = is ∙ same_Some (get_or xs at it) (get_or xs at default) (sym (slice_get-get_or xs at it within) ∙ slice_get-get_or xs at default within)

-- what holds if there is something, of what there is
pub of_some : (Holds_of : ℕ → Type 0) (it : Option ℕ) (hole : ℕ) → IfSome it Holds_of → it ≡ Some hole → Holds_of hole
of_some Holds_of it hole holds is = subst (λ (its : Option ℕ). IfSome its Holds_of) is holds

-- Held holes

-- a hole that was held is held after a change of one cell that keeps its holes
pub still_held : (ring_cells : List ℕ) (held : List Held) (cell hole : ℕ) (it : Held) → cell < length held → (HoldsHole (get_or held cell Empty) hole → HoldsHole it hole) → IsHeld ring_cells held hole
    → IsHeld ring_cells (set held cell it) hole
still_held ring_cells held cell hole it within keeps is = elim (cases_eq (get_or ring_cells hole 0) cell) [
  | inl same ↦
      let before : HoldsHole (get_or held cell Empty) hole = subst (λ (at : ℕ). HoldsHole (get_or held at Empty) hole) same is in
      subst (λ (at : ℕ). HoldsHole (get_or (set held cell it) at Empty) hole) (sym same)
      (subst (λ (its : Held). HoldsHole its hole) (sym (get_or-set_same held cell it Empty within)) (keeps before))
  | inr differ ↦ subst (λ (its : Held). HoldsHole its hole) (sym (get_or-set_other held cell (get_or ring_cells hole 0) it Empty differ)) is
]

-- the one that is added is held
pub now_held : (ring_cells : List ℕ) (held : List Held) (hole : ℕ) (it : Held) → get_or ring_cells hole 0 < length held → HoldsHole it hole → IsHeld ring_cells (set held (get_or ring_cells hole 0) it) hole
now_held ring_cells held hole it within is =
    subst (λ (its : Held). HoldsHole its hole) (sym (get_or-set_same held (get_or ring_cells hole 0) it Empty within)) is

-- where the land has one hole, that is the only lake
pub single_lake : (rings : List (List Position)) (it its : PolygonRings) (mark : Bool) (hole : ℕ) → IsSingleLakeOf its mark hole → IsOnlyLake rings it its hole
single_lake rings it its mark hole single =
    let first = single.first in
    let last = single.last in
    record {
      is = record { following = omega arith; before = omega arith };
      far = λ other ring vertices of_its differ here its_here.
          let following = of_its.following in
          let before = of_its.before in
          absurd (differ (omega arith));
    }

-- those of one more polygon
pub more_held : (polygons : List (ℕ × ℕ)) (ring_cells : List ℕ) (count : ℕ) (before newer : List Held) → AreHeld polygons ring_cells count before → length newer ≡ length before
    → ((hole : ℕ) → IsHoleOf (listed_at polygons count) hole → IsHeld ring_cells newer hole) → ((hole : ℕ) → IsHeld ring_cells before hole → IsHeld ring_cells newer hole)
    → AreHeld polygons ring_cells (count + 1) newer
more_held polygons ring_cells count before newer so_far size added kept = record {
  size = size ∙ so_far.size;
  all = below_more (λ (polygon : ℕ). (hole : ℕ) → IsHoleOf (listed_at polygons polygon) hole → IsHeld ring_cells newer hole) count (λ polygon below hole is. kept hole (so_far.all polygon below hole is)) added;
}

-- First cells

-- a ring of another polygon of the list
other_ring : (rings : List (List Position)) (polygons : List (ℕ × ℕ)) (polygon other ring : ℕ) → ArePolygons rings polygons → polygon < other → other < length polygons
    → IsRingOf (listed_at polygons polygon) ring → ¬ IsRingOf (listed_at polygons other) ring
other_ring rings polygons polygon other ring listed before within of_it of_other =
    let same = (one_polygon rings ring polygon other (listed_at polygons polygon) (listed_at polygons other) (rings_listed rings polygons polygon listed (omega arith)) of_it (rings_listed rings polygons other listed within) of_other).0 in
    absurd (omega arith)

-- the cells of the rings of one more polygon
pub more_first : (rings : List (List Position)) (polygons : List (ℕ × ℕ)) (cells lands : List ℕ) (polygon ring_count : ℕ) (before newer : List ℕ) → ArePolygons rings polygons → polygon < length polygons
    → AreFirstCells polygons cells lands polygon ring_count before → length newer ≡ length before
    → ((ring : ℕ) → ¬ IsRingOf (listed_at polygons polygon) ring → get_or newer ring 0 ≡ get_or before ring 0)
    → (land_of cells lands polygon ≢ polygon → get_or newer (listed_at polygons polygon).exterior 0 ≡ get_or cells polygon 0)
    → (land_of cells lands polygon ≡ polygon → (hole : ℕ) → IsHoleOf (listed_at polygons polygon) hole → get_or newer hole 0 ≡ get_or cells polygon 0)
    → AreFirstCells polygons cells lands (polygon + 1) ring_count newer
more_first rings polygons cells lands polygon ring_count before newer listed within so_far size kept exterior holes = record {
  size = size ∙ so_far.size;
  exteriors = below_more (λ (it : ℕ). land_of cells lands it ≢ it → get_or newer (listed_at polygons it).exterior 0 ≡ get_or cells it 0) polygon
      (λ it below no_land.
      let further = (rings_listed rings polygons it listed (omega arith)).further in
      let its : IsRingOf (listed_at polygons it) (listed_at polygons it).exterior = record { from = omega arith; before = further } in
      kept (listed_at polygons it).exterior (other_ring rings polygons it polygon (listed_at polygons it).exterior listed below within its) ∙ so_far.exteriors it below no_land)
      exterior;
  holes = below_more (λ (it : ℕ). land_of cells lands it ≡ it → (hole : ℕ) → IsHoleOf (listed_at polygons it) hole → get_or newer hole 0 ≡ get_or cells it 0) polygon
      (λ it below land hole is.
      let following = is.following in
      let its : IsRingOf (listed_at polygons it) hole = record { from = omega arith; before = is.before } in
      kept hole (other_ring rings polygons it polygon hole listed below within its) ∙ so_far.holes it below land hole is)
      holes;
}

-- Cells of rings

-- spans that are apart make the bounds of rings apart
pub rings_far : (rings : List (List Position)) (one other : ℕ) (ring vertices : List Position) (across its_across upward its_upward : ℤ × ℤ) → HasRingSpans rings one across upward → HasRingSpans rings other its_across its_upward
    → AreSpansApart across its_across ⊎ AreSpansApart upward its_upward → slice_get rings one ≡ Some ring → slice_get rings other ≡ Some vertices → AreRingsFarApart ring vertices
rings_far rings one other ring vertices across its_across upward its_upward first second apart there its_there = record {
  its = first.bounds;
  others = second.bounds;
  of_it = first.of ring there;
  of_other = second.of vertices its_there;
  apart = λ position within its_within.
      let left = within.left in
      let right = within.right in
      let low = within.low in
      let high = within.high in
      let its_left = its_within.left in
      let its_right = its_within.right in
      let its_low = its_within.low in
      let its_high = its_within.high in
      let l = first.left in
      let r = first.right in
      let b = first.low in
      let t = first.high in
      let il = second.left in
      let ir = second.right in
      let ib = second.low in
      let it = second.high in
      elim apart [
        | inl aside ↦ elim aside [ inl less ↦ absurd (omega (arith, zs)) | inr less ↦ absurd (omega (arith, zs)) ]
        | inr above ↦ elim above [ inl less ↦ absurd (omega (arith, zs)) | inr less ↦ absurd (omega (arith, zs)) ]
      ];
}

-- the exterior of a polygon and the holes of its land have one cell at first
pub lakes_parted : (rings : List (List Position)) (polygons : List (ℕ × ℕ)) (cells lands : List ℕ) (ring_count : ℕ) (across upward : List (ℤ × ℤ)) (first ring_cells : List ℕ) → length rings ≡ ring_count
    → AreCells (length polygons) cells → AreLands cells (length cells) lands → AreRingSpans rings ring_count across upward → AreFirstCells polygons cells lands (length polygons) ring_count first → AreRefined across upward first ring_cells
    → AreLakesParted rings polygons cells lands ring_cells
lakes_parted rings polygons cells lands ring_count across upward first ring_cells count known has spans begun refined polygon hole ring vertices within no_land of_land differ there its_there =
    let exterior = (listed_at polygons polygon).exterior in
    let land = land_of cells lands polygon in
    let size = known.size in
    let below : land < length cells = has.known.below (get_or cells polygon 0) (omega (arith, known.below polygon within)) in
    let cell : get_or cells land 0 ≡ get_or cells polygon 0 = has.own polygon (omega arith) in
    let own : land_of cells lands land ≡ land = ap (λ (at : ℕ). get_or lands at 0) cell in
    let one : get_or first exterior 0 ≡ get_or cells polygon 0 = begun.exteriors polygon within no_land in
    let other : get_or first hole 0 ≡ get_or cells land 0 = begun.holes land (omega arith) own hole of_land in
    let first_size = begun.size in
    let here = slice_get_within rings exterior ring there in
    let its_here = slice_get_within rings hole vertices its_there in
    rings_far rings exterior hole ring vertices (span_at across exterior) (span_at across hole) (span_at upward exterior) (span_at upward hole) (spans.each exterior (omega arith)) (spans.each hole (omega arith))
    (refined exterior hole (omega arith) (omega arith) (one ∙ sym cell ∙ sym other) differ) there its_there

-- The lake of a polygon

-- it is the only one, where its cell holds no other hole
pub only_lake : (rings : List (List Position)) (polygons : List (ℕ × ℕ)) (cells lands ring_cells : List ℕ) (held : List Held) (polygon hole : ℕ) (mark : Bool) → AreCells (length polygons) cells
    → AreLands cells (length cells) lands → AreLakesParted rings polygons cells lands ring_cells → AreHeld polygons ring_cells (length polygons) held → polygon < length polygons
    → land_of cells lands polygon ≢ polygon → IsLakeOf (listed_at polygons (land_of cells lands polygon)) (get_or held (get_or ring_cells (listed_at polygons polygon).exterior 0) Empty) mark hole
    → IsOnlyLake rings (listed_at polygons polygon) (listed_at polygons (land_of cells lands polygon)) hole
only_lake rings polygons cells lands ring_cells held polygon hole mark known has parted all within no_land lake =
    let land = land_of cells lands polygon in
    let exterior = (listed_at polygons polygon).exterior in
    let size = known.size in
    let below : land < length cells = has.known.below (get_or cells polygon 0) (omega (arith, known.below polygon within)) in
    record {
      is = lake.is;
      far = λ other ring vertices is differ there its_there.
          parted polygon other ring vertices within no_land is
          (λ same.
          let held_here : HoldsHole (get_or held (get_or ring_cells exterior 0) Empty) other = subst (λ (at : ℕ). HoldsHole (get_or held at Empty) other) (sym same) (all.all land (omega arith) other is) in
          let one : hole ≡ other = subst (λ (its : Held). HoldsHole its other) lake.only held_here in
          differ (sym one))
          there its_there;
    }

-- one more lake
pub more_lakes : (rings : List (List Position)) (polygons : List (ℕ × ℕ)) (cells lands : List ℕ) (polygon : ℕ) (before newer : List (Option ℕ)) (lake : Option ℕ) → AreLakes rings polygons cells lands polygon before
    → (land_of cells lands polygon ≢ polygon → (hole : ℕ) → lake ≡ Some hole → IsOnlyLake rings (listed_at polygons polygon) (listed_at polygons (land_of cells lands polygon)) hole)
    → newer ≡ before ++ lake ∷ [] → AreLakes rings polygons cells lands (polygon + 1) newer
more_lakes rings polygons cells lands polygon before newer lake so_far last more =
    let length_more = length_push before lake in
    let size = so_far.size in
    let same : length newer ≡ length (before ++ lake ∷ []) = ap length more in
    record {
      size = omega arith;
      only = λ it hole below no_land there. elim (in_longer before lake it (Some hole) (sym (ap (λ (its : List (Option ℕ)). slice_get its it) more) ∙ there)) [
        | inl earlier ↦
            let inside = slice_get_within before it (Some hole) earlier in
            so_far.only it hole (omega arith) no_land earlier
        | inr here ↦
            let is : it ≡ polygon = here.0 ∙ so_far.size in
            subst (λ (its : ℕ). land_of cells lands its ≢ its → IsOnlyLake rings (listed_at polygons its) (listed_at polygons (land_of cells lands its)) hole) (sym is) (λ no. last no hole here.1) no_land
      ];
    }

-- it isn't marked
pub more_unmarked : (marks : List Bool) (before newer : List (Option ℕ)) (lake : Option ℕ) → AreLakesUnmarked marks before → ((hole : ℕ) → lake ≡ Some hole → get_or marks (length before) false ≡ false)
    → newer ≡ before ++ lake ∷ [] → AreLakesUnmarked marks newer
more_unmarked marks before newer lake so_far last more polygon hole there = elim (in_longer before lake polygon (Some hole) (sym (ap (λ (its : List (Option ℕ)). slice_get its polygon) more) ∙ there)) [
  | inl earlier ↦ so_far polygon hole earlier
  | inr here ↦ subst (λ (its : ℕ). get_or marks its false ≡ false) (sym here.0) (last hole here.1)
]
