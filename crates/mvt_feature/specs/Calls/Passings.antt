-- What the number of polygons around becomes within each ring of a feature.
use Rattle.std.specs.Prelude.{◌≡◌, ◌≢◌, ℕ, zero, suc, ◌+◌, ◌-◌, ◌==◌, ◌<◌, ◌^◌, false, cond, List, length, slice_get, Option, Some, None}
use Rattle.mvt_rules.specs.Parts.Rings.{part_of}
use Rattle.mvt_rules.specs.Polygon.{PolygonRings, IsPolygon, IsRingOf}
use Rattle.mvt_plane.specs.Position.{Position}
use Rattle.mvt_polygon.specs.Apart.{IsApartFault}
use Rattle.mvt_feature.specs.Calls.FeatureParts.{listed_at}
use Rattle.mvt_feature.specs.Calls.PolygonsAround.{EntersPolygon, LeavesPolygon}
use Rattle.mvt_sweep.specs.RingsAround.{nearest_at, odd_at}
use Rattle.mvt_sweep.specs.Work.{vertex_count}
use Rattle.mvt_feature.specs.declared.feature.passing.Passing.{Passing}
use Rattle.mvt_feature.specs.declared.feature.passing.Passing.TheVariants.{Enters, Leaves, Neither}
use Rattle.mvt_sweep.specs.declared.sweep.notes.Around.{Around}

-- Rings of one polygon

-- what this ring of a polygon is
abbrev pub IsPassing : List (List Position) → PolygonRings → ℕ → Passing → Type 0
IsPassing rings its ring Enters = EntersPolygon rings its ring
IsPassing rings its ring Leaves = LeavesPolygon rings its ring
IsPassing rings its ring Neither = (¬ EntersPolygon rings its ring) × (¬ LeavesPolygon rings its ring)

-- the same by the rings directly around the exterior, which is the ring 0, and around the ring of this number
abbrev pub passing_by : Option ℕ → ℕ → Option ℕ → Passing
passing_by (Some outer) ring nearest = Neither
passing_by None zero nearest = Enters
passing_by None (suc ring) None = Neither
passing_by None (suc ring) (Some zero) = Leaves
passing_by None (suc ring) (Some (suc hole)) = Neither

-- so many were added, and this is what they are
pub record AreAdded (many : ℕ) (Is : ℕ → Passing → Type 0) (before after : List Passing) : Type 0 where
  pub count : length after ≡ length before + many
  pub kept : (place : ℕ) → place < length before → slice_get after place ≡ slice_get before place
  pub each : (ring : ℕ) (passing : Passing) → ring < many → slice_get after (length before + ring) ≡ Some passing → Is ring passing

-- All rings

-- of each ring that is listed, by its number, what it is
pub record ArePassings (rings : List (List Position)) (passings : List Passing) : Type 0 where
  pub each : (polygon ring : ℕ) (its : PolygonRings) (passing : Passing) → IsPolygon rings polygon its → IsRingOf its ring → slice_get passings ring ≡ Some passing
      → IsPassing rings its ring passing

-- how many vertices those of more than one ring have, of the polygons before this number
abbrev pub vertices_of_several : List (List Position) → List (ℕ × ℕ) → ℕ → ℕ
vertices_of_several rings polygons zero = 0
vertices_of_several rings polygons (suc polygon) =
    let it = listed_at polygons polygon in
    vertices_of_several rings polygons polygon + cond (it.after - it.exterior == 1) 0 (vertex_count (part_of rings it))

-- the number of polygons around what lies directly in a ring that so many are around
abbrev pub IsNextCount : Passing → ℕ → ℕ → Type 0
IsNextCount Enters outer inner = inner ≡ outer + 1
IsNextCount Leaves outer inner = inner + 1 ≡ outer
IsNextCount Neither outer inner = inner ≡ outer

-- so many polygons are around each ring, by the ring directly around it
pub record AreCounts (notes : List Around) (passings : List Passing) (count_of : ℕ → ℕ) : Type 0 where
  pub few : (ring : ℕ) → count_of ring < 2 ^ 64
  pub outermost : (ring : ℕ) → ring < length passings → nearest_at notes ring ≡ None → count_of ring ≡ 0
  pub inner : (ring near : ℕ) (passing : Passing) → ring < length passings → nearest_at notes ring ≡ Some near → slice_get passings near ≡ Some passing
      → IsNextCount passing (count_of near) (count_of ring)

-- these are all rings, each after the one directly around it
pub record AreInwards (count : ℕ) (notes : List Around) (come_to : List ℕ) : Type 0 where
  pub noted : length notes ≡ count
  pub known : (ring near : ℕ) → ring < count → nearest_at notes ring ≡ Some near → near < count
  pub listed : (ring : ℕ) → ring < count → (at : ℕ) × (slice_get come_to at ≡ Some ring)
  pub only : (at ring : ℕ) → slice_get come_to at ≡ Some ring → ring < count
  pub following : (at ring near : ℕ) → slice_get come_to at ≡ Some ring → nearest_at notes ring ≡ Some near
      → (before : ℕ) × (before < at) × (slice_get come_to before ≡ Some near)

-- The places of polygons

-- the exterior has an even number of rings around it, and each hole lies directly in it
pub record HasRightNotes (notes : List Around) (its : PolygonRings) (to : ℕ) : Type 0 where
  pub even : odd_at notes its.exterior ≡ false
  pub directly : (hole : ℕ) → its.exterior < hole → hole < to → nearest_at notes hole ≡ Some its.exterior

-- how many polygons are around the exteriors: a vertex of one is inside another polygon where there are some
pub record AreAroundExteriors (rings : List (List Position)) (around : List ℕ) : Type 0 where
  pub count : length around ≡ length rings
  pub none : (polygon : ℕ) (its : PolygonRings) → IsPolygon rings polygon its → slice_get around its.exterior ≡ Some 0 → (vertex other : ℕ) → ¬ IsApartFault rings polygon vertex other
  pub some : (polygon many : ℕ) (its : PolygonRings) → IsPolygon rings polygon its → slice_get around its.exterior ≡ Some (suc many) → (other : ℕ) × IsApartFault rings polygon 0 other

-- the first hole of a polygon that hasn't the exterior, and no other hole, around it
pub record IsFirstWrongHole (passings : List Passing) (exterior after hole : ℕ) : Type 0 where
  pub following : exterior < hole
  pub before : hole < after
  pub wrong : slice_get passings hole ≢ Some Leaves
  pub first : (other : ℕ) → exterior < other → other < hole → slice_get passings other ≡ Some Leaves
