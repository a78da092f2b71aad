-- The vertices of a polygon's exterior that are inside polygons from a number on: polygon by polygon, in the order of
-- their left sides.
use Rattle.std.proofs.Common.{◌≡◌, ◌≢◌, inl, inr, ℕ, ◌+◌, ◌-◌, ◌<◌, ◌≤◌, List, [], ◌∷◌, ◌++◌, length, get_or, take, slice_get, Option, Some, None, IfNone, IfSome, ℤ, ◌<ℤ◌, length-take, refl, sym, ◌∙◌, ap, subst, arith}
use Rattle.std.proofs.lemmas.Bool.{cases_lt, cases_order}
use Rattle.std.proofs.lemmas.List.{length_push}
use Rattle.std.proofs.lemmas.Option.{slice_get-get_or, slice_get_within, same_Some}
use Rattle.mvt_rules.specs.Nesting.{IsVertexOf, IsInsidePolygon}
use Rattle.mvt_rules.specs.Polygon.{PolygonRings, IsPolygon}
use Rattle.mvt_plane.specs.Position.{Position}
use Rattle.mvt_plane.proofs.Orders.Order.{zs}
use Rattle.mvt_rules.proofs.Rings.SamePolygons.{same_polygon}
use Rattle.mvt_polygon.specs.Apart.{IsApartFault}
use Rattle.mvt_sweep.specs.Bounds.{AreBoundsOf, AreBoundsApart}
use Rattle.mvt_feature.specs.Calls.Bounds.{AreBoundsInOrder, AreLaterBounds, AreNotIn, AreReaches, ComesNoLater, IsFirstVertexIn, IsFirstWith}
use Rattle.mvt_feature.specs.Calls.FeatureParts.{IsFirstInLater, IsInNoLater, listed_at}
use Rattle.mvt_polygon.specs.Polygons.{ArePolygons}
use Rattle.mvt_sweep.specs.Rings.{AreProperRings}
use Rattle.mvt_polygon.specs.declared.apart.ApartFault.{ApartFault}
use Rattle.mvt_sweep.specs.declared.bounds.Bounds.{Bounds}
use Rattle.mvt_polygon.proofs.ApartFaults.{around_vertex, rings_at, rings_listed}
use Rattle.mvt_sweep.proofs.Chains.ChainParts.{in_longer, take_there}
use Rattle.mvt_feature.proofs.Cells.OutsideBounds.{outside_polygon}

-- Bounds of exteriors

-- a ring that is drawn has a vertex
pub has_vertex : (rings : List (List Position)) (number : ℕ) (ring : List Position) → AreProperRings rings → slice_get rings number ≡ Some ring → 0 < length ring
has_vertex rings number ring drawn there = let several = drawn.several number ring there in omega arith

-- those of one more polygon
pub more_bounds : (rings : List (List Position)) (polygons : List (ℕ × ℕ)) (later to : ℕ) (bounds : List Bounds) (it : Bounds) (exterior : List Position)
    → AreLaterBounds rings polygons later to bounds → slice_get rings (listed_at polygons to).exterior ≡ Some exterior → AreBoundsOf exterior it
    → AreLaterBounds rings polygons later (to + 1) (bounds ++ it ∷ [])
more_bounds rings polygons later to bounds it exterior before there is = record {
  count = let count = before.count in omega (arith, length_push bounds it);
  are = λ number its ring here its_there. elim (in_longer bounds it number its here) [
    | inl old ↦ before.are number its ring old its_there
    | inr last ↦
        let at : later + number ≡ to = let count = before.count in let new = last.0 in omega arith in
        let same : exterior ≡ ring = same_Some exterior ring (sym there ∙ sym (ap (λ (polygon : ℕ). slice_get rings (listed_at polygons polygon).exterior) at) ∙ its_there) in
        subst (AreBoundsOf ring) last.1 (subst (λ (vertices : List Position). AreBoundsOf vertices it) same is)
  ];
}

-- Faults with one polygon

-- where a fault is, by the vertices of the polygon's exterior
vertex_of_fault : (rings : List (List Position)) (polygon vertex other : ℕ) (it : PolygonRings) (vertices : List Position) → IsPolygon rings polygon it → slice_get rings it.exterior ≡ Some vertices
    → (fault : IsApartFault rings polygon vertex other) → slice_get vertices vertex ≡ Some fault.inside.position
vertex_of_fault rings polygon vertex other it vertices is_it there fault =
    let here = fault.inside.here in
    let same : fault.polygon_rings ≡ it = same_polygon rings polygon fault.polygon_rings it fault.there is_it in
    let exterior : slice_get rings fault.polygon_rings.exterior ≡ Some vertices = ap (λ (it : PolygonRings). slice_get rings it.exterior) same ∙ there in
    let its : here.vertices ≡ vertices = same_Some here.vertices vertices (sym here.there ∙ exterior) in
    subst (λ (vertices : List Position). slice_get vertices vertex ≡ Some fault.inside.position) its here.here

-- and that it is inside the other polygon
inside_by_fault : (rings : List (List Position)) (polygon vertex other : ℕ) (its : PolygonRings) → IsPolygon rings other its
    → (fault : IsApartFault rings polygon vertex other) → IsInsidePolygon rings its fault.inside.position
inside_by_fault rings polygon vertex other its is_its fault =
    subst (λ (it : PolygonRings). IsInsidePolygon rings it fault.inside.position) (same_polygon rings other fault.other_rings its fault.other_there is_its) fault.inside.inside

-- none, where the bounds of both exteriors are apart
pub none_by_bounds : (rings : List (List Position)) (polygon vertex other : ℕ) (it its : PolygonRings) (vertices : List Position) (own bounds : Bounds)
    → IsPolygon rings polygon it → IsPolygon rings other its → slice_get rings it.exterior ≡ Some vertices → AreBoundsOf vertices own
    → ((exterior : List Position) → slice_get rings its.exterior ≡ Some exterior → AreBoundsOf exterior bounds) → AreBoundsApart own bounds → ¬ IsApartFault rings polygon vertex other
none_by_bounds rings polygon vertex other it its vertices own bounds is_it is_its there of_own of_other apart fault =
    let position = fault.inside.position in
    let within = of_own vertex position (vertex_of_fault rings polygon vertex other it vertices is_it there fault) in
    outside_polygon rings its position bounds of_other (apart position within) (inside_by_fault rings polygon vertex other its is_its fault)

-- a fault is at a vertex of the polygon's exterior
pub vertex_within : (rings : List (List Position)) (polygon : ℕ) (it : PolygonRings) (vertices : List Position) → IsPolygon rings polygon it → slice_get rings it.exterior ≡ Some vertices
    → (vertex other : ℕ) → IsApartFault rings polygon vertex other → vertex < length vertices
vertex_within rings polygon it vertices is_it there vertex other fault =
    slice_get_within vertices vertex fault.inside.position (vertex_of_fault rings polygon vertex other it vertices is_it there fault)

-- none before a number of vertices, where none of them is inside the polygon
pub none_by_vertices : (rings : List (List Position)) (polygon other until : ℕ) (it its : PolygonRings) (vertices : List Position) → IsPolygon rings polygon it → IsPolygon rings other its
    → slice_get rings it.exterior ≡ Some vertices → (to : ℕ) → to ≤ until → AreNotIn rings its (take until vertices) to → (vertex : ℕ) → vertex < to → ¬ IsApartFault rings polygon vertex other
none_by_vertices rings polygon other until it its vertices is_it is_its there to most none vertex less fault =
    let here = vertex_of_fault rings polygon vertex other it vertices is_it there fault in
    none vertex less fault.inside.position (take_there vertices until vertex (omega arith) ∙ here) (inside_by_fault rings polygon vertex other its is_its fault)

-- none before this number, where all of the vertices before it were checked
pub none_of_all : (rings : List (List Position)) (polygon other until : ℕ) (it its : PolygonRings) (vertices : List Position) → IsPolygon rings polygon it → IsPolygon rings other its
    → slice_get rings it.exterior ≡ Some vertices → until ≤ length vertices → AreNotIn rings its (take until vertices) (length (take until vertices))
    → (vertex : ℕ) → vertex < until → ¬ IsApartFault rings polygon vertex other
none_of_all rings polygon other until it its vertices is_it is_its there most none =
    none_by_vertices rings polygon other until it its vertices is_it is_its there until (omega arith) (λ number less. none number (omega (arith, length-take until vertices)))

-- the first of them that is inside is a fault
pub fault_by_vertex : (rings : List (List Position)) (polygon other until vertex : ℕ) (it its : PolygonRings) (vertices : List Position) → IsPolygon rings polygon it → IsPolygon rings other its
    → slice_get rings it.exterior ≡ Some vertices → other ≢ polygon → (first : IsFirstVertexIn rings its (take until vertices) vertex) → (vertex < until) × IsApartFault rings polygon vertex other
fault_by_vertex rings polygon other until vertex it its vertices is_it is_its there different first =
    let among = slice_get_within (take until vertices) vertex first.position first.here in
    let less : vertex < until = omega (arith, length-take until vertices) in
    let here : IsVertexOf rings it.exterior vertex first.position = record { vertices = vertices; there = there; here = sym (take_there vertices until vertex less) ∙ first.here } in
    (less, around_vertex rings polygon vertex other it first.position is_it here (record { different = different; other_rings = its; there = is_its; inside = first.inside }))

-- Polygons by their place in the order

-- no fault with the polygon at a place, where its bounds are apart from those of this one
pub none_at_place : (rings : List (List Position)) (polygons : List (ℕ × ℕ)) (later polygon : ℕ) (it : PolygonRings) (vertices : List Position) (own : Bounds) (bounds : List Bounds)
    (order : List (ℤ × ℕ)) (place : ℕ) (left : ℤ) (number : ℕ) → ArePolygons rings polygons → AreLaterBounds rings polygons later (length polygons) bounds → AreBoundsInOrder bounds order
    → IsPolygon rings polygon it → slice_get rings it.exterior ≡ Some vertices → AreBoundsOf vertices own → slice_get order place ≡ Some (left, number)
    → ((its : Bounds) → slice_get bounds number ≡ Some its → AreBoundsApart own its) → (vertex : ℕ) → ¬ IsApartFault rings polygon vertex (later + number)
none_at_place rings polygons later polygon it vertices own bounds order place left number listed all in_order is_it there of_own here apart vertex =
    let known = in_order.numbering.known place left number here in
    let its = get_or bounds number own in
    let at = slice_get-get_or bounds number own known in
    let within : later + number < length polygons = let count = all.count in omega arith in
    none_by_bounds rings polygon vertex (later + number) it (rings_at polygons (later + number)) vertices own its is_it (rings_listed rings polygons (later + number) listed within) there of_own
    (λ exterior its_there. all.are number its exterior at its_there) (apart its at)

-- bounds are apart where one begins to the right of the other
begins_beyond : (own its : Bounds) → own.right <ℤ its.left → AreBoundsApart own its
begins_beyond own its beyond position one other =
    let most = one.right in
    let least = other.left in
    omega (arith, zs)

-- or ends to the left of it
ends_before : (own its : Bounds) → its.right <ℤ own.left → AreBoundsApart own its
ends_before own its before position one other =
    let least = one.left in
    let most = other.right in
    omega (arith, zs)

-- so those at a place that begin to the right
pub apart_after : (own : Bounds) (bounds : List Bounds) (order : List (ℤ × ℕ)) (place : ℕ) (left : ℤ) (number : ℕ) → AreBoundsInOrder bounds order → slice_get order place ≡ Some (left, number)
    → own.right <ℤ left → (its : Bounds) → slice_get bounds number ≡ Some its → AreBoundsApart own its
apart_after own bounds order place left number in_order here beyond its at =
    let same = in_order.numbering.keyed place left number its here at in
    begins_beyond own its (omega (arith, zs))

-- and those at the place of a reach to the left, or before it
pub apart_before : (own : Bounds) (bounds : List Bounds) (order : List (ℤ × ℕ)) (reaches : List ℤ) (place to : ℕ) (left : ℤ) (number : ℕ) (reach : ℤ)
    → AreReaches bounds order (length order) reaches → slice_get order place ≡ Some (left, number) → place ≤ to → slice_get reaches to ≡ Some reach → reach <ℤ own.left
    → (its : Bounds) → slice_get bounds number ≡ Some its → AreBoundsApart own its
apart_before own bounds order reaches place to left number reach are here most there before its at =
    let within = are.reach place to left number its reach most here at there in
    ends_before own its (omega (arith, zs))

-- those of one number are the same
pub apart_here : (own known : Bounds) (bounds : List Bounds) (number : ℕ) → slice_get bounds number ≡ Some known → AreBoundsApart own known
    → (its : Bounds) → slice_get bounds number ≡ Some its → AreBoundsApart own its
apart_here own known bounds number there apart its at = subst (AreBoundsApart own) (same_Some known its (sym there ∙ at)) apart

-- One more polygon

-- faults come one after another
ComesNoLater-trans : (one other : ApartFault) (vertex its : ℕ) → ComesNoLater one other.vertex other.other → ComesNoLater other vertex its → ComesNoLater one vertex its
ComesNoLater-trans one other vertex its (inl less) (inl more) = inl (omega arith)
ComesNoLater-trans one other vertex its (inl less) (inr same) = let at = same.0 in inl (omega arith)
ComesNoLater-trans one other vertex its (inr same) (inl more) = let at = same.0 in inl (omega arith)
ComesNoLater-trans one other vertex its (inr same) (inr its_same) =
    let at = same.0 in
    let most = same.1 in
    let its_at = its_same.0 in
    let its_most = its_same.1 in
    inr (omega arith, omega arith)

-- the first one with this polygon, where a vertex of the checked ones is inside
pub first_of_vertex : (rings : List (List Position)) (polygon other until vertex : ℕ) (found : Option ApartFault) → IsApartFault rings polygon vertex other → vertex < until
    → ((another : ℕ) → another < vertex → ¬ IsApartFault rings polygon another other)
    → IfSome found (λ known. (another : ℕ) → another < until → ComesNoLater (record { vertex = another; other = other }) known.vertex known.other)
    → IsFirstWith rings polygon other found (Some (record { vertex = vertex; other = other }))
first_of_vertex rings polygon other until vertex found fault less none before = (inr (refl, fault), first, known found before)
  where
    first : (another : ℕ) → IsApartFault rings polygon another other → ComesNoLater (record { vertex = vertex; other = other }) another other
    first another its = elim (cases_lt another vertex) [
      | inl earlier ↦ absurd (none another earlier its)
      | inr following ↦ elim (cases_order vertex another) [ inl same ↦ inr (same, omega arith) | inr (inl more) ↦ inl more | inr (inr lesser) ↦ absurd (none another lesser its) ]
    ]

    known : (found : Option ApartFault) → IfSome found (λ known. (another : ℕ) → another < until → ComesNoLater (record { vertex = another; other = other }) known.vertex known.other)
        → IfSome found (λ known. ComesNoLater (record { vertex = vertex; other = other }) known.vertex known.other)
    known None before = tt
    known (Some it) before = before vertex less

-- and what was found, where none of them is
pub first_of_found : (rings : List (List Position)) (polygon other until count : ℕ) (found : Option ApartFault) → ((vertex : ℕ) → IsApartFault rings polygon vertex other → vertex < count)
    → ((vertex : ℕ) → vertex < until → ¬ IsApartFault rings polygon vertex other) → IfNone found (until ≡ count)
    → IfSome found (λ known. (vertex : ℕ) → until ≤ vertex → ComesNoLater known vertex other) → IsFirstWith rings polygon other found found
first_of_found rings polygon other until count None within none all following = (refl, λ vertex fault. let inside = within vertex fault in none vertex (omega arith) fault)
first_of_found rings polygon other until count (Some known) within none all following = (inl refl, first, inr (refl, omega arith))
  where
    first : (vertex : ℕ) → IsApartFault rings polygon vertex other → ComesNoLater known vertex other
    first vertex fault = elim (cases_lt vertex until) [ inl less ↦ absurd (none vertex less fault) | inr more ↦ following vertex (omega arith) ]

-- The polygons from a place of the order on

-- of the faults with them this one comes first
pub record IsFirstFrom (rings : List (List Position)) (later polygon : ℕ) (order : List (ℤ × ℕ)) (at : ℕ) (fault : ApartFault) : Type 0 where
  pub from : later ≤ fault.other
  pub holds : IsApartFault rings polygon fault.vertex fault.other
  pub first : (place : ℕ) (left : ℤ) (number : ℕ) → at ≤ place → slice_get order place ≡ Some (left, number)
      → (vertex : ℕ) → IsApartFault rings polygon vertex (later + number) → ComesNoLater fault vertex (later + number)

-- the first fault with them, if there is one
abbrev pub IsFoundFrom : List (List Position) → ℕ → ℕ → List (ℤ × ℕ) → ℕ → Option ApartFault → Type 0
IsFoundFrom rings later polygon order at None =
    (place : ℕ) (left : ℤ) (number : ℕ) → at ≤ place → slice_get order place ≡ Some (left, number) → (vertex : ℕ) → ¬ IsApartFault rings polygon vertex (later + number)
IsFoundFrom rings later polygon order at (Some fault) = IsFirstFrom rings later polygon order at fault

-- no fault with the polygons before a place
abbrev pub AreNoneBefore : List (List Position) → ℕ → ℕ → List (ℤ × ℕ) → ℕ → Type 0
AreNoneBefore rings later polygon order at =
    (place : ℕ) (left : ℤ) (number : ℕ) → place < at → slice_get order place ≡ Some (left, number) → (vertex : ℕ) → ¬ IsApartFault rings polygon vertex (later + number)

-- what was found is at one of the vertices
pub found_within : (rings : List (List Position)) (polygon count : ℕ) (found : Option ApartFault) → ((vertex other : ℕ) → IsApartFault rings polygon vertex other → vertex < count)
    → IfSome found (λ fault. IsApartFault rings polygon fault.vertex fault.other) → IfSome found (λ fault. fault.vertex < count)
found_within rings polygon count None within holds = tt
found_within rings polygon count (Some fault) within holds = within fault.vertex fault.other holds

-- the number at a place is one
one_number : (order : List (ℤ × ℕ)) (place another : ℕ) (left its : ℤ) (number other : ℕ) → place ≡ another → slice_get order place ≡ Some (left, number)
    → slice_get order another ≡ Some (its, other) → number ≡ other
one_number order place another left its number other same here there =
    ap (λ (pair : ℤ × ℕ). pair.1) (same_Some (left, number) (its, other) (sym here ∙ ap (slice_get order) same ∙ there))

-- with the polygon at the place before, where there is no fault with it
pub found_without : (rings : List (List Position)) (later polygon : ℕ) (order : List (ℤ × ℕ)) (at below : ℕ) (left : ℤ) (number : ℕ) (found : Option ApartFault) → at ≤ below + 1
    → slice_get order below ≡ Some (left, number) → IsFoundFrom rings later polygon order at found → ((vertex : ℕ) → ¬ IsApartFault rings polygon vertex (later + number))
    → IsFoundFrom rings later polygon order below found
found_without rings later polygon order at below left number None next here before none = λ place its other from there vertex fault. elim (cases_lt below place) [
  | inl more ↦ before place its other (omega arith) there vertex fault
  | inr most ↦
      let same = one_number order below place left its number other (omega arith) here there in
      none vertex (subst (λ (other : ℕ). IsApartFault rings polygon vertex (later + other)) (sym same) fault)
]
found_without rings later polygon order at below left number (Some known) next here before none = record {
  from = before.from;
  holds = before.holds;
  first = λ place its other from there vertex fault. elim (cases_lt below place) [
    | inl more ↦ before.first place its other (omega arith) there vertex fault
    | inr most ↦
        let same = one_number order below place left its number other (omega arith) here there in
        absurd (none vertex (subst (λ (other : ℕ). IsApartFault rings polygon vertex (later + other)) (sym same) fault))
  ];
}

-- or where the first of all was taken
pub found_with : (rings : List (List Position)) (later polygon : ℕ) (order : List (ℤ × ℕ)) (at below : ℕ) (left : ℤ) (number : ℕ) (found result : Option ApartFault) → at ≤ below + 1
    → slice_get order below ≡ Some (left, number) → IsFoundFrom rings later polygon order at found → IsFirstWith rings polygon (later + number) found result
    → IsFoundFrom rings later polygon order below result
found_with rings later polygon order at below left number None None next here before first =
    found_without rings later polygon order at below left number None next here before first.1
found_with rings later polygon order at below left number (Some known) None next here before first = let none = first.0 in absurd (cc)
found_with rings later polygon order at below left number found (Some fault) next here before first = record {
  from = elim first.0 [ inl same ↦ its_from found same before | inr new ↦ (let other = new.0 in omega arith) ];
  holds = elim first.0 [
    | inl same ↦ its_holds found same before
    | inr new ↦ subst (λ (other : ℕ). IsApartFault rings polygon fault.vertex other) (sym new.0) new.1
  ];
  first = λ place its other from there vertex its_fault. elim (cases_lt below place) [
    | inl more ↦ following found before first.2 place its other (omega arith) there vertex its_fault
    | inr most ↦
        let same = one_number order below place left its number other (omega arith) here there in
        subst (λ (other : ℕ). ComesNoLater fault vertex (later + other)) same (first.1 vertex (subst (λ (other : ℕ). IsApartFault rings polygon vertex (later + other)) (sym same) its_fault))
  ];
}
  where
    its_from : (found : Option ApartFault) → found ≡ Some fault → IsFoundFrom rings later polygon order at found → later ≤ fault.other
    its_from None same before = absurd (cc)
    its_from (Some known) same before = subst (λ (it : ApartFault). later ≤ it.other) (same_Some known fault same) before.from

    its_holds : (found : Option ApartFault) → found ≡ Some fault → IsFoundFrom rings later polygon order at found → IsApartFault rings polygon fault.vertex fault.other
    its_holds None same before = absurd (cc)
    its_holds (Some known) same before = subst (λ (it : ApartFault). IsApartFault rings polygon it.vertex it.other) (same_Some known fault same) before.holds

    following : (found : Option ApartFault) → IsFoundFrom rings later polygon order at found → IfSome found (λ known. ComesNoLater fault known.vertex known.other)
        → (place : ℕ) (its : ℤ) (other : ℕ) → at ≤ place → slice_get order place ≡ Some (its, other)
        → (vertex : ℕ) → IsApartFault rings polygon vertex (later + other) → ComesNoLater fault vertex (later + other)
    following None before its_first place its other from there vertex its_fault = absurd (before place its other from there vertex its_fault)
    following (Some known) before its_first place its other from there vertex its_fault =
        ComesNoLater-trans fault known vertex (later + other) its_first (before.first place its other from there vertex its_fault)

-- All polygons

-- with those before the place, where there is no fault with them
pub found_whole : (rings : List (List Position)) (later polygon : ℕ) (order : List (ℤ × ℕ)) (at : ℕ) (found : Option ApartFault) → AreNoneBefore rings later polygon order at
    → IsFoundFrom rings later polygon order at found → IsFoundFrom rings later polygon order 0 found
found_whole rings later polygon order at None none is = λ place left number from there vertex fault. elim (cases_lt place at) [
  | inl less ↦ none place left number less there vertex fault
  | inr more ↦ is place left number (omega arith) there vertex fault
]
found_whole rings later polygon order at (Some known) none is = record {
  from = is.from;
  holds = is.holds;
  first = λ place left number from there vertex fault. elim (cases_lt place at) [
    | inl less ↦ absurd (none place left number less there vertex fault)
    | inr more ↦ is.first place left number (omega arith) there vertex fault
  ];
}

-- so after the last place that was checked, where the reach is to the left
pub found_beyond_reach : (rings : List (List Position)) (polygons : List (ℕ × ℕ)) (later polygon : ℕ) (it : PolygonRings) (vertices : List Position) (own : Bounds) (bounds : List Bounds)
    (order : List (ℤ × ℕ)) (reaches : List ℤ) (at : ℕ) (reach : ℤ) (found : Option ApartFault) → ArePolygons rings polygons → AreLaterBounds rings polygons later (length polygons) bounds
    → AreBoundsInOrder bounds order → AreReaches bounds order (length order) reaches → IsPolygon rings polygon it → slice_get rings it.exterior ≡ Some vertices → AreBoundsOf vertices own
    → slice_get reaches (at - 1) ≡ Some reach → reach <ℤ own.left → IsFoundFrom rings later polygon order at found → IsFoundFrom rings later polygon order 0 found
found_beyond_reach rings polygons later polygon it vertices own bounds order reaches at reach found listed all in_order are is_it there of_own reach_there before is =
    found_whole rings later polygon order at found
    (λ place left number less here. none_at_place rings polygons later polygon it vertices own bounds order place left number listed all in_order is_it there of_own here
    (apart_before own bounds order reaches place (at - 1) left number reach are here (omega arith) reach_there before))
    is

-- and where all places were
pub found_everywhere : (rings : List (List Position)) (later polygon : ℕ) (order : List (ℤ × ℕ)) (at : ℕ) (found : Option ApartFault) → at ≤ 0 → IsFoundFrom rings later polygon order at found
    → IsFoundFrom rings later polygon order 0 found
found_everywhere rings later polygon order at found none is = found_whole rings later polygon order at found (λ place left number less here vertex fault. omega arith) is

-- the other polygon of a fault is in the list
other_within : (rings : List (List Position)) (polygons : List (ℕ × ℕ)) (polygon vertex other : ℕ) → ArePolygons rings polygons → IsApartFault rings polygon vertex other → other < length polygons
other_within rings polygons polygon vertex other listed fault =
    let its = fault.other_rings in
    slice_get_within polygons other (its.exterior, its.after) (listed.all other its fault.other_there)

-- a polygon's place in the order
record HasPlace (later other : ℕ) (order : List (ℤ × ℕ)) : Type 0 where
  place : ℕ
  left : ℤ
  number : ℕ
  here : slice_get order place ≡ Some (left, number)
  same : other ≡ later + number

-- there is one of each
place_of : (rings : List (List Position)) (polygons : List (ℕ × ℕ)) (later polygon vertex other : ℕ) (bounds : List Bounds) (order : List (ℤ × ℕ)) → ArePolygons rings polygons
    → AreLaterBounds rings polygons later (length polygons) bounds → AreBoundsInOrder bounds order → later ≤ other → IsApartFault rings polygon vertex other → HasPlace later other order
place_of rings polygons later polygon vertex other bounds order listed all in_order from fault =
    let within = other_within rings polygons polygon vertex other listed fault in
    let count = all.count in
    let found = in_order.numbering.all (other - later) (omega arith) in
    record { place = found.0; left = found.1.0; number = other - later; here = found.1.1; same = omega arith }

-- where nothing is found there is no fault
pub none_at_all : (rings : List (List Position)) (polygons : List (ℕ × ℕ)) (later polygon : ℕ) (bounds : List Bounds) (order : List (ℤ × ℕ)) (found : Option ApartFault) → ArePolygons rings polygons
    → AreLaterBounds rings polygons later (length polygons) bounds → AreBoundsInOrder bounds order → IsFoundFrom rings later polygon order 0 found → IfNone found (IsInNoLater rings later polygon)
none_at_all rings polygons later polygon bounds order None listed all in_order is = λ vertex other from fault.
    let it = place_of rings polygons later polygon vertex other bounds order listed all in_order from fault in
    is it.place it.left it.number (omega arith) it.here vertex (subst (λ (its : ℕ). IsApartFault rings polygon vertex its) it.same fault)
none_at_all rings polygons later polygon bounds order (Some fault) listed all in_order is = tt

-- what is found is the first of all
pub first_of_all : (rings : List (List Position)) (polygons : List (ℕ × ℕ)) (later polygon : ℕ) (bounds : List Bounds) (order : List (ℤ × ℕ)) (found : Option ApartFault) → ArePolygons rings polygons
    → AreLaterBounds rings polygons later (length polygons) bounds → AreBoundsInOrder bounds order → IsFoundFrom rings later polygon order 0 found
    → IfSome found (λ fault. IsFirstInLater rings later polygon fault.vertex fault.other)
first_of_all rings polygons later polygon bounds order None listed all in_order is = tt
first_of_all rings polygons later polygon bounds order (Some known) listed all in_order is = record {
  from = is.from;
  holds = is.holds;
  first = λ vertex other from fault.
      let it = place_of rings polygons later polygon vertex other bounds order listed all in_order from fault in
      subst (λ (its : ℕ). ComesNoLater known vertex its) (sym it.same)
      (is.first it.place it.left it.number (omega arith) it.here vertex (subst (λ (its : ℕ). IsApartFault rings polygon vertex its) it.same fault));
}
