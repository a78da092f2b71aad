-- A walk over the vertices of the first ring of those that are left.
use Rattle.std.proofs.Common.{◌≡◌, ◌↔◌, ℕ, zero, suc, ◌-◌, ◌<◌, ◌==◌, true≢false, ℤ, pos, ◌+ℤ◌, Bool, true, false, IsTrue, ◌∷◌, [], List, length, Some, slice_get, refl, sym, ap, ◌∙◌, subst, arith}
use Rattle.std.proofs.lemmas.Int.{ints}
use Rattle.mvt_confirm.specs.Calls.Vertices.{VertexWalk, RingsLeft, EndsVertices, IsFirstVertex}
use Rattle.mvt_plane.specs.Calls.Rings.{IsClosed}
use Rattle.mvt_confirm.specs.Calls.Rings.{IsMeasured}
use Rattle.mvt_plane.specs.Commands.Figure.{cursor}
use Rattle.mvt_plane.specs.Position.{Position}
use Rattle.mvt_plane.specs.Geometry.Ring.{edge_area, edges_through, area_of_edges, doubled_area}

-- what is left where these vertices of a ring come next, if it isn't over, and then the further rings
abbrev pub IsLeftOver : Bool → VertexWalk → List Position → List (List Position) → Type 0
IsLeftOver true walk more further = (more ≡ []) × RingsLeft walk further
IsLeftOver false walk more further = RingsLeft walk (more ∷ further)

-- Between a ring's first vertex and the last one of those that were passed: the area so far, and that of the edges still to
-- come
pub record IsAmidRing (rings : List (List Position)) (walk : VertexWalk) (first last : Position) (over : Bool) (area : ℤ) : Type 0 where
  pub ring : List Position
  pub more : List Position
  pub further : List (List Position)
  pub whole : rings ≡ (first ∷ ring) ∷ further
  pub left : IsLeftOver over walk more further
  pub areas : area +ℤ area_of_edges (edges_through first last more) ≡ doubled_area (first ∷ ring)
  pub end : cursor last more ≡ cursor first ring

-- Where a walk begins

-- of which the first is passed, and no area is summed
no_area_yet : (area : ℤ) → pos 0 +ℤ area ≡ area
no_area_yet area = omega (arith, ints)

-- a vertex that was given is the first of a ring
pub at_first_vertex : (rings left : List (List Position)) (walk : VertexWalk) (first : Position) (over : Bool) → RingsLeft walk left → IsFirstVertex first over rings left
    → IsAmidRing rings walk first first over (pos 0)
at_first_vertex rings left walk first true rings_left is = record {
  ring = [];
  more = [];
  further = left;
  whole = is;
  left = (refl, rings_left);
  areas = no_area_yet (area_of_edges (edges_through first first []));
  end = refl;
}
at_first_vertex rings left walk first false rings_left is = record {
  ring = is.0 ∷ is.1;
  more = is.0 ∷ is.1;
  further = is.2;
  whole = is.3;
  left = subst (RingsLeft walk) is.4 rings_left;
  areas = no_area_yet (area_of_edges (edges_through first first (is.0 ∷ is.1)));
  end = refl;
}

-- Where it goes on

-- one edge more is summed
area_more : (area edge rest whole : ℤ) → area +ℤ (edge +ℤ rest) ≡ whole → (area +ℤ edge) +ℤ rest ≡ whole
area_more area edge rest whole same = omega (arith, ints)

-- the vertices that come next are these
at_vertex : (rings : List (List Position)) (old new : VertexWalk) (first last at : Position) (over : Bool) (area : ℤ) (amid : IsAmidRing rings old first last false area) (more : List Position)
    → amid.more ≡ at ∷ more → IsLeftOver over new more amid.further → IsAmidRing rings new first at over (area +ℤ edge_area (record { a = last; b = at }))
at_vertex rings old new first last at over area amid more next left =
    let areas = subst (λ (it : List Position). area +ℤ area_of_edges (edges_through first last it) ≡ doubled_area (first ∷ amid.ring)) next amid.areas in
    record {
      ring = amid.ring;
      more = more;
      further = amid.further;
      whole = amid.whole;
      left = left;
      areas = area_more area (edge_area (record { a = last; b = at })) (area_of_edges (edges_through first at more)) (doubled_area (first ∷ amid.ring)) areas;
      end = ap (λ (it : List Position). cursor last it) (sym next) ∙ amid.end;
    }

-- a vertex that was given is the next one of the ring
pub at_next_vertex : (rings left : List (List Position)) (old new : VertexWalk) (first last at : Position) (over : Bool) (area : ℤ) (amid : IsAmidRing rings old first last false area)
    → RingsLeft new left → IsFirstVertex at over (amid.more ∷ amid.further) left → IsAmidRing rings new first at over (area +ℤ edge_area (record { a = last; b = at }))
at_next_vertex rings left old new first last at true area amid rings_left is =
    let next : amid.more ≡ at ∷ [] = cc in
    let further : left ≡ amid.further = cc in
    at_vertex rings old new first last at true area amid [] next (refl, subst (RingsLeft new) further rings_left)
at_next_vertex rings left old new first last at false area amid rings_left is =
    let next : amid.more ≡ at ∷ is.0 ∷ is.1 = cc (is.3) in
    let further : is.2 ≡ amid.further = cc (is.3) in
    at_vertex rings old new first last at false area amid (is.0 ∷ is.1) next
    (subst (λ (it : List (List Position)). RingsLeft new ((is.0 ∷ is.1) ∷ it)) further (subst (RingsLeft new) is.4 rings_left))

-- the ring isn't over where no vertex is left
pub amid_ring_goes_on : (rings : List (List Position)) (walk : VertexWalk) (first last : Position) (area : ℤ) → IsAmidRing rings walk first last false area → EndsVertices walk → ⊥
amid_ring_goes_on rings walk first last area amid ends =
    let none = ends (amid.more ∷ amid.further) amid.left in
    absurd (cc (none))

-- Where the ring is over

-- the last vertex of a ring
last_of : (first : Position) (ring : List Position) → slice_get (first ∷ ring) (length (first ∷ ring) - 1) ≡ Some (cursor first ring)
last_of first [] = refl
last_of first (next ∷ ring) =
    let place : length (first ∷ next ∷ ring) - 1 ≡ suc (length (next ∷ ring) - 1) = omega arith in
    ap (λ (n : ℕ). slice_get (first ∷ next ∷ ring) n) place ∙ last_of next ring

-- it is at the position of the first one where the ring is closed
closed_where : (first : Position) (ring : List Position) (answer : Bool) → (IsTrue answer ↔ (cursor first ring ≡ first)) → (IsTrue answer ↔ IsClosed (first ∷ ring))
closed_where first ring answer decided = (
  λ yes. record { position = first; first = refl; last = last_of first ring ∙ ap Some (decided.0 yes) },
  λ closed.
      let last = last_of first ring in
      decided.1 (cc (last, closed.first, closed.last)),
)

-- then the walk gives the measure of this ring
pub ring_decided : (rings : List (List Position)) (walk : VertexWalk) (first last : Position) (area whole : ℤ) (answer : Bool) → IsAmidRing rings walk first last true area
    → whole ≡ area +ℤ edge_area (record { a = last; b = first }) → (IsTrue answer ↔ (last ≡ first))
    → (ring : List Position) × (rest : List (List Position)) × (rings ≡ ring ∷ rest) × IsMeasured ring (record { doubled_area = whole; is_closed = answer }) × RingsLeft walk rest
ring_decided rings walk first last area whole answer amid sum decided =
    let none = amid.left.0 in
    let end : last ≡ cursor first amid.ring = ap (λ (it : List Position). cursor last it) (sym none) ∙ amid.end in
    let areas = subst (λ (it : List Position). area +ℤ area_of_edges (edges_through first last it) ≡ doubled_area (first ∷ amid.ring)) none amid.areas in (
      first ∷ amid.ring,
      amid.further,
      amid.whole,
      record {
        area = sum ∙ (closing area (edge_area (record { a = last; b = first })) ∙ areas);
        closed = closed_where first amid.ring answer (subst (λ (it : Position). IsTrue answer ↔ (it ≡ first)) end decided);
      },
      amid.left.1,
    )
  where
    closing : (area edge : ℤ) → area +ℤ edge ≡ area +ℤ (edge +ℤ pos 0)
    closing area edge = omega (arith, ints)

-- How many vertices come next

-- some do where the ring isn't over
pub some_left : (over : Bool) (left : ℕ) → over ≡ (left == 0) → over ≡ false → 0 < left
some_left over zero is more = absurd (true≢false (sym is ∙ more))
some_left over (suc left) is more = omega arith
