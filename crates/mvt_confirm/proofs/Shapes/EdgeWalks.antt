-- A walk over the edges of a ring.
use Rattle.std.proofs.Common.{◌≡◌, ◌↔◌, ℕ, zero, suc, ◌+◌, ◌≤◌, ◌<◌, ◌==◌, Bool, true, false, IsTrue, List, [], ◌∷◌, ◌++◌, length, drop, slice_get, Option, Some, None, IfSome, IfNone, refl, sym, ap, ◌∙◌, subst, append_assoc, arith, length-drop}
use Rattle.std.proofs.lemmas.Bool.Decides.{nat_tests}
use Rattle.std.proofs.lemmas.List.{append-nil}
use Rattle.mvt_confirm.specs.Calls.Vertices.{VertexWalk, EndsVertices, GivesVertex, IsFirstVertex, RingsLeft, between}
use Rattle.mvt_confirm.specs.Calls.Vertices.{amid as amid_ring}
use Rattle.mvt_confirm.specs.Calls.EdgeTests.{IsParityOf}
use Rattle.mvt_confirm.specs.Calls.RingEdges.{EdgeWalk, EdgesLeft, GivesEdge, amid, closing, over}
use Rattle.mvt_confirm.specs.declared.vertices.Vertex.{Vertex}
use Rattle.mvt_confirm.specs.declared.crossings.Crossings.{Crossings}
use Rattle.mvt_confirm.proofs.Drawing.RingWalks.{some_left}
use Rattle.mvt_plane.specs.Geometry.Inside.{HoldsOfOdd, PassesOver}
use Rattle.mvt_plane.specs.Position.{Position}
use Rattle.mvt_plane.specs.Geometry.Ring.{edges, edges_through}
use Rattle.mvt_plane.specs.declared.geometry.edge.Edge.{Edge}

-- How many are left

-- so many vertices of a ring come next
vertices_left : (walk : VertexWalk) (vertices : List Position) (further : List (List Position)) → 0 < walk.left → RingsLeft walk (vertices ∷ further) → length vertices ≡ walk.left
vertices_left walk vertices further some (between numbers none left spell) = absurd (omega arith)
vertices_left walk vertices further some (amid_ring own others numbers more left spell whole) =
    let same : vertices ≡ own = cc in
    ap length same ∙ spell.so_many

-- one more edge than vertices
edges_of_vertices : (first from : Position) (vertices : List Position) → length (edges_through first from vertices) ≡ length vertices + 1
edges_of_vertices first from [] = refl
edges_of_vertices first from (to ∷ rest) = omega (arith, edges_of_vertices first to rest)

pub count_decided : (walk : EdgeWalk) (left : List Edge) → walk.is_closed ≡ false → EdgesLeft walk left → walk.vertices.left + 1 ≡ length left
count_decided walk left unclosed (amid vertices further _ some rings is) =
    let so_many = vertices_left walk.vertices vertices further some rings in
    let edges = edges_of_vertices walk.first walk.from vertices ∙ ap (λ (n : ℕ). n + 1) so_many in
    sym (ap length is ∙ edges)
count_decided walk left unclosed (closing _ none is) = sym (ap length is ∙ ap (λ (n : ℕ). n + 1) (sym none))
count_decided walk left unclosed (over closed is) = absurd (cc)

-- A walk goes on

-- no vertex comes next
none_next : (left : ℕ) → true ≡ (left == 0) → left ≡ 0
none_next left is = grind (arith, nat_tests)

-- after a vertex of a ring, the edges that begin there are left
edges_after : (first point : Position) (new : VertexWalk) (closed is_last : Bool) (vertices : List Position) (further rings : List (List Position)) → closed ≡ false → is_last ≡ (new.left == 0)
    → RingsLeft new rings → IsFirstVertex point is_last (vertices ∷ further) rings
    → (more : List Position) × (vertices ≡ point ∷ more) × EdgesLeft (record { vertices = new; first = first; from = point; is_closed = closed }) (edges_through first point more)
edges_after first point new closed true vertices further rings unclosed last left is = ([], cc, closing unclosed (none_next new.left last) refl)
edges_after first point new closed false vertices further rings unclosed last left is =
    let more = is.0 ∷ is.1 in (
      more,
      cc (is.3),
      amid more is.2 unclosed (some_left false new.left last refl) (subst (RingsLeft new) is.4 left) refl,
    )

-- to the vertex that was given
pub edge_onward : (old : EdgeWalk) (new : VertexWalk) (vertex : Vertex) → old.is_closed ≡ false → 0 < old.vertices.left → GivesVertex old.vertices new vertex
    → GivesEdge old (record { vertices = new; first = old.first; from = vertex.point; is_closed = old.is_closed }) (record { a = old.from; b = vertex.point })
edge_onward old new vertex unclosed some given = λ left edges_left. by_left left edges_left
  where
    by_left : (left : List Edge) → EdgesLeft old left
        → (rest : List Edge) × (left ≡ record { a = old.from; b = vertex.point } ∷ rest)
        × EdgesLeft (record { vertices = new; first = old.first; from = vertex.point; is_closed = old.is_closed }) rest
    by_left left (amid vertices further _ _ rings is) =
        let next = given.first (vertices ∷ further) rings in
        let following = edges_after old.first vertex.point new old.is_closed vertex.is_last vertices further next.0 unclosed given.last next.1 next.2 in
        (edges_through old.first vertex.point following.0, is ∙ ap (edges_through old.first old.from) following.1, following.2)
    by_left left (closing _ none is) = absurd (omega arith)
    by_left left (over closed is) = absurd (cc)

-- back to the first vertex
pub edge_back : (old : EdgeWalk) → old.is_closed ≡ false → old.vertices.left ≡ 0
    → GivesEdge old (record { vertices = old.vertices; first = old.first; from = old.first; is_closed = true }) (record { a = old.from; b = old.first })
edge_back old unclosed none = λ left edges_left. by_left left edges_left
  where
    by_left : (left : List Edge) → EdgesLeft old left
        → (rest : List Edge) × (left ≡ record { a = old.from; b = old.first } ∷ rest) × EdgesLeft (record { vertices = old.vertices; first = old.first; from = old.first; is_closed = true }) rest
    by_left left (amid vertices further _ some rings is) = absurd (omega arith)
    by_left left (closing _ _ is) = ([], is, over refl refl)
    by_left left (over closed is) = absurd (cc)

-- where a vertex comes next, one is found
pub edge_goes_on : (walk : EdgeWalk) (left : List Edge) → walk.is_closed ≡ false → 0 < walk.vertices.left → EdgesLeft walk left → EndsVertices walk.vertices → ⊥
edge_goes_on walk left unclosed some (amid vertices further _ _ rings is) ends =
    let none = ends (vertices ∷ further) rings in
    absurd (cc (none))
edge_goes_on walk left unclosed some (closing _ none is) ends = absurd (omega arith)
edge_goes_on walk left unclosed some (over closed is) ends = absurd (cc)

-- Places

-- a list's rest from a place on, where that begins with something
pub rest_at : {X : Type 0} (xs rest : List X) (i : ℕ) (x : X) → drop i xs ≡ x ∷ rest → (suc i ≤ length xs) × (slice_get xs i ≡ Some x) × (drop (suc i) xs ≡ rest)
rest_at [] rest zero x is = absurd (cc)
rest_at [] rest (suc i) x is = absurd (cc)
rest_at (y ∷ xs) rest zero x is = (omega arith, (cc), (cc))
rest_at (y ∷ xs) rest (suc i) x is = let more = rest_at xs rest i x is in (omega (arith, more.0), more.1, more.2)

-- where nothing stands from a place on, a list has no more
pub none_at : {X : Type 0} (xs : List X) (i : ℕ) → drop i xs ≡ [] → length xs ≤ i
none_at xs i is = omega (arith, length-drop i xs, ap length is)

-- The ring with an ordinal

-- a vertex that was given is the first of a ring
ring_ahead : (point : Position) (is_last : Bool) (all rest : List (List Position)) → IsFirstVertex point is_last all rest
    → (vertices : List Position) × (further : List (List Position)) × (all ≡ vertices ∷ further)
ring_ahead point true all rest is = (point ∷ [], rest, is)
ring_ahead point false all rest is = (point ∷ is.0 ∷ is.1, is.2, is.3)

-- its edges are left after its first vertex
pub edges_begun : (rings : List (List Position)) (ring : ℕ) (old new : VertexWalk) (vertex : Vertex) → GivesVertex old new vertex → RingsLeft old (drop ring rings)
    → (vertices : List Position) × (slice_get rings ring ≡ Some vertices) × EdgesLeft (record { vertices = new; first = vertex.point; from = vertex.point; is_closed = false }) (edges vertices)
edges_begun rings ring old new vertex given left = begun (given.first (drop ring rings) left)
  where
    begun : (rest : List (List Position)) × RingsLeft new rest × IsFirstVertex vertex.point vertex.is_last (drop ring rings) rest
        → (vertices : List Position) × (slice_get rings ring ≡ Some vertices) × EdgesLeft (record { vertices = new; first = vertex.point; from = vertex.point; is_closed = false }) (edges vertices)
    begun (rest, rings_left, is) =
        let whole = ring_ahead vertex.point vertex.is_last (drop ring rings) rest is in
        let following = edges_after vertex.point vertex.point new false vertex.is_last whole.0 whole.1 rest refl given.last rings_left
        (subst (λ (it : List (List Position)). IsFirstVertex vertex.point vertex.is_last it rest) whole.2 is) in (
          whole.0,
          (rest_at rings whole.1 ring whole.0 whole.2).1,
          subst (λ (it : List Position). EdgesLeft (record { vertices = new; first = vertex.point; from = vertex.point; is_closed = false }) (edges it)) (sym following.1) following.2,
        )

-- The edge with an ordinal

-- as many were passed, of those that were left where a walk began
abbrev pub HasPassedEdges : EdgeWalk → EdgeWalk → ℕ → Type 0
HasPassedEdges begun walk passed = (left : List Edge) → EdgesLeft begun left → (passed ≤ length left) × EdgesLeft walk (drop passed left)

-- one more is
pub one_passed : (begun old new : EdgeWalk) (passed : ℕ) (edge : Edge) → HasPassedEdges begun old passed → GivesEdge old new edge → HasPassedEdges begun new (passed + 1)
one_passed begun old new passed edge so_far given = λ left edges_left.
    let next = given (drop passed left) (so_far left edges_left).1 in
    let at = rest_at left next.0 passed edge next.1 in
    let more : suc passed ≡ passed + 1 = omega arith in
    (omega (arith, at.0), subst (λ (n : ℕ). EdgesLeft new (drop n left)) more (subst (EdgesLeft new) (sym at.2) next.2))

-- what is given after them has their number
pub edge_found : (begun old new : EdgeWalk) (passed : ℕ) (found : Option Edge) → HasPassedEdges begun old passed → IfSome found (GivesEdge old new)
    → IfSome found (λ edge. (left : List Edge) → EdgesLeft begun left → slice_get left passed ≡ Some edge)
edge_found begun old new passed None so_far given = given
edge_found begun old new passed (Some edge) so_far given = λ left edges_left.
    let next = given (drop passed left) (so_far left edges_left).1 in
    (rest_at left next.0 passed edge next.1).1

-- where nothing is, there are no more
pub none_found : (begun old : EdgeWalk) (passed : ℕ) (found : Option Edge) → HasPassedEdges begun old passed → IfNone found ((left : List Edge) → EdgesLeft old left → left ≡ [])
    → IfNone found ((left : List Edge) → EdgesLeft begun left → length left ≤ passed)
none_found begun old passed None so_far ends = λ left edges_left. none_at left passed (ends (drop passed left) (so_far left edges_left).1)
none_found begun old passed (Some edge) so_far ends = ends

-- The parity of those that pass over a position

-- it is that of the edges that were passed, of those that were left where a walk began
abbrev pub IsParityPassed : EdgeWalk → EdgeWalk → Crossings → Position → Type 0
IsParityPassed begun walk crossings position = (left : List Edge) → EdgesLeft begun left
    → (passed : List Edge) × (rest : List Edge) × (left ≡ passed ++ rest) × EdgesLeft walk rest × IsParityOf crossings position passed

-- so with one more
pub parity_more : (begun old new : EdgeWalk) (before after : Crossings) (position : Position) (edge : Edge) → IsParityPassed begun old before position → GivesEdge old new edge
    → ((passed : List Edge) → IsParityOf before position passed → IsParityOf after position (passed ++ (edge ∷ []))) → IsParityPassed begun new after position
parity_more begun old new before after position edge so_far given turns = λ left edges_left.
    let here = so_far left edges_left in
    let next = given here.1 here.3 in
    let passed : List Edge = here.0 ++ (edge ∷ []) in (
      passed,
      next.0,
      here.2 ∙ (ap (λ (it : List Edge). here.0 ++ it) next.1 ∙ sym (append_assoc here.0 (edge ∷ []) next.0)),
      next.2,
      turns here.0 here.4,
    )

-- after the last one, it is that of all
pub parity_decided : (begun walk : EdgeWalk) (crossings : Crossings) (position : Position) (answer : Bool) → IsParityPassed begun walk crossings position
    → ((left : List Edge) → EdgesLeft walk left → left ≡ []) → answer ≡ crossings.is_odd → (left : List Edge) → EdgesLeft begun left → (IsTrue answer ↔ HoldsOfOdd (PassesOver position) left)
parity_decided begun walk crossings position answer so_far ends is left edges_left =
    let here = so_far left edges_left in
    let whole : left ≡ here.0 = here.2 ∙ (ap (λ (it : List Edge). here.0 ++ it) (ends here.1 here.3) ∙ append-nil here.0) in
    subst (λ (it : List Edge). IsTrue answer ↔ HoldsOfOdd (PassesOver position) it) (sym whole)
    (subst (λ (test : Bool). IsTrue test ↔ HoldsOfOdd (PassesOver position) here.0) (sym is) here.4)
