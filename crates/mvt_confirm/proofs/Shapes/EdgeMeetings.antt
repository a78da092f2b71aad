-- Where two edges meet wrongly, by their numbers and ends.
use Rattle.std.proofs.Common.{◌≡◌, ◌≢◌, ◌↔◌, ℕ, Bool, IsTrue, eqb, ◌&&◌, List, slice_get, Some, sym, ◌∙◌, ap, ap₂, subst, arith}
use Rattle.std.proofs.lemmas.Bool.Decides.{nat_tests}
use Rattle.std.proofs.lemmas.Option.{same_Some}
use Rattle.mvt_fault.specs.declared.ring.RingEdge.{RingEdge}
use Rattle.mvt_rules.specs.Meeting.{IsEdgeOf, IsShared, Follows, forward, backward, MeetsWrongly}
use Rattle.mvt_plane.specs.Position.{Position}
use Rattle.mvt_plane.specs.Geometry.RationalPoint.{RationalPoint, LiesOn, IsAt, IsBounded}
use Rattle.mvt_plane.specs.Geometry.Ring.{next_round}
use Rattle.mvt_plane.specs.declared.geometry.edge.Edge.{Edge}
use Rattle.mvt_plane.proofs.Rings.RingEdges.{ends_of_edge}
use Rattle.mvt_rules.proofs.Rings.EdgePairs.{one_edge}
use Rattle.mvt_confirm.specs.Calls.EdgeTests.{AreEdgesOf, IsApartAfter}
use Rattle.mvt_confirm.specs.declared.edge_tests.NumberedEdge.{NumberedEdge}

-- what is tested of two edges
pub record AreApartAt (first second : NumberedEdge) (vertex_count : ℕ) (point : RationalPoint) : Type 0 where
  pub different : first.number ≢ second.number
  pub on_first : LiesOn point first.edge
  pub on_second : LiesOn point second.edge
  pub after_first : IsApartAfter first second vertex_count point
  pub after_second : IsApartAfter second first vertex_count point

-- ---- edges by their numbers

-- an edge begins at the vertex of its number
begins_at : (rings : List (List Position)) (number : RingEdge) (it : Edge) (ring : List Position) → IsEdgeOf rings number it → slice_get rings number.ring ≡ Some ring → slice_get ring number.edge ≡ Some it.a
begins_at rings number it ring is there =
    let same : is.ring ≡ ring = same_Some is.ring ring (sym is.there ∙ there) in
    ap (λ (vertices : List Position). slice_get vertices number.edge) (sym same) ∙ (ends_of_edge is.ring number.edge it is.here).0

-- the two edges the other way round
edges_back : (rings : List (List Position)) (first second : NumberedEdge) (vertex_count : ℕ) → AreEdgesOf rings first second vertex_count → AreEdgesOf rings second first vertex_count
edges_back rings first second vertex_count are = record {
  one = are.other;
  other = are.one;
  count = λ ring same there. are.count ring (sym same) (ap (slice_get rings) same ∙ there);
}

-- they are found to be the same where both their numbers are
pub found_same : (found : Bool) (first second : RingEdge) → found ≡ (eqb first.ring second.ring && eqb first.edge second.edge) → IsTrue found ↔ (first ≡ second)
found_same found first second same = (there, back)
  where
    there : IsTrue found → first ≡ second
    there it =
        let both : IsTrue (eqb first.ring second.ring && eqb first.edge second.edge) = sym same ∙ it in
        let ring : first.ring ≡ second.ring = grind (arith, nat_tests) in
        let edge : first.edge ≡ second.edge = grind (arith, nat_tests) in
        ap₂ (λ (ring edge : ℕ). let it : RingEdge = record { ring = ring; edge = edge } in it) ring edge

    back : first ≡ second → IsTrue found
    back it =
        let ring : first.ring ≡ second.ring = ap (λ (number : RingEdge). number.ring) it in
        let edge : first.edge ≡ second.edge = ap (λ (number : RingEdge). number.edge) it in
        grind (arith, nat_tests)

-- ---- the vertex between them

-- a vertex between them is where the second edge begins, which has the next number
between_is_beginning : (rings : List (List Position)) (first second : NumberedEdge) (vertex_count : ℕ) (point : RationalPoint) (vertex : Position) → AreEdgesOf rings first second vertex_count
    → IsApartAfter first second vertex_count point → Follows rings first.number second.number vertex → ¬ IsAt point vertex
between_is_beginning rings first second vertex_count point vertex are apart follows at =
    let there = ap (slice_get rings) follows.same ∙ follows.there in
    let begins = begins_at rings second.number second.edge follows.ring are.other there in
    let same : vertex ≡ second.edge.a = same_Some vertex second.edge.a (sym follows.between ∙ begins) in
    let next = follows.next ∙ ap (λ (count : ℕ). next_round count first.number.edge) (are.count follows.ring follows.same follows.there) in
    apart follows.same next (subst (IsAt point) same at)

-- and where the numbers are such, that is between them
beginning_is_between : (rings : List (List Position)) (first second : NumberedEdge) (vertex_count : ℕ) → AreEdgesOf rings first second vertex_count
    → second.number.ring ≡ first.number.ring → second.number.edge ≡ next_round vertex_count first.number.edge
    → Follows rings first.number second.number second.edge.a
beginning_is_between rings first second vertex_count are same next =
    let ring = are.one.ring in
    let there = are.one.there in
    record {
      ring = ring;
      there = there;
      same = same;
      next = next ∙ ap (λ (count : ℕ). next_round count first.number.edge) (sym (are.count ring same there));
      between = begins_at rings second.number second.edge ring are.other (ap (slice_get rings) same ∙ there);
    }

-- ---- what the tests decide

-- two edges meet wrongly where the tests say so
meets_by_tests : (rings : List (List Position)) (first second : NumberedEdge) (vertex_count : ℕ) (point : RationalPoint) → AreEdgesOf rings first second vertex_count
    → AreApartAt first second vertex_count point → MeetsWrongly rings first.number second.number point
meets_by_tests rings first second vertex_count point are tests = record {
  different = tests.different;
  one = first.edge;
  one_there = are.one;
  other = second.edge;
  other_there = are.other;
  on_one = tests.on_first;
  on_other = tests.on_second;
  forbidden = forbidden;
}
  where
    forbidden : (vertex : Position) → IsShared rings first.number second.number vertex → ¬ IsAt point vertex
    forbidden vertex (forward follows) = between_is_beginning rings first second vertex_count point vertex are tests.after_first follows
    forbidden vertex (backward follows) =
        between_is_beginning rings second first vertex_count point vertex (edges_back rings first second vertex_count are) tests.after_second follows

-- and only there
tests_by_meeting : (rings : List (List Position)) (first second : NumberedEdge) (vertex_count : ℕ) (point : RationalPoint) → AreEdgesOf rings first second vertex_count
    → MeetsWrongly rings first.number second.number point → AreApartAt first second vertex_count point
tests_by_meeting rings first second vertex_count point are meets = record {
  different = meets.different;
  on_first = subst (LiesOn point) (one_edge rings first.number meets.one first.edge meets.one_there are.one) meets.on_one;
  on_second = subst (LiesOn point) (one_edge rings second.number meets.other second.edge meets.other_there are.other) meets.on_other;
  after_first = λ same next. meets.forbidden second.edge.a (forward (beginning_is_between rings first second vertex_count are same next));
  after_second = λ same next. meets.forbidden first.edge.a (backward (beginning_is_between rings second first vertex_count (edges_back rings first second vertex_count are) same next));
}

-- in order and at a point that is in range
pub meeting_in_order : {Found Ordered : Type 0} (rings : List (List Position)) (first second : RingEdge) (made point : RationalPoint) → made ≡ point → Ordered → IsBounded point
    → Found ↔ MeetsWrongly rings first second made → Found ↔ (Ordered × IsBounded point × MeetsWrongly rings first second point)
meeting_in_order {Found} {Ordered} rings first second made point same ordered bounded meets =
    let moved = subst (λ (at : RationalPoint). Found ↔ MeetsWrongly rings first second at) same meets in
    (λ found. (ordered, bounded, moved.0 found), λ all. moved.1 all.2)

-- a test that decides this decides where the edges meet wrongly
pub meeting_by_tests : {Found : Type 0} (rings : List (List Position)) (first second : NumberedEdge) (vertex_count : ℕ) (point : RationalPoint) → AreEdgesOf rings first second vertex_count
    → Found ↔ AreApartAt first second vertex_count point → Found ↔ MeetsWrongly rings first.number second.number point
meeting_by_tests {Found} rings first second vertex_count point are found =
    (λ it. meets_by_tests rings first second vertex_count point are (found.0 it), λ meets. found.1 (tests_by_meeting rings first second vertex_count point are meets))
