-- A walk over the vertices of the first ring of those that are left, with the parity of the edges that pass over a position.
use Rattle.std.proofs.Common.{◌≡◌, ◌↔◌, Bool, true, false, IsTrue, List, [], ◌∷◌, ◌++◌, refl, sym, ap, ◌∙◌, subst, append_assoc}
use Rattle.mvt_confirm.specs.Calls.Vertices.{VertexWalk, EndsVertices, IsFirstVertex, RingsLeft}
use Rattle.mvt_confirm.specs.Calls.EdgeTests.{IsParityOf}
use Rattle.mvt_confirm.specs.declared.crossings.Crossings.{Crossings}
use Rattle.mvt_confirm.proofs.Drawing.RingWalks.{IsLeftOver}
use Rattle.mvt_plane.specs.Geometry.Inside.{HoldsOfOdd, IsInside, PassesOver}
use Rattle.mvt_plane.specs.Position.{Position}
use Rattle.mvt_plane.specs.Geometry.Ring.{edges, edges_through}
use Rattle.mvt_plane.specs.declared.geometry.edge.Edge.{Edge}

-- Between a ring's first vertex and the last one of those that were passed: the parity of the edges so far, and the vertices
-- still to come
pub record IsAmidCrossings (position : Position) (ring : List Position) (rest : List (List Position)) (walk : VertexWalk) (first last : Position) (over : Bool) (crossings : Crossings) : Type 0 where
  pub passed : List Edge
  pub more : List Position
  pub left : IsLeftOver over walk more rest
  pub whole : edges ring ≡ passed ++ edges_through first last more
  pub parity : IsParityOf crossings position passed

-- one edge more turns the parity where it passes over the position
abbrev Turns : Crossings → Crossings → Position → Edge → Type 0
Turns before after position edge = (passed : List Edge) → IsParityOf before position passed → IsParityOf after position (passed ++ (edge ∷ []))

module _ (position : Position) (ring : List Position) (rest : List (List Position)) where
  -- at the first vertex
  pub crossings_begun : (left : List (List Position)) (walk : VertexWalk) (first : Position) (over : Bool) (crossings : Crossings) → RingsLeft walk left → IsFirstVertex first over (ring ∷ rest) left
      → IsParityOf crossings position [] → IsAmidCrossings position ring rest walk first first over crossings
  crossings_begun left walk first true crossings rings_left is parity =
      let same : ring ≡ first ∷ [] = cc in
      let following : left ≡ rest = cc in
      record { passed = []; more = []; left = (refl, subst (RingsLeft walk) following rings_left); whole = ap edges same; parity = parity }
  crossings_begun left walk first false crossings rings_left is parity =
      let same : ring ≡ first ∷ is.0 ∷ is.1 = cc (is.3) in
      let following : is.2 ≡ rest = cc (is.3) in
      record {
        passed = [];
        more = is.0 ∷ is.1;
        left = subst (λ (it : List (List Position)). RingsLeft walk ((is.0 ∷ is.1) ∷ it)) following (subst (RingsLeft walk) is.4 rings_left);
        whole = ap edges same;
        parity = parity;
      }

  -- at the next one, after which these come
  at_next : (old new : VertexWalk) (first last at : Position) (over : Bool) (before after : Crossings) (amid : IsAmidCrossings position ring rest old first last false before) (more : List Position)
      → amid.more ≡ at ∷ more → IsLeftOver over new more rest → Turns before after position (record { a = last; b = at }) → IsAmidCrossings position ring rest new first at over after
  at_next old new first last at over before after amid more next left turns =
      let edge : Edge = record { a = last; b = at } in
      record {
        passed = amid.passed ++ (edge ∷ []);
        more = more;
        left = left;
        whole = amid.whole ∙ (ap (λ (it : List Position). amid.passed ++ edges_through first last it) next ∙ sym (append_assoc amid.passed (edge ∷ []) (edges_through first at more)));
        parity = turns amid.passed amid.parity;
      }

  -- which the walk gives
  pub crossings_more : (left : List (List Position)) (old new : VertexWalk) (first last at : Position) (over : Bool) (before after : Crossings)
      (amid : IsAmidCrossings position ring rest old first last false before) → RingsLeft new left → IsFirstVertex at over (amid.more ∷ rest) left
      → Turns before after position (record { a = last; b = at }) → IsAmidCrossings position ring rest new first at over after
  crossings_more left old new first last at true before after amid rings_left is turns =
      let next : amid.more ≡ at ∷ [] = cc in
      let following : left ≡ rest = cc in
      at_next old new first last at true before after amid [] next (refl, subst (RingsLeft new) following rings_left) turns
  crossings_more left old new first last at false before after amid rings_left is turns =
      let next : amid.more ≡ at ∷ is.0 ∷ is.1 = cc (is.3) in
      let following : is.2 ≡ rest = cc (is.3) in
      at_next old new first last at false before after amid (is.0 ∷ is.1) next
      (subst (λ (it : List (List Position)). RingsLeft new ((is.0 ∷ is.1) ∷ it)) following (subst (RingsLeft new) is.4 rings_left)) turns

  -- there is a next one where the ring isn't over
  pub crossings_go_on : (walk : VertexWalk) (first last : Position) (crossings : Crossings) → IsAmidCrossings position ring rest walk first last false crossings → EndsVertices walk → ⊥
  crossings_go_on walk first last crossings amid ends =
      let none = ends (amid.more ∷ rest) amid.left in
      absurd (cc (none))

  -- after the edge back to the first vertex, the parity says whether the position is inside
  pub crossings_decided : (walk : VertexWalk) (first last : Position) (before after : Crossings) (answer : Bool) → IsAmidCrossings position ring rest walk first last true before
      → Turns before after position (record { a = last; b = first }) → answer ≡ after.is_odd → (IsTrue answer ↔ IsInside position ring) × RingsLeft walk rest
  crossings_decided walk first last before after answer amid turns is =
      let edge : Edge = record { a = last; b = first } in
      let whole : edges ring ≡ amid.passed ++ (edge ∷ []) = amid.whole ∙ ap (λ (it : List Position). amid.passed ++ edges_through first last it) amid.left.0 in (
        subst (λ (it : List Edge). IsTrue answer ↔ HoldsOfOdd (PassesOver position) it) (sym whole)
            (subst (λ (test : Bool). IsTrue test ↔ HoldsOfOdd (PassesOver position) (amid.passed ++ (edge ∷ []))) (sym is) (turns amid.passed amid.parity)),
        amid.left.1,
      )
