-- A walk over the vertices of the rings that numbers spell.
use Rattle.std.proofs.Common.{◌≡◌, ℕ, ◌+◌, ◌-◌, ◌/◌, ◌<◌, ◌==◌, ◌-ℤ◌, Bool, true, false, ◌∷◌, ◌++◌, [], List, length, Option, Some, None, refl, sym, ap, ◌∙◌, subst, arith}
use Rattle.std.proofs.lemmas.Bool.Decides.{nat_tests}
use Rattle.mvt_confirm.specs.Calls.Numbers.{TakesNumber}
use Rattle.mvt_confirm.specs.Calls.Vertices.{VertexWalk, TakesStep, SpellRings, SpellVertices, ring_end, RingsLeft, between, amid, IsFirstVertex, GivesPosition, EndsVertices, CountsDown, GivesVertex}
use Rattle.mvt_plane.specs.Commands.Figure.{IsStep, close_path, command_integer, cursor, line_to, move_to, paths, steps, zigzag}
use Rattle.mvt_plane.specs.Position.{Position}
use Rattle.mvt_wire.specs.Numbers.{NumberWalk, NumbersLeft, most_left}

-- In front of a ring

-- the first ring of those that are left, in front of it
record IsRingAhead (walk : VertexWalk) (rings : List (List Position)) : Type 0 where
  first : Position
  next : Position
  more : List Position
  further : List (List Position)
  whole : rings ≡ (first ∷ next ∷ more) ∷ further
  able : IsStep walk.here first
  numbers : List ℕ
  left : NumbersLeft walk.numbers (command_integer move_to 1 ∷ zigzag (first.x -ℤ walk.here.x) ∷ zigzag (first.y -ℤ walk.here.y)
      ∷ command_integer line_to (length (next ∷ more)) ∷ numbers) None
  vertices : SpellVertices first (length (next ∷ more)) (next ∷ more) further numbers

-- none is, or one
data IsFrontOfRing (walk : VertexWalk) (rings : List (List Position)) : Type 0 where
  no_ring : rings ≡ [] → NumbersLeft walk.numbers [] None → IsFrontOfRing walk rings
  some_ring : IsRingAhead walk rings → IsFrontOfRing walk rings

-- so it is with the rings that numbers spell
front_of_ring : (walk : VertexWalk) (rings : List (List Position)) (numbers : List ℕ) → NumbersLeft walk.numbers numbers None → SpellRings walk.here rings numbers → IsFrontOfRing walk rings
front_of_ring walk [] numbers left spell = no_ring refl (subst (λ (it : List ℕ). NumbersLeft walk.numbers it None) spell.spelled left)
front_of_ring walk ([] ∷ further) numbers left spell = absurd spell.able.0
front_of_ring walk ((first ∷ []) ∷ further) numbers left spell = absurd (omega (arith, spell.able.0))
front_of_ring walk ((first ∷ next ∷ more) ∷ further) numbers left spell = some_ring (record {
  first = first;
  next = next;
  more = more;
  further = further;
  whole = refl;
  able = spell.able.0.0;
  numbers = steps first (next ∷ more) ++ (ring_end ++ paths ring_end (cursor first (next ∷ more)) further);
  left = subst (λ (it : List ℕ). NumbersLeft walk.numbers it None) spell.spelled left;
  vertices = record {
    able = spell.able.0.1;
    so_many = refl;
    following = paths ring_end (cursor first (next ∷ more)) further;
    spelled = refl;
    rings = record { able = spell.able.1; spelled = refl };
  };
})

-- and where none of the vertices of a ring comes next
between_rings : (walk : VertexWalk) (rings : List (List Position)) → walk.left ≡ 0 → RingsLeft walk rings → IsFrontOfRing walk rings
between_rings walk rings front (between numbers zero_left left spell) = front_of_ring walk rings numbers left spell
between_rings walk rings front (amid vertices further numbers some left spell whole) = absurd (omega arith)

-- What a number says that was found

-- it is the one that stands next
next_is : (old new : NumberWalk) (found number : ℕ) (rest : List ℕ) → TakesNumber old new (Some found) → NumbersLeft old (number ∷ rest) None → (found ≡ number) × NumbersLeft new rest None
next_is old new found number rest taken left =
    let step = taken (number ∷ rest) left in
    (cc (step.1), subst (λ (it : List ℕ). NumbersLeft new it None) (cc (step.1)) step.2)

-- where one stands next, one is found
next_found : (old new : NumberWalk) (number : ℕ) (rest : List ℕ) → TakesNumber old new None → NumbersLeft old (number ∷ rest) None → ⊥
next_found old new number rest taken left =
    let none = taken (number ∷ rest) left in
    absurd (cc (none))

-- where none is left, none is found
none_found : (old new : NumberWalk) (found : ℕ) → TakesNumber old new (Some found) → NumbersLeft old [] None → ⊥
none_found old new found taken left =
    let step = taken [] left in
    absurd (cc (step.1))

-- A ring begins

-- where further vertices come next, the first isn't the last
first_of_several : (first next : Position) (more : List Position) (further rings : List (List Position)) (count : ℕ) → 0 < count → rings ≡ (first ∷ next ∷ more) ∷ further
    → IsFirstVertex first (count == 0) rings ((next ∷ more) ∷ further)
first_of_several first next more further rings count some whole =
    let several : (count == 0) ≡ false = grind (arith, nat_tests) in
    subst (λ (last : Bool). IsFirstVertex first last rings ((next ∷ more) ∷ further)) (sym several) (next, more, further, whole, refl)

-- after its MoveTo
moved_to : (old : VertexWalk) (after : NumberWalk) (command : ℕ) (rings : List (List Position)) → TakesNumber old.numbers after (Some command) → (ring : IsRingAhead old rings)
    → NumbersLeft after (zigzag (ring.first.x -ℤ old.here.x) ∷ zigzag (ring.first.y -ℤ old.here.y) ∷ command_integer line_to (length (ring.next ∷ ring.more)) ∷ ring.numbers) None
moved_to old after command rings taken ring = (next_is old.numbers after command _ _ taken ring.left).1

-- at its first vertex
at_first : (old : VertexWalk) (after following : NumberWalk) (command : ℕ) (found : Option Position) (rings : List (List Position)) → TakesNumber old.numbers after (Some command)
    → TakesStep (record { numbers = after; here = old.here; left = old.left }) following found → (ring : IsRingAhead old rings)
    → (found ≡ Some ring.first) × NumbersLeft following (command_integer line_to (length (ring.next ∷ ring.more)) ∷ ring.numbers) None
at_first old after following command found rings taken stepped ring =
    stepped _ (command_integer line_to (length (ring.next ∷ ring.more)) ∷ ring.numbers) ring.first (moved_to old after command rings taken ring) (record { able = ring.able; stands = refl })

-- after its first vertex and its LineTo
pub ring_begun : (old stepped : VertexWalk) (after new : NumberWalk) (command line : ℕ) (first : Position) → old.left ≡ 0 → TakesNumber old.numbers after (Some command)
    → TakesStep (record { numbers = after; here = old.here; left = old.left }) stepped.numbers (Some first) → stepped.here ≡ first → TakesNumber stepped.numbers new (Some line)
    → GivesPosition old (record { numbers = new; here = stepped.here; left = line / 8 }) first
ring_begun old stepped after new command line first front moved there here counted = λ rings left. elim (between_rings old rings front left) [
  | no_ring is end ↦ absurd (none_found old.numbers after command moved end)
  | some_ring ring ↦
      let at = at_first old after stepped.numbers command (Some first) rings moved there ring in
      let following = next_is stepped.numbers new line _ _ counted at.1 in
      let same : first ≡ ring.first = cc (at.0) in
      let count : line / 8 ≡ length (ring.next ∷ ring.more) = omega (arith, following.0) in
      let Given : Position → Position → ℕ → Type 0 = λ point at n.
      (left : List (List Position)) × RingsLeft (record { numbers = new; here = at; left = n }) left × IsFirstVertex point (n == 0) rings left in
      subst (λ (n : ℕ). Given first stepped.here n) (sym count)
      (subst (λ (at : Position). Given first at (length (ring.next ∷ ring.more))) (sym here)
      (subst (λ (point : Position). Given point point (length (ring.next ∷ ring.more))) (sym same) (
        (ring.next ∷ ring.more) ∷ ring.further,
        amid (ring.next ∷ ring.more) ring.further ring.numbers (omega arith) following.1 ring.vertices refl,
        first_of_several ring.first ring.next ring.more ring.further rings (length (ring.next ∷ ring.more)) (omega arith) ring.whole,
      )))
]

-- no number is missing where a ring is ahead
pub no_ring_moved : (old : VertexWalk) (after : NumberWalk) → old.left ≡ 0 → TakesNumber old.numbers after None → EndsVertices old
no_ring_moved old after front moved = λ rings left. elim (between_rings old rings front left) [
  | no_ring is end ↦ is
  | some_ring ring ↦ absurd (next_found old.numbers after _ _ moved ring.left)
]

pub no_ring_stepped : (old : VertexWalk) (after following : NumberWalk) (command : ℕ) → old.left ≡ 0 → TakesNumber old.numbers after (Some command)
    → TakesStep (record { numbers = after; here = old.here; left = old.left }) following None → EndsVertices old
no_ring_stepped old after following command front moved there = λ rings left. elim (between_rings old rings front left) [
  | no_ring is end ↦ is
  | some_ring ring ↦ let at = at_first old after following command None rings moved there ring in absurd (cc (at.0))
]

pub no_ring_counted : (old : VertexWalk) (after following new : NumberWalk) (command : ℕ) (first : Position) → old.left ≡ 0 → TakesNumber old.numbers after (Some command)
    → TakesStep (record { numbers = after; here = old.here; left = old.left }) following (Some first) → TakesNumber following new None → EndsVertices old
no_ring_counted old after following new command first front moved there counted = λ rings left. elim (between_rings old rings front left) [
  | no_ring is end ↦ is
  | some_ring ring ↦ absurd (next_found following new _ _ counted (at_first old after following command (Some first) rings moved there ring).1)
]

-- A ring goes on

-- a vertex of the first ring comes next
record IsVertexAhead (walk : VertexWalk) (rings : List (List Position)) : Type 0 where
  vertex : Position
  more : List Position
  further : List (List Position)
  whole : rings ≡ (vertex ∷ more) ∷ further
  able : IsStep walk.here vertex
  numbers : List ℕ
  left : NumbersLeft walk.numbers (zigzag (vertex.x -ℤ walk.here.x) ∷ zigzag (vertex.y -ℤ walk.here.y) ∷ numbers) None
  vertices : SpellVertices vertex (walk.left - 1) more further numbers

vertex_of : (walk : VertexWalk) (rings further : List (List Position)) (vertices : List Position) (numbers : List ℕ) → 0 < walk.left → NumbersLeft walk.numbers numbers None
    → SpellVertices walk.here walk.left vertices further numbers → rings ≡ vertices ∷ further → IsVertexAhead walk rings
vertex_of walk rings further [] numbers some left spell whole = absurd (omega (arith, spell.so_many))
vertex_of walk rings further (vertex ∷ more) numbers some left spell whole = record {
  vertex = vertex;
  more = more;
  further = further;
  whole = whole;
  able = spell.able.0;
  numbers = steps vertex more ++ (ring_end ++ spell.following);
  left = subst (λ (it : List ℕ). NumbersLeft walk.numbers it None) spell.spelled left;
  vertices = record { able = spell.able.1; so_many = omega (arith, spell.so_many); following = spell.following; spelled = refl; rings = spell.rings };
}

-- so it is after a vertex that isn't the last one of its ring
amid_ring : (walk : VertexWalk) (rings : List (List Position)) → 0 < walk.left → RingsLeft walk rings → IsVertexAhead walk rings
amid_ring walk rings some (between numbers zero_left left spell) = absurd (omega arith)
amid_ring walk rings some (amid vertices further numbers more left spell whole) = vertex_of walk rings further vertices numbers some left spell whole

-- at the next vertex
at_next : (old : VertexWalk) (following : NumberWalk) (found : Option Position) (rings : List (List Position)) → TakesStep old following found → (ahead : IsVertexAhead old rings)
    → (found ≡ Some ahead.vertex) × NumbersLeft following ahead.numbers None
at_next old following found rings stepped ahead = stepped _ ahead.numbers ahead.vertex ahead.left (record { able = ahead.able; stands = refl })

-- a step is found there
pub no_vertex_stepped : (old : VertexWalk) (following : NumberWalk) → 0 < old.left → TakesStep old following None → EndsVertices old
no_vertex_stepped old following some stepped = λ rings left.
    let at = at_next old following None rings stepped (amid_ring old rings some left) in
    absurd (cc (at.0))

-- where more of them come next, it isn't the last
first_of_more : (vertex : Position) (more : List Position) (further rings : List (List Position)) (count : ℕ) → 0 < count → length more ≡ count → rings ≡ (vertex ∷ more) ∷ further
    → IsFirstVertex vertex (count == 0) rings (more ∷ further)
first_of_more vertex [] further rings count some so_many whole = absurd (omega (arith, so_many))
first_of_more vertex (next ∷ more) further rings count some so_many whole = first_of_several vertex next more further rings count some whole

-- after a vertex with more of its ring
pub vertex_further : (old stepped : VertexWalk) (left : ℕ) (to : Position) → old.left ≡ left + 1 → 0 < left → TakesStep old stepped.numbers (Some to) → stepped.here ≡ to
    → GivesPosition old (record { numbers = stepped.numbers; here = stepped.here; left = left }) to
vertex_further old stepped left to less some there here = λ rings rings_left.
    let ahead = amid_ring old rings (omega arith) rings_left in
    let at = at_next old stepped.numbers (Some to) rings there ahead in
    let same : ahead.vertex ≡ to = cc (at.0) in
    let count : old.left - 1 ≡ left = omega arith in
    let so_many : length ahead.more ≡ left = ahead.vertices.so_many ∙ count in
    let vertices = subst (λ (n : ℕ). SpellVertices ahead.vertex n ahead.more ahead.further ahead.numbers) count ahead.vertices in (
      ahead.more ∷ ahead.further,
      amid ahead.more ahead.further ahead.numbers some at.1 (subst (λ (it : Position). SpellVertices it left ahead.more ahead.further ahead.numbers) (same ∙ sym here) vertices) refl,
      subst (λ (it : Position). IsFirstVertex it (left == 0) rings (ahead.more ∷ ahead.further)) same (first_of_more ahead.vertex ahead.more ahead.further rings left some so_many ahead.whole),
    )

-- After the last vertex of a ring

-- its end is ahead, and then the further rings
record IsEndAhead (at : Position) (further : List (List Position)) (numbers : List ℕ) : Type 0 where
  following : List ℕ
  stands : numbers ≡ command_integer close_path 1 ∷ following
  rings : SpellRings at further following

end_ahead : (at : Position) (vertices : List Position) (further : List (List Position)) (numbers : List ℕ) → SpellVertices at 0 vertices further numbers → (vertices ≡ []) × IsEndAhead at further numbers
end_ahead at [] further numbers spell = (refl, record { following = spell.following; stands = spell.spelled; rings = spell.rings })
end_ahead at (vertex ∷ more) further numbers spell = absurd (omega (arith, spell.so_many))

-- the numbers that stand after the last vertex
record IsLastAhead (walk : VertexWalk) (rings : List (List Position)) : Type 0 where
  ahead : IsVertexAhead walk rings
  none : ahead.more ≡ []
  end : IsEndAhead ahead.vertex ahead.further ahead.numbers

last_ahead : (walk : VertexWalk) (rings : List (List Position)) → walk.left ≡ 1 → RingsLeft walk rings → IsLastAhead walk rings
last_ahead walk rings one rings_left =
    let ahead = amid_ring walk rings (omega arith) rings_left in
    let count : walk.left - 1 ≡ 0 = omega arith in
    let end = end_ahead ahead.vertex ahead.more ahead.further ahead.numbers (subst (λ (n : ℕ). SpellVertices ahead.vertex n ahead.more ahead.further ahead.numbers) count ahead.vertices) in
    record { ahead = ahead; none = end.0; end = end.1 }

-- after its ClosePath
pub vertex_last : (old stepped : VertexWalk) (new : NumberWalk) (left number : ℕ) (to : Position) → old.left ≡ left + 1 → left ≡ 0 → TakesStep old stepped.numbers (Some to) → stepped.here ≡ to
    → TakesNumber stepped.numbers new (Some number) → GivesPosition old (record { numbers = new; here = stepped.here; left = left }) to
vertex_last old stepped new left number to less none there here closed = λ rings rings_left.
    let last = last_ahead old rings (omega arith) rings_left in
    let ahead = last.ahead in
    let at = at_next old stepped.numbers (Some to) rings there ahead in
    let same : ahead.vertex ≡ to = cc (at.0) in
    let left_there = subst (λ (it : List ℕ). NumbersLeft stepped.numbers it None) last.end.stands at.1 in
    let following = (next_is stepped.numbers new number _ last.end.following closed left_there).1 in
    let whole : rings ≡ (to ∷ []) ∷ ahead.further =
    ahead.whole ∙ (ap (λ (it : List Position). (ahead.vertex ∷ it) ∷ ahead.further) last.none ∙ ap (λ (it : Position). (it ∷ []) ∷ ahead.further) same) in
    let is_last : true ≡ (left == 0) = ap (λ (n : ℕ). n == 0) (sym none) in (
      ahead.further,
      between last.end.following none following (subst (λ (it : Position). SpellRings it ahead.further last.end.following) (same ∙ sym here) last.end.rings),
      subst (λ (it : Bool). IsFirstVertex to it rings ahead.further) is_last whole,
    )

-- the ClosePath is found
pub no_vertex_closed : (old : VertexWalk) (following new : NumberWalk) (to : Position) → old.left ≡ 1 → TakesStep old following (Some to) → TakesNumber following new None → EndsVertices old
no_vertex_closed old following new to one there closed = λ rings rings_left.
    let last = last_ahead old rings one rings_left in
    let at = at_next old following (Some to) rings there last.ahead in
    absurd (next_found following new _ last.end.following closed (subst (λ (it : List ℕ). NumbersLeft following it None) last.end.stands at.1))

-- A vertex is given

-- how a walk got on to a vertex
record GetsOn (old new : VertexWalk) (point : Position) : Type 0 where
  vertex : GivesPosition old new point
  fewer : most_left new.numbers < most_left old.numbers
  counts : CountsDown old new

-- it is given with whether it is the last one of its ring
pub vertex_given : (old new given : VertexWalk) (point at : Position) (left : ℕ) → new ≡ given → at ≡ point → left ≡ new.left → GivesPosition old given point
    → most_left given.numbers < most_left old.numbers → CountsDown old given → GivesVertex old new (record { point = at; is_last = left == 0 })
vertex_given old new given point at left is_new is_point is_left vertex fewer counts =
    let gets_on : GetsOn old given point = record { vertex = vertex; fewer = fewer; counts = counts } in
    let here = subst (λ (it : VertexWalk). GetsOn old it at) (sym is_new) (subst (λ (it : Position). GetsOn old given it) (sym is_point) gets_on) in
    subst (λ (n : ℕ). GivesVertex old new (record { point = at; is_last = n == 0 })) (sym is_left) (record { first = here.vertex; fewer = here.fewer; last = refl; counts = here.counts })
