-- What is noted of rings, up to a key.
use Rattle.std.proofs.Common.{◌≡◌, ◌≢◌, inl, inr, ℕ, zero, suc, ◌+◌, ◌-◌, ◌%◌, ◌==◌, ◌<◌, ◌≤◌, Bool, not, IsTrue, ◌↔◌, List, [], ◌∷◌, ◌++◌, length, get_or, set, take, slice_get, slice_index, Option, Some, None, ℤ, ◌≤ℤ◌, refl, sym, ap, subst, ◌∙◌, arith}
use Rattle.std.proofs.lemmas.Bool.{cases_eq}
use Rattle.std.proofs.lemmas.Int.{ints}
use Rattle.std.proofs.lemmas.List.{get_or-take, get_or-set_other, length-set, length-take-le}
use Rattle.std.proofs.lemmas.Option.{get_or_from_slice_get, same_Some, none-some, slice_get_within, slice_get-get_or}
use Rattle.mvt_plane.specs.Geometry.Measure.{key_of}
use Rattle.mvt_fault.specs.declared.ring.RingEdge.{RingEdge}
use Rattle.mvt_plane.specs.Position.{Position}
use Rattle.mvt_plane.proofs.Orders.Order.{le_or_lt}
use Rattle.mvt_status.specs.Split.{before}
use Rattle.mvt_status.specs.declared.status.Split.{Split}
use Rattle.mvt_sweep.specs.Calls.Chain.{Has}
use Rattle.mvt_sweep.specs.Calls.SweepVertices.{IsNumbered, sweep_count, next_at, plan_of, position_at, previous_at}
use Rattle.mvt_sweep.specs.Work.{vertex_count}
use Rattle.mvt_sweep.specs.Calls.FrontEdges.{AreBelow}
use Rattle.mvt_sweep.specs.Meeting.{NoMeeting}
use Rattle.mvt_sweep.specs.Calls.RingNotes.{AreListsNotedTo, IsIndexOf, IsNoted, IsNoteAbove, IsNoteOf}
use Rattle.mvt_sweep.specs.RingsAround.{nearest_at, nearest_in, odd_in}
use Rattle.mvt_sweep.specs.Calls.RingsBelow.{is_odd_number, HaveOddBelow, IsLeastVertex}
use Rattle.mvt_sweep.specs.Calls.Steps.{IsAhead, IsBegun, IsPassed}
use Rattle.mvt_sweep.specs.declared.sweep.vertices.SweepVertices.{SweepVertices}
use Rattle.mvt_sweep.specs.declared.sweep.notes.Around.{Around}
use Rattle.mvt_sweep.specs.declared.sweep.notes.Around.TheVariants.{Unknown, Nothing}
use Rattle.mvt_sweep.proofs.Chains.ChainParts.{has_left, has_place}
use Rattle.mvt_sweep.proofs.Vertices.VertexNumbers.{sweep_vertex_there, numbered_within, one_place, vertex_at}
use Rattle.mvt_sweep.proofs.Vertices.VertexPlans.{next_numbered, previous_numbered}
use Rattle.mvt_sweep.proofs.Notes.FrontEdges.{front_is_below}
use Rattle.mvt_sweep.proofs.Notes.FrontRings.{odd_of_front, none_of_front, ring_of_front, rings_in_range}
use Rattle.mvt_sweep.proofs.Notes.NoteWrites.{set_here, set_others, goes_on, next_there, there_or_next, odd_by_two, nearest_directly, known_directly}
use Rattle.mvt_sweep.proofs.Notes.RingsAround.{note_of_none, note_of_above}
use Rattle.mvt_sweep.proofs.Vertices.SegmentEnds.{low_is}

-- The edge below

-- its ring is noted where the line came to an end of it
noted_by_end : (rings : List (List Position)) (vertices : SweepVertices) (key : ℤ) (index : List ℕ) (notes : List Around) (come_to : List ℕ) (edge : ℕ) (at : RingEdge)
    → AreListsNotedTo rings vertices key index notes come_to → edge < sweep_count vertices → IsNumbered rings edge at → key_of ((plan_of vertices).segment edge).low ≤ℤ key
    → IsNoted notes at.ring
noted_by_end rings vertices key index notes come_to edge at noted within is begun = elim (low_is (position_at vertices edge) (position_at vertices (next_at vertices edge))) [
  | inl own ↦ noted.there edge at is (subst (λ (p : Position). key_of p ≤ℤ key) own begun)
  | inr next ↦ noted.there (next_at vertices edge) _ (next_numbered rings vertices.list.now edge at noted.proper noted.are is) (subst (λ (p : Position). key_of p ≤ℤ key) next begun)
]

-- the edge in front of the place is the last one of those below
front_last : (edges : List ℕ) (point : ℕ) (front : Option ℕ) (edge : ℕ) → front ≡ before edges point → front ≡ Some edge → point ≤ length edges
    → (0 < point) × (edge ≡ slice_index (take point edges) (point - 1))
front_last edges zero front edge beside some within = absurd (none-some edge (sym beside ∙ some))
front_last edges (suc point) front edge beside some within =
    let there : slice_get edges point ≡ Some edge = sym beside ∙ some in
    let last : suc point - 1 ≡ point = omega arith in
    (omega arith, sym (ap (slice_index (take (suc point) edges)) last ∙ get_or-take (suc point) edges point 0 (omega arith) ∙ get_or_from_slice_get edges point edge 0 there))

-- where there is none, no edge is below
front_none : (edges : List ℕ) (point : ℕ) (front : Option ℕ) → front ≡ before edges point → front ≡ None → point ≤ length edges → point ≡ 0
front_none edges zero front beside none within = refl
front_none edges (suc point) front beside none within =
    absurd (none-some (get_or edges point 0) (sym none ∙ beside ∙ slice_get-get_or edges point 0 (omega arith)))

-- the edge in front of the place is one of a ring that is noted
pub below_noted : (rings : List (List Position)) (vertices : SweepVertices) (key : ℤ) (index : List ℕ) (notes : List Around) (come_to : List ℕ) (number edge : ℕ) (place : Split) (edges : List ℕ)
    → AreListsNotedTo rings vertices key index notes come_to → IsPassed vertices key number (Some place) edges → place.front ≡ Some edge
    → (at : RingEdge) × IsNumbered rings edge at × IsNoted notes at.ring
below_noted rings vertices key index notes come_to number edge place edges noted passed some =
    let begun : IsBegun vertices number place edges = passed.has_begun in
    let last = front_last edges place.point place.front edge begun.beside.front some begun.within in
    let front = take place.point edges in
    let long : length front ≡ place.point = length-take-le place.point edges begun.within in
    let has : Has front (slice_index front (place.point - 1)) = has_place front (place.point - 1) (omega (arith, long, last.0)) in
    let all : Has edges edge = subst (λ (list : List ℕ). Has list edge) (sym begun.cut.whole) (has_left front _ edge (subst (Has front) (sym last.1) has)) in
    let active = passed.swept.active edge all in
    let vertex = sweep_vertex_there rings vertices.list.now edge noted.are active.known in
    (vertex.place, vertex.is, noted_by_end rings vertices key index notes come_to edge vertex.place noted active.known vertex.is active.begun)

-- One more ring

-- nothing is noted of a ring, or something
not_both : (notes : List Around) (ring : ℕ) → slice_get notes ring ≡ Some Unknown → IsNoted notes ring → ⊥
not_both notes ring nothing something = something.2 (same_Some something.0 Unknown (sym something.1 ∙ nothing))

-- of another ring than this one, what is noted stays
another_noted : (notes : List Around) (ring other : ℕ) (new : Around) → slice_get notes ring ≡ Some Unknown → IsNoted notes other → (other ≢ ring) × IsNoted (set notes ring new) other
another_noted notes ring other new nothing found =
    let differ : other ≢ ring = λ same. not_both notes ring nothing (subst (IsNoted notes) same found) in
    (differ, (found.0, set_others notes ring other new differ ∙ found.1, found.2))

-- a note is right with one ring more
note_kept : (rings : List (List Position)) (notes : List Around) (ring other : ℕ) (new note : Around) → slice_get notes ring ≡ Some Unknown
    → ((nearest : ℕ) → nearest_in note ≡ Some nearest → IsNoted notes nearest) → IsNoteOf rings notes other note → IsNoteOf rings (set notes ring new) other note
note_kept rings notes ring other new note nothing known is = record {
  position = is.position;
  first = is.first;
  odd = is.odd;
  alone = is.alone;
  even = is.even;
  around = is.around;
  turned = λ nearest near.
      let differ = (another_noted notes ring nearest new nothing (known nearest near)).0 in
      is.turned nearest near ∙ ap (λ (it : Around). not (odd_in it)) (sym (get_or-set_other notes ring nearest new Unknown differ));
}

-- what is noted of a ring says which one is the nearest
nearest_of : (notes : List Around) (ring : ℕ) (note : Around) → slice_get notes ring ≡ Some note → nearest_at notes ring ≡ nearest_in note
nearest_of notes ring note there = ap nearest_in (get_or_from_slice_get notes ring note Unknown there)

-- the nearest one is noted
pub nearest_noted : {rings : List (List Position)} {vertices : SweepVertices} {key : ℤ} {index : List ℕ} {notes : List Around} {come_to : List ℕ} (ring nearest : ℕ) (note : Around)
    → AreListsNotedTo rings vertices key index notes come_to → slice_get notes ring ≡ Some note → note ≢ Unknown → nearest_in note ≡ Some nearest → IsNoted notes nearest
nearest_noted {notes = notes} ring nearest note noted there noted_so near =
    let listed = noted.listed ring (note, there, noted_so) in
    let following = noted.following listed.0 ring nearest listed.1 (nearest_of notes ring note there ∙ near) in
    noted.only following.0 nearest following.2

-- so it is with one ring more
one_noted : (rings : List (List Position)) (vertices : SweepVertices) (key : ℤ) (index : List ℕ) (notes : List Around) (come_to : List ℕ) (ring : ℕ) (new : Around)
    → AreListsNotedTo rings vertices key index notes come_to → slice_get notes ring ≡ Some Unknown → new ≢ Unknown → ((nearest : ℕ) → nearest_in new ≡ Some nearest → IsNoted notes nearest)
    → (NoMeeting rings → IsNoteOf rings notes ring new) → AreListsNotedTo rings vertices key index (set notes ring new) (come_to ++ ring ∷ [])
one_noted rings vertices key index notes come_to ring new noted nothing is_known known right = record {
  proper = noted.proper;
  are = noted.are;
  numbers = noted.numbers;
  count = length-set notes ring new ∙ noted.count;
  there = λ number at is early. (another_noted notes ring at.ring new nothing (noted.there number at is early)).1;
  right = λ none other note there noted_so. elim (cases_eq other ring) [
    | inl same ↦
        let alike : new ≡ note = same_Some new note (sym here ∙ ap (slice_get more) (sym same) ∙ there) in
        note_kept rings notes ring other new note nothing (λ nearest near. known nearest (ap nearest_in alike ∙ near))
        (subst (λ (r : ℕ). IsNoteOf rings notes r note) (sym same) (subst (IsNoteOf rings notes ring) alike (right none)))
    | inr differ ↦
        let old : slice_get notes other ≡ Some note = sym (set_others notes ring other new differ) ∙ there in
        note_kept rings notes ring other new note nothing (λ nearest near. nearest_noted other nearest note noted old noted_so near) (noted.right none other note old noted_so)
  ];
  listed = λ other found. elim (cases_eq other ring) [
    | inl same ↦ (length come_to, next_there come_to ring ∙ ap Some (sym same))
    | inr differ ↦
        let old = noted.listed other (found.0, sym (set_others notes ring other new differ) ∙ found.1, found.2) in
        (old.0, goes_on come_to (ring ∷ []) old.0 other old.1)
  ];
  only = λ at other there. elim (there_or_next come_to ring at other there) [
    | inl old ↦ (another_noted notes ring other new nothing (noted.only at other old)).1
    | inr (_, same) ↦ (new, ap (slice_get more) same ∙ here, is_known)
  ];
  following = λ at other nearest there near. elim (there_or_next come_to ring at other there) [
    | inl old ↦
        let differ = (another_noted notes ring other new nothing (noted.only at other old)).0 in
        let found = noted.following at other nearest old (ap nearest_in (sym (get_or-set_other notes ring other new Unknown differ)) ∙ near) in
        (found.0, found.1, goes_on come_to (ring ∷ []) found.0 nearest found.2)
    | inr (last, same) ↦
        let its : nearest_in new ≡ Some nearest = sym (nearest_of more ring new here) ∙ ap (nearest_at more) (sym same) ∙ near in
        let listed = noted.listed nearest (known nearest its) in
        let within = slice_get_within come_to listed.0 nearest listed.1 in
        (listed.0, omega (arith, within, last), goes_on come_to (ring ∷ []) listed.0 nearest listed.1)
  ];
}
  where
    more : List Around
    more = set notes ring new

    here : slice_get more ring ≡ Some new
    here = set_here notes ring new (slice_get_within notes ring Unknown nothing)

-- and after the next vertex, where something is noted of its ring
noted_on : (rings : List (List Position)) (vertices : SweepVertices) (key : ℤ) (index : List ℕ) (notes : List Around) (come_to : List ℕ) (number : ℕ) (at : RingEdge)
    → AreListsNotedTo rings vertices key index notes come_to → IsAhead vertices key number → IsNumbered rings number at → IsNoted notes at.ring
    → AreListsNotedTo rings vertices (key_of (position_at vertices number)) index notes come_to
noted_on rings vertices key index notes come_to number at noted ahead is found = record {
  proper = noted.proper;
  are = noted.are;
  numbers = noted.numbers;
  count = noted.count;
  there = λ other its is_other up. elim (ahead other (numbered_within rings vertices.list.now other its noted.are is_other) up) [
    | inl old ↦ noted.there other its is_other old
    | inr same ↦
        let own : at ≡ its = one_place rings number at its is (subst (λ (n : ℕ). IsNumbered rings n its) same is_other) in
        subst (λ (place : RingEdge). IsNoted notes place.ring) own found
  ];
  right = noted.right;
  listed = noted.listed;
  only = noted.only;
  following = noted.following;
}

-- A vertex in which both edges begin

-- where nothing was noted of its ring, it is the first vertex of the ring
first_there : (rings : List (List Position)) (vertices : SweepVertices) (key : ℤ) (index : List ℕ) (notes : List Around) (come_to : List ℕ) (number : ℕ) (at : RingEdge)
    → AreListsNotedTo rings vertices key index notes come_to → IsAhead vertices key number → IsNumbered rings number at → slice_get notes at.ring ≡ Some Unknown
    → IsLeastVertex rings at.ring (position_at vertices number)
first_there rings vertices key index notes come_to number at noted ahead is nothing = record {
  vertices = is.ring;
  there = is.there;
  vertex = at.edge;
  here = (vertex_at rings vertices.list.now number at noted.proper noted.are is).here;
  first = λ another other here. elim (le_or_lt (key_of (position_at vertices number)) (key_of other)) [
    | inl up ↦ up
    | inr down ↦
        let place : RingEdge = record { ring = at.ring; edge = another } in
        let it = vertex_count (take at.ring rings) + another in
        let its : IsNumbered rings it place = record { ring = is.ring; there = is.there; within = slice_get_within is.ring another other here; numbered = refl } in
        let inside = numbered_within rings vertices.list.now it place noted.are its in
        let same : position_at vertices it ≡ other = same_Some (position_at vertices it) other (sym (vertex_at rings vertices.list.now it place noted.proper noted.are its).here ∙ here) in
        let keys = ap key_of same in
        elim (ahead it inside (omega (arith, ints, keys, down))) [
          | inl old ↦ absurd (not_both notes at.ring nothing (noted.there it place its old))
          | inr own ↦ let alike = ap (λ (n : ℕ). key_of (position_at vertices n)) own in absurd (omega (arith, ints, keys, alike, down))
        ]
  ];
}

-- where its ring was noted, nothing more is to be
pub noted_before : (rings : List (List Position)) (vertices : SweepVertices) (key : ℤ) (index : List ℕ) (notes : List Around) (come_to : List ℕ) (number : ℕ) (at : RingEdge)
    (begun : Option Split) (edges : List ℕ) → AreListsNotedTo rings vertices key index notes come_to → IsPassed vertices key number begun edges → IsNumbered rings number at → IsNoted notes at.ring
    → AreListsNotedTo rings vertices (key_of (position_at vertices number)) index notes come_to
noted_before rings vertices key index notes come_to number at begun edges noted passed is found = noted_on rings vertices key index notes come_to number at noted passed.ahead is found

-- that no ring is around is known
nothing_known : Nothing ≢ Unknown
nothing_known same = cc

-- where no edge is below, it is noted that no ring is around its ring
pub noted_alone : (rings : List (List Position)) (vertices : SweepVertices) (key : ℤ) (index : List ℕ) (notes : List Around) (come_to : List ℕ) (number : ℕ) (at : RingEdge)
    (place : Split) (edges : List ℕ) → AreListsNotedTo rings vertices key index notes come_to → IsPassed vertices key number (Some place) edges → IsNumbered rings number at
    → slice_get notes at.ring ≡ Some Unknown → place.front ≡ None
    → AreListsNotedTo rings vertices (key_of (position_at vertices number)) index (set notes at.ring Nothing) (come_to ++ at.ring ∷ [])
noted_alone rings vertices key index notes come_to number at place edges noted passed is nothing none_below =
    let begun : IsBegun vertices number place edges = passed.has_begun in
    let position : Position = position_at vertices number in
    let front : List ℕ = take place.point edges in
    let new : Around = Nothing in
    let zero_long : length front ≡ 0 = length-take-le place.point edges begun.within ∙ front_none edges place.point place.front begun.beside.front none_below begun.within in
    let below : AreBelow vertices position front = front_is_below vertices number edges front _ passed.known passed.next begun.begin begun.cut in
    let first = first_there rings vertices key index notes come_to number at noted passed.ahead is nothing in
    let more = one_noted rings vertices key index notes come_to at.ring new noted nothing nothing_known (λ nearest same. absurd (none-some nearest same))
    (λ none. note_of_none rings notes at.ring position none (rings_in_range rings vertices noted.proper noted.are) first
    (none_of_front rings vertices position front noted.proper noted.are below zero_long)) in
    noted_on rings vertices key index (set notes at.ring new) (come_to ++ at.ring ∷ []) number at more passed.ahead is
    (new, set_here notes at.ring new (slice_get_within notes at.ring Unknown nothing), nothing_known)

-- where one is, what is noted of its ring
pub noted_above : (rings : List (List Position)) (vertices : SweepVertices) (key : ℤ) (index : List ℕ) (notes : List Around) (come_to : List ℕ) (number edge : ℕ) (at lower : RingEdge)
    (place : Split) (edges : List ℕ) (one new : Around) → AreListsNotedTo rings vertices key index notes come_to → IsPassed vertices key number (Some place) edges → IsNumbered rings number at
    → slice_get notes at.ring ≡ Some Unknown → place.front ≡ Some edge → IsNumbered rings edge lower → slice_get notes lower.ring ≡ Some one → one ≢ Unknown
    → IsNoteAbove one lower.ring (place.point % 2 == 1) new
    → AreListsNotedTo rings vertices (key_of (position_at vertices number)) index (set notes at.ring new) (come_to ++ at.ring ∷ [])
noted_above rings vertices key index notes come_to number edge at lower place edges one new noted passed is nothing some lower_is its its_known is_above =
    let begun : IsBegun vertices number place edges = passed.has_begun in
    let position : Position = position_at vertices number in
    let front : List ℕ = take place.point edges in
    let long : length front ≡ place.point = length-take-le place.point edges begun.within in
    let last = front_last edges place.point place.front edge begun.beside.front some begun.within in
    let same : edge ≡ slice_index front (length front - 1) = last.1 ∙ ap (λ (n : ℕ). slice_index front (n - 1)) (sym long) in
    let below : AreBelow vertices position front = front_is_below vertices number edges front _ passed.known passed.next begun.begin begun.cut in
    let first = first_there rings vertices key index notes come_to number at noted passed.ahead is nothing in
    let parity : length front ≡ place.point = long in
    let decides : IsTrue (place.point % 2 == 1) ↔ HaveOddBelow position rings =
    subst (λ (odd : Bool). IsTrue odd ↔ HaveOddBelow position rings) (ap is_odd_number long ∙ sym (odd_by_two place.point)) (odd_of_front rings vertices position front noted.proper noted.are below) in
    let known : (nearest : ℕ) → nearest_in new ≡ Some nearest → IsNoted notes nearest = λ nearest near. elim is_above [
      | inl (_, kept) ↦ nearest_noted lower.ring nearest one noted its its_known (ap nearest_in (sym kept) ∙ near)
      | inr (_, added) ↦ (one, ap (slice_get notes) (same_Some nearest lower.ring (sym near ∙ ap nearest_in added ∙ nearest_directly lower.ring (place.point % 2 == 1))) ∙ its, its_known)
    ] in
    let new_known : new ≢ Unknown = λ unknown. elim is_above [
      | inl (_, kept) ↦ its_known (sym kept ∙ unknown)
      | inr (_, added) ↦ known_directly lower.ring (place.point % 2 == 1) (sym added ∙ unknown)
    ] in
    let more = one_noted rings vertices key index notes come_to at.ring new noted nothing new_known known
    (λ none. note_of_above rings notes at.ring lower.ring position one new (place.point % 2 == 1) none (rings_in_range rings vertices noted.proper noted.are) first
    (ring_of_front rings vertices position front lower noted.proper noted.are below (omega (arith, long, last.0)) (subst (λ (n : ℕ). IsNumbered rings n lower) same lower_is))
    its (noted.right none lower.ring one its its_known) is_above decides) in
    noted_on rings vertices key index (set notes at.ring new) (come_to ++ at.ring ∷ []) number at more passed.ahead is
    (new, set_here notes at.ring new (slice_get_within notes at.ring Unknown nothing), new_known)

-- A vertex in which an edge ended

-- its ring was come to before, so nothing new is to be noted
pub noted_after_an_end : (rings : List (List Position)) (vertices : SweepVertices) (key : ℤ) (index : List ℕ) (notes : List Around) (come_to : List ℕ) (number : ℕ) (edges : List ℕ)
    → AreListsNotedTo rings vertices key index notes come_to → IsPassed vertices key number None edges
    → AreListsNotedTo rings vertices (key_of (position_at vertices number)) index notes come_to
noted_after_an_end rings vertices key index notes come_to number edges noted passed =
    let vertex = sweep_vertex_there rings vertices.list.now number noted.are passed.known in
    let an_end = passed.has_begun in
    let less = an_end.before in
    let came : (neighbour : ℕ) (at : RingEdge) → an_end.neighbour ≡ neighbour → neighbour < sweep_count vertices → IsNumbered rings neighbour at → IsNoted notes at.ring = λ neighbour at same inside is.
    let keys = ap (λ (n : ℕ). key_of (position_at vertices n)) same in
    elim (passed.ahead neighbour inside (omega (arith, ints, keys, less))) [
      | inl old ↦ noted.there neighbour at is old
      | inr own ↦ let alike = ap (λ (n : ℕ). key_of (position_at vertices n)) own in absurd (omega (arith, ints, keys, alike, less))
    ] in
    noted_on rings vertices key index notes come_to number vertex.place noted passed.ahead vertex.is
    (elim an_end.is [
      | inl next ↦ came (next_at vertices number) _ next (vertices.linked.next_known number passed.known) (next_numbered rings vertices.list.now number vertex.place noted.proper noted.are vertex.is)
      | inr previous ↦
          came (previous_at vertices number) _ previous (vertices.linked.previous_known number passed.known) (previous_numbered rings vertices.list.now number vertex.place noted.proper noted.are vertex.is)
    ])

-- What the code reads and writes

-- the index is that of these rings and vertices
pub index_noted : {rings : List (List Position)} {vertices : SweepVertices} {key : ℤ} {index : List ℕ} {notes : List Around} {come_to : List ℕ}
    → AreListsNotedTo rings vertices key index notes come_to → IsIndexOf rings vertices index
index_noted noted = record { proper = noted.proper; are = noted.are; numbers = noted.numbers }

-- the ring of a vertex, by the index, has its place in the notes
pub ring_read : {rings : List (List Position)} {vertices : SweepVertices} {key : ℤ} {index : List ℕ} {notes : List Around} {come_to : List ℕ} (number ring : ℕ) (at : RingEdge)
    → AreListsNotedTo rings vertices key index notes come_to → IsNumbered rings number at
    → ((its : List (List Position)) (place : RingEdge) → IsIndexOf its vertices index → IsNumbered its number place → ring ≡ place.ring) → (ring ≡ at.ring) × (ring < length notes)
ring_read {rings = rings} number ring at noted is read =
    let same : ring ≡ at.ring = read rings at (index_noted noted) is in
    let within = slice_get_within rings at.ring is.ring is.there in
    (same, omega (arith, within, same, noted.count))

-- the notes with one more
pub as_written : (rings : List (List Position)) (vertices : SweepVertices) (key : ℤ) (index : List ℕ) (notes : List Around) (come_to more : List ℕ) (ring its : ℕ) (new note : Around)
    → ring ≡ its → new ≡ note → more ≡ come_to ++ ring ∷ [] → AreListsNotedTo rings vertices key index (set notes its note) (come_to ++ its ∷ [])
    → AreListsNotedTo rings vertices key index (set notes ring new) more
as_written rings vertices key index notes come_to more ring its new note same is listed noted =
    subst (AreListsNotedTo rings vertices key index (set notes ring new)) (sym listed)
    (subst (λ (r : ℕ). AreListsNotedTo rings vertices key index (set notes r new) (come_to ++ r ∷ [])) (sym same)
    (subst (λ (it : Around). AreListsNotedTo rings vertices key index (set notes its it) (come_to ++ its ∷ [])) (sym is) noted))
