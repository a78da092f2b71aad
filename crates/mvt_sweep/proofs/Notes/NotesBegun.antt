-- Notes of rings at first, and at last.
use Rattle.std.proofs.Common.{◌≡◌, ◌^◌, ◌<◌, ℕ, List, [], length, get_or, replicate, slice_get, take, Some, Result, Ok, Err, IfOk, ℤ, ◌<ℤ◌, ◌≤ℤ◌, sym, ◌∙◌, ap, arith}
use Rattle.std.proofs.lemmas.Int.{ints}
use Rattle.std.proofs.lemmas.List.{length-replicate, get_or-replicate}
use Rattle.std.proofs.lemmas.Option.{get_or_from_slice_get, same_Some, none-some, slice_get_past, slice_get_within, slice_get-get_or}
use Rattle.mvt_plane.specs.Geometry.Measure.{key_of}
use Rattle.mvt_fault.specs.declared.ring.RingEdge.{RingEdge}
use Rattle.mvt_plane.specs.Position.{Position}
use Rattle.mvt_sweep.specs.Calls.SweepVertices.{AreSweepVertices, IsNumbered, sweep_count, position_at}
use Rattle.mvt_sweep.specs.Work.{vertex_count}
use Rattle.mvt_sweep.specs.Meeting.{NoMeeting}
use Rattle.mvt_sweep.specs.Calls.RingNotes.{AreListsNotedTo, AreNotedTo, AreRingsOf, IsNew, IsNoted, IsNoteOf}
use Rattle.mvt_sweep.specs.Rings.{AreProperRings}
use Rattle.mvt_sweep.specs.RingsAround.{AreNoted, nearest_at, nearest_in, odd_at, odd_in}
use Rattle.mvt_sweep.specs.Swept.{IsNotedClear, IsSweptAnswer}
use Rattle.mvt_sweep.specs.Calls.Swept.{IsSweptWith}
use Rattle.mvt_sweep.specs.declared.sweep.vertices.SweepVertices.{SweepVertices}
use Rattle.mvt_sweep.specs.declared.sweep.notes.Around.{Around}
use Rattle.mvt_sweep.specs.declared.sweep.notes.Around.TheVariants.{Unknown}
use Rattle.mvt_sweep.specs.declared.sweep.notes.RingNotes.{RingNotes}
use Rattle.mvt_sweep.specs.declared.sweep.swept.Swept.{Swept}
use Rattle.mvt_sweep.specs.declared.sweep.swept.Swept.TheVariants.{Meets, Clear}
use Rattle.mvt_sweep.proofs.Vertices.VertexNumbers.{numbered_within}
use Rattle.mvt_sweep.proofs.Notes.RingsNoted.{nearest_noted}

-- At first

-- nothing is noted of any ring
pub all_new : (rings : List (List Position)) (notes : RingNotes) → AreRingsOf rings notes.index.rings.items → notes.around.items ≡ replicate (length rings) Unknown
    → notes.come_to.items ≡ [] → IsNew rings notes
all_new rings notes numbers none nothing =
    let size = length-replicate (length rings) Unknown in
    record {
      numbers = numbers;
      count = ap length none ∙ size;
      none = λ ring within.
          ap (λ (list : List Around). slice_get list ring) none ∙ slice_get-get_or (replicate (length rings) Unknown) ring Unknown (omega (arith, size, within))
          ∙ ap Some (get_or-replicate (length rings) ring Unknown Unknown within);
      nothing = nothing;
    }

-- where nothing is noted, nothing is read
not_noted : (rings : List (List Position)) (notes : RingNotes) (ring : ℕ) → IsNew rings notes → ¬ IsNoted notes.around.items ring
not_noted rings notes ring new found =
    let within = slice_get_within notes.around.items ring found.0 found.1 in
    found.2 (same_Some found.0 Unknown (sym found.1 ∙ new.none ring (omega (arith, within, new.count))))

-- nor was any ring come to
none_listed : (rings : List (List Position)) (notes : RingNotes) (at ring : ℕ) → IsNew rings notes → ¬ (slice_get notes.come_to.items at ≡ Some ring)
none_listed rings notes at ring new there =
    none-some ring (sym (slice_get_past [] at (omega arith)) ∙ ap (λ (list : List ℕ). slice_get list at) (sym new.nothing) ∙ there)

-- which is right before all vertices
pub new_noted : (rings : List (List Position)) (vertices : SweepVertices) (key : ℤ) (notes : RingNotes) → AreProperRings rings → AreSweepVertices rings vertices
    → ((number : ℕ) → number < sweep_count vertices → key <ℤ key_of (position_at vertices number)) → IsNew rings notes → AreNotedTo rings vertices key notes
new_noted rings vertices key notes proper are first new = record {
  proper = proper;
  are = are;
  numbers = new.numbers;
  count = new.count;
  there = λ number at is early. let late = first number (numbered_within rings vertices.list.now number at are is) in absurd (omega (arith, ints, early, late));
  right = λ none ring around there known. absurd (not_noted rings notes ring new (around, there, known));
  listed = λ ring found. absurd (not_noted rings notes ring new found);
  only = λ at ring there. absurd (none_listed rings notes at ring new there);
  following = λ at ring nearest there near. absurd (none_listed rings notes at ring new there);
}

-- At last

-- after all vertices it is noted of each ring which rings are around it
pub all_noted : (rings : List (List Position)) (vertices : SweepVertices) (key : ℤ) (index : List ℕ) (notes : List Around) (come_to : List ℕ) → NoMeeting rings
    → ((number : ℕ) → number < sweep_count vertices → key_of (position_at vertices number) ≤ℤ key) → AreListsNotedTo rings vertices key index notes come_to → AreNoted rings notes come_to
all_noted rings vertices key index notes come_to none last noted = record {
  count = noted.count;
  alone = λ ring within nothing. (right ring within).alone (sym (near ring within) ∙ nothing);
  even = λ ring within nothing. odd ring within ∙ (right ring within).even (sym (near ring within) ∙ nothing);
  known = λ ring nearest within some. known (nearest_noted ring nearest (note ring within).0 noted (note ring within).1 (note ring within).2 (sym (near ring within) ∙ some));
  around = λ ring nearest within some. (right ring within).around nearest (sym (near ring within) ∙ some);
  turned = λ ring nearest within some. odd ring within ∙ (right ring within).turned nearest (sym (near ring within) ∙ some);
  listed = λ ring within. noted.listed ring (note ring within);
  only = λ at ring there. known (noted.only at ring there);
  following = noted.following;
}
  where
    note : (ring : ℕ) → ring < length rings → IsNoted notes ring
    note ring within =
        let positions = get_or rings ring [] in
        let there : slice_get rings ring ≡ Some positions = slice_get-get_or rings ring [] within in
        let at : RingEdge = record { ring = ring; edge = 0 } in
        let is : IsNumbered rings (vertex_count (take ring rings)) at =
        record { ring = positions; there = there; within = omega (arith, noted.proper.several ring positions there); numbered = omega arith } in
        noted.there (vertex_count (take ring rings)) at is (last _ (numbered_within rings vertices.list.now (vertex_count (take ring rings)) at noted.are is))

    right : (ring : ℕ) (within : ring < length rings) → IsNoteOf rings notes ring (note ring within).0
    right ring within = noted.right none ring (note ring within).0 (note ring within).1 (note ring within).2

    near : (ring : ℕ) (within : ring < length rings) → nearest_at notes ring ≡ nearest_in (note ring within).0
    near ring within = ap nearest_in (get_or_from_slice_get notes ring (note ring within).0 Unknown (note ring within).1)

    odd : (ring : ℕ) (within : ring < length rings) → odd_at notes ring ≡ odd_in (note ring within).0
    odd ring within = ap odd_in (get_or_from_slice_get notes ring (note ring within).0 Unknown (note ring within).1)

    known : {ring : ℕ} → IsNoted notes ring → ring < length rings
    known {ring = ring} found = let within = slice_get_within notes ring found.0 found.1 in omega (arith, within, noted.count)

-- of no rings, where nothing is noted all is
pub none_clear : (notes : RingNotes) → IsNew [] notes → IsNotedClear [] notes
none_clear notes new = record {
  clear = λ first second point meets. no_ring first.ring meets.one_there.ring meets.one_there.there;
  in_range = λ number vertex ring position there here. absurd (no_ring number ring there);
  few = omega arith;
  noted = record {
    count = new.count;
    alone = λ ring within. absurd (omega (arith, within));
    even = λ ring within. absurd (omega (arith, within));
    known = λ ring nearest within. absurd (omega (arith, within));
    around = λ ring nearest within. absurd (omega (arith, within));
    turned = λ ring nearest within. absurd (omega (arith, within));
    listed = λ ring within. absurd (omega (arith, within));
    only = λ at ring there. absurd (none_listed [] notes at ring new there);
    following = λ at ring nearest there. absurd (none_listed [] notes at ring new there);
  };
}
  where
    no_ring : (number : ℕ) (ring : List Position) → ¬ (slice_get {X = List Position} [] number ≡ Some ring)
    no_ring number ring there = none-some ring (sym (slice_get_past {X = List Position} [] number (omega arith)) ∙ there)

-- What is answered

-- what follows of what is there
pub ok_then : {A E : Type 0} (P Q : A → Type 0) (result : Result A E) → ((it : A) → P it → Q it) → IfOk result P → IfOk result Q
ok_then P Q (Ok it) then is = then it is
ok_then P Q (Err error) then is = tt

-- the answer of a sweep over rings
pub swept_answer : (rings : List (List Position)) (vertices : SweepVertices) (swept : Swept RingNotes) → vertex_count rings < 2 ^ 64 → IsSweptWith rings vertices (AreNotedTo rings vertices) swept
    → IsSweptAnswer rings swept
swept_answer rings vertices (Meets meeting) few is = is
swept_answer rings vertices (Clear notes) few (none, in_range, last) = record {
  clear = none;
  in_range = in_range;
  few = few;
  noted = all_noted rings vertices last.0 notes.index.rings.items notes.around.items notes.come_to.items none last.1 last.2;
}
