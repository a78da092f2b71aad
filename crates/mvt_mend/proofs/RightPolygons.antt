-- Polygons that keep all rules by themselves, and what shows that one doesn't.
use Rattle.std.proofs.Common.{◌≡◌, ℕ, ◌+◌, ◌-◌, ◌<◌, inl, inr, Bool, true, false, List, [], ◌∷◌, ◌++◌, length, slice_get, slice_range, Some, Vec, refl, sym, ◌∙◌, ap, subst, arith}
use Rattle.std.proofs.lemmas.List.{length_push}
use Rattle.std.proofs.lemmas.Option.{slice_get_within}
use Rattle.std.specs.declared.alloc.Global.{Global}
use Rattle.mvt_rules.specs.Parts.ByPolygon.{AreValidRings, IsValidPolygon}
use Rattle.mvt_rules.specs.Parts.Rings.{part_of}
use Rattle.mvt_rules.specs.Polygon.{IsExterior, first, PolygonRings, IsPolygon, IsRingOf}
use Rattle.mvt_rules.specs.Ring.{ArePolygonRings, ends_at_its_beginning, no_area, begins_with_hole}
use Rattle.mvt_plane.specs.Position.{Position}
use Rattle.mvt_sweep.specs.Meeting.{first_of, second_of}
use Rattle.mvt_rules.proofs.Rings.PartsOfRings.{count_of_part, ring_of_part}
use Rattle.mvt_rules.proofs.Rings.PolygonNumbers.{none_in_nothing}
use Rattle.mvt_rules.proofs.Rings.SamePolygons.{exterior_of_polygon, same_polygon}
use Rattle.mvt_polygon.specs.Nesting.{one_polygon, IsNestFault, outside, in_hole}
use Rattle.mvt_polygon.specs.PolygonFault.{IsAnswerAlone}
use Rattle.mvt_polygon.specs.Polygons.{ArePolygons}
use Rattle.mvt_sweep.specs.Rings.{rings_of, AreProperRings}
use Rattle.mvt_polygon.specs.RingFault.{IsFirstRingFault}
use Rattle.mvt_polygon.specs.declared.nesting.NestFault.{NestFault}
use Rattle.mvt_polygon.specs.declared.polygon.PolygonFault.{PolygonFault}
use Rattle.mvt_polygon.specs.declared.polygon.PolygonFault.TheVariants.{Meeting, Nesting}
use Rattle.mvt_polygon.specs.declared.rings.RingFault.{RingFault}
use Rattle.mvt_sweep.proofs.Chains.ChainParts.{in_longer}
use Rattle.mvt_polygon.proofs.ApartFaults.{ends_within}
use Rattle.mvt_polygon.proofs.PolygonSlices.{part_read}
use Rattle.mvt_sweep.proofs.Vertices.RingReads.{count_of_rings}
use Rattle.mvt_mend.specs.Calls.Judged.{AreJudged, AreRightRings, IsRightMark}
use Rattle.mvt_mend.specs.Kept.{IsRightPolygon}

-- Faults

-- rings with a fault of their own aren't right
pub fault_of_rings : (rings : List (List Position)) (fault : RingFault) → IsFirstRingFault rings fault → ¬ ArePolygonRings rings
fault_of_rings rings fault found sound = elim found.broken [
  | ends_at_its_beginning code ends ↦ sound.open_ends fault.ring ends
  | no_area code none ↦ sound.areas fault.ring none
  | begins_with_hole code hole ↦ sound.exterior_first fault.ring hole
]

-- each ring is of the only polygon
pub ring_within : (rings : List (List Position)) (ring : ℕ) (vertices : List Position) → slice_get rings ring ≡ Some vertices → IsRingOf (one_polygon rings) ring
ring_within rings ring vertices there = record { from = omega arith; before = slice_get_within rings ring vertices there }

-- nor is a polygon with a fault
pub fault_of_polygon : (rings : List (List Position)) (fault : PolygonFault) → IsPolygon rings 0 (one_polygon rings) → IsAnswerAlone rings (Some fault) → ¬ AreValidRings rings
fault_of_polygon rings (Meeting meeting) is_it answer valid =
    let it = valid.polygons 0 (one_polygon rings) is_it in
    it.apart (first_of meeting) (second_of meeting) meeting.point (ring_within rings (first_of meeting).ring answer.one_there.ring answer.one_there.there) (ring_within rings (second_of meeting).ring answer.other_there.ring answer.other_there.there) answer.meets
fault_of_polygon rings (Nesting fault) is_it answer valid = none_nested rings fault (valid.polygons 0 (one_polygon rings) is_it) answer.1.holds
  where
    none_nested : (rings : List (List Position)) (fault : NestFault) → IsValidPolygon rings (one_polygon rings) → ¬ IsNestFault rings fault
    none_nested rings fault it (outside ring vertex wrong) = it.enclosed ring vertex wrong
    none_nested rings fault it (in_hole ring vertex other wrong) = it.side_by_side ring vertex other wrong

-- One polygon as a list of rings of its own

-- an exterior of the part is one of the whole
exterior_in_whole : (rings : List (List Position)) (it : PolygonRings) (ring : ℕ) → ring < it.after - it.exterior → IsExterior (part_of rings it) ring → IsExterior rings (it.exterior + ring)
exterior_in_whole rings it ring within is = record { ring = is.ring; there = sym (ring_of_part rings it ring within) ∙ is.there; positive = is.positive }

-- the part is the first polygon of its rings
pub part_is_polygon : (rings : List (List Position)) (polygon : ℕ) (it : PolygonRings) → IsPolygon rings polygon it → IsPolygon (part_of rings it) 0 (one_polygon (part_of rings it))
part_is_polygon rings polygon it is_it =
    let further = is_it.further in
    let ends = ends_within rings polygon it is_it in
    let count = count_of_part rings it ends in
    let begins = exterior_of_polygon rings polygon it.exterior is_it.begins in
    let begins_part : IsExterior (part_of rings it) 0 = record {
      ring = begins.ring;
      there = ring_of_part rings it 0 (omega arith) ∙ ap (slice_get rings) (omega arith) ∙ begins.there;
      positive = begins.positive;
    } in
    record {
      begins = first 0 begins_part (none_in_nothing (part_of rings it) 0);
      further = omega (arith, count);
      holes = λ ring following before is. is_it.holes (it.exterior + ring) (omega arith) (omega (arith, count)) (exterior_in_whole rings it ring (omega (arith, count)) is);
      ends = inl refl;
    }

-- as the code reads it
pub slice_is_polygon : (rings : List (Vec Position Global)) (polygon : ℕ) (it : PolygonRings) → IsPolygon (rings_of rings) polygon it
    → IsPolygon (rings_of (slice_range rings it.exterior it.after)) 0 (record { exterior = 0; after = length (slice_range rings it.exterior it.after) })
slice_is_polygon rings polygon it is_it =
    let count : length (rings_of (slice_range rings it.exterior it.after)) ≡ length (slice_range rings it.exterior it.after) = count_of_rings (slice_range rings it.exterior it.after) in
    subst (λ (many : ℕ). IsPolygon (rings_of (slice_range rings it.exterior it.after)) 0 (record { exterior = 0; after = many })) count
    (subst (λ (parts : List (List Position)). IsPolygon parts 0 (one_polygon parts)) (sym (part_read rings it)) (part_is_polygon (rings_of rings) polygon it is_it))

-- Marks

-- polygons up to a number aren't marked as wrong where they are right
pub record AreMarkedUpTo (rings : List (List Position)) (right : List Bool) (many : ℕ) : Type 0 where
  pub as_many : length right ≡ many
  pub wrong : (polygon : ℕ) (it : PolygonRings) → slice_get right polygon ≡ Some false → ¬ IsRightPolygon rings polygon it

-- at first none is
pub none_marked : (rings : List (List Position)) → AreMarkedUpTo rings [] 0
none_marked rings = record { as_many = refl; wrong = λ polygon it there. absurd (cc) }

-- one more
pub one_more_marked : (rings : List (Vec Position Global)) (polygons : List (ℕ × ℕ)) (right longer : List Bool) (polygon : ℕ) (it : PolygonRings) (mark : Bool) → AreMarkedUpTo (rings_of rings) right polygon → IsPolygon (rings_of rings) polygon it
    → IsRightMark (slice_range rings it.exterior it.after) mark
    → longer ≡ right ++ mark ∷ [] → AreMarkedUpTo (rings_of rings) longer (polygon + 1)
one_more_marked rings polygons right longer polygon it mark marked is_it shows is = subst (λ (list : List Bool). AreMarkedUpTo (rings_of rings) list (polygon + 1)) (sym is) (record {
  as_many = length_push right mark ∙ ap (λ (many : ℕ). many + 1) marked.as_many;
  wrong = λ number its there is_right. elim (in_longer right mark number false there) [
    | inl before ↦ marked.wrong number its before is_right
    | inr last ↦ not_right number its (last.0 ∙ marked.as_many) last.1 is_right
  ];
})
  where
    not_right : (number : ℕ) (its : PolygonRings) → number ≡ polygon → mark ≡ false → ¬ IsRightPolygon (rings_of rings) number its
    not_right number its same false_mark is_right =
        let its_there : IsPolygon (rings_of rings) polygon its = subst (λ (number : ℕ). IsPolygon (rings_of rings) number its) same is_right.there in
        let one : its ≡ it = same_polygon (rings_of rings) polygon its it its_there is_it in
        let parts : part_of (rings_of rings) its ≡ rings_of (slice_range rings it.exterior it.after) = ap (part_of (rings_of rings)) one ∙ sym (part_read rings it) in
        let right_rings : AreRightRings (rings_of (slice_range rings it.exterior it.after)) = record {
          proper = subst AreProperRings parts is_right.proper;
          valid = subst AreValidRings parts is_right.valid;
        } in
        let true_mark : mark ≡ true = shows (slice_is_polygon rings polygon it is_it) right_rings in
        let both : true ≡ false = sym true_mark ∙ false_mark in
        cc both

-- at the end all are marked
pub all_marked : (rings : List (List Position)) (polygons : List (ℕ × ℕ)) (right : List Bool) (many : ℕ) → ArePolygons rings polygons → AreMarkedUpTo rings right many → many ≡ length polygons → AreJudged rings polygons right
all_marked rings polygons right many listed marked whole = record { listed = listed; as_many = marked.as_many ∙ whole; wrong = marked.wrong }

-- as many rings as the code has
pub as_one_polygon : (rings : List (Vec Position Global)) → IsPolygon (rings_of rings) 0 (record { exterior = 0; after = length rings }) → IsPolygon (rings_of rings) 0 (one_polygon (rings_of rings))
as_one_polygon rings is_it = subst (λ (many : ℕ). IsPolygon (rings_of rings) 0 (record { exterior = 0; after = many })) (sym (count_of_rings rings)) is_it
