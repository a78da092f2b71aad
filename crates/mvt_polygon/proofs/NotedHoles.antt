-- Holes that aren't where they should be, by which rings are around them.
use Rattle.std.proofs.Common.{◌≡◌, ◌≢◌, ◌⊎◌, inl, inr, ◌↔◌, ℕ, ◌<◌, List, length, get_or, slice_get, Option, Some, None, IfNone, IfSome, refl, sym, ◌∙◌, ap, subst, arith}
use Rattle.std.proofs.lemmas.Bool.{cases_eq}
use Rattle.std.proofs.lemmas.Option.{same_Some, slice_get_within, slice_get-get_or}
use Rattle.mvt_plane.specs.Geometry.Apart.{HaveNothingInCommon}
use Rattle.mvt_plane.specs.Geometry.Inside.{IsInside}
use Rattle.mvt_plane.specs.Position.{Position}
use Rattle.mvt_plane.proofs.Insides.InsideAsAWhole.{one_vertex_decides}
use Rattle.mvt_sweep.specs.Meeting.{NoMeeting}
use Rattle.mvt_polygon.specs.Nesting.{IsNestFault, outside, in_hole, IsFirstNestFault, IsOfVertex, IsFirstOf}
use Rattle.mvt_polygon.specs.Calls.Nesting.{IsOfHole}
use Rattle.mvt_sweep.specs.RingsAround.{AreNoted, IsAround, nearest_at}
use Rattle.mvt_polygon.specs.declared.nesting.NestFault.{NestFault}
use Rattle.mvt_polygon.specs.declared.nesting.NestFault.TheVariants.{Outside, InHole}
use Rattle.mvt_sweep.specs.declared.sweep.notes.Around.{Around}
use Rattle.mvt_polygon.proofs.NestFaults.{first_hole}
use Rattle.mvt_sweep.proofs.Vertices.SharedVertices.{nothing_in_common}
use Rattle.mvt_polygon.proofs.NestOnce.{first_of_first_vertex}

-- a ring is around another one exactly where any vertex of that is inside it
around_by_any : (rings : List (List Position)) (outer inner vertex : ℕ) (its : Position) (ring other : List Position) → NoMeeting rings → outer ≢ inner → slice_get rings inner ≡ Some ring
    → slice_get ring vertex ≡ Some its → slice_get rings outer ≡ Some other → IsInside its other ↔ IsAround rings outer inner
around_by_any rings outer inner vertex its ring other none differ there here its_there = (
  λ inside. record {
    different = differ;
    around = other;
    there = its_there;
    position = first;
    here = record { vertices = ring; there = there; here = first_here };
    inside = one_vertex_decides ring other apart vertex 0 its first here first_here inside;
  },
  λ it.
      let same : it.around ≡ other = same_Some it.around other (sym it.there ∙ its_there) in
      let own : it.here.vertices ≡ ring = same_Some it.here.vertices ring (sym it.here.there ∙ there) in
      one_vertex_decides ring other apart 0 vertex it.position its (ap (λ (list : List Position). slice_get list 0) (sym own) ∙ it.here.here) here
      (subst (IsInside it.position) same it.inside),
)
  where
    apart : HaveNothingInCommon ring other
    apart = nothing_in_common rings none inner outer ring other (λ same. differ (sym same)) there its_there

    first : Position
    first = get_or ring 0 its

    first_here : slice_get ring 0 ≡ Some first
    first_here = let within = slice_get_within ring vertex its here in slice_get-get_or ring 0 its (omega (arith, within))

-- The exterior alone

-- it is noted that the exterior is around the hole, and no other ring
abbrev pub IsRight : List Around → ℕ → Type 0
IsRight notes hole = (nearest_at notes hole ≡ Some 0) × (nearest_at notes 0 ≡ None)

-- so no vertex of the hole has a fault
pub hole_right : (rings : List (List Position)) (notes : List Around) (come_to : List ℕ) (hole : ℕ) → NoMeeting rings → AreNoted rings notes come_to → 0 < hole → hole < length rings
    → IsRight notes hole → (fault : NestFault) → IsOfHole hole fault → ¬ IsNestFault rings fault
hole_right rings notes come_to hole none noted following within right _ is (outside ring vertex it) =
    let around : IsAround rings 0 hole = (noted.around hole 0 within right.0 0).1 (inl refl) in
    it.outside ((around_by_any rings 0 hole vertex it.position it.here.vertices it.exterior none (λ same. omega arith) (ap (slice_get rings) (sym is) ∙ it.here.there) it.here.here it.there).1 around)
hole_right rings notes come_to hole none noted following within right _ is (in_hole ring vertex other it) =
    let further : 0 < other = it.other_hole.following in
    let around : IsAround rings other hole = (around_by_any rings other hole vertex it.position it.here.vertices it.around none (λ same. it.different (same ∙ sym is))
    (ap (slice_get rings) (sym is) ∙ it.here.there) it.here.here it.there).0 it.inside in
    elim ((noted.around hole 0 within right.0 other).0 around) [
      | inl exterior ↦ omega (arith, exterior, further)
      | inr outer ↦ noted.alone 0 (omega (arith, within)) right.1 other outer
    ]

-- nothing is there, or something
nothing_or : (found : Option ℕ) → (found ≡ None) ⊎ ((number : ℕ) × (found ≡ Some number))
nothing_or None = inl refl
nothing_or (Some number) = inr (number, refl)

-- where the exterior is around it, and no other hole, that is noted
right_noted : (rings : List (List Position)) (notes : List Around) (come_to : List ℕ) (hole : ℕ) → AreNoted rings notes come_to → hole < length rings → IsAround rings 0 hole
    → ((other : ℕ) → 0 < other → ¬ IsAround rings other hole) → IsRight notes hole
right_noted rings notes come_to hole noted within exterior alone = elim (nothing_or (nearest_at notes hole)) [
  | inl nothing ↦ absurd (noted.alone hole within nothing 0 exterior)
  | inr (nearest, some) ↦
      let zero_is : nearest ≡ 0 = elim (cases_eq nearest 0) [
        | inl same ↦ same
        | inr differ ↦ absurd (alone nearest (omega (arith, differ)) ((noted.around hole nearest within some nearest).1 (inl refl)))
      ] in
      let first : nearest_at notes hole ≡ Some 0 = some ∙ ap Some zero_is in (
        first,
        elim (nothing_or (nearest_at notes 0)) [
          | inl nothing ↦ nothing
          | inr (outer, its) ↦
              let around : IsAround rings outer 0 = (noted.around 0 outer (omega (arith, within)) its outer).1 (inl refl) in
              absurd (alone outer (let differ = around.different in omega (arith, differ)) ((noted.around hole 0 within first outer).1 (inr around)))
        ],
      )
]

-- where it isn't noted, its first vertex has a fault
pub hole_wrong : (rings : List (List Position)) (notes : List Around) (come_to : List ℕ) (hole : ℕ) (ring : List Position) (its : Position) → NoMeeting rings → AreNoted rings notes come_to
    → 0 < hole → slice_get rings hole ≡ Some ring → slice_get ring 0 ≡ Some its → ¬ IsRight notes hole → ¬ ((fault : NestFault) → IsOfVertex hole 0 fault → ¬ IsNestFault rings fault)
hole_wrong rings notes come_to hole ring its none noted following there here not clear =
    let before : hole < length rings = slice_get_within rings hole ring there in
    let exterior : List Position = get_or rings 0 ring in
    let its_there : slice_get rings 0 ≡ Some exterior = slice_get-get_or rings 0 ring (omega (arith, before)) in
    let alone : (other : ℕ) → 0 < other → ¬ IsAround rings other hole = λ other further it. clear (InHole hole 0 other) (refl, refl) (in_hole hole 0 other (record {
      hole = record { following = following; before = before };
      position = its;
      here = record { vertices = ring; there = there; here = here };
      other_hole = record { following = further; before = slice_get_within rings other it.around it.there };
      different = it.different;
      around = it.around;
      there = it.there;
      inside = (around_by_any rings other hole 0 its ring it.around none it.different there here it.there).1 it;
    })) in
    clear (Outside hole 0) (refl, refl) (outside hole 0 (record {
      hole = record { following = following; before = before };
      position = its;
      here = record { vertices = ring; there = there; here = here };
      exterior = exterior;
      there = its_there;
      outside = λ inside.
          not (right_noted rings notes come_to hole noted before ((around_by_any rings 0 hole 0 its ring exterior none (λ same. omega arith) there here its_there).0 inside) alone);
    }))

-- so one is answered of it
pub none_answered : (rings : List (List Position)) (hole : ℕ) (answer : Option NestFault) → ¬ ((fault : NestFault) → IsOfVertex hole 0 fault → ¬ IsNestFault rings fault)
    → IfNone answer ((fault : NestFault) → IsOfVertex hole 0 fault → ¬ IsNestFault rings fault) → IfNone answer ((fault : NestFault) → ¬ IsNestFault rings fault)
none_answered rings hole None wrong clear = absurd (wrong clear)
none_answered rings hole (Some fault) wrong clear = tt

-- and is the first, where the holes before it have none
pub first_answered : (rings : List (List Position)) (hole : ℕ) (answer : Option NestFault)
    → ((before : ℕ) → before < hole → (fault : NestFault) → IsOfHole before fault → ¬ IsNestFault rings fault) → IfSome answer (IsFirstOf rings (IsOfVertex hole 0))
    → IfSome answer (IsFirstNestFault rings)
first_answered rings hole None none found = tt
first_answered rings hole (Some fault) none found = first_hole rings hole fault none (first_of_first_vertex rings hole fault found)
