-- What the rings of a feature are to the number of polygons around, listed polygon by polygon.
use Rattle.std.proofs.Common.{◌≡◌, inl, inr, ℕ, zero, suc, ◌+◌, ◌-◌, ◌*◌, ◌==◌, ◌<◌, ◌≤◌, Bool, true, false, true≢false, cond, IfOk, Result, Ok, Err, List, [], ◌∷◌, ◌++◌, length, take, map, slice_get, Vec, refl, sym, ◌∙◌, ap, subst, arith}
use Rattle.std.proofs.Math.Nat.{mul-le-mul_left, mul-le-mul_right}
use Rattle.std.proofs.Math.Seq.{take-add}
use Rattle.std.proofs.lemmas.Bool.{cases_lt}
use Rattle.std.proofs.lemmas.List.{length_push, map-append, length-take, length-drop}
use Rattle.std.proofs.lemmas.List.Sums.{sum_by-append}
use Rattle.std.proofs.lemmas.Option.{slice_get_within}
use Rattle.std.specs.declared.alloc.Global.{Global}
use Rattle.std.specs.List.{slice_range, sum}
use Rattle.mvt_plane.specs.Counted.{Counted}
use Rattle.mvt_rules.specs.Parts.Rings.{part_of}
use Rattle.mvt_rules.specs.Polygon.{PolygonRings, NoExterior, IsExteriorOf, first, next, IsPolygon, IsRingOf}
use Rattle.mvt_plane.specs.Position.{Position}
use Rattle.mvt_sweep.specs.Work.{AddsWork, vertex_count}
use Rattle.mvt_rules.specs.Ring.{ArePolygonRings}
use Rattle.mvt_rules.proofs.Rings.PartsOfRings.{count_of_part}
use Rattle.mvt_rules.proofs.Rings.PolygonNumbers.{exterior_within, polygon_of_ring}
use Rattle.mvt_rules.proofs.Rings.SamePolygons.{exterior_of_polygon, first_begins, one_polygon as one_polygon_of, same_polygon}
use Rattle.mvt_polygon.proofs.PolygonSlices.{part_read}
use Rattle.mvt_polygon.specs.Nesting.{one_polygon}
use Rattle.mvt_feature.specs.Calls.Passings.{AreAdded, ArePassings, IsPassing, vertices_of_several}
use Rattle.mvt_polygon.specs.Polygons.{ArePolygons}
use Rattle.mvt_sweep.specs.Rings.{rings_of}
use Rattle.mvt_feature.specs.declared.feature.passing.Passing.{Passing}
use Rattle.mvt_status.specs.Counts.{raised}
use Rattle.mvt_polygon.proofs.ApartFaults.{rings_at, rings_listed, ends_within}
use Rattle.mvt_sweep.proofs.Chains.ChainParts.{in_longer}
use Rattle.mvt_feature.proofs.Features.GatheredLists.{get_left}
use Rattle.mvt_sweep.proofs.Vertices.VertexNumbers.{count_all}
use Rattle.mvt_feature.proofs.Placed.OwnPassings.{passing_in_whole}
use Rattle.mvt_sweep.proofs.Vertices.RingReads.{count_of_rings}
use Rattle.mvt_sweep.proofs.Sweeps.StatusCounts.{work_then, work_within}
use Rattle.mvt_status.specs.Counts.{bits}
use Rattle.mvt_status.proofs.BinaryDigits.{no_more_digits}

-- ---- one by one

-- one more is added
pub one_added : (many : ℕ) (Is : ℕ → Passing → Type 0) (before after : List Passing) (it : Passing) → AreAdded many Is before after → Is many it → AreAdded (many + 1) Is before (after ++ it ∷ [])
one_added many Is before after it added is = record {
  count = omega (arith, added.count, length_push after it);
  kept = λ place within. get_left after (it ∷ []) place (omega (arith, added.count)) ∙ added.kept place within;
  each = λ ring passing less there. elim (in_longer after it (length before + ring) passing there) [
    | inl earlier ↦ added.each ring passing (let place = slice_get_within after (length before + ring) passing earlier in omega (arith, added.count)) earlier
    | inr last ↦
        let same : many ≡ ring = omega (arith, last.0, added.count) in
        subst (λ (number : ℕ). Is number passing) same (subst (Is many) last.1 is)
  ];
}

-- what is said of those that are added follows from what is known of them
pub said_of_added : (many : ℕ) (Is Are : ℕ → Passing → Type 0) (before after : List Passing) → AreAdded many Is before after
    → ((ring : ℕ) (passing : Passing) → ring < many → Is ring passing → Are ring passing) → AreAdded many Are before after
said_of_added many Is Are before after added follows = record {
  count = added.count;
  kept = added.kept;
  each = λ ring passing less there. follows ring passing less (added.each ring passing less there);
}

-- ---- polygon by polygon

-- the rings before this one are those of so many polygons
pub record IsReached (rings : List (List Position)) (polygons : List (ℕ × ℕ)) (many to : ℕ) : Type 0 where
  pub begins : many < length polygons → to ≡ (rings_at polygons many).exterior
  pub ends : length polygons ≤ many → to ≡ length rings

-- an exterior is that of a polygon
polygon_from : (rings : List (List Position)) (polygon exterior : ℕ) → ArePolygonRings rings → IsExteriorOf rings polygon exterior → (its : PolygonRings) × IsPolygon rings polygon its × (its.exterior ≡ exterior)
polygon_from rings polygon exterior able begins =
    let is_exterior = exterior_of_polygon rings polygon exterior begins in
    let home = polygon_of_ring rings exterior able (exterior_within rings exterior is_exterior) in
    let its = home.1 in
    let is_its = home.2 in
    let from = home.3.from in
    elim (cases_lt its.exterior exterior) [
      | inl less ↦ absurd (is_its.holes exterior less home.3.before is_exterior)
      | inr none ↦
          let same : its.exterior ≡ exterior = omega arith in (
            record { exterior = exterior; after = its.after },
            record {
              begins = begins;
              further = home.3.before;
              holes = subst (λ (number : ℕ). NoExterior rings (suc number) its.after) same is_its.holes;
              ends = is_its.ends;
            },
            refl,
          )
    ]

-- and in the list
listed_from : (rings : List (List Position)) (polygons : List (ℕ × ℕ)) (polygon exterior : ℕ) → ArePolygonRings rings → ArePolygons rings polygons → IsExteriorOf rings polygon exterior
    → (polygon < length polygons) × ((rings_at polygons polygon).exterior ≡ exterior)
listed_from rings polygons polygon exterior able listed begins =
    let (its, is_its, same) = polygon_from rings polygon exterior able begins in
    let there = listed.all polygon its is_its in
    let within : polygon < length polygons = slice_get_within polygons polygon (its.exterior, its.after) there in
    let alike = same_polygon rings polygon (rings_at polygons polygon) its (rings_listed rings polygons polygon listed within) is_its in
    (within, ap (λ (rings : PolygonRings). rings.exterior) alike ∙ same)

-- so no ring is before the first polygon
pub none_reached : (rings : List (List Position)) (polygons : List (ℕ × ℕ)) → ArePolygonRings rings → ArePolygons rings polygons → IsReached rings polygons 0 0
none_reached rings polygons able listed = elim (cases_lt 0 (length rings)) [
  | inl some ↦
      let its = listed_from rings polygons 0 0 able listed (first_begins rings able some) in
      record { begins = λ within. sym its.1; ends = λ none. let there = its.0 in absurd (omega arith) }
  | inr none ↦ record {
    begins = λ within. let is_it = rings_listed rings polygons 0 listed within in
        let there = exterior_within rings (rings_at polygons 0).exterior (exterior_of_polygon rings 0 (rings_at polygons 0).exterior is_it.begins) in
        absurd (omega arith);
    ends = λ past. omega arith;
  }
]

-- the exterior before one
abbrev HasEarlier : List (List Position) → ℕ → ℕ → Type 0
HasEarlier rings zero exterior = Unit {0}
HasEarlier rings (suc polygon) exterior = (before : ℕ) × IsExteriorOf rings polygon before × (before < exterior)

-- each but the first has one
earlier_of : (rings : List (List Position)) (polygon exterior : ℕ) → IsExteriorOf rings polygon exterior → HasEarlier rings polygon exterior
earlier_of rings _ _ (first exterior is_exterior none) = tt
earlier_of rings _ _ (next polygon before exterior begins less is_exterior none) = (before, begins, less)

-- no polygon is after one that ends with the last ring
none_after : (rings : List (List Position)) (polygon exterior : ℕ) (it : PolygonRings) → ArePolygonRings rings → IsPolygon rings polygon it → it.after ≡ length rings → ¬ IsExteriorOf rings (suc polygon) exterior
none_after rings polygon exterior it able is_it last begins =
    let (before, begun, less) = earlier_of rings (suc polygon) exterior begins in
    let (its, is_its, same) = polygon_from rings polygon before able begun in
    let alike : it.exterior ≡ its.exterior = ap (λ (rings : PolygonRings). rings.exterior) (same_polygon rings polygon it its is_it is_its) in
    let is_exterior = exterior_of_polygon rings (suc polygon) exterior begins in
    let within = exterior_within rings exterior is_exterior in
    is_it.holes exterior (omega arith) (omega arith) is_exterior

-- after a polygon the next one begins
pub next_reached : (rings : List (List Position)) (polygons : List (ℕ × ℕ)) (many : ℕ) → ArePolygonRings rings → ArePolygons rings polygons → many < length polygons
    → IsReached rings polygons (many + 1) (rings_at polygons many).after
next_reached rings polygons many able listed there =
    let it = rings_at polygons many in
    let is_it = rings_listed rings polygons many listed there in
    let one_more : suc many ≡ many + 1 = omega arith in
    subst (λ (number : ℕ). IsReached rings polygons number it.after) one_more (elim is_it.ends [
      | inl last ↦ record {
        begins = λ within. absurd (none_after rings many (rings_at polygons (suc many)).exterior it able is_it last (rings_listed rings polygons (suc many) listed within).begins);
        ends = λ past. last;
      }
      | inr is_exterior ↦
          let its = listed_from rings polygons (suc many) it.after able listed (next many it.exterior it.after is_it.begins is_it.further is_exterior is_it.holes) in
          record { begins = λ within. sym its.1; ends = λ past. let within = its.0 in absurd (omega arith) }
    ])

-- the rings of one polygon more
pub more_passings : (rings : List (List Position)) (polygons : List (ℕ × ℕ)) (many : ℕ) (before after : List Passing) → ArePolygons rings polygons → many < length polygons
    → ArePassings rings before → length before ≡ (rings_at polygons many).exterior
    → AreAdded (length (part_of rings (rings_at polygons many))) (IsPassing (part_of rings (rings_at polygons many)) (one_polygon (part_of rings (rings_at polygons many)))) before after
    → (length after ≡ (rings_at polygons many).after) × ArePassings rings after
more_passings rings polygons many before after listed there passed reached added =
    let it = rings_at polygons many in
    let is_it = rings_listed rings polygons many listed there in
    let further = is_it.further in
    let ends = ends_within rings many it is_it in
    let count = count_of_part rings it ends in
    let size : length after ≡ it.after = omega (arith, added.count) in (
      size,
      record {
        each = λ polygon ring its passing is_its of_its here. elim (cases_lt ring (length before)) [
          | inl earlier ↦ passed.each polygon ring its passing is_its of_its (sym (added.kept ring earlier) ∙ here)
          | inr later ↦
              let within = slice_get_within after ring passing here in
              let of_it : IsRingOf it ring = record { from = omega arith; before = omega arith } in
              let same : it ≡ its = (one_polygon_of rings ring many polygon it its is_it of_it is_its of_its).1 in
              let own = ring - it.exterior in
              let number : it.exterior + own ≡ ring = omega arith in
              let place : length before + own ≡ ring = omega arith in
              let is = added.each own passing (omega arith) (ap (slice_get after) place ∙ here) in
              subst (λ (rings_of : PolygonRings). IsPassing rings rings_of ring passing) same
              (subst (λ (ring : ℕ). IsPassing rings it ring passing) number (passing_in_whole rings it own passing ends (omega arith) is))
        ];
      },
    )

-- ---- the work

-- the vertices of a polygon come after those of the rings before it
pub vertices_of_part : (rings : List (List Position)) (it : PolygonRings) → it.exterior ≤ it.after
    → vertex_count (take it.after rings) ≡ vertex_count (take it.exterior rings) + vertex_count (part_of rings it)
vertices_of_part rings it further =
    let length_of : List Position → ℕ = λ ring. length ring in
    let whole : it.exterior + (it.after - it.exterior) ≡ it.after = omega arith in
    let split = take-add it.exterior (it.after - it.exterior) rings in
    ap (λ (many : ℕ). vertex_count (take many rings)) (sym whole) ∙ ap (λ (rings : List (List Position)). vertex_count rings) split
    ∙ ap sum (map-append length_of (take it.exterior rings) (part_of rings it)) ∙ sum_by-append (λ (n : ℕ). n) (map length_of (take it.exterior rings)) (map length_of (part_of rings it))

-- the work of sweeps over so many vertices of all these
abbrev pub AddsParts : ℕ → ℕ → Counted → Counted → Type 0
AddsParts vertices all before after = AddsWork (3 * vertices) (vertices * (2 * bits all + 2)) (vertices * (20 * bits all)) before after

-- bounds by the digits of more vertices
more_bits : (vertices few many : ℕ) → few ≤ many → (vertices * (2 * few + 2) ≤ vertices * (2 * many + 2)) × (vertices * (20 * few) ≤ vertices * (20 * many))
more_bits vertices few many most = (mul-le-mul_left vertices (omega arith), mul-le-mul_left vertices (omega arith))

-- each is linear in them
together : (one other each : ℕ) → one * each + other * each ≡ (one + other) * each
together one other each = omega arith

-- a sweep over one polygon more
pub more_parts : (rings : List (List Position)) (it : PolygonRings) {start before after : Counted} → it.exterior ≤ it.after → AddsParts (vertex_count (take it.exterior rings)) (vertex_count rings) start before
    → AddsParts (vertex_count (part_of rings it)) (vertex_count (part_of rings it)) before after → AddsParts (vertex_count (take it.after rings)) (vertex_count rings) start after
more_parts rings it {start} {before} {after} further work swept =
    let first = vertex_count (take it.exterior rings) in
    let part = vertex_count (part_of rings it) in
    let all = vertex_count rings in
    let count = vertices_of_part rings it further in
    let within : part ≤ all = omega (arith, count, count_all rings it.after) in
    let digits = more_bits part (bits part) (bits all) (no_more_digits part all within) in
    let own : AddsParts part all before after = work_within (omega arith) digits.0 digits.1 swept in
    let both : AddsParts (first + part) all start after =
    work_within (omega arith) (omega (arith, together first part (2 * bits all + 2))) (omega (arith, together first part (20 * bits all))) (work_then work own) in
    subst (λ (vertices : ℕ). AddsParts vertices all start after) (sym count) both

-- no more than a sweep over all
pub all_parts : (rings : List (List Position)) (to : ℕ) {start after : Counted} → AddsParts (vertex_count (take to rings)) (vertex_count rings) start after
    → AddsParts (vertex_count rings) (vertex_count rings) start after
all_parts rings to work =
    let fewer = count_all rings to in
    let all = vertex_count rings in
    work_within (omega arith) (mul-le-mul_right (2 * bits all + 2) fewer) (mul-le-mul_right (20 * bits all) fewer) work

-- ---- rings, as the code reads them

-- the ring after a polygon's last one, and the exterior
pub ends_read : (rings : List (Vec Position Global)) (polygons : List (ℕ × ℕ)) (polygon : ℕ) → ArePolygons (rings_of rings) polygons → polygon < length polygons
    → ((rings_at polygons polygon).exterior < (rings_at polygons polygon).after) × ((rings_at polygons polygon).after ≤ length rings)
ends_read rings polygons polygon listed within =
    let is_it = rings_listed (rings_of rings) polygons polygon listed within in
    (is_it.further, omega (arith, ends_within (rings_of rings) polygon (rings_at polygons polygon) is_it, count_of_rings rings))

-- they are so many
pub part_size : (rings : List (Vec Position Global)) (it : PolygonRings) → it.after ≤ length rings → length (slice_range rings it.exterior it.after) ≡ it.after - it.exterior
part_size rings it ends = simp (length-take, length-drop) (omega arith)

-- at first there are none
pub no_passings : (rings : List (List Position)) → ArePassings rings []
no_passings rings = record { each = λ polygon ring its passing is_its of_its there. absurd (cc) }

-- the rings of one polygon more, as the code reads them
pub more_read : (rings : List (Vec Position Global)) (polygons : List (ℕ × ℕ)) (many : ℕ) (before after : List Passing) → ArePolygonRings (rings_of rings) → ArePolygons (rings_of rings) polygons
    → many < length polygons → IsReached (rings_of rings) polygons many (length before) → ArePassings (rings_of rings) before
    → AreAdded (length (slice_range rings (rings_at polygons many).exterior (rings_at polygons many).after))
    (IsPassing (rings_of (slice_range rings (rings_at polygons many).exterior (rings_at polygons many).after))
    (one_polygon (rings_of (slice_range rings (rings_at polygons many).exterior (rings_at polygons many).after)))) before after
    → IsReached (rings_of rings) polygons (many + 1) (length after) × ArePassings (rings_of rings) after × (length after ≡ (rings_at polygons many).after)
more_read rings polygons many before after able listed there reached passed added =
    let it = rings_at polygons many in
    let whole = rings_of rings in
    let slice = slice_range rings it.exterior it.after in
    let read = part_read rings it in
    let count : length slice ≡ length (part_of whole it) = sym (count_of_rings slice) ∙ ap (λ (rings : List (List Position)). length rings) read in
    let moved : AreAdded (length (part_of whole it)) (IsPassing (part_of whole it) (one_polygon (part_of whole it))) before after =
    subst (λ (size : ℕ). AreAdded size (IsPassing (part_of whole it) (one_polygon (part_of whole it))) before after) count
    (subst (λ (rings : List (List Position)). AreAdded (length slice) (IsPassing rings (one_polygon rings)) before after) read added) in
    let more = more_passings whole polygons many before after listed there passed (reached.begins there) moved in
    (subst (λ (to : ℕ). IsReached whole polygons (many + 1) to) (sym more.0) (next_reached whole polygons many able listed there), more.1, more.0)

-- and the work for them
pub more_work : (rings : List (Vec Position Global)) (polygons : List (ℕ × ℕ)) (many to : ℕ) {start before after : Counted} → ArePolygons (rings_of rings) polygons → many < length polygons
    → IsReached (rings_of rings) polygons many to → AddsParts (vertex_count (take to (rings_of rings))) (vertex_count (rings_of rings)) start before
    → AddsParts (vertex_count (rings_of (slice_range rings (rings_at polygons many).exterior (rings_at polygons many).after)))
    (vertex_count (rings_of (slice_range rings (rings_at polygons many).exterior (rings_at polygons many).after))) before after
    → AddsParts (vertex_count (take (rings_at polygons many).after (rings_of rings))) (vertex_count (rings_of rings)) start after
more_work rings polygons many to {start} {before} {after} listed there reached work swept =
    let it = rings_at polygons many in
    let whole = rings_of rings in
    let ends = ends_read rings polygons many listed there in
    let begins = subst (λ (to : ℕ). AddsParts (vertex_count (take to whole)) (vertex_count whole) start before) (reached.begins there) work in
    let own = subst (λ (rings : List (List Position)). AddsParts (vertex_count rings) (vertex_count rings) before after) (part_read rings it) swept in
    more_parts whole it (omega arith) begins own

-- what is counted at least

-- of one polygon more, where it has several rings
several_step : (test : Bool) (sum part start between after : ℕ) → raised sum start ≤ between → between ≤ after → (test ≡ false → raised part between ≤ after) → raised (sum + cond test 0 part) start ≤ after
several_step true sum part start between after before fewer its = omega arith
several_step false sum part start between after before fewer its = let own = its refl in omega arith

-- a polygon that hasn't one ring has several
several_rings : (size : ℕ) → 0 < size → (size == 1) ≡ false → 1 < size
several_rings zero some fails = absurd (omega arith)
several_rings (suc zero) some fails = absurd (true≢false fails)
several_rings (suc (suc size)) some fails = omega arith

-- so of the polygons with the next one
pub several_more : (rings : List (Vec Position Global)) (polygons : List (ℕ × ℕ)) (polygon start between after : ℕ) → ArePolygons (rings_of rings) polygons → polygon < length polygons
    → raised (vertices_of_several (rings_of rings) polygons polygon) start ≤ between → between ≤ after
    → (1 < length (slice_range rings (rings_at polygons polygon).exterior (rings_at polygons polygon).after)
    → raised (vertex_count (rings_of (slice_range rings (rings_at polygons polygon).exterior (rings_at polygons polygon).after))) between ≤ after)
    → raised (vertices_of_several (rings_of rings) polygons (polygon + 1)) start ≤ after
several_more rings polygons polygon start between after listed within before fewer its =
    let it = rings_at polygons polygon in
    let ends = ends_read rings polygons polygon listed within in
    let part = part_read rings it in
    let next : polygon + 1 ≡ suc polygon = omega arith in
    subst (λ (n : ℕ). raised (vertices_of_several (rings_of rings) polygons n) start ≤ after) (sym next)
    (several_step (it.after - it.exterior == 1) (vertices_of_several (rings_of rings) polygons polygon) (vertex_count (part_of (rings_of rings) it)) start between after before fewer
    (λ several. subst (λ (its_rings : List (List Position)). raised (vertex_count its_rings) between ≤ after) part
    (its (omega (arith, part_size rings it ends.1, several_rings (it.after - it.exterior) (omega (arith, ends.0)) several)))))

-- what always holds
pub ok_always : {A E : Type 0} (result : Result A E) (Holds : Type 0) → Holds → IfOk result (λ _. Holds)
ok_always (Ok answer) Holds holds = holds
ok_always (Err error) Holds holds = tt
