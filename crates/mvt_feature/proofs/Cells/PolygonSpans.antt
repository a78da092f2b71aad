-- The spans of polygons: the least and the greatest coordinates of their bounds.
use Rattle.std.proofs.Common.{◌≡◌, ◌⊎◌, inl, inr, ℕ, ◌+◌, ◌<◌, Bool, List, [], ◌∷◌, ◌++◌, length, ℤ, ◌∙◌, sym, subst, arith, below_more}
use Rattle.std.proofs.lemmas.Grind.{common_steps}
use Rattle.mvt_plane.specs.Position.{Position}
use Rattle.mvt_plane.proofs.Orders.Order.{zs}
use Rattle.mvt_feature.specs.Calls.Bounds.{AreFarApart}
use Rattle.mvt_feature.specs.Calls.Islands.{AreMarked}
use Rattle.mvt_feature.specs.Calls.Cells.{AreCells, AreCellsOf, AreRefined, AreRingSpans, AreSharing, AreSpansApart, AreSpansOf, HasRingSpans, HasSpans, span_at}
use Rattle.mvt_feature.specs.Calls.FeatureParts.{listed_at}
use Rattle.mvt_feature.specs.Calls.Lands.{AreApartFromNeighbours, AreCellsApart, AreFarFromNeighbours, AreWithoutLands}

-- those before the last one are the same
span_before : (spans longer : List (ℤ × ℤ)) (last : ℤ × ℤ) (number : ℕ) → number < length spans → longer ≡ spans ++ last ∷ [] → span_at spans number ≡ span_at longer number
span_before spans longer last number below more = grind (arith, common_steps, more)

-- the last one
span_last : (spans longer : List (ℤ × ℤ)) (last : ℤ × ℤ) (number : ℕ) → number ≡ length spans → longer ≡ spans ++ last ∷ [] → last ≡ span_at longer number
span_last spans longer last number is more = grind (arith, common_steps, more)

-- what is known of the spans of all numbers before one, and of its own
module _ (Has : ℕ → ℤ × ℤ → ℤ × ℤ → Type 0) (count : ℕ) (across wider upward higher : List (ℤ × ℤ)) (wide tall : ℤ × ℤ) (across_size : length across ≡ count) (upward_size : length upward ≡ count) (more_wide : wider ≡ across ++ wide ∷ [])
    (more_tall : higher ≡ upward ++ tall ∷ []) where
  -- is known of all up to it
  have_more : ((number : ℕ) → number < count → Has number (span_at across number) (span_at upward number)) → Has count wide tall → (number : ℕ) → number < count + 1 → Has number (span_at wider number) (span_at higher number)
  have_more before last =
      below_more (λ (number : ℕ). Has number (span_at wider number) (span_at higher number)) count
      (λ number below.
      subst (λ (span : ℤ × ℤ). Has number span (span_at higher number)) (span_before across wider wide number (omega arith) more_wide)
      (subst (λ (span : ℤ × ℤ). Has number (span_at across number) span) (span_before upward higher tall number (omega arith) more_tall) (before number below)))
      (subst (λ (span : ℤ × ℤ). Has count span (span_at higher count)) (span_last across wider wide count (omega arith) more_wide)
      (subst (λ (span : ℤ × ℤ). Has count wide span) (span_last upward higher tall count (omega arith) more_tall) last))

-- those of one more polygon
pub more_spans : (rings : List (List Position)) (polygons : List (ℕ × ℕ)) (count : ℕ) (across wider upward higher : List (ℤ × ℤ)) (wide tall : ℤ × ℤ) → AreSpansOf rings polygons count across upward
    → HasSpans rings polygons count wide tall → wider ≡ across ++ wide ∷ [] → higher ≡ upward ++ tall ∷ [] → AreSpansOf rings polygons (count + 1) wider higher
more_spans rings polygons count across wider upward higher wide tall before last more_wide more_tall = record {
  across_size = grind (arith, common_steps, before.across_size, more_wide);
  upward_size = grind (arith, common_steps, before.upward_size, more_tall);
  each = have_more (λ (polygon : ℕ) (one other : ℤ × ℤ). HasSpans rings polygons polygon one other) count across wider upward higher wide tall before.across_size before.upward_size more_wide more_tall before.each last;
}

-- those of one more ring
pub more_ring_spans : (rings : List (List Position)) (count : ℕ) (across wider upward higher : List (ℤ × ℤ)) (wide tall : ℤ × ℤ) → AreRingSpans rings count across upward → HasRingSpans rings count wide tall
    → wider ≡ across ++ wide ∷ [] → higher ≡ upward ++ tall ∷ [] → AreRingSpans rings (count + 1) wider higher
more_ring_spans rings count across wider upward higher wide tall before last more_wide more_tall = record {
  across_size = grind (arith, common_steps, before.across_size, more_wide);
  upward_size = grind (arith, common_steps, before.upward_size, more_tall);
  each = have_more (λ (ring : ℕ) (one other : ℤ × ℤ). HasRingSpans rings ring one other) count across wider upward higher wide tall before.across_size before.upward_size more_wide more_tall before.each last;
}

-- Polygons of different cells

-- spans that are apart make the bounds apart
far_across : (rings : List (List Position)) (polygons : List (ℕ × ℕ)) (polygon other : ℕ) (across its_across upward its_upward : ℤ × ℤ) → HasSpans rings polygons polygon across upward
    → HasSpans rings polygons other its_across its_upward → AreSpansApart across its_across → AreFarApart rings (listed_at polygons polygon) (listed_at polygons other)
far_across rings polygons polygon other across its_across upward its_upward first second apart = record {
  one = first.bounds;
  other = second.bounds;
  of_one = first.of;
  of_other = second.of;
  apart = λ position within its_within.
      let left = within.left in
      let right = within.right in
      let its_left = its_within.left in
      let its_right = its_within.right in
      let ends = first.left in
      let end = first.right in
      let its_ends = second.left in
      let its_end = second.right in
      elim apart [ inl less ↦ absurd (omega (arith, zs)) | inr less ↦ absurd (omega (arith, zs)) ];
}

-- also along the other axis
far_upward : (rings : List (List Position)) (polygons : List (ℕ × ℕ)) (polygon other : ℕ) (across its_across upward its_upward : ℤ × ℤ) → HasSpans rings polygons polygon across upward
    → HasSpans rings polygons other its_across its_upward → AreSpansApart upward its_upward → AreFarApart rings (listed_at polygons polygon) (listed_at polygons other)
far_upward rings polygons polygon other across its_across upward its_upward first second apart = record {
  one = first.bounds;
  other = second.bounds;
  of_one = first.of;
  of_other = second.of;
  apart = λ position within its_within.
      let low = within.low in
      let high = within.high in
      let its_low = its_within.low in
      let its_high = its_within.high in
      let ends = first.low in
      let end = first.high in
      let its_ends = second.low in
      let its_end = second.high in
      elim apart [ inl less ↦ absurd (omega (arith, zs)) | inr less ↦ absurd (omega (arith, zs)) ];
}

-- spans that are apart along one of two axes
far_spans : (rings : List (List Position)) (polygons : List (ℕ × ℕ)) (across upward : List (ℤ × ℤ)) (polygon other : ℕ) → AreSpansOf rings polygons (length polygons) across upward → polygon < length polygons
    → other < length polygons → AreSpansApart (span_at across polygon) (span_at across other) ⊎ AreSpansApart (span_at upward polygon) (span_at upward other)
    → AreFarApart rings (listed_at polygons polygon) (listed_at polygons other)
far_spans rings polygons across upward polygon other spans below its_below either =
    let has = spans.each polygon below in
    let its = spans.each other its_below in
    elim either [
      | inl apart ↦ far_across rings polygons polygon other (span_at across polygon) (span_at across other) (span_at upward polygon) (span_at upward other) has its apart
      | inr apart ↦ far_upward rings polygons polygon other (span_at across polygon) (span_at across other) (span_at upward polygon) (span_at upward other) has its apart
    ]

-- polygons of different cells have spans that are apart
pub far_cells : (rings : List (List Position)) (polygons : List (ℕ × ℕ)) (across upward : List (ℤ × ℤ)) (cells : List ℕ) → AreSpansOf rings polygons (length polygons) across upward
    → AreCellsOf across upward cells → AreCellsApart rings polygons cells
far_cells rings polygons across upward cells spans parted polygon other below its_below differ =
    let size = spans.across_size in
    far_spans rings polygons across upward polygon other spans below its_below (parted polygon other (omega arith) (omega arith) differ)

-- so a polygon that isn't marked has, where it has another cell than each other one
pub marked_of_cells : (rings : List (List Position)) (polygons : List (ℕ × ℕ)) (cells : List ℕ) (marks : List Bool) → AreCells (length polygons) cells → AreCellsApart rings polygons cells → AreSharing cells marks
    → AreMarked rings polygons marks
marked_of_cells rings polygons cells marks known far sharing =
    let size = known.size in
    record {
      count = sharing.size ∙ known.size;
      apart = λ polygon other below its_below differ unmarked. inl (far polygon other below its_below (sharing.alone polygon other (omega arith) (omega arith) differ unmarked));
    }

-- neighbours that aren't marked have spans that are apart
pub far_beside : (rings : List (List Position)) (polygons : List (ℕ × ℕ)) (across upward : List (ℤ × ℤ)) (cells lands : List ℕ) (marks : List Bool) → AreSpansOf rings polygons (length polygons) across upward
    → AreCells (length polygons) cells → AreApartFromNeighbours across upward cells lands marks → AreFarFromNeighbours rings polygons cells lands marks
far_beside rings polygons across upward cells lands marks spans known beside =
    let size = known.size in
    record {
      size = beside.size;
      apart = λ polygon other neighbours unmarked.
          let here = neighbours.here in
          let there = neighbours.there in
          far_spans rings polygons across upward polygon other spans (omega arith) (omega arith) (beside.apart polygon other neighbours unmarked);
    }

-- neighbours had one cell, so those that don't share one any more have spans that are apart
pub apart_beside : (across upward : List (ℤ × ℤ)) (cells lands others parted : List ℕ) (marks : List Bool) → AreWithoutLands cells lands (length cells) others → length parted ≡ length others
    → AreRefined across upward others parted → AreSharing parted marks → AreApartFromNeighbours across upward cells lands marks
apart_beside across upward cells lands others parted marks without count refined sharing =
    let size = without.size in
    record {
      size = sharing.size ∙ count ∙ without.size;
      apart = λ polygon other neighbours unmarked.
          let here = neighbours.here in
          let there = neighbours.there in
          let same = without.same polygon neighbours.here neighbours.no_land ∙ neighbours.cell ∙ sym (without.same other neighbours.there neighbours.no_land_either) in
          refined polygon other (omega arith) (omega arith) same (sharing.alone polygon other (omega arith) (omega arith) neighbours.different unmarked);
    }
