-- Polygons that are settled: cells of which each polygon but the land is an island need no marks.
use Rattle.std.proofs.Common.{◌≡◌, ◌≢◌, ◌⊎◌, inl, inr, ℕ, ◌+◌, ◌<◌, Bool, false, List, length, get_or, set, Option, sym, ◌∙◌, ap, subst, arith, below_more, get_or-set_other, get_or-set_same}
use Rattle.std.proofs.Math.ListN.{length-set}
use Rattle.std.proofs.lemmas.Bool.{cases_eq}
use Rattle.mvt_plane.specs.Position.{Position}
use Rattle.mvt_feature.specs.Calls.Bounds.{AreFarApart}
use Rattle.mvt_feature.specs.Calls.Cells.{AreCells}
use Rattle.mvt_feature.specs.Calls.FeatureParts.{listed_at}
use Rattle.mvt_feature.specs.Calls.Islands.{AreMarked, AreApartByHole, IsIslandOf}
use Rattle.mvt_feature.specs.Calls.Lands.{AreCellsApart, AreFailing, AreFarFromNeighbours, AreLakesUnmarked, AreNeighbours, AreOfFailing, IsSettled, land_of}

-- one more polygon: its cell fails, unless it is settled
pub more_failing : (rings : List (List Position)) (polygons : List (ℕ × ℕ)) (cells lands : List ℕ) (lakes : List (Option ℕ)) (polygon : ℕ) (before : List Bool) (fails : Bool)
    → AreFailing rings polygons cells lands lakes polygon before → get_or cells polygon 0 < length before → get_or before (get_or cells polygon 0) false ≡ false
    → (fails ≡ false → IsSettled rings polygons cells lands lakes polygon) → AreFailing rings polygons cells lands lakes (polygon + 1) (set before (get_or cells polygon 0) fails)
more_failing rings polygons cells lands lakes polygon before fails so_far within unfailed settled =
    let cell = get_or cells polygon 0 in
    record {
      size = length-set before cell fails ∙ so_far.size;
      settled = below_more (λ (it : ℕ). land_of cells lands it ≢ it → get_or (set before cell fails) (get_or cells it 0) false ≡ false → IsSettled rings polygons cells lands lakes it) polygon
          (λ it below no_land not. so_far.settled it below no_land (elim (cases_eq (get_or cells it 0) cell) [
            | inl same ↦ ap (λ (at : ℕ). get_or before at false) same ∙ unfailed
            | inr differ ↦ sym (get_or-set_other before cell (get_or cells it 0) fails false differ) ∙ not
          ]))
          (λ _ not. settled (sym (get_or-set_same before cell fails false within) ∙ not));
    }

-- one more polygon that is a land, or whose cell fails already
pub same_failing : (rings : List (List Position)) (polygons : List (ℕ × ℕ)) (cells lands : List ℕ) (lakes : List (Option ℕ)) (polygon : ℕ) (before : List Bool)
    → AreFailing rings polygons cells lands lakes polygon before → (land_of cells lands polygon ≢ polygon → get_or before (get_or cells polygon 0) false ≢ false)
    → AreFailing rings polygons cells lands lakes (polygon + 1) before
same_failing rings polygons cells lands lakes polygon before so_far passed = record {
  size = so_far.size;
  settled = below_more (λ (it : ℕ). land_of cells lands it ≢ it → get_or before (get_or cells it 0) false ≡ false → IsSettled rings polygons cells lands lakes it) polygon
      so_far.settled (λ no_land not. absurd (passed no_land not));
}

module _ (rings : List (List Position)) (polygons : List (ℕ × ℕ)) (cells lands : List ℕ) (beside : List Bool) (lakes : List (Option ℕ)) (failing : List Bool)
    (known : AreCells (length polygons) cells) (far : AreFarFromNeighbours rings polygons cells lands beside) (unmarked : AreLakesUnmarked beside lakes)
    (told : AreFailing rings polygons cells lands lakes (length polygons) failing) where
  -- two polygons of a cell that doesn't fail
  apart_in_cell : (polygon other : ℕ) → polygon < length polygons → other < length polygons → polygon ≢ other → get_or cells polygon 0 ≡ get_or cells other 0
      → get_or failing (get_or cells polygon 0) false ≡ false
      → AreFarApart rings (listed_at polygons polygon) (listed_at polygons other) ⊎ AreApartByHole rings (listed_at polygons polygon) (listed_at polygons other)
  apart_in_cell polygon other within its_within differ same not =
      let land : land_of cells lands polygon ≡ land_of cells lands other = ap (λ (at : ℕ). get_or lands at 0) same in
      let not_either : get_or failing (get_or cells other 0) false ≡ false = ap (λ (at : ℕ). get_or failing at false) (sym same) ∙ not in
      elim (cases_eq (land_of cells lands polygon) polygon) [
        | inl is ↦
            let settled = told.settled other its_within (λ its. differ (sym is ∙ land ∙ its)) not_either in
            inr (inr (subst (λ (its : ℕ). IsIslandOf rings (listed_at polygons other) (listed_at polygons its)) (sym land ∙ is) settled.island))
        | inr no_land ↦
            let settled = told.settled polygon within no_land not in
            elim (cases_eq (land_of cells lands other) other) [
              | inl is ↦ inr (inl (subst (λ (its : ℕ). IsIslandOf rings (listed_at polygons polygon) (listed_at polygons its)) (land ∙ is) settled.island))
              | inr no_land_either ↦
                  let size = known.size in
                  let two : AreNeighbours cells lands polygon other = record { here = omega arith; there = omega arith; different = differ; cell = same; no_land = no_land; no_land_either = no_land_either } in
                  inl (far.apart polygon other two (unmarked polygon settled.hole settled.lake))
            ]
      ]

  -- so marks where cells fail are enough
  pub marked_of_failing : (marks : List Bool) → AreCellsApart rings polygons cells → AreOfFailing cells failing (length polygons) marks → AreMarked rings polygons marks
  marked_of_failing marks parted of_failing = record {
    count = of_failing.size;
    apart = λ polygon other within its_within differ not. elim (cases_eq (get_or cells polygon 0) (get_or cells other 0)) [
      | inr cells_differ ↦ inl (parted polygon other within its_within cells_differ)
      | inl same ↦
          let unfailed : get_or failing (get_or cells polygon 0) false ≡ false = sym (of_failing.each polygon within) ∙ not in
          let not_either : get_or marks other false ≡ false = of_failing.each other its_within ∙ ap (λ (at : ℕ). get_or failing at false) (sym same) ∙ unfailed in
          elim (apart_in_cell polygon other within its_within differ same unfailed) [ inl far_apart ↦ inl far_apart | inr by_hole ↦ inr (not_either, by_hole) ]
    ];
  }
