-- The lands of cells, polygon by polygon.
use Rattle.std.proofs.Common.{◌≡◌, inl, inr, ℕ, ◌+◌, ◌<◌, List, length, replicate, get_or, set, refl, sym, ◌∙◌, ap, arith, below_more, get_or-set_other, get_or-set_same}
use Rattle.std.proofs.lemmas.Bool.{cases_eq}
use Rattle.std.proofs.lemmas.List.{get_or-replicate, length-replicate}
use Rattle.std.proofs.Math.ListN.{length-set}
use Rattle.mvt_feature.specs.Calls.Cells.{AreCells}
use Rattle.mvt_feature.specs.Calls.Lands.{AreLands, land_of}

-- a number is written for one of the cells
pub cells_set : (count : ℕ) (cells : List ℕ) (at number : ℕ) → AreCells count cells → at < count → number < count → AreCells count (set cells at number)
cells_set count cells at number known within below = record {
  size = length-set cells at number ∙ known.size;
  below = λ other its. elim (cases_eq other at) [
    | inl same ↦
        let size = known.size in
        let is = ap (λ (it : ℕ). get_or (set cells at number) it 0) same ∙ get_or-set_same cells at number 0 (omega arith) in
        omega arith
    | inr differ ↦ let is = get_or-set_other cells at other number 0 differ in let less = known.below other its in omega arith
  ];
}

-- no polygon has one yet
pub no_lands : (cells lands : List ℕ) → lands ≡ replicate (length cells) 0 → AreLands cells 0 lands
no_lands cells lands is = record {
  known = record {
    size = ap length is ∙ length-replicate (length cells) 0;
    below = λ number within. let none = ap (λ (its : List ℕ). get_or its number 0) is ∙ get_or-replicate (length cells) number 0 0 within in omega arith;
  };
  own = λ polygon below. absurd (omega arith);
}

-- the next polygon has the land that its cell has
pub land_left : (cells lands : List ℕ) (polygon : ℕ) → AreLands cells polygon lands → get_or cells (land_of cells lands polygon) 0 ≡ get_or cells polygon 0 → AreLands cells (polygon + 1) lands
land_left cells lands polygon so_far own = record {
  known = so_far.known;
  own = below_more (λ (other : ℕ). get_or cells (land_of cells lands other) 0 ≡ get_or cells other 0) polygon so_far.own own;
}

-- the next polygon becomes the land of its cell
pub land_taken : (cells lands : List ℕ) (polygon : ℕ) → AreCells (length cells) cells → AreLands cells polygon lands → polygon < length cells → AreLands cells (polygon + 1) (set lands (get_or cells polygon 0) polygon)
land_taken cells lands polygon known so_far within =
    let cell = get_or cells polygon 0 in
    let below = known.below polygon within in
    let size = so_far.known.size in
    let newer = set lands cell polygon in
    let here : get_or newer cell 0 ≡ polygon = get_or-set_same lands cell polygon 0 (omega arith) in
    let of_cell : (other : ℕ) → get_or cells other 0 ≡ cell → get_or cells (land_of cells newer other) 0 ≡ get_or cells other 0 =
    λ other same. ap (λ (number : ℕ). get_or cells number 0) (ap (λ (number : ℕ). get_or newer number 0) same ∙ here) ∙ sym same in
    record {
      known = cells_set (length cells) lands cell polygon so_far.known below within;
      own = below_more (λ (other : ℕ). get_or cells (land_of cells newer other) 0 ≡ get_or cells other 0) polygon
          (λ other earlier. elim (cases_eq (get_or cells other 0) cell) [
            | inl same ↦ of_cell other same
            | inr differ ↦ ap (λ (number : ℕ). get_or cells number 0) (get_or-set_other lands cell (get_or cells other 0) polygon 0 differ) ∙ so_far.own other earlier
          ])
          (of_cell polygon refl);
    }
