-- Cells that are parted along an order: where the cell before ends, or where a span begins after all so far of the new cell.
use Rattle.std.proofs.Common.{◌≡◌, ◌≢◌, ◌⊎◌, inl, inr, ℕ, ◌+◌, ◌-◌, ◌<◌, ◌≤◌, Bool, true, false, List, length, replicate, get_or, set, slice_get, Some, ℤ, pos, ◌<ℤ◌, ◌≤ℤ◌, refl, true≢false, sym, ◌∙◌, ap, subst, arith, below_more, get_or-set_other, get_or-set_same}
use Rattle.std.proofs.lemmas.Bool.{cases_eq, cases_lt, cases_order}
use Rattle.std.proofs.lemmas.List.{get_or-replicate}
use Rattle.std.proofs.lemmas.Option.{same_Some, slice_get-get_or, slice_get_within}
use Rattle.std.proofs.Math.ListN.{length-set}
use Rattle.mvt_plane.proofs.Orders.Order.{zs}
use Rattle.mvt_feature.specs.Calls.Cells.{AreAllMarked, AreCells, AreCellsOf, AreParted, AreRefined, AreSharing, AreSpansApart, IsCellOrder, keyed_number, order_at, span_at}
use Rattle.mvt_feature.proofs.Features.GatheredLists.{IsMarked, marked_or_not}

module _ (old : ℕ → ℕ) (least end : ℕ → ℤ) where
  -- at two places, one before the other, the cells differ or the spans are apart
  abbrev pub ArePlacesApart : ℕ → ℕ → Type 0
  ArePlacesApart one other = (old one ≢ old other) ⊎ (end one <ℤ least other)

  -- up to a place, the cells do not fall and in a cell the least coordinates do not
  abbrev pub ArePlacesInOrder : ℕ → Type 0
  ArePlacesInOrder count = (one other : ℕ) → one ≤ other → other < count → (old one < old other) ⊎ ((old one ≡ old other) × (least one ≤ℤ least other))

  -- new cells up to a place, each the number at a place of it, of which the last one is this and reaches so far
  pub record AreCellsTo (number new : ℕ → ℕ) (at cell : ℕ) (reach : ℤ) : Type 0 where
    pub first : (place : ℕ) → place < at → (earlier : ℕ) × (earlier < at) × (new place ≡ number earlier)
    pub last : 0 < at → new (at - 1) ≡ cell
    pub reached : (place : ℕ) → place < at → new place ≡ cell → end place ≤ℤ reach
    pub apart : (one other : ℕ) → one < other → other < at → new one ≢ new other → ArePlacesApart one other

  -- what is apart at a place is at each one after it
  apart_along : (count one other next : ℕ) → ArePlacesInOrder count → one ≤ other → other ≤ next → next < count → ArePlacesApart one other → ArePlacesApart one next
  apart_along count one other next sorted first second within (inl differ) = elim (sorted one other first (omega arith)) [
    | inl less ↦ elim (sorted other next second within) [ inl more ↦ inl (λ same. absurd (omega arith)) | inr is ↦ inl (λ same. absurd (omega (arith, is.0))) ]
    | inr is ↦ absurd (differ is.0)
  ]
  apart_along count one other next sorted first second within (inr following) = elim (sorted other next second within) [
    | inl less ↦ elim (sorted one other first (omega arith)) [ inl more ↦ inl (λ same. absurd (omega arith)) | inr is ↦ inl (λ same. absurd (omega (arith, is.0))) ]
    | inr is ↦ let most = is.1 in inr (omega (arith, zs))
  ]

  -- where the cells of two places are the same, so is that of the place before the second one
  old_between : (count one at : ℕ) → ArePlacesInOrder count → one < at → at < count → old one ≡ old at → old (at - 1) ≡ old at
  old_between count one at sorted below within same = elim (sorted one (at - 1) (omega arith) (omega arith)) [
    | inl less ↦ elim (sorted (at - 1) at (omega arith) within) [ inl more ↦ absurd (omega arith) | inr is ↦ is.0 ]
    | inr is ↦ sym is.0 ∙ same
  ]

  -- what is in another cell than the last one is apart from the next place
  apart_next : (number new : ℕ → ℕ) (count at cell one : ℕ) (reach : ℤ) → ArePlacesInOrder count → at < count → AreCellsTo number new at cell reach → one < at → new one ≢ cell → ArePlacesApart one at
  apart_next number new count at cell one reach sorted within before first differ =
      let last = before.last (omega arith) in
      let away : one ≢ at - 1 = λ same. differ (ap new same ∙ last) in
      apart_along count one (at - 1) at sorted (omega arith) (omega arith) within (before.apart one (at - 1) (omega arith) (omega arith) (λ same. differ (same ∙ last)))

  -- places up to the next one are apart where those up to it are, and all from it
  apart_more : (number new newer : ℕ → ℕ) (at cell : ℕ) (reach : ℤ) → AreCellsTo number new at cell reach → ((place : ℕ) → place < at → newer place ≡ new place)
      → ((one : ℕ) → one < at → newer one ≢ newer at → ArePlacesApart one at)
      → (one other : ℕ) → one < other → other < at + 1 → newer one ≢ newer other → ArePlacesApart one other
  apart_more number new newer at cell reach before kept next one other first second differ = elim (cases_lt other at) [
    | inl earlier ↦ before.apart one other first earlier (λ same. differ (kept one (omega arith) ∙ same ∙ sym (kept other earlier)))
    | inr following ↦
        let last : at ≡ other = omega arith in
        subst (ArePlacesApart one) last (next one (omega arith) (λ same. differ (same ∙ ap newer last)))
  ]

  -- what is the number at a place still is
  first_still : (number new newer : ℕ → ℕ) (at cell : ℕ) (reach : ℤ) → AreCellsTo number new at cell reach → ((place : ℕ) → place < at → newer place ≡ new place) → (place : ℕ) → place < at
      → (earlier : ℕ) × (earlier < at + 1) × (newer place ≡ number earlier)
  first_still number new newer at cell reach before kept place below = let its = before.first place below in (its.0, omega (arith, its.1), kept place below ∙ its.2)

  -- a place comes into the last cell
  pub cell_lasts : (number new newer : ℕ → ℕ) (count at cell : ℕ) (reach further : ℤ) → ArePlacesInOrder count → at < count → AreCellsTo number new at cell reach
      → ((place : ℕ) → place < at → newer place ≡ new place) → newer at ≡ cell → 0 < at → reach ≤ℤ further → end at ≤ℤ further → AreCellsTo number newer (at + 1) cell further
  cell_lasts number new newer count at cell reach further sorted within before kept is later more own = record {
    first = below_more (λ (place : ℕ). (earlier : ℕ) × (earlier < at + 1) × (newer place ≡ number earlier)) at (first_still number new newer at cell reach before kept)
        (let its = before.first (at - 1) (omega arith) in (its.0, omega (arith, its.1), is ∙ sym (before.last later) ∙ its.2));
    last = λ _. let here : (at + 1) - 1 ≡ at = omega arith in ap newer here ∙ is;
    reached = below_more (λ (place : ℕ). newer place ≡ cell → end place ≤ℤ further) at
        (λ place below its. let least = before.reached place below (sym (kept place below) ∙ its) in omega (arith, zs)) (λ _. own);
    apart = apart_more number new newer at cell reach before kept
        (λ one below differ. apart_next number new count at cell one reach sorted within before below (λ same. differ (kept one below ∙ same ∙ sym is)));
  }

  -- what is before a place that begins a cell is apart from it
  apart_begun : (number new : ℕ → ℕ) (count at cell one : ℕ) (reach : ℤ) → ArePlacesInOrder count → at < count → AreCellsTo number new at cell reach
      → (at ≡ 0) ⊎ ((old (at - 1) ≢ old at) ⊎ (reach <ℤ least at)) → one < at → ArePlacesApart one at
  apart_begun number new count at cell one reach sorted within before (inl none) below = absurd (omega arith)
  apart_begun number new count at cell one reach sorted within before (inr (inl differ)) below =
      inl (λ same. differ (old_between count one at sorted below within same))
  apart_begun number new count at cell one reach sorted within before (inr (inr following)) below = elim (cases_eq (new one) cell) [
    | inl same ↦ let most = before.reached one below same in inr (omega (arith, zs))
    | inr away ↦ apart_next number new count at cell one reach sorted within before below away
  ]

  -- a place begins a cell, which is the number there
  pub cell_begins : (number new newer : ℕ → ℕ) (count at cell : ℕ) (reach further : ℤ) → ArePlacesInOrder count → at < count → AreCellsTo number new at cell reach
      → ((place : ℕ) → place < at → newer place ≡ new place) → newer at ≡ number at → ((place : ℕ) → place < at → number place ≢ number at)
      → (at ≡ 0) ⊎ ((old (at - 1) ≢ old at) ⊎ (reach <ℤ least at)) → end at ≤ℤ further → AreCellsTo number newer (at + 1) (number at) further
  cell_begins number new newer count at cell reach further sorted within before kept is others why own = record {
    first = below_more (λ (place : ℕ). (earlier : ℕ) × (earlier < at + 1) × (newer place ≡ number earlier)) at (first_still number new newer at cell reach before kept)
        (at, omega arith, is);
    last = λ _. let here : (at + 1) - 1 ≡ at = omega arith in ap newer here ∙ is;
    reached = below_more (λ (place : ℕ). newer place ≡ number at → end place ≤ℤ further) at
        (λ place below its. let earlier = before.first place below in absurd (others earlier.0 earlier.1 (sym earlier.2 ∙ sym (kept place below) ∙ its))) (λ _. own);
    apart = apart_more number new newer at cell reach before kept (λ one below _. apart_begun number new count at cell one reach sorted within before why below);
  }

-- ---- an order of numbers

-- the cell before of what is at a place
abbrev pub cell_before : List (ℕ × ℤ × ℕ) → ℕ → ℕ
cell_before order place = (order_at order place).0

-- its least coordinate
abbrev pub least_of : List (ℕ × ℤ × ℕ) → ℕ → ℤ
least_of order place = (order_at order place).1

-- its greatest coordinate
abbrev pub greatest_of : List (ℤ × ℤ) → List (ℕ × ℤ × ℕ) → ℕ → ℤ
greatest_of spans order place = (span_at spans (order_at order place).2).1

-- its new cell
abbrev pub new_cell : List (ℕ × ℤ × ℕ) → List ℕ → ℕ → ℕ
new_cell order cells place = get_or cells (order_at order place).2 0

-- the number there
abbrev pub number_there : List (ℕ × ℤ × ℕ) → ℕ → ℕ
number_there order place = (order_at order place).2

-- each number has the cell that it had, or a number for one
abbrev pub AreKeptOrNumbers : List ℕ → List ℕ → Type 0
AreKeptOrNumbers before cells = (number : ℕ) → number < length before → (get_or cells number 0 ≡ get_or before number 0) ⊎ (get_or cells number 0 < length before)

-- also where a number is written
still_numbers : (before cells : List ℕ) (at cell : ℕ) → length cells ≡ length before → at < length before → cell < length before → AreKeptOrNumbers before cells → AreKeptOrNumbers before (set cells at cell)
still_numbers before cells at cell size within below so_far number its = elim (cases_eq number at) [
  | inl same ↦ let is : get_or (set cells at cell) number 0 ≡ cell = ap (λ (it : ℕ). get_or (set cells at cell) it 0) same ∙ get_or-set_same cells at cell 0 (omega arith) in inr (omega arith)
  | inr differ ↦ let is = get_or-set_other cells at number cell 0 differ in elim (so_far number its) [ inl same ↦ inl (is ∙ same) | inr less ↦ inr (omega arith) ]
]

-- new cells of the numbers before this place
pub record ArePartedTo (spans : List (ℤ × ℤ)) (before : List ℕ) (order : List (ℕ × ℤ × ℕ)) (cells : List ℕ) (at cell : ℕ) (reach : ℤ) : Type 0 where
  pub size : length cells ≡ length before
  pub numbers : AreKeptOrNumbers before cells
  pub parts : AreCellsTo (cell_before order) (least_of order) (greatest_of spans order) (number_there order) (new_cell order cells) at cell reach

-- no number has one yet
pub none_parted : (spans : List (ℤ × ℤ)) (before : List ℕ) (order : List (ℕ × ℤ × ℕ)) (reach : ℤ) → ArePartedTo spans before order before 0 0 reach
none_parted spans before order reach = record {
  size = refl;
  numbers = λ number below. inl refl;
  parts = record {
    first = λ place below. absurd (omega arith);
    last = λ below. absurd (omega arith);
    reached = λ place below. absurd (omega arith);
    apart = λ one other first second. absurd (omega arith);
  };
}

-- what is at a place
order_there : (order : List (ℕ × ℤ × ℕ)) (at : ℕ) → at < length order → slice_get order at ≡ Some (order_at order at)
order_there order at within = slice_get-get_or order at (0, pos 0, 0) within

-- as the code reads it
order_read : (order : List (ℕ × ℤ × ℕ)) (at : ℕ) (it : ℕ × ℤ × ℕ) → at < length order → it ≡ get_or order at it → it ≡ order_at order at
order_read order at it within is = is ∙ same_Some (get_or order at it) (order_at order at) (sym (slice_get-get_or order at it within) ∙ order_there order at within)

-- where a number is in an order
record IsPlaced (spans : List (ℤ × ℤ)) (before : List ℕ) (order : List (ℕ × ℤ × ℕ)) (number : ℕ) : Type 0 where
  at : ℕ
  within : at < length order
  is : order_at order at ≡ keyed_number spans before number

-- its new cell
cell_there : (spans : List (ℤ × ℤ)) (before : List ℕ) (order : List (ℕ × ℤ × ℕ)) (cells : List ℕ) (number : ℕ) (place : IsPlaced spans before order number)
    → new_cell order cells place.at ≡ get_or cells number 0
cell_there spans before order cells number place = ap (λ (it : ℕ × ℤ × ℕ). get_or cells it.2 0) place.is

-- what is apart by places is apart by numbers
apart_numbers : (spans : List (ℤ × ℤ)) (before : List ℕ) (order : List (ℕ × ℤ × ℕ)) (one other : ℕ) (first : IsPlaced spans before order one) (second : IsPlaced spans before order other)
    → ArePlacesApart (cell_before order) (least_of order) (greatest_of spans order) first.at second.at
    → (get_or before one 0 ≢ get_or before other 0) ⊎ ((span_at spans one).1 <ℤ (span_at spans other).0)
apart_numbers spans before order one other first second apart = elim apart [
  | inl differ ↦ inl (λ same. differ (ap (λ (it : ℕ × ℤ × ℕ). it.0) first.is ∙ same ∙ sym (ap (λ (it : ℕ × ℤ × ℕ). it.0) second.is)))
  | inr less ↦ inr (subst (λ (it : ℤ). it <ℤ (span_at spans other).0) (ap (λ (it : ℕ × ℤ × ℕ). (span_at spans it.2).1) first.is)
      (subst (λ (it : ℤ). greatest_of spans order first.at <ℤ it) (ap (λ (it : ℕ × ℤ × ℕ). it.1) second.is) less))
]

module _ (spans : List (ℤ × ℤ)) (before : List ℕ) (marks : List Bool) (order : List (ℕ × ℤ × ℕ)) (is : IsCellOrder spans before marks order) where
  -- a number of an order is one of those that have cells
  number_within : (at : ℕ) → at < length order → number_there order at < length before
  number_within at within = is.numbered.known at (order_at order at) (order_there order at within)

  -- no other place has it
  other_number : (at place : ℕ) → at < length order → place < at → number_there order place ≢ number_there order at
  other_number at place within below same =
      let equal = is.numbered.once place at (order_at order place) (order_at order at) (order_there order place (omega arith)) (order_there order at within) same in absurd (omega arith)

  -- places are in order
  in_order : ArePlacesInOrder (cell_before order) (least_of order) (greatest_of spans order) (length order)
  in_order one other first second = is.sorted one other (order_at order one) (order_at order other) first (order_there order one (omega arith)) (order_there order other second)

  module _ (cells : List ℕ) (at cell : ℕ) (reach further : ℤ) (within : at < length order) (so_far : ArePartedTo spans before order cells at cell reach) where
    -- the new cells before a place are kept where the cell of the number there is written
    kept_before : (next place : ℕ) → place < at → new_cell order (set cells (number_there order at) next) place ≡ new_cell order cells place
    kept_before next place below = get_or-set_other cells (number_there order at) (number_there order place) next 0 (other_number at place within below)

    -- and that one is written
    written : (next : ℕ) → new_cell order (set cells (number_there order at) next) at ≡ next
    written next =
        let number = number_within at within in
        let size = so_far.size in
        get_or-set_same cells (number_there order at) next 0 (omega arith)

    -- numbers are kept or have numbers
    numbers_more : (next : ℕ) → next < length before → AreKeptOrNumbers before (set cells (number_there order at) next)
    numbers_more next below = still_numbers before cells (number_there order at) next so_far.size (number_within at within) below so_far.numbers

    -- the last cell is a number
    last_below : 0 < at → cell < length before
    last_below later =
        let its = so_far.parts.first (at - 1) (omega arith) in
        let below : number_there order its.0 < length before = number_within its.0 (omega (arith, its.1)) in
        subst (λ (it : ℕ). it < length before) (sym its.2 ∙ so_far.parts.last later) below

    -- the next number comes into the last cell
    number_lasts : 0 < at → reach ≤ℤ further → greatest_of spans order at ≤ℤ further → ArePartedTo spans before order (set cells (number_there order at) cell) (at + 1) cell further
    number_lasts later more own = record {
      size = length-set cells (number_there order at) cell ∙ so_far.size;
      numbers = numbers_more cell (last_below later);
      parts = cell_lasts (cell_before order) (least_of order) (greatest_of spans order) (number_there order) (new_cell order cells) (new_cell order (set cells (number_there order at) cell)) (length order) at
          cell reach further in_order within so_far.parts (kept_before cell) (written cell) later more own;
    }

    -- the next number begins a cell
    number_begins : (at ≡ 0) ⊎ (((order_at order (at - 1)).0 ≢ (order_at order at).0) ⊎ (reach <ℤ (order_at order at).1)) → greatest_of spans order at ≤ℤ further
        → ArePartedTo spans before order (set cells (number_there order at) (number_there order at)) (at + 1) (number_there order at) further
    number_begins why own = record {
      size = length-set cells (number_there order at) (number_there order at) ∙ so_far.size;
      numbers = numbers_more (number_there order at) (number_within at within);
      parts = cell_begins (cell_before order) (least_of order) (greatest_of spans order) (number_there order) (new_cell order cells) (new_cell order (set cells (number_there order at) (number_there order at)))
          (length order) at cell reach further in_order within so_far.parts (kept_before (number_there order at)) (written (number_there order at)) (λ place below. other_number at place within below) why own;
    }

    module _ (it : ℕ × ℤ × ℕ) (read : it ≡ get_or order at it) where
      -- as the code reads the next number, it is one of those that have cells
      pub read_within : it.2 < length before
      read_within = subst (λ (it : ℕ × ℤ × ℕ). it.2 < length before) (sym (order_read order at it within read)) (number_within at within)

      -- its greatest coordinate
      read_end : (span_at spans it.2).1 ≤ℤ further → greatest_of spans order at ≤ℤ further
      read_end own = subst (λ (it : ℕ × ℤ × ℕ). (span_at spans it.2).1 ≤ℤ further) (order_read order at it within read) own

      -- it comes into the last cell
      pub read_lasts : (last : ℕ) → last ≡ cell → 0 < at → reach ≤ℤ further → (span_at spans it.2).1 ≤ℤ further → ArePartedTo spans before order (set cells it.2 last) (at + 1) last further
      read_lasts last same later more own =
          subst (λ (next : ℕ). ArePartedTo spans before order (set cells it.2 next) (at + 1) next further) (sym same)
          (subst (λ (number : ℕ). ArePartedTo spans before order (set cells number cell) (at + 1) cell further) (sym (ap (λ (it : ℕ × ℤ × ℕ). it.2) (order_read order at it within read)))
          (number_lasts later more (read_end own)))

      -- it begins a cell
      pub read_begins : (next : ℕ) → next ≡ it.2 → (at ≡ 0) ⊎ (((order_at order (at - 1)).0 ≢ (order_at order at).0) ⊎ (reach <ℤ (order_at order at).1)) → (span_at spans it.2).1 ≤ℤ further
          → ArePartedTo spans before order (set cells it.2 next) (at + 1) next further
      read_begins next same why own =
          subst (λ (next : ℕ). ArePartedTo spans before order (set cells it.2 next) (at + 1) next further) (sym same)
          (subst (λ (number : ℕ). ArePartedTo spans before order (set cells number number) (at + 1) number further) (sym (ap (λ (it : ℕ × ℤ × ℕ). it.2) (order_read order at it within read)))
          (number_begins why (read_end own)))

  -- ---- all of them

  -- each marked number is somewhere
  placed : (number : ℕ) → number < length before → IsMarked marks number → IsPlaced spans before order number
  placed number below marked =
      let found = is.numbered.all number below marked in
      let within = slice_get_within order found.0 (keyed_number spans before number) found.1 in
      record { at = found.0; within = within; is = same_Some (order_at order found.0) (keyed_number spans before number) (sym (order_there order found.0 within) ∙ found.1) }

  module _ (cells : List ℕ) (cell : ℕ) (reach : ℤ) (all : ArePartedTo spans before order cells (length order) cell reach) where
    -- where all are marked, new cells are numbers
    pub cells_of_all : AreAllMarked (length before) marks → AreCells (length before) cells
    cells_of_all marked = record {
      size = all.size;
      below = λ number below.
          let place = placed number below (marked number below) in
          let its = all.parts.first place.at place.within in
          subst (λ (it : ℕ). it < length before) (sym its.2 ∙ cell_there spans before order cells number place) (number_within its.0 its.1);
    }

    -- also where all cells were numbers
    pub cells_of_marked : AreCells (length before) before → AreCells (length before) cells
    cells_of_marked known = record {
      size = all.size;
      below = λ number below. elim (all.numbers number below) [ inl same ↦ let less = known.below number below in omega arith | inr less ↦ less ];
    }

    -- of two marked numbers, new cells part the ones before
    parted_marked : (one other : ℕ) (first : IsPlaced spans before order one) (second : IsPlaced spans before order other) → get_or cells one 0 ≢ get_or cells other 0
        → (get_or before one 0 ≢ get_or before other 0) ⊎ AreSpansApart (span_at spans one) (span_at spans other)
    parted_marked one other first second differ =
        let own = cell_there spans before order cells one first in
        let its = cell_there spans before order cells other second in
        let away : new_cell order cells first.at ≢ new_cell order cells second.at = λ same. differ (sym own ∙ same ∙ its) in
        elim (cases_order first.at second.at) [
          | inl same ↦ absurd (away (ap (new_cell order cells) same))
          | inr (inl less) ↦ elim (apart_numbers spans before order one other first second (all.parts.apart first.at second.at less second.within away)) [ inl cells_differ ↦ inl cells_differ | inr apart ↦ inr (inl apart) ]
          | inr (inr less) ↦ elim (apart_numbers spans before order other one second first (all.parts.apart second.at first.at less first.within (λ same. away (sym same)))) [
            | inl cells_differ ↦ inl (λ same. cells_differ (sym same))
            | inr apart ↦ inr (inr apart)
          ]
        ]

    -- where those that share a cell are marked, of all numbers
    pub parted_of_parts : AreSharing before marks → AreParted spans before cells
    parted_of_parts sharing one other below its_below differ =
        let others : one ≢ other = λ same. differ (ap (λ (number : ℕ). get_or cells number 0) same) in
        elim (marked_or_not marks one) [
          | inr alone ↦ inl (sharing.alone one other below its_below others alone)
          | inl marked ↦ elim (marked_or_not marks other) [
            | inr alone ↦ inl (λ same. sharing.alone other one its_below below (λ it. others (sym it)) alone (sym same))
            | inl its ↦ parted_marked one other (placed one below marked) (placed other its_below its) differ
          ]
        ]

-- ---- marks

-- so many marks
all_marked : (count : ℕ) → AreAllMarked count (replicate count true)
all_marked count number below = get_or-replicate count number true false below

-- all numbers are marked
pub marked_by_all : (count : ℕ) (marks : List Bool) → marks ≡ replicate count true → AreAllMarked count marks
marked_by_all count marks is = subst (AreAllMarked count) (sym is) (all_marked count)

-- where all are marked, those that aren't have cells of their own
pub sharing_of_all : (cells : List ℕ) (marks : List Bool) → length marks ≡ length cells → AreAllMarked (length cells) marks → AreSharing cells marks
sharing_of_all cells marks size all = record { size = size; alone = λ one other below _ _ unmarked. absurd (true≢false (sym (all one below) ∙ unmarked)) }

-- ---- one parting after another

-- where cells came apart, so did spans along an axis
pub parted_in_turn : (across upward : List (ℤ × ℤ)) (before first second third : List ℕ) → AreParted across before first → AreCells (length before) first → AreParted upward first second → AreCells (length first) second
    → AreParted across second third → AreRefined across upward before third
parted_in_turn across upward before first second third by_first first_cells by_second second_cells by_third one other below its_below same differ =
    let first_size = first_cells.size in
    let second_size = second_cells.size in
    elim (by_third one other (omega arith) (omega arith) differ) [
      | inr apart ↦ inl apart
      | inl away ↦ elim (by_second one other (omega arith) (omega arith) away) [
        | inr apart ↦ inr apart
        | inl further ↦ elim (by_first one other (omega arith) (omega arith) further) [
          | inr apart ↦ inl apart
          | inl never ↦ absurd (never same)
        ]
      ]
    ]

-- where all had one cell before
pub parted_of_one : (across upward : List (ℤ × ℤ)) (before cells : List ℕ) → length before ≡ length across → before ≡ replicate (length across) 0 → AreRefined across upward before cells → AreCellsOf across upward cells
parted_of_one across upward before cells size is refined one other below its_below differ =
    let each : (number : ℕ) → number < length across → get_or before number 0 ≡ 0 = λ number within. ap (λ (its : List ℕ). get_or its number 0) is ∙ get_or-replicate (length across) number 0 0 within in
    refined one other (omega arith) (omega arith) (each one below ∙ sym (each other its_below)) differ
