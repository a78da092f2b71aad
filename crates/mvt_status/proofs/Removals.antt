-- Edges that are taken out of what two sides and the edges between them have, or put in the place of others.
use Rattle.std.proofs.Common.{◌≡◌, ℕ, zero, suc, max, ◌+◌, ◌-◌, ◌<◌, ◌≤◌, inl, inr, List, [], ◌∷◌, ◌++◌, drop, take, length, length-append, insert, remove, slice_index, slice_set, refl, ap, sym, ◌∙◌, append_assoc, arith}
use Rattle.std.proofs.lemmas.List.{get_or_append_left, get_or-append_right, set-append_left, set-append_right}
use Rattle.std.proofs.lemmas.List.Edits.{insert-append_right, length-remove, remove-append_left, remove-append_right}
use Rattle.mvt_plane.specs.Counted.{Counted}
use Rattle.mvt_status.specs.Calls.Tree.{DifferByAtMost, IsHeightOfBoth}
use Rattle.mvt_status.proofs.Levels.{IsHigher, height_of_both}
use Rattle.mvt_status.proofs.ListEdits.{written}

-- how many edges two sides and those between them have
pub all_counted : (left own right all : List ℕ) → left ++ (own ++ right) ≡ all → length all ≡ length left + length own + length right
all_counted left own right all same = omega (arith, ap length same, length-append left (own ++ right), length-append own right)

-- an edge taken out on the left
pub taken_left : (left own right part all : List ℕ) (at : ℕ) → left ++ (own ++ right) ≡ all → at < length left → part ≡ remove left at → part ++ (own ++ right) ≡ remove all at
taken_left left own right part all at same within is = rw (is, sym same) (sym (remove-append_left left (own ++ right) at within))

-- an edge taken out between the sides
pub taken_between : (left own right part all : List ℕ) (at before : ℕ) → left ++ (own ++ right) ≡ all → before ≡ length left → before ≤ at → at < before + length own
    → part ≡ remove own (at - before) → left ++ (part ++ right) ≡ remove all at
taken_between left own right part all at before same many following within is =
    rw (is, sym same) (sym (remove-append_right left (own ++ right) before at (sym many) following ∙ ap (λ (rest : List ℕ). left ++ rest) (remove-append_left own right (at - before) (omega arith))))

-- an edge taken out on the right
pub taken_right : (left own right part all : List ℕ) (at following : ℕ) → left ++ (own ++ right) ≡ all → following ≡ length left + length own → following ≤ at
    → part ≡ remove right (at - following) → left ++ (own ++ part) ≡ remove all at
taken_right left own right part all at following same many within is =
    let front : length (left ++ own) ≡ following = omega (arith, length-append left own) in
    rw (is, sym same) (sym (append_assoc left own _) ∙ sym (remove-append_right (left ++ own) right following at front within) ∙ ap (λ (list : List ℕ). remove list at) (append_assoc left own right))

-- the first of a list of one edge taken out in front of others
only_one : (own right : List ℕ) (at : ℕ) → at < length own → length own ≤ 1 → remove (own ++ right) at ≡ right
only_one [] right at within one = absurd (omega arith)
only_one (edge ∷ []) right at within one = rw (no_place at (omega arith)) refl
  where
    no_place : (at : ℕ) → at < 1 → at ≡ 0
    no_place at within = omega arith
only_one (edge ∷ next ∷ rest) right at within one = absurd (omega arith)

-- the only edge between the sides taken out
pub taken_alone : (left own right part all : List ℕ) (at before : ℕ) → left ++ (own ++ right) ≡ all → before ≡ length left → before ≤ at → at < before + length own → length own ≤ 1
    → right ≡ part → left ++ part ≡ remove all at
taken_alone left own right part all at before same many following within one is =
    rw (sym is, sym same) (sym (remove-append_right left (own ++ right) before at (sym many) following ∙ ap (λ (rest : List ℕ). left ++ rest) (only_one own right (at - before) (omega arith) one)))

-- an edge on the left
pub found_left : (left own right all : List ℕ) (at out : ℕ) → left ++ (own ++ right) ≡ all → at < length left → out ≡ slice_index left at → out ≡ slice_index all at
found_left left own right all at out same within is = is ∙ sym (get_or_append_left left (own ++ right) 0 at within) ∙ ap (λ (list : List ℕ). slice_index list at) same

-- an edge between the sides
pub found_between : (left own right all : List ℕ) (at before out : ℕ) → left ++ (own ++ right) ≡ all → before ≡ length left → before ≤ at → at < before + length own
    → out ≡ slice_index own (at - before) → out ≡ slice_index all at
found_between left own right all at before out same many following within is =
    is ∙ sym (get_or-append_right left (own ++ right) before at 0 (sym many) following ∙ get_or_append_left own right 0 (at - before) (omega arith)) ∙ ap (λ (list : List ℕ). slice_index list at) same

-- the first edge after the left side
pub found_first : (left rest all : List ℕ) (at out : ℕ) → left ++ rest ≡ all → at ≡ length left → out ≡ slice_index rest 0 → out ≡ slice_index all at
found_first left rest all at out same following is =
    let first : 0 ≡ at - length left = omega (arith, following) in
    is ∙ ap (slice_index rest) first ∙ sym (get_or-append_right left rest (length left) at 0 refl (omega (arith, following))) ∙ ap (λ (list : List ℕ). slice_index list at) same

-- an edge on the right
pub found_right : (left own right all : List ℕ) (at following out : ℕ) → left ++ (own ++ right) ≡ all → following ≡ length left + length own → following ≤ at
    → out ≡ slice_index right (at - following) → out ≡ slice_index all at
found_right left own right all at following out same many within is =
    let front : length (left ++ own) ≡ following = omega (arith, length-append left own) in
    is ∙ sym (get_or-append_right (left ++ own) right following at 0 front within) ∙ ap (λ (list : List ℕ). slice_index list at) (append_assoc left own right ∙ same)

-- an edge in the place of one between the sides
pub put_between : (left own right part all : List ℕ) (at before edge : ℕ) → left ++ (own ++ right) ≡ all → before ≡ length left → before ≤ at → at < before + length own
    → part ≡ slice_set own (at - before) edge → left ++ (part ++ right) ≡ insert (remove all at) at edge
put_between left own right part all at before edge same many following within is =
    rw (is, sym same)
    (ap (λ (rest : List ℕ). left ++ rest) (sym (set-append_left own right (at - before) edge (omega arith))) ∙ sym (set-append_right left (own ++ right) before at edge (sym many) following)
    ∙ written (left ++ (own ++ right)) at edge (omega (arith, length-append left (own ++ right), length-append own right)))

-- an edge in the place of one on the right
pub put_right : (left own right part all : List ℕ) (at following edge : ℕ) → left ++ (own ++ right) ≡ all → following ≡ length left + length own → following ≤ at → at < length all
    → part ≡ insert (remove right (at - following)) (at - following) edge → left ++ (own ++ part) ≡ insert (remove all at) at edge
put_right left own right part all at following edge same many within inside is =
    let front : length (left ++ own) ≡ following = omega (arith, length-append left own) in
    rw (is, sym same)
    (sym (append_assoc left own _) ∙ sym (insert-append_right (left ++ own) (remove right (at - following)) following at edge front within)
    ∙ ap (λ (list : List ℕ). insert list at edge) (sym (remove-append_right (left ++ own) right following at front within) ∙ ap (λ (list : List ℕ). remove list at) (append_assoc left own right)))

-- what is left of a node is as it has to be without the edge at a place, which goes out
pub record IsWithout (left own right all : List ℕ) (size at out : ℕ) : Type 0 where
  pub some : 0 < length own
  pub counted : size ≡ length left + length own + length right
  pub edges : left ++ (own ++ right) ≡ remove all at
  pub found : out ≡ slice_index all at

-- a node with an edge less on the left
pub without_left : (left own right part all : List ℕ) (size at out : ℕ) → left ++ (own ++ right) ≡ all → size ≡ length left + length own + length right → 0 < length own → at < length left
    → part ≡ remove left at → out ≡ slice_index left at → IsWithout part own right all (size - 1) at out
without_left left own right part all size at out same counted some within is goes = record {
  some = some;
  counted = omega (arith, counted, ap length is, length-remove left at within);
  edges = taken_left left own right part all at same within is;
  found = found_left left own right all at out same within goes;
}

-- a node with an edge less on the right
pub without_right : (left own right part all : List ℕ) (size at following out : ℕ) → left ++ (own ++ right) ≡ all → size ≡ length left + length own + length right → 0 < length own
    → following ≡ length left + length own → following ≤ at → at < length all → part ≡ remove right (at - following) → out ≡ slice_index right (at - following) → IsWithout left own part all (size - 1) at out
without_right left own right part all size at following out same counted some many further within is goes =
    let there : at - following < length right = omega (arith, many, further, within, all_counted left own right all same) in
    record {
      some = some;
      counted = omega (arith, counted, ap length is, length-remove right (at - following) there);
      edges = taken_right left own right part all at following same many further is;
      found = found_right left own right all at following out same many further goes;
    }

-- a node whose only edge went out, with the first of those on the right in its place
pub without_own : (left own right new part all : List ℕ) (size at before out : ℕ) → left ++ (own ++ right) ≡ all → size ≡ length left + length own + length right → 0 < length new
    → before ≡ length left → before ≤ at → at < before + length own → length own ≤ 1 → right ≡ new ++ part → out ≡ slice_index own 0 → IsWithout left new part all (size - 1) at out
without_own left own right new part all size at before out same counted some many following within one is goes =
    let first : 0 ≡ at - before = omega arith in
    record {
      some = some;
      counted = omega (arith, counted, ap length is, length-append new part);
      edges = taken_alone left own right (new ++ part) all at before same many following within one is;
      found = found_between left own right all at before out same many following within (goes ∙ ap (slice_index own) first);
    }

-- a node that is put together of its sides is at most one level lower, where one of them is lower
pub lower_both : {left right new_left new_right most spare out_left out_right height : ℕ} {before after : Counted} → DifferByAtMost 1 left right → IsHigher new_left new_right left right most spare before after
    → out_left ≡ new_left → out_right ≡ new_right → IsHeightOfBoth out_left out_right height → max left right ≤ height
lower_both near down left_is right_is both = elim (height_of_both both) [ inl exact ↦ omega (arith, exact, left_is, right_is, down.at_most_one, down.left, down.right) | inr far ↦ omega (arith, far, left_is, right_is, near.first, near.second, down.left, down.right, down.at_most_one, both.not_lower) ]

-- two edges taken out, one after the other, as one stretch of the list
both_cut : (list : List ℕ) (at : ℕ) → take at list ++ drop (suc (suc at)) list ≡ remove (remove list at) at
both_cut [] zero = refl
both_cut [] (suc at) = refl
both_cut (first ∷ []) zero = refl
both_cut (first ∷ next ∷ rest) zero = refl
both_cut (first ∷ rest) (suc at) = ap (λ (back : List ℕ). first ∷ back) (both_cut rest at)

pub both_out : (list : List ℕ) (at : ℕ) → take at list ++ drop (at + 2) list ≡ remove (remove list at) at
both_out list at =
    let two : at + 2 ≡ suc (suc at) = omega arith in
    ap (λ (many : ℕ). take at list ++ drop many list) two ∙ both_cut list at

-- the edge after one that is taken out
next_left : (list : List ℕ) (at : ℕ) → slice_index (remove list at) at ≡ slice_index list (suc at)
next_left [] zero = refl
next_left [] (suc at) = refl
next_left (first ∷ rest) zero = refl
next_left (first ∷ rest) (suc at) = next_left rest at

pub next_out : (list : List ℕ) (at : ℕ) → slice_index (remove list at) at ≡ slice_index list (at + 1)
next_out list at =
    let one : suc at ≡ at + 1 = omega arith in
    next_left list at ∙ ap (slice_index list) one

-- what is left of a node is as it has to be without the edge at a place and the one after it, which go out
pub record IsWithoutTwo (left own right all : List ℕ) (size at one other : ℕ) : Type 0 where
  pub some : 0 < length own
  pub counted : size - 2 ≡ length left + length own + length right
  pub edges : left ++ (own ++ right) ≡ remove (remove all at) at
  pub lower : one ≡ slice_index all at
  pub upper : other ≡ slice_index all (at + 1)
  pub within : at + 1 < length all

-- how many edges are left
two_fewer : (list part : List ℕ) (at : ℕ) → at + 1 < length list → part ≡ remove (remove list at) at → length part + 2 ≡ length list
two_fewer list part at within is =
    let one = length-remove list at (omega arith) in
    omega (arith, one, ap length is, length-remove (remove list at) at (omega (arith, one)))

-- a node with two edges less on the left
pub without_two_left : (left own right part all : List ℕ) (size at lower upper : ℕ) → left ++ (own ++ right) ≡ all → size ≡ length left + length own + length right → 0 < length own → at + 1 < length left
    → part ≡ remove (remove left at) at → lower ≡ slice_index left at → upper ≡ slice_index left (at + 1) → IsWithoutTwo part own right all size at lower upper
without_two_left left own right part all size at lower upper same counted some within is low high = record {
  some = some;
  counted = omega (arith, counted, two_fewer left part at within is);
  edges = taken_left (remove left at) own right part (remove all at) at (taken_left left own right (remove left at) all at same (omega arith) refl) (omega (arith, length-remove left at (omega arith))) is;
  lower = found_left left own right all at lower same (omega arith) low;
  upper = found_left left own right all (at + 1) upper same within high;
  within = omega (arith, all_counted left own right all same);
}

-- a node with two edges less between the sides
pub without_two_between : (left own right part all : List ℕ) (size at before lower upper : ℕ) → left ++ (own ++ right) ≡ all → size ≡ length left + length own + length right → 2 < length own
    → before ≡ length left → before ≤ at → at - before + 1 < length own → part ≡ remove (remove own (at - before)) (at - before) → lower ≡ slice_index own (at - before)
    → upper ≡ slice_index own (at - before + 1) → IsWithoutTwo left part right all size at lower upper
without_two_between left own right part all size at before lower upper same counted some many following within is low high =
    let place : at - before + 1 ≡ at + 1 - before = omega (arith, following) in
    let fewer = two_fewer own part (at - before) within is in
    record {
      some = omega (arith, fewer, some);
      counted = omega (arith, counted, fewer);
      edges = taken_between left (remove own (at - before)) right part (remove all at) at before
          (taken_between left own right (remove own (at - before)) all at before same many following (omega (arith, within, following)) refl) many following
          (omega (arith, within, following, length-remove own (at - before) (omega (arith, within)))) is;
      lower = found_between left own right all at before lower same many following (omega (arith, within, following)) low;
      upper = found_between left own right all (at + 1) before upper same many (omega (arith, following)) (omega (arith, within, following)) (high ∙ ap (slice_index own) place);
      within = omega (arith, all_counted left own right all same, many, within, following);
    }

-- a node with two edges less on the right
pub without_two_right : (left own right part all : List ℕ) (size at following lower upper : ℕ) → left ++ (own ++ right) ≡ all → size ≡ length left + length own + length right → 0 < length own
    → following ≡ length left + length own → following ≤ at → at - following + 1 < length right → part ≡ remove (remove right (at - following)) (at - following)
    → lower ≡ slice_index right (at - following) → upper ≡ slice_index right (at - following + 1) → IsWithoutTwo left own part all size at lower upper
without_two_right left own right part all size at following lower upper same counted some many further within is low high =
    let place : at - following + 1 ≡ at + 1 - following = omega (arith, further) in
    record {
      some = some;
      counted = omega (arith, counted, two_fewer right part (at - following) within is);
      edges = taken_right left own (remove right (at - following)) part (remove all at) at following
          (taken_right left own right (remove right (at - following)) all at following same many further refl) many further is;
      lower = found_right left own right all at following lower same many further low;
      upper = found_right left own right all (at + 1) following upper same many (omega (arith, further)) (high ∙ ap (slice_index right) place);
      within = omega (arith, all_counted left own right all same, many, within, further);
    }
