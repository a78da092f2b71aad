-- Edges put into a list that is made of two parts or of three.
use Rattle.std.proofs.Common.{◌≡◌, ℕ, ◌+◌, ◌-◌, ◌<◌, ◌≤◌, Box, Global, Option, List, ◌++◌, length, length-append, take, drop, ap, sym, subst, ◌∙◌, append_assoc, refl, arith}
use Rattle.std.proofs.lemmas.List.{take-append-drop, take-append-le, drop-append-le}
use Rattle.std.proofs.Math.Seq.{take-append-add, drop-append-add}
use Rattle.mvt_status.specs.Calls.Tree.{IsNode, edges_of}

-- put into the first of two parts
pub put_in_front : (front rest part all new : List ℕ) (at : ℕ) → front ++ rest ≡ all → at ≤ length front → part ≡ take at front ++ (new ++ drop at front)
    → part ++ rest ≡ take at all ++ (new ++ drop at all)
put_in_front front rest part all new at same within is =
    let start : take at all ≡ take at front = ap (take at) (sym same) ∙ take-append-le at front rest within in
    let end : drop at all ≡ drop at front ++ rest = ap (drop at) (sym same) ∙ drop-append-le at front rest within in
    rw (is, start, end) (append_assoc (take at front) (new ++ drop at front) rest ∙ ap (λ (following : List ℕ). take at front ++ following) (append_assoc new (drop at front) rest))

-- put into the second of two parts
pub put_in_after : (front rest part all new : List ℕ) (at before : ℕ) → front ++ rest ≡ all → before ≡ length front → before ≤ at
    → part ≡ take (at - before) rest ++ (new ++ drop (at - before) rest) → front ++ part ≡ take at all ++ (new ++ drop at all)
put_in_after front rest part all new at before same many following is =
    let place : length front + (at - before) ≡ at = omega arith in
    let start : take at all ≡ front ++ take (at - before) rest
    = subst (λ (i : ℕ). take i all ≡ front ++ take (at - before) rest) place (ap (take (length front + (at - before))) (sym same) ∙ take-append-add front rest (at - before)) in
    let end : drop at all ≡ drop (at - before) rest
    = subst (λ (i : ℕ). drop i all ≡ drop (at - before) rest) place (ap (drop (length front + (at - before))) (sym same) ∙ drop-append-add front rest (at - before)) in
    rw (is, start, end) (sym (append_assoc front (take (at - before) rest) (new ++ drop (at - before) rest)))

-- put into the second of three parts
pub put_in_middle : (left middle right part all new : List ℕ) (at before : ℕ) → left ++ (middle ++ right) ≡ all → before ≡ length left → before ≤ at → at ≤ before + length middle
    → part ≡ take (at - before) middle ++ (new ++ drop (at - before) middle) → left ++ (part ++ right) ≡ take at all ++ (new ++ drop at all)
put_in_middle left middle right part all new at before same many following within is =
    put_in_after left (middle ++ right) (part ++ right) all new at before same many following
    (put_in_front middle right part (middle ++ right) new (at - before) refl (omega arith) is)

-- put into the third of three parts
pub put_in_last : (left middle right part all new : List ℕ) (at following : ℕ) → left ++ (middle ++ right) ≡ all → following ≡ length left + length middle → following ≤ at
    → part ≡ take (at - following) right ++ (new ++ drop (at - following) right) → left ++ (middle ++ part) ≡ take at all ++ (new ++ drop at all)
put_in_last left middle right part all new at following same many within is =
    sym (append_assoc left middle part)
    ∙ put_in_after (left ++ middle) right part all new at following (append_assoc left middle right ∙ same) (omega (arith, length-append left middle)) within is

-- put into the second of three parts, of which the upper edges go over to the third
pub put_over : (left middle right lower upper part all new : List ℕ) (at before : ℕ) → left ++ (middle ++ right) ≡ all → before ≡ length left → before ≤ at → at ≤ before + length middle
    → lower ++ upper ≡ take (at - before) middle ++ (new ++ drop (at - before) middle) → part ≡ upper ++ right → left ++ (lower ++ part) ≡ take at all ++ (new ++ drop at all)
put_over left middle right lower upper part all new at before same many following within is over =
    ap (λ (rest : List ℕ). left ++ (lower ++ rest)) over ∙ ap (λ (rest : List ℕ). left ++ rest) (sym (append_assoc lower upper right))
    ∙ put_in_middle left middle right (lower ++ upper) all new at before same many following within is

-- how many there are then
pub length_put_in : (list part new : List ℕ) (at : ℕ) → part ≡ take at list ++ (new ++ drop at list) → length part ≡ length list + length new
length_put_in list part new at is =
    omega (arith, ap length is, length-append (take at list) (new ++ drop at list), length-append new (drop at list), length-append (take at list) (drop at list), ap length (take-append-drop at list))

-- the edges of a node and its two sides are all that there are
pub record HasBetween (left own right : List ℕ) (size : ℕ) (all : List ℕ) : Type 0 where
  pub edges : left ++ (own ++ right) ≡ all
  pub some : 0 < length own
  pub counted : size ≡ length all

-- they are in each node
pub has_between : (left right : Option (Box (List ℕ × ℕ) Global)) (own : List ℕ) (size height : ℕ) (all : List ℕ) → edges_of left ++ (own ++ edges_of right) ≡ all → IsNode left own right size height
    → HasBetween (edges_of left) own (edges_of right) size all
has_between left right own size height all same node = record {
  edges = same;
  some = node.some;
  counted = omega (arith, node.counted, ap length same, length-append (edges_of left) (own ++ edges_of right), length-append own (edges_of right));
}

-- and are with others, which were put in
pub record HasPutIn (left own right : List ℕ) (size : ℕ) (all new : List ℕ) (at : ℕ) : Type 0 where
  pub edges : left ++ (own ++ right) ≡ take at all ++ (new ++ drop at all)
  pub some : 0 < length own
  pub counted : size ≡ length left + length own + length right
  pub more : size ≡ length all + length new

-- they are, where so many more are counted
has_put_in : (left own right : List ℕ) (size : ℕ) (all new : List ℕ) (at : ℕ) → left ++ (own ++ right) ≡ take at all ++ (new ++ drop at all) → 0 < length own
    → size ≡ length all + length new → HasPutIn left own right size all new at
has_put_in left own right size all new at is some more = record {
  edges = is;
  some = some;
  counted = omega (arith, more, length_put_in all (left ++ (own ++ right)) new at is, length-append left (own ++ right), length-append own right);
  more = more;
}

-- so where they were put into the left side
pub put_in_left : (left own right part : List ℕ) (size : ℕ) (all new : List ℕ) (at before : ℕ) → HasBetween left own right size all → before ≡ length left → at ≤ before
    → part ≡ take at left ++ (new ++ drop at left) → HasPutIn part own right (size + length new) all new at
put_in_left left own right part size all new at before node many within is =
    has_put_in part own right (size + length new) all new at (put_in_front left (own ++ right) part all new at node.edges (omega arith) is) node.some (omega (arith, node.counted))

-- where they were put between the sides
pub put_in_own : (left own right part : List ℕ) (size : ℕ) (all new : List ℕ) (at before : ℕ) → HasBetween left own right size all → before ≡ length left → before ≤ at → at ≤ before + length own
    → part ≡ take (at - before) own ++ (new ++ drop (at - before) own) → HasPutIn left part right (size + length new) all new at
put_in_own left own right part size all new at before node many following within is =
    has_put_in left part right (size + length new) all new at (put_in_middle left own right part all new at before node.edges many following within is)
    (omega (arith, node.some, length_put_in own part new (at - before) is)) (omega (arith, node.counted))

-- where the upper edges of the node went to the right side
pub put_in_upper : (left own right lower upper part : List ℕ) (size : ℕ) (all new : List ℕ) (at before : ℕ) → HasBetween left own right size all → before ≡ length left → before ≤ at
    → at ≤ before + length own → 0 < length lower → lower ++ upper ≡ take (at - before) own ++ (new ++ drop (at - before) own) → part ≡ upper ++ right
    → HasPutIn left lower part (size + length new) all new at
put_in_upper left own right lower upper part size all new at before node many following within some is over =
    has_put_in left lower part (size + length new) all new at (put_over left own right lower upper part all new at before node.edges many following within is over) some (omega (arith, node.counted))

-- and where they were put into the right side
pub put_in_right : (left own right part : List ℕ) (size : ℕ) (all new : List ℕ) (at following : ℕ) → HasBetween left own right size all → following ≡ length left + length own → following ≤ at
    → part ≡ take (at - following) right ++ (new ++ drop (at - following) right) → HasPutIn left own part (size + length new) all new at
put_in_right left own right part size all new at following node many within is =
    has_put_in left own part (size + length new) all new at (put_in_last left own right part all new at following node.edges many within is) node.some (omega (arith, node.counted))
