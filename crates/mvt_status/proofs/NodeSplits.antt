-- The split of the edges of a tree, which is found in one of its nodes.
use Rattle.std.proofs.Common.{◌≡◌, ℕ, zero, suc, Option, Some, None, refl, ◌+◌, ◌-◌, ◌<◌, ◌≤◌, ◌==◌, Bool, true, false, true≢false, All, inl, inr, List, [], ◌∷◌, ◌++◌, append_assoc, drop, take, length, length-append, get_or, slice_get, slice_index, ap, sym, subst, ◌∙◌, arith}
use Rattle.std.proofs.lemmas.Bool.{cases_lt}
use Rattle.std.proofs.lemmas.Bool.Decides.{nat_tests}
use Rattle.std.proofs.lemmas.Option.{slice_get-get_or}
use Rattle.std.proofs.lemmas.List.{get_or_append_left, get_or-append-add}
use Rattle.mvt_status.specs.Split.{AreBeside, IsSplit, before}
use Rattle.mvt_status.proofs.Removals.{all_counted}

-- Places in a list that is put together of others

past : (left rest : List ℕ) (i : ℕ) → slice_get (left ++ rest) (length left + i) ≡ slice_get rest i
past [] rest i = ap (slice_get rest) (omega arith)
past (edge ∷ left) rest i =
    let at : length (edge ∷ left) + i ≡ suc (length left + i) = omega arith in
    ap (slice_get (edge ∷ left ++ rest)) at ∙ past left rest i

in_front : (left rest : List ℕ) (i : ℕ) → i < length left → slice_get (left ++ rest) i ≡ slice_get left i
in_front [] rest i within = absurd (omega arith)
in_front (edge ∷ left) rest zero within = refl
in_front (edge ∷ left) rest (suc i) within = in_front left rest i (omega arith)

-- an edge of the list in the middle
there : (front own back edges : List ℕ) (i : ℕ) → edges ≡ front ++ (own ++ back) → i < length own → slice_index own i ≡ slice_index edges (length front + i)
there front own back edges i whole within =
    sym (get_or_append_left own back 0 i within) ∙ sym (get_or-append-add front (own ++ back) i 0) ∙ ap (λ (all : List ℕ). slice_index all (length front + i)) (sym whole)

-- and so where it is read
read_there : (front own back edges : List ℕ) (i : ℕ) → edges ≡ front ++ (own ++ back) → i < length own → slice_get edges (length front + i) ≡ Some (slice_index own i)
read_there front own back edges i whole within =
    ap (λ (all : List ℕ). slice_get all (length front + i)) whole ∙ past front (own ++ back) i ∙ in_front own back i within ∙ slice_get-get_or own i 0 within

-- the first edge after the list in the middle
read_after : (front own back edges : List ℕ) → edges ≡ front ++ (own ++ back) → slice_get edges (length front + length own) ≡ slice_get back 0
read_after front own back edges whole =
    let at : length own ≡ length own + 0 = omega arith in
    ap (λ (all : List ℕ). slice_get all (length front + length own)) whole ∙ past front (own ++ back) (length own) ∙ ap (slice_get (own ++ back)) at ∙ past own back 0

-- The split of a list whose first edge is in front of it

take_all : (list : List ℕ) → take (length list) list ≡ list
take_all [] = refl
take_all (first ∷ rest) = ap (λ (back : List ℕ). first ∷ back) (take_all rest)

whole_rest : (first : ℕ) (rest : List ℕ) → take (length (first ∷ rest) - 1) rest ≡ rest
whole_rest first rest =
    let many : length (first ∷ rest) - 1 ≡ length rest = omega arith in
    ap (λ (number : ℕ). take number rest) many ∙ take_all rest

-- the split of what is after the first edge
pub without_first : (answers : ℕ → Bool → Type 0) (edges : List ℕ) → (point : ℕ) × (0 < point) × IsSplit answers edges point
    → (point : ℕ) × IsSplit answers (take (length edges - 1) (drop 1 edges)) point
without_first answers [] (point, some, split) = absurd (omega (arith, split.within, some))
without_first answers (first ∷ rest) (point, some, split) = (
  point - 1,
  subst (λ (list : List ℕ). IsSplit answers list (point - 1)) (sym (whole_rest first rest)) (record {
    within = omega (arith, split.within);
    front = λ i below answer is. split.front (suc i) (omega arith) answer is;
    rest = λ i from below answer is. split.rest (suc i) (omega arith) (omega arith) answer is;
  }),
)

-- and with that the split of all
pub with_first : (answers : ℕ → Bool → Type 0) (edges : List ℕ) (further : ℕ) → (point : ℕ) × (0 < point) × IsSplit answers edges point
    → IsSplit answers (take (length edges - 1) (drop 1 edges)) further → IsSplit answers edges (1 + further)
with_first answers [] further (point, some, split) part = absurd (omega (arith, split.within, some))
with_first answers (first ∷ rest) further (point, some, split) part =
    let following : IsSplit answers rest further = subst (λ (list : List ℕ). IsSplit answers list further) (whole_rest first rest) part in
    record {
      within = omega (arith, following.within);
      front = each following;
      rest = each_other following;
    }
  where
    each : IsSplit answers rest further → (i : ℕ) → i < 1 + further → (answer : Bool) → answers (slice_index (first ∷ rest) i) answer → answer ≡ true
    each following zero below answer is = split.front 0 some answer is
    each following (suc i) below answer is = following.front i (omega arith) answer is

    each_other : IsSplit answers rest further → (i : ℕ) → 1 + further ≤ i → i < length (first ∷ rest) → (answer : Bool) → answers (slice_index (first ∷ rest) i) answer → answer ≡ false
    each_other following zero from below answer is = absurd (omega (arith, from))
    each_other following (suc i) from below answer is = following.rest i (omega arith) (omega arith) answer is

-- A search that goes down

-- the edges of the last node whose first edge is in front of the split, the part of the tree where the split is looked
-- for, how many edges are in front of that part, and the first edge after it
pub record IsSearched (answers : ℕ → Bool → Type 0) (edges own part : List ℕ) (passed : ℕ) (following : Option ℕ) : Type 0 where
  pub front : List ℕ
  pub back : List ℕ
  pub whole : edges ≡ front ++ (own ++ (part ++ back))
  pub none : length own ≡ 0 → length front ≡ 0
  pub passed_is : passed ≡ length front + length own
  pub following_is : following ≡ slice_get back 0
  pub after : (point : ℕ) → IsSplit answers edges point → 0 < length own → length front < point
  pub no_further : (point : ℕ) → IsSplit answers edges point → point ≤ passed + length part

-- whether there is a last node
pub none_there : (own : List ℕ) → (length own == 0) ≡ true → own ≡ []
none_there [] is = refl
none_there (edge ∷ rest) is = absurd (grind (arith, nat_tests, is))

pub some_there : (own : List ℕ) → (length own == 0) ≡ false → 0 < length own
some_there own is = grind (arith, nat_tests, is)

-- at first the part is all
pub searched_all : (answers : ℕ → Bool → Type 0) (edges : List ℕ) → IsSearched answers edges [] edges 0 None
searched_all answers edges = record {
  front = [];
  back = [];
  whole = sym (append_none edges);
  none = λ nothing. refl;
  passed_is = refl;
  following_is = refl;
  after = λ point split some. absurd (omega (arith, some));
  no_further = λ point split. omega (arith, split.within);
}
  where
    append_none : (list : List ℕ) → list ++ [] ≡ list
    append_none [] = refl
    append_none (first ∷ rest) = ap (λ (back : List ℕ). first ∷ back) (append_none rest)

-- the part is that of a node, whose first edge is in front of the split
pub searched_right : (answers : ℕ → Bool → Type 0) (edges own part left middle right : List ℕ) (passed more first : ℕ) (following : Option ℕ) (answer : Bool)
    → IsSearched answers edges own part passed following → left ++ (middle ++ right) ≡ part → 0 < length middle → first ≡ slice_index middle 0
    → answers first answer → answer ≡ true → more ≡ passed + (length left + length middle) → IsSearched answers edges middle right more following
searched_right answers edges own part left middle right passed more first following answer so_far same some is answered holds sum =
    let front : List ℕ = so_far.front ++ (own ++ left) in
    let many : length front ≡ passed + length left = omega (arith, length-append so_far.front (own ++ left), length-append own left, so_far.passed_is) in
    let whole : edges ≡ front ++ (middle ++ (right ++ so_far.back)) = so_far.whole ∙ rw (sym same) (grind (arith, append_assoc)) in
    let here : first ≡ slice_index edges (length front + 0) = is ∙ there front middle (right ++ so_far.back) edges 0 whole some in
    record {
      front = front;
      back = so_far.back;
      whole = whole;
      none = λ nothing. absurd (omega (arith, some, nothing));
      passed_is = omega (arith, sum, many);
      following_is = so_far.following_is;
      after = λ point split more. elim (cases_lt (length front) point) [
        | inl further ↦ further
        | inr no_further ↦ absurd (true≢false (sym holds
            ∙ split.rest (length front + 0) (omega arith) (omega (arith, all_counted front middle (right ++ so_far.back) edges (sym whole), some)) answer (subst (λ (it : ℕ). answers it answer) here answered)))
      ];
      no_further = λ point split. omega (arith, so_far.no_further point split, sum, ap length same, length-append left (middle ++ right), length-append middle right);
    }

-- or whose first edge is after it
pub searched_left : (answers : ℕ → Bool → Type 0) (edges own part left middle right : List ℕ) (passed first : ℕ) (following : Option ℕ) (answer : Bool)
    → IsSearched answers edges own part passed following → left ++ (middle ++ right) ≡ part → 0 < length middle → first ≡ slice_index middle 0
    → answers first answer → answer ≡ false → IsSearched answers edges own left passed (Some first)
searched_left answers edges own part left middle right passed first following answer so_far same some is answered fails =
    let front : List ℕ = so_far.front ++ (own ++ left) in
    let many : length front ≡ passed + length left = omega (arith, length-append so_far.front (own ++ left), length-append own left, so_far.passed_is) in
    let whole : edges ≡ front ++ (middle ++ (right ++ so_far.back)) = so_far.whole ∙ rw (sym same) (grind (arith, append_assoc)) in
    let here : first ≡ slice_index edges (length front + 0) = is ∙ there front middle (right ++ so_far.back) edges 0 whole some in
    record {
      front = so_far.front;
      back = middle ++ (right ++ so_far.back);
      whole = whole ∙ append_assoc so_far.front (own ++ left) _ ∙ ap (λ (rest : List ℕ). so_far.front ++ rest) (append_assoc own left _);
      none = so_far.none;
      passed_is = so_far.passed_is;
      following_is = ap Some is ∙ sym (in_front middle (right ++ so_far.back) 0 some ∙ slice_get-get_or middle 0 0 some);
      after = so_far.after;
      no_further = λ point split. elim (cases_lt (length front) point) [
        | inl further ↦ absurd (true≢false (sym (split.front (length front + 0) (omega arith) answer (subst (λ (it : ℕ). answers it answer) here answered)) ∙ fails))
        | inr no_further ↦ omega (arith, no_further, many)
      ];
    }

-- What the search has found

-- where the part is empty, the split is among the edges of the last node
pub split_among : (answers : ℕ → Bool → Type 0) (edges own part : List ℕ) (passed : ℕ) (following : Option ℕ) → IsSearched answers edges own part passed following → part ≡ []
    → 0 < length own → (point : ℕ) × IsSplit answers edges point → (point : ℕ) × (0 < point) × IsSplit answers own point
split_among answers edges own part passed following found empty some (point, split) =
    let further = found.after point split some in
    let within = found.no_further point split in
    let whole : edges ≡ found.front ++ (own ++ found.back) = found.whole ∙ ap (λ (it : List ℕ). found.front ++ (own ++ (it ++ found.back))) empty in (
      point - length found.front,
      omega (arith, further),
      record {
        within = omega (arith, within, found.passed_is, ap length empty);
        front = λ i below answer is. split.front (length found.front + i) (omega (arith, below)) answer
            (subst (λ (it : ℕ). answers it answer) (there found.front own found.back edges i whole (omega (arith, below, within, found.passed_is, ap length empty))) is);
        rest = λ i from below answer is. split.rest (length found.front + i) (omega (arith, from)) (omega (arith, below, all_counted found.front own found.back edges (sym whole))) answer
            (subst (λ (it : ℕ). answers it answer) (there found.front own found.back edges i whole below) is);
      },
    )

-- with it there is the split of all
pub split_of_all : (answers : ℕ → Bool → Type 0) (edges own part : List ℕ) (passed there_point all_point : ℕ) (following : Option ℕ) → IsSearched answers edges own part passed following → part ≡ []
    → 0 < length own → (point : ℕ) × IsSplit answers edges point → IsSplit answers own there_point → all_point ≡ passed - (length own - there_point) → IsSplit answers edges all_point
split_of_all answers edges own part passed there_point all_point following found empty some (point, split) part_split is =
    let further = found.after point split some in
    let within = found.no_further point split in
    let whole : edges ≡ found.front ++ (own ++ found.back) = found.whole ∙ ap (λ (it : List ℕ). found.front ++ (own ++ (it ++ found.back))) empty in
    let many = all_counted found.front own found.back edges (sym whole) in
    let at : all_point ≡ length found.front + there_point = omega (arith, is, found.passed_is, part_split.within) in
    let moved : (i : ℕ) (answer : Bool) → length found.front ≤ i → i < length found.front + length own → answers (slice_index edges i) answer → answers (slice_index own (i - length found.front)) answer =
    λ i answer from below here. subst (λ (it : ℕ). answers it answer) (ap (slice_index edges) (omega (arith, from)) ∙ sym (there found.front own found.back edges (i - length found.front) whole (omega (arith, from, below)))) here in
    record {
      within = omega (arith, at, many, part_split.within);
      front = λ i below answer here. elim (cases_lt i (length found.front)) [
        | inl earlier ↦ split.front i (omega (arith, earlier, further)) answer here
        | inr later ↦ part_split.front (i - length found.front) (omega (arith, at, below, later)) answer (moved i answer later (omega (arith, at, below, part_split.within)) here)
      ];
      rest = λ i from below answer here. elim (cases_lt i (length found.front + length own)) [
        | inl earlier ↦ part_split.rest (i - length found.front) (omega (arith, at, from)) (omega (arith, at, from, earlier)) answer (moved i answer (omega (arith, at, from)) earlier here)
        | inr later ↦ split.rest i (omega (arith, later, within, found.passed_is, ap length empty)) below answer here
      ];
    }

-- the edges in front of it and after it, both in the node
pub beside_in_node : (answers : ℕ → Bool → Type 0) (edges own part : List ℕ) (passed there_point all_point in_front_of next : ℕ) (following : Option ℕ) → IsSearched answers edges own part passed following → part ≡ []
    → 0 < there_point → there_point < length own → all_point ≡ passed - (length own - there_point) → in_front_of ≡ slice_index own (there_point - 1) → next ≡ slice_index own there_point
    → AreBeside edges (record { point = all_point; front = Some in_front_of; following = Some next })
beside_in_node answers edges own part passed there_point all_point in_front_of next following found empty some within is front_is next_is =
    let whole : edges ≡ found.front ++ (own ++ found.back) = found.whole ∙ ap (λ (it : List ℕ). found.front ++ (own ++ (it ++ found.back))) empty in
    let at : suc (length found.front + (there_point - 1)) ≡ all_point = omega (arith, is, found.passed_is, some, within) in
    let at_next : length found.front + there_point ≡ all_point = omega (arith, is, found.passed_is, within) in
    record {
      front = ap Some front_is ∙ sym (read_there found.front own found.back edges (there_point - 1) whole (omega (arith, within))) ∙ ap (before edges) at;
      following = ap Some next_is ∙ sym (read_there found.front own found.back edges there_point whole within) ∙ ap (slice_get edges) at_next;
    }

-- or the last one of the node and what is after it
pub beside_node : (answers : ℕ → Bool → Type 0) (edges own part : List ℕ) (passed there_point all_point in_front_of : ℕ) (following : Option ℕ) → IsSearched answers edges own part passed following → part ≡ []
    → 0 < there_point → there_point ≡ length own → all_point ≡ passed - (length own - there_point) → in_front_of ≡ slice_index own (there_point - 1)
    → AreBeside edges (record { point = all_point; front = Some in_front_of; following = following })
beside_node answers edges own part passed there_point all_point in_front_of following found empty some last is front_is =
    let whole : edges ≡ found.front ++ (own ++ found.back) = found.whole ∙ ap (λ (it : List ℕ). found.front ++ (own ++ (it ++ found.back))) empty in
    let at : suc (length found.front + (there_point - 1)) ≡ all_point = omega (arith, is, found.passed_is, some, last) in
    let at_next : length found.front + length own ≡ all_point = omega (arith, is, found.passed_is, last) in
    record {
      front = ap Some front_is ∙ sym (read_there found.front own found.back edges (there_point - 1) whole (omega (arith, some, last))) ∙ ap (before edges) at;
      following = found.following_is ∙ sym (read_after found.front own found.back edges whole) ∙ ap (slice_get edges) at_next;
    }

-- where no edge is in front of the split
pub none_in_front : (answers : ℕ → Bool → Type 0) (edges own part : List ℕ) (passed : ℕ) (following : Option ℕ) → IsSearched answers edges own part passed following → part ≡ [] → own ≡ []
    → (point : ℕ) × IsSplit answers edges point → IsSplit answers edges 0
none_in_front answers edges own part passed following found empty nothing (point, split) =
    let same : point ≡ 0 = omega (arith, found.no_further point split, found.passed_is, found.none (ap length nothing), ap length nothing, ap length empty) in
    subst (IsSplit answers edges) same split

-- there is none, and the first edge is after it
pub beside_none : (answers : ℕ → Bool → Type 0) (edges own part : List ℕ) (passed : ℕ) (following : Option ℕ) → IsSearched answers edges own part passed following → part ≡ [] → own ≡ []
    → AreBeside edges (record { point = 0; front = None; following = following })
beside_none answers edges own part passed following found empty nothing =
    let whole : edges ≡ found.front ++ (own ++ found.back) = found.whole ∙ ap (λ (it : List ℕ). found.front ++ (own ++ (it ++ found.back))) empty in
    let at : length found.front + length own ≡ 0 = omega (arith, found.none (ap length nothing), ap length nothing) in
    record {
      front = refl;
      following = found.following_is ∙ sym (read_after found.front own found.back edges whole) ∙ ap (slice_get edges) at;
    }

-- what is true of all edges is true of those of the last node
pub of_own : (P : ℕ → Type 0) (answers : ℕ → Bool → Type 0) (edges own part : List ℕ) (passed : ℕ) (following : Option ℕ) → IsSearched answers edges own part passed following → All P edges → All P own
of_own P answers edges own part passed following found all = λ i default within.
    let here = all (length found.front + i) default (omega (arith, within, all_counted found.front own (part ++ found.back) edges (sym found.whole))) in
    subst P (ap (λ (list : List ℕ). get_or list (length found.front + i) default) found.whole
    ∙ get_or-append-add found.front (own ++ (part ++ found.back)) i default ∙ get_or_append_left own (part ++ found.back) default i within) here

-- and of the first edge of a node
pub of_first : (P : ℕ → Type 0) (answers : ℕ → Bool → Type 0) (edges own part left middle right : List ℕ) (passed first : ℕ) (following : Option ℕ) → IsSearched answers edges own part passed following
    → left ++ (middle ++ right) ≡ part → 0 < length middle → first ≡ slice_index middle 0 → All P edges → P first
of_first P answers edges own part left middle right passed first following so_far same some is all =
    let front : List ℕ = so_far.front ++ (own ++ left) in
    let whole : edges ≡ front ++ (middle ++ (right ++ so_far.back)) = so_far.whole ∙ rw (sym same) (grind (arith, append_assoc)) in
    let here : first ≡ slice_index edges (length front + 0) = is ∙ there front middle (right ++ so_far.back) edges 0 whole some in
    subst P (sym here) (all (length front + 0) 0 (omega (arith, some, all_counted front middle (right ++ so_far.back) edges (sym whole))))
