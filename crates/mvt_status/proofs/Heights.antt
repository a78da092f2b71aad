-- How high a side of a node can be, for as many edges as it has.
use Rattle.std.proofs.Common.{◌≡◌, ℕ, zero, suc, max, ◌+◌, ◌*◌, ◌^◌, ◌<◌, ◌≤◌, inl, inr, Box, Global, List, length, ◌∙◌, ◌-◌, Option, Some, None, IfSome, refl, ap, subst, arith}
use Rattle.std.proofs.lemmas.Bool.{cases_lt}
use Rattle.std.proofs.Math.Nat.{pow-suc}
use Rattle.mvt_plane.specs.Counted.{Counted}
use Rattle.mvt_status.specs.Counts.{AddsAtMost, bits}
use Rattle.mvt_status.specs.Calls.Tree.{DifferByAtMost, IsNode, edges_of, fewest, height_of}
use Rattle.mvt_status.proofs.BinaryDigits.{least_digits, lesser_exponent, no_more_digits, within_digits}

at_least_one : (height : ℕ) → 1 ≤ fewest height
unfolding fewest
at_least_one zero = omega arith
at_least_one (suc zero) = omega arith
at_least_one (suc (suc height)) = omega (arith, at_least_one (suc height))

-- what is a level higher has no fewer edges
no_fewer : (height : ℕ) → fewest height ≤ fewest (suc height)
unfolding fewest
no_fewer zero = omega arith
no_fewer (suc zero) = omega arith
no_fewer (suc (suc height)) = omega (arith, no_fewer (suc height))

-- a node over a side and one that is as high or a level lower
over_both : (low high : ℕ) → low ≤ high → high ≤ low + 1 → fewest (suc high) ≤ fewest low + fewest high
unfolding fewest
over_both low zero no_higher near = omega (arith, at_least_one low)
over_both low (suc high) no_higher near =
    elim (cases_lt low (suc high)) [
      | inl lower ↦
          (let same : high ≡ low = omega arith in
          subst (λ (level : ℕ). fewest (suc high) + fewest high ≤ fewest level + fewest (suc high)) same (omega (arith, no_fewer high)))
      | inr as_high ↦
          (let same : suc high ≡ low = omega arith in
          subst (λ (level : ℕ). fewest (suc high) + fewest high ≤ fewest level + fewest (suc high)) same (omega (arith, no_fewer high)))
    ]

-- a node over two sides of nearly one height has enough edges for its own
pub filled_over_both : (left right height : ℕ) → DifferByAtMost 1 left right → height ≡ suc (max left right) → fewest height ≤ fewest left + fewest right
filled_over_both left right height near measured =
    elim (cases_lt left right) [
      | inl lower ↦
          (let same : suc right ≡ height = omega arith in
          subst (λ (level : ℕ). fewest level ≤ fewest left + fewest right) same (over_both left right (omega arith) near.second))
      | inr as_high ↦
          (let same : suc left ≡ height = omega arith in
          subst (λ (level : ℕ). fewest level ≤ fewest left + fewest right) same (omega (arith, over_both right left as_high near.first)))
    ]

at_most_twice : (height digits : ℕ) → fewest height ≤ 2 ^ digits → height ≤ 2 * digits
unfolding fewest
at_most_twice zero digits filled = omega arith
at_most_twice (suc zero) zero filled = absurd (omega arith)
at_most_twice (suc zero) (suc digits) filled = omega arith
at_most_twice (suc (suc height)) zero filled = absurd (omega (arith, at_least_one height, at_least_one (suc height)))
at_most_twice (suc (suc height)) (suc digits) filled = omega (arith, at_most_twice height digits (omega (arith, no_fewer height, pow-suc 2 digits)))

-- no more levels than twice the binary digits of the number of edges
pub height_by_digits : (height edges : ℕ) → fewest height ≤ suc edges → height ≤ 2 * bits edges
height_by_digits height edges filled = at_most_twice height (bits edges) (omega (arith, within_digits edges))

-- edges that a word can count are on at most 128 levels
pub height_of_a_word : (height edges : ℕ) → fewest height ≤ suc edges → edges < 2 ^ 64 → height ≤ 128
height_of_a_word height edges filled within = at_most_twice height 64 (omega arith)

-- a visit for each level is no more than two for each digit
pub visits_by_digits : (height : ℕ) (edges all : List ℕ) (before after : Counted) → edges ≡ all → AddsAtMost 0 height before after → fewest height ≤ suc (length edges)
    → AddsAtMost 0 (2 * bits (length all)) before after
visits_by_digits height edges all before after same added filled = record {
  tests = added.tests;
  no_fewer_probes = added.no_fewer_probes;
  probes_added = added.probes_added;
  no_fewer_visits = added.no_fewer_visits;
  visits_added = omega (arith, added.visits_added, height_by_digits height (length all) (omega (arith, filled, ap length same)));
}

-- and so with the probes of a search
pub split_by_digits : (height : ℕ) (edges all : List ℕ) (before after : Counted) → edges ≡ all → AddsAtMost (2 * bits (length edges)) height before after → fewest height ≤ suc (length edges)
    → AddsAtMost (2 * bits (length all)) (2 * bits (length all)) before after
split_by_digits height edges all before after same added filled = record {
  tests = added.tests;
  no_fewer_probes = added.no_fewer_probes;
  probes_added = subst (λ (list : List ℕ). after.probes ≤ before.probes + 2 * bits (length list)) same added.probes_added;
  no_fewer_visits = added.no_fewer_visits;
  visits_added = omega (arith, added.visits_added, height_by_digits height (length all) (omega (arith, filled, ap length same)));
}

-- five more than the levels are no more than two for each digit, from nine levels on
five_more : (height digits : ℕ) → fewest (suc (suc (suc (suc (suc (suc (suc (suc (suc height))))))))) ≤ 2 ^ digits → height + 14 ≤ 2 * digits
unfolding fewest
five_more zero digits filled = omega (arith, lesser_exponent 6 digits (omega (arith, filled)))
five_more (suc zero) digits filled = omega (arith, lesser_exponent 7 digits (omega (arith, filled)))
five_more (suc (suc height)) zero filled = absurd (omega (arith, filled, at_least_one (suc (suc (suc (suc (suc (suc (suc (suc (suc height))))))))), at_least_one (suc (suc (suc (suc (suc (suc (suc (suc (suc (suc height))))))))))))
five_more (suc (suc height)) (suc digits) filled =
    omega (arith, five_more height digits (omega (arith, filled, no_fewer (suc (suc (suc (suc (suc (suc (suc (suc (suc height))))))))), pow-suc 2 digits)))

-- a probe for each level, and a search by halves among the edges of one node but its first
pub probes_by_digits : (height own edges : ℕ) → 0 < height → 0 < own → own ≤ 32 → fewest height + own ≤ edges + 2 → height + bits (own - 1) ≤ 2 * bits edges
unfolding fewest
probes_by_digits zero own edges some filled few within = absurd (omega (arith, some))
probes_by_digits (suc zero) own edges some filled few within =
    omega (arith, no_more_digits (own - 1) edges (omega arith), lesser_exponent 0 (bits edges) (omega (arith, within_digits edges)))
probes_by_digits (suc (suc zero)) own edges some filled few within =
    omega (arith, no_more_digits (own - 1) edges (omega arith), lesser_exponent 1 (bits edges) (omega (arith, within_digits edges)))
probes_by_digits (suc (suc (suc zero))) own edges some filled few within =
    omega (arith, no_more_digits (own - 1) edges (omega arith), lesser_exponent 2 (bits edges) (omega (arith, within_digits edges)))
probes_by_digits (suc (suc (suc (suc zero)))) own edges some filled few within =
    elim (cases_lt own 2) [
      | inl one ↦
          (let none : bits (own - 1) ≤ 0 = least_digits (own - 1) 0 (omega arith) in
          omega (arith, none, lesser_exponent 2 (bits edges) (omega (arith, within_digits edges))))
      | inr more ↦ omega (arith, no_more_digits (own - 1) edges (omega arith), lesser_exponent 3 (bits edges) (omega (arith, within_digits edges)))
    ]
probes_by_digits (suc (suc (suc (suc (suc zero))))) own edges some filled few within =
    elim (cases_lt own 9) [
      | inl fewer ↦
          (let digits : bits (own - 1) ≤ 3 = least_digits (own - 1) 3 (omega arith) in
          omega (arith, digits, lesser_exponent 3 (bits edges) (omega (arith, within_digits edges))))
      | inr more ↦
          (let digits : bits (own - 1) ≤ 5 = least_digits (own - 1) 5 (omega arith) in
          omega (arith, digits, lesser_exponent 4 (bits edges) (omega (arith, within_digits edges))))
    ]
probes_by_digits (suc (suc (suc (suc (suc (suc zero)))))) own edges some filled few within =
    elim (cases_lt own 17) [
      | inl fewer ↦
          (let digits : bits (own - 1) ≤ 4 = least_digits (own - 1) 4 (omega arith) in
          omega (arith, digits, lesser_exponent 4 (bits edges) (omega (arith, within_digits edges))))
      | inr more ↦
          (let digits : bits (own - 1) ≤ 5 = least_digits (own - 1) 5 (omega arith) in
          omega (arith, digits, lesser_exponent 5 (bits edges) (omega (arith, within_digits edges))))
    ]
probes_by_digits (suc (suc (suc (suc (suc (suc (suc zero))))))) own edges some filled few within =
    let digits : bits (own - 1) ≤ 5 = least_digits (own - 1) 5 (omega arith) in
    omega (arith, digits, lesser_exponent 5 (bits edges) (omega (arith, within_digits edges)))
probes_by_digits (suc (suc (suc (suc (suc (suc (suc (suc zero)))))))) own edges some filled few within =
    elim (cases_lt own 17) [
      | inl fewer ↦
          (let digits : bits (own - 1) ≤ 4 = least_digits (own - 1) 4 (omega arith) in
          omega (arith, digits, lesser_exponent 5 (bits edges) (omega (arith, within_digits edges))))
      | inr more ↦
          (let digits : bits (own - 1) ≤ 5 = least_digits (own - 1) 5 (omega arith) in
          omega (arith, digits, lesser_exponent 6 (bits edges) (omega (arith, within_digits edges))))
    ]
probes_by_digits (suc (suc (suc (suc (suc (suc (suc (suc (suc height))))))))) own edges some filled few within =
    let digits : bits (own - 1) ≤ 5 = least_digits (own - 1) 5 (omega arith) in
    omega (arith, digits, five_more height (bits edges) (omega (arith, within, within_digits edges)))

-- what a search counts that went down some of the levels, and then by halves among the edges of one node but its first
pub found_in_node : {levels : ℕ} {start before after : Counted} (part height own edges : ℕ) → AddsAtMost levels levels start before → AddsAtMost (bits (own - 1)) 0 before after → levels + part ≤ height
    → 0 < height → 0 < own → own ≤ 32 → fewest height + own ≤ edges + 2 → AddsAtMost (2 * bits edges) height start after
found_in_node part height own edges down among within high some few filled =
    let most = probes_by_digits height own edges high some few filled in
    record {
      tests = among.tests ∙ down.tests;
      no_fewer_probes = omega (arith, down.no_fewer_probes, among.no_fewer_probes);
      probes_added = omega (arith, down.probes_added, among.probes_added, within, most);
      no_fewer_visits = omega (arith, down.no_fewer_visits, among.no_fewer_visits);
      visits_added = omega (arith, down.visits_added, among.visits_added, within);
    }

-- as many visits as more levels allow
pub more_levels : (few many : ℕ) (before after : Counted) → AddsAtMost 0 few before after → few ≤ many → AddsAtMost 0 many before after
more_levels few many before after added within = record {
  tests = added.tests;
  no_fewer_probes = added.no_fewer_probes;
  probes_added = added.probes_added;
  no_fewer_visits = added.no_fewer_visits;
  visits_added = omega (arith, added.visits_added, within);
}

-- the visit of a node, and those below it
pub visits_below : (below : ℕ) {height : ℕ} {start visited after : Counted} → AddsAtMost 0 1 start visited → AddsAtMost 0 below visited after → below + 1 ≤ height → AddsAtMost 0 height start after
visits_below below visit down within = record {
  tests = down.tests ∙ visit.tests;
  no_fewer_probes = omega (arith, visit.no_fewer_probes, down.no_fewer_probes);
  probes_added = omega (arith, visit.probes_added, down.probes_added);
  no_fewer_visits = omega (arith, visit.no_fewer_visits, down.no_fewer_visits);
  visits_added = omega (arith, visit.visits_added, down.visits_added, within);
}

-- a side of no level is none
pub level_of_none : (side : Option (Box (List ℕ × ℕ) Global)) → IfSome side (λ _. 0 < height_of side) → height_of side ≡ 0 → side ≡ None
level_of_none None some none = refl
level_of_none (Some node) some none = absurd (omega (arith, some))

-- a side of some levels has an edge
pub edge_of_levels : (height edges : ℕ) → 0 < height → fewest height ≤ suc edges → 0 < edges
edge_of_levels height zero some filled = absurd (omega (arith, some, at_most_twice height 0 filled))
edge_of_levels height (suc edges) some filled = omega arith

-- a side of no edge is none
pub no_side : (side : Option (Box (List ℕ × ℕ) Global)) → IfSome side (λ _. 0 < height_of side) → fewest (height_of side) ≤ suc (length (edges_of side)) → length (edges_of side) ≡ 0 → side ≡ None
no_side None some filled empty = refl
no_side (Some node) some filled empty = absurd (omega (arith, some, at_most_twice node.value.1 0 (omega (arith, filled, empty))))

-- a node with nothing on either side
pub node_alone : (left right : Option (Box (List ℕ × ℕ) Global)) (own : List ℕ) → left ≡ None → right ≡ None → 0 < length own → IsNode left own right (length own) 1
unfolding fewest
node_alone left right own none nothing some =
    rw (none, nothing) (record {
      some = some;
      counted = omega arith;
      measured = refl;
      near = record {
        first = omega arith;
        second = omega arith;
      };
      filled = omega arith;
    })

-- a node over two sides of nearly one height
pub node_over : (left right : Option (Box (List ℕ × ℕ) Global)) (own : List ℕ) (size height : ℕ) → 0 < length own → size ≡ length (edges_of left) + length own + length (edges_of right)
    → height ≡ suc (max (height_of left) (height_of right)) → DifferByAtMost 1 (height_of left) (height_of right)
    → fewest (height_of left) ≤ suc (length (edges_of left)) → fewest (height_of right) ≤ suc (length (edges_of right)) → IsNode left own right size height
node_over left right own size height some counted measured near left_filled right_filled = record {
  some = some;
  counted = counted;
  measured = measured;
  near = near;
  filled = omega (arith, filled_over_both _ _ _ near measured, left_filled, right_filled, counted);
}

-- a node whose sides are as high as before
pub as_high_as_before : (left right new_left new_right : Option (Box (List ℕ × ℕ) Global)) (own new_own : List ℕ) (size height new_size new_height : ℕ) → IsNode left own right size height
    → 0 < length new_own → new_size ≡ length (edges_of new_left) + length new_own + length (edges_of new_right) → new_height ≡ height
    → height_of new_left ≡ height_of left → height_of new_right ≡ height_of right
    → fewest (height_of new_left) ≤ suc (length (edges_of new_left)) → fewest (height_of new_right) ≤ suc (length (edges_of new_right)) → IsNode new_left new_own new_right new_size new_height
as_high_as_before left right new_left new_right own new_own size height new_size new_height node some counted as_high left_level right_level left_filled right_filled =
    node_over new_left new_right new_own new_size new_height some counted
    (omega (arith, node.measured, as_high, left_level, right_level))
    (record {
      first = omega (arith, node.near.first, left_level, right_level);
      second = omega (arith, node.near.second, left_level, right_level);
    })
    left_filled right_filled
