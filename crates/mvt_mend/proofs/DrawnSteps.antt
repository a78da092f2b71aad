-- Numbers that draw rings, step by step.
use Rattle.std.proofs.Common.{◌≡◌, ℕ, zero, suc, ◌+◌, ◌≤◌, inl, inr, List, [], ◌∷◌, ◌++◌, length, drop, slice_get, get_or, Some, ℤ, ◌-ℤ◌, refl, sym, ◌∙◌, ap, ap₂, subst, append_assoc, arith}
use Rattle.std.proofs.lemmas.List.{length_push, append-nil, drop_all, drop_more}
use Rattle.mvt_plane.specs.Commands.Figure.{close_path, line_to, move_to, command_integer, cursor, path, paths, steps, zigzag}
use Rattle.mvt_plane.specs.Position.{Position, IsPosition, origin}
use Rattle.mvt_sweep.proofs.Chains.ChainParts.{in_longer}
use Rattle.mvt_mend.specs.Calls.Pen.{AreWithin, IsCommandAt, IsStepAt, AreStepsDrawn, IsRingDrawn}
use Rattle.mvt_mend.specs.Loose.{DrawLoosely}
use Rattle.mvt_mend.specs.declared.loose.pen.Pen.{Pen}

-- a step further
steps_more : (from to : Position) (more : List Position) → steps from (more ++ to ∷ []) ≡ steps from more ++ zigzag (to.x -ℤ (cursor from more).x) ∷ zigzag (to.y -ℤ (cursor from more).y) ∷ []
steps_more from to [] = refl
steps_more from to (next ∷ rest) = ap (λ (ns : List ℕ). zigzag (next.x -ℤ from.x) ∷ zigzag (next.y -ℤ from.y) ∷ ns) (steps_more next to rest)

-- leads there
cursor_more : (from to : Position) (more : List Position) → cursor from (more ++ to ∷ []) ≡ to
cursor_more from to [] = refl
cursor_more from to (next ∷ rest) = cursor_more next to rest

-- one more is within range
within_more : (positions : List Position) (to : Position) → AreWithin positions → IsPosition to → AreWithin (positions ++ to ∷ [])
within_more positions to within there vertex position here = elim (in_longer positions to vertex position here) [
  | inl before ↦ within vertex position before
  | inr last ↦ subst IsPosition last.1 there
]

-- before the first step
pub no_steps : (numbers : List ℕ) (pen : Pen) (before : List Position) → pen.at ≤ length numbers → AreStepsDrawn numbers pen pen 0 before before
no_steps numbers pen before within = record {
  more = [];
  whole = sym (append-nil before);
  as_many = refl;
  within = λ vertex position there. absurd (cc);
  here = refl;
  further = omega arith;
  last = within;
  stands = refl;
}

-- after one more
pub one_more_step : (numbers : List ℕ) (from here next : Pen) (count : ℕ) (before after longer : List Position) → AreStepsDrawn numbers from here count before after
    → IsStepAt numbers here.at here.here next.here → next.at ≡ here.at + 2 → longer ≡ after ++ next.here ∷ [] → AreStepsDrawn numbers from next (count + 1) before longer
one_more_step numbers from here next count before after longer drawn step moved pushed =
    let to = next.here in
    let last = cursor from.here drawn.more in
    let stands : drop here.at numbers ≡ zigzag (to.x -ℤ last.x) ∷ zigzag (to.y -ℤ last.y) ∷ drop next.at numbers =
    subst (λ (place : ℕ). drop here.at numbers ≡ zigzag (to.x -ℤ last.x) ∷ zigzag (to.y -ℤ last.y) ∷ drop place numbers) (sym moved)
    (subst (λ (position : Position). drop here.at numbers ≡ zigzag (to.x -ℤ position.x) ∷ zigzag (to.y -ℤ position.y) ∷ drop (here.at + 2) numbers) drawn.here step.stands) in
    record {
      more = drawn.more ++ to ∷ [];
      whole = pushed ∙ ap (λ (list : List Position). list ++ to ∷ []) drawn.whole ∙ append_assoc before drawn.more (to ∷ []);
      as_many = length_push drawn.more to ∙ ap (λ (many : ℕ). many + 1) drawn.as_many;
      within = within_more drawn.more to drawn.within step.there;
      here = sym (cursor_more from.here to drawn.more);
      further = let further = drawn.further in omega (arith, moved);
      last = let within = step.within in omega (arith, moved);
      stands = drawn.stands ∙ ap (λ (rest : List ℕ). steps from.here drawn.more ++ rest) stands
          ∙ sym (append_assoc (steps from.here drawn.more) (zigzag (to.x -ℤ last.x) ∷ zigzag (to.y -ℤ last.y) ∷ []) (drop next.at numbers))
          ∙ ap (λ (front : List ℕ). front ++ drop next.at numbers) (sym (steps_more from.here to drawn.more));
    }

-- a ring is its first position, further steps, and its end
pub ring_of_steps : (numbers : List ℕ) (pen begun drawn_to ended : Pen) (first : Position) (count : ℕ) (before ring : List Position)
    → before ≡ first ∷ [] → begun ≡ record { at = pen.at + 4; here = first } → ended ≡ record { at = drawn_to.at + 1; here = drawn_to.here }
    → IsCommandAt numbers pen.at move_to 1 → IsStepAt numbers (pen.at + 1) pen.here first → IsCommandAt numbers (pen.at + 3) line_to count
    → AreStepsDrawn numbers begun drawn_to count before ring → IsCommandAt numbers drawn_to.at close_path 1 → IsRingDrawn numbers pen ended ring
ring_of_steps numbers pen begun drawn_to ended first count before ring is_before is_begun is_ended moves step lines drawn closes =
    let whole : ring ≡ first ∷ drawn.more = drawn.whole ∙ ap (λ (list : List Position). list ++ drawn.more) is_before in
    let begun_at : begun.at ≡ pen.at + 4 = ap (λ (it : Pen). it.at) is_begun in
    let begun_here : begun.here ≡ first = ap (λ (it : Pen). it.here) is_begun in
    let ended_at : ended.at ≡ drawn_to.at + 1 = ap (λ (it : Pen). it.at) is_ended in
    let ended_here : ended.here ≡ drawn_to.here = ap (λ (it : Pen). it.here) is_ended in
    let after_move : drop (pen.at + 1) numbers ≡ zigzag (first.x -ℤ pen.here.x) ∷ zigzag (first.y -ℤ pen.here.y) ∷ drop (pen.at + 3) numbers =
    subst (λ (place : ℕ). drop (pen.at + 1) numbers ≡ zigzag (first.x -ℤ pen.here.x) ∷ zigzag (first.y -ℤ pen.here.y) ∷ drop place numbers) (omega arith) step.stands in
    let after_line : drop (pen.at + 3) numbers ≡ command_integer line_to count ∷ drop begun.at numbers =
    subst (λ (place : ℕ). drop (pen.at + 3) numbers ≡ command_integer line_to count ∷ drop place numbers) (omega (arith, begun_at)) lines.stands in
    let steps_on : drop begun.at numbers ≡ steps first drawn.more ++ drop drawn_to.at numbers =
    subst (λ (position : Position). drop begun.at numbers ≡ steps position drawn.more ++ drop drawn_to.at numbers) begun_here drawn.stands in
    let after_close : drop drawn_to.at numbers ≡ command_integer close_path 1 ∷ drop ended.at numbers =
    subst (λ (place : ℕ). drop drawn_to.at numbers ≡ command_integer close_path 1 ∷ drop place numbers) (sym ended_at) closes.stands in
    let following : drop pen.at numbers ≡ command_integer move_to 1 ∷ zigzag (first.x -ℤ pen.here.x) ∷ zigzag (first.y -ℤ pen.here.y) ∷ command_integer line_to count ∷ (steps first drawn.more ++ (command_integer close_path 1 ∷ drop ended.at numbers)) = cc in
    let further = drawn.further in
    let closed = closes.within in
    record {
      some = subst (λ (list : List Position). 1 ≤ length list) (sym whole) (omega arith);
      within = subst AreWithin (sym whole) (within_first first drawn.more step.there drawn.within);
      here = ended_here ∙ drawn.here ∙ ap (λ (position : Position). cursor position drawn.more) begun_here ∙ ap (cursor pen.here) (sym whole);
      further = omega (arith, begun_at, ended_at);
      last = omega (arith, ended_at);
      stands = following ∙ ap (λ (many : ℕ). command_integer move_to 1 ∷ zigzag (first.x -ℤ pen.here.x) ∷ zigzag (first.y -ℤ pen.here.y) ∷ command_integer line_to many ∷ (steps first drawn.more ++ (command_integer close_path 1 ∷ drop ended.at numbers))) (sym drawn.as_many)
          ∙ ap (λ (list : List Position). path pen.here list ++ (command_integer close_path 1 ∷ drop ended.at numbers)) (sym whole);
    }
  where
    -- the first is within range too
    within_first : (first : Position) (more : List Position) → IsPosition first → AreWithin more → AreWithin (first ∷ more)
    within_first first more there within zero position here = subst IsPosition (cc) there
    within_first first more there within (suc vertex) position here = within vertex position here

-- Rings one after another

-- the numbers up to the pen draw these rings
pub record AreDrawn (numbers : List ℕ) (pen : Pen) (parts : List (List Position)) : Type 0 where
  pub last : pen.at ≤ length numbers
  pub spelled : (further : List (List Position)) → drop pen.at numbers ≡ paths (command_integer close_path 1 ∷ []) pen.here further
      → numbers ≡ paths (command_integer close_path 1 ∷ []) origin (parts ++ further)
  pub some : (ring : ℕ) (positions : List Position) → slice_get parts ring ≡ Some positions → (1 ≤ length positions) × AreWithin positions

-- before the first number
pub none_drawn : (numbers : List ℕ) → AreDrawn numbers (record { at = 0; here = origin }) []
none_drawn numbers = record {
  last = omega arith;
  spelled = λ further same. same;
  some = λ ring positions there. absurd (cc);
}

-- one more
pub one_more_ring : (numbers : List ℕ) (from to : Pen) (parts longer : List (List Position)) (ring : List Position) → AreDrawn numbers from parts → IsRingDrawn numbers from to ring
    → longer ≡ parts ++ ring ∷ [] → AreDrawn numbers to longer
one_more_ring numbers from to parts longer ring drawn its is = subst (AreDrawn numbers to) (sym is) (record {
  last = its.last;
  spelled = λ further same.
      let ending : List ℕ = command_integer close_path 1 ∷ [] in
      let here : drop to.at numbers ≡ paths ending (cursor from.here ring) further = same ∙ ap (λ (position : Position). paths ending position further) its.here in
      drawn.spelled (ring ∷ further) (its.stands ∙ ap (λ (rest : List ℕ). path from.here ring ++ (command_integer close_path 1 ∷ rest)) here)
      ∙ ap (λ (all : List (List Position)). paths ending origin all) (sym (append_assoc parts (ring ∷ []) further));
  some = λ number positions there. elim (in_longer parts ring number positions there) [
    | inl before ↦ drawn.some number positions before
    | inr last ↦ subst (λ (list : List Position). (1 ≤ length list) × AreWithin list) last.1 (its.some, its.within)
  ];
})

-- at the end
pub all_drawn : (numbers : List ℕ) (pen : Pen) (parts : List (List Position)) → AreDrawn numbers pen parts → length numbers ≤ pen.at → DrawLoosely numbers parts
all_drawn numbers pen parts drawn ends = record {
  spelled =
      let none : drop pen.at numbers ≡ [] = drop_all pen.at numbers ends in
      drawn.spelled [] none ∙ ap (λ (all : List (List Position)). paths (command_integer close_path 1 ∷ []) origin all) (append-nil parts);
  some = λ ring positions there. (drawn.some ring positions there).0;
  within = λ ring vertex position is. (drawn.some ring is.vertices is.there).1 vertex position is.here;
}

-- a step, as it is read
pub step_read : (numbers : List ℕ) (at : ℕ) (from to : Position) (x y : ℤ) → (at + 2) ≤ length numbers → to.x ≡ x → to.y ≡ y → IsPosition to
    → get_or numbers at 0 ≡ zigzag (x -ℤ from.x) → get_or numbers (at + 1) 0 ≡ zigzag (y -ℤ from.y) → IsStepAt numbers at from to
step_read numbers at from to x y within to_x to_y there of_x of_y =
    let next : at + 1 + 1 ≡ at + 2 = omega arith in
    record {
      within = within;
      there = there;
      stands = drop_more numbers at 0 (omega arith) ∙ ap₂ (λ (first : ℕ) (rest : List ℕ). first ∷ rest) (of_x ∙ ap (λ (z : ℤ). zigzag (z -ℤ from.x)) (sym to_x))
          (drop_more numbers (at + 1) 0 (omega arith) ∙ ap₂ (λ (first : ℕ) (rest : List ℕ). first ∷ rest) (of_y ∙ ap (λ (z : ℤ). zigzag (z -ℤ from.y)) (sym to_y)) (ap (λ (place : ℕ). drop place numbers) next));
    }
