use Rattle.std.proofs.Common.{◌≡◌, ◌<◌, ◌≤◌, ◌-◌, ◌+◌, ℕ, zero, suc, Bool, cond, ltb, List, length, get_or, sym, ◌∙◌, ap, subst, arith}
use Rattle.std.proofs.lemmas.Bool.{le-ltb, lt-ltb}
use Rattle.std.proofs.lemmas.Option.{same_Some, slice_get-get_or}
use Rattle.mvt_sweep.specs.Calls.Links.{AreLinked, next_in, no_sweep_vertex, previous_in, sweep_vertex_in}
use Rattle.mvt_sweep.specs.declared.sweep.vertex.SweepVertex.{SweepVertex}
use Rattle.mvt_sweep.proofs.sweep.vertices.SweepVertices.previous.Goals as goal

-- as the code reads it
far_read : (list : List SweepVertex) (number : ℕ) (it : SweepVertex) → number < length list → (get_or list number it).far_end ≡ (sweep_vertex_in list number).far_end
far_read list number it within =
    ap (λ (vertex : SweepVertex). vertex.far_end)
    (same_Some (get_or list number it) (sweep_vertex_in list number) (sym (slice_get-get_or list number it within) ∙ slice_get-get_or list number no_sweep_vertex within))

-- the last vertex of the ring, before which this is the first one
far_before : (list : List SweepVertex) (number far : ℕ) → far ≡ (sweep_vertex_in list number).far_end → number < far → far ≡ previous_in list number
far_before list number far is first =
    sym (ap (λ (before : Bool). cond before far (number - 1)) (lt-ltb number far first)) ∙ ap (λ (far : ℕ). cond (ltb number far) far (number - 1)) is

-- the vertex before another one
one_before : (list : List SweepVertex) (number far : ℕ) → far ≡ (sweep_vertex_in list number).far_end → far ≤ number → number - 1 ≡ previous_in list number
one_before list number far is later =
    sym (ap (λ (before : Bool). cond before far (number - 1)) (le-ltb number far later)) ∙ ap (λ (far : ℕ). cond (ltb number far) far (number - 1)) is

-- the first vertex of all has a later one before it
not_first : (list : List SweepVertex) (number far : ℕ) → AreLinked list → number < length list → far ≡ (sweep_vertex_in list number).far_end → far ≤ number → 1 ≤ number
not_first list zero far linked within is later =
    let none : (sweep_vertex_in list 0).far_end ≡ 0 = omega arith in
    let back : previous_in list 0 ≡ 0 = ap (λ (far : ℕ). cond (ltb 0 far) far (0 - 1)) none in
    let on : next_in list 0 ≡ 1 = ap (λ (far : ℕ). cond (ltb far 0) far (0 + 1)) none in
    absurd (omega (arith, on, ap (next_in list) back, linked.back_and_there 0 within))
not_first list (suc number) far linked within is later = omega arith

pub returns-then-number-far_end-clause-value : goal.returns-then-number-far_end-clause-value
returns-then-number-far_end-clause-value c =
    let list = c.args.self.now.list.now in
    far_before list c.args.number _ (far_read list c.args.number c.index-self-number.result c.requires) c.if-number-far_end.true

pub returns-then-number-far_end-clause-within : goal.returns-then-number-far_end-clause-within
returns-then-number-far_end-clause-within c =
    let list = c.args.self.now.list.now in
    let value = far_before list c.args.number _ (far_read list c.args.number c.index-self-number.result c.requires) c.if-number-far_end.true in
    subst (λ (before : ℕ). before < length list) (sym value) (c.args.self.now.linked.previous_known c.args.number c.requires)

pub returns-else-number-far_end-clause-value : goal.returns-else-number-far_end-clause-value
returns-else-number-far_end-clause-value c =
    let list = c.args.self.now.list.now in
    one_before list c.args.number _ (far_read list c.args.number c.index-self-number.result c.requires) c.if-number-far_end.false

pub returns-else-number-far_end-clause-within : goal.returns-else-number-far_end-clause-within
returns-else-number-far_end-clause-within c =
    omega (arith, c.requires)

pub overflow_sub-result : goal.overflow_sub-result
overflow_sub-result c =
    let list = c.args.self.now.list.now in
    not_first list c.args.number _ c.args.self.now.linked c.requires (far_read list c.args.number c.index-self-number.result c.requires) c.if-number-far_end.false

pub bounds-self-number : goal.bounds-self-number
bounds-self-number c =
    c.requires
