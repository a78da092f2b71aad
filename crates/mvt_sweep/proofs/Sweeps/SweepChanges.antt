-- One list of edges for the other, where the line goes over a vertex: the edges that end in it go out, and those that
-- begin there come in at the same place.
use Rattle.std.proofs.Common.{◌≡◌, ◌≢◌, ℕ, ◌<◌, ◌⊎◌, inl, inr, List, [], ◌∷◌, ◌++◌, ℤ, pos, ◌<ℤ◌, refl, sym, ap, arith}
use Rattle.mvt_plane.specs.Calls.EdgeOrder.{IsEndOf}
use Rattle.mvt_plane.specs.Geometry.EdgeOrder.{gap, reach}
use Rattle.mvt_plane.specs.Geometry.Measure.{key_of, orientation}
use Rattle.mvt_plane.specs.Position.{Position}
use Rattle.mvt_sweep.specs.Calls.Chain.{Has, EachOne, Head, Chain, Joined, Ordered}
use Rattle.mvt_sweep.specs.Calls.Sweep.{Plan, IsPlan, Tested, After, IsActive, IsPast, IsSwept, IsEvent, IsUnder, IsSlab}
use Rattle.mvt_plane.proofs.Orders.Order.{zs, le_or_lt}
use Rattle.mvt_sweep.proofs.Chains.ChainParts.{each_has, has_left, has_right, has_either, chain_join, ordered_parts, chain_by_ordered, chain_map}
use Rattle.mvt_plane.proofs.Orders.Gaps.{reach_positive, gap_by_orientation}
use Rattle.mvt_sweep.proofs.Sweeps.SweepSides.{rises_from, on_at_end, gap_from_below, gap_to_above, above}
use Rattle.mvt_sweep.proofs.Sweeps.SweepSlabs.{slab_of_all, swept_differ, after_slab, past_vertex}

-- One list for the other

-- those that end in the vertex go out, and those that begin there come in at the same place
pub record IsChange (plan : Plan) (vertex : Position) (gone new : List ℕ) : Type 0 where
  pub goes : (edge : ℕ) → Has gone edge → (plan.segment edge).high ≡ vertex
  pub gone_all : (edge : ℕ) → edge < plan.count → key_of (plan.segment edge).high ≡ key_of vertex → Has gone edge
  pub known : (edge : ℕ) → Has new edge → edge < plan.count
  pub begins : (edge : ℕ) → Has new edge → (plan.segment edge).low ≡ vertex
  pub new_all : (edge : ℕ) → edge < plan.count → key_of (plan.segment edge).low ≡ key_of vertex → Has new edge

-- the edges before the change, and the one of the vertex that the next edge was tested against
pub record IsReady (plan : Plan) (key : ℤ) (vertex : Position) (first second : ℕ) (front gone new back : List ℕ) : Type 0 where
  pub plan_holds : IsPlan plan
  pub event : IsEvent plan key vertex first second
  pub swept : IsSwept plan key (front ++ (gone ++ back))
  pub below : EachOne (IsUnder plan vertex) front
  pub others : EachOne (λ (edge : ℕ). ¬ IsUnder plan vertex edge) back
  pub change : IsChange plan vertex gone new
  pub touch : ℕ
  pub touch_known : touch < plan.count
  pub at_touch : IsEndOf vertex (plan.segment touch)
  pub touched : Head (Tested plan) touch back

-- all in the one list and all in the other are in a relation: so are those that are joined
joined_by_has : (R : ℕ → ℕ → Type 0) (xs ys : List ℕ) → ((one other : ℕ) → Has xs one → Has ys other → R one other) → Joined R xs ys
joined_by_has R [] ys all = tt
joined_by_has R (x ∷ []) [] all = tt
joined_by_has R (x ∷ []) (y ∷ ys) all = all x y (inl refl) (inl refl)
joined_by_has R (x ∷ next ∷ xs) ys all = joined_by_has R (next ∷ xs) ys (λ one other here there. all one other (inr here) there)

module _ (plan : Plan) (key : ℤ) (vertex : Position) (first second : ℕ) (front gone new back : List ℕ) (ready : IsReady plan key vertex first second front gone new back) where
  -- before the change all edges are in order
  slabs : Ordered (IsSlab plan key vertex) (front ++ (gone ++ back))
  slabs = slab_of_all plan key vertex first second (front ++ (gone ++ back)) ready.plan_holds ready.swept ready.event

  -- none occurs twice
  differ : Ordered (λ (one other : ℕ). one ≢ other) (front ++ (gone ++ back))
  differ = swept_differ plan key (front ++ (gone ++ back)) ready.plan_holds ready.swept

  -- those that stay went on before
  before : (edge : ℕ) → Has front edge ⊎ Has back edge → IsActive plan key edge
  before edge (inl here) = ready.swept.active edge (has_left front (gone ++ back) edge here)
  before edge (inr here) = ready.swept.active edge (has_right front (gone ++ back) edge (has_right gone back edge here))

  -- they aren't those that go out
  stays : (edge : ℕ) → Has front edge ⊎ Has back edge → ¬ Has gone edge
  stays edge (inl here) going = (ordered_parts (λ (one other : ℕ). one ≢ other) front (gone ++ back) differ).2 edge edge here (has_left gone back edge going) refl
  stays edge (inr here) going =
      let later = (ordered_parts (λ (one other : ℕ). one ≢ other) front (gone ++ back) differ).1 in
      (ordered_parts (λ (one other : ℕ). one ≢ other) gone back later).2 edge edge going here refl

  -- so they go on after the vertex
  following : (edge : ℕ) → Has front edge ⊎ Has back edge → IsActive plan (key_of vertex) edge
  following edge here =
      let was = before edge here in
      let begun = was.begun in
      let lasts = was.lasts in
      let later = ready.event.later in
      record {
        known = was.known;
        begun = omega (arith, zs);
        lasts = elim (le_or_lt (key_of (plan.segment edge).high) (key_of vertex)) [
          | inl at_most ↦ elim (ready.event.next_high edge was.known) [
            | inl ended ↦ absurd (omega (arith, zs))
            | inr at_least ↦ absurd (stays edge here (ready.change.gone_all edge was.known (omega (arith, zs))))
          ]
          | inr on ↦ on
        ];
      }

  -- and so do the new ones
  new_active : (edge : ℕ) → Has new edge → IsActive plan (key_of vertex) edge
  new_active edge here =
      let known = ready.change.known edge here in
      let begins = ready.change.begins edge here in
      let same = ap key_of begins in
      record { known = known; begun = omega (arith, zs); lasts = rises_from vertex (plan.segment edge) (ready.plan_holds.rising edge known) begins }

  -- all of them go on
  active_after : (edge : ℕ) → Has (front ++ (new ++ back)) edge → IsActive plan (key_of vertex) edge
  active_after edge here = elim (has_either front (new ++ back) edge here) [
    | inl in_front ↦ following edge (inl in_front)
    | inr later ↦ elim (has_either new back edge later) [ inl in_new ↦ new_active edge in_new | inr in_back ↦ following edge (inr in_back) ]
  ]

  -- one that went on before, and goes on later, stays
  kept : (edge : ℕ) → IsActive plan (key_of vertex) edge → Has (front ++ (gone ++ back)) edge → Has (front ++ (new ++ back)) edge
  kept edge active here = elim (has_either front (gone ++ back) edge here) [
    | inl in_front ↦ has_left front (new ++ back) edge in_front
    | inr later ↦ elim (has_either gone back edge later) [
      | inl in_gone ↦
          let ends = ap key_of (ready.change.goes edge in_gone) in
          let lasts = active.lasts in
          absurd (omega (arith, zs))
      | inr in_back ↦ has_right front (new ++ back) edge (has_right new back edge in_back)
    ]
  ]

  -- and no other goes on
  whole_after : (edge : ℕ) → IsActive plan (key_of vertex) edge → Has (front ++ (new ++ back)) edge
  whole_after edge active =
      let begun = active.begun in
      let lasts = active.lasts in
      let later = ready.event.later in
      elim (ready.event.next_low edge active.known) [
        | inl earlier ↦ kept edge active (ready.swept.whole edge (record { known = active.known; begun = earlier; lasts = omega (arith, zs) }))
        | inr at_least ↦ has_right front (new ++ back) edge (has_left new back edge (ready.change.new_all edge active.known (omega (arith, zs))))
      ]

  -- those of the back are above the vertex
  back_above : (edge : ℕ) → Has back edge → orientation (plan.segment edge).low (plan.segment edge).high vertex <ℤ pos 0
  back_above =
      let later = (ordered_parts (IsSlab plan key vertex) front (gone ++ back) slabs).1 in
      above plan key vertex ready.touch back ready.plan_holds ready.event.later ready.touch_known ready.at_touch ready.touched ready.others
      (ordered_parts (IsSlab plan key vertex) gone back later).1 (λ edge here. before edge (inr here)) (λ edge here. following edge (inr here))

  -- so the vertex is on no edge but its own, and none met wrongly
  past_after : IsPast plan (key_of vertex)
  past_after = past_vertex plan key vertex first second (front ++ (gone ++ back)) ready.plan_holds ready.swept ready.event (λ edge here on. elim (has_either front (gone ++ back) edge here) [
    | inl in_front ↦
        let under : IsUnder plan vertex edge = each_has (IsUnder plan vertex) front edge ready.below in_front in
        absurd (omega (arith, zs))
    | inr later ↦ elim (has_either gone back edge later) [
      | inl in_gone ↦ inr (sym (ready.change.goes edge in_gone))
      | inr in_back ↦
          let over = back_above edge in_back in
          absurd (omega (arith, zs))
    ]
  ])

  -- two that stay keep their order
  after_two : (one other : ℕ) → Has front one ⊎ Has back one → Has front other ⊎ Has back other → IsSlab plan key vertex one other → After plan (key_of vertex) one other
  after_two one other here there slab =
      after_slab plan key vertex first second one other ready.plan_holds ready.event (before one here) (before other there) (following one here) (following other there) slab

  -- those of the front are below the new ones
  front_new : (one other : ℕ) → Has front one → Has new other → After plan (key_of vertex) one other
  front_new one other here there =
      let lower = plan.segment one in
      let upper = plan.segment other in
      let on = on_at_end vertex upper (inl (sym (ready.change.begins other there))) in
      inl (gap_from_below (gap lower upper (key_of vertex) (pos 1)) (orientation lower.low lower.high vertex) (orientation upper.low upper.high vertex) (reach lower) (reach upper)
      (gap_by_orientation lower upper vertex) (reach_positive lower (ready.plan_holds.rising one (before one (inl here)).known))
      (reach_positive upper (ready.plan_holds.rising other (ready.change.known other there))) (each_has (IsUnder plan vertex) front one ready.below here) (omega (arith, zs)))

  -- and those below the back
  new_back : (one other : ℕ) → Has new one → Has back other → After plan (key_of vertex) one other
  new_back one other here there =
      let lower = plan.segment one in
      let upper = plan.segment other in
      let on = on_at_end vertex lower (inl (sym (ready.change.begins one here))) in
      inl (gap_to_above (gap lower upper (key_of vertex) (pos 1)) (orientation lower.low lower.high vertex) (orientation upper.low upper.high vertex) (reach lower) (reach upper)
      (gap_by_orientation lower upper vertex) (reach_positive lower (ready.plan_holds.rising one (ready.change.known one here)))
      (reach_positive upper (ready.plan_holds.rising other (before other (inr there)).known)) (omega (arith, zs)) (back_above other there))

  -- those of the front are below all others
  front_rest : (one other : ℕ) → Has front one → Has (new ++ back) other → After plan (key_of vertex) one other
  front_rest one other here there = elim (has_either new back other there) [
    | inl in_new ↦ front_new one other here in_new
    | inr in_back ↦
        let slab = (ordered_parts (IsSlab plan key vertex) front (gone ++ back) slabs).2 one other here (has_right gone back other in_back) in
        after_two one other (inl here) (inr in_back) slab
  ]

  -- so all are in order, where the new ones are
  after_all : Chain (After plan (key_of vertex)) new → Chain (After plan (key_of vertex)) (front ++ (new ++ back))
  after_all among_new =
      let parts = ordered_parts (IsSlab plan key vertex) front (gone ++ back) slabs in
      let in_front : Chain (After plan (key_of vertex)) front =
      chain_map (IsSlab plan key vertex) (After plan (key_of vertex)) front (λ one other here there slab. after_two one other (inl here) (inl there) slab)
      (chain_by_ordered (IsSlab plan key vertex) front parts.0) in
      let in_back : Chain (After plan (key_of vertex)) back =
      chain_map (IsSlab plan key vertex) (After plan (key_of vertex)) back (λ one other here there slab. after_two one other (inr here) (inr there) slab)
      (chain_by_ordered (IsSlab plan key vertex) back (ordered_parts (IsSlab plan key vertex) gone back parts.1).1) in
      let rest = chain_join (After plan (key_of vertex)) new back among_new in_back (joined_by_has (After plan (key_of vertex)) new back new_back) in
      chain_join (After plan (key_of vertex)) front (new ++ back) in_front rest (joined_by_has (After plan (key_of vertex)) front (new ++ back) front_rest)

  -- the line is after the vertex
  pub changed : Chain (Tested plan) (front ++ (new ++ back)) → Chain (After plan (key_of vertex)) new → IsSwept plan (key_of vertex) (front ++ (new ++ back))
  changed tested among_new = record { active = active_after; whole = whole_after; tested = tested; after = after_all among_new; past = past_after }
