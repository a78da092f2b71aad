use Rattle.std.proofs.Common.{◌≡◌, ◌+◌, ◌<◌, ◌≤◌, ◌∷◌, [], ◌++◌, List, length, map, take, ap, sym, ◌∙◌, subst, arith}
use Rattle.std.proofs.lemmas.List.{length_push, map-append, take-append-le, take_more_set}
use Rattle.mvt_plane.specs.Position.{Position}
use Rattle.mvt_draw.proofs.ring_buffer.RingBuffer.draw_ring.Goals as goal
use Rattle.mvt_draw.proofs.ring_buffer.RingBuffer.draw_ring.Goals.{then-self-len+in_ok-room+in_ok-push, else-self-len}
use Rattle.mvt_draw.specs.declared.ring_buffer.RingBuffer.TheInside.{Inside}

pub returns-clause-drawn : goal.returns-clause-drawn
returns-clause-drawn g c = λ numbers given ring rest ahead.
    let inside = c.if-self-len.self-inside in
    let HasRoom : Inside → Type 0 = λ it. (map (λ ring. ring.items) (take it.count it.parts.items) ≡ c.args.self.now) × (it.count < length it.parts.items) in
    let told = c.in_ok-read_path.ensures.drawn tt numbers given ring rest ahead in
    let room : HasRoom inside =
    elim c.if-self-len.branch [
      | then-self-len+in_ok-room+in_ok-push w ↦
          let parts = c.self.inside.parts.items in
          let within : c.self.inside.count ≤ length parts = c.self.invariant in
          let more : length w.push.new.self.items ≡ length parts + 1 = ap (λ it. length it) w.in_ok-push.ensures.items ∙ length_push parts w.in_ok-room.room in
          subst HasRoom (sym w.self-inside-is) (
            ap (λ it. map (λ ring. ring.items) (take c.self.inside.count it)) w.in_ok-push.ensures.items
                ∙ (ap (map (λ ring. ring.items)) (take-append-le c.self.inside.count parts (w.in_ok-room.room ∷ []) within) ∙ c.self.view_is),
            omega arith,
          )
      | else-self-len w ↦ subst HasRoom (sym w.self-inside-is) (c.self.view_is, omega (arith, c.self.invariant, c.len.ensures))
    ] in (
      ap (map (λ ring. ring.items)) (take_more_set inside.parts.items inside.count c.give_back.new.vertices room.1)
          ∙ map-append (λ ring. ring.items) (take inside.count inside.parts.items) (c.give_back.new.vertices ∷ [])
          ∙ (ap (λ (it : List (List Position)). it ++ c.give_back.new.vertices.items ∷ []) room.0
          ∙ ap (λ (it : List Position). c.args.self.now ++ it ∷ []) (c.give_back.ensures ∙ told.0 ∙ ap (λ (it : List Position). it ++ ring) c.clear.ensures.items)),
      told.1,
    )
