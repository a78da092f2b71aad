use Rattle.std.proofs.Common.{◌≡◌, ◌-◌, ◌∙◌, ap, refl, arith, List, ℕ, ◌++◌, take, replicate, length}
use Rattle.std.specs.Prelude.{min}
use Rattle.std.specs.Int.{w64, from_be_bytes}
use Rattle.std.proofs.lemmas.List.{take_min, drop-replicate}
use borrow.Rule.Slice.PartMut.{put_mid}
use Rattle.mvt_tile.proofs.rules.names.name_key.Goals as goal

-- eight zeros whose first ones a name was written over
filled : (name copy : List ℕ) (count : ℕ) → count ≡ min (length name) 8 → copy ≡ take count name → put_mid 0 count (replicate 8 0) copy ≡ take 8 name ++ replicate (8 - length name) 0
filled name copy count is same =
    let least : count ≡ min 8 (length name) = omega (arith, is) in
    let front : copy ≡ take 8 name = same ∙ ap (λ (n : ℕ). take n name) least ∙ take_min 8 name in
    let zeros : 8 - count ≡ 8 - length name = omega (arith, is) in
    rw (front, drop-replicate {X = ℕ} count 8 0, zeros) refl

pub returns : goal.returns
returns c = c.from_be_bytes.ensures ∙ ap (from_be_bytes w64) (filled c.args.name.now c.copy_from_slice.new.self c.min-count.result c.min-count.ensures c.copy_from_slice.ensures.after)
