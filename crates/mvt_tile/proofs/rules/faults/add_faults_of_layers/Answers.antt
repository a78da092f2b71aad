use Rattle.std.proofs.Common.{◌≡◌, ◌∙◌, ◌-◌, ◌++◌, ap, ℕ, List, length, take, drop, arith, length-append}
use Rattle.std.proofs.Math.Seq.{take-append_seam, drop-append_seam}
use Rattle.mvt_fault.specs.declared.fault.Fault.{Fault}
use Rattle.mvt_tile.proofs.rules.faults.add_faults_of_layers.Goals as goal

-- two lists, one after the other, that are turned at the end of the first
turned : (features layers all : List Fault) (end count : ℕ) → all ≡ features ++ layers → end ≡ length all → count ≡ length layers → drop (end - count) all ++ take (end - count) all ≡ layers ++ features
turned features layers all end count is whole size =
    let front : end - count ≡ length features = omega (arith, ap length is, length-append features layers, whole, size) in
    ap (λ (n : ℕ). drop n all ++ take n all) front
    ∙ ap (λ (list : List Fault). drop (length features) list ++ take (length features) list) is
    ∙ ap (λ (list : List Fault). list ++ take (length features) (features ++ layers)) (drop-append_seam features layers)
    ∙ ap (λ (list : List Fault). layers ++ list) (take-append_seam features layers)

pub returns : goal.returns
returns c =
    let layers = c.in_ok-of_layers.of_layers.items in
    let all = c.append.new.self.items in
    let count : c.len-count.result ≡ length layers = omega (arith, c.len-count.ensures, c.in_ok-of_layers.of_layers.ok.0) in (
      layers,
      c.in_ok-of_layers.ensures,
      c.rotate_right.ensures.items ∙ turned c.args.faults.now.items layers all _ c.len-count.result c.in_ok-append.ensures.items c.append.new.self.ok.0 count,
    )
