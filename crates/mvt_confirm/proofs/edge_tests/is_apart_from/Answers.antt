use Rattle.std.proofs.Common.{◌≡◌, ℤ, ◌*ℤ◌, FitsSigned, to_z, of_z, true≢false, eq-eqb, not, sym, ap, ◌∙◌}
use Rattle.std.proofs.lemmas.Bool.{ne_eqb}
use Rattle.std.proofs.lemmas.Int.{to_z-of_z}
use mir.Syntax.{Width, w32, w128}
use Rattle.mvt_confirm.proofs.edge_tests.is_apart_from.Goals as goal

-- numbers that fit are the same where their bits are
same_by_bits : (w : Width) (a b : ℤ) → FitsSigned w a → FitsSigned w b → of_z w a ≡ of_z w b → a ≡ b
same_by_bits w a b a_fits b_fits same = sym (to_z-of_z w a a_fits) ∙ ap (to_z w) same ∙ to_z-of_z w b b_fits

-- a coordinate times w, as it was computed
product_is : (product read coordinate w : ℤ) → FitsSigned w32 read → product ≡ to_z w32 (of_z w32 read) *ℤ w → read ≡ coordinate → product ≡ coordinate *ℤ w
product_is product read coordinate w fits is same = is ∙ ap (λ z. z *ℤ w) (to_z-of_z w32 read fits ∙ same)

pub returns-then-x-times_width : goal.returns-then-x-times_width
returns-then-x-times_width c =
    let product = product_is c.times_width.result c.x-2.result c.args.vertex.x c.args.point.now.w (record { sfits = c.x-2.type_inv }) c.times_width.ensures c.x-2.ensures.value in
    (λ holds at. c.if-x-times_width.true (ap (of_z w128) (c.x.ensures.value ∙ at.x ∙ sym product)), λ apart. ap not (ne_eqb _ _ c.if-x-times_width.true))

pub returns-else-x-times_width : goal.returns-else-x-times_width
returns-else-x-times_width c =
    let x_product = product_is c.times_width.result c.x-2.result c.args.vertex.x c.args.point.now.w (record { sfits = c.x-2.type_inv }) c.times_width.ensures c.x-2.ensures.value in
    let x_same = same_by_bits w128 c.x.result c.times_width.result (record { sfits = c.x.type_inv }) (record { sfits = c.times_width.type_inv }) c.if-x-times_width.false in
    let y = c.y.result in
    let product = c.times_width-else-x-times_width.result in
    let y_product = product_is product c.y-else-x-times_width.result c.args.vertex.y c.args.point.now.w (record { sfits = c.y-else-x-times_width.type_inv })
    c.times_width-else-x-times_width.ensures c.y-else-x-times_width.ensures.value in (
      λ other at. true≢false (sym other ∙ ap not (eq-eqb _ _ (ap (of_z w128) (c.y.ensures.value ∙ at.y ∙ sym y_product)))),
      λ apart. ap not (ne_eqb _ _ (λ same. apart (record {
        x = sym c.x.ensures.value ∙ x_same ∙ x_product;
        y = sym c.y.ensures.value ∙ same_by_bits w128 y product (record { sfits = c.y.type_inv }) (record { sfits = c.times_width-else-x-times_width.type_inv }) same ∙ y_product;
      }))),
    )
