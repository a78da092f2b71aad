use Rattle.std.proofs.Common.{◌≡◌, ◌∙◌, ap, sym, arith, to_z, of_z, w64}
use Rattle.std.proofs.lemmas.Int.{ints}
use Rattle.std.specs.Fmt.{signed_decimal}
use Rattle.serde_json.proofs.OnLiterals.{serde_json_on_literals}
use Rattle.mvt_engine.proofs.DumpTexts.{signed_text, truth_text}
use Rattle.mvt_engine.proofs.dump.value.ValuePart.push_to.Goals as goal

pub returns-in-Text : goal.returns-in-Text
unfolding serde_json_on_literals
returns-in-Text c = rw c.in-Text.is c.push_keyed.ensures

pub returns-in-Float : goal.returns-in-Float
unfolding serde_json_on_literals
returns-in-Float c = rw c.in-Float.is c.push_bytes.ensures

pub returns-in-Double : goal.returns-in-Double
unfolding serde_json_on_literals
returns-in-Double c = rw c.in-Double.is c.push_bytes-in-Double.ensures

pub returns-in-Int : goal.returns-in-Int
unfolding serde_json_on_literals
returns-in-Int c =
    let same : to_z w64 (of_z w64 c.in-Int.number) ≡ c.in-Int.number = omega (arith, ints) in
    rw c.in-Int.is (rw (ap signed_decimal same ∙ sym (signed_text c.in-Int.number)) at c.write.ensures.bytes)

pub returns-in-Uint : goal.returns-in-Uint
unfolding serde_json_on_literals
returns-in-Uint c = rw c.in-Uint.is c.write-in-Uint.ensures.bytes

pub returns-in-Sint : goal.returns-in-Sint
unfolding serde_json_on_literals
returns-in-Sint c =
    let same : to_z w64 (of_z w64 c.in-Sint.number) ≡ c.in-Sint.number = omega (arith, ints) in
    rw c.in-Sint.is (rw (ap signed_decimal same ∙ sym (signed_text c.in-Sint.number)) at c.write-in-Sint.ensures.bytes)

pub returns-in-Bool : goal.returns-in-Bool
unfolding serde_json_on_literals
returns-in-Bool c = rw c.in-Bool.is (rw (truth_text c.in-Bool.truth) at c.write-in-Bool.ensures.bytes)
