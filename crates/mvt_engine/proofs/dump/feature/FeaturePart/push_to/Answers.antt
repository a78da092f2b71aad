use Rattle.std.proofs.Common.{List, ℕ, ap}
use Rattle.serde_json.specs.Written.{compact_text}
use Rattle.mvt_fault.specs.Text.{whole_number}
use Rattle.mvt_tile.specs.View.{feature_of}
use Rattle.mvt_engine.specs.Dump.{list_data}
use Rattle.mvt_engine.proofs.DumpTexts.{feature_pushed}
use Rattle.mvt_engine.proofs.dump.feature.FeaturePart.push_to.Goals as goal

-- the text of a list of numbers
numbers_text : List ℕ → List ℕ
numbers_text numbers = compact_text (list_data whole_number numbers)

pub returns : goal.returns
unfolding numbers_text
returns c =
    feature_pushed c.write.result (feature_of c.args.self.now) (numbers_text c.deref.result.now) (numbers_text c.deref-2.result.now) c.number_of-kind.result
    _ _ _ _ _ _ _ _
    (ap numbers_text c.deref.ensures.value) (ap numbers_text c.deref-2.ensures.value) c.number_of-kind.ensures
    c.in_ok-push_str.ensures.bytes c.in_ok-push_list.ensures c.in_ok-push_str-2.ensures.bytes c.in_ok-push_id.ensures c.in_ok-push_str-3.ensures.bytes c.in_ok-push_list-2.ensures
    c.write.ensures.bytes
