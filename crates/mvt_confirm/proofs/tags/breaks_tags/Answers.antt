use Rattle.std.proofs.Common.{length}
use Rattle.mvt_rules.specs.Rules.{TagsBreak, OddTags, NoSuchKey, NoSuchValue, KeyAgain}
use Rattle.mvt_confirm.proofs.Features.DrawnFeatures.{nothing_decided, place_decides}
use Rattle.mvt_confirm.proofs.Features.LayerTexts.{keys_beyond, values_beyond}
use Rattle.mvt_confirm.proofs.Features.TagRules.{lack_of_key, lack_of_value}
use Rattle.mvt_confirm.proofs.tags.breaks_tags.Goals as goal

pub returns-in_default : goal.returns-in_default
returns-in_default c = λ tile is.
    nothing_decided c.args.bytes.now c.args.layer c.args.feature tile
    (λ layer_record it. TagsBreak c.args.code (length layer_record.keys) (length layer_record.values) it.tags c.args.index) is c.in_default.ensures.none

pub returns-in-OddLength : goal.returns-in-OddLength
returns-in-OddLength c = λ tile is.
    rw c.in-OddLength.is (place_decides c.args.bytes.now c.args.layer c.args.feature tile c.in-Some.place c.end_odd.result
    (λ layer_record it. OddTags it.tags c.args.index) is c.in-Some.ensures.there (λ layer_record it there. c.end_odd.ensures it))

pub returns-in-NoKey : goal.returns-in-NoKey
returns-in-NoKey c = λ tile is.
    rw c.in-NoKey.is (place_decides c.args.bytes.now c.args.layer c.args.feature tile c.in-Some.place c.is_beyond.result
    (λ layer_record it. NoSuchKey (length layer_record.keys) it.tags c.args.index) is c.in-Some.ensures.there (λ layer_record it there here.
    lack_of_key it.tags c.args.index (length layer_record.keys) c.is_beyond.result c.key_at.result
    (keys_beyond c.args.bytes.now tile c.args.layer layer_record c.key_at.result c.is_beyond.result is there.in_tile c.is_beyond.ensures) (λ key. c.key_at.ensures it key here)))

pub returns-in-NoValue : goal.returns-in-NoValue
returns-in-NoValue c = λ tile is.
    rw c.in-NoValue.is (place_decides c.args.bytes.now c.args.layer c.args.feature tile c.in-Some.place c.is_beyond-in-NoValue.result
    (λ layer_record it. NoSuchValue (length layer_record.values) it.tags c.args.index) is c.in-Some.ensures.there (λ layer_record it there here.
    lack_of_value it.tags c.args.index (length layer_record.values) c.is_beyond-in-NoValue.result c.value_at.result
    (values_beyond c.args.bytes.now tile c.args.layer layer_record c.value_at.result c.is_beyond-in-NoValue.result is there.in_tile c.is_beyond-in-NoValue.ensures)
    (λ value. c.value_at.ensures it value here)))

pub returns-in-Repeated : goal.returns-in-Repeated
returns-in-Repeated c = λ tile is.
    rw c.in-Repeated.is (place_decides c.args.bytes.now c.args.layer c.args.feature tile c.in-Some.place c.repeat_key.result
    (λ layer_record it. KeyAgain it.tags c.args.index) is c.in-Some.ensures.there (λ layer_record it there. c.repeat_key.ensures it))
