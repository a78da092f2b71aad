use Rattle.mvt_wire.specs.Field.{entry_of}
use Rattle.mvt_wire.specs.declared.schema.Message.TheVariants as messages
use Rattle.mvt_rules.specs.Parts.Fields.{FitsRule}
use Rattle.mvt_tile.proofs.Reading.ValueReading.{IsValue-from_known, none_known-more, none_known-over}
use Rattle.mvt_wire.proofs.Walking.{IsWalking-front, IsWalking-defectless, IsWalking-over, All-given, IsWalking-more}
use Rattle.mvt_tile.proofs.read.value.read_value.Goals as goal

pub next_whole-requires : goal.next_whole-requires
next_whole-requires c = let there = c.requires.1 in IsWalking-defectless there.entries c.walk.invariant.1 there.whole

pub value_in-requires : goal.value_in-requires
value_in-requires c =
    let there = c.requires.1 in
    All-given there.entries c.walk.invariant.1 there.whole c.in-Some.ensures.field (FitsRule messages.Value) there.keeps.fits

pub returns-in-Some-value_in : goal.returns-in-Some-value_in
returns-in-Some-value_in c =
    let so_far = c.walk.invariant in
    let there = c.requires.1 in
    let found = c.in-Some-value_in.ensures in
    let front = IsWalking-front there.entries so_far.1 there.whole c.in-Some.ensures.field in
    IsValue-from_known there so_far.0 front.0 (entry_of c.in-Some.field) so_far.2 found.known front.1 found.says

pub walk-preserved : goal.walk-preserved
walk-preserved c =
    let so_far = c.walk.invariant in
    (_, IsWalking-more _ _ _ _ _ _ so_far.1 c.in-Some.ensures.field, none_known-more so_far.0 (entry_of c.in-Some.field) so_far.2 c.in_default-value_in.ensures.unknown)

pub unreachable-requires : goal.unreachable-requires
unreachable-requires c =
    let there = c.requires.1 in
    none_known-over there c.walk.invariant.2 (IsWalking-over there.entries c.walk.invariant.1 there.whole c.in_default.ensures.over)
