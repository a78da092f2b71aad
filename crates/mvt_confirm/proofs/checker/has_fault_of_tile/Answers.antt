use Rattle.mvt_rules.specs.Rules.{OtherVersion, SameName}
use Rattle.mvt_confirm.proofs.Features.ShownByCases.{of_tile, no_wire, of_polygon, any_of_polygon}
use Rattle.mvt_confirm.proofs.checker.has_fault_of_tile.Goals as goal

pub returns-in-Wire : goal.returns-in-Wire
returns-in-Wire c = λ tile is. rw c.in-Wire.is (no_wire c.args.bytes.now tile is c.args.profile c.in-Wire.code c.in-Wire.scope c.in-Wire.at c.in-Wire.field)

pub returns-in-Version : goal.returns-in-Version
returns-in-Version c = λ tile is.
    rw c.in-Version.is (of_tile c.args.bytes.now tile is c.has_other_version.result (λ its. OtherVersion its c.in-Version.layer) (c.has_other_version.ensures tile is))

pub returns-in-Name : goal.returns-in-Name
returns-in-Name c = λ tile is.
    rw c.in-Name.is (of_tile c.args.bytes.now tile is c.has_same_name.result (λ its. SameName its c.in-Name.first c.in-Name.second) (c.has_same_name.ensures tile is))

pub returns-in-Tag : goal.returns-in-Tag
returns-in-Tag c = λ tile is. rw c.in-Tag.is (c.breaks_tags.ensures tile is)

pub returns-in-Command : goal.returns-in-Command
returns-in-Command c = λ tile is. rw c.in-Command.is (c.has_command_fault.ensures tile is)

pub returns-in-Ring : goal.returns-in-Ring
returns-in-Ring c = λ tile is. rw c.in-Ring.is (c.has_ring_fault.ensures tile is)

pub returns-in-Meeting : goal.returns-in-Meeting
returns-in-Meeting c = λ tile is.
    of_polygon c.args.profile c.args.bytes.now c.has_fault_of_polygon.result c.args.fault.now (any_of_polygon c.args.fault.now c.in-Meeting.is) (c.has_fault_of_polygon.ensures tile is)
