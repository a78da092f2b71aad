use Rattle.mvt_tile.specs.View.{tile_of}
use Rattle.mvt_tile.proofs.RuleFaults.RuleOrder.{layers_least, layers_none}
use Rattle.mvt_tile.proofs.rules.layers.check_layers.Goals as goal

pub note_layers-requires-clause-passes : goal.note_layers-requires-clause-passes
note_layers-requires-clause-passes c = c.new-rules.ensures.passes (tile_of c.args.tile.now)

pub returns-clause-none : goal.returns-clause-none
returns-clause-none c = layers_none c.note_layers.new.rules (tile_of c.args.tile.now) c.in_ok-note_layers.ensures c.find_fault.new.found c.find_fault.ensures

pub returns-clause-least : goal.returns-clause-least
returns-clause-least c = layers_least c.note_layers.new.rules (tile_of c.args.tile.now) c.in_ok-note_layers.ensures c.find_fault.new.found c.find_fault.ensures
