use Rattle.mvt_tile.proofs.WireFaults.SchemaRules.{known_number}
use Rattle.mvt_tile.proofs.wire.scan.FieldScan.pass_known.Goals as goal

pub bounds-self-number : goal.bounds-self-number
bounds-self-number c = (known_number c.args.message c.args.field.now.number c.args.rule c.requires.known).1

pub keep-requires : goal.keep-requires
keep-requires c = (known_number c.args.message c.args.field.now.number c.args.rule c.requires.known).1
