use Rattle.std.proofs.Common.{◌<◌, ◌^◌, refl, arith}
use Rattle.mvt_wire.specs.Field.{content_of, entry_of}
use Rattle.mvt_wire.specs.declared.schema.Message.TheVariants as messages
use Rattle.mvt_tile.proofs.Reading.ReadingRules.{fits_at, own_type, below_limit}
use Rattle.mvt_tile.proofs.RuleFaults.SummaryReading.{sums_name, sums_key, sums_value, sums_version}
use Rattle.mvt_tile.proofs.rules.summary.add_field.Goals as goal

pub bytes_in-summary-requires : goal.bytes_in-summary-requires
bytes_in-summary-requires c = own_type messages.Layer c.args.field 1 2 c.requires.fits c.in-1.is refl (λ t. refl)

pub number_in-requires : goal.number_in-requires
number_in-requires c = own_type messages.Layer c.args.field 15 0 c.requires.fits c.in-15.is refl (λ t. refl)

pub overflow_cast-summary : goal.overflow_cast-summary
overflow_cast-summary c =
    let below : c.number_in.result < 2 ^ 32 =
    below_limit _ (content_of c.args.field.body) (2 ^ 32) c.number_in.result (fits_at messages.Layer (entry_of c.args.field) 15 _ c.requires.fits c.in-15.is refl) (λ v. refl) c.number_in.ensures in
    omega arith

pub returns-in-1 : goal.returns-in-1
returns-in-1 c = λ entries gives. sums_name entries (entry_of c.args.field) c.args.summary.now gives _ refl refl refl c.in-1.is c.bytes_in-summary.ensures

pub returns-in-3 : goal.returns-in-3
returns-in-3 c = λ entries gives.
    sums_key entries (entry_of c.args.field) c.args.summary.now gives _ refl refl refl refl c.in-3.is
    (own_type messages.Layer c.args.field 3 2 c.requires.fits c.in-3.is refl (λ t. refl))

pub returns-in-4 : goal.returns-in-4
returns-in-4 c = λ entries gives.
    sums_value entries (entry_of c.args.field) c.args.summary.now gives _ refl refl refl refl c.in-4.is
    (own_type messages.Layer c.args.field 4 2 c.requires.fits c.in-4.is refl (λ t. refl))

pub returns-in-15 : goal.returns-in-15
returns-in-15 c = λ entries gives. sums_version entries (entry_of c.args.field) c.args.summary.now gives _ refl refl refl c.in-15.is c.number_in.ensures
