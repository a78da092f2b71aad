use Rattle.std.proofs.Common.{refl, arith}
use Rattle.mvt_wire.specs.Field.{content_of, entry_of}
use Rattle.mvt_wire.specs.declared.schema.Message.TheVariants as messages
use Rattle.mvt_tile.proofs.Reading.FeatureParts.{gives_id, gives_tags, gives_kind, gives_geometry, gives_other}
use Rattle.mvt_tile.proofs.Reading.ReadingRules.{fits_at, own_type, below_limit}
use Rattle.mvt_tile.proofs.feature_bytes.FeatureParts.add.Goals as goal

pub number_in-requires : goal.number_in-requires
number_in-requires c = own_type messages.Feature c.args.field.now 1 0 c.requires c.in-1.is refl (λ t. refl)

pub number_in-requires-in-3 : goal.number_in-requires-in-3
number_in-requires-in-3 c = own_type messages.Feature c.args.field.now 3 0 c.requires c.in-3.is refl (λ t. refl)

pub add-requires : goal.add-requires
add-requires c = (fits_at messages.Feature (entry_of c.args.field.now) 2 _ c.requires c.in-2.is refl).own

pub add-requires-in-4 : goal.add-requires-in-4
add-requires-in-4 c = (fits_at messages.Feature (entry_of c.args.field.now) 4 _ c.requires c.in-4.is refl).own

pub kind_of-self-requires : goal.kind_of-self-requires
kind_of-self-requires c =
    below_limit _ (content_of c.args.field.now.body) 4 c.number_in-in-3.result
    (fits_at messages.Feature (entry_of c.args.field.now) 3 _ c.requires c.in-3.is refl) (λ v. refl) c.number_in-in-3.ensures

pub returns-in-1 : goal.returns-in-1
returns-in-1 c = λ message from entries field gives.
    gives_id message from c.args.to entries (entry_of c.args.field.now) field c.args.self.now gives c.number_in.result c.in-1.is c.number_in.ensures

pub returns-in-2 : goal.returns-in-2
returns-in-2 c = λ message from entries field gives.
    let entry = entry_of c.args.field.now in
    gives_tags message from c.args.to entries entry field c.args.self.now gives c.add.new.self c.in-2.is (c.add.ensures message from 2 entry field c.in-2.is refl gives.tags)

pub returns-in-3 : goal.returns-in-3
returns-in-3 c = λ message from entries field gives.
    gives_kind message from c.args.to entries (entry_of c.args.field.now) field c.args.self.now gives c.number_in-in-3.result c.kind_of-self.result c.in-3.is c.number_in-in-3.ensures c.kind_of-self.ensures

pub returns-in-4 : goal.returns-in-4
returns-in-4 c = λ message from entries field gives.
    let entry = entry_of c.args.field.now in
    gives_geometry message from c.args.to entries entry field c.args.self.now gives c.add-in-4.new.self c.in-4.is (c.add-in-4.ensures message from 4 entry field c.in-4.is refl gives.geometry)

pub returns-in_default : goal.returns-in_default
returns-in_default c = λ message from entries field gives.
    gives_other message from c.args.to entries (entry_of c.args.field.now) field c.args.self.now gives (omega arith) (omega arith) (omega arith) (omega arith)
