use Rattle.std.proofs.Common.{ℤ, SFits, w64, refl, sym, subst, rules}
use Rattle.std.proofs.lemmas.Int.{to_z-of_z}
use Rattle.mvt_wire.specs.Field.{content_of, entry_of}
use Rattle.mvt_rules.specs.Tile.{int, sint, Says, says_text, says_uint, says_sint, says_float, says_double}
use Rattle.mvt_wire.specs.declared.schema.Message.TheVariants as messages
use Rattle.mvt_tile.proofs.Reading.ReadingRules.{fits_at, own_type, varint_from}
use Rattle.mvt_tile.proofs.Reading.ValueReading.{delimited_from, says_by_int, says_by_truth}
use Rattle.mvt_tile.proofs.read.value.value_in.Goals as goal

pub text_in-requires-clause-own : goal.text_in-requires-clause-own
text_in-requires-clause-own c = own_type messages.Value c.args.field 1 2 c.requires c.in-1.is refl (λ t. refl)

pub text_in-requires-clause-utf8 : goal.text_in-requires-clause-utf8
text_in-requires-clause-utf8 c = λ from part stands.
    (fits_at messages.Value (entry_of c.args.field) 1 _ c.requires c.in-1.is refl).text from part refl stands

pub four_bytes_in-requires : goal.four_bytes_in-requires
four_bytes_in-requires c = own_type messages.Value c.args.field 2 5 c.requires c.in-2.is refl (λ t. refl)

pub eight_bytes_in-requires : goal.eight_bytes_in-requires
eight_bytes_in-requires c = own_type messages.Value c.args.field 3 1 c.requires c.in-3.is refl (λ t. refl)

pub int_in-requires : goal.int_in-requires
int_in-requires c = own_type messages.Value c.args.field 4 0 c.requires c.in-4.is refl (λ t. refl)

pub number_in-requires : goal.number_in-requires
number_in-requires c = own_type messages.Value c.args.field 5 0 c.requires c.in-5.is refl (λ t. refl)

pub sint_in-requires : goal.sint_in-requires
sint_in-requires c = own_type messages.Value c.args.field 6 0 c.requires c.in-6.is refl (λ t. refl)

pub truth_in-requires : goal.truth_in-requires
truth_in-requires c = own_type messages.Value c.args.field 7 0 c.requires c.in-7.is refl (λ t. refl)

pub returns-in-1-clause-says : goal.returns-in-1-clause-says
returns-in-1-clause-says c = let place = delimited_from (content_of c.args.field.body) _ c.text_in.ensures in says_text place.0 _ c.in-1.is place.1 refl

pub returns-in-2-clause-says : goal.returns-in-2-clause-says
returns-in-2-clause-says c = says_float c.four_bytes_in.result.now c.in-2.is c.four_bytes_in.ensures refl

pub returns-in-3-clause-says : goal.returns-in-3-clause-says
returns-in-3-clause-says c = says_double c.eight_bytes_in.result.now c.in-3.is c.eight_bytes_in.ensures refl

pub returns-in-4-clause-says : goal.returns-in-4-clause-says
returns-in-4-clause-says c =
    let fits : SFits w64 c.int_in.result = search rules in
    subst (λ (z : ℤ). Says c.args.field.number (content_of c.args.field.body) (int z)) (sym (to_z-of_z w64 c.int_in.result fits))
    (says_by_int c.args.field.number (content_of c.args.field.body) c.int_in.result c.in-4.is c.int_in.ensures)

pub returns-in-5-clause-says : goal.returns-in-5-clause-says
returns-in-5-clause-says c = let place = varint_from (content_of c.args.field.body) _ c.number_in.ensures in says_uint _ place.0 c.in-5.is place.1 refl

pub returns-in-6-clause-says : goal.returns-in-6-clause-says
returns-in-6-clause-says c =
    let fits : SFits w64 c.sint_in.result = search rules in
    let place = varint_from (content_of c.args.field.body) _ c.sint_in.ensures in
    subst (λ (z : ℤ). Says c.args.field.number (content_of c.args.field.body) (sint z)) (sym (to_z-of_z w64 c.sint_in.result fits))
    (says_sint c.sint_in.result place.0 c.in-6.is place.1 refl)

pub returns-in-7-clause-says : goal.returns-in-7-clause-says
returns-in-7-clause-says c = says_by_truth c.args.field.number (content_of c.args.field.body) c.truth_in.result c.in-7.is c.truth_in.ensures
