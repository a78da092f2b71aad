use Rattle.std.proofs.Common.{◌≡◌, ◌<◌, ◌∙◌, length, inl, sym, arith}
use Rattle.std.proofs.lemmas.Bool.{eqb-false, eqb-true}
use Rattle.std.proofs.lemmas.Option.{slice_get-get_or}
use Rattle.mvt_mender.proofs.FaultPlaces.{have_features, in_turn, is_tile}
use Rattle.mvt_mender.proofs.Lists.{present}
use Rattle.mvt_mender.proofs.MendedTiles.{some_within}
use Rattle.mvt_mender.proofs.Refusals.{none_is_least}
use Rattle.mvt_mender.proofs.mending.mend_places.Goals as goal

pub returns-then-is_empty : goal.returns-then-is_empty
returns-then-is_empty c =
    let none : length c.args.places.now ≡ 0 = eqb-true (length c.args.places.now) 0 (sym c.is_empty.ensures ∙ c.if-is_empty.true) in
    inl (none_is_least c.args.profile c.args.bytes.now c.args.faults.now c.requires.list c.args.places.now c.requires.places _ none
    (slice_get-get_or c.args.faults.now 0 _ (some_within c.args.faults.now c.requires.some)))

pub features_at-requires-clause-tile : goal.features_at-requires-clause-tile
features_at-requires-clause-tile c =
    let some : 0 < length c.args.places.now = omega (arith, eqb-false (length c.args.places.now) 0 (sym c.is_empty.ensures ∙ c.if-is_empty.false)) in
    let first = present c.args.places.now 0 some in
    is_tile c.args.profile c.args.bytes.now c.args.faults.now c.requires.list c.args.places.now c.requires.places first.0 first.1

pub features_at-requires-clause-there : goal.features_at-requires-clause-there
features_at-requires-clause-there c = have_features c.args.profile c.args.bytes.now c.args.faults.now c.requires.list c.args.places.now c.requires.places

pub features_at-requires-clause-in_turn : goal.features_at-requires-clause-in_turn
features_at-requires-clause-in_turn c = in_turn c.args.profile c.args.bytes.now c.args.faults.now c.requires.list c.args.places.now c.requires.places
