use Rattle.std.proofs.Common.{◌≢◌, refl, sym, ◌∙◌, ap, arith}
use Rattle.mvt_wire.proofs.NothingFound.{IfNone-any}
use Rattle.mvt_fault.specs.Place.{place_of}
use Rattle.mvt_fault.specs.declared.command.CommandCode.TheVariants.{OtherCommand}
use Rattle.mvt_fault.specs.declared.fault.Fault.TheVariants.{Command}
use Rattle.mvt_fault.proofs.Places.{ComesFirst-reflexive}
use Rattle.mvt_tile.specs.FreeFaults.{of_least}
use Rattle.mvt_tile.specs.View.{kind_number}
use Rattle.mvt_tile.specs.declared.record.Kind.{Kind}
use Rattle.mvt_tile.specs.declared.record.Kind.TheVariants.{Unknown, Point, LineString, Polygon}
use Rattle.tile_tests.proofs.tile.rules.TypesAreKnownFeatureRule.find_fault.Goals as goal

-- a known kind has another number than 0
known_number : (kind : Kind) → kind ≢ Unknown → kind_number kind ≢ 0
known_number Unknown known = absurd (known refl)
known_number Point known = λ same. absurd (omega arith)
known_number LineString known = λ same. absurd (omega arith)
known_number Polygon known = λ same. absurd (omega arith)

pub returns-in-Unknown-clause-found : goal.returns-in-Unknown-clause-found
returns-in-Unknown-clause-found c =
    rw c.command.ensures (λ it encodes. of_least (record { holds = (sym (c.kind.ensures it encodes) ∙ ap kind_number c.in-Unknown.is, refl); least = λ other broken. rw broken.1 (ComesFirst-reflexive (place_of (Command OtherCommand c.args.layer_index c.args.feature_index 0))) }))

pub returns-in_default : goal.returns-in_default
returns-in_default c = record {
  none = IfNone-any c.args.found.now (λ it encodes fault broken. known_number c.kind.result c.in_default.not-Unknown (c.kind.ensures it encodes ∙ broken.0));
  kept = IfNone-any c.args.found.now (λ it encodes unknown. known_number c.kind.result c.in_default.not-Unknown (c.kind.ensures it encodes ∙ unknown));
  found = rw c.requires tt;
}
