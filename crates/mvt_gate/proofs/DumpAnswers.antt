-- No input has two answers of `dump`, or two lines.
use Rattle.std.proofs.Common.{◌≡◌, ℕ, List, ◌++◌, codes, inl, inr, refl, sym, ◌∙◌, ap}
use Rattle.mvt_fault.specs.Place.{IsLeast, IsMeetingIn}
use Rattle.mvt_rules.specs.Parts.TrueFaults.{IsWireFault, wire}
use Rattle.mvt_fault.specs.declared.fault.Fault.{Fault}
use Rattle.mvt_fault.specs.declared.profile.Profile.TheVariants.{Polygon}
use Rattle.mvt_rules.proofs.Tiles.Tiles.{one_tile}
use Rattle.mvt_rules.specs.Tile.{TileRecord}
use Rattle.mvt_engine.specs.Dump.{IsDumpAnswer, dump_text}
use Rattle.mvt_engine.specs.FaultLine.{fault_line}
use Rattle.mvt_engine.specs.declared.engine.Outcome.{Outcome}
use Rattle.mvt_engine.specs.declared.engine.Outcome.TheVariants.{Yes, No}
use Rattle.mvt_rules.proofs.Validity.TrueFaults.{no_fault_of_tile}
use Rattle.mvt_gate.proofs.Verdicts.{least_of_wire, one_least}

-- a wire fault is no meeting of edges
no_meeting : (bytes : List ℕ) (fault : Fault) (layer feature polygon : ℕ) → IsWireFault bytes fault → ¬ IsMeetingIn layer feature polygon fault
no_meeting bytes fault layer feature polygon (wire code scope at field holds) meeting = let same = meeting.is in cc

-- bytes have one wire fault of least place
one_least_wire : (bytes : List ℕ) (fault other : Fault) → IsLeast (IsWireFault bytes) fault → IsLeast (IsWireFault bytes) other → fault ≡ other
one_least_wire bytes fault other first second =
    elim (one_least Polygon bytes fault other (least_of_wire Polygon bytes fault first) (least_of_wire Polygon bytes other second)) [
      | inl same ↦ same
      | inr meetings ↦ absurd (no_meeting bytes fault meetings.layer meetings.feature meetings.polygon first.holds meetings.one)
    ]

pub one_answer : (input : List ℕ) (first second : Outcome) (line other : List ℕ) → IsDumpAnswer input first line → IsDumpAnswer input second other → (first ≡ second) × (line ≡ other)
one_answer input Yes Yes line other a b = (refl, a.2 ∙ ap (λ (tile : TileRecord). dump_text tile ++ codes "\n") (one_tile input a.0 b.0 a.1 b.1) ∙ sym b.2)
one_answer input Yes No line other a b = absurd (no_fault_of_tile input a.0 b.0 a.1 b.1.holds)
one_answer input No Yes line other a b = absurd (no_fault_of_tile input b.0 a.0 b.1 a.1.holds)
one_answer input No No line other a b = (refl, a.2 ∙ ap fault_line (one_least_wire input a.0 b.0 a.1 b.1) ∙ sym b.2)
