-- A walk over the numbers of a geometry, which searches for their command fault.
use Rattle.std.proofs.Common.{◌≡◌, ◌↔◌, ℕ, zero, suc, ◌+◌, ◌<◌, ◌≤◌, ◌==◌, cond, Bool, true, false, true≢false, List, [], ◌∷◌, length, get_or, drop, Option, Some, None, IsTrue, refl, sym, ◌∙◌, ap, subst, arith, add-one}
use Rattle.mvt_confirm.specs.Calls.Commands.{IsNext, Goes, Faults, IsAhead}
use Rattle.mvt_fault.specs.Code.{command_code}
use Rattle.mvt_fault.specs.declared.command.CommandCode.{CommandCode}
use Rattle.mvt_plane.proofs.Spelling.SpellingPrefixes.{passes_spells}
use Rattle.mvt_plane.proofs.Spelling.CommandFaults.{has_command_fault, one_command_fault}
use Rattle.mvt_plane.proofs.Spelling.Readers.{unfinished_there, whole_there}
use Rattle.mvt_plane.specs.Commands.CommandFault.{HasCommandFault}
use Rattle.mvt_plane.specs.Commands.Drawing.{State, start, MayEnd}
use Rattle.mvt_plane.specs.Commands.Figure.{GeometryType, point, line_string, polygon, Figure, rings, Spells}
use Rattle.mvt_plane.specs.FeatureGeometry.{type_number, BreaksCommands, HasRings}
use Rattle.mvt_plane.proofs.Spelling.FigurePaths.{rings_ahead}
use Rattle.mvt_plane.specs.Position.{Position}
use Rattle.mvt_plane.specs.Calls.Reading.{StandsAt}
use Rattle.mvt_wire.specs.Numbers.{NumberWalk, NumbersLeft, GivesNumber, EndsNumbers}
use Rattle.mvt_wire.specs.declared.cause.WireCause.{WireCause}

-- after so many numbers of a list the walk has the others left, and is in this state
pub record IsAmid (geometry_type : GeometryType) (geometry : List ℕ) (walk : NumberWalk) (state : State) (passed : ℕ) : Type 0 where
  pub rest : List ℕ
  pub left : NumbersLeft walk rest None
  pub following : drop passed geometry ≡ rest
  pub there : StandsAt geometry_type geometry passed state

-- of a list, a number and what is after it are left
record IsLeft (geometry : List ℕ) (passed number : ℕ) (rest : List ℕ) : Type 0 where
  within : passed < length geometry
  here : get_or geometry passed 0 ≡ number
  following : drop (suc passed) geometry ≡ rest

left_of : (geometry : List ℕ) (passed number : ℕ) (rest : List ℕ) → drop passed geometry ≡ number ∷ rest → IsLeft geometry passed number rest
left_of [] zero number rest same = absurd (cc)
left_of [] (suc passed) number rest same = absurd (cc)
left_of (n ∷ geometry) zero number rest same = record { within = omega arith; here = cc; following = cc }
left_of (n ∷ geometry) (suc passed) number rest same =
    let more = left_of geometry passed number rest same in
    record { within = omega (arith, more.within); here = more.here; following = more.following }

-- where nothing is left, all are passed
none_left : (geometry : List ℕ) (passed : ℕ) → drop passed geometry ≡ [] → length geometry ≤ passed
none_left [] passed same = omega arith
none_left (n ∷ geometry) zero same = absurd (cc)
none_left (n ∷ geometry) (suc passed) same = omega (arith, none_left geometry passed same)

-- The walk goes on

-- in front of all numbers
pub amid_start : (geometry_type : GeometryType) (geometry : List ℕ) (walk : NumberWalk) (state : State) → NumbersLeft walk geometry None → state ≡ start geometry_type
    → IsAmid geometry_type geometry walk state 0
amid_start geometry_type geometry walk state left is = record { rest = geometry; left = left; following = refl; there = sym is }

-- the number that a step gives is next
pub amid_next : (geometry_type : GeometryType) (geometry : List ℕ) (old new : NumberWalk) (state : State) (passed number : ℕ) → IsAmid geometry_type geometry old state passed
    → GivesNumber old new number → IsNext geometry_type geometry passed state number
amid_next geometry_type geometry old new state passed number amid given =
    let step = given.others amid.rest None amid.left in
    let is = left_of geometry passed number step.0 (amid.following ∙ step.1) in
    record { there = amid.there; within = is.within; here = is.here }

-- and where it is allowed, it is passed
pub amid_more : (geometry_type : GeometryType) (geometry : List ℕ) (old new : NumberWalk) (state to : State) (passed number : ℕ) → IsAmid geometry_type geometry old state passed
    → GivesNumber old new number → Goes geometry_type state number to → IsAmid geometry_type geometry new to (passed + 1)
amid_more geometry_type geometry old new state to passed number amid given goes =
    let step = given.others amid.rest None amid.left in
    let is = left_of geometry passed number step.0 (amid.following ∙ step.1) in
    record {
      rest = step.0;
      left = step.2;
      following = ap (λ (n : ℕ). drop n geometry) (add-one passed) ∙ is.following;
      there = goes geometry passed (amid_next geometry_type geometry old new state passed number amid given);
    }

-- The walk ends

-- the numbers of a geometry end with no fault of the wire
pub amid_whole_message : (geometry_type : GeometryType) (geometry : List ℕ) (old new : NumberWalk) (state : State) (passed : ℕ) (cause : WireCause) → IsAmid geometry_type geometry old state passed
    → EndsNumbers old new (Some cause) → ⊥
amid_whole_message geometry_type geometry old new state passed cause amid ends =
    let same = (ends.only amid.rest None amid.left).1 in
    absurd (cc)

-- where all are passed
all_passed : (geometry_type : GeometryType) (geometry : List ℕ) (old new : NumberWalk) (state : State) (passed : ℕ) → IsAmid geometry_type geometry old state passed
    → EndsNumbers old new None → length geometry ≤ passed
all_passed geometry_type geometry old new state passed amid ends =
    none_left geometry passed (amid.following ∙ (ends.only amid.rest None amid.left).0)

-- a number that isn't allowed is the fault
pub amid_fault : (geometry_type : GeometryType) (geometry : List ℕ) (old new : NumberWalk) (state : State) (passed number : ℕ) (code : CommandCode) → IsAmid geometry_type geometry old state passed
    → GivesNumber old new number → Faults geometry_type state number code → HasCommandFault geometry_type geometry (command_code code) passed
amid_fault geometry_type geometry old new state passed number code amid given faults =
    has_command_fault geometry_type geometry (command_code code) passed (faults geometry passed (amid_next geometry_type geometry old new state passed number amid given))

-- so is an end where the numbers may not end
pub amid_unfinished : (geometry_type : GeometryType) (geometry : List ℕ) (old new : NumberWalk) (state : State) (passed : ℕ) → IsAmid geometry_type geometry old state passed
    → EndsNumbers old new None → ¬ MayEnd state → HasCommandFault geometry_type geometry 403 passed
amid_unfinished geometry_type geometry old new state passed amid ends more =
    has_command_fault geometry_type geometry 403 passed
    (unfinished_there geometry_type (start geometry_type) geometry passed state amid.there (all_passed geometry_type geometry old new state passed amid ends) more)

-- at another end they spell a figure
pub amid_figure : (geometry_type : GeometryType) (geometry : List ℕ) (old new : NumberWalk) (state : State) (passed : ℕ) → IsAmid geometry_type geometry old state passed
    → EndsNumbers old new None → MayEnd state → (figure : Figure) × Spells geometry_type figure geometry
amid_figure geometry_type geometry old new state passed amid ends end =
    let whole = whole_there geometry_type (start geometry_type) geometry passed state amid.there (all_passed geometry_type geometry old new state passed amid ends) end in
    passes_spells geometry_type geometry whole.0 whole.1

-- of polygons that figure is rings
pub amid_rings : (geometry : List ℕ) (old new : NumberWalk) (state : State) (passed : ℕ) → IsAmid polygon geometry old state passed
    → EndsNumbers old new None → MayEnd state → (parts : List (List Position)) × HasRings 3 geometry parts
amid_rings geometry old new state passed amid ends end =
    let figure = amid_figure polygon geometry old new state passed amid ends end in
    let drawn = rings_ahead figure.0 geometry figure.1 in
    (drawn.0, record { typed = refl; spelled = subst (λ (it : Figure). Spells polygon it geometry) drawn.1 figure.1 })

-- with a command fault they spell no rings
pub faulty_rings : (geometry : List ℕ) (code passed : ℕ) → HasCommandFault polygon geometry code passed → ((parts : List (List Position)) × HasRings 3 geometry parts) → ⊥
faulty_rings geometry code passed fault drawn = fault.unspelled (rings drawn.0) drawn.1.spelled

-- so they spell rings where they may end
pub rings_where_ended : (geometry : List ℕ) (old new : NumberWalk) (state : State) (passed : ℕ) (answer : Bool) → IsAmid polygon geometry old state passed
    → EndsNumbers old new None → (IsTrue answer ↔ MayEnd state) → (IsTrue answer ↔ ((parts : List (List Position)) × HasRings 3 geometry parts))
rings_where_ended geometry old new state passed true amid ends decided =
    let drawn = amid_rings geometry old new state passed amid ends (decided.0 refl) in
    (λ yes. drawn, λ is. refl)
rings_where_ended geometry old new state passed false amid ends decided =
    let fault = amid_unfinished polygon geometry old new state passed amid ends (λ end. true≢false (sym (decided.1 end))) in
    (λ yes. absurd (true≢false (sym yes)), λ drawn. absurd (faulty_rings geometry 403 passed fault drawn))

-- Which fault it is

-- a fault at a place is the one that is asked for where the place and the code are
pub is_asked : (geometry_type : GeometryType) (geometry : List ℕ) (before : Option ℕ) (passed index fault code : ℕ) (answer : Bool) → IsAhead before passed index
    → HasCommandFault geometry_type geometry fault passed → (IsTrue answer ↔ ((before ≡ Some 0) × (fault ≡ code))) → (IsTrue answer ↔ HasCommandFault geometry_type geometry code index)
is_asked geometry_type geometry before passed index fault code answer ahead there decided = (
  λ yes.
      let is = decided.0 yes in
      let place = subst (λ (it : Option ℕ). IsAhead it passed index) is.0 ahead in
      let here : passed ≡ index = omega (arith, place) in
      subst (λ (n : ℕ). HasCommandFault geometry_type geometry n index) is.1 (subst (λ (n : ℕ). HasCommandFault geometry_type geometry fault n) here there),
  λ asked.
      let one = one_command_fault geometry_type geometry fault code passed index there asked in
      decided.1 (reached before ahead one.1, one.0),
)
  where
    reached : (it : Option ℕ) → IsAhead it passed index → passed ≡ index → it ≡ Some 0
    reached (Some left) ahead here = ap Some (omega arith)
    reached None ahead here = absurd (omega arith)

-- Geometry types by their numbers

-- the type of a known number
abbrev type_at : ℕ → GeometryType
type_at number = cond (number == 1) point (cond (number == 2) line_string polygon)

-- a type is the one at its number
type_at_number : (geometry_type : GeometryType) → type_at (type_number geometry_type) ≡ geometry_type
type_at_number point = refl
type_at_number line_string = refl
type_at_number polygon = refl

-- the fault of a geometry whose type has this number is one of that type
pub fault_of_type : (geometry_type : GeometryType) (kind : ℕ) (geometry : List ℕ) (code index : ℕ) → kind ≡ type_number geometry_type
    → BreaksCommands kind geometry code index → HasCommandFault geometry_type geometry code index
fault_of_type geometry_type kind geometry code index is breaks =
    let same : breaks.0 ≡ geometry_type = sym (type_at_number breaks.0) ∙ ap type_at (sym breaks.1 ∙ is) ∙ type_at_number geometry_type in
    subst (λ (it : GeometryType). HasCommandFault it geometry code index) same breaks.2
