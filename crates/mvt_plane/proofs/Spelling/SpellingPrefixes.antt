-- Numbers begin the spelling of a figure exactly where they can be drawn, and what is due after them is what is due
-- where they lead.
use Rattle.std.proofs.Common.{◌≡◌, ℕ, List, [], ◌∷◌, ◌++◌, append-nil, Some, refl, sym, ◌∙◌, ap, subst}
use Rattle.std.proofs.lemmas.List.{map-append}
use Rattle.mvt_plane.specs.Commands.Figure.{GeometryType, Figure, type_of, HasSpelling, Spells, move_to, line_to, close_path}
use Rattle.mvt_plane.specs.Commands.CommandFault.{Part, command, x_of_step, y_of_step, Word, word, words, Begins, IsDue}
use Rattle.mvt_plane.proofs.Spelling.CommandWords.{numbers_of, words_spell}
use Rattle.mvt_plane.specs.Commands.Drawing.{State, points_command, path_command, line_command, close_command, step_x, step_y, all_drawn, start, due, id_of, IsAllowed, MayEnd, next, Passes, state_after, Draws}
use Rattle.mvt_plane.proofs.Spelling.Figures.{draws_figure}
use Rattle.mvt_plane.proofs.Spelling.DrawnFigures.{drawn_figure}
use Rattle.mvt_plane.proofs.Spelling.SoundStates.{continuation, complete, sound_state, sound_start}

-- a figure of the geometry type is drawn from its start
pub draws_words : (geometry_type : GeometryType) (figure : Figure) → type_of figure ≡ geometry_type → HasSpelling figure → Draws geometry_type (start geometry_type) (words figure)
draws_words geometry_type figure kind able = subst (λ (g : GeometryType). Draws g (start g) (words figure)) kind (draws_figure figure able)

-- a front of what is drawn passes
passes_front : (geometry_type : GeometryType) (state : State) (all : List Word) (numbers rest : List ℕ) → Draws geometry_type state all → numbers ++ rest ≡ numbers_of all → Passes geometry_type state numbers
passes_front geometry_type state all [] rest draws same = tt
passes_front geometry_type state [] (n ∷ numbers) rest draws same = absurd (cc)
passes_front geometry_type state (it ∷ all) (n ∷ numbers) rest draws same =
    let first : it.number ≡ n = cc in
    let back : numbers ++ rest ≡ numbers_of all = cc in
    subst (λ (m : ℕ). IsAllowed geometry_type state m × Passes geometry_type (next geometry_type state m) numbers) first
    (draws.1, passes_front geometry_type (next geometry_type state it.number) all numbers rest draws.2 back)

-- numbers that begin a spelling pass
pub begins_passes : (geometry_type : GeometryType) (numbers : List ℕ) → Begins geometry_type numbers → Passes geometry_type (start geometry_type) numbers
begins_passes geometry_type numbers begins =
    passes_front geometry_type (start geometry_type) (words begins.figure) numbers begins.rest
    (draws_words geometry_type begins.figure begins.kind begins.able) (begins.spelled ∙ sym (words_spell begins.figure))

-- what is drawn, in two parts
draws_split : (geometry_type : GeometryType) (state : State) (before after : List Word) → Draws geometry_type state (before ++ after) → Passes geometry_type state (numbers_of before) × Draws geometry_type (state_after geometry_type state (numbers_of before)) after
draws_split geometry_type state [] after draws = (tt, draws)
draws_split geometry_type state (it ∷ before) after draws =
    let more = draws_split geometry_type (next geometry_type state it.number) before after draws.2 in
    ((draws.1, more.0), more.1)

-- what is due after numbers is due in the state after them
pub due_there : (geometry_type : GeometryType) (numbers : List ℕ) (part : Part) → IsDue geometry_type numbers part → Passes geometry_type (start geometry_type) numbers × (due (state_after geometry_type (start geometry_type) numbers) ≡ Some part)
due_there geometry_type numbers part that =
    let draws = draws_words geometry_type that.figure that.kind that.able in
    let parts = draws_split geometry_type (start geometry_type) that.before (that.next ∷ that.after) (subst (Draws geometry_type (start geometry_type)) that.split draws) in
    subst (λ (ns : List ℕ). Passes geometry_type (start geometry_type) ns × (due (state_after geometry_type (start geometry_type) ns) ≡ Some part)) that.passed
    (parts.0, parts.1.0 ∙ ap Some that.here)

-- where a number is allowed, something is due
due_allowed : (geometry_type : GeometryType) (state : State) (n : ℕ) → IsAllowed geometry_type state n → (part : Part) × (due state ≡ Some part)
due_allowed geometry_type points_command n allowed = (command move_to, refl)
due_allowed geometry_type (path_command drawn from) n allowed = (command move_to, refl)
due_allowed geometry_type (line_command from) n allowed = (command line_to, refl)
due_allowed geometry_type (close_command from) n allowed = (command close_path, refl)
due_allowed geometry_type (step_x leg from) n allowed = (x_of_step from.x, refl)
due_allowed geometry_type (step_y leg from x) n allowed = (y_of_step (id_of leg) from.y x, refl)
due_allowed geometry_type all_drawn n allowed = absurd allowed

-- the words of numbers that pass
pub record HasWords (geometry_type : GeometryType) (state : State) (numbers : List ℕ) : Type 0 where
  pub before : List Word
  pub numbered : numbers_of before ≡ numbers
  pub draws : (after : List Word) → Draws geometry_type (state_after geometry_type state numbers) after → Draws geometry_type state (before ++ after)

-- their words, one by one
pub words_of_passed : (geometry_type : GeometryType) (state : State) (numbers : List ℕ) → Passes geometry_type state numbers → HasWords geometry_type state numbers
words_of_passed geometry_type state [] passes = record { before = []; numbered = refl; draws = λ after draws. draws }
words_of_passed geometry_type state (n ∷ rest) passes =
    let this = due_allowed geometry_type state n passes.0 in
    let more = words_of_passed geometry_type (next geometry_type state n) rest passes.1 in
    record {
      before = word this.0 n ∷ more.before;
      numbered = ap (λ (ns : List ℕ). n ∷ ns) more.numbered;
      draws = λ after draws. (this.1, passes.0, more.draws after draws);
    }

-- numbers that pass begin a spelling
pub passes_begins : (geometry_type : GeometryType) (numbers : List ℕ) → Passes geometry_type (start geometry_type) numbers → Begins geometry_type numbers
passes_begins geometry_type numbers passes =
    let passed = words_of_passed geometry_type (start geometry_type) numbers passes in
    let end = complete geometry_type (state_after geometry_type (start geometry_type) numbers) (sound_state geometry_type (start geometry_type) numbers (sound_start geometry_type) passes) in
    let drawn = drawn_figure geometry_type (passed.before ++ end.words) (passed.draws end.words end.draws) in
    let number = λ (it : Word). it.number in
    record {
      figure = drawn.figure;
      kind = drawn.kind;
      able = drawn.able;
      rest = numbers_of end.words;
      spelled = ap (λ (ns : List ℕ). ns ++ numbers_of end.words) (sym passed.numbered) ∙ sym (map-append number passed.before end.words) ∙ ap numbers_of drawn.split ∙ words_spell drawn.figure;
    }

-- what is due in the state after them is due after them
pub is_due : (geometry_type : GeometryType) (numbers : List ℕ) (part : Part) → Passes geometry_type (start geometry_type) numbers → due (state_after geometry_type (start geometry_type) numbers) ≡ Some part → IsDue geometry_type numbers part
is_due geometry_type numbers part passes there =
    let passed = words_of_passed geometry_type (start geometry_type) numbers passes in
    let end = continuation geometry_type (state_after geometry_type (start geometry_type) numbers) part (sound_state geometry_type (start geometry_type) numbers (sound_start geometry_type) passes) there in
    let drawn = drawn_figure geometry_type (passed.before ++ end.first ∷ end.rest) (passed.draws (end.first ∷ end.rest) end.draws) in
    let found : due (state_after geometry_type (start geometry_type) numbers) ≡ Some end.first.part = end.draws.0 in
    record {
      figure = drawn.figure;
      kind = drawn.kind;
      able = drawn.able;
      before = passed.before;
      next = end.first;
      after = end.rest;
      split = sym drawn.split;
      passed = passed.numbered;
      here = cc (found, there);
    }

-- numbers that pass, and may end where they lead, spell a figure
pub passes_spells : (geometry_type : GeometryType) (numbers : List ℕ) → Passes geometry_type (start geometry_type) numbers → MayEnd (state_after geometry_type (start geometry_type) numbers) → (figure : Figure) × Spells geometry_type figure numbers
passes_spells geometry_type numbers passes end =
    let passed = words_of_passed geometry_type (start geometry_type) numbers passes in
    let drawn = drawn_figure geometry_type (passed.before ++ []) (passed.draws [] end) in
    let number = λ (it : Word). it.number in
    let all : numbers_of passed.before ++ [] ≡ numbers_of (passed.before ++ []) = sym (map-append number passed.before []) in (
      drawn.figure,
      record {
        kind = drawn.kind;
        able = drawn.able;
        spelled = sym passed.numbered ∙ sym (append-nil (numbers_of passed.before)) ∙ all ∙ ap numbers_of drawn.split ∙ words_spell drawn.figure;
      },
    )
