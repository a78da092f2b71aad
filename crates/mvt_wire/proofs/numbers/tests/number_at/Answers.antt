use Rattle.std.proofs.Common.{◌≡◌, ℕ, suc, ◌+◌, ◌-◌, List, Option, Some, None, slice_get, sym, ◌∙◌, ap, subst, arith}
use Rattle.std.proofs.Math.Seq.{take-length}
use Rattle.std.proofs.lemmas.Result.{IfOk-at_ok, IfErr-at_err}
use Rattle.mvt_wire.specs.Numbers.{NumberWalk, NumbersEnd, NumbersLeft, GivesNumber, EndsNumbers}
use Rattle.mvt_wire.specs.declared.cause.WireCause.{WireCause}
use Rattle.mvt_wire.proofs.numbers.tests.number_at.Goals as goal

-- of the numbers that a walk has left, the one at a place is what is wanted
abbrev Nearer : NumberWalk → Option WireCause → ℕ → Option ℕ → Type 0
Nearer walk ending place wanted = (rest : List ℕ) × NumbersLeft walk rest ending × (slice_get rest place ≡ wanted)

-- after a number it is one place nearer
nearer : (old new : NumberWalk) (n : ℕ) (ending : Option WireCause) (place : ℕ) (wanted : Option ℕ) → GivesNumber old new n → Nearer old ending (suc place) wanted → Nearer new ending place wanted
nearer old new n ending place wanted given left =
    let following = given.others left.0 ending left.1 in
    (following.0, following.2, ap (λ (numbers : List ℕ). slice_get numbers (suc place)) (sym following.1) ∙ left.2)

-- or it is that number
here : (old new : NumberWalk) (n : ℕ) (ending : Option WireCause) (wanted : Option ℕ) → GivesNumber old new n → Nearer old ending 0 wanted → Some n ≡ wanted
here old new n ending wanted given left =
    let following = given.others left.0 ending left.1 in
    ap (λ (numbers : List ℕ). slice_get numbers 0) (sym following.1) ∙ left.2

-- where nothing is left there is none
over : (old new : NumberWalk) (last ending : Option WireCause) (place : ℕ) (wanted : Option ℕ) → EndsNumbers old new last → Nearer old ending place wanted → ◌≡◌ {A = Option ℕ} None wanted
over old new last ending place wanted ends left =
    let same = ends.only left.0 ending left.1 in
    ap (λ (numbers : List ℕ). slice_get numbers place) (sym same.0) ∙ left.2

pub passed-init : goal.passed-init
passed-init c = λ numbers ending end.
    let whole = take-length c.args.bytes.now in
    let start : c.args.index - 0 ≡ c.args.index = omega arith in
    let left = (c.new-numbers.ensures numbers ending).1 (subst (λ (b : List ℕ). NumbersEnd b 0 c.args.field_number numbers ending) (sym whole) end) in
    (numbers, left, ap (λ (place : ℕ). slice_get numbers place) start)

pub passed-preserved : goal.passed-preserved
passed-preserved c = λ numbers ending end.
    let place : c.args.index - c.passed.counter ≡ suc (c.args.index - (c.passed.counter + 1)) = omega arith in
    let given = IfOk-at_ok _ c.in-Some-Ok.field-0-is c.in-Some-Ok.ensures.number in
    let left = subst (λ (p : ℕ). Nearer c.passed.numbers ending p (slice_get numbers c.args.index)) place (c.passed.invariant numbers ending end) in
    nearer _ _ _ ending _ _ given left

pub returns-in-Some-Err : goal.returns-in-Some-Err
returns-in-Some-Err c = λ numbers ending end.
    over _ _ _ ending _ _ (IfErr-at_err _ c.in-Some-Err.field-0-is c.in-Some-Err.ensures.fault) (c.passed.invariant numbers ending end)

pub returns-in-None : goal.returns-in-None
returns-in-None c = λ numbers ending end. over _ _ _ ending _ _ c.in-None.ensures.end (c.passed.invariant numbers ending end)

pub returns-in-Some-Ok-next_number : goal.returns-in-Some-Ok-next_number
returns-in-Some-Ok-next_number c = λ numbers ending end.
    let place : c.args.index - c.passed.counter ≡ 0 = omega arith in
    let given = IfOk-at_ok _ c.in-Some-Ok-next_number.field-0-is c.in-Some-Ok-next_number.ensures.number in
    let left = subst (λ (p : ℕ). Nearer c.passed.numbers ending p (slice_get numbers c.args.index)) place (c.passed.invariant numbers ending end) in
    here _ _ _ ending _ given left

pub returns-in-Some-Err-next_number : goal.returns-in-Some-Err-next_number
returns-in-Some-Err-next_number c = λ numbers ending end.
    over _ _ _ ending _ _ (IfErr-at_err _ c.in-Some-Err-next_number.field-0-is c.in-Some-Err-next_number.ensures.fault) (c.passed.invariant numbers ending end)

pub returns-in-None-next_number : goal.returns-in-None-next_number
returns-in-None-next_number c = λ numbers ending end. over _ _ _ ending _ _ c.in-None-next_number.ensures.end (c.passed.invariant numbers ending end)
