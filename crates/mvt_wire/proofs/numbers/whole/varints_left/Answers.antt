use Rattle.std.proofs.Common.{◌≡◌, ℕ, [], None, sym, subst, arith}
use Rattle.mvt_wire.specs.Calls.Numbers.{LeavesVarints}
use Rattle.mvt_wire.specs.Numbers.{NumbersLeft, walk_at, HasNoNumber, IsFaultless}
use Rattle.mvt_wire.proofs.FieldNumbers.FaultlessNumbers.{HasNoNumberFault-at, none_left}
use Rattle.mvt_wire.proofs.numbers.whole.varints_left.Goals as goal

pub next_varints-requires-clause-faultless : goal.next_varints-requires-clause-faultless
next_varints-requires-clause-faultless c =
    let all : c.args.at ≡ c.args.end = omega (arith, c.requires.forward, c.if-at-end.false) in
    HasNoNumberFault-at c.args.bytes.now c.args.end c.args.number (subst (λ (at : ℕ). IsFaultless (walk_at c.args.bytes.now c.args.number at c.args.end)) all c.requires.faultless)

pub returns-then-end-last-clause-none : goal.returns-then-end-last-clause-none
returns-then-end-last-clause-none c = λ _.
    let bytes = c.args.bytes.now in
    let number = c.args.number in
    let end = c.args.end in
    let all : end ≡ c.args.at = omega (arith, c.requires.forward, c.if-at-end.false) in
    let faultless = HasNoNumberFault-at bytes end number (subst (λ (at : ℕ). IsFaultless (walk_at bytes number at end)) (sym all) c.requires.faultless) in
    let none = subst (λ (place : ℕ). HasNoNumber bytes place number) (sym c.if-end-last.true) c.requires.no_more in
    subst (λ (at : ℕ). NumbersLeft (walk_at bytes number at end) [] None) all (none_left bytes end number c.requires.within faultless none)

pub returns-clause-found : goal.returns-clause-found
returns-clause-found c = λ some.
    let all : c.args.end ≡ c.args.at = omega (arith, c.requires.forward, c.if-at-end.false) in
    subst (λ (at : ℕ). LeavesVarints (walk_at c.args.bytes.now c.args.number at c.args.end) c.next_varints.result.0 c.next_varints.result.1) all (c.next_varints.ensures.found some)

pub returns-clause-none : goal.returns-clause-none
returns-clause-none c = λ none.
    let all : c.args.end ≡ c.args.at = omega (arith, c.requires.forward, c.if-at-end.false) in
    subst (λ (at : ℕ). NumbersLeft (walk_at c.args.bytes.now c.args.number at c.args.end) [] None) all (c.next_varints.ensures.none none)
