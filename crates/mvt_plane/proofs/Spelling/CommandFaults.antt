-- Numbers of 32 bits spell a figure, or they have exactly one command fault.
use Rattle.std.proofs.Common.{◌≡◌, ℕ, zero, suc, ◌^◌, ◌<◌, ◌≤◌, ◌⊎◌, inl, inr, true, false, List, [], ◌∷◌, length, take, slice_get, Some, None, refl, sym, ◌∙◌, subst, arith, true≢false}
use Rattle.std.proofs.lemmas.Bool.{cases_lt}
use Rattle.std.proofs.lemmas.List.Elements.{All-head, All-tail}
use Rattle.std.proofs.lemmas.Option.{slice_get_within}
use Rattle.std.specs.Prelude.{All}
use Rattle.mvt_plane.specs.Commands.Figure.{GeometryType, Figure, Spells}
use Rattle.mvt_plane.specs.Commands.CommandFault.{Part, Word, words, IsDue, Applies, IsCause, ends, nothing_due, due, HasCommandFault}
use Rattle.mvt_plane.proofs.Spelling.CommandWords.{numbers_of, words_spell}
use Rattle.mvt_plane.specs.Commands.Drawing.{State, path_command, all_drawn, start, MayEnd, next, Passes, state_after, Draws, IsBlamed, not_due, not_allowed, FaultFrom}
use Rattle.mvt_plane.proofs.Spelling.SpellingPrefixes.{draws_words, begins_passes, passes_begins, due_there, is_due, passes_spells}
use Rattle.mvt_plane.proofs.Spelling.AllowedNumbers.{allowed, blamed, verdict}

-- the index is within the numbers
fault_within : (geometry_type : GeometryType) (state : State) (numbers : List ℕ) (code index : ℕ) → FaultFrom geometry_type state numbers code index → index ≤ length numbers
fault_within geometry_type state [] code index fault = omega arith
fault_within geometry_type state (n ∷ rest) code zero fault = omega arith
fault_within geometry_type state (n ∷ rest) code (suc index) fault =
    let within = fault_within geometry_type (next geometry_type state n) rest code index fault.1 in
    omega arith

-- the numbers before it pass
fault_passes : (geometry_type : GeometryType) (state : State) (numbers : List ℕ) (code index : ℕ) → FaultFrom geometry_type state numbers code index → Passes geometry_type state (take index numbers)
fault_passes geometry_type state [] code index fault = rw (fault.2) tt
fault_passes geometry_type state (n ∷ rest) code zero fault = tt
fault_passes geometry_type state (n ∷ rest) code (suc index) fault = (fault.0, fault_passes geometry_type (next geometry_type state n) rest code index fault.1)

-- no longer front passes
fault_longest : (geometry_type : GeometryType) (state : State) (numbers : List ℕ) (code index further : ℕ) → FaultFrom geometry_type state numbers code index → index < further → further ≤ length numbers → Passes geometry_type state (take further numbers) → ⊥
fault_longest geometry_type state (n ∷ rest) code zero (suc further) fault beyond within passes = fault.0 passes.0
fault_longest geometry_type state (n ∷ rest) code (suc index) (suc further) fault beyond within passes =
    fault_longest geometry_type (next geometry_type state n) rest code index further fault.1 (omega arith) (omega arith) passes.1
fault_longest geometry_type state numbers code index further fault beyond within passes = omega arith

-- the numbers aren't drawn to an end
fault_undrawn : (geometry_type : GeometryType) (state : State) (all : List Word) (code index : ℕ) → FaultFrom geometry_type state (numbers_of all) code index → Draws geometry_type state all → ⊥
fault_undrawn geometry_type state [] code index fault draws = fault.0 draws
fault_undrawn geometry_type state (it ∷ rest) code zero fault draws = fault.0 draws.1
fault_undrawn geometry_type state (it ∷ rest) code (suc index) fault draws = fault_undrawn geometry_type (next geometry_type state it.number) rest code index fault.1 draws.2

-- what is wrong at the index
data CauseFrom (geometry_type : GeometryType) (state : State) (numbers : List ℕ) (code index : ℕ) : Type 0 where
  at_end : index ≡ length numbers → code ≡ 403 → CauseFrom geometry_type state numbers code index
  at_number : (n : ℕ) → slice_get numbers index ≡ Some n → IsBlamed (state_after geometry_type state (take index numbers)) n code → CauseFrom geometry_type state numbers code index

-- a fault says what is
cause_from : (geometry_type : GeometryType) (state : State) (numbers : List ℕ) (code index : ℕ) → FaultFrom geometry_type state numbers code index → CauseFrom geometry_type state numbers code index
cause_from geometry_type state [] code index fault = at_end fault.2 fault.1
cause_from geometry_type state (n ∷ rest) code zero fault = at_number n refl fault.1
cause_from geometry_type state (n ∷ rest) code (suc index) fault = elim (cause_from geometry_type (next geometry_type state n) rest code index fault.1) [
  | at_end end code_is ↦ at_end (omega arith) code_is
  | at_number m there blame ↦ at_number m there blame
]

-- a fault from the start is a command fault
pub has_command_fault : (geometry_type : GeometryType) (numbers : List ℕ) (code index : ℕ) → FaultFrom geometry_type (start geometry_type) numbers code index → HasCommandFault geometry_type numbers code index
has_command_fault geometry_type numbers code index fault = record {
  unspelled = λ figure spells. fault_undrawn geometry_type (start geometry_type) (words figure) code index
      (subst (λ (ns : List ℕ). FaultFrom geometry_type (start geometry_type) ns code index) (spells.spelled ∙ sym (words_spell figure)) fault)
      (draws_words geometry_type figure spells.kind spells.able);
  within = fault_within geometry_type (start geometry_type) numbers code index fault;
  begins = passes_begins geometry_type (take index numbers) passes;
  longest = λ further beyond inside begins. fault_longest geometry_type (start geometry_type) numbers code index further fault beyond inside (begins_passes geometry_type (take further numbers) begins);
  cause = elim (cause_from geometry_type (start geometry_type) numbers code index fault) [
    | at_end end code_is ↦ ends end code_is
    | at_number n there blame ↦ elim blame [
      | not_due none code_is ↦ nothing_due (slice_get_within numbers index n there) (λ part that. never (sym none ∙ (due_there geometry_type (take index numbers) part that).1)) code_is
      | not_allowed part that first ↦ due part n there (is_due geometry_type (take index numbers) part passes that) first.applies first.first
    ]
  ];
}
  where
    passes : Passes geometry_type (start geometry_type) (take index numbers)
    passes = fault_passes geometry_type (start geometry_type) numbers code index fault

    never : {part : Part} → None ≡ Some part → ⊥
    never same = cc

-- all numbers are allowed and may end, or there is a fault
data Outcome (geometry_type : GeometryType) (state : State) (numbers : List ℕ) : Type 0 where
  drawn : Passes geometry_type state numbers → MayEnd (state_after geometry_type state numbers) → Outcome geometry_type state numbers
  faulty : (code index : ℕ) → FaultFrom geometry_type state numbers code index → Outcome geometry_type state numbers

-- the numbers may end or not
may_end : (state : State) → MayEnd state ⊎ (MayEnd state → ⊥)
may_end (path_command true from) = inl refl
may_end (path_command false from) = inr (λ end. true≢false (sym end))
may_end all_drawn = inl tt
may_end state = inr (λ end. end)

-- below 2^32
abbrev Is32Bits : ℕ → Type 0
Is32Bits n = n < 2 ^ 32

-- numbers of 32 bits have one of these
outcome : (geometry_type : GeometryType) (state : State) (numbers : List ℕ) → All Is32Bits numbers → Outcome geometry_type state numbers
outcome geometry_type state [] small = elim (may_end state) [
  | inl end ↦ drawn tt end
  | inr more ↦ faulty 403 0 (more, refl, refl)
]
outcome geometry_type state (n ∷ rest) small = elim (verdict geometry_type state n (All-head Is32Bits n rest small)) [
  | allowed this ↦ elim (outcome geometry_type (next geometry_type state n) rest (All-tail Is32Bits n rest small)) [
    | drawn passes end ↦ drawn (this, passes) end
    | faulty code index fault ↦ faulty code (suc index) (this, fault)
  ]
  | blamed code refused blame ↦ faulty code 0 (refused, blame)
]

-- so they spell a figure, or have a command fault
pub figure_or_command_fault : (geometry_type : GeometryType) (numbers : List ℕ) → All (λ (n : ℕ). n < 2 ^ 32) numbers → ((figure : Figure) × Spells geometry_type figure numbers) ⊎ ((code : ℕ) × (index : ℕ) × HasCommandFault geometry_type numbers code index)
figure_or_command_fault geometry_type numbers small = elim (outcome geometry_type (start geometry_type) numbers small) [
  | drawn passes end ↦ inl (passes_spells geometry_type numbers passes end)
  | faulty code index fault ↦ inr (code, index, has_command_fault geometry_type numbers code index fault)
]

-- One fault

-- what is due after numbers is one part
one_due : (geometry_type : GeometryType) (numbers : List ℕ) (part other : Part) → IsDue geometry_type numbers part → IsDue geometry_type numbers other → part ≡ other
one_due geometry_type numbers part other first second =
    let one = (due_there geometry_type numbers part first).1 in
    let another = (due_there geometry_type numbers other second).1 in
    cc (one, another)

-- no fault is after another
one_index : (geometry_type : GeometryType) (numbers : List ℕ) (code other_code index other_index : ℕ) → HasCommandFault geometry_type numbers code index → HasCommandFault geometry_type numbers other_code other_index → other_index ≤ index
one_index geometry_type numbers code other_code index other_index first second = elim (cases_lt index other_index) [
  | inl before ↦ absurd (first.longest other_index before second.within second.begins)
  | inr within ↦ within
]

-- one code is to blame at an index
one_code : (geometry_type : GeometryType) (numbers : List ℕ) (index code other : ℕ) → IsCause geometry_type numbers index code → IsCause geometry_type numbers index other → code ≡ other
one_code geometry_type numbers index _ _ (ends end code_is) (ends end' code_is') = code_is ∙ sym code_is'
one_code geometry_type numbers index _ _ (ends end code_is) (nothing_due within none code_is') = absurd (omega arith)
one_code geometry_type numbers index _ _ (ends end code_is) (due part n there that applies first) = let within = slice_get_within numbers index n there in absurd (omega arith)
one_code geometry_type numbers index _ _ (nothing_due within none code_is) (ends end code_is') = absurd (omega arith)
one_code geometry_type numbers index _ _ (nothing_due within none code_is) (nothing_due within' none' code_is') = code_is ∙ sym code_is'
one_code geometry_type numbers index _ _ (nothing_due within none code_is) (due part n there that applies first) = absurd (none part that)
one_code geometry_type numbers index _ _ (due part n there that applies first) (ends end code_is') = let within = slice_get_within numbers index n there in absurd (omega arith)
one_code geometry_type numbers index _ _ (due part n there that applies first) (nothing_due within none code_is') = absurd (none part that)
one_code geometry_type numbers index code other (due part n there that applies first) (due part' n' there' that' applies' first') =
    let same : part ≡ part' = one_due geometry_type (take index numbers) part part' that that' in
    let number : n ≡ n' = cc (there, there') in
    let moved : Applies part n other = subst (λ (p : Part). Applies p n other) (sym same) (subst (λ (m : ℕ). Applies part' m other) (sym number) applies') in
    let moved' : Applies part' n' code = subst (λ (p : Part). Applies p n' code) same (subst (λ (m : ℕ). Applies part m code) number applies) in
    omega (arith, first other moved, first' code moved')

-- so there is one fault
pub one_command_fault : (geometry_type : GeometryType) (numbers : List ℕ) (code other_code index other_index : ℕ) → HasCommandFault geometry_type numbers code index → HasCommandFault geometry_type numbers other_code other_index → (code ≡ other_code) × (index ≡ other_index)
one_command_fault geometry_type numbers code other_code index other_index first second =
    let below = one_index geometry_type numbers code other_code index other_index first second in
    let above = one_index geometry_type numbers other_code code other_index index second first in
    let same : index ≡ other_index = omega arith in
    (one_code geometry_type numbers index code other_code first.cause (subst (λ (i : ℕ). IsCause geometry_type numbers i other_code) (sym same) second.cause), same)
