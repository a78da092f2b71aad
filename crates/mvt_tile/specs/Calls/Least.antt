-- Of several causes, those with the least place.
use Rattle.std.specs.Prelude.{ℕ, List, [], ◌∷◌, Option, MatchOption}
use Rattle.mvt_wire.specs.Code.{code_of}
use Rattle.mvt_wire.specs.declared.cause.WireCause.{WireCause}
use Rattle.mvt_fault.specs.Place.{ComesFirst}

-- the place of a cause within its message: the last five numbers of a fault's place
abbrev pub cause_place : WireCause → List ℕ
cause_place cause = cause.at ∷ code_of cause.code ∷ cause.field ∷ 0 ∷ 0 ∷ []

-- of all causes of a kind, one with the least place
pub record IsLeastCause (Holds : WireCause → Type 0) (cause : WireCause) : Type 0 where
  pub holds : Holds cause
  pub least : (other : WireCause) → Holds other → ComesFirst (cause_place cause) (cause_place other)

-- the cause of least place is found, or none exactly where none holds
abbrev pub FindsLeastCause : (WireCause → Type 0) → Option WireCause → Type 0
FindsLeastCause Holds found = MatchOption found ((cause : WireCause) → ¬ Holds cause) (IsLeastCause Holds)
