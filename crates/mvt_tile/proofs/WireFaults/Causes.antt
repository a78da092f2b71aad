-- The order of causes within a message: by offset, then by code, then by field number.
use Rattle.std.proofs.Common.{◌≡◌, ◌<◌, ◌⊎◌, inl, inr, refl, subst}
use Rattle.mvt_wire.specs.declared.cause.WireCause.{WireCause}
use Rattle.mvt_fault.specs.Place.{ComesFirst}
use Rattle.mvt_tile.specs.Calls.Least.{cause_place}

-- the one cause has a smaller offset
pub by_offset : (cause other : WireCause) → cause.at < other.at → ComesFirst (cause_place cause) (cause_place other)
by_offset cause other less = inl less

-- the same cause
pub itself : (cause : WireCause) → ComesFirst (cause_place cause) (cause_place cause)
itself cause = inr (refl, inr (refl, inr (refl, inr (refl, inr (refl, tt)))))

pub same_cause : (cause other : WireCause) → cause ≡ other → ComesFirst (cause_place cause) (cause_place other)
same_cause cause other same = subst (λ (o : WireCause). ComesFirst (cause_place cause) (cause_place o)) same (itself cause)

-- one of both
pub by_place : (cause other : WireCause) → (cause.at < other.at) ⊎ (cause ≡ other) → ComesFirst (cause_place cause) (cause_place other)
by_place cause other (inl less) = by_offset cause other less
by_place cause other (inr same) = same_cause cause other same
