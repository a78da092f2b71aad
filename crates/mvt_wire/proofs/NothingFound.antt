-- Facts of the case that a search found nothing.
use Rattle.std.proofs.Common.{◌≡◌, false, is_some, Option, Some, None, IfNone}

pub IfNone_then : {X P Q : Type 0} (found : Option X) → IfNone found P → (P → Q) → IfNone found Q
IfNone_then (Some x) held then = tt
IfNone_then None held then = then held

-- it holds where nothing was found
pub IfNone-held : {X P : Type 0} (found : Option X) → is_some found ≡ false → IfNone found P → P
IfNone-held None is held = held
IfNone-held (Some x) is held = absurd (cc)

-- what holds in any case
pub IfNone-any : {X P : Type 0} (found : Option X) → P → IfNone found P
IfNone-any None holds = holds
IfNone-any (Some x) holds = tt
