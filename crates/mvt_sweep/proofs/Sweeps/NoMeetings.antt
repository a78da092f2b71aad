-- What follows where no meeting is returned.
use Rattle.std.proofs.Common.{IfNone, Option, Some, None}

-- of one thing another one follows
pub none_map : {A : Type 0} {P Q : Type 0} (found : Option A) → (P → Q) → IfNone found P → IfNone found Q
none_map None follows holds = follows holds
none_map (Some it) follows holds = holds
