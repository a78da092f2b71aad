-- What is known of a fault that a call may have stored.
use Rattle.std.proofs.Common.{◌≡◌, true, false, is_some, Option, Some, None, IfSome, refl}

-- something is there
pub some_stored : {X : Type 0} {P : X → Type 0} (found : Option X) → is_some found ≡ true → IfSome found P → (it : X) × (found ≡ Some it) × P it
some_stored None is first = absurd (cc)
some_stored (Some it) is first = (it, refl, first)

-- or nothing is
pub none_stored : {X : Type 0} (found : Option X) → is_some found ≡ false → found ≡ None
none_stored None is = refl
none_stored (Some it) is = absurd (cc)
