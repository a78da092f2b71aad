-- What a reader that takes no empty input has shown of it.
use Rattle.std.specs.Prelude.{ℕ, List, Bool, Option}
use Rattle.mvtgate_devices.specs.declared.not_empty.NotEmpty.{NotEmpty}

-- whether a byte was given
abbrev pub has_begun : {T : Type 0} → NotEmpty T → Bool
has_begun r = r.has_begun

-- whether the input ended before it gave a byte
abbrev pub is_empty : {T : Type 0} → NotEmpty T → Bool
is_empty r = r.is_empty

-- the bytes that are known of the reader are those of its device
abbrev pub device_bytes : {T : Type 0} → (T → Option (List ℕ)) → NotEmpty T → Option (List ℕ)
device_bytes known r = known r.device
