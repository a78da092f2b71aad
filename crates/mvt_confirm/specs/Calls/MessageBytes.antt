-- Messages in the bytes of a tile, as the program has them.
use Rattle.std.specs.Prelude.{ℕ, List, take}
use Rattle.mvt_wire.specs.Field.{Entry}
use Rattle.mvt_wire.specs.Message.{IsMessage}
use Rattle.mvt_confirm.specs.Calls.Walking.{HoldsFields}
use Rattle.mvt_confirm.specs.declared.message_bytes.MessageBytes.{MessageBytes}

-- the bytes up to the message's end
abbrev pub front : MessageBytes → List ℕ
front place = take place.span.to place.bytes.now

-- a whole message is there, with this field list
abbrev pub HasFields : MessageBytes → List Entry → Type 0
HasFields place entries = IsMessage (front place) place.span.from entries

-- a whole message is there, and its fields have a property
abbrev pub IsMessageWith : MessageBytes → (List Entry → Type 0) → Type 0
IsMessageWith place Have = HoldsFields (front place) place.span.from Have
