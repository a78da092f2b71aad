-- What is handed over of a mended tile is that of the bytes that were mended to it.
use Rattle.std.proofs.Common.{ℕ, Bool, List, inl}
use Rattle.mvt_fault.specs.declared.profile.Profile.{Profile}
use Rattle.mvt_mender.specs.Mending.{IsMendedTo}
use Rattle.mvt_mender.specs.declared.mending.MendedTile.{MendedTile}
use Rattle.mvtgate_c.specs.Mended.{AreMendedAndReport, AreOfMended, HandsBoth, WantsBoth, WantsMore}

-- where there is room
pub hands_mended : (profile : Profile) (dropping : Bool) (bytes : List ℕ) (mended : MendedTile) (old new : List ℕ) (reported : ℕ) (old_text new_text : List ℕ) (text_reported : ℕ) → IsMendedTo profile dropping bytes mended
    → HandsBoth (λ it text. AreOfMended mended it text) old new reported old_text new_text text_reported
    → HandsBoth (AreMendedAndReport profile dropping bytes) old new reported old_text new_text text_reported
hands_mended profile dropping bytes mended old new reported old_text new_text text_reported is hands = record { bytes = hands.bytes; text = hands.text; are = (mended, is, hands.are); written = hands.written; its_length = hands.its_length; text_written = hands.text_written; text_length = hands.text_length }

-- where there isn't
pub wants_mended : (profile : Profile) (dropping : Bool) (bytes : List ℕ) (mended : MendedTile) (old : List ℕ) (reported : ℕ) (old_text : List ℕ) (text_reported : ℕ) → IsMendedTo profile dropping bytes mended
    → WantsBoth (λ it text. AreOfMended mended it text) old reported old_text text_reported
    → WantsMore profile dropping bytes old reported old_text text_reported
wants_mended profile dropping bytes mended old reported old_text text_reported is wants = inl (record { bytes = wants.bytes; text = wants.text; are = (mended, is, wants.are); its_length = wants.its_length; text_length = wants.text_length; longer = wants.longer })
