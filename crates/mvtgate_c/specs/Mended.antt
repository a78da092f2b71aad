-- What mending hands to a caller: the bytes of the mended tile and the text of the report, each in a room of its own.
use Rattle.std.specs.Prelude.{◌≡◌, ◌<◌, ◌⊎◌, ◌++◌, ℕ, ◌==◌, Bool, not, List, length, drop}
use Rattle.mvt_fault.specs.Text.{text_of}
use Rattle.mvt_fault.specs.declared.fault.Fault.{Fault}
use Rattle.mvt_fault.specs.declared.profile.Profile.{Profile}
use Rattle.mvt_mender.specs.Mending.{IsMendedTo, IsRefusal}
use Rattle.mvt_mender.specs.Report.{report_text}
use Rattle.mvt_mender.specs.declared.mending.MendedTile.{MendedTile}
use Rattle.mvtgate_c.specs.Texts.{Wants}

-- whether a caller asks with this number to leave out what can't be mended: any but 0 does
abbrev pub asks_to_drop : ℕ → Bool
asks_to_drop number = not (number == 0)

-- the bytes of a mended tile, and the text of the report on its changes
abbrev pub AreOfMended : MendedTile → List ℕ → List ℕ → Type 0
AreOfMended mended out report = (out ≡ mended.bytes.items) × (report ≡ report_text mended.changes.items)

-- the same of a tile to which the first bytes are mended
abbrev pub AreMendedAndReport : Profile → Bool → List ℕ → List ℕ → List ℕ → Type 0
AreMendedAndReport profile dropping bytes out report = (mended : MendedTile) × IsMendedTo profile dropping bytes mended × AreOfMended mended out report

-- the text of the fault for which the bytes are refused
abbrev pub IsRefusalText : Profile → Bool → List ℕ → List ℕ → Type 0
IsRefusalText profile dropping bytes text = (fault : Fault) × IsRefusal profile dropping bytes fault × (text ≡ text_of fault)

-- such bytes are at the front of the one room and such a text at the front of the other, with what was there after them, and
-- their lengths are reported
pub record HandsBoth (Are : List ℕ → List ℕ → Type 0) (old new : List ℕ) (reported : ℕ) (old_text new_text : List ℕ) (text_reported : ℕ) : Type 0 where
  pub bytes : List ℕ
  pub text : List ℕ
  pub are : Are bytes text
  pub written : new ≡ bytes ++ drop reported old
  pub its_length : reported ≡ length bytes
  pub text_written : new_text ≡ text ++ drop text_reported old_text
  pub text_length : text_reported ≡ length text

-- one of the two is longer than its room, and both lengths are reported
pub record WantsBoth (Are : List ℕ → List ℕ → Type 0) (old : List ℕ) (reported : ℕ) (old_text : List ℕ) (text_reported : ℕ) : Type 0 where
  pub bytes : List ℕ
  pub text : List ℕ
  pub are : Are bytes text
  pub its_length : reported ≡ length bytes
  pub text_length : text_reported ≡ length text
  pub longer : (length old < reported) ⊎ (length old_text < text_reported)

-- so of a mended tile and its report; or the text of the fault for which the bytes are refused is longer than its room, and
-- there are no bytes
abbrev pub WantsMore : Profile → Bool → List ℕ → List ℕ → ℕ → List ℕ → ℕ → Type 0
WantsMore profile dropping bytes old reported old_text text_reported =
    WantsBoth (AreMendedAndReport profile dropping bytes) old reported old_text text_reported
    ⊎ ((reported ≡ 0) × Wants (IsRefusalText profile dropping bytes) old_text text_reported)
