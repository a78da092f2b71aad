-- The JSON of advice on a tile, with the keys of each object in the order of their bytes.
use Rattle.std.specs.Prelude.{ℕ, List, ◌++◌, codes}
use Rattle.serde_json.specs.Data.{Data, string, object, member, no_members}
use Rattle.serde_json.specs.Written.{compact_text}
use Rattle.mvt_fault.specs.Text.{whole_number}
use Rattle.mvt_tile.specs.declared.advice.Advice.{Advice}
use Rattle.mvt_tile.specs.declared.advice.Advice.TheVariants.{NoLayer, NoFeature, EqualKey, EqualId}
use Rattle.mvt_engine.specs.Dump.{keyed, list_data}

-- two equal things of a layer: what they are, the layer, and the place of each
abbrev pub equal_data : List ℕ → ℕ → ℕ → ℕ → Data
equal_data kind layer first second =
    object (member (codes "first") (whole_number first)
    (member (codes "kind") (string kind)
    (member (codes "layer") (whole_number layer)
    (member (codes "second") (whole_number second)
    no_members))))

-- one advice
abbrev pub advice_data : Advice → Data
advice_data NoLayer = keyed (codes "kind") (string (codes "no_layer"))
advice_data (NoFeature layer) =
    object (member (codes "kind") (string (codes "no_feature"))
    (member (codes "layer") (whole_number layer)
    no_members))
advice_data (EqualKey layer first second) = equal_data (codes "equal_key") layer first second
advice_data (EqualId layer first second) = equal_data (codes "equal_id") layer first second

-- the text of all advice, with no space
abbrev pub advice_text : List Advice → List ℕ
advice_text advice = compact_text (keyed (codes "advice") (list_data advice_data advice))

-- the same with its LF
abbrev pub advice_line : List Advice → List ℕ
advice_line advice = advice_text advice ++ codes "\n"
