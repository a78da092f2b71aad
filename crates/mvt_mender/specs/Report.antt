-- The JSON that tells what mending changed, with the keys of each object in the order of their bytes.
use Rattle.std.specs.Prelude.{ℕ, List, [], ◌∷◌, ◌++◌, true, codes}
use Rattle.serde_json.specs.Data.{Data, boolean, string, array, object, member, no_members}
use Rattle.serde_json.specs.View.{items_of}
use Rattle.serde_json.specs.Written.{compact_text}
use Rattle.mvt_fault.specs.Text.{digits, whole_number}
use Rattle.mvt_engine.specs.Dump.{list_data}
use Rattle.mvt_mender.specs.declared.mending.FeatureChange.{FeatureChange}
use Rattle.mvt_mender.specs.declared.mending.MendedFeature.{MendedFeature}
use Rattle.mvt_mender.specs.declared.mending.WhatChanged.{WhatChanged}
use Rattle.mvt_mender.specs.declared.mending.WhatChanged.TheVariants.{Mended, Dropped}

-- what was before, and what is after
abbrev pub pair_data : Data → Data → Data
pair_data before after = array (items_of (before ∷ after ∷ []))

-- a feature that was mended: its doubled areas, polygons and vertices before and after, and what was done
abbrev pub mended_data : ℕ → ℕ → MendedFeature → Data
mended_data layer feature mended =
    object (member (codes "area") (pair_data (digits mended.before.doubled_area) (digits mended.after.doubled_area))
    (member (codes "crossings") (whole_number mended.crossings)
    (member (codes "cuts") (whole_number mended.cuts)
    (member (codes "feature") (whole_number feature)
    (member (codes "layer") (whole_number layer)
    (member (codes "polygons") (pair_data (whole_number mended.before.polygons) (whole_number mended.after.polygons))
    (member (codes "vertices") (pair_data (whole_number mended.before.vertices) (whole_number mended.after.vertices))
    (member (codes "what") (string (codes "mended"))
    no_members))))))))

-- a feature that was left out
abbrev pub dropped_data : ℕ → ℕ → Data
dropped_data layer feature =
    object (member (codes "feature") (whole_number feature)
    (member (codes "layer") (whole_number layer)
    (member (codes "what") (string (codes "dropped"))
    no_members)))

-- what became of a feature
abbrev pub what_data : ℕ → ℕ → WhatChanged → Data
what_data layer feature (Mended mended) = mended_data layer feature mended
what_data layer feature Dropped = dropped_data layer feature

abbrev pub change_data : FeatureChange → Data
change_data told = what_data told.layer told.feature told.what

-- all changes to a tile that is valid now
abbrev pub report_data : List FeatureChange → Data
report_data changes =
    object (member (codes "changed") (list_data change_data changes)
    (member (codes "ok") (boolean true)
    no_members))

-- the text, with no space
abbrev pub report_text : List FeatureChange → List ℕ
report_text changes = compact_text (report_data changes)

-- the same with its LF
abbrev pub report_line : List FeatureChange → List ℕ
report_line changes = report_text changes ++ codes "\n"
