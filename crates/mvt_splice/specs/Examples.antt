-- A tile whose features have fates, with known answers.
use Rattle.std.specs.Prelude.{ℕ, List, [], ◌∷◌, Some, None, Vec}
use Rattle.std.specs.declared.alloc.Global.{Global}
use Rattle.mvt_splice.specs.declared.change.Change.{Change}
use Rattle.mvt_rules.specs.Tile.{FeatureRecord, TileRecord}

-- the numbers of the example of a polygon (Mapbox Vector Tile Specification 2.1, section 4.3.5.5)
abbrev pub right_way : List ℕ
right_way = 9 ∷ 6 ∷ 12 ∷ 18 ∷ 10 ∷ 12 ∷ 24 ∷ 44 ∷ 15 ∷ []

-- its vertices in the other sense, which is that of a hole
abbrev pub wrong_way : List ℕ
wrong_way = 9 ∷ 40 ∷ 68 ∷ 18 ∷ 23 ∷ 43 ∷ 9 ∷ 11 ∷ 15 ∷ []

-- a layer "a" of three features of polygons, of which the first alone has its vertices the right way
abbrev pub bytes_before : List ℕ
bytes_before =
    26 ∷ 50 ∷ 10 ∷ 1 ∷ 97
    ∷ 18 ∷ 13 ∷ 24 ∷ 3 ∷ 34 ∷ 9 ∷ 9 ∷ 6 ∷ 12 ∷ 18 ∷ 10 ∷ 12 ∷ 24 ∷ 44 ∷ 15
    ∷ 18 ∷ 13 ∷ 24 ∷ 3 ∷ 34 ∷ 9 ∷ 9 ∷ 40 ∷ 68 ∷ 18 ∷ 23 ∷ 43 ∷ 9 ∷ 11 ∷ 15
    ∷ 18 ∷ 13 ∷ 24 ∷ 3 ∷ 34 ∷ 9 ∷ 9 ∷ 40 ∷ 68 ∷ 18 ∷ 23 ∷ 43 ∷ 9 ∷ 11 ∷ 15
    ∷ 120 ∷ 2 ∷ []

-- the second has them the right way too, and the third is left out
abbrev pub bytes_after : List ℕ
bytes_after =
    26 ∷ 35 ∷ 10 ∷ 1 ∷ 97
    ∷ 18 ∷ 13 ∷ 24 ∷ 3 ∷ 34 ∷ 9 ∷ 9 ∷ 6 ∷ 12 ∷ 18 ∷ 10 ∷ 12 ∷ 24 ∷ 44 ∷ 15
    ∷ 18 ∷ 13 ∷ 24 ∷ 3 ∷ 34 ∷ 9 ∷ 9 ∷ 6 ∷ 12 ∷ 18 ∷ 10 ∷ 12 ∷ 24 ∷ 44 ∷ 15
    ∷ 120 ∷ 2 ∷ []

-- the changes by which it is made, with a list of the new numbers
abbrev pub changes_to : Vec ℕ Global → List Change
changes_to numbers = record { layer = 0; feature = 1; geometry = Some numbers } ∷ record { layer = 0; feature = 2; geometry = None } ∷ []

-- a feature of polygons
abbrev pub example_feature : List ℕ → FeatureRecord
example_feature geometry = record { id = None; tags = []; kind = 3; geometry = geometry }

-- the layer "a" of such features
abbrev pub example_tile : List FeatureRecord → TileRecord
example_tile features = record { layers = record { version = 2; name = 97 ∷ []; features = features; keys = []; values = []; extent = 4096 } ∷ [] }
