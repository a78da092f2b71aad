-- The texts of a tile's parts, piece by piece.
use Rattle.std.proofs.Common.{◌≡◌, ℕ, List, ◌++◌, codes, map, decimal, true, false, Bool, ℤ, pos, negsuc, Result, Ok, Err, OnOk, if◌then◌else◌, refl, ap, sym, ◌∙◌, append_assoc}
use Rattle.std.proofs.lemmas.Result.{on_ok_weaker}
use Rattle.std.proofs.lemmas.Simd.{map-map}
use Rattle.std.specs.Fmt.{signed_decimal}
use Rattle.std.specs.Result.{is_ok}
use Rattle.serde_json.proofs.OnLiterals.{serde_json_on_literals}
use Rattle.serde_json.specs.Data.{Data, string, array, boolean}
use Rattle.serde_json.specs.View.{items_of}
use Rattle.serde_json.specs.Written.{compact_text}
use Rattle.mvt_rules.specs.Tile.{FeatureRecord, LayerRecord, TileRecord}
use Rattle.mvt_fault.specs.Text.{whole_number}
use Rattle.mvt_engine.specs.Dump.{signed, list_data, id_data, feature_data, layer_data, value_data, dump_text}

-- a piece, and what is written after it
following : {E : Type 0} (result : Result (Unit {0}) E) (t0 t1 t2 piece rest : List ℕ)
    → t1 ≡ t0 ++ piece
    → OnOk result (t2 ≡ t1 ++ rest)
    → OnOk result (t2 ≡ t0 ++ (piece ++ rest))
following result t0 t1 t2 piece rest same = on_ok_weaker result (λ (last : t2 ≡ t1 ++ rest). last ∙ ap (λ text. text ++ rest) same ∙ append_assoc t0 piece rest)

-- an opening, a content, and the brace after it
pub braced : {E : Type 0} (result : Result (Unit {0}) E) (t0 t1 t2 t3 opening content : List ℕ)
    → t1 ≡ t0 ++ opening
    → t2 ≡ t1 ++ content
    → t3 ≡ (if is_ok result then t2 ++ codes "}" else t2)
    → OnOk result (t3 ≡ t0 ++ (opening ++ (content ++ codes "}")))
braced (Ok unit) t0 t1 t2 t3 opening content opened written closed = rw (closed, written, opened) (simp append_assoc)
braced (Err error) t0 t1 t2 t3 opening content opened written closed = tt

-- the text of a list whose members have records of their own
pub recorded_list : {A B : Type 0} (data_of : B → Data) (record_of : A → B) (list all : List A) → list ≡ all
    → compact_text (list_data (λ member. data_of (record_of member)) list) ≡ compact_text (list_data data_of (map record_of all))
recorded_list data_of record_of list all same =
    ap (λ (ds : List Data). compact_text (array (items_of ds))) (ap (map (λ member. data_of (record_of member))) same ∙ sym (map-map data_of record_of all))

-- the text of a whole number with its sign
pub signed_text : (z : ℤ) → compact_text (signed z) ≡ signed_decimal z
signed_text (pos n) = refl
signed_text (negsuc n) = refl

-- what a feature writes, piece by piece
pub feature_pushed : {E : Type 0} (result : Result (Unit {0}) E) (feature : FeatureRecord) (geometry tags : List ℕ) (kind : ℕ) (t0 t1 t2 t3 t4 t5 t6 t7 : List ℕ)
    → geometry ≡ compact_text (list_data whole_number feature.geometry)
    → tags ≡ compact_text (list_data whole_number feature.tags)
    → kind ≡ feature.kind
    → t1 ≡ t0 ++ codes "{\"geometry\":"
    → t2 ≡ t1 ++ geometry
    → t3 ≡ t2 ++ codes ",\"id\":"
    → t4 ≡ t3 ++ compact_text (id_data feature.id)
    → t5 ≡ t4 ++ codes ",\"tags\":"
    → t6 ≡ t5 ++ tags
    → OnOk result (t7 ≡ t6 ++ (codes ",\"type\":" ++ (decimal kind ++ codes "}")))
    → OnOk result (t7 ≡ t0 ++ compact_text (feature_data feature))
unfolding serde_json_on_literals
feature_pushed result feature geometry tags kind t0 t1 t2 t3 t4 t5 t6 t7 same_geometry same_tags same_kind e1 e2 e3 e4 e5 e6 e7 =
    following result t0 t1 t7 _ _ e1 (following result t1 t2 t7 _ _ (rw same_geometry at e2) (following result t2 t3 t7 _ _ e3
    (following result t3 t4 t7 _ _ e4 (following result t4 t5 t7 _ _ e5 (following result t5 t6 t7 _ _ (rw same_tags at e6) (rw same_kind at e7))))))

-- what a layer writes, piece by piece
pub layer_pushed : {E : Type 0} (result : Result (Unit {0}) E) (layer : LayerRecord) (features keys values : List ℕ) (t0 t1 t2 t3 t4 t5 t6 t7 t8 t9 : List ℕ)
    → features ≡ compact_text (list_data feature_data layer.features)
    → keys ≡ compact_text (list_data string layer.keys)
    → values ≡ compact_text (list_data value_data layer.values)
    → t1 ≡ t0 ++ (codes "{\"extent\":" ++ (decimal layer.extent ++ codes ",\"features\":"))
    → t2 ≡ t1 ++ features
    → t3 ≡ t2 ++ codes ",\"keys\":"
    → t4 ≡ t3 ++ keys
    → t5 ≡ t4 ++ codes ",\"name\":"
    → t6 ≡ t5 ++ compact_text (string layer.name)
    → t7 ≡ t6 ++ codes ",\"values\":"
    → t8 ≡ t7 ++ values
    → OnOk result (t9 ≡ t8 ++ (codes ",\"version\":" ++ (decimal layer.version ++ codes "}")))
    → OnOk result (t9 ≡ t0 ++ compact_text (layer_data layer))
unfolding serde_json_on_literals
layer_pushed result layer features keys values t0 t1 t2 t3 t4 t5 t6 t7 t8 t9 same_features same_keys same_values e1 e2 e3 e4 e5 e6 e7 e8 e9 =
    on_ok_weaker result (λ last. last ∙ ap (λ piece. t0 ++ (codes "{\"extent\":" ++ piece)) (append_assoc (decimal layer.extent) (codes ",\"features\":") _))
    (following result t0 t1 t9 _ _ e1 (following result t1 t2 t9 _ _ (rw same_features at e2) (following result t2 t3 t9 _ _ e3 (following result t3 t4 t9 _ _ (rw same_keys at e4)
    (following result t4 t5 t9 _ _ e5 (following result t5 t6 t9 _ _ e6 (following result t6 t7 t9 _ _ e7 (following result t7 t8 t9 _ _ (rw same_values at e8) e9))))))))

-- what a tile writes
pub tile_written : (tile : TileRecord) (layers t1 t2 t3 : List ℕ)
    → layers ≡ compact_text (list_data layer_data tile.layers)
    → t1 ≡ codes "{\"layers\":"
    → t2 ≡ t1 ++ layers
    → t3 ≡ t2 ++ codes "}"
    → t3 ≡ dump_text tile
unfolding serde_json_on_literals
tile_written tile layers t1 t2 t3 same e1 e2 e3 = rw (e3, e2, e1, same)

-- a truth value's text
pub truth_text : (b : Bool) → (if b then codes "true" else codes "false") ≡ compact_text (boolean b)
truth_text true = refl
truth_text false = refl
