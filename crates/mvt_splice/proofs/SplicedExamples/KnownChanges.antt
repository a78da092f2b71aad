-- What became of the bytes of the example.
use Rattle.std.proofs.Common.{◌≡◌, ℕ, zero, suc, List, [], ◌∷◌, length, slice_get, Some, Vec, pos, refl, sym, ap, subst, arith}
use Rattle.std.proofs.lemmas.Int.{ints}
use Rattle.std.proofs.lemmas.Option.{same_Some}
use Rattle.std.specs.declared.alloc.Global.{Global}
use Rattle.mvt_rules.proofs.Examples.ExampleValid.{triangle_valid}
use Rattle.mvt_rules.specs.Valid.{ValidBy}
use Rattle.mvt_fault.specs.declared.profile.Profile.TheVariants.{Polygon}
use Rattle.mvt_fault.specs.declared.tag.TagCode.TheVariants.{OddLength, NoKey, NoValue, Repeated}
use Rattle.mvt_plane.specs.Commands.Figure.{polygon}
use Rattle.mvt_plane.specs.FeatureGeometry.{HasRings, type_number}
use Rattle.mvt_plane.specs.Geometry.Examples.{triangle}
use Rattle.mvt_plane.specs.Position.{Position}
use Rattle.mvt_rules.proofs.Tiles.Tiles.{one_tile}
use Rattle.mvt_wire.specs.Number.{VarintList}
use Rattle.mvt_rules.specs.Tile.{FeatureRecord, LayerRecord, TileRecord}
use Rattle.mvt_splice.specs.Examples.{right_way, wrong_way, bytes_before, bytes_after, changes_to, example_feature, example_tile}
use Rattle.mvt_splice.specs.FeatureFaults.{AreRightTags}
use Rattle.mvt_splice.specs.Splice.{stays, redrawn, fate_in, Piece, bytes_of, IsRedrawn, IsSplicedLayer, IsSpliced}
use Rattle.mvt_splice.specs.SplicedTile.{spliced_tile, DrawsSmall, IsValidAfter, IsValidOnceSpliced}
use Rattle.mvt_splice.proofs.SplicedExamples.KnownTile.{right_nine, wrong_nine, feature_pieces, feature_pieced, layer_pieces, layer_pieced, tile_pieces, tile_pieced, tile_known}
use Rattle.mvt_splice.proofs.SplicedExamples.EncodedPieces.{number_piece, length_piece, number_encoded, length_encoded, encode_themselves}
use Rattle.mvt_splice.proofs.SplicedTiles.SplicedWholes.{spliced_is_tile}
use Rattle.mvt_splice.proofs.SplicedTiles.ValidFeatures.{rings_are_valid_after}
use Rattle.mvt_splice.proofs.SplicedTiles.ValidSplices.{small_after, spliced_is_valid}

-- The splice

-- the second feature's message, redrawn
redrawn_known : (numbers : List ℕ) → numbers ≡ right_way → IsRedrawn numbers (bytes_of (feature_pieces wrong_way)) (bytes_of (feature_pieces right_way))
redrawn_known numbers same = record {
  pieces = feature_pieces wrong_way;
  whole = feature_pieced wrong_way wrong_nine;
  pieces_after = feature_pieces right_way;
  whole_after = feature_pieced right_way right_nine;
  others = refl;
  drawn = length_piece 4 right_way;
  one = refl;
  numbers = subst (λ (list : List ℕ). VarintList right_way 0 list (length right_way)) (sym same) (encode_themselves right_way right_nine.small);
}

-- the layer that is left
abbrev layer_left : List Piece
layer_left = length_piece 1 (97 ∷ []) ∷ length_piece 2 (bytes_of (feature_pieces right_way)) ∷ length_piece 2 (bytes_of (feature_pieces right_way)) ∷ number_piece 15 2 ∷ []

layer_known : (numbers : Vec ℕ Global) → numbers.items ≡ right_way → IsSplicedLayer (fate_in (changes_to numbers) 0) (bytes_of (layer_pieces right_way wrong_way wrong_way)) (bytes_of layer_left)
layer_known numbers same = record {
  pieces = layer_pieces right_way wrong_way wrong_way;
  whole = layer_pieced right_way wrong_way wrong_way right_nine wrong_nine wrong_nine;
  pieces_after = layer_left;
  whole_after = record {
    encoded = (
      length_encoded 1 (97 ∷ []) (omega arith) (omega arith) (omega arith),
      (
        length_encoded 2 (bytes_of (feature_pieces right_way)) (omega arith) (omega arith) (omega arith),
        (length_encoded 2 (bytes_of (feature_pieces right_way)) (omega arith) (omega arith) (omega arith), (number_encoded 15 2 (omega arith) (omega arith) (omega arith), tt)),
      ),
    );
    joined = refl;
  };
  fields = (
    length_piece 1 (97 ∷ []) ∷ [],
    length_piece 2 (bytes_of (feature_pieces right_way)) ∷ length_piece 2 (bytes_of (feature_pieces right_way)) ∷ number_piece 15 2 ∷ [],
    refl,
    refl,
    (
      length_piece 2 (bytes_of (feature_pieces right_way)) ∷ [],
      length_piece 2 (bytes_of (feature_pieces right_way)) ∷ number_piece 15 2 ∷ [],
      refl,
      refl,
      (
        length_piece 2 (bytes_of (feature_pieces right_way)) ∷ [],
        number_piece 15 2 ∷ [],
        refl,
        (
          length_piece 2 (bytes_of (feature_pieces right_way)),
          bytes_of (feature_pieces right_way),
          refl,
          record { numbered = refl; place = 2; content = refl },
          redrawn_known numbers.items same,
        ),
        ([], number_piece 15 2 ∷ [], refl, refl, (number_piece 15 2 ∷ [], [], refl, refl, refl)),
      ),
    ),
  );
}

pub spliced_known : (numbers : Vec ℕ Global) → numbers.items ≡ right_way → IsSpliced (changes_to numbers) bytes_before bytes_after
spliced_known numbers same = record {
  pieces = tile_pieces;
  whole = tile_pieced;
  pieces_after = length_piece 3 (bytes_of layer_left) ∷ [];
  whole_after = record { encoded = (length_encoded 3 (bytes_of layer_left) (omega arith) (omega arith) (omega arith), tt); joined = refl };
  layers = (
    length_piece 3 (bytes_of layer_left),
    [],
    refl,
    (
      bytes_of layer_left,
      record { numbered = refl; place = 2; content = refl },
      layer_known numbers same,
      λ all. let changed : redrawn numbers.items ≡ stays = all 1 in absurd (cc),
    ),
    refl,
  );
}

-- The tile that is left

abbrev tile_before : TileRecord
tile_before = example_tile (example_feature right_way ∷ example_feature wrong_way ∷ example_feature wrong_way ∷ [])

abbrev tile_after : TileRecord
tile_after = example_tile (example_feature right_way ∷ example_feature right_way ∷ [])

pub tile_left : (numbers : Vec ℕ Global) → numbers.items ≡ right_way → spliced_tile (fate_in (changes_to numbers)) tile_before ≡ tile_after
tile_left numbers same = ap (λ (list : List ℕ). example_tile (example_feature right_way ∷ example_feature list ∷ [])) same

-- Its features are valid

rings_known : HasRings (type_number polygon) right_way (triangle ∷ [])
rings_known = record {
  typed = refl;
  spelled = record {
    kind = refl;
    able = (
      (
        (
          record { there = record { x = (omega (arith, ints), omega (arith, ints)); y = (omega (arith, ints), omega (arith, ints)) }; x = (omega (arith, ints), omega (arith, ints)); y = (omega (arith, ints), omega (arith, ints)) },
          (
            record { there = record { x = (omega (arith, ints), omega (arith, ints)); y = (omega (arith, ints), omega (arith, ints)) }; x = (omega (arith, ints), omega (arith, ints)); y = (omega (arith, ints), omega (arith, ints)) },
            (
              record { there = record { x = (omega (arith, ints), omega (arith, ints)); y = (omega (arith, ints), omega (arith, ints)) }; x = (omega (arith, ints), omega (arith, ints)); y = (omega (arith, ints), omega (arith, ints)) },
              tt,
            ),
          ),
          (
            λ same. let x : pos 3 ≡ pos 8 = ap (λ (p : Position). p.x) same in absurd (omega (arith, ints)),
            (λ same. let x : pos 8 ≡ pos 20 = ap (λ (p : Position). p.x) same in absurd (omega (arith, ints)), tt),
          ),
          omega arith,
          omega arith,
        ),
        tt,
      ),
      omega arith,
    );
    spelled = refl;
  };
}

-- a feature without tags has right ones
no_tags : (layer_record : LayerRecord) (geometry : List ℕ) → AreRightTags layer_record (example_feature geometry)
no_tags layer_record geometry OddLength index broken = let odd = broken.odd in omega arith
no_tags layer_record geometry NoKey index broken = absurd (none_there index broken.key broken.here.here) where
  none_there : (i n : ℕ) → slice_get [] i ≡ Some n → ⊥
  none_there i n here = cc
no_tags layer_record geometry NoValue index broken = absurd (none_there index broken.value broken.here.here) where
  none_there : (i n : ℕ) → slice_get [] i ≡ Some n → ⊥
  none_there i n here = cc
no_tags layer_record geometry Repeated index broken = absurd (none_there index broken.key broken.here.here) where
  none_there : (i n : ℕ) → slice_get [] i ≡ Some n → ⊥
  none_there i n here = cc

valid_known : (layer_record : LayerRecord) (geometry numbers : List ℕ) → numbers ≡ right_way → IsValidAfter Polygon (redrawn numbers) layer_record (example_feature geometry)
valid_known layer_record geometry numbers same =
    subst (λ (list : List ℕ). IsValidAfter Polygon (redrawn list) layer_record (example_feature geometry)) (sym same)
    (rings_are_valid_after Polygon layer_record (example_feature geometry) right_way (triangle ∷ []) (no_tags layer_record geometry) refl rings_known triangle_valid)

-- the one layer
only_layer : (layer : ℕ) (layer_record : LayerRecord) → slice_get tile_before.layers layer ≡ Some layer_record
    → (layer ≡ 0) × (record { version = 2; name = 97 ∷ []; features = example_feature right_way ∷ example_feature wrong_way ∷ example_feature wrong_way ∷ []; keys = []; values = []; extent = 4096 } ≡ layer_record)
only_layer zero layer_record there = (refl, same_Some _ layer_record there)
only_layer (suc layer) layer_record there = absurd (cc)

feature_known : (numbers : Vec ℕ Global) → numbers.items ≡ right_way → (layer_record : LayerRecord) (feature : ℕ) (feature_record : FeatureRecord)
    → slice_get (example_feature right_way ∷ example_feature wrong_way ∷ example_feature wrong_way ∷ []) feature ≡ Some feature_record
    → IsValidAfter Polygon (fate_in (changes_to numbers) 0 feature) layer_record feature_record
feature_known numbers same layer_record zero feature_record there =
    subst (IsValidAfter Polygon stays layer_record) (same_Some (example_feature right_way) feature_record there) ((valid_known layer_record right_way right_way refl).1)
feature_known numbers same layer_record (suc zero) feature_record there =
    subst (IsValidAfter Polygon (redrawn numbers.items) layer_record) (same_Some (example_feature wrong_way) feature_record there) (valid_known layer_record wrong_way numbers.items same)
feature_known numbers same layer_record (suc (suc zero)) feature_record there = tt
feature_known numbers same layer_record (suc (suc (suc feature))) feature_record there = absurd (cc)

pub once_known : (numbers : Vec ℕ Global) → numbers.items ≡ right_way → IsValidOnceSpliced Polygon (fate_in (changes_to numbers)) tile_before
once_known numbers same = record {
  versions = λ layer broken.
      let one = only_layer layer broken.layer_record broken.there in
      broken.other (sym (ap (λ (it : LayerRecord). it.version) one.1));
  names = λ first second equal.
      let earlier = equal.earlier in
      let one = only_layer first equal.layer_record equal.there in
      let other = only_layer second equal.other equal.other_there in
      omega (arith, one.0, other.0);
  features = λ layer feature layer_record feature_record there.
      let one = only_layer layer layer_record there.in_tile in
      let here = subst (λ (it : LayerRecord). slice_get it.features feature ≡ Some feature_record) (sym one.1) there.in_layer in
      subst (λ (k : ℕ). IsValidAfter Polygon (fate_in (changes_to numbers) k feature) layer_record feature_record) (sym one.0)
      (feature_known numbers same layer_record feature feature_record here);
}

-- and the new numbers are small
drawn_small : (numbers : Vec ℕ Global) → numbers.items ≡ right_way → DrawsSmall (fate_in (changes_to numbers)) tile_before
drawn_small numbers same layer feature layer_record feature_record geometry there drawn =
    small_after Polygon (fate_in (changes_to numbers) layer feature) layer_record feature_record geometry ((once_known numbers same).features layer feature layer_record feature_record there) drawn

pub valid_after_known : (numbers : Vec ℕ Global) → numbers.items ≡ right_way → ValidBy Polygon bytes_after
valid_after_known numbers same = spliced_is_valid Polygon (changes_to numbers) bytes_before bytes_after tile_before (spliced_known numbers same) tile_known (once_known numbers same)

-- the features of the first layer
abbrev count_first : List LayerRecord → ℕ
count_first [] = 0
count_first (layer ∷ layers) = length layer.features

-- the bytes before aren't those with the changes
pub unspliced_known : (numbers : Vec ℕ Global) → numbers.items ≡ right_way → ¬ IsSpliced (changes_to numbers) bytes_before bytes_before
unspliced_known numbers same it =
    let left = spliced_is_tile (changes_to numbers) bytes_before bytes_before tile_before it tile_known (drawn_small numbers same) in
    let both : spliced_tile (fate_in (changes_to numbers)) tile_before ≡ tile_before = one_tile bytes_before (spliced_tile (fate_in (changes_to numbers)) tile_before) tile_before left tile_known in
    let count : ◌≡◌ {A = ℕ} 2 3 = ap (λ (tile : TileRecord). count_first tile.layers) both in
    omega arith
