-- The bytes of the example are the tile of its features.
use Rattle.std.proofs.Common.{◌≡◌, ℕ, zero, suc, ◌^◌, ◌<◌, List, [], ◌∷◌, length, All, refl, sym, ap, arith, append-nil}
use Rattle.std.proofs.lemmas.List.Elements.{All-from_recursion, All-weaker}
use Rattle.std.proofs.lemmas.Str.{IsUtf8-from_ascii}
use Rattle.std.specs.Str.{IsAscii}
use Rattle.mvt_wire.specs.Schema.{field_rule}
use Rattle.mvt_rules.specs.Parts.Fields.{FitsRule}
use Rattle.mvt_rules.specs.Tile.{IsTile, LayerRecord, FeatureRecord}
use Rattle.mvt_wire.specs.declared.schema.Message.TheVariants as messages
use Rattle.mvt_wire.specs.declared.schema.Occurrence.TheVariants.{AnyNumber, AtLeastOnce, Once}
use Rattle.mvt_wire.specs.declared.schema.Shape.TheVariants.{Embedded, Text, Uint32, GeometryType, Numbers}
use Rattle.mvt_splice.specs.Examples.{right_way, wrong_way, bytes_before, example_feature, example_tile}
use Rattle.mvt_splice.specs.Splice.{Piece, bytes_of, IsPieced}
use Rattle.mvt_splice.proofs.SplicedExamples.SchemaRules.{schema_by_rules, fits_by, varint_fits, delimited_fits}
use Rattle.mvt_splice.proofs.SplicedExamples.EncodedPieces.{number_piece, length_piece, number_encoded, length_encoded, encode_themselves}
use Rattle.mvt_splice.proofs.SplicedTiles.LoneMessages.{StatesFeature, StatesFeature-same, StatesLayer, StatesLayer-same, StatesTile, StatesTile-same, FeatureAlone, LayerAlone, joined_states, tile_placed}
use Rattle.mvt_splice.proofs.SplicedTiles.PiecedMessages.{fields_in}

-- numbers below 128, of which there are nine
pub record AreNine (numbers : List ℕ) : Type 0 where
  pub small : All (λ (n : ℕ). n < 128) numbers
  pub count : length numbers ≡ 9

pub right_nine : AreNine right_way
right_nine = record {
  small = All-from_recursion (λ (n : ℕ). n < 128) right_way (omega arith, (omega arith, (omega arith, (omega arith, (omega arith, (omega arith, (omega arith, (omega arith, (omega arith, tt)))))))));
  count = refl;
}

pub wrong_nine : AreNine wrong_way
wrong_nine = record {
  small = All-from_recursion (λ (n : ℕ). n < 128) wrong_way (omega arith, (omega arith, (omega arith, (omega arith, (omega arith, (omega arith, (omega arith, (omega arith, (omega arith, tt)))))))));
  count = refl;
}

-- Features

-- of polygons, with these numbers
abbrev pub feature_pieces : List ℕ → List Piece
feature_pieces numbers = number_piece 3 3 ∷ length_piece 4 numbers ∷ []

pub feature_pieced : (numbers : List ℕ) → AreNine numbers → IsPieced (bytes_of (feature_pieces numbers)) (feature_pieces numbers)
feature_pieced numbers nine =
    let count = nine.count in
    record { encoded = (number_encoded 3 3 (omega arith) (omega arith) (omega arith), (length_encoded 4 numbers (omega arith) (omega arith) (omega arith), tt)); joined = refl }

feature_states : (numbers : List ℕ) → AreNine numbers → StatesFeature (fields_in (feature_pieces numbers)) (example_feature numbers)
feature_states numbers nine =
    let small = All-weaker (λ (n : ℕ). n < 128) (λ (n : ℕ). n < 2 ^ 32) (λ n low. omega arith) numbers nine.small in
    let encoded = encode_themselves numbers nine.small in
    record {
      keeps = schema_by_rules messages.Feature (fields_in (feature_pieces numbers))
          (All-from_recursion (FitsRule messages.Feature) (fields_in (feature_pieces numbers)) (
            fits_by messages.Feature (number_piece 3 3).field (field_rule 3 GeometryType Once) refl (varint_fits (field_rule 3 GeometryType Once) 3 1 refl refl),
            (
              fits_by messages.Feature (length_piece 4 numbers).field (field_rule 4 Numbers AtLeastOnce) refl (delimited_fits (field_rule 4 Numbers AtLeastOnce) 2 numbers refl (λ shape. absurd (cc)) (λ shape. (numbers, encoded, small))),
              tt,
            ),
          )) (
            (λ singular. omega arith, λ required. absurd (cc)),
            ((λ singular. absurd (cc), λ required. absurd (cc)), ((λ singular. omega arith, λ required. omega arith), ((λ singular. absurd (cc), λ required. omega arith), tt))),
          )
          (λ value. absurd (cc));
      id = refl;
      tags = refl;
      kind = refl;
      geometry = (numbers, [], encoded, refl, sym (append-nil numbers));
    }

pub feature_alone_of : (numbers : List ℕ) → AreNine numbers → FeatureAlone (bytes_of (feature_pieces numbers)) (example_feature numbers)
feature_alone_of numbers nine =
    joined_states StatesFeature StatesFeature-same (bytes_of (feature_pieces numbers)) (feature_pieces numbers) (example_feature numbers) (feature_pieced numbers nine) (feature_states numbers nine)

-- The layer

-- of three features
abbrev pub layer_pieces : List ℕ → List ℕ → List ℕ → List Piece
layer_pieces first second third =
    length_piece 1 (97 ∷ [])
    ∷ length_piece 2 (bytes_of (feature_pieces first)) ∷ length_piece 2 (bytes_of (feature_pieces second)) ∷ length_piece 2 (bytes_of (feature_pieces third)) ∷ number_piece 15 2 ∷ []

abbrev layer_of : List FeatureRecord → LayerRecord
layer_of features = record { version = 2; name = 97 ∷ []; features = features; keys = []; values = []; extent = 4096 }

ascii : IsAscii (97 ∷ [])
ascii zero = omega arith
ascii (suc i) = omega arith

name_fits : FitsRule messages.Layer (length_piece 1 (97 ∷ [])).field
name_fits =
    fits_by messages.Layer (length_piece 1 (97 ∷ [])).field (field_rule 1 Text Once) refl (delimited_fits (field_rule 1 Text Once) 2 (97 ∷ []) refl (λ shape. IsUtf8-from_ascii (97 ∷ []) ascii) (λ shape. absurd (cc)))

embedded_fits : (payload : List ℕ) → FitsRule messages.Layer (length_piece 2 payload).field
embedded_fits payload =
    fits_by messages.Layer (length_piece 2 payload).field (field_rule 2 Embedded AnyNumber) refl (delimited_fits (field_rule 2 Embedded AnyNumber) 2 payload refl (λ shape. absurd (cc)) (λ shape. absurd (cc)))

version_fits : FitsRule messages.Layer (number_piece 15 2).field
version_fits = fits_by messages.Layer (number_piece 15 2).field (field_rule 15 Uint32 Once) refl (varint_fits (field_rule 15 Uint32 Once) 2 1 refl refl)

layer_states : (first second third : List ℕ) → AreNine first → AreNine second → AreNine third → StatesLayer (fields_in (layer_pieces first second third)) (layer_of (example_feature first ∷ example_feature second ∷ example_feature third ∷ []))
layer_states first second third one two three = record {
  keeps = schema_by_rules messages.Layer (fields_in (layer_pieces first second third))
      (All-from_recursion (FitsRule messages.Layer) (fields_in (layer_pieces first second third)) (
        name_fits,
        (embedded_fits (bytes_of (feature_pieces first)), (embedded_fits (bytes_of (feature_pieces second)), (embedded_fits (bytes_of (feature_pieces third)), (version_fits, tt)))),
      )) (
        (λ singular. omega arith, λ required. omega arith),
        (
          (λ singular. absurd (cc), λ required. absurd (cc)),
          (
            (λ singular. absurd (cc), λ required. absurd (cc)),
            ((λ singular. absurd (cc), λ required. absurd (cc)), ((λ singular. omega arith, λ required. absurd (cc)), ((λ singular. omega arith, λ required. omega arith), tt))),
          ),
        ),
      )
      (λ value. absurd (cc));
  version = refl;
  name = refl;
  features = (feature_alone_of first one, (feature_alone_of second two, (feature_alone_of third three, tt)));
  keys = refl;
  values = tt;
  extent = refl;
}

feature_long : (numbers : List ℕ) → AreNine numbers → length (bytes_of (feature_pieces numbers)) ≡ 13
feature_long numbers nine = let count = nine.count in omega (arith, ap length (append-nil numbers))

pub layer_pieced : (first second third : List ℕ) → AreNine first → AreNine second → AreNine third → IsPieced (bytes_of (layer_pieces first second third)) (layer_pieces first second third)
layer_pieced first second third one two three =
    let first_long = feature_long first one in
    let second_long = feature_long second two in
    let third_long = feature_long third three in
    record {
      encoded = (
        length_encoded 1 (97 ∷ []) (omega arith) (omega arith) (omega arith),
        (
          length_encoded 2 (bytes_of (feature_pieces first)) (omega arith) (omega arith) (omega arith),
          (
            length_encoded 2 (bytes_of (feature_pieces second)) (omega arith) (omega arith) (omega arith),
            (
              length_encoded 2 (bytes_of (feature_pieces third)) (omega arith) (omega arith) (omega arith),
              (number_encoded 15 2 (omega arith) (omega arith) (omega arith), tt),
            ),
          ),
        ),
      );
      joined = refl;
    }

layer_alone_of : LayerAlone (bytes_of (layer_pieces right_way wrong_way wrong_way)) (layer_of (example_feature right_way ∷ example_feature wrong_way ∷ example_feature wrong_way ∷ []))
layer_alone_of =
    joined_states StatesLayer StatesLayer-same (bytes_of (layer_pieces right_way wrong_way wrong_way)) (layer_pieces right_way wrong_way wrong_way) (layer_of (example_feature right_way ∷ example_feature wrong_way ∷ example_feature wrong_way ∷ []))
    (layer_pieced right_way wrong_way wrong_way right_nine wrong_nine wrong_nine) (layer_states right_way wrong_way wrong_way right_nine wrong_nine wrong_nine)

-- The tile

abbrev pub tile_pieces : List Piece
tile_pieces = length_piece 3 (bytes_of (layer_pieces right_way wrong_way wrong_way)) ∷ []

pub tile_pieced : IsPieced bytes_before tile_pieces
tile_pieced = record { encoded = (length_encoded 3 (bytes_of (layer_pieces right_way wrong_way wrong_way)) (omega arith) (omega arith) (omega arith), tt); joined = refl }

tile_states : StatesTile (fields_in tile_pieces) (example_tile (example_feature right_way ∷ example_feature wrong_way ∷ example_feature wrong_way ∷ []))
tile_states = record {
  keeps = schema_by_rules messages.Tile (fields_in tile_pieces)
      (All-from_recursion (FitsRule messages.Tile) (fields_in tile_pieces) (
        fits_by messages.Tile (length_piece 3 (bytes_of (layer_pieces right_way wrong_way wrong_way))).field (field_rule 3 Embedded AnyNumber) refl
            (delimited_fits (field_rule 3 Embedded AnyNumber) 2 (bytes_of (layer_pieces right_way wrong_way wrong_way)) refl (λ shape. absurd (cc)) (λ shape. absurd (cc))),
        tt,
      ))
      ((λ singular. absurd (cc), λ required. absurd (cc)), tt)
      (λ value. absurd (cc));
  layers = (layer_alone_of, tt);
}

pub tile_known : IsTile bytes_before (example_tile (example_feature right_way ∷ example_feature wrong_way ∷ example_feature wrong_way ∷ []))
tile_known =
    tile_placed bytes_before (example_tile (example_feature right_way ∷ example_feature wrong_way ∷ example_feature wrong_way ∷ []))
    (joined_states StatesTile StatesTile-same bytes_before tile_pieces (example_tile (example_feature right_way ∷ example_feature wrong_way ∷ example_feature wrong_way ∷ [])) tile_pieced tile_states)
