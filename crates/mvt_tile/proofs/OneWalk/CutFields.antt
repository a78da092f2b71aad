-- A field of bytes that are cut after it.
use Rattle.std.proofs.Common.{◌≡◌, ℕ, ◌≤◌, List, length, take, drop, slice_range, refl, sym, ◌∙◌, ap, arith}
use Rattle.std.proofs.lemmas.List.{length-take-le, take-append-drop}
use Rattle.mvt_wire.specs.Field.{Content, varint, delimited, Entry, IsField, IsPayload}
use Rattle.mvt_wire.specs.declared.field.Field.{Field}
use Rattle.mvt_wire.specs.declared.schema.Message.{Message}
use Rattle.mvt_wire.proofs.Encoding.Entries.{payload_extent, slice_range-append}
use Rattle.mvt_wire.proofs.Encoding.VarintLists.{EncodesVarint-take}
use Rattle.mvt_tile.specs.Calls.FieldScan.{PassesNext}
use Rattle.mvt_tile.specs.declared.wire.scan.FieldScan.{FieldScan}

slice_range-take : (bytes : List ℕ) (cut from to : ℕ) → from ≤ to → to ≤ cut → cut ≤ length bytes → slice_range bytes from to ≡ slice_range (take cut bytes) from to
slice_range-take bytes cut from to forward following inside =
    let size = length-take-le cut bytes inside in
    ap (λ (whole : List ℕ). slice_range whole from to) (sym (take-append-drop cut bytes)) ∙ slice_range-append (take cut bytes) (drop cut bytes) from to forward (omega arith)

IsPayload-take : (bytes : List ℕ) (cut from to : ℕ) (content : Content) → from ≤ to → to ≤ cut → cut ≤ length bytes → IsPayload bytes from to content → IsPayload (take cut bytes) from to content
IsPayload-take bytes cut from to (varint value at) forward following inside p = (p.0, EncodesVarint-take bytes cut from to value following inside p.1)
IsPayload-take bytes cut from to (delimited start part) forward following inside p =
    let size = length-take-le cut bytes inside in
    (p.0, EncodesVarint-take bytes cut from start p.0 (omega arith) inside p.1, p.2, omega arith, p.4 ∙ slice_range-take bytes cut start to (omega arith) following inside)
IsPayload-take bytes cut from to content forward following inside p =
    let size = length-take-le cut bytes inside in (p.0, omega arith, p.2 ∙ slice_range-take bytes cut from to forward following inside)

IsField-take : (bytes : List ℕ) (cut to : ℕ) (entry : Entry) → to ≤ cut → cut ≤ length bytes → IsField bytes to entry → IsField (take cut bytes) to entry
IsField-take bytes cut to entry following inside field =
    let extent = payload_extent bytes field.key_end to entry.content field.key.encoded.within field.payload in
    record {
      key_end = field.key_end;
      key = record {
        encoded = EncodesVarint-take bytes cut entry.at field.key_end _ (omega arith) inside field.key.encoded;
        below_limit = field.key.below_limit;
        numbered = field.key.numbered;
        low_bits = field.key.low_bits;
      };
      payload = IsPayload-take bytes cut field.key_end to entry.content extent.0 following inside field.payload;
    }

-- what was passed in all the bytes was passed in those up to its end
pub passes_cut : (message : Message) (bytes : List ℕ) (from to : ℕ) → to ≤ length bytes → {old new : FieldScan} {read : Field × ℕ} → PassesNext message bytes from old new read → read.1 ≡ to → PassesNext message (take to bytes) from old new read
passes_cut message bytes from to within next end =
    let given = next.given in
    let size = length-take-le to bytes within in
    let further = given.further in
    record {
      given = record {
        left = omega arith;
        here = given.here;
        encoded = IsField-take bytes to _ _ (omega arith) within given.encoded;
        further = further;
        within = omega arith;
        same_bytes = refl;
      };
      passed = next.passed;
    }
