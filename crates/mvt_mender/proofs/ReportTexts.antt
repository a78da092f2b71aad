-- What is written of changes, piece by piece.
use Rattle.std.proofs.Common.{◌≡◌, ℕ, List, ◌++◌, codes, decimal, Result, Ok, Err, OnOk, if◌then◌else◌, append_assoc}
use Rattle.std.specs.Result.{is_ok}
use Rattle.serde_json.proofs.OnLiterals.{serde_json_on_literals}
use Rattle.serde_json.specs.Written.{compact_text}
use Rattle.mvt_fault.specs.Text.{digits, whole_number}
use Rattle.mvt_engine.specs.Dump.{list_data}
use Rattle.mvt_mender.specs.Report.{change_data, mended_data, pair_data, report_text}
use Rattle.mvt_mender.specs.declared.mending.FeatureChange.{FeatureChange}
use Rattle.mvt_mender.specs.declared.mending.MendedFeature.{MendedFeature}

-- the whole text
pub report_written : (changes : List FeatureChange) (t1 t2 t3 : List ℕ) → t1 ≡ codes "{\"changed\":" → t2 ≡ t1 ++ compact_text (list_data change_data changes) → t3 ≡ t2 ++ codes ",\"ok\":true}" → t3 ≡ report_text changes
unfolding serde_json_on_literals
report_written changes t1 t2 t3 e1 e2 e3 = rw (e3, e2, e1) (simp append_assoc)

-- a feature that was mended
pub mended_pushed : {E : Type 0} (result : Result (Unit {0}) E) (layer feature : ℕ) (mended : MendedFeature) (t0 t1 t2 t3 t4 t5 t6 t7 t8 t9 : List ℕ) → t1 ≡ t0 ++ codes "{\"area\":"
    → t2 ≡ t1 ++ compact_text (pair_data (digits mended.before.doubled_area) (digits mended.after.doubled_area))
    → t3 ≡ t2 ++ (codes ",\"crossings\":" ++ (decimal mended.crossings ++ (codes ",\"cuts\":" ++ decimal mended.cuts)))
    → t4 ≡ t3 ++ (codes ",\"feature\":" ++ (decimal feature ++ (codes ",\"layer\":" ++ decimal layer)))
    → t5 ≡ t4 ++ codes ",\"polygons\":"
    → t6 ≡ t5 ++ compact_text (pair_data (whole_number mended.before.polygons) (whole_number mended.after.polygons))
    → t7 ≡ t6 ++ codes ",\"vertices\":"
    → t8 ≡ t7 ++ compact_text (pair_data (whole_number mended.before.vertices) (whole_number mended.after.vertices))
    → t9 ≡ (if is_ok result then t8 ++ codes ",\"what\":\"mended\"}" else t8)
    → OnOk result (t9 ≡ t0 ++ compact_text (mended_data layer feature mended))
unfolding serde_json_on_literals
mended_pushed (Ok unit) layer feature mended t0 t1 t2 t3 t4 t5 t6 t7 t8 t9 e1 e2 e3 e4 e5 e6 e7 e8 e9 = rw (e9, e8, e7, e6, e5, e4, e3, e2, e1) (simp append_assoc)
mended_pushed (Err error) layer feature mended t0 t1 t2 t3 t4 t5 t6 t7 t8 t9 e1 e2 e3 e4 e5 e6 e7 e8 e9 = tt
