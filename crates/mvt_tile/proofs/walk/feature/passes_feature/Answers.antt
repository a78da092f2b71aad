use Rattle.std.proofs.Common.{inl, inr}
use Rattle.mvt_tile.proofs.RuleFaults.TagFaults.{no_tag_broken}
use Rattle.mvt_tile.proofs.walk.feature.passes_feature.Goals as goal

pub returns-clause-right : goal.returns-clause-right
returns-clause-right over c = λ kept. record {
  wire = c.in-Some.ensures.wire;
  passes = λ layer ordinal it is layer_record like.
      let encodes = c.in-Some.ensures.encodes it is in
      record {
        faultless = λ fault broken. elim broken [
          | inl of_tags ↦ no_tag_broken layer_record it layer ordinal (c.in_ok-tags_pass.ensures.tags c.if-not-branch.false it encodes layer_record like) fault of_tags
          | inr never ↦ never
        ];
        kept = c.keeps.ensures.kept kept it encodes;
      };
}
