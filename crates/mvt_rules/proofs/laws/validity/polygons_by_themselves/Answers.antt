use Rattle.mvt_rules.proofs.laws.validity.polygons_by_themselves.Goals as goal

pub returns : goal.returns
returns c bytes layer feature polygon vertex other shown = shown.3.2.inside
