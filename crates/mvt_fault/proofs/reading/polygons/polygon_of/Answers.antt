use Rattle.mvt_fault.proofs.reading.polygons.polygon_of.Goals as goal

pub returns : goal.returns
returns c = record { layer = c.ordinal_at.ensures; feature = c.ordinal_at-2.ensures; polygon = c.ordinal_at-3.ensures }
