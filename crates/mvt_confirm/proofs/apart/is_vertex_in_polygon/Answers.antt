use Rattle.mvt_confirm.proofs.apart.is_vertex_in_polygon.Goals as goal

pub returns-in-Feature : goal.returns-in-Feature
returns-in-Feature c = λ rings draws. rw c.in-Feature.is (c.is_vertex_in_another.ensures rings draws)
