use Rattle.std.proofs.lemmas.Result.{IfOk-weaker}
use Rattle.mvt_fault.specs.declared.profile.Profile.TheVariants.{Polygon, Feature}
use Rattle.mvt_gate.proofs.FaultListLaws.{list_found_by_polygon}
use Rattle.mvt_gate.proofs.FaultLists.{list_found}
use Rattle.mvt_gate.proofs.ValidGeometries.{after_tags}
use Rattle.mvt_gate.specs.declared.quick.Search.TheVariants.{Least, Quick}
use Rattle.mvt_gate.proofs.faults.list_faults.Goals as goal

pub faults_by-requires : goal.faults_by-requires
faults_by-requires c = record { after_tags = after_tags Polygon }

pub faults_by-requires-in-Least : goal.faults_by-requires-in-Least
faults_by-requires-in-Least c = record { after_tags = after_tags Feature }

pub faults_by-requires-in-Quick : goal.faults_by-requires-in-Quick
faults_by-requires-in-Quick c = record { after_tags = after_tags Feature }

pub returns-in-Polygon : goal.returns-in-Polygon
returns-in-Polygon c = rw c.in-Polygon.is (IfOk-weaker c.faults_by.result _ _ (λ faults. list_found_by_polygon c.args.search c.args.bytes.now faults.items) c.faults_by.ensures)

pub returns-in-Least : goal.returns-in-Least
returns-in-Least c = rw (c.in-Feature.is, c.in-Least.is) (IfOk-weaker c.faults_by-in-Least.result _ _ (λ faults. list_found Least Feature c.args.bytes.now faults.items) c.faults_by-in-Least.ensures)

pub returns-in-Quick : goal.returns-in-Quick
returns-in-Quick c = rw (c.in-Feature.is, c.in-Quick.is) (IfOk-weaker c.faults_by-in-Quick.result _ _ (λ faults. list_found Quick Feature c.args.bytes.now faults.items) c.faults_by-in-Quick.ensures)
