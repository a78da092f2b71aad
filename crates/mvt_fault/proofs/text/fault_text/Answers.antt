use Rattle.std.proofs.lemmas.Result.{IfOk-weaker}
use Rattle.mvt_fault.proofs.Decoding.{Reads-string_bytes, Reads-unique}
use Rattle.mvt_fault.proofs.text.fault_text.Goals as goal

pub returns-clause-holds : goal.returns-clause-holds
returns-clause-holds c =
    let made = c.in_ok-fault_object.ensures in
    IfOk-weaker c.to_string.result _ _ (λ s back. Reads-string_bytes c.args.fault.now _ s made.object made.in_range back) c.to_string.ensures.reads_back

pub returns-clause-alone : goal.returns-clause-alone
returns-clause-alone c =
    IfOk-weaker c.to_string.result _ _ (λ s reads f other. Reads-unique _ _ f reads other) (returns-clause-holds c)
