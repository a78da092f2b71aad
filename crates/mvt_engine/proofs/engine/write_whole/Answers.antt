use Rattle.std.proofs.Common.{ℕ, length, take}
use Rattle.std.proofs.lemmas.Result.{IfErr-weaker}
use Rattle.mvt_engine.specs.Engine.{Writes}
use Rattle.mvt_engine.proofs.EngineLemmas.{take_whole, Writes-kept}
use Rattle.mvt_engine.proofs.engine.write_whole.Goals as goal

-- a flush that fails leaves the whole line written
pub returns-clause-prefix : goal.returns-clause-prefix
returns-clause-prefix g c =
    let first = c.args.writer.now in
    let line = c.args.line.now in
    let flushed = c.flush_all.new.writer in
    let written = Writes-kept g.W.Write.contents first c.write_bytes.new.writer flushed line
    c.in_ok-write_bytes.ensures.whole c.flush_all.ensures.kept c.flush_all.ensures.bytes in
    IfErr-weaker c.flush_all.result _ (λ _. (k : ℕ) × Writes g.W.Write.contents first flushed (take k line))
    (λ _ _. (length line, take_whole g.W.Write.contents first flushed line written)) c.flush_all.ensures.write
