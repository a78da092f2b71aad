use Rattle.std.proofs.Common.{arith, rules}
use Rattle.mvt_engine.proofs.EngineLemmas.{ReadsBytes-more}
use Rattle.mvt_engine.proofs.engine.read_whole.Goals as goal

-- the bytes that are too many were counted
pub returns-then-n-len-clause-reading : goal.returns-then-n-len-clause-reading
returns-then-n-len-clause-reading g c =
    let took = c.in-Ok.ensures in
    record {
      read = search rules;
      too_large = search rules;
      memory = search rules;
      counted = ReadsBytes-more g.R.Read.remaining _ c.chunks.reader _ _ c.read.new.buf _ c.in-Ok.n _ c.chunks.invariant
          took.bytes.0 took.bound.0 (omega arith) took.moved;
      no_claim = search rules;
    }

-- so were those that found no memory
pub returns-then-is_err-clause-reading : goal.returns-then-is_err-clause-reading
returns-then-is_err-clause-reading g c =
    let took = c.in-Ok.ensures in
    record {
      read = search rules;
      too_large = search rules;
      memory = search rules;
      counted = ReadsBytes-more g.R.Read.remaining _ c.chunks.reader _ _ c.read.new.buf _ c.in-Ok.n _ c.chunks.invariant
          took.bytes.0 took.bound.0 (omega arith) took.moved;
      no_claim = search rules;
    }
