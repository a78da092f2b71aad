use Rattle.std.proofs.Common.{refl, rules}
use Rattle.std.proofs.lemmas.Str.{IsUtf8-from_ascii}
use Rattle.mvt_wire.proofs.utf8.is_text.Goals as goal

pub returns-then-is_ascii : goal.returns-then-is_ascii
returns-then-is_ascii c = (λ is. IsUtf8-from_ascii c.args.part.now (c.if-is_ascii.ensures refl), λ is. search rules)
