use Rattle.std.proofs.Common.{◌<◌, length, sym, ◌∙◌, subst}
use Rattle.mvt_wire.specs.Field.{FieldDefect}
use Rattle.mvt_wire.specs.Walk.{Walk}
use Rattle.mvt_wire.specs.declared.cause.WireCause.{WireCause}
use Rattle.mvt_wire.proofs.fields.Fields.next_usual.Goals as goal

-- no defect is where the walk is
abbrev Whole : Walk → Type 0
Whole walk = (cause : WireCause) → walk.at < length walk.bytes → ¬ FieldDefect walk.bytes walk.at cause

pub next_of-requires-2-clause-whole : goal.next_of-requires-2-clause-whole
next_of-requires-2-clause-whole c = subst Whole (sym c.in_default.ensures.unchanged) c.requires.whole

pub next_of-requires-3-clause-whole : goal.next_of-requires-3-clause-whole
next_of-requires-3-clause-whole c = subst Whole (sym (c.in_default-next_of.ensures.unchanged ∙ c.in_default.ensures.unchanged)) c.requires.whole

pub next_of-requires-4-clause-whole : goal.next_of-requires-4-clause-whole
next_of-requires-4-clause-whole c = subst Whole (sym (c.in_default-next_of-2.ensures.unchanged ∙ c.in_default-next_of.ensures.unchanged ∙ c.in_default.ensures.unchanged)) c.requires.whole

pub next_whole-requires : goal.next_whole-requires
next_whole-requires c =
    subst Whole (sym (c.in_default-next_of-3.ensures.unchanged ∙ c.in_default-next_of-2.ensures.unchanged ∙ c.in_default-next_of.ensures.unchanged ∙ c.in_default.ensures.unchanged)) c.requires.whole
