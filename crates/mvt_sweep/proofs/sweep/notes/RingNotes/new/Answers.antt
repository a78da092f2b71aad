use Rattle.std.proofs.Common.{ℕ, replicate, sym, ◌∙◌, ap}
use Rattle.mvt_sweep.specs.Rings.{rings_of}
use Rattle.mvt_sweep.specs.declared.sweep.notes.Around.TheVariants.{Unknown}
use Rattle.mvt_sweep.proofs.Notes.NotesBegun.{all_new}
use Rattle.mvt_sweep.proofs.Vertices.RingReads.{count_of_rings}
use Rattle.mvt_sweep.proofs.sweep.notes.RingNotes.new.Goals as goal

pub returns : goal.returns
returns c =
    let rings = c.args.rings.now in
    let none = c.in_ok-vec.ensures.items_if_clones_equal (λ copy same. same) in
    all_new (rings_of rings) (record { index = c.in_ok-new.field-0; around = c.in_ok-vec.field-0; come_to = c.in_ok-with_capacity.field-0 }) c.in_ok-new.ensures
    (none ∙ ap (λ (n : ℕ). replicate n Unknown) (sym (count_of_rings rings))) c.in_ok-with_capacity.ensures.items
