use Rattle.mvt_splice.proofs.SplicedExamples.KnownChanges.{spliced_known, unspliced_known, tile_left, once_known, valid_after_known}
use Rattle.mvt_splice.proofs.SplicedExamples.KnownTile.{tile_known}
use Rattle.mvt_splice.proofs.laws.examples.one_of_each_fate.Goals as goal

pub returns-clause-before : goal.returns-clause-before
returns-clause-before c = tile_known

pub returns-clause-spliced : goal.returns-clause-spliced
returns-clause-spliced c = spliced_known

pub returns-clause-unspliced : goal.returns-clause-unspliced
returns-clause-unspliced c = unspliced_known

pub returns-clause-left : goal.returns-clause-left
returns-clause-left c = tile_left

pub returns-clause-once : goal.returns-clause-once
returns-clause-once c = once_known

pub returns-clause-valid : goal.returns-clause-valid
returns-clause-valid c = valid_after_known
