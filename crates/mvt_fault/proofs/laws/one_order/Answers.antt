use Rattle.mvt_fault.proofs.Places.{ComesFirst-reflexive, ComesFirst-antisymmetric, ComesFirst-transitive, ComesFirst-total}
use Rattle.mvt_fault.proofs.laws.one_order.Goals as goal

pub returns : goal.returns
returns c = record {
  reflexive = ComesFirst-reflexive;
  antisymmetric = ComesFirst-antisymmetric;
  transitive = ComesFirst-transitive;
  total = ComesFirst-total;
}
