-- Chains of edges that the line of a sweep meets: each has the number of the edge that it began with, and goes on with the
-- next edges of its ring.
use Rattle.std.specs.Prelude.{◌≡◌, ◌+◌, ◌<◌, ◌==◌, cond, ℕ, List, [], ◌∷◌, get_or, length, map, Option, Some, None, ◌⊎◌, ◌<ℤ◌}
use Rattle.mvt_plane.specs.Geometry.Measure.{key_of}
use Rattle.mvt_sweep.specs.Calls.Chain.{Has}
use Rattle.mvt_sweep.specs.Calls.SweepVertices.{sweep_count, plan_of}
use Rattle.mvt_sweep.specs.declared.sweep.chains.Chains.{Chains}
use Rattle.mvt_sweep.specs.declared.sweep.chains.Link.{Link}
use Rattle.mvt_sweep.specs.declared.sweep.vertices.SweepVertices.{SweepVertices}

-- the edge of a chain, or the chain of an edge
abbrev pub edge_of : Chains → ℕ → ℕ
edge_of chains number = get_or chains.twins.items number 0

-- the edges of chains
abbrev pub edges_of : Chains → List ℕ → List ℕ
edges_of chains list = map (edge_of chains) list

-- in place of a link that isn't there
abbrev pub no_link : Link
no_link = record { below = 0; above = 0 }

-- the chain directly below one, and the one directly above it
abbrev pub below_of : Chains → ℕ → ℕ
below_of chains chain = (get_or chains.links.items chain no_link).below

abbrev pub above_of : Chains → ℕ → ℕ
above_of chains chain = (get_or chains.links.items chain no_link).above

-- what stands for the chain below the lowest one and for the one above the highest one
abbrev pub outside_of : Chains → ℕ
outside_of chains = length chains.twins.items

-- the edge of a chain, if it isn't what is outside
abbrev pub edge_beside : Chains → ℕ → Option ℕ
edge_beside chains chain = cond (chain == outside_of chains) None (Some (edge_of chains chain))

-- the edge of a chain that may be there
abbrev pub edge_in : Chains → Option ℕ → Option ℕ
edge_in chains None = None
edge_in chains (Some chain) = Some (edge_of chains chain)

-- from the first number the next one leads over all of the list to the last
abbrev pub LeadsOn : (ℕ → ℕ) → ℕ → List ℕ → ℕ → Type 0
LeadsOn next first [] last = next first ≡ last
LeadsOn next first (number ∷ rest) last = (next first ≡ number) × LeadsOn next number rest last

-- from the last number the previous one leads back over all of the list to the first
abbrev pub LeadsBack : (ℕ → ℕ) → ℕ → List ℕ → ℕ → Type 0
LeadsBack previous first [] last = previous last ≡ first
LeadsBack previous first (number ∷ rest) last = (previous number ≡ first) × LeadsBack previous number rest last

-- a chain knows its edge, and the edge its chain. It is the edge that the chain began with, or a later one
pub record IsChain (vertices : SweepVertices) (chains : Chains) (chain : ℕ) : Type 0 where
  pub within : chain < sweep_count vertices
  pub back : edge_of chains (edge_of chains chain) ≡ chain
  pub begun : (edge_of chains chain ≡ chain) ⊎ (key_of ((plan_of vertices).segment chain).low <ℤ key_of ((plan_of vertices).segment (edge_of chains chain)).low)

-- these are all chains, in their order
pub record AreChains (vertices : SweepVertices) (chains : Chains) (list : List ℕ) : Type 0 where
  pub numbers : length chains.twins.items ≡ sweep_count vertices
  pub links : length chains.links.items ≡ sweep_count vertices + 1
  pub each : (chain : ℕ) → Has list chain → IsChain vertices chains chain
  pub above : LeadsOn (above_of chains) (outside_of chains) list (outside_of chains)
  pub below : LeadsBack (below_of chains) (outside_of chains) list (outside_of chains)
