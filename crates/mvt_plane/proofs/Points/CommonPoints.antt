-- Common points of two edges: whether a rational point is one, and what the named one says
use Rattle.std.proofs.Common.{◌≡◌, Option, Some, None, refl, sym, subst}
use Rattle.std.proofs.Math.Decide.{map_dec}
use Rattle.std.proofs.lemmas.Option.{none-some, same_Some}
use Rattle.mvt_plane.specs.Geometry.CommonPoint.{IsCommon, IsNamed, none, first_a, first_b, second_a, second_b, crossing}
use Rattle.mvt_plane.specs.Position.{Position}
use Rattle.mvt_plane.specs.Geometry.RationalPoint.{RationalPoint, LiesOn, IsAt}
use Rattle.mvt_plane.specs.declared.geometry.edge.Edge.{Edge}
use Rattle.mvt_plane.proofs.Points.RationalPoints.{is_at_decide, lies_on_decide}

-- the rational point is the vertex that is shared
pub record IsSharedVertex (shared : Option Position) (point : RationalPoint) : Type 0 where
  pub vertex : Position
  pub there : shared ≡ Some vertex
  pub at : IsAt point vertex

-- whether it is
pub is_shared_decide : (shared : Option Position) (point : RationalPoint) → Dec (IsSharedVertex shared point)
is_shared_decide None point = no (λ it. none-some it.vertex it.there)
is_shared_decide (Some vertex) point =
    map_dec (λ at. record { vertex = vertex; there = refl; at = at }) (λ it. subst (IsAt point) (sym (same_Some vertex it.vertex it.there)) it.at) (is_at_decide point vertex)

-- a point of both edges that isn't the shared vertex
pub is_common : (shared : Option Position) (first second : Edge) (point : RationalPoint) → LiesOn point first → LiesOn point second → ¬ IsSharedVertex shared point → IsCommon shared first second point
is_common shared first second point on_first on_second apart =
    record { on_first = on_first; on_second = on_second; apart = λ vertex there at. apart (record { vertex = vertex; there = there; at = at }) }

-- a point of both edges is the shared vertex where it isn't a common one
pub shared_or_common : (shared : Option Position) (first second : Edge) (point : RationalPoint) → LiesOn point first → LiesOn point second → ¬ IsCommon shared first second point → IsSharedVertex shared point
shared_or_common shared first second point on_first on_second not_common =
    elim (is_shared_decide shared point) [ yes it ↦ it | no apart ↦ absurd (not_common (is_common shared first second point on_first on_second apart)) ]

-- whether a rational point is common
pub IsCommon-decide : (shared : Option Position) (first second : Edge) (point : RationalPoint) → Dec (IsCommon shared first second point)
IsCommon-decide shared first second point = from (lies_on_decide point first) (lies_on_decide point second) (is_shared_decide shared point)
  where
    from : Dec (LiesOn point first) → Dec (LiesOn point second) → Dec (IsSharedVertex shared point) → Dec (IsCommon shared first second point)
    from (yes on_first) (yes on_second) (no apart) = yes (is_common shared first second point on_first on_second apart)
    from (yes on_first) (yes on_second) (yes it) = no (λ common. common.apart it.vertex it.there it.at)
    from (yes on_first) (no off) it = no (λ common. off common.on_second)
    from (no off) on_second it = no (λ common. off common.on_first)

-- where none is named, there is none
pub none_is_common : (shared : Option Position) (first second : Edge) → IsNamed shared first second None → (point : RationalPoint) → ¬ IsCommon shared first second point
none_is_common shared first second (none same apart) = apart
none_is_common shared first second (first_a same common) = absurd (none-some _ same)
none_is_common shared first second (first_b same common a) = absurd (none-some _ same)
none_is_common shared first second (second_a same common a b) = absurd (none-some _ same)
none_is_common shared first second (second_b same common a b c) = absurd (none-some _ same)
none_is_common shared first second (crossing point same ends common w) = absurd (none-some _ same)

-- so two edges meet only at the vertex that they share
pub only_at_the_shared_vertex : (shared : Option Position) (first second : Edge) (point : RationalPoint) → IsNamed shared first second None → LiesOn point first → LiesOn point second → (vertex : Position) × (shared ≡ Some vertex) × IsAt point vertex
only_at_the_shared_vertex shared first second point named on_first on_second =
    let it = shared_or_common shared first second point on_first on_second (none_is_common shared first second named point) in
    (it.vertex, it.there, it.at)

-- what is common under one name is so under another
named : (shared : Option Position) (first second : Edge) (other point : RationalPoint) → IsCommon shared first second other → Some point ≡ Some other → IsCommon shared first second point
named shared first second other point common same = subst (λ (p : RationalPoint). IsCommon shared first second p) (sym (same_Some point other same)) common

-- the point that is named is a common point
pub named_is_common : (shared : Option Position) (first second : Edge) (point : RationalPoint) → IsNamed shared first second (Some point) → IsCommon shared first second point
named_is_common shared first second point (none same apart) = absurd (none-some point (sym same))
named_is_common shared first second point (first_a same common) = named shared first second _ point common same
named_is_common shared first second point (first_b same common a) = named shared first second _ point common same
named_is_common shared first second point (second_a same common a b) = named shared first second _ point common same
named_is_common shared first second point (second_b same common a b c) = named shared first second _ point common same
named_is_common shared first second point (crossing other same ends common w) = named shared first second other point common same
