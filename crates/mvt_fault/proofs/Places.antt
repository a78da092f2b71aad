-- The order of places is total, and is that of the comparison of lists. A place determines its fault, or a meeting's
-- polygon.
use Rattle.std.proofs.Common.{◌≡◌, ◌≢◌, ◌↔◌, ℕ, ◌<◌, ◌⊎◌, inl, inr, IsTrue, ◌==◌, if◌then◌else◌, pos, List, [], ◌∷◌, refl, sym, ◌∙◌, subst, ap, get_or, arith, Some, Ordering, Less, Equal, Greater}
use Rattle.std.specs.Ordering.{ordering_then, nat_cmp, MatchOrdering, is_le, is_some_and}
use Rattle.std.specs.Cmp.{ranks}
use Rattle.std.specs.Cmp.Lexicographic.{slice_cmp, slice_partial_cmp, lists_agrees}
use Rattle.mvt_fault.specs.Place.{place_of, ComesFirst, IsMeetingIn, AreMeetingsInOne}
use Rattle.mvt_fault.specs.declared.fault.Fault.{Fault}
use Rattle.mvt_fault.specs.declared.fault.Fault.TheVariants.{Wire, Version, Name, Tag, Command, Ring, Meeting, Outside, HoleInHole, InPolygon}
use Rattle.mvt_fault.specs.declared.ring.RingEdge.{RingEdge}
use Rattle.mvt_wire.specs.declared.scope.Scope.{Scope}
use Rattle.mvt_wire.specs.declared.scope.Scope.TheVariants.{Tile, Layer, Value, Feature}
use Rattle.mvt_fault.proofs.Causes.{wire_code_at, wire_code_at-code_of, tag_code_at, tag_code_at-tag_code, command_code_at, command_code_at-command_code, ring_code_at, ring_code_at-ring_code}

-- a place comes first before itself
pub ComesFirst-reflexive : (xs : List ℕ) → ComesFirst xs xs
ComesFirst-reflexive [] = tt
ComesFirst-reflexive (x ∷ xs) = inr (refl, ComesFirst-reflexive xs)

-- two places that come first before each other are the same
pub ComesFirst-antisymmetric : (xs ys : List ℕ) → ComesFirst xs ys → ComesFirst ys xs → xs ≡ ys
ComesFirst-antisymmetric [] [] p q = refl
ComesFirst-antisymmetric [] (y ∷ ys) p q = absurd q
ComesFirst-antisymmetric (x ∷ xs) [] p q = absurd p
ComesFirst-antisymmetric (x ∷ xs) (y ∷ ys) (inl p) (inl q) = absurd (omega arith)
ComesFirst-antisymmetric (x ∷ xs) (y ∷ ys) (inl p) (inr q) = absurd (omega arith)
ComesFirst-antisymmetric (x ∷ xs) (y ∷ ys) (inr p) (inl q) = absurd (omega arith)
ComesFirst-antisymmetric (x ∷ xs) (y ∷ ys) (inr p) (inr q) = λ i. p.0 i ∷ ComesFirst-antisymmetric xs ys p.1 q.1 i

-- what comes first before a place that comes first before a third comes first before that
pub ComesFirst-transitive : (xs ys zs : List ℕ) → ComesFirst xs ys → ComesFirst ys zs → ComesFirst xs zs
ComesFirst-transitive [] ys zs p q = tt
ComesFirst-transitive (x ∷ xs) [] zs p q = absurd p
ComesFirst-transitive (x ∷ xs) (y ∷ ys) [] p q = absurd q
ComesFirst-transitive (x ∷ xs) (y ∷ ys) (z ∷ zs) (inl p) (inl q) = inl (omega arith)
ComesFirst-transitive (x ∷ xs) (y ∷ ys) (z ∷ zs) (inl p) (inr q) = inl (omega arith)
ComesFirst-transitive (x ∷ xs) (y ∷ ys) (z ∷ zs) (inr p) (inl q) = inl (omega arith)
ComesFirst-transitive (x ∷ xs) (y ∷ ys) (z ∷ zs) (inr p) (inr q) = inr (p.0 ∙ q.0, ComesFirst-transitive xs ys zs p.1 q.1)

-- what an ordering says of two places
abbrev Decides : Ordering → List ℕ → List ℕ → Type 0
Decides ordering xs ys = MatchOrdering ordering (ComesFirst xs ys × (xs ≢ ys)) (xs ≡ ys) (ComesFirst ys xs × (xs ≢ ys))

decides_by_heads : (x y : ℕ) (xs ys : List ℕ) (r o : Ordering) → MatchOrdering r (x < y) (x ≡ y) (y < x) → Decides o xs ys → Decides (ordering_then r o) (x ∷ xs) (y ∷ ys)
decides_by_heads x y xs ys Less o below rest = (inl below, λ same. let heads : x ≡ y = cc same in omega arith)
decides_by_heads x y xs ys Equal Less same rest = (inr (same, rest.0), λ all. rest.1 (cc all))
decides_by_heads x y xs ys Equal Equal same rest = λ i. same i ∷ rest i
decides_by_heads x y xs ys Equal Greater same rest = (inr (sym same, rest.0), λ all. rest.1 (cc all))
decides_by_heads x y xs ys Greater o above rest = (inl above, λ same. let heads : x ≡ y = cc same in omega arith)

-- the comparison of lists gives the order
decides : (xs ys : List ℕ) → Decides (slice_cmp nat_cmp xs ys) xs ys
decides [] [] = refl
decides [] (y ∷ ys) = (tt, λ same. cc same)
decides (x ∷ xs) [] = (tt, λ same. cc same)
decides (x ∷ xs) (y ∷ ys) = decides_by_heads x y xs ys (nat_cmp x y) (slice_cmp nat_cmp xs ys) (ranks x y) (decides xs ys)

-- of two places one comes first
pub ComesFirst-total : (xs ys : List ℕ) → ComesFirst xs ys ⊎ ComesFirst ys xs
ComesFirst-total xs ys = one (slice_cmp nat_cmp xs ys) (decides xs ys)
  where
    one : (o : Ordering) → Decides o xs ys → ComesFirst xs ys ⊎ ComesFirst ys xs
    one Less h = inl h.0
    one Equal h = inl (subst (ComesFirst xs) h (ComesFirst-reflexive xs))
    one Greater h = inr h.0

-- what each answer of a comparison says
answers_decide : (o : Ordering) (xs ys : List ℕ) → Decides o xs ys
    → ((o ≡ Less) ↔ (ComesFirst xs ys × (xs ≢ ys))) × ((o ≡ Equal) ↔ (xs ≡ ys)) × ((o ≡ Greater) ↔ (ComesFirst ys xs × (xs ≢ ys)))
answers_decide Less xs ys h = (
  (λ e. h, λ p. refl),
  (λ e. cc e, λ p. absurd (h.1 p)),
  (λ e. cc e, λ p. absurd (h.1 (ComesFirst-antisymmetric xs ys h.0 p.0))),
)
answers_decide Equal xs ys h = ((λ e. cc e, λ p. absurd (p.1 h)), (λ e. h, λ p. refl), (λ e. cc e, λ p. absurd (p.1 h)))
answers_decide Greater xs ys h = (
  (λ e. cc e, λ p. absurd (h.1 (ComesFirst-antisymmetric xs ys p.0 h.0))),
  (λ e. cc e, λ p. absurd (h.1 p)),
  (λ e. h, λ p. refl),
)

pub less_decides : (o : Ordering) (xs ys : List ℕ) → o ≡ slice_cmp nat_cmp xs ys → (o ≡ Less) ↔ (ComesFirst xs ys × (xs ≢ ys))
less_decides o xs ys is = (answers_decide o xs ys (rw is (decides xs ys))).0

pub equal_decides : (o : Ordering) (xs ys : List ℕ) → o ≡ slice_cmp nat_cmp xs ys → (o ≡ Equal) ↔ (xs ≡ ys)
equal_decides o xs ys is = (answers_decide o xs ys (rw is (decides xs ys))).1

pub greater_decides : (o : Ordering) (xs ys : List ℕ) → o ≡ slice_cmp nat_cmp xs ys → (o ≡ Greater) ↔ (ComesFirst ys xs × (xs ≢ ys))
greater_decides o xs ys is = (answers_decide o xs ys (rw is (decides xs ys))).2

pub up_to_decides : (xs ys : List ℕ) → IsTrue (is_some_and is_le (slice_partial_cmp (λ x y. Some (nat_cmp x y)) xs ys)) ↔ ComesFirst xs ys
up_to_decides xs ys = rw (lists_agrees {C = λ x y. Some (nat_cmp x y)} (λ x y. refl) xs ys) (up_to (slice_cmp nat_cmp xs ys) xs ys (decides xs ys))
  where
    up_to : (o : Ordering) (xs ys : List ℕ) → Decides o xs ys → IsTrue (is_le o) ↔ ComesFirst xs ys
    up_to Less xs ys h = (λ e. h.0, λ p. refl)
    up_to Equal xs ys h = (λ e. subst (ComesFirst xs) h (ComesFirst-reflexive xs), λ p. refl)
    up_to Greater xs ys h = (λ e. absurd (cc e), λ p. absurd (h.1 (ComesFirst-antisymmetric xs ys p h.0)))

-- the scope by the first numbers of a place
abbrev scope_at : List ℕ → Scope
scope_at place =
    if get_or place 1 0 == 0 then Tile else
    (if get_or place 3 0 == 0 then Layer (get_or place 2 0) else
    (if get_or place 3 0 == 1 then Value (get_or place 2 0) (get_or place 4 0) else Feature (get_or place 2 0) (get_or place 4 0)))

-- an edge of a meeting, whose place has no numbers of edges
abbrev no_edge : RingEdge
no_edge = record { ring = 0; edge = 0 }

-- a meeting in a polygon; its place says no more
abbrev some_meeting : ℕ → ℕ → ℕ → Fault
some_meeting layer feature polygon = Meeting layer feature polygon no_edge no_edge (pos 0) (pos 0) (pos 0)

-- the fault of a polygon at a place
abbrev polygon_fault_at : List ℕ → Fault
polygon_fault_at place =
    let layer = get_or place 1 0 in
    let feature = get_or place 2 0 in
    let polygon = get_or place 4 0 in
    if get_or place 5 0 == 0 then some_meeting layer feature polygon else
    (if get_or place 5 0 == 2 then InPolygon layer feature polygon (get_or place 6 0) (get_or place 8 0) else
    (if get_or place 8 0 == 505 then Outside layer feature polygon (get_or place 6 0) (get_or place 7 0) else
    HoleInHole layer feature polygon (get_or place 6 0) (get_or place 7 0) (get_or place 9 0)))

-- the fault of a feature at a place
abbrev feature_fault_at : List ℕ → Fault
feature_fault_at place =
    let layer = get_or place 1 0 in
    let feature = get_or place 2 0 in
    let index = get_or place 4 0 in
    let code = get_or place 5 0 in
    if get_or place 3 0 == 0 then Tag (tag_code_at code) layer feature index else
    (if get_or place 3 0 == 1 then Command (command_code_at code) layer feature index else
    (if get_or place 3 0 == 2 then Ring (ring_code_at code) layer feature index else polygon_fault_at place))

-- the fault at a place
abbrev fault_at : List ℕ → Fault
fault_at place =
    if get_or place 0 0 == 0 then Wire (wire_code_at (get_or place 6 0)) (scope_at place) (get_or place 5 0) (get_or place 7 0) else
    (if get_or place 0 0 == 2 then feature_fault_at place else
    (if get_or place 2 0 == 201 then Version (get_or place 1 0) else Name (get_or place 3 0) (get_or place 1 0)))

-- the place determines the fault, or a meeting's polygon
abbrev IsTold : Fault → Type 0
IsTold fault = (fault_at (place_of fault) ≡ fault)
    ⊎ ((layer : ℕ) × (feature : ℕ) × (polygon : ℕ) × IsMeetingIn layer feature polygon fault × (fault_at (place_of fault) ≡ some_meeting layer feature polygon))

-- so it is with every fault
told : (fault : Fault) → IsTold fault
told (Wire code Tile at field) = inl (ap (λ c. Wire c Tile at field) (wire_code_at-code_of code))
told (Wire code scope at field) = inl (ap (λ c. Wire c scope at field) (wire_code_at-code_of code))
told (Tag code layer feature index) = inl (ap (λ c. Tag c layer feature index) (tag_code_at-tag_code code))
told (Command code layer feature index) = inl (ap (λ c. Command c layer feature index) (command_code_at-command_code code))
told (Ring code layer feature ring) = inl (ap (λ c. Ring c layer feature ring) (ring_code_at-ring_code code))
told (Meeting layer feature polygon first second x y w) = inr (layer, feature, polygon, record { first = first; second = second; x = x; y = y; w = w; is = refl }, refl)
told fault = inl refl

-- what is equal to such a meeting is a meeting in that polygon
is_some_meeting : (layer feature polygon : ℕ) (fault : Fault) → fault ≡ some_meeting layer feature polygon → IsMeetingIn layer feature polygon fault
is_some_meeting layer feature polygon fault is = record { first = no_edge; second = no_edge; x = pos 0; y = pos 0; w = pos 0; is = is }

-- faults with one place are the same, or meetings in one polygon
pub same_place_or_meetings : (fault other : Fault) → place_of fault ≡ place_of other → (fault ≡ other) ⊎ AreMeetingsInOne fault other
same_place_or_meetings fault other same = by (told fault) (told other)
  where
    alike : fault_at (place_of fault) ≡ fault_at (place_of other)
    alike = ap fault_at same

    by : IsTold fault → IsTold other → (fault ≡ other) ⊎ AreMeetingsInOne fault other
    by (inl a) (inl b) = inl (sym a ∙ alike ∙ b)
    by (inl a) (inr b) = inr record { layer = b.0; feature = b.1; polygon = b.2; one = is_some_meeting b.0 b.1 b.2 fault (sym a ∙ alike ∙ b.4); another = b.3 }
    by (inr a) (inl b) = inr record { layer = a.0; feature = a.1; polygon = a.2; one = a.3; another = is_some_meeting a.0 a.1 a.2 other (sym b ∙ sym alike ∙ a.4) }
    by (inr a) (inr b) =
        let meetings : some_meeting a.0 a.1 a.2 ≡ some_meeting b.0 b.1 b.2 = sym a.4 ∙ alike ∙ b.4 in
        let is : fault ≡ Meeting b.0 b.1 b.2 a.3.first a.3.second a.3.x a.3.y a.3.w = cc (meetings, a.3.is) in
        let one : IsMeetingIn b.0 b.1 b.2 fault = record { first = a.3.first; second = a.3.second; x = a.3.x; y = a.3.y; w = a.3.w; is = is } in
        inr record { layer = b.0; feature = b.1; polygon = b.2; one = one; another = b.3 }

-- meetings in one polygon have one place
pub meetings_share_a_place : (fault other : Fault) → AreMeetingsInOne fault other → place_of fault ≡ place_of other
meetings_share_a_place fault other both = ap place_of both.one.is ∙ sym (ap place_of both.another.is)
