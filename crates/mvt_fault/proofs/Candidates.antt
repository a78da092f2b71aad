-- A value has the shape of a fault only as its candidate.
use Rattle.std.proofs.Common.{◌≡◌, ◌≢◌, ℕ, ◌^◌, ◌<◌, ◌≤◌, ◌⊎◌, List, ℤ, get_or, Option, Some, None, MatchOption, codes, lit≤, inl, inr, refl, sym, ap, subst, ◌∙◌, arith}
use Rattle.std.specs.Str.Parse.{signed_digits_value}
use Rattle.serde_json.specs.Data.{Data, string}
use Rattle.serde_json.specs.Find.{get}
use Rattle.mvt_wire.specs.Code.{code_of}
use Rattle.mvt_wire.specs.declared.cause.WireCode.{WireCode}
use Rattle.mvt_wire.specs.declared.cause.WireCode.TheVariants.{Ends}
use Rattle.mvt_wire.specs.declared.scope.Scope.{Scope}
use Rattle.mvt_wire.specs.declared.scope.Scope.TheVariants.{Tile, Layer, Value, Feature}
use Rattle.mvt_fault.specs.Code.{tag_code, command_code, ring_code, fault_code}
use Rattle.mvt_fault.specs.Calls.Candidate.{HasCode}
use Rattle.mvt_fault.specs.Reading.{HasDecimalForm, Writes, StandsFor, IsOutOfRange}
use Rattle.mvt_fault.specs.Text.{whole_number, wire_data, index_data, ring_data, edge_data, meeting_parts, HasWidth, IsInRange}
use Rattle.mvt_fault.specs.declared.fault.Fault.{Fault}
use Rattle.mvt_fault.specs.declared.fault.Fault.TheVariants.{Wire, Tag, Command, Ring, Meeting}
use Rattle.mvt_fault.specs.declared.tag.TagCode.{TagCode}
use Rattle.mvt_fault.specs.declared.tag.TagCode.TheVariants.{OddLength}
use Rattle.mvt_fault.specs.declared.command.CommandCode.{CommandCode}
use Rattle.mvt_fault.specs.declared.command.CommandCode.TheVariants.{OtherCommand}
use Rattle.mvt_fault.specs.declared.ring.RingCode.{RingCode}
use Rattle.mvt_fault.specs.declared.ring.RingCode.TheVariants.{EndsAtItsBeginning}
use Rattle.mvt_fault.specs.declared.ring.RingEdge.{RingEdge}
use Rattle.mvt_fault.proofs.Causes.{wire_code_at, wire_code_at-code_of}

-- the numbers of the causes of wire faults
code_of-range : (code : WireCode) → (101 ≤ code_of code) × (code_of code ≤ 111)
code_of-range Ends = (lit≤ tt, lit≤ tt)
code_of-range code = (lit≤ tt, lit≤ tt)

-- those of tags and of commands are between those of names and of rings
pub tag_code-range : (code : TagCode) → (301 ≤ tag_code code) × (tag_code code ≤ 406)
tag_code-range OddLength = (lit≤ tt, lit≤ tt)
tag_code-range code = (lit≤ tt, lit≤ tt)

pub command_code-range : (code : CommandCode) → (301 ≤ command_code code) × (command_code code ≤ 406)
command_code-range OtherCommand = (lit≤ tt, lit≤ tt)
command_code-range code = (lit≤ tt, lit≤ tt)

-- the numbers of the causes of faults of rings
ring_code-range : (code : RingCode) → (501 ≤ ring_code code) × (ring_code code ≤ 503)
ring_code-range EndsAtItsBeginning = (lit≤ tt, lit≤ tt)
ring_code-range code = (lit≤ tt, lit≤ tt)

-- what stands for a fault has its code
HasCode-StandsFor : (f : Fault) (d : Data) → StandsFor f d → HasCode d (fault_code f)
HasCode-StandsFor (Wire code Tile at field) d stands = ap (get (codes "code")) stands
HasCode-StandsFor (Meeting layer feature polygon first second x y w) d stands = ap (get (codes "code")) stands.object
HasCode-StandsFor f d stands = ap (get (codes "code")) stands

-- a value has one code, so it stands for faults of that code alone
fault_code-StandsFor : (d : Data) (n : ℕ) → HasCode d n → (f : Fault) → StandsFor f d → fault_code f ≡ n
fault_code-StandsFor d n has f stands = let code = HasCode-StandsFor f d stands in cc

-- the name of a scope
abbrev name_of : Scope → List ℕ
name_of Tile = codes "tile"
name_of (Layer layer) = codes "layer"
name_of (Value layer value) = codes "value"
name_of (Feature layer feature) = codes "feature"

-- is in the object of its faults
scope_text : (d : Data) (code : WireCode) (scope : Scope) (at field : ℕ) → d ≡ wire_data code scope at field → get (codes "scope") d ≡ Some (string (name_of scope))
scope_text d code Tile at field is = ap (get (codes "scope")) is
scope_text d code scope at field is = ap (get (codes "scope")) is

-- the number is the whole number that the value has at the key, if any
abbrev pub IsNumberAt : Data → List ℕ → ℕ → Type 0
IsNumberAt d key n = (m : ℕ) → get key d ≡ Some (whole_number m) → n ≡ m

-- the first letter of a text says the scope of wire faults
module _ (d : Data) (text : List ℕ) (told : (s : List ℕ) → get (codes "scope") d ≡ Some (string s) → text ≡ s) where
  first_letter : (code : WireCode) (scope : Scope) (at field : ℕ) → d ≡ wire_data code scope at field → get_or text 0 0 ≡ get_or (name_of scope) 0 0
  first_letter code scope at field is = ap (λ t. get_or t 0 0) (told (name_of scope) (scope_text d code scope at field is))

  pub layer_scope : (layer : ℕ) → text ≡ codes "layer" → IsNumberAt d (codes "layer") layer
      → (code : WireCode) (scope : Scope) (at field : ℕ) → d ≡ wire_data code scope at field → Layer layer ≡ scope
  layer_scope layer is at_layer code (Layer l) at field same = ap Layer (at_layer l (ap (get (codes "layer")) same))
  layer_scope layer is at_layer code scope at field same = absurd (omega (arith, ap (λ t. get_or t 0 0) is, first_letter code scope at field same))

  pub value_scope : (layer value : ℕ) → text ≡ codes "value" → IsNumberAt d (codes "layer") layer → IsNumberAt d (codes "value") value
      → (code : WireCode) (scope : Scope) (at field : ℕ) → d ≡ wire_data code scope at field → Value layer value ≡ scope
  value_scope layer value is at_layer at_value code (Value l v) at field same =
      λ i. Value (at_layer l (ap (get (codes "layer")) same) i) (at_value v (ap (get (codes "value")) same) i)
  value_scope layer value is at_layer at_value code scope at field same = absurd (omega (arith, ap (λ t. get_or t 0 0) is, first_letter code scope at field same))

  pub feature_scope : (layer feature : ℕ) → text ≡ codes "feature" → IsNumberAt d (codes "layer") layer → IsNumberAt d (codes "feature") feature
      → (code : WireCode) (scope : Scope) (at field : ℕ) → d ≡ wire_data code scope at field → Feature layer feature ≡ scope
  feature_scope layer feature is at_layer at_feature code (Feature l f) at field same =
      λ i. Feature (at_layer l (ap (get (codes "layer")) same) i) (at_feature f (ap (get (codes "feature")) same) i)
  feature_scope layer feature is at_layer at_feature code scope at field same = absurd (omega (arith, ap (λ t. get_or t 0 0) is, first_letter code scope at field same))

  pub tile_scope : text ≢ codes "layer" → text ≢ codes "value" → text ≢ codes "feature"
      → (code : WireCode) (scope : Scope) (at field : ℕ) → d ≡ wire_data code scope at field → Tile ≡ scope
  tile_scope no_layer no_value no_feature code Tile at field same = refl
  tile_scope no_layer no_value no_feature code (Layer l) at field same = absurd (no_layer (told (codes "layer") (scope_text d code (Layer l) at field same)))
  tile_scope no_layer no_value no_feature code (Value l v) at field same = absurd (no_value (told (codes "value") (scope_text d code (Value l v) at field same)))
  tile_scope no_layer no_value no_feature code (Feature l f) at field same = absurd (no_feature (told (codes "feature") (scope_text d code (Feature l f) at field same)))

-- so do the place and the field of a wire fault
place_in : (d : Data) (code : WireCode) (scope : Scope) (at field : ℕ) → d ≡ wire_data code scope at field
    → (get (codes "at") d ≡ Some (whole_number at)) × (get (codes "field") d ≡ Some (whole_number field))
place_in d code Tile at field is = (ap (get (codes "at")) is, ap (get (codes "field")) is)
place_in d code scope at field is = (ap (get (codes "at")) is, ap (get (codes "field")) is)

-- the causes of wire faults have different numbers
code_of-injective : (a b : WireCode) → code_of a ≡ code_of b → a ≡ b
code_of-injective a b same = sym (wire_code_at-code_of a) ∙ ap wire_code_at same ∙ wire_code_at-code_of b

-- a value with the code of a wire fault has the shape of a fault only as the object of what is read in it
pub wire_only : (d built : Data) (code : WireCode) (scope : Scope) (at field : ℕ) → HasCode d (code_of code)
    → ((c : WireCode) (s : Scope) (a n : ℕ) → d ≡ wire_data c s a n → scope ≡ s)
    → IsNumberAt d (codes "at") at → IsNumberAt d (codes "field") field
    → built ≡ wire_data code scope at field → (f : Fault) → StandsFor f d → d ≡ built
wire_only d built code scope at field has told_scope told_at told_field made (Wire c s a n) stands =
    let same_code = code_of-injective code c (sym (fault_code-StandsFor d (code_of code) has (Wire c s a n) stands)) in
    let same_scope = told_scope c s a n stands in
    let same_at = told_at a (place_in d c s a n stands).0 in
    let same_field = told_field n (place_in d c s a n stands).1 in
    stands ∙ sym (λ i. wire_data (same_code i) (same_scope i) (same_at i) (same_field i)) ∙ sym made
wire_only d built code scope at field has told_scope told_at told_field made f stands =
    absurd (omega (arith, code_of-range, tag_code-range, command_code-range, ring_code-range, fault_code-StandsFor d (code_of code) has f stands))

-- the object of a wire fault stands for it, in range or not
pub wire_in_range : (built : Data) (code : WireCode) (scope : Scope) (at field : ℕ) (o : Option Fault) → built ≡ wire_data code scope at field
    → MatchOption o (2 ^ 32 ≤ field) (λ f. (f ≡ Wire code scope at field) × (field < 2 ^ 32))
    → MatchOption o (IsOutOfRange built) (λ f. StandsFor f built × IsInRange f)
wire_in_range built code scope at field None made large = (Wire code scope at field, made, λ small. omega arith)
wire_in_range built code scope at field (Some f) made told =
    (subst (λ g. StandsFor g built) (sym told.0) made, subst IsInRange (sym told.0) told.1)

-- a value with the code of a fault of tags or commands has the shape of a fault only as the object of what is read in it
module _ (d built : Data) (n layer feature index : ℕ) (has : HasCode d n) (at_layer : IsNumberAt d (codes "layer") layer)
    (at_feature : IsNumberAt d (codes "feature") feature) (at_index : IsNumberAt d (codes "index") index)
    (made : built ≡ index_data n layer feature index) where
  same_feature : (m l g i : ℕ) → m ≡ n → d ≡ index_data m l g i → d ≡ built
  same_feature m l g i same_code stands =
      let same_layer = at_layer l (ap (get (codes "layer")) stands) in
      let same_feature = at_feature g (ap (get (codes "feature")) stands) in
      let same_index = at_index i (ap (get (codes "index")) stands) in
      cc

  pub feature_only : (301 ≤ n) × (n ≤ 406) → (f : Fault) → StandsFor f d → d ≡ built
  feature_only range (Tag c l g i) stands = same_feature (tag_code c) l g i (fault_code-StandsFor d n has (Tag c l g i) stands) stands
  feature_only range (Command c l g i) stands = same_feature (command_code c) l g i (fault_code-StandsFor d n has (Command c l g i) stands) stands
  feature_only range f stands = absurd (omega (arith, range, code_of-range, tag_code-range, command_code-range, ring_code-range, fault_code-StandsFor d n has f stands))

-- a value with the code of a fault of a ring has the shape of a fault only as the object of what is read in it
pub ring_only : (d built : Data) (code : RingCode) (layer feature ring : ℕ) → HasCode d (ring_code code)
    → IsNumberAt d (codes "layer") layer → IsNumberAt d (codes "feature") feature → IsNumberAt d (codes "ring") ring
    → built ≡ ring_data (ring_code code) layer feature ring → (f : Fault) → StandsFor f d → d ≡ built
ring_only d built code layer feature ring has told_layer told_feature told_ring made (Ring c l g r) stands =
    let same_code : ring_code c ≡ ring_code code = fault_code-StandsFor d (ring_code code) has (Ring c l g r) stands in
    let same_layer = told_layer l (ap (get (codes "layer")) stands) in
    let same_feature = told_feature g (ap (get (codes "feature")) stands) in
    let same_ring = told_ring r (ap (get (codes "ring")) stands) in
    cc
ring_only d built code layer feature ring has told_layer told_feature told_ring made f stands =
    absurd (omega (arith, code_of-range, tag_code-range, command_code-range, ring_code-range, fault_code-StandsFor d (ring_code code) has f stands))

-- an edge's ordinals are those of its object
pub edge_told : (d : Data) (key : List ℕ) (built : Data) (ring edge : ℕ) (it : RingEdge) → Some built ≡ get key d → get key d ≡ Some (edge_data it)
    → IsNumberAt built (codes "ring") ring → IsNumberAt built (codes "edge") edge → ◌≡◌ {A = RingEdge} (record { ring = ring; edge = edge }) it
edge_told d key built ring edge it found is told_ring told_edge =
    let same : built ≡ edge_data it = cc in
    let same_ring = told_ring it.ring (ap (get (codes "ring")) same) in
    let same_edge = told_edge it.edge (ap (get (codes "edge")) same) in
    λ i. record { ring = same_ring i; edge = same_edge i }

-- what is known of the parts of a meeting's object
pub record IsMeetingTold (d : Data) (layer feature polygon : ℕ) (first second : RingEdge) (x y w : List ℕ) : Type 0 where
  pub layer_told : IsNumberAt d (codes "layer") layer
  pub feature_told : IsNumberAt d (codes "feature") feature
  pub polygon_told : IsNumberAt d (codes "polygon") polygon
  pub first_told : (it : RingEdge) → get (codes "first") d ≡ Some (edge_data it) → first ≡ it
  pub second_told : (it : RingEdge) → get (codes "second") d ≡ Some (edge_data it) → second ≡ it
  pub x_told : (s : List ℕ) → HasDecimalForm s → get (codes "x") d ≡ Some (string s) → x ≡ s
  pub y_told : (s : List ℕ) → HasDecimalForm s → get (codes "y") d ≡ Some (string s) → y ≡ s
  pub w_told : (s : List ℕ) → HasDecimalForm s → get (codes "w") d ≡ Some (string s) → w ≡ s

-- a value with the code of a meeting has the shape of a fault only as the object of what is read in it
pub meeting_only : (d built : Data) (layer feature polygon : ℕ) (first second : RingEdge) (x y w : List ℕ) → HasCode d 504
    → IsMeetingTold d layer feature polygon first second x y w
    → built ≡ meeting_parts layer feature polygon (edge_data first) (edge_data second) (string w) (string x) (string y)
    → (f : Fault) → StandsFor f d → d ≡ built
meeting_only d built layer feature polygon first second x y w has told made (Meeting l g p e h a b c) stands =
    let same_layer = told.layer_told l (ap (get (codes "layer")) stands.object) in
    let same_feature = told.feature_told g (ap (get (codes "feature")) stands.object) in
    let same_polygon = told.polygon_told p (ap (get (codes "polygon")) stands.object) in
    let same_first = told.first_told e (ap (get (codes "first")) stands.object) in
    let same_second = told.second_told h (ap (get (codes "second")) stands.object) in
    let same_x = told.x_told stands.x_text stands.writes_x.0 (ap (get (codes "x")) stands.object) in
    let same_y = told.y_told stands.y_text stands.writes_y.0 (ap (get (codes "y")) stands.object) in
    let same_w = told.w_told stands.w_text stands.writes_w.0 (ap (get (codes "w")) stands.object) in
    stands.object
    ∙ sym (λ i. meeting_parts (same_layer i) (same_feature i) (same_polygon i) (edge_data (same_first i)) (edge_data (same_second i)) (string (same_w i)) (string (same_x i)) (string (same_y i)))
    ∙ sym made
meeting_only d built layer feature polygon first second x y w has told made f stands =
    absurd (omega (arith, code_of-range, tag_code-range, command_code-range, ring_code-range, fault_code-StandsFor d 504 has f stands))

-- a number of a point doesn't have 128 bits
abbrev pub HasNoWidth : List ℕ → Type 0
HasNoWidth s = (z : ℤ) → Writes s z → ¬ HasWidth z

-- then the object of a meeting is out of range
pub meeting_out_of_range : (o : Option Fault) → o ≡ None → (d : Data) (layer feature polygon : ℕ) (first second : RingEdge) (x y w : List ℕ)
    → HasDecimalForm x → HasDecimalForm y → HasDecimalForm w
    → d ≡ meeting_parts layer feature polygon (edge_data first) (edge_data second) (string w) (string x) (string y)
    → (HasNoWidth x ⊎ (HasNoWidth y ⊎ HasNoWidth w)) → MatchOption o (IsOutOfRange d) (λ f. StandsFor f d × IsInRange f)
meeting_out_of_range o none d layer feature polygon first second x y w x_form y_form w_form made out =
    subst (λ p. MatchOption p (IsOutOfRange d) (λ f. StandsFor f d × IsInRange f)) (sym none) (
      Meeting layer feature polygon first second (signed_digits_value 10 x) (signed_digits_value 10 y) (signed_digits_value 10 w),
      record { x_text = x; y_text = y; w_text = w; writes_x = (x_form, refl); writes_y = (y_form, refl); writes_w = (w_form, refl); object = made },
      λ in_range. elim out [
        | inl wide_x ↦ wide_x (signed_digits_value 10 x) (x_form, refl) in_range.0
        | inr others ↦ elim others [
          | inl wide_y ↦ wide_y (signed_digits_value 10 y) (y_form, refl) in_range.1
          | inr wide_w ↦ wide_w (signed_digits_value 10 w) (w_form, refl) in_range.2
        ]
      ],
    )

-- and where its numbers have 128 bits it is in range
pub meeting_in_range : (d : Data) (layer feature polygon : ℕ) (first second : RingEdge) (x y w : List ℕ) (a b c : ℤ)
    → Writes x a × HasWidth a → Writes y b × HasWidth b → Writes w c × HasWidth c
    → d ≡ meeting_parts layer feature polygon (edge_data first) (edge_data second) (string w) (string x) (string y)
    → StandsFor (Meeting layer feature polygon first second a b c) d × IsInRange (Meeting layer feature polygon first second a b c)
meeting_in_range d layer feature polygon first second x y w a b c of_x of_y of_w made = (
  record { x_text = x; y_text = y; w_text = w; writes_x = of_x.0; writes_y = of_y.0; writes_w = of_w.0; object = made },
  (of_x.1, of_y.1, of_w.1),
)
