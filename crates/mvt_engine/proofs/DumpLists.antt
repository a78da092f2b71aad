-- The text of an array while its members are written one after another.
use Rattle.std.proofs.Common.{◌≡◌, ℕ, List, [], ◌∷◌, ◌++◌, Bool, true, false, if◌then◌else◌, codes, Result, Ok, Err, OnOk, map, take, length, get_or, ◌+◌, ◌<◌, ◌≤◌, refl, ap, subst, sym, ◌∙◌, append_assoc}
use Rattle.std.proofs.lemmas.List.{append-nil, map_more, take_all}
use Rattle.std.specs.Result.{is_ok}
use Rattle.serde_json.specs.Data.{Data, array}
use Rattle.serde_json.specs.View.{items_of}
use Rattle.serde_json.specs.Written.{compact_text, items_text, comma_if}

-- the text of members, without the bracket after the last
abbrev pub members_text : Bool → List Data → List ℕ
members_text later [] = []
members_text later (d ∷ ds) = comma_if later ++ (compact_text d ++ members_text true ds)

-- whether there is no member yet
abbrev pub has_none : List Data → Bool
has_none [] = true
has_none (d ∷ ds) = false

-- the bracket and these members are after a text
pub record ListsMembers (old new : List ℕ) (ds : List Data) (is_first : Bool) : Type 0 where
  pub written : new ≡ old ++ (91 ∷ members_text false ds)
  pub first : is_first ≡ has_none ds

-- the bracket after the last member ends the array
closed : (later : Bool) (ds : List Data) → items_text later (items_of ds) ≡ members_text later ds ++ 93 ∷ []
closed later [] = refl
closed later (d ∷ ds) =
    ap (λ rest. comma_if later ++ (compact_text d ++ rest)) (closed true ds)
    ∙ sym (append_assoc (comma_if later) (compact_text d ++ members_text true ds) (93 ∷ [])
    ∙ ap (λ rest. comma_if later ++ rest) (append_assoc (compact_text d) (members_text true ds) (93 ∷ [])))

-- one more member after others
later_push : (ds : List Data) (d : Data) → members_text true (ds ++ d ∷ []) ≡ members_text true ds ++ (44 ∷ compact_text d)
later_push [] d = ap (λ rest. 44 ∷ rest) (append-nil (compact_text d))
later_push (one ∷ ds) d =
    ap (λ rest. 44 ∷ (compact_text one ++ rest)) (later_push ds d)
    ∙ ap (λ rest. 44 ∷ rest) (sym (append_assoc (compact_text one) (members_text true ds) (44 ∷ compact_text d)))

-- the array's text with its bracket after it, where that was written
pub ListsMembers-whole : {E : Type 0} (result : Result (Unit {0}) E) (old new last : List ℕ) (ds all : List Data) (is_first : Bool)
    → ListsMembers old new ds is_first
    → ds ≡ all
    → last ≡ (if is_ok result then new ++ codes "]" else new)
    → OnOk result (last ≡ old ++ compact_text (array (items_of all)))
ListsMembers-whole (Ok unit) old new last ds all is_first so_far whole after =
    after ∙ ap (λ text. text ++ 93 ∷ []) so_far.written
    ∙ append_assoc old (91 ∷ members_text false ds) (93 ∷ [])
    ∙ ap (λ rest. old ++ (91 ∷ rest)) (sym (closed false ds))
    ∙ ap (λ (list : List Data). old ++ compact_text (array (items_of list))) whole
ListsMembers-whole (Err error) old new last ds all is_first so_far whole after = tt

-- one more member was written
written_push : (old new newer : List ℕ) (ds : List Data) (d : Data) (is_first : Bool)
    → ListsMembers old new ds is_first
    → newer ≡ new ++ (if is_first then [] else codes ",") ++ compact_text d
    → newer ≡ old ++ (91 ∷ members_text false (ds ++ d ∷ []))
written_push old new newer [] d is_first so_far after =
    after ∙ ap (λ b. new ++ (if b then [] else codes ",") ++ compact_text d) so_far.first
    ∙ ap (λ text. text ++ compact_text d) (append-nil new ∙ so_far.written)
    ∙ append_assoc old (91 ∷ []) (compact_text d)
    ∙ ap (λ rest. old ++ (91 ∷ rest)) (sym (append-nil (compact_text d)))
written_push old new newer (one ∷ ds) d is_first so_far after =
    let text = compact_text one ++ members_text true ds in
    after ∙ ap (λ b. new ++ (if b then [] else codes ",") ++ compact_text d) so_far.first
    ∙ ap (λ before. before ++ (44 ∷ []) ++ compact_text d) so_far.written
    ∙ append_assoc (old ++ (91 ∷ text)) (44 ∷ []) (compact_text d)
    ∙ append_assoc old (91 ∷ text) (44 ∷ compact_text d)
    ∙ ap (λ rest. old ++ (91 ∷ rest)) (append_assoc (compact_text one) (members_text true ds) (44 ∷ compact_text d))
    ∙ ap (λ rest. old ++ (91 ∷ (compact_text one ++ rest))) (sym (later_push ds d))

-- some member was written
has_none_push : (ds : List Data) (d : Data) → false ≡ has_none (ds ++ d ∷ [])
has_none_push [] d = refl
has_none_push (one ∷ ds) d = refl

-- the parts up to the next one of a list, as data
one_more : {A : Type 0} (data_of : A → Data) (list : List A) (place : ℕ) (part : A)
    → place < length list
    → part ≡ get_or list place part
    → map data_of (take place list) ++ data_of part ∷ [] ≡ map data_of (take (place + 1) list)
one_more data_of list place part within here =
    ap (λ next. map data_of (take place list) ++ data_of next ∷ []) here ∙ sym (map_more data_of list place part within)

-- one more part of a list was written
pub ListsMembers-more : {A : Type 0} (data_of : A → Data) (list : List A) (place : ℕ) (part : A) (old new newer : List ℕ) (is_first : Bool)
    → place < length list
    → part ≡ get_or list place part
    → ListsMembers old new (map data_of (take place list)) is_first
    → newer ≡ new ++ (if is_first then [] else codes ",") ++ compact_text (data_of part)
    → ListsMembers old newer (map data_of (take (place + 1) list)) false
ListsMembers-more data_of list place part old new newer is_first within here so_far after =
    let ds = map data_of (take place list) in
    subst (λ (all : List Data). ListsMembers old newer all false) (one_more data_of list place part within here) (record {
      written = written_push old new newer ds (data_of part) is_first so_far after;
      first = has_none_push ds (data_of part);
    })

-- all parts of a list, as data
pub all_parts : {A : Type 0} (data_of : A → Data) (list : List A) (place : ℕ) → length list ≤ place → map data_of (take place list) ≡ map data_of list
all_parts data_of list place over = ap (map data_of) (take_all place list over)
