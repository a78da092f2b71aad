-- Places that hold the same, found among neighbours of a list that is sorted by what they hold.
use Rattle.std.proofs.Common.{◌≡◌, ◌∙◌, ◌↔◌, sym, ap, subst, refl, ℕ, ◌+◌, ◌-◌, ◌<◌, ◌≤◌, List, [], ◌∷◌, ◌++◌, length, get_or, slice_get, replicate, set, Option, Some, None, unwrap_or, ◌⊎◌, inl, inr, arith}
use Rattle.std.proofs.lemmas.Bool.{cases_lt, cases_eq}
use Rattle.std.proofs.lemmas.List.{get_or-replicate, get_or_past, get_or-set_same, get_or-set_other, length-replicate}
use Rattle.std.proofs.lemmas.Option.{slice_get_within, slice_get-get_or, same_Some}
use Rattle.mvt_wire.proofs.Encoding.Payloads.{slice_get-last}
use Rattle.mvt_tile.specs.Advice.{IsRepetition}
use Rattle.mvt_tile.specs.Calls.Equal.{AreFirstPlaces}
use Rattle.mvt_tile.proofs.RuleFaults.Names.{IsNaming, AreGrouped}
use Rattle.mvt_wire.proofs.Parts.EmbeddedSpans.{slice_get-append, slice_get-push}

-- no place
abbrev nowhere : Option ℕ
nowhere = None

-- a list that notes nothing has nothing at each place
none_there : (count place : ℕ) → get_or (replicate count nowhere) place None ≡ None
none_there count place = elim (cases_lt place count) [
  | inl within ↦ get_or-replicate count place nowhere None within
  | inr past ↦ get_or_past (replicate count nowhere) place None (let size = length-replicate count nowhere in omega arith)
]

module _ {X : Type 0} (name : X → List ℕ) (ordinal : X → ℕ) (At : ℕ → List ℕ → Type 0) (xs : List X) where
  -- a place holds one thing
  pub one_value : IsNaming name ordinal At xs → (place : ℕ) (it other : List ℕ) → At place it → At place other → it ≡ other
  one_value naming place it other there again =
      let x = naming.all place it there in
      let y = naming.all place other again in
      let at_one : x.0 ≡ y.0 = naming.once x.0 y.0 x.1 y.1 x.2 y.2 (x.3 ∙ sym y.3) in
      let same : x.1 ≡ y.1 = same_Some _ _ (sym x.2 ∙ ap (slice_get xs) at_one ∙ y.2) in
      sym x.4 ∙ ap name same ∙ y.4

  -- the first places were noted of those in front of an end
  pub record AreNoted (end : ℕ) (firsts : List (Option ℕ)) : Type 0 where
    pub found : (first second : ℕ) → get_or firsts second None ≡ Some first → IsRepetition At first second
    pub rest : (at : ℕ) (x : X) → at < end → slice_get xs at ≡ Some x → get_or firsts (ordinal x) None ≡ None → (other : ℕ) → At other (name x) → ordinal x ≤ other

  module _ (grouped : AreGrouped name ordinal At xs) where
    -- what holds something else than its neighbour is the first that holds it
    first_of_run : (at : ℕ) (x : X) → slice_get xs at ≡ Some x → ((before : ℕ) (w : X) → before + 1 ≡ at → slice_get xs before ≡ Some w → ¬ (name w ≡ name x))
        → (other : ℕ) → At other (name x) → ordinal x ≤ other
    first_of_run at x there differ other held =
        let it = grouped.naming.all other (name x) held in
        elim (cases_lt it.0 at) [
          | inl before ↦
              let within = slice_get_within xs at x there in
              let w = get_or xs (at - 1) it.1 in
              let near : slice_get xs (at - 1) ≡ Some w = slice_get-get_or xs (at - 1) it.1 (omega arith) in
              let same : name it.1 ≡ name w = grouped.together it.0 (at - 1) at it.1 w x (omega arith) (omega arith) it.2 near there it.4 in
              absurd (differ (at - 1) w (omega arith) near (sym same ∙ it.4))
          | inr not ↦ elim (cases_lt at it.0) [
            | inl ahead ↦ let rise = grouped.rising at it.0 x it.1 ahead there it.2 (sym it.4) in let is = it.3 in omega arith
            | inr level ↦
                let here : it.0 ≡ at = omega arith in
                let same : it.1 ≡ x = same_Some _ _ (sym it.2 ∙ ap (slice_get xs) here ∙ there) in
                let is : ordinal x ≡ other = ap ordinal (sym same) ∙ it.3 in
                omega arith
          ]
        ]

    -- the first of all has nothing before it
    pub AreNoted-none : (count : ℕ) → AreNoted 1 (replicate count None)
    AreNoted-none count = record {
      found = λ first second is. let both : None ≡ Some first = sym (none_there count second) ∙ is in cc;
      rest = λ at x before there none. first_of_run at x there (λ front w next. absurd (omega arith));
    }

    module _ (at : ℕ) (w x : X) (some : 1 ≤ at) (near : slice_get xs (at - 1) ≡ Some w) (there : slice_get xs at ≡ Some x) (firsts : List (Option ℕ)) (so_far : AreNoted at firsts) where
      -- what holds the same as its neighbour has the first place of that, or that itself
      pub is_noted : name w ≡ name x → IsRepetition At (unwrap_or (get_or firsts (ordinal w) None) (ordinal w)) (ordinal x)
      is_noted same = by_note (get_or firsts (ordinal w) None) refl
        where
          rise : ordinal w < ordinal x
          rise = grouped.rising (at - 1) at w x (omega arith) near there same

          by_note : (note : Option ℕ) → note ≡ get_or firsts (ordinal w) None → IsRepetition At (unwrap_or note (ordinal w)) (ordinal x)
          by_note None is = record {
            earlier = rise;
            it = name x;
            there = subst (At (ordinal w)) same (grouped.naming.known (at - 1) w near);
            again = grouped.naming.known at x there;
            least = λ other held. so_far.rest (at - 1) w (omega arith) near (sym is) other (subst (At other) (sym same) held);
          }
          by_note (Some first) is =
              let known = so_far.found first (ordinal w) (sym is) in
              let before = known.earlier in
              let value : name x ≡ known.it = sym same ∙ one_value grouped.naming (ordinal w) (name w) known.it (grouped.naming.known (at - 1) w near) known.again in
              record {
                earlier = omega (arith, rise, before);
                it = known.it;
                there = known.there;
                again = subst (At (ordinal x)) value (grouped.naming.known at x there);
                least = known.least;
              }

      -- the same is noted of it
      pub AreNoted-same : (first : ℕ) → first ≡ unwrap_or (get_or firsts (ordinal w) None) (ordinal w) → ordinal x < length firsts → name w ≡ name x → AreNoted (at + 1) (set firsts (ordinal x) (Some first))
      AreNoted-same first is within same = record {
        found = λ one second noted. elim (cases_eq second (ordinal x)) [
          | inl here ↦
              let value : Some first ≡ Some one = sym (get_or-set_same firsts (ordinal x) (Some first) None within) ∙ ap (λ (place : ℕ). get_or (set firsts (ordinal x) (Some first)) place None) (sym here) ∙ noted in
              let same_one : unwrap_or (get_or firsts (ordinal w) None) (ordinal w) ≡ one = sym is ∙ same_Some _ _ value in
              subst (λ (place : ℕ). IsRepetition At one place) (sym here) (subst (λ (place : ℕ). IsRepetition At place (ordinal x)) same_one (is_noted same))
          | inr other ↦ so_far.found one second (sym (get_or-set_other firsts (ordinal x) second (Some first) None other) ∙ noted)
        ];
        rest = λ place y before elsewhere none. elim (cases_eq (ordinal y) (ordinal x)) [
          | inl here ↦
              let value : Some first ≡ None = sym (get_or-set_same firsts (ordinal x) (Some first) None within) ∙ ap (λ (place : ℕ). get_or (set firsts (ordinal x) (Some first)) place None) (sym here) ∙ none in
              absurd (cc)
          | inr other ↦ elim (cases_eq place at) [
            | inl last ↦ absurd (other (ap ordinal (same_Some _ _ (sym elsewhere ∙ ap (slice_get xs) last ∙ there))))
            | inr earlier ↦ so_far.rest place y (omega (arith, earlier, before)) elsewhere (sym (get_or-set_other firsts (ordinal x) (ordinal y) (Some first) None other) ∙ none)
          ]
        ];
      }

      -- or it holds something else, and nothing is noted of it
      pub AreNoted-other : ¬ (name w ≡ name x) → AreNoted (at + 1) firsts
      AreNoted-other differ = record {
        found = so_far.found;
        rest = λ place y before elsewhere none. elim (cases_eq place at) [
          | inr earlier ↦ so_far.rest place y (omega (arith, earlier, before)) elsewhere none
          | inl last ↦ first_of_run place y elsewhere (λ front v next there_too same.
              let front_is : front ≡ at - 1 = omega (arith, next, last) in
              let is_w : v ≡ w = same_Some _ _ (sym there_too ∙ ap (slice_get xs) front_is ∙ near) in
              let is_x : y ≡ x = same_Some _ _ (sym elsewhere ∙ ap (slice_get xs) last ∙ there) in
              differ (ap name (sym is_w) ∙ same ∙ ap name is_x))
        ];
      }

    -- of all places it was noted
    pub all_noted : (end : ℕ) (firsts : List (Option ℕ)) → length xs ≤ end → AreNoted end firsts → AreFirstPlaces At firsts
    all_noted end firsts all is first second = (is.found first second, λ repetition. by_note repetition (get_or firsts second None) refl)
      where
        by_note : IsRepetition At first second → (note : Option ℕ) → note ≡ get_or firsts second None → get_or firsts second None ≡ Some first
        by_note repetition None none =
            let item = grouped.naming.all second repetition.it repetition.again in
            let within = slice_get_within xs item.0 item.1 item.2 in
            let unnoted : get_or firsts (ordinal item.1) None ≡ None = ap (λ (place : ℕ). get_or firsts place None) item.3 ∙ sym none in
            let bound = is.rest item.0 item.1 (omega (arith, within, all)) item.2 unnoted first (subst (At first) (sym item.4) repetition.there) in
            let before = repetition.earlier in
            let place = item.3 in
            absurd (omega (arith, bound, before, place))
        by_note repetition (Some one) some =
            let known = is.found one second (sym some) in
            let value : known.it ≡ repetition.it = one_value grouped.naming second known.it repetition.it known.again repetition.again in
            let low = known.least first (subst (At first) (sym value) repetition.there) in
            let high = repetition.least one (subst (At one) value known.there) in
            let same : one ≡ first = omega (arith, low, high) in
            sym some ∙ ap Some same

-- what is at the places by a function of it
abbrev pub Through : {X Y : Type 0} → (X → Y) → (ℕ → X → Type 0) → ℕ → Y → Type 0
Through {X} f At place value = (it : X) × At place it × (value ≡ f it)

-- the first places are the same where the function tells apart what they hold
pub through_function : {X Y : Type 0} (f : X → Y) (At : ℕ → X → Type 0) (Held : ℕ → Y → Type 0) (firsts : List (Option ℕ)) → ((one other : X) → f one ≡ f other → one ≡ other)
    → ((place : ℕ) (value : Y) → Held place value ↔ Through f At place value) → AreFirstPlaces Held firsts → AreFirstPlaces At firsts
through_function {X} {Y} f At Held firsts apart same noted first second = (λ is. back ((noted first second).0 is), λ repetition. (noted first second).1 (forth repetition))
  where
    back : IsRepetition Held first second → IsRepetition At first second
    back repetition =
        let one = (same first repetition.it).0 repetition.there in
        let other = (same second repetition.it).0 repetition.again in
        let equal : one.0 ≡ other.0 = apart one.0 other.0 (sym one.2 ∙ other.2) in
        record {
          earlier = repetition.earlier;
          it = one.0;
          there = one.1;
          again = subst (At second) (sym equal) other.1;
          least = λ place there. repetition.least place ((same place repetition.it).1 (one.0, there, one.2));
        }

    forth : IsRepetition At first second → IsRepetition Held first second
    forth repetition = record {
      earlier = repetition.earlier;
      it = f repetition.it;
      there = (same first (f repetition.it)).1 (repetition.it, repetition.there, refl);
      again = (same second (f repetition.it)).1 (repetition.it, repetition.again, refl);
      least = λ place there.
          let it = (same place (f repetition.it)).0 there in
          repetition.least place (subst (At place) (sym (apart repetition.it it.0 it.2)) it.1);
    }

-- what is at a place in front of an end
abbrev pub Before : (ℕ → List ℕ → Type 0) → ℕ → ℕ → List ℕ → Type 0
Before At end place it = (place < end) × At place it

module _ {X : Type 0} (name : X → List ℕ) (ordinal : X → ℕ) (At : ℕ → List ℕ → Type 0) where
  -- nothing is in front of the first place
  pub IsNaming-nothing : IsNaming name ordinal (Before At 0) []
  IsNaming-nothing = record {
    known = λ at x there. absurd (cc);
    all = λ number it there. let before = there.0 in absurd (omega arith);
    once = λ at other x y there. absurd (cc);
  }

  module _ (end : ℕ) (xs : List X) (so_far : IsNaming name ordinal (Before At end) xs) where
    -- at one more place there is nothing
    pub IsNaming-skipped : ((it : List ℕ) → ¬ At end it) → IsNaming name ordinal (Before At (end + 1)) xs
    IsNaming-skipped none = record {
      known = λ at x there. let known = so_far.known at x there in let before = known.0 in (omega (arith, before), known.1);
      all = λ number it there. elim (cases_eq number end) [
        | inl here ↦ absurd (none it (subst (λ (place : ℕ). At place it) here there.1))
        | inr other ↦ let before = there.0 in so_far.all number it (omega (arith, before, other), there.1)
      ];
      once = so_far.once;
    }

    -- or this, which was pushed
    pub IsNaming-pushed : (new : List X) (x : X) → new ≡ xs ++ x ∷ [] → ordinal x ≡ end → At end (name x) → ((it : List ℕ) → At end it → name x ≡ it) → IsNaming name ordinal (Before At (end + 1)) new
    IsNaming-pushed new x more place holds only = subst (IsNaming name ordinal (Before At (end + 1))) (sym more) pushed
      where
        number_is : (at : ℕ) (y : X) → slice_get (xs ++ x ∷ []) at ≡ Some y → ((slice_get xs at ≡ Some y) × (ordinal y < end)) ⊎ ((at ≡ length xs) × (y ≡ x))
        number_is at y there = elim (slice_get-push xs x at y there) [
          | inl here ↦ inl (here, (so_far.known at y here).0)
          | inr last ↦ inr last
        ]

        kept : (at : ℕ) (y : X) → slice_get xs at ≡ Some y → slice_get (xs ++ x ∷ []) at ≡ Some y
        kept at y there = slice_get-append xs (x ∷ []) at (slice_get_within xs at y there) ∙ there

        pushed : IsNaming name ordinal (Before At (end + 1)) (xs ++ x ∷ [])
        pushed = record {
          known = λ at y there. elim (slice_get-push xs x at y there) [
            | inl here ↦ let known = so_far.known at y here in let before = known.0 in (omega (arith, before), known.1)
            | inr last ↦ subst (λ (z : X). Before At (end + 1) (ordinal z) (name z)) (sym last.1) (omega (arith, place), subst (λ (number : ℕ). At number (name x)) (sym place) holds)
          ];
          all = λ number it there. elim (cases_eq number end) [
            | inl here ↦ (length xs, x, slice_get-last xs x, place ∙ sym here, only it (subst (λ (number : ℕ). At number it) here there.1))
            | inr other ↦
                let before = there.0 in
                let old = so_far.all number it (omega (arith, before, other), there.1) in
                (old.0, old.1, kept old.0 old.1 old.2, old.3, old.4)
          ];
          once = λ at other y z there elsewhere same. elim (number_is at y there) [
            | inl here ↦ elim (number_is other z elsewhere) [
              | inl further ↦ so_far.once at other y z here.0 further.0 same
              | inr last ↦ let number : ordinal z ≡ end = ap ordinal last.1 ∙ place in let below = here.1 in absurd (omega (arith, number, below, same))
            ]
            | inr first ↦ elim (number_is other z elsewhere) [
              | inl further ↦ let number : ordinal y ≡ end = ap ordinal first.1 ∙ place in let below = further.1 in absurd (omega (arith, number, below, same))
              | inr last ↦ first.0 ∙ sym last.0
            ]
          ];
        }
