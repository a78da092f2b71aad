-- The neighbours of chains where two of them begin or end.
use Rattle.std.proofs.Common.{◌≡◌, ◌≢◌, ◌==◌, ◌⊎◌, inl, inr, cond, ℕ, List, [], ◌∷◌, ◌++◌, refl, sym, ◌∙◌, ap, arith}
use Rattle.std.proofs.lemmas.Bool.Decides.{nat_tests}
use Rattle.mvt_sweep.specs.Calls.Chain.{EachOne, Has, Ordered}
use Rattle.mvt_sweep.specs.Calls.Chains.{LeadsBack, LeadsOn}
use Rattle.mvt_sweep.proofs.Chains.ChainLinks.{back_after, back_new, back_to, first_of, has_last, last_of, leads_after, leads_first, leads_from, leads_new}
use Rattle.mvt_sweep.proofs.Chains.ChainParts.{each_by_has}

-- Tests

cond_hit : (one other yes' no' : ℕ) → one ≡ other → cond (one == other) yes' no' ≡ yes'
cond_hit one other yes' no' same = grind (arith, nat_tests)

cond_miss : (one other yes' no' : ℕ) → one ≢ other → cond (one == other) yes' no' ≡ no'
cond_miss one other yes' no' differ = grind (arith, nat_tests)

-- Lists of different numbers

-- two parts of a list of different numbers, none of which is what is outside
pub record ArePartsInside (outside : ℕ) (front back : List ℕ) : Type 0 where
  pub front_differ : Ordered (λ (one that : ℕ). one ≢ that) front
  pub back_differ : Ordered (λ (one that : ℕ). one ≢ that) back
  pub apart : (one other : ℕ) → Has front one → Has back other → one ≢ other
  pub front_inside : (it : ℕ) → Has front it → it ≢ outside
  pub back_inside : (it : ℕ) → Has back it → it ≢ outside

-- the last of the front is none of the back
last_apart : (outside : ℕ) (front back : List ℕ) (it : ℕ) → ArePartsInside outside front back → Has back it → it ≢ last_of outside front
last_apart outside [] back it parts has same = parts.back_inside it has same
last_apart outside (first ∷ rest) back it parts has same = parts.apart (last_of first rest) it (has_last first rest) has (sym same)

-- and the first of the back is none of the front
first_apart : (outside : ℕ) (front back : List ℕ) (it : ℕ) → ArePartsInside outside front back → Has front it → it ≢ first_of back outside
first_apart outside front [] it parts has same = parts.front_inside it has same
first_apart outside front (first ∷ rest) it parts has same = parts.apart it first has (inl refl) same

-- with what is outside before the front
outside_first : (outside : ℕ) (front back : List ℕ) → ArePartsInside outside front back → Ordered (λ (one that : ℕ). one ≢ that) (outside ∷ front)
outside_first outside front back parts = (each_by_has (λ (that : ℕ). outside ≢ that) front (λ it has same. parts.front_inside it has (sym same)), parts.front_differ)

back_apart : (outside : ℕ) (front back : List ℕ) → ArePartsInside outside front back → EachOne (λ (it : ℕ). it ≢ outside) back
back_apart outside front back parts = each_by_has (λ (it : ℕ). it ≢ outside) back parts.back_inside

leads_rest : (next : ℕ → ℕ) (first number : ℕ) (rest : List ℕ) (last : ℕ) → LeadsOn next first (number ∷ rest) last → LeadsOn next number rest last
leads_rest next first number rest last leads = leads.1

back_rest : (previous : ℕ → ℕ) (first number : ℕ) (rest : List ℕ) (last : ℕ) → LeadsBack previous first (number ∷ rest) last → LeadsBack previous number rest last
back_rest previous first number rest last leads = leads.1

-- Two end

-- what is next to them
pub record AreLinkedPair (next previous : ℕ → ℕ) (outside : ℕ) (front : List ℕ) (lower upper : ℕ) (back : List ℕ) : Type 0 where
  pub below : previous lower ≡ last_of outside front
  pub above : next upper ≡ first_of back outside

pub linked_pair : (next previous : ℕ → ℕ) (outside : ℕ) (front : List ℕ) (lower upper : ℕ) (back : List ℕ) → LeadsOn next outside (front ++ lower ∷ upper ∷ back) outside
    → LeadsBack previous outside (front ++ lower ∷ upper ∷ back) outside → AreLinkedPair next previous outside front lower upper back
linked_pair next previous outside front lower upper back on following = record {
  below = (back_after previous outside front (lower ∷ upper ∷ back) outside following).0;
  above = leads_first next upper back outside (leads_rest next lower upper back outside (leads_rest next (last_of outside front) lower (upper ∷ back) outside (leads_after next outside front (lower ∷ upper ∷ back) outside on)));
}

-- the next numbers without them
pub next_without : (next other : ℕ → ℕ) (outside : ℕ) (front : List ℕ) (lower upper : ℕ) (back : List ℕ) (below : ℕ) → ArePartsInside outside front back
    → LeadsOn next outside (front ++ lower ∷ upper ∷ back) outside → below ≡ last_of outside front
    → ((it : ℕ) → other it ≡ cond (it == below) (next upper) (next it)) → LeadsOn other outside (front ++ back) outside
next_without next other outside front lower upper back below parts leads is written =
    let last = last_of outside front in
    let here : other last ≡ next upper = written last ∙ cond_hit last below (next upper) (next last) (sym is) in
    let alike = λ (it : ℕ) (differ : it ≢ last). written it ∙ cond_miss it below (next upper) (next it) (λ same. differ (same ∙ is)) in
    leads_new next other outside front (lower ∷ upper ∷ back) back outside outside (outside_first outside front back parts) leads (λ it has differ. alike it differ)
    (leads_from next other upper last back outside here (λ it has. alike it (last_apart outside front back it parts has))
    (leads_rest next lower upper back outside (leads_rest next last lower (upper ∷ back) outside (leads_after next outside front (lower ∷ upper ∷ back) outside leads))))

-- and the previous ones
pub previous_without : (previous other : ℕ → ℕ) (outside : ℕ) (front : List ℕ) (lower upper : ℕ) (back : List ℕ) (above : ℕ) → ArePartsInside outside front back
    → LeadsBack previous outside (front ++ lower ∷ upper ∷ back) outside → above ≡ first_of back outside → previous lower ≡ last_of outside front
    → ((it : ℕ) → other it ≡ cond (it == above) (previous lower) (previous it)) → LeadsBack other outside (front ++ back) outside
previous_without previous other outside front lower upper back above parts leads is below written =
    let last = last_of outside front in
    let first = first_of back outside in
    let here : other first ≡ last = written first ∙ cond_hit first above (previous lower) (previous first) (sym is) ∙ below in
    let alike = λ (it : ℕ) (differ : it ≢ first). written it ∙ cond_miss it above (previous lower) (previous it) (λ same. differ (same ∙ is)) in
    back_new previous other outside front (lower ∷ upper ∷ back) back outside outside leads (λ it has. alike it (first_apart outside front back it parts has))
    (back_to previous other upper last back outside parts.back_differ (back_apart outside front back parts) here (λ it has differ. alike it differ)
    (back_rest previous lower upper back outside (back_rest previous last lower (upper ∷ back) outside (back_after previous outside front (lower ∷ upper ∷ back) outside leads))))

-- Two begin

-- two numbers that are neither in the list nor outside
pub record AreNew (outside : ℕ) (front back : List ℕ) (lower upper : ℕ) : Type 0 where
  pub differ : lower ≢ upper
  pub lower_front : (it : ℕ) → Has front it → it ≢ lower
  pub upper_front : (it : ℕ) → Has front it → it ≢ upper
  pub lower_back : (it : ℕ) → Has back it → it ≢ lower
  pub upper_back : (it : ℕ) → Has back it → it ≢ upper
  pub lower_inside : outside ≢ lower
  pub upper_inside : outside ≢ upper

last_new : (outside : ℕ) (front : List ℕ) (it : ℕ) → outside ≢ it → ((number : ℕ) → Has front number → number ≢ it) → last_of outside front ≢ it
last_new outside [] it inside new = inside
last_new outside (first ∷ rest) it inside new = new (last_of first rest) (has_last first rest)

first_new : (outside : ℕ) (back : List ℕ) (it : ℕ) → outside ≢ it → ((number : ℕ) → Has back number → number ≢ it) → it ≢ first_of back outside
first_new outside [] it inside new same = inside (sym same)
first_new outside (first ∷ rest) it inside new same = new first (inl refl) (sym same)

either_new : (outside : ℕ) (list : List ℕ) (new it : ℕ) → outside ≢ new → ((number : ℕ) → Has list number → number ≢ new) → Has (outside ∷ list) it → it ≢ new
either_new outside list new it inside differ (inl same) is = inside (same ∙ is)
either_new outside list new it inside differ (inr has) is = differ it has is

-- the next numbers with them
pub next_with : (next other : ℕ → ℕ) (outside : ℕ) (front back : List ℕ) (lower upper below : ℕ) → ArePartsInside outside front back → AreNew outside front back lower upper
    → LeadsOn next outside (front ++ back) outside → below ≡ last_of outside front
    → ((it : ℕ) → other it ≡ cond (it == upper) (next below) (cond (it == lower) upper (cond (it == below) lower (next it)))) → LeadsOn other outside (front ++ lower ∷ upper ∷ back) outside
next_with next other outside front back lower upper below parts new leads is written =
    let last = last_of outside front in
    let alike = λ (it : ℕ) (one : it ≢ upper) (two : it ≢ lower) (three : it ≢ last).
    written it ∙ cond_miss it upper (next below) (cond (it == lower) upper (cond (it == below) lower (next it))) one
    ∙ cond_miss it lower upper (cond (it == below) lower (next it)) two ∙ cond_miss it below lower (next it) (λ same. three (same ∙ is)) in
    let at_last : other last ≡ lower =
    written last ∙ cond_miss last upper (next below) (cond (last == lower) upper (cond (last == below) lower (next last))) (last_new outside front upper new.upper_inside new.upper_front)
    ∙ cond_miss last lower upper (cond (last == below) lower (next last)) (last_new outside front lower new.lower_inside new.lower_front)
    ∙ cond_hit last below lower (next last) (sym is) in
    let at_lower : other lower ≡ upper =
    written lower ∙ cond_miss lower upper (next below) (cond (lower == lower) upper (cond (lower == below) lower (next lower))) new.differ
    ∙ cond_hit lower lower upper (cond (lower == below) lower (next lower)) refl in
    let at_upper : other upper ≡ next last =
    written upper ∙ cond_hit upper upper (next below) (cond (upper == lower) upper (cond (upper == below) lower (next upper))) refl ∙ ap next is in
    leads_new next other outside front back (lower ∷ upper ∷ back) outside outside (outside_first outside front back parts) leads
    (λ it has differ. alike it (either_new outside front upper it new.upper_inside new.upper_front has) (either_new outside front lower it new.lower_inside new.lower_front has) differ) (
      at_last,
      (
        at_lower,
        leads_from next other last upper back outside at_upper (λ it has. alike it (new.upper_back it has) (new.lower_back it has) (last_apart outside front back it parts has))
            (leads_after next outside front back outside leads),
      ),
    )

-- and the previous ones
pub previous_with : (previous other : ℕ → ℕ) (outside : ℕ) (front back : List ℕ) (lower upper below above : ℕ) → ArePartsInside outside front back → AreNew outside front back lower upper
    → LeadsBack previous outside (front ++ back) outside → below ≡ last_of outside front → above ≡ first_of back outside
    → ((it : ℕ) → other it ≡ cond (it == above) upper (cond (it == upper) lower (cond (it == lower) below (previous it)))) → LeadsBack other outside (front ++ lower ∷ upper ∷ back) outside
previous_with previous other outside front back lower upper below above parts new leads is_below is written =
    let last = last_of outside front in
    let first = first_of back outside in
    let alike = λ (it : ℕ) (one : it ≢ first) (two : it ≢ upper) (three : it ≢ lower).
    written it ∙ cond_miss it above upper (cond (it == upper) lower (cond (it == lower) below (previous it))) (λ same. one (same ∙ is))
    ∙ cond_miss it upper lower (cond (it == lower) below (previous it)) two ∙ cond_miss it lower below (previous it) three in
    let at_first : other first ≡ upper = written first ∙ cond_hit first above upper (cond (first == upper) lower (cond (first == lower) below (previous first))) (sym is) in
    let lower_first : lower ≢ first = first_new outside back lower new.lower_inside new.lower_back in
    let upper_first : upper ≢ first = first_new outside back upper new.upper_inside new.upper_back in
    let at_lower : other lower ≡ last =
    written lower ∙ cond_miss lower above upper (cond (lower == upper) lower (cond (lower == lower) below (previous lower))) (λ same. lower_first (same ∙ is))
    ∙ cond_miss lower upper lower (cond (lower == lower) below (previous lower)) new.differ ∙ cond_hit lower lower below (previous lower) refl ∙ is_below in
    let at_upper : other upper ≡ lower =
    written upper ∙ cond_miss upper above upper (cond (upper == upper) lower (cond (upper == lower) below (previous upper))) (λ same. upper_first (same ∙ is))
    ∙ cond_hit upper upper lower (cond (upper == lower) below (previous upper)) refl in
    back_new previous other outside front back (lower ∷ upper ∷ back) outside outside leads (λ it has. alike it (first_apart outside front back it parts has) (new.upper_front it has) (new.lower_front it has)) (
      at_lower,
      (
        at_upper,
        back_to previous other last upper back outside parts.back_differ (back_apart outside front back parts) at_first
            (λ it has differ. alike it differ (in_back it upper has new.upper_inside new.upper_back) (in_back it lower has new.lower_inside new.lower_back))
            (back_after previous outside front back outside leads),
      ),
    )
  where
    in_back : (it number : ℕ) → Has back it ⊎ (it ≡ outside) → outside ≢ number → ((other : ℕ) → Has back other → other ≢ number) → it ≢ number
    in_back it number (inl has) inside new = new it has
    in_back it number (inr same) inside new = λ is. inside (sym same ∙ is)
