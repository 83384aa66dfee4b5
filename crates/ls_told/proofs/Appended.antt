-- What a session's history tells with more entries at its end.
use Rattle.std.proofs.Common.{◌≡◌, ◌≤◌, ℕ, ◌+◌, List, [], ◌∷◌, ◌++◌, refl, sym, ◌∙◌, ap, arith, subst, Some, None}
use Rattle.std.proofs.Common.{inl, inr, ◌⊎◌}
use Rattle.ls_register.specs.declared.told.Told.{Told}
use Rattle.ls_register.specs.declared.told.Told.TheVariants.{Numbered, Gave, Bound, Rate, Rebind, Unbound, Ended}
use Rattle.ls_record.specs.Records.{timed_out}
use Rattle.ls_record.specs.declared.TheConstants.{MOST_UNBOUND}
use Rattle.ls_told.specs.Heard.{told_from, unspoken, hears, heard_after, heard, tick_or, latest_after, latest_of, keepalive_or}
use Rattle.ls_told.specs.Heard.{keepalive_of, gave_or, last_gave, given_or, last_given, epoch_or, epoch_after, epoch_of, CountsOne, CountsOn}
use Rattle.ls_told.specs.Heard.{rebind_or, has_rebind, rates_or, rates_of, EndsInTime}
use Rattle.ls_told.specs.Telling.{numbered_or, numbered_of}

-- entries make of a value what those before and those behind make of it
pub told_from_append : {A : Type 0} (f : A → Told → A) (a : A) (es more : List Told) → told_from f a (es ++ more) ≡ told_from f (told_from f a es) more
told_from_append f a [] more = refl
told_from_append f a (e ∷ es) more = told_from_append f (f a e) es more

pub heard_more : (number : ℕ) (es more : List Told) → heard number (es ++ more) ≡ heard_after number (heard number es) more
heard_more number es more = told_from_append (hears number) unspoken es more

pub heard_one : (number : ℕ) (es : List Told) (e : Told) → heard number (es ++ e ∷ []) ≡ hears number (heard number es) e
heard_one number es e = told_from_append (hears number) unspoken es (e ∷ [])

pub latest_one : (es : List Told) (e : Told) → latest_of (es ++ e ∷ []) ≡ tick_or (latest_of es) e
latest_one es e = told_from_append tick_or 0 es (e ∷ [])

pub keepalive_one : (es : List Told) (e : Told) → keepalive_of (es ++ e ∷ []) ≡ keepalive_or (keepalive_of es) e
keepalive_one es e = told_from_append keepalive_or 0 es (e ∷ [])

pub gave_one : (epoch : ℕ) (es : List Told) (e : Told) → last_gave epoch (es ++ e ∷ []) ≡ gave_or epoch (last_gave epoch es) e
gave_one epoch es e = told_from_append (gave_or epoch) None es (e ∷ [])

pub given_one : (es : List Told) (e : Told) → last_given (es ++ e ∷ []) ≡ given_or (last_given es) e
given_one es e = told_from_append given_or None es (e ∷ [])

pub epoch_one : (es : List Told) (e : Told) → epoch_of (es ++ e ∷ []) ≡ epoch_or (epoch_of es) e
epoch_one es e = told_from_append epoch_or 0 es (e ∷ [])

pub rebind_one : (es : List Told) (e : Told) → has_rebind (es ++ e ∷ []) ≡ rebind_or (has_rebind es) e
rebind_one es e = told_from_append rebind_or _ es (e ∷ [])

pub rates_one : (es : List Told) (e : Told) → rates_of (es ++ e ∷ []) ≡ rates_or (rates_of es) e
rates_one es e = told_from_append rates_or 0 es (e ∷ [])

pub numbered_one : (es : List Told) (e : Told) → numbered_of (es ++ e ∷ []) ≡ numbered_or (numbered_of es) e
numbered_one es e = told_from_append numbered_or [] es (e ∷ [])

-- the greatest tick never falls
pub tick_rises : (latest : ℕ) (e : Told) → latest ≤ tick_or latest e
tick_rises latest (Numbered line) = omega arith
tick_rises latest (Gave epoch text tick) = omega arith
tick_rises latest (Bound epoch from counted keepalive content) = omega arith
tick_rises latest (Rate limit tick) = omega arith
tick_rises latest Rebind = omega arith
tick_rises latest (Unbound tick) = omega arith
tick_rises latest (Ended code tick) = omega arith

latest_grows : (latest : ℕ) (es : List Told) → latest ≤ latest_after latest es
latest_grows latest [] = omega arith
latest_grows latest (e ∷ es) = omega (arith, tick_rises latest e, latest_grows (tick_or latest e) es)

pub latest_rises : (es more : List Told) → latest_of es ≤ latest_of (es ++ more)
latest_rises es more = subst (λ (n : ℕ). latest_of es ≤ n) (sym (told_from_append tick_or 0 es more)) (latest_grows (latest_of es) more)

-- epochs count on
counts_after : (epoch : ℕ) (es : List Told) (e : Told) → CountsOn epoch es → CountsOne (epoch_after epoch es) e → CountsOn epoch (es ++ e ∷ [])
counts_after epoch [] e c one = (one, tt)
counts_after epoch (x ∷ es) e c one = (c.0, counts_after (epoch_or epoch x) es e c.1 one)

pub counts_one : (es : List Told) (e : Told) → CountsOn 0 es → CountsOne (epoch_of es) e → CountsOn 0 (es ++ e ∷ [])
counts_one es e c one = counts_after 0 es e c one

-- where an entry stands in a list with one more at its end: it is this one, or it stands before
pub record StandsBefore (es : List Told) (e : Told) (before : List Told) (x : Told) (after : List Told) : Type 0 where
  pub rest : List Told
  pub is : after ≡ rest ++ e ∷ []
  pub list : es ≡ before ++ x ∷ rest

pub record StandsLast (es : List Told) (e : Told) (before : List Told) (x : Told) : Type 0 where
  pub same : e ≡ x
  pub list : es ≡ before

none_behind : (b : Told) (before : List Told) (x : Told) (after : List Told) → [] ≡ before ++ x ∷ after → ⊥
none_behind b [] x after is = cc
none_behind b (y ∷ before) x after is = cc

pub stands_in : (es : List Told) (e : Told) (before : List Told) (x : Told) (after : List Told) → es ++ e ∷ [] ≡ before ++ x ∷ after
    → StandsLast es e before x ⊎ StandsBefore es e before x after
stands_in [] e [] x after is = inl (record { same = cc; list = refl })
stands_in [] e (b ∷ before) x after is = absurd (none_behind b before x after (let k : [] ≡ before ++ x ∷ after = cc in k))
stands_in (y ∷ es) e [] x after is =
    let first : y ≡ x = cc in
    let rest : es ++ e ∷ [] ≡ after = cc in
    inr (record { rest = es; is = sym rest; list = ap (λ (z : Told). z ∷ es) first })
stands_in (y ∷ es) e (b ∷ before) x after is =
    let first : y ≡ b = cc in
    let rest : es ++ e ∷ [] ≡ before ++ x ∷ after = cc in
    behind y b es before first (stands_in es e before x after rest)
  where
    behind : (y b : Told) (es before : List Told) → y ≡ b → StandsLast es e before x ⊎ StandsBefore es e before x after
        → StandsLast (y ∷ es) e (b ∷ before) x ⊎ StandsBefore (y ∷ es) e (b ∷ before) x after
    behind y b es before first (inl s) = inl (record { same = s.same; list = ap (λ (z : Told). z ∷ es) first ∙ ap (λ (l : List Told). b ∷ l) s.list })
    behind y b es before first (inr s) =
        inr (record { rest = s.rest; is = s.is; list = ap (λ (z : Told). z ∷ es) first ∙ ap (λ (l : List Told). b ∷ l) s.list })

-- an end for want of a stream stands in time, where one more does
abbrev pub InTime : ℕ → List Told → Told → Type 0
InTime number es e =
    (tick : ℕ) → e ≡ Ended timed_out tick → (since : ℕ) × ((heard number es).unbound ≡ Some since) × (since + MOST_UNBOUND ≤ tick)

pub ends_one : (number : ℕ) (es : List Told) (e : Told) → EndsInTime number es → InTime number es e → EndsInTime number (es ++ e ∷ [])
ends_one number es e ends one = λ before after tick is. by_place before after tick (stands_in es e before (Ended timed_out tick) after is)
  where
    by_place : (before after : List Told) (tick : ℕ)
        → StandsLast es e before (Ended timed_out tick) ⊎ StandsBefore es e before (Ended timed_out tick) after
        → (since : ℕ) × ((heard number before).unbound ≡ Some since) × (since + MOST_UNBOUND ≤ tick)
    by_place before after tick (inl s) =
        subst (λ (l : List Told). (since : ℕ) × ((heard number l).unbound ≡ Some since) × (since + MOST_UNBOUND ≤ tick)) s.list (one tick s.same)
    by_place before after tick (inr s) = ends before s.rest tick s.list
