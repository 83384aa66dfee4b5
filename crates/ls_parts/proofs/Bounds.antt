-- How many entries a session's history has at most.
use Rattle.std.proofs.Common.{◌≡◌, ◌≤◌, ◌<◌, ◌^◌, ℕ, ◌+◌, List, [], ◌∷◌, ◌++◌, length, refl, sym, ap, arith, subst, Bool, true, false, Option, Some}
use Rattle.std.proofs.Common.{None, is_some}
use Rattle.std.proofs.lemmas.List.{length-append}
use Rattle.ls_value.specs.declared.limits.TheConstants.{GREATEST_NUMBER}
use Rattle.ls_record.specs.declared.TheConstants.{MOST_UNSENT}
use Rattle.ls_record.specs.Records.{Stream, Life, Alive, Ending, Closed, change, opening_lines, count_lines, bandwidth_text}
use Rattle.ls_register.specs.declared.told.Told.{Told}
use Rattle.ls_register.specs.declared.told.Told.TheVariants.{Numbered, Gave, Bound, Rate, Rebind, Unbound, Ended}
use Rattle.ls_register.specs.declared.told.Numbered.{Numbered as NumberedLine}
use Rattle.ls_told.specs.Spoken.{Spoken, Next, GivesEnd, GivesOwed, GivesLoop, GivesLine, GivesNothing, next_of, giving, is_forced, without_first}
use Rattle.ls_told.specs.Spoken.{next_living}
use Rattle.ls_told.specs.Heard.{hears, heard, counted_from}
use Rattle.ls_told.proofs.Appended.{heard_one}
use Rattle.ls_taking.specs.Lives.{extra_of, life_rank, one_if, FitsHistory}

pub length_one : (es : List Told) (e : Told) → length (es ++ e ∷ []) ≡ length es + 1
length_one es e = length-append es (e ∷ [])

one_low : (b : Bool) → one_if b ≤ 1
one_low true = omega arith
one_low false = omega arith

rank_low : (l : Life) → life_rank l ≤ 2
rank_low Alive = omega arith
rank_low (Ending code) = omega arith
rank_low (Closed code) = omega arith

-- there is room for some entries more, as a shared history has 2^61
pub room_left : (number : ℕ) (es : List Told) → FitsHistory number es → length es + 2 < 2 ^ 61
room_left number es f =
    let h : Spoken = heard number es in
    omega (arith, f.few, f.owed, one_low (is_some h.unbound), rank_low h.life, one_low (is_forced h.streams))

-- one entry more where the history isn't spent
pub fits_low : (number : ℕ) (es : List Told) (e : Told) → length es < GREATEST_NUMBER → length (hears number (heard number es) e).owed ≤ MOST_UNSENT
    → FitsHistory number (es ++ e ∷ [])
fits_low number es e low owed =
    record {
      few = omega (arith, low, length_one es e);
      owed = subst (λ (p : Spoken). length p.owed ≤ MOST_UNSENT) (sym (heard_one number es e)) owed;
    }

-- and one of those that may come even then
pub fits_more : (number : ℕ) (es : List Told) (e : Told) → FitsHistory number es
    → extra_of (heard number es) + 1 ≤ extra_of (hears number (heard number es) e) → length (hears number (heard number es) e).owed ≤ MOST_UNSENT
    → FitsHistory number (es ++ e ∷ [])
fits_more number es e f more owed =
    record {
      few =
          let same : extra_of (heard number (es ++ e ∷ [])) ≡ extra_of (hears number (heard number es) e) = ap extra_of (heard_one number es e) in
          omega (arith, f.few, more, length_one es e, same);
      owed = subst (λ (p : Spoken). length p.owed ≤ MOST_UNSENT) (sym (heard_one number es e)) owed;
    }

-- nothing is owed by a line that is given
first_fewer : (owed : List (List ℕ)) → length (without_first owed) ≤ length owed
first_fewer [] = omega arith
first_fewer (text ∷ owed) = omega arith

pub giving_owed : (tick : ℕ) (n : Next) (p : Spoken) → length (giving tick n p).owed ≤ length p.owed
giving_owed tick (GivesEnd code) p = omega arith
giving_owed tick (GivesOwed text) p = first_fewer p.owed
giving_owed tick GivesLoop p = omega arith
giving_owed tick (GivesLine text) p = omega arith
giving_owed tick GivesNothing p = omega arith

-- what begins a stream is few lines
pub bound_owed : (number keepalive : ℕ) (limit count : Option ℕ) → length (opening_lines number keepalive limit ++ count_lines count) ≤ 4
bound_owed number keepalive limit None = omega arith
bound_owed number keepalive limit (Some n) = omega arith

pub forced_text : (f : Stream → Stream) → ((t : Stream) → (f t).forced ≡ t.forced) → (ts : List Stream) → is_forced (change 0 f ts) ≡ is_forced ts
forced_text f same [] = refl
forced_text f same (t ∷ ts) = same t

-- the entries that may come: a loss, an end, END, a wish for LOOP and a bandwidth
pub fits_unbound : (number : ℕ) (es : List Told) (tick : ℕ) → FitsHistory number es → (heard number es).unbound ≡ None
    → FitsHistory number (es ++ Unbound tick ∷ [])
fits_unbound number es tick f none =
    let h : Spoken = heard number es in
    let zero : one_if (is_some h.unbound) ≡ 0 = ap (λ (o : Option ℕ). one_if (is_some o)) none in
    fits_more number es (Unbound tick) f (omega (arith, zero)) f.owed

pub fits_ended : (number : ℕ) (es : List Told) (code tick : ℕ) → FitsHistory number es → (heard number es).life ≡ Alive
    → FitsHistory number (es ++ Ended code tick ∷ [])
fits_ended number es code tick f alive =
    let h : Spoken = heard number es in
    let zero : life_rank h.life ≡ 0 = ap life_rank alive in
    fits_more number es (Ended code tick) f (omega (arith, zero)) f.owed

pub fits_end : (number : ℕ) (es : List Told) (epoch : ℕ) (text : List ℕ) (tick code : ℕ) → FitsHistory number es → (heard number es).life ≡ Ending code
    → FitsHistory number (es ++ Gave epoch text tick ∷ [])
fits_end number es epoch text tick code f ends =
    let h : Spoken = heard number es in
    let next : next_of h ≡ GivesEnd code = ap (next_living h) ends in
    let after : giving tick (next_of h) h ≡ giving tick (GivesEnd code) h = ap (λ (n : Next). giving tick n h) next in
    let one : life_rank h.life ≡ 1 = ap life_rank ends in
    let same : is_forced (giving tick (GivesEnd code) h).streams ≡ is_forced h.streams = forced_text _ (λ t. refl) h.streams in
    let bits : one_if (is_forced (giving tick (GivesEnd code) h).streams) ≡ one_if (is_forced h.streams) = ap one_if same in
    let extra : extra_of (giving tick (next_of h) h) ≡ extra_of (giving tick (GivesEnd code) h) = ap extra_of after in
    let owes : length (giving tick (next_of h) h).owed ≡ length h.owed = ap (λ (p : Spoken). length p.owed) after in
    fits_more number es (Gave epoch text tick) f (omega (arith, one, bits, extra)) (omega (arith, f.owed, owes))

forced_true : (ts : List Stream) → (ts ≡ [] → ⊥) → is_forced (change 0 (λ (t : Stream). record t { forced = true }) ts) ≡ true
forced_true [] some = absurd (some refl)
forced_true (t ∷ ts) some = refl

pub fits_forced : (number : ℕ) (es : List Told) → FitsHistory number es → is_forced (heard number es).streams ≡ false
    → ((heard number es).streams ≡ [] → ⊥) → FitsHistory number (es ++ Rebind ∷ [])
fits_forced number es f free some =
    let h : Spoken = heard number es in
    let zero : one_if (is_forced h.streams) ≡ 0 = ap one_if free in
    let one : one_if (is_forced (hears number h Rebind).streams) ≡ 1 = ap one_if (forced_true h.streams some) in
    fits_more number es Rebind f (omega (arith, zero, one)) f.owed

pub fits_rate : (number : ℕ) (es : List Told) (limit : Option ℕ) (tick : ℕ) → FitsHistory number es → length (heard number es).owed + 1 ≤ MOST_UNSENT
    → FitsHistory number (es ++ Rate limit tick ∷ [])
fits_rate number es limit tick f few =
    let h : Spoken = heard number es in
    let more : length (hears number h (Rate limit tick)).owed ≡ length h.owed + 1 = length-append h.owed (bandwidth_text limit ∷ []) in
    fits_more number es (Rate limit tick) f (omega (arith, more)) (omega (arith, few, more))

-- and those that come only where the history isn't spent
pub fits_gave : (number : ℕ) (es : List Told) (epoch : ℕ) (text : List ℕ) (tick : ℕ) → FitsHistory number es → length es < GREATEST_NUMBER
    → FitsHistory number (es ++ Gave epoch text tick ∷ [])
fits_gave number es epoch text tick f low =
    fits_low number es (Gave epoch text tick) low (omega (arith, f.owed, giving_owed tick (next_of (heard number es)) (heard number es)))

pub fits_bound : (number : ℕ) (es : List Told) (epoch from : ℕ) (counted : Bool) (keepalive : ℕ) (content : Option ℕ) → length es < GREATEST_NUMBER
    → FitsHistory number (es ++ Bound epoch from counted keepalive content ∷ [])
fits_bound number es epoch from counted keepalive content low =
    fits_low number es (Bound epoch from counted keepalive content) low
    (omega (arith, bound_owed number keepalive (heard number es).rate.limit (counted_from counted from)))

pub fits_numbered : (number : ℕ) (es : List Told) (line : NumberedLine) → FitsHistory number es → length es < GREATEST_NUMBER
    → FitsHistory number (es ++ Numbered line ∷ [])
fits_numbered number es line f low = fits_low number es (Numbered line) low f.owed
