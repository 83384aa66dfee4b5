-- What the entries of a session's history say of it.
use Rattle.std.proofs.Common.{◌≡◌, ◌≤◌, ◌⊎◌, ℕ, zero, suc, ◌+◌, List, [], ◌∷◌, length, refl, sym, ◌∙◌, ap, arith, subst}
use Rattle.std.proofs.Common.{Bool, true, false, Option, Some, None, inl, inr, nat_lt, slice_get}
use Rattle.std.proofs.lemmas.List.{length-append}
use Rattle.ls_event.specs.declared.item.ItemDef.{ItemDef}
use Rattle.ls_record.specs.Records.{Session, Stream, Life, Alive, Ending, Closed, change, opening_lines, is_to_loop}
use Rattle.ls_record.specs.Records.{count_lines, bandwidth_text}
use Rattle.ls_record.proofs.Rules.{cond_rule}
use Rattle.ls_session.specs.Record.{ended_by}
use Rattle.ls_register.specs.declared.told.Told.{Told}
use Rattle.ls_register.specs.declared.told.Told.TheVariants.{Numbered, Gave, Bound, Rate, Rebind, Unbound, Ended}
use Rattle.ls_told.specs.Spoken.{Spoken, Next, GivesEnd, GivesOwed, GivesLoop, GivesLine, GivesNothing, next_of, giving, is_forced}
use Rattle.ls_told.specs.Spoken.{next_living, next_owing, without_first}
use Rattle.ls_told.specs.Heard.{unspoken, hears, heard_after, heard, counted_from, epoch_or, epoch_after, epoch_of, CountsOne, CountsOn}
use Rattle.ls_told.specs.Heard.{rebind_or, rebind_after, has_rebind, rates_or, rates_after, rates_of}
use Rattle.ls_told.specs.Seen.{Watched}
use Rattle.ls_told.specs.Requests.{HasBound}
use Rattle.ls_told.specs.Keeping.{KeepsTold}

length_changed : {A : Type 0} (n : ℕ) (f : A → A) (xs : List A) → length (change n f xs) ≡ length xs
length_changed n f [] = refl
length_changed zero f (x ∷ xs) = refl
length_changed (suc n) f (x ∷ xs) = ap suc (length_changed n f xs)

-- a line that is given begins no stream
given_streams : (tick : ℕ) (n : Next) (s : Spoken) → length (giving tick n s).streams ≡ length s.streams
given_streams tick (GivesEnd code) s = length_changed 0 _ s.streams
given_streams tick (GivesOwed text) s = length_changed 0 _ s.streams
given_streams tick GivesLoop s = refl
given_streams tick (GivesLine text) s = length_changed 0 _ s.streams
given_streams tick GivesNothing s = refl

-- as many streams were bound as the newest one's epoch says
streams_one : (number : ℕ) (s : Spoken) (e : Told) → CountsOne (length s.streams) e → length (hears number s e).streams ≡ epoch_or (length s.streams) e
streams_one number s (Numbered line) c = refl
streams_one number s (Gave epoch text tick) c = given_streams tick (next_of s) s
streams_one number s (Bound epoch from counted keepalive content) c = omega (arith, c)
streams_one number s (Rate limit tick) c = refl
streams_one number s Rebind c = length_changed 0 _ s.streams
streams_one number s (Unbound tick) c = refl
streams_one number s (Ended code tick) c = refl

streams_after : (number : ℕ) (s : Spoken) (es : List Told) → CountsOn (length s.streams) es
    → length (heard_after number s es).streams ≡ epoch_after (length s.streams) es
streams_after number s [] c = refl
streams_after number s (e ∷ es) c =
    let one : length (hears number s e).streams ≡ epoch_or (length s.streams) e = streams_one number s e c.0 in
    streams_after number (hears number s e) es (subst (λ (n : ℕ). CountsOn n es) (sym one) c.1) ∙ ap (λ n. epoch_after n es) one

pub streams_counted : (number : ℕ) (es : List Told) → CountsOn 0 es → length (heard number es).streams ≡ epoch_of es
streams_counted number es c = streams_after number unspoken es c

pub epoch_is : (config : List ItemDef) (number : ℕ) (lines : List Told) (ws : List Watched) (s : Session) → KeepsTold config number lines ws s
    → length s.streams ≡ epoch_of lines
epoch_is config number lines ws s k = ap (λ (p : Spoken). length p.streams) k.told ∙ streams_counted number lines k.counts

-- the stream of the newest epoch was bound
bound_after : (epoch e : ℕ) (es : List Told) → epoch_after epoch es ≡ e → (epoch ≡ e) ⊎ HasBound e es
bound_after epoch e [] is = inl is
bound_after epoch e (x ∷ es) is = behind x epoch (bound_after (epoch_or epoch x) e es is)
  where
    here : (x : Told) (epoch : ℕ) → epoch_or epoch x ≡ e → (epoch ≡ e) ⊎ HasBound e (x ∷ es)
    here (Numbered line) epoch is = inl is
    here (Gave e' text tick) epoch is = inl is
    here (Bound e' from counted keepalive content) epoch is =
        inr (zero, from, counted, keepalive, content, ap (λ (n : ℕ). Some (Bound n from counted keepalive content)) is)
    here (Rate limit tick) epoch is = inl is
    here Rebind epoch is = inl is
    here (Unbound tick) epoch is = inl is
    here (Ended code tick) epoch is = inl is

    behind : (x : Told) (epoch : ℕ) → (epoch_or epoch x ≡ e) ⊎ HasBound e es → (epoch ≡ e) ⊎ HasBound e (x ∷ es)
    behind x epoch (inl same) = here x epoch same
    behind x epoch (inr b) = inr (suc b.0, b.1, b.2, b.3, b.4, b.5)

pub bound_there : (e : ℕ) (es : List Told) → epoch_of es ≡ e → 1 ≤ e → HasBound e es
bound_there e es is some = by_place (bound_after 0 e es is)
  where
    by_place : (0 ≡ e) ⊎ HasBound e es → HasBound e es
    by_place (inl none) = absurd (omega (arith, none, some))
    by_place (inr there) = there

-- a session that has ended was told to have
given_owing : (tick : ℕ) (s : Spoken) (owed : List (List ℕ)) → ended_by (giving tick (next_owing s owed) s).life ≡ ended_by s.life
given_owing tick s (text ∷ owed) = refl
given_owing tick s [] =
    cond_rule (λ (n : Next). ended_by (giving tick n s).life ≡ ended_by s.life) (is_to_loop s.streams) _ _ (λ t. refl)
    (λ t. cond_rule (λ (n : Next). ended_by (giving tick n s).life ≡ ended_by s.life) (nat_lt s.sent (length s.texts)) _ _ (λ u. refl) (λ u. refl))

given_life : (tick : ℕ) (s : Spoken) → ended_by (giving tick (next_of s) s).life ≡ ended_by s.life
given_life tick s = by_life s.life refl
  where
    by_life : (life : Life) → s.life ≡ life → ended_by (giving tick (next_living s life) s).life ≡ ended_by s.life
    by_life Alive is = given_owing tick s s.owed
    by_life (Ending code) is = sym (ap ended_by is)
    by_life (Closed code) is = refl

-- as an entry of this code says
abbrev pub HasEnd : ℕ → List Told → Type 0
HasEnd code es = (k tick : ℕ) × (slice_get es k ≡ Some (Ended code tick))

ended_after : (number code : ℕ) (s : Spoken) (es : List Told) → ended_by (heard_after number s es).life ≡ Some code
    → (ended_by s.life ≡ Some code) ⊎ HasEnd code es
ended_after number code s [] is = inl is
ended_after number code s (e ∷ es) is = behind (ended_after number code (hears number s e) es is)
  where
    here : (e : Told) → ended_by (hears number s e).life ≡ Some code → (ended_by s.life ≡ Some code) ⊎ HasEnd code (e ∷ es)
    here (Numbered line) is = inl is
    here (Gave epoch text tick) is = inl (sym (given_life tick s) ∙ is)
    here (Bound epoch from counted keepalive content) is = inl is
    here (Rate limit tick) is = inl is
    here Rebind is = inl is
    here (Unbound tick) is = inl is
    here (Ended c tick) is = let same : c ≡ code = cc in inr (zero, tick, ap (λ (n : ℕ). Some (Ended n tick)) same)

    behind : (ended_by (hears number s e).life ≡ Some code) ⊎ HasEnd code es → (ended_by s.life ≡ Some code) ⊎ HasEnd code (e ∷ es)
    behind (inl was) = here e was
    behind (inr there) = inr (suc there.0, there.1, there.2)

pub ended_there : (number code : ℕ) (es : List Told) → ended_by (heard number es).life ≡ Some code → HasEnd code es
ended_there number code es is = by_place (ended_after number code unspoken es is)
  where
    by_place : (ended_by Alive ≡ Some code) ⊎ HasEnd code es → HasEnd code es
    by_place (inl none) = absurd (let x : None ≡ Some code = none in cc)
    by_place (inr there) = there

-- a stream that is forced to be over was wished to be left
forced_changed : (f : Stream → Stream) → ((t : Stream) → (f t).forced ≡ t.forced) → (ts : List Stream) → is_forced (change 0 f ts) ≡ is_forced ts
forced_changed f same [] = refl
forced_changed f same (t ∷ ts) = same t

given_forced : (tick : ℕ) (n : Next) (s : Spoken) → is_forced (giving tick n s).streams ≡ is_forced s.streams
given_forced tick (GivesEnd code) s = forced_changed _ (λ t. refl) s.streams
given_forced tick (GivesOwed text) s = forced_changed _ (λ t. refl) s.streams
given_forced tick GivesLoop s = refl
given_forced tick (GivesLine text) s = forced_changed _ (λ t. refl) s.streams
given_forced tick GivesNothing s = refl

rebound_one : (number : ℕ) (s : Spoken) (wished : Bool) (e : Told) → (is_forced s.streams ≡ true → wished ≡ true)
    → is_forced (hears number s e).streams ≡ true → rebind_or wished e ≡ true
rebound_one number s wished (Numbered line) before is = before is
rebound_one number s wished (Gave epoch text tick) before is = before (sym (given_forced tick (next_of s) s) ∙ is)
rebound_one number s wished (Bound epoch from counted keepalive content) before is = is
rebound_one number s wished (Rate limit tick) before is = before is
rebound_one number s wished Rebind before is = refl
rebound_one number s wished (Unbound tick) before is = before is
rebound_one number s wished (Ended code tick) before is = before is

rebound_after : (number : ℕ) (s : Spoken) (wished : Bool) (es : List Told) → (is_forced s.streams ≡ true → wished ≡ true)
    → is_forced (heard_after number s es).streams ≡ true → rebind_after wished es ≡ true
rebound_after number s wished [] before is = before is
rebound_after number s wished (e ∷ es) before is =
    rebound_after number (hears number s e) (rebind_or wished e) es (rebound_one number s wished e before) is

pub rebind_there : (number : ℕ) (es : List Told) → is_forced (heard number es).streams ≡ true → has_rebind es ≡ true
rebind_there number es is = rebound_after number unspoken false es (λ t. t) is

-- no more is owed than the lines with which a stream begins, and one for each bandwidth that was set since
less_first : (owed : List (List ℕ)) → length (without_first owed) ≤ length owed
less_first [] = omega arith
less_first (text ∷ owed) = omega arith

given_owed : (tick : ℕ) (n : Next) (s : Spoken) → length (giving tick n s).owed ≤ length s.owed
given_owed tick (GivesEnd code) s = omega arith
given_owed tick (GivesOwed text) s = less_first s.owed
given_owed tick GivesLoop s = omega arith
given_owed tick (GivesLine text) s = omega arith
given_owed tick GivesNothing s = omega arith

count_few : (o : Option ℕ) → length (count_lines o) ≤ 1
count_few None = omega arith
count_few (Some n) = omega arith

owed_one : (number : ℕ) (s : Spoken) (rates : ℕ) (e : Told) → length s.owed ≤ 4 + rates → length (hears number s e).owed ≤ 4 + rates_or rates e
owed_one number s rates (Numbered line) few = few
owed_one number s rates (Gave epoch text tick) few = omega (arith, few, given_owed tick (next_of s) s)
owed_one number s rates (Bound epoch from counted keepalive content) few =
    omega (
      arith,
      count_few (counted_from counted from),
      length-append (opening_lines number keepalive s.rate.limit) (count_lines (counted_from counted from)),
    )
owed_one number s rates (Rate limit tick) few = omega (arith, few, length-append s.owed (bandwidth_text limit ∷ []))
owed_one number s rates Rebind few = few
owed_one number s rates (Unbound tick) few = few
owed_one number s rates (Ended code tick) few = few

owed_after : (number : ℕ) (s : Spoken) (rates : ℕ) (es : List Told) → length s.owed ≤ 4 + rates
    → length (heard_after number s es).owed ≤ 4 + rates_after rates es
owed_after number s rates [] few = few
owed_after number s rates (e ∷ es) few = owed_after number (hears number s e) (rates_or rates e) es (owed_one number s rates e few)

pub owed_few : (number : ℕ) (es : List Told) → length (heard number es).owed ≤ 4 + rates_of es
owed_few number es = owed_after number unspoken 0 es (omega arith)
