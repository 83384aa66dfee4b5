-- What is kept of a session in threads stays right by each of its calls.
use Rattle.std.proofs.Common.{◌≡◌, ◌≤◌, ◌<◌, ◌^◌, ℕ, ◌+◌, List, [], ◌∷◌, ◌++◌, length, refl, sym, ◌∙◌, ap, arith, subst, cond, Bool, true, false, not}
use Rattle.std.proofs.Common.{Option, Some, None, is_some, max, nat_lt, nat_eq, inl, inr, ◌⊎◌}
use Rattle.std.proofs.lemmas.Bool.{leb-false, eq-eqb}
use Rattle.std.specs.Prelude.{unwrap_or}
use Rattle.ls_value.specs.Each.{Each}
use Rattle.ls_value.specs.declared.limits.TheConstants.{GREATEST_NUMBER, GREATEST_TICK}
use Rattle.ls_event.specs.declared.item.ItemDef.{ItemDef}
use Rattle.ls_request.specs.declared.request.Bind.{Bind}
use Rattle.ls_record.specs.Records.{Session, Stream, Life, Alive, Ending, Closed, rebound, unbound_at, forced, constrained, ended, opened, timed_out}
use Rattle.ls_record.specs.Records.{is_alive, is_bound, change}
use Rattle.ls_register.specs.declared.told.Told.{Told}
use Rattle.ls_register.specs.declared.told.Told.TheVariants.{Numbered, Gave, Bound, Rate, Rebind, Unbound, Ended}
use Rattle.ls_session.specs.declared.session.Session.{Session as Kept}
use Rattle.ls_session.specs.Record.{Record, begun_at, begun_anew, begun_again, created, passed_over, binding_code, constraining_code, loss_of}
use Rattle.ls_session.specs.Session.{StandsSession}
use Rattle.ls_told.specs.Spoken.{Spoken, spoken_of, Next, GivesEnd, GivesOwed, GivesLoop, GivesLine, GivesNothing, next_of, giving, is_forced}
use Rattle.ls_told.specs.Heard.{unspoken, hears, heard_after, heard, tick_or, latest_of, counts_as, rebind_or, rebind_after, has_rebind}
use Rattle.ls_told.specs.Requests.{is_spent, bind_code_of}
use Rattle.ls_told.specs.Seen.{Watched, IsDeclared}
use Rattle.ls_told.specs.Keeping.{KeepsTold}
use Rattle.ls_told.proofs.Appended.{latest_one, latest_rises}
use Rattle.ls_told.proofs.Keeps.{keeps_opened, keeps_bound, keeps_unbound, keeps_forced, keeps_constrained, keeps_ended, keeps_probe}
use Rattle.ls_lawful.specs.Lawful.{LawfulStreams}
use Rattle.ls_session.specs.declared.session.Lost.TheVariants as lost
use Rattle.ls_taking.specs.Groups.{SubSeen}
use Rattle.ls_taking.specs.Lives.{LivesAs, Lives, HasSeat}
use Rattle.ls_parts.specs.Leaving.{IsOverdue}
use Rattle.ls_parts.proofs.Bounds.{fits_bound, fits_unbound, fits_forced, fits_rate, fits_ended, fits_gave, room_left}
use Rattle.ls_parts.proofs.Codes.{bind_alone, bind_fresh, rate_few}

-- what is heard of a session is what is kept of it
pub heard_is : (config : List ItemDef) (number : ℕ) (es : List Told) (ws : List Watched) (subs : List SubSeen) (k : Kept) (r : Record)
    → LivesAs config number es ws subs k r → spoken_of r.session ≡ heard number es
heard_is config number es ws subs k r l = l.told.told

-- the tick as which one counts isn't below the floor
pub above_floor : (config : List ItemDef) (number : ℕ) (es : List Told) (ws : List Watched) (subs : List SubSeen) (k : Kept) (r : Record) (now tick : ℕ)
    → LivesAs config number es ws subs k r → tick ≡ counts_as now es → r.floor ≤ tick
above_floor config number es ws subs k r now tick l is = omega (arith, l.floor, is)

-- after an entry without a tick, and after one at a tick that isn't below the others
pub latest_same : (es : List Told) (e : Told) (n : ℕ) → tick_or (latest_of es) e ≡ latest_of es → latest_of es ≤ n → latest_of (es ++ e ∷ []) ≤ n
latest_same es e n same low = omega (arith, latest_one es e, same, low)

pub latest_at : (es : List Told) (e : Told) (tick n : ℕ) → tick_or (latest_of es) e ≡ max (latest_of es) tick → latest_of es ≤ n → tick ≤ n
    → latest_of (es ++ e ∷ []) ≤ n
latest_at es e tick n is low at = omega (arith, latest_one es e, is, low, at)

pub at_latest : (es : List Told) (e : Told) (tick : ℕ) → tick_or (latest_of es) e ≡ max (latest_of es) tick → tick ≤ latest_of (es ++ e ∷ [])
at_latest es e tick is = omega (arith, latest_one es e, is)

-- it begins
pub lives_opened : (config : List ItemDef) (number keepalive now : ℕ) (limit content : Option ℕ) (k : Kept) → Each IsDeclared config → now ≤ GREATEST_TICK
    → StandsSession k (created number now (opened number keepalive limit content))
    → Lives config number (Rate limit now ∷ Bound 1 0 false keepalive content ∷ []) [] [] k
lives_opened config number keepalive now limit content k declared low stands = (
  created number now (opened number keepalive limit content),
  record {
    stands = stands;
    number_is = refl;
    floor = omega arith;
    latest = omega (arith, low);
    told = keeps_opened config number keepalive now limit content declared;
    seated = tt;
    fits = record { few = omega arith; owed = omega arith };
  },
)

-- another stream is bound
pub lives_bound : (config : List ItemDef) (number : ℕ) (es : List Told) (ws : List Watched) (subs : List SubSeen) (k : Kept) (r : Record)
    (b : Bind) (tick epoch : ℕ) (k2 : Kept) → LivesAs config number es ws subs k r → length es < GREATEST_NUMBER
    → binding_code r.number r.session b ≡ None → epoch ≡ length r.session.streams + 1
    → StandsSession k2 (begun_at tick (rebound r.number b r.session) r)
    → LivesAs config number (es ++ Bound epoch (unwrap_or b.recover r.session.sent) (is_some b.recover) b.keepalive b.length ∷ []) ws subs k2
    (begun_at tick (rebound r.number b r.session) r)
lives_bound config number es ws subs k r b tick epoch k2 l low none next stands =
    let e : Told = Bound epoch (unwrap_or b.recover r.session.sent) (is_some b.recover) b.keepalive b.length in
    record {
      stands = stands;
      number_is = l.number_is;
      floor = omega (arith, l.floor, latest_rises es (e ∷ []));
      latest = latest_same es e GREATEST_TICK refl l.latest;
      told = subst (λ (n : ℕ). KeepsTold config number (es ++ e ∷ []) ws (rebound n b r.session)) (sym l.number_is)
          (keeps_bound config number es ws r.session b epoch (bind_alone r.number r.session b none) next l.told);
      seated = l.seated;
      fits = fits_bound number es epoch (unwrap_or b.recover r.session.sent) (is_some b.recover) b.keepalive b.length low;
    }

-- its stream is lost at a tick
pub lives_unbound : (config : List ItemDef) (number : ℕ) (es : List Told) (ws : List Watched) (subs : List SubSeen) (k : Kept) (r : Record)
    (tick : ℕ) (k2 : Kept) → LivesAs config number es ws subs k r → tick ≤ GREATEST_TICK → r.session.unbound ≡ None
    → StandsSession k2 (begun_anew tick (unbound_at tick r.session) r)
    → LivesAs config number (es ++ Unbound tick ∷ []) ws subs k2 (begun_anew tick (unbound_at tick r.session) r)
lives_unbound config number es ws subs k r tick k2 l low none stands =
    record {
      stands = stands;
      number_is = l.number_is;
      floor = at_latest es (Unbound tick) tick refl;
      latest = latest_at es (Unbound tick) tick GREATEST_TICK refl l.latest low;
      told = keeps_unbound config number es ws r.session tick l.told;
      seated = l.seated;
      fits = fits_unbound number es tick l.fits (sym (ap (λ (p : Spoken). p.unbound) l.told.told) ∙ none);
    }

-- and is to be left by LOOP
some_streams : (config : List ItemDef) (number : ℕ) (es : List Told) (ws : List Watched) (s : Session) → KeepsTold config number es ws s → s.streams ≡ [] → ⊥
some_streams config number es ws s k none =
    subst (λ (ts : List Stream). LawfulStreams (length s.board.lines) s.sent ts) none k.alone.session.streams

pub lives_forced : (config : List ItemDef) (number : ℕ) (es : List Told) (ws : List Watched) (subs : List SubSeen) (k : Kept) (r : Record) (k2 : Kept)
    → LivesAs config number es ws subs k r → is_forced r.session.streams ≡ false → StandsSession k2 (begun_again (forced r.session) r)
    → LivesAs config number (es ++ Rebind ∷ []) ws subs k2 (begun_again (forced r.session) r)
lives_forced config number es ws subs k r k2 l free stands =
    let streams : r.session.streams ≡ (heard number es).streams = ap (λ (p : Spoken). p.streams) l.told.told in
    record {
      stands = stands;
      number_is = l.number_is;
      floor = omega (arith, l.floor, latest_rises es (Rebind ∷ []));
      latest = latest_same es Rebind GREATEST_TICK refl l.latest;
      told = keeps_forced config number es ws r.session l.told;
      seated = l.seated;
      fits = fits_forced number es l.fits (ap is_forced (sym streams) ∙ free) (λ none. some_streams config number es ws r.session l.told (streams ∙ none));
    }

-- where it was to be before, it is as it was
pub lives_again : (config : List ItemDef) (number : ℕ) (es : List Told) (ws : List Watched) (subs : List SubSeen) (k : Kept) (r : Record) (s : Session) (k2 : Kept)
    → LivesAs config number es ws subs k r → s ≡ r.session → StandsSession k2 (begun_again s r)
    → LivesAs config number es ws subs k2 (begun_again s r)
lives_again config number es ws subs k r s k2 l same stands =
    record {
      stands = stands;
      number_is = l.number_is;
      floor = l.floor;
      latest = l.latest;
      told = subst (λ (x : Session). KeepsTold config number es ws x) (sym same) l.told;
      seated = subst (λ (x : Session). Each (HasSeat config ws subs) x.board.round) (sym same) l.seated;
      fits = l.fits;
    }

-- it has another bandwidth
pub lives_constrained : (config : List ItemDef) (number : ℕ) (es : List Told) (ws : List Watched) (subs : List SubSeen) (k : Kept) (r : Record)
    (limit : Option ℕ) (tick : ℕ) (k2 : Kept) → LivesAs config number es ws subs k r → tick ≤ GREATEST_TICK → constraining_code r.session ≡ None
    → StandsSession k2 (begun_anew tick (constrained limit r.session) r)
    → LivesAs config number (es ++ Rate limit tick ∷ []) ws subs k2 (begun_anew tick (constrained limit r.session) r)
lives_constrained config number es ws subs k r limit tick k2 l low none stands =
    let owed : length r.session.owed ≡ length (heard number es).owed = ap (λ (p : Spoken). length p.owed) l.told.told in
    record {
      stands = stands;
      number_is = l.number_is;
      floor = at_latest es (Rate limit tick) tick refl;
      latest = latest_at es (Rate limit tick) tick GREATEST_TICK refl l.latest low;
      told = keeps_constrained config number es ws r.session limit tick l.told;
      seated = l.seated;
      fits = fits_rate number es limit tick l.fits (omega (arith, rate_few r.session none, owed));
    }

-- it ends
pub alive_is : (l : Life) → is_alive l ≡ true → l ≡ Alive
alive_is Alive is = refl
alive_is (Ending code) is = absurd (let x : false ≡ true = is in cc)
alive_is (Closed code) is = absurd (let x : false ≡ true = is in cc)

pub lives_ended : (config : List ItemDef) (number : ℕ) (es : List Told) (ws : List Watched) (subs : List SubSeen) (k : Kept) (r : Record)
    (code tick : ℕ) (k2 : Kept) → LivesAs config number es ws subs k r → tick ≤ GREATEST_TICK → r.floor ≤ tick → is_alive r.session.life ≡ true
    → (code ≡ timed_out → IsOverdue tick (heard number es)) → StandsSession k2 (begun_again (ended code r.session) r)
    → LivesAs config number (es ++ Ended code tick ∷ []) ws [] k2 (begun_again (ended code r.session) r)
lives_ended config number es ws subs k r code tick k2 l low above alive late stands =
    let told : spoken_of r.session ≡ heard number es = l.told.told in
    record {
      stands = stands;
      number_is = l.number_is;
      floor = omega (arith, above, at_latest es (Ended code tick) tick refl);
      latest = latest_at es (Ended code tick) tick GREATEST_TICK refl l.latest low;
      told = keeps_ended config number es ws r.session code tick
          (λ is. let o = late is in (o.since, ap (λ (p : Spoken). p.unbound) told ∙ o.unbound, o.late)) l.told;
      seated = tt;
      fits = fits_ended number es code tick l.fits (sym (ap (λ (p : Spoken). p.life) told) ∙ alive_is r.session.life alive);
    }

-- PROBE is given, where nothing else is to be
pub lives_probed : (config : List ItemDef) (number : ℕ) (es : List Told) (ws : List Watched) (subs : List SubSeen) (k : Kept) (r : Record)
    (epoch tick : ℕ) (text : List ℕ) → LivesAs config number es ws subs k r → length es < GREATEST_NUMBER → tick ≤ GREATEST_TICK
    → next_of (heard number es) ≡ GivesNothing → LivesAs config number (es ++ Gave epoch text tick ∷ []) ws subs k r
lives_probed config number es ws subs k r epoch tick text l low at none =
    record {
      stands = l.stands;
      number_is = l.number_is;
      floor = omega (arith, l.floor, latest_rises es (Gave epoch text tick ∷ []));
      latest = latest_at es (Gave epoch text tick) tick GREATEST_TICK refl l.latest at;
      told = keeps_probe config number es ws r.session epoch tick text (ap next_of l.told.told ∙ none) l.told;
      seated = l.seated;
      fits = fits_gave number es epoch text tick l.fits low;
    }

-- a slot is passed over
pub lives_passed_over : (config : List ItemDef) (number : ℕ) (es : List Told) (ws : List Watched) (subs : List SubSeen) (k : Kept) (r : Record) (k2 : Kept)
    → LivesAs config number es ws subs k r → StandsSession k2 (passed_over r) → LivesAs config number es ws subs k2 (passed_over r)
lives_passed_over config number es ws subs k r k2 l stands =
    record {
      stands = stands;
      number_is = l.number_is;
      floor = l.floor;
      latest = l.latest;
      told = l.told;
      seated = l.seated;
      fits = l.fits;
    }

-- what is kept stands for the record after a call that changed nothing of it
pub lives_same : (config : List ItemDef) (number : ℕ) (es : List Told) (ws : List Watched) (subs : List SubSeen) (k : Kept) (r : Record) (k2 : Kept)
    → LivesAs config number es ws subs k r → StandsSession k2 r → LivesAs config number es ws subs k2 r
lives_same config number es ws subs k r k2 l stands =
    record {
      stands = stands;
      number_is = l.number_is;
      floor = l.floor;
      latest = l.latest;
      told = l.told;
      seated = l.seated;
      fits = l.fits;
    }

-- there is room for a few entries
pub lives_room : (config : List ItemDef) (number : ℕ) (es : List Told) (ws : List Watched) (subs : List SubSeen) (k : Kept)
    → Lives config number es ws subs k → length es + 2 < 2 ^ 61
lives_room config number es ws subs k l = room_left number es l.1.fits

-- what a bind that was accepted makes of the history and of what is kept
module _ (config : List ItemDef) (number : ℕ) (es : List Told) (ws : List Watched) (subs : List SubSeen) (k : Kept) (r : Record)
    (l : LivesAs config number es ws subs k r) (b : Bind) (now tick epoch from : ℕ) (counted : Bool) (k2 : Kept) (es2 : List Told)
    (fresh : is_spent es ≡ false) (at : tick ≡ counts_as now es) (most : tick ≤ GREATEST_TICK)
    (done : (binding_code r.number r.session b ≡ None) × (epoch ≡ length r.session.streams + 1)
    × (r.floor ≤ tick → tick ≤ GREATEST_TICK → StandsSession k2 (begun_at tick (rebound r.number b r.session) r)))
    (sent : (q : Record) → StandsSession k2 q → from ≡ q.session.sent) (flag : counted ≡ is_some b.recover)
    (lines : es2 ≡ es ++ Bound epoch from counted b.keepalive b.length ∷ []) where
  stands_bound : StandsSession k2 (begun_at tick (rebound r.number b r.session) r)
  stands_bound = done.2 (above_floor config number es ws subs k r now tick l at) most

  lines_bound : es2 ≡ es ++ Bound epoch (unwrap_or b.recover r.session.sent) (is_some b.recover) b.keepalive b.length ∷ []
  lines_bound =
      lines ∙ ap (λ n. es ++ Bound epoch n counted b.keepalive b.length ∷ []) (sent _ stands_bound)
      ∙ ap (λ c. es ++ Bound epoch (unwrap_or b.recover r.session.sent) c b.keepalive b.length ∷ []) flag

  pub bound_lives : Lives config number es2 ws subs k2
  bound_lives = (
    begun_at tick (rebound r.number b r.session) r,
    subst (λ (h : List Told). LivesAs config number h ws subs k2 (begun_at tick (rebound r.number b r.session) r)) (sym lines_bound)
        (lives_bound config number es ws subs k r b tick epoch k2 l (leb-false GREATEST_NUMBER (length es) fresh) done.0 done.1 stands_bound),
  )

  pub bound_accepted : nat_eq r.number b.session ≡ true
      → (bind_code_of number es b.recover ≡ None) × (epoch ≡ length (heard number es).streams + 1)
      × (es2 ≡ es ++ Bound epoch (unwrap_or b.recover (heard number es).sent) (is_some b.recover) b.keepalive b.length ∷ [])
  bound_accepted named = (
    bind_fresh number es r.session b r.number l.told.told named fresh ∙ done.0,
    done.1 ∙ ap (λ (p : Spoken). length p.streams + 1) l.told.told,
    lines_bound ∙ ap (λ (p : Spoken). es ++ Bound epoch (unwrap_or b.recover p.sent) (is_some b.recover) b.keepalive b.length ∷ []) l.told.told,
  )

-- a bind names the session
pub named_by : (config : List ItemDef) (number : ℕ) (es : List Told) (ws : List Watched) (subs : List SubSeen) (k : Kept) (r : Record) (b : Bind)
    → LivesAs config number es ws subs k r → b.session ≡ number → nat_eq r.number b.session ≡ true
named_by config number es ws subs k r b l named = eq-eqb r.number b.session (l.number_is ∙ sym named)

-- whether the newest stream is to be left by LOOP, by the entries
abbrev pub ForcedAs : List Stream → Bool → Type 0
ForcedAs ts wished = (ts ≡ []) ⊎ (is_forced ts ≡ wished)

forced_kept : (f : Stream → Stream) → ((t : Stream) → (f t).forced ≡ t.forced) → (ts : List Stream) (wished : Bool) → ForcedAs ts wished
    → ForcedAs (change 0 f ts) wished
forced_kept f same [] wished is = inl refl
forced_kept f same (t ∷ ts) wished (inl none) = absurd (let x : t ∷ ts ≡ [] = none in cc)
forced_kept f same (t ∷ ts) wished (inr is) = inr (same t ∙ is)

forced_wished : (ts : List Stream) → ForcedAs (change 0 (λ (t : Stream). record t { forced = true }) ts) true
forced_wished [] = inl refl
forced_wished (t ∷ ts) = inr refl

forced_given : (tick : ℕ) (n : Next) (p : Spoken) (wished : Bool) → ForcedAs p.streams wished → ForcedAs (giving tick n p).streams wished
forced_given tick (GivesEnd code) p wished is = forced_kept _ (λ t. refl) p.streams wished is
forced_given tick (GivesOwed text) p wished is = forced_kept _ (λ t. refl) p.streams wished is
forced_given tick GivesLoop p wished is = is
forced_given tick (GivesLine text) p wished is = forced_kept _ (λ t. refl) p.streams wished is
forced_given tick GivesNothing p wished is = is

forced_step : (number : ℕ) (p : Spoken) (wished : Bool) (e : Told) → ForcedAs p.streams wished → ForcedAs (hears number p e).streams (rebind_or wished e)
forced_step number p wished (Numbered line) is = is
forced_step number p wished (Gave epoch text tick) is = forced_given tick (next_of p) p wished is
forced_step number p wished (Bound epoch from counted keepalive content) is = inr refl
forced_step number p wished (Rate limit tick) is = is
forced_step number p wished Rebind is = forced_wished p.streams
forced_step number p wished (Unbound tick) is = is
forced_step number p wished (Ended code tick) is = is

forced_from : (number : ℕ) (p : Spoken) (wished : Bool) (es : List Told) → ForcedAs p.streams wished
    → ForcedAs (heard_after number p es).streams (rebind_after wished es)
forced_from number p wished [] is = is
forced_from number p wished (e ∷ es) is = forced_from number (hears number p e) (rebind_or wished e) es (forced_step number p wished e is)

pub forced_is : (config : List ItemDef) (number : ℕ) (es : List Told) (ws : List Watched) (s : Session) → KeepsTold config number es ws s
    → is_forced s.streams ≡ has_rebind es
forced_is config number es ws s k = by_either (forced_from number unspoken false es (inl refl))
  where
    streams : s.streams ≡ (heard number es).streams
    streams = ap (λ (p : Spoken). p.streams) k.told

    by_either : ForcedAs (heard number es).streams (has_rebind es) → is_forced s.streams ≡ has_rebind es
    by_either (inl none) = absurd (some_streams config number es ws s k (streams ∙ none))
    by_either (inr is) = ap is_forced streams ∙ is

-- a stream that is lost was bound
pub lost_bound : (epoch : ℕ) (s : Session) → loss_of epoch s ≡ lost.Unbound → s.unbound ≡ None
lost_bound epoch s is = by_newer (nat_lt epoch (length s.streams)) is
  where
    by_value : (o : Option ℕ) → cond (not (is_some o)) lost.Unbound lost.NotBound ≡ lost.Unbound → o ≡ None
    by_value None is = refl
    by_value (Some t) is = absurd (let x : lost.NotBound ≡ lost.Unbound = is in cc)

    by_newer : (b : Bool) → cond b (lost.Superseded (length s.streams)) (cond (is_bound s) lost.Unbound lost.NotBound) ≡ lost.Unbound → s.unbound ≡ None
    by_newer true is = absurd (let x : lost.Superseded (length s.streams) ≡ lost.Unbound = is in cc)
    by_newer false is = by_value s.unbound is
