-- What a caller sees more of a session.
use Rattle.std.proofs.Common.{◌≡◌, ◌+◌, ℕ, List, [], ◌∷◌, ◌++◌, length, Some, slice_get, refl, sym, ap, subst, ◌∙◌, arith}
use Rattle.std.proofs.Common.{Bool, true, false, not, ◌||◌, Option, None, nat_le, nat_lt, is_some, unwrap_or, ◌<◌, Result, Ok, Err, IfOk}
use Rattle.std.proofs.lemmas.Grind.{elements}
use mathlib.Core.List.{IsPrefix}
use Rattle.ls_chron.proofs.Beginnings.{prefix_self, prefix_trans}
use Rattle.ls_event.specs.declared.item.ItemDef.{ItemDef}
use Rattle.ls_request.specs.declared.request.Bind.{Bind}
use Rattle.ls_record.specs.Records.{is_alive}
use Rattle.ls_register.specs.Items.{facts_of, facts_from, items_of}
use Rattle.atomic_table.specs.Seated.{TableId}
use Rattle.ls_register.specs.Places.{Placed}
use Rattle.ls_register.proofs.Showing.{at_end}
use Rattle.ls_live_session.specs.Sights.{ShowsIt}
use Rattle.ls_register.specs.declared.made.Made.{Made}
use Rattle.ls_register.specs.declared.made.Made.TheVariants.{Session}
use Rattle.ls_register.specs.declared.told.Told.{Told}
use Rattle.ls_register.specs.declared.told.Told.TheVariants.{Bound}
use Rattle.ls_told.specs.Heard.{heard, CountsOn}
use Rattle.ls_told.specs.Seen.{Testified, Grows}
use Rattle.ls_told.specs.Requests.{HasBound, Binds}
use Rattle.ls_record.specs.Cases.{first_code}
use Rattle.ls_register.specs.declared.told.Told.TheVariants.{Unbound, Ended}
use Rattle.ls_session.specs.declared.session.Lost.{Lost}
use Rattle.ls_session.specs.declared.session.Lost.TheVariants as lost
use Rattle.ls_told.specs.Spoken.{Spoken}
use Rattle.ls_told.specs.Heard.{counts_as}
use Rattle.ls_value.specs.declared.limits.TheConstants.{GREATEST_NUMBER}
use Rattle.ls_told.specs.Requests.{bind_code_of, may_go_on, is_spent, InTime}
use Rattle.ls_told.specs.Turns.{IsUnbound}
use Rattle.ls_told.proofs.Watching.{sees_same, sees_twice}
use Rattle.ls_told.proofs.Appended.{heard_one}
use Rattle.ls_request.specs.declared.request.Create.{Create}
use Rattle.ls_register.specs.Sessions.{is_live}
use Rattle.ls_shared.specs.Answers.{Begins, BindsOn, Loses, Opens, create_code}
use Rattle.ls_told.proofs.Facts.{bound_there, streams_counted}

-- a caller sees more, and then more
pub grows_on : (a b c : Testified) → Grows a b → Grows b c → Grows a c
grows_on a b c early late =
    record {
      number = late.number ∙ early.number;
      table = late.table ∙ early.table;
      lines = prefix_trans a.lines b.lines c.lines early.lines late.lines;
      later = prefix_trans a.later b.lines c.lines early.later late.lines;
      both = late.both;
      watches = sees_twice a.watches b.watches c.watches early.watches late.watches;
      register = prefix_trans a.register b.register c.register early.register late.register;
    }

-- the entry that stands last
pub last_there : (es : List Told) (e : Told) → slice_get (es ++ e ∷ []) (length es) ≡ Some e
last_there es e = grind (arith, elements)

pub bound_last : (number : ℕ) (b : Bind) (now epoch : ℕ) (before es : List Told) → Binds number b now epoch before es → HasBound epoch es
bound_last number b now epoch before es is =
    (length before, _, _, _, _, ap (λ (l : List Told). slice_get l (length before)) is.lines ∙ last_there before _)

-- a newer stream than one of an epoch was bound
pub newer_there : (number epoch newest : ℕ) (es : List Told) → CountsOn 0 es → epoch < newest
    → newest ≡ length (heard number es).streams → HasBound newest es
newer_there number epoch newest es counts newer is =
    bound_there newest es (sym (is ∙ streams_counted number es counts)) (omega (arith, newer))

-- as many facts as items
facts_length : (n : ℕ) (ds : List ItemDef) → length (facts_from n ds) ≡ length ds
facts_length n [] = refl
facts_length n (d ∷ ds) = omega (arith, facts_length (n + 1) ds)

pub only_items : (list : List Made) (ds : List ItemDef) → items_of list ≡ facts_of ds → length list ≡ length ds
    → length (items_of list) ≡ length list
only_items list ds items long = ap length items ∙ (facts_length 0 ds ∙ sym long)

-- what was said of a loss
pub loses : (epoch now number : ℕ) (old new : Testified) (was after : List Told) (r : Lost) → old.number ≡ number → IsPrefix old.later was
    → new.later ≡ after → CountsOn 0 after
    → (r ≡ lost.Unbound → (nat_lt epoch (length (heard number was).streams) ≡ false) × ((heard number was).unbound ≡ None)
    × (after ≡ was ++ Unbound (counts_as now was) ∷ []))
    → ((newest : ℕ) → r ≡ lost.Superseded newest → (epoch < newest) × (newest ≡ length (heard number was).streams) × (after ≡ was))
    → (r ≡ lost.NotBound → IsUnbound number was × (after ≡ was) × (nat_lt epoch (length (heard number was).streams) ≡ false))
    → Loses epoch now old new r
loses epoch now number old new was after lost.Unbound named begins is counts u s n = let p = u refl in (was, begins, is ∙ p.2)
loses epoch now number old new was after (lost.Superseded e) named begins is counts u s n =
    let p = s e refl in (
      p.0,
      subst (HasBound e) (sym is)
          (newer_there number epoch e after counts p.0 (p.1 ∙ ap (λ (l : List Told). length (heard number l).streams) (sym p.2))),
    )
loses epoch now number old new was after lost.NotBound named begins is counts u s n =
    let p = n refl in
    subst (λ (q : ℕ × List Told). IsUnbound q.0 q.1 × (nat_lt epoch (length (heard q.0 q.1).streams) ≡ false))
    (λ i. (sym named i, sym (is ∙ p.1) i)) (p.0, p.2)

-- more of the session's history was seen, and of its items what was seen before
pub lined : (mid new : Testified) (es : List Told) → new ≡ record mid { lines = es; later = es } → IsPrefix mid.lines es → IsPrefix mid.later es
    → Grows mid new
lined mid new es is lines later =
    subst (Grows mid) (sym is)
    (record {
      number = refl;
      table = refl;
      lines = lines;
      later = later;
      both = refl;
      watches = sees_same mid.watches;
      register = prefix_self mid.register;
    })

-- a session to which a bind isn't refused hasn't ended
pub alive_from_code : (number : ℕ) (es : List Told) (recover : Option ℕ) → bind_code_of number es recover ≡ None
    → is_alive (heard number es).life ≡ true
alive_from_code number es recover none = by_test (is_alive (heard number es).life)
    ((4, not (may_go_on (heard number es) recover))
    ∷ (74, nat_le GREATEST_NUMBER (length (heard number es).streams) || is_spent es) ∷ []) none
  where
    by_test : (b : Bool) (rows : List (ℕ × Bool)) → first_code ((20, not b) ∷ rows) ≡ None → b ≡ true
    by_test true rows none = refl
    by_test false rows none = absurd (let x : ◌≡◌ {A = Option ℕ} (Some 20) None = none in cc)

-- a session that has ended isn't alive
pub ended_after : (number code tick : ℕ) (es : List Told) → is_alive (heard number (es ++ Ended code tick ∷ [])).life ≡ false
ended_after number code tick es = ap (λ (s : Spoken). is_alive s.life) (heard_one number es (Ended code tick))

-- a bind that was done
pub binds_on : (b : Bind) (now epoch : ℕ) (old mid new : Testified) (was over after : List Told) (number : ℕ) → old.number ≡ number
    → Grows old mid → mid.lines ≡ was → IsPrefix was over
    → (is_alive (heard number over).life ≡ true → InTime (counts_as now over) (heard number over))
    → (bind_code_of number over b.recover ≡ None) × (epoch ≡ length (heard number over).streams + 1)
    × (after ≡ over ++ Bound epoch (unwrap_or b.recover (heard number over).sent) (is_some b.recover) b.keepalive b.length ∷ [])
    → new.lines ≡ after → BindsOn b now epoch old new
binds_on b now epoch old mid new was over after number named grows is longer in_time did all =
    record {
      before = over;
      begins = prefix_trans old.later was over (subst (IsPrefix old.later) is grows.later) longer;
      bound =
          subst (λ (n : ℕ). Binds n b now epoch over new.lines) (sym named)
          (record {
            in_time = in_time (alive_from_code number over b.recover did.0);
            none = did.0;
            epoch_is = did.1;
            lines = all ∙ did.2;
          });
    }

-- the place of a session that was made last shows it
pub shows_made : (ms list : List Made) (session number : ℕ) (table o : TableId) (p : Placed) → list ≡ ms ++ Session session table ∷ []
    → p ≡ record { at = length ms; list = list } → number ≡ session → o ≡ table → ShowsIt p number o
shows_made ms list session number table o p is place named same =
    record {
      entry =
          subst (λ (q : Placed). slice_get q.list q.at ≡ Some (Session number o)) (sym place)
          (at_end ms list (Session session table) (length list) is refl ∙ (λ i. Some (Session (sym named i) (sym same i))));
    }

-- where a stream was bound, its Bound is there
pub has_bound : {E : Type 0} (r : Result ℕ E) (b : Bind) (now : ℕ) (old new : Testified) → IfOk r (λ e. BindsOn b now e old new)
    → IfOk r (λ e. HasBound e new.lines)
has_bound (Ok e) b now old new is = bound_last old.number b now e is.before new.lines is.bound
has_bound (Err e) b now old new is = tt

-- a session that was made
pub opens : (set : List ℕ) (c : Create) (now session epoch : ℕ) (old before made view : List Made) (seen : Testified) → IsPrefix old before
    → create_code set c before ≡ None → Begins c now session epoch seen → made ≡ before ++ Session session seen.table ∷ []
    → is_live made session ≡ true → ((ms : List Made) → IsPrefix ms before → is_live ms session ≡ false) → view ≡ made
    → Opens set c now old view session epoch seen
opens set c now session epoch old before made view seen begins none is made_is live fresh all =
    record {
      is = is;
      before = before;
      made = all ∙ made_is;
      begins = begins;
      none = none;
      lives = ap (λ (l : List Made). is_live l session) all ∙ live;
      is_new = fresh old begins;
    }
