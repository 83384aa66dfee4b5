-- What a caller has seen after a turn of a session.
use Rattle.std.proofs.Common.{◌≡◌, ◌≤◌, ◌<◌, ◌⊎◌, ℕ, zero, suc, ◌+◌, List, [], ◌∷◌, ◌++◌, inl, inr, length, Bool, false, nat_lt, Option, None, Some}
use Rattle.std.proofs.Common.{refl, sym, ap, arith, subst, ◌∙◌, slice_get}
use Rattle.std.proofs.lemmas.List.{length-append}
use Rattle.std.proofs.lemmas.Bool.Decides.{nat_tests}
use mathlib.Core.List.{IsPrefix}
use Rattle.ls_chron.proofs.Beginnings.{prefix_trans, prefix_get, prefix_length}
use Rattle.ls_value.specs.Each.{Each}
use Rattle.ls_event.specs.declared.item.ItemDef.{ItemDef}
use Rattle.ls_register.specs.declared.told.Told.{Told}
use Rattle.ls_register.specs.declared.told.Told.TheVariants.{Numbered, Gave, Bound, Rate, Rebind, Unbound, Ended}
use Rattle.ls_session.specs.declared.session.Turn.{Turn}
use Rattle.ls_session.specs.declared.session.Turn.TheVariants as turn
use Rattle.ls_told.specs.Heard.{heard, counts_as, epoch_or, epoch_after, epoch_of, CountsOne, CountsOn}
use Rattle.ls_told.specs.Seen.{FitsWatch, Testified, Grows, Sends, SeesMore, Watched}
use Rattle.ls_told.specs.Requests.{HasBound}
use Rattle.ls_told.specs.Turns.{GivesLine, HasEnded, IsIdle, IsNotDue, IsProbe, IsSpent, IsStill, IsUnbound, SpokeInTime}
use Rattle.ls_told.specs.Spoken.{next_of, text_of_next}
use Rattle.ls_told.proofs.Facts.{streams_counted}
use Rattle.ls_told.proofs.Watching.{sees_twice}
use Rattle.ls_live_session.specs.Giving.{GivesNext, StaysStill}
use Rattle.ls_live_session.specs.Sights.{GaveAt}
use Rattle.ls_shared.specs.Answers.{Turns}
use Rattle.ls_shared.specs.Asking.{QuietRound}
use Rattle.ls_shared.proofs.Grown.{last_there}
use Rattle.ls_shared.specs.Taking.{EndsTurn, GaveLast, GaveProbe, GivesNone}
use Rattle.ls_shared.proofs.Quiet.{quiet_sees, seen_idle, seen_not_due}

at_most : (n m : ℕ) → nat_lt n m ≡ false → m ≤ n
at_most n m h = grind (arith, nat_tests)

-- epochs only grow
one_on : (at : ℕ) (e : Told) → CountsOne at e → at ≤ epoch_or at e
one_on at (Numbered line) c = omega arith
one_on at (Gave epoch text tick) c = omega arith
one_on at (Bound e from counted keepalive content) c = omega (arith, c)
one_on at (Rate limit tick) c = omega arith
one_on at Rebind c = omega arith
one_on at (Unbound tick) c = omega arith
one_on at (Ended code tick) c = omega arith

all_on : (at : ℕ) (es : List Told) → CountsOn at es → at ≤ epoch_after at es
all_on at [] c = omega arith
all_on at (e ∷ es) c = omega (arith, one_on at e c.0, all_on (epoch_or at e) es c.1)

bound_epoch : (at epoch k from : ℕ) (counted : Bool) (keepalive : ℕ) (content : Option ℕ) (es : List Told) → CountsOn at es
    → slice_get es k ≡ Some (Bound epoch from counted keepalive content) → epoch ≤ epoch_after at es
bound_epoch at epoch k from counted keepalive content [] c is = absurd (let x : ◌≡◌ {A = Option Told} None (Some (Bound epoch from counted keepalive content)) = is in cc)
bound_epoch at epoch zero from counted keepalive content (e ∷ es) c is =
    let same : e ≡ Bound epoch from counted keepalive content = cc is in
    let here : epoch_or at e ≡ epoch = ap (epoch_or at) same in
    omega (arith, here, all_on (epoch_or at e) es c.1)
bound_epoch at epoch (suc k) from counted keepalive content (e ∷ es) c is =
    bound_epoch (epoch_or at e) epoch k from counted keepalive content es c.1 is

-- and the first stream has the next epoch
pub bound_some : (at epoch k from : ℕ) (counted : Bool) (keepalive : ℕ) (content : Option ℕ) (es : List Told) → CountsOn at es
    → slice_get es k ≡ Some (Bound epoch from counted keepalive content) → at + 1 ≤ epoch_after at es
bound_some at epoch k from counted keepalive content [] c is = absurd (let x : ◌≡◌ {A = Option Told} None (Some (Bound epoch from counted keepalive content)) = is in cc)
bound_some at epoch zero from counted keepalive content (e ∷ es) c is =
    let same : e ≡ Bound epoch from counted keepalive content = cc is in
    let here : epoch_or at e ≡ epoch = ap (epoch_or at) same in
    let next : epoch ≡ at + 1 = subst (CountsOne at) same c.0 in
    omega (arith, here, next, all_on (epoch_or at e) es c.1)
bound_some at epoch (suc k) from counted keepalive content (e ∷ es) c is =
    omega (arith, one_on at e c.0, bound_some (epoch_or at e) epoch k from counted keepalive content es c.1 is)

-- no more streams than this one were bound, which was
newest_is : (number epoch : ℕ) (es : List Told) → CountsOn 0 es → HasBound epoch es → nat_lt epoch (length (heard number es).streams) ≡ false
    → length (heard number es).streams ≡ epoch
newest_is number epoch es c has late =
    omega (
      arith,
      at_most epoch (length (heard number es).streams) late,
      streams_counted number es c,
      bound_epoch 0 epoch has.0 has.1 has.2 has.3 has.4 es c has.5,
    )

pub bound_on : (epoch : ℕ) (old new : List Told) → IsPrefix old new → HasBound epoch old → HasBound epoch new
bound_on epoch old new begins has = (has.0, has.1, has.2, has.3, has.4, prefix_get old new has.0 _ begins has.5)

still_of : (number epoch : ℕ) (es : List Told) → CountsOn 0 es → HasBound epoch es → StaysStill number epoch es → IsStill number epoch es
still_of number epoch es c has s =
    record { newest = newest_is number epoch es c has s.newest; bound = s.bound; alive = s.alive; none = s.none }

-- entries count as those do that they begin
counts_front : (at : ℕ) (xs ys : List Told) → CountsOn at (xs ++ ys) → CountsOn at xs
counts_front at [] ys c = tt
counts_front at (x ∷ xs) ys c = (c.0, counts_front (epoch_or at x) xs ys c.1)

-- the line that was given last
module _ (config : List ItemDef) (number epoch now : ℕ) (held : List Watched) (mid es : List Told) (ws : List Watched) (text : List ℕ)
    (g : GaveLast config number epoch now held mid es ws text) where
  last_lines : es ≡ g.before ++ Gave epoch text (counts_as now g.before) ∷ []
  last_lines = by_kind g.gave
    where
      by_kind : GivesNext number epoch now g.before es text ⊎ GaveProbe config number epoch now held g.before es ws text
          → es ≡ g.before ++ Gave epoch text (counts_as now g.before) ∷ []
      by_kind (inl n) = n.lines
      by_kind (inr p) = p.lines

  pub last_count : length es ≡ length g.before + 1
  last_count = ap length last_lines ∙ length-append g.before (Gave epoch text (counts_as now g.before) ∷ [])

  pub last_more : length mid + 1 ≤ length es
  last_more = omega (arith, last_count, prefix_length mid g.before g.begins)

  pub last_gave : (place : ℕ) → length es ≡ place + 1 → GaveAt es place
  last_gave place is =
      record {
        epoch = epoch;
        text = text;
        tick = counts_as now g.before;
        entry =
            ap (λ (q : List Told × ℕ). slice_get q.0 q.1) (λ i. (last_lines i, place_is i))
            ∙ last_there g.before (Gave epoch text (counts_as now g.before));
      }
    where
      place_is : place ≡ length g.before
      place_is = omega (arith, is, last_count)

-- a caller who had seen no more of the items before the turn sees no less of them after it
module _ (config : List ItemDef) (number epoch now : ℕ) (old new : Testified) (held : List Watched) (mid es : List Told) (ws : List Watched)
    (text : List ℕ) (named : old.number ≡ number) (lines : IsPrefix old.lines mid) (later : IsPrefix old.later mid) (begins : IsPrefix mid es)
    (counts : CountsOn 0 es) (has : HasBound epoch old.lines) (all : new.lines ≡ es) (early : SeesMore old.watches held)
    (late : SeesMore ws new.watches) (fits : Each (FitsWatch config) new.watches) where
  -- nothing was to be given at a beginning of the history
  module _ (before : List Told) (counts_then : CountsOn 0 before) (has_then : HasBound epoch before) where
    still_then : (wait : Option ℕ) → GivesNone config number epoch now held before ws wait → IsStill old.number epoch before
    still_then wait g = subst (λ (n : ℕ). IsStill n epoch before) (sym named) (still_of number epoch before counts_then has_then g.still)

    quiet_then : (wait : Option ℕ) → GivesNone config number epoch now held before ws wait
        → QuietRound config old.number before held new.watches (counts_as now before) wait
    quiet_then wait g =
        quiet_sees config old.number before held ws new.watches (counts_as now before) wait late fits
        (subst (λ (n : ℕ). QuietRound config n before held ws (counts_as now before) wait) (sym named) g.quiet)

    idle_then : GivesNone config number epoch now held before ws None → IsIdle config old.number epoch before new.watches old.watches
    idle_then g = seen_idle config old.number epoch before old.watches held new.watches early (counts_as now before) (still_then None g) (quiet_then None g)

    not_due_then : (at : ℕ) → GivesNone config number epoch now held before ws (Some at)
        → IsNotDue config old.number epoch (counts_as now before) at before new.watches old.watches
    not_due_then at g =
        seen_not_due config old.number epoch before old.watches held new.watches early (counts_as now before) (still_then (Some at) g) at (quiet_then (Some at) g)

    either_then : (wait : Option ℕ) → GivesNone config number epoch now held before ws wait
        → IsIdle config old.number epoch before new.watches old.watches
        ⊎ ((at : ℕ) × IsNotDue config old.number epoch (counts_as now before) at before new.watches old.watches)
    either_then None g = inl (idle_then g)
    either_then (Some at) g = inr (at, not_due_then at g)

  -- what a caller saw of a line that was given to it
  gives_line : (g : GaveLast config number epoch now held mid es ws text) → new.mine ≡ old.mine ++ length g.before ∷ []
      → GivesLine config epoch now old new text
  gives_line g mine =
      record {
        tick = counts_as now g.before;
        sends = record { before = g.before; lines = all ∙ last_lines config number epoch now held mid es ws text g; mine = mine };
        begins = prefix_trans old.later mid g.before later g.begins;
        tick_is = refl;
        newest = ap (λ (n : ℕ). length (heard n g.before).streams) named ∙ newest g.gave;
        bound = ap (λ (n : ℕ). (heard n g.before).unbound) named ∙ bound g.gave;
        what = what g.gave;
      }
    where
      fewer : CountsOn 0 g.before
      fewer =
          counts_front 0 g.before (Gave epoch text (counts_as now g.before) ∷ [])
          (subst (CountsOn 0) (last_lines config number epoch now held mid es ws text g) counts)

      there : HasBound epoch g.before
      there = bound_on epoch old.lines g.before (prefix_trans old.lines mid g.before lines g.begins) has

      newest : GivesNext number epoch now g.before es text ⊎ GaveProbe config number epoch now held g.before es ws text
          → length (heard number g.before).streams ≡ epoch
      newest (inl n) = newest_is number epoch g.before fewer there n.newest
      newest (inr p) = newest_is number epoch g.before fewer there p.none.still.newest

      bound : GivesNext number epoch now g.before es text ⊎ GaveProbe config number epoch now held g.before es ws text
          → (heard number g.before).unbound ≡ None
      bound (inl n) = n.bound
      bound (inr p) = p.none.still.bound

      what : GivesNext number epoch now g.before es text ⊎ GaveProbe config number epoch now held g.before es ws text
          → (text_of_next (next_of (heard old.number g.before)) ≡ Some text)
          ⊎ IsProbe config old.number epoch (counts_as now g.before) g.before new.watches old.watches text
      what (inl n) = inl (ap (λ (m : ℕ). text_of_next (next_of (heard m g.before))) named ∙ n.what)
      what (inr p) = inr (record { text_is = p.text_is; silent = p.silent; idle = either_then g.before fewer there p.wait p.none })

  -- what a turn's caller saw then
  pub turns_seen : (t : Turn) → EndsTurn config number epoch now held mid es ws text t
      → (t ≡ turn.Send → (place : ℕ) × (length es ≡ place + 1) × (new.mine ≡ old.mine ++ place ∷ []))
      → ((t ≡ turn.Send → ⊥) → new.mine ≡ old.mine)
      → Turns config epoch now old new text t
  turns_seen t ends sent quiet = by_turn t ends sent quiet
    where
      there : HasBound epoch es
      there = bound_on epoch old.lines es (prefix_trans old.lines mid es lines begins) has

      by_turn : (t : Turn) → EndsTurn config number epoch now held mid es ws text t
          → (t ≡ turn.Send → (place : ℕ) × (length es ≡ place + 1) × (new.mine ≡ old.mine ++ place ∷ []))
          → ((t ≡ turn.Send → ⊥) → new.mine ≡ old.mine) → Turns config epoch now old new text t
      by_turn turn.Send g sent quiet =
          let s = sent refl in
          let place_is : s.0 ≡ length g.before = omega (arith, s.1, last_count config number epoch now held mid es ws text g) in
          gives_line g (s.2 ∙ ap (λ (p : ℕ). old.mine ++ p ∷ []) place_is)
      by_turn (turn.Ask ask) g sent quiet = g
      by_turn turn.Idle g sent quiet = (
        quiet (λ s. absurd (let x : turn.Idle ≡ turn.Send = s in cc)),
        subst (λ (q : List Told). IsIdle config old.number epoch q new.watches old.watches) (sym all) (idle_then es counts there g.0),
        subst (λ (q : List Told). SpokeInTime epoch (counts_as now q) q) (sym all) g.1,
      )
      by_turn (turn.NotDue at) g sent quiet = (
        quiet (λ s. absurd (let x : turn.NotDue at ≡ turn.Send = s in cc)),
        subst (λ (q : List Told). IsNotDue config old.number epoch (counts_as now q) at q new.watches old.watches) (sym all) (not_due_then es counts there at g.0),
        subst (λ (q : List Told). SpokeInTime epoch (counts_as now q) q) (sym all) g.1,
      )
      by_turn (turn.Ended code) g sent quiet = (
        quiet (λ s. absurd (let x : turn.Ended code ≡ turn.Send = s in cc)),
        subst (λ (q : ℕ × List Told). HasEnded q.0 code q.1) (λ i. (sym named i, sym all i)) g,
      )
      by_turn (turn.Superseded e) g sent quiet = (
        quiet (λ s. absurd (let x : turn.Superseded e ≡ turn.Send = s in cc)),
        g.0,
        subst (HasBound e) (sym all) g.1,
      )
      by_turn turn.Unbound g sent quiet = (
        quiet (λ s. absurd (let x : turn.Unbound ≡ turn.Send = s in cc)),
        subst (λ (q : ℕ × List Told). IsUnbound q.0 q.1) (λ i. (sym named i, sym all i)) g,
      )
      by_turn turn.Spent g sent quiet = (
        quiet (λ s. absurd (let x : turn.Spent ≡ turn.Send = s in cc)),
        subst (λ (q : ℕ × List Told). IsSpent q.0 q.1) (λ i. (sym named i, sym all i)) g,
      )

-- a caller sees more of items, and then more of all
pub shown_on : (a b c d : Testified) → Grows a b → c ≡ record b { watches = c.watches } → SeesMore b.watches c.watches → Grows c d → Grows a d
shown_on a b c d early is more late =
    record {
      number = late.number ∙ (ap (λ (s : Testified). s.number) is ∙ early.number);
      table = late.table ∙ (ap (λ (s : Testified). s.table) is ∙ early.table);
      lines =
          prefix_trans a.lines c.lines d.lines (subst (IsPrefix a.lines) (sym (ap (λ (s : Testified). s.lines) is)) early.lines) late.lines;
      later =
          prefix_trans a.later c.lines d.lines (subst (IsPrefix a.later) (sym (ap (λ (s : Testified). s.lines) is)) early.later) late.lines;
      both = late.both;
      watches = sees_twice a.watches b.watches d.watches early.watches (sees_twice b.watches c.watches d.watches more late.watches);
      register =
          prefix_trans a.register c.register d.register
          (subst (IsPrefix a.register) (sym (ap (λ (s : Testified). s.register) is)) early.register) late.register;
    }

-- a line of its own changes nothing of what it saw
pub owned_on : (a d e : Testified) → Grows a d → e ≡ record d { mine = e.mine } → Grows a e
owned_on a d e g is =
    subst (Grows a) (sym is)
    (record {
      number = g.number;
      table = g.table;
      lines = g.lines;
      later = g.later;
      both = g.both;
      watches = g.watches;
      register = g.register;
    })
