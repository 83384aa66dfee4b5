-- What a client stands for, one line later.
use Rattle.std.proofs.Common.{◌≡◌, ◌==◌, ℕ, ◌≤◌, ◌<◌, ◌^◌, true, List, ◌∷◌, Option, Some, None, Result, Ok, Err, OnOk, OnErr, sym, refl, ap, ◌∙◌, subst, ⊎_elim}
use Rattle.std.proofs.Common.{[], false, unwrap_or}
use Rattle.std.specs.Option.{option_map}
use Rattle.std.specs.BTreeMap.{BTreeMap}
use Rattle.std.proofs.lemmas.Bool.{and_parts, leb-true, le-leb}
use Rattle.std.proofs.lemmas.Bool.Decides.{eqb_tells}
use Rattle.ls_line.specs.declared.line.Line.{Line}
use Rattle.ls_mirror.specs.declared.client.Client.{Client}
use Rattle.ls_mirror.specs.declared.subscription.Subscription.{Subscription}
use Rattle.ls_mirror.specs.Client.{Heard, begun_as, begun_after, heard, heard_of, last_row, AreDecoded}
use Rattle.ls_mirror.specs.Refusing.{IsBad}
use Rattle.ls_mirror.specs.Standing.{StandsClient, StandsTable, IsTableOf, IsSame, AreSame, AreSubscriptionsAfter, IsBadAt, IsBadHeard, IsHeardOf, has_item}
use Rattle.ls_mirror.specs.Standing.{BeginsOrEnds, begun_of, table_at, subscription_at}
use Rattle.ls_mirror.specs.Tables.{blank_table}
use Rattle.ls_mirror.proofs.Counting.{shows_more}
use Rattle.ls_mirror.proofs.Determined.{one_decoded}

pub some_one : {X : Type 0} (x y : X) → Some x ≡ Some y → x ≡ y
some_one x y e = ap (λ o. unwrap_or o x) e

pub not_none : {X : Type 0} (x : X) → Some x ≡ None → ⊥
not_none x e = cc

-- a client with other subscriptions
abbrev pub with : Client → BTreeMap ℕ Subscription → Client
with c subscriptions = record { alloc = c.alloc; subscriptions = subscriptions; blank = c.blank }

pub begun_at : (c : Client) (lines : List Line) (sub : ℕ) (s : Subscription) → StandsClient c lines → subscription_at c.subscriptions sub ≡ Some s
    → begun_as sub lines ≡ Some (begun_of s)
begun_at c lines sub s st e = sym (st.live sub) ∙ ap (option_map begun_of) e

begun_kept : (s t : Subscription) → t.items ≡ s.items → t.fields ≡ s.fields → t.places ≡ s.places → begun_of t ≡ begun_of s
begun_kept s t a b p i = record { items = a i; fields = b i; keyed = p i }

module _ (c : Client) (subs : BTreeMap ℕ Subscription) (l : Line) (lines : List Line) (sub item : ℕ) (h : Heard)
    (adds : IsHeardOf l sub item h) (m : AreSubscriptionsAfter sub item h c.subscriptions subs) (st : StandsClient c lines) where
  live_here : option_map begun_of (subscription_at subs sub) ≡ begun_after sub l (begun_as sub lines)
  live_here = ap (option_map begun_of) m.is ∙ ap (λ b. Some b) (begun_kept m.before m.after m.hears.items m.hears.fields m.hears.places)
      ∙ sym (begun_at c lines sub m.before st m.was) ∙ sym (adds.begins sub (begun_as sub lines))

  live_after : (q : ℕ) → option_map begun_of (subscription_at subs q) ≡ begun_after q l (begun_as q lines)
  live_after q = ⊎_elim
      (λ yes. subst (λ x. option_map begun_of (subscription_at subs x) ≡ begun_after x l (begun_as x lines)) (sym yes.1) live_here)
      (λ no. ap (option_map begun_of) (m.others q no.0) ∙ st.live q ∙ sym (adds.begins q (begun_as q lines)))
      (eqb_tells q sub)

  at_here : (q : ℕ) (s : Subscription) → q ≡ sub → subscription_at subs q ≡ Some s → s ≡ m.after
  at_here q s same e = some_one s m.after (sym e ∙ ap (subscription_at subs) same ∙ m.is)

  small_after : (q : ℕ) (s : Subscription) → subscription_at subs q ≡ Some s → s.fields < 2 ^ 64
  small_after q s e = ⊎_elim
      (λ yes. subst (λ n. n < 2 ^ 64) (sym (ap (λ x. x.fields) (at_here q s yes.1 e) ∙ m.hears.fields)) (st.small sub m.before m.was))
      (λ no. st.small q s (sym (m.others q no.0) ∙ e))
      (eqb_tells q sub)

  come_here : (i : ℕ) → StandsTable m.before.fields m.before.places (heard_of (i == item) h (heard sub i lines)) (table_at m.after.tables i)
  come_here i = ⊎_elim
      (λ yes. rw yes.0 (subst (λ x. StandsTable m.before.fields m.before.places (h ∷ heard sub x lines) (table_at m.after.tables x)) (sym yes.1)
      (shows_more _ _ h _ _ _ (st.come sub item m.before m.was) m.hears.moves)))
      (λ no. rw (no.0, m.hears.others i no.0) (st.come sub i m.before m.was))
      (eqb_tells i item)

  come_after : (q i : ℕ) (s : Subscription) → subscription_at subs q ≡ Some s → StandsTable s.fields s.places (heard q i (l ∷ lines))
      (table_at s.tables i)
  come_after q i s e = rw (adds.hears q i (heard q i lines)) (⊎_elim
      (λ yes. rw (yes.0, yes.1, at_here q s yes.1 e, m.hears.fields, m.hears.places) (come_here i))
      (λ no. rw no.0 (st.come q i s (sym (m.others q no.0) ∙ e)))
      (eqb_tells q sub))

  pub stands_heard : StandsClient (with c subs) (l ∷ lines)
  stands_heard = record { blank = st.blank; live = live_after; small = small_after; come = come_after }

-- refused: each subscription is as before
same_begun : (o p : Option Subscription) → AreSame o p → option_map begun_of p ≡ option_map begun_of o
same_begun None None h = refl
same_begun None (Some t) h = absurd h
same_begun (Some s) None h = absurd h
same_begun (Some s) (Some t) h = ap (λ b. Some b) (begun_kept s t h.items h.fields h.places)

same_before : (o p : Option Subscription) (t : Subscription) → AreSame o p → p ≡ Some t → (s : Subscription) × (o ≡ Some s) × IsSame s t
same_before None None t h e = absurd (not_none t (sym e))
same_before None (Some u) t h e = absurd h
same_before (Some s) None t h e = absurd h
same_before (Some s) (Some u) t h e = (s, refl, subst (λ x. IsSame s x) (some_one u t e) h)

same_shown : (s t : Subscription) (hs : List Heard) (i : ℕ) → IsSame s t → StandsTable s.fields s.places hs (table_at s.tables i)
    → StandsTable t.fields t.places hs (table_at t.tables i)
same_shown s t hs i same shown = rw (same.fields, same.places, same.tables i) shown

pub stands_same : (c : Client) (subs : BTreeMap ℕ Subscription) (lines : List Line)
    → ((q : ℕ) → AreSame (subscription_at c.subscriptions q) (subscription_at subs q)) → StandsClient c lines → StandsClient (with c subs) lines
stands_same c subs lines same st = record {
  blank = st.blank;
  live = λ q. same_begun _ _ (same q) ∙ st.live q;
  small = λ q t e. let before = same_before _ _ t (same q) e in subst (λ n. n < 2 ^ 64) (sym before.2.fields) (st.small q before.0 before.1);
  come = λ q i t e. let before = same_before _ _ t (same q) e in same_shown before.0 t (heard q i lines) i before.2 (st.come q i before.0 before.1);
}

-- refused: the entries are those before
pub kept_on_err : {X E : Type 0} (answer : Result X E) (c : Client) (subs : BTreeMap ℕ Subscription)
    → subs.entries ≡ c.subscriptions.entries
    → OnErr answer ((lines : List Line) → StandsClient c lines → StandsClient (with c subs) lines)
kept_on_err (Ok x) c subs e = tt
kept_on_err (Err x) c subs e = λ lines st.
    let same : (q : ℕ) → subscription_at subs q ≡ subscription_at c.subscriptions q = λ q. rw e refl in
    record {
      blank = st.blank;
      live = λ q. ap (option_map begun_of) (same q) ∙ st.live q;
      small = λ q s is. st.small q s (sym (same q) ∙ is);
      come = λ q i s is. st.come q i s (sym (same q) ∙ is);
    }

-- a subscription begins anew without tables, or ends
module _ (c : Client) (subs : BTreeMap ℕ Subscription) (sub : ℕ) (to : Option Subscription)
    (here : subscription_at subs sub ≡ to)
    (others : (q : ℕ) → (q == sub) ≡ false → subscription_at subs q ≡ subscription_at c.subscriptions q)
    (small : (s : Subscription) → to ≡ Some s → s.fields < 2 ^ 64)
    (blank : (s : Subscription) → to ≡ Some s → (i : ℕ) → table_at s.tables i ≡ blank_table)
    (l : Line) (lines : List Line)
    (b : BeginsOrEnds l sub (option_map begun_of to)) (st : StandsClient c lines) where
  live_begun : (q : ℕ) → option_map begun_of (subscription_at subs q) ≡ begun_after q l (begun_as q lines)
  live_begun q = ⊎_elim
      (λ yes. ap (λ x. option_map begun_of (subscription_at subs x)) yes.1 ∙ ap (option_map begun_of) here
      ∙ sym (rw yes.0 at (b.begins q (begun_as q lines))))
      (λ no. ap (option_map begun_of) (others q no.0) ∙ st.live q ∙ sym (rw no.0 at (b.begins q (begun_as q lines))))
      (eqb_tells q sub)

  to_here : (q : ℕ) (s : Subscription) → q ≡ sub → subscription_at subs q ≡ Some s → to ≡ Some s
  to_here q s same e = sym here ∙ sym (ap (subscription_at subs) same) ∙ e

  small_begun : (q : ℕ) (s : Subscription) → subscription_at subs q ≡ Some s → s.fields < 2 ^ 64
  small_begun q s e = ⊎_elim
      (λ yes. small s (to_here q s yes.1 e))
      (λ no. st.small q s (sym (others q no.0) ∙ e))
      (eqb_tells q sub)

  none_came : (s : Subscription) (i : ℕ) → to ≡ Some s → StandsTable s.fields s.places [] (table_at s.tables i)
  none_came s i e = record { whats = []; decoded = tt; is = blank s e i }

  come_begun : (q i : ℕ) (s : Subscription) → subscription_at subs q ≡ Some s
      → StandsTable s.fields s.places (heard q i (l ∷ lines)) (table_at s.tables i)
  come_begun q i s e = rw (b.hears q i (heard q i lines)) (⊎_elim
      (λ yes. rw yes.0 (none_came s i (to_here q s yes.1 e)))
      (λ no. rw no.0 (st.come q i s (sym (others q no.0) ∙ e)))
      (eqb_tells q sub))

  pub stands_begun : StandsClient (with c subs) (l ∷ lines)
  stands_begun = record { blank = st.blank; live = live_begun; small = small_begun; come = come_begun }

-- the table of an item
pub table_stands : (c : Client) (lines : List Line) (sub item : ℕ) (s : Subscription) → subscription_at c.subscriptions sub ≡ Some s → 1 ≤ item → item ≤ s.items
    → StandsClient c lines → IsTableOf sub item lines (table_at s.tables item)
table_stands c lines sub item s e low high st =
    let shown = st.come sub item s e in
    record {
      whats = shown.whats;
      come = record { subscription = begun_of s; is_live = begun_at c lines sub s st e; first = low; last = high; decoded = shown.decoded };
      is = shown.is;
    }

item_within : (s : Subscription) (item : ℕ) → has_item (Some (begun_of s)) item ≡ true → (1 ≤ item) × (item ≤ s.items)
item_within s item e = let parts = and_parts _ _ e in (leb-true 1 item parts.0, leb-true item s.items parts.1)

bad_stands_at : (c : Client) (lines : List Line) (sub item : ℕ) (h : Heard) (o : Option Subscription) → subscription_at c.subscriptions sub ≡ o
    → StandsClient c lines → IsBadAt o item h → IsBadHeard sub item lines h
bad_stands_at c lines sub item h None e st bad = absurd bad
bad_stands_at c lines sub item h (Some s) e st bad =
    let within = item_within s item bad.0 in
    let t = table_stands c lines sub item s e within.0 within.1 st in
    let shown = st.come sub item s e in (
      shown.whats,
      record { subscription = begun_of s; is_live = begun_at c lines sub s st e; first = within.0; last = within.1; decoded = shown.decoded },
      rw shown.is at bad.1,
    )

pub bad_stands : (c : Client) (lines : List Line) (sub item : ℕ) (h : Heard) → StandsClient c lines → IsBadAt (subscription_at c.subscriptions sub) item h
    → IsBadHeard sub item lines h
bad_stands c lines sub item h st bad = bad_stands_at c lines sub item h _ refl st bad

bad_known_at : (c : Client) (lines : List Line) (sub item : ℕ) (h : Heard) (o : Option Subscription) → subscription_at c.subscriptions sub ≡ o
    → StandsClient c lines → IsBadHeard sub item lines h → IsBadAt o item h
bad_known_at c lines sub item h None e st (ws, come, bad) =
    absurd (not_none come.subscription (sym come.is_live ∙ sym (st.live sub) ∙ ap (option_map begun_of) e))
bad_known_at c lines sub item h (Some s) e st (ws, come, bad) =
    let same : come.subscription ≡ begun_of s = some_one _ _ (sym come.is_live ∙ begun_at c lines sub s st e) in
    let shown = st.come sub item s e in
    let decoded : AreDecoded s.fields (heard sub item lines) ws = subst (λ b. AreDecoded b.fields (heard sub item lines) ws) same come.decoded in
    let one : shown.whats ≡ ws = one_decoded s.fields (heard sub item lines) shown.whats ws (st.small sub s e) shown.decoded decoded in
    let high : item ≤ s.items = subst (λ b. item ≤ b.items) same come.last in (
      rw (le-leb 1 item come.first, le-leb item s.items high) refl,
      rw (shown.is, one) (subst (λ b. IsBad b.fields b.keyed (last_row ws) h) same bad),
    )

pub bad_known : (c : Client) (lines : List Line) (sub item : ℕ) (h : Heard) → StandsClient c lines → IsBadHeard sub item lines h
    → IsBadAt (subscription_at c.subscriptions sub) item h
bad_known c lines sub item h st bad = bad_known_at c lines sub item h _ refl st bad

-- the two answers of a hearing
pub heard_ok : {X E : Type 0} (answer : Result X E) (c : Client) (subs : BTreeMap ℕ Subscription) (sub item : ℕ) (h : Heard)
    → OnOk answer (AreSubscriptionsAfter sub item h c.subscriptions subs)
    → OnOk answer ((l : Line) (lines : List Line) → IsHeardOf l sub item h → StandsClient c lines → StandsClient (with c subs) (l ∷ lines))
heard_ok (Ok x) c subs sub item h m = λ l lines adds st. stands_heard c subs l lines sub item h adds m st
heard_ok (Err e) c subs sub item h m = tt

pub heard_err : {X E : Type 0} (answer : Result X E) (c : Client) (subs : BTreeMap ℕ Subscription)
    → OnErr answer ((q : ℕ) → AreSame (subscription_at c.subscriptions q) (subscription_at subs q))
    → OnErr answer ((lines : List Line) → StandsClient c lines → StandsClient (with c subs) lines)
heard_err (Ok x) c subs same = tt
heard_err (Err e) c subs same = λ lines st. stands_same c subs lines same st
