-- The sessions of a hub by their places, and what is true of them all after one of them changed.
use Rattle.std.proofs.Common.{◌≡◌, ℕ, zero, suc, ◌+◌, ◌<◌, ◌≤◌, List, [], ◌∷◌, ◌++◌, length, refl, sym, ◌∙◌, ap, arith, subst}
use Rattle.std.proofs.Common.{Some, None, slice_get, slice_set, slice_index_or, nat_eq, cond, Bool, true, false}
use Rattle.ls_session.specs.Record.{Record, rests}
use Rattle.ls_session.specs.Session.{StandsSession}
use Rattle.ls_record.specs.Records.{Session, change}
use Rattle.ls_session.specs.declared.session.Session.{Session as Kept}
use Rattle.ls_hub.specs.Hub.{BeginsAnew, IsSession, AreSessions, AreNumbered}

-- as many are kept as there are
pub as_many : (now : ℕ) (ks : List Kept) (ss : List Session) → AreSessions now ks ss → length ks ≡ length ss
as_many now [] [] a = refl
as_many now [] (s ∷ ss) a = absurd a
as_many now (k ∷ ks) [] a = absurd a
as_many now (k ∷ ks) (s ∷ ss) a = ap suc (as_many now ks ss a.1)

-- the session of a place, where one is kept
pub record KeptAt (now : ℕ) (k : Kept) (ss : List Session) (n : ℕ) : Type 0 where
  pub session : Session
  pub found : slice_get ss n ≡ Some session
  pub stands : IsSession now k session

pub kept_read : (now : ℕ) (ks : List Kept) (ss : List Session) (n : ℕ) (k : Kept) → AreSessions now ks ss → n < length ks
    → k ≡ slice_index_or ks n k → KeptAt now k ss n
kept_read now [] ss n k a low is = absurd (omega (arith, low))
kept_read now (j ∷ ks) [] n k a low is = absurd a
kept_read now (j ∷ ks) (s ∷ ss) zero k a low is = record { session = s; found = refl; stands = subst (λ (x : Kept). IsSession now x s) (sym is) a.0 }
kept_read now (j ∷ ks) (s ∷ ss) (suc n) k a low is =
    let r = kept_read now ks ss n k a.1 (omega (arith, low)) is in
    record { session = r.session; found = r.found; stands = r.stands }

-- behind the last one there is none
pub none_kept : (now : ℕ) (ks : List Kept) (ss : List Session) (n : ℕ) → AreSessions now ks ss → length ks ≤ n → slice_get ss n ≡ None
none_kept now [] [] n a high = refl
none_kept now [] (s ∷ ss) n a high = absurd a
none_kept now (k ∷ ks) [] n a high = absurd a
none_kept now (k ∷ ks) (s ∷ ss) zero a high = absurd (omega (arith, high))
none_kept now (k ∷ ks) (s ∷ ss) (suc n) a high = none_kept now ks ss n a.1 (omega (arith, high))

-- the one of a place that is there
pub session_read : (now : ℕ) (ks : List Kept) (ss : List Session) (n : ℕ) (k : Kept) (s : Session) → AreSessions now ks ss → n < length ks
    → k ≡ slice_index_or ks n k → slice_get ss n ≡ Some s → IsSession now k s
session_read now ks ss n k s a low is at =
    let r = kept_read now ks ss n k a low is in
    let e : Some r.session ≡ Some s = sym r.found ∙ at in
    let same : r.session ≡ s = cc in
    subst (λ (x : Session). IsSession now k x) same r.stands

-- one of them changed
pub kept_changed : (now : ℕ) (ks : List Kept) (ss : List Session) (n : ℕ) (k : Kept) (s : Session) (f : Session → Session) → AreSessions now ks ss
    → slice_get ss n ≡ Some s → IsSession now k (f s) → AreSessions now (slice_set ks n k) (change n f ss)
kept_changed now [] [] n k s f a at is = a
kept_changed now [] (t ∷ ss) n k s f a at is = absurd a
kept_changed now (j ∷ ks) [] n k s f a at is = absurd a
kept_changed now (j ∷ ks) (t ∷ ss) zero k s f a at is =
    let e : t ≡ s = cc in
    (subst (λ (x : Session). IsSession now k (f x)) (sym e) is, a.1)
kept_changed now (j ∷ ks) (t ∷ ss) (suc n) k s f a at is = (a.0, kept_changed now ks ss n k s f a.1 at is)

-- one more
pub kept_more : (now : ℕ) (ks : List Kept) (ss : List Session) (k : Kept) (s : Session) → AreSessions now ks ss → IsSession now k s
    → AreSessions now (ks ++ k ∷ []) (ss ++ s ∷ [])
kept_more now [] [] k s a is = (is, tt)
kept_more now [] (t ∷ ss) k s a is = absurd a
kept_more now (j ∷ ks) [] k s a is = absurd a
kept_more now (j ∷ ks) (t ∷ ss) k s a is = (a.0, kept_more now ks ss k s a.1 is)

-- at a later tick too
pub are_later : (now later : ℕ) (ks : List Kept) (ss : List Session) → now ≤ later → AreSessions now ks ss → AreSessions later ks ss
are_later now later [] [] low a = tt
are_later now later [] (s ∷ ss) low a = absurd a
are_later now later (k ∷ ks) [] low a = absurd a
are_later now later (k ∷ ks) (s ∷ ss) low a = (
  record { asking = a.0.asking; session = a.0.session; early = omega (arith, a.0.early, low); first = a.0.first; stands = a.0.stands },
  are_later now later ks ss low a.1,
)

-- a session of which no slot is asked begins anew, and so does one whose question wasn't answered
same_either : {A : Type 0} (b : Bool) (a : A) → cond b a a ≡ a
same_either true a = refl
same_either false a = refl

pub anew_begins : (number floor tick : ℕ) (s : Session) → BeginsAnew (rests number floor tick s)
anew_begins number floor tick s = λ later. (same_either (nat_eq tick later) 0, same_either (nat_eq tick later) None)

pub asks_begins : (r : Record) → r.asks ≡ true → BeginsAnew r
asks_begins r asks = λ later. (
  ap (λ b. cond (cond b false (nat_eq r.tick later)) r.asked 0) asks,
  ap (λ b. cond (cond b false (nat_eq r.tick later)) r.wait None) asks,
)

-- a session that begins anew is one
pub anew_is : (now number floor tick : ℕ) (k : Kept) (s : Session) → floor ≤ now → StandsSession k (rests number floor tick s) → IsSession now k s
anew_is now number floor tick k s early stands =
    record { asking = rests number floor tick s; session = refl; early = early; first = anew_begins number floor tick s; stands = stands }

-- the number of the session of a place
pub number_read : (from : ℕ) (ks : List Kept) (n : ℕ) (k : Kept) → AreNumbered from ks → n < length ks → k ≡ slice_index_or ks n k
    → k.number ≡ from + n + 1
number_read from [] n k a low is = absurd (omega (arith, low))
number_read from (j ∷ ks) zero k a low is = omega (arith, ap (λ (x : Kept). x.number) is, a.0)
number_read from (j ∷ ks) (suc n) k a low is = omega (arith, number_read (from + 1) ks n k a.1 (omega (arith, low)) is)

-- one of them is another of its number
pub numbers_set : (from : ℕ) (ks : List Kept) (n : ℕ) (k : Kept) → AreNumbered from ks → k.number ≡ from + n + 1 → AreNumbered from (slice_set ks n k)
numbers_set from [] n k a is = a
numbers_set from (j ∷ ks) zero k a is = (omega (arith, is), a.1)
numbers_set from (j ∷ ks) (suc n) k a is = (a.0, numbers_set (from + 1) ks n k a.1 (omega (arith, is)))

-- one more
pub numbers_more : (from : ℕ) (ks : List Kept) (k : Kept) → AreNumbered from ks → k.number ≡ from + length ks + 1 → AreNumbered from (ks ++ k ∷ [])
numbers_more from [] k a is = (omega (arith, is), tt)
numbers_more from (j ∷ ks) k a is = (a.0, numbers_more (from + 1) ks k a.1 (omega (arith, is)))
