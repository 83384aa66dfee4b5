-- The places of the sessions that haven't ended, and how many these are.
use Rattle.std.proofs.Common.{◌≡◌, ◌==◌, ℕ, zero, suc, ◌+◌, ◌<◌, List, [], ◌∷◌, ◌++◌, length, map, refl, sym, ◌∙◌, ap, arith, cond, Bool, true, false}
use Rattle.std.proofs.Common.{Some, None, slice_get, nat_le, ◌&&◌}
use Rattle.std.specs.Option.{option_map_or}
use Rattle.std.proofs.lemmas.Bool.Decides.{nat_tests}
use Rattle.std.proofs.lemmas.List.Sums.{sum_by-cons}
use Rattle.ls_record.specs.Records.{Session, alive, is_alive, change, ended, timed_out, unless_timed_out}
use Rattle.ls_record.specs.declared.TheConstants.{MOST_UNBOUND}
use Rattle.ls_hub.specs.Clock.{without_place}
use Rattle.ls_hub.specs.Hub.{living_from}

-- how many sessions one counts for that hasn't ended, or has
abbrev count : Session → ℕ
count s = cond (is_alive s.life) 1 0

alive_cons : (s : Session) (ss : List Session) → alive (s ∷ ss) ≡ count s + alive ss
alive_cons s ss = sum_by-cons count s ss

pub alive_first : (s : Session) (ss : List Session) → is_alive s.life ≡ true → alive (s ∷ ss) ≡ alive ss + 1
alive_first s ss living = omega (arith, alive_cons s ss, ap {B = ℕ} (λ b. cond b 1 0) living)

pub alive_both : (ss ts : List Session) → alive (ss ++ ts) ≡ alive ss + alive ts
alive_both [] ts = omega arith
alive_both (s ∷ ss) ts = omega (arith, alive_cons s (ss ++ ts), alive_cons s ss, alive_both ss ts)

-- each has a place
pub living_count : (n : ℕ) (ss : List Session) → length (living_from n ss) ≡ alive ss
living_count n [] = refl
living_count n (s ∷ ss) = by_alive (is_alive s.life) (living_count (n + 1) ss) ∙ sym (alive_cons s ss)
  where
    by_alive : (b : Bool) → length (living_from (n + 1) ss) ≡ alive ss
        → length (cond b (n ∷ living_from (n + 1) ss) (living_from (n + 1) ss)) ≡ cond b 1 0 + alive ss
    by_alive true same = omega (arith, same)
    by_alive false same = omega (arith, same)

-- those of sessions and of others behind them
pub living_both : (n : ℕ) (ss ts : List Session) → living_from n (ss ++ ts) ≡ living_from n ss ++ living_from (n + length ss) ts
living_both n [] ts = ap (λ k. living_from k ts) {x = n} {y = n + 0} (omega arith)
living_both n (s ∷ ss) ts = by_alive (is_alive s.life) (living_both (n + 1) ss ts ∙ ap (λ k. living_from (n + 1) ss ++ living_from k ts) (omega arith))
  where
    by_alive : (b : Bool) → living_from (n + 1) (ss ++ ts) ≡ living_from (n + 1) ss ++ living_from (n + length (s ∷ ss)) ts
        → cond b (n ∷ living_from (n + 1) (ss ++ ts)) (living_from (n + 1) (ss ++ ts))
        ≡ cond b (n ∷ living_from (n + 1) ss) (living_from (n + 1) ss) ++ living_from (n + length (s ∷ ss)) ts
    by_alive true same = ap (λ ns. n ∷ ns) same
    by_alive false same = same

-- a session more
living_more : (n : ℕ) (ss : List Session) (s : Session) → is_alive s.life ≡ true → living_from n (ss ++ s ∷ []) ≡ living_from n ss ++ (n + length ss) ∷ []
living_more n ss s living =
    living_both n ss (s ∷ []) ∙ ap (λ b. living_from n ss ++ cond b ((n + length ss) ∷ []) []) living

pub living_next : (ss : List Session) (s : Session) → is_alive s.life ≡ true → living_from 0 (ss ++ s ∷ []) ≡ living_from 0 ss ++ length ss ∷ []
living_next ss s living = living_more 0 ss s living ∙ ap (λ n. living_from 0 ss ++ n ∷ []) {x = 0 + length ss} {y = length ss} (omega arith)

-- a session that hasn't ended, before and after a change
pub living_changed : (n : ℕ) (ss : List Session) (k : ℕ) (s : Session) (f : Session → Session) → slice_get ss k ≡ Some s
    → is_alive (f s).life ≡ is_alive s.life → living_from n (change k f ss) ≡ living_from n ss
living_changed n [] k s f at same = absurd (let e : None ≡ Some s = at in cc)
living_changed n (t ∷ ss) zero s f at same =
    let e : t ≡ s = cc in
    ap (λ b. cond b (n ∷ living_from (n + 1) ss) (living_from (n + 1) ss))
    (ap (λ (x : Session). is_alive (f x).life) e ∙ same ∙ ap (λ (x : Session). is_alive x.life) (sym e))
living_changed n (t ∷ ss) (suc k) s f at same =
    ap (λ ns. cond (is_alive t.life) (n ∷ ns) ns) (living_changed (n + 1) ss k s f at same)

-- one that ends
living_less : (n : ℕ) (ss : List Session) (k : ℕ) (s : Session) (f : Session → Session) → slice_get ss k ≡ Some s → is_alive s.life ≡ true
    → is_alive (f s).life ≡ false → living_from n (change k f ss) ≡ without_place (n + k) (living_from n ss)
living_less n [] k s f at living ends = absurd (let e : None ≡ Some s = at in cc)
living_less n (t ∷ ss) zero s f at living ends =
    let e : t ≡ s = cc in
    ap (λ b. cond b (n ∷ living_from (n + 1) ss) (living_from (n + 1) ss)) (ap (λ (x : Session). is_alive (f x).life) e ∙ ends)
    ∙ sym (ap (λ b. without_place (n + zero) (cond b (n ∷ living_from (n + 1) ss) (living_from (n + 1) ss)))
    (ap (λ (x : Session). is_alive x.life) e ∙ living)
    ∙ ap (λ b. cond b (living_from (n + 1) ss) (n ∷ without_place (n + zero) (living_from (n + 1) ss))) here)
  where
    here : (n + zero == n) ≡ true
    here = grind (arith, nat_tests)
living_less n (t ∷ ss) (suc k) s f at living ends =
    by_alive (is_alive t.life)
    (living_less (n + 1) ss k s f at living ends ∙ ap (λ m. without_place m (living_from (n + 1) ss)) {x = n + 1 + k} {y = n + suc k} (omega arith))
  where
    other : (n + suc k == n) ≡ false
    other = grind (arith, nat_tests)

    by_alive : (b : Bool) → living_from (n + 1) (change k f ss) ≡ without_place (n + suc k) (living_from (n + 1) ss)
        → cond b (n ∷ living_from (n + 1) (change k f ss)) (living_from (n + 1) (change k f ss))
        ≡ without_place (n + suc k) (cond b (n ∷ living_from (n + 1) ss) (living_from (n + 1) ss))
    by_alive true same =
        ap (λ ns. n ∷ ns) same
        ∙ sym (ap (λ b. cond b (living_from (n + 1) ss) (n ∷ without_place (n + suc k) (living_from (n + 1) ss))) other)
    by_alive false same = same

pub living_ends : (ss : List Session) (k : ℕ) (s : Session) (f : Session → Session) → slice_get ss k ≡ Some s → is_alive s.life ≡ true
    → is_alive (f s).life ≡ false → living_from 0 (change k f ss) ≡ without_place k (living_from 0 ss)
living_ends ss k s f at living ends =
    living_less 0 ss k s f at living ends ∙ ap (λ n. without_place n (living_from 0 ss)) {x = 0 + k} {y = k} (omega arith)

-- the first one that hasn't ended, behind those that have
pub record FirstLiving (ss : List Session) : Type 0 where
  pub ended : List Session
  pub first : Session
  pub behind : List Session
  pub all : ss ≡ ended ++ first ∷ behind
  pub none : alive ended ≡ 0
  pub living : is_alive first.life ≡ true

pub first_living : (ss : List Session) → 0 < alive ss → FirstLiving ss
first_living [] some = absurd (omega (arith, some))
first_living (s ∷ ss) some = by_alive (is_alive s.life) refl (λ none. first_living ss (omega (arith, some, alive_cons s ss, none)))
  where
    by_alive : (b : Bool) → is_alive s.life ≡ b → (count s ≡ 0 → FirstLiving ss) → FirstLiving (s ∷ ss)
    by_alive true is rest = record { ended = []; first = s; behind = ss; all = refl; none = refl; living = is }
    by_alive false is rest =
        let none : count s ≡ 0 = ap (λ b. cond b 1 0) is in
        let x = rest none in
        record {
          ended = s ∷ x.ended;
          first = x.first;
          behind = x.behind;
          all = ap (λ ts. s ∷ ts) x.all;
          none = omega (arith, alive_cons s x.ended, none, x.none);
          living = x.living;
        }

-- the clock changes none that has ended
ended_stays : (now : ℕ) (s : Session) → is_alive s.life ≡ false → unless_timed_out now s ≡ s
ended_stays now s is =
    ap (λ b. cond (b && option_map_or (λ since. nat_le (since + MOST_UNBOUND) now) s.unbound false) (ended timed_out s) s) is

pub ended_stay : (now : ℕ) (ss : List Session) → alive ss ≡ 0 → map (unless_timed_out now) ss ≡ ss
ended_stay now [] none = refl
ended_stay now (s ∷ ss) none = by_alive (is_alive s.life) refl (ended_stay now ss (omega (arith, alive_cons s ss, none)))
  where
    by_alive : (b : Bool) → is_alive s.life ≡ b → map (unless_timed_out now) ss ≡ ss → map (unless_timed_out now) (s ∷ ss) ≡ s ∷ ss
    by_alive true is rest = absurd (omega (arith, alive_cons s ss, none, ap {B = ℕ} (λ b. cond b 1 0) is))
    by_alive false is rest = ap (λ (t : Session). t ∷ map (unless_timed_out now) ss) (ended_stays now s is) ∙ ap (λ ts. s ∷ ts) rest
