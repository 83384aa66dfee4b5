-- A round whose slots keep their names, whatever else becomes of them.
use Rattle.std.proofs.Common.{◌≡◌, ◌==◌, ℕ, ◌+◌, List, [], ◌∷◌, map, refl, sym, ◌∙◌, ap, subst, cond, Bool, true, false, ◌&&◌, ◌||◌, Option, Some}
use Rattle.std.proofs.Common.{option_map}
use Rattle.ls_record.specs.Lines.{Line}
use Rattle.ls_record.specs.Records.{LiveSlot, is_at, is_of, is_used, live_at}
use Rattle.ls_record.specs.Acting.{subscriptions}
use Rattle.ls_record.specs.Apart.{Apart}
use Rattle.ls_record.proofs.Each.{each_mapped}
use Rattle.ls_subs.specs.declared.subs.Subs.{Subs}
use Rattle.ls_subs.specs.Kept.{kept_at, has_sub, count_of}
use Rattle.ls_subs.specs.Standing.{StandsKeptAt, StandsSubs}
use Rattle.ls_subs.proofs.Rounds.{first, subscriptions_cons}

-- a slot of the same subscription and rank
pub record SameName (v w : LiveSlot) : Type 0 where
  pub sub : w.sub ≡ v.sub
  pub rank : w.rank ≡ v.rank

module _ (f : LiveSlot → LiveSlot) (same : (v : LiveSlot) → SameName v (f v)) where
  is_at_mapped : (q rank : ℕ) (v : LiveSlot) → is_at q rank (f v) ≡ is_at q rank v
  is_at_mapped q rank v = ap (λ n. (q == n) && (rank == (f v).rank)) (same v).sub ∙ ap (λ n. (q == v.sub) && (rank == n)) (same v).rank

  pub at_mapped : (q rank : ℕ) (vs : List LiveSlot) → live_at q rank (map f vs) ≡ option_map f (live_at q rank vs)
  at_mapped q rank [] = refl
  at_mapped q rank (v ∷ vs) =
      ap (λ b. cond b (Some (f v)) (live_at q rank (map f vs))) (is_at_mapped q rank v) ∙ ap (cond (is_at q rank v) (Some (f v))) (at_mapped q rank vs)
      ∙ by_test (is_at q rank v) (live_at q rank vs)
    where
      by_test : (b : Bool) (o : Option LiveSlot) → cond b (Some (f v)) (option_map f o) ≡ option_map f (cond b (Some v) o)
      by_test true o = refl
      by_test false o = refl

  used_mapped : (q : ℕ) (vs : List LiveSlot) → is_used q (map f vs) ≡ is_used q vs
  used_mapped q [] = refl
  used_mapped q (v ∷ vs) = ap (λ n. (q == n) || is_used q (map f vs)) (same v).sub ∙ ap (λ b. is_of q v || b) (used_mapped q vs)

  count_mapped : (vs : List LiveSlot) → subscriptions (map f vs) ≡ subscriptions vs
  count_mapped [] = refl
  count_mapped (v ∷ vs) = subscriptions_cons (f v) (map f vs) ∙ ap (λ n. cond (n == 1) 1 0 + subscriptions (map f vs)) (same v).rank
      ∙ ap (λ n. first v + n) (count_mapped vs) ∙ sym (subscriptions_cons v vs)

  apart_mapped : (vs : List LiveSlot) → Apart vs → Apart (map f vs)
  apart_mapped [] a = tt
  apart_mapped (v ∷ vs) a = (
    each_mapped (λ u. is_at v.sub v.rank u ≡ false) (λ u. is_at (f v).sub (f v).rank u ≡ false) f vs
        (λ u h. subst (λ n. is_at n (f v).rank (f u) ≡ false) (sym (same v).sub)
        (subst (λ n. is_at v.sub n (f u) ≡ false) (sym (same v).rank) (is_at_mapped v.sub v.rank u ∙ h))) a.0,
    apart_mapped vs a.1,
  )

  -- what is kept stands for it, where what is kept of each slot does
  pub mapped_stands : (k k' : Subs) (lines lines' : List Line) (round : List LiveSlot) → ((q : ℕ) → has_sub k' q ≡ has_sub k q) → count_of k' ≡ count_of k
      → ((q rank : ℕ) → StandsKeptAt (kept_at k q rank) lines (live_at q rank round)
      → StandsKeptAt (kept_at k' q rank) lines' (option_map f (live_at q rank round)))
      → StandsSubs k lines round → StandsSubs k' lines' (map f round)
  mapped_stands k k' lines lines' round has count each s =
      record {
        apart = apart_mapped round s.apart;
        at = λ q rank. subst (λ (w : Option LiveSlot). StandsKeptAt (kept_at k' q rank) lines' w) (sym (at_mapped q rank round)) (each q rank (s.at q rank));
        used = λ q. has q ∙ s.used q ∙ sym (used_mapped q round);
        count = count ∙ s.count ∙ sym (count_mapped round);
      }
