-- The queue of the keys of a snapshot.
use Rattle.std.proofs.Common.{◌≡◌, ℕ, List, [], ◌∷◌, ◌++◌, map, refl, ◌∙◌, ap, false, ◌||◌, cond}
use Rattle.std.proofs.lemmas.List.{append_assoc}
use Rattle.ls_value.specs.Values.{text_eq}
use Rattle.ls_event.specs.declared.snapshot.KeyedRow.{KeyedRow}
use Rattle.ls_event.specs.CommandCuts.{has_key}
use Rattle.ls_command.specs.declared.kept.Queued.{Queued}
use Rattle.ls_command.specs.Command.{keys_of, with_queued, AreDistinct, owed_key, with_owed}
use Rattle.ls_command.proofs.Keys.{text_eq-sym, or_false}

-- a key that isn't there goes last
pub goes_last : (qs : List Queued) (new : Queued) → has_key (keys_of qs) new.key ≡ false → with_queued qs new ≡ qs ++ new ∷ []
goes_last [] new none = refl
goes_last (q ∷ qs) new none = let o = or_false (text_eq q.key new.key) (has_key (keys_of qs) new.key) none in ap
    (λ v. cond v (new ∷ qs) (q ∷ with_queued qs new)) o.0 ∙ ap (λ z. q ∷ z) (goes_last qs new o.1)

-- none of the keys is in the queue
abbrev Apart : List Queued → List KeyedRow → Type 0
Apart qs [] = Unit {0}
Apart qs (k ∷ ks) = (has_key (keys_of qs) k.key ≡ false) × Apart qs ks

has_last : (qs : List Queued) (new : Queued) (j : List ℕ) → has_key (keys_of qs) j ≡ false → text_eq new.key j ≡ false
    → has_key (keys_of (qs ++ new ∷ [])) j ≡ false
has_last [] new j none other = ap (λ v. v || false) other
has_last (q ∷ qs) new j none other = let o = or_false (text_eq q.key j) (has_key (keys_of qs) j) none in ap (λ v. v || has_key (keys_of (qs ++ new ∷ [])) j) o.0
    ∙ has_last qs new j o.1 other

apart_last : (qs : List Queued) (new : Queued) (ks : List KeyedRow) → has_key (map (λ k. k.key) ks) new.key ≡ false → Apart qs ks → Apart (qs ++ new ∷ []) ks
apart_last qs new [] none a = tt
apart_last qs new (k ∷ ks) none a =
    let o = or_false (text_eq k.key new.key) (has_key (map (λ (x : KeyedRow). x.key) ks) new.key) none in
    (has_last qs new k.key a.0 (text_eq-sym new.key k.key ∙ o.0), apart_last qs new ks o.1 a.1)

all_last : (qs : List Queued) (ks : List KeyedRow) → Apart qs ks → AreDistinct (map (λ k. k.key) ks) → with_owed qs ks ≡ qs ++ map owed_key ks
all_last qs [] a d = append_none qs
  where
    append_none : (xs : List Queued) → xs ≡ xs ++ []
    append_none [] = refl
    append_none (x ∷ xs) = ap (λ z. x ∷ z) (append_none xs)
all_last qs (k ∷ ks) a d =
    ap (λ z. with_owed z ks) (goes_last qs (owed_key k) a.0) ∙ all_last (qs ++ owed_key k ∷ []) ks (apart_last qs (owed_key k) ks d.0 a.1) d.1
    ∙ append_assoc qs (owed_key k ∷ []) (map owed_key ks)

apart_none : (ks : List KeyedRow) → Apart [] ks
apart_none [] = tt
apart_none (k ∷ ks) = (refl, apart_none ks)

-- without a repetition they stand in their order
pub with_owed_is : (ks : List KeyedRow) → AreDistinct (map (λ k. k.key) ks) → with_owed [] ks ≡ map owed_key ks
with_owed_is ks d = all_last [] ks (apart_none ks) d
