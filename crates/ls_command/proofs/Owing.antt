-- The keys of a snapshot, as a queue takes them one by one.
use Rattle.std.proofs.Common.{◌≡◌, ℕ, zero, suc, ◌+◌, List, [], ◌∷◌, ◌++◌, length, refl, sym, ◌∙◌, ap, arith, cond, Bool, true, false}
use Rattle.std.specs.List.{range_with_len}
use Rattle.std.proofs.lemmas.List.{length-map}
use Rattle.ls_event.specs.declared.snapshot.KeyedRow.{KeyedRow}
use Rattle.ls_event.specs.CommandCuts.{has_key}
use Rattle.ls_command.specs.declared.kept.Queued.{Queued}
use Rattle.ls_command.specs.Command.{keys_of, with_queued, with_owed, owed_key, values_with}
use Rattle.ls_command.specs.Entries.{LinkedKeys, keys_owed, keys_owing}
use Rattle.ls_command.proofs.Placing.{same_keys}
use Rattle.ls_command.proofs.Queues.{keys_queued}
use Rattle.ls_command.proofs.Turns.{with_length}

-- the keys of a snapshot, one by one
abbrev pub IsOwing : LinkedKeys → Type 0
IsOwing q = (q.values ≡ range_with_len 0 (length q.keys)) × (q.owed ≡ length q.keys)

range_more : (a n : ℕ) → range_with_len a n ++ (a + n) ∷ [] ≡ range_with_len a (suc n)
range_more a zero = ap (λ (x : ℕ). x ∷ []) (omega arith)
range_more a (suc n) =
    ap (λ (x : ℕ). a ∷ range_with_len (a + 1) n ++ x ∷ []) {x = a + suc n} {y = (a + 1) + n} (omega arith)
    ∙ ap (λ (xs : List ℕ). a ∷ xs) (range_more (a + 1) n)

values_owed : (qs : List Queued) (k : KeyedRow)
    → values_with qs (range_with_len 0 (length qs)) k.key ≡ range_with_len 0 (length (with_queued qs (owed_key k)))
values_owed qs k = by_test (has_key (keys_of qs) k.key) refl
  where
    long : (t : Bool) → has_key (keys_of qs) k.key ≡ t → length (with_queued qs (owed_key k)) ≡ length qs + cond t 0 1
    long t e =
        sym (length-map (with_queued qs (owed_key k)) (λ (q : Queued). q.key))
        ∙ ap (λ (ks : List (List ℕ)). length ks) (keys_queued (owed_key k) qs) ∙ with_length (keys_of qs) k.key
        ∙ ap (λ (n : ℕ). n + cond (has_key (keys_of qs) k.key) 0 1) (length-map qs (λ (q : Queued). q.key))
        ∙ ap (λ (b : Bool). length qs + cond b 0 1) e

    by_test : (t : Bool) → has_key (keys_of qs) k.key ≡ t
        → cond t (range_with_len 0 (length qs)) (range_with_len 0 (length qs) ++ length qs ∷ [])
        ≡ range_with_len 0 (length (with_queued qs (owed_key k)))
    by_test true e = ap (range_with_len 0) {x = length qs} {y = length (with_queued qs (owed_key k))} (omega (arith, long true e))
    by_test false e =
        ap (λ (n : ℕ). range_with_len 0 (length qs) ++ n ∷ []) {x = length qs} {y = 0 + length qs} (omega arith)
        ∙ range_more 0 (length qs)
        ∙ ap (range_with_len 0) {x = suc (length qs)} {y = length (with_queued qs (owed_key k))} (omega (arith, long false e))

pub owing_next : (q : LinkedKeys) (k : KeyedRow) → IsOwing q → IsOwing (keys_owed q k)
owing_next q k o = (ap (λ (vs : List ℕ). values_with q.keys vs k.key) o.0 ∙ values_owed q.keys k, refl)

pub owing_all : (q : LinkedKeys) (rows : List KeyedRow) → q.keys ≡ with_owed [] rows → IsOwing q → q ≡ keys_owing rows
owing_all q rows is o =
    same_keys q.keys (with_owed [] rows) q.values (range_with_len 0 (length (with_owed [] rows))) q.owed (length (with_owed [] rows)) is
    (o.0 ∙ ap (λ (qs : List Queued). range_with_len 0 (length qs)) is) (o.1 ∙ ap (λ (qs : List Queued). length qs) is)
