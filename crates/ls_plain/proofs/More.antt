-- Lists, one by one.
use Rattle.std.proofs.Common.{◌≡◌, ℕ, zero, suc, ◌+◌, ◌-◌, ◌<◌, ◌≤◌, ◌++◌, List, [], ◌∷◌, length, map, drop, take, get_or, ◌∙◌, ap, subst, sym, refl, arith}
use Rattle.std.proofs.Common.{All, true, cond}
use Rattle.std.specs.List.{remove}
use Rattle.std.proofs.lemmas.List.{drop_more, take_more, length-map, drop-map, drop_all, take_all, append-nil, append_assoc}
use Rattle.std.proofs.lemmas.List.Elements.{All-append}
use Rattle.ls_value.specs.declared.row.Value.{Value}
use Rattle.ls_value.specs.declared.row.Cell.{Cell}
use Rattle.ls_value.specs.Values.{applied, cell_at, kept_or_taken, text_eq}
use Rattle.ls_value.proofs.Rows.{applied_none}
use Rattle.ls_event.specs.declared.snapshot.KeyedRow.{KeyedRow}
use Rattle.ls_event.specs.declared.updates.OwnRow.{OwnRow}
use Rattle.ls_event.specs.Keyed.{without}
use Rattle.ls_event.specs.Updates.{last_of}
use Rattle.ls_event.proofs.Conditions.{all_one}

-- the last of what is made of each
last_of-map : {A B : Type 0} (f : A → B) (n : ℕ) (xs : List A) → last_of n (map f xs) ≡ map f (last_of n xs)
last_of-map f n xs = drop-map f (length (map f xs) - n) xs ∙ ap (λ k. map f (drop (k - n) xs)) (length-map xs f)

pub last_rows : (n : ℕ) (us : List OwnRow) → last_of n (map (λ (u : OwnRow). u.row) us) ≡ map (λ (u : OwnRow). u.row) (last_of n us)
last_rows n us = last_of-map (λ (u : OwnRow). u.row) n us

pub last_keys : (n : ℕ) (ks : List KeyedRow) → last_of n (map (λ (k : KeyedRow). k.key) ks) ≡ map (λ (k : KeyedRow). k.key) (last_of n ks)
last_keys n ks = last_of-map (λ (k : KeyedRow). k.key) n ks

-- what holds of the first i holds of one more
pub all_more : {A : Type 0} (P : A → Type 0) (xs : List A) (i : ℕ) (d : A) → All P (take i xs) → i < length xs → P (get_or xs i d) → All P (take (i + 1) xs)
all_more P xs i d all within p = subst (All P) (sym (take_more xs i d within)) (All-append P (take i xs) (get_or xs i d ∷ []) all (all_one P (get_or xs i d) p))

-- a key that isn't among the first is taken out where it stands next
pub removed_at : (key : List ℕ) (ks : List KeyedRow) (i : ℕ) (d : KeyedRow) → without key ks ≡ take i ks ++ without key (drop i ks) → i < length ks
    → text_eq (get_or ks i d).key key ≡ true → remove ks i ≡ without key ks
removed_at key ks i d first more same =
    sym (
    first
    ∙ ap (λ (xs : List KeyedRow). take i ks ++ without key xs) (drop_more ks i d more)
    ∙ ap (λ v. take i ks ++ cond v (drop (i + 1) ks) (get_or ks i d ∷ without key (drop (i + 1) ks))) same
    ∙ ap (λ n. take i ks ++ drop n ks) {x = i + 1} {y = suc i} (omega arith)
    )

-- and where it is nowhere, nothing is
pub not_there : (key : List ℕ) (ks : List KeyedRow) (i : ℕ) → without key ks ≡ take i ks ++ without key (drop i ks) → length ks ≤ i → without key ks ≡ ks
not_there key ks i first all = first ∙ rw (drop_all i ks all, take_all i ks all) (append-nil ks)

-- the values from a place on after an update
applied_at : (i : ℕ) (row : List Value) (cells : List Cell) (d : Value) → i < length row
    → applied (drop i row) (drop i cells) ≡ kept_or_taken (get_or row i d) (cell_at cells i) ∷ applied (drop (suc i) row) (drop (suc i) cells)
applied_at i [] cells d more = absurd (omega (arith, more))
applied_at zero (v ∷ row) [] d more = ap (λ r. v ∷ r) (sym (applied_none row))
applied_at zero (v ∷ row) (c ∷ cells) d more = refl
applied_at (suc i) (v ∷ row) [] d more = ap (λ (cs : List Cell). applied (drop i row) cs) (sym (drop_all i [] (omega arith)))
    ∙ applied_at i row [] d (omega (arith, more))
applied_at (suc i) (v ∷ row) (c ∷ cells) d more = applied_at i row cells d (omega (arith, more))

applied_more : (i : ℕ) (row : List Value) (cells : List Cell) (d : Value) → i < length row
    → applied (drop i row) (drop i cells) ≡ kept_or_taken (get_or row i d) (cell_at cells i) ∷ applied (drop (i + 1) row) (drop (i + 1) cells)
applied_more i row cells d more = applied_at i row cells d more ∙ ap (λ n. kept_or_taken (get_or row i d) (cell_at cells i)
    ∷ applied (drop n row) (drop n cells)) {x = suc i} {y = i + 1} (omega arith)

-- one value more
pub values_grown : (done row all : List Value) (cells : List Cell) (i : ℕ) (d v : Value) → done ++ applied (drop i row) (drop i cells) ≡ all → i < length row
    → v ≡ kept_or_taken (get_or row i d) (cell_at cells i) → (done ++ v ∷ []) ++ applied (drop (i + 1) row) (drop (i + 1) cells) ≡ all
values_grown done row all cells i d v inv more is =
    append_assoc done (v ∷ []) (applied (drop (i + 1) row) (drop (i + 1) cells))
    ∙ ap (λ (r : List Value). done ++ r) (ap (λ w. w ∷ applied (drop (i + 1) row) (drop (i + 1) cells)) is ∙ sym (applied_more i row cells d more))
    ∙ inv
