-- What is true of each key with its row.
use Rattle.std.proofs.Common.{◌≡◌, ℕ, List, [], ◌∷◌, refl, Bool, true, false, cond, subst, Option, Some, IfSome}
use Rattle.ls_value.specs.declared.row.Value.{Value}
use Rattle.ls_value.specs.Values.{text_eq}
use Rattle.ls_value.proofs.Rows.{text_eq_true}
use Rattle.ls_event.specs.declared.snapshot.KeyedRow.{KeyedRow}
use Rattle.ls_event.specs.Keyed.{is_before, row_at, with_row, without}
use Rattle.ls_value.specs.Each.{Each}

abbrev pub EachKey : (List ℕ → List Value → Type 0) → List KeyedRow → Type 0
EachKey P ks = Each (λ (x : KeyedRow). P x.key x.row) ks

pub key_has : (P : List ℕ → List Value → Type 0) (k : List ℕ) (ks : List KeyedRow) → EachKey P ks → IfSome (row_at k ks) (P k)
key_has P k [] e = tt
key_has P k (x ∷ ks) e = by_test (text_eq x.key k) refl (row_at k ks) (key_has P k ks e.1)
  where
    by_test : (b : Bool) → text_eq x.key k ≡ b → (o : Option (List Value)) → IfSome o (P k) → IfSome (cond b (Some x.row) o) (P k)
    by_test true t o more = subst (λ (y : List ℕ). P y x.row) (text_eq_true x.key k t) e.0
    by_test false t o more = more

pub each_with : (P : List ℕ → List Value → Type 0) (k : List ℕ) (r : List Value) (ks : List KeyedRow) → P k r → EachKey P ks → EachKey P (with_row k r ks)
each_with P k r [] i e = (i, tt)
each_with P k r (x ∷ ks) i e = by_tests (text_eq x.key k) (is_before k x.key) (each_with P k r ks i e.1)
  where
    by_tests : (a b : Bool) → EachKey P (with_row k r ks)
        → EachKey P (cond a (record { key = k; row = r } ∷ ks) (cond b (record { key = k; row = r } ∷ x ∷ ks) (x ∷ with_row k r ks)))
    by_tests true b more = (i, e.1)
    by_tests false true more = (i, e)
    by_tests false false more = (e.0, more)

pub each_without : (P : List ℕ → List Value → Type 0) (k : List ℕ) (ks : List KeyedRow) → EachKey P ks → EachKey P (without k ks)
each_without P k [] e = tt
each_without P k (x ∷ ks) e = by_test (text_eq x.key k) (each_without P k ks e.1)
  where
    by_test : (a : Bool) → EachKey P (without k ks) → EachKey P (cond a ks (x ∷ without k ks))
    by_test true more = e.1
    by_test false more = (e.0, more)
