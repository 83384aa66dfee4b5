-- No tokens say a row without fields.
use Rattle.std.proofs.Common.{◌≡◌, ◌==◌, ℕ, ◌<◌, length, List, [], ◌∷◌, Option, Some, None, IfSome, Bor, refl, ◌∙◌, arith}
use Rattle.std.proofs.lemmas.List.Splits.{length-slice_split}
use Rattle.ls_value.specs.declared.row.Value.{Value}
use Rattle.ls_update.specs.declared.reading.ReadRefused.TheVariants as read
use Rattle.ls_update.specs.Reading.{Reads, row_before, tokens_of}
use Rattle.ls_update.specs.Writing.{row_behind}
use Rattle.ls_update.proofs.ReadBack.{nulls_length}
use Rattle.ls_update.proofs.First.{no_first_fault}
use Rattle.ls_mirror.specs.Refusing.{IsFaulty}

tokens_stand : (text : List ℕ) → 0 < length (tokens_of text)
tokens_stand text = let e = length-slice_split (λ (b : ℕ). b == 124) text in omega (arith, e)

pub no_fields : (n : ℕ) (prev : Option (Bor (List Value))) → n ≡ 0 → IfSome prev (λ p. length p.now ≡ n) → length (row_before n (row_behind prev)) ≡ 0
no_fields n None e h = nulls_length n ∙ e
no_fields n (Some p) e h = h ∙ e

pub faulty : (prev : List Value) (text : List ℕ) → length prev ≡ 0 → IsFaulty prev (tokens_of text)
faulty (v ∷ prev) text e = absurd (omega (arith, e))
faulty [] text e = (
  read.TooMany 1,
  record {
    behind = 0;
    fields = 0;
    row = [];
    stands = tokens_stand text;
    within = omega arith;
    before = (refl, refl);
    is = (refl, refl);
  },
)

pub unread : (prev row : List Value) (text : List ℕ) → length prev ≡ 0 → Reads prev (tokens_of text) row → ⊥
unread prev row text e reads =
    let bad = faulty prev text e in
    no_first_fault prev row (tokens_of text) bad.0 (omega (arith, e)) reads bad.1
