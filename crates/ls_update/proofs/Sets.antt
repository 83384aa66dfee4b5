-- The two sets hold what the spelling of a text escapes.
use Rattle.std.proofs.Common.{◌≡◌, ℕ, zero, suc, ◌<◌, ◌≤◌, Bool, true, false, not, ◌&&◌, List, [], ◌∷◌, ◌++◌, sym, refl}
use Rattle.std.proofs.Common.{ap, ◌∙◌, ◌⊎◌, ⊎_elim, arith, length, append-nil}
use Rattle.std.proofs.lemmas.Bool.{and_parts, cases_eq}
use Rattle.std.proofs.lemmas.Bool.Decides.{nat_tests}
use Rattle.std.specs.List.{flat_map}
use Rattle.percent_encoding.specs.declared.ascii_set.AsciiSet.{AsciiSet}
use Rattle.percent_encoding.specs.AsciiSet.{contains, should_percent_encode}
use Rattle.percent_encoding.specs.Percent.{percent_encode, percent_encode_byte}
use Rattle.percent_encoding.proofs.PercentLemmas.{percent_encode-nil}
use Rattle.ls_update.specs.Fields.{is_escaped, is_escaped_first, spell, spelled_text}
use Rattle.ls_update.specs.declared.writing.TheConstants.{ESCAPED, ESCAPED_FIRST}

abbrev agree : Bool → Bool → Bool
agree true b = b
agree false b = not b

agree_same : (a b : Bool) → agree a b ≡ true → a ≡ b
agree_same true true e = refl
agree_same true false e = sym e
agree_same false true e = e
agree_same false false e = refl

abbrev all_below : (ℕ → Bool) → ℕ → Bool
all_below test zero = true
all_below test (suc n) = test n && all_below test n

passes_below : (test : ℕ → Bool) (n : ℕ) → all_below test n ≡ true → (k : ℕ) → k < n → test k ≡ true
passes_below test zero all k below = absurd (omega arith)
passes_below test (suc n) all k below =
    ⊎_elim (λ last. rw last (and_parts _ _ all).0) (λ other. passes_below test n (and_parts _ _ all).1 k (omega arith))
    (cases_eq k n)

-- a set escapes the bytes that pass a test
abbrev pub Escapes : AsciiSet → (ℕ → Bool) → Type 0
Escapes set test = (b : ℕ) → should_percent_encode set b ≡ test b

by_table : (set : AsciiSet) (test : ℕ → Bool) → all_below (λ b. agree (contains set b) (test b)) 128 ≡ true
    → ((b : ℕ) → 128 ≤ b → test b ≡ true) → Escapes set test
unfolding should_percent_encode
by_table set test table past b =
    let cases : (b < 128) ⊎ (128 ≤ b) = search arith in
    ⊎_elim
    (λ h. let same : contains set b ≡ test b = agree_same (contains set b) (test b)
    (passes_below (λ x. agree (contains set x) (test x)) 128 table b h) in grind (arith, nat_tests, same))
    (λ h. let all : test b ≡ true = past b h in grind (arith, nat_tests, all))
    cases

past_escaped : (b : ℕ) → 128 ≤ b → is_escaped b ≡ true
past_escaped b h = grind (arith, nat_tests)

past_escaped_first : (b : ℕ) → 128 ≤ b → is_escaped_first b ≡ true
past_escaped_first b h = grind (arith, nat_tests)

pub escaped : Escapes ESCAPED is_escaped
escaped = by_table ESCAPED is_escaped refl past_escaped

pub escaped_first : Escapes ESCAPED_FIRST is_escaped_first
escaped_first = by_table ESCAPED_FIRST is_escaped_first refl past_escaped_first

percent_encode-cons : (set : AsciiSet) (test : ℕ → Bool) → Escapes set test → (b : ℕ) (bs : List ℕ)
    → percent_encode set (b ∷ bs) ≡ spell test b ++ percent_encode set bs
unfolding percent_encode percent_encode_byte
percent_encode-cons set test same b bs = rw (same b) refl

percent_encode-spell : (set : AsciiSet) (test : ℕ → Bool) → Escapes set test → (bs : List ℕ)
    → percent_encode set bs ≡ flat_map (spell test) bs
percent_encode-spell set test same [] = percent_encode-nil set
percent_encode-spell set test same (b ∷ bs) = percent_encode-cons set test same b bs
    ∙ ap (λ (x : List ℕ). spell test b ++ x) (percent_encode-spell set test same bs)

-- a text that isn't empty is spelled by its first byte and the others
pub spelled_text-parts : (text head rest : List ℕ) → text ≡ head ++ rest → length head ≡ 1
    → spelled_text text ≡ percent_encode ESCAPED_FIRST head ++ percent_encode ESCAPED rest
spelled_text-parts text [] rest e one = absurd (omega arith)
spelled_text-parts text (b ∷ []) rest e one =
    rw (
      e,
      percent_encode-spell ESCAPED_FIRST is_escaped_first escaped_first,
      percent_encode-spell ESCAPED is_escaped
          escaped,
    )
    (ap (λ (x : List ℕ). x ++ flat_map (spell is_escaped) rest) (sym (append-nil (spell is_escaped_first b))))
spelled_text-parts text (b ∷ c ∷ bs) rest e one = absurd (omega arith)
