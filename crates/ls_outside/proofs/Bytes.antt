-- One change of known bytes after another, and of a count after another.
use Rattle.std.proofs.Common.{◌≡◌, ℕ, List, [], ◌++◌, sym, ◌∙◌, ap, append_assoc, append-nil}
use Rattle.std.proofs.Common.{◌≤◌, ◌+◌, ◌-◌, length, take, drop, arith, subst}
use Rattle.std.proofs.Math.Seq.{take-add}
use Rattle.std.proofs.lemmas.List.{take_all, length-drop}
use Rattle.std.specs.Prelude.{None, Some}
use Rattle.std.specs.declared.option.Option.{Option}
use Rattle.std.specs.Io.KnownBytes.{Consumes, Appends, Keeps}
use Rattle.std.proofs.Common.{min, ◌^◌}
use Rattle.ls_outside.specs.Causes.{Rose, RoseBy}

-- known bytes that grow twice
pub appends_on : (a b c : Option (List ℕ)) (x y : List ℕ) → Appends a b x → Appends b c y → Appends a c (x ++ y)
appends_on None b c x y p q = tt
appends_on (Some a) None c x y p q = absurd p
appends_on (Some a) (Some b) None x y p q = q
appends_on (Some a) (Some b) (Some c) x y p q = q ∙ ap (λ w. w ++ y) p ∙ append_assoc a x y

-- known bytes that stay grow by nothing
pub appends_kept : (a b : Option (List ℕ)) → Keeps a b → Appends a b []
appends_kept None b k = tt
appends_kept (Some a) None k = k
appends_kept (Some a) (Some b) k = k ∙ sym (append-nil a)

-- known bytes that are read twice
pub consumes_on : (a b c : Option (List ℕ)) (x y : List ℕ) → Consumes a b x → Consumes b c y → Consumes a c (x ++ y)
consumes_on None b c x y p q = tt
consumes_on (Some a) None c x y p q = absurd p
consumes_on (Some a) (Some b) None x y p q = q
consumes_on (Some a) (Some b) (Some c) x y p q = p ∙ ap (λ w. x ++ w) q ∙ sym (append_assoc x y c)

-- what is behind a place is all of the rest
rest_all : (p : List ℕ) (i : ℕ) → take (length p - i) (drop i p) ≡ drop i p
rest_all p i = take_all (length p - i) (drop i p) (omega (arith, length-drop i p))

-- a write of a part of the rest
pub written_on : (a b c : Option (List ℕ)) (p : List ℕ) (i k : ℕ) → i ≤ length p → Appends a b (take i p) → k ≤ length (take (length p - i) (drop i p))
    → Appends b c (take k (take (length p - i) (drop i p))) → (i + k ≤ length p) × Appends a c (take (i + k) p)
written_on a b c p i k within h fits q =
    let rest : take (length p - i) (drop i p) ≡ drop i p = rest_all p i in
    let room : k ≤ length (drop i p) = subst (λ (xs : List ℕ). k ≤ length xs) rest fits in
    let part : Appends b c (take k (drop i p)) = subst (λ (xs : List ℕ). Appends b c (take k xs)) rest q in (
      omega (arith, room, length-drop i p),
      subst (λ (xs : List ℕ). Appends a c xs) (sym (take-add i k p))
          (appends_on a b c (take i p) (take k (drop i p)) h part),
    )

-- a count that did not fall, and then rose
pub rose_since : (a b c : ℕ) → a ≤ b → Rose b c → Rose a c
rose_since a b c low rose = let r : min (b + 1) (2 ^ 64 - 1) ≤ c = rose in omega (arith, low, r)

-- a count that rose, and then did not fall
pub rose_before : (a b c : ℕ) → Rose a b → b ≤ c → Rose a c
rose_before a b c rose high = let r : min (a + 1) (2 ^ 64 - 1) ≤ b = rose in omega (arith, high, r)

-- a count that does not fall rose by at least 0
pub rose_by_none : (a b : ℕ) → a ≤ b → RoseBy 0 a b
rose_by_none a b low = omega (arith, low)

-- a count that rose by n, and then once more
pub rose_by_next : (n a b c : ℕ) → RoseBy n a b → Rose b c → RoseBy (n + 1) a c
rose_by_next n a b c by' once =
    let r : min (a + n) (2 ^ 64 - 1) ≤ b = by' in
    let s : min (b + 1) (2 ^ 64 - 1) ≤ c = once in
    omega (arith, r, s)

-- a count that did not fall, and then rose by n
pub rose_by_later : (n a b c : ℕ) → a ≤ b → RoseBy n b c → RoseBy n a c
rose_by_later n a b c low by' = let r : min (b + n) (2 ^ 64 - 1) ≤ c = by' in omega (arith, low, r)

-- a count that rose by n, and then did not fall
pub rose_by_kept : (n a b c : ℕ) → RoseBy n a b → b ≤ c → RoseBy n a c
rose_by_kept n a b c by' high = let r : min (a + n) (2 ^ 64 - 1) ≤ b = by' in omega (arith, high, r)
