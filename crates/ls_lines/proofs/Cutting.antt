-- The first line of a piece.
use Rattle.std.proofs.Common.{◌≡◌, ◌==◌, ℕ, zero, suc, ◌+◌, ◌<◌, ◌≤◌, ◌-◌, List, [], ◌∷◌, ◌++◌, length, take, drop, refl, sym, ◌∙◌, ap, arith, append_assoc}
use Rattle.std.proofs.Common.{append-nil, Bool, true, false, get_or, subst, eqb-true}
use Rattle.std.specs.Prelude.{Option, None, Some, MatchOption}
use Rattle.std.proofs.lemmas.List.{take_all, take-append-drop, length-take-le}
use Rattle.std.specs.Prelude.{Err}
use Rattle.std.specs.Result.{IsErrOf}
use Rattle.ls_lines.specs.declared.cutter.LineRefused.{LineRefused}
use Rattle.memchr.specs.Find.{IsFirstByte, is_byte}
use Rattle.ls_lines.specs.Lines.{IsPlain, IsLine, ended, AreLines, AreTooLong, Cutting, EndsLine, EndsNone, line_in, line_at}

not_true : (v : Bool) → (v ≡ true → ⊥) → v ≡ false
not_true true h = absurd (h refl)
not_true false h = refl

-- the bytes before the first end of a line
before_end : (xs : List ℕ) (k : ℕ) → ((j : ℕ) → j < k → (get_or xs j 0 == 10) ≡ true → ⊥) → IsPlain (take k xs)
before_end xs zero h = tt
before_end [] (suc k) h = tt
before_end (b ∷ xs) (suc k) h = (not_true (b == 10) (h 0 (omega arith)), before_end xs k (λ j l. h (suc j) (omega (arith, l))))

pub line_found : (xs : List ℕ) (r : Option ℕ) → IsFirstByte (is_byte 10) xs r → MatchOption r (IsPlain xs) (λ k. IsPlain (take k xs))
line_found xs None h = subst (λ (bytes : List ℕ). IsPlain bytes) (take_all (length xs) xs (omega arith))
    (before_end xs (length xs) (λ j l. h j (omega arith) l))
line_found xs (Some k) h = before_end xs k (λ j l. h.0.before j (omega arith) l)

pub plain_on : (xs ys : List ℕ) → IsPlain xs → IsPlain ys → IsPlain (xs ++ ys)
plain_on [] ys p q = q
plain_on (b ∷ xs) ys p q = (p.0, plain_on xs ys p.1 q)

-- the first line of a piece, with its end
take_end : (xs : List ℕ) (k : ℕ) → k < length xs → get_or xs k 0 ≡ 10 → take (suc k) xs ≡ ended (take k xs)
take_end [] k l h = absurd (omega (arith, l))
take_end (b ∷ xs) zero l h = ap (λ n. n ∷ []) h
take_end (b ∷ xs) (suc k) l h = ap (λ ys. b ∷ ys) (take_end xs k (omega (arith, l)) h)

take_next : (xs : List ℕ) (k : ℕ) → k < length xs → get_or xs k 0 ≡ 10 → take (k + 1) xs ≡ ended (take k xs)
take_next xs k l h = let next : suc k ≡ k + 1 = omega arith in subst (λ n. take n xs ≡ ended (take k xs)) next (take_end xs k l h)

-- a line has ended, which is what was joined or the front of the piece
ends_at : (old new : Cutting) (piece : List ℕ) (k : ℕ) → IsLine old.limit old.carry → k < length piece → get_or piece k 0 ≡ 10
    → IsLine old.limit (old.carry ++ take k piece) → line_in new.joined (take k piece) ≡ old.carry ++ take k piece → new.carry ≡ []
    → new.limit ≡ old.limit → EndsLine old new piece (k + 1)
ends_at old new piece k before l h is same none limit =
    let line : List ℕ = old.carry ++ take k piece in
    let text : old.carry ++ take (k + 1) piece ≡ (ended line ++ []) ++ [] =
    ap (λ t. old.carry ++ t) (take_next piece k l h) ∙ sym (append_assoc old.carry (take k piece) (10 ∷ []))
    ∙ sym (append-nil (ended line)) ∙ sym (append-nil (ended line ++ [])) in
    let here : k + 1 - 1 ≡ k = omega arith in
    let at : line_at new piece (k + 1) ≡ line = ap (λ n. line_in new.joined (take n piece)) here ∙ same in
    record {
      kept = before;
      some = omega arith;
      within = omega (arith, l);
      are = subst (λ t. AreLines old.limit (old.carry ++ take (k + 1) piece) (t ∷ []) []) (sym at)
          (record { text = text; each = (is, tt) });
      none = none;
      limit = limit;
    }

joined_is : (xs ys part : List ℕ) → (xs ≡ [] → ⊥) → line_in (xs ++ ys) part ≡ xs ++ ys
joined_is [] ys part some = absurd (some refl)
joined_is (x ∷ xs) ys part some = refl

-- a line that began in an earlier piece
pub ends_joined : (old new : Cutting) (piece : List ℕ) (k : ℕ) → IsLine old.limit old.carry → k < length piece → get_or piece k 0 ≡ 10
    → IsLine old.limit (old.carry ++ take k piece) → (old.carry ≡ [] → ⊥)
    → new ≡ record { limit = old.limit; joined = old.carry ++ take k piece; carry = [] } → EndsLine old new piece (k + 1)
ends_joined old new piece k before l h is some now =
    ends_at old new piece k before l h is
    (ap (λ (c : Cutting). line_in c.joined (take k piece)) now ∙ joined_is old.carry (take k piece) (take k piece) some)
    (ap (λ (c : Cutting). c.carry) now) (ap (λ (c : Cutting). c.limit) now)

-- a line that lies whole in its piece
pub ends_whole : (old new : Cutting) (piece : List ℕ) (k : ℕ) → IsLine old.limit old.carry → k < length piece → get_or piece k 0 ≡ 10
    → IsPlain (take k piece) → k ≤ old.limit → old.carry ≡ [] → new ≡ record old { joined = [] } → EndsLine old new piece (k + 1)
ends_whole old new piece k before l h plain short none now =
    let line : old.carry ++ take k piece ≡ take k piece = ap (λ t. t ++ take k piece) none in
    let is : IsLine old.limit (take k piece) =
    record { plain = plain; short = omega (arith, length-take-le k piece (omega (arith, l)), short) } in
    ends_at old new piece k before l h (subst (λ t. IsLine old.limit t) (sym line) is)
    (ap (λ (c : Cutting). line_in c.joined (take k piece)) now ∙ sym line) (ap (λ (c : Cutting). c.carry) now ∙ none)
    (ap (λ (c : Cutting). c.limit) now)

-- a piece ends no line
pub ends_none : (old new : Cutting) (piece : List ℕ) → IsLine old.limit old.carry → IsLine old.limit (old.carry ++ piece)
    → new ≡ record { limit = old.limit; joined = old.joined; carry = old.carry ++ piece } → EndsNone old new piece
ends_none old new piece before is now =
    let same : new.carry ≡ old.carry ++ piece = ap (λ (c : Cutting). c.carry) now in
    record {
      kept = before;
      are = record { text = sym same; each = tt };
      rest = subst (λ t. IsLine old.limit t) (sym same) is;
      joined = ap (λ (c : Cutting). c.joined) now;
      limit = ap (λ (c : Cutting). c.limit) now;
    }

-- a piece goes on with a line that is too long
pub too_long_at : (limit : ℕ) (carry piece : List ℕ) (k : ℕ) → IsPlain (carry ++ take k piece) → limit < length (carry ++ take k piece)
    → AreTooLong limit (carry ++ piece)
too_long_at limit carry piece k plain long = record {
  line = carry ++ take k piece;
  behind = drop k piece;
  text = ap (λ t. carry ++ t) (sym (take-append-drop k piece)) ∙ sym (append_assoc carry (take k piece) (drop k piece));
  plain = plain;
  long = long;
}

pub empty_of : (xs : List ℕ) (n : ℕ) → n ≡ length xs → ((n == 0) ≡ true) → xs ≡ []
empty_of [] n len h = refl
empty_of (x ∷ xs) n len h = absurd (omega (arith, eqb-true n 0 h, len))

-- the same, where nothing was kept
pub too_long_front : (limit : ℕ) (carry piece : List ℕ) (k : ℕ) → carry ≡ [] → IsPlain (take k piece) → k < length piece → limit < k
    → AreTooLong limit (carry ++ piece)
too_long_front limit carry piece k none plain l long =
    let line : carry ++ take k piece ≡ take k piece = ap (λ t. t ++ take k piece) none in
    too_long_at limit carry piece k (subst (λ t. IsPlain t) (sym line) plain)
    (subst (λ t. limit < length t) (sym line) (omega (arith, length-take-le k piece (omega (arith, l)), long)))

pub too_long_whole : (limit : ℕ) (carry piece : List ℕ) → IsPlain (carry ++ piece) → limit < length (carry ++ piece)
    → AreTooLong limit (carry ++ piece)
too_long_whole limit carry piece plain long =
    record { line = carry ++ piece; behind = []; text = sym (append-nil (carry ++ piece)); plain = plain; long = long }

-- a cause that is handed on, in another answer
pub same_cause : {T U : Type 0} (a b : LineRefused) → IsErrOf {T = T} {E = LineRefused} (Err a) b → IsErrOf {T = U} {E = LineRefused} (Err a) b
same_cause a b is = ap (λ e. Err e) (cause_in a b is)
  where
    cause_in : {T : Type 0} (a b : LineRefused) → IsErrOf {T = T} {E = LineRefused} (Err a) b → a ≡ b
    cause_in a b is = cc
