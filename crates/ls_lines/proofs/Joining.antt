-- Lines of bytes that come one after another.
use Rattle.std.proofs.Common.{◌≡◌, ℕ, List, [], ◌∷◌, ◌++◌, sym, ◌∙◌, ap, append_assoc}
use Rattle.std.specs.Prelude.{flat_map}
use Rattle.std.proofs.lemmas.Grind.{flat_map-append}
use Rattle.std.specs.Prelude.{Option, None, Some, MatchOption, length, take, drop, ◌-◌}
use Rattle.std.proofs.Common.{subst, arith}
use Rattle.std.proofs.lemmas.List.{take_all, length-drop, take-append-drop}
use Rattle.ls_lines.specs.Lines.{EachLine, ended, AreLines, AreTooLong, Cutting, EndsLine, EndsNone}

pub each_join : (limit : ℕ) (xs ys : List (List ℕ)) → EachLine limit xs → EachLine limit ys → EachLine limit (xs ++ ys)
each_join limit [] ys p q = q
each_join limit (x ∷ xs) ys p q = (p.0, each_join limit xs ys p.1 q)

-- bytes are lines and a rest, and the rest with more bytes is lines and a rest
pub lines_join : (limit : ℕ) (read more : List ℕ) (xs ys : List (List ℕ)) (carry rest : List ℕ) → AreLines limit read xs carry
    → AreLines limit (carry ++ more) ys rest → AreLines limit (read ++ more) (xs ++ ys) rest
lines_join limit read more xs ys carry rest a b = record {
  text = ap (λ t. t ++ more) a.text ∙ append_assoc (flat_map ended xs) carry more ∙ ap (λ t. flat_map ended xs ++ t) b.text
      ∙ sym (append_assoc (flat_map ended xs) (flat_map ended ys) rest) ∙ ap (λ t. t ++ rest) (sym (flat_map-append ended xs ys));
  each = each_join limit xs ys a.each b.each;
}

-- bytes behind others that are no whole line
pub lines_kept : (limit : ℕ) (read : List ℕ) (lines : List (List ℕ)) (carry xs : List ℕ) → AreLines limit read lines carry
    → AreLines limit (read ++ xs) lines (carry ++ xs)
lines_kept limit read lines carry xs a = record {
  text = ap (λ t. t ++ xs) a.text ∙ append_assoc (flat_map ended lines) carry xs;
  each = a.each;
}

-- more bytes behind a line that is too long
pub too_long_more : (limit : ℕ) (xs more : List ℕ) → AreTooLong limit xs → AreTooLong limit (xs ++ more)
too_long_more limit xs more t = record {
  line = t.line;
  behind = t.behind ++ more;
  text = ap (λ y. y ++ more) t.text ∙ append_assoc t.line t.behind more;
  plain = t.plain;
  long = t.long;
}

-- a cutter's answer: a line has ended, or none has
pub ends_some : (c c' : Cutting) (piece : List ℕ) (o : Option ℕ) (used : ℕ) → o ≡ Some used → MatchOption o (EndsNone c c' piece) (EndsLine c c' piece)
    → EndsLine c c' piece used
ends_some c c' piece o used is e = subst (λ a. MatchOption a (EndsNone c c' piece) (EndsLine c c' piece)) is e

pub ends_not : (c c' : Cutting) (piece : List ℕ) (o : Option ℕ) → o ≡ None → MatchOption o (EndsNone c c' piece) (EndsLine c c' piece)
    → EndsNone c c' piece
ends_not c c' piece o is e = subst (λ a. MatchOption a (EndsNone c c' piece) (EndsLine c c' piece)) is e

rest_all : (xs : List ℕ) (i : ℕ) → take (length xs - i) (drop i xs) ≡ drop i xs
rest_all xs i = take_all (length xs - i) (drop i xs) (omega (arith, length-drop i xs))

-- the front of a piece grows by the bytes that were taken
pub piece_on : (piece front rest : List ℕ) (used : ℕ) → piece ≡ front ++ rest
    → piece ≡ (front ++ take used rest) ++ take (length rest - used) (drop used rest)
piece_on piece front rest used is =
    is ∙ ap (λ t. front ++ t) (sym (take-append-drop used rest) ∙ ap (λ t. take used rest ++ t) (sym (rest_all rest used)))
    ∙ sym (append_assoc front (take used rest) (take (length rest - used) (drop used rest)))
