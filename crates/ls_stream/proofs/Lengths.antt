-- Lines that are short.
use Rattle.std.proofs.Common.{◌≡◌, ◌==◌, ◌≤◌, ◌<◌, ◌+◌, ◌/◌, ◌%◌, ◌^◌, ◌++◌, ℕ, Bool, Option, None, Some, List, [], ◌∷◌, length, true, false, refl, sym}
use Rattle.std.proofs.Common.{subst, cond, arith, codes, decimal, length-append, Result, Ok, Err, IfOk}
use Rattle.std.specs.Option.{ForSome}
use Rattle.std.proofs.lemmas.Fmt.{length-decimal-le}
use Rattle.ls_form.specs.Decimals.{milli_text, part_text}
use Rattle.ls_line.specs.declared.line.Line.TheVariants as line
use Rattle.ls_line.specs.Lines.{text_of_line, then_texts}
use Rattle.ls_record.specs.Acting.{message_of}
use Rattle.ls_record.specs.Lines.{limit_text}
use Rattle.ls_record.specs.Turning.{end_text, loop_text}
use Rattle.ls_stream.specs.Standing.{IsShort}

-- a decimal, and one of thousandths
pub decimal_few : (n : ℕ) → n < 2 ^ 64 → length (decimal n) ≤ 20
decimal_few n low = length-decimal-le 20 n (omega arith) (omega (arith, low)) low

part_few : (n : ℕ) → length (part_text n) ≤ 3
part_few n = by_test (n % 100 == 0) (n % 10 == 0)
  where
    by_test : (a b : Bool) → length (cond a ((48 + n / 100) ∷ []) (cond b ((48 + n / 100) ∷ (48 + n / 10 % 10) ∷ [])
        ((48 + n / 100) ∷ (48 + n / 10 % 10) ∷ (48 + n % 10) ∷ []))) ≤ 3
    by_test true b = omega arith
    by_test false true = omega arith
    by_test false false = omega arith

pub milli_few : (n : ℕ) → n < 2 ^ 64 → length (milli_text n) ≤ 24
milli_few n low =
    omega (arith, length-append (decimal (n / 1000)) (46 ∷ part_text (n % 1000)), decimal_few (n / 1000) (omega (arith, low)), part_few (n % 1000))

pub limit_few : (limit : Option ℕ) → ForSome limit (λ n. n < 2 ^ 64) → length (limit_text limit) ≤ 24
limit_few None low = omega arith
limit_few (Some n) low = milli_few n (low n refl)

-- the bytes of parts, each behind a comma
abbrev pub behind : List (List ℕ) → ℕ
behind [] = 0
behind (t ∷ texts) = length t + 1 + behind texts

pub then_length : (text : List ℕ) (texts : List (List ℕ)) → length (then_texts text texts) ≡ length text + behind texts
then_length text [] = omega arith
then_length text (t ∷ texts) = omega (arith, then_length (text ++ 44 ∷ t) texts, length-append text (44 ∷ t))

pub cons_short : (text : List ℕ) → length text ≤ 24 → IsShort (text_of_line (line.Cons text))
cons_short text few = omega (arith, then_length (codes "CONS") (text ∷ []), few)

pub conok_short : (number keepalive : ℕ) → number < 2 ^ 64 → keepalive < 2 ^ 64
    → IsShort (text_of_line (line.ConOk (codes "S" ++ decimal number) keepalive))
conok_short number keepalive a b =
    omega (
      arith,
      then_length (codes "CONOK") ((codes "S" ++ decimal number) ∷ codes "50000" ∷ decimal keepalive ∷ codes "*" ∷ []),
      length-append (codes "S") (decimal number),
      decimal_few number a,
      decimal_few keepalive b,
    )

pub servname_short : IsShort (text_of_line line.ServName)
servname_short = omega (arith, then_length (codes "SERVNAME") (codes "tlcpd" ∷ []))

end_short : (code : ℕ) (message : List ℕ) → code < 2 ^ 64 → length message ≤ 100 → IsShort (text_of_line (line.End code message))
end_short code message low few = omega (arith, then_length (codes "END") (decimal code ∷ message ∷ []), decimal_few code low, few)

pub destroyed_short : IsShort (end_text 31)
destroyed_short = end_short 31 (message_of 31) (omega arith) (omega arith)

pub timed_out_short : IsShort (end_text 73)
timed_out_short = end_short 73 (message_of 73) (omega arith) (omega arith)

pub prog_short : (count : ℕ) → count < 2 ^ 64 → IsShort (text_of_line (line.Prog count))
prog_short count low = omega (arith, then_length (codes "PROG") (decimal count ∷ []), decimal_few count low)

pub loop_short : IsShort loop_text
loop_short = omega (arith, then_length (codes "LOOP") (codes "0" ∷ []))

-- what is true of a text is true of the one that a call makes
pub ok_is : {E : Type 0} (P : List ℕ → Type 0) (r : Result (List ℕ) E) (text : List ℕ) → P text → IfOk r (λ t. t ≡ text) → IfOk r P
ok_is P (Ok t) text is e = subst P (sym e) is
ok_is P (Err x) text is e = tt
