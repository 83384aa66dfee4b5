-- The lines of what is printed: how a text comes apart, and what is counted of it.
use Rattle.std.proofs.Common.{◌≡◌, ◌==◌, ℕ, suc, ◌+◌, List, [], ◌∷◌, ◌++◌, length, Bool, true, false, not, cond, Option, None, Some}
use Rattle.std.proofs.Common.{refl, sym, ◌∙◌, ap, arith, append-nil, append_assoc}
use Rattle.std.specs.Prelude.{filter, is_some, codes}
use Rattle.std.specs.Borrow.{Bor}
use Rattle.std.specs.Fmt.{decimal}
use Rattle.std.proofs.lemmas.List.{length-append}
use Rattle.std.proofs.lemmas.List.Elements.{filter-append}
use Rattle.ls_words.specs.Words.{divided, pieces_behind}
use Rattle.ls_step.specs.declared.out.Out.{Out}
use Rattle.ls_step.specs.declared.out.Out.TheVariants as out
use Rattle.ls_step.specs.Notes.{text_of_out}
use Rattle.ls_world.specs.Script.{whole_from, rest_from, text_of_outs}
use Rattle.ls_run.proofs.ScriptLines.{whole_from-append, rest_from-append}
use Rattle.ls_soak.specs.declared.tally.Tally.{Tally}
use Rattle.ls_soak.specs.Tallies.{no_lines, is_update, tally_of, lines_in, joined, counted}

-- all pieces but the last one
abbrev pub but_last_of : List ℕ → List (List ℕ) → List (List ℕ)
but_last_of piece [] = []
but_last_of piece (next ∷ pieces) = piece ∷ but_last_of next pieces

abbrev pub but_last : List (List ℕ) → List (List ℕ)
but_last [] = []
but_last (piece ∷ pieces) = but_last_of piece pieces

-- the pieces of a text that LF divides; all but the last one are its lines
record Pieces (carry xs : List ℕ) : Type 0 where
  first : List ℕ
  others : List (List ℕ)
  are : divided 10 xs ≡ first ∷ others
  whole : whole_from carry xs ≡ but_last_of (carry ++ first) others

pieces_step : (carry : List ℕ) (b : ℕ) (xs : List ℕ) (t : Bool) → (b == 10) ≡ t → Pieces [] xs → Pieces (carry ++ b ∷ []) xs
    → Pieces carry (b ∷ xs)
pieces_step carry b xs true t r s =
    record {
      first = [];
      others = r.first ∷ r.others;
      are = rw (t, r.are) refl;
      whole = rw t (ap (λ ls. carry ∷ ls) r.whole ∙ ap (λ c. c ∷ but_last_of r.first r.others) (sym (append-nil carry)));
    }
pieces_step carry b xs false t r s =
    record {
      first = b ∷ s.first;
      others = s.others;
      are = rw (t, s.are) refl;
      whole = rw t (s.whole ∙ ap (λ c. but_last_of c s.others) (append_assoc carry (b ∷ []) s.first));
    }

pieces_of : (xs carry : List ℕ) → Pieces carry xs
pieces_of [] carry = record { first = []; others = []; are = refl; whole = refl }
pieces_of (b ∷ xs) carry = pieces_step carry b xs (b == 10) refl (pieces_of xs []) (pieces_of xs (carry ++ b ∷ []))

pub pieces_whole : (xs : List ℕ) → but_last (divided 10 xs) ≡ lines_in xs
pieces_whole xs = let r = pieces_of xs [] in rw r.are (sym r.whole)

-- two tallies are one where both counts are
abbrev counts : ℕ → ℕ → Tally
counts lines updates = record { lines = lines; updates = updates }

same_tally : (a b c d : ℕ) → a ≡ c → b ≡ d → counts a b ≡ counts c d
same_tally a b c d e f = rw (e, f) refl

more_lines : (n m : ℕ) → n + 1 + m ≡ n + suc m
more_lines n m = omega arith

counted_updates : (t : Bool) (n : ℕ) (line : List ℕ) (updates : List (List ℕ))
    → cond t (n + 1) n + length updates ≡ n + length (cond t (line ∷ updates) updates)
counted_updates true n line updates = more_lines n (length updates)
counted_updates false n line updates = refl

-- a line is counted, and then the others
counted_lines : (t : Tally) (line : List ℕ) (lines : List (List ℕ)) → joined (counted t line) (tally_of lines) ≡ joined t (tally_of (line ∷ lines))
counted_lines t line lines =
    same_tally _ _ _ _ (more_lines t.lines (length lines)) (counted_updates (is_update line) t.updates line (filter is_update lines))

pub joined_none : (t : Tally) → joined no_lines t ≡ t
joined_none t = same_tally (0 + t.lines) (0 + t.updates) t.lines t.updates (omega arith) (omega arith)

pub counted_none : (t : Tally) → joined t (tally_of []) ≡ t
counted_none t = same_tally (t.lines + 0) (t.updates + 0) t.lines t.updates (omega arith) (omega arith)

-- a piece is a line where another one follows it
abbrev pub with_piece : Bool → List ℕ → List (List ℕ) → List (List ℕ)
with_piece last piece lines = cond last lines (piece ∷ lines)

piece_before : (line : List ℕ) (pieces : List (List ℕ)) (first : List ℕ) (others : List (List ℕ)) → pieces ≡ first ∷ others
    → but_last (line ∷ pieces) ≡ line ∷ but_last pieces
piece_before line pieces first others are = rw are refl

pub next_piece : (line : List ℕ) (pieces : List (List ℕ)) (o : Option (Bor (List ℕ))) (last : Bool) → is_some o ≡ not last
    → pieces ≡ line ∷ pieces_behind 10 o → but_last pieces ≡ with_piece last line (but_last (pieces_behind 10 o))
next_piece line pieces None true some are = ap but_last are
next_piece line pieces None false some are = absurd (cc some)
next_piece line pieces (Some rest) true some are = absurd (cc some)
next_piece line pieces (Some rest) false some are =
    let r = pieces_of rest.now [] in ap but_last are ∙ piece_before line (divided 10 rest.now) r.first r.others r.are

tally_with : (last : Bool) (t : Tally) (line : List ℕ) (lines : List (List ℕ))
    → joined (cond last t (counted t line)) (tally_of lines) ≡ joined t (tally_of (with_piece last line lines))
tally_with true t line lines = refl
tally_with false t line lines = counted_lines t line lines

pub piece_counted : (t t' all : Tally) (line : List ℕ) (pieces : List (List ℕ)) (o : Option (Bor (List ℕ))) (last : Bool)
    → is_some o ≡ not last → t' ≡ cond last t (counted t line) → pieces ≡ line ∷ pieces_behind 10 o
    → joined t (tally_of (but_last pieces)) ≡ all → joined t' (tally_of (but_last (pieces_behind 10 o))) ≡ all
piece_counted t t' all line pieces o last some is are h =
    let behind : List (List ℕ) = but_last (pieces_behind 10 o) in
    ap (λ s. joined s (tally_of behind)) is ∙ tally_with last t line behind
    ∙ ap (λ ls. joined t (tally_of ls)) (sym (next_piece line pieces o last some are)) ∙ h

pub all_counted : (t all : Tally) (o : Option (Bor (List ℕ))) → o ≡ None → joined t (tally_of (but_last (pieces_behind 10 o))) ≡ all → t ≡ all
all_counted t all o none h =
    sym (counted_none t) ∙ sym (ap (λ r. joined t (tally_of (but_last (pieces_behind 10 r)))) none) ∙ h

-- each printed line ends with LF
note_ends : (text carry : List ℕ) → rest_from carry (text ++ 10 ∷ []) ≡ []
note_ends text carry = rest_from-append carry text (10 ∷ [])

out_ends : (o : Out) (carry : List ℕ) → rest_from carry (text_of_out o) ≡ []
out_ends (out.Published n) carry = note_ends (codes "-no" ++ 32 ∷ decimal n) carry
out_ends (out.Repeated n) carry = note_ends (codes "-repeated" ++ 32 ∷ decimal n) carry
out_ends out.NoKey carry = note_ends (codes "-nokey") carry
out_ends out.BadCommand carry = note_ends (codes "-badcommand") carry
out_ends (out.TooLong n) carry = note_ends (codes "-toolong" ++ 32 ∷ decimal n) carry
out_ends out.TooManyKeys carry = note_ends (codes "-toomanykeys") carry
out_ends (out.Backlog n) carry = note_ends (codes "-backlog" ++ 32 ∷ decimal n) carry
out_ends out.Spent carry = note_ends (codes "-spent") carry
out_ends (out.Moved n) carry = note_ends (codes "-moved" ++ 32 ∷ decimal n) carry
out_ends out.UpToDate carry = note_ends (codes "-uptodate") carry
out_ends out.NoSlot carry = note_ends (codes "-noslot") carry
out_ends out.Idle carry = note_ends (codes "-idle") carry
out_ends (out.NotDue n) carry = note_ends (codes "-notdue" ++ 32 ∷ decimal n) carry
out_ends (out.Superseded n) carry = note_ends (codes "-superseded" ++ 32 ∷ decimal n) carry
out_ends (out.Ended n) carry = note_ends (codes "-ended" ++ 32 ∷ decimal n) carry
out_ends out.Unbound carry = note_ends (codes "-unbound") carry
out_ends out.NoSession carry = note_ends (codes "-none") carry
out_ends out.Lost carry = note_ends (codes "-lost") carry
out_ends (out.Line connection text) carry = note_ends (connection ++ 58 ∷ text) carry

outs_end : (outs : List Out) → rest_from [] (text_of_outs outs) ≡ []
outs_end [] = refl
outs_end (o ∷ outs) =
    rest_from-append [] (text_of_out o) (text_of_outs outs)
    ∙ ap (λ c. rest_from c (text_of_outs outs)) (out_ends o []) ∙ outs_end outs

lines_on : (outs : List Out) (text : List ℕ) → lines_in (text_of_outs outs ++ text) ≡ lines_in (text_of_outs outs) ++ lines_in text
lines_on outs text =
    whole_from-append [] (text_of_outs outs) text ∙ ap (λ c. lines_in (text_of_outs outs) ++ whole_from c text) (outs_end outs)

tally_on : (xs ys : List (List ℕ)) → tally_of (xs ++ ys) ≡ joined (tally_of xs) (tally_of ys)
tally_on xs ys =
    same_tally _ _ _ _ (length-append xs ys) (ap length (filter-append is_update xs ys) ∙ length-append (filter is_update xs) (filter is_update ys))

joined_on : (r s t : Tally) → joined (joined r s) t ≡ joined r (joined s t)
joined_on r s t = same_tally _ _ _ _ (omega arith) (omega arith)

-- what is printed is counted with what was counted before
pub outs_counted : (t : Tally) (outs : List Out) (text : List ℕ)
    → joined (joined t (tally_of (lines_in (text_of_outs outs)))) (tally_of (lines_in text)) ≡ joined t (tally_of (lines_in (text_of_outs outs ++ text)))
outs_counted t outs text =
    joined_on t (tally_of (lines_in (text_of_outs outs))) (tally_of (lines_in text))
    ∙ ap (λ s. joined t s) (sym (tally_on (lines_in (text_of_outs outs)) (lines_in text)))
    ∙ ap (λ ls. joined t (tally_of ls)) (sym (lines_on outs text))
