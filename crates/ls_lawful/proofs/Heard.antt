-- What a client decodes by the lines of a session.
use Rattle.std.proofs.Common.{◌≡◌, ◌==◌, ℕ, ◌<◌, ◌≤◌, ◌^◌, List, [], ◌∷◌, length, refl, sym, ◌∙◌, ap, subst, cond}
use Rattle.std.proofs.Common.{Bool, true, false, ◌&&◌, Option, None, Some, All}
use Rattle.std.proofs.lemmas.Bool.{eqb-true}
use Rattle.std.proofs.lemmas.List.Elements.{All-nil, All-cons}
use Rattle.ls_value.proofs.Rows.{and_left, and_right}
use Rattle.ls_value.specs.declared.row.Value.{Value}
use Rattle.ls_update.specs.Fields.{spelled}
use Rattle.ls_update.specs.Reading.{Reads, row_before, tokens_of, HasFields, IsTextual as IsTextualValue}
use Rattle.ls_update.proofs.ReadBack.{read_back}
use Rattle.ls_line.specs.declared.line.Line.{Line as WireLine}
use Rattle.ls_line.specs.Lines.{is_of_message, IsWritable}
use Rattle.ls_line.proofs.Rows.{read_again}
use Rattle.ls_mirror.specs.Client.{Begun, begun_as, begun_after, Heard, Coded, Missed, Emptied, Ended, heard, heard_of}
use Rattle.ls_mirror.specs.Client.{heard_after, What, Row, Lost, Cleared, End, last_row as last_row_of, AreDecoded}
use Rattle.ls_mirror.specs.Client.{HasCome}
use Rattle.ls_record.specs.Came.{Came, whats}
use Rattle.ls_record.specs.Lines.{Line, Begins, Ends, Configures, Answers, Tells, MessageOutcome, Done, Failed, came, last_row}
use Rattle.ls_record.specs.Lines.{tells_line, outcome_line, wire, texts}
use Rattle.ls_value.specs.Each.{Each}
use Rattle.ls_lawful.specs.Lawful.{AreRead}

-- all lines of the protocol
abbrev pub wires : List Line → List WireLine
wires [] = []
wires (l ∷ lines) = wire lines l ∷ wires lines

-- what is heard of what came
abbrev coded_of : Option (List Value) → What → Heard
coded_of prev (Row r) = Coded (spelled prev r)
coded_of prev (Lost k) = Missed k
coded_of prev Cleared = Emptied
coded_of prev End = Ended

abbrev coded : List What → List Heard
coded [] = []
coded (w ∷ ws) = coded_of (last_row_of ws) w ∷ coded ws

tells_heard : (prev : Option (List Value)) (sub rank s p : ℕ) (w : What) (before : List Heard)
    → heard_after sub rank (tells_line prev s p w) before ≡ heard_of ((s == sub) && (p == rank)) (coded_of prev w) before
tells_heard prev sub rank s p (Row r) before = refl
tells_heard prev sub rank s p (Lost k) before = refl
tells_heard prev sub rank s p Cleared before = refl
tells_heard prev sub rank s p End before = refl

outcome_heard : (outcome : MessageOutcome) (sub rank : ℕ) (before : List Heard) → heard_after sub rank (outcome_line outcome) before ≡ before
outcome_heard (Done sequence number) sub rank before = refl
outcome_heard (Failed sequence number code message) sub rank before = refl

started : (b : Bool) (hs : List Heard) (cs : List Came) → hs ≡ coded (whats cs) → cond b [] hs ≡ coded (whats (cond b [] cs))
started true hs cs e = refl
started false hs cs e = e

here_or_not : (sub rank s p : ℕ) (lines : List Line) (c : Came) (hs : List Heard) (b : Bool) → ((s == sub) && (p == rank)) ≡ b
    → hs ≡ coded (whats (came sub rank lines))
    → heard_of b (coded_of (last_row (came s p lines)) c.what) hs ≡ coded (whats (cond b (c ∷ came sub rank lines) (came sub rank lines)))
here_or_not sub rank s p lines c hs false t e = e
here_or_not sub rank s p lines c hs true t e =
    let of_sub : s ≡ sub = eqb-true s sub (and_left (s == sub) (p == rank) t) in
    let at_place : p ≡ rank = eqb-true p rank (and_right (s == sub) (p == rank) t) in
    subst (λ (n : ℕ). coded_of (last_row (came n p lines)) c.what ∷ hs ≡ coded_of (last_row (came sub rank lines)) c.what ∷ coded (whats (came sub rank lines)))
    (sym of_sub)
    (subst (λ (n : ℕ). coded_of (last_row (came sub n lines)) c.what ∷ hs ≡ coded_of (last_row (came sub rank lines)) c.what
    ∷ coded (whats (came sub rank lines))) (sym at_place)
    (ap (λ (rest : List Heard). coded_of (last_row (came sub rank lines)) c.what ∷ rest) e))

pub heard_wires : (sub rank : ℕ) (lines : List Line) → heard sub rank (wires lines) ≡ coded (whats (came sub rank lines))
heard_wires sub rank [] = refl
heard_wires sub rank (Begins s items fields None ∷ lines) = started (s == sub) (heard sub rank (wires lines)) (came sub rank lines) (heard_wires sub rank lines)
heard_wires sub rank (Begins s items fields (Some at) ∷ lines) = started (s == sub) (heard sub rank (wires lines)) (came sub rank lines)
    (heard_wires sub rank lines)
heard_wires sub rank (Ends s ∷ lines) = started (s == sub) (heard sub rank (wires lines)) (came sub rank lines) (heard_wires sub rank lines)
heard_wires sub rank (Configures s frequency filtered ∷ lines) = heard_wires sub rank lines
heard_wires sub rank (Answers outcome ∷ lines) = outcome_heard outcome sub rank (heard sub rank (wires lines)) ∙ heard_wires sub rank lines
heard_wires sub rank (Tells s p tick c ∷ lines) =
    tells_heard (last_row (came s p lines)) sub rank s p c.what (heard sub rank (wires lines))
    ∙ here_or_not sub rank s p lines c (heard sub rank (wires lines)) ((s == sub) && (p == rank)) refl (heard_wires sub rank lines)

-- a line that tells leaves what has begun_as
pub tells_begun : (prev : Option (List Value)) (sub s p : ℕ) (w : What) (before : Option Begun) → begun_after sub (tells_line prev s p w) before ≡ before
tells_begun prev sub s p (Row r) before = refl
tells_begun prev sub s p (Lost k) before = refl
tells_begun prev sub s p Cleared before = refl
tells_begun prev sub s p End before = refl

-- and so does one that tells of a client's message
pub outcome_begun : (outcome : MessageOutcome) (sub : ℕ) (before : Option Begun) → begun_after sub (outcome_line outcome) before ≡ before
outcome_begun (Done sequence number) sub before = refl
outcome_begun (Failed sequence number code message) sub before = refl

-- a row that came has so many fields, and its texts are UTF-8
abbrev pub RowFits : ℕ → What → Type 0
RowFits n (Row r) = (length r ≡ n) × Each IsTextualValue r
RowFits n (Lost k) = Unit {0}
RowFits n Cleared = Unit {0}
RowFits n End = Unit {0}

each_all : {A : Type 0} (P : A → Type 0) (xs : List A) → Each P xs → All P xs
each_all P [] e = All-nil P
each_all P (x ∷ xs) e = All-cons P x xs e.0 (each_all P xs e.1)

last_fits : (n : ℕ) (ws : List What) → Each (RowFits n) ws → HasFields n (last_row_of ws)
last_fits n [] e = tt
last_fits n (Row r ∷ ws) e = e.0.0
last_fits n (Lost k ∷ ws) e = last_fits n ws e.1
last_fits n (Cleared ∷ ws) e = last_fits n ws e.1
last_fits n (End ∷ ws) e = last_fits n ws e.1

pub decoded_coded : (n : ℕ) (ws : List What) → 1 ≤ n → n < 2 ^ 64 → Each (RowFits n) ws → AreDecoded n (coded ws) ws
decoded_coded n [] some most e = tt
decoded_coded n (Row r ∷ ws) some most e = (
  subst (λ (k : ℕ). Reads (row_before k (last_row_of ws)) (tokens_of (spelled (last_row_of ws) r)) r) e.0.0
      (read_back (last_row_of ws) r (record {
        some = subst (λ (k : ℕ). 1 ≤ k) (sym e.0.0) some;
        most = subst (λ (k : ℕ). k < 2 ^ 64) (sym e.0.0) most;
        before = subst (λ (k : ℕ). HasFields k (last_row_of ws)) (sym e.0.0) (last_fits n ws e.1);
        texts = each_all IsTextualValue r e.0.1;
      })),
  decoded_coded n ws some most e.1,
)
decoded_coded n (Lost k ∷ ws) some most e = (refl, decoded_coded n ws some most e.1)
decoded_coded n (Cleared ∷ ws) some most e = decoded_coded n ws some most e.1
decoded_coded n (End ∷ ws) some most e = decoded_coded n ws some most e.1

-- what came by the lines of a session is what its client decodes
abbrev pub has_come : (lines : List Line) (sub rank : ℕ) (b : Begun) → begun_as sub (wires lines) ≡ Some b → 1 ≤ rank → rank ≤ b.items → 1 ≤ b.fields
    → b.fields < 2 ^ 64 → Each (RowFits b.fields) (whats (came sub rank lines))
    → HasCome sub rank (wires lines) (whats (came sub rank lines))
has_come lines sub rank b is first last some most fits =
    record {
      subscription = b;
      is_live = is;
      first = first;
      last = last;
      decoded = subst (λ (hs : List Heard). AreDecoded b.fields hs (whats (came sub rank lines))) (sym (heard_wires sub rank lines))
          (decoded_coded b.fields (whats (came sub rank lines)) some most fits);
    }

-- each line can be written
abbrev pub CanWrite : List Line → Type 0
CanWrite [] = Unit {0}
CanWrite (l ∷ lines) = IsWritable (wire lines l) × CanWrite lines

-- no line tells of a client's message
abbrev pub HasNoOutcome : List Line → Type 0
HasNoOutcome [] = Unit {0}
HasNoOutcome (Begins sub items fields keys ∷ lines) = HasNoOutcome lines
HasNoOutcome (Ends sub ∷ lines) = HasNoOutcome lines
HasNoOutcome (Configures sub frequency filtered ∷ lines) = HasNoOutcome lines
HasNoOutcome (Answers outcome ∷ lines) = ⊥
HasNoOutcome (Tells sub rank tick c ∷ lines) = HasNoOutcome lines

tells_no_message : (prev : Option (List Value)) (s p : ℕ) (w : What) → is_of_message (tells_line prev s p w) ≡ false
tells_no_message prev s p (Row r) = refl
tells_no_message prev s p (Lost k) = refl
tells_no_message prev s p Cleared = refl
tells_no_message prev s p End = refl

no_message : (lines : List Line) (l : Line) → HasNoOutcome (l ∷ lines) → (is_of_message (wire lines l) ≡ false) × HasNoOutcome lines
no_message lines (Begins s items fields None) none = (refl, none)
no_message lines (Begins s items fields (Some at)) none = (refl, none)
no_message lines (Ends s) none = (refl, none)
no_message lines (Configures s frequency filtered) none = (refl, none)
no_message lines (Answers outcome) none = absurd none
no_message lines (Tells s p tick c) none = (tells_no_message (last_row (came s p lines)) s p c.what, none)

-- the texts of such lines, none of which tells of a client's message, are read as these lines
pub are_read : (lines : List Line) → CanWrite lines → HasNoOutcome lines → AreRead (texts lines) (wires lines)
are_read [] c none = tt
are_read (l ∷ lines) c none =
    let n = no_message lines l none in
    (read_again (wire lines l) c.0 n.0, are_read lines c.1 n.1)
