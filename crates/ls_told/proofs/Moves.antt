-- What each step of a session makes of what its history tells of it.
use Rattle.std.proofs.Common.{◌≡◌, ℕ, ◌+◌, List, [], ◌∷◌, ◌++◌, refl, sym, ◌∙◌, ap, arith, Bool, true, false, Option, Some, None}
use Rattle.std.proofs.Common.{cond, is_some}
use Rattle.std.specs.Prelude.{unwrap_or}
use Rattle.ls_keep.specs.Keeping.{given_up_after}
use Rattle.ls_keep.proofs.Least.{least_keeping-append}
use Rattle.ls_register.specs.declared.told.Told.TheVariants.{Numbered, Bound, Rate, Rebind, Unbound, Ended}
use Rattle.ls_register.specs.declared.told.Numbered.{Numbered as NumberedLine}
use Rattle.ls_request.specs.declared.request.Bind.{Bind}
use Rattle.ls_record.specs.Lines.{texts, text_at}
use Rattle.ls_record.specs.Records.{Session, Board, Stream, on_board, trimmed, numbered, on_stream, with_line, is_unsent}
use Rattle.ls_record.specs.Records.{given_next, unbound_at, opened, opening_lines, count_lines, begun_stream, rebound, forced}
use Rattle.ls_record.specs.Records.{constrained, ended, bandwidth_text, change}
use Rattle.ls_told.specs.Spoken.{Spoken, spoken_of, in_order, given_up_in, numbering, on_newest, giving_line, is_forced}
use Rattle.ls_told.specs.Heard.{hears, heard, counted_from}
use Rattle.ls_told.proofs.Texts.{length_texts, text_is, in_order_is}

-- lines are given up by their texts
pub spoken_trimmed : (s : Session) → spoken_of (trimmed s) ≡ given_up_in (spoken_of s)
spoken_trimmed s =
    ap (λ (ts : List (List ℕ)). record (spoken_of s) { given_up = given_up_after s.given_up s.sent ts }) (in_order_is s.board.lines)

-- it begins
pub spoken_opened : (number keepalive now : ℕ) (limit content : Option ℕ)
    → spoken_of (opened number keepalive limit content) ≡ heard number (Rate limit now ∷ Bound 1 0 false keepalive content ∷ [])
spoken_opened number keepalive now limit content = refl

-- a new stream, by the count that was told with it
counted_is : (recover : Option ℕ) (sent : ℕ) → counted_from (is_some recover) (unwrap_or recover sent) ≡ recover
counted_is None sent = refl
counted_is (Some count) sent = refl

pub spoken_bound : (number epoch : ℕ) (b : Bind) (s : Session)
    → spoken_of (rebound number b s)
    ≡ hears number (spoken_of s) (Bound epoch (unwrap_or b.recover s.sent) (is_some b.recover) b.keepalive b.length)
spoken_bound number epoch b s =
    ap (λ (counted : Option ℕ). record (spoken_of s) {
      sent = unwrap_or b.recover s.sent;
      owed = opening_lines number b.keepalive s.rate.limit ++ count_lines counted;
      streams = begun_stream (unwrap_or b.recover s.sent) b.length ∷ s.streams;
      unbound = None;
    }) (sym (counted_is b.recover s.sent))

-- it is lost, and forced to be over
pub spoken_unbound : (number tick : ℕ) (s : Session) → spoken_of (unbound_at tick s) ≡ hears number (spoken_of s) (Unbound tick)
spoken_unbound number tick s = refl

pub spoken_forced : (number : ℕ) (s : Session) → spoken_of (forced s) ≡ hears number (spoken_of s) Rebind
spoken_forced number s = refl

-- which changes nothing where it is so already
pub forced_again : (s : Session) → is_forced s.streams ≡ true → forced s ≡ s
forced_again s is = ap (λ (ts : List Stream). record s { streams = ts }) (again s.streams is)
  where
    again : (ts : List Stream) → is_forced ts ≡ true → change 0 (λ (t : Stream). record t { forced = true }) ts ≡ ts
    again [] is = refl
    again (t ∷ ts) is = ap (λ (b : Bool). record t { forced = b } ∷ ts) (sym is)

-- another bandwidth, and its end
pub spoken_constrained : (number : ℕ) (limit : Option ℕ) (tick : ℕ) (s : Session)
    → spoken_of (constrained limit s) ≡ hears number (spoken_of s) (Rate limit tick)
spoken_constrained number limit tick s =
    ap (λ (n : ℕ). record (spoken_of s) { rate = record { limit = limit; behind = n }; owed = s.owed ++ bandwidth_text limit ∷ [] })
    (sym (length_texts s.board.lines))

pub spoken_ended : (number code tick : ℕ) (s : Session) → spoken_of (ended code s) ≡ hears number (spoken_of s) (Ended code tick)
spoken_ended number code tick s = refl

-- a line is numbered
pub spoken_numbered : (number : ℕ) (line : NumberedLine) (f : Board → Board) (s : Session)
    → texts (f s.board).lines ≡ line.text ∷ texts s.board.lines
    → spoken_of (numbered f s) ≡ hears number (spoken_of s) (Numbered line)
spoken_numbered number line f s is =
    spoken_trimmed (on_board f s) ∙ ap (λ (ts : List (List ℕ)). given_up_in (record (spoken_of s) { texts = ts })) is

-- and two are: lines that are given up before the second are given up then too
numbered_twice : (first second : List ℕ) (p : Spoken)
    → given_up_in (record p { texts = second ∷ first ∷ p.texts }) ≡ numbering second (numbering first p)
numbered_twice first second p =
    let all : List (List ℕ) = in_order (second ∷ first ∷ p.texts) in
    ap (λ (n : ℕ). record p { texts = second ∷ first ∷ p.texts; given_up = n })
    {x = given_up_after p.given_up p.sent all}
    {y = given_up_after (given_up_after p.given_up p.sent (in_order (first ∷ p.texts))) p.sent all}
    (omega (arith, least_keeping-append (in_order (first ∷ p.texts)) (second ∷ [])))

pub spoken_numbered_two : (number : ℕ) (first second : NumberedLine) (f : Board → Board) (s : Session)
    → texts (f s.board).lines ≡ second.text ∷ first.text ∷ texts s.board.lines
    → spoken_of (numbered f s) ≡ hears number (hears number (spoken_of s) (Numbered first)) (Numbered second)
spoken_numbered_two number first second f s is =
    spoken_trimmed (on_board f s)
    ∙ ap (λ (ts : List (List ℕ)). given_up_in (record (spoken_of s) { texts = ts })) is
    ∙ numbered_twice first.text second.text (spoken_of s)

-- slots move, and no line is numbered
pub spoken_board : (f : Board → Board) (s : Session) → (f s.board).lines ≡ s.board.lines → spoken_of (on_board f s) ≡ spoken_of s
spoken_board f s same = ap (λ ls. record (spoken_of s) { texts = texts ls }) same

-- the next numbered line is given
pub spoken_next : (s : Session) → is_unsent s ≡ true → spoken_of (given_next s) ≡ giving_line (spoken_of s)
spoken_next s unsent =
    ap (λ (b : Bool). spoken_of (cond b (trimmed (on_stream (with_line (s.sent + 1) (text_at s.board.lines (s.sent + 1)))
    (record s { sent = s.sent + 1 }))) s)) unsent
    ∙ spoken_trimmed (on_stream (with_line (s.sent + 1) (text_at s.board.lines (s.sent + 1))) (record s { sent = s.sent + 1 }))
    ∙ ap (λ (t : List ℕ). given_up_in (on_newest (with_line (s.sent + 1) t) (record (spoken_of s) { sent = s.sent + 1 })))
    (text_is s.board.lines (s.sent + 1))
