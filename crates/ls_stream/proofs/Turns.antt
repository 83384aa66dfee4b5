-- What a turn gives.
use Rattle.std.proofs.Common.{◌≡◌, ◌≤◌, ◌<◌, ℕ, ◌+◌, ◌-◌, List, [], ◌∷◌, length, Bool, true, false, Option, None, Some}
use Rattle.std.proofs.Common.{refl, sym, ◌∙◌, ap, subst, arith, cond, option_map}
use Rattle.std.proofs.lemmas.Bool.{lt-ltb, le-ltb}
use Rattle.ls_keep.specs.Kept.{given_of}
use Rattle.ls_record.specs.Lines.{text_at}
use Rattle.ls_record.specs.Records.{Session, Stream, change, with_line, is_unsent, is_to_loop, unbound_at, trimmed}
use Rattle.ls_record.specs.Records.{on_stream, is_alive}
use Rattle.ls_record.specs.Turning.{SessionTurn, Send, loop_text, next_given}
use Rattle.ls_value.specs.Each.{Each}
use Rattle.ls_record.proofs.Texts.{text_at_is}
use Rattle.ls_stream.specs.Giving.{owed_first}
use Rattle.ls_stream.specs.Standing.{StandsLines, KeepsLines, KeepsNone, StandsStream, GivesFirst, GivesNumbered, AreShort, IsShort, after_line, numbered_of, current_text, last_line}
use Rattle.ls_stream.specs.declared.lines.Lines.{Lines as Kept}
use Rattle.ls_stream.specs.declared.lines.StreamTurn.TheVariants as turn
use Rattle.ls_stream.specs.declared.stream.Stream.{Stream as KeptStream}
use Rattle.ls_stream.proofs.Reading.{lines_last}

-- less may be given, after more bytes were
left_after : (content : Option ℕ) (bytes more : ℕ)
    → option_map (λ left. left - more) (option_map (λ most. most - bytes) content) ≡ option_map (λ most. most - (bytes + more)) content
left_after None bytes more = refl
left_after (Some most) bytes more = ap Some {x = most - bytes - more} {y = most - (bytes + more)} (omega arith)

-- a numbered line was given on a stream
pub line_counted : (k : KeptStream) (streams : List Stream) (n bytes : ℕ) (text : List ℕ) → StandsStream k streams → bytes ≡ length text
    → StandsStream (after_line bytes k) (change 0 (with_line n text) streams)
line_counted k [] n bytes text st is = st
line_counted k (t ∷ ts) n bytes text st is = (
  ap (option_map (λ left. left - (bytes + 2))) st.0 ∙ left_after t.content t.bytes (bytes + 2)
      ∙ ap (λ (m : ℕ). option_map (λ most. most - (t.bytes + (m + 2))) t.content) is,
  st.1,
  st.2,
  st.3,
)

-- where nothing is owed, and the stream isn't over, the next unsent line is given
abbrev next_of : Session → Session
next_of s = trimmed (on_stream (with_line (s.sent + 1) (text_at s.board.lines (s.sent + 1))) (record s { sent = s.sent + 1 }))

next_is : (s : Session) (now : ℕ) → s.owed ≡ [] → is_to_loop s.streams ≡ false → is_unsent s ≡ true
    → owed_first now s s.owed ≡ Some (record { session = next_of s; gives = Send (text_at s.board.lines (s.sent + 1)) })
next_is s now none goes more =
    ap (owed_first now s) none
    ∙ ap (λ (b : Bool). cond b (Some (record { session = unbound_at now s; gives = Send loop_text })) (cond (is_unsent s) (Some (next_given s)) None)) goes
    ∙ ap (λ (b : Bool). cond {A = Option SessionTurn} b
    (Some (record { session = cond b (next_of s) s; gives = Send (text_at s.board.lines (s.sent + 1)) })) None) more

pub numbered_given : (k k' : Kept) (s : Session) (now : ℕ) → StandsLines k s → is_alive s.life ≡ true → k.owed.items ≡ [] → is_to_loop s.streams ≡ false
    → k.keep.sent < last_line k → GivesNumbered k k' → GivesFirst (owed_first now s s.owed) s turn.Line k'
numbered_given k k' s now st alive none goes more gives =
    let kept : KeepsLines k s = st.alive alive in
    let low : s.sent < length s.board.lines = omega (arith, more, kept.keep.sent, lines_last k s st) in
    let text : given_of k'.keep ≡ text_at s.board.lines (s.sent + 1) =
    gives.text (numbered_of s) kept.keep ∙ sym (text_at_is s.board.lines (s.sent + 1) (omega arith) (omega (arith, low))) in
    subst (λ (o : Option SessionTurn). GivesFirst o s turn.Line k')
    (sym (next_is s now (sym kept.owed ∙ none) goes (lt-ltb s.sent (length s.board.lines) low))) (
      (refl, ap current_text gives.rest ∙ text),
      subst (λ (x : Kept). StandsLines x (next_of s)) (sym gives.rest)
          (record {
            alive = λ a. record { owed = kept.owed; keep = gives.keep (numbered_of s) kept.keep };
            over = λ d. absurd (let x : true ≡ false = sym alive ∙ d in cc);
            stream = line_counted k.stream s.streams (s.sent + 1) (length (given_of k'.keep)) (text_at s.board.lines (s.sent + 1)) st.stream (ap length text);
            unbound = st.unbound;
            life = st.life;
            end = st.end;
            short = subst (λ (x : Kept). AreShort x) gives.rest (gives.short st.short);
          }),
    )

-- where nothing is owed, or over, or unsent, nothing is given
pub nothing_given : (k : Kept) (s : Session) (now : ℕ) → StandsLines k s → is_alive s.life ≡ true → k.owed.items ≡ [] → is_to_loop s.streams ≡ false
    → last_line k ≤ k.keep.sent → GivesFirst (owed_first now s s.owed) s turn.Nothing k
nothing_given k s now st alive none goes less =
    let kept : KeepsLines k s = st.alive alive in
    let high : length s.board.lines ≤ s.sent = omega (arith, less, kept.keep.sent, lines_last k s st) in
    subst (λ (o : Option SessionTurn). GivesFirst o s turn.Nothing k)
    (sym (ap (owed_first now s) (sym kept.owed ∙ none)
    ∙ ap (λ (b : Bool). cond b (Some (record { session = unbound_at now s; gives = Send loop_text })) (cond (is_unsent s) (Some (next_given s)) None)) goes
    ∙ ap (λ (b : Bool). cond {A = Option SessionTurn} b (Some (next_given s)) None) (le-ltb s.sent (length s.board.lines) high)))
    (refl, st)

-- other lines that are owed, as many
pub owed_alike : (k k₁ : Kept) (s : Session) → StandsLines k s → k₁.owed.items ≡ k.owed.items → k₁ ≡ record k { owed = k₁.owed } → StandsLines k₁ s
owed_alike k k₁ s st same is =
    subst (λ (x : Kept). StandsLines x s) (sym is)
    (record {
      alive = λ a. record { owed = same ∙ (st.alive a).owed; keep = (st.alive a).keep };
      over = λ d.
          let none : KeepsNone k s = st.over d in
          record { owed = same ∙ none.owed; texts = none.texts; last = none.last; sent = none.sent; numbered = none.numbered };
      stream = st.stream;
      unbound = st.unbound;
      life = st.life;
      end = st.end;
      short = record {
        owed = subst (λ (ts : List (List ℕ)). Each IsShort ts) (sym same) st.short.owed;
        kept = st.short.kept;
        freed = st.short.freed;
        given = st.short.given;
        destroyed = st.short.destroyed;
        timed_out = st.short.timed_out;
        end = st.short.end;
      };
    })
