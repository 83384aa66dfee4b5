-- What is kept of lines stands for another session.
use Rattle.std.proofs.Common.{◌≡◌, ℕ, List, [], ◌∷◌, ◌++◌, length, Option, true, false, sym, ◌∙◌, ap, subst, arith}
use Rattle.ls_keep.specs.Keeping.{Numbered, given_up_after, trimmed}
use Rattle.ls_keep.specs.Kept.{KeptLines as KeptNumbered, StandsKeep}
use Rattle.ls_keep.proofs.Trimming.{trimmed_twice}
use Rattle.ls_value.specs.Each.{Each}
use Rattle.ls_record.specs.Lines.{Line, line_text, texts_behind}
use Rattle.ls_record.specs.Records.{LiveSlot, Board, Session, numbered, constrained, bandwidth_text, is_alive}
use Rattle.ls_record.proofs.Texts.{texts_step}
use Rattle.ls_stream.specs.Standing.{StandsLines, KeepsNone, NumbersLine, IsRoomier, AreShort, IsShort, numbered_of}
use Rattle.ls_stream.specs.declared.lines.Lines.{Lines as Kept}

-- whatever the round is
pub lines_round : (k : Kept) (s : Session) (round : List LiveSlot) → StandsLines k s
    → StandsLines k (record s { board = record { lines = s.board.lines; round = round } })
lines_round k s round st =
    record { alive = λ a. record { owed = (st.alive a).owed; keep = (st.alive a).keep }; over = λ d. none_alike d; stream = st.stream; unbound = st.unbound; life = st.life; end = st.end; short = st.short }
  where
    none_alike : is_alive s.life ≡ false → KeepsNone k (record s { board = record { lines = s.board.lines; round = round } })
    none_alike d =
        let n : KeepsNone k s = st.over d in
        record { owed = n.owed; texts = n.texts; last = n.last; sent = n.sent; numbered = n.numbered }

-- more room alone
pub lines_roomier : (k k' : Kept) (s : Session) → StandsLines k s → IsRoomier k k' → StandsLines k' s
lines_roomier k k' s st is =
    subst (λ (x : Kept). StandsLines x s) (sym is)
    (record {
      alive = λ a.
          let keep : StandsKeep k.keep (numbered_of s) = (st.alive a).keep in
          record {
            owed = (st.alive a).owed;
            keep = record {
              texts = keep.texts;
              sent = keep.sent;
              given_up = keep.given_up;
              given = keep.given;
              numbered = keep.numbered;
              most = keep.most;
            };
          };
      over = λ d.
          let none : KeepsNone k s = st.over d in
          record { owed = none.owed; texts = none.texts; last = none.last; sent = none.sent; numbered = none.numbered };
      stream = st.stream;
      unbound = st.unbound;
      life = st.life;
      end = st.end;
      short = record {
        owed = st.short.owed;
        kept = st.short.kept;
        freed = st.short.freed;
        given = st.short.given;
        destroyed = st.short.destroyed;
        timed_out = st.short.timed_out;
        end = st.short.end;
      };
    })

-- and after that nothing
pub room_stays : (k : Kept) (roomy same : KeptNumbered) → roomy ≡ record k.keep { spare = roomy.spare } → same ≡ roomy
    → IsRoomier k (record k { keep = same })
room_stays k roomy same more is =
    ap (λ (x : KeptNumbered). record k { keep = x }) (is ∙ more ∙ ap (λ (x : KeptNumbered). record k.keep { spare = x.spare }) (sym is))

-- a line is numbered
abbrev pub with_next : Line → List LiveSlot → Board → Board
with_next l round b = record { lines = l ∷ b.lines; round = round }

pub lines_numbered : (k k' : Kept) (s : Session) (l : Line) (round : List LiveSlot) (text : List ℕ) → StandsLines k s → NumbersLine k text k'
    → text ≡ line_text s.board.lines l → IsShort text → StandsLines k' (numbered (with_next l round) s)
lines_numbered k k' s l round text st n is few =
    let all : texts_behind 0 s.board.lines ++ text ∷ [] ≡ texts_behind 0 (l ∷ s.board.lines) =
    ap (λ (t : List ℕ). texts_behind 0 s.board.lines ++ t ∷ []) is ∙ sym (texts_step l s.board.lines) in
    subst (λ (x : Kept). StandsLines x (numbered (with_next l round) s)) (sym n.rest)
    (record {
      alive = λ a.
          record {
            owed = (st.alive a).owed;
            keep = subst (λ (ts : List (List ℕ)). StandsKeep k'.keep (trimmed (record { texts = ts; sent = s.sent; given_up = s.given_up }))) all
                (n.keep (ap is_alive st.life ∙ a) (numbered_of s) (st.alive a).keep);
          };
      over = λ d.
          let before : KeepsNone k s = st.over d in
          let none : k'.keep.texts ≡ [] = n.none (ap is_alive st.life ∙ d) in
          record {
            owed = before.owed;
            texts = none;
            last = omega (arith, n.last, ap {B = ℕ} length none, ap {B = ℕ} length before.texts, before.last);
            sent = before.sent;
            numbered = omega (arith, before.numbered);
          };
      stream = st.stream;
      unbound = st.unbound;
      life = st.life;
      end = st.end;
      short = subst (λ (x : Kept). AreShort x) n.rest (n.short st.short few);
    })

-- two lines are
pub lines_twice : (k : Kept) (s : Session) (first second : Line) (middle round : List LiveSlot)
    → StandsLines k (numbered (with_next second round) (numbered (with_next first middle) s))
    → StandsLines k (numbered (λ b. record { lines = second ∷ first ∷ b.lines; round = round }) s)
lines_twice k s first second middle round st =
    subst (λ (n : ℕ). StandsLines k (record s { board = record { lines = second ∷ first ∷ s.board.lines; round = round }; given_up = n })) once st
  where
    texts : List (List ℕ)
    texts = texts_behind 0 (first ∷ s.board.lines)

    more : List (List ℕ)
    more = line_text (first ∷ s.board.lines) second ∷ []

    all : texts_behind 0 (second ∷ first ∷ s.board.lines) ≡ texts ++ more
    all = texts_step second (first ∷ s.board.lines)

    once : given_up_after (given_up_after s.given_up s.sent texts) s.sent (texts_behind 0 (second ∷ first ∷ s.board.lines))
        ≡ given_up_after s.given_up s.sent (texts_behind 0 (second ∷ first ∷ s.board.lines))
    once =
        ap (given_up_after (given_up_after s.given_up s.sent texts) s.sent) all
        ∙ ap (λ (n : Numbered). n.given_up) (trimmed_twice (record { texts = texts; sent = s.sent; given_up = s.given_up }) more)
        ∙ ap (given_up_after s.given_up s.sent) (sym all)

-- one more behind others
pub each_behind : {A : Type 0} (P : A → Type 0) (x : A) (xs : List A) → Each P xs → P x → Each P (xs ++ x ∷ [])
each_behind P x [] each is = (is, tt)
each_behind P x (y ∷ xs) each is = (each.0, each_behind P x xs each.1 is)

-- the session has another bandwidth, and its line is owed
pub lines_owed : (k k' : Kept) (s : Session) (limit : Option ℕ) (text : List ℕ) → StandsLines k s → is_alive s.life ≡ true → k'.owed.items ≡ k.owed.items ++ text ∷ []
    → k' ≡ record k { owed = k'.owed } → text ≡ bandwidth_text limit → IsShort text → StandsLines k' (constrained limit s)
lines_owed k k' s limit text st alive owed rest is few =
    subst (λ (x : Kept). StandsLines x (constrained limit s)) (sym rest)
    (record {
      alive = λ a.
          record {
            owed = owed ∙ ap (λ xs. xs ++ text ∷ []) (st.alive a).owed ∙ ap (λ t. s.owed ++ t ∷ []) is;
            keep = (st.alive a).keep;
          };
      over = λ d. absurd (let x : true ≡ false = sym alive ∙ d in cc);
      stream = st.stream;
      unbound = st.unbound;
      life = st.life;
      end = st.end;
      short = record {
        owed = subst (λ (ts : List (List ℕ)). Each IsShort ts) (sym owed) (each_behind IsShort text k.owed.items st.short.owed few);
        kept = st.short.kept;
        freed = st.short.freed;
        given = st.short.given;
        destroyed = st.short.destroyed;
        timed_out = st.short.timed_out;
        end = st.short.end;
      };
    })
