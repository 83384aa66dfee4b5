-- What each world keeps of its sessions' streams, and what a client has by them.
use Rattle.std.proofs.Common.{◌⊎◌, ◌≡◌, ℕ, ◌+◌, ◌≤◌, inl, inr, List, [], ◌∷◌, ◌++◌, length, map, reverse, take, drop, min, max, refl, sym}
use Rattle.std.proofs.Common.{◌∙◌, ap, arith, subst, cond, Bool, true, false, ◌&&◌, Option, Some, None, nat_le, slice_get, option_map}
use Rattle.std.specs.List.{Contains, range_with_len}
use Rattle.std.specs.Option.{option_map_or}
use Rattle.std.proofs.lemmas.Bool.{and_parts, leb-true, leb-false, le-leb}
use Rattle.std.proofs.lemmas.List.{length-append}
use Rattle.std.proofs.lemmas.List.FromFn.{length-range_with_len}
use Rattle.ls_keep.specs.declared.limits.TheConstants.{MOST_KEPT_LINES, MOST_KEPT_BYTES}
use Rattle.ls_keep.specs.Keeping.{bytes_of, may_keep, least_keeping}
use Rattle.ls_keep.proofs.Least.{least_from-before, least_keeping-append}
use Rattle.ls_step.specs.declared.step.Repeat.{Repeat}
use Rattle.ls_step.specs.declared.step.Step.TheVariants as step
use Rattle.ls_record.specs.declared.TheConstants.{MOST_UNBOUND}
use Rattle.ls_record.specs.Lines.{Line, text_at, texts_behind}
use Rattle.ls_world.specs.World.{World, empty}
use Rattle.ls_record.specs.Records.{Stream, Life, Alive, Ending, Closed, Session, unbound_at, ended, timed_out}
use Rattle.ls_record.specs.Records.{is_alive, is_timed_out}
use Rattle.ls_record.specs.Records.{unless_timed_out}
use Rattle.ls_record.specs.Records.{Item, change, trimmed, with_text, with_line, is_unsent, numbered, taken_in}
use Rattle.ls_record.specs.Records.{is_due}
use Rattle.ls_record.specs.Turning.{SessionTurn, Send, end_text, next_given, session_turn}
use Rattle.ls_world.specs.Steps.{does, does_all}
use Rattle.ls_world.specs.Script.{world_of}
use Rattle.ls_value.specs.Each.{Each}
use Rattle.ls_lawful.specs.Lawful.{LawfulStream, LawfulStreams}
use Rattle.ls_record.proofs.Each.{each_map, each_contains}
use Rattle.ls_record.proofs.Rules.{cond_rule}
use Rattle.ls_laws.specs.Streams.{given_on, GivesLine}
use Rattle.ls_laws.specs.Streams.{numbers_behind, HasItsLines, Had, held_after, held, BindsWithItsCount, AreFirstLines, HoldsAllLines}
use Rattle.ls_laws.specs.Streams.{IsBeyond, AreTooMuch, GivesUpLittle, IsGone}
use Rattle.ls_lawful.proofs.Counting.{with_next, Counted, opened_counted, board_counted, trimmed_counted}
use Rattle.ls_lawful.proofs.Counting.{stream_counted, next_counted, rebound_counted}
use Rattle.ls_laws.proofs.Numbering.{numbers_append, numbers_taken, follows_in_order, texts_taken, texts_dropped, texts_grown}
use Rattle.ls_lawful.proofs.Sessions.{turn_rule}
use Rattle.ls_laws.proofs.Others.{session_ticked}
use Rattle.ls_laws.proofs.Scripts.{lines_keep}
use Rattle.ls_laws.proofs.SessionRule.{KeptSession, OfSessions, sessions_does, sessions_do}

-- its lines are counted, no more of them are given up than there must be, and no session is without a stream for too long
record Steady (now : ℕ) (s : Session) : Type 0 where
  counted : Counted s
  few : s.given_up ≤ least_keeping (texts_behind 0 s.board.lines)
  present : IsGone now s → ⊥

few_trimmed : (given_up sent least : ℕ) → given_up ≤ least → max given_up (min sent least) ≤ least
few_trimmed given_up sent least few = omega (arith, few)

few_more : (given_up : ℕ) (lines more all : List Line) → all ≡ more ++ lines → given_up ≤ least_keeping (texts_behind 0 lines)
    → given_up ≤ least_keeping (texts_behind 0 all)
few_more given_up lines more all is few =
    let k = texts_grown more lines in
    subst (λ (ls : List Line). given_up ≤ least_keeping (texts_behind 0 ls)) (sym is)
    (subst (λ (ts : List (List ℕ)). given_up ≤ least_keeping ts) (sym k.1) (omega (arith, few, least_keeping-append (texts_behind 0 lines) k.0)))

-- a session that has a stream, or hasn't been without one for long, or has ended
there : (now : ℕ) (s : Session) → s.unbound ≡ None → IsGone now s → ⊥
there now s bound g = let x : None ≡ Some g.since = sym bound ∙ g.unbound in cc

lately : (now : ℕ) (s : Session) → IsGone now (unbound_at now s) → ⊥
lately now s g = let x : now ≡ g.since = the_same now g.since g.unbound in absurd (omega (arith, x, g.late))
  where
    the_same : (m n : ℕ) → Some m ≡ Some n → m ≡ n
    the_same m n is = cc

no_more : (now : ℕ) (s : Session) → is_alive s.life ≡ false → IsGone now s → ⊥
no_more now s dead g = let x : true ≡ false = sym (ap is_alive g.alive) ∙ dead in cc

-- a session is gone exactly where it times out
is_gone : (now : ℕ) (s : Session) → is_timed_out now s ≡ true → IsGone now s
is_gone now s t =
    let p = and_parts (is_alive s.life) (option_map_or (λ since. nat_le (since + MOST_UNBOUND) now) s.unbound false) t in
    by_unbound s.unbound refl (by_life s.life refl p.0) p.1
  where
    by_life : (life : Life) → s.life ≡ life → is_alive life ≡ true → s.life ≡ Alive
    by_life Alive is alive = is
    by_life (Ending code) is alive = cc
    by_life (Closed code) is alive = cc

    by_unbound : (o : Option ℕ) → s.unbound ≡ o → s.life ≡ Alive → option_map_or (λ since. nat_le (since + MOST_UNBOUND) now) o false ≡ true → IsGone now s
    by_unbound None is alive late = absurd (let x : false ≡ true = late in cc)
    by_unbound (Some since) is alive late = record { alive = alive; since = since; unbound = is; late = leb-true (since + MOST_UNBOUND) now late }

gone_times_out : (now : ℕ) (s : Session) → IsGone now s → is_timed_out now s ≡ true
gone_times_out now s g =
    let late : nat_le (g.since + MOST_UNBOUND) now ≡ true = le-leb (g.since + MOST_UNBOUND) now g.late in
    rw (g.alive, g.unbound) late

steady : KeptSession Steady
steady =
    record {
      opens = λ now number keepalive limit content.
          record { counted = opened_counted number keepalive limit content; few = omega arith; present = there now _ refl };
      boards = λ now s b more is p. record {
        counted = board_counted s b (omega (arith, ap length is, length-append more s.board.lines)) p.counted;
        few = few_more s.given_up s.board.lines more b.lines is p.few;
        present = λ g. p.present (record { alive = g.alive; since = g.since; unbound = g.unbound; late = g.late });
      };
      trims = λ now s p. record {
        counted = trimmed_counted s p.counted;
        few = few_trimmed s.given_up s.sent (least_keeping (texts_behind 0 s.board.lines)) p.few;
        present = λ g. p.present (record { alive = g.alive; since = g.since; unbound = g.unbound; late = g.late });
      };
      gives = λ now s t p. record {
        counted = next_counted s t p.counted;
        few = p.few;
        present = λ g. p.present (record { alive = g.alive; since = g.since; unbound = g.unbound; late = g.late });
      };
      streams = λ now s f from given p. record {
        counted = stream_counted f s from given p.counted;
        few = p.few;
        present = λ g. p.present (record { alive = g.alive; since = g.since; unbound = g.unbound; late = g.late });
      };
      owes = λ now s owed p. record {
        counted = record { sent = p.counted.sent; given_up = p.counted.given_up; streams = p.counted.streams };
        few = p.few;
        present = λ g. p.present (record { alive = g.alive; since = g.since; unbound = g.unbound; late = g.late });
      };
      rates = λ now s r p. record {
        counted = record { sent = p.counted.sent; given_up = p.counted.given_up; streams = p.counted.streams };
        few = p.few;
        present = λ g. p.present (record { alive = g.alive; since = g.since; unbound = g.unbound; late = g.late });
      };
      unbinds = λ now s p. record {
        counted = record { sent = p.counted.sent; given_up = p.counted.given_up; streams = p.counted.streams };
        few = p.few;
        present = lately now s;
      };
      ends = λ now s life dead p. record {
        counted = record { sent = p.counted.sent; given_up = p.counted.given_up; streams = p.counted.streams };
        few = p.few;
        present = no_more now (record s { life = life }) dead;
      };
      binds = λ now number s b none p. record {
        counted = rebound_counted number s b none p.counted;
        few = p.few;
        present = there now _ refl;
      };
      ticks = λ now later s p. cond_rule (Steady later) (is_timed_out later s) (ended timed_out s) s
          (λ t. record {
            counted = record { sent = p.counted.sent; given_up = p.counted.given_up; streams = p.counted.streams };
            few = p.few;
            present = no_more later (ended timed_out s) refl;
          })
          (λ t. record {
            counted = p.counted;
            few = p.few;
            present = λ g. absurd (let x : true ≡ false = sym (gone_times_out later s g) ∙ t in cc);
          });
    }

-- so in each world that steps or the lines of a script make
steps_steady : (steps : List Repeat) → OfSessions Steady (does_all empty steps)
steps_steady steps = sessions_do Steady steady empty steps tt

script_steady : (lines : List (List ℕ)) → OfSessions Steady (world_of empty lines)
script_steady lines =
    lines_keep (OfSessions Steady) (record { counts = λ w e. e; steps = λ w s times fits e. sessions_does Steady steady w s times e }) empty lines tt

of_steady : (P : ℕ → Session → Type 0) → ((now : ℕ) (s : Session) → Steady now s → P now s) → (w : World) → OfSessions Steady w → OfSessions P w
of_steady P f w e = each_map (Steady w.tick) (P w.tick) w.sessions (λ s k. f w.tick s k) e

-- the lines of each stream that a session ever had
streams_each : (lines sent : ℕ) (ts : List Stream) → LawfulStreams lines sent ts → Each (LawfulStream lines) ts
streams_each lines sent [] k = tt
streams_each lines sent (t ∷ ts) k = k.1

has_its_lines : (s : Session) → Counted s → Each (HasItsLines s) s.streams
has_its_lines s c =
    each_map (LawfulStream (length s.board.lines)) (HasItsLines s) s.streams
    (λ t k. record { in_order = follows_in_order t.from t.given k.follows; numbered = k.numbered })
    (streams_each (length s.board.lines) s.sent s.streams c.streams)

pub steps_have_lines : (steps : List Repeat) → Each (λ s. Each (HasItsLines s) s.streams) (does_all empty steps).sessions
steps_have_lines steps = of_steady (λ now s. Each (HasItsLines s) s.streams) (λ now s k. has_its_lines s k.counted) (does_all empty steps) (steps_steady steps)

pub script_has_lines : (lines : List (List ℕ)) → Each (λ s. Each (HasItsLines s) s.streams) (world_of empty lines).sessions
script_has_lines lines = of_steady (λ now s. Each (HasItsLines s) s.streams) (λ now s k. has_its_lines s k.counted) (world_of empty lines) (script_steady lines)

-- what a turn adds to them
on_newest_given : (n : ℕ) (text : List ℕ) (ts : List Stream) → map (λ (t : Stream). t.given) (change 0 (with_line n text) ts)
    ≡ change 0 (λ ns. n ∷ ns) (map (λ (t : Stream). t.given) ts)
on_newest_given n text [] = refl
on_newest_given n text (t ∷ ts) = refl

on_newest_left : (text : List ℕ) (ts : List Stream) → map (λ (t : Stream). t.given) (change 0 (with_text text) ts) ≡ map (λ (t : Stream). t.given) ts
on_newest_left text [] = refl
on_newest_left text (t ∷ ts) = refl

abbrev AddsItsLine : Session → SessionTurn → Type 0
AddsItsLine s t = (given_on t.session ≡ given_on s) ⊎ GivesLine s t

next_gives : (s x : Session) → given_on x ≡ given_on s → AddsItsLine s (next_given x)
next_gives s x same =
    cond_rule (λ (y : Session). AddsItsLine s (record { session = y; gives = Send text })) (is_unsent x) (trimmed (with_next x)) x
    (λ t. inr (record {
      number = x.sent + 1;
      text = refl;
      streams = on_newest_given (x.sent + 1) text x.streams ∙ ap (change 0 (λ ns. (x.sent + 1) ∷ ns)) same;
    }))
    (λ t. inl same)
  where
    text : List ℕ
    text = text_at x.board.lines (x.sent + 1)

pub turn_gives : (now : ℕ) (items : List Item) (epoch : ℕ) (s : Session) → AddsItsLine s (session_turn now items epoch s)
turn_gives now items epoch s =
    turn_rule (AddsItsLine s) now items epoch s (record {
      superseded = inl refl;
      unbound = inl refl;
      owes = λ text owed. inl (on_newest_left text s.streams);
      loops = inl refl;
      next = next_gives s s refl;
      spent = inl refl;
      waits = λ none. inl refl;
      tells = λ t some. next_gives s (numbered (taken_in (is_due now s) now items) s) refl;
      ending = λ code. inl (on_newest_left (end_text code) s.streams);
      over = λ code. inl refl;
    })

-- a client that appends what comes, and binds with its count
record AreFirst (most : ℕ) (ns : List ℕ) : Type 0 where
  in_order : ns ≡ numbers_behind 0 (length ns)
  numbered : length ns ≤ most

held_first : (s : Session) (ns : List ℕ) (had : Had) → HasItsLines s had.stream → had.stream.from ≡ length ns → AreFirst (length s.board.lines) ns
    → AreFirst (length s.board.lines) (held_after ns had)
held_first s ns had h from k =
    let given : ℕ = length had.stream.given in
    let n : ℕ = min had.came given in
    let came : take had.came (reverse had.stream.given) ≡ numbers_behind (length ns) n =
    ap (take had.came) h.in_order ∙ numbers_taken had.came (had.stream.from + 1) given ∙ ap (λ a. numbers_behind a n) from in
    let e : length ns + 1 ≡ 0 + 1 + length ns = omega arith in
    let all : held_after ns had ≡ numbers_behind 0 (length ns + n) =
    (λ i. k.in_order i ++ came i) ∙ ap (λ a. numbers_behind 0 (length ns) ++ range_with_len a n) e ∙ numbers_append 1 (length ns) n in
    let many : length (held_after ns had) ≡ length ns + n = ap length all ∙ length-range_with_len 1 (length ns + n) in
    record { in_order = all ∙ ap (numbers_behind 0) (sym many); numbered = omega (arith, many, from, h.numbered) }

all_held : (s : Session) (ns : List ℕ) (hads : List Had) → Each (HasItsLines s) s.streams → Each (λ had. Contains s.streams had.stream) hads
    → BindsWithItsCount ns hads → AreFirst (length s.board.lines) ns → AreFirst (length s.board.lines) (held ns hads)
all_held s ns [] h c b k = k
all_held s ns (had ∷ hads) h c b k =
    all_held s (held_after ns had) hads h c.1 b.1 (held_first s ns had (each_contains (HasItsLines s) had.stream s.streams h c.0) b.0 k)

first_lines : (s : Session) (ns : List ℕ) → AreFirst (length s.board.lines) ns → AreFirstLines s ns
first_lines s ns k =
    record {
      in_order = k.in_order;
      numbered = k.numbered;
      texts = ap (map (text_at s.board.lines)) k.in_order ∙ sym (texts_taken 0 (length ns) s.board.lines (omega (arith, k.numbered)));
    }

holds_all : (s : Session) → Counted s → HoldsAllLines s
holds_all s c hads there binds =
    first_lines s (held [] hads) (all_held s [] hads (has_its_lines s c) there binds (record { in_order = refl; numbered = omega arith }))

pub steps_hold : (steps : List Repeat) → Each HoldsAllLines (does_all empty steps).sessions
steps_hold steps = of_steady (λ now s. HoldsAllLines s) (λ now s k. holds_all s k.counted) (does_all empty steps) (steps_steady steps)

pub script_holds : (lines : List (List ℕ)) → Each HoldsAllLines (world_of empty lines).sessions
script_holds lines = of_steady (λ now s. HoldsAllLines s) (λ now s k. holds_all s k.counted) (world_of empty lines) (script_steady lines)

-- what is given up
too_much : (texts : List (List ℕ)) → may_keep texts 0 ≡ false → AreTooMuch texts
too_much texts no_room = by_lines (nat_le (length texts) MOST_KEPT_LINES) refl no_room
  where
    by_lines : (b : Bool) → nat_le (length texts) MOST_KEPT_LINES ≡ b → (b && nat_le (bytes_of texts) MOST_KEPT_BYTES) ≡ false → AreTooMuch texts
    by_lines true t bytes = inr (leb-false (bytes_of texts) MOST_KEPT_BYTES bytes)
    by_lines false t bytes = inl (leb-false (length texts) MOST_KEPT_LINES t)

gives_up_little : (now : ℕ) (s : Session) → Steady now s → GivesUpLittle s
gives_up_little now s k =
    record {
      given = k.counted.given_up;
      beyond = λ n less. subst AreTooMuch (sym (texts_dropped n s.board.lines)) (too_much (drop n texts)
          (least_from-before (length texts) 0 texts n (omega arith) (omega (arith, less, k.few))));
    }
  where
    texts : List (List ℕ)
    texts = texts_behind 0 s.board.lines

pub steps_give_up : (steps : List Repeat) → Each GivesUpLittle (does_all empty steps).sessions
steps_give_up steps = of_steady (λ now s. GivesUpLittle s) gives_up_little (does_all empty steps) (steps_steady steps)

pub script_gives_up : (lines : List (List ℕ)) → Each GivesUpLittle (world_of empty lines).sessions
script_gives_up lines = of_steady (λ now s. GivesUpLittle s) gives_up_little (world_of empty lines) (script_steady lines)

-- so a client that lacks few and short lines may go on
pub may_go_on : (s : Session) (count : ℕ) → GivesUpLittle s → count ≤ length s.board.lines → (AreTooMuch (texts_behind count s.board.lines) → ⊥)
    → IsBeyond s (Some count) → ⊥
may_go_on s count k within little (inl less) = little (k.beyond count less)
may_go_on s count k within little (inr more) = absurd (omega (arith, within, more))

-- which sessions time out
pub gone_ends : (w : World) (n ms times : ℕ) (s : Session) → slice_get w.sessions n ≡ Some s → IsGone ms s
    → slice_get (does w (step.Tick ms) times).after.sessions n ≡ Some (ended timed_out s)
gone_ends w n ms times s is g =
    session_ticked w n ms times ∙ ap (option_map (unless_timed_out ms)) is ∙ ap (λ b. Some (cond b (ended timed_out s) s)) (gone_times_out ms s g)

pub others_stay : (w : World) (n ms times : ℕ) (s : Session) → slice_get w.sessions n ≡ Some s → (IsGone ms s → ⊥)
    → slice_get (does w (step.Tick ms) times).after.sessions n ≡ Some s
others_stay w n ms times s is here =
    session_ticked w n ms times ∙ ap (option_map (unless_timed_out ms)) is ∙ ap (λ b. Some (cond b (ended timed_out s) s)) (by_test (is_timed_out ms s) refl)
  where
    by_test : (b : Bool) → is_timed_out ms s ≡ b → b ≡ false
    by_test true t = absurd (here (is_gone ms s t))
    by_test false t = refl

pub steps_are_there : (steps : List Repeat) → Each (λ s. IsGone (does_all empty steps).tick s → ⊥) (does_all empty steps).sessions
steps_are_there steps = of_steady (λ now s. IsGone now s → ⊥) (λ now s k. k.present) (does_all empty steps) (steps_steady steps)

pub script_is_there : (lines : List (List ℕ)) → Each (λ s. IsGone (world_of empty lines).tick s → ⊥) (world_of empty lines).sessions
script_is_there lines = of_steady (λ now s. IsGone now s → ⊥) (λ now s k. k.present) (world_of empty lines) (script_steady lines)
