-- What a stream is given that a bind makes, and which binds are refused.
use Rattle.std.proofs.Common.{◌≡◌, ◌==◌, ℕ, zero, suc, ◌+◌, ◌-◌, ◌<◌, ◌≤◌, inl, inr, List, [], ◌∷◌, ◌++◌, length, map, take, refl, sym, ◌∙◌, ap, arith, subst}
use Rattle.std.proofs.Common.{cond}
use Rattle.std.proofs.Common.{Bool, true, false, not, ◌&&◌, ◌||◌, Option, Some, None, nat_lt, nat_le, slice_get, option_map, append_assoc, append-nil}
use Rattle.std.specs.Prelude.{unwrap_or, option_and_then}
use Rattle.std.specs.Option.{ForSome, option_map_or}
use Rattle.std.specs.Fmt.{digits}
use Rattle.std.proofs.lemmas.Bool.{eq-eqb, leb-false, le-leb, lt-ltb}
use Rattle.std.proofs.lemmas.Bool.Decides.{nat_tests}
use Rattle.std.proofs.lemmas.List.{length-append, length-take-le}
use Rattle.std.proofs.lemmas.List.Sums.{sum_by-cons, sum_by-append}
use Rattle.ls_value.specs.declared.limits.TheConstants.{GREATEST_NUMBER}
use Rattle.ls_keep.specs.Keeping.{given_up_after}
use Rattle.ls_line.specs.declared.line.Line.TheVariants as line
use Rattle.ls_line.specs.Lines.{text_of_line}
use Rattle.ls_request.specs.declared.request.Bind.{Bind}
use Rattle.ls_step.specs.declared.out.Out.{Out}
use Rattle.ls_step.specs.declared.out.Out.TheVariants as out
use Rattle.ls_step.specs.declared.step.Step.TheVariants as step
use Rattle.ls_record.specs.Cases.{with_found, first_code}
use Rattle.ls_record.specs.Lines.{text_at, texts_behind}
use Rattle.ls_world.specs.World.{World, Connection}
use Rattle.ls_record.specs.Records.{Item, Stream, Life, Alive, Ending, Closed, Session, change, is_alive, is_over}
use Rattle.ls_record.specs.Records.{is_unsent, with_text}
use Rattle.ls_record.specs.Records.{with_line}
use Rattle.ls_record.specs.Records.{begun_stream, unbound_at, opening_lines, count_lines, rebound}
use Rattle.ls_record.specs.Acting.{message_of, may_resume, bind_code}
use Rattle.ls_world.specs.Steps.{Stepped, Once, stays, behind, repeated, ends, goes_on, with_living, session_of}
use Rattle.ls_world.specs.Steps.{epoch_of, name_of, refuses_stream, bound}
use Rattle.ls_world.specs.Steps.{session_named, binds}
use Rattle.ls_record.specs.Turning.{Send, Superseded, Unbound, SessionTurn, loop_text, next_given, round_turn}
use Rattle.ls_record.specs.Turning.{turn_owing, turn_bound}
use Rattle.ls_record.specs.Turning.{gives_unbound}
use Rattle.ls_record.specs.Turning.{session_turn}
use Rattle.ls_world.specs.Steps.{took, take_once, does}
use Rattle.ls_laws.specs.Streams.{numbers_behind, NamesLiving, IsAccepted, lines_left, lines_from, bytes_on_stream, MayGive, IsBeyond}
use Rattle.ls_laws.proofs.Alone.{slice_changed, change_at}
use Rattle.ls_lawful.proofs.Asked.{element_found}
use Rattle.ls_laws.proofs.Numbering.{texts_length, texts_taken}

-- a bind of a living session is accepted, or refused by its code
pub bind_is : (w : World) (connection n : ℕ) (s : Session) (b : Bind) → NamesLiving w b n s
    → binds w connection b ≡ with_found (bind_code s b) (stays (bound w connection n s b) []) (refuses_stream w connection)
bind_is w connection n s b k =
    let unknown : Stepped = refuses_stream w connection 20 in
    let place : b.session ≡ suc n = omega (arith, k.number) in
    ap (λ m. with_living w.sessions (session_named w connection (Some m)) unknown
    (λ i x. with_found (bind_code x b) (stays (bound w connection i x b) []) (refuses_stream w connection))) place
    ∙ ap (λ o. with_found o unknown (λ x. cond (is_alive x.life)
    (with_found (bind_code x b) (stays (bound w connection n x b) []) (refuses_stream w connection)) unknown)) k.session
    ∙ ap (λ t. cond t (with_found (bind_code s b) (stays (bound w connection n s b) []) (refuses_stream w connection)) unknown) k.alive

-- a session whose newest stream is this one
abbrev newest : Session → ℕ → ℕ → List (List ℕ) → Stream → Session
newest s sent given_up owed t = record s { sent = sent; given_up = given_up; owed = owed; streams = t ∷ s.streams; unbound = None }

-- turns on it, each of which gives the next of these texts; and what is true of the session behind them
abbrev Gives : ℕ → List Item → ℕ → Session → List (List ℕ) → (Session → Type 0) → Type 0
Gives now items epoch s [] P = P s
Gives now items epoch s (text ∷ texts) P =
    (x : Session) × (session_turn now items epoch s ≡ record { session = x; gives = Send text }) × Gives now items epoch x texts P

module _ (now : ℕ) (items : List Item) (s : Session) (alive : s.life ≡ Alive) (P : Session → Type 0) where
  abbrev own_epoch : ℕ
  own_epoch = length s.streams + 1

  on_newest : (sent given_up : ℕ) (owed : List (List ℕ)) (t : Stream) → session_turn now items own_epoch (newest s sent given_up owed t)
      ≡ turn_owing now items (newest s sent given_up owed t) owed
  on_newest sent given_up owed t =
      let x : Session = newest s sent given_up owed t in
      let e : nat_lt own_epoch (length x.streams) ≡ false = grind (arith, nat_tests) in
      ap (λ b. cond b (record { session = x; gives = Superseded (length x.streams) }) (turn_bound now items x s.life)) e
      ∙ ap (turn_bound now items x) alive

  -- lines that are owed
  owed_given : (sent given_up : ℕ) (owed rest : List (List ℕ)) (t : Stream)
      → ((u : Stream) → u.forced ≡ t.forced → u.content ≡ t.content → u.bytes ≡ t.bytes + bytes_on_stream owed
      → Gives now items own_epoch (newest s sent given_up [] u) rest P) → Gives now items own_epoch (newest s sent given_up owed t) (owed ++ rest) P
  owed_given sent given_up [] rest t more = more t refl refl (omega arith)
  owed_given sent given_up (text ∷ owed) rest t more = (
    newest s sent given_up owed (with_text text t),
    on_newest sent given_up (text ∷ owed) t,
    owed_given sent given_up owed rest (with_text text t)
        (λ u forced content bytes. more u forced content (omega (arith, bytes, sum_by-cons (λ x. length x + 2) text owed))),
  )

  -- a stream that isn't over gives the next numbered line
  not_over : (t : Stream) → t.forced ≡ false → ForSome t.content (λ most. t.bytes < most) → is_over t ≡ false
  not_over t forced below = ap (λ b. b || option_map_or (λ most. nat_le most t.bytes) t.content false) forced ∙ by_content t.content below
    where
      by_content : (o : Option ℕ) → ForSome o (λ most. t.bytes < most) → option_map_or (λ most. nat_le most t.bytes) o false ≡ false
      by_content None less = refl
      by_content (Some most) less = let l : t.bytes < most = less most refl in grind (arith, nat_tests)

  line_turn : (sent given_up : ℕ) (t : Stream) → is_over t ≡ false → sent < length s.board.lines
      → session_turn now items own_epoch (newest s sent given_up [] t)
      ≡ record {
        session = newest s (sent + 1) (given_up_after given_up (sent + 1) (texts_behind 0 s.board.lines)) []
            (with_line (sent + 1) (text_at s.board.lines (sent + 1)) t);
        gives = Send (text_at s.board.lines (sent + 1));
      }
  line_turn sent given_up t going less =
      let x : Session = newest s sent given_up [] t in
      let unsent : nat_lt sent (length s.board.lines) ≡ true = lt-ltb sent (length s.board.lines) less in
      let text : List ℕ = text_at s.board.lines (sent + 1) in
      let after : Session = newest s (sent + 1) (given_up_after given_up (sent + 1) (texts_behind 0 s.board.lines)) [] (with_line (sent + 1) text t) in
      on_newest sent given_up [] t
      ∙ ap (λ b. cond b (record { session = unbound_at now x; gives = Send loop_text }) (cond (is_unsent x) (next_given x) (round_turn now items x))) going
      ∙ ap (λ b. cond b (next_given x) (round_turn now items x)) unsent
      ∙ ap (λ b. record { session = cond b after x; gives = Send text }) unsent

  -- so many of them
  lines_given : (k sent given_up : ℕ) (rest : List (List ℕ)) (t : Stream) → k ≤ length s.board.lines - sent → t.forced ≡ false
      → (0 < k → ForSome t.content (λ most. t.bytes + bytes_on_stream (map (text_at s.board.lines) (numbers_behind sent (k - 1))) < most))
      → ((given_up' : ℕ) (u : Stream) → u.forced ≡ false → u.content ≡ t.content
      → u.bytes ≡ t.bytes + bytes_on_stream (map (text_at s.board.lines) (numbers_behind sent k))
      → Gives now items own_epoch (newest s (sent + k) given_up' [] u) rest P)
      → Gives now items own_epoch (newest s sent given_up [] t) (map (text_at s.board.lines) (numbers_behind sent k) ++ rest) P
  lines_given zero sent given_up rest t within forced below more =
      let e : sent + 0 ≡ sent = omega arith in
      subst (λ n. Gives now items own_epoch (newest s n given_up [] t) rest P) e (more given_up t forced refl (omega arith))
  lines_given (suc k) sent given_up rest t within forced below more =
      let text : List ℕ = text_at s.board.lines (sent + 1) in
      let u : Stream = with_line (sent + 1) text t in
      let after : ℕ = given_up_after given_up (sent + 1) (texts_behind 0 s.board.lines) in
      let e : sent + 1 + k ≡ sent + suc k = omega arith in (
        newest s (sent + 1) after [] u,
        line_turn sent given_up t (not_over t forced (λ most is. (let l = below (omega arith) most is in omega (arith, l)))) (omega (arith, within)),
        lines_given k (sent + 1) after rest u (omega (arith, within)) forced
            (λ some most is. (let l = below (omega arith) most is in less k some most l))
            (λ given_up' v forced' content bytes.
            subst (λ n. Gives now items own_epoch (newest s n given_up' [] v) rest P) (sym e)
            (more given_up' v forced' content
            (omega (arith, bytes, sum_by-cons (λ x. length x + 2) text (map (text_at s.board.lines) (numbers_behind (sent + 1) k)))))),
      )
    where
      less : (j : ℕ) → 0 < j → (most : ℕ) → t.bytes + bytes_on_stream (map (text_at s.board.lines) (numbers_behind sent (suc j - 1))) < most
          → t.bytes + (length (text_at s.board.lines (sent + 1)) + 2)
          + bytes_on_stream (map (text_at s.board.lines) (numbers_behind (sent + 1) (j - 1))) < most
      less zero some most l = absurd (omega (arith, some))
      less (suc j) some most l =
          let text : List ℕ = text_at s.board.lines (sent + 1) in
          let f : suc (suc j) - 1 ≡ suc j = omega arith in
          let g : suc j - 1 ≡ j = omega arith in
          let l' = subst (λ n. t.bytes + bytes_on_stream (map (text_at s.board.lines) (numbers_behind sent n)) < most) f l in
          subst (λ n. t.bytes + (length text + 2) + bytes_on_stream (map (text_at s.board.lines) (numbers_behind (sent + 1) n)) < most) (sym g)
          (omega (arith, l', sum_by-cons (λ x. length x + 2) text (map (text_at s.board.lines) (numbers_behind (sent + 1) j))))

-- what so many takes on a connection print
take_is : (w : World) (c n epoch : ℕ) (s : Session) → session_of w c ≡ Some n → epoch_of w c ≡ epoch → slice_get w.sessions n ≡ Some s → (t : SessionTurn)
    → session_turn w.tick w.items epoch s ≡ t → take_once c w ≡ took w c n t.session t.gives
take_is w c n epoch s own newest is t turn =
    let none : Once = ends w out.NoSession in
    let f : ℕ → Session → Once = λ m x. let u : SessionTurn = session_turn w.tick w.items (epoch_of w c) x in took w c m u.session u.gives in
    ap (λ o. with_found o none (λ m. with_found (slice_get w.sessions m) none (f m))) own
    ∙ ap (λ o. with_found o none (f n)) is
    ∙ ap (λ e. let u : SessionTurn = session_turn w.tick w.items e s in took w c n u.session u.gives) newest
    ∙ ap (λ (u : SessionTurn). took w c n u.session u.gives) turn

takes_print : (w : World) (c n epoch rest : ℕ) (s : Session) (texts : List (List ℕ)) (tail : List Out) (P : Session → Type 0) → session_of w c ≡ Some n
    → epoch_of w c ≡ epoch → slice_get w.sessions n ≡ Some s → Gives w.tick w.items epoch s texts P
    → ((ss : List Session) (x : Session) → slice_get ss n ≡ Some x → P x → (repeated (take_once c) rest (record w { sessions = ss })).outs ≡ tail)
    → (repeated (take_once c) (length texts + rest) w).outs ≡ map (λ text. out.Line (name_of w c) text) texts ++ tail
takes_print w c n epoch rest s [] tail P own newest is gives more =
    let e : 0 + rest ≡ rest = omega arith in ap (λ k. (repeated (take_once c) k w).outs) e ∙ more w.sessions s is gives
takes_print w c n epoch rest s (text ∷ texts) tail P own newest is gives more =
    let v : World = record w { sessions = change n (λ old. gives.0) w.sessions } in
    let e : length (text ∷ texts) + rest ≡ suc (length texts + rest) = omega arith in
    let once : take_once c w ≡ goes_on v (out.Line (name_of w c) text) =
    take_is w c n epoch s own newest is (record { session = gives.0; gives = Send text }) gives.1 in
    ap (λ k. (repeated (take_once c) k w).outs) e
    ∙ ap (λ (o : Once). (behind o (λ u. repeated (take_once c) (length texts + rest) u)).outs) once
    ∙ ap (λ outs. out.Line (name_of w c) text ∷ outs)
    (takes_print v c n epoch rest gives.0 texts tail P own newest (slice_changed n (λ old. gives.0) w.sessions s is) gives.2 more)

-- the stream that a bind makes
alive_is : (life : Life) → is_alive life ≡ true → life ≡ Alive
alive_is Alive t = refl
alive_is (Ending code) t = cc
alive_is (Closed code) t = cc

-- what it begins with, and so many lines
abbrev opens_with : Session → Bind → List (List ℕ)
opens_with s b = opening_lines b.session b.keepalive s.rate.limit ++ count_lines b.recover

lines_are : (k : ℕ) (s : Session) (b : Bind) → k ≤ lines_left s b
    → lines_from k s b ≡ opens_with s b ++ map (text_at s.board.lines) (numbers_behind (unwrap_or b.recover s.sent) k)
lines_are k s b within =
    let from : ℕ = unwrap_or b.recover s.sent in
    ap (λ ts. opens_with s b ++ ts) (texts_taken from k s.board.lines (omega (arith, within, texts_length from s.board.lines)))

bytes_are : (k : ℕ) (s : Session) (b : Bind) → k ≤ lines_left s b
    → bytes_on_stream (lines_from k s b) ≡ bytes_on_stream (opens_with s b)
    + bytes_on_stream (map (text_at s.board.lines) (numbers_behind (unwrap_or b.recover s.sent) k))
bytes_are k s b within =
    ap bytes_on_stream (lines_are k s b within)
    ∙ sum_by-append (λ t. length t + 2) (opens_with s b) (map (text_at s.board.lines) (numbers_behind (unwrap_or b.recover s.sent) k))

stream_gives : (now : ℕ) (items : List Item) (s : Session) (b : Bind) (k : ℕ) (rest : List (List ℕ)) (P : Session → Type 0) → s.life ≡ Alive
    → k ≤ lines_left s b → MayGive k s b
    → ((sent given_up : ℕ) (t : Stream) → t.forced ≡ false → t.content ≡ b.length → t.bytes ≡ bytes_on_stream (lines_from k s b)
    → Gives now items (length s.streams + 1) (newest s sent given_up [] t) rest P)
    → Gives now items (length s.streams + 1) (rebound b.session b s) (lines_from k s b ++ rest) P
stream_gives now items s b k rest P alive within may more =
    let from : ℕ = unwrap_or b.recover s.sent in
    let texts : List (List ℕ) = map (text_at s.board.lines) (numbers_behind from k) in
    let all : opens_with s b ++ (texts ++ rest) ≡ lines_from k s b ++ rest =
    sym (append_assoc (opens_with s b) texts rest) ∙ ap (λ ts. ts ++ rest) (sym (lines_are k s b within)) in
    subst (λ ts. Gives now items (length s.streams + 1) (rebound b.session b s) ts P) all
    (owed_given now items s alive P from s.given_up (opens_with s b) (texts ++ rest) (begun_stream from b.length)
    (λ u forced content bytes. lines_given now items s alive P k from s.given_up rest u (omega (arith, within, texts_length from s.board.lines)) forced
    (λ some most is. (let l = may some most (sym content ∙ is) in
    omega (arith, l, bytes, bytes_are (k - 1) s b (omega (arith, within)))))
    (λ given_up t forced' content' bytes'. more (from + k) given_up t forced' (content' ∙ content) (omega (arith, bytes, bytes', bytes_are k s b within)))))

-- how many lines these are
many_lines : (k : ℕ) (s : Session) (b : Bind) → k ≤ lines_left s b
    → length (lines_from k s b) ≡ 3 + length (count_lines b.recover) + k
many_lines k s b within =
    let texts : List (List ℕ) = texts_behind (unwrap_or b.recover s.sent) s.board.lines in
    let opens : length (opens_with s b) ≡ 3 + length (count_lines b.recover) =
    length-append (opening_lines b.session b.keepalive s.rate.limit) (count_lines b.recover) in
    omega (arith, length-append (opens_with s b) (take k texts), opens, length-take-le k texts within)

-- the connection of a bind that is accepted
bound_is : (w : World) (connection n : ℕ) (s : Session) (b : Bind) → IsAccepted w connection n s b
    → binds w connection b ≡ stays (bound w connection n s b) []
bound_is w connection n s b k =
    bind_is w connection n s b k.names ∙ ap (λ o. with_found o (stays (bound w connection n s b) []) (refuses_stream w connection)) k.accepted

abbrev linked : ℕ → Session → Connection → Connection
linked n s c = record c { session = Some n; epoch = length s.streams + 1 }

connection_is : (w : World) (connection n : ℕ) (s : Session) (b : Bind) → IsAccepted w connection n s b
    → (c : Connection) × (slice_get w.connections connection ≡ Some c)
    × (slice_get (bound w connection n s b).connections connection ≡ Some (linked n s c))
connection_is w connection n s b k =
    let c = element_found w.connections connection k.there in
    (c.0, c.1, change_at connection (linked n s) w.connections ∙ ap (option_map (linked n s)) c.1)

own_is : (w : World) (connection n : ℕ) (s : Session) (b : Bind) → IsAccepted w connection n s b → session_of (bound w connection n s b) connection ≡ Some n
own_is w connection n s b k = ap (λ o. option_and_then (λ (x : Connection). x.session) o) (connection_is w connection n s b k).2

epoch_is : (w : World) (connection n : ℕ) (s : Session) (b : Bind) → IsAccepted w connection n s b
    → epoch_of (bound w connection n s b) connection ≡ length s.streams + 1
epoch_is w connection n s b k = ap (λ o. option_map_or (λ (x : Connection). x.epoch) o 0) (connection_is w connection n s b k).2

name_is : (w : World) (connection n : ℕ) (s : Session) (b : Bind) → IsAccepted w connection n s b
    → name_of (bound w connection n s b) connection ≡ name_of w connection
name_is w connection n s b k =
    let c = connection_is w connection n s b k in
    ap (λ o. option_map_or (λ (x : Connection). x.name) o []) c.2 ∙ sym (ap (λ o. option_map_or (λ (x : Connection). x.name) o []) c.1)

-- what so many takes on it print
takes_from : (w : World) (connection n k rest : ℕ) (s : Session) (b : Bind) (more : List (List ℕ)) (tail : List Out) (P : Session → Type 0)
    → IsAccepted w connection n s b → k ≤ lines_left s b → MayGive k s b
    → ((sent given_up : ℕ) (t : Stream) → t.forced ≡ false → t.content ≡ b.length → t.bytes ≡ bytes_on_stream (lines_from k s b)
    → Gives w.tick w.items (length s.streams + 1) (newest s sent given_up [] t) more P)
    → ((ss : List Session) (x : Session) → slice_get ss n ≡ Some x → P x
    → (repeated (take_once connection) rest (record (bound w connection n s b) { sessions = ss })).outs ≡ tail)
    → (does (binds w connection b).after (step.Take connection) (length (lines_from k s b ++ more) + rest)).outs
    ≡ map (λ text. out.Line (name_of w connection) text) (lines_from k s b ++ more) ++ tail
takes_from w connection n k rest s b more tail P is within may gives ends =
    let v : World = bound w connection n s b in
    ap (λ (r : Stepped). (repeated (take_once connection) (length (lines_from k s b ++ more) + rest) r.after).outs) (bound_is w connection n s b is)
    ∙ takes_print v connection n (length s.streams + 1) rest (rebound b.session b s) (lines_from k s b ++ more) tail P
    (own_is w connection n s b is) (epoch_is w connection n s b is) (slice_changed n (rebound b.session b) w.sessions s is.names.session)
    (stream_gives w.tick w.items s b k more P (alive_is s.life is.names.alive) within may gives) ends
    ∙ ap (λ x. map (λ text. out.Line x text) (lines_from k s b ++ more) ++ tail) (name_is w connection n s b is)

-- the lines that the client lacks
pub lines_taken : (w : World) (connection n k : ℕ) (s : Session) (b : Bind) → IsAccepted w connection n s b → k ≤ lines_left s b → MayGive k s b
    → (does (binds w connection b).after (step.Take connection) (3 + length (count_lines b.recover) + k)).outs
    ≡ map (λ text. out.Line (name_of w connection) text) (lines_from k s b)
lines_taken w connection n k s b is within may =
    let all : lines_from k s b ++ [] ≡ lines_from k s b = append-nil (lines_from k s b) in
    let many : 3 + length (count_lines b.recover) + k ≡ length (lines_from k s b ++ []) + 0 = omega (arith, many_lines k s b within, ap length all) in
    ap (λ m. (does (binds w connection b).after (step.Take connection) m).outs) many
    ∙ takes_from w connection n k 0 s b [] [] (λ x. Unit {0}) is within may (λ sent given_up t forced content bytes. tt) (λ ss x at p. refl)
    ∙ append-nil (map (λ text. out.Line (name_of w connection) text) (lines_from k s b ++ []))
    ∙ ap (map (λ text. out.Line (name_of w connection) text)) all

-- and LOOP, where these have reached the content length
over_is : (t : Stream) (most : ℕ) → t.forced ≡ false → t.content ≡ Some most → most ≤ t.bytes → is_over t ≡ true
over_is t most forced content reached = rw (forced, content) (le-leb most t.bytes reached)

loop_turn : (now : ℕ) (items : List Item) (s : Session) (sent given_up : ℕ) (t : Stream) → s.life ≡ Alive → is_over t ≡ true
    → session_turn now items (length s.streams + 1) (newest s sent given_up [] t)
    ≡ record { session = unbound_at now (newest s sent given_up [] t); gives = Send loop_text }
loop_turn now items s sent given_up t alive over =
    let x : Session = newest s sent given_up [] t in
    on_newest now items s alive (λ y. Unit {0}) sent given_up [] t
    ∙ ap (λ b. cond b (record { session = unbound_at now x; gives = Send loop_text }) (cond (is_unsent x) (next_given x) (round_turn now items x))) over

unbound_turn : (now : ℕ) (items : List Item) (s : Session) (sent given_up : ℕ) (t : Stream) → s.life ≡ Alive
    → session_turn now items (length s.streams + 1) (unbound_at now (newest s sent given_up [] t))
    ≡ record { session = unbound_at now (newest s sent given_up [] t); gives = Unbound }
unbound_turn now items s sent given_up t alive =
    let x : Session = unbound_at now (newest s sent given_up [] t) in
    let e : nat_lt (length s.streams + 1) (length x.streams) ≡ false = grind (arith, nat_tests) in
    ap (λ b. cond b (record { session = x; gives = Superseded (length x.streams) }) (record { session = x; gives = gives_unbound s.life })) e
    ∙ ap (λ life. record { session = x; gives = gives_unbound life }) alive

pub loop_taken : (w : World) (connection n k most more : ℕ) (s : Session) (b : Bind) → IsAccepted w connection n s b → k ≤ lines_left s b → MayGive k s b
    → b.length ≡ Some most → most ≤ bytes_on_stream (lines_from k s b)
    → (does (binds w connection b).after (step.Take connection) (3 + length (count_lines b.recover) + k + (2 + more))).outs
    ≡ map (λ text. out.Line (name_of w connection) text) (lines_from k s b ++ loop_text ∷ []) ++ out.Unbound ∷ []
loop_taken w connection n k most more s b is within may content reached =
    let alive : s.life ≡ Alive = alive_is s.life is.names.alive in
    let many : 3 + length (count_lines b.recover) + k + (2 + more) ≡ length (lines_from k s b ++ loop_text ∷ []) + suc more =
    omega (arith, many_lines k s b within, length-append (lines_from k s b) (loop_text ∷ [])) in
    ap (λ m. (does (binds w connection b).after (step.Take connection) m).outs) many
    ∙ takes_from w connection n k (suc more) s b (loop_text ∷ []) (out.Unbound ∷ []) ends_unbound is within may
    (λ sent given_up t forced content' bytes. (
      unbound_at w.tick (newest s sent given_up [] t),
      loop_turn w.tick w.items s sent given_up t alive (over_is t most forced (content' ∙ content) (omega (arith, bytes, reached))),
      unbound_turn w.tick w.items s sent given_up t alive,
    ))
    (λ ss x at p. (let v : World = record (bound w connection n s b) { sessions = ss } in
    ap (λ (o : Once). (behind o (λ u. repeated (take_once connection) more u)).outs)
    (take_is v connection n (length s.streams + 1) x (own_is w connection n s b is) (epoch_is w connection n s b is) at
    (record { session = x; gives = Unbound }) p)))
  where
    ends_unbound : Session → Type 0
    ends_unbound x = session_turn w.tick w.items (length s.streams + 1) x ≡ record { session = x; gives = Unbound }

-- a bind that is accepted prints nothing
pub bind_is_quiet : (w : World) (connection n : ℕ) (s : Session) (b : Bind) → IsAccepted w connection n s b → (binds w connection b).outs ≡ []
bind_is_quiet w connection n s b is = ap (λ (r : Stepped). r.outs) (bound_is w connection n s b is)

-- which recoveries are refused
beyond_no : (s : Session) (o : Option ℕ) → IsBeyond s o → may_resume s o ≡ false
beyond_no s None k = absurd k
beyond_no s (Some count) (inl less) =
    let t : nat_le s.given_up count ≡ false = grind (arith, nat_tests, less) in rw t refl
beyond_no s (Some count) (inr more) =
    let t : nat_le count (length s.board.lines) ≡ false = grind (arith, nat_tests, more) in by_test (nat_le s.given_up count) t
  where
    by_test : (b : Bool) → nat_le count (length s.board.lines) ≡ false → (b && nat_le count (length s.board.lines)) ≡ false
    by_test true t = t
    by_test false t = refl

no_beyond : (s : Session) (o : Option ℕ) → may_resume s o ≡ false → IsBeyond s o
no_beyond s None is = absurd (let x : true ≡ false = is in cc)
no_beyond s (Some count) is = by_test (nat_le s.given_up count) refl is
  where
    by_test : (b : Bool) → nat_le s.given_up count ≡ b → (b && nat_le count (length s.board.lines)) ≡ false → IsBeyond s (Some count)
    by_test true t more = inr (leb-false count (length s.board.lines) more)
    by_test false t more = inl (leb-false s.given_up count t)

pub recovery_refused : (w : World) (connection n : ℕ) (s : Session) (b : Bind) → NamesLiving w b n s → IsBeyond s b.recover
    → binds w connection b ≡ refuses_stream w connection 4
recovery_refused w connection n s b k beyond =
    bind_is w connection n s b k
    ∙ ap (λ m. with_found (first_code ((4, not m) ∷ (74, nat_le GREATEST_NUMBER (length s.streams)) ∷ [])) (stays (bound w connection n s b) [])
    (refuses_stream w connection)) (beyond_no s b.recover beyond)

-- the text of a refusal tells its code
abbrev text_of_first : List Out → List ℕ
text_of_first (out.Line c text ∷ outs) = text
text_of_first outs = []

no_other_byte : (m n : ℕ) → (m == n) ≡ false → Some m ≡ Some n → ⊥
no_other_byte m n other is = let e : m ≡ n = cc in let x : true ≡ false = sym (eq-eqb m n e) ∙ other in cc

no_other_text : text_of_line (line.ConErr 74 (message_of 74)) ≡ text_of_line (line.ConErr 4 (message_of 4)) → ⊥
unfolding digits
no_other_text is = no_other_byte 55 52 refl (ap (λ (t : List ℕ). slice_get t 7) is)

pub refused_recovery : (w : World) (connection n : ℕ) (s : Session) (b : Bind) → NamesLiving w b n s
    → (binds w connection b).outs ≡ (refuses_stream w connection 4).outs → IsBeyond s b.recover
refused_recovery w connection n s b k prints =
    by_test (may_resume s b.recover) refl
    (sym (ap (λ (r : Stepped). r.outs) (bind_is w connection n s b k)) ∙ prints)
  where
    by_room : (v : Bool) → (with_found (first_code ((4, false) ∷ (74, v) ∷ [])) (stays (bound w connection n s b) []) (refuses_stream w connection)).outs
        ≡ (refuses_stream w connection 4).outs → IsBeyond s b.recover
    by_room true is = absurd (no_other_text (ap text_of_first is))
    by_room false is = absurd (let x : [] ≡ (refuses_stream w connection 4).outs = is in cc)

    by_test : (m : Bool) → may_resume s b.recover ≡ m
        → (with_found (bind_code s b) (stays (bound w connection n s b) []) (refuses_stream w connection)).outs ≡ (refuses_stream w connection 4).outs
        → IsBeyond s b.recover
    by_test false t is = no_beyond s b.recover t
    by_test true t is =
        by_room (nat_le GREATEST_NUMBER (length s.streams))
        (subst (λ m. (with_found (first_code ((4, not m) ∷ (74, nat_le GREATEST_NUMBER (length s.streams)) ∷ [])) (stays (bound w connection n s b) [])
        (refuses_stream w connection)).outs ≡ (refuses_stream w connection 4).outs) t is)
