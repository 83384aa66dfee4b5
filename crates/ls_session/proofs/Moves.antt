-- What of a session stands for another record, part by part.
use Rattle.std.proofs.Common.{OnErr, Result, Ok, Err, ◌≡◌, ◌≤◌, ◌+◌, ◌++◌, ℕ, List, [], ◌∷◌, length, map, None, Some, refl, sym, ◌∙◌, ap, subst, cond, arith}
use Rattle.std.proofs.Common.{option_map, slice_get}
use Rattle.std.proofs.lemmas.Bool.{lt-ltb}
use Rattle.ls_budget.specs.Budget.{Spend}
use Rattle.ls_budget.specs.Kept.{KeptCredit, StandsBandwidth}
use Rattle.ls_value.specs.declared.limits.TheConstants.{GREATEST_TICK}
use Rattle.ls_stream.proofs.Moving.{lines_roomier}
use Rattle.ls_stream.specs.Standing.{StandsLines, IsRoomier}
use Rattle.ls_stream.specs.declared.lines.Lines.{Lines as KeptLines}
use Rattle.ls_turns.specs.Round.{Seat, slots_of}
use Rattle.ls_record.specs.Lines.{Line, spent_by, spends_behind}
use Rattle.ls_record.specs.Records.{Board, Rate, Session}
use Rattle.ls_subs.specs.Standing.{ref_of, StandsSubs}
use Rattle.ls_subs.specs.declared.subs.Subs.{Subs}
use Rattle.std.specs.Option.{ForSome}
use Rattle.ls_session.specs.Asking.{Asking, asked_anew}
use Rattle.ls_session.specs.Front.{IsFront}
use Rattle.ls_session.proofs.Fronts.{front_seats}
use Rattle.ls_session.specs.Record.{Record, rests}
use Rattle.ls_session.specs.Session.{StandsSession, StandsRound, StandsRate}
use Rattle.ls_session.specs.declared.session.Session.{Session as Kept}

-- a round that begins anew
pub round_anew : (k : Asking) (number floor tick : ℕ) (s : Session) → floor ≤ tick → tick ≤ GREATEST_TICK → slots_of k.turns ≡ map ref_of s.board.round
    → StandsRound (asked_anew tick k) (rests number floor tick s)
round_anew k number floor tick s above most slots =
    record {
      slots = slots;
      tick = refl;
      above = above;
      most = most;
      next = refl;
      asks = refl;
      question = refl;
      wait = refl;
      left = λ q e. absurd (let x : None ≡ Some q = e in cc);
    }

-- the bandwidth with a higher floor
pub rate_later : (k : KeptCredit) (rate : Rate) (lines : List Line) (floor now : ℕ) → StandsRate k rate lines floor → floor ≤ now → StandsRate k rate lines now
rate_later k rate lines floor now st later =
    record {
      latest = omega (arith, st.latest, later);
      behind = st.behind;
      spends = st.spends;
    }

-- what a line that is numbered took is the newest spend
spends_step : (n : ℕ) (l : Line) (lines : List Line) → n ≤ length lines → spends_behind n (l ∷ lines) ≡ spent_by lines l ++ spends_behind n lines
spends_step n l lines low =
    ap (λ v. cond v (spent_by lines l ++ spends_behind n lines) []) (lt-ltb n (length lines + 1) (omega (arith, low)))

-- a line that takes nothing is numbered
pub rate_numbered : (k : KeptCredit) (rate : Rate) (lines : List Line) (tick : ℕ) (l : Line) → StandsRate k rate lines tick → spent_by lines l ≡ []
    → StandsRate k rate (l ∷ lines) tick
rate_numbered k rate lines tick l st nothing =
    record {
      latest = st.latest;
      behind = omega (arith, st.behind);
      spends = subst (λ (spends : List Spend). StandsBandwidth k rate.limit spends)
          (sym (spends_step rate.behind l lines st.behind ∙ ap (λ spends. spends ++ spends_behind rate.behind lines) nothing)) st.spends;
    }

-- a line that takes so much is numbered
pub rate_spent : (k k' : KeptCredit) (rate : Rate) (lines : List Line) (tick : ℕ) (l : Line) (spend : Spend) → StandsRate k rate lines tick
    → spent_by lines l ≡ spend ∷ [] → k'.latest ≤ tick → StandsBandwidth k' rate.limit (spend ∷ spends_behind rate.behind lines)
    → StandsRate k' rate (l ∷ lines) tick
rate_spent k k' rate lines tick l spend st some latest spends =
    record {
      latest = latest;
      behind = omega (arith, st.behind);
      spends = subst (λ (spends : List Spend). StandsBandwidth k' rate.limit spends)
          (sym (spends_step rate.behind l lines st.behind ∙ ap (λ spends. spends ++ spends_behind rate.behind lines) some)) spends;
    }

-- a session whose round begins anew at a tick, with other lines and another floor
pub stands_anew : (k : Kept) (lines : KeptLines) (r : Record) (s : Session) (floor now : ℕ) → StandsSession k r → r.floor ≤ floor → floor ≤ now
    → now ≤ GREATEST_TICK → StandsLines lines s → s.board ≡ r.session.board → s.rate ≡ r.session.rate
    → StandsSession (record k { lines = lines; asking = asked_anew now k.asking }) (rests r.number floor now s)
stands_anew k lines r s floor now st rose above most kept board rate =
    record {
      number = st.number;
      lines = kept;
      round = round_anew k.asking r.number floor now s above most (st.round.slots ∙ ap (λ (b : Board). map ref_of b.round) (sym board));
      subs = subst (λ (b : Board). StandsSubs k.subs b.lines b.round) (sym board) st.subs;
      rate = subst (λ (b : Board). StandsRate k.bandwidth s.rate b.lines floor) (sym board)
          (subst (λ (x : Rate). StandsRate k.bandwidth x r.session.board.lines floor) (sym rate)
          (rate_later k.bandwidth r.session.rate r.session.board.lines r.floor floor st.rate rose));
      front = subst (λ (b : Board). ForSome k.asking.front (λ f. IsFront k.asking.turns f b.lines b.round)) (sym board) st.front;
    }

-- a floor may be given up for a higher one
pub stands_above : (k : Kept) (r : Record) (floor : ℕ) → StandsSession k r → r.floor ≤ floor → floor ≤ r.tick → StandsSession k (record r { floor = floor })
stands_above k r floor st rose above =
    record {
      number = st.number;
      lines = st.lines;
      round = record {
        slots = st.round.slots;
        tick = st.round.tick;
        above = above;
        most = st.round.most;
        next = st.round.next;
        asks = st.round.asks;
        question = st.round.question;
        wait = st.round.wait;
        left = st.round.left;
      };
      subs = st.subs;
      rate = rate_later k.bandwidth r.session.rate r.session.board.lines r.floor floor st.rate rose;
      front = st.front;
    }

-- what is true, whatever a call answers
pub on_err : {T E : Type 0} (P : Type 0) (r : Result T E) → P → OnErr r P
on_err P (Ok x) p = tt
on_err P (Err e) p = p

-- more room for slots alone
pub round_reserved : (k k' : Asking) (r : Record) → StandsRound k r → k'.turns.seats ≡ k.turns.seats → k' ≡ record k { turns = k'.turns; room = k'.room }
    → StandsRound k' r
round_reserved k k' r st same rest =
    subst (λ (x : Asking). StandsRound x r) (sym rest)
    (record {
      slots = ap (λ (seats : List Seat). map (λ (s : Seat). s.slot) seats) same ∙ st.slots;
      tick = st.tick;
      above = st.above;
      most = st.most;
      next = st.next ∙ ap (λ (seats : List Seat). option_map (λ (s : Seat). s.node) (slice_get seats r.asked)) (sym same);
      asks = st.asks;
      question = st.question;
      wait = st.wait;
      left = st.left;
    })

-- other subscriptions that stand for the same
pub stands_subs : (k : Kept) (subs : Subs) (r : Record) → StandsSession k r → StandsSubs subs r.session.board.lines r.session.board.round
    → StandsSession (record k { subs = subs }) r
stands_subs k subs r st s = record { number = st.number; lines = st.lines; round = st.round; subs = s; rate = st.rate; front = st.front }

-- more room for slots and lines alone
pub stands_reserved : (k : Kept) (asking' : Asking) (lines' : KeptLines) (r : Record) → StandsSession k r → asking'.turns.seats ≡ k.asking.turns.seats
    → asking' ≡ record k.asking { turns = asking'.turns; room = asking'.room } → IsRoomier k.lines lines'
    → StandsSession (record k { asking = asking'; lines = lines' }) r
stands_reserved k asking' lines' r st seats round roomier =
    record {
      number = st.number;
      lines = lines_roomier k.lines lines' r.session st.lines roomier;
      round = round_reserved k.asking asking' r st.round seats round;
      subs = st.subs;
      rate = st.rate;
      front = λ f is. front_seats k.asking.turns asking'.turns f r.session.board.lines r.session.board.round seats
          (st.front f (sym (ap (λ (a : Asking). a.front) round) ∙ is));
    }
