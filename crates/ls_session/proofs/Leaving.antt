-- How a session ends.
use Rattle.std.proofs.Common.{◌≡◌, ◌∙◌, ℕ, List, [], map, ap, sym, subst, None, Some}
use Rattle.ls_stream.specs.Standing.{StandsLines}
use Rattle.ls_stream.specs.declared.lines.Lines.{Lines as KeptLines}
use Rattle.ls_record.specs.Lines.{Line}
use Rattle.ls_record.specs.Records.{ended}
use Rattle.ls_subs.specs.Standing.{StandsSubs}
use Rattle.ls_subs.specs.declared.subs.Subs.{Subs}
use Rattle.ls_session.specs.Asking.{Asking, asked_anew, with_turns}
use Rattle.ls_session.specs.Record.{Record, begun_again}
use Rattle.ls_session.specs.Session.{StandsSession, StandsRound}
use Rattle.ls_session.specs.declared.session.Session.{Session as Kept}
use Rattle.ls_session.proofs.Moves.{round_anew}

-- it stands for a session that has ended
pub ended_stands : (k : Kept) (lines' : KeptLines) (subs' : Subs) (asking' : Asking) (r : Record) (code : ℕ) → StandsSession k r
    → StandsLines lines' (ended code r.session) → ((lines : List Line) → StandsSubs subs' lines [])
    → asking'.turns.seats ≡ [] → asking' ≡ record (with_turns asking'.turns k.asking) { room = asking'.room }
    → StandsSession (record k { lines = lines'; subs = subs'; asking = asking' }) (begun_again (ended code r.session) r)
ended_stands k lines' subs' asking' r code st lines subs none round =
    record {
      number = st.number;
      lines = lines;
      round = subst (λ (x : Asking). StandsRound x (begun_again (ended code r.session) r)) (sym round)
          (subst (λ (n : ℕ). StandsRound (record (asked_anew n (record k.asking { turns = asking'.turns; front = None })) { room = asking'.room })
          (begun_again (ended code r.session) r)) (sym st.round.tick)
          (round_anew (record k.asking { turns = asking'.turns; front = None; room = asking'.room }) r.number r.floor r.tick (ended code r.session) st.round.above
          st.round.most (ap (map (λ s. s.slot)) none)));
      subs = subs r.session.board.lines;
      rate = st.rate;
      front = λ f e. absurd (let x : None ≡ Some f = sym (ap (λ (a : Asking). a.front) round) ∙ e in cc);
    }
