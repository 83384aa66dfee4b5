use Rattle.std.proofs.Common.{◌≡◌, ◌∙◌, None, Some, map, ap, sym, subst, refl, [], arith}
use Rattle.ls_record.specs.Records.{Session, opened}
use Rattle.ls_session.specs.Record.{created}
use Rattle.ls_session.specs.Asking.{Asking}
use Rattle.ls_session.specs.Session.{StandsRound}
use Rattle.ls_session.proofs.Moves.{round_anew}
use Rattle.ls_session.proofs.session.Session.new.Goals as goal

pub returns : goal.returns
returns c = λ most.
    let s : Session = opened c.args.id c.args.create.now.keepalive c.args.create.now.bandwidth c.args.create.now.length in
    record {
      number = refl;
      lines = c.in_ok-lines.ensures;
      round = subst (λ (x : Asking). StandsRound x (created c.args.id c.args.now s)) (sym c.in_ok-asking.ensures.1)
          (round_anew c.in_ok-asking.asking c.args.id c.args.now c.args.now s (omega arith) most (ap (λ ss. map (λ s. s.slot) ss) c.in_ok-asking.ensures.0));
      subs = c.new-3.ensures [];
      rate = record { latest = omega (arith, c.new-4.ensures.latest); behind = omega arith; spends = c.new-4.ensures.stands };
      front = λ f e. absurd (let x : None ≡ Some f = sym c.in_ok-asking.ensures.2 ∙ e in cc);
    }
