use Rattle.std.proofs.Common.{◌≡◌, ℕ, Bool, Option, ap, subst, sym, ◌∙◌, unwrap_or}
use Rattle.ls_event.specs.declared.event.Mode.{Mode}
use Rattle.ls_event.specs.declared.event.Mode.TheVariants as mode
use Rattle.ls_record.specs.Records.{numbered, frequency_in, is_filtered, live_at, mode_in}
use Rattle.ls_session.specs.Record.{begun_again}
use Rattle.ls_session.specs.Session.{StandsSession, configured}
use Rattle.ls_session.proofs.Changing.{mode_is}
use Rattle.ls_session.proofs.session.Session.reconf.Goals as goal

pub returns-clause-accepted : goal.returns-clause-accepted
returns-clause-accepted c = λ r st.
    let is : c.unwrap_or-mode.result ≡ mode_in c.args.sub r.session.board.round =
    c.unwrap_or-mode.ensures ∙ ap (λ (o : Option Mode). unwrap_or o mode.Merge) (c.mode.ensures r.session.board.lines r.session.board.round st.subs)
    ∙ mode_is (live_at c.args.sub 1 r.session.board.round) in (
      sym (c.code_of_change.ensures.code r st) ∙ c.in_default.is,
      subst (λ (f : Option ℕ). StandsSession c.configure.new.self (begun_again
          (numbered (configured c.args.sub f (is_filtered (mode_in c.args.sub r.session.board.round))) r.session) r))
          (c.frequency_in.ensures ∙ ap (λ (m : Mode). frequency_in m c.args.frequency) is)
          (subst (λ (b : Bool). StandsSession c.configure.new.self (begun_again (numbered (configured c.args.sub c.frequency_in.result b) r.session) r))
          (c.is_filtered.ensures ∙ ap is_filtered is) (c.in_ok-configure.ensures.ok r st)),
    )
