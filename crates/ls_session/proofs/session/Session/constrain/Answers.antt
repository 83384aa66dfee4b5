use Rattle.std.proofs.Common.{◌≡◌, None, sym, ◌∙◌}
use Rattle.ls_record.specs.Acting.{constrain_code}
use Rattle.ls_session.specs.Record.{constraining_code}
use Rattle.ls_session.proofs.Changing.{constrained_stands, not_ended}
use Rattle.ls_session.proofs.session.Session.constrain.Goals as goal

pub returns-clause-accepted : goal.returns-clause-accepted
returns-clause-accepted c = λ r st.
    let accepted : constraining_code r.session ≡ None = sym (c.code_of_constrain.ensures r st) ∙ c.in_default.is in (
      accepted,
      λ later most.
          constrained_stands c.args.self.now c.owe.new.self c.begin.new.self c.set.new.self r c.args.bandwidth c.args.now c.in_ok-line.line st
          (not_ended r.session (constrain_code r.session) accepted) most
          c.in_ok-owe.ensures.ok c.in_ok-owe.ensures.rest c.in_ok-line.ensures.text c.in_ok-line.ensures.short c.begin.ensures c.set.ensures.latest
          c.set.ensures.stands,
    )
