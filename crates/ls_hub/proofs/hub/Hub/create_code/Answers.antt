use Rattle.std.proofs.Common.{◌∙◌, refl, sym, arith, length, true, false}
use Rattle.ls_value.specs.declared.limits.TheConstants.{GREATEST_NUMBER}
use Rattle.ls_record.specs.Records.{alive}
use Rattle.ls_record.specs.declared.TheConstants.{MOST_SESSIONS}
use Rattle.ls_hub.proofs.Sessions.{as_many}
use Rattle.ls_hub.proofs.Begun.{codes_are, few, many, living_are}
use Rattle.ls_hub.proofs.hub.Hub.create_code.Goals as goal

pub returns-then-len-ge-MOST_SESSIONS-clause-code : goal.returns-then-len-ge-MOST_SESSIONS-clause-code
returns-then-len-ge-MOST_SESSIONS-clause-code c = λ w st.
    sym (codes_are w c.args.create.now true true _ (sym (c.has_set.ensures w st.set) ∙ c.if-not-has_set.false)
    (many MOST_SESSIONS (alive w.sessions)
    (omega (arith, c.if-len-ge-MOST_SESSIONS.true, c.len.ensures, c.args.self.now.living.ok.0, living_are c.args.self.now w st))) refl)

pub returns-then-len-ge-GREATEST_NUMBER-clause-code : goal.returns-then-len-ge-GREATEST_NUMBER-clause-code
returns-then-len-ge-GREATEST_NUMBER-clause-code c = λ w st.
    sym (codes_are w c.args.create.now true false true (sym (c.has_set.ensures w st.set) ∙ c.if-not-has_set.false)
    (few MOST_SESSIONS (alive w.sessions)
    (omega (arith, c.if-len-ge-MOST_SESSIONS.false, c.len.ensures, c.args.self.now.living.ok.0, living_are c.args.self.now w st)))
    (many GREATEST_NUMBER (length w.sessions)
    (omega (
      arith,
      c.if-len-ge-GREATEST_NUMBER.true,
      c.len-else-len-ge-MOST_SESSIONS.ensures,
      c.args.self.now.sessions.ok.0,
      as_many _ _ _ st.sessions,
    ))))

pub returns-else-len-ge-GREATEST_NUMBER-clause-code : goal.returns-else-len-ge-GREATEST_NUMBER-clause-code
returns-else-len-ge-GREATEST_NUMBER-clause-code c = λ w st.
    sym (codes_are w c.args.create.now true false false (sym (c.has_set.ensures w st.set) ∙ c.if-not-has_set.false)
    (few MOST_SESSIONS (alive w.sessions)
    (omega (arith, c.if-len-ge-MOST_SESSIONS.false, c.len.ensures, c.args.self.now.living.ok.0, living_are c.args.self.now w st)))
    (few GREATEST_NUMBER (length w.sessions)
    (omega (
      arith,
      c.if-len-ge-GREATEST_NUMBER.false,
      c.len-else-len-ge-MOST_SESSIONS.ensures,
      c.args.self.now.sessions.ok.0,
      as_many _ _ _ st.sessions,
    ))))
