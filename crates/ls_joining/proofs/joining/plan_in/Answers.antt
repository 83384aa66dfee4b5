use Rattle.std.proofs.Common.{◌≡◌, ◌||◌, ap, sym, subst, ◌∙◌, Some, None, Bool}
use Rattle.ls_session.specs.Record.{adding_code}
use Rattle.ls_told.specs.Requests.{is_spent}
use Rattle.ls_joining.proofs.Added.{add_some, add_over, or_over}
use Rattle.ls_joining.proofs.joining.plan_in.Goals as goal

pub returns-in-Err-clause-refused : goal.returns-in-Err-clause-refused
returns-in-Err-clause-refused g c = λ code is r st.
    add_some g.N.House.deed.config c.args.free (is_spent c.args.parts.now.history.list || c.args.spent) r.session c.args.add.now code
    (subst (λ defs. adding_code defs c.args.free r.session c.args.add.now ≡ Some code) c.requires.config (c.in-Err.ensures.refused code is r st))

pub returns-then-is_spent-clause-refused : goal.returns-then-is_spent-clause-refused
returns-then-is_spent-clause-refused g c = λ code is r st.
    let same : 74 ≡ code = cc in
    add_over g.N.House.deed.config c.args.free (is_spent c.args.parts.now.history.list || c.args.spent) r.session c.args.add.now code
    (subst (λ defs. adding_code defs c.args.free r.session c.args.add.now ≡ None) c.requires.config (c.in-Ok-prepare_add.ensures.accepted r st))
    (ap (λ (b : Bool). b || c.args.spent) (sym c.is_spent.ensures ∙ c.if-is_spent.true)) same

pub returns-then-spent-clause-refused : goal.returns-then-spent-clause-refused
returns-then-spent-clause-refused g c = λ code is r st.
    let same : 74 ≡ code = cc in
    add_over g.N.House.deed.config c.args.free (is_spent c.args.parts.now.history.list || c.args.spent) r.session c.args.add.now code
    (subst (λ defs. adding_code defs c.args.free r.session c.args.add.now ≡ None) c.requires.config (c.in-Ok-prepare_add.ensures.accepted r st))
    (ap (λ (b : Bool). is_spent c.args.parts.now.history.list || b) c.if-spent.true ∙ or_over (is_spent c.args.parts.now.history.list)) same
