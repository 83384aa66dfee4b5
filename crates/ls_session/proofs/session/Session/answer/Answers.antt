use Rattle.std.proofs.Common.{◌≡◌, Some, ap, true, false, refl, subst, sym, ◌∙◌}
use Rattle.ls_record.specs.Records.{due_at}
use Rattle.ls_session.specs.declared.asking.Asked.{Asked}
use Rattle.ls_session.specs.declared.session.Ask.{Ask}
use Rattle.ls_session.specs.declared.session.Session.{Session as Kept}
use Rattle.ls_session.specs.Session.{StandsSession, IsOther}
use Rattle.ls_session.proofs.Replies.{kept_same, kept_asked, due_now, none_stands, not_due_at, other_unsuited, passed_stands, waited_stands, ok_then}
use Rattle.ls_session.proofs.session.Session.answer.Goals as goal

pub answer_asked-requires : goal.answer_asked-requires
answer_asked-requires c = c.in-Some.ensures.named

pub returns-then-is_asked-clause-nothing : goal.returns-then-is_asked-clause-nothing
returns-then-is_asked-clause-nothing c =
    ok_then _ _ c.answer_asked.result
    (λ told f. λ r v due st is named nothing.
    let did = f nothing in
    (did.0, passed_stands c.args.self.now c.answer_asked.new.self r st did.1))
    c.answer_asked.ensures.nothing

pub returns-then-is_asked-clause-waiting : goal.returns-then-is_asked-clause-waiting
returns-then-is_asked-clause-waiting c =
    ok_then _ _ c.answer_asked.result
    (λ told f. λ r v st is named waits.
    let kept : c.args.self.now.asking.question ≡ Some c.in-Some.asked = sym c.question.ensures.asked ∙ c.in-Some.is in
    let same = kept_same c.args.self.now r (record { live = v; due = false }) c.in-Some.asked st is kept in
    let due = not_due_at c.in-Some.asked.due (due_at r.tick r.session v) r.tick (ap (λ (a : Asked). a.due) same)
    (ap (λ (a : Ask). a.due) (kept_asked c.args.self.now r v false c.in-Some.asked st is kept)) in
    let did = f (due_at r.tick r.session v) waits due in
    (did.0, waited_stands c.args.self.now c.answer_asked.new.self r v (due_at r.tick r.session v) st refl did.1))
    c.answer_asked.ensures.waiting

pub returns-then-is_asked-clause-taken : goal.returns-then-is_asked-clause-taken
returns-then-is_asked-clause-taken c =
    ok_then _ _ c.answer_asked.result
    (λ told f. λ r v t st is named.
    let kept : c.args.self.now.asking.question ≡ Some c.in-Some.asked = sym c.question.ensures.asked ∙ c.in-Some.is in
    let asked = kept_asked c.args.self.now r v true c.in-Some.asked st is kept in
    f r v t st is (ap (λ (a : Ask). a.slot) asked) (due_now c.in-Some.asked.due (ap (λ (a : Ask). a.due) asked)))
    c.answer_asked.ensures.taken

pub returns-then-is_asked-clause-other : goal.returns-then-is_asked-clause-other
returns-then-is_asked-clause-other c =
    ok_then _ _ c.answer_asked.result
    (λ told f. λ r st other.
    let did = f (other_unsuited c.args.self.now r c.in-Some.asked c.args.reply st (sym c.question.ensures.asked ∙ c.in-Some.is)
    (subst (λ (a : Ask). IsOther r a c.args.reply) (sym (c.if-is_asked.ensures.0 refl)) other)) in
    (did.0, subst (λ (x : Kept). StandsSession x r) (sym did.1) st))
    c.answer_asked.ensures.other

pub returns-else-is_asked-clause-taken : goal.returns-else-is_asked-clause-taken
returns-else-is_asked-clause-taken c = λ r v t st is named took suits light.
    absurd (let x : false ≡ true = c.if-is_asked.ensures.1 (kept_asked c.args.self.now r v true c.in-Some.asked st is
    (sym c.question.ensures.asked ∙ c.in-Some.is) ∙ sym named) in cc)

pub returns-else-is_asked-clause-nothing : goal.returns-else-is_asked-clause-nothing
returns-else-is_asked-clause-nothing c = λ r v due st is named nothing.
    absurd (let x : false ≡ true = c.if-is_asked.ensures.1 (kept_asked c.args.self.now r v due c.in-Some.asked st is
    (sym c.question.ensures.asked ∙ c.in-Some.is) ∙ sym named) in cc)

pub returns-else-is_asked-clause-waiting : goal.returns-else-is_asked-clause-waiting
returns-else-is_asked-clause-waiting c = λ r v st is named waits.
    absurd (let x : false ≡ true = c.if-is_asked.ensures.1 (kept_asked c.args.self.now r v false c.in-Some.asked st is
    (sym c.question.ensures.asked ∙ c.in-Some.is) ∙ sym named) in cc)

pub returns-else-is_asked-clause-other : goal.returns-else-is_asked-clause-other
returns-else-is_asked-clause-other c = λ r st other. (refl, st)

pub returns-in_default-clause-nothing : goal.returns-in_default-clause-nothing
returns-in_default-clause-nothing c = λ r v due st is named nothing.
    absurd (none_stands c.args.self.now r (record { live = v; due = due }) st (sym c.question.ensures.asked ∙ c.in_default.is) is)

pub returns-in_default-clause-waiting : goal.returns-in_default-clause-waiting
returns-in_default-clause-waiting c = λ r v st is named waits.
    absurd (none_stands c.args.self.now r (record { live = v; due = false }) st (sym c.question.ensures.asked ∙ c.in_default.is) is)

pub returns-in_default-clause-taken : goal.returns-in_default-clause-taken
returns-in_default-clause-taken c = λ r v t st is named took suits light.
    absurd (none_stands c.args.self.now r (record { live = v; due = true }) st (sym c.question.ensures.asked ∙ c.in_default.is) is)

pub returns-in_default-clause-other : goal.returns-in_default-clause-other
returns-in_default-clause-other c = λ r st other. (refl, st)

pub returns-then-is_asked-clause-err : goal.returns-then-is_asked-clause-err
returns-then-is_asked-clause-err c = c.answer_asked.ensures.err
