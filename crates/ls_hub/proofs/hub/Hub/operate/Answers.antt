use Rattle.std.proofs.Common.{◌∙◌, ◌++◌, ap, arith, sym, subst, ℕ, List, Option, Some}
use Rattle.std.proofs.lemmas.Result.{on_ok_weaker}
use Rattle.ls_line.specs.Lines.{text_of_line}
use Rattle.ls_step.specs.Notes.{text_of_out}
use Rattle.ls_step.specs.declared.out.Out.TheVariants as out
use Rattle.ls_hub.specs.Hub.{name_at}
use Rattle.ls_acts.specs.Answers.{answer_line}
use Rattle.ls_hub.specs.Requests.{DidOperate, operation, operation_code}
use Rattle.ls_hub.proofs.Hubs.{on_failed}
use Rattle.ls_hub.proofs.Requested.{operation_printed, refused_stands, gave_way}
use Rattle.ls_hub.proofs.hub.Hub.operate.Goals as goal

pub returns-in_err-answer-clause-err : goal.returns-in_err-answer-clause-err
returns-in_err-answer-clause-err c = on_failed c.from_residual.result (λ w s st living. st)

pub returns-in_err-change-clause-err : goal.returns-in_err-change-clause-err
returns-in_err-change-clause-err c = on_failed c.from_residual-in_err-change.result (λ w s st living. c.in_err-change.ensures.err w st)

pub returns-in-None-clause-ok : goal.returns-in-None-clause-ok
returns-in-None-clause-ok c = λ w s st living.
    operation_printed c.args.self.now c.change.new.self w c.args.connection c.args.req.now c.args.op.now c.args.place s c.in_ok-change.field-0
    c.args.text.now.items c.answer.new.text.items st (c.in_ok-change.ensures.did w s st living)
    (c.in_ok-answer.ensures
    ∙ ap (λ (a : Option ℕ). c.args.text.now.items
    ++ text_of_out (out.Line (name_at c.args.self.now.connections.items c.args.connection) (text_of_line (answer_line c.args.req.now a))))
    (sym c.in-None.is))

pub returns-in-Some-clause-ok : goal.returns-in-Some-clause-ok
returns-in-Some-clause-ok c = on_ok_weaker c.answer-in-Some.result (λ is w s st living.
    operation_printed c.args.self.now c.change.new.self w c.args.connection c.args.req.now c.args.op.now c.args.place s c.in_ok-change.field-0
    c.args.text.now.items c.answer-in-Some.new.text.items st (c.in_ok-change.ensures.did w s st living)
    (gave_way c.args.text.now.items _ c.answer.new.text.items c.truncate.new.self.items _ c.answer-in-Some.new.text.items c.len-begin.result
    (omega (arith, c.len-begin.ensures, c.args.text.now.ok.0)) c.in_ok-answer.ensures c.truncate.ensures.items is
    ∙ ap (λ (names : List ℕ). c.args.text.now.items ++ text_of_out (out.Line names (text_of_line (answer_line c.args.req.now (Some c.in-Some.code)))))
    (ap (λ cs. name_at cs.items c.args.connection) c.change.ensures.connections)
    ∙ ap (λ (a : Option ℕ). c.args.text.now.items
    ++ text_of_out (out.Line (name_at c.args.self.now.connections.items c.args.connection) (text_of_line (answer_line c.args.req.now a))))
    (sym c.in-Some.is))) c.answer-in-Some.ensures

pub returns-in-Some-clause-err : goal.returns-in-Some-clause-err
returns-in-Some-clause-err c = on_failed c.answer-in-Some.result (λ w s st living.
    refused_stands c.change.new.self w c.args.place (operation_code w s c.args.op.now) (operation w c.args.op.now) c.in-Some.code
    (subst (λ (a : Option ℕ). DidOperate w c.args.place (operation_code w s c.args.op.now) (operation w c.args.op.now) a c.change.new.self) c.in-Some.is
    (c.in_ok-change.ensures.did w s st living)))
