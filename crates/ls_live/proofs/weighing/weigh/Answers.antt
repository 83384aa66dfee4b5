use Rattle.std.proofs.Common.{◌≡◌, ◌∙◌, sym, refl, arith, Some, None}
use Rattle.ls_event.specs.declared.event.PublishRefused.TheVariants as refused
use Rattle.ls_cell.specs.Cell.{refusal_of}
use Rattle.ls_live.specs.Live.{entry_of, lagging_in}
use Rattle.ls_live.proofs.Causes.{lagging_is}
use Rattle.ls_live.proofs.Keeping.{keeps_on, keeps_caught}
use Rattle.ls_live.proofs.Lagging.{goes_first, goes_next, goes_others, goes_last, far_live, none_lagging}
use Rattle.ls_live.proofs.Lagging.{refused_all, admitted_all, far_all, spent_all, few_all}
use Rattle.ls_live.proofs.weighing.weigh.Goals as goal

pub loop-init : goal.loop-init
loop-init c = goes_first _ 0 refl

pub returns-in_default-clause-admitted : goal.returns-in_default-clause-admitted
returns-in_default-clause-admitted c =
    admitted_all _ c.loop.cell _ _ _ _ c.check-found.result c.loop.invariant c.requires.adapter c.check-found.ensures.ok

pub returns-in_default-clause-refused : goal.returns-in_default-clause-refused
returns-in_default-clause-refused c =
    let free : lagging_in c.check-found.result ≡ None = sym c.lagging.ensures ∙ c.in_default.is in
    refused_all _ c.loop.cell _ _ _ _ c.check-found.result c.loop.invariant c.requires.adapter free
    c.check-found.ensures.err

pub returns-then-number-ge-GREATEST_NUMBER-clause-refused : goal.returns-then-number-ge-GREATEST_NUMBER-clause-refused
returns-then-number-ge-GREATEST_NUMBER-clause-refused c = λ h st.
    let far : refusal_of c.loop.cell (entry_of c.args.adapter c.args.seq c.args.event.now) ≡ Some (refused.Backlog c.in-Some.slot) =
    lagging_is c.check-found.result _ c.in-Some.slot c.check-found.ensures.err (sym c.lagging.ensures ∙ c.in-Some.is) in
    far_all _ c.loop.cell _ _ _ _ c.in-Some.slot h c.loop.invariant c.requires.adapter far st
    ∙ spent_all c.loop.cell.number (omega (arith, c.number.ensures.number, c.if-number-ge-GREATEST_NUMBER.true))

pub catch_up-requires : goal.catch_up-requires
catch_up-requires c =
    let far : refusal_of c.loop.cell (entry_of c.args.adapter c.args.seq c.args.event.now) ≡ Some (refused.Backlog c.in-Some.slot) =
    lagging_is c.check-found.result _ c.in-Some.slot c.check-found.ensures.err (sym c.lagging.ensures ∙ c.in-Some.is) in
    far_live c.loop.cell _ _ _ c.in-Some.slot far

pub loop-preserved : goal.loop-preserved
loop-preserved c =
    let far : refusal_of c.loop.cell (entry_of c.args.adapter c.args.seq c.args.event.now) ≡ Some (refused.Backlog c.in-Some.slot) =
    lagging_is c.check-found.result _ c.in-Some.slot c.check-found.ensures.err (sym c.lagging.ensures ∙ c.in-Some.is) in
    let one = goes_next _ c.loop.cell c.catch_up.new.self _ _ _ c.in-Some.slot _ c.loop.invariant far c.catch_up.ensures.rest
    c.in-Ok.ensures.last c.catch_up.ensures.some c.catch_up.ensures.stands in
    goes_others _ c.catch_up.new.self c.catch_up_others.new.cell _ one c.catch_up_others.ensures.shape
    c.catch_up_others.ensures.fewer c.catch_up_others.ensures.slots

pub returns-clause-admitted : goal.returns-clause-admitted
returns-clause-admitted c =
    admitted_all _ c.loop.cell _ _ _ _ c.check.result c.loop.invariant c.requires.adapter c.check.ensures.ok

pub returns-clause-refused : goal.returns-clause-refused
returns-clause-refused c =
    let none = goes_last _ c.loop.cell _ c.slots-end.result c.loop.invariant c.slots-end.ensures.live
    (omega (arith, c.loop-test.false, c.loop.auto.counter-end)) in
    let free : lagging_in c.check.result ≡ None =
    none_lagging c.loop.cell _ _ _ c.check.result c.check.ensures.err none in
    refused_all _ c.loop.cell _ _ _ _ c.check.result c.loop.invariant c.requires.adapter free c.check.ensures.err

pub returns-in_default-catch_up-clause-slots : goal.returns-in_default-catch_up-clause-slots
returns-in_default-catch_up-clause-slots c = λ h.
    let far : refusal_of c.loop.cell (entry_of c.args.adapter c.args.seq c.args.event.now) ≡ Some (refused.Backlog c.in-Some.slot) =
    lagging_is c.check-found.result _ c.in-Some.slot c.check-found.ensures.err (sym c.lagging.ensures ∙ c.in-Some.is) in
    keeps_on _ h c.loop.cell h c.catch_up.new.self h (c.loop.invariant.keeps h)
    (keeps_caught c.loop.cell c.catch_up.new.self c.in-Some.slot h (far_live c.loop.cell _ _ _ c.in-Some.slot far)
    c.catch_up.ensures.some c.catch_up.ensures.stands)

pub returns-in_default-catch_up-clause-refused : goal.returns-in_default-catch_up-clause-refused
returns-in_default-catch_up-clause-refused c = λ h st.
    let far : refusal_of c.loop.cell (entry_of c.args.adapter c.args.seq c.args.event.now) ≡ Some (refused.Backlog c.in-Some.slot) =
    lagging_is c.check-found.result _ c.in-Some.slot c.check-found.ensures.err (sym c.lagging.ensures ∙ c.in-Some.is) in
    far_all _ c.loop.cell _ _ _ _ c.in-Some.slot h c.loop.invariant c.requires.adapter far st
    ∙ few_all c.loop.cell.number (omega (arith, c.number.ensures.number, c.if-number-ge-GREATEST_NUMBER.false))
