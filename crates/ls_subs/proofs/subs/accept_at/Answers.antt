use Rattle.std.proofs.Common.{◌≡◌, ◌-◌, ◌∙◌, sym, ap, arith, subst, refl, length, Option, Some, slice_get, slice_set, IfOk}
use Rattle.std.proofs.lemmas.Option.{slice_get_read}
use Rattle.ls_subs.specs.declared.plan.PlanItem.{PlanItem}
use Rattle.ls_subs.specs.Subscription.{Appends}
use Rattle.ls_subs.specs.Kept.{line_of}
use Rattle.ls_subs.proofs.Keeping.{ok_then}
use Rattle.ls_subs.proofs.Places.{heard_beyond, item_before, heard_set}
use Rattle.ls_subs.proofs.subs.accept_at.Goals as goal

pub returns-then-index-len-clause-ok : goal.returns-then-index-len-clause-ok
returns-then-index-len-clause-ok c =
    heard_beyond c.args.place c.args.now c.args.taken c.args.items.now.items (omega (arith, c.if-index-len.true, c.len.ensures))

pub returns-clause-line : goal.returns-clause-line
returns-clause-line c =
    let is : slice_get c.args.items.now.items (c.args.place - 1) ≡ Some c.index_mut.result.now =
    slice_get_read c.args.items.now.items (length c.args.items.now.items) (c.args.place - 1) c.index_mut.result.now refl
    (omega (arith, c.if-index-len.false, c.len.ensures, c.args.items.now.ok))
    c.index_mut.ensures.value in
    subst (λ (o : Option PlanItem). IfOk c.accept.result
    (λ told. Appends (record { told = told; before = c.args.text.now.items; after = c.accept.new.text.items }) (line_of o c.args.taken)))
    (sym (item_before c.args.place c.args.items.now.items c.index_mut.result.now c.if-place-eq0.false is)) c.accept.ensures.line

pub returns-clause-ok : goal.returns-clause-ok
returns-clause-ok c =
    let is : slice_get c.args.items.now.items (c.args.place - 1) ≡ Some c.index_mut.result.now =
    slice_get_read c.args.items.now.items (length c.args.items.now.items) (c.args.place - 1) c.index_mut.result.now refl
    (omega (arith, c.if-index-len.false, c.len.ensures, c.args.items.now.ok))
    c.index_mut.ensures.value in
    ok_then c.accept.result _ _ (λ e. ap (λ p. slice_set c.args.items.now.items (c.args.place - 1) p) e
    ∙ heard_set c.args.place c.args.now c.args.taken c.args.items.now.items c.index_mut.result.now c.if-place-eq0.false is) c.accept.ensures.ok
