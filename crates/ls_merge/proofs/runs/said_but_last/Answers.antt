use Rattle.std.proofs.Common.{◌≡◌, ◌-◌, ◌∙◌, ap, arith, drop, length, sym, subst}
use Rattle.std.proofs.lemmas.List.{length-replicate}
use Rattle.ls_event.specs.History.{HasFields}
use Rattle.ls_merge.proofs.Landing.{said_none, said_reaches, run_fields}
use Rattle.ls_merge.specs.Runs.{says_each, said_but_last}
use Rattle.ls_merge.proofs.runs.said_but_last.Goals as goal
use Rattle.ls_merge.proofs.runs.said_but_last.Goals.{then-loop-at-test+else-not-says_each, else-loop-at-test}

pub loop-at-init : goal.loop-at-init
loop-at-init c =
    let long : c.len-at.result ≡ length c.args.events.now.items = omega (arith, c.len-at.ensures, c.args.events.now.ok.0) in
    record {
      after = omega (arith, long, c.requires.some);
      within = omega (arith, long, c.requires.some);
      said = c.in_ok-said.ensures ∙ sym (said_none c.args.fields c.args.events.now.items (c.len-at.result - 1)
          (omega (arith, long, c.requires.some)));
      fields = rw c.in_ok-said.ensures (length-replicate c.args.fields _);
    }

pub under_event-requires : goal.under_event-requires
under_event-requires c =
    subst (λ n. HasFields n c.index.result.now.event) (sym c.loop-at.invariant.fields)
    (run_fields c.args.fields c.args.from c.args.events.now.items (c.loop-at.at - 1) c.index.result.now
    (omega (arith, c.loop-at-test.true)) (omega (arith, c.loop-at-test.true, c.loop-at.invariant.within))
    c.index.ensures c.requires.fields)

pub returns-clause-said : goal.returns-clause-said
returns-clause-said c =
    let xs = c.args.events.now.items in
    c.of.ensures ∙ c.loop-at.invariant.said ∙ elim c.loop-at-test.branch [
      | then-loop-at-test+else-not-says_each w ↦
          said_reaches c.args.fields c.args.from c.loop-at.at xs c.loop-at.invariant.after c.loop-at.invariant.within
          c.requires.fields (sym (ap says_each (w.as_slice.ensures.value ∙ c.loop-at.invariant.said))
          ∙ sym w.says_each.ensures ∙ w.if-not-says_each.false)
      | else-loop-at-test w ↦
          ap (λ n. said_but_last c.args.fields (drop n xs)) (omega (arith, c.loop-at.invariant.after, w.loop-at-test))
    ]
