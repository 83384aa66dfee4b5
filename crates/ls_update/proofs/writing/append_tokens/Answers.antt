use Rattle.std.proofs.Common.{arith, sym, ◌∙◌}
use Rattle.ls_update.proofs.Tokens.{changed_fields-same_at, changed_fields-new_at, more_tokens-value}
use Rattle.ls_update.proofs.writing.append_tokens.Goals as goal

pub loop-i-preserved-then-is_unchanged : goal.loop-i-preserved-then-is_unchanged
loop-i-preserved-then-is_unchanged c =
    let same = changed_fields-same_at c.args.prev.now c.args.row.now c.loop-i.i c.index-row-i.result c.loop-i-test.true
    c.index-row-i.is (sym c.is_unchanged.ensures ∙ c.if-is_unchanged.true) in
    record { few = omega arith; whole = rw same at c.loop-i.invariant.whole }

pub loop-i-preserved : goal.loop-i-preserved
loop-i-preserved c =
    let new = changed_fields-new_at c.args.prev.now c.args.row.now c.loop-i.i c.index-row-i.result c.loop-i-test.true
    c.index-row-i.is (sym c.is_unchanged.ensures ∙ c.if-is_unchanged.false) in
    record {
      few = omega arith;
      whole =
          more_tokens-value c.loop-i.first c.in_ok-first.first c.loop-i.unchanged _ _ _ _ _ c.in_ok-first.ensures.text
          c.in_ok-first.ensures.first c.in_ok-append_value.ensures
          ∙ rw new at c.loop-i.invariant.whole;
    }
