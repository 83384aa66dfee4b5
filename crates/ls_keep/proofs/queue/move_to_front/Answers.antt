use Rattle.std.proofs.Common.{◌∙◌, arith, rules}
use Rattle.ls_keep.proofs.Moved.{moved_more, behind_more}
use Rattle.ls_keep.proofs.queue.move_to_front.Goals as goal

pub loop-moved-preserved : goal.loop-moved-preserved
loop-moved-preserved c =
    let kept = c.loop-moved.invariant in
    record {
      within = search (rules, arith);
      len = c.copy_apart.ensures.len ∙ kept.len;
      moved = moved_more c.loop-moved.bytes c.copy_apart.new.bytes c.args.bytes.now c.args.from c.loop-moved.moved c.min-count.result
          kept.moved kept.behind c.copy_apart.ensures.copied;
      behind = behind_more c.loop-moved.bytes c.copy_apart.new.bytes c.args.bytes.now c.args.from c.loop-moved.moved c.min-count.result
          kept.behind c.copy_apart.ensures.behind;
    }
