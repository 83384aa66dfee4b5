use Rattle.ls_merge.specs.Stands.{merge_fresh}
use Rattle.ls_merge.proofs.merge.MergeBuffer.new.Goals as goal

pub returns-clause-stands : goal.returns-clause-stands
returns-clause-stands c = λ p h j. rw (c.is_owed.ensures, c.in_ok-touched.ensures, c.len.ensures, c.new.ensures.items)
    (merge_fresh c.args.n c.args.base c.args.state c.args.owed p h c.requires.some j)
