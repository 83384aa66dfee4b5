use Rattle.std.proofs.Common.{subst}
use Rattle.ls_keep.specs.Kept.{KeptLines, GaveUp}
use Rattle.ls_keep.proofs.Trimming.{with_given, marked_stands, given_is}
use Rattle.ls_keep.proofs.keep.Keep.mark.Goals as goal

pub returns-clause-stands : goal.returns-clause-stands
returns-clause-stands c = λ n st.
    marked_stands c.args.self.now c.trim.new.self n st c.requires
    (subst (λ (v : KeptLines). GaveUp (with_given v) c.trim.new.self) c.self.view_is c.trim.ensures.gave_up) c.trim.ensures.is_trim

pub returns-clause-given : goal.returns-clause-given
returns-clause-given c = λ n st.
    given_is c.args.self.now c.trim.new.self n st c.requires
    (subst (λ (v : KeptLines). GaveUp (with_given v) c.trim.new.self) c.self.view_is c.trim.ensures.gave_up) c.trim.ensures.is_trim
