use Rattle.std.proofs.Common.{IsUtf8, ◌∙◌, sym, subst}
use Rattle.ls_record.proofs.Milli.{milli_utf8}
use Rattle.ls_subs.proofs.lines.milli_word.Goals as goal

pub of_utf8-requires : goal.of_utf8-requires
of_utf8-requires c = subst IsUtf8 (sym (c.as_slice.ensures ∙ c.in_ok-text.ensures)) (milli_utf8 c.args.n c.ranges.n.fits)
