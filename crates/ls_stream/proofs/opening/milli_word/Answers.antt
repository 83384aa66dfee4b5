use Rattle.std.proofs.Common.{◌≤◌, ℕ, List, length, IsUtf8, ◌∙◌, sym, subst}
use Rattle.ls_record.proofs.Milli.{milli_utf8}
use Rattle.ls_stream.proofs.Lengths.{ok_is, milli_few}
use Rattle.ls_stream.proofs.opening.milli_word.Goals as goal

pub of_utf8-requires : goal.of_utf8-requires
of_utf8-requires c = subst IsUtf8 (sym (c.as_slice.ensures ∙ c.in_ok-text.ensures)) (milli_utf8 c.args.n c.ranges.n.fits)

pub returns-clause-short : goal.returns-clause-short
returns-clause-short c =
    ok_is (λ t. length t ≤ 24) c.of_utf8.result c.as_slice.result.now
    (subst (λ (t : List ℕ). length t ≤ 24) (sym (c.as_slice.ensures ∙ c.in_ok-text.ensures)) (milli_few c.args.n c.ranges.n.fits)) c.of_utf8.ensures
