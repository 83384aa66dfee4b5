use Rattle.ls_told.proofs.Gapless.{given_since, told_sent}
use Rattle.ls_told.proofs.law.lines_are_given_without_a_gap.Goals as goal

pub returns : goal.returns
returns c = λ config number es more early late s t was is same.
    given_since number es more is.counts same (told_sent config number es early s was)
