use Rattle.ls_soak.proofs.soaking.Soaking.play_piece.Goals as goal

pub returns-clause-bad : goal.returns-clause-bad
returns-clause-bad c = λ is lines all l. c.play.ensures.bad is lines all (rw c.if-last.false at l)
