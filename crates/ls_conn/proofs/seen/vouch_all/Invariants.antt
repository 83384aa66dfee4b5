use Rattle.std.proofs.Common.{◌≡◌, ◌<◌, ℕ, Some, slice_get}
use Rattle.ls_told.specs.Seen.{Testified, LawfulTold}
use Rattle.ls_conn.proofs.seen.vouch_all.Given as goal

abbrev pub invariant-loop-k : goal.invariant-loop-k
invariant-loop-k g l = (j : ℕ) (t : Testified) → j < l.k → slice_get l.tokens j ≡ Some t → LawfulTold g.N.House.deed.config t
