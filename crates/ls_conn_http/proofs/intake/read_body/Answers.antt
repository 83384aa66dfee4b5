use Rattle.std.proofs.Common.{Err, ap}
use Rattle.ls_http.specs.declared.head.Head.TheVariants as head
use Rattle.ls_conn.specs.declared.ended.ConnEnd.{ConnEnd}
use Rattle.ls_conn_http.proofs.Unread.{unserved, head_here, head_there, short_there}
use Rattle.ls_conn_http.proofs.intake.read_body.Goals as goal

pub returns-in-Ok-clause-came : goal.returns-in-Ok-clause-came
returns-in-Ok-clause-came g c =
    (head_there _ _ _ _ (head.Post c.in-Post.name c.in-Post.version c.in-Post.length) c.args.start c.in-Ok.ensures.reads (rw c.in-Post.is at c.requires.found), c.in-Ok.ensures.whole)

pub returns-in-Err-clause-unserved : goal.returns-in-Err-clause-unserved
returns-in-Err-clause-unserved g c =
    unserved c.in-Err.end _ _ _ _ _ _ _ c.in-Err.ensures.stops (λ status is. c.in-Err.ensures.no_refusal status (ap (λ (x : ConnEnd). Err x) is))
    (short_there _ c.in-Post.name c.in-Post.version c.args.start c.in-Post.length
    (head_there _ _ _ _ (head.Post c.in-Post.name c.in-Post.version c.in-Post.length) c.args.start c.in-Err.ensures.reads (rw c.in-Post.is at c.requires.found)) c.in-Err.ensures.short)

pub returns-in-Upgrade-clause-came : goal.returns-in-Upgrade-clause-came
returns-in-Upgrade-clause-came g c = (head_here _ (head.Upgrade c.in-Upgrade.key) c.args.start (rw c.in-Upgrade.is at c.requires.found), c.requires.within)
