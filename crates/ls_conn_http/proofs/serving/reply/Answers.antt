use Rattle.ls_conn.specs.Acting.{known}
use Rattle.ls_conn_http.proofs.Answering.{version_replies}
use Rattle.ls_conn_http.proofs.serving.reply.Goals as goal

pub returns-else-version-clause-writes : goal.returns-else-version-clause-writes
returns-else-version-clause-writes g c =
    version_replies g.N.House.deed c.reply_version.result _ _ c.args.name.now c.args.body.now c.args.version _ (known c.args.view.now c.args.seen.now) c.if-version.false c.is_opening.ensures
    c.reply_version.ensures.writes
