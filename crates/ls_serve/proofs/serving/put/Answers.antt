use Rattle.ls_serve.proofs.Ends.{put_part}
use Rattle.ls_serve.proofs.serving.put.Goals as goal

pub returns-in-Failed-clause-puts : goal.returns-in-Failed-clause-puts
returns-in-Failed-clause-puts g c = put_part c.args.text.now _ _ c.in-Failed.ensures.bytes
