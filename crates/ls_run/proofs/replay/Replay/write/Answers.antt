use Rattle.std.proofs.Common.{ap, ◌∙◌}
use Rattle.ls_run.specs.Replay.{KeptReplay}
use Rattle.ls_run.proofs.Feeding.{put_taken, put_failed}
use Rattle.ls_run.proofs.replay.Replay.write.Goals as goal
use Rattle.ls_run.proofs.replay.Replay.write.Goals.{in-Taken, in-Failed}

pub returns-clause-writes : goal.returns-clause-writes
returns-clause-writes g c =
    let text = c.deref.ensures.value ∙ ap (λ (k : KeptReplay). k.unwritten) c.self.view_is in
    elim c.match-put.branch [
      | in-Taken w ↦ rw (w.result-is) (put_taken c.args.before _ _ _ (rw text at w.in-Taken.ensures.bytes.1))
      | in-Failed w ↦
          let failed = w.in-Failed.ensures.bytes in
          rw (w.result-is) (put_failed c.args.before _ _ _ failed.0 (rw text at failed.2))
    ]
