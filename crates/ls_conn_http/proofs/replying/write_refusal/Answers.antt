use Rattle.std.proofs.Common.{ℕ, List, take, subst}
use mathlib.Core.List.{IsPrefix}
use Rattle.ls_conn_http.proofs.Answering.{front_is}
use Rattle.ls_conn_http.proofs.replying.write_refusal.Goals as goal

pub returns-in-Failed-clause-refuses : goal.returns-in-Failed-clause-refuses
returns-in-Failed-clause-refuses g c =
    let h = c.in-Failed.ensures.bytes in (
      take h.0 c.args.text.now,
      subst (λ (x : List ℕ). IsPrefix (take h.0 c.args.text.now) x) c.requires (front_is h.0 c.args.text.now),
      h.2,
    )
