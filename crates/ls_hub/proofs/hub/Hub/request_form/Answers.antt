use Rattle.std.proofs.Common.{◌∙◌}
use Rattle.std.proofs.lemmas.Result.{on_ok_weaker}
use Rattle.ls_hub.proofs.Connected.{link_is}
use Rattle.ls_hub.proofs.hub.Hub.request_form.Goals as goal

pub returns-clause-ok : goal.returns-clause-ok
returns-clause-ok c = on_ok_weaker c.request.result (λ did w st.
    rw (
      c.as_bytes.ensures,
      c.in_ok-params.ensures,
      c.link_of-link.ensures ∙ link_is c.args.self.now.connections.items w c.args.connection st.connections,
    ) at (did w st)) c.request.ensures.ok
