use Rattle.std.proofs.Common.{sym, subst, ap, ◌∙◌, Some}
use Rattle.ls_told.specs.Seen.{Testified}
use Rattle.ls_told.specs.Requests.{HasBound}
use Rattle.ls_conn_ws.proofs.Opened.{last_alone, state_of}
use Rattle.ls_conn_ws.proofs.answering.open_stream.Goals as goal

pub begin-requires-clause-bound : goal.begin-requires-clause-bound
begin-requires-clause-bound g c =
    subst (λ (t : Testified). HasBound c.args.epoch t.lines) (last_alone _ _ _ (sym c.requires.alone.are ∙ c.in-Some.ensures)).1 c.requires.alone.bound

pub returns : goal.returns
returns g c =
    record {
      opens = record {
        alone = c.requires.alone;
        none = (last_alone _ _ _ (sym c.requires.alone.are ∙ c.in-Some.ensures)).0;
        is = c.begin.ensures ∙ ap (λ (t : Testified). Some (state_of t c.args.epoch)) (sym (last_alone _ _ _ (sym c.requires.alone.are ∙ c.in-Some.ensures)).1);
      };
    }
