use Rattle.std.proofs.Common.{inr}
use Rattle.ls_conn_http.proofs.Whole.{same_sink, same_unread, switched, unanswered}
use Rattle.ls_conn_http.proofs.serving.serve_first.Goals as goal

pub returns-in-Ok-accept-clause-socket : goal.returns-in-Ok-accept-clause-socket
returns-in-Ok-accept-clause-socket g c =
    let s = same_sink _ _ _ _ _ _ (g.met.C.Pipe.sink_is_left c.args.conn.now) (g.met.C.Pipe.sink_is_left c.begin.new.conn) c.in-Ok.ensures.sink in
    let same = same_unread _ _ _ _ _ _ _ _ (g.met.C.Pipe.source_is_left c.begin.new.conn) (g.met.C.Pipe.source_is_left c.accept.new.conn) c.accept.ensures.source in
    switched _ _ _ _ _ _ c.in-Ok.field-0.key c.as_slice.result.now c.in-Ok.field-0.rest.items c.in-Ok.ensures.came same s.0
    (let k = c.as_slice.ensures in let is = c.in-Ok.key-is in cc) c.in-Ok-accept.ensures.replied

pub returns-in-Ok-clause-served : goal.returns-in-Ok-clause-served
returns-in-Ok-clause-served g c =
    let s = same_sink _ _ _ _ _ _ (g.met.C.Pipe.sink_is_left c.args.conn.now) (g.met.C.Pipe.sink_is_left c.begin.new.conn) c.in-Ok.ensures.sink in
    let same = same_unread _ _ _ _ _ _ _ _ (g.met.C.Pipe.source_is_left c.begin.new.conn) (g.met.C.Pipe.source_is_left c.accept.new.conn) c.accept.ensures.source in
    inr (unanswered c.ended.result.end c.in-Err-accept.end _ _ _ _ _ _ c.in-Ok.field-0.key c.as_slice.result.now c.in-Ok.field-0.rest.items c.ended.ensures c.in-Ok.ensures.came same s.0
    (let k = c.as_slice.ensures in let is = c.in-Ok.key-is in cc) c.in-Err-accept.ensures.part c.in-Err-accept.ensures.ended)
