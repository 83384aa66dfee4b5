use Rattle.std.proofs.Common.{sym, subst}
use Rattle.ls_conn.specs.Acting.{known}
use Rattle.ls_conn.specs.declared.ended.ConnEnd.{ConnEnd}
use Rattle.ls_conn.specs.declared.ended.ConnEnd.TheVariants as end
use Rattle.ls_conn_http.specs.Serving.{Served}
use Rattle.ls_conn_http.proofs.Whole.{reads_from, reads_handshake, rose_from, same_sink, served_none, served_refusal, served_reply, served_starved, slow_is, stops_as}
use Rattle.ls_conn_http.proofs.serving.begin.Goals as goal

pub returns-in-Ok-Post-clause-served : goal.returns-in-Ok-Post-clause-served
returns-in-Ok-Post-clause-served g c =
    let s = same_sink _ _ _ _ _ _ (g.met.C.Pipe.sink_is_left c.args.conn.now) (g.met.C.Pipe.sink_is_left c.read_first.new.conn) c.in-Ok-Post.ensures.sink in
    let came = rw c.in-Ok-Post.field-0-is at c.in-Ok-Post.ensures.came in
    served_reply g.N.House.deed c.serve_post.result.end c.read_first.new.intake.bytes.items c.in-Ok-Post.post.name c.in-Ok-Post.post.version c.in-Ok-Post.post.start c.in-Ok-Post.post.length
    c.serve_post.ensures.writes.0 (known c.serve_post.result.view c.serve_post.result.seen) _ _ _ _ _ (reads_from _ _ _ _ c.new-intake.ensures.0 c.in-Ok-Post.ensures.reads) s.0 came.0 came.1
    c.serve_post.ensures.writes.1

pub returns-in-Ok-Post-clause-write_fault : goal.returns-in-Ok-Post-clause-write_fault
returns-in-Ok-Post-clause-write_fault g c =
    let s = same_sink _ _ _ _ _ _ (g.met.C.Pipe.sink_is_left c.args.conn.now) (g.met.C.Pipe.sink_is_left c.read_first.new.conn) c.in-Ok-Post.ensures.sink in
    λ is. rose_from _ _ _ s.1 (c.serve_post.ensures.fault is)

pub returns-in-Ok-clause-came : goal.returns-in-Ok-clause-came
returns-in-Ok-clause-came g c =
    let came = rw c.in-Ok-Upgrade.field-0-is at c.in-Ok-Upgrade.ensures.came in
    reads_handshake _ _ c.read_first.new.intake.bytes.items _ _ _ (reads_from _ _ _ _ c.new-intake.ensures.0 c.in-Ok-Upgrade.ensures.reads) came.0 came.1 c.in-Ok.ensures

pub returns-in-Ok-Upgrade-clause-served : goal.returns-in-Ok-Upgrade-clause-served
returns-in-Ok-Upgrade-clause-served g c =
    let s = same_sink _ _ _ _ _ _ (g.met.C.Pipe.sink_is_left c.args.conn.now) (g.met.C.Pipe.sink_is_left c.read_first.new.conn) c.in-Ok-Upgrade.ensures.sink in
    served_starved g.N.House.deed c.ended.result.end c.read_first.new.intake.bytes.items (known c.ended.result.view c.ended.result.seen) _ _ _ _ c.ended.ensures
    (reads_from _ _ _ _ c.new-intake.ensures.0 c.in-Ok-Upgrade.ensures.reads) s.0

pub returns-in-Some-clause-served : goal.returns-in-Some-clause-served
returns-in-Some-clause-served g c =
    let s = same_sink _ _ _ _ _ _ (g.met.C.Pipe.sink_is_left c.args.conn.now) (g.met.C.Pipe.sink_is_left c.read_first.new.conn) c.in-Err.ensures.sink in
    served_refusal g.N.House.deed c.serve_refusal.result.end c.read_first.new.intake.bytes.items c.in-Some.status
    (known c.serve_refusal.result.view c.serve_refusal.result.seen) _ _ _ _ _
    (reads_from _ _ _ _ c.new-intake.ensures.0 c.in-Err.ensures.reads) s.0 (rw c.in-Some.ensures.some at c.in-Err.ensures.unserved) c.serve_refusal.ensures.writes

pub returns-clause-served : goal.returns-clause-served
returns-clause-served g c =
    let s = same_sink _ _ _ _ _ _ (g.met.C.Pipe.sink_is_left c.args.conn.now) (g.met.C.Pipe.sink_is_left c.read_first.new.conn) c.in-Err.ensures.sink in
    subst
    (λ (e : ConnEnd).
    Served g.N.House.deed e (g.C.Source.unread c.args.conn.now) (g.C.Sink.held c.args.conn.now) (g.C.Sink.held c.read_first.new.conn) (known c.ended-in-None.result.view c.ended-in-None.result.seen))
    (sym c.ended-in-None.ensures)
    (served_none g.N.House.deed c.in-Err.end c.read_first.new.intake.bytes.items (known c.ended-in-None.result.view c.ended-in-None.result.seen) _ _ _ _
    (reads_from _ _ _ _ c.new-intake.ensures.0 c.in-Err.ensures.reads) s.0 (c.status_of.ensures.none c.in-None.is) c.in-Err.ensures.unserved)

pub returns-clause-read_fault : goal.returns-clause-read_fault
returns-clause-read_fault g c = λ is. stops_as _ _ end.ReadFault _ _ _ _ _ _ c.ended-in-None.ensures is c.in-Err.ensures.stops

pub returns-clause-write_fault : goal.returns-clause-write_fault
returns-clause-write_fault g c = λ is. absurd (stops_as _ _ end.WriteFault _ _ _ _ _ _ c.ended-in-None.ensures is c.in-Err.ensures.stops)

pub returns-clause-too_slow : goal.returns-clause-too_slow
returns-clause-too_slow g c =
    λ is. slow_is _ _ _ _ _ _ c.in-Err.ensures.counts c.new-intake.ensures.1 (stops_as _ _ end.TooSlow _ _ _ _ _ _ c.ended-in-None.ensures is c.in-Err.ensures.stops)

pub returns-clause-stopped : goal.returns-clause-stopped
returns-clause-stopped g c = λ is. stops_as _ _ end.Stopped _ _ _ _ _ _ c.ended-in-None.ensures is c.in-Err.ensures.stops

pub returns-clause-left : goal.returns-clause-left
returns-clause-left g c = λ is. stops_as _ _ end.PeerLeft _ _ _ _ _ _ c.ended-in-None.ensures is c.in-Err.ensures.stops
