use Rattle.std.proofs.Common.{sym, subst}
use Rattle.ls_conn.specs.declared.ended.ConnEnd.{ConnEnd}
use Rattle.ls_conn_http.specs.Bodies.{IsStreamOf}
use Rattle.ls_conn_http.specs.Replying.{RepliesBy}
use Rattle.ls_conn_http.proofs.Sending.{one_has_bound, sent_bound}
use Rattle.ls_conn_http.proofs.Streams.{stream_replies}
use Rattle.ls_conn_http.proofs.opening.give_stream.Goals as goal

pub lose_one-requires : goal.lose_one-requires
lose_one-requires g c = record { last = one_has_bound _ _ _ c.requires.opened }

pub after_stream-requires : goal.after_stream-requires
after_stream-requires g c = record { last = sent_bound _ _ _ _ _ _ _ _ _ c.requires.opened c.over_wire-end.ensures.sent }

pub returns-clause-writes : goal.returns-clause-writes
returns-clause-writes g c =
    subst
    (λ (e : ConnEnd).
    RepliesBy e (g.C.Sink.held c.args.conn.now) (g.C.Sink.held c.over_wire-end.new.conn) (IsStreamOf c.args.session c.args.epoch c.args.seen.now c.after_stream.new.seen))
    (sym c.after_stream.ensures.ends)
    (stream_replies _ _ c.args.session c.args.epoch _ _ _ c.args.seen.now _ c.after_stream.new.seen c.in-Ok.ensures c.requires.opened c.over_wire-end.ensures.sent c.after_stream.ensures.last
    c.after_stream.ensures.lost c.over_wire-end.ensures.left)
