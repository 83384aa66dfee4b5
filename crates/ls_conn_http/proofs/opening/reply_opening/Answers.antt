use Rattle.std.proofs.Common.{refl}
use Rattle.ls_conn.specs.Acting.{known}
use Rattle.ls_conn.proofs.Opened.{opened_one}
use Rattle.ls_conn_http.specs.Bodies.{asked}
use Rattle.ls_conn_http.proofs.Answering.{no_text_stopped}
use Rattle.ls_conn_http.proofs.Streams.{line_replies, stream_opens}
use Rattle.ls_conn_http.proofs.opening.reply_opening.Goals as goal

pub give_stream-requires : goal.give_stream-requires
give_stream-requires g c =
    record {
      opened = opened_one g.N.House.deed (asked c.args.name.now c.args.params.now c.now-now.result) c.args.view.now c.args.seen.now (known c.act.new.view c.act.new.seen) c.act.result
          c.in-Opened.session c.in-Opened.epoch c.requires.none c.in-Opened.is c.act.ensures.acts;
    }

pub returns-in-Line-clause-writes : goal.returns-in-Line-clause-writes
returns-in-Line-clause-writes g c =
    line_replies g.N.House.deed c.args.name.now c.args.params.now c.now-now.result (known c.args.view.now c.args.seen.now) (known c.act.new.view c.act.new.seen) c.act.result c.in-Line.text _ _ _ _
    c.act.ensures.acts (record { register = c.act.ensures.register; seen = c.act.ensures.seen }) c.in-Line.is c.as_slice.ensures c.reply_line.ensures.writes

pub returns-in-Line-clause-stopped : goal.returns-in-Line-clause-stopped
returns-in-Line-clause-stopped g c = λ is. absurd (no_text_stopped _ _ _ _ c.reply_line.ensures.writes is)

pub returns-in-Opened-clause-writes : goal.returns-in-Opened-clause-writes
returns-in-Opened-clause-writes g c =
    stream_opens g.N.House.deed c.args.name.now c.args.params.now c.now-now.result (known c.args.view.now c.args.seen.now) (known c.act.new.view c.act.new.seen)
    (known c.act.new.view c.give_stream.new.seen) c.act.result c.in-Opened.session c.in-Opened.epoch _ _ _ c.act.ensures.acts
    (record { register = c.act.ensures.register; seen = c.act.ensures.seen }) c.in-Opened.is refl c.give_stream.ensures.writes
