use Rattle.std.proofs.Common.{List, ap}
use Rattle.ls_told.specs.Seen.{Testified}
use Rattle.ls_conn.specs.Acting.{known}
use Rattle.ls_conn_ws.specs.Serving.{asked}
use Rattle.ls_conn_ws.proofs.Opened.{opened_there}
use Rattle.ls_conn_ws.proofs.Single.{line_single, opened_single, part_single, none_single}
use Rattle.ls_conn_ws.proofs.answering.answer_single.Goals as goal

pub open_stream-requires-clause-alone : goal.open_stream-requires-clause-alone
open_stream-requires-clause-alone g c =
    opened_there g.N.House.deed (asked c.own_of-own.result c.args.name.now c.args.now c.args.params.now) (known c.args.desk.now.view c.args.desk.now.seen)
    (known c.answer_one.new.view c.answer_one.new.seen) c.in-Opened.session c.in-Opened.epoch c.requires.fresh c.in-Opened.ensures.answers.0

pub returns-in-Line-clause-replies : goal.returns-in-Line-clause-replies
returns-in-Line-clause-replies g c =
    line_single g.N.House.deed c.own_of-own.result c.args.name.now c.args.now c.args.params.now c.args.desk.now.view c.args.desk.now.stream
    (g.T.LineOut.log c.args.talk.now) (g.T.LineOut.log c.answer_one.new.talk) (known c.args.desk.now.view c.args.desk.now.seen) (known c.answer_one.new.view c.answer_one.new.seen)
    c.in-Line.ensures.answers.0 (ap (λ (ts : List Testified). known c.args.desk.now.view ts) c.requires.fresh) c.in-Line.ensures.answers.1 c.in-Line.ensures.answers.2

pub returns-in-Opened-clause-replies : goal.returns-in-Opened-clause-replies
returns-in-Opened-clause-replies g c =
    opened_single g.N.House.deed c.own_of-own.result c.args.name.now c.args.now c.args.params.now c.args.desk.now.view c.args.desk.now.stream
    (g.T.LineOut.log c.args.talk.now) (g.T.LineOut.log c.answer_one.new.talk) (known c.args.desk.now.view c.args.desk.now.seen) (known c.answer_one.new.view c.answer_one.new.seen)
    c.open_stream.new.seen c.open_stream.new.stream c.in-Opened.session c.in-Opened.epoch (ap (λ (ts : List Testified). known c.args.desk.now.view ts) c.requires.fresh)
    c.in-Opened.ensures.answers.0 c.open_stream.ensures.opens c.in-Opened.ensures.answers.1

pub returns-in-WriteFault-clause-replies : goal.returns-in-WriteFault-clause-replies
returns-in-WriteFault-clause-replies g c =
    part_single g.N.House.deed c.own_of-own.result c.args.name.now c.args.now c.args.params.now c.args.desk.now.view c.args.desk.now.stream _ _ (known c.answer_one.new.view c.answer_one.new.seen)
    c.in-WriteFault.ensures.answers.0 c.in-WriteFault.ensures.answers.1 c.in-WriteFault.ensures.answers.2

pub returns-in-NoMemory-clause-replies : goal.returns-in-NoMemory-clause-replies
returns-in-NoMemory-clause-replies g c =
    none_single g.N.House.deed c.own_of-own.result c.args.name.now c.args.now c.args.params.now c.args.desk.now.view c.args.desk.now.stream _ _ (known c.answer_one.new.view c.answer_one.new.seen)
    c.in-NoMemory.ensures.answers
