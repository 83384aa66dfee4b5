use Rattle.std.proofs.Common.{◌∙◌, ◌++◌, ap}
use Rattle.std.proofs.lemmas.Result.{on_ok_weaker}
use Rattle.ls_line.specs.declared.line.Line.{Line}
use Rattle.ls_line.specs.declared.line.Line.TheVariants as line
use Rattle.ls_line.specs.Lines.{text_of_line}
use Rattle.ls_step.specs.Notes.{text_of_out}
use Rattle.ls_step.specs.declared.out.Out.TheVariants as out
use Rattle.ls_record.specs.Acting.{message_of}
use Rattle.ls_hub.specs.Hub.{name_at}
use Rattle.ls_hub.proofs.Connected.{line_printed}
use Rattle.ls_hub.proofs.hub.Hub.refuse_stream.Goals as goal

pub returns : goal.returns
returns c = on_ok_weaker c.line.result (λ is w st.
    line_printed c.args.self.now c.args.self.now w w c.args.connection (text_of_line (line.ConErr c.args.code (message_of c.args.code)))
    c.args.text.now.items c.line.new.text.items st st
    (is ∙ ap (λ (l : Line). c.args.text.now.items ++ text_of_out (out.Line (name_at c.args.self.now.connections.items c.args.connection) (text_of_line l)))
    c.in_ok-line.ensures)) c.line.ensures
