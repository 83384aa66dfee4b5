use Rattle.ls_form.proofs.Printed.{milli_of-milli_text}
use Rattle.ls_form.proofs.law.a_printed_decimal_is_read_as_itself.Goals as goal

pub returns : goal.returns
returns c = milli_of-milli_text
