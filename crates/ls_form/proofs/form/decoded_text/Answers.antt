use Rattle.std.proofs.Common.{rules}
use Rattle.form_urlencoded.specs.Form as url
use Rattle.ls_form.proofs.Utf8.{is_text, is_no_text}
use Rattle.ls_form.proofs.form.decoded_text.Goals as goal

pub returns-in-Ok : goal.returns-in-Ok
returns-in-Ok c =
    let e = is_text (url.decode c.args.bytes.now) (search rules) in
    search (rules, e)

pub returns-in-Err-NotUtf8 : goal.returns-in-Err-NotUtf8
returns-in-Err-NotUtf8 c =
    let e = is_no_text (url.decode c.args.bytes.now) (search rules) in
    search (rules, e)
