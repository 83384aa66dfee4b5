use Rattle.std.proofs.Common.{◌≡◌, ◌++◌, sym, take-append-drop}
use Rattle.ls_update.proofs.Sets.{spelled_text-parts}
use Rattle.ls_update.proofs.writing.append_text.Goals as goal

pub returns : goal.returns
returns c =
    let cut = c.in-Some.ensures.cases in
    let head = c.in-Some.head.now in
    let rest = c.in-Some.rest.now in
    let text = c.args.text.now in
    let whole : text ≡ head ++ rest = rw (cut.1, cut.2) (sym (take-append-drop 1 text)) in
    rw (spelled_text-parts text head rest whole cut.3) c.append_parts.ensures
