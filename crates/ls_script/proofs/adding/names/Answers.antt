use Rattle.std.proofs.Common.{◌∙◌, ap}
use Rattle.std.specs.Str.{is_utf8}
use Rattle.ls_step.specs.Adding.{spaced}
use Rattle.ls_script.proofs.Utf8.{spaced_utf8}
use Rattle.ls_script.proofs.adding.names.Goals as goal

pub text-requires : goal.text-requires
text-requires c =
    let same = c.deref.ensures.value ∙ c.in_ok-spaced.ensures ∙ ap spaced c.as_slice.ensures in
    ap is_utf8 same ∙ spaced_utf8 c.args.word.now c.requires
