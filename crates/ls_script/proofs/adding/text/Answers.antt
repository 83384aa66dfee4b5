use Rattle.std.proofs.lemmas.Str.{IsUtf8-from_is_utf8}
use Rattle.ls_script.proofs.adding.text.Goals as goal

pub of_utf8-requires : goal.of_utf8-requires
of_utf8-requires c = IsUtf8-from_is_utf8 c.args.bytes.now c.requires
