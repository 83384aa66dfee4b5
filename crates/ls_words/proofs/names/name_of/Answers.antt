use Rattle.std.proofs.Common.{◌≡◌, true, rules}
use Rattle.std.proofs.lemmas.Str.{IsUtf8-from_ascii}
use Rattle.ls_words.specs.Words.{is_name}
use Rattle.ls_words.proofs.Ascii.{name_ascii}
use Rattle.ls_words.proofs.names.name_of.Goals as goal

pub of_utf8-requires : goal.of_utf8-requires
of_utf8-requires c =
    let h : is_name c.args.text.now ≡ true = search rules in
    IsUtf8-from_ascii c.args.text.now (name_ascii c.args.text.now h)
