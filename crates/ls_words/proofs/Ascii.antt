-- Names are ASCII.
use Rattle.std.proofs.Common.{◌≡◌, ◌<◌, ℕ, List, true, arith, IsAscii}
use Rattle.std.proofs.lemmas.Bool.Decides.{nat_tests}
use Rattle.std.proofs.lemmas.List.Sums.{AllPass-from_list_all}
use Rattle.std.proofs.lemmas.Str.Ascii.{IsAscii-from_all}
use Rattle.ls_value.proofs.Rows.{and_right}
use Rattle.ls_words.specs.Words.{is_name_byte, is_name}

name_byte_small : (b : ℕ) → is_name_byte b ≡ true → b < 128
name_byte_small b h = grind (arith, nat_tests)

pub name_ascii : (t : List ℕ) → is_name t ≡ true → IsAscii t
name_ascii t h = IsAscii-from_all t (λ k d l. name_byte_small _ (AllPass-from_list_all is_name_byte t (and_right _ _ h) k d l))
