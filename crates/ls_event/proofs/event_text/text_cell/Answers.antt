use Rattle.std.proofs.Common.{◌≡◌, Bool, true, false, Err, refl, ap}
use Rattle.std.proofs.lemmas.Str.{IsUtf8-from_is_utf8, is_utf8-from_IsUtf8}
use Rattle.std.specs.Str.{is_utf8}
use Rattle.ls_value.specs.declared.row.Cell.TheVariants as cell
use Rattle.ls_event.proofs.event_text.text_cell.Goals as goal

pub returns-in-Ok-clause-some : goal.returns-in-Ok-clause-some
returns-in-Ok-clause-some c = (ap cell.Text c.in-Ok.ensures.ok, is_utf8-from_IsUtf8 c.args.bytes.now c.in-Ok.ensures.valid)

pub returns-in-Err-NotUtf8-clause-none : goal.returns-in-Err-NotUtf8-clause-none
returns-in-Err-NotUtf8-clause-none c = by_test (is_utf8 c.args.bytes.now) refl
  where
    by_test : (v : Bool) → is_utf8 c.args.bytes.now ≡ v → v ≡ false
    by_test true e = absurd (c.in-Err-NotUtf8.ensures.not_utf8.0 (ap (λ e. Err e) c.in-Err-NotUtf8.field-0-is) (IsUtf8-from_is_utf8 c.args.bytes.now e))
    by_test false e = refl
