-- A subscription that is accepted keeps its session lawful.
use Rattle.std.proofs.Common.{◌≡◌, ℕ, zero, suc, ◌<◌, List, [], ◌∷◌, length, arith, sym, ◌∙◌, None}
use Rattle.ls_event.specs.Shapes.{IsShape}
use Rattle.ls_event.specs.Joining.{plan_of}
use Rattle.ls_request.specs.declared.request.Add.{Add}
use Rattle.ls_record.specs.Cutting.{Ask}
use Rattle.ls_lawful.specs.CommandMode.{IsKeyed}
use Rattle.ls_record.specs.Records.{Item, Session, definitions, history_of, shape_at, added}
use Rattle.ls_record.specs.Cases.{first_code}
use Rattle.ls_record.specs.Acting.{asks_of, add_refusals, subscribed_on}
use Rattle.ls_value.specs.Each.{Each}
use Rattle.ls_lawful.specs.Lawful.{IsSound, LawfulSession}
use Rattle.ls_lawful.proofs.Asked.{IsAsk, IsAsked, asked_is, size_some}
use Rattle.ls_lawful.proofs.Requested.{IsAdd}
use Rattle.ls_record.proofs.Each.{each_map}
use Rattle.ls_lawful.proofs.Frame.{MayJoin, add_keeps}
use Rattle.ls_lawful.proofs.Sessions.{numbered_keeps}
use Rattle.ls_event.specs.declared.event.Mode.TheVariants as mode

-- what an add that is accepted asks for may join
sound_at : (items : List Item) (n : ℕ) → n < length items → Each IsSound items → IsShape (shape_at items n)
sound_at [] n within sound = absurd (omega (arith, within))
sound_at (i ∷ items) zero within sound = sound.0.shape
sound_at (i ∷ items) (suc n) within sound = sound_at items n (omega (arith, within)) sound.1

may_join : (items : List Item) (a : Add) (ask : Ask) → Each IsSound items → IsAdd a → IsAsk items a ask → MayJoin items ask
may_join items a ask sound add is =
    record {
      declared = is.declared;
      some = omega (arith, is.size, size_some a.mode a.size add.size);
      keys = λ command. keyed command (sound_at items ask.item is.declared sound);
    }
  where
    keyed : ask.mode ≡ mode.Command → IsShape (shape_at items ask.item) → IsKeyed
        (plan_of (shape_at items ask.item) (history_of items ask.item) ask.mode ask.size) ask.wanted.places
    keyed command shape =
        let k = is.keys (sym is.mode ∙ command) in
        record { key = shape.key; command = shape.command; apart = shape.apart k.kind; key_shown = k.key; command_shown = k.command }

pub add_lawful : (items : List Item) (number : ℕ → ℕ) (free : ℕ) (s : Session) (a : Add) → Each IsSound items → IsAdd a
    → first_code (add_refusals (definitions items) free s a) ≡ None → LawfulSession items s
    → LawfulSession items (subscribed_on items number a s)
add_lawful items number free s a sound add none =
    let asks : List Ask = asks_of (definitions items) a in
    let k : IsAsked items free s a = asked_is items free s a none in
    numbered_keeps items (added items number a.sub (length a.schema) asks) s
    (add_keeps items number a.sub (length a.schema) asks s.board k.new
    (each_map (IsAsk items a) (MayJoin items) asks (λ ask x. may_join items a ask sound add x) k.each)) (omega arith)
