-- What an add that was done says, in the words of a caller that sees all of the session then.
use Rattle.std.proofs.Common.{◌≡◌, ℕ, List, [], ◌∷◌, ◌++◌, length, Option, refl, sym, ◌∙◌, ap, subst}
use Rattle.ls_event.specs.declared.item.ItemDef.{ItemDef}
use Rattle.ls_request.specs.declared.request.Add.{Add}
use Rattle.ls_mirror.specs.declared.command.KeyPlaces.{KeyPlaces}
use Rattle.ls_record.specs.Acting.{asks_of}
use Rattle.ls_record.specs.Lines.{Begins, Configures, line_text}
use Rattle.ls_record.specs.Cutting.{Ask}
use Rattle.ls_record.specs.Records.{frequency_of, are_filtered, keys_in, keys_shown}
use Rattle.ls_record.specs.Tables.{keys_shown_at}
use Rattle.ls_register.specs.declared.made.Made.{Made}
use Rattle.ls_register.specs.declared.made.Made.TheVariants.{Claimed}
use Rattle.ls_register.specs.declared.told.Told.{Told}
use Rattle.ls_register.specs.Sessions.{Gains}
use Rattle.ls_told.specs.Requests.{AddsSub, AreAsked, AreBegunFor, plain, begins_with, slots_in}
use Rattle.ls_told.specs.Seen.{Watched, Testified, IsTold, items_seen}
use Rattle.ls_told.proofs.Watching.{shape_seen}
use Rattle.ls_subs.specs.Plans.{keys_of_asks}
use Rattle.ls_parts.proofs.Shown.{lawful_of}
use Rattle.ls_joining.specs.Adding.{AddsTo}

-- the items as they were seen are declared as the config says, so a schema shows the same keys
keys_seen : (config : List ItemDef) (ws : List Watched) (asks : List Ask) → keys_shown (items_seen config ws) asks ≡ keys_of_asks config asks
keys_seen config ws [] = refl
keys_seen config ws (a ∷ asks) = ap (λ shape. keys_in a.mode (keys_shown_at shape a.wanted.places)) (shape_seen config ws a.item)

pub adds_sub : (config : List ItemDef) (number : ℕ) (a : Add) (free tick : ℕ) (before es : List Told) (ws : List Watched) (new : Testified)
    (old : List Made) → new.lines ≡ es → new.watches ≡ ws → Gains (Claimed (length (asks_of config a))) old new.register
    → AddsTo config number a free tick before es ws → AddsSub config number a tick before new old
adds_sub config number a free tick before es ws new old lines watches claimed d =
    record {
      begun = d.begun;
      schema = d.schema;
      begins = subst (λ (vs : List Watched). AreBegunFor vs (asks_of config a) d.begun.slots) (sym watches) d.begins;
      lines = lines ∙ d.lines
          ∙ ap (λ (keys : Option KeyPlaces). before
          ++ begins_with (line_text [] (Begins a.sub (length (asks_of config a)) (length a.schema) keys)) d.begun tick
          ∷ plain (line_text [] (Configures a.sub (frequency_of (asks_of config a)) (are_filtered (asks_of config a)))) tick ∷ [])
          (sym (keys_seen config new.watches (asks_of config a)));
      session = d.session;
      told = subst (λ (l : List Told). IsTold config number l new.watches d.session) (sym lines)
          (subst (λ (vs : List Watched). IsTold config number es vs d.session) (sym watches) (lawful_of config number es ws d.session d.told));
      slots = subst (λ (vs : List Watched). AreAsked config vs a.sub 1 (asks_of config a) (slots_in a.sub d.session)) (sym watches) d.slots;
      claimed = claimed;
    }
