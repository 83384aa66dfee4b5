-- What a request does in a world, and what it is refused for there (TLCP 2.1, requests).
use Rattle.std.specs.Prelude.{ℕ, List, [], ◌∷◌, length, Bool, true, not, Option, None, Some, nat_le}
use Rattle.ls_value.specs.Values.{text_eq}
use Rattle.ls_request.specs.declared.request.Add.{Add}
use Rattle.ls_request.specs.declared.request.Create.{Create}
use Rattle.ls_record.specs.Cases.{first_code}
use Rattle.ls_world.specs.World.{World}
use Rattle.ls_record.specs.Records.{Session, definitions, free_number, alive}
use Rattle.ls_record.specs.declared.TheConstants.{MOST_SESSIONS}
use Rattle.ls_value.specs.declared.limits.TheConstants.{GREATEST_NUMBER}
use Rattle.ls_record.specs.Acting.{subscribed_on, free_slots, add_refusals}

-- a world's session with it
abbrev pub subscribed : World → Add → Session → Session
subscribed w a = subscribed_on w.items (free_number w.sessions) a

abbrev pub add_code : World → Session → Add → Option ℕ
add_code w s a = first_code (add_refusals (definitions w.items) (free_slots w.sessions) s a)

-- the adapter set is the one that is named, where one is
abbrev pub is_set_of : World → Option (List ℕ) → Bool
is_set_of w None = true
is_set_of w (Some name) = text_eq name w.set

-- what a create is refused for, in this order
abbrev pub create_code : World → Create → Option ℕ
create_code w c =
    first_code ((2, not (is_set_of w c.set))
    ∷ (8, nat_le MOST_SESSIONS (alive w.sessions))
    ∷ (74, nat_le GREATEST_NUMBER (length w.sessions))
    ∷ [])
