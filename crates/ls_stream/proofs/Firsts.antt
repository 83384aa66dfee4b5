-- What is given first is what the world's turn gives first.
use Rattle.std.proofs.Common.{◌≡◌, ℕ, Bool, List, [], ◌∷◌, length, true, false, refl, cond, nat_lt, unwrap_or, None, Some}
use Rattle.ls_record.specs.Turning.{SessionTurn, Send, Superseded, session_turn, turn_bound, turn_owing, round_turn}
use Rattle.ls_record.specs.Turning.{next_given, gives_unbound, loop_text}
use Rattle.ls_record.specs.Records.{Item, Life, Alive, Ending, Closed, Session, is_to_loop, is_unsent, is_bound}
use Rattle.ls_record.specs.Records.{unbound_at}
use Rattle.ls_stream.specs.Giving.{given_first, bound_first, owed_first}

owing_is : (now : ℕ) (items : List Item) (s : Session) (owed : List (List ℕ))
    → turn_owing now items s owed ≡ unwrap_or (owed_first now s owed) (round_turn now items s)
owing_is now items s (text ∷ owed) = refl
owing_is now items s [] = by_tests (is_to_loop s.streams) (is_unsent s) (round_turn now items s)
  where
    by_tests : (over more : Bool) (rest : SessionTurn)
        → cond over (record { session = unbound_at now s; gives = Send loop_text }) (cond more (next_given s) rest)
        ≡ unwrap_or (cond over (Some (record { session = unbound_at now s; gives = Send loop_text })) (cond more (Some (next_given s)) None)) rest
    by_tests true more rest = refl
    by_tests false true rest = refl
    by_tests false false rest = refl

bound_is : (now : ℕ) (items : List Item) (s : Session) (l : Life) → turn_bound now items s l ≡ unwrap_or (bound_first now s l) (round_turn now items s)
bound_is now items s Alive = owing_is now items s s.owed
bound_is now items s (Ending code) = refl
bound_is now items s (Closed code) = refl

pub turn_is : (now epoch : ℕ) (items : List Item) (s : Session)
    → session_turn now items epoch s ≡ unwrap_or (given_first now epoch s) (round_turn now items s)
turn_is now epoch items s = by_tests (nat_lt epoch (length s.streams)) (is_bound s)
  where
    by_tests : (older bound : Bool)
        → cond older (record { session = s; gives = Superseded (length s.streams) })
        (cond bound (turn_bound now items s s.life) (record { session = s; gives = gives_unbound s.life }))
        ≡ unwrap_or (cond older (Some (record { session = s; gives = Superseded (length s.streams) }))
        (cond bound (bound_first now s s.life) (Some (record { session = s; gives = gives_unbound s.life })))) (round_turn now items s)
    by_tests true bound = refl
    by_tests false true = bound_is now items s s.life
    by_tests false false = refl
