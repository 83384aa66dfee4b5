-- The line that a turn gave.
use Rattle.std.proofs.Common.{◌≡◌, ℕ, List, length, Result, Ok, Err, IfOk, OnOk, OnErr, Option, inr, subst, ap}
use Rattle.ls_value.specs.declared.text.NoMemory.{NoMemory}
use Rattle.ls_event.specs.declared.item.ItemDef.{ItemDef}
use Rattle.ls_session.specs.declared.session.Turn.{Turn}
use Rattle.ls_session.specs.declared.session.Turn.TheVariants as turn
use Rattle.ls_conn.specs.Answers.{GivesLine, SeesOn, Turns}
use Rattle.ls_told.specs.Seen.{Testified, Grows}
use Rattle.ls_conn.proofs.Given.{sent_there}
use Rattle.ls_conn.proofs.GoingOn.{quiet_turn}
use Rattle.ls_talk.specs.declared.talk.Happening.{Happening}
use Rattle.ls_conn_ws.specs.Giving.{GaveLine, GivesOn, PutsSo}
use Rattle.ls_conn_ws.specs.declared.running.Given.{Given}
use Rattle.ls_conn_ws.specs.declared.running.Given.TheVariants as given

gave_at : (config : List ItemDef) (epoch now : ℕ) (old new : Testified) (text : List ℕ) → GivesLine config epoch now old new text → GaveLine epoch old new text
gave_at config epoch now old new text g = (length g.sends.before, g.sends.mine, sent_there old new epoch text g.tick g.sends)

pub sent_line : (config : List ItemDef) (epoch now : ℕ) (old new : Testified) (text : List ℕ) (r : Result Turn NoMemory) → IfOk r (λ (t : Turn). Turns config epoch now old new text t)
    → IfOk r (λ (t : Turn). t ≡ turn.Send → GaveLine epoch old new text)
sent_line config epoch now old new text (Ok t) is = λ e. gave_at config epoch now old new text (subst (λ (x : Turn). Turns config epoch now old new text x) e is)
sent_line config epoch now old new text (Err e) is = is

-- after a turn its caller sees the same of the session, or more
pub sees_after : (old new : Testified) (r : Result Turn NoMemory) → OnOk r (Grows old new) → OnErr r (SeesOn old new × (new.mine ≡ old.mine)) → SeesOn old new
sees_after old new (Ok t) grows memory = inr grows
sees_after old new (Err e) grows memory = memory.0

-- where it gave no line, it gave none to its caller
pub rest_after : (config : List ItemDef) (epoch now : ℕ) (old new : Testified) (text : List ℕ) (r : Result Turn NoMemory) → IfOk r (λ (t : Turn). Turns config epoch now old new text t)
    → OnErr r (SeesOn old new × (new.mine ≡ old.mine)) → (r ≡ Ok turn.Send → ⊥) → new.mine ≡ old.mine
rest_after config epoch now old new text (Ok t) is memory other =
    quiet_turn config epoch now old new text t (λ e. other (ap (λ (x : Turn). Ok x) e)) is
rest_after config epoch now old new text (Err e) is memory other = memory.1

-- a line that was given, and put or not
pub give_sent : (r : Given) (epoch : ℕ) (t u : Testified) (log log2 : Option (List Happening)) (text : List ℕ) → GaveLine epoch t u text → PutsSo r log log2 text
    → GivesOn r epoch t u log log2
give_sent given.Line epoch t u log log2 text gave puts = (text, gave, puts)
give_sent (given.Rest due) epoch t u log log2 text gave puts = absurd puts
give_sent given.WriteFault epoch t u log log2 text gave puts = (text, gave, puts)
give_sent given.NoMemory epoch t u log log2 text gave puts = inr (text, gave, puts)
