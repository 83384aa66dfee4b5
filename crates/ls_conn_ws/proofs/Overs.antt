-- A stream that doesn't go on is over.
use Rattle.std.proofs.Common.{◌≡◌, ◌⊎◌, ℕ, List, [], ◌∷◌, Result, Ok, Err, IfOk, inl, inr, Bool, true, false, not, Option, None, Some, IfSome, refl, sym, ap, subst, ◌∙◌}
use Rattle.ls_value.specs.Values.{text_eq}
use Rattle.ls_value.specs.declared.text.NoMemory.{NoMemory}
use Rattle.ls_value.proofs.Rows.{text_eq_true}
use Rattle.ls_event.specs.declared.item.ItemDef.{ItemDef}
use Rattle.ls_record.specs.Turning.{loop_text}
use Rattle.ls_session.specs.declared.session.Lost.{Lost}
use Rattle.ls_session.specs.declared.session.Turn.{Turn}
use Rattle.ls_session.specs.declared.session.Turn.TheVariants as turn
use Rattle.ls_told.specs.Seen.{Testified}
use Rattle.ls_told.specs.Requests.{HasBound, OnlyLater}
use Rattle.ls_told.specs.Turns.{HasEnded, IsUnbound}
use Rattle.ls_conn.specs.Answers.{Loses, Turns}
use Rattle.ls_conn.specs.Streaming.{IsGiven}
use Rattle.ls_conn.specs.Lasting.{IsLost, IsLostAt}
use Rattle.ls_conn.proofs.Lasts.{last_holds, last_lost}
use Rattle.ls_conn_ws.specs.Streams.{StreamState}
use Rattle.ls_conn_ws.specs.Giving.{GaveLine}
use Rattle.ls_conn_ws.specs.Losing.{IsOver, LosesRunning, runs_after}

-- a stream that goes on doesn't not go on
pub not_over : {A : Type 0} → true ≡ false → A
not_over e = absurd (let f : true ≡ false = e in cc)

-- a turn after which a stream doesn't go on says why
over_by : (config : List ItemDef) (epoch now : ℕ) (old new : Testified) (text : List ℕ) (t : Turn) → new.number ≡ old.number
    → Turns config epoch now old new text t → runs_after t ≡ false → IsOver epoch new
over_by config epoch now old new text turn.Send number says e = not_over e
over_by config epoch now old new text (turn.Ask ask) number says e = not_over e
over_by config epoch now old new text turn.Idle number says e = not_over e
over_by config epoch now old new text (turn.NotDue at) number says e = not_over e
over_by config epoch now old new text (turn.Ended code) number says e =
    inl (inr (inl (code, subst (λ (n : ℕ). HasEnded n code new.lines) (sym number) says.1)))
over_by config epoch now old new text (turn.Superseded newest) number says e = inl (inr (inr (inl (newest, says.1, says.2))))
over_by config epoch now old new text turn.Unbound number says e =
    inl (inr (inr (inr (subst (λ (n : ℕ). IsUnbound n new.lines) (sym number) says.1))))
over_by config epoch now old new text turn.Spent number says e = not_over e

pub over_after : (config : List ItemDef) (epoch now : ℕ) (old new : Testified) (text : List ℕ) (r : Result Turn NoMemory) → new.number ≡ old.number
    → IfOk r (λ (t : Turn). Turns config epoch now old new text t) → IfOk r (λ (t : Turn). runs_after t ≡ false → IsOver epoch new)
over_after config epoch now old new text (Ok t) number says = over_by config epoch now old new text t number says
over_after config epoch now old new text (Err e) number says = says

-- LOOP was given
not_false : (b : Bool) → not b ≡ false → b ≡ true
not_false true e = refl
not_false false e = not_over e

pub over_looped : (epoch : ℕ) (old new : Testified) (text : List ℕ) (is : Bool) → is ≡ text_eq text loop_text → GaveLine epoch old new text → not is ≡ false
    → IsOver epoch new
over_looped epoch old new text is same gave e =
    inl (inl (
      old.mine,
      gave.0,
      gave.1,
      subst (λ (t : List ℕ). IsGiven new.lines epoch gave.0 t) (text_eq_true text loop_text (sym same ∙ not_false is e)) gave.2,
    ))

-- a stream was lost, by what the call says of it
pub loses_at : (epoch now : ℕ) (t u : Testified) (how : Lost) → OnlyLater t u → Loses epoch now t u how → IsLostAt epoch now t u
loses_at epoch now t u how only loses = (ap (λ (x : Testified). x.number) only.rest, how, loses)

pub over_lost : (epoch now : ℕ) (t u : Testified) → IsLostAt epoch now t u → IsOver epoch u
over_lost epoch now t u at =
    inr (last_holds (u ∷ []) [] u (IsLost epoch)
    (last_lost epoch now (t ∷ []) (u ∷ []) (record { front = []; before = t; after = u; were = refl; are = refl; holds = at })) refl)

-- a stream that goes on no more is over
pub over_now : (stream : Option StreamState) → IfSome stream (λ (s : StreamState). s.runs ≡ false)
    → IfSome stream (λ (s : StreamState). HasBound s.epoch s.told.lines × (s.runs ≡ false → IsOver s.epoch s.told))
    → IfSome stream (λ (s : StreamState). HasBound s.epoch s.told.lines × IsOver s.epoch s.told)
over_now None stays over = over
over_now (Some s) stays over = (over.0, over.1 stays)
