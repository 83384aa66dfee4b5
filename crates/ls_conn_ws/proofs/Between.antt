-- A connection between two turns.
use Rattle.std.proofs.Common.{◌≡◌, ◌<◌, ℕ, List, [], Bool, true, false, Option, None, Some, if◌then◌else◌, sym, ap, subst, ◌∙◌, arith}
use Rattle.std.specs.Option.{unwrap_or}
use Rattle.ls_talk.specs.Lines.{Counts}
use Rattle.ls_talk.specs.Talks.{LetsGo}
use Rattle.ls_talk.specs.declared.talk.Happening.{Happening}
use Rattle.ls_register.specs.Deeds.{Deed}
use Rattle.ls_conn.specs.Acting.{Known}
use Rattle.ls_conn.specs.declared.ended.ConnEnd.{ConnEnd}
use Rattle.ls_conn.specs.declared.ended.ConnEnd.TheVariants as end
use Rattle.ls_conn.specs.declared.ended.TheConstants.{MOST_IDLES}
use Rattle.ls_conn_ws.specs.Streams.{StreamState}
use Rattle.ls_conn_ws.specs.Causes.{HasCause}
use Rattle.ls_conn_ws.specs.Hearing.{GoesOn, Runs, RunsOn}
use Rattle.ls_conn_ws.specs.Serving.{Served, Spoke}
use Rattle.ls_conn_ws.specs.Steps.{HasGone, ended_by, session_of}
use Rattle.ls_conn_ws.specs.declared.step.Step.{Step}
use Rattle.ls_conn_ws.proofs.Counting.{cause_to, let_go_rises, message_runs, runs_first, runs_on}
use Rattle.ls_conn_ws.proofs.Going.{begun, settled}

-- before the first turn
pub gone_first : (deed : Deed) (log : Option (List Happening)) (c : Counts) (f : ℕ) (k : Known) (stream : Option StreamState) → k.seen ≡ [] → stream ≡ None
    → HasGone deed None log log c c f f k stream 0
gone_first deed log c f k stream seen none =
    record { goes = begun deed log k stream seen none; runs = message_runs c c f f (runs_first c f); few = λ _. omega arith }

-- after a turn
pub gone_on : (deed : Deed) (e : Option ConnEnd) (s : Step) (e2 : Option ConnEnd) (log0 log log2 : Option (List Happening)) (c d d2 : Counts) (f g g2 : ℕ)
    (k k2 : Known) (stream stream2 : Option StreamState) (n n2 : ℕ) → e ≡ None → e2 ≡ ended_by s
    → (Served deed log0 log k stream n → GoesOn deed (ended_by s) log0 log2 k2 stream2 n2)
    → (Runs n c d f g → RunsOn (ended_by s) n2 c d2 f g2)
    → (ended_by s ≡ None → n2 < MOST_IDLES)
    → HasGone deed e log0 log c d f g k stream n → HasGone deed e2 log0 log2 c d2 f g2 k2 stream2 n2
gone_on deed e s e2 log0 log log2 c d d2 f g g2 k k2 stream stream2 n n2 none is goes runs few gone =
    let was = subst (λ (x : Option ConnEnd). HasGone deed x log0 log c d f g k stream n) none gone in
    subst (λ (x : Option ConnEnd). HasGone deed x log0 log2 c d2 f g2 k2 stream2 n2) (sym is)
    (record { goes = goes was.goes; runs = runs (runs_on n c d f g was.runs); few = few })

-- the cause of the end, where what was held back is let go after it
pub gone_cause : (deed : Deed) (ended : Option ConnEnd) (log0 log : Option (List Happening)) (c d d2 : Counts) (f g g2 : ℕ) (k : Known) (stream : Option StreamState) (n : ℕ) (whole : Bool)
    → HasGone deed ended log0 log c d f g k stream n → d2 ≡ d → LetsGo whole g g2 → HasCause (unwrap_or ended end.Stopped) c d2 f g2
gone_cause deed None log0 log c d d2 f g g2 k stream n whole gone same l = tt
gone_cause deed (Some e) log0 log c d d2 f g g2 k stream n whole gone same l =
    cause_to e c d d2 f g g2 gone.runs.cause (let_go_rises whole d d2 g g2 same l)

-- what happened by the time at which it is left
pub gone_spoke : (deed : Deed) (ended : Option ConnEnd) (log0 log : Option (List Happening)) (c d : Counts) (f g : ℕ) (k : Known) (stream : Option StreamState) (n : ℕ)
    → HasGone deed ended log0 log c d f g k stream n → Spoke deed (unwrap_or ended end.Stopped) log0 log k stream
gone_spoke deed None log0 log c d f g k stream n gone = settled deed log0 log k stream n gone.goes
gone_spoke deed (Some e) log0 log c d f g k stream n gone = gone.goes

-- the same end, and the same that is known
pub spoke_is : (deed : Deed) (log0 log : Option (List Happening)) (stream : Option StreamState) (e e2 : ConnEnd) (k k2 : Known) → e2 ≡ e → k2 ≡ k → Spoke deed e log0 log k stream
    → Spoke deed e2 log0 log k2 stream
spoke_is deed log0 log stream e e2 k k2 same known_is s =
    subst (λ (x : ConnEnd). Spoke deed x log0 log k2 stream) (sym same) (subst (λ (x : Known). Spoke deed e log0 log x stream) (sym known_is) s)

-- the session of a stream that goes on, and of none
pub session_runs : (stream : Option StreamState) (s : StreamState) (n : ℕ) → stream ≡ Some s → s.runs ≡ true → n ≡ s.told.number → Some n ≡ session_of stream
session_runs stream s n is runs same =
    ap (λ (x : ℕ). Some x) same ∙ sym (ap session_of is ∙ ap (λ (b : Bool). if b then Some s.told.number else None) runs)

pub session_rests : (stream : Option StreamState) (s : StreamState) → stream ≡ Some s → s.runs ≡ false → None ≡ session_of stream
session_rests stream s is rests = sym (ap session_of is ∙ ap (λ (b : Bool). if b then Some s.told.number else None) rests)

pub session_none : (stream : Option StreamState) → stream ≡ None → None ≡ session_of stream
session_none stream is = sym (ap session_of is)
