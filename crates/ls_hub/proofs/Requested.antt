-- Requests by the cases of their definitions: which session one names, and what it does.
use Rattle.std.proofs.Common.{◌≡◌, ◌⊎◌, ℕ, zero, ◌<◌, ◌≤◌, List, ◌++◌, length, take, refl, sym, ◌∙◌, ap, subst, cond, inl, inr}
use Rattle.std.proofs.Common.{Bool, true, false, Option, Some, None, slice_get, slice_index_or}
use Rattle.std.proofs.lemmas.List.{take_at}
use Rattle.ls_form.specs.declared.form.Pair.{Pair}
use Rattle.ls_line.specs.Lines.{text_of_line}
use Rattle.ls_request.specs.declared.request.LinkKind.{LinkKind}
use Rattle.ls_request.specs.declared.request.Op.{Op}
use Rattle.ls_request.specs.declared.request.Op.TheVariants as op
use Rattle.ls_request.specs.declared.request.Request.{Request}
use Rattle.ls_request.specs.declared.request.Request.TheVariants as request
use Rattle.ls_request.specs.declared.request.RequestRefused.{RequestRefused}
use Rattle.ls_request.specs.declared.request.RequestRefused.TheVariants as unread
use Rattle.ls_request.specs.Requests.{request_of, req_behind}
use Rattle.ls_step.specs.Notes.{text_of_out}
use Rattle.ls_step.specs.declared.out.Out.TheVariants as out
use Rattle.ls_world.specs.World.{World}
use Rattle.ls_record.specs.Records.{Session, is_alive, change}
use Rattle.ls_session.specs.Record.{Record}
use Rattle.ls_session.specs.Session.{StandsSession}
use Rattle.ls_session.specs.declared.session.Session.{Session as Kept}
use Rattle.ls_hub.proofs.Sessions.{KeptAt, kept_read, none_kept}
use Rattle.ls_record.specs.Cases.{with_found}
use Rattle.ls_world.specs.Steps.{Stepped, with_living, session_named, refuses, operates, operated, acts, malformed}
use Rattle.ls_world.specs.Steps.{requests}
use Rattle.ls_record.specs.Acting.{request_over}
use Rattle.ls_record.proofs.Rules.{found_none}
use Rattle.ls_hub.specs.Hub.{StandsHub, Prints, name_at}
use Rattle.ls_acts.specs.Answers.{answer_line}
use Rattle.ls_hub.specs.Requests.{living_place, IsLiving, DidOperate, unless_refused, operation, operation_code}
use Rattle.ls_hub.specs.declared.hub.Hub.{Hub}
use Rattle.ls_hub.proofs.Connected.{line_printed}

-- no session that hasn't ended
pub living_none : {A : Type 0} (sessions : List Session) (place : Option ℕ) (none : A) (f : ℕ → Session → A) → living_place sessions place ≡ None
    → with_living sessions place none f ≡ none
living_none sessions None none f is = refl
living_none sessions (Some n) none f is = by_found (slice_get sessions n) is
  where
    by_alive : (b : Bool) (s : Session) → cond b (Some n) None ≡ None → cond b (f n s) none ≡ none
    by_alive true s e = absurd (let x : Some n ≡ None = e in cc)
    by_alive false s e = refl

    by_found : (o : Option Session) → with_found o None (λ (s : Session). cond (is_alive s.life) (Some n) None) ≡ None
        → with_found o none (λ s. cond (is_alive s.life) (f n s) none) ≡ none
    by_found None e = refl
    by_found (Some s) e = by_alive (is_alive s.life) s e

-- as it is kept
pub living_missing : (h : Hub) (w : World) (n : ℕ) → StandsHub h w → length h.sessions.items ≤ n → None ≡ living_place w.sessions (Some n)
living_missing h w n st high =
    sym (ap (λ o. with_found o None (λ (s : Session). cond (is_alive s.life) (Some n) None)) (none_kept w.tick h.sessions.items w.sessions n st.sessions high))

pub living_there : (h : Hub) (w : World) (n : ℕ) (k : Kept) (b : Bool) → StandsHub h w → n < length h.sessions.items
    → k ≡ slice_index_or h.sessions.items n k → ((r : Record) → StandsSession k r → b ≡ is_alive r.session.life)
    → cond b (Some n) None ≡ living_place w.sessions (Some n)
living_there h w n k b st low at is =
    let r : KeptAt w.tick k w.sessions n = kept_read w.tick h.sessions.items w.sessions n k st.sessions low at in
    ap (λ x. cond x (Some n) None) (is r.stands.asking r.stands.stands ∙ ap (λ (s : Session). is_alive s.life) r.stands.session)
    ∙ sym (ap (λ o. with_found o None (λ (s : Session). cond (is_alive s.life) (Some n) None)) r.found)

-- a session that hasn't ended
pub record Living {A : Type 0} (w : World) (place : Option ℕ) (n : ℕ) (none : A) (f : ℕ → Session → A) : Type 0 where
  pub session : Session
  pub living : IsLiving w n session
  pub is : with_living w.sessions place none f ≡ f n session

pub living_some : {A : Type 0} (w : World) (place : Option ℕ) (n : ℕ) (none : A) (f : ℕ → Session → A) → living_place w.sessions place ≡ Some n
    → Living w place n none f
living_some w None n none f is = absurd (let e : None ≡ Some n = is in cc)
living_some w (Some m) n none f is = by_found (slice_get w.sessions m) refl is
  where
    by_alive : (b : Bool) (s : Session) → slice_get w.sessions m ≡ Some s → is_alive s.life ≡ b → cond b (Some m) None ≡ Some n → Living w (Some m) n none f
    by_alive false s at living e = absurd (let x : None ≡ Some n = e in cc)
    by_alive true s at living e =
        let same : m ≡ n = cc in
        subst (λ (k : ℕ). Living w (Some m) k none f) same
        (record {
          session = s;
          living = record { found = at; alive = living };
          is = ap (λ o. with_found o none (λ t. cond (is_alive t.life) (f m t) none)) at ∙ ap (λ b. cond b (f m s) none) living;
        })

    by_found : (o : Option Session) → slice_get w.sessions m ≡ o → with_found o None (λ (s : Session). cond (is_alive s.life) (Some m) None) ≡ Some n
        → Living w (Some m) n none f
    by_found None at e = absurd (let x : None ≡ Some n = e in cc)
    by_found (Some s) at e = by_alive (is_alive s.life) s at refl e

pub is_living : (w : World) (place : Option ℕ) (n : ℕ) → living_place w.sessions place ≡ Some n → (s : Session) × IsLiving w n s
is_living w place n is = let l = living_some w place n zero (λ m s. m) is in (l.session, l.living)

-- a control request that names no session
pub unknown_printed : (h : Hub) (w : World) (n : ℕ) (req : List ℕ) (session : Option ℕ) (o : Op) (before after : List ℕ) → StandsHub h w
    → living_place w.sessions (session_named w n session) ≡ None
    → after ≡ before ++ text_of_out (out.Line (name_at h.connections.items n) (text_of_line (answer_line req (Some 20))))
    → Prints (acts w n (request.Control (record { req = req; session = session; op = o }))) before after h
unknown_printed h w n req session o before after st none is =
    subst (λ (s : Stepped). Prints s before after h)
    (sym (living_none w.sessions (session_named w n session) (refuses w n req 20) (operates w n req o) none))
    (line_printed h h w w n (text_of_line (answer_line req (Some 20))) before after st st is)

-- one on a session that hasn't ended
pub named_printed : (h' : Hub) (w : World) (n : ℕ) (req : List ℕ) (session : Option ℕ) (o : Op) (place : ℕ) (before after : List ℕ)
    → living_place w.sessions (session_named w n session) ≡ Some place
    → ((s : Session) → IsLiving w place s → Prints (operates w n req o place s) before after h')
    → Prints (acts w n (request.Control (record { req = req; session = session; op = o }))) before after h'
named_printed h' w n req session o place before after some did =
    let l = living_some w (session_named w n session) place (refuses w n req 20) (operates w n req o) some in
    subst (λ (s : Stepped). Prints s before after h') (sym l.is) (did l.session l.living)

-- what an operation does, by its code and its change
operates_is : (w : World) (n : ℕ) (req : List ℕ) (o : Op) (place : ℕ) (s : Session)
    → operates w n req o place s ≡ operated w n req place (operation_code w s o) (operation w o)
operates_is w n req (op.Add a) place s = refl
operates_is w n req (op.Delete sub) place s = refl
operates_is w n req (op.Reconf sub frequency) place s = refl
operates_is w n req (op.Constrain limit) place s = refl
operates_is w n req op.Destroy place s = refl
operates_is w n req op.ForceRebind place s = refl

-- an operation and its answer
pub operation_printed : (h h' : Hub) (w : World) (n : ℕ) (req : List ℕ) (o : Op) (place : ℕ) (s : Session) (answer : Option ℕ)
    (before after : List ℕ) → StandsHub h w → DidOperate w place (operation_code w s o) (operation w o) answer h'
    → after ≡ before ++ text_of_out (out.Line (name_at h.connections.items n) (text_of_line (answer_line req answer)))
    → Prints (operates w n req o place s) before after h'
operation_printed h h' w n req o place s answer before after st did is =
    subst (λ (x : Stepped). Prints x before after h') (sym (operates_is w n req o place s)) (by_code (operation_code w s o) did.answered did.stands)
  where
    f : Session → Session
    f = operation w o

    by_code : (code : Option ℕ) → answer ≡ code → StandsHub h' (unless_refused code place f w) → Prints (operated w n req place code f) before after h'
    by_code None e st' = line_printed h h' w (record w { sessions = change place f w.sessions }) n (text_of_line (answer_line req None)) before after st st'
        (is ∙ ap (λ a. before ++ text_of_out (out.Line (name_at h.connections.items n) (text_of_line (answer_line req a)))) e)
    by_code (Some k) e st' = line_printed h h' w w n (text_of_line (answer_line req (Some k))) before after st st'
        (is ∙ ap (λ a. before ++ text_of_out (out.Line (name_at h.connections.items n) (text_of_line (answer_line req a)))) e)

-- one that was refused leaves the hub as it was
pub refused_stands : (h : Hub) (w : World) (place : ℕ) (o : Option ℕ) (f : Session → Session) (code : ℕ) → DidOperate w place o f (Some code) h
    → StandsHub h w
refused_stands h w place o f code d = subst (λ (x : Option ℕ). StandsHub h (unless_refused x place f w)) (sym d.answered) d.stands

-- a line gave way to another one
pub gave_way : (before line between left other after : List ℕ) (n : ℕ) → n ≡ length before → between ≡ before ++ line → left ≡ take n between
    → after ≡ left ++ other → after ≡ before ++ other
gave_way before line between left other after n many more cut is =
    is ∙ ap (λ xs. xs ++ other) (cut ∙ ap (take n) more ∙ take_at before line n (sym many))

-- a request that is refused in reading
pub unread_printed : (h : Hub) (w : World) (n : ℕ) (l : LinkKind) (name : List ℕ) (ps : List Pair) (e : RequestRefused) (req : Option (List ℕ))
    (before after : List ℕ)
    → (e ≡ unread.NoMemory) ⊎ ((request_of l name ps ≡ None) × (e ≡ unread.Malformed (req_behind name ps))) → e ≡ unread.Malformed req
    → Prints (malformed w n name req) before after h → Prints (requests w n l name (Some ps)) before after h
unread_printed h w n l name ps e req before after (inl none) is did = absurd (let x : unread.NoMemory ≡ unread.Malformed req = sym none ∙ is in cc)
unread_printed h w n l name ps e req before after (inr x) is did =
    let named : unread.Malformed (req_behind name ps) ≡ unread.Malformed req = sym x.1 ∙ is in
    let same : req_behind name ps ≡ req = cc in
    subst (λ (s : Stepped). Prints s before after h)
    (sym (found_none (request_over l name (Some ps)) (malformed w n name (req_behind name ps)) (acts w n) x.0 ∙ ap (malformed w n name) same)) did

-- one that was read
pub read_printed : (h' : Hub) (w : World) (n : ℕ) (l : LinkKind) (name : List ℕ) (ps : List Pair) (r : Request) (before after : List ℕ)
    → request_of l name ps ≡ Some r → Prints (acts w n r) before after h' → Prints (requests w n l name (Some ps)) before after h'
read_printed h' w n l name ps r before after is did =
    subst (λ (s : Stepped). Prints s before after h') (sym (ap (λ o. with_found o (malformed w n name (req_behind name ps)) (acts w n)) is)) did
