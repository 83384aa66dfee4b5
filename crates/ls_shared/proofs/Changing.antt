-- What operations say of a session, in the words of those who asked for them.
use Rattle.std.proofs.Common.{◌≡◌, ℕ, List, [], ◌∷◌, ◌++◌, length, Option, Some, None, refl, sym, ap, subst, ◌∙◌, Result, Ok, Err, OnOk}
use Rattle.std.proofs.Common.{slice_get, arith, append_assoc, Bool, true, false, not, is_some, OnSome}
use Rattle.std.proofs.lemmas.Grind.{elements}
use Rattle.std.specs.Result.{OnErr}
use Rattle.ls_register.specs.declared.made.Made.TheVariants.{Freed, Gone}
use Rattle.ls_register.specs.Sessions.{Gains}
use Rattle.ls_register.proofs.Showing.{at_end}
use Rattle.ls_told.specs.Requests.{Reconfigures, EndsSub, Destroys, DoneBy, Does, InTime, op_refusals}
use Rattle.ls_live_session.specs.Groups.{SubSeen}
use Rattle.ls_live_session.specs.Leaving.{SetsFrequency, EndsSub as Ended, EndsAll}
use Rattle.ls_record.specs.Acting.{destroyed}
use Rattle.ls_record.specs.Cases.{first_code}
use Rattle.ls_record.specs.Records.{is_alive}
use Rattle.ls_told.specs.Spoken.{Spoken}
use Rattle.ls_told.specs.Heard.{heard, counts_as}
use mathlib.Core.List.{IsPrefix}
use Rattle.ls_chron.proofs.Beginnings.{prefix_self, prefix_length}
use Rattle.ls_event.specs.declared.item.ItemDef.{ItemDef}
use Rattle.ls_lawful.proofs.OneSession.{alone_lawful}
use Rattle.ls_record.specs.Records.{Session}
use Rattle.ls_request.specs.declared.request.Op.{Op}
use Rattle.ls_request.specs.declared.request.Op.TheVariants as op
use Rattle.ls_register.specs.declared.made.Made.{Made}
use Rattle.ls_register.specs.declared.told.Told.{Told}
use Rattle.ls_register.specs.Sessions.{free_in, is_spent}
use Rattle.ls_told.specs.Seen.{Watched, Testified, Grows, IsTold, items_seen}
use Rattle.ls_told.specs.Keeping.{KeepsTold}
use Rattle.ls_told.specs.Requests.{RefusesOp, op_code, is_spent_for}
use Rattle.ls_told.proofs.Watching.{sees_same}
use Rattle.ls_live_session.specs.Speaking.{Speaking}
use Rattle.ls_live_session.specs.Sights.{ShowsAll}
use Rattle.ls_live_session.specs.Leaving.{Finds}
use Rattle.ls_shared.specs.Answers.{AsksSlots, Changes}

pub told_of : (config : List ItemDef) (number : ℕ) (es : List Told) (ws : List Watched) (s : Session) → KeepsTold config number es ws s
    → IsTold config number es ws s
told_of config number es ws s k =
    record {
      told = k.told;
      lawful = alone_lawful (items_seen config ws) s k.none k.alone;
      watched = k.watched;
      ends = k.ends;
      counts = k.counts;
      subs = k.subs;
      numbered = k.numbered;
      slots = k.slots;
    }

pub told_open : (config : List ItemDef) (number : ℕ) (es : List Told) (ws : List Watched) (s : Session) → KeepsTold config number es ws s
    → IsTold config number es ws s
told_open config number es ws s k = told_of config number es ws s k

-- for an operation that asks for no slots, it doesn't matter how many there are, nor whether the register is spent
pub code_of_any : (config : List ItemDef) (es : List Told) (ms : List Made) (s : Session) (o : Op) (code : Option ℕ) → (AsksSlots o → ⊥)
    → op_code config 0 (is_spent es) s o ≡ code → op_code config (free_in ms) (is_spent_for o es ms) s o ≡ code
code_of_any config es ms s (op.Add a) code none is = absurd (none tt)
code_of_any config es ms s (op.Delete sub) code none is = is
code_of_any config es ms s (op.Reconf sub frequency) code none is = is
code_of_any config es ms s (op.Constrain bandwidth) code none is = is
code_of_any config es ms s op.ForceRebind code none is = is
code_of_any config es ms s op.Destroy code none is = is

-- a refusal of a session is true of what its caller sees
pub refuses_as : (config : List ItemDef) (live : Speaking) (old new : Testified) (o : Op) (code : ℕ) → (AsksSlots o → ⊥)
    → ShowsAll live old → new.lines ≡ live.lines → new.watches ≡ old.watches
    → Finds config live.number live.lines live.watches o (Some code)
    → RefusesOp config old.number o code new.lines new.watches new.register
refuses_as config live old new o code none shows lines watches f =
    subst (λ (q : ℕ × (List Told × List Watched)). RefusesOp config q.0 o code q.1.0 q.1.1 new.register)
    (λ i. (sym shows.number i, (sym lines i, sym (watches ∙ shows.watches) i))) (
      f.session,
      told_open config live.number live.lines live.watches f.session f.told,
      code_of_any config live.lines new.register f.session o (Some code) none f.code_is,
    )

-- more of the register was seen
pub registered : (mid new : Testified) (ms : List Made) → mid.later ≡ mid.lines → new ≡ record mid { register = ms } → IsPrefix mid.register ms
    → Grows mid new
registered mid new ms both is begins =
    subst (Grows mid) (sym is)
    (record {
      number = refl;
      table = refl;
      lines = prefix_self mid.lines;
      later = subst (IsPrefix mid.later) both (prefix_self mid.later);
      both = both;
      watches = sees_same mid.watches;
      register = begins;
    })

pub of_err : {A E : Type 0} (r : Result A E) (e : E) (P : Type 0) → r ≡ Err e → OnErr r P → P
of_err {A} {E} r e P is p = subst (λ (q : Result A E). OnErr q P) is p

pub on_ok : {A E : Type 0} (r : Result A E) (P Q : Type 0) → (P → Q) → OnOk r P → OnOk r Q
on_ok (Ok a) P Q f p = f p
on_ok (Err e) P Q f p = p

-- what is so is so of an answer too
pub always : {A E : Type 0} (r : Result A E) (P : Type 0) → P → OnOk r P
always (Ok a) P p = p
always (Err e) P p = tt

-- an entry more is gained
pub gains_end : (m : Made) (old mid new : List Made) → IsPrefix old mid → new ≡ mid ++ m ∷ [] → Gains m old new
gains_end m old mid new begins is =
    (length mid, prefix_length old mid begins, at_end mid new m (length new) is refl)

-- the first of two
pub gains_two : (m n : Made) (old mid new : List Made) → IsPrefix old mid → new ≡ mid ++ m ∷ n ∷ [] → Gains m old new × Gains n old new
gains_two m n old mid new begins is = (
  (length mid, prefix_length old mid begins, ap (λ (l : List Made). slice_get l (length mid)) is ∙ there mid),
  gains_end n old (mid ++ m ∷ []) new (longer begins) (is ∙ sym (append_assoc mid (m ∷ []) (n ∷ []))),
)
  where
    there : (xs : List Made) → slice_get (xs ++ m ∷ n ∷ []) (length xs) ≡ Some m
    there xs = grind (arith, elements)

    longer : IsPrefix old mid → IsPrefix old (mid ++ m ∷ [])
    longer p = (p.0 ++ m ∷ [], sym (append_assoc old p.0 (m ∷ [])) ∙ ap (λ (l : List Made). l ++ m ∷ []) p.1)

-- another frequency
pub reconfigures_as : (config : List ItemDef) (live : Speaking) (new : Testified) (sub : ℕ) (f : Option ℕ) (tick : ℕ) (es : List Told)
    → new.watches ≡ live.watches → new.lines ≡ es → SetsFrequency config live.number sub f tick live.lines es live.watches
    → Reconfigures config live.number sub f tick live.lines new
reconfigures_as config live new sub f tick es watches lines s =
    record {
      earlier = s.earlier;
      was =
          subst (λ (ws : List Watched). IsTold config live.number live.lines ws s.earlier) (sym watches)
          (told_of config live.number live.lines live.watches s.earlier s.was);
      lines = lines ∙ s.lines;
    }

-- the end of a subscription
pub ends_as : (config : List ItemDef) (live : Speaking) (new : Testified) (sub tick slots : ℕ) (left : List SubSeen) (es : List Told) (old : List Made)
    → new.watches ≡ live.watches → new.lines ≡ es → Ended config live.number sub tick live.lines es live.watches slots left
    → Gains (Freed slots) old new.register → EndsSub config live.number sub tick live.lines new old
ends_as config live new sub tick slots left es old watches lines s freed =
    record {
      lines = lines ∙ s.lines;
      earlier = s.earlier;
      was =
          subst (λ (ws : List Watched). IsTold config live.number live.lines ws s.earlier) (sym watches)
          (told_of config live.number live.lines live.watches s.earlier s.was);
      session = s.session;
      told =
          subst (λ (q : List Told × List Watched). IsTold config live.number q.0 q.1 s.session) (λ i. (sym lines i, sym watches i))
          (told_of config live.number es live.watches s.session s.told);
      gone = s.gone;
      freed = subst (λ (n : ℕ). Gains (Freed n) old new.register) s.count freed;
    }

pub of_some : {A : Type 0} (o : Option A) (P : Type 0) → is_some o ≡ true → OnSome o P → P
of_some (Some a) P is p = p
of_some None P is p = absurd (let x : false ≡ true = is in cc)

-- a session to which nothing stands against its end
pub finds_alive : (config : List ItemDef) (live : Speaking) (s : Session) → KeepsTold config live.number live.lines live.watches s
    → is_alive (heard live.number live.lines).life ≡ true → Finds config live.number live.lines live.watches op.Destroy None
finds_alive config live s k lives =
    record { session = s; told = k; code_is = by_test (is_alive s.life) (ap (λ (p : Spoken). is_alive p.life) k.told ∙ lives) }
  where
    by_test : (b : Bool) → b ≡ true → first_code ((20, not b) ∷ []) ≡ None
    by_test true is = refl
    by_test false is = absurd (let x : false ≡ true = is in cc)

-- the end of a session
pub destroys_as : (config : List ItemDef) (live : Speaking) (new : Testified) (tick slots : ℕ) (left : List SubSeen) (es : List Told) (old : List Made)
    → new.watches ≡ live.watches → new.lines ≡ es → EndsAll config live.number destroyed tick live.lines es live.watches slots left
    → Gains (Freed slots) old new.register → Gains (Gone live.number) old new.register → Destroys config live.number tick live.lines new old
destroys_as config live new tick slots left es old watches lines s freed gone =
    record {
      lines = lines ∙ s.lines;
      earlier = s.earlier;
      was =
          subst (λ (ws : List Watched). IsTold config live.number live.lines ws s.earlier) (sym watches)
          (told_of config live.number live.lines live.watches s.earlier s.was);
      freed = subst (λ (n : ℕ). Gains (Freed n) old new.register) s.count freed;
      gone = gone;
    }

pub gains_earlier : (m : Made) (old mid new : List Made) → IsPrefix old mid → Gains m mid new → Gains m old new
gains_earlier m old mid new begins g = (g.0, omega (arith, prefix_length old mid begins, g.1), g.2)

done_earlier : (config : List ItemDef) (number tick : ℕ) (before : List Told) (new : Testified) (old mid : List Made) (o : Op) → IsPrefix old mid
    → DoneBy config number tick before new mid o → DoneBy config number tick before new old o
done_earlier config number tick before new old mid (op.Add a) begins d =
    record {
      begun = d.begun;
      schema = d.schema;
      begins = d.begins;
      lines = d.lines;
      session = d.session;
      told = d.told;
      slots = d.slots;
      claimed = gains_earlier _ old mid new.register begins d.claimed;
    }
done_earlier config number tick before new old mid (op.Delete sub) begins d =
    record {
      lines = d.lines;
      earlier = d.earlier;
      was = d.was;
      session = d.session;
      told = d.told;
      gone = d.gone;
      freed = gains_earlier _ old mid new.register begins d.freed;
    }
done_earlier config number tick before new old mid (op.Reconf sub frequency) begins d = d
done_earlier config number tick before new old mid (op.Constrain bandwidth) begins d = d
done_earlier config number tick before new old mid op.ForceRebind begins d = d
done_earlier config number tick before new old mid op.Destroy begins d =
    record {
      lines = d.lines;
      earlier = d.earlier;
      was = d.was;
      freed = gains_earlier _ old mid new.register begins d.freed;
      gone = gains_earlier _ old mid new.register begins d.gone;
    }

-- an operation was done, in the words of who asked for it
pub does_as : (config : List ItemDef) (o : Op) (now : ℕ) (old shown new : Testified) (live : Speaking) → (AsksSlots o → ⊥) → old.number ≡ live.number
    → IsPrefix old.later live.lines → IsPrefix old.register shown.register
    → (is_alive (heard live.number live.lines).life ≡ true → InTime (counts_as now live.lines) (heard live.number live.lines))
    → Grows old new → Changes config o now live shown new → Does config o now old new
does_as config o now old shown new live plain named later register in_time grows c =
    let session = c.finds.session in
    let lives : is_alive (heard live.number live.lines).life ≡ true =
    sym (ap (λ (p : Spoken). is_alive p.life) c.finds.told.told) ∙ by_code (is_alive session.life) (op_refusals config 0 (is_spent live.lines) session o) c.finds.code_is in
    record {
      before = live.lines;
      begins = later;
      in_time = subst (λ (n : ℕ). InTime (counts_as now live.lines) (heard n live.lines)) (sym named) (in_time lives);
      room = old.register;
      room_then = (prefix_self old.register, grows.register);
      earlier = session;
      was =
          subst (λ (q : ℕ × List Watched). IsTold config q.0 live.lines q.1 session) (λ i. (sym named i, sym c.watches i))
          (told_open config live.number live.lines live.watches session c.finds.told);
      none = code_of_any config live.lines old.register session o None plain c.finds.code_is;
      done =
          subst (λ (n : ℕ). DoneBy config n (counts_as now live.lines) live.lines new old.register o) (sym named)
          (done_earlier config live.number (counts_as now live.lines) live.lines new old.register shown.register o register c.done);
    }
  where
    by_code : (b : Bool) (rows : List (ℕ × Bool)) → first_code ((20, not b) ∷ rows) ≡ None → b ≡ true
    by_code true rows is = refl
    by_code false rows is = absurd (let x : ◌≡◌ {A = Option ℕ} (Some 20) None = is in cc)
