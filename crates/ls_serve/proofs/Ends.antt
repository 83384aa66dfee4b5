-- What a server read and wrote, by what its parts say.
use Rattle.std.proofs.Common.{◌≡◌, ℕ, ◌≤◌, ◌^◌, ◌-◌, List, [], ◌∷◌, ◌++◌, refl, sym, ◌∙◌, ap, subst, arith, append_assoc, append-nil}
use Rattle.std.proofs.Common.{inl, inr, take, drop}
use Rattle.std.proofs.lemmas.List.{take-append-drop}
use Rattle.std.specs.Prelude.{codes}
use Rattle.std.specs.Fmt.{digits}
use Rattle.std.specs.Prelude.{Option, None, Some, Result, Ok, Err}
use Rattle.std.specs.Option.{unwrap_or}
use Rattle.std.specs.Io.KnownBytes.{Consumes, Appends, Keeps, IsAtEnd}
use Rattle.ls_http.specs.Replies.{head_text, refusal_text}
use Rattle.ls_outside.specs.Causes.{WritesAll}
use Rattle.ls_outside.specs.declared.sink.Put.TheVariants as put
use Rattle.ls_outside.proofs.Bytes.{appends_on, appends_kept}
use Rattle.ls_config.specs.declared.config.Config.{Config}
use Rattle.ls_config.specs.declared.reading.ConfigRefused.TheVariants as refused
use Rattle.ls_config.specs.Configs.{config_of}
use Rattle.ls_door.specs.Doors.{Ports}
use Rattle.ls_serve.specs.declared.reading.Input.{Input}
use Rattle.ls_serve.specs.declared.reading.Input.TheVariants as input
use Rattle.ls_serve.specs.declared.serving.ServeEnd.{ServeEnd}
use Rattle.ls_serve.specs.declared.serving.ServeEnd.TheVariants as end
use Rattle.ls_serve.specs.Reading.{TakesIn, SaysConfig, OfConfig, ReadsConfig}
use Rattle.ls_serve.specs.Serving.{Tells, Told, Outcome, Served, RefusesConfig, StopsAt, PutsText, lines_at, listening_line, stopped_line}

-- nothing was read
pub consumes_none : (left : Option (List ℕ)) (bytes : List ℕ) → bytes ≡ [] → Consumes left left bytes
consumes_none None bytes none = tt
consumes_none (Some xs) bytes none = sym (ap (λ t. t ++ xs) none)

-- bytes that stay behind others that were read
pub consumes_kept : (l m n : Option (List ℕ)) (x : List ℕ) → Consumes l m x → Keeps m n → Consumes l n x
consumes_kept None m n x c k = tt
consumes_kept (Some l) None n x c k = absurd c
consumes_kept (Some l) (Some m) None x c k = k
consumes_kept (Some l) (Some m) (Some n) x c k = c ∙ ap (λ t. x ++ t) (sym k)

-- what was read so far, where it ends
pub taken_whole : (l m n : Option (List ℕ)) (bytes : List ℕ) → Consumes l m bytes → Keeps m n → IsAtEnd n
    → TakesIn input.Whole l n bytes
taken_whole l m n bytes c k e = record { read = bytes; consumes = consumes_kept l m n bytes c k; whole = λ w. (refl, e) }

pub taken_fault : (l m n : Option (List ℕ)) (bytes : List ℕ) → Consumes l m bytes → Keeps m n → TakesIn input.Fault l n bytes
taken_fault l m n bytes c k = record { read = bytes; consumes = consumes_kept l m n bytes c k; whole = λ w. absurd (cc w) }

pub taken_part : (l n : Option (List ℕ)) (read bytes : List ℕ) → Consumes l n read → TakesIn input.NoMemory l n bytes
taken_part l n read bytes c = record { read = read; consumes = c; whole = λ w. absurd (cc w) }

-- an answer to all bytes
of_config : (a : Result Config ServeEnd) (bytes read : List ℕ) (left : Option (List ℕ)) → bytes ≡ read → IsAtEnd left
    → SaysConfig a bytes → OfConfig a read left
of_config (Ok c) bytes read left is e s = (e, subst (λ (t : List ℕ). config_of t ≡ Ok c) is s)
of_config (Err end.Stopped) bytes read left is e s = absurd s
of_config (Err end.ReadFault) bytes read left is e s = absurd s
of_config (Err end.WriteFault) bytes read left is e s = absurd s
of_config (Err end.NoMemory) bytes read left is e s = tt
of_config (Err end.DoorFault) bytes read left is e s = absurd s
of_config (Err (end.BadConfig line)) bytes read left is e s =
    (e, subst (λ (t : List ℕ). config_of t ≡ Err (refused.BadConfig line)) is s)

pub config_read : (a : Result Config ServeEnd) (i : Input) (left left' : Option (List ℕ)) (bytes : List ℕ) → i ≡ input.Whole
    → TakesIn i left left' bytes → SaysConfig a bytes → ReadsConfig a left left'
config_read a i left left' bytes is t s =
    let w = t.whole is in
    record { read = t.read; consumes = t.consumes; says = of_config a bytes t.read left' w.0 w.1 s }

pub config_faulted : (i : Input) (left left' : Option (List ℕ)) (bytes : List ℕ) → TakesIn i left left' bytes
    → ReadsConfig (Err end.ReadFault) left left'
config_faulted i left left' bytes t = record { read = t.read; consumes = t.consumes; says = tt }

pub config_wanting : (i : Input) (left left' : Option (List ℕ)) (bytes : List ℕ) → TakesIn i left left' bytes
    → ReadsConfig (Err end.NoMemory) left left'
config_wanting i left left' bytes t = record { read = t.read; consumes = t.consumes; says = tt }

-- nothing was written
pub appends_nothing : (held : Option (List ℕ)) → Appends held held []
appends_nothing None = tt
appends_nothing (Some xs) = sym (append-nil xs)

-- what a server with a config did is what the whole server did
outcome_told : (e : ServeEnd) (p : Ports) (c : Config) (read written : List ℕ) (left : Option (List ℕ)) → OfConfig (Ok c) read left
    → Tells e p written → Outcome e p read written left
outcome_told end.Stopped p c read written left s t = (s.0, (c, s.1), t)
outcome_told end.ReadFault p c read written left s t = absurd t
outcome_told end.WriteFault p c read written left s t = (s.0, (c, s.1), t)
outcome_told end.NoMemory p c read written left s t = t
outcome_told end.DoorFault p c read written left s t = (s.0, (c, s.1), t)
outcome_told (end.BadConfig line) p c read written left s t = absurd t

pub served_told : (e : ServeEnd) (p : Ports) (c : Config) (left left' held held' : Option (List ℕ)) → ReadsConfig (Ok c) left left'
    → Told e p held held' → Served e p left left' held held'
served_told e p c left left' held held' r t =
    record {
      read = r.read;
      written = t.written;
      consumes = r.consumes;
      appends = t.appends;
      outcome = outcome_told e p c r.read t.written left' r.says t.tells;
    }

-- a server without a config wrote nothing
outcome_ended : (e : ServeEnd) (p : Ports) (read : List ℕ) (left : Option (List ℕ)) → OfConfig (Err e) read left
    → Outcome e p read [] left
outcome_ended end.Stopped p read left s = absurd s
outcome_ended end.ReadFault p read left s = refl
outcome_ended end.WriteFault p read left s = absurd s
outcome_ended end.NoMemory p read left s = (lines_at p, refl)
outcome_ended end.DoorFault p read left s = absurd s
outcome_ended (end.BadConfig line) p read left s = (s.0, s.1, refl)

pub served_ended : (e : ServeEnd) (p : Ports) (left left' held : Option (List ℕ)) → ReadsConfig (Err e) left left'
    → Served e p left left' held held
served_ended e p left left' held r =
    record {
      read = r.read;
      written = [];
      consumes = r.consumes;
      appends = appends_nothing held;
      outcome = outcome_ended e p r.read left' r.says;
    }

-- a config that was read whole has no line outside the format, where it says a config
read_all : (bytes read rest : List ℕ) → bytes ≡ read ++ rest → rest ≡ [] → read ≡ bytes
read_all bytes read rest is none = sym (is ∙ ap (λ t. read ++ t) none ∙ append-nil read)

not_bad : (bytes read : List ℕ) (c : Config) (line : ℕ) → read ≡ bytes → config_of read ≡ Ok c
    → config_of bytes ≡ Err (refused.BadConfig line) → ⊥
not_bad bytes read c line is good bad =
    let h : config_of bytes ≡ Ok c = subst (λ (t : List ℕ). config_of t ≡ Ok c) is good in
    cc (h, bad)

same_line : (bytes read : List ℕ) (line other : ℕ) → read ≡ bytes → config_of read ≡ Err (refused.BadConfig other)
    → config_of bytes ≡ Err (refused.BadConfig line) → end.BadConfig other ≡ end.BadConfig line
same_line bytes read line other is one two =
    let h : config_of bytes ≡ Err (refused.BadConfig other) =
    subst (λ (t : List ℕ). config_of t ≡ Err (refused.BadConfig other)) is one in
    cc (h, two)

refused_by : (e : ServeEnd) (p : Ports) (bytes read rest written : List ℕ) → bytes ≡ read ++ rest
    → Outcome e p read written (Some rest) → (e ≡ end.ReadFault → ⊥) → RefusesConfig e (Some bytes)
refused_by end.Stopped p bytes read rest written is o n =
    λ line bad. absurd (not_bad bytes read o.1.0 line (read_all bytes read rest is o.0) o.1.1 bad)
refused_by end.ReadFault p bytes read rest written is o n = λ line bad. absurd (n refl)
refused_by end.WriteFault p bytes read rest written is o n =
    λ line bad. absurd (not_bad bytes read o.1.0 line (read_all bytes read rest is o.0) o.1.1 bad)
refused_by end.NoMemory p bytes read rest written is o n = λ line bad. inr refl
refused_by end.DoorFault p bytes read rest written is o n =
    λ line bad. absurd (not_bad bytes read o.1.0 line (read_all bytes read rest is o.0) o.1.1 bad)
refused_by (end.BadConfig other) p bytes read rest written is o n =
    λ line bad. inl (same_line bytes read line other (read_all bytes read rest is o.0) o.1 bad)

pub refuses : (e : ServeEnd) (p : Ports) (left left' held held' : Option (List ℕ)) → Served e p left left' held held'
    → (e ≡ end.ReadFault → ⊥) → RefusesConfig e left
refuses e p None left' held held' s n = tt
refuses e p (Some bytes) None held held' s n = absurd s.consumes
refuses e p (Some bytes) (Some rest) held held' s n = refused_by e p bytes s.read rest s.written s.consumes s.outcome n

-- nothing was said
pub told_nothing : (p : Ports) (held : Option (List ℕ)) → Told end.NoMemory p held held
told_nothing p held = record { written = []; appends = appends_nothing held; tells = (lines_at p, refl) }

pub told_door : (p : Ports) (held : Option (List ℕ)) → Told end.DoorFault p held held
told_door p held = record { written = []; appends = appends_nothing held; tells = refl }

-- the first line was said in part, or not at all
pub told_first : (e : ServeEnd) (p : Ports) (held held' : Option (List ℕ)) → PutsText (Err e) held held' (listening_line p)
    → Told e p held held'
told_first end.Stopped p held held' t = absurd t
told_first end.ReadFault p held held' t = absurd t
told_first end.WriteFault p held held' t =
    record {
      written = t.0;
      appends = t.2;
      tells = (t.1.0 ++ stopped_line, sym (append_assoc t.0 t.1.0 stopped_line) ∙ ap (λ x. x ++ stopped_line) t.1.1);
    }
told_first end.NoMemory p held held' t =
    record { written = []; appends = appends_kept held held' t; tells = (lines_at p, refl) }
told_first end.DoorFault p held held' t = absurd t
told_first (end.BadConfig line) p held held' t = absurd t

-- both lines were said
pub told_both : (p : Ports) (a b c : Option (List ℕ)) → Appends a b (listening_line p) → Appends b c stopped_line
    → Told end.Stopped p a c
told_both p a b c x y =
    record { written = lines_at p; appends = appends_on a b c (listening_line p) stopped_line x y; tells = refl }

-- the second line was said in part
pub told_second : (e : ServeEnd) (p : Ports) (a b c : Option (List ℕ)) → Appends a b (listening_line p)
    → PutsText (Err e) b c stopped_line → Told e p a c
told_second end.Stopped p a b c x t = absurd t
told_second end.ReadFault p a b c x t = absurd t
told_second end.WriteFault p a b c x t =
    record {
      written = listening_line p ++ t.0;
      appends = appends_on a b c (listening_line p) t.0 x t.2;
      tells = (t.1.0, append_assoc (listening_line p) t.0 t.1.0 ∙ ap (λ s. listening_line p ++ s) t.1.1);
    }
told_second end.NoMemory p a b c x t =
    record {
      written = listening_line p;
      appends = subst (λ (s : List ℕ). Appends a c s) (append-nil (listening_line p))
          (appends_on a b c (listening_line p) [] x (appends_kept b c t));
      tells = (stopped_line, refl);
    }
told_second end.DoorFault p a b c x t = absurd t
told_second (end.BadConfig line) p a b c x t = absurd t

-- a tick that isn't below the end, or below the greatest number where there is no end
pub stops_at : (end' : Option ℕ) (until now told : ℕ) → until ≡ unwrap_or end' (2 ^ 64 - 1) → until ≤ now → now ≡ told
    → now ≤ 1000000000000000000 → StopsAt end' told
stops_at None until now told is low same most = omega (arith, is, low, most)
stops_at (Some tick) until now told is low same most = omega (arith, is, low, same)

-- a part of a text was put
pub put_part : (text : List ℕ) (held held' : Option (List ℕ)) → WritesAll held held' put.Failed text
    → PutsText (Err end.WriteFault) held held' text
put_part text held held' w = (take w.0 text, (drop w.0 text, take-append-drop w.0 text), w.2)

-- the same of lines, where the door has the ports that they name
pub told_first_at : (e : ServeEnd) (p q : Ports) (held held' : Option (List ℕ)) → q ≡ p
    → PutsText (Err e) held held' (listening_line p) → Told e q held held'
told_first_at e p q held held' is t = subst (λ (x : Ports). Told e x held held') (sym is) (told_first e p held held' t)

pub told_second_at : (e : ServeEnd) (p q : Ports) (a b c : Option (List ℕ)) → q ≡ p → Appends a b (listening_line p)
    → PutsText (Err e) b c stopped_line → Told e q a c
told_second_at e p q a b c is x t = subst (λ (y : Ports). Told e y a c) (sym is) (told_second e p a b c x t)

-- the refusal of a client that no job can be given to
pub said_503 : head_text (codes "HTTP/1.1 503 Service Unavailable" ∷ codes "Content-Length: 0" ∷ codes "Connection: close" ∷ []) ≡ refusal_text 503
unfolding digits
said_503 = refl
