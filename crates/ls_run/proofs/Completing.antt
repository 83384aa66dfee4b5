-- A run in which neither a read nor a write fails is complete.
use Rattle.std.proofs.Common.{◌≡◌, ℕ, List, [], ◌++◌, refl, sym, ◌∙◌, ap, subst, append_assoc, append-nil, Bool, true, false, Option, Some, None, ◌⊎◌}
use Rattle.std.proofs.Common.{⊎_elim, inl, inr}
use Rattle.std.specs.Io.KnownBytes.{Appends}
use Rattle.ls_outside.specs.Causes.{Rose, RoseBy}
use Rattle.ls_world.specs.World.{empty}
use Rattle.ls_world.specs.Script.{whole_from, rest_from, last_line, lines_of, output_of}
use Rattle.ls_run.specs.Ran.{Ran, Outcome, StopsAt, Completes, end_of}
use Rattle.ls_run.specs.declared.running.Status.{Status}
use Rattle.ls_run.specs.declared.running.Status.TheVariants as status
use Rattle.ls_run.proofs.ScriptLines.{whole_from-append, Stops, stops}

-- the whole script was read
lines_whole : (script read rest : List ℕ) → script ≡ read ++ rest → rest ≡ [] → lines_of true script ≡ lines_of true read
lines_whole script read rest is none =
    ap (λ bytes. lines_of true bytes) (is ∙ ap (λ bytes. read ++ bytes) none ∙ append-nil read)

-- the lines of a script begin with those of each part that was read from its front
record BeginWith (lines all : List (List ℕ)) : Type 0 where
  more : List (List ℕ)
  is : all ≡ lines ++ more

lines_begin : (script read rest : List ℕ) (ended : Bool) → script ≡ read ++ rest → (ended ≡ true → rest ≡ [])
    → BeginWith (lines_of ended read) (lines_of true script)
lines_begin script read rest true is whole =
    record { more = []; is = lines_whole script read rest is (whole refl) ∙ sym (append-nil (lines_of true read)) }
lines_begin script read rest false is whole =
    let behind : List (List ℕ) = whole_from (rest_from [] read) rest in
    let last : List (List ℕ) = last_line (rest_from [] (read ++ rest)) in
    record {
      more = behind ++ last;
      is = ap (λ bytes. lines_of true bytes) is ∙ ap (λ ls. ls ++ last) (whole_from-append [] read rest)
          ∙ append_assoc (whole_from [] read) behind last
          ∙ ap (λ ls. ls ++ (behind ++ last)) (sym (append-nil (whole_from [] read)));
    }

-- a line that is the first bad one of the first lines is that of all
first_of_all : (lines all : List (List ℕ)) (line : ℕ) (written : List ℕ) → BeginWith lines all → StopsAt line lines written
    → (status.BadScript line ≡ end_of all) × (written ≡ output_of empty all)
first_of_all lines all line written begin st =
    let s : Stops empty lines begin.more = stops empty lines begin.more st.bad in
    rw (begin.is, s.bad, s.count, s.text) (ap (λ n. status.BadScript n) st.number, st.text)

written_all : (held held' : Option (List ℕ)) (written text : List ℕ) → written ≡ text → Appends held held' written → Appends held held' text
written_all held held' written text is appends = subst (λ (t : List ℕ). Appends held held' t) is appends

completed : (a : Status) (script read rest written : List ℕ) (ended : Bool) (held held' : Option (List ℕ)) → (a ≡ status.Usage → ⊥)
    → (a ≡ status.ReadFault → ⊥) → (a ≡ status.WriteFault → ⊥) → script ≡ read ++ rest → (ended ≡ true → rest ≡ [])
    → Appends held held' written → Outcome a read written ended → Completes a (Some script) held held'
completed status.Ok script read rest written ended held held' u r w is whole appends out =
    let all : lines_of true script ≡ lines_of ended read = rw (out.0) (lines_whole script read rest is (whole out.0)) in
    inl (rw (all, out.1.good) refl, written_all held held' written (output_of empty (lines_of true script)) (rw all (out.1.text)) appends)
completed status.Usage script read rest written ended held held' u r w is whole appends out = absurd (u refl)
completed status.ReadFault script read rest written ended held held' u r w is whole appends out = absurd (r refl)
completed status.WriteFault script read rest written ended held held' u r w is whole appends out = absurd (w refl)
completed status.NoMemory script read rest written ended held held' u r w is whole appends out = inr refl
completed (status.BadScript line) script read rest written ended held held' u r w is whole appends out =
    let first = first_of_all (lines_of ended read) (lines_of true script) line written (lines_begin script read rest ended is whole) out in
    inl (first.0, written_all held held' written (output_of empty (lines_of true script)) first.1 appends)
completed status.DoorFault script read rest written ended held held' u r w is whole appends out = absurd out
completed (status.BadConfig line) script read rest written ended held held' u r w is whole appends out = absurd out

ran_whole : (a : Status) (left left' held held' : Option (List ℕ)) → (a ≡ status.Usage → ⊥) → (a ≡ status.ReadFault → ⊥)
    → (a ≡ status.WriteFault → ⊥) → Ran a left left' held held' → Completes a left held held'
ran_whole a None left' held held' u r w ran = tt
ran_whole a (Some script) None held held' u r w ran = absurd ran.consumes
ran_whole a (Some script) (Some rest) held held' u r w ran =
    completed a script ran.read rest ran.written ran.ended held held' u r w ran.consumes ran.at_end ran.appends ran.outcome

-- a run is complete unless a count of faults rose
pub completes : (a : Status) (left left' held held' : Option (List ℕ)) (f g i j k l : ℕ) → (a ≡ status.Usage → ⊥)
    → Ran a left left' held held' → (a ≡ status.ReadFault → Rose f g ⊎ RoseBy 3000 i j) → (a ≡ status.WriteFault → Rose k l)
    → (Rose f g → ⊥) → (RoseBy 3000 i j → ⊥) → (Rose k l → ⊥) → Completes a left held held'
completes a left left' held held' f g i j k l usage ran read write no_fault no_waits no_loss =
    ran_whole a left left' held held' usage (λ e. ⊎_elim no_fault no_waits (read e)) (λ e. no_loss (write e)) ran
