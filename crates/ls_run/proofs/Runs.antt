-- A run goes on, stops, and ends.
use Rattle.std.proofs.Common.{◌≡◌, ℕ, ◌+◌, List, [], ◌++◌, refl, sym, ap, arith, ◌∙◌, append-nil, Bool, true, false, Option, Some, None, subst, ◌⊎◌}
use Rattle.std.specs.Io.KnownBytes.{Consumes, Keeps, IsAtEnd}
use Rattle.ls_outside.specs.Causes.{Rose, RoseBy}
use Rattle.ls_outside.proofs.Bytes.{appends_on, consumes_on}
use Rattle.ls_world.specs.World.{empty}
use Rattle.ls_world.specs.Script.{whole_from, rest_from, last_line, lines_of, world_of, done}
use Rattle.ls_laws.proofs.Scripts.{lawful_script}
use Rattle.ls_run.specs.Replay.{Progress, start, progress_after, KeptReplay, StandsFor, Meets, Feeds}
use Rattle.ls_run.specs.Ran.{Going, Ran, Outcome, DoesAll, status_at}
use Rattle.ls_run.specs.declared.running.Status.TheVariants as status
use Rattle.ls_run.specs.declared.replay.Fed.{Fed}
use Rattle.ls_run.specs.declared.replay.Fed.TheVariants as fed
use Rattle.ls_run.proofs.Feeding.{nothing, fed_on, progress_on, met_on}

pub going_on : (k k' : KeptReplay) (c : List ℕ) (l0 l1 l2 h0 h1 h2 : Option (List ℕ)) → Going k l0 l1 h0 h1 → Consumes l1 l2 c
    → ((p : Progress) → StandsFor k p → Feeds fed.All p.world (whole_from p.carry c) h1 h2 [])
    → ((p : Progress) → StandsFor k p → StandsFor k' (progress_after p c)) → Going k' l0 l2 h0 h2
going_on k k' c l0 l1 l2 h0 h1 h2 go took f all =
    let p : Progress = progress_after start go.read in
    record {
      read = go.read ++ c;
      consumes = consumes_on l0 l1 l2 go.read c go.consumes took;
      now = subst (λ (q : Progress). StandsFor k' q) (progress_on start go.read c go.feeds.met.0) (all p go.now);
      feeds = fed_on fed.All start go.read c h0 h1 h2 [] go.feeds (f p go.now);
    }

-- nothing is held back, so what was written is what the lines print
whole_text : (a : Fed) (lines : List (List ℕ)) (w : List ℕ) → Meets a empty lines (w ++ []) → Meets a empty lines w
whole_text a lines w met = subst (λ (t : List ℕ). Meets a empty lines t) (append-nil w) met

-- no line from the start is bad
all_done : (read w : List ℕ) (ended : Bool) → Meets fed.All empty (lines_of ended read) w → DoesAll (lines_of ended read) w
all_done read w ended met = record { good = met.0; text = met.1; lawful = lawful_script (lines_of ended read) }

-- what a call says of the lines from the start is the outcome
outcome_of : (a : Fed) (read : List ℕ) (w : List ℕ) (ended : Bool) → (a ≡ fed.All → ended ≡ true)
    → Meets a empty (lines_of ended read) w → Outcome (status_at a) read w ended
outcome_of fed.All read w ended e met = (e refl, all_done read w ended met)
outcome_of (fed.Stopped line) read w ended e met =
    let n : line ≡ 0 + done empty (lines_of ended read) + 1 = met.1 in
    record { bad = met.0; number = omega (arith, n); text = met.2; lawful = lawful_script (lines_of ended read) }
outcome_of fed.WriteFault read w ended e met = met
outcome_of fed.NoMemory read w ended e met = met

pub ran_stopped : (a : Fed) (k : KeptReplay) (c : List ℕ) (l0 l1 l2 h0 h1 h2 : Option (List ℕ)) → (a ≡ fed.All → ⊥)
    → Going k l0 l1 h0 h1 → Consumes l1 l2 c
    → ((p : Progress) → StandsFor k p → Feeds a p.world (whole_from p.carry c) h1 h2 []) → Ran (status_at a) l0 l2 h0 h2
ran_stopped a k c l0 l1 l2 h0 h1 h2 stopped go took f =
    let f' : Feeds a (progress_after start go.read).world (whole_from (rest_from [] go.read) c) h1 h2 [] =
    f (progress_after start go.read) go.now in
    let all : Feeds a empty (whole_from [] (go.read ++ c)) h0 h2 [] = fed_on a start go.read c h0 h1 h2 [] go.feeds f' in
    let met : Meets a empty (lines_of false (go.read ++ c)) all.written =
    subst (λ (ls : List (List ℕ)). Meets a empty ls all.written) (sym (append-nil (whole_from [] (go.read ++ c))))
    (whole_text a (whole_from [] (go.read ++ c)) all.written all.met) in
    record {
      read = go.read ++ c;
      written = all.written;
      ended = false;
      consumes = consumes_on l0 l1 l2 go.read c go.consumes took;
      appends = all.appends;
      at_end = λ e. cc;
      outcome = outcome_of a (go.read ++ c) all.written false (λ e. absurd (stopped e)) met;
    }

consumed_kept : (l m n : Option (List ℕ)) (x : List ℕ) → Consumes l m x → Keeps m n → Consumes l n x
consumed_kept None m n x c k = tt
consumed_kept (Some l) None n x c k = absurd c
consumed_kept (Some l) (Some m) None x c k = k
consumed_kept (Some l) (Some m) (Some n) x c k = c ∙ ap (λ t. x ++ t) (sym k)

pub ran_ended : (a : Fed) (k : KeptReplay) (l0 l1 l2 h0 h1 h2 : Option (List ℕ)) → Going k l0 l1 h0 h1 → Keeps l1 l2
    → IsAtEnd l2 → ((p : Progress) → StandsFor k p → Feeds a p.world (last_line p.carry) h1 h2 [])
    → Ran (status_at a) l0 l2 h0 h2
ran_ended a k l0 l1 l2 h0 h1 h2 go kept none f =
    let whole : List (List ℕ) = whole_from [] go.read in
    let last : List (List ℕ) = last_line (rest_from [] go.read) in
    let f' : Feeds a (world_of empty whole) last h1 h2 [] = f (progress_after start go.read) go.now in
    let text : List ℕ = go.feeds.written ++ f'.written in
    let first : Meets fed.All empty whole go.feeds.written = whole_text fed.All whole go.feeds.written go.feeds.met in
    let second : Meets a (world_of empty whole) last f'.written =
    subst (λ (t : List ℕ). Meets a (world_of empty whole) last t) (append-nil f'.written) f'.met in
    record {
      read = go.read;
      written = text;
      ended = true;
      consumes = consumed_kept l0 l1 l2 go.read go.consumes kept;
      appends = appends_on h0 h1 h2 go.feeds.written f'.written go.feeds.appends f'.appends;
      at_end = λ e. none;
      outcome = outcome_of a go.read text true (λ e. refl)
          (met_on a empty whole last go.feeds.written f'.written first second);
    }

-- nothing was read or written
kept_unread : (left : Option (List ℕ)) → Consumes left left []
kept_unread None = tt
kept_unread (Some xs) = refl

-- a run begins
pub going_start : (k : KeptReplay) (left held : Option (List ℕ)) → StandsFor k start → Going k left left held held
going_start k left held st =
    record {
      read = [];
      consumes = kept_unread left;
      now = st;
      feeds = record { written = []; appends = nothing held; met = (refl, refl) };
    }

pub ran_nothing : (left held : Option (List ℕ)) → Ran status.NoMemory left left held held
ran_nothing left held =
    record { read = []; written = []; ended = false; consumes = kept_unread left; appends = nothing held; at_end = λ e. cc; outcome = ([], refl) }

-- a read failed
pub ran_faulted : (k : KeptReplay) (l0 l1 l2 h0 h1 : Option (List ℕ)) → Going k l0 l1 h0 h1 → Keeps l1 l2
    → Ran status.ReadFault l0 l2 h0 h1
ran_faulted k l0 l1 l2 h0 h1 go kept =
    let whole : List (List ℕ) = whole_from [] go.read in
    let met : Meets fed.All empty whole go.feeds.written = whole_text fed.All whole go.feeds.written go.feeds.met in
    record {
      read = go.read;
      written = go.feeds.written;
      ended = false;
      consumes = consumed_kept l0 l1 l2 go.read go.consumes kept;
      appends = go.feeds.appends;
      at_end = λ e. cc;
      outcome = (
        refl,
        all_done go.read go.feeds.written false
            (subst (λ (ls : List (List ℕ)). Meets fed.All empty ls go.feeds.written) (sym (append-nil whole)) met),
      );
    }

-- the causes of a status
pub status_ok : (a : Fed) → status_at a ≡ status.Ok → a ≡ fed.All
status_ok fed.All h = refl
status_ok (fed.Stopped line) h = absurd (cc h)
status_ok fed.WriteFault h = absurd (cc h)
status_ok fed.NoMemory h = absurd (cc h)

pub not_usage : (a : Fed) → status_at a ≡ status.Usage → ⊥
not_usage fed.All h = cc h
not_usage (fed.Stopped line) h = cc h
not_usage fed.WriteFault h = cc h
not_usage fed.NoMemory h = cc h

not_read_fault : (a : Fed) → status_at a ≡ status.ReadFault → ⊥
not_read_fault fed.All h = cc h
not_read_fault (fed.Stopped line) h = cc h
not_read_fault fed.WriteFault h = cc h
not_read_fault fed.NoMemory h = cc h

pub read_cause : (a : Fed) (f g i j : ℕ) → status_at a ≡ status.ReadFault → Rose f g ⊎ RoseBy 3000 i j
read_cause a f g i j h = absurd (not_read_fault a h)

pub write_fault : (a : Fed) → status_at a ≡ status.WriteFault → a ≡ fed.WriteFault
write_fault fed.All h = absurd (cc h)
write_fault (fed.Stopped line) h = absurd (cc h)
write_fault fed.WriteFault h = refl
write_fault fed.NoMemory h = absurd (cc h)
