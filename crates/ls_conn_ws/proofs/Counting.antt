-- Counts that rise, and the causes that they show.
use Rattle.std.proofs.Common.{◌≡◌, ◌≤◌, ◌+◌, ℕ, List, inl, inr, Bool, Option, None, Some, refl, sym, subst, ◌∙◌, arith}
use Rattle.ls_outside.specs.Causes.{Rose, RoseBy, one_more}
use Rattle.ls_talk.specs.Lines.{Counts}
use Rattle.ls_talk.specs.Talks.{LetsGo}
use Rattle.ls_talk.specs.declared.talk.Happening.{Happening}
use Rattle.ls_conn.specs.declared.ended.ConnEnd.{ConnEnd}
use Rattle.ls_conn.specs.declared.ended.ConnEnd.TheVariants as end
use Rattle.ls_conn.specs.declared.ended.TheConstants.{MOST_IDLES}
use Rattle.ls_conn_ws.specs.Causes.{HasCause, Rises}
use Rattle.ls_conn_ws.specs.Hearing.{Heeds, RestsSo, Runs, RunsOn}
use Rattle.ls_conn_ws.specs.declared.serving.Heard.{Heard}
use Rattle.ls_conn_ws.specs.declared.serving.Heard.TheVariants as heard

-- no count fell, and then none did
pub rises_on : (c d e : Counts) (f g h : ℕ) → Rises c d f g → Rises d e g h → Rises c e f h
rises_on c d e f g h a b =
    record {
      faults = omega (arith, a.faults, b.faults);
      idles = omega (arith, a.idles, b.idles);
      closes = omega (arith, a.closes, b.closes);
      puts = omega (arith, a.puts, b.puts);
    }

-- a count that rose since a later moment
rose_from : (a b c n : ℕ) → a ≤ b → RoseBy n b c → RoseBy n a c
rose_from a b c n le rose = omega (arith, le, rose)

-- a count that rose by a moment before
rose_to : (a b c n : ℕ) → RoseBy n a b → b ≤ c → RoseBy n a c
rose_to a b c n rose le = omega (arith, rose, le)

pub cause_from : (x : ConnEnd) (c d e : Counts) (f g h : ℕ) → Rises c d f g → HasCause x d e g h → HasCause x c e f h
cause_from end.Served c d e f g h a b = b
cause_from (end.Refused status) c d e f g h a b = b
cause_from end.PeerLeft c d e f g h a b = rose_from c.closes d.closes e.closes 1 a.closes b
cause_from end.TooSlow c d e f g h a b = rose_from c.idles d.idles e.idles MOST_IDLES a.idles b
cause_from end.ReadFault c d e f g h a b = rose_from c.faults d.faults e.faults 1 a.faults b
cause_from end.WriteFault c d e f g h a b = rose_from f g h 1 a.puts b
cause_from end.Stopped c d e f g h a b = b
cause_from end.NoMemory c d e f g h a b = b

pub cause_to : (x : ConnEnd) (c d e : Counts) (f g h : ℕ) → HasCause x c d f g → Rises d e g h → HasCause x c e f h
cause_to end.Served c d e f g h a b = a
cause_to (end.Refused status) c d e f g h a b = a
cause_to end.PeerLeft c d e f g h a b = rose_to c.closes d.closes e.closes 1 a b.closes
cause_to end.TooSlow c d e f g h a b = rose_to c.idles d.idles e.idles MOST_IDLES a b.idles
cause_to end.ReadFault c d e f g h a b = rose_to c.faults d.faults e.faults 1 a b.faults
cause_to end.WriteFault c d e f g h a b = rose_to f g h 1 a b.puts
cause_to end.Stopped c d e f g h a b = a
cause_to end.NoMemory c d e f g h a b = a

-- before anything happened
pub runs_first : (c : Counts) (f : ℕ) → Runs 0 c c f f
runs_first c f =
    record {
      rises = record { faults = omega arith; idles = omega arith; closes = omega arith; puts = omega arith };
      idle = omega arith;
    }

-- one look more that found nothing
one_look : (n a b c : ℕ) → RoseBy n a b → c ≡ one_more b → RoseBy (n + 1) a c
one_look n a b c rose is = omega (arith, rose, is)

-- after a look for a message
abbrev pub HeardRuns : Heard → ℕ → Counts → Counts → ℕ → ℕ → Type 0
HeardRuns heard.Message n c e f h = Runs 0 c e f h
HeardRuns heard.Nothing n c e f h = Runs (n + 1) c e f h
HeardRuns (heard.End x) n c e f h = Rises c e f h × HasCause x c e f h

idle_none : (c e : Counts) (f h : ℕ) → Rises c e f h → Runs 0 c e f h
idle_none c e f h r = record { rises = r; idle = omega (arith, r.idles) }

pub heard_runs : (x : Heard) (n : ℕ) (c d e : Counts) (f g h : ℕ) → Runs n c d f g → Heeds x d e g h → HeardRuns x n c e f h
heard_runs heard.Message n c d e f g h r x = idle_none c e f h (rises_on c d e f g h r.rises x.rises)
heard_runs heard.Nothing n c d e f g h r x =
    record { rises = rises_on c d e f g h r.rises x.rises; idle = one_look n c.idles d.idles e.idles r.idle x.cause }
heard_runs (heard.End y) n c d e f g h r x = (rises_on c d e f g h r.rises x.rises, cause_from y c d e f g h r.rises x.cause)

-- writes may have failed
puts_rise : (c e : Counts) (f h i : ℕ) → Rises c e f h → h ≤ i → Rises c e f i
puts_rise c e f h i r le = record { faults = r.faults; idles = r.idles; closes = r.closes; puts = omega (arith, r.puts, le) }

-- after a rest
pub rested_runs : (x : Option ConnEnd) (n m : ℕ) (c e : Counts) (f h i : ℕ) (log log2 : Option (List Happening)) → Runs (n + 1) c e f h → RestsSo x n m log log2 h i
    → RunsOn x m c e f i
rested_runs None n m c e f h i log log2 r (logs, le, few, inl none) =
    record {
      rises = puts_rise c e f h i r.rises le;
      idle = λ _. subst (λ (k : ℕ). RoseBy k c.idles e.idles) (sym none) (omega (arith, r.rises.idles));
      cause = tt;
    }
rested_runs None n m c e f h i log log2 r (logs, le, few, inr more) =
    record { rises = puts_rise c e f h i r.rises le; idle = λ _. subst (λ (k : ℕ). RoseBy k c.idles e.idles) (sym more) r.idle; cause = tt }
rested_runs (Some end.Served) n m c e f h i log log2 r x = absurd x
rested_runs (Some (end.Refused status)) n m c e f h i log log2 r x = absurd x
rested_runs (Some end.PeerLeft) n m c e f h i log log2 r x = absurd x
rested_runs (Some end.TooSlow) n m c e f h i log log2 r x =
    record {
      rises = puts_rise c e f h i r.rises x.1;
      idle = λ is. absurd (differ is);
      cause = subst (λ (k : ℕ). RoseBy k c.idles e.idles) (sym x.2 ∙ x.3) r.idle;
    }
  where
    differ : Some end.TooSlow ≡ None → ⊥
    differ e = cc
rested_runs (Some end.ReadFault) n m c e f h i log log2 r x = absurd x
rested_runs (Some end.WriteFault) n m c e f h i log log2 r x =
    record {
      rises = puts_rise c e f h i r.rises x.1;
      idle = λ is. absurd (differ is);
      cause = rose_from f h i 1 r.rises.puts x.2;
    }
  where
    differ : Some end.WriteFault ≡ None → ⊥
    differ e = cc
rested_runs (Some end.Stopped) n m c e f h i log log2 r x = absurd x
rested_runs (Some end.NoMemory) n m c e f h i log log2 r x = absurd x

-- after a look that ended the connection
pub ended_runs : (x : ConnEnd) (m : ℕ) (c e : Counts) (f h : ℕ) → Rises c e f h × HasCause x c e f h → RunsOn (Some x) m c e f h
ended_runs x m c e f h r = record { rises = r.0; idle = λ is. absurd (differ is); cause = r.1 }
  where
    differ : Some x ≡ None → ⊥
    differ e = cc

-- after a message
pub message_runs : (c e : Counts) (f h : ℕ) → Runs 0 c e f h → RunsOn None 0 c e f h
message_runs c e f h r = record { rises = r.rises; idle = λ _. r.idle; cause = tt }

-- after a turn of the stream
pub given_runs : (n : ℕ) (c d e : Counts) (f g h : ℕ) → Runs n c d f g → e ≡ d → h ≡ g → Runs n c e f h
given_runs n c d e f g h r same puts =
    subst (λ (x : Counts). Runs n c x f h) (sym same) (subst (λ (x : ℕ). Runs n c d f x) (sym puts) r)

-- after a line of it
pub line_runs : (n : ℕ) (c d e : Counts) (f g h : ℕ) → Runs n c d f g → e ≡ d → h ≡ g → Runs 0 c e f h
line_runs n c d e f g h r same puts = idle_none c e f h (given_runs n c d e f g h r same puts).rises

-- and where the put of its line failed
pub fault_runs : (n m : ℕ) (c d e : Counts) (f g h : ℕ) → Runs n c d f g → e ≡ d → (g ≤ h) × Rose g h → RunsOn (Some end.WriteFault) m c e f h
fault_runs n m c d e f g h r same rose =
    subst (λ (x : Counts). RunsOn (Some end.WriteFault) m c x f h) (sym same)
    (ended_runs end.WriteFault m c d f h (puts_rise c d f g h r.rises rose.0, rose_from f g h 1 r.rises.puts rose.1))

-- a connection that goes on
pub runs_on : (m : ℕ) (c e : Counts) (f h : ℕ) → RunsOn None m c e f h → Runs m c e f h
runs_on m c e f h r = record { rises = r.rises; idle = r.idle refl }

-- at a tick at which it is to end
pub stopped_runs : (n m : ℕ) (c d : Counts) (f g : ℕ) → Runs n c d f g → RunsOn (Some end.Stopped) m c d f g
stopped_runs n m c d f g r = ended_runs end.Stopped m c d f g (r.rises, tt)

-- and for want of memory
pub starved_runs : (n m : ℕ) (c d e : Counts) (f g h : ℕ) → Runs n c d f g → e ≡ d → h ≡ g → RunsOn (Some end.NoMemory) m c e f h
starved_runs n m c d e f g h r same puts = ended_runs end.NoMemory m c e f h ((given_runs n c d e f g h r same puts).rises, tt)

-- what was held back is let go
pub let_go_rises : (whole : Bool) (d e : Counts) (g h : ℕ) → e ≡ d → LetsGo whole g h → Rises d e g h
let_go_rises whole d e g h same l =
    subst (λ (x : Counts). Rises d x g h) (sym same) (record { faults = omega arith; idles = omega arith; closes = omega arith; puts = l.later })
