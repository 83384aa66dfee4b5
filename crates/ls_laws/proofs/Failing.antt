-- A world is lawful that a step leaves which failed for want of memory.
use Rattle.std.proofs.Common.{ℕ, List, [], ◌∷◌, sym, subst, ◌≡◌, refl}
use Rattle.ls_step.specs.declared.step.Repeat.{Repeat}
use Rattle.ls_step.specs.declared.step.Step.{Step}
use Rattle.ls_step.specs.declared.step.Step.TheVariants as step
use Rattle.ls_value.specs.Each.{Each}
use Rattle.ls_record.specs.Quiet.{AreQuiet}
use Rattle.ls_record.specs.Records.{Item, Session}
use Rattle.ls_record.proofs.Each.{each_map}
use Rattle.ls_lawful.specs.Lawful.{LawfulSession, ClientsDecode}
use Rattle.ls_lawful.proofs.SilentCuts.{QuietKept, quiet_kept}
use Rattle.ls_world.specs.World.{World, empty}
use Rattle.ls_world.specs.Steps.{Stepped, Once, stays, behind, repeated, take_once, enqueue_once, does_all}
use Rattle.ls_world.specs.Script.{with_line_read, world_of}
use Rattle.ls_world.specs.Lawful.{Lawful}
use Rattle.ls_world.specs.Ranges.{InRange}
use Rattle.ls_world.specs.Repeats.{nth_world}
use Rattle.ls_world.specs.Failing.{PassedSilentCuts, MayLeave}
use Rattle.ls_world.proofs.Rules.{nth_keeps}
use Rattle.ls_laws.proofs.Legible.{Both, both_taken_once, both_enqueued_once, both_counted, both_empty, both_does_all, lawful_both}
use Rattle.ls_record.proofs.Rules.{cond_rule}
use Rattle.ls_laws.proofs.BoardRule.{OfEach}
use Rattle.ls_laws.proofs.NoOutcomes.{NoOutcome, none_does, none_does_all}
use Rattle.ls_laws.proofs.Scripts.{both_script, none_script}

each_quiet : (items : List Item) (ss ts : List Session) → AreQuiet items ss ts → Each (LawfulSession items) ss → Each (ClientsDecode items) ss
    → Each (QuietKept items) ts
each_quiet items [] [] q l d = tt
each_quiet items [] (t ∷ ts) q l d = absurd q
each_quiet items (s ∷ ss) [] q l d = absurd q
each_quiet items (s ∷ ss) (t ∷ ts) q l d = (quiet_kept items s t q.0 l.0 d.0, each_quiet items ss ts q.1 l.1 d.1)

pub silent_cuts_lawful : (w v : World) → Lawful w → PassedSilentCuts w v → Lawful v
silent_cuts_lawful w v l p =
    let k : Each (QuietKept w.items) v.sessions = each_quiet w.items w.sessions v.sessions p.sessions l.records.sessions l.clients in
    subst Lawful (sym p.rest)
    (record {
      records = record {
        items = l.records.items;
        sessions = each_map (QuietKept w.items) (LawfulSession w.items) v.sessions (λ s x. x.session) k;
      };
      clients = each_map (QuietKept w.items) (ClientsDecode w.items) v.sessions (λ s x. x.clients) k;
    })

-- one of like steps is what they are where one is made
after_once : (o : Once) → (behind o (λ v. stays v [])).after ≡ o.after
after_once o = cond_rule (λ (r : Stepped). r.after ≡ o.after) o.more _ _ (λ more. refl) (λ last. refl)

none_once : (f : World → Once) (w : World) → OfEach NoOutcome (repeated f 1 w).after → OfEach NoOutcome (f w).after
none_once f w e = subst (OfEach NoOutcome) (after_once (f w)) e

none_nth : (f : World → Once) (k : ℕ) (w : World) → ((v : World) → OfEach NoOutcome v → OfEach NoOutcome (repeated f 1 v).after) → OfEach NoOutcome w
    → OfEach NoOutcome (nth_world f k w)
none_nth f k w keep e = nth_keeps (OfEach NoOutcome) f k w (λ v d. none_once f v (keep v d)) e

left_lawful : (w : World) (s : Step) (times : ℕ) (v : World) → Both w → OfEach NoOutcome w → MayLeave w s times v → Lawful v
left_lawful w (step.Take connection) times v b e m =
    silent_cuts_lawful (nth_world (take_once connection) m.done w) v
    (lawful_both (nth_world (take_once connection) m.done w) (nth_keeps Both (take_once connection) m.done w (both_taken_once connection) b)
    (none_nth (take_once connection) m.done w (λ u d. none_does u (step.Take connection) 1 d) e)) m.passed
left_lawful w (step.Enqueue connection sub rank) times v b e m =
    subst Lawful (sym m.is)
    (lawful_both (nth_world (enqueue_once connection sub rank) m.done w)
    (nth_keeps Both (enqueue_once connection sub rank) m.done w (both_enqueued_once connection sub rank) b)
    (none_nth (enqueue_once connection sub rank) m.done w (λ u d. none_does u (step.Enqueue connection sub rank) 1 d) e))
left_lawful w (step.Set name) times v b e m = subst Lawful (sym m) (lawful_both w b e)
left_lawful w (step.Item name kind fields) times v b e m = subst Lawful (sym m) (lawful_both w b e)
left_lawful w (step.Tick ms) times v b e m = subst Lawful (sym m) (lawful_both w b e)
left_lawful w (step.Conn name link) times v b e m = subst Lawful (sym m) (lawful_both w b e)
left_lawful w (step.Open name) times v b e m = subst Lawful (sym m) (lawful_both w b e)
left_lawful w (step.Add connection words) times v b e m = subst Lawful (sym m) (lawful_both w b e)
left_lawful w (step.Request connection name parameters) times v b e m = subst Lawful (sym m) (lawful_both w b e)
left_lawful w (step.Publish adapter seq item cells) times v b e m = subst Lawful (sym m) (lawful_both w b e)
left_lawful w (step.Clear adapter seq item) times v b e m = subst Lawful (sym m) (lawful_both w b e)
left_lawful w (step.Lose connection) times v b e m = subst Lawful (sym m) (lawful_both w b e)

pub left_by_steps : (steps : List Repeat) (s : Step) (times : ℕ) (v : World) → Each InRange steps → MayLeave (does_all empty steps) s times v → Lawful v
left_by_steps steps s times v range m = left_lawful (does_all empty steps) s times v (both_does_all empty steps range both_empty) (none_does_all empty steps tt) m

pub left_by_scripts : (lines : List (List ℕ)) (s : Step) (times : ℕ) (v : World) → MayLeave (with_line_read (world_of empty lines)) s times v → Lawful v
left_by_scripts lines s times v m =
    left_lawful (with_line_read (world_of empty lines)) s times v (both_counted (world_of empty lines) (both_script lines))
    (none_script lines) m
