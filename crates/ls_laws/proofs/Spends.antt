-- Each U line is given with credit, as the clock never falls.
use Rattle.std.proofs.Common.{◌≡◌, ℕ, ◌+◌, ◌<◌, ◌≤◌, List, [], ◌∷◌, ◌++◌, length, refl, sym, ◌∙◌, ap, arith, subst, cond, true, false}
use Rattle.std.proofs.Common.{Option, Some, None, IfSome, nat_lt, nat_le}
use Rattle.std.specs.Option.{ForSome}
use Rattle.std.proofs.lemmas.Bool.Decides.{nat_tests}
use Rattle.ls_value.proofs.Rows.{and_right}
use Rattle.ls_budget.specs.Budget.{Spend, frequency_tick}
use Rattle.ls_budget.specs.Due.{allows}
use Rattle.ls_budget.specs.Window.{latest_tick, MadeWithCredit}
use Rattle.ls_budget.proofs.Windows.{window_bound}
use Rattle.ls_step.specs.declared.step.Step.{Step}
use Rattle.ls_step.specs.declared.step.Step.TheVariants as step
use Rattle.ls_step.specs.declared.step.Repeat.{Repeat}
use Rattle.ls_step.specs.Grammar.{Known}
use Rattle.ls_step.specs.Ranges.{Fits}
use Rattle.ls_record.specs.Came.{Came}
use Rattle.ls_event.specs.declared.event.Mode.{Mode}
use Rattle.ls_record.specs.Cutting.{Ask}
use Rattle.ls_record.specs.Acting.{asks_of}
use Rattle.ls_record.specs.Lines.{Line, Begins, Ends, Configures, Tells, is_update, line_text, spent_by}
use Rattle.ls_record.specs.Lines.{spends_behind, updated}
use Rattle.ls_world.specs.World.{World, empty}
use Rattle.ls_record.specs.Records.{Item, LiveSlot, Board, Rate, Session, RoundLine, Round, round_of, is_due, definitions}
use Rattle.ls_record.specs.Records.{frequency_of, frequency_in, are_filtered, is_filtered, keys_shown, mode_in}
use Rattle.ls_world.specs.Steps.{does, does_all}
use Rattle.ls_world.specs.Script.{known_of, world_of}
use Rattle.ls_value.specs.Each.{Each}
use Rattle.ls_record.proofs.Each.{each_map}
use Rattle.ls_record.proofs.Parts.{given_by}
use Rattle.ls_record.proofs.Rules.{cond_rule}
use Rattle.ls_world.proofs.Unmoved.{declared_by, does_unmoved}
use Rattle.ls_laws.specs.Budgets.{WaitsForFirst, spends_of, IsOfDue, KeepsBandwidth, KeepsWindows, clock_after, ClockRises}
use Rattle.ls_lawful.proofs.Requested.{IsRate}
use Rattle.ls_laws.proofs.Scripts.{KeptByLines, lines_keep}
use Rattle.ls_laws.proofs.DueSlots.{due_is, line_of_due, wait_is_first}
use Rattle.ls_laws.proofs.BoardRule.{Kept, OfEach, of_does}

-- spends under a rate, if any, were made with credit, and none is later than a tick
abbrev MadeBy : Option ℕ → List Spend → Type 0
MadeBy None spends = Unit {0}
MadeBy (Some r) spends = MadeWithCredit r spends

record IsMade (now : ℕ) (limit : Option ℕ) (spends : List Spend) : Type 0 where
  rate : IsRate limit
  made : MadeBy limit spends
  latest : latest_tick spends ≤ now

abbrev Credited : ℕ → Board → Rate → Type 0
Credited now b r = IsMade now r.limit (spends_behind r.behind b.lines)

none_made : (now : ℕ) (limit : Option ℕ) → IsRate limit → IsMade now limit []
none_made now limit k = record { rate = k; made = by_limit limit; latest = omega arith }
  where
    by_limit : (o : Option ℕ) → MadeBy o []
    by_limit None = tt
    by_limit (Some r) = tt

-- a line that takes nothing, or that isn't behind the rate's setting
line_made : (now n : ℕ) (limit : Option ℕ) (l : Line) (lines : List Line) → IsMade now limit (spends_behind n lines)
    → IsMade now limit (spent_by lines l ++ spends_behind n lines) → IsMade now limit (spends_behind n (l ∷ lines))
line_made now n limit l lines k more =
    cond_rule (IsMade now limit) (nat_lt n (length lines + 1)) _ _ (λ t. more) (λ t. none_made now limit k.rate)

-- a spend where there is credit
spend_made : (now bytes : ℕ) (limit : Option ℕ) (spends : List Spend) → allows limit spends now ≡ true → IsMade now limit spends
    → IsMade now limit (record { tick = now; bytes = bytes } ∷ spends)
spend_made now bytes None spends allowed k = record { rate = k.rate; made = tt; latest = omega arith }
spend_made now bytes (Some r) spends allowed k = record { rate = k.rate; made = (allowed, k.latest, k.made); latest = omega arith }

tells_made : (now n sub rank : ℕ) (c : Came) (limit : Option ℕ) (lines : List Line) → allows limit (spends_behind n lines) now ≡ true
    → IsMade now limit (spends_behind n lines) → IsMade now limit (spends_behind n (Tells sub rank now c ∷ lines))
tells_made now n sub rank c limit lines allowed k =
    line_made now n limit (Tells sub rank now c) lines k
    (cond_rule (λ (spent : List Spend). IsMade now limit (spent ++ spends_behind n lines)) (is_update c.what) _ _
    (λ t. spend_made now (length (line_text lines (Tells sub rank now c)) + 2) limit (spends_behind n lines) allowed k) (λ t. k))

-- as the rate is set anew, nothing was spent
nothing_spent : (lines : List Line) → spends_behind (length lines) lines ≡ []
nothing_spent [] = refl
nothing_spent (l ∷ lines) =
    let t : nat_lt (length (l ∷ lines)) (length lines + 1) ≡ false = grind (arith, nat_tests) in
    ap (λ b. cond b (spent_by lines l ++ spends_behind (length (l ∷ lines)) lines) []) t

added_made : (now n : ℕ) (limit : Option ℕ) (items : List Item) (sub fields : ℕ) (asks : List Ask) (lines : List Line)
    → IsMade now limit (spends_behind n lines) → IsMade now limit (spends_behind n (Configures sub (frequency_of asks) (are_filtered asks)
    ∷ Begins sub (length asks) fields (keys_shown items asks) ∷ lines))
added_made now n limit items sub fields asks lines k =
    let first : Line = Begins sub (length asks) fields (keys_shown items asks) in
    let m : IsMade now limit (spends_behind n (first ∷ lines)) = line_made now n limit first lines k k in
    line_made now n limit (Configures sub (frequency_of asks) (are_filtered asks)) (first ∷ lines) m m

credited_given : (now : ℕ) (s : Session) (kept : List LiveSlot) (o : Option RoundLine) → ((t : RoundLine) → o ≡ Some t → IsOfDue now s t)
    → Credited now s.board s.rate → Credited now (given_by now s.board kept o) s.rate
credited_given now s kept None due k = k
credited_given now s kept (Some t) due k =
    let d : IsOfDue now s t = due t refl in
    let f : ℕ = frequency_tick d.slot.frequency (updated d.slot.sub d.slot.rank s.board.lines) in
    tells_made now s.rate.behind t.live.sub t.live.rank t.came s.rate.limit s.board.lines
    (and_right (nat_le f now) (allows s.rate.limit (spends_of s) now) (sym (due_is now s d.slot) ∙ d.due)) k

credited : Kept Credited
credited =
    record {
      opens = λ now limit rate. none_made now limit rate;
      adds = λ now w s a none k. added_made now s.rate.behind s.rate.limit w.items a.sub (length a.schema) (asks_of (definitions w.items) a) s.board.lines k;
      removes = λ now sub b r k. line_made now r.behind r.limit (Ends sub) b.lines k k;
      reconfigures = λ now sub frequency b r k. let m : Mode = mode_in sub b.round in
          line_made now r.behind r.limit (Configures sub (frequency_in m frequency) (is_filtered m)) b.lines k k;
      constrains = λ now limit b r rate k. subst (IsMade now limit) (sym (nothing_spent b.lines)) (none_made now limit rate);
      ends = λ now b r k. k;
      enqueues = λ now items sub rank b r k. k;
      takes = λ now items s k. let x : Round = round_of (is_due now s) items s.board.lines s.board.round in
          credited_given now s x.kept x.came (λ t is. line_of_due now items s t is) k;
    }

-- a clock that doesn't fall
abbrev ClockIs : ℕ → World → Type 0
ClockIs n w = w.tick ≡ n

declared_clock : (w : World) (s : Step) → ClockIs (clock_after w.tick s) (declared_by w s)
declared_clock w (step.Set name) = refl
declared_clock w (step.Item name k fields) = refl
declared_clock w (step.Tick ms) = refl
declared_clock w (step.Conn name l) = refl
declared_clock w (step.Open name) = refl
declared_clock w (step.Add connection words) = refl
declared_clock w (step.Request connection name parameters) = refl
declared_clock w (step.Publish adapter seq item cells) = refl
declared_clock w (step.Clear adapter seq item) = refl
declared_clock w (step.Enqueue connection sub rank) = refl
declared_clock w (step.Take connection) = refl
declared_clock w (step.Lose connection) = refl

clock_does : (w : World) (s : Step) (times : ℕ) → (does w s times).after.tick ≡ clock_after w.tick s
clock_does w s times =
    does_unmoved (ClockIs (clock_after w.tick s))
    (record { rest = record { sessions = λ v ss p. p; grows = λ v item e p. p }; links = λ v connection session epoch p. p }) w s times (declared_clock w s)

credited_later : (now later : ℕ) (w : World) → now ≤ later → Each (λ (s : Session). Credited now s.board s.rate) w.sessions
    → Each (λ (s : Session). Credited later s.board s.rate) w.sessions
credited_later now later w more e =
    each_map (λ (s : Session). Credited now s.board s.rate) (λ (s : Session). Credited later s.board s.rate) w.sessions
    (λ s k. record { rate = k.rate; made = k.made; latest = omega (arith, k.latest, more) }) e

declared_credited : (w : World) (s : Step) → w.tick ≤ clock_after w.tick s → OfEach Credited w → OfEach Credited (declared_by w s)
declared_credited w (step.Set name) more e = e
declared_credited w (step.Item name k fields) more e = e
declared_credited w (step.Tick ms) more e = credited_later w.tick ms w more e
declared_credited w (step.Conn name l) more e = e
declared_credited w (step.Open name) more e = e
declared_credited w (step.Add connection words) more e = e
declared_credited w (step.Request connection name parameters) more e = e
declared_credited w (step.Publish adapter seq item cells) more e = e
declared_credited w (step.Clear adapter seq item) more e = e
declared_credited w (step.Enqueue connection sub rank) more e = e
declared_credited w (step.Take connection) more e = e
declared_credited w (step.Lose connection) more e = e

credited_does : (w : World) (s : Step) (times : ℕ) → w.tick ≤ clock_after w.tick s → OfEach Credited w → OfEach Credited (does w s times).after
credited_does w s times more e = of_does Credited credited w s times (declared_credited w s more e)

credited_steps : (w : World) (steps : List Repeat) → ClockRises w.tick steps → OfEach Credited w → OfEach Credited (does_all w steps)
credited_steps w [] rises e = e
credited_steps w (r ∷ steps) rises e =
    credited_steps (does w r.step r.times).after steps (subst (λ n. ClockRises n steps) (sym (clock_does w r.step r.times)) rises.1)
    (credited_does w r.step r.times rises.0 e)

-- what fits a script doesn't set the clock back
fits_rise : (k : Known) (s : Step) → Fits k s → k.tick ≤ clock_after k.tick s
fits_rise k (step.Set name) f = omega arith
fits_rise k (step.Item name kd fields) f = omega arith
fits_rise k (step.Tick ms) f = f.later
fits_rise k (step.Conn name l) f = omega arith
fits_rise k (step.Open name) f = omega arith
fits_rise k (step.Add connection words) f = omega arith
fits_rise k (step.Request connection name parameters) f = omega arith
fits_rise k (step.Publish adapter seq item cells) f = omega arith
fits_rise k (step.Clear adapter seq item) f = omega arith
fits_rise k (step.Enqueue connection sub rank) f = omega arith
fits_rise k (step.Take connection) f = omega arith
fits_rise k (step.Lose connection) f = omega arith

credited_by_lines : KeptByLines (OfEach Credited)
credited_by_lines = record { counts = λ w e. e; steps = λ w s times fits e. credited_does w s times (fits_rise (known_of w) s fits) e }

-- in words of the law
for_some : (o : Option ℕ) (P : ℕ → Type 0) → IfSome o P → ForSome o P
for_some None P k = λ x is. absurd (let y : None ≡ Some x = is in cc)
for_some (Some n) P k = λ x is. subst P (the_same n x is) k
  where
    the_same : (n x : ℕ) → Some n ≡ Some x → n ≡ x
    the_same n x is = cc

made_of : (limit : Option ℕ) (spends : List Spend) → MadeBy limit spends → IfSome limit (λ r. MadeWithCredit r spends)
made_of None spends m = tt
made_of (Some r) spends m = m

keeps_bandwidth : (now : ℕ) (s : Session) → Credited now s.board s.rate → KeepsBandwidth now s
keeps_bandwidth now s k =
    record {
      some = for_some s.rate.limit (λ r. 0 < r) k.rate;
      made = for_some s.rate.limit (λ r. MadeWithCredit r (spends_of s)) (made_of s.rate.limit (spends_of s) k.made);
      latest = k.latest;
    }

world_keeps : (w : World) → OfEach Credited w → Each (KeepsBandwidth w.tick) w.sessions
world_keeps w e = each_map (λ (s : Session). Credited w.tick s.board s.rate) (KeepsBandwidth w.tick) w.sessions (keeps_bandwidth w.tick) e

pub steps_made : (steps : List Repeat) → ClockRises 0 steps → Each (KeepsBandwidth (does_all empty steps).tick) (does_all empty steps).sessions
steps_made steps rises = world_keeps (does_all empty steps) (credited_steps empty steps rises tt)

pub script_made : (lines : List (List ℕ)) → Each (KeepsBandwidth (world_of empty lines).tick) (world_of empty lines).sessions
script_made lines = world_keeps (world_of empty lines) (lines_keep (OfEach Credited) credited_by_lines empty lines tt)

-- so a wait ends at the first tick at which a slot that waits is due
waits_for_first : (w : World) (s : Session) → KeepsBandwidth w.tick s → WaitsForFirst w s
waits_for_first w s k epoch tick is = wait_is_first w.tick w.items epoch s tick k.some k.latest is

pub steps_wait : (steps : List Repeat) → ClockRises 0 steps → Each (WaitsForFirst (does_all empty steps)) (does_all empty steps).sessions
steps_wait steps rises =
    let w : World = does_all empty steps in each_map (KeepsBandwidth w.tick) (WaitsForFirst w) w.sessions (waits_for_first w) (steps_made steps rises)

pub script_waits : (lines : List (List ℕ)) → Each (WaitsForFirst (world_of empty lines)) (world_of empty lines).sessions
script_waits lines =
    let w : World = world_of empty lines in each_map (KeepsBandwidth w.tick) (WaitsForFirst w) w.sessions (waits_for_first w) (script_made lines)

-- and the window law
keeps_windows : (now : ℕ) (s : Session) → KeepsBandwidth now s → KeepsWindows s
keeps_windows now s k r newer within older last from to is spends all =
    window_bound r newer within older last from to (subst (MadeWithCredit r) spends (k.made r is)) all

pub steps_bounded : (steps : List Repeat) → ClockRises 0 steps → Each KeepsWindows (does_all empty steps).sessions
steps_bounded steps rises =
    let w : World = does_all empty steps in each_map (KeepsBandwidth w.tick) KeepsWindows w.sessions (keeps_windows w.tick) (steps_made steps rises)

pub script_bounded : (lines : List (List ℕ)) → Each KeepsWindows (world_of empty lines).sessions
script_bounded lines =
    let w : World = world_of empty lines in each_map (KeepsBandwidth w.tick) KeepsWindows w.sessions (keeps_windows w.tick) (script_made lines)
