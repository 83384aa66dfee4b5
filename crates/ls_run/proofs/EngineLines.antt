-- A line of the engine is that of the world.
use Rattle.std.proofs.Common.{◌≡◌, ℕ, ◌+◌, List, [], append-nil, sym, ◌∙◌, ap, subst, cond, Bool, true, false, Option, Some, None, option_map}
use Rattle.ls_step.specs.declared.step.Step.{Step}
use Rattle.ls_step.specs.declared.step.Step.TheVariants as step
use Rattle.ls_step.specs.declared.step.Repeat.{Repeat}
use Rattle.ls_step.specs.Grammar.{Known, known_after, is_skipped, line_of}
use Rattle.ls_step.specs.Ranges.{Fits}
use Rattle.ls_world.specs.World.{World}
use Rattle.ls_world.specs.Steps.{Stepped, stays, does}
use Rattle.ls_world.specs.Script.{known_of, with_line_read, step as one_step}
use Rattle.ls_world.proofs.Knowing.{known_does, does_counts}
use Rattle.ls_hub.specs.Hub.{StandsHub, Prints, HasAdapter}
use Rattle.ls_run.specs.Engine.{StandsEngine, Steps}
use Rattle.ls_hub.specs.declared.hub.Hub.{Hub}
use Rattle.ls_run.specs.declared.engine.Engine.{Engine}

-- an event of a step that fits has an adapter within its range
pub has_adapter : (k : Known) (s : Step) → Fits k s → HasAdapter s
has_adapter k (step.Set name) f = tt
has_adapter k (step.Item name kind fields) f = tt
has_adapter k (step.Tick ms) f = tt
has_adapter k (step.Conn name l) f = tt
has_adapter k (step.Open name) f = tt
has_adapter k (step.Add connection words) f = tt
has_adapter k (step.Request connection name parameters) f = tt
has_adapter k (step.Publish adapter seq item cells) f = f.published.most
has_adapter k (step.Clear adapter seq item) f = f.most
has_adapter k (step.Enqueue connection sub rank) f = tt
has_adapter k (step.Take connection) f = tt
has_adapter k (step.Lose connection) f = tt

counted_hub : (h : Hub) (w : World) → StandsHub h w → StandsHub h (with_line_read w)
counted_hub h w st =
    record {
      set = st.set;
      tick = st.tick;
      in_range = st.in_range;
      definitions = st.definitions;
      cells = st.cells;
      sessions = st.sessions;
      numbers = st.numbers;
      living = st.living;
      connections = st.connections;
    }

-- what a step that was read makes of a world
abbrev stepped_by : World → Option Repeat → Option Stepped
stepped_by w asked = option_map (λ r. does w r.step r.times) asked

-- a line that isn't skipped does what was read of it by what is known
read_is : (k : Known) (w : World) (line : List ℕ) (asked : Option Repeat) → k ≡ known_of w → is_skipped line ≡ false → line_of k line ≡ asked
    → one_step w line ≡ stepped_by (with_line_read w) asked
read_is k w line asked known skips is =
    ap (λ b. cond b (Some (stays (with_line_read w) [])) (stepped_by (with_line_read w) (line_of (known_of w) line))) skips
    ∙ ap (λ q. stepped_by (with_line_read w) (line_of q line)) (sym known) ∙ ap (stepped_by (with_line_read w)) is

pub line_skipped : (e : Engine) (w : World) (line text : List ℕ) → is_skipped line ≡ true → StandsEngine e w
    → Steps (one_step w line) text text (record e { line = e.line + 1 })
line_skipped e w line text skips st =
    let read : Option Stepped = stepped_by (with_line_read w) (line_of (known_of w) line) in
    subst (λ (b : Bool). Steps (cond b (Some (stays (with_line_read w) [])) read) text text (record e { line = e.line + 1 })) (sym skips)
    (sym (append-nil text), record { line = ap (λ n. n + 1) st.line; known = st.known; hub = counted_hub e.hub w st.hub })

pub line_did : (e e' : Engine) (w : World) (line : List ℕ) (s : Step) (times : ℕ) (text text' : List ℕ)
    → is_skipped line ≡ false → line_of e.script line ≡ Some (record { step = s; times = times })
    → Fits e.script s → e'.line ≡ e.line + 1 → e'.script ≡ known_after e.script s
    → ((v : World) → StandsHub e.hub v → e.line + 1 ≡ v.line → Fits (known_of v) s → Prints (does v s times) text text' e'.hub)
    → StandsEngine e w → Steps (one_step w line) text text' e'
line_did e e' w line s times text text' skips is fits number known did st =
    let d : Prints (does (with_line_read w) s times) text text' e'.hub =
    did (with_line_read w) (counted_hub e.hub w st.hub) (ap (λ n. n + 1) st.line) (subst (λ (k : Known). Fits k s) st.known fits) in
    let made : one_step w line ≡ Some (does (with_line_read w) s times) =
    read_is e.script w line (Some (record { step = s; times = times })) st.known skips is in
    subst (λ (o : Option Stepped). Steps o text text' e') (sym made) (
      d.text,
      record {
        line = number ∙ ap (λ n. n + 1) st.line ∙ sym (does_counts (with_line_read w) s times);
        known = known ∙ ap (λ k. known_after k s) st.known ∙ sym (known_does (with_line_read w) s times);
        hub = d.stands;
      },
    )

pub line_bad : (e : Engine) (w : World) (line : List ℕ) → is_skipped line ≡ false → line_of e.script line ≡ None → StandsEngine e w
    → one_step w line ≡ None
line_bad e w line skips is st = read_is e.script w line None st.known skips is
