-- What each step that fits a script keeps is true of the worlds of scripts. What their lines ask for is in its ranges, so
-- these worlds are lawful.
use Rattle.std.proofs.Common.{◌≡◌, ℕ, List, [], ◌∷◌, refl, Option, Some, None, option_map}
use Rattle.ls_step.specs.declared.step.Repeat.{Repeat}
use Rattle.ls_step.specs.declared.step.Step.{Step}
use Rattle.ls_step.specs.Grammar.{is_skipped, line_of}
use Rattle.ls_step.specs.Ranges.{Fits}
use Rattle.ls_step.proofs.Fitting.{line_fits_is}
use Rattle.ls_world.specs.World.{World, empty}
use Rattle.ls_world.specs.Steps.{Stepped, does}
use Rattle.ls_record.specs.Cases.{with_found}
use Rattle.ls_world.specs.Script.{with_line_read, known_of, step as step_of, world_of}
use Rattle.ls_world.specs.Lawful.{Lawful}
use Rattle.ls_record.proofs.Rules.{cond_rule}
use Rattle.ls_world.proofs.ScriptRanges.{in_range, distinct_fields}
use Rattle.ls_laws.proofs.BoardRule.{OfEach}
use Rattle.ls_laws.proofs.NoOutcomes.{NoOutcome, none_does}
use Rattle.ls_laws.proofs.Legible.{Both, both_does, both_counted, both_empty, lawful_both}

-- the worlds of scripts, by what each step that fits keeps
abbrev AfterLine : (World → Type 0) → Option Stepped → Type 0
AfterLine P None = Unit {0}
AfterLine P (Some s) = P s.after

pub record KeptByLines (P : World → Type 0) : Type 0 where
  pub counts : (w : World) → P w → P (with_line_read w)
  pub steps : (w : World) (s : Step) (times : ℕ) → Fits (known_of w) s → P w → P (does w s times).after

line_keeps : (P : World → Type 0) → KeptByLines P → (w : World) (line : List ℕ) → P w → AfterLine P (step_of w line)
line_keeps P k w line p = cond_rule (AfterLine P) (is_skipped line) _ _ (λ skipped. k.counts w p) (λ asked. by_form (line_of (known_of w) line) refl)
  where
    by_form : (o : Option Repeat) → line_of (known_of w) line ≡ o → AfterLine P (option_map (λ r. does (with_line_read w) r.step r.times) o)
    by_form None is = tt
    by_form (Some r) is = k.steps (with_line_read w) r.step r.times (line_fits_is (known_of w) line r is).fits (k.counts w p)

after_line : (P : World → Type 0) (w : World) (o : Option Stepped) (f : Stepped → World) → AfterLine P o → P w → ((s : Stepped) → P s.after → P (f s))
    → P (with_found o w f)
after_line P w None f after p more = p
after_line P w (Some s) f after p more = more s after

pub lines_keep : (P : World → Type 0) → KeptByLines P → (w : World) (lines : List (List ℕ)) → P w → P (world_of w lines)
lines_keep P k w [] p = p
lines_keep P k w (line ∷ lines) p =
    after_line P w (step_of w line) (λ s. world_of s.after lines) (line_keeps P k w line p) p (λ s q. lines_keep P k s.after lines q)

both_by_lines : KeptByLines Both
both_by_lines =
    record { counts = both_counted; steps = λ w s times fits b. both_does w s times (in_range (known_of w) s fits) (distinct_fields (known_of w) s fits) b }

-- a script's lines, up to the first bad one
pub both_script : (lines : List (List ℕ)) → Both (world_of empty lines)
both_script lines = lines_keep Both both_by_lines empty lines both_empty

pub none_script : (lines : List (List ℕ)) → OfEach NoOutcome (world_of empty lines)
none_script lines = lines_keep (OfEach NoOutcome) (record { counts = λ w e. e; steps = λ w s times fits e. none_does w s times e }) empty lines tt

pub lawful_script : (lines : List (List ℕ)) → Lawful (world_of empty lines)
lawful_script lines = lawful_both (world_of empty lines) (both_script lines) (none_script lines)
