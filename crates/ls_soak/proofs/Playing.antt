-- A line of a soak is done, and what it prints is counted.
use Rattle.std.proofs.Common.{◌≡◌, ℕ, zero, suc, ◌+◌, ◌-◌, ◌<◌, ◌≤◌, List, [], ◌∷◌, ◌++◌, Bool, true, false, not, cond, Option, None, Some}
use Rattle.std.proofs.Common.{refl, sym, ◌∙◌, ap, subst, arith, take, drop}
use Rattle.std.specs.Prelude.{is_some, IsErrOf, Err, codes}
use Rattle.ls_run.specs.declared.engine.LineRefused.{LineRefused}
use Rattle.std.specs.Borrow.{Bor}
use Rattle.ls_words.specs.Words.{divided, pieces_behind}
use Rattle.ls_world.specs.World.{World, empty}
use Rattle.ls_world.specs.Steps.{Stepped}
use Rattle.ls_world.specs.Script.{step, output_of, has_bad_line, text_of_outs}
use Rattle.ls_step.specs.declared.limits.TheConstants.{GREATEST_IN_LINE}
use Rattle.ls_run.specs.declared.engine.Engine.{Engine}
use Rattle.ls_run.specs.Engine.{StandsEngine, Steps, IsBad}
use Rattle.ls_soak.specs.declared.drawing.Choice.{Choice}
use Rattle.ls_soak.specs.declared.tally.Tally.{Tally}
use Rattle.ls_soak.specs.Drawing.{opening, drawn, script, line_by, choice_of, following}
use Rattle.ls_soak.specs.Tallies.{no_lines, tally_of, lines_in, joined}
use Rattle.ls_soak.specs.declared.soaking.SoakEnd.TheVariants as end
use Rattle.ls_soak.specs.Soaking.{Leaves, Reported, printed, count_line, report_of}
use Rattle.std.specs.Io.KnownBytes.{Appends}
use Rattle.std.proofs.lemmas.List.{take-append-drop}
use Rattle.ls_soak.proofs.GoodLines.{script_good}
use Rattle.ls_soak.proofs.PrintedLines.{but_last, with_piece, next_piece, outs_counted, pieces_whole, joined_none, counted_none}

play_step : (e' : Engine) (t t' all : Tally) (w : World) (line text text' : List ℕ) (lines : List (List ℕ)) (o : Option Stepped) → step w line ≡ o
    → Steps o text text' e' → text ≡ [] → t' ≡ joined t (tally_of (lines_in text')) → has_bad_line w (line ∷ lines) ≡ false
    → joined t (tally_of (lines_in (output_of w (line ∷ lines)))) ≡ all → Leaves e' t' lines all
play_step e' t t' all w line text text' lines None is did none more good counts = absurd did
play_step e' t t' all w line text text' lines (Some s) is did none more good counts =
    let out : text' ≡ text_of_outs s.outs = did.0 ∙ ap (λ x. x ++ text_of_outs s.outs) none in
    let rest : List ℕ = output_of s.after lines in
    let before : joined t (tally_of (lines_in (text_of_outs s.outs ++ rest))) ≡ all = rw is at counts in
    record {
      world = s.after;
      stands = did.1;
      good = rw is at good;
      counts =
          ap (λ x. joined x (tally_of (lines_in rest))) (more ∙ ap (λ x. joined t (tally_of (lines_in x))) out)
          ∙ outs_counted t s.outs rest ∙ before;
    }

-- a line that is done leaves the others
pub played : (e e' : Engine) (t t' all : Tally) (line text text' : List ℕ) (lines : List (List ℕ)) → text ≡ []
    → ((w : World) → StandsEngine e w → Steps (step w line) text text' e') → t' ≡ joined t (tally_of (lines_in text'))
    → Leaves e t (line ∷ lines) all → Leaves e' t' lines all
played e e' t t' all line text text' lines none did more l =
    play_step e' t t' all l.world line text text' lines (step l.world line) refl (did l.world l.stands) none more l.good l.counts

bad_first : (w : World) (line : List ℕ) (lines : List (List ℕ)) → step w line ≡ None → has_bad_line w (line ∷ lines) ≡ false → ⊥
bad_first w line lines is good = let e : true ≡ false = rw is at good in cc e

-- no line that is left is bad
pub never_bad : (e e' : Engine) (t all : Tally) (line : List ℕ) (lines : List (List ℕ)) → ((w : World) → StandsEngine e w → IsBad w line e')
    → Leaves e t (line ∷ lines) all → ⊥
never_bad e e' t all line lines bad l = bad_first l.world line lines (bad l.world l.stands).0 l.good

-- other lines that are the same
pub leaves_same : (e : Engine) (t all : Tally) (lines others : List (List ℕ)) → lines ≡ others → Leaves e t lines all → Leaves e t others all
leaves_same e t all lines others is l = subst (λ (ls : List (List ℕ)). Leaves e t ls all) is l

with_more : (last : Bool) (line : List ℕ) (xs ys : List (List ℕ)) → with_piece last line xs ++ ys ≡ cond last (xs ++ ys) (line ∷ (xs ++ ys))
with_more true line xs ys = refl
with_more false line xs ys = refl

-- a piece of a text, and those behind it
pub next_piece_left : (e : Engine) (t all : Tally) (line : List ℕ) (pieces lines : List (List ℕ)) (o : Option (Bor (List ℕ))) (last : Bool)
    → is_some o ≡ not last → pieces ≡ line ∷ pieces_behind 10 o → Leaves e t (but_last pieces ++ lines) all
    → Leaves e t (cond last (but_last (pieces_behind 10 o) ++ lines) (line ∷ (but_last (pieces_behind 10 o) ++ lines))) all
next_piece_left e t all line pieces lines o last some are l =
    leaves_same e t all _ _
    (ap (λ ls. ls ++ lines) (next_piece line pieces o last some are) ∙ with_more last line (but_last (pieces_behind 10 o)) lines) l

-- the lines of a text, before its first piece and behind its last one
pub text_left : (e : Engine) (t all : Tally) (text : List ℕ) (lines : List (List ℕ)) → Leaves e t (lines_in text ++ lines) all
    → Leaves e t (but_last (divided 10 text) ++ lines) all
text_left e t all text lines l = leaves_same e t all _ _ (ap (λ ls. ls ++ lines) (sym (pieces_whole text))) l

pub pieces_done : (e : Engine) (t all : Tally) (lines : List (List ℕ)) (o : Option (Bor (List ℕ))) → o ≡ None
    → Leaves e t (but_last (pieces_behind 10 o) ++ lines) all → Leaves e t lines all
pieces_done e t all lines o none l =
    leaves_same e t all _ _ (ap (λ r. but_last (pieces_behind 10 r) ++ lines) none) l

-- a line that was appended to an empty text
pub line_said : (line text empty_text : List ℕ) (before : ℕ) (drawn_choice choice : Choice) → line ≡ text
    → text ≡ empty_text ++ line_by (before + 1) drawn_choice → empty_text ≡ [] → drawn_choice ≡ choice → line ≡ line_by (before + 1) choice
line_said line text empty_text before drawn_choice choice is added none chosen =
    is ∙ added ∙ ap (λ t. t ++ line_by (before + 1) drawn_choice) none ∙ ap (λ c. line_by (before + 1) c) chosen

pub other_line_left : (e : Engine) (t all : Tally) (line other : List ℕ) (lines : List (List ℕ)) → line ≡ other → Leaves e t (other ∷ lines) all
    → Leaves e t (line ∷ lines) all
other_line_left e t all line other lines is l = leaves_same e t all _ _ (ap (λ x. x ∷ lines) (sym is)) l

-- the next of the lines that are drawn
drawn_next : (x before n m : ℕ) → n ≡ suc m → drawn x before n ≡ line_by (before + 1) (choice_of (following x)) ∷ drawn (following x) (before + 1) m
drawn_next x before n m is = ap (λ k. drawn x before k) is

pub next_drawn : (e : Engine) (t all : Tally) (x before steps : ℕ) → before < steps → Leaves e t (drawn x before (steps - before)) all
    → Leaves e t (line_by (before + 1) (choice_of (following x)) ∷ drawn (following x) (before + 1) (steps - (before + 1))) all
next_drawn e t all x before steps less l =
    leaves_same e t all _ _ (drawn_next x before (steps - before) (steps - (before + 1)) (omega (arith, less))) l

pub none_drawn : (e : Engine) (t all : Tally) (x steps : ℕ) → Leaves e t (drawn x 0 steps) all → Leaves e t (drawn x 0 (steps - 0)) all
none_drawn e t all x steps l = leaves_same e t all _ _ (ap (λ n. drawn x 0 n) (let z : steps ≡ steps - 0 = omega arith in z)) l

pub all_drawn : (e : Engine) (t all : Tally) (x before steps : ℕ) → steps ≤ before
    → Leaves e t (drawn x before (steps - before)) all → Leaves e t [] all
all_drawn e t all x before steps over l =
    leaves_same e t all _ _ (ap (λ k. drawn x before k) (let z : steps - before ≡ zero = omega (arith, over) in z)) l

-- before the first line of a script, and behind its last one
pub script_left : (e : Engine) (t : Tally) (text : List ℕ) (start steps : ℕ) → StandsEngine e empty → t ≡ no_lines → lines_in text ≡ opening
    → steps ≤ GREATEST_IN_LINE → Leaves e t (lines_in text ++ drawn start 0 steps) (tally_of (lines_in (printed start steps)))
script_left e t text start steps st none is most =
    leaves_same e t _ (script start steps) _ (ap (λ ls. ls ++ drawn start 0 steps) (sym is))
    (record {
      world = empty;
      stands = st;
      good = script_good start steps most;
      counts = ap (λ s. joined s (tally_of (lines_in (printed start steps)))) none ∙ joined_none (tally_of (lines_in (printed start steps)));
    })

-- a report is its three lines, one after another
pub report_said : (steps : ℕ) (t : Tally) (first second third : List ℕ) → first ≡ count_line (codes "steps ") steps
    → second ≡ first ++ count_line (codes "lines ") t.lines → third ≡ second ++ count_line (codes "updates ") t.updates
    → third ≡ report_of steps t
report_said steps t first second third is more most =
    most ∙ ap (λ x. x ++ count_line (codes "updates ") t.updates) (more ∙ ap (λ x. x ++ count_line (codes "lines ") t.lines) is)

-- a front part of a report was written
pub report_cut : (text wanted : List ℕ) (n : ℕ) (held held' : Option (List ℕ)) → text ≡ wanted → Appends held held' (take n text)
    → Reported end.WriteFault wanted held held'
report_cut text wanted n held held' is took =
    record { written = take n text; appends = took; wrote = (drop n text, sym is ∙ sym (take-append-drop n text)) }

-- a refusal is handed on
pub same_cause : (cause other : LineRefused) → IsErrOf {T = Tally} {E = LineRefused} (Err cause) other → cause ≡ other
same_cause cause other h = cc h

pub none_left : (e : Engine) (t all : Tally) → Leaves e t [] all → t ≡ all
none_left e t all l = sym (counted_none t) ∙ l.counts
