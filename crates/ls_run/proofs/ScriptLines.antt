-- Lines of texts one after another, and runs of lists of lines one after another.
use Rattle.std.proofs.Common.{◌≡◌, ◌==◌, ℕ, ◌+◌, List, [], ◌∷◌, ◌++◌, refl, sym, ◌∙◌, ap, arith, append_assoc, true, false, cond}
use Rattle.std.specs.Prelude.{Option, None, Some, option_map}
use Rattle.ls_step.specs.declared.step.Repeat.{Repeat}
use Rattle.ls_step.specs.Grammar.{is_skipped, line_of}
use Rattle.ls_record.specs.Cases.{with_found}
use Rattle.ls_world.specs.World.{World}
use Rattle.ls_world.specs.Steps.{Stepped, stays, does}
use Rattle.ls_world.proofs.Knowing.{does_counts}
use Rattle.ls_world.specs.Script.{with_line_read, known_of, step, whole_from, rest_from, output_of, text_of_outs, world_of, done, has_bad_line, IsPrefix}

pub whole_from-append : (carry xs ys : List ℕ) → whole_from carry (xs ++ ys) ≡ whole_from carry xs ++ whole_from (rest_from carry xs) ys
whole_from-append carry [] ys = refl
whole_from-append carry (b ∷ xs) ys =
    elim (b == 10) as (λ v. cond v (carry ∷ whole_from [] (xs ++ ys)) (whole_from (carry ++ b ∷ []) (xs ++ ys))
    ≡ cond v (carry ∷ whole_from [] xs) (whole_from (carry ++ b ∷ []) xs) ++ whole_from (cond v (rest_from [] xs) (rest_from (carry ++ b ∷ []) xs)) ys)
    [ true ↦ ap (λ l. carry ∷ l) (whole_from-append [] xs ys) | false ↦ whole_from-append (carry ++ b ∷ []) xs ys ]

pub rest_from-append : (carry xs ys : List ℕ) → rest_from carry (xs ++ ys) ≡ rest_from (rest_from carry xs) ys
rest_from-append carry [] ys = refl
rest_from-append carry (b ∷ xs) ys =
    elim (b == 10) as (λ v. cond v (rest_from [] (xs ++ ys)) (rest_from (carry ++ b ∷ []) (xs ++ ys))
    ≡ rest_from (cond v (rest_from [] xs) (rest_from (carry ++ b ∷ []) xs)) ys)
    [ true ↦ rest_from-append [] xs ys | false ↦ rest_from-append (carry ++ b ∷ []) xs ys ]

-- a line that isn't bad counts one
abbrev Counts : World → Option Stepped → Type 0
Counts w None = Unit {0}
Counts w (Some s) = s.after.line ≡ w.line + 1

asked_counts : (w : World) (asked : Option Repeat) → Counts w (option_map (λ r. does (with_line_read w) r.step r.times) asked)
asked_counts w None = tt
asked_counts w (Some r) = does_counts (with_line_read w) r.step r.times

step_counts : (w : World) (line : List ℕ) → Counts w (step w line)
step_counts w line =
    elim (is_skipped line) as (λ b. Counts w (cond b (Some (stays (with_line_read w) []))
    (option_map (λ r. does (with_line_read w) r.step r.times) (line_of (known_of w) line))))
    [ true ↦ refl | false ↦ asked_counts w (line_of (known_of w) line) ]

-- none of the first lines is bad, so the run goes on behind them
pub record GoesOn (w : World) (xs ys : List (List ℕ)) : Type 0 where
  pub text : output_of w (xs ++ ys) ≡ output_of w xs ++ output_of (world_of w xs) ys
  pub world : world_of w (xs ++ ys) ≡ world_of (world_of w xs) ys
  pub count : (world_of w xs).line + done (world_of w xs) ys ≡ w.line + done w (xs ++ ys)
  pub bad : has_bad_line w (xs ++ ys) ≡ has_bad_line (world_of w xs) ys

goes_on_step : (w : World) (x : List ℕ) (xs ys : List (List ℕ)) (o : Option Stepped) → step w x ≡ o
    → ((v : World) → has_bad_line v xs ≡ false → GoesOn v xs ys) → has_bad_line w (x ∷ xs) ≡ false → GoesOn w (x ∷ xs) ys
goes_on_step w x xs ys None is go good = absurd (let e : true ≡ false = rw is at good in cc e)
goes_on_step w x xs ys (Some s) is go good =
    let e : has_bad_line s.after xs ≡ false = rw is at good in
    let h : GoesOn s.after xs ys = go s.after e in
    let one : s.after.line ≡ w.line + 1 = rw is at (step_counts w x) in
    record {
      text = rw is
          (ap (λ t. text_of_outs s.outs ++ t) h.text ∙ sym (append_assoc (text_of_outs s.outs) (output_of s.after xs) (output_of (world_of s.after xs) ys)));
      world = rw is h.world;
      count = rw is (omega (arith, h.count, one));
      bad = rw is h.bad;
    }

pub goes_on : (w : World) (xs ys : List (List ℕ)) → has_bad_line w xs ≡ false → GoesOn w xs ys
goes_on w [] ys good = record { text = refl; world = refl; count = refl; bad = refl }
goes_on w (x ∷ xs) ys good = goes_on_step w x xs ys (step w x) refl (λ v h. goes_on v xs ys h) good

-- what is printed for the first lines comes first
pub text_begins : (w : World) (xs ys : List (List ℕ)) → IsPrefix (output_of w xs) (output_of w (xs ++ ys))
text_begins w [] ys = (output_of w ys, refl)
text_begins w (x ∷ xs) ys =
    elim (step w x) as (λ o. IsPrefix (with_found o [] (λ s. text_of_outs s.outs ++ output_of s.after xs))
    (with_found o [] (λ s. text_of_outs s.outs ++ output_of s.after (xs ++ ys)))) [
      | None ↦ ([], refl)
      | Some s ↦ let h = text_begins s.after xs ys in (
        h.0,
        ap (λ t. text_of_outs s.outs ++ t) h.1
            ∙ sym (append_assoc (text_of_outs s.outs) (output_of s.after xs) h.0),
      )
    ]

-- one of the first lines is bad, so nothing behind it counts
pub record Stops (w : World) (xs ys : List (List ℕ)) : Type 0 where
  pub text : output_of w (xs ++ ys) ≡ output_of w xs
  pub count : done w (xs ++ ys) ≡ done w xs
  pub bad : has_bad_line w (xs ++ ys) ≡ true

stops_step : (w : World) (x : List ℕ) (xs ys : List (List ℕ)) (o : Option Stepped) → step w x ≡ o
    → ((v : World) → has_bad_line v xs ≡ true → Stops v xs ys) → has_bad_line w (x ∷ xs) ≡ true → Stops w (x ∷ xs) ys
stops_step w x xs ys None is go bad = record { text = rw is refl; count = rw is refl; bad = rw is refl }
stops_step w x xs ys (Some s) is go bad =
    let e : has_bad_line s.after xs ≡ true = rw is at bad in
    let h : Stops s.after xs ys = go s.after e in
    record { text = rw is (ap (λ t. text_of_outs s.outs ++ t) h.text); count = rw is (ap (λ n. n + 1) h.count); bad = rw is h.bad }

pub stops : (w : World) (xs ys : List (List ℕ)) → has_bad_line w xs ≡ true → Stops w xs ys
stops w [] ys bad = absurd (cc bad)
stops w (x ∷ xs) ys bad = stops_step w x xs ys (step w x) refl (λ v h. stops v xs ys h) bad
