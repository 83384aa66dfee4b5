-- What each kind of line does.
use Rattle.std.proofs.Common.{◌≡◌, ◌==◌, ℕ, ◌&&◌, if◌then◌else◌, List, [], ◌∷◌, Option, Some, None, Result, Ok, Err, OnOk, sym, refl, ap, ◌∙◌, subst, ⊎_elim}
use Rattle.std.proofs.lemmas.Bool.Decides.{eqb_tells}
use Rattle.ls_line.specs.declared.line.Line.{Line}
use Rattle.ls_line.specs.declared.line.Line.TheVariants as line
use Rattle.ls_mirror.specs.declared.client.Client.{Client}
use Rattle.ls_mirror.specs.declared.command.KeyPlaces.{KeyPlaces}
use Rattle.ls_mirror.specs.Client.{Begun, Heard, Coded, Missed, Emptied, Ended, heard_of, places_of_subcmd}
use Rattle.ls_mirror.specs.Standing.{StandsClient, BeginsOrEnds, IsHeardOf}

flip : (a b : ℕ) → (a == b) ≡ (b == a)
flip a b = ⊎_elim
    (λ y. ⊎_elim (λ z. y.0 ∙ sym z.0) (λ z. absurd (z.1 (sym y.1))) (eqb_tells b a))
    (λ n. ⊎_elim (λ z. absurd (n.1 (sym z.1))) (λ z. n.0 ∙ sym z.0) (eqb_tells b a))
    (eqb_tells a b)

to_here : {X : Type 0} (a b : ℕ) (x y : X) → (if a == b then x else y) ≡ (if b == a then x else y)
to_here a b x y = ap (λ t. if t then x else y) (flip a b)

heard_here : (a b i j : ℕ) (h : Heard) (before : List Heard) → heard_of ((a == b) && (i == j)) h before ≡ heard_of ((b == a) && (j == i)) h before
heard_here a b i j h before k = heard_of (flip a b k && flip i j k) h before

pub begins_sub_ok : (sub items fields : ℕ) → BeginsOrEnds (line.SubOk sub items fields) sub (Some (record { items = items; fields = fields; keyed = None }))
begins_sub_ok sub items fields = record { begins = λ q before. to_here sub q _ before; hears = λ q i before. to_here sub q [] before }

pub begins_sub_cmd : (sub items fields key command : ℕ) (places : KeyPlaces) → places ≡ places_of_subcmd key command
    → BeginsOrEnds (line.SubCmd sub items fields key command) sub (Some (record { items = items; fields = fields; keyed = Some places }))
begins_sub_cmd sub items fields key command places e =
    subst
    (λ (p : KeyPlaces). BeginsOrEnds (line.SubCmd sub items fields key command) sub (Some (record { items = items; fields = fields; keyed = Some p })))
    (sym e)
    (record { begins = λ q before. to_here sub q _ before; hears = λ q i before. to_here sub q [] before })

pub begins_unsub : (sub : ℕ) → BeginsOrEnds (line.Unsub sub) sub None
begins_unsub sub = record { begins = λ q before. to_here sub q None before; hears = λ q i before. to_here sub q [] before }

pub heard_eos : (sub item : ℕ) → IsHeardOf (line.Eos sub item) sub item Ended
heard_eos sub item = record { begins = λ q before. refl; hears = λ q i before. heard_here sub q item i Ended before }

pub heard_cs : (sub item : ℕ) → IsHeardOf (line.Cs sub item) sub item Emptied
heard_cs sub item = record { begins = λ q before. refl; hears = λ q i before. heard_here sub q item i Emptied before }

pub heard_ov : (sub item lost : ℕ) → IsHeardOf (line.Ov sub item lost) sub item (Missed lost)
heard_ov sub item lost = record { begins = λ q before. refl; hears = λ q i before. heard_here sub q item i (Missed lost) before }

pub heard_u : (sub item : ℕ) (coded : List ℕ) → IsHeardOf (line.U sub item coded) sub item (Coded coded)
heard_u sub item coded = record { begins = λ q before. refl; hears = λ q i before. heard_here sub q item i (Coded coded) before }

pub fed_beginning : {X E : Type 0} (answer : Result X E) (c d : Client) (l : Line) (sub : ℕ) (to : Option Begun) → BeginsOrEnds l sub to
    → OnOk answer ((l : Line) (lines : List Line) → BeginsOrEnds l sub to → StandsClient c lines → StandsClient d (l ∷ lines))
    → OnOk answer ((lines : List Line) → StandsClient c lines → StandsClient d (l ∷ lines))
fed_beginning (Ok x) c d l sub to turns f = λ lines st. f l lines turns st
fed_beginning (Err e) c d l sub to turns f = tt

pub fed_hearing : {X E : Type 0} (answer : Result X E) (c d : Client) (l : Line) (sub item : ℕ) (h : Heard) → IsHeardOf l sub item h
    → OnOk answer ((l : Line) (lines : List Line) → IsHeardOf l sub item h → StandsClient c lines → StandsClient d (l ∷ lines))
    → OnOk answer ((lines : List Line) → StandsClient c lines → StandsClient d (l ∷ lines))
fed_hearing (Ok x) c d l sub item h adds f = λ lines st. f l lines adds st
fed_hearing (Err e) c d l sub item h adds f = tt
