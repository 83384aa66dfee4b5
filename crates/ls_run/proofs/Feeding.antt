-- What feeding a line, and then more lines, does.
use Rattle.std.proofs.Common.{◌≡◌, ℕ, ◌+◌, ◌<◌, ◌-◌, List, [], ◌∷◌, ◌++◌, length, take, drop, get_or, arith, false}
use Rattle.std.proofs.Common.{refl, sym, ◌∙◌, ap, subst, append_assoc, append-nil, ◌⊎◌, ⊎_elim, inl, inr}
use Rattle.std.proofs.lemmas.List.{take-append-drop, take_all}
use Rattle.std.specs.Prelude.{Option, Some, None}
use Rattle.std.specs.Io.KnownBytes.{Appends}
use Rattle.ls_outside.proofs.Bytes.{appends_on}
use Rattle.ls_world.specs.World.{World}
use Rattle.ls_world.specs.Steps.{Stepped}
use Rattle.ls_world.specs.Script.{step, whole_from, rest_from, output_of, text_of_outs, world_of, has_bad_line}
use Rattle.ls_world.specs.Script.{IsPrefix, last_line}
use Rattle.ls_run.specs.declared.engine.Engine.{Engine}
use Rattle.ls_run.specs.Engine.{StandsEngine, Steps, IsBad}
use Rattle.ls_run.specs.Replay.{Progress, progress_after, KeptReplay, kept_with, StandsWithin, StandsFor}
use Rattle.ls_run.specs.Replay.{Meets, Feeds, Holds, Writes}
use Rattle.ls_run.specs.declared.replay.Fed.{Fed}
use Rattle.ls_run.specs.declared.replay.Fed.TheVariants as fed
use Rattle.ls_run.proofs.ScriptLines.{GoesOn, goes_on, Stops, stops, text_begins}
use Rattle.ls_run.proofs.ScriptLines.{whole_from-append, rest_from-append}
use Rattle.ls_run.proofs.PieceLines.{whole_are, rest_is}
use Rattle.ls_lines.specs.Lines.{Cutting, EndsLine, EndsNone, line_at}

-- nothing is written
pub nothing : (held : Option (List ℕ)) → Appends held held []
nothing None = tt
nothing (Some h) = sym (append-nil h)

-- a line that is done, whose text is behind what was held back
pub line_held : (w : World) (line text u u' : List ℕ) (e : Engine) → Steps (step w line) [] text e → u' ≡ u ++ text
    → Holds fed.All w (line ∷ []) u u'
line_held w line text u u' e steps is = by_step (step w line) refl steps
  where
    by_step : (o : Option Stepped) → step w line ≡ o → Steps o [] text e → Holds fed.All w (line ∷ []) u u'
    by_step None made x = absurd x
    by_step (Some s) made x =
        record { text = text; behind = is; met = (rw made refl, rw made (x.0 ∙ sym (append-nil (text_of_outs s.outs)))) }

-- the engine behind a line that is done
pub line_engine : (w : World) (line text : List ℕ) (e : Engine) → Steps (step w line) [] text e
    → StandsEngine e (world_of w (line ∷ []))
line_engine w line text e steps = by_step (step w line) refl steps
  where
    by_step : (o : Option Stepped) → step w line ≡ o → Steps o [] text e
        → StandsEngine e (world_of w (line ∷ []))
    by_step None made x = absurd x
    by_step (Some s) made x = rw made x.1

-- a bad line
pub bad_line : (w : World) (line u u' : List ℕ) (number : ℕ) (e : Engine)
    → IsBad w line e → number ≡ e.line → u' ≡ u → Holds (fed.Stopped number) w (line ∷ []) u u'
bad_line w line u u' number e is same kept =
    let made : step w line ≡ None = is.0 in
    record {
      text = [];
      behind = kept ∙ sym (append-nil u);
      met = (rw made refl, rw made (same ∙ is.1 ∙ omega arith), rw made refl);
    }

-- want of memory: no more is held back
pub held_short : (w : World) (lines : List (List ℕ)) (u u' : List ℕ) → u' ≡ u → Holds fed.NoMemory w lines u u'
held_short w lines u u' kept =
    record { text = []; behind = kept ∙ sym (append-nil u); met = (output_of w lines, refl) }

prefix_in : (part mid all : List ℕ) → IsPrefix part mid → IsPrefix mid all → IsPrefix part all
prefix_in part mid all x y = (x.0 ++ y.0, y.1 ∙ ap (λ t. t ++ y.0) x.1 ∙ append_assoc part x.0 y.0)

prefix_behind : (front part all : List ℕ) → IsPrefix part all → IsPrefix (front ++ part) (front ++ all)
prefix_behind front part all x = (x.0, ap (λ t. front ++ t) x.1 ∙ sym (append_assoc front part x.0))

-- none of the first lines is bad, and then come more
pub met_on : (a : Fed) (w : World) (xs ys : List (List ℕ)) (s t : List ℕ) → Meets fed.All w xs s
    → Meets a (world_of w xs) ys t → Meets a w (xs ++ ys) (s ++ t)
met_on fed.All w xs ys s t first met =
    let g : GoesOn w xs ys = goes_on w xs ys first.0 in
    (g.bad ∙ met.0, rw (first.1, met.1) (sym g.text))
met_on (fed.Stopped number) w xs ys s t first met =
    let g : GoesOn w xs ys = goes_on w xs ys first.0 in
    (g.bad ∙ met.0, met.1 ∙ ap (λ n. n + 1) g.count, rw (first.1, met.2) (sym g.text))
met_on fed.WriteFault w xs ys s t first met =
    let g : GoesOn w xs ys = goes_on w xs ys first.0 in
    rw (first.1, g.text) (prefix_behind (output_of w xs) t (output_of (world_of w xs) ys) met)
met_on fed.NoMemory w xs ys s t first met =
    let g : GoesOn w xs ys = goes_on w xs ys first.0 in
    rw (first.1, g.text) (prefix_behind (output_of w xs) t (output_of (world_of w xs) ys) met)

-- pieces one after another
pub fed_on : (a : Fed) (p : Progress) (xs ys : List ℕ) (h i j : Option (List ℕ)) (u : List ℕ)
    → Feeds fed.All p.world (whole_from p.carry xs) h i []
    → Feeds a (progress_after p xs).world (whole_from (progress_after p xs).carry ys) i j u
    → Feeds a p.world (whole_from p.carry (xs ++ ys)) h j u
fed_on a p xs ys h i j u f g =
    let first : Meets fed.All p.world (whole_from p.carry xs) f.written =
    subst (λ (t : List ℕ). Meets fed.All p.world (whole_from p.carry xs) t) (append-nil f.written) f.met in
    let text : List ℕ = f.written ++ (g.written ++ u) in
    let met : Meets a p.world (whole_from p.carry xs ++ whole_from (rest_from p.carry xs) ys) text =
    met_on a p.world (whole_from p.carry xs) (whole_from (rest_from p.carry xs) ys) f.written (g.written ++ u) first g.met in
    record {
      written = f.written ++ g.written;
      appends = appends_on h i j f.written g.written f.appends g.appends;
      met = rw (whole_from-append, append_assoc) met;
    }

-- a line is done, or isn't, and wrote nothing
pub held_on : (a : Fed) (w : World) (xs ys : List (List ℕ)) (h i : Option (List ℕ)) (u u' : List ℕ)
    → Feeds fed.All w xs h i u → Holds a (world_of w xs) ys u u' → Feeds a w (xs ++ ys) h i u'
held_on a w xs ys h i u u' f g =
    let same : (f.written ++ u) ++ g.text ≡ f.written ++ u' =
    append_assoc f.written u g.text ∙ ap (λ t. f.written ++ t) (sym g.behind) in
    record {
      written = f.written;
      appends = f.appends;
      met = subst (λ (t : List ℕ). Meets a w (xs ++ ys) t) same (met_on a w xs ys (f.written ++ u) g.text f.met g.met);
    }

-- each text is a front part of what the lines print
met_prefix : (a : Fed) (w : World) (lines : List (List ℕ)) (text : List ℕ) → Meets a w lines text
    → IsPrefix text (output_of w lines)
met_prefix fed.All w lines text met = ([], sym met.1 ∙ sym (append-nil text))
met_prefix (fed.Stopped number) w lines text met = ([], sym met.2 ∙ sym (append-nil text))
met_prefix fed.WriteFault w lines text met = met
met_prefix fed.NoMemory w lines text met = met

-- what was held back is written
pub written_on : (a before : Fed) (w : World) (lines : List (List ℕ)) (h i j : Option (List ℕ)) (u u' : List ℕ)
    → Feeds before w lines h i u → Writes a before i j u u' → Feeds a w lines h j u'
written_on a before w lines h i j u u' f g =
    let text : List ℕ = f.written ++ g.written in
    let same : f.written ++ u ≡ text ++ g.rest =
    ap (λ t. f.written ++ t) g.parts ∙ sym (append_assoc f.written g.written g.rest) in
    let met : Meets before w lines (text ++ g.rest) = subst (λ (t : List ℕ). Meets before w lines t) same f.met in
    let part : IsPrefix (text ++ g.rest) (output_of w lines) = met_prefix before w lines (text ++ g.rest) met in
    let front : IsPrefix text (output_of w lines) =
    prefix_in text (text ++ g.rest) (output_of w lines) (g.rest, refl) part in
    record {
      written = text;
      appends = appends_on h i j f.written g.written f.appends g.appends;
      met = ⊎_elim
          (λ e. subst (λ (b : Fed). Meets b w lines (text ++ u')) (sym e.0)
          (subst (λ (t : List ℕ). Meets before w lines (text ++ t)) (sym e.1) met))
          (λ e. subst (λ (b : Fed). Meets b w lines (text ++ u')) (sym e.0)
          (subst (λ (t : List ℕ). IsPrefix t (output_of w lines))
          (sym (append-nil text) ∙ ap (λ t. text ++ t) (sym e.1)) front))
          g.ends;
    }

pub progress_on : (p : Progress) (xs ys : List ℕ) → has_bad_line p.world (whole_from p.carry xs) ≡ false
    → progress_after (progress_after p xs) ys ≡ progress_after p (xs ++ ys)
progress_on p xs ys good =
    let ls : List (List ℕ) = whole_from (rest_from p.carry xs) ys in
    let g : GoesOn p.world (whole_from p.carry xs) ls = goes_on p.world (whole_from p.carry xs) ls good in
    rw (whole_from-append, rest_from-append, g.world) refl

-- a call stopped, so what comes behind doesn't count
met_stopped : (a : Fed) (w : World) (xs ys : List (List ℕ)) (t : List ℕ) → (a ≡ fed.All → ⊥) → Meets a w xs t
    → Meets a w (xs ++ ys) t
met_stopped fed.All w xs ys t stopped met = absurd (stopped refl)
met_stopped (fed.Stopped number) w xs ys t stopped met =
    let s : Stops w xs ys = stops w xs ys met.0 in
    (s.bad, rw s.count met.1, rw s.text met.2)
met_stopped fed.WriteFault w xs ys t stopped met =
    prefix_in t (output_of w xs) (output_of w (xs ++ ys)) met (text_begins w xs ys)
met_stopped fed.NoMemory w xs ys t stopped met =
    prefix_in t (output_of w xs) (output_of w (xs ++ ys)) met (text_begins w xs ys)

-- the first bytes of a piece, and the next ones
pub next_fed : (a : Fed) (p : Progress) (front xs : List ℕ) (h i : Option (List ℕ)) (u u' : List ℕ)
    → Feeds fed.All p.world (whole_from p.carry front) h i u
    → Holds a (progress_after p front).world (whole_from (progress_after p front).carry xs) u u'
    → Feeds a p.world (whole_from p.carry (front ++ xs)) h i u'
next_fed a p front xs h i u u' f g =
    subst (λ (ys : List (List ℕ)). Feeds a p.world ys h i u') (sym (whole_from-append p.carry front xs))
    (held_on a p.world (whole_from p.carry front) (whole_from (rest_from p.carry front) xs) h i u u' f g)

pub next_stands : (k : KeptReplay) (p : Progress) (front xs : List ℕ) → has_bad_line p.world (whole_from p.carry front) ≡ false
    → StandsWithin k (progress_after (progress_after p front) xs) → StandsWithin k (progress_after p (front ++ xs))
next_stands k p front xs good st = subst (λ (q : Progress). StandsWithin k q) (progress_on p front xs good) st

-- a call stopped within a piece, so the rest of the piece doesn't count
pub fed_more : (a : Fed) (p : Progress) (xs more piece : List ℕ) (h i : Option (List ℕ)) (u : List ℕ) → (a ≡ fed.All → ⊥)
    → piece ≡ xs ++ more → Feeds a p.world (whole_from p.carry xs) h i u → Feeds a p.world (whole_from p.carry piece) h i u
fed_more a p xs more piece h i u stopped is f =
    let ls : List (List ℕ) = whole_from (rest_from p.carry xs) more in
    let same : whole_from p.carry piece ≡ whole_from p.carry xs ++ ls =
    ap (λ bytes. whole_from p.carry bytes) is ∙ whole_from-append p.carry xs more in
    record {
      written = f.written;
      appends = f.appends;
      met = subst (λ (ys : List (List ℕ)). Meets a p.world ys (f.written ++ u)) (sym same)
          (met_stopped a p.world (whole_from p.carry xs) ls (f.written ++ u) stopped f.met);
    }

-- a line that ends in a piece, and what its answer says of the bytes up to its end
line_is : (c c' : Cutting) (p : Progress) (piece : List ℕ) (used : ℕ) → c.carry ≡ p.carry → EndsLine c c' piece used
    → whole_from p.carry (take used piece) ≡ line_at c' piece used ∷ []
line_is c c' p piece used same e =
    subst (λ t. whole_from t (take used piece) ≡ line_at c' piece used ∷ []) same
    (whole_are c.limit c.carry (take used piece) (line_at c' piece used ∷ []) [] e.kept.plain e.are tt)

pub line_holds : (c c' : Cutting) (p : Progress) (line piece : List ℕ) (used : ℕ) (u u' : List ℕ) → c.carry ≡ p.carry → EndsLine c c' piece used
    → line ≡ line_at c' piece used → Holds fed.All p.world (line ∷ []) u u' → Holds fed.All p.world (whole_from p.carry (take used piece)) u u'
line_holds c c' p line piece used u u' same e is g =
    subst (λ (ls : List (List ℕ)). Holds fed.All p.world ls u u') (ap (λ t. t ∷ []) is ∙ sym (line_is c c' p piece used same e)) g

pub line_stops : (a : Fed) (c c' : Cutting) (p : Progress) (line piece : List ℕ) (used : ℕ) (u u' : List ℕ) → (a ≡ fed.All → ⊥)
    → c.carry ≡ p.carry → EndsLine c c' piece used → line ≡ line_at c' piece used → Holds a p.world (line ∷ []) u u' → Holds a p.world (whole_from p.carry piece) u u'
line_stops a c c' p line piece used u u' stopped same e is g =
    let ls : List (List ℕ) = whole_from (rest_from p.carry (take used piece)) (drop used piece) in
    let parts : whole_from p.carry piece ≡ (line ∷ []) ++ ls =
    ap (λ bytes. whole_from p.carry bytes) (sym (take-append-drop used piece))
    ∙ whole_from-append p.carry (take used piece) (drop used piece) ∙ ap (λ ys. ys ++ ls) (line_is c c' p piece used same e ∙ ap (λ t. t ∷ []) (sym is)) in
    record {
      text = g.text;
      behind = g.behind;
      met = subst (λ (ys : List (List ℕ)). Meets a p.world ys g.text) (sym parts)
          (met_stopped a p.world (line ∷ []) ls g.text stopped g.met);
    }

pub line_stands : (k : KeptReplay) (c c' : Cutting) (p : Progress) (line piece : List ℕ) (used : ℕ) → c.carry ≡ p.carry → EndsLine c c' piece used
    → line ≡ line_at c' piece used → k.carry ≡ c'.carry → StandsEngine k.engine (world_of p.world (line ∷ [])) → StandsWithin k (progress_after p (take used piece))
line_stands k c c' p line piece used same e is kept st =
    let rest : rest_from p.carry (take used piece) ≡ [] =
    subst (λ t. rest_from t (take used piece) ≡ []) same
    (rest_is c.limit c.carry (take used piece) (line_at c' piece used ∷ []) [] e.kept.plain e.are tt) in
    record {
      engine = subst (λ (ls : List (List ℕ)). StandsEngine k.engine (world_of p.world ls))
          (ap (λ t. t ∷ []) is ∙ sym (line_is c c' p piece used same e)) st;
      carry = kept ∙ e.none ∙ sym rest;
    }

-- no line ends in a piece
rest_line : (c c' : Cutting) (p : Progress) (piece : List ℕ) (n : ℕ) → n ≡ length piece → c.carry ≡ p.carry → EndsNone c c' piece
    → whole_from p.carry (take n piece) ≡ []
rest_line c c' p piece n len same e =
    ap (λ t. whole_from p.carry t) (take_all n piece (omega (arith, len)))
    ∙ subst (λ t. whole_from t piece ≡ []) same (whole_are c.limit c.carry piece [] c'.carry e.kept.plain e.are e.rest.plain)

pub rest_holds : (c c' : Cutting) (p : Progress) (piece : List ℕ) (n : ℕ) (u : List ℕ) → n ≡ length piece → c.carry ≡ p.carry
    → EndsNone c c' piece → Holds fed.All p.world (whole_from p.carry (take n piece)) u u
rest_holds c c' p piece n u len same e =
    subst (λ (ls : List (List ℕ)). Holds fed.All p.world ls u u) (sym (rest_line c c' p piece n len same e))
    (record { text = []; behind = sym (append-nil u); met = (refl, refl) })

pub rest_stands : (k : KeptReplay) (c c' : Cutting) (p : Progress) (piece : List ℕ) (n : ℕ) → n ≡ length piece → c.carry ≡ p.carry
    → EndsNone c c' piece → k.carry ≡ c'.carry → StandsEngine k.engine p.world → StandsWithin k (progress_after p (take n piece))
rest_stands k c c' p piece n len same e kept st =
    let rest : rest_from p.carry (take n piece) ≡ c'.carry =
    ap (λ t. rest_from p.carry t) (take_all n piece (omega (arith, len)))
    ∙ subst (λ t. rest_from t piece ≡ c'.carry) same (rest_is c.limit c.carry piece [] c'.carry e.kept.plain e.are e.rest.plain) in
    record {
      engine = subst (λ (ls : List (List ℕ)). StandsEngine k.engine (world_of p.world ls)) (sym (rest_line c c' p piece n len same e)) st;
      carry = kept ∙ sym rest;
    }

-- what was held back, as the type shows it
pub holds_from : (a : Fed) (w : World) (lines : List (List ℕ)) (u0 u u' : List ℕ) → u0 ≡ u → Holds a w lines u0 u' → Holds a w lines u u'
holds_from a w lines u0 u u' is g = subst (λ (t : List ℕ). Holds a w lines t u') is g

-- a piece is its front, as no byte is left, or its front and the rest
whole_piece : (front rest piece : List ℕ) → piece ≡ front ++ rest → rest ≡ [] → front ≡ piece
whole_piece front rest piece is none = sym (is ∙ ap (λ t. front ++ t) none ∙ append-nil front)

pub read_fed : (p : Progress) (front rest piece : List ℕ) (h i : Option (List ℕ)) (u : List ℕ) → piece ≡ front ++ rest → rest ≡ []
    → Feeds fed.All p.world (whole_from p.carry front) h i u → Feeds fed.All p.world (whole_from p.carry piece) h i u
read_fed p front rest piece h i u is none f =
    subst (λ (t : List ℕ). Feeds fed.All p.world (whole_from p.carry t) h i u) (whole_piece front rest piece is none) f

pub read_stands : (k : KeptReplay) (p : Progress) (front rest piece : List ℕ) → piece ≡ front ++ rest → rest ≡ []
    → StandsWithin k (progress_after p front) → StandsWithin k (progress_after p piece)
read_stands k p front rest piece is none st =
    subst (λ (t : List ℕ). StandsWithin k (progress_after p t)) (whole_piece front rest piece is none) st

pub stopped_fed : (a : Fed) (p : Progress) (front rest piece : List ℕ) (h i : Option (List ℕ)) (u u' : List ℕ) → piece ≡ front ++ rest
    → Feeds fed.All p.world (whole_from p.carry front) h i u
    → Holds a (progress_after p front).world (whole_from (progress_after p front).carry rest) u u'
    → Feeds a p.world (whole_from p.carry piece) h i u'
stopped_fed a p front rest piece h i u u' is f g =
    subst (λ (t : List ℕ). Feeds a p.world (whole_from p.carry t) h i u') (sym is) (next_fed a p front rest h i u u' f g)

-- no line is left
pub none_left : (p : Progress) (held : Option (List ℕ)) → last_line p.carry ≡ []
    → Feeds fed.All p.world (last_line p.carry) held held []
none_left p held none =
    subst (λ (ls : List (List ℕ)). Feeds fed.All p.world ls held held []) (sym none)
    (record { written = []; appends = nothing held; met = (refl, refl) })

-- no byte was taken
pub none_stands : (k : KeptReplay) (p : Progress) → StandsWithin k p → StandsWithin k (progress_after p [])
none_stands k p st = record { engine = st.engine; carry = st.carry }

pub none_fed : (p : Progress) (held : Option (List ℕ)) (u : List ℕ) → u ≡ []
    → Feeds fed.All p.world (whole_from p.carry []) held held u
none_fed p held u none = record { written = []; appends = nothing held; met = (refl, none) }

-- the last line of a script
pub last_fed : (a before : Fed) (p : Progress) (h i : Option (List ℕ)) (u u' : List ℕ) (lines : List (List ℕ))
    → lines ≡ last_line p.carry → u ≡ [] → Holds before p.world lines u u' → Writes a before h i u' []
    → Feeds a p.world (last_line p.carry) h i []
last_fed a before p h i u u' lines is none g wrote =
    let first : Feeds fed.All p.world [] h h u = record { written = []; appends = nothing h; met = (refl, none) } in
    let held : Feeds before p.world lines h h u' = held_on before p.world [] lines h h u u' first g in
    subst (λ (ls : List (List ℕ)). Feeds a p.world ls h i []) is (written_on a before p.world lines h h i u' [] held wrote)

-- another text is held back, or none
pub stands_with : (k k' : KeptReplay) (p : Progress) → k' ≡ kept_with k k'.unwritten → StandsWithin k p → StandsWithin k' p
stands_with k k' p is st =
    subst (λ (v : KeptReplay). StandsWithin v p) (sym is) (record { engine = st.engine; carry = st.carry })

pub stands_clear : (k k' : KeptReplay) (p : Progress) → k' ≡ kept_with k [] → StandsWithin k p → StandsFor k' p
stands_clear k k' p is st =
    subst (λ (v : KeptReplay). StandsFor v p) (sym is)
    (record { within = record { engine = st.engine; carry = st.carry }; unwritten = refl })

-- what a write of all that is held back is answered
pub put_taken : (before : Fed) (h i : Option (List ℕ)) (u : List ℕ) → Appends h i u → Writes before before h i u []
put_taken before h i u took =
    record { written = u; rest = []; appends = took; parts = sym (append-nil u); ends = inl (refl, refl) }

pub put_failed : (before : Fed) (h i : Option (List ℕ)) (u : List ℕ) (n : ℕ) → Appends h i (take n u)
    → Writes fed.WriteFault before h i u []
put_failed before h i u n took =
    record {
      written = take n u;
      rest = drop n u;
      appends = took;
      parts = sym (take-append-drop n u);
      ends = inr (refl, refl);
    }

-- where all is well after a write, so it was before; else nothing is held back
pub was_well : (a before : Fed) (h i : Option (List ℕ)) (u u' : List ℕ) → Writes a before h i u u' → a ≡ fed.All
    → before ≡ fed.All
was_well a before h i u u' g is = ⊎_elim (λ e. sym e.0 ∙ is) (λ e. absurd (cc (sym e.0 ∙ is))) g.ends

pub none_held : (a : Fed) (h i : Option (List ℕ)) (u u' : List ℕ) → Writes a fed.All h i u u' → (a ≡ fed.All → ⊥)
    → u' ≡ []
none_held a h i u u' g failed = ⊎_elim (λ e. absurd (failed e.0)) (λ e. e.1) g.ends
