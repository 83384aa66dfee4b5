-- The numbered lines given on a stream are the session's lines after the number behind which it was bound, without a gap.
use Rattle.std.proofs.Common.{◌≡◌, ◌≤◌, ◌<◌, ℕ, suc, ◌+◌, List, [], ◌∷◌, ◌++◌, length, refl, sym, ◌∙◌, ap, arith, subst, cond}
use Rattle.std.proofs.Common.{Bool, true, false, nat_lt, append_assoc, length-append, ◌⊎◌, inl, inr}
use Rattle.std.proofs.lemmas.Bool.{ltb-true, ne_eqb}
use Rattle.ls_event.specs.declared.item.ItemDef.{ItemDef}
use Rattle.ls_record.specs.Records.{Session, Life, Alive, Ending, Closed, is_to_loop}
use Rattle.ls_register.specs.declared.told.Told.{Told}
use Rattle.ls_register.specs.declared.told.Told.TheVariants.{Numbered, Gave, Bound, Rate, Rebind, Unbound, Ended}
use Rattle.ls_told.specs.Spoken.{Spoken, text_in, Next, GivesEnd, GivesOwed, GivesLoop, GivesLine, GivesNothing, next_of, next_living, next_owing}
use Rattle.ls_told.specs.Spoken.{giving, spoken_of}
use Rattle.ls_told.specs.Seen.{Watched, IsTold}
use Rattle.ls_told.specs.Keeping.{KeepsTold}
use Rattle.ls_told.proofs.Texts.{length_texts}
use Rattle.ls_told.specs.Heard.{hears, heard_after, heard, epoch_or, epoch_after, epoch_of, CountsOn}
use Rattle.ls_told.specs.Given.{InOrder, line_of_next, line_given, lines_given, lines_after, BindsNone, BindNone}
use Rattle.ls_told.proofs.Appended.{told_from_append}

-- lines are numbered before the others in the list, and each keeps its number
given_texts : (tick : ℕ) (n : Next) (s : Spoken) → (giving tick n s).texts ≡ s.texts
given_texts tick (GivesEnd code) s = refl
given_texts tick (GivesOwed text) s = refl
given_texts tick GivesLoop s = refl
given_texts tick (GivesLine text) s = refl
given_texts tick GivesNothing s = refl

pub record GrowsTo (old new : List (List ℕ)) : Type 0 where
  pub more : List (List ℕ)
  pub is : new ≡ more ++ old

texts_one : (number : ℕ) (s : Spoken) (e : Told) → GrowsTo s.texts (hears number s e).texts
texts_one number s (Numbered line) = record { more = line.text ∷ []; is = refl }
texts_one number s (Gave epoch text tick) = record { more = []; is = given_texts tick (next_of s) s }
texts_one number s (Bound epoch from counted keepalive content) = record { more = []; is = refl }
texts_one number s (Rate limit tick) = record { more = []; is = refl }
texts_one number s Rebind = record { more = []; is = refl }
texts_one number s (Unbound tick) = record { more = []; is = refl }
texts_one number s (Ended code tick) = record { more = []; is = refl }

pub texts_grow : (number : ℕ) (s : Spoken) (es : List Told) → GrowsTo s.texts (heard_after number s es).texts
texts_grow number s [] = record { more = []; is = refl }
texts_grow number s (e ∷ es) =
    let one = texts_one number s e in
    let rest = texts_grow number (hears number s e) es in
    record {
      more = rest.more ++ one.more;
      is = rest.is ∙ ap (λ (ts : List (List ℕ)). rest.more ++ ts) one.is ∙ sym (append_assoc rest.more one.more s.texts);
    }

pub text_still : (more texts : List (List ℕ)) (n : ℕ) → n ≤ length texts → text_in (more ++ texts) n ≡ text_in texts n
text_still [] texts n within = refl
text_still (t ∷ more) texts n within =
    ap (λ (b : Bool). cond b t (text_in (more ++ texts) n))
    (ne_eqb n (length (more ++ texts) + 1) (λ e. absurd (omega (arith, e, within, length-append more texts))))
    ∙ text_still more texts n within

-- what is to be given next: where it is a numbered line, it is the one after those that were given
abbrev pub IsNextLine : Spoken → Next → Type 0
IsNextLine s (GivesEnd code) = Unit {0}
IsNextLine s (GivesOwed text) = Unit {0}
IsNextLine s GivesLoop = Unit {0}
IsNextLine s (GivesLine text) = (text ≡ text_in s.texts (s.sent + 1)) × (s.sent < length s.texts)
IsNextLine s GivesNothing = Unit {0}

owing_line : (s : Spoken) (owed : List (List ℕ)) → IsNextLine s (next_owing s owed)
owing_line s (text ∷ owed) = tt
owing_line s [] = by_loop (is_to_loop s.streams)
  where
    by_sent : (b : Bool) → nat_lt s.sent (length s.texts) ≡ b → IsNextLine s (cond b (GivesLine (text_in s.texts (s.sent + 1))) GivesNothing)
    by_sent true t = (refl, ltb-true s.sent (length s.texts) t)
    by_sent false t = tt

    by_loop : (b : Bool) → IsNextLine s (cond b GivesLoop (cond (nat_lt s.sent (length s.texts)) (GivesLine (text_in s.texts (s.sent + 1))) GivesNothing))
    by_loop true = tt
    by_loop false = by_sent (nat_lt s.sent (length s.texts)) refl

next_line : (s : Spoken) → IsNextLine s (next_of s)
next_line s = by_life s.life
  where
    by_life : (life : Life) → IsNextLine s (next_living s life)
    by_life Alive = owing_line s s.owed
    by_life (Ending code) = tt
    by_life (Closed code) = tt

-- an entry gives no numbered line, or the next one
abbrev pub Gives : Spoken → Spoken → List (List ℕ) → Type 0
Gives s t given =
    ((given ≡ []) × (t.sent ≡ s.sent))
    ⊎ ((given ≡ text_in s.texts (s.sent + 1) ∷ []) × (t.sent ≡ s.sent + 1) × (s.sent < length s.texts))

next_gives : (tick : ℕ) (s : Spoken) (n : Next) → IsNextLine s n → Gives s (giving tick n s) (line_of_next n)
next_gives tick s (GivesEnd code) is = inl (refl, refl)
next_gives tick s (GivesOwed text) is = inl (refl, refl)
next_gives tick s GivesLoop is = inl (refl, refl)
next_gives tick s (GivesLine text) is = inr (ap (λ (t : List ℕ). t ∷ []) is.0, refl, is.1)
next_gives tick s GivesNothing is = inl (refl, refl)

entry_gives : (number : ℕ) (s : Spoken) (e : Told) → BindsNone e → Gives s (hears number s e) (line_given s e)
entry_gives number s (Numbered line) none = inl (refl, refl)
entry_gives number s (Gave epoch text tick) none = next_gives tick s (next_of s) (next_line s)
entry_gives number s (Bound epoch from counted keepalive content) none = absurd none
entry_gives number s (Rate limit tick) none = inl (refl, refl)
entry_gives number s Rebind none = inl (refl, refl)
entry_gives number s (Unbound tick) none = inl (refl, refl)
entry_gives number s (Ended code tick) none = inl (refl, refl)

sent_within : (number : ℕ) (s : Spoken) (e : Told) → BindsNone e → s.sent ≤ length s.texts
    → (hears number s e).sent ≤ length (hears number s e).texts
sent_within number s e none within = by_case (entry_gives number s e none)
  where
    grows : GrowsTo s.texts (hears number s e).texts
    grows = texts_one number s e

    longer : length (hears number s e).texts ≡ length grows.more + length s.texts
    longer = ap length grows.is ∙ length-append grows.more s.texts

    by_case : Gives s (hears number s e) (line_given s e) → (hears number s e).sent ≤ length (hears number s e).texts
    by_case (inl none) = omega (arith, none.1, within, longer)
    by_case (inr one) = omega (arith, one.1, one.2, longer)

pub in_order : (number : ℕ) (s : Spoken) (es : List Told) → BindNone es → s.sent ≤ length s.texts → InOrder number s es
in_order number s [] none within = record { count = 0; sent = omega arith; lines = refl; within = within }
in_order number s (e ∷ es) none within =
    by_case (entry_gives number s e none.0) (in_order number (hears number s e) es none.1 (sent_within number s e none.0 within))
  where
    last : Spoken
    last = heard_after number (hears number s e) es

    by_case : Gives s (hears number s e) (line_given s e) → InOrder number (hears number s e) es → InOrder number s (e ∷ es)
    by_case (inl nothing) o =
        record {
          count = o.count;
          sent = omega (arith, o.sent, nothing.1);
          lines = ap (λ (g : List (List ℕ)). g ++ lines_given number (hears number s e) es) nothing.0 ∙ o.lines
              ∙ ap (λ (n : ℕ). lines_after last.texts n o.count) nothing.1;
          within = o.within;
        }
    by_case (inr one) o =
        let grows = texts_grow number s (e ∷ es) in
        record {
          count = suc o.count;
          sent = omega (arith, o.sent, one.1);
          lines = ap (λ (g : List (List ℕ)). g ++ lines_given number (hears number s e) es) one.0
              ∙ ap (λ (ls : List (List ℕ)). text_in s.texts (s.sent + 1) ∷ ls)
              (o.lines ∙ ap (λ (n : ℕ). lines_after last.texts n o.count) one.1)
              ∙ ap (λ (t : List ℕ). t ∷ lines_after last.texts (s.sent + 1) o.count)
              (sym (ap (λ (ts : List (List ℕ)). text_in ts (s.sent + 1)) grows.is
              ∙ text_still grows.more s.texts (s.sent + 1) (omega (arith, one.2))));
          within = o.within;
        }

-- where the newest stream has the same epoch before and after entries, none of them binds one
epoch_low : (epoch : ℕ) (es : List Told) → CountsOn epoch es → epoch ≤ epoch_after epoch es
epoch_low epoch [] c = omega arith
epoch_low epoch (Numbered line ∷ es) c = epoch_low epoch es c.1
epoch_low epoch (Gave e text tick ∷ es) c = epoch_low epoch es c.1
epoch_low epoch (Bound e from counted keepalive content ∷ es) c = omega (arith, c.0, epoch_low e es c.1)
epoch_low epoch (Rate limit tick ∷ es) c = epoch_low epoch es c.1
epoch_low epoch (Rebind ∷ es) c = epoch_low epoch es c.1
epoch_low epoch (Unbound tick ∷ es) c = epoch_low epoch es c.1
epoch_low epoch (Ended code tick ∷ es) c = epoch_low epoch es c.1

pub none_bound : (epoch : ℕ) (es : List Told) → CountsOn epoch es → epoch_after epoch es ≡ epoch → BindNone es
none_bound epoch [] c same = tt
none_bound epoch (Numbered line ∷ es) c same = (tt, none_bound epoch es c.1 same)
none_bound epoch (Gave e text tick ∷ es) c same = (tt, none_bound epoch es c.1 same)
none_bound epoch (Bound e from counted keepalive content ∷ es) c same = absurd (omega (arith, c.0, same, epoch_low e es c.1))
none_bound epoch (Rate limit tick ∷ es) c same = (tt, none_bound epoch es c.1 same)
none_bound epoch (Rebind ∷ es) c same = (tt, none_bound epoch es c.1 same)
none_bound epoch (Unbound tick ∷ es) c same = (tt, none_bound epoch es c.1 same)
none_bound epoch (Ended code tick ∷ es) c same = (tt, none_bound epoch es c.1 same)

-- so of a history and a longer one
counts_behind : (epoch : ℕ) (es more : List Told) → CountsOn epoch (es ++ more) → CountsOn (epoch_after epoch es) more
counts_behind epoch [] more c = c
counts_behind epoch (e ∷ es) more c = counts_behind (epoch_or epoch e) es more c.1

pub none_behind : (es more : List Told) → CountsOn 0 (es ++ more) → epoch_of (es ++ more) ≡ epoch_of es → BindNone more
none_behind es more c same =
    none_bound (epoch_of es) more (counts_behind 0 es more c) (sym (told_from_append epoch_or 0 es more) ∙ same)

-- the numbered lines given since are those after the one given last, without a gap
pub given_since : (number : ℕ) (es more : List Told) → CountsOn 0 (es ++ more) → epoch_of (es ++ more) ≡ epoch_of es
    → (heard number es).sent ≤ length (heard number es).texts → InOrder number (heard number es) more
given_since number es more c same within = in_order number (heard number es) more (none_behind es more c same) within

-- no more lines are given than numbered
within_told : (number : ℕ) (es : List Told) (s : Session) → spoken_of s ≡ heard number es → s.sent ≤ length s.board.lines
    → (heard number es).sent ≤ length (heard number es).texts
within_told number es s told within =
    subst (λ (p : Spoken). p.sent ≤ length p.texts) told (omega (arith, within, length_texts s.board.lines))

pub told_sent : (config : List ItemDef) (number : ℕ) (es : List Told) (ws : List Watched) (s : Session) → IsTold config number es ws s
    → (heard number es).sent ≤ length (heard number es).texts
told_sent config number es ws s t = within_told number es s t.told t.lawful.session.sent

pub kept_sent : (config : List ItemDef) (number : ℕ) (es : List Told) (ws : List Watched) (s : Session) → KeepsTold config number es ws s
    → (heard number es).sent ≤ length (heard number es).texts
kept_sent config number es ws s k = within_told number es s k.told k.alone.session.sent
