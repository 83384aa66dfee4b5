-- Lines are given up one after the other.
use Rattle.std.proofs.Common.{◌≡◌, ◌≤◌, ◌<◌, ℕ, ◌+◌, ◌-◌, ◌^◌, List, [], ◌∷◌, ◌++◌, length, drop, Bool, true, false, nat_le, nat_lt}
use Rattle.std.proofs.Common.{refl, sym, ◌∙◌, ap, subst, arith, cond, Option, Some, None, slice_get}
use Rattle.std.proofs.Common.{unwrap_or, not, ◌*◌, ◌&&◌}
use Rattle.std.proofs.lemmas.Bool.{and_from, ltb-true, ltb-false, le-leb, lt-ltb}
use Rattle.std.proofs.lemmas.List.{length-append, length-drop, drop-drop, drop-append-le, get_or-drop}
use Rattle.std.proofs.lemmas.List.Elements.{All-push, All-tail}
use Rattle.std.proofs.lemmas.List.Sums.{sum_by-append, sum_by-cons, sum_by-le}
use Rattle.std.proofs.lemmas.Option.{slice_get-get_or, unwrap_or-slice_get}
use Rattle.ls_value.specs.declared.limits.TheConstants.{GREATEST_NUMBER}
use Rattle.ls_keep.specs.Keeping.{Numbered, bytes_of, may_keep, given_up_after, trimmed, pushed, marked}
use Rattle.ls_keep.specs.Kept.{KeptLines, IsSound, StandsKeep, GaveUp, IsTrim, last_of, kept_text, text_of, given_of, first_given_up}
use Rattle.ls_keep.specs.Texts.{HeldTexts}
use Rattle.ls_keep.proofs.Least.{given_up_after-is, least_keeping-append}

-- the first line that is kept is given up
pub sound_behind : (bytes : ℕ) (line : List ℕ) (rest : List (List ℕ)) (sent given_up : ℕ)
    → IsSound bytes (line ∷ rest) sent given_up → given_up < sent → IsSound (bytes - length line) rest sent (given_up + 1)
sound_behind bytes line rest sent given_up sound less =
    record {
      bytes_are = omega (arith, sound.bytes_are, sum_by-cons length line rest);
      short = All-tail (λ t. length t < 2 ^ 64) line rest sound.short;
      given = omega arith;
      numbered = omega (arith, sound.numbered);
      most = omega (arith, sound.most);
    }

pub sound_popped : (bytes : ℕ) (texts : List (List ℕ)) (sent given_up : ℕ) → IsSound bytes texts sent given_up → given_up < sent
    → IsSound (bytes - length (text_of texts 1)) (drop 1 texts) sent (given_up + 1)
sound_popped bytes [] sent given_up sound less = absurd (omega (arith, less, sound.numbered))
sound_popped bytes (line ∷ rest) sent given_up sound less = sound_behind bytes line rest sent given_up sound less

-- its bytes are counted
pub popped_fits : (bytes : ℕ) (texts : List (List ℕ)) (sent given_up : ℕ) → IsSound bytes texts sent given_up
    → length (text_of texts 1) ≤ bytes
popped_fits bytes [] sent given_up sound = omega arith
popped_fits bytes (line ∷ rest) sent given_up sound = omega (arith, sound.bytes_are, sum_by-cons length line rest)

-- a line is numbered
pub sound_with : (bytes : ℕ) (texts : List (List ℕ)) (text : List ℕ) (sent given_up : ℕ) → IsSound bytes texts sent given_up
    → length text < 2 ^ 64 → given_up + length texts < 2 ^ 60 → IsSound (bytes + length text) (texts ++ text ∷ []) sent given_up
sound_with bytes texts text sent given_up sound short room =
    record {
      bytes_are = omega (arith, sound.bytes_are, sum_by-append length texts (text ∷ []));
      short = All-push (λ t. length t < 2 ^ 64) texts text sound.short short;
      given = sound.given;
      numbered = omega (arith, sound.numbered, length-append texts (text ∷ []));
      most = omega (arith, length-append texts (text ∷ []));
    }

-- the count of bytes can't overflow, as there are fewer lines than 2 ^ 61
pub bytes_fit : (bytes : ℕ) (texts : List (List ℕ)) (sent given_up more : ℕ) → IsSound bytes texts sent given_up → more < 2 ^ 64
    → bytes + more < 2 ^ 128
bytes_fit bytes texts sent given_up more sound short =
    let most : bytes_of texts ≤ length texts * 2 ^ 64 =
    sum_by-le length (2 ^ 64) texts (λ k d within. (let one = sound.short k d within in omega arith)) in
    omega (arith, most, sound.bytes_are, sound.most)

-- no line was given up yet
pub gave_up_none : (k : KeptLines) → k.given_up ≤ k.sent → GaveUp k k
gave_up_none k given =
    record {
      texts = ap (λ (n : ℕ). drop n k.texts) {x = 0} {y = k.given_up - k.given_up} (omega arith);
      sent = refl;
      rose = omega arith;
      given = given;
      over = λ n before. absurd (omega (arith, before));
      freed = λ before. absurd (omega (arith, before));
      same = λ none. refl;
      room = omega arith;
    }

-- there was more room
pub gave_up_in_less : (old new : KeptLines) (spare : ℕ) → spare ≤ old.spare → GaveUp old new → GaveUp (record old { spare = spare }) new
gave_up_in_less old new spare less gave =
    record {
      texts = gave.texts;
      sent = gave.sent;
      rose = gave.rose;
      given = gave.given;
      over = gave.over;
      freed = gave.freed;
      same = gave.same;
      room = omega (arith, less, gave.room);
    }

-- a line is numbered, and lines are given up
abbrev pub kept_of : HeldTexts → ℕ → ℕ → KeptLines
kept_of held sent given_up =
    record { texts = held.texts; sent = sent; given_up = given_up; freed = held.left; spare = held.spare }

pub gave_up_with : (old new : KeptLines) (held more : HeldTexts) (text : List ℕ) (sent given_up : ℕ)
    → kept_of held sent given_up ≡ old → more ≡ record held { texts = held.texts ++ text ∷ []; spare = more.spare }
    → held.spare ≤ more.spare + 1 → GaveUp (kept_of more sent given_up) new
    → GaveUp (record old { texts = old.texts ++ text ∷ []; spare = old.spare - 1 }) new
gave_up_with old new held more text sent given_up view is room gave =
    subst (λ (v : KeptLines). GaveUp (record v { texts = v.texts ++ text ∷ []; spare = v.spare - 1 }) new) view
    (gave_up_in_less (kept_of (record held { texts = held.texts ++ text ∷ []; spare = more.spare }) sent given_up) new (held.spare - 1)
    (omega (arith, room)) (subst (λ (h : HeldTexts). GaveUp (kept_of h sent given_up) new) is gave))

-- a test that says no
pub says_no : (v : Bool) → true ≡ not v → v ≡ false
says_no true is = is
says_no false is = refl

-- and one more
slice_get-drop : (texts : List (List ℕ)) (n i : ℕ) → n + i < length texts → slice_get (drop n texts) i ≡ slice_get texts (n + i)
slice_get-drop texts n i within =
    slice_get-get_or (drop n texts) i [] (omega (arith, length-drop n texts))
    ∙ ap (λ (t : List ℕ). Some t) (get_or-drop n texts i [])
    ∙ sym (slice_get-get_or texts (n + i) [] within)

kept_text-is : (k : KeptLines) (n : ℕ) → k.given_up < n → n ≤ last_of k → kept_text k n ≡ slice_get k.texts (n - (k.given_up + 1))
kept_text-is k n behind within =
    ap (λ (b : Bool). cond b (slice_get k.texts (n - (k.given_up + 1))) None)
    (and_from (nat_lt k.given_up n) (nat_le n (last_of k)) (lt-ltb k.given_up n behind) (le-leb n (last_of k) within))

some_text : (texts : List (List ℕ)) (i : ℕ) → i < length texts → slice_get texts i ≡ Some (unwrap_or (slice_get texts i) [])
some_text texts i within =
    slice_get-get_or texts i [] within ∙ ap (λ (t : List ℕ). Some t) (sym (unwrap_or-slice_get texts i []))

pub gave_up_more : (old new : KeptLines) (spare : ℕ) → GaveUp old new → new.given_up < new.sent → old.sent ≤ last_of old
    → may_keep new.texts 0 ≡ false → new.spare ≤ spare → GaveUp old (first_given_up spare new)
gave_up_more old new spare gave less numbered over room =
    let many : ℕ = new.given_up - old.given_up in
    let sent : new.sent ≡ old.sent = gave.sent in
    let rose : old.given_up ≤ new.given_up = gave.rose in
    record {
      texts = ap (drop 1) gave.texts ∙ drop-drop 1 many old.texts
          ∙ ap (λ (n : ℕ). drop n old.texts) {x = many + 1} {y = new.given_up + 1 - old.given_up} (omega arith);
      sent = gave.sent;
      rose = omega arith;
      given = omega arith;
      over = λ n before. by_order n before (nat_lt (old.given_up + n) new.given_up) refl;
      freed = λ before.
          kept_text-is old (new.given_up + 1) (omega arith) (omega (arith, numbered))
          ∙ ap (slice_get old.texts) {x = new.given_up + 1 - (old.given_up + 1)} {y = many + 0} (omega arith)
          ∙ sym (slice_get-drop old.texts many 0 (omega (arith, numbered)))
          ∙ ap (λ (ts : List (List ℕ)). slice_get ts 0) (sym gave.texts)
          ∙ some_text new.texts 0 (omega (arith, numbered, ap length gave.texts, length-drop many old.texts));
      same = λ none. absurd (omega (arith, none));
      room = omega (arith, gave.room, room);
    }
  where
    by_order : (n : ℕ) → old.given_up + n < new.given_up + 1 → (v : Bool) → nat_lt (old.given_up + n) new.given_up ≡ v
        → may_keep old.texts n ≡ false
    by_order n before true t = gave.over n (ltb-true (old.given_up + n) new.given_up t)
    by_order n before false t =
        let here : n ≡ new.given_up - old.given_up = omega (arith, gave.rose, ltb-false (old.given_up + n) new.given_up t) in
        ap (λ (m : ℕ). may_keep (drop m old.texts) 0) here ∙ ap (λ (ts : List (List ℕ)). may_keep ts 0) (sym gave.texts) ∙ over

-- what is kept stands for lines of which the same ones are given up
behind : (texts : List (List ℕ)) (g n : ℕ) → g ≤ n → drop (n - g) (drop g texts) ≡ drop n texts
behind texts g n less = drop-drop (n - g) g texts ∙ ap (λ (m : ℕ). drop m texts) {x = g + (n - g)} {y = n} (omega (arith, less))

gave_up_stands : (old new : KeptLines) (n : Numbered) (given_up : ℕ) → StandsKeep old n → GaveUp old new → new.given_up ≡ given_up
    → StandsKeep new (record n { given_up = given_up })
gave_up_stands old new n given_up st gave is =
    let rose : n.given_up ≤ given_up = omega (arith, st.given_up, gave.rose, is) in
    record {
      texts = gave.texts ∙ ap (drop (new.given_up - old.given_up)) st.texts
          ∙ ap (λ (m : ℕ). drop m (drop n.given_up n.texts)) {x = new.given_up - old.given_up} {y = given_up - n.given_up} (omega (arith, is, st.given_up))
          ∙ behind n.texts n.given_up given_up rose;
      sent = gave.sent ∙ st.sent;
      given_up = is;
      given = omega (arith, is, gave.given, st.sent);
      numbered = st.numbered;
      most = st.most;
    }

pub trimmed_stands : (old new : KeptLines) (n : Numbered) → StandsKeep old n → GaveUp old new → IsTrim new → StandsKeep new (trimmed n)
trimmed_stands old new n st gave trim =
    gave_up_stands old new n (given_up_after n.given_up n.sent n.texts) st gave
    (given_up_after-is n.texts n.given_up new.given_up n.sent (omega (arith, st.given_up, gave.rose)) (omega (arith, gave.given, st.sent)) over may)
  where
    kept : new.texts ≡ drop new.given_up n.texts
    kept = (gave_up_stands old new n new.given_up st gave refl).texts

    over : (m : ℕ) → n.given_up ≤ m → m < new.given_up → may_keep n.texts m ≡ false
    over m from before =
        ap (λ (ts : List (List ℕ)). may_keep ts 0)
        (sym (behind n.texts n.given_up m from) ∙ ap (drop (m - n.given_up)) (sym st.texts))
        ∙ gave.over (m - n.given_up) (omega (arith, from, before, st.given_up))

    may : new.given_up < n.sent → may_keep n.texts new.given_up ≡ true
    may less = ap (λ (ts : List (List ℕ)). may_keep ts 0) (sym kept) ∙ trim (omega (arith, less, gave.sent, st.sent))

-- how many lines were numbered
pub last_is : (k : KeptLines) (n : Numbered) → StandsKeep k n → last_of k ≡ length n.texts
last_is k n st = omega (arith, st.given_up, st.given, st.numbered, ap length st.texts, length-drop n.given_up n.texts)

-- a line is numbered, and lines are given up
pub pushed_stands : (k k₁ k₂ : KeptLines) (n : Numbered) (text : List ℕ) → StandsKeep k n → last_of k < GREATEST_NUMBER
    → k₁.texts ≡ k.texts ++ text ∷ [] → k₁.sent ≡ k.sent → k₁.given_up ≡ k.given_up → GaveUp k₁ k₂ → IsTrim k₂
    → StandsKeep k₂ (pushed text n)
pushed_stands k k₁ k₂ n text st room texts sent given_up gave trim = trimmed_stands k₁ k₂ (record n { texts = n.texts ++ text ∷ [] }) stands gave trim
  where
    stands : StandsKeep k₁ (record n { texts = n.texts ++ text ∷ [] })
    stands =
        record {
          texts = texts ∙ ap (λ (ts : List (List ℕ)). ts ++ text ∷ []) st.texts
              ∙ sym (drop-append-le n.given_up n.texts (text ∷ []) (omega (arith, st.given, st.numbered)));
          sent = sent ∙ st.sent;
          given_up = given_up ∙ st.given_up;
          given = st.given;
          numbered = omega (arith, st.numbered, length-append n.texts (text ∷ []));
          most = omega (arith, room, last_is k n st, length-append n.texts (text ∷ []));
        }

-- the next line is given, and lines are given up
abbrev pub with_given : KeptLines → KeptLines
with_given k = record k { sent = k.sent + 1 }

given_stands : (k : KeptLines) (n : Numbered) → StandsKeep k n → k.sent < last_of k → StandsKeep (with_given k) (record n { sent = n.sent + 1 })
given_stands k n st more =
    record {
      texts = st.texts;
      sent = ap (λ (m : ℕ). m + 1) st.sent;
      given_up = st.given_up;
      given = omega (arith, st.given);
      numbered = omega (arith, more, last_is k n st, st.sent);
      most = st.most;
    }

pub marked_stands : (k k₁ : KeptLines) (n : Numbered) → StandsKeep k n → k.sent < last_of k → GaveUp (with_given k) k₁ → IsTrim k₁
    → StandsKeep k₁ (marked n)
marked_stands k k₁ n st more gave trim = trimmed_stands (with_given k) k₁ (record n { sent = n.sent + 1 }) (given_stands k n st more) gave trim

-- the text of a line that is kept
kept_text-of : (k : KeptLines) (n : Numbered) (line : ℕ) → StandsKeep k n → k.given_up < line → line ≤ length n.texts
    → kept_text k line ≡ slice_get n.texts (line - 1)
kept_text-of k n line st above within =
    kept_text-is k line above (omega (arith, within, last_is k n st))
    ∙ ap (λ (ts : List (List ℕ)). slice_get ts (line - (k.given_up + 1))) st.texts
    ∙ slice_get-drop n.texts n.given_up (line - (k.given_up + 1)) (omega (arith, above, within, st.given_up))
    ∙ ap (slice_get n.texts) {x = n.given_up + (line - (k.given_up + 1))} {y = line - 1} (omega (arith, above, st.given_up))

-- the line that was given is told, also where it was given up then
pub given_is : (k k₁ : KeptLines) (n : Numbered) → StandsKeep k n → k.sent < last_of k → GaveUp (with_given k) k₁ → IsTrim k₁
    → given_of k₁ ≡ text_of n.texts (n.sent + 1)
given_is k k₁ n st more gave trim = by_order (nat_lt k₁.given_up k₁.sent) refl
  where
    after : StandsKeep k₁ (marked n)
    after = marked_stands k k₁ n st more gave trim

    within : n.sent + 1 ≤ length n.texts
    within = omega (arith, more, last_is k n st, st.sent)

    sent : k₁.sent ≡ n.sent + 1
    sent = after.sent

    by_order : (v : Bool) → nat_lt k₁.given_up k₁.sent ≡ v → given_of k₁ ≡ text_of n.texts (n.sent + 1)
    by_order true t =
        let kept : kept_text k₁ k₁.sent ≡ Some (text_of n.texts (n.sent + 1)) =
        kept_text-of k₁ (marked n) k₁.sent after (ltb-true k₁.given_up k₁.sent t) (omega (arith, sent, within))
        ∙ ap (slice_get n.texts) {x = k₁.sent - 1} {y = n.sent + 1 - 1} (omega (arith, sent))
        ∙ some_text n.texts (n.sent + 1 - 1) (omega (arith, within)) in
        ap (λ (o : Option (List ℕ)). unwrap_or o k₁.freed) kept
    by_order false t =
        let all : k₁.given_up ≡ n.sent + 1 = omega (arith, ltb-false k₁.given_up k₁.sent t, after.given, sent) in
        let freed : Some k₁.freed ≡ Some (text_of n.texts (n.sent + 1)) =
        sym (gave.freed (omega (arith, all, st.given_up, st.given)))
        ∙ kept_text-of (with_given k) (record n { sent = n.sent + 1 }) k₁.given_up (given_stands k n st more)
        (omega (arith, all, st.given_up, st.given)) (omega (arith, all, within))
        ∙ ap (slice_get n.texts) {x = k₁.given_up - 1} {y = n.sent + 1 - 1} (omega (arith, all))
        ∙ some_text n.texts (n.sent + 1 - 1) (omega (arith, within)) in
        ap (λ (b : Bool). unwrap_or (cond (b && nat_le k₁.sent (last_of k₁)) (slice_get k₁.texts (k₁.sent - (k₁.given_up + 1))) None) k₁.freed) t
        ∙ ap (λ (o : Option (List ℕ)). unwrap_or o []) freed

-- lines that are given up before more are numbered are given up then too
pub trimmed_twice : (n : Numbered) (more : List (List ℕ))
    → trimmed (record (trimmed n) { texts = n.texts ++ more }) ≡ trimmed (record n { texts = n.texts ++ more })
trimmed_twice n more =
    ap (λ (m : ℕ). record n { texts = n.texts ++ more; given_up = m })
    {x = given_up_after (given_up_after n.given_up n.sent n.texts) n.sent (n.texts ++ more)}
    {y = given_up_after n.given_up n.sent (n.texts ++ more)}
    (omega (arith, least_keeping-append n.texts more))
