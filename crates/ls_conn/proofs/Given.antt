-- Texts that were given at places of a history, and lists that grow.
use Rattle.std.proofs.Common.{◌≡◌, ℕ, List, [], ◌∷◌, ◌++◌, inl, inr, length, Some, sym, ap, subst, ◌∙◌, arith, append-nil, flat_map, slice_get}
use Rattle.std.proofs.lemmas.Grind.{elements, flat_map-append}
use mathlib.Core.List.{IsPrefix}
use Rattle.ls_chron.proofs.Beginnings.{prefix_self, prefix_trans, prefix_get}
use Rattle.ls_talk.specs.Lines.{line_bytes}
use Rattle.ls_register.specs.declared.told.Told.{Told}
use Rattle.ls_register.specs.declared.told.Told.TheVariants.{Gave}
use Rattle.ls_told.specs.Seen.{Testified, Grows, Sends}
use Rattle.ls_told.specs.Requests.{HasBound}
use Rattle.ls_told.proofs.Watching.{sees_twice}
use Rattle.ls_shared.specs.Answers.{SeesOn}
use Rattle.ls_conn.specs.Streaming.{IsGiven, AreGiven, lines_of}

-- on a longer history
pub is_given_later : (es fs : List Told) (epoch p : ℕ) (t : List ℕ) → IsPrefix es fs → IsGiven es epoch p t → IsGiven fs epoch p t
is_given_later es fs epoch p t longer is = (is.0, prefix_get es fs p _ longer is.1)

pub given_later : (es fs : List Told) (epoch : ℕ) (ps : List ℕ) (ts : List (List ℕ)) → IsPrefix es fs → AreGiven es epoch ps ts → AreGiven fs epoch ps ts
given_later es fs epoch [] [] longer are = are
given_later es fs epoch [] (t ∷ ts) longer are = are
given_later es fs epoch (p ∷ ps) [] longer are = are
given_later es fs epoch (p ∷ ps) (t ∷ ts) longer are = (is_given_later es fs epoch p t longer are.0, given_later es fs epoch ps ts longer are.1)

-- one more
pub given_more : (es : List Told) (epoch : ℕ) (ps : List ℕ) (ts : List (List ℕ)) (p : ℕ) (t : List ℕ) → AreGiven es epoch ps ts → IsGiven es epoch p t
    → AreGiven es epoch (ps ++ p ∷ []) (ts ++ t ∷ [])
given_more es epoch [] [] p t are is = (is, are)
given_more es epoch [] (u ∷ ts) p t are is = absurd are
given_more es epoch (q ∷ ps) [] p t are is = absurd are
given_more es epoch (q ∷ ps) (u ∷ ts) p t are is = (are.0, given_more es epoch ps ts p t are.1 is)

-- the entry that stands last
last_there : (es : List Told) (e : Told) → slice_get (es ++ e ∷ []) (length es) ≡ Some e
last_there es e = grind (arith, elements)

pub sent_there : (old new : Testified) (epoch : ℕ) (text : List ℕ) (tick : ℕ) (s : Sends old new epoch text tick) → IsGiven new.lines epoch (length s.before) text
sent_there old new epoch text tick s =
    (tick, ap (λ (xs : List Told). slice_get xs (length s.before)) s.lines ∙ last_there s.before (Gave epoch text tick))

-- lines of one text more
pub lines_more : (ts : List (List ℕ)) (t : List ℕ) → lines_of (ts ++ t ∷ []) ≡ lines_of ts ++ line_bytes t
lines_more ts t = flat_map-append line_bytes ts (t ∷ []) ∙ ap (λ (xs : List ℕ). lines_of ts ++ xs) (append-nil (line_bytes t))

-- a caller sees more, and then more
grows_on : (a b c : Testified) → Grows a b → Grows b c → Grows a c
grows_on a b c early late =
    record {
      number = late.number ∙ early.number;
      table = late.table ∙ early.table;
      lines = prefix_trans a.lines b.lines c.lines early.lines late.lines;
      later = prefix_trans a.later b.lines c.lines early.later late.lines;
      both = late.both;
      watches = sees_twice a.watches b.watches c.watches early.watches late.watches;
      register = prefix_trans a.register b.register c.register early.register late.register;
    }

-- a caller sees no less, and then no less
pub sees_on : (a b c : Testified) → SeesOn a b → SeesOn b c → SeesOn a c
sees_on a b c early (inl same) = subst (SeesOn a) (sym same) early
sees_on a b c (inl same) (inr late) = inr (subst (λ (x : Testified). Grows x c) same late)
sees_on a b c (inr early) (inr late) = inr (grows_on a b c early late)

pub lines_see : (a b : Testified) → SeesOn a b → IsPrefix a.lines b.lines
lines_see a b (inl same) = subst (λ (t : Testified). IsPrefix a.lines t.lines) (sym same) (prefix_self a.lines)
lines_see a b (inr grows) = grows.lines

-- a Bound stays
pub bound_later : (es fs : List Told) (epoch : ℕ) → IsPrefix es fs → HasBound epoch es → HasBound epoch fs
bound_later es fs epoch longer has =
    (has.0, has.1, has.2, has.3, has.4, prefix_get es fs has.0 _ longer has.5)

pub bound_sees : (a b : Testified) (epoch : ℕ) → SeesOn a b → HasBound epoch a.lines → HasBound epoch b.lines
bound_sees a b epoch (inl same) has = subst (λ (t : Testified). HasBound epoch t.lines) (sym same) has
bound_sees a b epoch (inr grows) has = bound_later a.lines b.lines epoch grows.lines has

pub number_sees : (a b : Testified) → SeesOn a b → b.number ≡ a.number
number_sees a b (inl same) = ap (λ (t : Testified). t.number) same
number_sees a b (inr grows) = grows.number
