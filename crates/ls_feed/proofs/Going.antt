-- What bytes make of a feed.
use Rattle.std.proofs.Common.{◌≡◌, ℕ, ◌<◌, ◌≤◌, ◌-◌, arith, ◌==◌, true, List, [], ◌∷◌, ◌++◌, length, take, drop, refl, sym, ◌∙◌, ap, subst}
use Rattle.std.proofs.Common.{append_assoc, append-nil, ⊎_elim, inl, inr}
use Rattle.std.specs.Prelude.{Option, None, Some, flat_map}
use Rattle.std.proofs.lemmas.List.{take_all, take-append-drop}
use Rattle.std.proofs.lemmas.Bool.{eqb-true}
use Rattle.std.specs.Io.KnownBytes.{Appends}
use mathlib.Core.List.{IsPrefix}
use Rattle.ls_outside.proofs.Bytes.{appends_on}
use Rattle.ls_event.specs.declared.item.ItemDef.{ItemDef}
use Rattle.ls_live.specs.Live.{Pass}
use Rattle.ls_feed.specs.declared.feed.Fed.{Fed}
use Rattle.ls_feed.specs.declared.feed.Fed.TheVariants as fed
use Rattle.ls_feed.specs.declared.limits.TheConstants.{LONGEST_LINE}
use Rattle.ls_feed.specs.declared.reply.FeedReply.{FeedReply}
use Rattle.ls_feed.specs.declared.reply.FeedReply.TheVariants as reply
use Rattle.ls_feed.specs.declared.reply.Bad.TheVariants as bad
use Rattle.ls_feed.specs.declared.report.FeedEnd.TheVariants as end
use Rattle.ls_lines.specs.Lines.{IsPlain, ended, EndsLine, EndsNone, Cutting, line_at, AreLines as AreLinesWithin, AreTooLong as AreTooLongFor}
use Rattle.ls_lines.proofs.Joining.{lines_join, lines_kept as kept_within, too_long_more as longer_within}
use Rattle.ls_feed.specs.Lines.{AreLines, AreTooLong, BeginOtherwise}
use Rattle.ls_feed.specs.Replies.{texts_of, text_of}
use Rattle.ls_feed.specs.Serving.{Answers, AllAnswered, LastText, PartAnswered}
use Rattle.ls_feed.specs.Feeding.{Feeder, KeptFeed, AnsweredSo, Wrote, WrotePart, Acts, Stands, Ends, Goes, end_at}
use Rattle.ls_feed.specs.Feeding.{SaysTooLong, IsReady, IsFeeder}
use Rattle.ls_feed.proofs.Acting.{prefix_behind, prefix_front, appends_none}

-- the reply to a line that is too long
abbrev pub bad_1 : List ℕ
bad_1 = text_of (reply.Bad bad.Malformed)

-- lines that were answered by whoever feeds
answers_of : (items : List ItemDef) (adapter : Option ℕ) (lines : List (List ℕ)) (rs : List FeedReply) (ps : List (Option Pass))
    → AnsweredSo items adapter lines rs ps → Answers items lines rs ps
answers_of items None lines rs ps so = subst (λ (ls : List (List ℕ)). Answers items ls rs ps) (sym so.0) so.1
answers_of items (Some adapter) lines rs ps so =
    subst (λ (ls : List (List ℕ)). Answers items ls rs ps) (sym so.are) (adapter, so.answered)

-- bytes behind others that are no whole line
pub lines_kept : (read : List ℕ) (lines : List (List ℕ)) (carry xs : List ℕ) → AreLines read lines carry
    → AreLines (read ++ xs) lines (carry ++ xs)
lines_kept read lines carry xs a = kept_within LONGEST_LINE read lines carry xs a

-- bytes are their rest, where there are no lines
no_lines : (read : List ℕ) (lines : List (List ℕ)) (rest : List ℕ) → lines ≡ [] → AreLines read lines rest → read ≡ rest
no_lines read lines rest none a = a.text ∙ ap (λ ls. flat_map ended ls ++ rest) none

too_long_is : (xs ys : List ℕ) → xs ≡ ys → AreTooLong ys → AreTooLong xs
too_long_is xs ys same t = record { line = t.line; behind = t.behind; text = same ∙ t.text; plain = t.plain; long = t.long }

-- a feed that doesn't go on, by its end
pub goes_not : (items : List ItemDef) (a : Fed) (k : KeptFeed) (read : List ℕ) (held now : Option (List ℕ)) → (a ≡ fed.All → ⊥)
    → Ends items (end_at a) k.feeder.passes read held now → Goes items a k read held now
goes_not items fed.All k read held now n e = absurd (n refl)
goes_not items fed.BadHello k read held now n e = e
goes_not items fed.LongLine k read held now n e = e
goes_not items fed.WriteFault k read held now n e = e
goes_not items fed.NoMemory k read held now n e = e

pub ends_so : (items : List ItemDef) (a : Fed) (k : KeptFeed) (read : List ℕ) (held now : Option (List ℕ)) → (a ≡ fed.All → ⊥)
    → Goes items a k read held now → Ends items (end_at a) k.feeder.passes read held now
ends_so items fed.All k read held now n e = absurd (n refl)
ends_so items fed.BadHello k read held now n e = e
ends_so items fed.LongLine k read held now n e = e
ends_so items fed.WriteFault k read held now n e = e
ends_so items fed.NoMemory k read held now n e = e

not_all : (a : Fed) (adapter : Option ℕ) (held now : Option (List ℕ)) (text : List ℕ) → SaysTooLong a adapter held now text → a ≡ fed.All → ⊥
not_all fed.All adapter held now text s e = absurd s
not_all fed.BadHello adapter held now text s e = cc e
not_all fed.LongLine adapter held now text s e = cc e
not_all fed.WriteFault adapter held now text s e = cc e
not_all fed.NoMemory adapter held now text s e = cc e

-- a line that is too long, behind lines that were answered
refused_by : (items : List ItemDef) (a : Fed) (adapter : Option ℕ) (lines : List (List ℕ)) (rs : List FeedReply) (ps : List (Option Pass))
    (read rest : List ℕ) (held h0 h1 : Option (List ℕ)) → AreLines read lines rest → AreTooLong rest → AnsweredSo items adapter lines rs ps
    → Appends held h0 (texts_of rs) → SaysTooLong a adapter h0 h1 bad_1 → Ends items (end_at a) ps read held h1
refused_by items fed.All adapter lines rs ps read rest held h0 h1 are long so wrote s = absurd s
refused_by items fed.BadHello None lines rs ps read rest held h0 h1 are long so wrote s =
    let none : Appends held h0 [] = subst (λ (r : List FeedReply). Appends held h0 (texts_of r)) so.1.none wrote in
    record {
      written = [];
      appends = appends_on held h0 h1 [] [] none s.1;
      outcome = record { first = inr (too_long_is read rest (no_lines read lines rest so.0 are) long); silent = refl; unseen = so.1.unseen };
    }
refused_by items fed.BadHello (Some adapter) lines rs ps read rest held h0 h1 are long so wrote s = absurd (cc s.0)
refused_by items fed.LongLine None lines rs ps read rest held h0 h1 are long so wrote s = absurd s
refused_by items fed.LongLine (Some adapter) lines rs ps read rest held h0 h1 are long so wrote s = record {
  written = texts_of rs ++ bad_1;
  appends = appends_on held h0 h1 (texts_of rs) bad_1 wrote s;
  outcome = record {
    first = so.first;
    lines = so.behind;
    rest = rest;
    replies = rs;
    are = subst (λ (ls : List (List ℕ)). AreLines read ls rest) so.are are;
    long = long;
    answers = (adapter, so.answered);
    text = refl;
  };
}
refused_by items fed.WriteFault None lines rs ps read rest held h0 h1 are long so wrote s = absurd s
refused_by items fed.WriteFault (Some adapter) lines rs ps read rest held h0 h1 are long so wrote s = record {
  written = texts_of rs ++ s.0;
  appends = appends_on held h0 h1 (texts_of rs) s.0 wrote s.2;
  outcome = record {
    lines = lines;
    rest = rest;
    replies = rs;
    last = bad_1;
    are = are;
    answers = answers_of items (Some adapter) lines rs ps so;
    last_is = inr (long, refl);
    part = prefix_behind (texts_of rs) s.0 bad_1 s.1;
  };
}
refused_by items fed.NoMemory None lines rs ps read rest held h0 h1 are long so wrote s = absurd s
refused_by items fed.NoMemory (Some adapter) lines rs ps read rest held h0 h1 are long so wrote s = record {
  written = texts_of rs;
  appends = appends_none held h0 h1 (texts_of rs) wrote s;
  outcome = record {
    lines = lines;
    rest = rest;
    replies = rs;
    last = [];
    are = are;
    answers = answers_of items (Some adapter) lines rs ps so;
    last_is = inl refl;
    part = prefix_front (texts_of rs) [];
  };
}

-- a line is too long by these bytes
pub refused : (items : List ItemDef) (k k' : KeptFeed) (a : Fed) (xs read : List ℕ) (held h0 h1 : Option (List ℕ)) → k'.feeder.passes ≡ k.feeder.passes
    → AreTooLong (k.carry ++ xs) → Stands items k read held h0 → SaysTooLong a k.feeder.adapter h0 h1 bad_1 → Goes items a k' (read ++ xs) held h1
refused items k k' a xs read held h0 h1 same too st s =
    goes_not items a k' (read ++ xs) held h1 (not_all a k.feeder.adapter h0 h1 bad_1 s)
    (subst (λ (ps : List (Option Pass)). Ends items (end_at a) ps (read ++ xs) held h1) (sym same)
    (refused_by items a k.feeder.adapter st.lines st.wrote.replies k.feeder.passes (read ++ xs) (k.carry ++ xs) held h0 h1
    (lines_kept read st.lines k.carry xs st.are) too st.wrote.answers st.wrote.appends s))

-- a part of the replies was written
part_ends : (items : List ItemDef) (f : Feeder) (lines : List (List ℕ)) (read rest : List ℕ) (held now : Option (List ℕ))
    → AreLines read lines rest → (w : WrotePart items f lines held now) → PartAnswered items read w.written f.passes
part_ends items f lines read rest held now are w = record {
  lines = lines;
  rest = rest;
  replies = w.replies;
  last = [];
  are = are;
  answers = answers_of items f.adapter lines w.replies f.passes w.answers;
  last_is = inl refl;
  part = subst (λ t. IsPrefix w.written t) (sym (append-nil (texts_of w.replies))) w.part;
}

-- a line has ended, and it was acted on
line_acted : (items : List ItemDef) (a : Fed) (k k' : KeptFeed) (line xs read : List ℕ) (held h0 h1 : Option (List ℕ)) → k'.carry ≡ []
    → AreLines (k.carry ++ xs) (line ∷ []) [] → (st : Stands items k read held h0) → Acts items a k'.feeder st.lines line held h1
    → Goes items a k' (read ++ xs) held h1
line_acted items fed.All k k' line xs read held h0 h1 empty l st acts = record {
  lines = st.lines ++ line ∷ [];
  are = subst (λ t. AreLines (read ++ xs) (st.lines ++ line ∷ []) t) (sym empty)
      (lines_join LONGEST_LINE read xs st.lines (line ∷ []) k.carry [] st.are l);
  wrote = acts;
}
line_acted items fed.BadHello k k' line xs read held h0 h1 empty l st acts = record {
  written = [];
  appends = acts.appends;
  outcome = record {
    first = inl (record {
      line = line;
      behind = [];
      text = ap (λ t. t ++ xs) (no_lines read st.lines k.carry acts.none st.are) ∙ l.text ∙ append-nil (ended line ++ []);
      plain = l.each.0.plain;
      none = acts.other;
    });
    silent = refl;
    unseen = acts.unseen;
  };
}
line_acted items fed.LongLine k k' line xs read held h0 h1 empty l st acts = absurd acts
line_acted items fed.WriteFault k k' line xs read held h0 h1 empty l st acts = record {
  written = acts.written;
  appends = acts.appends;
  outcome = part_ends items k'.feeder (st.lines ++ line ∷ []) (read ++ xs) [] held h1
      (lines_join LONGEST_LINE read xs st.lines (line ∷ []) k.carry [] st.are l) acts;
}
line_acted items fed.NoMemory k k' line xs read held h0 h1 empty l st acts = record {
  written = acts.written;
  appends = acts.appends;
  outcome = part_ends items k'.feeder (st.lines ++ line ∷ []) (read ++ xs) [] held h1
      (lines_join LONGEST_LINE read xs st.lines (line ∷ []) k.carry [] st.are l) acts;
}

-- no memory for these bytes
pub no_room : (items : List ItemDef) (k k' : KeptFeed) (xs read : List ℕ) (held now : Option (List ℕ)) → k'.feeder ≡ k.feeder
    → Stands items k read held now → Goes items fed.NoMemory k' (read ++ xs) held now
no_room items k k' xs read held now same st =
    let whole : Ends items end.NoMemory k.feeder.passes (read ++ xs) held now = record {
      written = texts_of st.wrote.replies;
      appends = st.wrote.appends;
      outcome = record {
        lines = st.lines;
        rest = k.carry ++ xs;
        replies = st.wrote.replies;
        last = [];
        are = lines_kept read st.lines k.carry xs st.are;
        answers = answers_of items k.feeder.adapter st.lines st.wrote.replies k.feeder.passes st.wrote.answers;
        last_is = inl refl;
        part = prefix_front (texts_of st.wrote.replies) [];
      };
    } in
    subst (λ (f : Feeder). Ends items end.NoMemory f.passes (read ++ xs) held now) (sym same) whole

-- bytes that end no line are kept
pub kept_on : (items : List ItemDef) (k k' : KeptFeed) (xs read : List ℕ) (held now : Option (List ℕ)) → k'.feeder ≡ k.feeder → k'.carry ≡ k.carry ++ xs
    → Stands items k read held now → Stands items k' (read ++ xs) held now
kept_on items k k' xs read held now same more st = record {
  lines = st.lines;
  are = subst (λ t. AreLines (read ++ xs) st.lines t) (sym more) (lines_kept read st.lines k.carry xs st.are);
  wrote = subst (λ (f : Feeder). Wrote items f st.lines held now) (sym same) st.wrote;
}

too_long_more : (xs more : List ℕ) → AreTooLong xs → AreTooLong (xs ++ more)
too_long_more xs more t = longer_within LONGEST_LINE xs more t

otherwise_more : (xs more : List ℕ) → BeginOtherwise xs → BeginOtherwise (xs ++ more)
otherwise_more xs more t = record {
  line = t.line;
  behind = t.behind ++ more;
  text = ap (λ y. y ++ more) t.text ∙ append_assoc (ended t.line) t.behind more;
  plain = t.plain;
  none = t.none;
}

last_more : (rest text more : List ℕ) → LastText rest text → LastText (rest ++ more) text
last_more rest text more l = ⊎_elim (λ (e : text ≡ []). inl e) (λ (t : AreTooLong rest × (text ≡ bad_1)). inr (too_long_more rest more t.0, t.1)) l

part_more : (items : List ItemDef) (read written more : List ℕ) (ps : List (Option Pass)) → PartAnswered items read written ps
    → PartAnswered items (read ++ more) written ps
part_more items read written more ps p = record {
  lines = p.lines;
  rest = p.rest ++ more;
  replies = p.replies;
  last = p.last;
  are = lines_kept read p.lines p.rest more p.are;
  answers = p.answers;
  last_is = last_more p.rest p.last more p.last_is;
  part = p.part;
}

-- an end within bytes is one within more
pub goes_more : (items : List ItemDef) (a : Fed) (k : KeptFeed) (read more : List ℕ) (held now : Option (List ℕ)) → (a ≡ fed.All → ⊥)
    → Goes items a k read held now → Goes items a k (read ++ more) held now
goes_more items fed.All k read more held now n e = absurd (n refl)
goes_more items fed.BadHello k read more held now n e = record {
  written = e.written;
  appends = e.appends;
  outcome = record {
    first = ⊎_elim (λ (b : BeginOtherwise read). inl (otherwise_more read more b)) (λ (t : AreTooLong read). inr (too_long_more read more t)) e.outcome.first;
    silent = e.outcome.silent;
    unseen = e.outcome.unseen;
  };
}
goes_more items fed.LongLine k read more held now n e = let o = e.outcome in record {
  written = e.written;
  appends = e.appends;
  outcome = record {
    first = o.first;
    lines = o.lines;
    rest = o.rest ++ more;
    replies = o.replies;
    are = lines_kept read (o.first ∷ o.lines) o.rest more o.are;
    long = too_long_more o.rest more o.long;
    answers = o.answers;
    text = o.text;
  };
}
goes_more items fed.WriteFault k read more held now n e =
    record { written = e.written; appends = e.appends; outcome = part_more items read e.written more k.feeder.passes e.outcome }
goes_more items fed.NoMemory k read more held now n e =
    record { written = e.written; appends = e.appends; outcome = part_more items read e.written more k.feeder.passes e.outcome }

-- all lines that ended were answered
pub all_answered : (items : List ItemDef) (k : KeptFeed) (read : List ℕ) (held now : Option (List ℕ)) → IsReady items k
    → (st : Stands items k read held now) → AllAnswered items read (texts_of st.wrote.replies) k.feeder.passes
all_answered items k read held now ready st = record {
  lines = st.lines;
  rest = k.carry;
  replies = st.wrote.replies;
  are = st.are;
  plain = ready.plain;
  short = ready.short;
  answers = answers_of items k.feeder.adapter st.lines st.wrote.replies k.feeder.passes st.wrote.answers;
  text = refl;
}

-- what is kept, as the type shows it
pub stands_of : (items : List ItemDef) (k0 k : KeptFeed) (read : List ℕ) (held now : Option (List ℕ)) → k0 ≡ k → Stands items k read held now
    → Stands items k0 read held now
stands_of items k0 k read held now is st = subst (λ (x : KeptFeed). Stands items x read held now) (sym is) st

pub ready_of : (items : List ItemDef) (k0 k : KeptFeed) → k0 ≡ k → IsReady items k → IsReady items k0
ready_of items k0 k is r = subst (λ (x : KeptFeed). IsReady items x) (sym is) r

abbrev pub kept : Feeder → List ℕ → KeptFeed
kept f carry = record { feeder = f; carry = carry }

-- a feed as it is kept: who feeds, and what its cutter holds
abbrev pub kept_by : Feeder → Cutting → KeptFeed
kept_by f c = record { feeder = f; carry = c.carry }

-- what a cutter says of a line, by the limit of a feed
line_within : (c c' : Cutting) (piece : List ℕ) (used : ℕ) → c.limit ≡ LONGEST_LINE → EndsLine c c' piece used
    → AreLines (c.carry ++ take used piece) (line_at c' piece used ∷ []) []
line_within c c' piece used is e =
    subst (λ n. AreLinesWithin n (c.carry ++ take used piece) (line_at c' piece used ∷ []) []) is e.are

pub too_long_within : (c : Cutting) (xs : List ℕ) → c.limit ≡ LONGEST_LINE → AreTooLongFor c.limit xs → AreTooLong xs
too_long_within c xs is t = subst (λ n. AreTooLongFor n xs) is t

-- a line has ended in a piece, and it was acted on: how the bytes go on, if nothing more of the piece is looked at
pub acted_on : (items : List ItemDef) (a : Fed) (f f' : Feeder) (c c' : Cutting) (line piece : List ℕ) (used : ℕ) (h0 h1 : Option (List ℕ))
    → c.limit ≡ LONGEST_LINE → EndsLine c c' piece used → line ≡ line_at c' piece used
    → ((lines : List (List ℕ)) (held : Option (List ℕ)) → Wrote items f lines held h0 → Acts items a f' lines line held h1)
    → (read : List ℕ) (held : Option (List ℕ)) → Stands items (kept_by f c) read held h0
    → Goes items a (kept_by f' c') (read ++ take used piece) held h1
acted_on items a f f' c c' line piece used h0 h1 is e same acts read held st =
    line_acted items a (kept_by f c) (kept_by f' c') (line_at c' piece used) (take used piece) read held h0 h1 e.none
    (line_within c c' piece used is e) st (subst (λ t. Acts items a f' st.lines t held h1) same (acts st.lines held st.wrote))

-- the same, where the feed ends
pub acted_over : (items : List ItemDef) (a : Fed) (f f' : Feeder) (c c' : Cutting) (line piece : List ℕ) (used : ℕ) (h0 h1 : Option (List ℕ))
    → (a ≡ fed.All → ⊥) → c.limit ≡ LONGEST_LINE → EndsLine c c' piece used → line ≡ line_at c' piece used
    → ((lines : List (List ℕ)) (held : Option (List ℕ)) → Wrote items f lines held h0 → Acts items a f' lines line held h1)
    → (read : List ℕ) (held : Option (List ℕ)) → Stands items (kept_by f c) read held h0
    → Goes items a (kept_by f' c') (read ++ piece) held h1
acted_over items a f f' c c' line piece used h0 h1 n is e same acts read held st =
    subst (λ t. Goes items a (kept_by f' c') t held h1)
    (append_assoc read (take used piece) (drop used piece) ∙ ap (λ t. read ++ t) (take-append-drop used piece))
    (goes_more items a (kept_by f' c') (read ++ take used piece) (drop used piece) held h1 n
    (acted_on items a f f' c c' line piece used h0 h1 is e same acts read held st))

-- no line ends in a piece
pub kept_all : (items : List ItemDef) (f : Feeder) (c c' : Cutting) (piece read : List ℕ) (n : ℕ) (held now : Option (List ℕ)) → n ≡ length piece
    → EndsNone c c' piece → Stands items (kept_by f c) read held now → Stands items (kept_by f c') (read ++ take n piece) held now
kept_all items f c c' piece read n held now is e st =
    subst (λ t. Stands items (kept_by f c') (read ++ t) held now) (sym (take_all n piece (omega (arith, is))))
    (kept_on items (kept_by f c) (kept_by f c') piece read held now refl (sym e.are.text) st)

-- a feeder and a cutter are ready behind a line, and behind bytes that end none
pub ready_line : (items : List ItemDef) (f : Feeder) (c c' : Cutting) (piece : List ℕ) (used : ℕ) → IsFeeder items f.adapter f.passes
    → EndsLine c c' piece used → IsReady items (kept_by f c')
ready_line items f c c' piece used r e = record {
  feeder = r;
  plain = subst (λ t. IsPlain t) (sym e.none) tt;
  short = subst (λ t. length t ≤ LONGEST_LINE) (sym e.none) (omega arith);
}

pub ready_rest : (items : List ItemDef) (f : Feeder) (c c' : Cutting) (piece : List ℕ) → c.limit ≡ LONGEST_LINE → IsFeeder items f.adapter f.passes
    → EndsNone c c' piece → IsReady items (kept_by f c')
ready_rest items f c c' piece is r e = record { feeder = r; plain = e.rest.plain; short = subst (λ n. length c'.carry ≤ n) is e.rest.short }

pub empty_of : (xs : List ℕ) (n : ℕ) → n ≡ length xs → ((n == 0) ≡ true) → xs ≡ []
empty_of [] n len h = refl
empty_of (x ∷ xs) n len h = absurd (omega (arith, eqb-true n 0 h, len))

-- no byte of a piece is left
pub whole_read : (items : List ItemDef) (k : KeptFeed) (read front rest piece : List ℕ) (held now : Option (List ℕ)) → piece ≡ front ++ rest → rest ≡ []
    → Stands items k (read ++ front) held now → Stands items k (read ++ piece) held now
whole_read items k read front rest piece held now is none st =
    subst (λ t. Stands items k (read ++ t) held now) (sym (is ∙ ap (λ t. front ++ t) none ∙ append-nil front)) st

-- bytes behind others, in the order in which they came
pub goes_whole : (items : List ItemDef) (a : Fed) (k : KeptFeed) (read front rest piece : List ℕ) (held now : Option (List ℕ)) → piece ≡ front ++ rest
    → Goes items a k ((read ++ front) ++ rest) held now → Goes items a k (read ++ piece) held now
goes_whole items a k read front rest piece held now is g =
    subst (λ t. Goes items a k t held now) (append_assoc read front rest ∙ ap (λ t. read ++ t) (sym is)) g

pub stands_on : (items : List ItemDef) (k : KeptFeed) (read front xs : List ℕ) (held now : Option (List ℕ))
    → Stands items k ((read ++ front) ++ xs) held now → Stands items k (read ++ (front ++ xs)) held now
stands_on items k read front xs held now st = subst (λ t. Stands items k t held now) (append_assoc read front xs) st

pub stands_before : (items : List ItemDef) (k : KeptFeed) (read : List ℕ) (held now : Option (List ℕ)) → Stands items k read held now
    → Stands items k (read ++ []) held now
stands_before items k read held now st = subst (λ t. Stands items k t held now) (sym (append-nil read)) st
