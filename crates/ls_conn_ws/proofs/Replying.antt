-- Requests that are answered one after another.
use Rattle.std.proofs.Common.{◌≡◌, ℕ, ◌+◌, List, [], ◌∷◌, ◌++◌, length, inl, Option, None, Some, true, false, not, refl, sym, ap, subst, ◌∙◌, append-nil, append_assoc, length-append, arith, lit<, suc}
use Rattle.std.proofs.lemmas.List.Elements.{filter-append}
use Rattle.ls_talk.specs.Lines.{Logs}
use Rattle.ls_talk.specs.declared.talk.Happening.{Happening}
use Rattle.ls_talk.specs.declared.talk.Happening.TheVariants as happening
use Rattle.ls_register.specs.Deeds.{Deed}
use Rattle.ls_conn.specs.Acting.{Known}
use Rattle.ls_conn_ws.specs.Messages.{filled, is_empty}
use Rattle.ls_record.specs.Acting.{is_opening}
use Rattle.ls_conn_ws.specs.Serving.{Outcomes, asked, has_opened, lines_in}
use Rattle.ls_conn_ws.specs.Answering.{AnswersOne, CausesReplied, Opens, RepliedPart, RepliesEach, RepliesLine, Replying, control_name, reply_for}
use Rattle.ls_conn_ws.specs.declared.answering.Answered.{Answered}
use Rattle.ls_conn_ws.specs.declared.answering.Answered.TheVariants as answered
use Rattle.ls_conn_ws.specs.declared.answering.Replied.{Replied}
use Rattle.ls_conn_ws.specs.declared.answering.Replied.TheVariants as replied
use Rattle.ls_conn_ws.proofs.Logging.{logs_nothing, logs_on}

-- the lines of answers, and then of more
pub lines_on : (xs ys : List (Option (List ℕ))) → lines_in (xs ++ ys) ≡ lines_in xs ++ lines_in ys
lines_on [] ys = refl
lines_on (None ∷ xs) ys = lines_on xs ys
lines_on (Some t ∷ xs) ys = ap (λ (hs : List Happening). happening.Line t ∷ hs) (lines_on xs ys)

-- none of these opened a stream, and none of those
none_opened : (xs ys : List (Option (List ℕ))) → has_opened xs ≡ false → has_opened ys ≡ false → has_opened (xs ++ ys) ≡ false
none_opened [] ys e f = f
none_opened (None ∷ xs) ys e f = e
none_opened (Some t ∷ xs) ys e f = none_opened xs ys e f

-- outcomes of requests, and of more
outcomes_on : (deed : Deed) (own : Option ℕ) (now : ℕ) (ps qs : List (List ℕ)) (os rs : List (Option (List ℕ))) (a b c : Known) → Outcomes deed own control_name now ps os a b
    → Outcomes deed own control_name now qs rs b c → Outcomes deed own control_name now (ps ++ qs) (os ++ rs) a c
outcomes_on deed own now [] qs [] rs a b c early late = subst (λ (k : Known). Outcomes deed own control_name now qs rs k c) early late
outcomes_on deed own now [] qs (o ∷ os) rs a b c early late = absurd early
outcomes_on deed own now (p ∷ ps) qs [] rs a b c early late = absurd early
outcomes_on deed own now (p ∷ ps) qs (o ∷ os) rs a b c early late = (early.0, early.1, outcomes_on deed own now ps qs os rs early.0 b c early.2 late)

-- as many outcomes as requests
pub outcomes_count : (deed : Deed) (own : Option ℕ) (name : List ℕ) (now : ℕ) (ps : List (List ℕ)) (os : List (Option (List ℕ))) (a b : Known) → Outcomes deed own name now ps os a b
    → length os ≡ length ps
outcomes_count deed own name now [] [] a b o = refl
outcomes_count deed own name now [] (x ∷ os) a b o = absurd o
outcomes_count deed own name now (p ∷ ps) [] a b o = absurd o
outcomes_count deed own name now (p ∷ ps) (x ∷ os) a b o = ap suc (outcomes_count deed own name now ps os o.0 b o.2)

-- the lines that aren't empty, of one line and others
filled_first : (line : List ℕ) (lines : List (List ℕ)) → filled (line ∷ lines) ≡ filled (line ∷ []) ++ filled lines
filled_first line lines = filter-append (λ (l : List ℕ). not (is_empty l)) (line ∷ []) lines

-- one line, which isn't empty
pub control_replied : (deed : Deed) (own : Option ℕ) (now : ℕ) (line : List ℕ) (old new : Known) (log log2 : Option (List Happening)) (a : Answered) → is_empty line ≡ false
    → (Opens a → ⊥) → AnswersOne deed a (asked own control_name now line) old new log log2
    → RepliesEach deed (reply_for a) own control_name now (filled (line ∷ [])) old new log log2
control_replied deed own now [] old new log log2 a full none one = absurd (differ full)
  where
    differ : true ≡ false → ⊥
    differ f = cc
control_replied deed own now (b ∷ bs) old new log log2 answered.Line full none one = (Some one.0 ∷ [], (new, one.1, refl), refl, one.2)
control_replied deed own now (b ∷ bs) old new log log2 (answered.Opened session epoch) full none one = absurd (none (session, epoch, refl))
control_replied deed own now (b ∷ bs) old new log log2 answered.WriteFault full none one = ([], one.0, lit< tt, one.1, one.2)
control_replied deed own now (b ∷ bs) old new log log2 answered.NoMemory full none one = ([], [], lit< tt, inl refl, one)

-- a control request opens no stream
pub control_opens_none : is_opening control_name ≡ true → ⊥
control_opens_none e = cc

module _ (deed : Deed) (own : Option ℕ) (now : ℕ) (params : List (List ℕ)) (old : Known) (log : Option (List Happening)) where
  -- before the first
  pub none_yet : Replying deed own now params params old old log log
  none_yet = record { first = []; outs = []; are = refl; outcomes = refl; none = refl; logs = logs_nothing log }

  -- one line more
  more_line : (lines left : List (List ℕ)) (mid new : Known) (log1 log2 : Option (List Happening))
      → Replying deed own now params (filled lines) old mid log log1 → RepliesLine deed replied.All own now lines left mid new log1 log2
      → Replying deed own now params (filled left) old new log log2
  more_line lines left mid new log1 log2 r l =
      record {
        first = r.first ++ filled (l.line ∷ []);
        outs = r.outs ++ l.replies.0;
        are = r.are ∙ (ap (λ (ls : List (List ℕ)). r.first ++ filled ls) l.are
            ∙ (ap (λ (ls : List (List ℕ)). r.first ++ ls) (filled_first l.line left) ∙ sym (append_assoc r.first (filled (l.line ∷ [])) (filled left))));
        outcomes = outcomes_on deed own now r.first (filled (l.line ∷ [])) r.outs l.replies.0 old mid new r.outcomes l.replies.1;
        none = none_opened r.outs l.replies.0 r.none l.replies.2;
        logs = subst (λ (hs : List Happening). Logs log log2 hs) (sym (lines_on r.outs l.replies.0)) (logs_on log log1 log2 (lines_in r.outs) (lines_in l.replies.0) r.logs l.replies.3);
      }

  pub one_more_line : (e : Replied) (lines left : List (List ℕ)) (mid new : Known) (log1 log2 : Option (List Happening)) → e ≡ replied.All
      → Replying deed own now params (filled lines) old mid log log1 → RepliesLine deed e own now lines left mid new log1 log2
      → Replying deed own now params (filled left) old new log log2
  one_more_line e lines left mid new log1 log2 all r l =
      more_line lines left mid new log1 log2 r (subst (λ (x : Replied). RepliesLine deed x own now lines left mid new log1 log2) all l)

  -- a part of the answers to one line more
  part_more : (lines left : List (List ℕ)) (mid : Known) (log1 log2 : Option (List Happening)) (line : List ℕ) → lines ≡ line ∷ left
      → Replying deed own now params (filled lines) old mid log log1 → RepliedPart (length (filled (line ∷ []))) log1 log2 → RepliedPart (length params) log log2
  part_more lines left mid log1 log2 line are r (outs, part, less, is, logs) =
      let count : length r.outs ≡ length r.first = outcomes_count deed own control_name now r.first r.outs old mid r.outcomes in
      let whole : length params ≡ length r.first + (length (filled (line ∷ [])) + length (filled left)) =
      ap (λ (ls : List (List ℕ)). length ls) (r.are ∙ ap (λ (ls : List (List ℕ)). r.first ++ filled ls) are ∙ ap (λ (ls : List (List ℕ)). r.first ++ ls) (filled_first line left))
      ∙ (length-append r.first (filled (line ∷ []) ++ filled left) ∙ ap (λ (n : ℕ). length r.first + n) (length-append (filled (line ∷ [])) (filled left))) in (
        r.outs ++ outs,
        part,
        omega (arith, less, count, whole, length-append r.outs outs),
        is,
        subst (λ (hs : List Happening). Logs log log2 hs) (sym (append_assoc (lines_in r.outs) (lines_in outs) part) ∙ ap (λ (hs : List Happening). hs ++ part) (sym (lines_on r.outs outs)))
            (logs_on log log1 log2 (lines_in r.outs) (lines_in outs ++ part) r.logs logs),
      )

  pub stopped_at : (e : Replied) (lines left : List (List ℕ)) (mid new : Known) (log1 log2 : Option (List Happening)) → (e ≡ replied.All → ⊥)
      → Replying deed own now params (filled lines) old mid log log1 → RepliesLine deed e own now lines left mid new log1 log2
      → RepliesEach deed e own control_name now params old new log log2
  stopped_at replied.All lines left mid new log1 log2 other r l = absurd (other refl)
  stopped_at replied.WriteFault lines left mid new log1 log2 other r l = part_more lines left mid log1 log2 l.line l.are r l.replies
  stopped_at replied.NoMemory lines left mid new log1 log2 other r l = part_more lines left mid log1 log2 l.line l.are r l.replies

  -- after the last
  pub all_replied : (new : Known) (log2 : Option (List Happening)) → Replying deed own now params [] old new log log2
      → RepliesEach deed replied.All own control_name now params old new log log2
  all_replied new log2 r =
      (r.outs, subst (λ (ps : List (List ℕ)). Outcomes deed own control_name now ps r.outs old new) (sym (r.are ∙ append-nil r.first)) r.outcomes, r.none, r.logs)

-- none at all
pub no_lines : (deed : Deed) (own : Option ℕ) (now : ℕ) (k : Known) (log : Option (List Happening)) → RepliesEach deed replied.All own control_name now (filled []) k k log log
no_lines deed own now k log = ([], refl, refl, logs_nothing log)

-- where all was answered no put failed
pub causes_all : (r : Replied) (f g : ℕ) → r ≡ replied.All → CausesReplied r f g → g ≡ f
causes_all r f g all cause = subst (λ (x : Replied). CausesReplied x f g) all cause

-- lines of which the first one is empty, or isn't
pub filled_blank : (line : List ℕ) (lines : List (List ℕ)) → is_empty line ≡ true → filled (line ∷ lines) ≡ filled lines
filled_blank [] lines e = refl
filled_blank (b ∷ bs) lines e = absurd (differ e)
  where
    differ : false ≡ true → ⊥
    differ f = cc

pub filled_full : (line : List ℕ) (lines : List (List ℕ)) → is_empty line ≡ false → is_empty (filled (line ∷ lines)) ≡ false
filled_full [] lines e = absurd (differ e)
  where
    differ : true ≡ false → ⊥
    differ f = cc
filled_full (b ∷ bs) lines e = refl
