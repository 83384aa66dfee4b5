-- Answers one after another, and parts of texts.
use Rattle.std.proofs.Common.{◌≡◌, ℕ, List, [], ◌∷◌, ◌++◌, inl, inr, take, drop, Bool, true, false, Option, refl, sym, ap, subst, ◌∙◌, append_assoc, append-nil, take-append-drop}
use Rattle.std.specs.List.{filter}
use Rattle.std.proofs.lemmas.Grind.{flat_map-append}
use Rattle.std.proofs.lemmas.List.Elements.{filter-append}
use mathlib.Core.List.{IsPrefix}
use Rattle.ls_register.specs.Deeds.{Deed}
use Rattle.ls_register.specs.declared.made.Made.{Made}
use Rattle.ls_told.specs.Seen.{Testified}
use Rattle.ls_line.specs.Lines.{text_of_line}
use Rattle.ls_record.specs.Acting.{is_opening}
use Rattle.ls_talk.specs.Lines.{line_bytes}
use Rattle.ls_conn.specs.declared.acted.Acted.{Acted}
use Rattle.ls_conn.specs.declared.acted.Acted.TheVariants as acted
use Rattle.ls_conn.specs.Acting.{Acts, Known, known}
use Rattle.ls_conn.specs.Streaming.{lines_of}
use Rattle.ls_conn_http.specs.Bodies.{Answers, Grows, IsReply, answer_text, asked, is_some_text, params_in, version_line}
use Rattle.ls_conn.specs.declared.ended.ConnEnd.{ConnEnd}
use Rattle.ls_conn.specs.declared.ended.ConnEnd.TheVariants as end
use Rattle.ls_conn_http.specs.Replying.{Answered, RepliesBy, WritesRefusal, WritesReply}

-- a part from the front
pub front_is : (n : ℕ) (xs : List ℕ) → IsPrefix (take n xs) xs
front_is n xs = (drop n xs, take-append-drop n xs)

-- one request was answered
pub answered_one : (deed : Deed) (name params : List ℕ) (now : ℕ) (old new : Known) (answer : Acted) (text lines lines2 : List ℕ) → Acts deed (asked name params now) old new answer
    → Grows old new → answer ≡ acted.Line text → lines2 ≡ lines ++ line_bytes text → Answered deed name (params ∷ []) old new lines lines2
answered_one deed name params now old new answer text lines lines2 acts grows is are =
    record {
      texts = text ∷ [];
      answers = (now, new, subst (λ (a : Acted). Acts deed (asked name params now) old new a) is acts, grows, refl);
      are = are ∙ ap (λ (x : List ℕ). lines ++ x) (sym (append-nil (line_bytes text)));
    }

-- none was
pub answered_none : (deed : Deed) (name : List ℕ) (k : Known) (lines : List ℕ) → Answered deed name [] k k lines lines
answered_none deed name k lines = record { texts = []; answers = refl; are = sym (append-nil lines) }

answers_both : (deed : Deed) (name : List ℕ) (ps qs : List (List ℕ)) (ts us : List (List ℕ)) (a b c : Known) → Answers deed name ps ts a b → Answers deed name qs us b c
    → Answers deed name (ps ++ qs) (ts ++ us) a c
answers_both deed name [] qs [] us a b c p q = subst (λ (k : Known). Answers deed name qs us k c) p q
answers_both deed name [] qs (t ∷ ts) us a b c p q = absurd p
answers_both deed name (x ∷ ps) qs [] us a b c p q = absurd p
answers_both deed name (x ∷ ps) qs (t ∷ ts) us a b c p q = (p.0, p.1, p.2, p.3, answers_both deed name ps qs ts us p.1 b c p.4 q)

pub answered_both : (deed : Deed) (name : List ℕ) (ps qs : List (List ℕ)) (a b c : Known) (lines lines2 lines3 : List ℕ) → Answered deed name ps a b lines lines2
    → Answered deed name qs b c lines2 lines3 → Answered deed name (ps ++ qs) a c lines lines3
answered_both deed name ps qs a b c lines lines2 lines3 p q =
    record {
      texts = p.texts ++ q.texts;
      answers = answers_both deed name ps qs p.texts q.texts a b c p.answers q.answers;
      are = q.are ∙ ap (λ (x : List ℕ). x ++ lines_of q.texts) p.are ∙ append_assoc lines (lines_of p.texts) (lines_of q.texts)
          ∙ ap (λ (x : List ℕ). lines ++ x) (sym (flat_map-append line_bytes p.texts q.texts));
    }

-- the requests of lines
pub answered_more : (deed : Deed) (name : List ℕ) (done : List (List ℕ)) (line : List ℕ) (a b c : Known) (lines lines2 lines3 : List ℕ) → Answered deed name (params_in done) a b lines lines2
    → Answered deed name (params_in (line ∷ [])) b c lines2 lines3 → Answered deed name (params_in (done ++ line ∷ [])) a c lines lines3
answered_more deed name done line a b c lines lines2 lines3 p q =
    subst (λ (ps : List (List ℕ)). Answered deed name ps a c lines lines3) (sym (filter-append is_some_text done (line ∷ [])))
    (answered_both deed name (params_in done) (params_in (line ∷ [])) a b c lines lines2 lines3 p q)

pub more_lines : (all here done rest : List (List ℕ)) (line : List ℕ) → all ≡ done ++ here → here ≡ line ∷ rest → all ≡ (done ++ line ∷ []) ++ rest
more_lines all here done rest line e f = e ∙ ap (λ (xs : List (List ℕ)). done ++ xs) f ∙ sym (append_assoc done (line ∷ []) rest)

-- a reply that was written, or a part of it
pub replies_by : (e : ConnEnd) (old new : Option (List ℕ)) (text : List ℕ) (P : Bool → List ℕ → Type 0) → ((w : Bool) → P w text) → WritesReply e old new text
    → RepliesBy e old new P
replies_by end.Served old new text P is w = (text, is true, w)
replies_by (end.Refused status) old new text P is w = w
replies_by end.PeerLeft old new text P is w = w
replies_by end.TooSlow old new text P is w = w
replies_by end.ReadFault old new text P is w = w
replies_by end.WriteFault old new text P is w = (text, w.0, is false, w.1, w.2)
replies_by end.Stopped old new text P is w = absurd w
replies_by end.NoMemory old new text P is w = inl w

-- and so by what is said of each
pub replies_as : (e : ConnEnd) (old new : Option (List ℕ)) (P Q : Bool → List ℕ → Type 0) → ((w : Bool) (text : List ℕ) → P w text → Q w text) → RepliesBy e old new P
    → RepliesBy e old new Q
replies_as end.Served old new P Q to r = (r.0, to true r.0 r.1, r.2)
replies_as (end.Refused status) old new P Q to r = r
replies_as end.PeerLeft old new P Q to r = r
replies_as end.TooSlow old new P Q to r = r
replies_as end.ReadFault old new P Q to r = r
replies_as end.WriteFault old new P Q to r = (r.0, r.1, to false r.0 r.2, r.3, r.4)
replies_as end.Stopped old new P Q to r = (r.0, r.1, to false r.0 r.2, r.3, r.4)
replies_as end.NoMemory old new P Q to (inl none) = inl none
replies_as end.NoMemory old new P Q to (inr r) = inr (r.0, r.1, to false r.0 r.2, r.3, r.4)

-- some ends are never those of a reply
pub no_reply_left : (e : ConnEnd) (old new : Option (List ℕ)) (P : Bool → List ℕ → Type 0) → RepliesBy e old new P → e ≡ end.PeerLeft → ⊥
no_reply_left e old new P r is = subst (λ (x : ConnEnd). RepliesBy x old new P) is r

pub no_reply_slow : (e : ConnEnd) (old new : Option (List ℕ)) (P : Bool → List ℕ → Type 0) → RepliesBy e old new P → e ≡ end.TooSlow → ⊥
no_reply_slow e old new P r is = subst (λ (x : ConnEnd). RepliesBy x old new P) is r

pub no_reply_read : (e : ConnEnd) (old new : Option (List ℕ)) (P : Bool → List ℕ → Type 0) → RepliesBy e old new P → e ≡ end.ReadFault → ⊥
no_reply_read e old new P r is = subst (λ (x : ConnEnd). RepliesBy x old new P) is r

pub no_text_stopped : (e : ConnEnd) (old new : Option (List ℕ)) (text : List ℕ) → WritesReply e old new text → e ≡ end.Stopped → ⊥
no_text_stopped e old new text w is = subst (λ (x : ConnEnd). WritesReply x old new text) is w

-- nor those of a refusal
pub no_refusal_left : (e : ConnEnd) (status : ℕ) (old new : Option (List ℕ)) → WritesRefusal e status old new → e ≡ end.PeerLeft → ⊥
no_refusal_left e status old new w is = subst (λ (x : ConnEnd). WritesRefusal x status old new) is w

pub no_refusal_slow : (e : ConnEnd) (status : ℕ) (old new : Option (List ℕ)) → WritesRefusal e status old new → e ≡ end.TooSlow → ⊥
no_refusal_slow e status old new w is = subst (λ (x : ConnEnd). WritesRefusal x status old new) is w

pub no_refusal_read : (e : ConnEnd) (status : ℕ) (old new : Option (List ℕ)) → WritesRefusal e status old new → e ≡ end.ReadFault → ⊥
no_refusal_read e status old new w is = subst (λ (x : ConnEnd). WritesRefusal x status old new) is w

pub no_refusal_stopped : (e : ConnEnd) (status : ℕ) (old new : Option (List ℕ)) → WritesRefusal e status old new → e ≡ end.Stopped → ⊥
no_refusal_stopped e status old new w is = subst (λ (x : ConnEnd). WritesRefusal x status old new) is w

-- another version of the protocol
pub version_replies : (deed : Deed) (e : ConnEnd) (held held2 : Option (List ℕ)) (name body : List ℕ) (version opening : Bool) (k : Known) → version ≡ false → opening ≡ is_opening name
    → WritesReply e held held2 (answer_text (text_of_line (version_line opening) ∷ [])) → RepliesBy e held held2 (λ whole text. IsReply deed whole name version body text k k)
version_replies deed e held held2 name body version opening k old is w =
    subst (λ (v : Bool). RepliesBy e held held2 (λ whole text. IsReply deed whole name v body text k k)) (sym old)
    (replies_by e held held2 (answer_text (text_of_line (version_line opening) ∷ [])) (λ whole text. IsReply deed whole name false body text k k)
    (λ whole. (ap (λ (o : Bool). answer_text (text_of_line (version_line o) ∷ [])) is, refl)) w)

-- the reply to a request by its name and its body, where no session was seen before
pub replies_of : (deed : Deed) (e : ConnEnd) (held held2 : Option (List ℕ)) (name name2 : List ℕ) (version : Bool) (body body2 : List ℕ) (register : List Made) (seen : List Testified) (k : Known)
    → name2 ≡ name → body2 ≡ body → seen ≡ [] → RepliesBy e held held2 (λ whole text. IsReply deed whole name2 version body2 text (known register seen) k)
    → RepliesBy e held held2 (λ whole text. IsReply deed whole name version body text (known register []) k)
replies_of deed e held held2 name name2 version body body2 register seen k names bodies none r =
    subst (λ (n : List ℕ). RepliesBy e held held2 (λ whole text. IsReply deed whole n version body text (known register []) k)) names
    (subst (λ (b : List ℕ). RepliesBy e held held2 (λ whole text. IsReply deed whole name2 version b text (known register []) k)) bodies
    (subst (λ (ts : List Testified). RepliesBy e held held2 (λ whole text. IsReply deed whole name2 version body2 text (known register ts) k)) none r))
