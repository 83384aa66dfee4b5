-- The reply that is a stream.
use Rattle.std.proofs.Common.{◌≡◌, ◌≤◌, ◌⊎◌, arith, ℕ, List, [], ◌∷◌, ◌++◌, inl, inr, Bool, true, false, Option, refl, sym, ap, subst, ◌∙◌}
use Rattle.std.specs.Io.KnownBytes.{Appends}
use mathlib.Core.List.{IsPrefix}
use Rattle.ls_http.specs.Replies.{stream_head}
use Rattle.ls_register.specs.declared.told.Told.{Told}
use Rattle.ls_told.specs.Seen.{Testified}
use Rattle.ls_told.specs.Requests.{HasBound, OnlyLater}
use Rattle.ls_told.specs.Turns.{HasEnded, IsSpent, IsUnbound}
use Rattle.ls_conn.specs.declared.report.StreamEnd.{StreamEnd}
use Rattle.ls_conn.specs.declared.report.StreamEnd.TheVariants as stream
use Rattle.ls_conn.specs.Streaming.{AreGiven, EndsBy, NoneLoops, lines_of}
use Rattle.ls_conn.specs.Lasting.{HasLast, IsLost, LastBecomes, OpenedOne}
use Rattle.ls_conn.proofs.Lasts.{last_holds}
use Rattle.ls_conn.proofs.Given.{lines_see, number_sees}
use Rattle.ls_conn.specs.declared.acted.Acted.{Acted}
use Rattle.ls_conn.specs.declared.acted.Acted.TheVariants as acted
use Rattle.ls_conn.specs.Acting.{Acts, Known}
use Rattle.ls_register.specs.Deeds.{Deed}
use Rattle.ls_conn_http.specs.Bodies.{Grows, IsStream, IsStreamOf, OpeningReply, answer_text, asked, is_own_end}
use Rattle.ls_conn_http.proofs.Answering.{replies_as, replies_by}
use Rattle.ls_conn_http.specs.Opening.{SentOver, conn_end, is_put, loses}
use Rattle.ls_conn.specs.declared.ended.ConnEnd.{ConnEnd}
use Rattle.ls_conn.specs.declared.ended.ConnEnd.TheVariants as end
use Rattle.ls_conn_http.specs.Replying.{RepliesBy, WritesReply}
use Rattle.ls_outside.specs.Causes.{Rose}

-- a list of one ends with that one
not_cons : (xs : List Testified) (y x : Testified) → [] ≡ xs ++ x ∷ [] → ⊥
not_cons [] y x e = cc
not_cons (z ∷ xs) y x e = cc

pub one_only : (t : Testified) (front : List Testified) (x : Testified) → t ∷ [] ≡ front ++ x ∷ [] → (front ≡ []) × (x ≡ t)
one_only t [] x e = (refl, cc)
one_only t (y ∷ front) x e = absurd (not_cons front y x (let f : t ∷ [] ≡ y ∷ (front ++ x ∷ []) = e in cc))

-- the last of one is that one, and then another
pub one_becomes : (P : Testified → Testified → Type 0) (t : Testified) (ts us : List Testified) (b : LastBecomes ts us P) → ts ≡ t ∷ [] → (us ≡ b.after ∷ []) × P t b.after
one_becomes P t ts us b are =
    let one = one_only t b.front b.before (sym are ∙ b.were) in
    (b.are ∙ ap (λ (xs : List Testified). xs ++ b.after ∷ []) one.0, subst (λ (x : Testified). P x b.after) one.1 b.holds)

-- what is said by the lines of a session alone
by_lines : (P : ℕ → List Told → Type 0) (n m : ℕ) (es fs : List Told) → m ≡ n → fs ≡ es → P n es → P m fs
by_lines P n m es fs number lines p = subst (λ (k : ℕ). P k fs) (sym number) (subst (P n) (sym lines) p)

ends_later : (e : StreamEnd) (epoch : ℕ) (u v : Testified) (texts : List (List ℕ)) → v.number ≡ u.number → v.lines ≡ u.lines → EndsBy e epoch u texts → EndsBy e epoch v texts
ends_later stream.Looped epoch u v texts number lines p = p
ends_later (stream.Ended code) epoch u v texts number lines p =
    by_lines (λ (n : ℕ) (es : List Told). HasEnded n code es × NoneLoops texts) u.number v.number u.lines v.lines number lines p
ends_later (stream.Superseded e) epoch u v texts number lines p = (p.0, subst (HasBound e) (sym lines) p.1, p.2)
ends_later stream.Unbound epoch u v texts number lines p =
    by_lines (λ (n : ℕ) (es : List Told). IsUnbound n es × NoneLoops texts) u.number v.number u.lines v.lines number lines p
ends_later stream.PeerLeft epoch u v texts number lines p = p
ends_later stream.WriteFault epoch u v texts number lines p = p
ends_later stream.Stopped epoch u v texts number lines p = p
ends_later stream.Spent epoch u v texts number lines p =
    by_lines (λ (n : ℕ) (es : List Told). IsSpent n es × NoneLoops texts) u.number v.number u.lines v.lines number lines p
ends_later stream.NoMemory epoch u v texts number lines p = p

-- what was seen of a session after its stream, and after its loss
pub record SeenOf (u v : Testified) : Type 0 where
  pub number : v.number ≡ u.number
  pub lines : v.lines ≡ u.lines
  pub mine : v.mine ≡ u.mine

pub record After (u : Testified) (vs : List Testified) : Type 0 where
  pub v : Testified
  pub are : vs ≡ v ∷ []
  pub same : SeenOf u v

pub after_loss : (u : Testified) (us vs : List Testified) → us ≡ u ∷ [] → (vs ≡ us) ⊎ LastBecomes us vs OnlyLater → After u vs
after_loss u us vs are (inl same) = record { v = u; are = same ∙ are; same = record { number = refl; lines = refl; mine = refl } }
after_loss u us vs are (inr b) =
    let one = one_becomes OnlyLater u us vs b are in
    record {
      v = b.after;
      are = one.0;
      same = record {
        number = ap (λ (t : Testified). t.number) one.1.rest;
        lines = ap (λ (t : Testified). t.lines) one.1.rest;
        mine = ap (λ (t : Testified). t.mine) one.1.rest;
      };
    }

-- the text of a stream is that of its session
pub stream_is : (e : StreamEnd) (w whole : Bool) (epoch : ℕ) (held held2 : Option (List ℕ)) (t u v : Testified) → t.mine ≡ [] → (s : SentOver e whole epoch stream_head held held2 t u)
    → SeenOf u v → (w ≡ true → is_own_end e ≡ true) → (loses e ≡ true → IsLost epoch v) → IsStream w epoch v (stream_head ++ lines_of s.texts)
stream_is e w whole epoch held held2 t u v none s seen own lost =
    record {
      texts = s.texts;
      given = subst (λ (es : List Told). AreGiven es epoch v.mine s.texts) (sym seen.lines)
          (subst (λ (ps : List ℕ). AreGiven u.lines epoch ps s.texts) (sym (seen.mine ∙ s.mine ∙ ap (λ (ps : List ℕ). ps ++ s.places) none)) s.given);
      text_is = refl;
      ending = e;
      ends = ends_later e epoch u v s.texts seen.number seen.lines s.ends;
      own = own;
      lost = lost;
    }

-- what was written of a text that is this reply, by how a stream ended
by_end : (e : StreamEnd) (whole : Bool) (held held2 : Option (List ℕ)) (P : Bool → List ℕ → Type 0) (text written : List ℕ) → Appends held held2 written → IsPrefix written text
    → (whole ≡ true → is_put e ≡ true → written ≡ text) → (e ≡ stream.PeerLeft → ⊥) → ((w : Bool) → (w ≡ true → is_own_end e ≡ true) → P w text) → RepliesBy (conn_end e whole) held held2 P
by_end e false held held2 P text written appends part all left is = (text, written, is false (λ b. absurd (let f : false ≡ true = b in cc)), part, appends)
by_end stream.Looped true held held2 P text written appends part all left is = (text, is true (λ b. refl), subst (Appends held held2) (all refl refl) appends)
by_end (stream.Ended code) true held held2 P text written appends part all left is = (text, is true (λ b. refl), subst (Appends held held2) (all refl refl) appends)
by_end (stream.Superseded e) true held held2 P text written appends part all left is = (text, is true (λ b. refl), subst (Appends held held2) (all refl refl) appends)
by_end stream.Unbound true held held2 P text written appends part all left is = (text, is true (λ b. refl), subst (Appends held held2) (all refl refl) appends)
by_end stream.PeerLeft true held held2 P text written appends part all left is = absurd (left refl)
by_end stream.WriteFault true held held2 P text written appends part all left is = (text, written, is false (λ b. absurd (let f : false ≡ true = b in cc)), part, appends)
by_end stream.Stopped true held held2 P text written appends part all left is = (text, written, is false (λ b. absurd (let f : false ≡ true = b in cc)), part, appends)
by_end stream.Spent true held held2 P text written appends part all left is = (text, is true (λ b. refl), subst (Appends held held2) (all refl refl) appends)
by_end stream.NoMemory true held held2 P text written appends part all left is = inr (text, written, is false (λ b. absurd (let f : false ≡ true = b in cc)), part, appends)

pub stream_replies : (e : StreamEnd) (whole : Bool) (session epoch : ℕ) (head : List ℕ) (held held2 : Option (List ℕ)) (ts us vs : List Testified) → head ≡ stream_head
    → OpenedOne session epoch ts → LastBecomes ts us (SentOver e whole epoch head held held2) → (vs ≡ us) ⊎ LastBecomes us vs OnlyLater → (loses e ≡ true → HasLast vs (IsLost epoch)) → (e ≡ stream.PeerLeft → ⊥)
    → RepliesBy (conn_end e whole) held held2 (IsStreamOf session epoch ts vs)
stream_replies e whole session epoch head held held2 ts us vs is o b loss gone left =
    sent (subst (λ (h : List ℕ). LastBecomes ts us (SentOver e whole epoch h held held2)) is b)
  where
    sent : LastBecomes ts us (SentOver e whole epoch stream_head held held2) → RepliesBy (conn_end e whole) held held2 (IsStreamOf session epoch ts vs)
    sent b =
        let one = one_becomes (SentOver e whole epoch stream_head held held2) o.t ts us b o.are in
        let s = one.1 in
        let a = after_loss b.after us vs one.0 loss in
        by_end e whole held held2 (IsStreamOf session epoch ts vs) (stream_head ++ lines_of s.texts) s.written s.appends s.part s.all left
        (λ w own.
        record {
          was = o.t;
          told = a.v;
          were = o.are;
          are = a.are;
          number = a.same.number ∙ number_sees o.t b.after s.sees ∙ sym o.number;
          longer = subst (λ (es : List Told). IsPrefix o.t.lines es) (sym a.same.lines) (lines_see o.t b.after s.sees);
          stream = stream_is e w whole epoch held held2 o.t b.after a.v o.mine s a.same own (λ is. last_holds vs [] a.v (IsLost epoch) (gone is) a.are);
        })

-- why a connection ended so, by how its stream did
pub stopped_end : (e : StreamEnd) (w : Bool) → conn_end e w ≡ end.Stopped → e ≡ stream.Stopped
stopped_end e false is = absurd (let f : end.WriteFault ≡ end.Stopped = is in cc)
stopped_end stream.Looped true is = absurd (let f : end.Served ≡ end.Stopped = is in cc)
stopped_end (stream.Ended code) true is = absurd (let f : end.Served ≡ end.Stopped = is in cc)
stopped_end (stream.Superseded e) true is = absurd (let f : end.Served ≡ end.Stopped = is in cc)
stopped_end stream.Unbound true is = absurd (let f : end.Served ≡ end.Stopped = is in cc)
stopped_end stream.PeerLeft true is = absurd (let f : end.PeerLeft ≡ end.Stopped = is in cc)
stopped_end stream.WriteFault true is = absurd (let f : end.WriteFault ≡ end.Stopped = is in cc)
stopped_end stream.Stopped true is = refl
stopped_end stream.Spent true is = absurd (let f : end.Served ≡ end.Stopped = is in cc)
stopped_end stream.NoMemory true is = absurd (let f : end.NoMemory ≡ end.Stopped = is in cc)

pub fault_end : (e : StreamEnd) (w : Bool) → conn_end e w ≡ end.WriteFault → (w ≡ false) ⊎ (e ≡ stream.WriteFault)
fault_end e false is = inl refl
fault_end stream.Looped true is = absurd (let f : end.Served ≡ end.WriteFault = is in cc)
fault_end (stream.Ended code) true is = absurd (let f : end.Served ≡ end.WriteFault = is in cc)
fault_end (stream.Superseded e) true is = absurd (let f : end.Served ≡ end.WriteFault = is in cc)
fault_end stream.Unbound true is = absurd (let f : end.Served ≡ end.WriteFault = is in cc)
fault_end stream.PeerLeft true is = absurd (let f : end.PeerLeft ≡ end.WriteFault = is in cc)
fault_end stream.WriteFault true is = inr refl
fault_end stream.Stopped true is = absurd (let f : end.Stopped ≡ end.WriteFault = is in cc)
fault_end stream.Spent true is = absurd (let f : end.Served ≡ end.WriteFault = is in cc)
fault_end stream.NoMemory true is = absurd (let f : end.NoMemory ≡ end.WriteFault = is in cc)

pub stream_stopped : (e : StreamEnd) (w : Bool) (result : ConnEnd) (until a b : ℕ) → result ≡ conn_end e w → (e ≡ stream.Stopped → until ≤ a) → a ≤ b → result ≡ end.Stopped → until ≤ b
stream_stopped e w result until a b ends stops later is =
    let low = stops (stopped_end e w (sym ends ∙ is)) in
    omega (arith, low, later)

pub stream_fault : (e : StreamEnd) (w : Bool) (result : ConnEnd) (a b : ℕ) → result ≡ conn_end e w → (e ≡ stream.WriteFault → Rose a b) → (w ≡ false → Rose a b) → result ≡ end.WriteFault → Rose a b
stream_fault e w result a b ends fault part is = by (fault_end e w (sym ends ∙ is))
  where
    by : (w ≡ false) ⊎ (e ≡ stream.WriteFault) → Rose a b
    by (inl cut) = part cut
    by (inr failed) = fault failed

-- what a request for a session or a stream is answered, and the reply: a line, or its stream
pub line_replies : (deed : Deed) (name params : List ℕ) (now : ℕ) (old mid : Known) (answer : Acted) (text slice : List ℕ) (e : ConnEnd) (held held2 : Option (List ℕ))
    → Acts deed (asked name params now) old mid answer → Grows old mid → answer ≡ acted.Line text → slice ≡ text → WritesReply e held held2 (answer_text (slice ∷ []))
    → RepliesBy e held held2 (λ whole reply. OpeningReply deed whole name params reply old mid)
line_replies deed name params now old mid answer text slice e held held2 acts grows is same w =
    replies_by e held held2 (answer_text (slice ∷ [])) (λ whole reply. OpeningReply deed whole name params reply old mid)
    (λ whole.
    record {
      now = now;
      mid = mid;
      answer = acted.Line text;
      acts = subst (λ (a : Acted). Acts deed (asked name params now) old mid a) is acts;
      grows = grows;
      writes = (ap (λ (t : List ℕ). answer_text (t ∷ [])) same, refl);
    })
    w

pub stream_opens : (deed : Deed) (name params : List ℕ) (now : ℕ) (old mid new : Known) (answer : Acted) (session epoch : ℕ) (e : ConnEnd) (held held2 : Option (List ℕ))
    → Acts deed (asked name params now) old mid answer → Grows old mid → answer ≡ acted.Opened session epoch → new.register ≡ mid.register
    → RepliesBy e held held2 (IsStreamOf session epoch mid.seen new.seen) → RepliesBy e held held2 (λ whole reply. OpeningReply deed whole name params reply old new)
stream_opens deed name params now old mid new answer session epoch e held held2 acts grows is same r =
    replies_as e held held2 (IsStreamOf session epoch mid.seen new.seen) (λ whole reply. OpeningReply deed whole name params reply old new)
    (λ whole text stream.
    record {
      now = now;
      mid = mid;
      answer = acted.Opened session epoch;
      acts = subst (λ (a : Acted). Acts deed (asked name params now) old mid a) is acts;
      grows = grows;
      writes = (stream, same);
    })
    r
