-- What came of a connection, whole.
use Rattle.std.proofs.Common.{◌≡◌, ◌≤◌, ◌⊎◌, ◌+◌, ℕ, List, [], ◌++◌, inl, inr, length, take, drop, take-append-drop, Bool, Option, refl, sym, ap, subst, ◌∙◌, arith}
use Rattle.std.proofs.lemmas.List.{length-drop, length-take-le}
use Rattle.std.specs.Io.KnownBytes.{Appends, Consumes}
use Rattle.std.proofs.KnownBytes.{Appends-nil}
use Rattle.ls_outside.specs.Causes.{Rose, RoseBy}
use mathlib.Core.List.{IsPrefix}
use Rattle.ls_outside.specs.Pipes.{Giving, Holding}
use Rattle.ls_register.specs.Deeds.{Deed}
use Rattle.ls_register.specs.declared.made.Made.{Made}
use Rattle.ls_http.specs.Replies.{refusal_text, upgrade_text}
use Rattle.ls_http.specs.declared.head.Head.TheVariants as head
use Rattle.ls_ws.specs.Accept.{accept_of}
use Rattle.ls_conn.specs.Acting.{Known, known}
use Rattle.ls_conn.specs.declared.ended.ConnEnd.{ConnEnd}
use Rattle.ls_conn.specs.declared.ended.ConnEnd.TheVariants as end
use Rattle.ls_conn_http.specs.Bodies.{IsReply}
use Rattle.ls_conn_http.specs.Reading.{BeginsWith, HasHead, HasStatus, IsWhole, ReadsHandshake, Unserved, WasUpgraded}
use Rattle.ls_conn_http.specs.Replying.{RepliesBy, WritesRefusal}
use Rattle.ls_conn_http.specs.Serving.{Outcome, Served, Switched, Unanswered}
use Rattle.ls_conn.specs.declared.ended.TheConstants.{MOST_IDLES}
use Rattle.ls_conn_http.specs.Taking.{Counts, Reads, StopsReading}

-- what reads leave of a pipe
pub same_sink : (a b : Holding) (h h' : Option (List ℕ)) (f f' : ℕ) → a ≡ record { held = h; faults = f } → b ≡ record { held = h'; faults = f' } → b ≡ a → (h' ≡ h) × (f' ≡ f)
same_sink a b h h' f f' p q e = let all = sym q ∙ e ∙ p in (ap (λ (x : Holding). x.held) all, ap (λ (x : Holding). x.faults) all)

-- all that was read is kept
pub read_all : (left left2 : Option (List ℕ)) (read : List ℕ) → Reads left left2 [] read → Consumes left left2 read
read_all left left2 read r = subst (Consumes left left2) (sym r.are) r.consumes

pub reads_from : (left left2 : Option (List ℕ)) (x read : List ℕ) → x ≡ [] → Reads left left2 x read → Reads left left2 [] read
reads_from left left2 x read none r = subst (λ (y : List ℕ). Reads left left2 y read) none r

pub rose_from : (f g h : ℕ) → g ≡ f → Rose g h → Rose f h
rose_from f g h same r = subst (λ (k : ℕ). Rose k h) same r

-- a request that came whole
body_long : (start size : ℕ) (read : List ℕ) → start + size ≤ length read → length (take size (drop start read)) ≡ size
body_long start size read fits = length-take-le size (drop start read) (omega (arith, fits, length-drop start read))

pub whole_is : (read name : List ℕ) (version : Bool) (start size : ℕ) → HasHead read name version start size → start + size ≤ length read
    → IsWhole read name version (take size (drop start read))
whole_is read name version start size has fits =
    let long = body_long start size read fits in
    record {
      len = start;
      head_is = subst (λ (n : ℕ). HasHead read name version start n) (sym long) has;
      fits = subst (λ (n : ℕ). start + n ≤ length read) (sym long) fits;
      body_is = ap (λ (n : ℕ). take n (drop start read)) (sym long);
    }

-- a reply that was written whole, in part or not at all
by_reply : (deed : Deed) (e : ConnEnd) (read name : List ℕ) (version : Bool) (body : List ℕ) (register : List Made) (k : Known) (held held2 : Option (List ℕ)) → IsWhole read name version body
    → RepliesBy e held held2 (λ whole text. IsReply deed whole name version body text (known register []) k)
    → (written : List ℕ) × Appends held held2 written × Outcome deed e read written k
by_reply deed end.Served read name version body register k held held2 request r =
    (r.0, r.2, record { name = name; version = version; body = body; request = request; register = register; reply = r.1 })
by_reply deed (end.Refused status) read name version body register k held held2 request r = absurd r
by_reply deed end.PeerLeft read name version body register k held held2 request r = absurd r
by_reply deed end.TooSlow read name version body register k held held2 request r = absurd r
by_reply deed end.ReadFault read name version body register k held held2 request r = absurd r
by_reply deed end.WriteFault read name version body register k held held2 request r = (
  r.1,
  r.4,
  inr (record {
    text = r.0;
    replied = record { name = name; version = version; body = body; request = request; register = register; reply = r.2 };
    part = r.3;
  }),
)
by_reply deed end.Stopped read name version body register k held held2 request r = (
  r.1,
  r.4,
  inr (record {
    text = r.0;
    replied = record { name = name; version = version; body = body; request = request; register = register; reply = r.2 };
    part = r.3;
  }),
)
by_reply deed end.NoMemory read name version body register k held held2 request (inl none) = ([], none, inl refl)
by_reply deed end.NoMemory read name version body register k held held2 request (inr r) = (
  r.1,
  r.4,
  inr (record {
    text = r.0;
    replied = record { name = name; version = version; body = body; request = request; register = register; reply = r.2 };
    part = r.3;
  }),
)

pub served_reply : (deed : Deed) (e : ConnEnd) (read name : List ℕ) (version : Bool) (start size : ℕ) (register : List Made) (k : Known) (unread left held mid held2 : Option (List ℕ))
    → Reads unread left [] read → mid ≡ held → HasHead read name version start size → start + size ≤ length read
    → RepliesBy e mid held2 (λ whole text. IsReply deed whole name version (take size (drop start read)) text (known register []) k) → Served deed e unread held held2 k
served_reply deed e read name version start size register k unread left held mid held2 reads same has fits r =
    let w = by_reply deed e read name version (take size (drop start read)) register k mid held2 (whole_is read name version start size has fits) r in
    record {
      read = read;
      left = left;
      consumes = read_all unread left read reads;
      written = w.0;
      appends = subst (λ (h : Option (List ℕ)). Appends h held2 w.0) same w.1;
      outcome = w.2;
    }

-- a refusal that was written whole, in part or not at all
by_refusal : (deed : Deed) (e : ConnEnd) (read : List ℕ) (status : ℕ) (k : Known) (held held2 : Option (List ℕ)) → HasStatus read status → WritesRefusal e status held held2
    → (written : List ℕ) × Appends held held2 written × Outcome deed e read written k
by_refusal deed end.Served read status k held held2 has w = absurd w
by_refusal deed (end.Refused s) read status k held held2 has w =
    (refusal_text status, w.1, (subst (HasStatus read) (sym w.0) has, ap refusal_text (sym w.0)))
by_refusal deed end.PeerLeft read status k held held2 has w = absurd w
by_refusal deed end.TooSlow read status k held held2 has w = absurd w
by_refusal deed end.ReadFault read status k held held2 has w = absurd w
by_refusal deed end.WriteFault read status k held held2 has w = (w.0, w.2, inl (record { status = status; has = has; part = w.1 }))
by_refusal deed end.Stopped read status k held held2 has w = absurd w
by_refusal deed end.NoMemory read status k held held2 has w = ([], w, inl refl)

pub served_refusal : (deed : Deed) (e : ConnEnd) (read : List ℕ) (status : ℕ) (k : Known) (unread left held mid held2 : Option (List ℕ)) → Reads unread left [] read → mid ≡ held
    → HasStatus read status → WritesRefusal e status mid held2 → Served deed e unread held held2 k
served_refusal deed e read status k unread left held mid held2 reads same has r =
    let w = by_refusal deed e read status k mid held2 has r in
    record {
      read = read;
      left = left;
      consumes = read_all unread left read reads;
      written = w.0;
      appends = subst (λ (h : Option (List ℕ)). Appends h held2 w.0) same w.1;
      outcome = w.2;
    }

-- no request came whole, and nothing was written
by_none : (deed : Deed) (e : ConnEnd) (read : List ℕ) (k : Known) → ((status : ℕ) → e ≡ end.Refused status → ⊥) → Unserved e read → Outcome deed e read [] k
by_none deed end.Served read k other u = absurd u
by_none deed (end.Refused status) read k other u = absurd (other status refl)
by_none deed end.PeerLeft read k other u = record { short = u; none = refl }
by_none deed end.TooSlow read k other u = record { short = u; none = refl }
by_none deed end.ReadFault read k other u = record { short = u; none = refl }
by_none deed end.WriteFault read k other u = absurd u
by_none deed end.Stopped read k other u = inl (record { short = u; none = refl })
by_none deed end.NoMemory read k other u = inl refl

pub served_none : (deed : Deed) (e : ConnEnd) (read : List ℕ) (k : Known) (unread left held held2 : Option (List ℕ)) → Reads unread left [] read → held2 ≡ held
    → ((status : ℕ) → e ≡ end.Refused status → ⊥) → Unserved e read → Served deed e unread held held2 k
served_none deed e read k unread left held held2 reads same other u =
    record {
      read = read;
      left = left;
      consumes = read_all unread left read reads;
      written = [];
      appends = subst (λ (h : Option (List ℕ)). Appends held h []) (sym same) (Appends-nil held);
      outcome = by_none deed e read k other u;
    }

-- memory was refused before anything was written
pub served_starved : (deed : Deed) (e : ConnEnd) (read : List ℕ) (k : Known) (unread left held held2 : Option (List ℕ)) → e ≡ end.NoMemory → Reads unread left [] read → held2 ≡ held
    → Served deed e unread held held2 k
served_starved deed e read k unread left held held2 is reads same =
    subst (λ (x : ConnEnd). Served deed x unread held held2 k) (sym is)
    (record {
      read = read;
      left = left;
      consumes = read_all unread left read reads;
      written = [];
      appends = subst (λ (h : Option (List ℕ)). Appends held h []) (sym same) (Appends-nil held);
      outcome = inl refl;
    })

-- why no request came whole
pub stops_as : (r e x : ConnEnd) (idles : ℕ) (left : Option (List ℕ)) (f g until tick : ℕ) → r ≡ e → r ≡ x → StopsReading e idles left f g until tick → StopsReading x idles left f g until tick
stops_as r e x idles left f g until tick same is stops = subst (λ (y : ConnEnd). StopsReading y idles left f g until tick) (sym same ∙ is) stops

rose_none : (w : ℕ) → RoseBy 0 w w
rose_none w = omega arith

pub slow_is : (i j w v f g : ℕ) → Counts i j w v f g → i ≡ 0 → j ≡ MOST_IDLES → RoseBy MOST_IDLES w v
slow_is i j w v f g c none all = subst (λ (n : ℕ). RoseBy n w v) all (c.counted w (subst (λ (n : ℕ). RoseBy n w w) (sym none) (rose_none w)))

-- a handshake that was read, and the bytes past it
pub reads_handshake : (unread left : Option (List ℕ)) (read key rest : List ℕ) (start : ℕ) → Reads unread left [] read → BeginsWith read (head.Upgrade key) start → start ≤ length read
    → rest ≡ drop start read → ReadsHandshake unread left key rest
reads_handshake unread left read key rest start reads has fits is =
    let whole = ap (λ (x : List ℕ). take start read ++ x) is ∙ take-append-drop start read in
    record {
      first = take start read;
      consumes = subst (Consumes unread left) (sym whole) (read_all unread left read reads);
      begins = subst (λ (n : ℕ). BeginsWith (take start read ++ rest) (head.Upgrade key) n) (sym (length-take-le start read fits))
          (subst (λ (xs : List ℕ). BeginsWith xs (head.Upgrade key) start) (sym whole) has);
    }

pub upgraded : (unread left : Option (List ℕ)) (key rest : List ℕ) → ReadsHandshake unread left key rest → WasUpgraded unread
upgraded unread left key rest came = (left, came.first ++ rest, key, length came.first, came.consumes, came.begins)

-- writes leave a pipe's unread bytes
pub same_unread : (a b : Giving) (u u' : Option (List ℕ)) (f f' w w' : ℕ) → a ≡ record { unread = u; faults = f; waits = w } → b ≡ record { unread = u'; faults = f'; waits = w' } → b ≡ a → u' ≡ u
same_unread a b u u' f f' w w' p q e = ap (λ (x : Giving). x.unread) (sym q ∙ e ∙ p)

-- a handshake's reply, written whole or in part
pub switched : (unread left left2 held mid held2 : Option (List ℕ)) (key key2 rest : List ℕ) → ReadsHandshake unread left key rest → left2 ≡ left → mid ≡ held → key2 ≡ key
    → Appends mid held2 (upgrade_text (accept_of key2)) → Switched unread left2 held held2 rest
switched unread left left2 held mid held2 key key2 rest came same mids keys wrote =
    record {
      key = key;
      came = subst (λ (l : Option (List ℕ)). ReadsHandshake unread l key rest) (sym same) came;
      appends = subst (λ (h : Option (List ℕ)). Appends h held2 (upgrade_text (accept_of key))) mids
          (subst (λ (k : List ℕ). Appends mid held2 (upgrade_text (accept_of k))) keys wrote);
    }

pub unanswered : (r e : ConnEnd) (unread left left2 held mid held2 : Option (List ℕ)) (key key2 rest : List ℕ) → r ≡ e → ReadsHandshake unread left key rest → left2 ≡ left → mid ≡ held
    → key2 ≡ key → (part : List ℕ) × IsPrefix part (upgrade_text (accept_of key2)) × Appends mid held2 part → (e ≡ end.WriteFault) ⊎ (e ≡ end.NoMemory)
    → Unanswered r unread left2 held held2
unanswered r e unread left left2 held mid held2 key key2 rest ends came same mids keys wrote why =
    record {
      key = key;
      rest = rest;
      came = subst (λ (l : Option (List ℕ)). ReadsHandshake unread l key rest) (sym same) came;
      written = wrote.0;
      appends = subst (λ (h : Option (List ℕ)). Appends h held2 wrote.0) mids wrote.2;
      part = subst (λ (k : List ℕ). IsPrefix wrote.0 (upgrade_text (accept_of k))) keys wrote.1;
      why = subst (λ (x : ConnEnd). (x ≡ end.WriteFault) ⊎ (x ≡ end.NoMemory)) (sym ends) why;
    }

-- a count that rose since a later moment
pub rose_since : (n a b c : ℕ) → a ≤ b → RoseBy n b c → RoseBy n a c
rose_since n a b c le rose = omega (arith, le, rose)
