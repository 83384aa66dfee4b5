-- A feed from one read to the next.
use Rattle.std.proofs.Common.{◌≡◌, ℕ, List, [], ◌++◌, refl, sym, ◌∙◌, ap, subst, append-nil, arith}
use Rattle.std.specs.Prelude.{Option, None, Some}
use Rattle.std.specs.Io.KnownBytes.{Consumes, Appends, Keeps}
use Rattle.ls_outside.specs.Pipes.{Holding, Giving}
use Rattle.ls_outside.proofs.Bytes.{consumes_on}
use Rattle.ls_event.specs.declared.item.ItemDef.{ItemDef}
use Rattle.ls_live.specs.Live.{Pass}
use Rattle.ls_feed.specs.declared.feed.Fed.{Fed}
use Rattle.ls_feed.specs.declared.feed.Fed.TheVariants as fed
use Rattle.ls_feed.specs.declared.report.FeedEnd.{FeedEnd}
use Rattle.ls_feed.specs.declared.report.FeedEnd.TheVariants as end
use Rattle.ls_feed.specs.Replies.{texts_of}
use Rattle.ls_feed.specs.Serving.{Served}
use Rattle.ls_feed.specs.Feeding.{KeptFeed, Stands, Ends, Goes, end_at, IsReady}
use Rattle.ls_feed.proofs.Going.{ends_so, all_answered}

-- the half of a pipe that was left
pub same_sink : (a b : Holding) (h h' : Option (List ℕ)) (f f' : ℕ) → a ≡ record { held = h; faults = f } → b ≡ record { held = h'; faults = f' }
    → b ≡ a → (h' ≡ h) × (f' ≡ f)
same_sink a b h h' f f' p q e = let all = sym q ∙ e ∙ p in (ap (λ (x : Holding). x.held) all, ap (λ (x : Holding). x.faults) all)

pub same_source : (a b : Giving) (u u' : Option (List ℕ)) (f f' w w' : ℕ) → a ≡ record { unread = u; faults = f; waits = w }
    → b ≡ record { unread = u'; faults = f'; waits = w' } → b ≡ a → (u' ≡ u) × (f' ≡ f)
same_source a b u u' f f' w w' p q e = let all = sym q ∙ e ∙ p in (ap (λ (x : Giving). x.unread) all, ap (λ (x : Giving). x.faults) all)

pub unread_kept : (left : Option (List ℕ)) → Consumes left left []
unread_kept None = tt
unread_kept (Some xs) = refl

pub consumed_kept : (l m n : Option (List ℕ)) (x : List ℕ) → Consumes l m x → Keeps m n → Consumes l n x
consumed_kept None m n x c k = tt
consumed_kept (Some l) None n x c k = absurd c
consumed_kept (Some l) (Some m) None x c k = k
consumed_kept (Some l) (Some m) (Some n) x c k = c ∙ ap (λ t. x ++ t) (sym k)

held_none : (held : Option (List ℕ)) → Appends held held []
held_none None = tt
held_none (Some h) = sym (append-nil h)

-- a feed begins
pub stands_first : (items : List ItemDef) (k : KeptFeed) (held : Option (List ℕ)) → k ≡ record { feeder = record { adapter = None; passes = [] }; carry = [] }
    → Stands items k [] held held
stands_first items k held is = subst (λ (x : KeptFeed). Stands items x [] held held) (sym is) (record {
  lines = [];
  are = record { text = refl; each = tt };
  wrote = record { replies = []; answers = (refl, record { none = refl; unseen = refl }); appends = held_none held };
})

pub ready_first : (items : List ItemDef) (k : KeptFeed) → k ≡ record { feeder = record { adapter = None; passes = [] }; carry = [] } → IsReady items k
ready_first items k is = subst (λ (x : KeptFeed). IsReady items x) (sym is) (record { feeder = refl; plain = tt; short = omega arith })

-- a feed between two reads: what was read so far, whose lines are answered
pub record Between (items : List ItemDef) (k : KeptFeed) (left left' held held' : Option (List ℕ)) : Type 0 where
  pub read : List ℕ
  pub consumes : Consumes left left' read
  pub stands : Stands items k read held held'
  pub ready : IsReady items k

pub between_first : (items : List ItemDef) (k : KeptFeed) (left held : Option (List ℕ)) → k ≡ record { feeder = record { adapter = None; passes = [] }; carry = [] }
    → Between items k left left held held
between_first items k left held is = record {
  read = [];
  consumes = unread_kept left;
  stands = stands_first items k held is;
  ready = ready_first items k is;
}

-- nothing was read
pub between_kept : (items : List ItemDef) (k : KeptFeed) (l0 l1 l2 h0 h1 h2 : Option (List ℕ)) → Between items k l0 l1 h0 h1 → Keeps l1 l2 → h2 ≡ h1
    → Between items k l0 l2 h0 h2
between_kept items k l0 l1 l2 h0 h1 h2 b kept same = record {
  read = b.read;
  consumes = consumed_kept l0 l1 l2 b.read b.consumes kept;
  stands = subst (λ h. Stands items k b.read h0 h) (sym same) b.stands;
  ready = b.ready;
}

-- a piece was taken; writing left what is unread
pub between_on : (items : List ItemDef) (k k' : KeptFeed) (c : List ℕ) (l0 l1 l2 l3 h0 h1 h2 h3 : Option (List ℕ)) → Between items k l0 l1 h0 h1
    → Consumes l1 l2 c → h2 ≡ h1 → l3 ≡ l2
    → ((read : List ℕ) (held : Option (List ℕ)) → Stands items k read held h2 → Goes items fed.All k' (read ++ c) held h3) → IsReady items k'
    → Between items k' l0 l3 h0 h3
between_on items k k' c l0 l1 l2 l3 h0 h1 h2 h3 b took same left goes ready = record {
  read = b.read ++ c;
  consumes = subst (λ l. Consumes l0 l (b.read ++ c)) (sym left) (consumes_on l0 l1 l2 b.read c b.consumes took);
  stands = goes b.read h0 (subst (λ h. Stands items k b.read h0 h) (sym same) b.stands);
  ready = ready;
}

-- a feed ends in a piece
pub served_stopped : (items : List ItemDef) (a : Fed) (k k' : KeptFeed) (c : List ℕ) (l0 l1 l2 l3 h0 h1 h2 h3 : Option (List ℕ)) → (a ≡ fed.All → ⊥)
    → Between items k l0 l1 h0 h1 → Consumes l1 l2 c → h2 ≡ h1 → l3 ≡ l2
    → ((read : List ℕ) (held : Option (List ℕ)) → Stands items k read held h2 → Goes items a k' (read ++ c) held h3)
    → Served items (end_at a) l0 l3 h0 h3 k'.feeder.passes
served_stopped items a k k' c l0 l1 l2 l3 h0 h1 h2 h3 n b took same left goes =
    let e : Ends items (end_at a) k'.feeder.passes (b.read ++ c) h0 h3 =
    ends_so items a k' (b.read ++ c) h0 h3 n (goes b.read h0 (subst (λ h. Stands items k b.read h0 h) (sym same) b.stands)) in
    record {
      read = b.read ++ c;
      written = e.written;
      consumes = subst (λ l. Consumes l0 l (b.read ++ c)) (sym left) (consumes_on l0 l1 l2 b.read c b.consumes took);
      appends = e.appends;
      outcome = e.outcome;
    }

-- a feed ends between two reads
pub served_closed : (items : List ItemDef) (k : KeptFeed) (l0 l1 h0 h1 : Option (List ℕ)) → Between items k l0 l1 h0 h1
    → Served items end.Closed l0 l1 h0 h1 k.feeder.passes
served_closed items k l0 l1 h0 h1 b = record {
  read = b.read;
  written = texts_of b.stands.wrote.replies;
  consumes = b.consumes;
  appends = b.stands.wrote.appends;
  outcome = all_answered items k b.read h0 h1 b.ready b.stands;
}

pub served_stop : (items : List ItemDef) (k : KeptFeed) (l0 l1 h0 h1 : Option (List ℕ)) → Between items k l0 l1 h0 h1
    → Served items end.Stopped l0 l1 h0 h1 k.feeder.passes
served_stop items k l0 l1 h0 h1 b = record {
  read = b.read;
  written = texts_of b.stands.wrote.replies;
  consumes = b.consumes;
  appends = b.stands.wrote.appends;
  outcome = all_answered items k b.read h0 h1 b.ready b.stands;
}

pub served_faulted : (items : List ItemDef) (k : KeptFeed) (l0 l1 h0 h1 : Option (List ℕ)) → Between items k l0 l1 h0 h1
    → Served items end.ReadFault l0 l1 h0 h1 k.feeder.passes
served_faulted items k l0 l1 h0 h1 b = record {
  read = b.read;
  written = texts_of b.stands.wrote.replies;
  consumes = b.consumes;
  appends = b.stands.wrote.appends;
  outcome = all_answered items k b.read h0 h1 b.ready b.stands;
}

pub not_closed : (a : Fed) → (a ≡ fed.All → ⊥) → end_at a ≡ end.Closed → ⊥
not_closed fed.All n e = n refl
not_closed fed.BadHello n e = cc e
not_closed fed.LongLine n e = cc e
not_closed fed.WriteFault n e = cc e
not_closed fed.NoMemory n e = cc e

pub not_read_fault : (a : Fed) → end_at a ≡ end.ReadFault → ⊥
not_read_fault fed.All e = cc e
not_read_fault fed.BadHello e = cc e
not_read_fault fed.LongLine e = cc e
not_read_fault fed.WriteFault e = cc e
not_read_fault fed.NoMemory e = cc e

pub not_stopped : (a : Fed) → end_at a ≡ end.Stopped → ⊥
not_stopped fed.All e = cc e
not_stopped fed.BadHello e = cc e
not_stopped fed.LongLine e = cc e
not_stopped fed.WriteFault e = cc e
not_stopped fed.NoMemory e = cc e

pub write_fault : (a : Fed) → end_at a ≡ end.WriteFault → a ≡ fed.WriteFault
write_fault fed.All e = absurd (cc e)
write_fault fed.BadHello e = absurd (cc e)
write_fault fed.LongLine e = absurd (cc e)
write_fault fed.WriteFault e = refl
write_fault fed.NoMemory e = absurd (cc e)

-- the report tells it
pub served_as : (items : List ItemDef) (e e' : FeedEnd) (l0 l1 h0 h1 : Option (List ℕ)) (ps ps' : List (Option Pass)) → e' ≡ e → ps' ≡ ps
    → Served items e l0 l1 h0 h1 ps → Served items e' l0 l1 h0 h1 ps'
served_as items e e' l0 l1 h0 h1 ps ps' is same s =
    subst (λ (x : FeedEnd). Served items x l0 l1 h0 h1 ps') (sym is) (subst (λ (x : List (Option Pass)). Served items e l0 l1 h0 h1 x) (sym same) s)
