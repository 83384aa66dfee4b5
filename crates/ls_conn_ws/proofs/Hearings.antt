-- A message and its answers.
use Rattle.std.proofs.Common.{◌≡◌, ◌<◌, ◌⊎◌, ℕ, List, [], ◌∷◌, ◌++◌, inl, inr, Option, None, Some, refl, sym, ap, subst, ◌∙◌, arith}
use Rattle.ls_outside.specs.Causes.{Rose, one_more}
use Rattle.ls_talk.specs.Lines.{Counts}
use Rattle.ls_talk.specs.Talks.{HasMessageCause}
use Rattle.ls_talk.specs.declared.talk.Happening.{Happening}
use Rattle.ls_talk.specs.declared.talk.Happening.TheVariants as happening
use Rattle.ls_talk.specs.declared.talk.Incoming.{Incoming}
use Rattle.ls_talk.specs.declared.talk.Incoming.TheVariants as incoming
use Rattle.ls_register.specs.Deeds.{Deed}
use Rattle.ls_conn.specs.Acting.{Known}
use Rattle.ls_conn.specs.declared.ended.ConnEnd.{ConnEnd}
use Rattle.ls_conn.specs.declared.ended.ConnEnd.TheVariants as end
use Rattle.ls_conn_ws.specs.Streams.{StreamState}
use Rattle.ls_conn_ws.specs.Serving.{lines_in, malformed_text}
use Rattle.ls_conn_ws.specs.Answering.{CausesReplied, PutsReply, RepliesTo, heard_for}
use Rattle.ls_conn_ws.specs.Hearing.{HearsEnd, HearsSo, Heeds, IsNoText, LogsBare, PutsHeard, RestsSo}
use Rattle.ls_conn.specs.declared.ended.TheConstants.{MOST_IDLES}
use Rattle.ls_conn_ws.specs.Causes.{Rises}
use Rattle.ls_conn_ws.specs.declared.answering.Replied.{Replied}
use Rattle.ls_conn_ws.specs.declared.answering.Replied.TheVariants as replied
use Rattle.ls_conn_ws.specs.declared.serving.Heard.{Heard}
use Rattle.ls_conn_ws.specs.declared.serving.Heard.TheVariants as heard
use Rattle.ls_conn_ws.proofs.Logging.{logs_on}

pub text_heard : (deed : Deed) (r : Replied) (text : List ℕ) (k k2 : Known) (stream stream2 : Option StreamState) (log log1 log2 : Option (List Happening))
    → LogsBare (incoming.Text text) log log1 → RepliesTo deed r text k2 stream stream2 log1 log2 → HearsSo deed (heard_for r) k k2 stream stream2 log log2
text_heard deed replied.All text k k2 stream stream2 log log1 log2 bare (outs, count, is, after, logs) =
    (incoming.Text text, outs, count, (is, after), logs_on log log1 log2 (happening.Answer (incoming.Text text) ∷ []) (lines_in outs) bare logs)
text_heard deed replied.WriteFault text k k2 stream stream2 log log1 log2 bare (same, (outs, part, less, is, logs)) = (
  same,
  inr (
    happening.Answer (incoming.Text text) ∷ (lines_in outs ++ part),
    record { message = incoming.Text text; outs = outs; part = part; lacks = less; is_part = is; are = refl },
    logs_on log log1 log2 (happening.Answer (incoming.Text text) ∷ []) (lines_in outs ++ part) bare logs,
  ),
)
text_heard deed replied.NoMemory text k k2 stream stream2 log log1 log2 bare (same, (outs, part, less, is, logs)) = (
  same,
  inr (
    happening.Answer (incoming.Text text) ∷ (lines_in outs ++ part),
    record { message = incoming.Text text; outs = outs; part = part; lacks = less; is_part = is; are = refl },
    logs_on log log1 log2 (happening.Answer (incoming.Text text) ∷ []) (lines_in outs ++ part) bare logs,
  ),
)

module _ (deed : Deed) (k : Known) (stream : Option StreamState) (log log1 log2 : Option (List Happening)) where
  binary_heard : (r : Replied) → LogsBare incoming.Binary log log1 → PutsReply r log1 log2 malformed_text → HearsSo deed (heard_for r) k k stream stream log log2
  binary_heard replied.All bare logs =
      (incoming.Binary, Some malformed_text ∷ [], refl, (refl, refl), logs_on log log1 log2 (happening.Answer incoming.Binary ∷ []) (happening.Line malformed_text ∷ []) bare logs)
  binary_heard replied.WriteFault bare (part, is, logs) = (
    refl,
    inr (
      happening.Answer incoming.Binary ∷ ([] ++ part),
      record { message = incoming.Binary; outs = []; part = part; lacks = refl; is_part = is; are = refl },
      logs_on log log1 log2 (happening.Answer incoming.Binary ∷ []) part bare logs,
    ),
  )
  binary_heard replied.NoMemory bare logs = (
    refl,
    inr (
      happening.Answer incoming.Binary ∷ ([] ++ []),
      record { message = incoming.Binary; outs = []; part = []; lacks = refl; is_part = inl refl; are = refl },
      logs_on log log1 log2 (happening.Answer incoming.Binary ∷ []) [] bare logs,
    ),
  )

  long_heard : (r : Replied) → LogsBare incoming.Long log log1 → PutsReply r log1 log2 malformed_text → HearsSo deed (heard_for r) k k stream stream log log2
  long_heard replied.All bare logs =
      (incoming.Long, Some malformed_text ∷ [], refl, (refl, refl), logs_on log log1 log2 (happening.Answer incoming.Long ∷ []) (happening.Line malformed_text ∷ []) bare logs)
  long_heard replied.WriteFault bare (part, is, logs) = (
    refl,
    inr (
      happening.Answer incoming.Long ∷ ([] ++ part),
      record { message = incoming.Long; outs = []; part = part; lacks = refl; is_part = is; are = refl },
      logs_on log log1 log2 (happening.Answer incoming.Long ∷ []) part bare logs,
    ),
  )
  long_heard replied.NoMemory bare logs = (
    refl,
    inr (
      happening.Answer incoming.Long ∷ ([] ++ []),
      record { message = incoming.Long; outs = []; part = []; lacks = refl; is_part = inl refl; are = refl },
      logs_on log log1 log2 (happening.Answer incoming.Long ∷ []) [] bare logs,
    ),
  )

  pub refused_heard : (m : Incoming) (r : Replied) → IsNoText m → LogsBare m log log1 → PutsReply r log1 log2 malformed_text → HearsSo deed (heard_for r) k k stream stream log log2
  refused_heard m r (inl is) bare puts = binary_heard r (subst (λ (x : Incoming). LogsBare x log log1) is bare) puts
  refused_heard m r (inr is) bare puts = long_heard r (subst (λ (x : Incoming). LogsBare x log log1) is bare) puts

-- the count of faults of puts
pub puts_heard : (r : Replied) (f g : ℕ) → CausesReplied r f g → PutsHeard (heard_for r) f g
puts_heard replied.All f g c = c
puts_heard replied.WriteFault f g c = c
puts_heard replied.NoMemory f g c = c

-- the counts after a message and its answers
pub heeds_after : (h : Heard) (c d e : Counts) (f g x : ℕ) → d ≡ c → g ≡ f → e ≡ d → PutsHeard h g x → Heeds h c e f x
heeds_after h c d e f g x is puts same heard_is =
    subst (λ (y : Counts). Heeds h c y f x) (sym (same ∙ is)) (by_heard h (subst (λ (y : ℕ). PutsHeard h y x) puts heard_is))
  where
    stays : x ≡ f → Rises c c f x
    stays e = record { faults = omega arith; idles = omega arith; closes = omega arith; puts = omega (arith, e) }

    by_heard : (h : Heard) → PutsHeard h f x → Heeds h c c f x
    by_heard heard.Message p = record { rises = stays p; cause = tt }
    by_heard heard.Nothing p = absurd p
    by_heard (heard.End end.Served) p = absurd p
    by_heard (heard.End (end.Refused status)) p = absurd p
    by_heard (heard.End end.PeerLeft) p = absurd p
    by_heard (heard.End end.TooSlow) p = absurd p
    by_heard (heard.End end.ReadFault) p = absurd p
    by_heard (heard.End end.WriteFault) p = record { rises = record { faults = omega arith; idles = omega arith; closes = omega arith; puts = p.0 }; cause = p.1 }
    by_heard (heard.End end.Stopped) p = absurd p
    by_heard (heard.End end.NoMemory) p = record { rises = stays p; cause = tt }

-- a count that rose by one
rose_one : (a b : ℕ) → b ≡ one_more a → Rose a b
rose_one a b e = omega (arith, e)

-- no count fell with an answer of the talk
rises_by : (m : Incoming) (c d : Counts) (f g : ℕ) → HasMessageCause m c d f g → Rises c d f g
rises_by m c d f g h = record { faults = h.faults; idles = h.idles; closes = h.closes; puts = h.puts }

-- the counts after a ping or a pong, after a look that found nothing, where the peer closed, and for want of memory
pub control_heeds : (c d : Counts) (f g : ℕ) → HasMessageCause incoming.Control c d f g → Heeds heard.Message c d f g
control_heeds c d f g h = record { rises = rises_by incoming.Control c d f g h; cause = tt }

pub idle_heeds : (c d : Counts) (f g : ℕ) → HasMessageCause incoming.NotYet c d f g → Heeds heard.Nothing c d f g
idle_heeds c d f g h = record { rises = rises_by incoming.NotYet c d f g h; cause = ap (λ (x : Counts). x.idles) h.counts.0 }

pub closed_heeds : (c d : Counts) (f g : ℕ) → HasMessageCause incoming.Closed c d f g → Heeds (heard.End end.PeerLeft) c d f g
closed_heeds c d f g h =
    record { rises = rises_by incoming.Closed c d f g h; cause = rose_one c.closes d.closes (ap (λ (x : Counts). x.closes) h.counts.0) }

pub starved_heeds : (c d : Counts) (f g : ℕ) → HasMessageCause incoming.NoMemory c d f g → Heeds (heard.End end.NoMemory) c d f g
starved_heeds c d f g h = record { rises = rises_by incoming.NoMemory c d f g h; cause = tt }

-- where a read failed
read_heeds : (c d : Counts) (f g : ℕ) → HasMessageCause incoming.Failed c d f g → Rose c.faults d.faults → Heeds (heard.End end.ReadFault) c d f g
read_heeds c d f g h rose = record { rises = rises_by incoming.Failed c d f g h; cause = rose }

-- or a write
write_heeds : (c d : Counts) (f g : ℕ) → HasMessageCause incoming.Failed c d f g → Rose f g → Heeds (heard.End end.WriteFault) c d f g
write_heeds c d f g h rose = record { rises = rises_by incoming.Failed c d f g h; cause = rose }

-- where it wasn't a read, it was a write
put_rose : (n : ℕ) (c d : Counts) (f g : ℕ) → n ≡ c.faults → (d.faults ≡ one_more n → ⊥)
    → (((d ≡ record c { faults = one_more c.faults }) × (g ≡ f)) ⊎ ((d ≡ c) × (g ≡ one_more f))) → Rose f g
put_rose n c d f g same other (inl k) = absurd (other (ap (λ (x : Counts). x.faults) k.0 ∙ ap one_more (sym same)))
put_rose n c d f g same other (inr k) = rose_one f g k.1

pub failed_heeds : (e : ConnEnd) (n : ℕ) (c d : Counts) (f g : ℕ) → ((e ≡ end.ReadFault) ⊎ (e ≡ end.WriteFault)) → n ≡ c.faults → (e ≡ end.ReadFault → Rose n d.faults)
    → (e ≡ end.WriteFault → (d.faults ≡ one_more n → ⊥)) → HasMessageCause incoming.Failed c d f g → Heeds (heard.End e) c d f g
failed_heeds e n c d f g (inl read) same fault other h =
    subst (λ (x : ConnEnd). Heeds (heard.End x) c d f g) (sym read) (read_heeds c d f g h (subst (λ (k : ℕ). Rose k d.faults) same (fault read)))
failed_heeds e n c d f g (inr write) same fault other h =
    subst (λ (x : ConnEnd). Heeds (heard.End x) c d f g) (sym write) (write_heeds c d f g h (put_rose n c d f g same (other write) h.counts))

-- and what it does to the log
pub failed_hears : (deed : Deed) (e : ConnEnd) (k : Known) (stream : Option StreamState) (log log2 : Option (List Happening)) → ((e ≡ end.ReadFault) ⊎ (e ≡ end.WriteFault))
    → LogsBare incoming.Failed log log2 → HearsSo deed (heard.End e) k k stream stream log log2
failed_hears deed e k stream log log2 (inl read) logs =
    subst (λ (x : ConnEnd). HearsEnd x k k stream stream log log2) (sym read) (refl, refl, logs)
failed_hears deed e k stream log log2 (inr write) logs =
    subst (λ (x : ConnEnd). HearsEnd x k k stream stream log log2) (sym write) (refl, inl logs)

-- an end is one, and no other one
pub end_is : (e f : ConnEnd) → Some e ≡ Some f → e ≡ f
end_is e f is = cc

pub none_ends : (e : ConnEnd) → None ≡ Some e → ⊥
none_ends e is = cc

pub some_ends : (e : ConnEnd) → Some e ≡ None → ⊥
some_ends e is = cc

-- neither a look for a message nor a rest stops a connection at a tick
pub heard_goes_on : (e : ConnEnd) (k k2 : Known) (s s2 : Option StreamState) (log log2 : Option (List Happening)) → HearsEnd e k k2 s s2 log log2 → e ≡ end.Stopped → ⊥
heard_goes_on e k k2 s s2 log log2 h is = subst (λ (x : ConnEnd). HearsEnd x k k2 s s2 log log2) is h

pub rest_goes_on : (r : Option ConnEnd) (n m : ℕ) (log log2 : Option (List Happening)) (f g : ℕ) → RestsSo r n m log log2 f g → r ≡ Some end.Stopped → ⊥
rest_goes_on r n m log log2 f g x is = subst (λ (y : Option ConnEnd). RestsSo y n m log log2 f g) is x

-- after a rest that ends nothing there were few looks
pub few_after : (r : Option ConnEnd) (n m : ℕ) (log log2 : Option (List Happening)) (f g : ℕ) → RestsSo r n m log log2 f g → r ≡ None → m < MOST_IDLES
few_after r n m log log2 f g x is = few_none (subst (λ (y : Option ConnEnd). RestsSo y n m log log2 f g) is x)
  where
    few_none : RestsSo None n m log log2 f g → m < MOST_IDLES
    few_none y = y.2
