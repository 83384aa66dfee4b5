-- The one request of a message.
use Rattle.std.proofs.Common.{◌≡◌, ℕ, List, [], ◌∷◌, inl, inr, Option, None, Some, true, refl, sym, subst, lit<}
use Rattle.ls_chron.proofs.Beginnings.{prefix_self}
use Rattle.ls_talk.specs.Lines.{Logs}
use Rattle.ls_talk.specs.declared.talk.Happening.{Happening}
use Rattle.ls_talk.specs.declared.talk.Happening.TheVariants as happening
use Rattle.ls_register.specs.Deeds.{Deed}
use Rattle.ls_register.specs.declared.made.Made.{Made}
use Rattle.ls_told.specs.Seen.{Testified}
use Rattle.ls_conn.specs.Acting.{Acts, Known, known}
use Rattle.ls_conn.specs.Streaming.{AreGiven}
use Rattle.ls_conn.specs.declared.acted.Acted.TheVariants as acted
use Rattle.ls_conn_ws.specs.Streams.{StreamState}
use Rattle.ls_conn_ws.specs.Serving.{IsPart, IsStream, asked}
use Rattle.ls_conn_ws.specs.Answering.{OpensStream, RepliesSingle}
use Rattle.ls_conn_ws.specs.declared.answering.Replied.TheVariants as replied

module _ (deed : Deed) (own : Option ℕ) (name : List ℕ) (now : ℕ) (params : List ℕ) (register : List Made) (stream : Option StreamState) (log log2 : Option (List Happening)) where
  -- its answer was put
  pub line_single : (old new : Known) (text : List ℕ) → old ≡ known register [] → Acts deed (asked own name now params) old new (acted.Line text)
      → Logs log log2 (happening.Line text ∷ []) → RepliesSingle deed replied.All name now params register new stream stream log log2
  line_single old new text is acts logs =
      (Some text, own, new, (new, subst (λ (k : Known). Acts deed (asked own name now params) k new (acted.Line text)) is acts, refl), (prefix_self new.register, inl refl), inr (refl, refl), logs)

  -- it opened a stream
  pub opened_single : (old mid : Known) (seen2 : List Testified) (stream2 : Option StreamState) (session epoch : ℕ) → old ≡ known register []
      → Acts deed (asked own name now params) old mid (acted.Opened session epoch) → OpensStream epoch mid.seen seen2 stream2 → Logs log log2 []
      → RepliesSingle deed replied.All name now params register (known mid.register seen2) stream stream2 log log2
  opened_single old mid seen2 stream2 session epoch is acts o logs =
      let s : StreamState = record { told = o.alone.told; epoch = epoch; runs = true } in (
        None,
        own,
        mid,
        (mid, (session, epoch, subst (λ (k : Known). Acts deed (asked own name now params) k mid (acted.Opened session epoch)) is acts), refl),
        (prefix_self mid.register, inr (o.none, (o.alone.told, s, o.alone.are, o.is, refl, prefix_self o.alone.told.lines))),
        inl (refl, subst (λ (x : Option StreamState). IsStream x []) (sym o.is) (subst (λ (ps : List ℕ). AreGiven o.alone.told.lines epoch ps []) (sym o.alone.mine) tt)),
        logs,
      )

  -- a part of its answer was put, or nothing
  pub part_single : (k : Known) (part : List Happening) → IsPart part → Logs log log2 part → RepliesSingle deed replied.WriteFault name now params register k stream stream log log2
  part_single k part is logs = (refl, ([], part, lit< tt, is, logs))

  pub none_single : (k : Known) → Logs log log2 [] → RepliesSingle deed replied.NoMemory name now params register k stream stream log log2
  none_single k logs = (refl, ([], [], lit< tt, inl refl, logs))
