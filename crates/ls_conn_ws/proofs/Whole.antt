-- A message, by its requests.
use Rattle.std.proofs.Common.{◌≡◌, ℕ, List, [], ◌∷◌, length, inl, inr, Option, Bool, true, false, ◌&&◌, refl, sym, ap, subst, ◌∙◌, codes, if◌then◌else◌}
use Rattle.ls_chron.proofs.Beginnings.{prefix_self}
use Rattle.ls_value.proofs.Rows.{text_eq_true}
use Rattle.ls_talk.specs.declared.talk.Happening.{Happening}
use Rattle.ls_register.specs.Deeds.{Deed}
use Rattle.ls_register.specs.declared.made.Made.{Made}
use Rattle.ls_conn.specs.Acting.{Known, known}
use Rattle.ls_conn_ws.specs.Messages.{filled, first_of, has_many, lines_of, params_of, params_in, name_in}
use Rattle.ls_conn_ws.specs.Streams.{StreamState}
use Rattle.ls_conn_ws.specs.Serving.{Outcomes}
use Rattle.ls_conn_ws.specs.Answering.{RepliesEach, RepliesSingle, RepliesTo, RepliedPart, control_name}
use Rattle.ls_conn_ws.specs.declared.answering.Replied.{Replied}
use Rattle.ls_conn_ws.specs.declared.answering.Replied.TheVariants as replied
use Rattle.ls_conn_ws.proofs.Replying.{outcomes_count}

-- of two tests that are both true
both_true : (a b : Bool) → (a && b) ≡ true → a ≡ true
both_true true b e = refl
both_true false b e = e

-- a message of this name and these lines after it
module _ (deed : Deed) (text name : List ℕ) (lines : List (List ℕ)) (are : lines_of text ≡ name ∷ lines) where
  name_is : name_in text ≡ name
  name_is = ap first_of are

  -- its requests are those of the lines
  params_each : has_many name lines ≡ true → params_in text ≡ filled lines
  params_each e = ap params_of are ∙ ap (λ (b : Bool). if b then filled lines else first_of lines ∷ []) e

  -- or one alone
  params_single : has_many name lines ≡ false → params_in text ≡ first_of lines ∷ []
  params_single e = ap params_of are ∙ ap (λ (b : Bool). if b then filled lines else first_of lines ∷ []) e

  part_of : (count : ℕ) (log log2 : Option (List Happening)) → length (params_in text) ≡ count → RepliedPart count log log2 → RepliedPart (length (params_in text)) log log2
  part_of count log log2 same part = subst (λ (n : ℕ). RepliedPart n log log2) (sym same) part

  pub message_each : (r : Replied) (own : Option ℕ) (now : ℕ) (register : List Made) (old new : Known) (stream : Option StreamState) (log log2 : Option (List Happening))
      → has_many name lines ≡ true → old ≡ known register [] → RepliesEach deed r own control_name now (filled lines) old new log log2
      → RepliesTo deed r text new stream stream log log2
  message_each replied.All own now register old new stream log log2 e is done = (
    done.0,
    outcomes_count deed own control_name now (filled lines) done.0 old new done.1 ∙ sym (ap (λ (ps : List (List ℕ)). length ps) (params_each e)),
    record {
      own = own;
      now = now;
      register = register;
      after = new;
      outcomes = subst (λ (k : Known). Outcomes deed own (name_in text) now (params_in text) done.0 k new) is
          (subst (λ (n : List ℕ). Outcomes deed own n now (params_in text) done.0 old new) (sym (name_is ∙ text_eq_true name (codes "control") (both_true _ _ e)))
          (subst (λ (ps : List (List ℕ)). Outcomes deed own control_name now ps done.0 old new) (sym (params_each e)) done.1));
      keeps = (prefix_self new.register, inl refl);
    },
    inr (done.2, refl),
    done.3,
  )
  message_each replied.WriteFault own now register old new stream log log2 e is done =
      (refl, part_of (length (filled lines)) log log2 (ap (λ (ps : List (List ℕ)). length ps) (params_each e)) done)
  message_each replied.NoMemory own now register old new stream log log2 e is done =
      (refl, part_of (length (filled lines)) log log2 (ap (λ (ps : List (List ℕ)). length ps) (params_each e)) done)

  pub message_single : (r : Replied) (now : ℕ) (register : List Made) (new : Known) (stream stream2 : Option StreamState) (log log2 : Option (List Happening))
      → has_many name lines ≡ false → RepliesSingle deed r name now (first_of lines) register new stream stream2 log log2
      → RepliesTo deed r text new stream stream2 log log2
  message_single replied.All now register new stream stream2 log log2 e (out, own, after, outcomes, keeps, streams, logs) = (
    out ∷ [],
    sym (ap (λ (ps : List (List ℕ)). length ps) (params_single e)),
    record {
      own = own;
      now = now;
      register = register;
      after = after;
      outcomes = subst (λ (n : List ℕ). Outcomes deed own n now (params_in text) (out ∷ []) (known register []) after) (sym name_is)
          (subst (λ (ps : List (List ℕ)). Outcomes deed own name now ps (out ∷ []) (known register []) after) (sym (params_single e)) outcomes);
      keeps = keeps;
    },
    streams,
    logs,
  )
  message_single replied.WriteFault now register new stream stream2 log log2 e (same, part) =
      (same, part_of 1 log log2 (ap (λ (ps : List (List ℕ)). length ps) (params_single e)) part)
  message_single replied.NoMemory now register new stream stream2 log log2 e (same, part) =
      (same, part_of 1 log log2 (ap (λ (ps : List (List ℕ)). length ps) (params_single e)) part)
