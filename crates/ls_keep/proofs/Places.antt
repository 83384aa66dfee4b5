-- Texts in one piece of memory, each after the one before.
use Rattle.std.proofs.Common.{◌≡◌, ◌≤◌, ℕ, zero, suc, ◌+◌, ◌-◌, List, [], ◌∷◌, ◌++◌, length, take, drop, slice_get, Option, Some, None, unwrap_or, subst}
use Rattle.std.proofs.Common.{refl, sym, ◌∙◌, ap, ap₂, arith, length-append, length-take, length-drop, drop-drop}
use Rattle.std.proofs.lemmas.List.{take-append-le, drop-append-le, drop_at, take_all, take-take, drop-take}
use Rattle.ls_keep.specs.Kept.{text_of}
use Rattle.ls_keep.specs.Texts.{QueuedTexts, queued, LieIn, EndAt, text_between, texts_between}

-- none begins after the last one ends
pub ends_later : (last from : ℕ) (ends : List ℕ) → EndAt last from ends → from ≤ last
ends_later last from [] lie = omega (arith, lie)
ends_later last from (end ∷ ends) lie = omega (arith, lie.0, ends_later last end ends lie.1)

pub length_between : (bytes : List ℕ) (gone from to : ℕ) → gone ≤ from → from ≤ to → to ≤ gone + length bytes
    → length (text_between bytes gone from to) ≡ to - from
length_between bytes gone from to there order within =
    length-take (to - gone - (from - gone)) (drop (from - gone) bytes)
    ∙ omega (arith, there, order, within, length-drop (from - gone) bytes)

pub length_texts : (bytes : List ℕ) (gone from : ℕ) (ends : List ℕ) → length ends ≡ length (texts_between bytes gone from ends)
length_texts bytes gone from [] = refl
length_texts bytes gone from (end ∷ ends) = ap suc (length_texts bytes gone end ends)

-- a text of the queue lies between the end of the one before and its own
abbrev pub text_by : List ℕ → ℕ → Option ℕ → Option ℕ → Option (List ℕ)
text_by bytes gone begin None = None
text_by bytes gone None (Some end) = None
text_by bytes gone (Some begin) (Some end) = Some (text_between bytes gone begin end)

pub slice_get_texts : (bytes : List ℕ) (gone from : ℕ) (ends : List ℕ) (i : ℕ)
    → text_by bytes gone (slice_get (from ∷ ends) i) (slice_get ends i) ≡ slice_get (texts_between bytes gone from ends) i
slice_get_texts bytes gone from [] i = refl
slice_get_texts bytes gone from (end ∷ ends) zero = refl
slice_get_texts bytes gone from (end ∷ ends) (suc i) = slice_get_texts bytes gone end ends i

-- it begins and ends in their order
pub record Between (last from begin end : ℕ) : Type 0 where
  pub begins : from ≤ begin
  pub order : begin ≤ end
  pub within : end ≤ last

same_number : (a b : ℕ) → Some a ≡ Some b → a ≡ b
same_number a b is = ap (λ (o : Option ℕ). unwrap_or o 0) is

pub between : (last from : ℕ) (ends : List ℕ) (i begin end : ℕ) → EndAt last from ends
    → slice_get ends i ≡ Some end → slice_get (from ∷ ends) i ≡ Some begin → Between last from begin end
between last from [] i begin end lie ends_is begins_is = absurd (none_is ends_is)
  where
    none_is : None ≡ Some end → ⊥
    none_is is = cc
between last from (e ∷ es) zero begin end lie ends_is begins_is =
    let b : from ≡ begin = same_number from begin begins_is in
    let n : e ≡ end = same_number e end ends_is in
    record {
      begins = omega (arith, b);
      order = omega (arith, b, n, lie.0);
      within = omega (arith, n, ends_later last e es lie.1);
    }
between last from (e ∷ es) (suc i) begin end lie ends_is begins_is =
    let rest : Between last e begin end = between last e es i begin end lie.1 ends_is begins_is in
    record { begins = omega (arith, lie.0, rest.begins); order = rest.order; within = rest.within }

-- more bytes come
between_more : (bytes more : List ℕ) (gone from to : ℕ) → gone ≤ from → from ≤ to → to ≤ gone + length bytes
    → text_between (bytes ++ more) gone from to ≡ text_between bytes gone from to
between_more bytes more gone from to there order within =
    ap (take (to - gone - (from - gone))) (drop-append-le (from - gone) bytes more (omega (arith, there, order, within)))
    ∙ take-append-le (to - gone - (from - gone)) (drop (from - gone) bytes) more
    (omega (arith, there, order, within, length-drop (from - gone) bytes))

last_text : (bytes text : List ℕ) (gone from : ℕ) → from ≡ gone + length bytes
    → text_between (bytes ++ text) gone from (gone + (length bytes + length text)) ≡ text
last_text bytes text gone from end =
    ap (take (gone + (length bytes + length text) - gone - (from - gone))) (drop_at bytes text (from - gone) (omega (arith, end)))
    ∙ take_all (gone + (length bytes + length text) - gone - (from - gone)) text (omega (arith, end))

pub texts_pushed : (bytes text : List ℕ) (gone from : ℕ) (ends : List ℕ) → gone ≤ from → EndAt (gone + length bytes) from ends
    → texts_between (bytes ++ text) gone from (ends ++ (gone + (length bytes + length text)) ∷ [])
    ≡ texts_between bytes gone from ends ++ text ∷ []
texts_pushed bytes text gone from [] there lie = ap (λ (t : List ℕ). t ∷ []) (last_text bytes text gone from lie)
texts_pushed bytes text gone from (end ∷ ends) there lie =
    ap₂ (λ (t : List ℕ) (ts : List (List ℕ)). t ∷ ts)
    (between_more bytes text gone from end there lie.0 (ends_later (gone + length bytes) end ends lie.1))
    (texts_pushed bytes text gone end ends (omega (arith, there, lie.0)) lie.1)

end_pushed : (last more from : ℕ) (ends : List ℕ) → EndAt last from ends → last ≤ more → EndAt more from (ends ++ more ∷ [])
end_pushed last more from [] lie after = (omega (arith, lie, after), refl)
end_pushed last more from (end ∷ ends) lie after = (lie.0, end_pushed last more end ends lie.1 after)

pub lie_pushed : (bytes text : List ℕ) (gone left first : ℕ) (ends : List ℕ) → LieIn bytes gone left first ends
    → LieIn (bytes ++ text) gone left first (ends ++ (gone + (length bytes + length text)) ∷ [])
lie_pushed bytes text gone left first ends lie =
    record {
      there = lie.there;
      left_ends = lie.left_ends;
      end = subst (λ (n : ℕ). EndAt n first (ends ++ (gone + (length bytes + length text)) ∷ []))
          (ap (λ (n : ℕ). gone + n) (sym (length-append bytes text)))
          (end_pushed (gone + length bytes) (gone + (length bytes + length text)) first ends lie.end (omega arith));
    }

pub queue_pushed : (bytes text : List ℕ) (gone left first : ℕ) (ends : List ℕ) (q : QueuedTexts)
    → queued (texts_between bytes gone first ends) (text_between bytes gone left first) ≡ q
    → LieIn bytes gone left first ends
    → queued (texts_between (bytes ++ text) gone first (ends ++ (gone + (length bytes + length text)) ∷ [])) (text_between (bytes ++ text) gone left first) ≡ record q { texts = q.texts ++ text ∷ [] }
queue_pushed bytes text gone left first ends q is lie =
    ap₂ (λ (ts : List (List ℕ)) (t : List ℕ). queued (ts) (t))
    (texts_pushed bytes text gone first ends (omega (arith, lie.there, lie.left_ends)) lie.end)
    (between_more bytes text gone left first lie.there lie.left_ends (ends_later (gone + length bytes) first ends lie.end))
    ∙ ap (λ (v : QueuedTexts). record v { texts = v.texts ++ text ∷ [] }) is

-- the bytes before the text that left last are let go
between_later : (bytes : List ℕ) (gone later from to : ℕ) → gone ≤ later → later ≤ from
    → text_between (drop (later - gone) bytes) later from to ≡ text_between bytes gone from to
between_later bytes gone later from to there before =
    ap (take (to - later - (from - later))) (drop-drop (from - later) (later - gone) bytes)
    ∙ ap₂ (λ (n m : ℕ). take n (drop m bytes)) {x = to - later - (from - later)} {y = to - gone - (from - gone)}
    {u = later - gone + (from - later)} {v = from - gone} (omega (arith, there, before)) (omega (arith, there, before))

texts_later : (bytes : List ℕ) (gone later from : ℕ) (ends : List ℕ) (last : ℕ) → gone ≤ later → later ≤ from → EndAt last from ends
    → texts_between (drop (later - gone) bytes) later from ends ≡ texts_between bytes gone from ends
texts_later bytes gone later from [] last there before lie = refl
texts_later bytes gone later from (end ∷ ends) last there before lie =
    ap₂ (λ (t : List ℕ) (ts : List (List ℕ)). t ∷ ts) (between_later bytes gone later from end there before)
    (texts_later bytes gone later end ends last there (omega (arith, before, lie.0)) lie.1)

pub lie_later : (bytes : List ℕ) (gone left first : ℕ) (ends : List ℕ) → LieIn bytes gone left first ends
    → LieIn (drop (left - gone) bytes) left left first ends
lie_later bytes gone left first ends lie =
    record {
      there = omega arith;
      left_ends = lie.left_ends;
      end = subst (λ (n : ℕ). EndAt n first ends) {x = gone + length bytes} {y = left + length (drop (left - gone) bytes)}
          (omega (arith, lie.there, lie.left_ends, length-drop (left - gone) bytes, ends_later (gone + length bytes) first ends lie.end))
          lie.end;
    }

pub queue_later : (bytes : List ℕ) (gone left first : ℕ) (ends : List ℕ) → LieIn bytes gone left first ends
    → queued (texts_between (drop (left - gone) bytes) left first ends) (text_between (drop (left - gone) bytes) left left first)
    ≡ record { texts = texts_between bytes gone first ends; left = text_between bytes gone left first }
queue_later bytes gone left first ends lie =
    ap₂ (λ (ts : List (List ℕ)) (t : List ℕ). queued (ts) (t))
    (texts_later bytes gone left first ends (gone + length bytes) lie.there lie.left_ends lie.end)
    (between_later bytes gone left left first lie.there (omega arith))

-- the first text leaves
pub queue_popped : (bytes : List ℕ) (gone left first : ℕ) (ends : List ℕ) (end : ℕ) (rest : List ℕ) (q : QueuedTexts)
    → ends ≡ end ∷ rest
    → queued (texts_between bytes gone first ends) (text_between bytes gone left first) ≡ q
    → queued (texts_between bytes gone end rest) (text_between bytes gone first end)
    ≡ record { texts = drop 1 q.texts; left = text_of q.texts 1 }
queue_popped bytes gone left first ends end rest q is view =
    ap (λ (es : List ℕ). queued (drop 1 (texts_between bytes gone first es)) (text_of (texts_between bytes gone first es) 1)) (sym is)
    ∙ ap (λ (v : QueuedTexts). queued (drop 1 v.texts) (text_of v.texts 1)) view

pub length_popped : (bytes : List ℕ) (gone left first : ℕ) (ends : List ℕ) (end : ℕ) (rest : List ℕ) (q : QueuedTexts)
    → ends ≡ end ∷ rest
    → queued (texts_between bytes gone first ends) (text_between bytes gone left first) ≡ q
    → LieIn bytes gone left first ends
    → end - first ≡ length (text_of q.texts 1)
length_popped bytes gone left first ends end rest q is view lie =
    let order : EndAt (gone + length bytes) first (end ∷ rest) = subst (EndAt (gone + length bytes) first) is lie.end in
    sym (length_between bytes gone first end (omega (arith, lie.there, lie.left_ends)) order.0
    (ends_later (gone + length bytes) end rest order.1))
    ∙ ap (λ (v : QueuedTexts). length v.left) (queue_popped bytes gone left first ends end rest q is view)

pub lie_popped : (bytes : List ℕ) (gone left first : ℕ) (ends : List ℕ) (end : ℕ) (rest : List ℕ)
    → ends ≡ end ∷ rest → LieIn bytes gone left first ends → LieIn bytes gone first end rest
lie_popped bytes gone left first ends end rest is lie =
    let order : EndAt (gone + length bytes) first (end ∷ rest) = subst (EndAt (gone + length bytes) first) is lie.end in
    record { there = omega (arith, lie.there, lie.left_ends); left_ends = order.0; end = order.1 }

-- all texts leave
pub left_stays : (bytes : List ℕ) (gone left first : ℕ) → gone ≤ left → left ≤ first
    → text_between (take (first - gone) bytes) gone left first ≡ text_between bytes gone left first
left_stays bytes gone left first there order =
    ap (λ (n : ℕ). take (first - gone - (left - gone)) (drop (left - gone) (take n bytes)))
    {x = first - gone} {y = left - gone + (first - gone - (left - gone))} (omega (arith, there, order))
    ∙ ap (take (first - gone - (left - gone))) (drop-take (left - gone) (first - gone - (left - gone)) bytes)
    ∙ take-take (first - gone - (left - gone)) (first - gone - (left - gone)) (drop (left - gone) bytes) (omega arith)

pub lie_cleared : (bytes : List ℕ) (gone left first : ℕ) (ends : List ℕ) → LieIn bytes gone left first ends
    → LieIn (take (first - gone) bytes) gone left first []
lie_cleared bytes gone left first ends lie =
    record {
      there = lie.there;
      left_ends = lie.left_ends;
      end = omega (arith, lie.there, lie.left_ends, length-take (first - gone) bytes, ends_later (gone + length bytes) first ends lie.end);
    }
