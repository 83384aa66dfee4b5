-- What a hub knows of its connections is what the world has, and a line on one of them.
use Rattle.std.proofs.Common.{◌≡◌, ℕ, zero, suc, ◌<◌, ◌≤◌, List, [], ◌∷◌, ◌++◌, length, map, refl, sym, ◌∙◌, ap, arith, subst, cond, Bool, true, false}
use Rattle.std.proofs.Common.{Option, Some, None, slice_get, slice_set, slice_index_or, option_map, option_and_then}
use Rattle.std.specs.Option.{option_map_or}
use Rattle.ls_line.specs.declared.line.Line.TheVariants as line
use Rattle.ls_line.specs.Lines.{text_of_line}
use Rattle.ls_request.specs.declared.request.LinkKind.TheVariants as link
use Rattle.ls_step.specs.Notes.{text_of_out}
use Rattle.ls_step.specs.declared.out.Out.TheVariants as out
use Rattle.ls_world.specs.World.{World, Connection}
use Rattle.ls_record.specs.Records.{change}
use Rattle.ls_record.specs.Acting.{message_of}
use Rattle.ls_record.specs.Cases.{with_found}
use Rattle.ls_world.specs.Steps.{Stepped, stays, on, session_of, epoch_of, name_of, link_of, is_opening, malformed}
use Rattle.ls_world.specs.Steps.{refuses, refuses_stream}
use Rattle.ls_hub.specs.Hub.{StandsHub, Prints, seen, session_at, epoch_at, name_at, link_at}
use Rattle.ls_acts.specs.Answers.{malformed_line}
use Rattle.ls_hub.proofs.Repeats.{text_one}
use Rattle.ls_hub.specs.declared.hub.Hub.{Hub}
use Rattle.ls_hub.specs.declared.hub.Connection.{Connection as Linked}

seen_at : (cs : List Linked) (n : ℕ) → slice_get (map seen cs) n ≡ option_map seen (slice_get cs n)
seen_at [] n = refl
seen_at (c ∷ cs) zero = refl
seen_at (c ∷ cs) (suc n) = seen_at cs n

pub session_is : (cs : List Linked) (w : World) (n : ℕ) → map seen cs ≡ w.connections → session_at cs n ≡ session_of w n
session_is cs w n is = by_one (slice_get cs n) ∙ ap (option_and_then (λ c. c.session)) (sym (seen_at cs n) ∙ ap (λ xs. slice_get xs n) is)
  where
    by_one : (o : Option Linked) → option_and_then (λ (c : Linked). c.session) o ≡ option_and_then (λ (c : Connection). c.session) (option_map seen o)
    by_one None = refl
    by_one (Some c) = refl

pub name_is : (cs : List Linked) (w : World) (n : ℕ) → map seen cs ≡ w.connections → name_at cs n ≡ name_of w n
name_is cs w n is = by_one (slice_get cs n) ∙ ap (λ o. option_map_or (λ (c : Connection). c.name) o []) (sym (seen_at cs n) ∙ ap (λ xs. slice_get xs n) is)
  where
    by_one : (o : Option Linked) → option_map_or (λ (c : Linked). c.name) o [] ≡ option_map_or (λ (c : Connection). c.name) (option_map seen o) []
    by_one None = refl
    by_one (Some c) = refl

pub link_is : (cs : List Linked) (w : World) (n : ℕ) → map seen cs ≡ w.connections → link_at cs n ≡ link_of w n
link_is cs w n is = by_one (slice_get cs n) ∙ ap (λ o. option_map_or (λ (c : Connection). c.link) o link.Ws) (sym (seen_at cs n) ∙ ap (λ xs. slice_get xs n) is)
  where
    by_one : (o : Option Linked) → option_map_or (λ (c : Linked). c.link) o link.Ws ≡ option_map_or (λ (c : Connection). c.link) (option_map seen o) link.Ws
    by_one None = refl
    by_one (Some c) = refl

pub epoch_is : (cs : List Linked) (w : World) (n : ℕ) → map seen cs ≡ w.connections → epoch_at cs n ≡ epoch_of w n
epoch_is cs w n is = by_one (slice_get cs n) ∙ ap (λ o. option_map_or (λ (c : Connection). c.epoch) o 0) (sym (seen_at cs n) ∙ ap (λ xs. slice_get xs n) is)
  where
    by_one : (o : Option Linked) → option_map_or (λ (c : Linked). c.epoch) o 0 ≡ option_map_or (λ (c : Connection). c.epoch) (option_map seen o) 0
    by_one None = refl
    by_one (Some c) = refl

-- a connection that is given a session and a stream of it
abbrev pub linked_to : ℕ → ℕ → Connection → Connection
linked_to place epoch c = record c { session = Some place; epoch = epoch }

pub given_seen : (cs : List Linked) (n place epoch : ℕ) (c : Linked) → n < length cs → c ≡ slice_index_or cs n c
    → map seen (slice_set cs n (record { name = c.name; link = c.link; session = Some place; epoch = epoch }))
    ≡ change n (linked_to place epoch) (map seen cs)
given_seen [] n place epoch c low at = absurd (omega (arith, low))
given_seen (x ∷ cs) zero place epoch c low at =
    ap (λ (y : Linked). record { name = y.name; link = y.link; session = Some place; epoch = epoch } ∷ map seen cs) at
given_seen (x ∷ cs) (suc n) place epoch c low at = ap (λ t. seen x ∷ t) (given_seen cs n place epoch c (omega (arith, low)) at)

pub given_none : (cs : List Linked) (n place epoch : ℕ) → length cs ≤ n → map seen cs ≡ change n (linked_to place epoch) (map seen cs)
given_none [] n place epoch high = refl
given_none (x ∷ cs) zero place epoch high = absurd (omega (arith, high))
given_none (x ∷ cs) (suc n) place epoch high = ap (λ t. seen x ∷ t) (given_none cs n place epoch (omega (arith, high)))

-- a line on a connection was appended
pub line_printed : (h h' : Hub) (w w' : World) (n : ℕ) (t before after : List ℕ) → StandsHub h w → StandsHub h' w'
    → after ≡ before ++ text_of_out (out.Line (name_at h.connections.items n) t)
    → Prints (record { after = w'; outs = on w n t }) before after h'
line_printed h h' w w' n t before after st st' is =
    record {
      text = is ∙ ap (λ x. before ++ text_of_out (out.Line x t)) (name_is h.connections.items w n st.connections)
          ∙ ap (λ xs. before ++ xs) (sym (text_one (out.Line (name_of w n) t)));
      stands = st';
    }

malformed_is : (w : World) (n : ℕ) (name : List ℕ) (req : Option (List ℕ))
    → malformed w n name req ≡ stays w (on w n (text_of_line (malformed_line name req)))
malformed_is w n name req = by_name (is_opening name) req
  where
    by_name : (b : Bool) (o : Option (List ℕ))
        → cond b (refuses_stream w n 65)
        (with_found o (stays w (on w n (text_of_line (line.Error 65 (message_of 65))))) (λ r. refuses w n r 65))
        ≡ stays w
        (on w n (text_of_line (cond b (line.ConErr 65 (message_of 65)) (with_found o (line.Error 65 (message_of 65))
        (λ r. line.ReqErr r 65 (message_of 65))))))
    by_name true o = refl
    by_name false None = refl
    by_name false (Some r) = refl

pub malformed_printed : (h : Hub) (w : World) (n : ℕ) (name : List ℕ) (req : Option (List ℕ)) (before after : List ℕ) → StandsHub h w
    → after ≡ before ++ text_of_out (out.Line (name_at h.connections.items n) (text_of_line (malformed_line name req)))
    → Prints (malformed w n name req) before after h
malformed_printed h w n name req before after st is =
    subst (λ (s : Stepped). Prints s before after h) (sym (malformed_is w n name req))
    (line_printed h h w w n (text_of_line (malformed_line name req)) before after st st is)
