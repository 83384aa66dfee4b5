-- What clap makes of words of which none begins with `-` is the command line that they are.
use Rattle.std.proofs.Common.{◌≡◌, inl, inr, ℕ, List, [], ◌∷◌, Bool, true, false, cond, refl, sym, ap, subst, codes, nat_eq, Option, None}
use Rattle.std.specs.List.{list_all}
use Rattle.std.specs.Str.{bytes_eq}
use Rattle.std.proofs.lemmas.Slice.Eq.{bytes_eq-Decides}
use Rattle.clap.specs.Kinds.{HasKind, Kinds}
use Rattle.clap.specs.Values.{kind_of}
use Rattle.clap.specs.Walk.{Row, Text}
use Rattle.clap.specs.Simple.{subcommand_of}
use Rattle.clap.specs.Faults.{fault_of}
use Rattle.clap.specs.declared.error.Error.{Error}
use Rattle.clap.specs.declared.error.kind.ErrorKind.TheVariants as kind
use Rattle.clap.proofs.OnLiterals.{clap_on_literals}
use Rattle.ls_arguments.specs.CommandLines.{command_line_of, is_plain, replay_said, serve_said, soak_said}
use Rattle.ls_arguments.specs.Parser.{entered_line, program_app}
use Rattle.ls_arguments.specs.declared.command_line.CommandLine.{CommandLine}
use Rattle.ls_arguments.proofs.Plain.{is_false, left, right}
use Rattle.ls_arguments.proofs.Walking.{Enters, fault_enters, faults_entered, no_words, replay_enters, replay_more, rows_enters, rows_entered, serve_enters, serve_more, serve_none, serve_one, serve_three, serve_three_rows, serve_two, serve_two_rows, soak_enters, soak_more, soak_none, soak_one, soak_two, soak_two_rows, stray_fault}

-- without a fault what was entered is the command line, and with one there is none
abbrev pub Ties : Kinds → Option (Text × List Row) → Option CommandLine → Type 0
Ties [] rows line = entered_line rows ≡ line
Ties (k ∷ ks) rows line = line ≡ None

ties : (a b : Kinds) (rows : Option (Text × List Row)) (line : Option CommandLine) → a ≡ b → Ties b rows line → Ties a rows line
ties a b rows line is h = subst (λ (k : Kinds). Ties k rows line) (sym is) h

pub line_of_ok : (faults : Kinds) (rows : Option (Text × List Row)) (line : Option CommandLine) → Ties faults rows line → faults ≡ [] → entered_line rows ≡ line
line_of_ok faults rows line h none = subst (λ (k : Kinds). Ties k rows line) none h

pub no_line_of_fault : (faults : Kinds) (rows : Option (Text × List Row)) (line : Option CommandLine) (e : Error) → Ties faults rows line → HasKind faults e
    → (kind_of e ≡ kind.OutOfMemory → ⊥) → line ≡ None
no_line_of_fault [] rows line e h (inl m) other = absurd (other m)
no_line_of_fault [] rows line e h (inr m) other = absurd m
no_line_of_fault (k ∷ ks) rows line e h among other = h

plain_first : (b : ℕ) (bs : Text) (words : List Text) → list_all is_plain ((b ∷ bs) ∷ words) ≡ true → nat_eq b 45 ≡ false
plain_first b bs words h = is_false (nat_eq b 45) (left (is_plain (b ∷ bs)) (list_all is_plain words) h)

plain_rest : (w : Text) (words : List Text) → list_all is_plain (w ∷ words) ≡ true → list_all is_plain words ≡ true
plain_rest w words h = right (is_plain w) (list_all is_plain words) h

replay_ties : (words : List Text) → list_all is_plain words ≡ true → Ties (faults_entered (codes "replay") words) (rows_entered (codes "replay") words) (replay_said words)
unfolding clap_on_literals
replay_ties [] h = refl
replay_ties ([] ∷ words) h = absurd (cc h)
replay_ties ((b ∷ bs) ∷ words) h = ties _ _ _ _ (replay_more b bs words (plain_first b bs words h)) refl

serve_ties : (words : List Text) → list_all is_plain words ≡ true → Ties (faults_entered (codes "serve") words) (rows_entered (codes "serve") words) (serve_said words)
serve_ties [] h = ties _ _ _ _ serve_none refl
serve_ties ([] ∷ words) h = absurd (cc h)
serve_ties ((b ∷ bs) ∷ []) h = ties _ _ _ _ (serve_one b bs (plain_first b bs [] h)) refl
serve_ties ((b ∷ bs) ∷ [] ∷ words) h = absurd (cc (plain_rest (b ∷ bs) ([] ∷ words) h))
serve_ties ((b ∷ bs) ∷ (c ∷ cs) ∷ []) h =
    let hb = plain_first b bs ((c ∷ cs) ∷ []) h in
    let hc = plain_first c cs [] (plain_rest (b ∷ bs) ((c ∷ cs) ∷ []) h) in
    ties _ _ _ _ (serve_two b c bs cs hb hc) (ap entered_line (serve_two_rows b c bs cs hb hc))
serve_ties ((b ∷ bs) ∷ (c ∷ cs) ∷ [] ∷ words) h =
    absurd (cc (plain_rest (c ∷ cs) ([] ∷ words) (plain_rest (b ∷ bs) ((c ∷ cs) ∷ [] ∷ words) h)))
serve_ties ((b ∷ bs) ∷ (c ∷ cs) ∷ (d ∷ ds) ∷ []) h =
    let r = plain_rest (b ∷ bs) ((c ∷ cs) ∷ (d ∷ ds) ∷ []) h in
    let hb = plain_first b bs ((c ∷ cs) ∷ (d ∷ ds) ∷ []) h in
    let hc = plain_first c cs ((d ∷ ds) ∷ []) r in
    let hd = plain_first d ds [] (plain_rest (c ∷ cs) ((d ∷ ds) ∷ []) r) in
    ties _ _ _ _ (serve_three b c d bs cs ds hb hc hd) (ap entered_line (serve_three_rows b c d bs cs ds hb hc hd))
serve_ties ((b ∷ bs) ∷ (c ∷ cs) ∷ (d ∷ ds) ∷ [] ∷ words) h =
    let r = plain_rest (b ∷ bs) ((c ∷ cs) ∷ (d ∷ ds) ∷ [] ∷ words) h in
    absurd (cc (plain_rest (d ∷ ds) ([] ∷ words) (plain_rest (c ∷ cs) ((d ∷ ds) ∷ [] ∷ words) r)))
serve_ties ((b ∷ bs) ∷ (c ∷ cs) ∷ (d ∷ ds) ∷ (e ∷ es) ∷ words) h =
    let r = plain_rest (b ∷ bs) ((c ∷ cs) ∷ (d ∷ ds) ∷ (e ∷ es) ∷ words) h in
    let r' = plain_rest (c ∷ cs) ((d ∷ ds) ∷ (e ∷ es) ∷ words) r in
    let r'' = plain_rest (d ∷ ds) ((e ∷ es) ∷ words) r' in
    ties _ _ _ _ (serve_more b c d e bs cs ds es words (plain_first b bs ((c ∷ cs) ∷ (d ∷ ds) ∷ (e ∷ es) ∷ words) h)
    (plain_first c cs ((d ∷ ds) ∷ (e ∷ es) ∷ words) r) (plain_first d ds ((e ∷ es) ∷ words) r') (plain_first e es words r'')) refl

soak_ties : (words : List Text) → list_all is_plain words ≡ true → Ties (faults_entered (codes "soak") words) (rows_entered (codes "soak") words) (soak_said words)
soak_ties [] h = ties _ _ _ _ soak_none refl
soak_ties ([] ∷ words) h = absurd (cc h)
soak_ties ((b ∷ bs) ∷ []) h = ties _ _ _ _ (soak_one b bs (plain_first b bs [] h)) refl
soak_ties ((b ∷ bs) ∷ [] ∷ words) h = absurd (cc (plain_rest (b ∷ bs) ([] ∷ words) h))
soak_ties ((b ∷ bs) ∷ (c ∷ cs) ∷ []) h =
    let hb = plain_first b bs ((c ∷ cs) ∷ []) h in
    let hc = plain_first c cs [] (plain_rest (b ∷ bs) ((c ∷ cs) ∷ []) h) in
    ties _ _ _ _ (soak_two b c bs cs hb hc) (ap entered_line (soak_two_rows b c bs cs hb hc))
soak_ties ((b ∷ bs) ∷ (c ∷ cs) ∷ [] ∷ words) h =
    absurd (cc (plain_rest (c ∷ cs) ([] ∷ words) (plain_rest (b ∷ bs) ((c ∷ cs) ∷ [] ∷ words) h)))
soak_ties ((b ∷ bs) ∷ (c ∷ cs) ∷ (d ∷ ds) ∷ words) h =
    let r = plain_rest (b ∷ bs) ((c ∷ cs) ∷ (d ∷ ds) ∷ words) h in
    let r' = plain_rest (c ∷ cs) ((d ∷ ds) ∷ words) r in
    ties _ _ _ _ (soak_more b c d bs cs ds words (plain_first b bs ((c ∷ cs) ∷ (d ∷ ds) ∷ words) h) (plain_first c cs ((d ∷ ds) ∷ words) r) (plain_first d ds words r')) refl

-- words whose first is the name of a command
abbrev pub TiesWords : List Text → Option CommandLine → Type 0
TiesWords words line = Ties (fault_of program_app words) (subcommand_of program_app words) line

entered_ties : (name : Text) (words : List Text) (line : Option CommandLine) → Enters name → Ties (faults_entered name words) (rows_entered name words) line
    → TiesWords (name ∷ words) line
entered_ties name words line enters h =
    ties _ _ _ _ (fault_enters name words enters)
    (subst (λ (rows : Option (Text × List Row)). Ties (faults_entered name words) rows line) (sym (rows_enters name words enters)) h)

-- two texts that are the same, and two that aren't, the other way round
same_text : (w t : Text) → bytes_eq w t ≡ true → w ≡ t
same_text w t h = (bytes_eq-Decides w t).0 h

other_text : (w t : Text) → bytes_eq w t ≡ false → bytes_eq t w ≡ false
other_text w t h = by_test (bytes_eq t w) refl
  where
    by_test : (v : Bool) → bytes_eq t w ≡ v → v ≡ false
    by_test true e =
        let back : bytes_eq w t ≡ true = (bytes_eq-Decides w t).1 (sym ((bytes_eq-Decides t w).0 e)) in
        cc (h, back)
    by_test false e = refl

named_ties : (name w : Text) (words : List Text) (line : Option CommandLine) → bytes_eq w name ≡ true → TiesWords (name ∷ words) line → TiesWords (w ∷ words) line
named_ties name w words line is h = subst (λ (x : Text). TiesWords (x ∷ words) line) (sym (same_text w name is)) h

stray_ties : (w : Text) (words : List Text) → is_plain w ≡ true → bytes_eq w (codes "replay") ≡ false → bytes_eq w (codes "serve") ≡ false
    → bytes_eq w (codes "soak") ≡ false → TiesWords (w ∷ words) None
stray_ties [] words plain r s k = absurd (cc plain)
stray_ties (b ∷ bs) words plain r s k =
    ties _ _ _ _ (stray_fault b bs words (is_false (nat_eq b 45) plain) (other_text (b ∷ bs) (codes "replay") r)
    (other_text (b ∷ bs) (codes "serve") s) (other_text (b ∷ bs) (codes "soak") k)) refl

by_name : (w : Text) (words : List Text) → list_all is_plain (w ∷ words) ≡ true → (r s k : Bool) → bytes_eq w (codes "replay") ≡ r
    → bytes_eq w (codes "serve") ≡ s → bytes_eq w (codes "soak") ≡ k
    → TiesWords (w ∷ words) (cond r (replay_said words) (cond s (serve_said words) (cond k (soak_said words) None)))
by_name w words plain true s k a b c =
    named_ties (codes "replay") w words (replay_said words) a (entered_ties (codes "replay") words (replay_said words) replay_enters (replay_ties words (plain_rest w words plain)))
by_name w words plain false true k a b c =
    named_ties (codes "serve") w words (serve_said words) b (entered_ties (codes "serve") words (serve_said words) serve_enters (serve_ties words (plain_rest w words plain)))
by_name w words plain false false true a b c =
    named_ties (codes "soak") w words (soak_said words) c (entered_ties (codes "soak") words (soak_said words) soak_enters (soak_ties words (plain_rest w words plain)))
by_name w words plain false false false a b c = stray_ties w words (left (is_plain w) (list_all is_plain words) plain) a b c

pub words_tie : (words : List Text) → list_all is_plain words ≡ true → TiesWords words (command_line_of words)
words_tie [] h = ties _ _ _ _ no_words refl
words_tie (w ∷ words) h =
    by_name w words h (bytes_eq w (codes "replay")) (bytes_eq w (codes "serve")) (bytes_eq w (codes "soak")) refl refl refl
