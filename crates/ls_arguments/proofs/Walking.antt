-- How clap walks over words of which none begins with `-`: it enters the command that the first one names, and gives the
-- others to it.
use Rattle.std.proofs.Common.{◌≡◌, ℕ, List, [], ◌∷◌, true, false, refl, sym, ◌∙◌, ap, ap₂, codes, nat_eq, Option, Some, None, fold, is_some}
use Rattle.std.specs.Str.{bytes_eq}
use Rattle.clap.specs.Lexer.{long_of, short_of}
use Rattle.clap.specs.Kinds.{Kinds, or_else}
use Rattle.clap.specs.Walk.{Row, Text, Walk, finished, nothing_held, reading_by, settled, walk, walk_from, walked}
use Rattle.clap.specs.Simple.{App, built, entered, filled, is_simple, names_of, new_rule, subcommand_of}
use Rattle.clap.specs.Faults.{check_fault, defaults_fault, entered_fault, fault_of, is_simple_and_free, settle_fault, turn_fault, walk_fault}
use Rattle.clap.specs.declared.error.kind.ErrorKind.TheVariants as kind
use Rattle.clap.specs.declared.parser.matches.ValueSource.TheVariants.{CommandLine}
use Rattle.clap.proofs.FaultLemmas.{stopped_fault}
use Rattle.clap.proofs.OnLiterals.{clap_on_literals}
use Rattle.clap.proofs.WalkLemmas.{walk_stopped}
use Rattle.ls_arguments.specs.Parser.{program_app}

-- the program as clap built it
abbrev whole : App
whole = built program_app

pub app_simple : is_simple program_app ≡ true
unfolding clap_on_literals
app_simple = refl

pub app_free : is_simple_and_free program_app ≡ true
unfolding clap_on_literals
app_free = refl

-- the walk that entered a command, to which these words are left
abbrev pub entered_walk : Text → List Text → Walk
entered_walk name words = record (walk_from nothing_held) { stopped = Some (name, words) }

-- the faults of a parse whose walk has these
abbrev pub faults_after : Walk → Kinds → Kinds
faults_after w faults = or_else faults
    (or_else (entered_fault whole w.stopped)
    (or_else (settle_fault whole.top.rules whole.top.args_override_self w.held)
    (or_else (defaults_fault (settled whole.top.rules w.held).rows whole.top.rules)
    (check_fault whole.top (finished whole.top.rules w.held) (is_some (entered whole w.stopped))))))

-- the first word enters a command
abbrev pub Enters : Text → Type 0
Enters name = (walked whole.top.rules (names_of whole) (walk_from nothing_held) name ≡ entered_walk name [])
    × (turn_fault whole.top (names_of whole) (walk_from nothing_held) name ≡ [])

pub replay_enters : Enters (codes "replay")
unfolding clap_on_literals
replay_enters = (refl, refl)

pub serve_enters : Enters (codes "serve")
unfolding clap_on_literals
serve_enters = (refl, refl)

pub soak_enters : Enters (codes "soak")
unfolding clap_on_literals
soak_enters = (refl, refl)

walk_enters : (name : Text) (words : List Text) → Enters name → walk whole.top.rules (names_of whole) nothing_held (name ∷ words) ≡ entered_walk name words
walk_enters name words h =
    ap (λ (w : Walk). fold (walked whole.top.rules (names_of whole)) w words) h.0
    ∙ sym (walk_stopped whole.top.rules (names_of whole) (walk_from nothing_held) name [] words)

pub fault_enters : (name : Text) (words : List Text) → Enters name → fault_of program_app (name ∷ words) ≡ faults_after (entered_walk name words) []
unfolding walk_fault
fault_enters name words h =
    ap₂ faults_after (walk_enters name words h)
    (ap₂ or_else h.1 (ap (λ (w : Walk). walk_fault whole.top (names_of whole) w words) h.0
    ∙ stopped_fault whole.top (names_of whole) (walk_from nothing_held) (name, []) words))

-- the command that was entered, with the rows of its values
abbrev pub rows_entered : Text → List Text → Option (Text × List Row)
rows_entered name words = entered whole (Some (name, words))

pub rows_enters : (name : Text) (words : List Text) → Enters name → subcommand_of program_app (name ∷ words) ≡ rows_entered name words
rows_enters name words h = ap (λ (w : Walk). entered whole w.stopped) (walk_enters name words h)

-- the faults of a command with these words
abbrev pub faults_entered : Text → List Text → Kinds
faults_entered name words = faults_after (entered_walk name words) []

-- the row of an argument with this value
abbrev pub row : Text → Text → Row
row id value = record {
  id = id;
  values = value ∷ [];
  count = None;
  source = Some CommandLine;
  reading = reading_by (filled (new_rule id));
}

-- no words
pub no_words : fault_of program_app [] ≡ kind.MissingSubcommand ∷ []
unfolding clap_on_literals
no_words = refl

-- a first word that is no command
stray : (w : Text) → bytes_eq (codes "replay") w ≡ false → bytes_eq (codes "serve") w ≡ false → bytes_eq (codes "soak") w ≡ false
    → bytes_eq w (45 ∷ 45 ∷ []) ≡ false → long_of w ≡ None → short_of w ≡ None
    → turn_fault whole.top (names_of whole) (walk_from nothing_held) w ≡ kind.UnknownArgument ∷ kind.InvalidSubcommand ∷ []
unfolding clap_on_literals
stray w r s k m l t = simp (r, s, k, m, l, t) refl

long_none : (b : ℕ) (bs : Text) → nat_eq b 45 ≡ false → long_of (b ∷ bs) ≡ None
long_none b bs h = simp h refl

short_none : (b : ℕ) (bs : Text) → nat_eq b 45 ≡ false → short_of (b ∷ bs) ≡ None
short_none b bs h = simp h refl

no_hyphens : (b : ℕ) (bs : Text) → nat_eq b 45 ≡ false → bytes_eq (b ∷ bs) (45 ∷ 45 ∷ []) ≡ false
no_hyphens b bs h = simp h refl

pub stray_fault : (b : ℕ) (bs : Text) (words : List Text) → nat_eq b 45 ≡ false → bytes_eq (codes "replay") (b ∷ bs) ≡ false
    → bytes_eq (codes "serve") (b ∷ bs) ≡ false → bytes_eq (codes "soak") (b ∷ bs) ≡ false
    → fault_of program_app ((b ∷ bs) ∷ words) ≡ kind.UnknownArgument ∷ kind.InvalidSubcommand ∷ []
unfolding walk_fault
stray_fault b bs words h r s k =
    ap (λ (kinds : Kinds). faults_after (walk whole.top.rules (names_of whole) nothing_held ((b ∷ bs) ∷ words))
    (or_else kinds (walk_fault whole.top (names_of whole) (walked whole.top.rules (names_of whole) (walk_from nothing_held) (b ∷ bs)) words)))
    (stray (b ∷ bs) r s k (no_hyphens b bs h) (long_none b bs h) (short_none b bs h))

-- `replay`
pub replay_alone : faults_entered (codes "replay") [] ≡ []
unfolding clap_on_literals
replay_alone = refl

pub replay_more : (b : ℕ) (bs : Text) (words : List Text) → nat_eq b 45 ≡ false → faults_entered (codes "replay") ((b ∷ bs) ∷ words) ≡ kind.UnknownArgument ∷ []
unfolding clap_on_literals
replay_more b bs words h = simp h refl

-- `serve`
pub serve_none : faults_entered (codes "serve") [] ≡ kind.MissingRequiredArgument ∷ []
unfolding clap_on_literals
serve_none = refl

pub serve_one : (b : ℕ) (bs : Text) → nat_eq b 45 ≡ false → faults_entered (codes "serve") ((b ∷ bs) ∷ []) ≡ kind.MissingRequiredArgument ∷ []
unfolding clap_on_literals
serve_one b bs h = simp h refl

pub serve_two : (b c : ℕ) (bs cs : Text) → nat_eq b 45 ≡ false → nat_eq c 45 ≡ false → faults_entered (codes "serve") ((b ∷ bs) ∷ (c ∷ cs) ∷ []) ≡ []
unfolding clap_on_literals
serve_two b c bs cs h k = simp (h, k) refl

pub serve_three : (b c d : ℕ) (bs cs ds : Text) → nat_eq b 45 ≡ false → nat_eq c 45 ≡ false → nat_eq d 45 ≡ false
    → faults_entered (codes "serve") ((b ∷ bs) ∷ (c ∷ cs) ∷ (d ∷ ds) ∷ []) ≡ []
unfolding clap_on_literals
serve_three b c d bs cs ds h k l = simp (h, k, l) refl

pub serve_more : (b c d e : ℕ) (bs cs ds es : Text) (words : List Text) → nat_eq b 45 ≡ false → nat_eq c 45 ≡ false → nat_eq d 45 ≡ false → nat_eq e 45 ≡ false
    → faults_entered (codes "serve") ((b ∷ bs) ∷ (c ∷ cs) ∷ (d ∷ ds) ∷ (e ∷ es) ∷ words) ≡ kind.UnknownArgument ∷ []
unfolding clap_on_literals
serve_more b c d e bs cs ds es words h k l m = simp (h, k, l, m) refl

pub serve_two_rows : (b c : ℕ) (bs cs : Text) → nat_eq b 45 ≡ false → nat_eq c 45 ≡ false
    → rows_entered (codes "serve") ((b ∷ bs) ∷ (c ∷ cs) ∷ []) ≡ Some (codes "serve", row (codes "port") (b ∷ bs) ∷ row (codes "feed") (c ∷ cs) ∷ [])
unfolding clap_on_literals
serve_two_rows b c bs cs h k = simp (h, k) refl

pub serve_three_rows : (b c d : ℕ) (bs cs ds : Text) → nat_eq b 45 ≡ false → nat_eq c 45 ≡ false → nat_eq d 45 ≡ false
    → rows_entered (codes "serve") ((b ∷ bs) ∷ (c ∷ cs) ∷ (d ∷ ds) ∷ [])
    ≡ Some (codes "serve", row (codes "port") (b ∷ bs) ∷ row (codes "feed") (c ∷ cs) ∷ row (codes "end") (d ∷ ds) ∷ [])
unfolding clap_on_literals
serve_three_rows b c d bs cs ds h k l = simp (h, k, l) refl

-- `soak`
pub soak_none : faults_entered (codes "soak") [] ≡ kind.MissingRequiredArgument ∷ []
unfolding clap_on_literals
soak_none = refl

pub soak_one : (b : ℕ) (bs : Text) → nat_eq b 45 ≡ false → faults_entered (codes "soak") ((b ∷ bs) ∷ []) ≡ kind.MissingRequiredArgument ∷ []
unfolding clap_on_literals
soak_one b bs h = simp h refl

pub soak_two : (b c : ℕ) (bs cs : Text) → nat_eq b 45 ≡ false → nat_eq c 45 ≡ false → faults_entered (codes "soak") ((b ∷ bs) ∷ (c ∷ cs) ∷ []) ≡ []
unfolding clap_on_literals
soak_two b c bs cs h k = simp (h, k) refl

pub soak_more : (b c d : ℕ) (bs cs ds : Text) (words : List Text) → nat_eq b 45 ≡ false → nat_eq c 45 ≡ false → nat_eq d 45 ≡ false
    → faults_entered (codes "soak") ((b ∷ bs) ∷ (c ∷ cs) ∷ (d ∷ ds) ∷ words) ≡ kind.UnknownArgument ∷ []
unfolding clap_on_literals
soak_more b c d bs cs ds words h k l = simp (h, k, l) refl

pub soak_two_rows : (b c : ℕ) (bs cs : Text) → nat_eq b 45 ≡ false → nat_eq c 45 ≡ false
    → rows_entered (codes "soak") ((b ∷ bs) ∷ (c ∷ cs) ∷ []) ≡ Some (codes "soak", row (codes "start") (b ∷ bs) ∷ row (codes "steps") (c ∷ cs) ∷ [])
unfolding clap_on_literals
soak_two_rows b c bs cs h k = simp (h, k) refl
