-- What is known of a world after a step, and how many lines there were.
use Rattle.std.proofs.Common.{◌≡◌, ℕ, zero, suc, List, [], ◌∷◌, ◌++◌, map, refl, ◌∙◌, ap, Some, None}
use Rattle.std.proofs.lemmas.List.{map-append}
use Rattle.ls_event.specs.declared.event.Entry.{Entry}
use Rattle.ls_request.specs.declared.request.LinkKind.{LinkKind}
use Rattle.ls_request.specs.declared.request.LinkKind.TheVariants as link
use Rattle.ls_step.specs.declared.step.Step.{Step}
use Rattle.ls_step.specs.declared.step.Step.TheVariants as step
use Rattle.ls_step.specs.Grammar.{Known, known_after}
use Rattle.ls_world.specs.World.{World, Connection}
use Rattle.ls_record.specs.Records.{Item, change}
use Rattle.ls_record.specs.Records.{grown}
use Rattle.ls_world.specs.Steps.{connects, does}
use Rattle.ls_world.specs.Script.{known_of}
use Rattle.ls_world.proofs.Unmoved.{Unlinked, declared_by, does_unmoved}

-- a connection keeps its name
names_kept : (n session epoch : ℕ) (cs : List Connection)
    → map (λ (c : Connection). c.name) (change n (λ c. record c { session = Some session; epoch = epoch }) cs)
    ≡ map (λ (c : Connection). c.name) cs
names_kept n session epoch [] = refl
names_kept zero session epoch (c ∷ cs) = refl
names_kept (suc n) session epoch (c ∷ cs) = ap (λ ns. c.name ∷ ns) (names_kept n session epoch cs)

-- and an item its definition
definitions_kept : (n : ℕ) (e : Entry) (items : List Item) → map (λ (i : Item). i.definition) (change n (grown e) items)
    ≡ map (λ (i : Item). i.definition) items
definitions_kept n e [] = refl
definitions_kept zero e (i ∷ items) = refl
definitions_kept (suc n) e (i ∷ items) = ap (λ ds. i.definition ∷ ds) (definitions_kept n e items)

-- it is known of a world
abbrev Knows : Known → World → Type 0
Knows k w = known_of w ≡ k

knows_unlinked : (k : Known) → Unlinked (Knows k)
knows_unlinked k =
    record {
      rest = record {
        sessions = λ w ss p. p;
        grows = λ w item e p. ap (λ ds. record (known_of w) { items = ds }) (definitions_kept item e w.items) ∙ p;
      };
      links = λ w connection session epoch p.
          ap (λ ns. record (known_of w) { connections = ns }) (names_kept connection session epoch w.connections) ∙ p;
    }

connects_known : (w : World) (name : List ℕ) (l : LinkKind) → known_of (connects w name l)
    ≡ record (known_of w) { connections = (known_of w).connections ++ name ∷ [] }
connects_known w name l =
    ap (λ ns. record (known_of w) { connections = ns }) (map-append (λ (c : Connection). c.name) w.connections
    (record { name = name; link = l; session = None; epoch = 0 } ∷ []))

declared_known : (w : World) (s : Step) → known_of (declared_by w s) ≡ known_after (known_of w) s
declared_known w (step.Set name) = refl
declared_known w (step.Item name k fields) =
    ap (λ ds. record (known_of w) { items = ds }) (map-append (λ (i : Item). i.definition) w.items
    (record { definition = record { name = name; kind = k; fields = fields }; history = [] } ∷ []))
declared_known w (step.Tick ms) = refl
declared_known w (step.Conn name l) = connects_known w name l
declared_known w (step.Open name) = connects_known w name link.Ws
declared_known w (step.Add connection words) = refl
declared_known w (step.Request connection name parameters) = refl
declared_known w (step.Publish adapter seq item cells) = refl
declared_known w (step.Clear adapter seq item) = refl
declared_known w (step.Enqueue connection sub rank) = refl
declared_known w (step.Take connection) = refl
declared_known w (step.Lose connection) = refl

-- what is known after a step is what the step declares
pub known_does : (w : World) (s : Step) (times : ℕ) → known_of (does w s times).after ≡ known_after (known_of w) s
known_does w s times = does_unmoved (Knows (known_after (known_of w) s)) (knows_unlinked (known_after (known_of w) s)) w s times (declared_known w s)

-- no step changes the number of lines that were read
abbrev Counts : ℕ → World → Type 0
Counts n w = w.line ≡ n

declared_counts : (w : World) (s : Step) → Counts w.line (declared_by w s)
declared_counts w (step.Set name) = refl
declared_counts w (step.Item name k fields) = refl
declared_counts w (step.Tick ms) = refl
declared_counts w (step.Conn name l) = refl
declared_counts w (step.Open name) = refl
declared_counts w (step.Add connection words) = refl
declared_counts w (step.Request connection name parameters) = refl
declared_counts w (step.Publish adapter seq item cells) = refl
declared_counts w (step.Clear adapter seq item) = refl
declared_counts w (step.Enqueue connection sub rank) = refl
declared_counts w (step.Take connection) = refl
declared_counts w (step.Lose connection) = refl

pub does_counts : (w : World) (s : Step) (times : ℕ) → (does w s times).after.line ≡ w.line
does_counts w s times =
    does_unmoved (Counts w.line)
    (record { rest = record { sessions = λ v ss p. p; grows = λ v item e p. p }; links = λ v connection session epoch p. p }) w s times
    (declared_counts w s)
