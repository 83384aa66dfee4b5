-- A chain of numbers that are linked both ways, as links change.
use Rattle.std.proofs.Common.{◌≡◌, ◌==◌, ℕ, ◌≤◌, List, [], ◌∷◌, ◌++◌, length, refl, sym, ◌∙◌, ap, arith, Bool, true, false, not, subst}
use Rattle.std.specs.List.{filter}
use Rattle.std.proofs.lemmas.Bool.{eqb-true, eq-eqb}
use Rattle.ls_links.specs.Nodes.{Each, Chain}

pub differs : (v : Bool) → v ≡ true → v ≡ false → ⊥
differs v t f = let x : true ≡ false = sym t ∙ f in cc

-- a number is none of these
abbrev pub Lacks : ℕ → List ℕ → Type 0
Lacks n xs = Each (λ x. x ≡ n → ⊥) xs

pub each_append : (P : ℕ → Type 0) (a b : List ℕ) → Each P a → Each P b → Each P (a ++ b)
each_append P [] b p q = q
each_append P (x ∷ a) b p q = (p.0, each_append P a b p.1 q)

pub each_left : (P : ℕ → Type 0) (a b : List ℕ) → Each P (a ++ b) → Each P a
each_left P [] b p = tt
each_left P (x ∷ a) b p = (p.0, each_left P a b p.1)

pub each_right : (P : ℕ → Type 0) (a b : List ℕ) → Each P (a ++ b) → Each P b
each_right P [] b p = p
each_right P (x ∷ a) b p = each_right P a b p.1

pub each_weaker : (P Q : ℕ → Type 0) (xs : List ℕ) → ((x : ℕ) → P x → Q x) → Each P xs → Each Q xs
each_weaker P Q [] h p = tt
each_weaker P Q (x ∷ xs) h p = (h x p.0, each_weaker P Q xs h p.1)

-- a node n is taken out: those on both sides of it are linked to each other
pub record Cuts (after before after' before' : ℕ → ℕ) (n : ℕ) : Type 0 where
  pub other_after : (z : ℕ) → (after z ≡ n → ⊥) → after' z ≡ after z
  pub other_before : (z : ℕ) → (before z ≡ n → ⊥) → before' z ≡ before z
  pub over : after' (before n) ≡ after n
  pub back : before' (after n) ≡ before n

pub cut_elsewhere : (f g f' g' : ℕ → ℕ) (n : ℕ) → Cuts f g f' g' n → (a : ℕ) (xs : List ℕ) (b : ℕ) → (a ≡ n → ⊥) → Lacks n xs → (b ≡ n → ⊥)
    → Chain f g a xs b → Chain f' g' a xs b
cut_elsewhere f g f' g' n cuts a [] b na lacks nb chain =
    (cuts.other_after a (λ e. nb (sym chain.0 ∙ e)) ∙ chain.0, cuts.other_before b (λ e. na (sym chain.1 ∙ e)) ∙ chain.1)
cut_elsewhere f g f' g' n cuts a (x ∷ xs) b na lacks nb chain = (
  (cuts.other_after a (λ e. lacks.0 (sym chain.0.0 ∙ e)) ∙ chain.0.0, cuts.other_before x (λ e. na (sym chain.0.1 ∙ e)) ∙ chain.0.1),
  cut_elsewhere f g f' g' n cuts x xs b lacks.0 lacks.1 nb chain.1,
)

pub cut_here : (f g f' g' : ℕ → ℕ) (n : ℕ) → Cuts f g f' g' n → (a : ℕ) (xs ys : List ℕ) (b : ℕ) → (a ≡ n → ⊥) → Lacks n xs → Lacks n ys
    → (b ≡ n → ⊥) → Chain f g a (xs ++ n ∷ ys) b → Chain f' g' a (xs ++ ys) b
cut_here f g f' g' n cuts a [] [] b na lx ly nb chain = (
  ap f' (sym chain.0.1) ∙ cuts.over ∙ chain.1.0,
  ap g' (sym chain.1.0) ∙ cuts.back ∙ chain.0.1,
)
cut_here f g f' g' n cuts a [] (y ∷ ys) b na lx ly nb chain = (
  (ap f' (sym chain.0.1) ∙ cuts.over ∙ chain.1.0.0, ap g' (sym chain.1.0.0) ∙ cuts.back ∙ chain.0.1),
  cut_elsewhere f g f' g' n cuts y ys b ly.0 ly.1 nb chain.1.1,
)
cut_here f g f' g' n cuts a (x ∷ xs) ys b na lx ly nb chain = (
  (cuts.other_after a (λ e. lx.0 (sym chain.0.0 ∙ e)) ∙ chain.0.0, cuts.other_before x (λ e. na (sym chain.0.1 ∙ e)) ∙ chain.0.1),
  cut_here f g f' g' n cuts x xs ys b lx.0 lx.1 ly nb chain.1,
)

-- a node n is put before a node t
pub record Puts (after before after' before' : ℕ → ℕ) (n t : ℕ) : Type 0 where
  pub other_after : (z : ℕ) → (after z ≡ t → ⊥) → (z ≡ n → ⊥) → after' z ≡ after z
  pub other_before : (z : ℕ) → (z ≡ t → ⊥) → (z ≡ n → ⊥) → before' z ≡ before z
  pub to : after' (before t) ≡ n
  pub from : before' n ≡ before t
  pub next : after' n ≡ t
  pub last : before' t ≡ n

pub put_elsewhere : (f g f' g' : ℕ → ℕ) (n t : ℕ) → Puts f g f' g' n t → (a : ℕ) (xs : List ℕ) (b : ℕ) → (a ≡ n → ⊥) → Lacks n xs → (b ≡ n → ⊥)
    → Lacks t xs → (b ≡ t → ⊥) → Chain f g a xs b → Chain f' g' a xs b
put_elsewhere f g f' g' n t puts a [] b na ln nb lt tb chain =
    (puts.other_after a (λ e. tb (sym chain.0 ∙ e)) na ∙ chain.0, puts.other_before b tb nb ∙ chain.1)
put_elsewhere f g f' g' n t puts a (x ∷ xs) b na ln nb lt tb chain = (
  (puts.other_after a (λ e. lt.0 (sym chain.0.0 ∙ e)) na ∙ chain.0.0, puts.other_before x lt.0 ln.0 ∙ chain.0.1),
  put_elsewhere f g f' g' n t puts x xs b ln.0 ln.1 nb lt.1 tb chain.1,
)

pub put_here : (f g f' g' : ℕ → ℕ) (n t : ℕ) → Puts f g f' g' n t → (a : ℕ) (xs : List ℕ) → (a ≡ n → ⊥) → Lacks n xs → Lacks t xs
    → Chain f g a xs t → Chain f' g' a (xs ++ n ∷ []) t
put_here f g f' g' n t puts a [] na ln lt chain =
    ((ap f' (sym chain.1) ∙ puts.to, puts.from ∙ chain.1), (puts.next, puts.last))
put_here f g f' g' n t puts a (x ∷ xs) na ln lt chain = (
  (puts.other_after a (λ e. lt.0 (sym chain.0.0 ∙ e)) na ∙ chain.0.0, puts.other_before x lt.0 ln.0 ∙ chain.0.1),
  put_here f g f' g' n t puts x xs ln.0 ln.1 lt.1 chain.1,
)

-- a chain is determined by its ends
pub chains_agree : (f g : ℕ → ℕ) (a : ℕ) (xs ys : List ℕ) (b : ℕ) → Lacks b xs → Lacks b ys → Chain f g a xs b → Chain f g a ys b → xs ≡ ys
chains_agree f g a [] [] b lx ly c d = refl
chains_agree f g a [] (y ∷ ys) b lx ly c d = absurd (ly.0 (sym d.0.0 ∙ c.0))
chains_agree f g a (x ∷ xs) [] b lx ly c d = absurd (lx.0 (sym c.0.0 ∙ d.0))
chains_agree f g a (x ∷ xs) (y ∷ ys) b lx ly c d =
    let same : y ≡ x = sym d.0.0 ∙ c.0.0 in
    let rest : Chain f g x ys b = subst (λ (z : ℕ). Chain f g z ys b) same d.1 in
    let tails : xs ≡ ys = chains_agree f g x xs ys b lx.1 ly.1 c.1 rest in
    cc

-- a chain doesn't come back to where it began
lacks_part : (f g : ℕ → ℕ) (x : ℕ) (ys : List ℕ) (b : ℕ) → Lacks b ys → Chain f g x ys b → (w : ℕ) (zs : List ℕ) → length zs ≤ length ys → Lacks b zs
    → Chain f g w zs b → Lacks x zs
lacks_part f g x ys b ly c w [] le lz d = tt
lacks_part f g x ys b ly c w (z ∷ zs) le lz d = (
  λ e.
      let same : ys ≡ zs = chains_agree f g x ys zs b ly lz.1 c (subst (λ (v : ℕ). Chain f g v zs b) e d.1) in
      let n : length ys ≡ length zs = ap length same in
      absurd (omega arith),
  lacks_part f g x ys b ly c z zs (omega arith) lz.1 d.1,
)

pub lacks_start : (f g : ℕ → ℕ) (x : ℕ) (ys : List ℕ) (b : ℕ) → Lacks b ys → Chain f g x ys b → Lacks x ys
lacks_start f g x ys b ly c = lacks_part f g x ys b ly c x ys (omega arith) ly c

-- so a node of a chain is in it once
pub chain_right : (f g : ℕ → ℕ) (a : ℕ) (xs : List ℕ) (n : ℕ) (ys : List ℕ) (b : ℕ) → Chain f g a (xs ++ n ∷ ys) b → Chain f g n ys b
chain_right f g a [] n ys b c = c.1
chain_right f g a (x ∷ xs) n ys b c = chain_right f g x xs n ys b c.1

pub once_behind : (f g : ℕ → ℕ) (a : ℕ) (xs : List ℕ) (n : ℕ) (ys : List ℕ) (b : ℕ) → Lacks b (xs ++ n ∷ ys) → Chain f g a (xs ++ n ∷ ys) b → Lacks n ys
once_behind f g a xs n ys b l c = lacks_start f g n ys b (each_right (λ x. x ≡ b → ⊥) xs (n ∷ ys) l).1 (chain_right f g a xs n ys b c)

in_append : (xs : List ℕ) (n : ℕ) (ys : List ℕ) (x : ℕ) → Lacks x (xs ++ n ∷ ys) → n ≡ x → ⊥
in_append xs n ys x l e = (each_right (λ z. z ≡ x → ⊥) xs (n ∷ ys) l).0 e

pub once_before : (f g : ℕ → ℕ) (a : ℕ) (xs : List ℕ) (n : ℕ) (ys : List ℕ) (b : ℕ) → Lacks b (xs ++ n ∷ ys) → Chain f g a (xs ++ n ∷ ys) b → Lacks n xs
once_before f g a [] n ys b l c = tt
once_before f g a (x ∷ xs) n ys b l c = (
  λ e. in_append xs n ys x (lacks_start f g x (xs ++ n ∷ ys) b l.1 c.1) (sym e),
  once_before f g x xs n ys b l.1 c.1,
)

-- a list of numbers without one
abbrev pub but : ℕ → List ℕ → List ℕ
but n xs = filter (λ x. not (x == n)) xs

pub unlike : (x n : ℕ) → (x ≡ n → ⊥) → (x == n) ≡ false
unlike x n h = by_test (x == n) refl
  where
    by_test : (v : Bool) → (x == n) ≡ v → v ≡ false
    by_test true e = absurd (h (eqb-true x n e))
    by_test false e = refl

pub but_lacking : (n : ℕ) (xs : List ℕ) → Lacks n xs → but n xs ≡ xs
but_lacking n [] l = refl
but_lacking n (x ∷ xs) l = rw (unlike x n l.0) (ap (λ (zs : List ℕ). x ∷ zs) (but_lacking n xs l.1))

pub but_here : (n : ℕ) (xs ys : List ℕ) → Lacks n xs → Lacks n ys → but n (xs ++ n ∷ ys) ≡ xs ++ ys
but_here n [] ys l m = rw (eq-eqb n n refl) (but_lacking n ys m)
but_here n (x ∷ xs) ys l m = rw (unlike x n l.0) (ap (λ (zs : List ℕ). x ∷ zs) (but_here n xs ys l.1 m))

-- the nodes on both sides of one of a chain are linked to it, and are of what all are
pub record Beside (f g : ℕ → ℕ) (P : ℕ → Type 0) (n : ℕ) : Type 0 where
  pub before : f (g n) ≡ n
  pub after : g (f n) ≡ n
  pub left : P (g n)
  pub right : P (f n)

beside_first : (f g : ℕ → ℕ) (P : ℕ → Type 0) (a n : ℕ) (ys : List ℕ) (b : ℕ) → P a → Each P ys → P b → f a ≡ n → g n ≡ a → Chain f g n ys b → Beside f g P n
beside_first f g P a n [] b pa py pb e h c =
    record { before = ap f h ∙ e; after = ap g c.0 ∙ c.1; left = subst P (sym h) pa; right = subst P (sym c.0) pb }
beside_first f g P a n (y ∷ ys) b pa py pb e h c =
    record { before = ap f h ∙ e; after = ap g c.0.0 ∙ c.0.1; left = subst P (sym h) pa; right = subst P (sym c.0.0) py.0 }

pub beside : (f g : ℕ → ℕ) (P : ℕ → Type 0) (a : ℕ) (xs : List ℕ) (n : ℕ) (ys : List ℕ) (b : ℕ) → P a → Each P (xs ++ n ∷ ys) → P b
    → Chain f g a (xs ++ n ∷ ys) b → Beside f g P n
beside f g P a [] n ys b pa p pb c = beside_first f g P a n ys b pa p.1 pb c.0.0 c.0.1 c.1
beside f g P a (x ∷ xs) n ys b pa p pb c = beside f g P x xs n ys b p.0 p.1 pb c.1

-- and so is the last one
pub record Last (f g : ℕ → ℕ) (P : ℕ → Type 0) (b : ℕ) : Type 0 where
  pub before : f (g b) ≡ b
  pub left : P (g b)

pub last_of : (f g : ℕ → ℕ) (P : ℕ → Type 0) (a : ℕ) (xs : List ℕ) (b : ℕ) → P a → Each P xs → Chain f g a xs b → Last f g P b
last_of f g P a [] b pa p c = record { before = ap f c.1 ∙ c.0; left = subst P (sym c.1) pa }
last_of f g P a (x ∷ xs) b pa p c = last_of f g P x xs b p.0 p.1 c.1
