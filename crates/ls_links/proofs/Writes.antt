-- What each write of a node leaves of the others, and the rings of lists after one is taken out or put in.
use Rattle.std.proofs.Common.{◌≡◌, ◌==◌, ℕ, ◌<◌, List, length, set, refl, sym, ◌∙◌, ap, arith, Bool, true, false}
use Rattle.std.proofs.lemmas.Bool.{eqb-true, eq-eqb}
use Rattle.std.proofs.lemmas.List.{get_or-set_same, get_or-set_other, length-set}
use Rattle.ls_links.specs.declared.node.Node.{Node}
use Rattle.ls_links.specs.Nodes.{node_of, after_of, before_of, with_after, detached, attached, alone}
use Rattle.ls_links.proofs.Chaining.{Cuts, Puts}

-- a write that keeps a field of its node keeps that of each
pub field_kept : {X : Type 0} (F : Node → X) (ns : List Node) (n : ℕ) (v : Node) → n < length ns → F v ≡ F (node_of ns n) → (z : ℕ)
    → F (node_of (set ns n v) z) ≡ F (node_of ns z)
field_kept F ns n v in' same z = by_test (z == n) refl
  where
    by_test : (b : Bool) → (z == n) ≡ b → F (node_of (set ns n v) z) ≡ F (node_of ns z)
    by_test true e = rw (eqb-true z n e) (ap F (get_or-set_same ns n v (alone 0) in') ∙ same)
    by_test false e = ap F (get_or-set_other ns n z v (alone 0) (λ q. let t : (z == n) ≡ true = eq-eqb z n q in cc))

pub field_written : {X : Type 0} (F : Node → X) (ns : List Node) (n : ℕ) (v : Node) → n < length ns → F (node_of (set ns n v) n) ≡ F v
field_written F ns n v in' = ap F (get_or-set_same ns n v (alone 0) in')

pub field_other : {X : Type 0} (F : Node → X) (ns : List Node) (n : ℕ) (v : Node) (z : ℕ) → (z ≡ n → ⊥) → F (node_of (set ns n v) z) ≡ F (node_of ns z)
field_other F ns n v z ne = ap F (get_or-set_other ns n z v (alone 0) ne)

-- a node is taken out
pub record IsBetween (ns : List Node) (n : ℕ) : Type 0 where
  pub before : after_of ns (before_of ns n) ≡ n
  pub after : before_of ns (after_of ns n) ≡ n
  pub left : before_of ns n < length ns
  pub right : after_of ns n < length ns

pub detached_length : (n : ℕ) (ns : List Node) → length (detached n ns) ≡ length ns
detached_length n ns =
    length-set (with_after (before_of ns n) (after_of ns n) ns) (after_of ns n) _ ∙ length-set ns (before_of ns n) _

-- a field that isn't a link stays
pub detached_keeps : {X : Type 0} (F : Node → X) → ((m : Node) (a : ℕ) → F (record m { after = a }) ≡ F m)
    → ((m : Node) (a : ℕ) → F (record m { before = a }) ≡ F m) → (n : ℕ) (ns : List Node) → IsBetween ns n → (z : ℕ)
    → F (node_of (detached n ns) z) ≡ F (node_of ns z)
detached_keeps F ka kb n ns b z =
    let p = before_of ns n in
    let q = after_of ns n in
    let mid = with_after p q ns in
    let l : length mid ≡ length ns = length-set ns p _ in
    let r : q < length ns = b.right in
    field_kept F mid q _ (omega arith) (kb (node_of mid q) p) z ∙ field_kept F ns p _ b.left (ka (node_of ns p) q) z

pub detached_cuts : (n : ℕ) (ns : List Node) → IsBetween ns n → Cuts (after_of ns) (before_of ns) (after_of (detached n ns)) (before_of (detached n ns)) n
detached_cuts n ns b =
    let p = before_of ns n in
    let q = after_of ns n in
    let mid = with_after p q ns in
    let l : length mid ≡ length ns = length-set ns p _ in
    let r : q < length mid = (let r : q < length ns = b.right in omega arith) in
    let keeps_after : (z : ℕ) → after_of (detached n ns) z ≡ after_of mid z = field_kept (λ m. m.after) mid q _ r refl in
    let keeps_before : (z : ℕ) → before_of mid z ≡ before_of ns z = field_kept (λ m. m.before) ns p _ b.left refl in
    record {
      other_after = λ z h. keeps_after z ∙ field_other (λ m. m.after) ns p _ z (λ e. h (ap (after_of ns) e ∙ b.before));
      other_before = λ z h. field_other (λ m. m.before) mid q _ z (λ e. h (ap (before_of ns) e ∙ b.after)) ∙ keeps_before z;
      over = keeps_after p ∙ field_written (λ m. m.after) ns p _ b.left;
      back = field_written (λ m. m.before) mid q _ r;
    }

-- a node is put last
pub record IsPutAt (ns : List Node) (t n : ℕ) : Type 0 where
  pub before : after_of ns (before_of ns t) ≡ t
  pub left : before_of ns t < length ns
  pub list : t < length ns
  pub node : n < length ns
  pub apart : n ≡ t → ⊥
  pub other : n ≡ before_of ns t → ⊥

pub attached_length : (t n : ℕ) (ns : List Node) → length (attached t n ns) ≡ length ns
attached_length t n ns =
    let a = with_after (before_of ns t) n ns in
    length-set (set a n (record (node_of a n) { after = t; before = before_of ns t; list = t })) t _ ∙ length-set a n _ ∙ length-set ns (before_of ns t) _

pub attached_other : {X : Type 0} (F : Node → X) → ((m : Node) (a : ℕ) → F (record m { after = a }) ≡ F m)
    → ((m : Node) (a : ℕ) → F (record m { before = a }) ≡ F m) → (t n : ℕ) (ns : List Node) → IsPutAt ns t n → (z : ℕ) → (z ≡ n → ⊥)
    → F (node_of (attached t n ns) z) ≡ F (node_of ns z)
attached_other F ka kb t n ns b z zn =
    let p = before_of ns t in
    let a = with_after p n ns in
    let m = set a n (record (node_of a n) { after = t; before = p; list = t }) in
    let l : length m ≡ length ns = length-set a n _ ∙ length-set ns p _ in
    let in' : t < length m = (let r : t < length ns = b.list in omega arith) in
    field_kept F m t _ in' (kb (node_of m t) n) z ∙ field_other F a n _ z zn ∙ field_kept F ns p _ b.left (ka (node_of ns p) n) z

pub attached_list : (t n : ℕ) (ns : List Node) → IsPutAt ns t n → (node_of (attached t n ns) n).list ≡ t
attached_list t n ns b =
    let p = before_of ns t in
    let a = with_after p n ns in
    let m = set a n (record (node_of a n) { after = t; before = p; list = t }) in
    let la : length a ≡ length ns = length-set ns p _ in
    let l : length m ≡ length ns = length-set a n _ ∙ la in
    let in' : t < length m = (let r : t < length ns = b.list in omega arith) in
    let in'' : n < length a = (let r : n < length ns = b.node in omega arith) in
    field_kept (λ x. x.list) m t _ in' refl n ∙ field_written (λ x. x.list) a n _ in''

pub attached_value : (t n : ℕ) (ns : List Node) → IsPutAt ns t n → (node_of (attached t n ns) n).value ≡ (node_of ns n).value
attached_value t n ns b =
    let p = before_of ns t in
    let a = with_after p n ns in
    let m = set a n (record (node_of a n) { after = t; before = p; list = t }) in
    let la : length a ≡ length ns = length-set ns p _ in
    let l : length m ≡ length ns = length-set a n _ ∙ la in
    let in' : t < length m = (let r : t < length ns = b.list in omega arith) in
    let in'' : n < length a = (let r : n < length ns = b.node in omega arith) in
    field_kept (λ x. x.value) m t _ in' refl n ∙ field_written (λ x. x.value) a n _ in'' ∙ field_kept (λ x. x.value) ns p _ b.left refl n

pub attached_puts : (t n : ℕ) (ns : List Node) → IsPutAt ns t n
    → Puts (after_of ns) (before_of ns) (after_of (attached t n ns)) (before_of (attached t n ns)) n t
attached_puts t n ns b =
    let p = before_of ns t in
    let a = with_after p n ns in
    let m = set a n (record (node_of a n) { after = t; before = p; list = t }) in
    let la : length a ≡ length ns = length-set ns p _ in
    let l : length m ≡ length ns = length-set a n _ ∙ la in
    let in' : t < length m = (let r : t < length ns = b.list in omega arith) in
    let in'' : n < length a = (let r : n < length ns = b.node in omega arith) in
    let keeps_after : (z : ℕ) → after_of (attached t n ns) z ≡ after_of m z = field_kept (λ x. x.after) m t _ in' refl in
    let keeps_before : (z : ℕ) → before_of a z ≡ before_of ns z = field_kept (λ x. x.before) ns p _ b.left refl in
    record {
      other_after = λ z h zn.
          keeps_after z ∙ field_other (λ x. x.after) a n _ z zn ∙ field_other (λ x. x.after) ns p _ z (λ e. h (ap (after_of ns) e ∙ b.before));
      other_before = λ z zt zn. field_other (λ x. x.before) m t _ z zt ∙ field_other (λ x. x.before) a n _ z zn ∙ keeps_before z;
      to = keeps_after p ∙ field_other (λ x. x.after) a n _ p (λ e. b.other (sym e)) ∙ field_written (λ x. x.after) ns p _ b.left;
      from = field_other (λ x. x.before) m t _ n b.apart ∙ field_written (λ x. x.before) a n _ in'';
      next = keeps_after n ∙ field_written (λ x. x.after) a n _ in'';
      last = field_written (λ x. x.before) m t _ in';
    }
