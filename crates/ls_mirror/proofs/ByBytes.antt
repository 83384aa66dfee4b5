-- A tree of rows by `String`, seen as a finite map from bytes.
use Rattle.std.proofs.Common.{◌≡◌, ℕ, cond, List, [], ◌∷◌, Some, None, String, string_bytes, sym, refl, ap, ◌∙◌, length, arith}
use Rattle.std.proofs.lemmas.List.{length-map}
use Rattle.std.specs.BTreeMap.{BTreeMap, UpdatesBy, get_by_text, is_at}
use Rattle.std.specs.Map.{lookup}
use Rattle.std.specs.String.{string_cmp}
use Rattle.std.specs.Str.{bytes_eq}
use Rattle.std.specs.Ordering.{nat_cmp, eq_by_cmp}
use Rattle.std.specs.Cmp.{eq_by_cmp_equiv}
use Rattle.std.specs.Cmp.Lexicographic.{slice_cmp, nat_list_cmp_total}
use Rattle.std.specs.FinMap as finite
use Rattle.std.specs.FinMap.{slice_cmp-IsAntisymmetric, nat_cmp-IsAntisymmetric, same_map, get-insert, get-remove, get-from_entries, entries-insert}
use Rattle.std.specs.FinMap.{len-entries, len-empty, put}
use Rattle.std.specs.List.Sorted.{IsStrictlySortedBy}
use Rattle.std.specs.BTreeMap.{IsOrdered}
use Rattle.std.specs.Map.{keys_of}
use Rattle.std.proofs.lemmas.Map.Text.{btree_map_updates_text, is_eq-slice_cmp}
use Rattle.ls_value.specs.declared.row.Value.{Value}
use Rattle.ls_mirror.specs.Keys.{by_bytes, rows_by_key}

found : {Y : Type 0} (q : List ℕ) (es : List (String Y × List Value)) → finite.find (slice_cmp nat_cmp) q (by_bytes es)
    ≡ lookup (is_at (λ k. slice_cmp nat_cmp q (string_bytes k))) es
found q [] = refl
found q (e ∷ es) = ap (cond (eq_by_cmp (slice_cmp nat_cmp) q (string_bytes e.0)) (Some e.1)) (found q es)

pub get_rows : {Y : Type 0} (rows : BTreeMap (String Y) (List Value)) (q : List ℕ) → finite.get (rows_by_key rows) q ≡ get_by_text rows q
get_rows rows q = get-from_entries nat_list_cmp_total _ q ∙ found q rows.entries

both_ways : (a b : List ℕ) → eq_by_cmp (slice_cmp nat_cmp) a b ≡ bytes_eq b a
both_ways a b = (eq_by_cmp_equiv nat_list_cmp_total).symm a b ∙ is_eq-slice_cmp b a

pub after_set : {Y : Type 0} (m n : BTreeMap (String Y) (List Value)) (bs : List ℕ) (row : List Value)
    → UpdatesBy string_cmp (λ k. slice_cmp nat_cmp bs (string_bytes k)) m n (Some row) → rows_by_key n ≡ finite.insert (rows_by_key m) bs row
after_set m n bs row h = same_map nat_list_cmp_total (slice_cmp-IsAntisymmetric nat_cmp-IsAntisymmetric) _ _ (λ q.
    get_rows n q ∙ btree_map_updates_text bs m n (Some row) h q
    ∙ ap (λ b. cond b (Some row) (get_by_text m q)) (sym (both_ways q bs))
    ∙ ap (λ o. cond (eq_by_cmp (slice_cmp nat_cmp) q bs) (Some row) o) (sym (get_rows m q))
    ∙ sym (get-insert nat_list_cmp_total (rows_by_key m) bs row q))

pub after_remove : {Y : Type 0} (m n : BTreeMap (String Y) (List Value)) (bs : List ℕ)
    → UpdatesBy string_cmp (λ k. slice_cmp nat_cmp bs (string_bytes k)) m n None → rows_by_key n ≡ finite.remove (rows_by_key m) bs
after_remove m n bs h = same_map nat_list_cmp_total (slice_cmp-IsAntisymmetric nat_cmp-IsAntisymmetric) _ _ (λ q.
    get_rows n q ∙ btree_map_updates_text bs m n None h q
    ∙ ap (λ b. cond b None (get_by_text m q)) (sym (both_ways q bs))
    ∙ ap (λ o. cond (eq_by_cmp (slice_cmp nat_cmp) q bs) None o) (sym (get_rows m q))
    ∙ sym (get-remove nat_list_cmp_total (rows_by_key m) bs q))

put_first : {Y : Type 0} (k : String Y) (v : List Value) (es : List (String Y × List Value)) → IsStrictlySortedBy string_cmp (k ∷ keys_of es)
    → put (slice_cmp nat_cmp) (string_bytes k) v (by_bytes es) ≡ (string_bytes k, v) ∷ by_bytes es
unfolding IsStrictlySortedBy
put_first k v [] sorted = refl
put_first k v (e ∷ es) sorted = rw sorted.0.0 refl

none_long : {X : Type 0} (xs : List X) → length xs ≡ 0 → xs ≡ []
none_long [] e = refl
none_long (x ∷ xs) e = absurd (omega (arith, e))

kept_entries : {Y : Type 0} (es : List (String Y × List Value)) → IsStrictlySortedBy string_cmp (keys_of es)
    → finite.entries (finite.from_entries {R = slice_cmp nat_cmp} (by_bytes es)) ≡ by_bytes es
unfolding IsStrictlySortedBy
kept_entries [] sorted = none_long _ (sym (len-entries finite.empty) ∙ len-empty (slice_cmp nat_cmp) (List Value))
kept_entries (e ∷ es) sorted =
    entries-insert nat_list_cmp_total (finite.from_entries (by_bytes es)) (string_bytes e.0) e.1
    ∙ ap (put (slice_cmp nat_cmp) (string_bytes e.0) e.1) (kept_entries es sorted.1)
    ∙ put_first e.0 e.1 es sorted

-- the keys, one for each entry
pub len_rows : {Y : Type 0} (rows : BTreeMap (String Y) (List Value)) → IsOrdered string_cmp rows → finite.len (rows_by_key rows) ≡ length rows.entries
len_rows rows sorted = len-entries (rows_by_key rows) ∙ ap length (kept_entries rows.entries sorted) ∙ length-map rows.entries _
