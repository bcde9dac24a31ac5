-- Lists of paths and entries as path maps.
use Rattle.std.proofs.Common.{◌≡◌, ◌≢◌, ℕ, ◌==◌, Bool, true, false, not, cond, List, [], ◌∷◌, ◌++◌, find, Some, None, Option, option_map, unwrap_or, refl, sym, ap, ◌∙◌, ne_eqb}
use Rattle.std.specs.Cmp.Lexicographic.{nat_list_cmp_total}
use Rattle.std.proofs.lemmas.Slice.Eq.{bytes_eq-Decides}
use Rattle.std.specs.Str.{bytes_eq}
use Rattle.std.specs.FinMap.{get, insert, remove, get-insert, get-remove, same_map, get-from_entries, from_entries, from_entries_push}
use Rattle.std.specs.FinMap as map_of
use Rattle.x86_64_model.specs.Entry.{used}
use Rattle.x86_64_model.specs.PathMap.{PathMap, entry, put}
use Rattle.x86_64_model.proofs.Lemmas.Paths.Puts.{path_cmp, path_exact, same_path, same_path_itself, same_path_false}
use Rattle.test_reference.specs.PathEntries.{pairs, paths_of_items, found_entry, without_entry}
use Rattle.test_reference.specs.declared.entries.PathEntry.{PathEntry}

-- ---- the test of the code is that of the map

pub same_path_is : (q p : List ℕ) → same_path q p ≡ bytes_eq p q
same_path_is q p = elim (bytes_eq p q) as (λ b. bytes_eq p q ≡ b → same_path q p ≡ b) [
  | true ↦ λ e. ap (same_path q) ((bytes_eq-Decides p q).0 e) ∙ same_path_itself q
  | false ↦ λ e. same_path_false q p (λ s. let t : bytes_eq p q ≡ true = (bytes_eq-Decides p q).1 (sym s) in cc)
] refl

pub find-pairs : (items : List PathEntry) (q : List ℕ) → map_of.find path_cmp q (pairs items) ≡ found_entry items q
find-pairs [] q = refl
find-pairs (x ∷ items) q = ap (λ b. cond b (Some x.word) (map_of.find path_cmp q (pairs items))) (same_path_is q x.path.items) ∙ by (bytes_eq x.path.items q) (find-pairs items q)
  where
    by : (b : Bool) → map_of.find path_cmp q (pairs items) ≡ found_entry items q → cond b (Some x.word) (map_of.find path_cmp q (pairs items)) ≡ option_map (λ item. item.word) (cond b (Some x) (find (λ item. bytes_eq item.path.items q) items))
    by true h = refl
    by false h = h

pub get-items : (items : List PathEntry) (q : List ℕ) → get (paths_of_items items) q ≡ found_entry items q
get-items items q = get-from_entries nat_list_cmp_total (pairs items) q ∙ find-pairs items q

pub entry_items : (items : List PathEntry) (q : List ℕ) → entry (paths_of_items items) q ≡ unwrap_or (found_entry items q) 0
unfolding entry
entry_items items q = ap (λ o. unwrap_or o 0) (get-items items q)

-- ---- writes

found-without : (items : List PathEntry) (q p : List ℕ) → found_entry (without_entry items q) p ≡ cond (same_path p q) None (found_entry items p)
found-without [] q p = by (same_path p q) None
  where
    by : (b : Bool) (o : Option ℕ) → o ≡ cond b o o
    by true o = refl
    by false o = refl
found-without (x ∷ items) q p = by (found-without items q p) (bytes_eq x.path.items q) refl
  where
    kept : found_entry (without_entry items q) p ≡ cond (same_path p q) None (found_entry items p) → (b : Bool) → bytes_eq x.path.items p ≡ b → bytes_eq x.path.items q ≡ false → option_map (λ item. item.word) (cond b (Some x) (find (λ item. bytes_eq item.path.items p) (without_entry items q))) ≡ cond (same_path p q) None (option_map (λ item. item.word) (cond b (Some x) (find (λ item. bytes_eq item.path.items p) items)))
    kept h true e n = ap (λ b. cond b None (Some x.word)) (sym (same_path_false p q (λ s. let t : true ≡ false = sym e ∙ ap (bytes_eq x.path.items) s ∙ n in cc)))
    kept h false e n = h

    gone : (b : Bool) → bytes_eq x.path.items p ≡ b → bytes_eq x.path.items q ≡ true → cond (same_path p q) None (found_entry items p) ≡ cond (same_path p q) None (option_map (λ item. item.word) (cond b (Some x) (find (λ item. bytes_eq item.path.items p) items)))
    gone true e t = let s : same_path p q ≡ true = ap (λ r. same_path r q) (sym ((bytes_eq-Decides x.path.items p).0 e) ∙ (bytes_eq-Decides x.path.items q).0 t) ∙ same_path_itself q in
        ap (λ b. cond b None (found_entry items p)) s ∙ ap (λ b. cond b None (Some x.word)) (sym s)
    gone false e t = refl

    by : found_entry (without_entry items q) p ≡ cond (same_path p q) None (found_entry items p) → (b : Bool) → bytes_eq x.path.items q ≡ b → found_entry (cond (not b) (x ∷ without_entry items q) (without_entry items q)) p ≡ cond (same_path p q) None (found_entry (x ∷ items) p)
    by h true t = h ∙ gone (bytes_eq x.path.items p) refl t
    by h false n = kept h (bytes_eq x.path.items p) refl n

pub items-without : (items : List PathEntry) (q : List ℕ) → paths_of_items (without_entry items q) ≡ remove (paths_of_items items) q
items-without items q = same_map nat_list_cmp_total path_exact _ _ (λ p.
    get-items (without_entry items q) p ∙ found-without items q p ∙ ap (cond (same_path p q) None) (sym (get-items items p)) ∙ sym (get-remove nat_list_cmp_total (paths_of_items items) q p))

pairs-append : (xs ys : List PathEntry) → pairs (xs ++ ys) ≡ pairs xs ++ pairs ys
pairs-append [] ys = refl
pairs-append (x ∷ xs) ys = ap (λ es. (x.path.items, x.word) ∷ es) (pairs-append xs ys)

-- an insertion forgets what stood there
insert-remove : (M : PathMap) (q : List ℕ) (e : ℕ) → insert (remove M q) q e ≡ insert M q e
insert-remove M q e = same_map nat_list_cmp_total path_exact _ _ (λ p.
    get-insert nat_list_cmp_total (remove M q) q e p ∙ ap (cond (same_path p q) (Some e)) (get-remove nat_list_cmp_total M q p) ∙ by (same_path p q) (get M p) ∙ sym (get-insert nat_list_cmp_total M q e p))
  where
    by : (b : Bool) (o : Option ℕ) → cond b (Some e) (cond b None o) ≡ cond b (Some e) o
    by true o = refl
    by false o = refl

pub put-unused : (items : List PathEntry) (q : List ℕ) (e : ℕ) → e ≡ 0 → paths_of_items (without_entry items q) ≡ put (paths_of_items items) q e
unfolding put used
put-unused items q e z = items-without items q ∙ sym (ap (λ b. cond (not b) (insert (paths_of_items items) q e) (remove (paths_of_items items) q)) (ap (λ x. x == 0) z))

pub put-used : (items : List PathEntry) (q : List ℕ) (x : PathEntry) → x.path.items ≡ q → x.word ≢ 0 → paths_of_items (without_entry items q ++ x ∷ []) ≡ put (paths_of_items items) q x.word
unfolding put used
put-used items q x at n = ap from_entries (pairs-append (without_entry items q) (x ∷ []) ∙ ap (λ r. pairs (without_entry items q) ++ (r, x.word) ∷ []) at)
    ∙ from_entries_push nat_list_cmp_total path_exact (pairs (without_entry items q)) q x.word (find-pairs (without_entry items q) q ∙ found-without items q q ∙ ap (λ b. cond b None (found_entry items q)) (same_path_itself q))
    ∙ ap (λ M. insert M q x.word) (items-without items q) ∙ insert-remove (paths_of_items items) q x.word
    ∙ sym (ap (λ b. cond (not b) (insert (paths_of_items items) q x.word) (remove (paths_of_items items) q)) (ne_eqb x.word 0 n))
