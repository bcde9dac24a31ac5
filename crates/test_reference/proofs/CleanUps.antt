-- Clean up: spans, parents in range, keys, and the order of the frames.
use Rattle.std.proofs.Common.{◌≡◌, ◌≢◌, ℕ, zero, suc, ◌+◌, ◌*◌, ◌-◌, ◌<◌, ◌≤◌, ◌^◌, ◌&&◌, cond, List, [], ◌∷◌, ◌++◌, length, take, map, filter, fold, Bool, true, false, None, is_some, refl, sym, ap, ◌∙◌, append_assoc, append-nil, arith}
use Rattle.std.specs.List.{list_all, list_any, flat_map, range_with_len}
use Rattle.std.proofs.lemmas.Bool.{and_parts, false_from_ne_true}
use Rattle.std.proofs.lemmas.Bool.Decides.{same_from_decides}
use Rattle.std.proofs.lemmas.List.Folds.{list_all-map}
use Rattle.std.specs.FinMap.{keys, from_entries, retain_keys, contains_key-keys, get-retain_keys, get-from_entries, same_map}
use Rattle.std.specs.FinMap.Entries.{is_some-find, find-where_key}
use Rattle.std.specs.Cmp.Lexicographic.{nat_list_cmp_total}
use Rattle.std.proofs.Common.{Equal}
use Rattle.x86_64_model.specs.Entry.{address}
use Rattle.x86_64_model.specs.Path.{parents, indices, paths_below}
use Rattle.x86_64_model.specs.PathMap.{PathMap, entry}
use Rattle.x86_64_model.specs.CleanUp.{in_range, is_removed}
use Rattle.test_reference.specs.PathEntries.{pairs, paths_of_items}
use Rattle.test_reference.specs.Cleaning.{frames}
use Rattle.test_reference.specs.declared.entries.PathEntry.{PathEntry}
use Rattle.x86_64_model.proofs.Lemmas.Paths.Puts.{path_cmp, same_path, path_exact}
use Rattle.x86_64_model.proofs.Lemmas.CleanUps.Keys.{all_at, all_from}
use Rattle.x86_64_model.proofs.Lemmas.CleanUps.Removed.{removed_gives}
use Rattle.test_reference.proofs.Parents.{rest, rest_more}

-- ---- the number that indices write

abbrev digits : ℕ → List ℕ → ℕ
digits n q = fold (λ n i. n * 512 + i) n q

grows : (a n : ℕ) (q : List ℕ) → a ≤ n → a ≤ digits n q
grows a n [] h = h
grows a n (i ∷ q) h = grows a (n * 512 + i) q (omega arith)

pub number_past_product : (n i : ℕ) (q : List ℕ) → 2 ^ 64 ≤ n * 512 → 2 ^ 64 ≤ fold (λ n i. n * 512 + i) n (i ∷ q)
number_past_product n i q h = grows (2 ^ 64) (n * 512 + i) q (omega arith)

pub number_past_sum : (n m i : ℕ) (q : List ℕ) → m ≡ n * 512 → 2 ^ 64 ≤ m + i → 2 ^ 64 ≤ fold (λ n i. n * 512 + i) n (i ∷ q)
number_past_sum n m i q e h = grows (2 ^ 64) (n * 512 + i) q (omega arith)

-- ---- all parents pass a test

pub all_more : (P : List ℕ → Bool) (q : List ℕ) (n : ℕ) → n < length q → list_all P (rest q n) ≡ (P (take n q) && list_all P (rest q (n + 1)))
all_more P q n h = ap (list_all P) (rest_more q n h)

pub one_fails : (P : List ℕ → Bool) (q : List ℕ) (n : ℕ) (b : Bool) → n < length q → b ≡ P (take n q) → b ≡ false → list_all P (rest q n) ≡ false
one_fails P q n b h is e = all_more P q n h ∙ ap (λ b. b && list_all P (rest q (n + 1))) (sym is ∙ e)

pub one_passes : (P : List ℕ → Bool) (q : List ℕ) (n : ℕ) (b : Bool) → n < length q → b ≡ P (take n q) → b ≡ true → list_all P (rest q (n + 1)) ≡ list_all P (rest q n)
one_passes P q n b h is e = sym (all_more P q n h ∙ ap (λ b. b && list_all P (rest q (n + 1))) (sym is ∙ e))

-- ---- tests over all keys are tests over all items

same_tests : (P : List ℕ → Bool) (ks ls : List (List ℕ)) → ((p : List ℕ) → list_any (same_path p) ks ≡ list_any (same_path p) ls) → list_all P ks ≡ list_all P ls
same_tests P ks ls same = same_from_decides {P = list_all P ls ≡ true} _ _
    (λ h. all_from P ls (λ p g. all_at P ks p h (same p ∙ g)), λ h. all_from P ks (λ p g. all_at P ls p h (sym (same p) ∙ g))) (λ h. h, λ h. h)

map-pairs : (items : List PathEntry) → map (λ e. e.0) (pairs items) ≡ map (λ item. item.path.items) items
map-pairs [] = refl
map-pairs (x ∷ items) = ap (λ ps. x.path.items ∷ ps) (map-pairs items)

pub keys_items : (P : List ℕ → Bool) (items : List PathEntry) → list_all (λ item. P item.path.items) items ≡ list_all P (keys (paths_of_items items))
keys_items P items = sym (list_all-map P (λ item. item.path.items) items) ∙ ap (list_all P) (sym (map-pairs items))
    ∙ same_tests P (map (λ e. e.0) (pairs items)) (keys (paths_of_items items)) (λ p. sym (is_some-find path_cmp p (pairs items)) ∙ ap is_some (sym (get-from_entries nat_list_cmp_total (pairs items) p)) ∙ contains_key-keys (paths_of_items items) p)

-- ---- what stays

pairs-filter : (p : List ℕ → Bool) (items : List PathEntry) → pairs (filter (λ item. p item.path.items) items) ≡ filter (λ e. p e.0) (pairs items)
pairs-filter p [] = refl
pairs-filter p (x ∷ items) = by (p x.path.items) (pairs-filter p items)
  where
    by : (b : Bool) → pairs (filter (λ item. p item.path.items) items) ≡ filter (λ e. p e.0) (pairs items) → pairs (cond b (x ∷ filter (λ item. p item.path.items) items) (filter (λ item. p item.path.items) items)) ≡ cond b ((x.path.items, x.word) ∷ filter (λ e. p e.0) (pairs items)) (filter (λ e. p e.0) (pairs items))
    by true h = ap (λ es. (x.path.items, x.word) ∷ es) h
    by false h = h

alike : (p : List ℕ → Bool) (q x : List ℕ) → path_cmp q x ≡ Equal → p x ≡ p q
alike p q x e = ap p (sym (path_exact q x e))

pub retained : (p : List ℕ → Bool) (items left : List PathEntry) → pairs left ≡ pairs (filter (λ item. p item.path.items) items) → paths_of_items left ≡ retain_keys (paths_of_items items) p
retained p items left is = ap from_entries (is ∙ pairs-filter p items) ∙ same_map nat_list_cmp_total path_exact _ _ (λ q.
    get-from_entries nat_list_cmp_total (filter (λ e. p e.0) (pairs items)) q ∙ find-where_key path_cmp p q (alike p q) (pairs items)
    ∙ ap (λ o. cond (p q) o None) (sym (get-from_entries nat_list_cmp_total (pairs items) q)) ∙ sym (get-retain_keys (paths_of_items items) p q (alike p q)))

-- ---- below a path that isn't in the range nothing is removed

parent_passes : (P : List ℕ → Bool) (j : ℕ) (q : List ℕ) (i : ℕ) (r : List ℕ) → list_all P (parents (j ∷ q ++ i ∷ r)) ≡ true → P (j ∷ q) ≡ true
parent_passes P j [] i r h = (and_parts _ _ h).0
parent_passes P j (k ∷ q) i r h = parent_passes (λ p. P (j ∷ p)) k q i r (sym (list_all-map P (λ p. j ∷ p) (parents (k ∷ q ++ i ∷ r))) ∙ (and_parts _ _ h).1)

module _ (L : ℕ) (M : PathMap) (low high : ℕ) where
  not_removed : (q : List ℕ) → in_range L M low high q ≡ false → is_removed L M low high q ≡ false
  not_removed q out = false_from_ne_true _ (λ h. let t : true ≡ false = sym (removed_gives L M low high q h).itself ∙ out in cc)

  not_removed_below : (j : ℕ) (q : List ℕ) (i : ℕ) (r : List ℕ) → in_range L M low high (j ∷ q) ≡ false → is_removed L M low high (j ∷ q ++ i ∷ r) ≡ false
  not_removed_below j q i r out = false_from_ne_true _ (λ h. let t : true ≡ false = sym (parent_passes (in_range L M low high) j q i r (removed_gives L M low high (j ∷ q ++ i ∷ r) h).above) ∙ out in cc)

  -- the path may go on or not
  not_removed_from : (j : ℕ) (q r : List ℕ) → in_range L M low high (j ∷ q) ≡ false → is_removed L M low high (j ∷ q ++ r) ≡ false
  not_removed_from j q [] out = ap (is_removed L M low high) (append-nil (j ∷ q)) ∙ not_removed (j ∷ q) out
  not_removed_from j q (i ∷ r) out = not_removed_below j q i r out

  pub frames-append : (ps rs : List (List ℕ)) → frames L M low high (ps ++ rs) ≡ frames L M low high ps ++ frames L M low high rs
  frames-append [] rs = refl
  frames-append (p ∷ ps) rs = by (is_removed L M low high p) (frames-append ps rs)
    where
      by : (b : Bool) → frames L M low high (ps ++ rs) ≡ frames L M low high ps ++ frames L M low high rs → map (λ q. address (entry M q)) (cond b (p ∷ filter (is_removed L M low high) (ps ++ rs)) (filter (is_removed L M low high) (ps ++ rs))) ≡ map (λ q. address (entry M q)) (cond b (p ∷ filter (is_removed L M low high) ps) (filter (is_removed L M low high) ps)) ++ frames L M low high rs
      by true h = ap (λ fs. address (entry M p) ∷ fs) h
      by false h = h

  pub no_frame : (q : List ℕ) → is_removed L M low high q ≡ false → frames L M low high (q ∷ []) ≡ []
  no_frame q h = ap (λ b. map (λ q. address (entry M q)) (cond b (q ∷ []) [])) h

  none_of_many : (F : ℕ → List (List ℕ)) (is : List ℕ) → ((i : ℕ) → frames L M low high (F i) ≡ []) → frames L M low high (flat_map F is) ≡ []
  none_of_many F [] h = refl
  none_of_many F (i ∷ is) h = frames-append (F i) (flat_map F is) ∙ (λ k. h i k ++ none_of_many F is h k)

  nothing_below : (j : ℕ) (q : List ℕ) → in_range L M low high (j ∷ q) ≡ false → (n : ℕ) (r : List ℕ) → frames L M low high (paths_below n (j ∷ q ++ r)) ≡ []
  unfolding paths_below
  nothing_below j q out zero r = refl
  nothing_below j q out (suc n) r = none_of_many (λ i. paths_below n ((j ∷ q ++ r) ++ i ∷ []) ++ ((j ∷ q ++ r) ++ i ∷ []) ∷ []) indices (λ i.
      ap (λ p. frames L M low high (paths_below n p ++ p ∷ [])) (append_assoc (j ∷ q) r (i ∷ []))
      ∙ frames-append (paths_below n (j ∷ q ++ (r ++ i ∷ []))) ((j ∷ q ++ (r ++ i ∷ [])) ∷ [])
      ∙ (λ k. nothing_below j q out n (r ++ i ∷ []) k ++ no_frame (j ∷ q ++ (r ++ i ∷ [])) (not_removed_from j q (r ++ i ∷ []) out) k))

  nothing_from : (j : ℕ) (q : List ℕ) → in_range L M low high (j ∷ q) ≡ false → (n : ℕ) → frames L M low high (paths_below n (j ∷ q) ++ (j ∷ q) ∷ []) ≡ []
  nothing_from j q out n = frames-append (paths_below n (j ∷ q)) ((j ∷ q) ∷ [])
      ∙ (λ k. (ap (λ p. frames L M low high (paths_below n p)) (sym (append-nil (j ∷ q))) ∙ nothing_below j q out n []) k ++ no_frame (j ∷ q) (not_removed (j ∷ q) out) k)

  pub nothing_at : (q : List ℕ) (i n : ℕ) → in_range L M low high (q ++ i ∷ []) ≡ false → frames L M low high (paths_below n (q ++ i ∷ []) ++ (q ++ i ∷ []) ∷ []) ≡ []
  nothing_at [] i n out = nothing_from i [] out n
  nothing_at (j ∷ q) i n out = nothing_from j (q ++ i ∷ []) out n

-- ---- index by index

-- the indices from one on
unfoldable pub indices_from : ℕ → List ℕ
indices_from i = range_with_len i (512 - i)

indices_from_zero : indices_from 0 ≡ indices
unfolding indices_from indices
indices_from_zero = refl

indices_from_more : (i : ℕ) → i < 512 → indices_from i ≡ i ∷ indices_from (i + 1)
unfolding indices_from
indices_from_more i h = ap (range_with_len i) less
  where
    less : 512 - i ≡ suc (512 - (i + 1))
    less = omega arith

indices_from_all : (i : ℕ) → 512 ≤ i → indices_from i ≡ []
unfolding indices_from
indices_from_all i h = ap (range_with_len i) none
  where
    none : 512 - i ≡ 0
    none = omega arith

-- the frames of the removed tables at and below the indices from one on
abbrev pub pending : (L : ℕ) → PathMap → (low high depth : ℕ) → List ℕ → (i : ℕ) → List ℕ
pending L M low high depth q i = frames L M low high (flat_map (λ i. paths_below (depth - 1) (q ++ i ∷ []) ++ (q ++ i ∷ []) ∷ []) (indices_from i))

below_depth : (depth : ℕ) (q : List ℕ) → depth ≢ 0 → paths_below depth q ≡ flat_map (λ i. paths_below (depth - 1) (q ++ i ∷ []) ++ (q ++ i ∷ []) ∷ []) indices
unfolding paths_below
below_depth zero q n = absurd (n refl)
below_depth (suc d) q n = ap (λ d. flat_map (λ i. paths_below d (q ++ i ∷ []) ++ (q ++ i ∷ []) ∷ []) indices) less
  where
    less : d ≡ suc d - 1
    less = omega arith

module _ (L : ℕ) (M : PathMap) (low high depth : ℕ) (q : List ℕ) where
  pub pending_start : depth ≢ 0 → pending L M low high depth q 0 ≡ frames L M low high (paths_below depth q)
  pending_start n = ap (frames L M low high) (ap (flat_map (λ i. paths_below (depth - 1) (q ++ i ∷ []) ++ (q ++ i ∷ []) ∷ [])) indices_from_zero ∙ sym (below_depth depth q n))

  pub pending_end : (i : ℕ) → 512 ≤ i → pending L M low high depth q i ≡ []
  pending_end i h = ap (λ is. frames L M low high (flat_map (λ i. paths_below (depth - 1) (q ++ i ∷ []) ++ (q ++ i ∷ []) ∷ []) is)) (indices_from_all i h)

  pending_more : (i : ℕ) → i < 512 → pending L M low high depth q i ≡ frames L M low high (paths_below (depth - 1) (q ++ i ∷ []) ++ (q ++ i ∷ []) ∷ []) ++ pending L M low high depth q (i + 1)
  pending_more i h = ap (λ is. frames L M low high (flat_map (λ i. paths_below (depth - 1) (q ++ i ∷ []) ++ (q ++ i ∷ []) ∷ []) is)) (indices_from_more i h)
      ∙ frames-append L M low high (paths_below (depth - 1) (q ++ i ∷ []) ++ (q ++ i ∷ []) ∷ []) (flat_map (λ i. paths_below (depth - 1) (q ++ i ∷ []) ++ (q ++ i ∷ []) ∷ []) (indices_from (i + 1)))

  pub pending_passed : (i : ℕ) (b : Bool) → i < 512 → b ≡ in_range L M low high (q ++ i ∷ []) → b ≡ false → pending L M low high depth q (i + 1) ≡ pending L M low high depth q i
  pending_passed i b h is out = sym (pending_more i h ∙ ap (λ fs. fs ++ pending L M low high depth q (i + 1)) (nothing_at L M low high q i (depth - 1) (sym is ∙ out)))

  pub pending_done : (i : ℕ) (below back more all : List ℕ) → i < 512 → below ≡ q ++ i ∷ [] → more ≡ back ++ frames L M low high (paths_below (depth - 1) below) → all ≡ more ++ frames L M low high (below ∷ []) → all ++ pending L M low high depth q (i + 1) ≡ back ++ pending L M low high depth q i
  pending_done i below back more all h at x y = ap (λ fs. fs ++ pending L M low high depth q (i + 1)) (y ∙ ap (λ fs. fs ++ frames L M low high (below ∷ [])) x ∙ append_assoc back (frames L M low high (paths_below (depth - 1) below)) (frames L M low high (below ∷ []))
      ∙ ap (λ fs. back ++ fs) (sym (frames-append L M low high (paths_below (depth - 1) below) (below ∷ [])) ∙ ap (λ p. frames L M low high (paths_below (depth - 1) p ++ p ∷ [])) at))
      ∙ append_assoc back (frames L M low high (paths_below (depth - 1) (q ++ i ∷ []) ++ (q ++ i ∷ []) ∷ [])) (pending L M low high depth q (i + 1)) ∙ ap (λ fs. back ++ fs) (sym (pending_more i h))

pub nothing_deep : (L : ℕ) (M : PathMap) (low high depth : ℕ) (q : List ℕ) → depth ≡ 0 → frames L M low high (paths_below depth q) ≡ []
unfolding paths_below
nothing_deep L M low high depth q z = ap (λ d. frames L M low high (paths_below d q)) z
