-- Each state that is a hierarchy with a pool that fits is held by valid words.
use Rattle.std.proofs.Common.{◌-◌, ◌≡◌, inl, inr, ⊎_elim, ◌<◌, ℕ, ◌==◌, Bool, true, false, cond, List, [], ◌∷◌, ◌++◌, get_or, find, map, Some, None, Option, IsSome, nat_lt, refl, sym, ap, ap₂, ◌∙◌, subst, arith, eq-eqb, eqb-true, lt-ltb, le-ltb}
use Rattle.std.specs.List.{range_with_len}
use Rattle.std.proofs.lemmas.Bool.{cases_lt, cases_eq}
use Rattle.std.proofs.lemmas.List.FromFn.{length-map-range_with_len, get_or-map-range_with_len}
use Rattle.x86_64_model.specs.Entry.{IsParentFlags, used, present, huge, address}
use Rattle.x86_64_model.specs.Memory.{Words, word, word_in, set_word}
use Rattle.x86_64_model.specs.PathMap.{PathMap, entry, table_at}
use Rattle.x86_64_model.specs.Validity.{entry_in, IsValid}
use Rattle.x86_64_model.specs.Path.{indices, paths_below}
use Rattle.x86_64_model.specs.Window.{Window, IsValidFor}
use Rattle.x86_64_model.specs.Pool.{IsOwn, IsTable, TakesBack, Fits}
use Rattle.x86_64_model.specs.Call.{IsCall, Call}
use Rattle.x86_64_model.specs.Machine.{State, step}
use Rattle.x86_64_model.proofs.Lemmas.Lists.Members.{find_in, found_is}
use Rattle.x86_64_model.proofs.Lemmas.Entries.Bits.{used_present}
use Rattle.x86_64_model.proofs.Lemmas.Hierarchies.Held.{word-set_same, word-set_frame, word-set_index, is_some-set, set_word_other, word_past}
use Rattle.x86_64_model.proofs.Lemmas.Hierarchies.Changes.{zero_not_used}
use Rattle.x86_64_model.specs.Lists.{In}
use Rattle.x86_64_model.proofs.Lemmas.Hierarchies.Exists.{in_paths_below}
use Rattle.x86_64_model.proofs.Lemmas.Hierarchies.Trees.{IsHierarchy, indices_below, table_of_gives, used_table}
use Rattle.x86_64_model.proofs.Lemmas.Hierarchies.Unset.{word_unset}
use Rattle.x86_64_model.proofs.Lemmas.Machines.Effects.{machine}
use Rattle.x86_64_model.proofs.Lemmas.Machines.States.{Aside, step_sound, step_conserves}
use Rattle.x86_64_model.proofs.Lemmas.Machines.Fitting.{sound_of_fits, fits_of_sound, own_there}

abbrev pub names_frame : Option ℕ → ℕ → Bool
names_frame None f = false
names_frame (Some g) f = g == f

named_frame : (o : Option ℕ) (f : ℕ) → names_frame o f ≡ true → o ≡ Some f
named_frame None f h = cc
named_frame (Some g) f h = ap Some (eqb-true g f h)

abbrev pub from_path : PathMap → Words → ℕ → Option (List ℕ) → Option (List ℕ)
from_path M T f None = T f
from_path M T f (Some q) = Some (map (λ i. entry M (q ++ i ∷ [])) indices)

-- each table's frame has the entries below its path, and other frames are as in T
abbrev pub words_for : (L root : ℕ) → PathMap → Words → Words
words_for L root M T f = from_path M T f (find (λ q. names_frame (table_at L root M q) f) ([] ∷ paths_below (L - 1) []))

module _ (L root : ℕ) (M : PathMap) (T : Words) (h : IsHierarchy L root M) (own : (p q : List ℕ) (f : ℕ) → table_at L root M p ≡ Some f → table_at L root M q ≡ Some f → p ≡ q) where
  listed : (q : List ℕ) (f : ℕ) → table_at L root M q ≡ Some f → In ([] ∷ paths_below (L - 1) []) q
  listed [] f e = inl refl
  listed (i ∷ q) f e = let names = table_of_gives L (i ∷ q) (entry M (i ∷ q)) f e in let l = names.high in
      inr (in_paths_below (L - 1) [] i q (omega arith) (indices_below L root M h.tree (i ∷ q) (used_table (entry M (i ∷ q)) names.is_table)))

  path_in : (f : ℕ) (o : Option (List ℕ)) → find (λ q. names_frame (table_at L root M q) f) ([] ∷ paths_below (L - 1) []) ≡ o → (q : List ℕ) → table_at L root M q ≡ Some f → o ≡ Some q
  path_in f None e q t = absurd (find_in (λ q. names_frame (table_at L root M q) f) ([] ∷ paths_below (L - 1) []) q (listed q f t) (ap (λ o. names_frame o f) t ∙ eq-eqb f f refl) e)
  path_in f (Some p) e q t = ap Some (own p q f (named_frame (table_at L root M p) f (found_is (λ q. names_frame (table_at L root M q) f) ([] ∷ paths_below (L - 1) []) p e)) t)

  -- the row of a table
  row_at : (q : List ℕ) (f : ℕ) → table_at L root M q ≡ Some f → words_for L root M T f ≡ Some (map (λ i. entry M (q ++ i ∷ [])) indices)
  row_at q f t = ap (from_path M T f) (path_in f _ refl q t)

  same_elsewhere : (f : ℕ) → (IsTable L root M f → ⊥) → words_for L root M T f ≡ T f
  same_elsewhere f n = by (find (λ q. names_frame (table_at L root M q) f) ([] ∷ paths_below (L - 1) [])) refl
    where
      by : (o : Option (List ℕ)) → find (λ q. names_frame (table_at L root M q) f) ([] ∷ paths_below (L - 1) []) ≡ o → from_path M T f o ≡ T f
      by None e = refl
      by (Some q) e = absurd (n (q, named_frame (table_at L root M q) f (found_is (λ q. names_frame (table_at L root M q) f) ([] ∷ paths_below (L - 1) []) q e)))

  word_at : (q : List ℕ) (f i : ℕ) → table_at L root M q ≡ Some f → word (words_for L root M T) f i ≡ entry M (q ++ i ∷ [])
  unfolding word indices
  word_at q f i t = ap (λ o. cond (nat_lt i 512) (word_in o i) 0) (row_at q f t) ∙ ⊎_elim
      (λ l. ap (λ b. cond b (get_or (map (λ i. entry M (q ++ i ∷ [])) (range_with_len 0 512)) i 0) 0) (lt-ltb i 512 l) ∙ get_or-map-range_with_len (λ i. entry M (q ++ i ∷ [])) 0 512 i i 0 l (omega arith))
      (λ l. ap (λ b. cond b (get_or (map (λ i. entry M (q ++ i ∷ [])) (range_with_len 0 512)) i 0) 0) (le-ltb i 512 l) ∙ sym (h.tree.small q i l))
      (cases_lt i 512)

  -- words that have each table's entries are valid
  valid_by : (U : Words) → ((q : List ℕ) (f i : ℕ) → table_at L root M q ≡ Some f → word U f i ≡ entry M (q ++ i ∷ [])) → ((q : List ℕ) (f : ℕ) → table_at L root M q ≡ Some f → IsSome (U f)) → IsValid L U root M
  valid_by U words there = record {
    holds = record {
      entries = λ q i. by q i (table_at L root M q) refl;
      nothing_above = h.tree.nothing_above;
      used_alone = h.tree.used_alone;
      in_memory = there;
    };
    own_frames = own;
    not_zero = h.not_zero;
    none_huge = h.none_huge;
  }
    where
      by : (q : List ℕ) (i : ℕ) (t : Option ℕ) → table_at L root M q ≡ t → entry M (q ++ i ∷ []) ≡ entry_in U t i
      by q i None t = h.tree.below q i t
      by q i (Some f) t = sym (words q f i t)

  some_row : (q : List ℕ) (f : ℕ) → table_at L root M q ≡ Some f → IsSome (words_for L root M T f)
  some_row q f t = subst IsSome (sym (row_at q f t)) refl

  abbrev pub with_self : Option Window → Words
  with_self None = words_for L root M T
  with_self (Some w) = set_word (words_for L root M T) root w.index w.self_entry

  -- what is asked of a self-entry beside the words
  abbrev pub GoodSelf : Option Window → Type 0
  GoodSelf None = Unit {0}
  GoodSelf (Some w) = (w.index < 512) × ((present w.self_entry ≡ true) × (huge w.self_entry ≡ false) × (address w.self_entry ≡ root))

  pub witness : (window : Option Window) → Aside window M → GoodSelf window → IsValidFor L window (with_self window) root M
  unfolding indices
  witness None a g = record { valid = valid_by (words_for L root M T) word_at some_row; self = tt }
  witness (Some w) a g = record {
    valid = valid_by (set_word (set_word (words_for L root M T) root w.index w.self_entry) root w.index 0) words (λ q f t. is_some-set _ root w.index 0 f (is_some-set _ root w.index w.self_entry f (some_row q f t)));
    self = record {
      is_word = sym (word-set_same (words_for L root M T) root w.index w.self_entry _ (row_at [] root refl) (let l = length-map-range_with_len (λ i. entry M ([] ++ i ∷ [])) 0 512 in let s = g.0 in omega arith) g.0);
      is_present = g.1.0;
      not_huge = g.1.1;
      names_root = g.1.2;
    };
  }
    where
      words : (q : List ℕ) (f i : ℕ) → table_at L root M q ≡ Some f → word (set_word (set_word (words_for L root M T) root w.index w.self_entry) root w.index 0) f i ≡ entry M (q ++ i ∷ [])
      words q f i t = ⊎_elim
          (λ is. ⊎_elim
          (λ at. ap₂ (λ f i. word (set_word (set_word (words_for L root M T) root w.index w.self_entry) root w.index 0) f i) is at ∙ word_unset _ root w.index
          ∙ sym (ap₂ (λ q i. entry M (q ++ i ∷ [])) (own q [] root (t ∙ ap Some is) refl) at ∙ a))
          (λ n. word-set_index _ root w.index 0 f i n ∙ word-set_index _ root w.index w.self_entry f i n ∙ word_at q f i t)
          (cases_eq i w.index))
          (λ n. word-set_frame _ root w.index 0 f i n ∙ word-set_frame _ root w.index w.self_entry f i n ∙ word_at q f i t)
          (cases_eq f root)

  -- frames of no table are as in T
  pub witness_else : (window : Option Window) (f : ℕ) → (IsTable L root M f → ⊥) → with_self window f ≡ T f
  witness_else None f n = same_elsewhere f n
  witness_else (Some w) f n = set_word_other (words_for L root M T) root w.index w.self_entry f (λ e. n ([], ap Some (sym e))) ∙ same_elsewhere f n

good_self : (L : ℕ) (window : Option Window) (T : Words) (root : ℕ) (M N : PathMap) (h : IsHierarchy L root N) (own : (p q : List ℕ) (f : ℕ) → table_at L root N p ≡ Some f → table_at L root N q ≡ Some f → p ≡ q) → IsValidFor L window T root M → GoodSelf L root N T h own window
good_self L None T root M N h own valid = tt
good_self L (Some w) T root M N h own valid = (
  ⊎_elim (λ l. l) (λ l. absurd (let t : true ≡ false = sym (used_present _ valid.self.is_present) ∙ ap used (valid.self.is_word ∙ word_past T root w.index l) ∙ zero_not_used in cc)) (cases_lt w.index 512),
  (valid.self.is_present, valid.self.not_huge, valid.self.names_root),
)

-- after one step there are valid words that hold the path map and that the pool fits, and frames that were neither free nor tables are as before
pub step_witness : (L : ℕ) (window : Option Window) (T : Words) (root : ℕ) (serves : ℕ → Bool) (added : ℕ) → IsParentFlags added → (take_back : List ℕ → ℕ → List ℕ) → TakesBack take_back
    → (s : State) (call : Call) → IsCall L call → Fits L window T root s.paths serves s.pool
    → (U : Words) × Fits L window U root (step (machine L window added take_back) s call).state.paths serves (step (machine L window added take_back) s call).state.pool × ((f : ℕ) → (IsOwn L root s.paths s.pool f → ⊥) → U f ≡ T f)
step_witness L window T root serves added adds take_back gives s call is fits =
    let sound = sound_of_fits L window T root serves s fits in
    let after = step_sound L window root serves s sound added adds take_back gives call is in
    let same = step_conserves L window root serves s sound added adds take_back gives call is in
    let N = (step (machine L window added take_back) s call).state.paths in
    let U = with_self L root N T after.hierarchy after.one_each.own_frames window in (
      U,
      fits_of_sound L window U root serves (step (machine L window added take_back) s call).state after (witness L root N T after.hierarchy after.one_each.own_frames window after.aside (good_self L window T root s.paths N after.hierarchy after.one_each.own_frames fits.valid))
          (λ f i. subst IsSome (sym (witness_else L root N T after.hierarchy after.one_each.own_frames window f (after.one_each.no_table f i))) (own_there L window T root serves s fits f ((same.same_set f).1 (inl i)))),
      λ f n. witness_else L root N T after.hierarchy after.one_each.own_frames window f (λ t. n ((same.same_set f).1 (inr t))),
    )
