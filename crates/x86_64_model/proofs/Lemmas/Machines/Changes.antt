-- What a call on one entry writes: nothing, or one entry, which names the same table as before.
use Rattle.std.proofs.Common.{◌≡◌, ◌≢◌, ⊎_elim, ◌<◌, ◌≤◌, ℕ, zero, suc, ◌==◌, ◌&&◌, ◌||◌, Bool, true, false, not, cond, List, [], ◌∷◌, length, take, Some, None, Option, nat_lt, nat_le, bit_or, refl, sym, ap, ap₂, ◌∙◌, subst, arith, eqb-true, ◌+◌, ◌-◌, ltb-true, length-take-le}
use Rattle.std.proofs.lemmas.Bool.{or_cases, leb-false, not-true, not-false, cases_Bool}
use Rattle.x86_64_model.specs.Entry.{used, present, huge, address, names_table, no_address}
use Rattle.x86_64_model.specs.PathMap.{PathMap, entry, put, table_of}
use Rattle.x86_64_model.specs.Window.{Window, entry_at, begins_with}
use Rattle.x86_64_model.specs.Refusal.{Refusal, PageNotMapped, ParentEntryHugePage, Done, Refused, refused_if, first_stop}
use Rattle.x86_64_model.specs.PageRules.{AfterChange, refused_or, unmap, update_flags, set_flags}
use Rattle.x86_64_model.specs.MapRule.{leaf_entry}
use Rattle.x86_64_model.specs.Path.{level_of, front_at, IsPage}
use Rattle.x86_64_model.specs.Allowed.{refuses, both_or_none, set_flags_allowed}
use Rattle.x86_64_model.proofs.Lemmas.Entries.Bits.{address_or, address_address, used_present, used_from, only_flags}
use Rattle.x86_64_model.proofs.Lemmas.Hierarchies.Changes.{unused_no_table, unnamed, zero_not_huge}
use Rattle.x86_64_model.proofs.Lemmas.Maps.Frames.{used_or}
use Rattle.x86_64_model.proofs.Lemmas.Walks.Agrees.{named}
use Rattle.x86_64_model.proofs.Lemmas.Hierarchies.Trees.{IsHierarchy}
use Rattle.x86_64_model.proofs.Lemmas.Maps.Arrives.{entry_outside}
use Rattle.x86_64_model.proofs.Lemmas.Maps.PageCalls.{leaf_low}
use Rattle.x86_64_model.proofs.Lemmas.Maps.Leaves.{none_at_leaf}
pub use Rattle.x86_64_model.proofs.Lemmas.Hierarchies.Changes.{huge_names_none, leaf_none}

-- an entry of the map at a path that isn't empty
pub at_front : (window : Option Window) (M : PathMap) (q : List ℕ) → begins_with window q ≡ false → 0 < length q → entry_at window M q ≡ entry M q
at_front window M [] o l = absurd (omega arith)
at_front window M (i ∷ q) o l = entry_outside window M i q o

-- one used entry, outside the window, becomes a word that names the same table, or none as before
pub record IsChange (L : ℕ) (window : Option Window) (M : PathMap) (q : List ℕ) (w : ℕ) : Type 0 where
  pub is_used : used (entry M q) ≡ true
  pub outside : begins_with window q ≡ false
  pub same_table : table_of L q w ≡ table_of L q (entry M q)
  pub low : 3 < level_of L q → huge w ≡ false

pub refused_by : (P : AfterChange → Type 0) (M : PathMap) (o : Option Refusal) (next : AfterChange) → ((why : Refusal) → P (record { paths = M; answer = Refused why })) → (o ≡ None → P next) → P (refused_or M o next)
refused_by P M None next fails works = works refl
refused_by P M (Some why) next fails works = fails why

pub not_refused : (b : Bool) (why : Refusal) (next : Option Refusal) → refused_if b why next ≡ None → (b ≡ false) × (next ≡ None)
not_refused true why next h = let t : Some why ≡ None = h in cc
not_refused false why next h = (refl, h)

module _ (L : ℕ) (window : Option Window) (M : PathMap) (q : List ℕ) (page : IsPage L q) (out : begins_with window q ≡ false) where
  pub at_page : entry_at window M q ≡ entry M q
  at_page = at_front window M q out page.nonempty

  -- `unmap` refuses and changes nothing, or one leaf becomes unused
  pub unmap_change : (P : AfterChange → Type 0) → ((why : Refusal) → P (record { paths = M; answer = Refused why }))
      → (IsChange L window M q 0 → P (record { paths = put M q 0; answer = Done (address (entry M q)) })) → P (unmap L (entry_at window M) M q)
  unfolding unmap
  unmap_change P fails works = refused_by P M (first_stop (entry_at window M) q) _ fails (λ s.
      refused_by P M _ _ fails (λ t. let p = not_refused (not (present (entry_at window M q))) _ _ t in
      subst (λ e. P (record { paths = put M q 0; answer = Done (address e) })) (sym at_page) (works (record {
        is_used = ap used (sym at_page) ∙ used_present _ (not-false _ p.0);
        outside = out;
        same_table = unused_no_table L q ∙ sym (leaf_none L q (entry M q) (λ l. ap huge (sym at_page) ∙ big (entry_at window M q) (length q == L) _ l p.1));
        low = leaf_low L q 0 page;
      }))))
    where
      big : (e : ℕ) (b : Bool) (o : Option Refusal) → b ≡ false → cond b (refused_if (huge e) ParentEntryHugePage None) (refused_if (not (huge e)) ParentEntryHugePage o) ≡ None → huge e ≡ true
      big e true o l h = cc
      big e false o l h = not-false _ (not_refused (not (huge e)) _ o h).0

  -- `update_flags` refuses and changes nothing, or one leaf gets other flags
  pub update_change : (given : ℕ) (P : AfterChange → Type 0) → ((why : Refusal) → P (record { paths = M; answer = Refused why }))
      → (IsChange L window M q (leaf_entry L q (address (entry M q)) given) → P (record { paths = put M q (leaf_entry L q (address (entry M q)) given); answer = Done (address (entry M q)) })) → P (update_flags L (entry_at window M) M q given)
  unfolding update_flags
  update_change given P fails works = refused_by P M (first_stop (entry_at window M) q) _ fails (λ s.
      refused_by P M _ _ fails (λ t. let p = not_refused (not (used (entry_at window M q))) _ _ t in
      subst (λ e. P (record { paths = put M q (leaf_entry L q (address e) given); answer = Done (address e) })) (sym at_page) (works (record {
        is_used = ap used (sym at_page) ∙ not-false _ p.0;
        outside = out;
        same_table = none_at_leaf L q (address (entry M q)) given ∙ sym (leaf_none L q (entry M q) (λ l. ap huge (sym at_page) ∙ big (entry_at window M q) (length q == L) l p.1));
        low = leaf_low L q _ page;
      }))))
    where
      big : (e : ℕ) (b : Bool) → b ≡ false → cond b None (refused_if (not (huge e)) PageNotMapped None) ≡ None → huge e ≡ true
      big e true l h = cc
      big e false l h = not-false _ (not_refused (not (huge e)) _ None h).0

-- ---- flags of table entries

pub set_huge : (e given : ℕ) → huge (bit_or (address e) given) ≡ huge given
set_huge e given = only_flags (address e) given 0x80 (address_address e) refl

pub set_address : (e given : ℕ) → address given ≡ 0 → address (bit_or (address e) given) ≡ address e
set_address e given h = address_or (address e) given h ∙ address_address e

-- the same table, with flags that are huge as before
pub set_same_table : (L : ℕ) (q : List ℕ) (e given : ℕ) → used e ≡ true → address given ≡ 0 → huge given ≡ huge e → (names_table e ≡ true → address e ≢ 0) → table_of L q (bit_or (address e) given) ≡ table_of L q e
unfolding table_of
set_same_table L q e given u a g nonzero = elim (huge e) as (λ b. huge e ≡ b → table_of L q (bit_or (address e) given) ≡ table_of L q e) [
  | true ↦ λ h. unnamed L q _ (huge_names_none _ (set_huge e given ∙ g ∙ h)) ∙ sym (unnamed L q e (huge_names_none e h))
  | false ↦ λ h. λ i. cond ((used_or (address e) given (nonzero (ap₂ (λ u h. u && not h) u h)) ∙ sym u) i && not ((set_huge e given ∙ g) i) && nat_lt (length q) L) (Some (set_address e given a i)) None
] refl

pub begins_take : (window : Option Window) (n : ℕ) (q : List ℕ) → 1 ≤ n → begins_with window q ≡ false → begins_with window (take n q) ≡ false
begins_take None n q l h = refl
begins_take (Some w) zero q l h = absurd (omega arith)
begins_take (Some w) (suc n) [] l h = refl
begins_take (Some w) (suc n) (i ∷ q) l h = h

-- the word w leads where the used entry e leads
pub record LeadsAlike (e w : ℕ) : Type 0 where
  pub is_used : used w ≡ true
  pub same_huge : huge w ≡ huge e
  pub same_address : address w ≡ address e

module _ (L : ℕ) (window : Option Window) (root : ℕ) (M : PathMap) (h : IsHierarchy L root M) (level : ℕ) (page : List ℕ) (given : ℕ) (low : 2 ≤ level) (top : level ≤ L) (is : IsPage L page) (out : begins_with window page ≡ false) where
  -- the path of the entry
  abbrev pub at_level : List ℕ
  at_level = front_at L level page

  pub table_nonzero : (q : List ℕ) → 0 < length q → length q < L → names_table (entry M q) ≡ true → address (entry M q) ≢ 0
  table_nonzero [] a b t z = absurd (omega arith)
  table_nonzero (i ∷ q) a b t z = h.not_zero i q (named L (i ∷ q) (entry M (i ∷ q)) t b ∙ ap Some z)

  -- with whatever flags, it leads where it led
  pub set_flags_kept : no_address given ≡ true → set_flags_allowed L (entry_at window M) M level page given ≡ true → (P : AfterChange → Type 0) → ((why : Refusal) → P (record { paths = M; answer = Refused why }))
      → (IsChange L window M (front_at L level page) (bit_or (address (entry M (front_at L level page))) given) → LeadsAlike (entry M (front_at L level page)) (bit_or (address (entry M (front_at L level page))) given) → P (record { paths = put M (front_at L level page) (bit_or (address (entry M (front_at L level page))) given); answer = Done (address (entry M (front_at L level page))) }))
      → P (set_flags L (entry_at window M) M level page given)
  unfolding set_flags
  set_flags_kept plain may P fails works = elim (nat_le level (level_of L page)) as (λ b. nat_le level (level_of L page) ≡ b → P (cond b (record { paths = M; answer = Refused ParentEntryHugePage }) (refused_or M (first_stop (entry_at window M) at_level)
      (refused_or M (refused_if (not (used (entry_at window M at_level))) PageNotMapped None) (record { paths = put M at_level (bit_or (address (entry_at window M at_level)) given); answer = Done (address (entry_at window M at_level)) }))))) [
        | true ↦ λ _. fails _
        | false ↦ λ l. refused_by P M (first_stop (entry_at window M) at_level) _ fails (λ s.
            refused_by P M _ _ fails (λ t.
            let most = is.at_most in
            let above : level_of L page < level = leb-false level (level_of L page) l in
            let size : length at_level ≡ L + 1 - level = length-take-le (L + 1 - level) page (omega arith) in
            let o = begins_take window (L + 1 - level) page (omega arith) out in
            let at : entry_at window M at_level ≡ entry M at_level = at_front window M at_level o (omega arith) in
            let u : used (entry M at_level) ≡ true = ap used (sym at) ∙ not-false _ (not_refused (not (used (entry_at window M at_level))) _ _ t).0 in
            let a = eqb-true (address given) 0 plain in
            let same : huge given ≡ huge (entry M at_level) = huge_as l size s t at in
            subst (λ e. P (record { paths = put M at_level (bit_or (address e) given); answer = Done (address e) })) (sym at) (works (record {
              is_used = u;
              outside = o;
              same_table = set_same_table L at_level (entry M at_level) given u a same (table_nonzero at_level (omega arith) (omega arith));
              low = λ up. set_huge _ given ∙ same ∙ h.none_huge at_level up;
            }) (record {
              is_used = ⊎_elim
                  (λ big. used_from _ (λ z. let t : true ≡ false = sym (set_huge (entry M at_level) given ∙ same ∙ big) ∙ ap huge z ∙ zero_not_huge in cc))
                  (λ plain. used_or (address (entry M at_level)) given (table_nonzero at_level (omega (arith, size, above)) (omega (arith, size, low)) (ap₂ (λ u h. u && not h) u plain)))
                  (cases_Bool (huge (entry M at_level)));
              same_huge = set_huge (entry M at_level) given ∙ same;
              same_address = set_address (entry M at_level) given a;
            }))))
      ] refl
    where
      equal : (a b : Bool) → both_or_none a b ≡ true → a ≡ b
      equal true b h = sym h
      equal false b h = sym (not-true b h)

      huge_as : nat_le level (level_of L page) ≡ false → length at_level ≡ L + 1 - level → first_stop (entry_at window M) at_level ≡ None → refused_if (not (used (entry_at window M at_level))) PageNotMapped None ≡ None
          → entry_at window M at_level ≡ entry M at_level → huge given ≡ huge (entry M at_level)
      huge_as l size s t at = elim (nat_lt 3 level) as (λ b. nat_lt 3 level ≡ b → cond b (not (huge given)) (refuses (set_flags L (entry_at window M) M level page given).answer || both_or_none (huge given) (huge (entry_at window M at_level))) ≡ true → huge given ≡ huge (entry M at_level)) [
        | true ↦ λ b m. not-true _ m ∙ sym (h.none_huge at_level (let up = ltb-true 3 level b in omega arith))
        | false ↦ λ b m. ⊎_elim
            (λ r. let not_so : refuses (set_flags L (entry_at window M) M level page given).answer ≡ false = λ i. refuses (cond (l i) (record { paths = M; answer = Refused ParentEntryHugePage }) (refused_or M (s i) (refused_or M (t i)
            (record { paths = put M at_level (bit_or (address (entry_at window M at_level)) given); answer = Done (address (entry_at window M at_level)) })))).answer in
            let z : true ≡ false = sym r ∙ not_so in cc)
            (λ e. equal _ _ e ∙ ap huge at)
            (or_cases _ _ m)
      ] refl may

  pub set_flags_change : no_address given ≡ true → set_flags_allowed L (entry_at window M) M level page given ≡ true → (P : AfterChange → Type 0) → ((why : Refusal) → P (record { paths = M; answer = Refused why }))
      → (IsChange L window M (front_at L level page) (bit_or (address (entry M (front_at L level page))) given) → P (record { paths = put M (front_at L level page) (bit_or (address (entry M (front_at L level page))) given); answer = Done (address (entry M (front_at L level page))) }))
      → P (set_flags L (entry_at window M) M level page given)
  set_flags_change plain may P fails works = set_flags_kept plain may P fails (λ c k. works c)
