-- The walk to a page's entry, below parents that have the parent flags.
use Rattle.std.proofs.Common.{zero, suc, ◌≡◌, ◌⊎◌, inl, inr, ⊎_elim, ◌≤◌, ◌+◌, ◌*◌, ◌/◌, ◌%◌, ℕ, ◌&&◌, Bool, true, false, cond, List, [], ◌∷◌, ◌++◌, length, take, map, nat_le, Some, Option, bit_or, refl, sym, ap, ◌∙◌, subst, arith, eqb-true, le-leb, append_assoc, None}
use Rattle.std.proofs.lemmas.Bool.{and_from}
use Rattle.std.specs.List.{AllByRecursion}
use Rattle.x86_64_model.specs.Entry.{IsParentFlags, has, present, writable, user, huge, address}
use Rattle.x86_64_model.specs.Path.{parents, is_small}
use Rattle.x86_64_model.specs.Position.{index, span, page_path}
use Rattle.x86_64_model.specs.PageWalk.{page_start, Walked}
use Rattle.x86_64_model.proofs.Lemmas.Entries.Bits.{has_or, address_or, only_flags}
use Rattle.x86_64_model.proofs.Lemmas.Hierarchies.Changes.{map_again, leaf_none}
use Rattle.x86_64_model.proofs.Lemmas.Hierarchies.Trees.{plain_table}
use Rattle.x86_64_model.proofs.Lemmas.Walks.Walked.{walked}
use Rattle.x86_64_model.proofs.Lemmas.Maps.Accepted.{IsParent, added_there}
use Rattle.x86_64_model.specs.PathMap.{table_of}
use Rattle.x86_64_model.specs.Arrivals.{Asks as IsAsked}
use Rattle.x86_64_model.specs.MapRule.{leaf_entry}

-- an entry of a level that maps a page to a frame
pub record Leaf (level e frame : ℕ) : Type 0 where
  pub is_present : present e ≡ true
  pub names : address e ≡ frame
  pub size : (level ≡ 1) ⊎ ((huge e ≡ true) × (level ≤ 3) × (frame % span level ≡ 0))

pub take_then : (b : Bool) (x y z : Option Walked) → b ≡ true → x ≡ z → cond b x y ≡ z
take_then true x y z h e = e
take_then false x y z h e = cc

pub take_else : (b : Bool) (x y z : Option Walked) → b ≡ false → y ≡ z → cond b x y ≡ z
take_else true x y z h e = cc
take_else false x y z h e = e

pub last_decides : (w x : Bool) → (x ≡ true → w ≡ true) → (w && x) ≡ x
last_decides true x h = refl
last_decides false true h = h refl
last_decides false false h = refl

abbrev pub arrived : (to e : ℕ) → Option Walked
arrived to e = Some (record { address = to; write = writable e; user = user e })

-- the entry of a page names no table
pub none_at_leaf : (L : ℕ) (q : List ℕ) (frame given : ℕ) → table_of L q (leaf_entry L q frame given) ≡ None
unfolding has
none_at_leaf L q frame given = leaf_none L q _ (λ large. ap (λ b. huge (bit_or frame (cond b given (bit_or given 0x80)))) large ∙ added_there frame (bit_or given 0x80) 0x80 (added_there given 0x80 0x80 refl))

-- no less than what the entry grants
abbrev pub Above : ℕ → Bool → Bool → Type 0
Above e w u = (writable e ≡ true → w ≡ true) × (user e ≡ true → u ≡ true)

pub rounded : (f s : ℕ) → f % s ≡ 0 → f / s * s ≡ f
rounded f s h = omega (arith, h)

module _ (more p e frame : ℕ) (E : List ℕ → ℕ) (here_too : present more ≡ true) (above : Above e (writable more) (user more)) where
  pub at_leaf : (n : ℕ) (q : List ℕ) (w u : Bool) → E (q ++ index (suc n) p ∷ []) ≡ e → Above e w u → Leaf (suc n) e frame → walked E p (suc n) q w u ≡ arrived (frame + p % span (suc n)) e
  at_leaf zero q w u is a leaf = take_then (present (E (q ++ index 1 p ∷ []))) _ _ _ (ap present is ∙ leaf.is_present)
      (λ i. Some (record { address = (ap address is ∙ leaf.names) i + p % span 1; write = (ap (λ e. w && writable e) is ∙ last_decides w (writable e) a.0) i; user = (ap (λ e. u && user e) is ∙ last_decides u (user e) a.1) i }))
  at_leaf (suc n) q w u is a leaf = ⊎_elim (λ low. absurd (omega (arith, low)))
      (λ h. let level = suc (suc n) in let r = q ++ index level p ∷ [] in
      take_then (present (E r)) _ _ _ (ap present is ∙ leaf.is_present) (take_then (huge (E r)) _ _ _ (ap huge is ∙ h.0) (take_then (nat_le level 3) _ _ _ (le-leb level 3 h.1)
      (λ i. Some (record { address = (ap (page_start level) is ∙ ap (λ f. f / span level * span level) leaf.names ∙ rounded frame (span level) h.2) i + p % span level; write = (ap (λ e. w && writable e) is ∙ last_decides w (writable e) a.0) i; user = (ap (λ e. u && user e) is ∙ last_decides u (user e) a.1) i })))))
      leaf.size

  -- k parents above the page
  pub walked_to : (k n level : ℕ) (q : List ℕ) (w u : Bool) → level + k ≡ suc n → 1 ≤ level → Above e w u
      → AllByRecursion (λ r. IsParent more (E r)) (map (λ r. q ++ r) (parents (take (suc k) (page_path (suc n) p))))
      → E (q ++ take (suc k) (page_path (suc n) p)) ≡ e → Leaf level e frame
      → walked E p (suc n) q w u ≡ arrived (frame + p % span level) e
  unfolding page_path
  walked_to zero n level q w u l low a ps is leaf =
      let same : level ≡ suc n = omega (arith, l) in
      at_leaf n q w u is a (subst (λ l. Leaf l e frame) same leaf) ∙ ap (λ l. arrived (frame + p % span l) e) (sym same)
  walked_to (suc k) zero level q w u l low a ps is leaf = absurd (omega (arith, l, low))
  walked_to (suc k) (suc n) level q w u l low a ps is leaf =
      let i = index (suc (suc n)) p in let r = q ++ i ∷ [] in let rest = take (suc k) (page_path (suc n) p) in
      let parent : IsParent more (E r) = ps.0 in
      take_then (present (E r)) _ _ _ (parent.has_flags 1 here_too) (take_else (huge (E r)) _ _ _ (plain_table _ parent.is_table)
      (walked_to k n level r (w && writable (E r)) (u && user (E r)) (omega (arith, l)) low
      (λ h. and_from _ _ (a.0 h) (parent.has_flags 2 (above.0 h)), λ h. and_from _ _ (a.1 h) (parent.has_flags 4 (above.1 h)))
      (subst (AllByRecursion (λ r. IsParent more (E r))) (sym (map_again q i (parents rest))) ps.1)
      (ap E (append_assoc q (i ∷ []) rest) ∙ is) leaf))

-- ---- what a map call asks for: as a `map_to`, with parent flags that grant as much

pub record Asks (L level more added : ℕ) (q : List ℕ) (frame given : ℕ) : Type 0 where
  pub page : IsAsked L level q frame given
  pub parent_flags : IsParentFlags more
  pub added_flags : IsParentFlags added
  pub parents_present : present more ≡ true
  pub grants_write : writable given ≡ true → writable more ≡ true
  pub grants_user : user given ≡ true → user more ≡ true

module _ (L level more added : ℕ) (q : List ℕ) (frame given : ℕ) (asks : Asks L level more added q frame given) where
  abbrev pub leaf_by : Bool → ℕ
  leaf_by b = bit_or frame (cond b given (bit_or given 0x80))

  pub writable_by : (b : Bool) → writable (leaf_by b) ≡ writable given
  writable_by true = only_flags frame given 2 asks.page.is_frame refl
  writable_by false = only_flags frame (bit_or given 0x80) 2 asks.page.is_frame refl ∙ has_or given 0x80 2 refl

  pub user_by : (b : Bool) → user (leaf_by b) ≡ user given
  user_by true = only_flags frame given 4 asks.page.is_frame refl
  user_by false = only_flags frame (bit_or given 0x80) 4 asks.page.is_frame refl ∙ has_or given 0x80 4 refl

  pub leaf_is : (b : Bool) → is_small L q ≡ b → Leaf level (leaf_by b) frame
  unfolding address has
  leaf_is true small = record {
    is_present = only_flags frame given 1 asks.page.is_frame refl ∙ asks.page.is_present;
    names = address_or frame given asks.page.no_address ∙ asks.page.is_frame;
    size = inl (let e : length q ≡ L = eqb-true (length q) L small in omega (arith, e, asks.page.at_level));
  }
  leaf_is false large = record {
    is_present = only_flags frame (bit_or given 0x80) 1 asks.page.is_frame refl ∙ has_or given 0x80 1 refl ∙ asks.page.is_present;
    names = address_or frame (bit_or given 0x80) (address_or given 0x80 refl ∙ asks.page.no_address) ∙ asks.page.is_frame;
    size = inr (added_there frame (bit_or given 0x80) 0x80 (added_there given 0x80 0x80 refl), asks.page.high, asks.page.aligned);
  }
