-- Steps of a listing, and the mappings still to come after each.
use Rattle.std.proofs.Common.{zero, suc, ◌≡◌, ◌<◌, ◌≤◌, ◌+◌, ◌-◌, ◌*◌, ◌/◌, ◌==◌, ◌&&◌, ◌||◌, ℕ, Bool, true, false, cond, List, [], ◌∷◌, length, get_or, drop, Option, Some, None, option_map, refl, sym, ap, ◌∙◌, subst, arith, eqb-true}
use Rattle.std.specs.Prelude.{⊤}
use Rattle.std.specs.Iterator.{MakesProgress, item_count}
use Rattle.std.proofs.lemmas.Bool.{and_parts, and_from}
use Rattle.std.proofs.lemmas.List.{length-drop}
use Rattle.x86_64_model.specs.Entry.{present, huge, address}
use Rattle.x86_64_model.specs.Memory.{Words}
use Rattle.x86_64_model.specs.Position.{span, index, position_count}
use Rattle.x86_64_model.specs.Mappings.{Rights, Mapping, maps_page, every_right, granted}
use Rattle.x86_64_model.specs.private.Found.{page_at, found_on, found}
use Rattle.x86_64_model.proofs.Lemmas.Mappings.Found.{leads_first, found_unread}
use Rattle.x86_64_model.proofs.Lemmas.Mappings.Listing.{from_found, from_past, from_last}
use Rattle.x86_64_mappings.specs.private.Cursors.{found_by, IsOn, IsCursor, IsStep, listed_from, small_page_first, cursor_is_there, way_left, table_by}
use Rattle.x86_64_tables.specs.EntryTargets.{target_of}
use Rattle.x86_64_tables.specs.declared.page_table.target.EntryTarget.TheVariants.{Nothing, Page, Table}
use Rattle.x86_64_mappings.specs.declared.listing.cursor.Cursor.{Cursor}
use Rattle.x86_64_mappings.proofs.Entries.{index_below, on_table, next_inside, next_before, within, on_past, none_before, first_found, leads_below}

-- ---- the bound on the steps to the end

pub way_most : (L next level : ℕ) (rest : List ℕ) → level ≤ 7 → way_left L next level rest ≤ (position_count L - next) * 8 + 7
way_most L next level [] few = omega arith
way_most L next level (e ∷ rest) few = omega (arith, few)

pub way_some : (L next level : ℕ) (rest : List ℕ) → 0 < length rest → way_left L next level rest ≡ (position_count L - next) * 8 + level
way_some L next level [] some = absurd (omega arith)
way_some L next level (e ∷ rest) some = refl

pub way_table : (L next level : ℕ) (table : List ℕ) → length table ≡ 512 → way_left L next level (drop (index level next) table) ≡ (position_count L - next) * 8 + level
way_table L next level table size = way_some L next level (drop (index level next) table)
    (let left : length (drop (index level next) table) ≡ length table - index level next = length-drop (index level next) table in let below = index_below level next in omega (arith, left, size, below))

-- a later position is nearer to the end
pub way_later : (L next level : ℕ) (rest : List ℕ) (later level' : ℕ) (rest' : List ℕ) → next < later → later ≤ position_count L → 1 ≤ level → level' ≤ 7 → 0 < length rest
    → way_left L later level' rest' < way_left L next level rest
way_later L next level rest later level' rest' more most low few some =
    let new = way_most L later level' rest' few in let old = way_some L next level rest some in omega (arith, more, most, low, new, old)

-- ---- the first entry

pub there_first : (L next level : ℕ) (rest : List ℕ) → 0 < length rest → cursor_is_there L next level rest ≡ (present (get_or rest 0 0) && maps_page level (get_or rest 0 0))
there_first L next level [] some = absurd (omega arith)
there_first L next level (e ∷ rest) some = refl

-- at the end, if no entries remain, all positions are past
pub there_last : (L next level : ℕ) (rest : List ℕ) → length rest ≤ 0 → cursor_is_there L next level rest ≡ true → next ≡ position_count L
there_last L next level [] none there = eqb-true next (position_count L) there
there_last L next level (e ∷ rest) none there = absurd (omega (arith, none))

pub record IsSmall (level : ℕ) (rest : List ℕ) : Type 0 where
  pub some : 0 < length rest
  pub level_is : level ≡ 1
  pub page : (present (get_or rest 0 0) && maps_page level (get_or rest 0 0)) ≡ true

pub small_first : (level : ℕ) (rest : List ℕ) → small_page_first level rest ≡ true → IsSmall level rest
small_first level [] small = absurd (let e : false ≡ true = small in cc)
small_first level (e ∷ rest) small =
    let parts = and_parts (level == 1) (present e) small in
    record {
      some = omega arith;
      level_is = eqb-true level 1 parts.0;
      page = and_from (present e) (maps_page level e) parts.1 (ap (λ b. b || (huge e && ((level == 2) || (level == 3)))) parts.0);
    }

-- ---- what is found by an entry

-- an entry without PRESENT
pub absent_says : (T : Words) (x level : ℕ) (r : Rights) (e : ℕ) → present e ≡ false → found_by T x level r e ≡ None
absent_says T x level r e absent = ap (λ b. cond b (cond (maps_page level e) (Some (page_at x level r e)) (cond (huge e) None (found_on T x (level - 1) (granted r e) (address e)))) None) absent

-- if there is no table, nothing is found
no_table : (T : Words) (x level : ℕ) (r : Rights) (f : ℕ) → T f ≡ None → found_on T x level r f ≡ None
unfolding found_on
no_table T x zero r f none = refl
no_table T x (suc n) r f none = found_unread T x n r f (ap (option_map (λ words. get_or words (index (suc n) x) 0)) none)

-- an entry that maps no page, and leads to no table
pub unmapped_says : (T : Words) (x level : ℕ) (r : Rights) (e : ℕ) → (present e && maps_page level e) ≡ false → table_by T (target_of level e) ≡ None
    → found_by T x level r e ≡ None
unmapped_says T x level r e no_page none = by (present e) (maps_page level e) (huge e) no_page none
  where
    below : Option Mapping
    below = found_on T x (level - 1) (granted r e) (address e)

    by : (p m h : Bool) → (p && m) ≡ false → table_by T (cond p (cond m Page (cond h Nothing (Table (address e)))) Nothing) ≡ None
        → cond p (cond m (Some (page_at x level r e)) (cond h None below)) None ≡ None
    by false m h page none = refl
    by true true h page none = absurd (let t : true ≡ false = page in cc)
    by true false true page none = refl
    by true false false page none = no_table T x (level - 1) (granted r e) (address e) none

-- an entry that maps a page
page_says : (T : Words) (x level : ℕ) (r : Rights) (e : ℕ) → (present e && maps_page level e) ≡ true → found_by T x level r e ≡ Some (page_at x level r e)
page_says T x level r e page = by (present e) (maps_page level e) page
  where
    below : Option Mapping
    below = cond (huge e) None (found_on T x (level - 1) (granted r e) (address e))

    by : (p m : Bool) → (p && m) ≡ true → cond p (cond m (Some (page_at x level r e)) below) None ≡ Some (page_at x level r e)
    by true true page = refl
    by true false page = absurd (let t : false ≡ true = page in cc)
    by false m page = absurd (let t : false ≡ true = page in cc)

-- ---- steps

module _ (L : ℕ) (T : Words) (root : ℕ) where
  -- at the root
  pub on_root : (next : ℕ) (table : List ℕ) → 1 ≤ L → next < position_count L → T root ≡ Some table → length table ≡ 512 → IsOn L T root next L every_right (drop (index L next) table)
  on_root next table some inside there size = on_table L T root next L every_right root table some (omega arith) inside (leads_first L T root next) there size

  pub no_root : (next : ℕ) → next < position_count L → T root ≡ None → listed_from L T root next ≡ listed_from L T root (position_count L)
  unfolding found
  no_root next inside none = from_past L T root next (position_count L) (omega (arith, inside)) (omega arith) (λ x from to. no_table T x L every_right root none)

  -- there are no mappings past the last position
  pub none_last : listed_from L T root (position_count L) ≡ []
  none_last = from_last L T root

module _ (L : ℕ) (T : Words) (root next level : ℕ) (r : Rights) (rest : List ℕ) (on : IsOn L T root next level r rest) where
  -- past entries that map nothing
  same_past : (k : ℕ) → 1 ≤ k → k ≤ length rest → ((i x : ℕ) → i < k → found_by T x level r (get_or rest i 0) ≡ None)
      → listed_from L T root next ≡ listed_from L T root (next / span level * span level + k * span level)
  same_past k some few none = from_past L T root next (next / span level * span level + k * span level)
      (let before = next_before L T root next level r rest on k some in omega (arith, before)) (within L T root next level r rest on k few) (none_before L T root next level r rest on k few none)

  pub past_absent : (k : ℕ) → 1 ≤ k → k ≤ length rest → ((i : ℕ) → i < k → present (get_or rest i 0) ≡ false)
      → listed_from L T root next ≡ listed_from L T root (next / span level * span level + k * span level)
  past_absent k some few absent = same_past k some few (λ i x less. absent_says T x level r (get_or rest i 0) (absent i less))

  pub past_unmapped : 0 < length rest → (let e = get_or rest 0 0 in (present e && maps_page level e) ≡ false → table_by T (target_of level e) ≡ None
      → listed_from L T root next ≡ listed_from L T root (next / span level * span level + 1 * span level))
  past_unmapped some no_page none = same_past 1 (omega arith) (omega (arith, some))
      (λ i x less. let first : 0 ≡ i = omega (arith, less) in subst (λ i. found_by T x level r (get_or rest i 0) ≡ None) first (unmapped_says T x level r (get_or rest 0 0) no_page none))

  -- the mapping by the first entry
  pub page_first : 0 < length rest → (let e = get_or rest 0 0 in (present e && maps_page level e) ≡ true
      → listed_from L T root next ≡ page_at next level r e ∷ listed_from L T root (next / span level * span level + 1 * span level))
  page_first some page = let e = get_or rest 0 0 in
      from_found L T root next (page_at next level r e) (next_inside L T root next level r rest on some)
      (first_found L T root next level r rest on some ∙ page_says T next level r e page)
      ∙ ap (λ z. page_at next level r e ∷ listed_from L T root z) (let e : next / span level * span level + span level ≡ next / span level * span level + 1 * span level = omega arith in e)

  -- the table below the first entry
  pub on_below : (table : List ℕ) → 0 < length rest → (let e = get_or rest 0 0 in table_by T (target_of level e) ≡ Some table → length table ≡ 512
      → (1 ≤ level - 1) × IsOn L T root next (level - 1) (granted r e) (drop (index (level - 1) next) table))
  on_below table some is size =
      let e = get_or rest 0 0 in
      let parts = split e (present e) (maps_page level e) (huge e) is in
      let above : 1 ≤ level - 1 = not_one level e on.low parts.1 in (
        above,
        on_table L T root next (level - 1) (granted r e) (address e) table above (let high = on.high in omega (arith, high)) (next_inside L T root next level r rest on some)
            (leads_below L T root next level r rest on some parts.0 parts.1 parts.2) parts.3 size,
      )
    where
      split : (e : ℕ) (p m h : Bool) → table_by T (cond p (cond m Page (cond h Nothing (Table (address e)))) Nothing) ≡ Some table
          → (p ≡ true) × (m ≡ false) × (h ≡ false) × (T (address e) ≡ Some table)
      split e false m h is = absurd (let t : None ≡ Some table = is in cc)
      split e true true h is = absurd (let t : None ≡ Some table = is in cc)
      split e true false true is = absurd (let t : None ≡ Some table = is in cc)
      split e true false false is = (refl, refl, refl, is)

      not_one : (n e : ℕ) → 1 ≤ n → maps_page n e ≡ false → 1 ≤ n - 1
      not_one zero e low no_page = absurd (omega arith)
      not_one (suc zero) e low no_page = absurd (let t : true ≡ false = no_page in cc)
      not_one (suc (suc n)) e low no_page = omega arith

-- ---- steps of cursors

module _ (L : ℕ) (T : Words) (root : ℕ) (from to : Cursor) (high : L ≤ 5) (on : IsCursor L T root from) where
  -- past some entries that map nothing
  pub past_step : (k : ℕ) → 1 ≤ k → k ≤ length from.rest.now
      → to.next ≡ from.next / span from.level * span from.level + k * span from.level → to.level ≡ from.level → to.rights ≡ from.rights → to.rest.now ≡ drop k from.rest.now
      → listed_from L T root from.next ≡ listed_from L T root (from.next / span from.level * span from.level + k * span from.level) → IsStep L T root from to
  past_step k some few next level rights rest same =
      let r = from.rights in
      let before = next_before L T root from.next from.level r from.rest.now on k some in
      let inside = within L T root from.next from.level r from.rest.now on k few in
      let low = on.low in
      let levels = on.high in
      record {
        on = rw (rest, next, level, rights) (on_past L T root from.next from.level r from.rest.now on k some few);
        same = same ∙ ap (listed_from L T root) (sym next);
        nearer = way_later L from.next from.level from.rest.now to.next to.level to.rest.now (omega (arith, before, next)) (omega (arith, inside, next)) low (omega (arith, level, levels, high)) (omega (arith, some, few));
      }

  -- down to the table below the first entry
  pub below_step : (table : List ℕ) → length table ≡ 512 → 0 < length from.rest.now → 1 ≤ from.level - 1
      → (let e = get_or from.rest.now 0 0 in IsOn L T root from.next (from.level - 1) (granted from.rights e) (drop (index (from.level - 1) from.next) table)
      → to.next ≡ from.next → to.level ≡ from.level - 1 → to.rights ≡ granted from.rights e → to.rest.now ≡ drop (index (from.level - 1) from.next) table
      → IsStep L T root from to)
  below_step table size some above below next level rights rest =
      let old = way_some L from.next from.level from.rest.now some in
      let new = way_table L from.next (from.level - 1) table size in
      record {
        on = rw (rest, next, level, rights) below;
        same = ap (listed_from L T root) (sym next);
        nearer = rw (rest, next, level) (omega (arith, old, new, above));
      }

-- ---- one mapping less

pub goes_first : (before after : List Mapping) (m : Mapping) → before ≡ m ∷ after → MakesProgress (λ _. ⊤) (item_count (λ ms. ms)) before (Some m) after
goes_first before after m taken = record {
  on = λ few. (tt, tt, let e = ap length taken in omega (arith, e));
  keeps = tt;
  rests = λ few. tt;
}
