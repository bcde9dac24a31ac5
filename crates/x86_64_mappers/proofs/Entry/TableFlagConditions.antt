-- The condition of a change of the flags of an entry above a page's own, by the level and the entry, if no parent stops the call.
use Rattle.std.proofs.Common.{◌≡◌, ◌≤◌, ◌<◌, ◌+◌, ◌-◌, ℕ, nat_le, nat_lt, ◌&&◌, ◌||◌, Bool, true, false, not, cond, List, [], ◌∷◌, ◌++◌, length, take, get_or, Option, Some, None, is_some, Ok, Err, bit_or, refl, sym, ap, ◌∙◌, arith, length-take-le}
use Rattle.std.proofs.lemmas.Bool.{le-ltb}
use Rattle.x86_64_model.specs.Allowed.{refuses, both_or_none, table_flags_allowed}
use Rattle.x86_64_model.specs.Entry.{used, huge, address, no_address}
use Rattle.x86_64_model.specs.Layout.{Layout}
use Rattle.x86_64_model.specs.Hierarchy.{◌laid_in◌, read_entry, words}
use Rattle.x86_64_model.specs.Memory.{Memory, word}
use Rattle.x86_64_model.specs.PageRules.{AfterChange, refused_or, set_flags}
use Rattle.x86_64_model.specs.Path.{level_of, front_at}
use Rattle.x86_64_model.specs.PathMap.{PathMap, put}
use Rattle.x86_64_model.specs.Refusal.{Refusal, PageNotMapped, ParentEntryHugePage, Done, Refused, first_stop, refused_if}
use Rattle.x86_64_model.specs.Window.{Window, begins_with, entry_at}
use Rattle.x86_64_mappers.specs.private.Stops.{IsFound}
use Rattle.x86_64_mappers.specs.private.TableFlags.{keeps_huge}
use Rattle.x86_64_mappers.proofs.Way.Pages.{path_parted}

-- the number of indices of the entry's path
pub front_length : (L level own : ℕ) (page : List ℕ) → length page + own ≡ L + 1 → own < level → length (front_at L level page) ≡ L + 1 - level
front_length L level own page at_level above = length-take-le (L + 1 - level) page (omega (arith, at_level))

-- ---- what the walk down to the entry decides

module _ (l : Layout) (m : Memory) (q : List ℕ) (n given : ℕ) (long : length q ≡ n + 1) where
  parted : take n q ++ get_or q n 0 ∷ [] ≡ q
  parted = path_parted q n long

  pub stopped_keeps : (why : Refusal) → IsFound l m (take n q) (Err why) → keeps_huge (read_entry (l laid_in m)) q given ≡ true
  stopped_keeps why found = ap (λ o. is_some o || not (used (read_entry (l laid_in m) q)) || both_or_none (huge given) (huge (read_entry (l laid_in m) q)))
      (ap (first_stop (read_entry (l laid_in m))) (sym parted) ∙ found (get_or q n 0))

  pub never_stopped : (g : ℕ) → IsFound l m (take n q) (Ok g) → first_stop (read_entry (l laid_in m)) q ≡ None
  never_stopped g found = ap (first_stop (read_entry (l laid_in m))) (sym parted) ∙ found.1 (get_or q n 0)

  pub found_keeps : (g : ℕ) → IsFound l m (take n q) (Ok g) → keeps_huge (read_entry (l laid_in m)) q given
      ≡ (not (used (word (words (l laid_in m)) g (get_or q n 0))) || both_or_none (huge given) (huge (word (words (l laid_in m)) g (get_or q n 0))))
  found_keeps g found =
      let stop = never_stopped g found in
      let same = ap (read_entry (l laid_in m)) (sym parted) ∙ found.0.entries (get_or q n 0) in
      λ i. is_some (stop i) || not (used (same i)) || both_or_none (huge given) (huge (same i))

-- ---- the condition of the call

-- the call is refused, or the flags are kept
refuses_or : (low : Bool) (M : PathMap) (stop : Option Refusal) (unused kept : Bool) (after : AfterChange) → refuses after.answer ≡ false
    → (refuses (cond low (record { paths = M; answer = Refused ParentEntryHugePage }) (refused_or M stop (refused_or M (refused_if unused PageNotMapped None) after))).answer || kept)
    ≡ (low || (is_some stop || unused || kept))
refuses_or true M stop unused kept after is = refl
refuses_or false M (Some why) unused kept after is = refl
refuses_or false M None true kept after is = refl
refuses_or false M None false kept after is = ap (λ b. b || kept) is

module _ (L : ℕ) (window : Option Window) (M : PathMap) (level : ℕ) (page : List ℕ) (given : ℕ) (own : ℕ) (at_level : length page + own ≡ L + 1) where
  abbrev E : List ℕ → ℕ
  E = entry_at window M

  abbrev q : List ℕ
  q = front_at L level page

  pub own_level : level_of L page ≡ own
  own_level = omega (arith, at_level)

  refused_or_kept : (refuses (set_flags L E M level page given).answer || both_or_none (huge given) (huge (E q))) ≡ (nat_le level own || keeps_huge E q given)
  unfolding set_flags
  refused_or_kept = refuses_or (nat_le level (level_of L page)) M (first_stop E q) (not (used (E q))) (both_or_none (huge given) (huge (E q)))
      (record { paths = put M q (bit_or (address (E q)) given); answer = Done (address (E q)) }) refl
      ∙ ap (λ k. nat_le level k || keeps_huge E q given) own_level

  -- the flags of the entry of a level on the path of a page whose own entry is of another level
  pub table_flags_rule : table_flags_allowed L window M level page given
      ≡ (no_address given && not (begins_with window page) && cond (nat_lt 3 level) (not (huge given)) (nat_le level own || keeps_huge E q given))
  table_flags_rule = ap (λ b. no_address given && not (begins_with window page) && cond (nat_lt 3 level) (not (huge given)) b) refused_or_kept

  pub low_flags_rule : level ≤ 3 → table_flags_allowed L window M level page given ≡ (no_address given && not (begins_with window page) && (nat_le level own || keeps_huge E q given))
  low_flags_rule high = table_flags_rule ∙ ap (λ b. no_address given && not (begins_with window page) && cond b (not (huge given)) (nat_le level own || keeps_huge E q given)) (le-ltb 3 level high)
