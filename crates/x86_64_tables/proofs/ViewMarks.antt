-- The marks of a view show whether its tables and the frames of a pool are sound.
use Rattle.std.proofs.Common.{◌≡◌, ◌↔◌, ◌<◌, ℕ, ◌==◌, ◌||◌, Bool, true, false, cond, List, [], length, get_or, set, Option, Some, None, option_and_then, IsTrue, refl, sym, ap}
use Rattle.std.specs.List.{position}
use Rattle.std.specs.Ordering.{nat_cmp, eq_by_cmp}
use Rattle.std.specs.FinMap.{keys}
use Rattle.x86_64_model.specs.Entry.{is_frame}
use Rattle.x86_64_model.specs.Memory.{Memory, Places, IsMapping, Words, words_of}
use Rattle.x86_64_model.specs.private.Tables.{tables_from, NoneHuge, SoundTables}
use Rattle.x86_64_model.specs.private.Marks.{spot_of, mark_one, mark_all}
use Rattle.x86_64_model.specs.Pool.{serves_below}
use Rattle.x86_64_model.proofs.Lemmas.Tables.Keyed.{spots_of}
use Rattle.x86_64_model.proofs.Lemmas.Tables.Checked.{still_there, was_there, refused_tables, accepted_pool}
use Rattle.x86_64_tables.specs.Views.{seen, mark_slot}

module _ (memory : Memory) (places : Places) (mapping : IsMapping places) (root : ℕ) (recursive : Option ℕ) (limit levels : ℕ)
    (pool : List ℕ) (marks : List Bool) (clear : (k : ℕ) → k < length (keys memory) → get_or marks k true ≡ false) where
  abbrev words : Words
  words = words_of memory places

  abbrev IsSound : Type 0
  IsSound = SoundTables levels (seen memory places root recursive) root (serves_below limit) pool

  -- the marks of the tables
  abbrev tables_marked : Option (List Bool)
  tables_marked = mark_all (mark_slot memory places root limit) marks (tables_from levels (seen memory places root recursive) root)

  pub refused : None ≡ tables_marked → IsSound → ⊥
  refused = refused_tables words (length (keys memory)) (spot_of memory places) (spots_of memory places mapping.distinct)
      root (serves_below limit) levels (seen memory places root recursive) pool marks clear
      (still_there recursive root words) (was_there recursive root words)

  -- the pool is marked after the tables
  pub accepted : NoneHuge levels (seen memory places root recursive) root → (m new : List Bool) → Some m ≡ tables_marked
      → (b : Bool) → cond b (Some new) None ≡ mark_all (mark_slot memory places root limit) m pool → IsTrue b ↔ IsSound
  accepted = accepted_pool words (length (keys memory)) (spot_of memory places) (spots_of memory places mapping.distinct)
      root (serves_below limit) levels (seen memory places root recursive) pool marks clear
      (still_there recursive root words) (was_there recursive root words)

-- the tables alone
module _ (memory : Memory) (places : Places) (mapping : IsMapping places) (root : ℕ) (recursive : Option ℕ) (limit levels : ℕ)
    (marks : List Bool) (clear : (k : ℕ) → k < length (keys memory) → get_or marks k true ≡ false) where
  pub sound_alone : NoneHuge levels (seen memory places root recursive) root → (new : List Bool)
      → Some new ≡ mark_all (mark_slot memory places root limit) marks (tables_from levels (seen memory places root recursive) root)
      → SoundTables levels (seen memory places root recursive) root (serves_below limit) []
  unfolding mark_all
  sound_alone low new marked = (accepted memory places mapping root recursive limit levels [] marks clear low new new marked true refl).0 refl

-- a number that is no frame's address is not marked
pub never_marked : (memory : Memory) (places : Places) → IsMapping places → (root limit : ℕ) (marks : List Bool) (f : ℕ) → is_frame f ≡ false
    → None ≡ mark_one (mark_slot memory places root limit) marks f
unfolding mark_one spot_of
never_marked memory places mapping root limit marks f other =
    let bare : places.covers f ≡ false = elim (places.covers f) as (λ b. places.covers f ≡ b → b ≡ false) [
      | true ↦ λ e. let frame = mapping.frames f e in cc
      | false ↦ λ _. refl
    ] refl in
    let no_spot : spot_of memory places f ≡ None = ap (λ b. cond b (position (eq_by_cmp nat_cmp (places.place f)) (keys memory)) None) bare in
    let no_slot : mark_slot memory places root limit f ≡ None = elim ((f == root) || serves_below limit f) as (λ b. cond b (spot_of memory places f) None ≡ None) [
      | true ↦ no_spot
      | false ↦ refl
    ] in
    sym (ap (option_and_then (λ k. cond (get_or marks k true) None (Some (set marks k true)))) no_slot)
