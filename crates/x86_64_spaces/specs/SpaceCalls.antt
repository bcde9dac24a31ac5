-- What it means to make an address space and to give one up.
use Rattle.std.specs.Prelude.{◌≡◌, ◌≢◌, ℕ, Bool, true, List, [], ◌∷◌, drop, slice_get, Option, Some, bit_or}
use Rattle.x86_64_model.specs.Laws.Spaces.{IsNewRoot}
use Rattle.x86_64_model.specs.Layout.{Layout}
use Rattle.x86_64_model.specs.Lists.{In}
use Rattle.x86_64_model.specs.Hierarchy.{◌laid_in◌, Hierarchy, paths, KeepsOthers, Owns}
use Rattle.x86_64_model.specs.Memory.{Memory, word, words_of}
use Rattle.x86_64_model.specs.PathMap.{entry}
use Rattle.x86_64_model.specs.Spaces.{AreSpaces}
use Rattle.x86_64_model.specs.Store.{Store, StoreFits}
use Rattle.x86_64_spaces.specs.declared.giving_up.GiveUpError.{GiveUpError}
use Rattle.x86_64_spaces.specs.declared.giving_up.GiveUpError.TheVariants.{EntryUsed, FrameZero}
use Rattle.x86_64_spaces.specs.declared.space.Space.{Space}
use Rattle.x86_64_spaces.specs.SpaceLayouts.{space_layout, HasSharedAlone}
use Rattle.x86_64_tables.specs.PageTable.{zero_words}

-- ---- a new space

-- The first frame of a store is taken, if there is one, and the rest is left. The store serves the same frames.
abbrev pub TakesFirst : Store → (taken : Option ℕ) → (rest : Store) → Type 0
TakesFirst store taken rest = (taken ≡ slice_get store.frames 0) × (rest.frames ≡ drop 1 store.frames) × (rest.serves ≡ store.serves)

-- A hierarchy may be the template of a new address space: it is valid, and the frames of the store fit it. Its root's entry at the
-- recursive index of the new one is unused (or its own self-entry), if this index is shared.
pub record MayBeTemplate {Lent : Type 0} (shared : ℕ → Bool) (recursive : Option ℕ) (template : Hierarchy Lent) (store : Store) : Type 0 where
  pub fits : StoreFits template store
  pub index_unused : (r : ℕ) → recursive ≡ Some r → shared r ≡ true → entry (paths template) (r ∷ []) ≡ 0

-- The layout of a space in a memory, with the number of levels and the places of frames of a hierarchy.
abbrev pub layout_beside : {Lent : Type 0} → Hierarchy Lent → Memory → Space → Layout
layout_beside h memory space = space_layout h.layout.levels h.layout.places memory space

-- A space was made after a template, whose memory became n.
pub record IsMade {Lent : Type 0} (shared : ℕ → Bool) (template : Hierarchy Lent) (store : Store) (new : Space) (n : Memory) (rest : Store) : Type 0 where
  -- Its root has the template's entries at the shared indices, and maps nothing elsewhere. No other word changed.
  pub root : IsNewRoot shared template.layout template.memory n (layout_beside template n new)
  -- The entry at its recursive index names the root, with PRESENT and WRITABLE.
  pub self_entry : (r : ℕ) → new.recursive ≡ Some r → word (words_of n template.layout.places) new.root r ≡ bit_or new.root 3
  -- With any address spaces, of which the template is one, it is an address space.
  pub spaces : (spaces : List Layout) → In spaces template.layout → AreSpaces shared template.memory store.serves store.frames spaces
      → AreSpaces shared n store.serves rest.frames (layout_beside template n new ∷ spaces)

-- ---- a space that is given up

-- A space may be given up if its hierarchy is valid, the frames of the store fit it, and the store serves the root's frame.
pub record MayBeGivenUp {Lent : Type 0} (gone : Hierarchy Lent) (store : Store) : Type 0 where
  pub fits : StoreFits gone store
  pub served : store.serves gone.layout.root ≡ true

-- The reason why a space isn't given up: an entry of its root that isn't shared is used, or else the root is in frame 0.
abbrev pub IsReason : {Lent : Type 0} → (shared : ℕ → Bool) → Hierarchy Lent → GiveUpError → Type 0
IsReason shared gone EntryUsed = HasSharedAlone shared gone.layout gone.memory → ⊥
IsReason shared gone FrameZero = HasSharedAlone shared gone.layout gone.memory × (gone.layout.root ≡ 0)

-- A space was given up, and its memory became n.
pub record IsGivenUp {Lent : Type 0} (shared : ℕ → Bool) (gone : Hierarchy Lent) (store : Store) (n : Memory) (rest : Store) : Type 0 where
  -- There was no reason against it.
  pub none_used : HasSharedAlone shared gone.layout gone.memory
  pub not_zero : gone.layout.root ≢ 0
  -- The store took the root's frame back, which holds zeros now, and serves the same frames. No other word changed.
  pub given_back : rest.frames ≡ store.take_back store.frames gone.layout.root
  pub serves : rest.serves ≡ store.serves
  pub cleared : words_of n gone.layout.places gone.layout.root ≡ Some zero_words
  pub others : KeepsOthers (λ f. f ≡ gone.layout.root) (gone.layout laid_in gone.memory) (gone.layout laid_in n)
  -- Other address spaces that share these indices with it are address spaces without it.
  pub spaces : (spaces : List Layout) → (In spaces gone.layout → ⊥) → AreSpaces shared gone.memory store.serves store.frames (gone.layout ∷ spaces)
      → AreSpaces shared n store.serves rest.frames spaces
  -- No frame is lost: what it had with the store, each of these has with what the store is now.
  pub none_lost : (spaces : List Layout) (other : Layout) → (In spaces gone.layout → ⊥) → In spaces other
      → AreSpaces shared gone.memory store.serves store.frames (gone.layout ∷ spaces)
      → (f : ℕ) → Owns gone store.frames f → Owns (other laid_in n) rest.frames f
