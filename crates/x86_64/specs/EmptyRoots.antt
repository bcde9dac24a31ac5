-- Empty roots are address spaces that share nothing: no index of the highest level is a shared one.
use Rattle.std.specs.Prelude.{◌≡◌, ◌<◌, ℕ, Bool, true, false, List, [], ◌∷◌}
use Rattle.x86_64_model.specs.Layout.{Layout}
use Rattle.x86_64_model.specs.Hierarchy.{◌laid_in◌, Owns, words}
use Rattle.x86_64_model.specs.Lists.{In}
use Rattle.x86_64_model.specs.Memory.{Memory, word, identity_places}
use Rattle.x86_64_model.specs.Spaces.{Shares, AreSpaces}
use Rattle.x86_64_mappers.specs.Layouts.{direct_at, HasRoot}

-- A frame outside a hierarchy and its pool, with all words 0, is the root of a hierarchy beside it that shares nothing with it.
abbrev pub EmptyRootsShareNothing : Type 0
EmptyRootsShareNothing = (first : Layout) (m : Memory) (pool : List ℕ) (root : ℕ) → 0 < first.levels → HasRoot first.places root m
    → ((i : ℕ) → word (words (first laid_in m)) root i ≡ 0) → (Owns (first laid_in m) pool root → ⊥) → Shares (λ i. false) first m pool (direct_at first.levels first.places root)

-- A frame outside address spaces that share nothing and their pool, with all words 0, is the root of one more.
abbrev pub EmptyRootsAreSpaces : Type 0
EmptyRootsAreSpaces = (spaces : List Layout) (first : Layout) → In spaces first → 0 < first.levels
    → (serves : ℕ → Bool) (m : Memory) (pool : List ℕ) → AreSpaces (λ i. false) m serves pool spaces → (root : ℕ) → HasRoot first.places root m
    → ((i : ℕ) → word (words (first laid_in m)) root i ≡ 0) → ((a : Layout) → In spaces a → Owns (a laid_in m) pool root → ⊥)
    → AreSpaces (λ i. false) m serves pool (direct_at first.levels first.places root ∷ spaces)

-- For example, two empty roots with a free frame are address spaces in some memory.
abbrev pub TwoEmptyRoots : Type 0
TwoEmptyRoots = (levels : ℕ) → 0 < levels → (m : Memory)
    × AreSpaces (λ i. false) m (λ f. true) (0x3000 ∷ []) (direct_at levels identity_places 0x1000 ∷ direct_at levels identity_places 0x2000 ∷ [])
