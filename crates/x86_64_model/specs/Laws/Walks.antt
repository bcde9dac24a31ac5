-- Laws of the page walk and of `translate`.
use Rattle.std.specs.Prelude.{◌≡◌, ◌<◌, ◌+◌, ◌%◌, ℕ, List, ◌++◌, replicate, Option, Some, IsSome}
use Rattle.x86_64_model.specs.Position.{span, page_path}
use Rattle.x86_64_model.specs.PathMap.{PathMap}
use Rattle.x86_64_model.specs.Memory.{Words}
use Rattle.x86_64_model.specs.Window.{Window, entry_at, IsSelfEntry, IsValidFor}
use Rattle.x86_64_model.specs.PageWalk.{page_walk}
use Rattle.x86_64_model.specs.Steps.{steps, arrival_along}
use Rattle.x86_64_model.specs.Translation.{translate, Agrees}
use Rattle.x86_64_model.specs.WrittenOut.{walk_4, walk_5, translate_4, translate_5}
use Rattle.x86_64_model.specs.Arrivals.{Reaches, leads}

-- The page walk of four levels equals the one that is written out word by word.
abbrev pub FourWrittenOut : Type 0
FourWrittenOut = (T : Words) (root p : ℕ) → page_walk 4 T root p ≡ walk_4 T root p

-- The page walk of five levels equals the one that reads the root's word and goes on with the walk of four levels.
abbrev pub FiveWrittenOut : Type 0
FiveWrittenOut = (T : Words) (root p : ℕ) → page_walk 5 T root p ≡ walk_5 T root p

-- The page walk arrives by the words that it reads: in the page that the last of them maps, with the rights that all of them grant.
abbrev pub WalksArriveBySteps : Type 0
WalksArriveBySteps = (L : ℕ) (T : Words) (root p : ℕ) → page_walk L T root p ≡ arrival_along p (steps T p L root)

-- The answer of `translate` with four levels equals the one that is written out entry by entry.
abbrev pub TranslateWrittenOut : Type 0
TranslateWrittenOut = (E : List ℕ → ℕ) (p : ℕ) → translate 4 E p ≡ translate_4 E p

-- The answer of `translate` with five levels equals the one that reads the root's entry and goes on with that of four levels.
abbrev pub TranslateFiveWrittenOut : Type 0
TranslateFiveWrittenOut = (E : List ℕ → ℕ) (p : ℕ) → translate 5 E p ≡ translate_5 E p

-- In every valid hierarchy and at every position (the number of an address counted without the gap), also in the recursive
-- window, `translate` names a present mapping if and only if the walk arrives, and at the same address.
abbrev pub TranslateAgrees : Type 0
TranslateAgrees = (L : ℕ) (T : Words) (root : ℕ) (M : PathMap) (window : Option Window) → IsValidFor L window T root M
    → (p : ℕ) → Agrees (translate L (entry_at window M) p) (page_walk L T root p)

-- If the path of a position is the recursive index, repeated, and then q, its walk arrives at the frame that the words lead to
-- along q, whatever all other words hold. So the window of the root and of each table shows exactly that table.
abbrev pub WindowsReach : Type 0
WindowsReach = (L : ℕ) → 0 < L → (T : Words) (root : ℕ) (window : Window) → window.index < 512 → IsSome (T root) → IsSelfEntry T root window
    → (times : ℕ) (q : List ℕ) (f : ℕ) → leads T root q ≡ Some f
    → (p : ℕ) → page_path L p ≡ replicate times window.index ++ q → Reaches (page_walk L T root p) (f + p % span 1)
