-- Accesses by words that somebody has read on the way, without a memory: what a hypervisor does that loads each word of a guest's
-- tables once, while the guest changes them.
use Rattle.std.specs.Prelude.{◌≡◌, zero, suc, ℕ, cond, List, [], ◌∷◌, map}
use Rattle.x86_64_model.specs.Access.{Access, Controls, Outcome, access, outcome, reserved, until}
use Rattle.x86_64_model.specs.Entry.{address}
use Rattle.x86_64_model.specs.Memory.{Words}
use Rattle.x86_64_model.specs.Position.{index}
use Rattle.x86_64_model.specs.Steps.{Step, leads_on, steps}

-- The steps of a page walk at position p (the number of an address counted without the non-canonical gap) that reads these words one
-- after another, from a frame's table of a level down. They end with the first word that leads to no further table, or with the
-- last of these words.
unfoldable pub steps_along : (p level frame : ℕ) → (words : List ℕ) → List Step
steps_along p zero frame words = []
steps_along p (suc n) frame [] = []
steps_along p (suc n) frame (e ∷ words) =
    record { level = suc n; frame = frame; index = index (suc n) p; word = e } ∷ cond (leads_on (suc n) e) (steps_along p n (address e) words) []

-- The words of steps.
abbrev pub step_words : List Step → List ℕ
step_words steps = map (λ s. s.word) steps

-- What a processor does with an access at position p (the number of an address counted without the non-canonical gap), if it reads
-- these words one after another, by L levels of tables below a root. After the last of them it needs the table that this names.
unfoldable pub access_along : (L : ℕ) → Controls → (root p : ℕ) → Access → (words : List ℕ) → Outcome
access_along L c root p a words = outcome c a p root (until (λ s. reserved c s.level s.word) (steps_along p L root words))

-- In every memory in which the page walk of position p reads these words, this is what comes of an access there.
abbrev pub IsAccessWherever : (L : ℕ) → Controls → (root p : ℕ) → Access → (words : List ℕ) → Outcome → Type 0
IsAccessWherever L c root p a words came = (T : Words) → step_words (steps T p L root) ≡ words → came ≡ access L c T root p a
