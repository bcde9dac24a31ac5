-- A call on one entry: its new word and the answer, decided by its old word, and the memory afterwards.
use Rattle.std.specs.Prelude.{◌≡◌, ◌<◌, ◌-◌, ℕ, List, length, take, get_or, Result, Ok, Err}
use Rattle.x86_64_model.specs.Layout.{Layout}
use Rattle.x86_64_model.specs.Hierarchy.{◌laid_in◌, words}
use Rattle.x86_64_model.specs.Memory.{Memory}
use Rattle.x86_64_model.specs.Refusal.{Refusal, Answer, Done, Refused}
use Rattle.x86_64_model.specs.Memory as memory
use Rattle.x86_64_mappers.specs.private.Stops.{IsFound}
use Rattle.x86_64_mappers.specs.private.Writes.{IsSet}

-- The word of an entry after a call on it, by the entry's word before: the new word if the call is done, or the old one if it is
-- refused. The result `says` has the new word and the frame in the answer.
abbrev pub word_said : (before : ℕ) → (says : Result (ℕ × ℕ) Refusal) → ℕ
word_said e (Ok done) = done.0
word_said e (Err why) = e

-- The answer of a call on an entry: done with a frame, or refused. The result `says` has the new word of the entry and the frame in
-- the answer.
abbrev pub answer_said : (says : Result (ℕ × ℕ) Refusal) → Answer
answer_said (Ok done) = Done done.1
answer_said (Err why) = Refused why

-- The entry at a path's end was changed. The relation calls says which words before and after go with an answer.
pub record IsCalledAt {X : Type 0} (l : Layout) (m : Memory) (path : List ℕ) (calls : ℕ → X → ℕ → Type 0) (answer : X) (n : Memory) : Type 0 where
  pub frame : ℕ
  pub word : ℕ
  pub found : IsFound l m (take (length path - 1) path) (Ok frame)
  pub inside : get_or path (length path - 1) 0 < 512
  pub called : calls (memory.word (words (l laid_in m)) frame (get_or path (length path - 1) 0)) answer word
  pub set : IsSet l.places m frame (get_or path (length path - 1) 0) word n

-- The entry at a path's end was changed as the relation calls allows, or a parent refused the call and nothing changed.
abbrev pub IsChangedAt : {X : Type 0} → Layout → Memory → (path : List ℕ) → (calls : ℕ → X → ℕ → Type 0) → Result X Refusal → Memory → Type 0
IsChangedAt l m q calls (Ok answer) n = IsCalledAt l m q calls answer n
IsChangedAt l m q calls (Err why) n = IsFound l m (take (length q - 1) q) (Err why) × (n ≡ m)
