-- Explanations of walks that arrive: how large the page is, and which words take rights away.
use Rattle.std.specs.Prelude.{ℕ, ◌++◌, Bool, not, if◌then◌else◌, List, [], codes}
use Rattle.std.specs.List.{flat_map}
use Rattle.text.specs.Sizes.{size_text}
use Rattle.x86_64_model.specs.Entry.{writable, user, no_execute}
use Rattle.ptdump_json.specs.Walks.{End, Walk, arrives_at, line, word_place_text}
use Rattle.ptdump_json.specs.declared.word_read.WordRead.{WordRead}

-- The line that a word lacks the right with this name, or nothing if it has the right.
abbrev pub loss_text : WordRead → (has_right : Bool) → (right : List ℕ) → List ℕ
loss_text w has_right right = if has_right then [] else line (word_place_text w ++ codes " has no " ++ right)

-- A line for each right that a word takes away.
unfoldable pub losses_text : WordRead → List ℕ
losses_text w = loss_text w (writable w.word) (codes "write") ++ loss_text w (user w.word) (codes "user")
    ++ loss_text w (not (no_execute w.word)) (codes "execute")

-- A line for the size of the page in bytes, and the lines of the words that take rights away.
abbrev pub explained_by : (size : ℕ) → List WordRead → List ℕ
explained_by size words = line (codes "page of " ++ size_text size) ++ flat_map losses_text words

-- The explanation of a walk with this end and these words, or nothing if it doesn't arrive.
abbrev pub explained : End → List WordRead → List ℕ
explained (arrives_at to size) words = explained_by size words
explained end words = []

-- The explanation of a walk: how large its page is, and which words take rights away. A walk that doesn't arrive has none.
abbrev pub explanation_text : Walk → List ℕ
explanation_text walk = explained walk.end walk.words
