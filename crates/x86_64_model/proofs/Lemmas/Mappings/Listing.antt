-- The mappings from a position on, as an iterator takes them: the one found there is the next, and if none is found they are
-- those from a later position on.
use Rattle.std.proofs.Common.{◌≡◌, ◌<◌, ◌≤◌, ◌+◌, ℕ, [], ◌∷◌, Some, None, ◌∙◌, arith}
use Rattle.x86_64_model.specs.Memory.{Words}
use Rattle.x86_64_model.specs.Position.{position_count}
use Rattle.x86_64_model.specs.Mappings.{Mapping, mappings_of, mappings_from}
use Rattle.x86_64_model.specs.private.Found.{found}
use Rattle.x86_64_model.proofs.Lemmas.Mappings.Chains.{from_kept, from_dropped, found_first, from_same}
use Rattle.x86_64_model.proofs.Lemmas.Mappings.Positions.{mappings_chain, find_found}

pub from_first : (L : ℕ) (T : Words) (root : ℕ) → mappings_from 0 (mappings_of L T root) ≡ mappings_of L T root
from_first L T root = from_kept 0 0 (position_count L) (mappings_of L T root) (mappings_chain L T root) (omega arith)

pub from_found : (L : ℕ) (T : Words) (root p : ℕ) (m : Mapping) → p < position_count L → found L T root p ≡ Some m
    → mappings_from p (mappings_of L T root) ≡ m ∷ mappings_from (m.start + m.size) (mappings_of L T root)
from_found L T root p m inside is = found_first p 0 (position_count L) (mappings_of L T root) m (mappings_chain L T root) (find_found L T root p inside ∙ is)

pub from_past : (L : ℕ) (T : Words) (root p q : ℕ) → p ≤ q → q ≤ position_count L → ((x : ℕ) → p ≤ x → x < q → found L T root x ≡ None)
    → mappings_from p (mappings_of L T root) ≡ mappings_from q (mappings_of L T root)
from_past L T root p q l most none = from_same p q 0 (position_count L) (mappings_of L T root) (mappings_chain L T root) l
    (λ x from to. find_found L T root x (omega (arith, to, most)) ∙ none x from to)

pub from_last : (L : ℕ) (T : Words) (root : ℕ) → mappings_from (position_count L) (mappings_of L T root) ≡ []
from_last L T root = from_dropped (position_count L) 0 (position_count L) (mappings_of L T root) (mappings_chain L T root) (omega arith)

-- ---- what a found mapping is
