-- Rights: what two of them allow together, and their text.
use Rattle.std.specs.Prelude.{ℕ, Bool, ◌&&◌, ◌||◌, ◌++◌, if◌then◌else◌, List, codes}
use Rattle.x86_64_model.specs.Mappings.{Rights}

-- The rights that r and s both grant.
abbrev pub both : (r s : Rights) → Rights
both r s = record { write = r.write && s.write; user = r.user && s.user; execute = r.execute && s.execute }

-- The rights that at least one of r and s grants.
abbrev pub either : (r s : Rights) → Rights
either r s = record { write = r.write || s.write; user = r.user || s.user; execute = r.execute || s.execute }

-- The letter of a right if the right is granted, - otherwise.
abbrev pub letter_text : Bool → (letter : List ℕ) → List ℕ
letter_text holds letter = if holds then letter else codes "-"

-- The text of rights: the letters r, w, x and u, for reads, writes, execution, and accesses by user code. The r is always there,
-- and each other letter is replaced by - if its right is missing.
unfoldable pub rights_text : Rights → List ℕ
rights_text rights = codes "r" ++ letter_text rights.write (codes "w") ++ letter_text rights.execute (codes "x") ++ letter_text rights.user (codes "u")
