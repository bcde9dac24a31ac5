-- The tables of rights and error codes are those of the definitions.
use Rattle.std.proofs.Common.{◌≡◌, ◌&&◌, ◌==◌, Bool, true, false, not, cond, refl, sym, eqb-true}
use Rattle.std.proofs.lemmas.Bool.{and_parts}
use Rattle.x86_64_model.specs.Access.{Access, Controls, Fetch, Kind, Read, Write, access_allowed, code}
use Rattle.x86_64_model.specs.Mappings.{Rights}
use Rattle.x86_64_access.specs.RightsTable.{CodesAreListed, RightsAreListed, in_codes_table, in_rights_table}

-- ---- what holds for both truth values holds for each

both : (Bool → Bool) → Bool
both f = f true && f false

from_both : (f : Bool → Bool) → both f ≡ true → (b : Bool) → f b ≡ true
unfolding both
from_both f h true = (and_parts _ _ h).0
from_both f h false = (and_parts _ _ h).1

same : (a b : Bool) → Bool
same a b = cond a b (not b)

same_true : (a b : Bool) → same a b ≡ true → a ≡ b
unfolding same
same_true true b h = sym h
same_true false true h = h
same_true false false h = refl

-- ---- rights

module _ (k : Controls) where
  abbrev controls : (wp nx smep smap ac : Bool) → Controls
  controls wp nx smep smap ac = record k { write_protect = wp; no_execute = nx; smep = smep; smap = smap; ac = ac }

  abbrev row_right : Kind → Bool → (wp nx smep smap ac w u x : Bool) → Bool
  row_right kind user wp nx smep smap ac w u x =
      let c = controls wp nx smep smap ac in let a : Access = record { kind = kind; user = user } in let r : Rights = record { write = w; user = u; execute = x } in
      same (access_allowed c a r) (in_rights_table c a r)

  abbrev all_right : Kind → Bool → Bool
  all_right kind user = both (λ wp. both (λ nx. both (λ smep. both (λ smap. both (λ ac. both (λ w. both (λ u. both (λ x. row_right kind user wp nx smep smap ac w u x))))))))

  rows : (kind : Kind) (user : Bool) → all_right kind user ≡ true
  unfolding both same
  rows Read false = refl
  rows Read true = refl
  rows Write false = refl
  rows Write true = refl
  rows Fetch false = refl
  rows Fetch true = refl

  -- a row from all its columns
  one_right : (kind : Kind) (user wp nx smep smap ac w u x : Bool) → all_right kind user ≡ true → row_right kind user wp nx smep smap ac w u x ≡ true
  one_right kind user wp nx smep smap ac w u x h = from_both _ (from_both _ (from_both _ (from_both _ (from_both _ (from_both _ (from_both _ (from_both _ h wp) nx) smep) smap) ac) w) u) x

pub rights_are_listed : RightsAreListed
rights_are_listed c a r = same_true _ _ (one_right c a.kind a.user c.write_protect c.no_execute c.smep c.smap c.ac r.write r.user r.execute (rows c a.kind a.user))

-- ---- error codes

module _ (c : Controls) where
  abbrev row_code : Kind → Bool → (nx smep here bad : Bool) → Bool
  row_code kind user nx smep here bad =
      let d : Controls = record c { no_execute = nx; smep = smep } in
      let a : Access = record { kind = kind; user = user } in
      code d a here bad == in_codes_table d a here bad

  abbrev all_codes : Kind → Bool → Bool
  all_codes kind user = both (λ nx. both (λ smep. both (λ here. both (λ bad. row_code kind user nx smep here bad))))

  code_rows : (kind : Kind) (user : Bool) → all_codes kind user ≡ true
  unfolding both
  code_rows Read false = refl
  code_rows Read true = refl
  code_rows Write false = refl
  code_rows Write true = refl
  code_rows Fetch false = refl
  code_rows Fetch true = refl

  one_code : (kind : Kind) (user nx smep here bad : Bool) → all_codes kind user ≡ true → row_code kind user nx smep here bad ≡ true
  one_code kind user nx smep here bad h = from_both _ (from_both _ (from_both _ (from_both _ h nx) smep) here) bad

pub codes_are_listed : CodesAreListed
codes_are_listed c a here bad = eqb-true _ _ (one_code c a.kind a.user c.no_execute c.smep here bad (code_rows c a.kind a.user))
