-- The worked cases of accesses.
use Rattle.std.proofs.Common.{◌≡◌, Bool, true, false, true≢false, le-leb, not, ◌&&◌, ◌||◌, refl, sym, ◌∙◌}
use Rattle.std.proofs.Math.Bool.{or-true}
use Rattle.x86_64_model.specs.Access.{reserved, reserved_by_some}
use Rattle.x86_64_model.specs.Mappings.{every_right}
use Rattle.x86_64_access.proofs.Walked.{on_end, on_root}
use Rattle.x86_64_access.specs.Corners.{GlobalIsReserved, HugeIsReserved, MissingEntriesFault, NoExecuteIsReserved, OthersAreReserved, ReservedBitsFault, SmapKeepsOut, SmepKeepsOut, SupervisorsWrite}

pub missing_entries_fault : MissingEntriesFault
missing_entries_fault L c T root p e a reads missing =
    on_root c T p a L root ∙ sym (on_end c T p a L root every_right e reads.0 reads.1 (rw missing refl)) ∙ rw missing refl

pub reserved_bits_fault : ReservedBitsFault
reserved_bits_fault L c T root p e a reads here bad =
    on_root c T p a L root ∙ sym (on_end c T p a L root every_right e reads.0 reads.1 (rw (here, bad) refl)) ∙ rw (here, bad) refl

pub no_execute_is_reserved : NoExecuteIsReserved
unfolding reserved
no_execute_is_reserved L c T root p e a reads here set off =
    reserved_bits_fault L c T root p e a reads here (rw (set, off) (or-true _))

by_some : (some a b d : Bool) → some ≡ true → (((some || a) || b) || d) ≡ true
by_some true a b d h = refl
by_some false a b d h = absurd (true≢false (sym h))

pub huge_is_reserved : HugeIsReserved
unfolding reserved
huge_is_reserved c T root p e a reads here set none =
    let bad : reserved_by_some c 3 e ≡ true = rw (set, none) refl in
    reserved_bits_fault 3 c T root p e a reads here (by_some _ _ _ _ bad)

pub global_is_reserved : GlobalIsReserved
unfolding reserved
global_is_reserved L c T root p e a high reads here set local =
    let bad : reserved_by_some c L e ≡ true = rw (set, local, le-leb 4 L high) (or-true _) in
    reserved_bits_fault L c T root p e a reads here (by_some _ _ _ _ bad)

pub others_are_reserved : OthersAreReserved
unfolding reserved
others_are_reserved c level e giant local = rw (giant, local) refl

pub supervisors_write : SupervisorsWrite
supervisors_write c x = by c.write_protect
  where
    by : (b : Bool) → ((false || not b) && true) ≡ not b
    by true = refl
    by false = refl

pub smap_keeps_out : SmapKeepsOut
smap_keeps_out c w x on = rw on (by c.ac)
  where
    by : (b : Bool) → not (not b) ≡ b
    by true = refl
    by false = refl

pub smep_keeps_out : SmepKeepsOut
smep_keeps_out c w = refl
