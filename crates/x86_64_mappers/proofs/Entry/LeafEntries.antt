-- The entries of pages: properties of an entry that names a frame, and the tests that the code makes of an entry.
use Rattle.std.proofs.Common.{◌≡◌, ◌%◌, ℕ, Bool, true, false, ◌==◌, not, Ok, Err, refl, sym, ◌∙◌, ◌≢◌, ◌≤◌, nat_lt, ap, arith, eq-eqb, ne_eqb, ltb-true}
use Rattle.std.proofs.lemmas.Bool.{ltb-false}
use Rattle.std.proofs.Math.Bool.{beq}
use Rattle.x86_64_model.specs.Entry.{present, huge, address}
use Rattle.x86_64_model.specs.Position.{span}
use Rattle.x86_64_model.specs.Refusal.{PageNotMapped, ParentEntryHugePage, InvalidFrameAddress}
use Rattle.x86_64_model.proofs.Lemmas.Entries.Words.{address_aligned}
use Rattle.x86_64_mappers.specs.private.LeafFrames.{leaf_by, leaf_frame}

-- an entry that maps a page of a level to a frame
pub record NamesFrame (level e frame : ℕ) : Type 0 where
  pub is_present : present e ≡ true
  pub is_huge : (level == 1) ≡ false → huge e ≡ true
  pub names : frame ≡ address e

pub names_frame : (level e frame : ℕ) → Ok frame ≡ leaf_frame level e → NamesFrame level e frame
names_frame level e frame is = by (present e) (level == 1) (huge e) (address e % span level == 0) refl refl refl is
  where
    by : (p s h a : Bool) → present e ≡ p → (level == 1) ≡ s → huge e ≡ h → Ok frame ≡ leaf_by p s h a (address e) → NamesFrame level e frame
    by false s h a x y z is = absurd (let t = is in cc)
    by true true true a x y z is = absurd (let t = is in cc)
    by true true false a x y z is = record { is_present = x; is_huge = λ t. absurd (let u : true ≡ false = sym y ∙ t in cc); names = (let t : frame ≡ address e = cc in t) }
    by true false false a x y z is = absurd (let t = is in cc)
    by true false true true x y z is = record { is_present = x; is_huge = λ t. z; names = (let t : frame ≡ address e = cc in t) }
    by true false true false x y z is = absurd (let t = is in cc)

module _ (level e : ℕ) (low : 1 ≤ level) where
  small_or_large : (large : Bool) → nat_lt 1 level ≡ large → (level == 1) ≡ not large
  small_or_large true is = ne_eqb level 1 (λ one. let more = ltb-true 1 level is in absurd (omega (arith, one)))
  small_or_large false is = eq-eqb level 1 (let most = ltb-false 1 level is in omega arith)

  decided : (p h large a : Bool) → present e ≡ p → huge e ≡ h → nat_lt 1 level ≡ large → (address e % span level == 0) ≡ a → leaf_frame level e ≡ leaf_by p (not large) h a (address e)
  decided p h large a x y z w = λ i. leaf_by (x i) (small_or_large large z i) (y i) (w i) (address e)

  pub absent_leaf : present e ≡ false → Err PageNotMapped ≡ leaf_frame level e
  absent_leaf x = sym (decided false _ _ _ x refl refl refl)

  module _ (here : present e ≡ true) where
    pub wrong_leaf : not (beq (huge e) (nat_lt 1 level)) ≡ true → Err ParentEntryHugePage ≡ leaf_frame level e
    wrong_leaf = by (huge e) (nat_lt 1 level) refl refl
      where
        by : (h large : Bool) → huge e ≡ h → nat_lt 1 level ≡ large → not (beq h large) ≡ true → Err ParentEntryHugePage ≡ leaf_frame level e
        by true true y z t = absurd (let t = t in cc)
        by true false y z t = sym (decided true true false _ here y z refl)
        by false true y z t = sym (decided true false true _ here y z refl)
        by false false y z t = absurd (let t = t in cc)

    module _ (right : not (beq (huge e) (nat_lt 1 level)) ≡ false) where
      pub aligned_leaf : address e % span level ≡ 0 → Ok (address e) ≡ leaf_frame level e
      aligned_leaf aligned = by (huge e) (nat_lt 1 level) refl refl right
        where
          by : (h large : Bool) → huge e ≡ h → nat_lt 1 level ≡ large → not (beq h large) ≡ false → Ok (address e) ≡ leaf_frame level e
          by true true y z t = sym (decided true true true true here y z (eq-eqb (address e % span level) 0 aligned))
          by true false y z t = absurd (let t = t in cc)
          by false true y z t = absurd (let t = t in cc)
          by false false y z t = sym (decided true false false _ here y z refl)

      pub unaligned_leaf : address e % span level ≢ 0 → Err (InvalidFrameAddress (address e)) ≡ leaf_frame level e
      unaligned_leaf unaligned = by (huge e) (nat_lt 1 level) refl refl right
        where
          by : (h large : Bool) → huge e ≡ h → nat_lt 1 level ≡ large → not (beq h large) ≡ false → Err (InvalidFrameAddress (address e)) ≡ leaf_frame level e
          by true true y z t = sym (decided true true true false here y z (ne_eqb (address e % span level) 0 unaligned))
          by true false y z t = absurd (let t = t in cc)
          by false true y z t = absurd (let t = t in cc)
          by false false y z t = absurd (unaligned (let most = ltb-false 1 level z in let one : level ≡ 1 = omega arith in ap (λ n. address e % span n) one ∙ address_aligned e))
