-- Entries that are alike: what calls read of them, and what setting flags and new tables leave of them.
use Rattle.std.proofs.Common.{◌≡◌, ◌⊎◌, inl, inr, ⊎_elim, ◌<◌, ℕ, ◌==◌, true, false, List, [], length, bit_and, bit_or, min, max, refl, sym, ap, ◌∙◌, subst, subst₂, arith, eqb-true}
use Rattle.std.specs.Int.{bit_at}
use Rattle.std.specs.Int.Bits.{or_zero_r}
use Rattle.std.proofs.lemmas.Nat.{and_assoc}
use Rattle.std.proofs.lemmas.Nat.Bits.{same_from_bits, bit_at_and, bit_at_or}
use Rattle.x86_64_model.specs.Entry.{IsParentFlags, has, used, present, huge, address}
use Rattle.x86_64_model.specs.PathMap.{PathMap, entry, put}
use Rattle.x86_64_model.specs.Position.{page_path}
use Rattle.x86_64_model.specs.Alike.{without_writable, AlikeTables, Alike}
use Rattle.x86_64_model.proofs.Lemmas.Entries.Bits.{and_or_distrib}
use Rattle.x86_64_model.proofs.Lemmas.Paths.Puts.{cases_path, entry-put_same, entry-put_other}
use Rattle.x86_64_model.proofs.Lemmas.Maps.Frames.{IsFrame}
use Rattle.x86_64_model.proofs.Lemmas.Maps.Accepted.{marked_parent, new_parent}
use Rattle.x86_64_model.proofs.Lemmas.Hierarchies.Trees.{plain_table, used_table}
use Rattle.x86_64_model.proofs.Lemmas.Walks.Fronts.{SameTests, tested_same}
use Rattle.x86_64_model.proofs.Lemmas.Machines.Spares.{translated_by, length_path}
pub use Rattle.x86_64_model.specs.Laws.Pairs.{IsAdded, NoneNames, AlikeRuns}

-- ---- entries that are alike

-- all that calls read of them
pub record LikeAt (e f : ℕ) : Type 0 where
  pub same_used : used f ≡ used e
  pub same_present : present f ≡ present e
  pub same_huge : huge f ≡ huge e
  pub same_address : address f ≡ address e

pub like_same : (e f : ℕ) → f ≡ e → LikeAt e f
like_same e f is = record { same_used = ap used is; same_present = ap present is; same_huge = ap huge is; same_address = ap address is }

pub without : (e f part : ℕ) → bit_and 0xffff_ffff_ffff_fffd part ≡ part → without_writable e ≡ without_writable f → bit_and f part ≡ bit_and e part
without e f part h same = sym (and_assoc part f 0xffff_ffff_ffff_fffd ∙ ap (bit_and f) h) ∙ ap (λ x. bit_and x part) (sym same) ∙ and_assoc part e 0xffff_ffff_ffff_fffd ∙ ap (bit_and e) h

pub like_tables : (e f : ℕ) → AlikeTables e f → LikeAt e f
unfolding has address
like_tables e f t = record {
  same_used = used_table f t.other_names ∙ sym (used_table e t.one_names);
  same_present = ap (λ x. x == 1) (without e f 1 refl t.same_else);
  same_huge = plain_table f t.other_names ∙ sym (plain_table e t.one_names);
  same_address = without e f 0x000f_ffff_ffff_f000 refl t.same_else;
}

module _ (L : ℕ) (M N : PathMap) (alike : Alike L M N) where
  pub like : (q : List ℕ) → LikeAt (entry M q) (entry N q)
  like q = ⊎_elim (λ e. like_same _ _ (sym e)) (λ t. like_tables _ _ t.1) (alike q)

  -- entries that are huge or of level one are equal
  pub leaf_same : (q : List ℕ) → huge (entry M q) ≡ true → entry N q ≡ entry M q
  leaf_same q h = ⊎_elim (λ e. sym e) (λ t. let x : true ≡ false = sym h ∙ plain_table _ t.1.one_names in cc) (alike q)

  pub alike_put : (q : List ℕ) (x y : ℕ) → (x ≡ y) ⊎ ((length q < L) × AlikeTables x y) → Alike L (put M q x) (put N q y)
  alike_put q x y h r = ⊎_elim
      (λ is. subst₂ (λ a b. (a ≡ b) ⊎ ((length r < L) × AlikeTables a b)) (sym (ap (entry (put M q x)) is ∙ entry-put_same M q x)) (sym (ap (entry (put N q y)) is ∙ entry-put_same N q y))
      (subst (λ q. (x ≡ y) ⊎ ((length q < L) × AlikeTables x y)) (sym is) h))
      (λ n. subst₂ (λ a b. (a ≡ b) ⊎ ((length r < L) × AlikeTables a b)) (sym (entry-put_other M q x r n)) (sym (entry-put_other N q y r n)) (alike r))
      (cases_path r q)

  pub alike_tests : (q : List ℕ) → SameTests (entry M q) (entry N q)
  alike_tests q = record { same_present = (like q).same_present; same_huge = (like q).same_huge; same_leaf = leaf_same q }

  pub alike_translated : (p : ℕ) → translated_by L N p ≡ translated_by L M p
  alike_translated p = tested_same L p (entry M) (entry N) (λ q l. alike_tests q)
      (⊎_elim (λ e. sym e) (λ t. let x = t.0 in absurd (omega (arith, x, length_path L p))) (alike (page_path L p)))
      L [] (omega arith) refl

pub marked_tables : (more e f : ℕ) → IsParentFlags more → AlikeTables e f → AlikeTables (bit_or e more) (bit_or f more)
marked_tables more e f marks t = record {
  one_names = (marked_parent more e marks (used_table e t.one_names) (plain_table e t.one_names)).is_table;
  other_names = (marked_parent more f marks (used_table f t.other_names) (plain_table f t.other_names)).is_table;
  same_else = and_or_distrib e more _ ∙ ap (λ x. bit_or x (bit_and more 0xffff_ffff_ffff_fffd)) t.same_else ∙ sym (and_or_distrib f more _);
}

pub alike_marked : (L more : ℕ) → IsParentFlags more → (M N : PathMap) → Alike L M N → (p : List ℕ) → Alike L (put M p (bit_or (entry M p) more)) (put N p (bit_or (entry N p) more))
alike_marked L more marks M N alike p = alike_put L M N alike p _ _ (⊎_elim (λ e. inl (ap (λ x. bit_or x more) e)) (λ t. inr (t.0, marked_tables more _ _ marks t.1)) (alike p))

-- ---- new tables: with PRESENT among the parent flags, added flags are at most WRITABLE

pub or_part : (x part : ℕ) → bit_and x part ≡ part → bit_or x part ≡ x
or_part x part h = same_from_bits _ _ (λ i. bit_at_or x part i ∙ by (bit_at x i) (bit_at part i) (sym (bit_at_and x part i) ∙ ap (λ y. bit_at y i) h))
  where
    by : (a b : ℕ) → min a b ≡ b → max a b ≡ a
    by a b h = omega arith

pub has_is : (e f : ℕ) → has e f ≡ true → bit_and e f ≡ f
unfolding has
has_is e f h = eqb-true _ f h

pub nothing_added : (more added : ℕ) → present more ≡ true → IsAdded added → without_writable (bit_or more added) ≡ without_writable more
nothing_added more added h is = and_or_distrib more added _ ∙ ⊎_elim
    (λ z. ap (bit_or (without_writable more)) z ∙ or_zero_r _)
    (λ o. ap (bit_or (without_writable more)) o ∙ or_part (without_writable more) 1 (and_assoc 1 more 0xffff_ffff_ffff_fffd ∙ has_is more 1 h))
    is.few

pub new_tables : (more a b f : ℕ) → IsParentFlags more → present more ≡ true → IsAdded a → IsAdded b → IsFrame f → AlikeTables (bit_or f (bit_or more a)) (bit_or f (bit_or more b))
new_tables more a b f marks h ia ib frame = record {
  one_names = (new_parent more a f marks ia.adds frame).is_table;
  other_names = (new_parent more b f marks ib.adds frame).is_table;
  same_else = and_or_distrib f (bit_or more a) _ ∙ ap (bit_or (bit_and f 0xffff_ffff_ffff_fffd)) (nothing_added more a h ia ∙ sym (nothing_added more b h ib)) ∙ sym (and_or_distrib f (bit_or more b) _);
}
