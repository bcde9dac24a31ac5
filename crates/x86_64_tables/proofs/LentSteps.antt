-- A table of the slice that a memory holds is lent for the lifetime of the reference to the memory, and the memory changes
-- with the table. Assumes `Logic`.
use Rattle.std.proofs.Common.{◌≡◌, ◌<◌, ◌+◌, ◌*◌, ◌^◌, ℕ, List, [], ◌∷◌, Some, None, length, refl, sym, subst}
use lib.ListN.{get_or, set, length-map}
use seplogic.Ra.Ura.{Ura}
use mir.Syntax.{Ty, Width, int_big, erased, mut, ty_ref}
use mir.Val.{Val, Fits, vint, vptr, of_list}
use base.Logic.{SProp, ent, emp, sep, ex, via, guard_i}
use base.Fml.{GName, Lft, Share, Incl, fobs, fbor, flft}
use prog.Wp.{Env}
use types.Logic.{Logic, sem}
use types.Kit.{Item, ‵, ◌⊛◌, ◌$◌, ◌∵◌, !, qed, later, some, move, use2, use3, split, split3, fsplit3, fjoin, fjoin3, fpack, feq_i, pick, rewrite, await, updating, now, show, done, drop}
use types.Hole.{here}
use types.SemTy.{Body, Arr}
use types.Follow.{after}
use types.Match.{live}
use types.Run.{Opd}
use denote.Array.{Array}
use denote.Enum.Row.{tagged_with}
use denote.Enum.Enum.{form_of, in_a_row}
use denote.Enum.Declared.{shape}
use denote.Follow.{follows, follows_then}
use denote.FollowSlice.{heres_id}
use denote.Memory.{mem, pointee}
use denote.RattleType.{RattleType, Valss, owns}
use denote.Ref.{MutBor, MutRef, NamedLft, at_last}
use denote.Slice.{MutSlice, heres, slice_ty, mut_slice_vals}
use denote.Steps.{nothing}
use denote.Through.{renamed, lends_inner_slice}
use borrow.Follows.Field.{HandsTo, hands_to}
use borrow.Rule.Slice.Handed.{takes_at, get_or_heres}
use borrow.Struct.Lend.{kept_record, put_record, record_fill, record_apart}
use borrow.Table.Elements.{at, at_mul}
use Rattle.std.specs.contracts.option.Option as Op
use Rattle.x86_64_tables.specs.declared.phys_memory.lent_memory.LentMemory.{LentMemory}
use Rattle.x86_64_tables.specs.contracts.phys_memory.lent_memory.LentMemory as lent
use Rattle.x86_64_tables.specs.contracts.page_table.table.PageTable as table
use Rattle.x86_64_tables.proofs.phys_memory.lent_memory.LentMemory.TheLaws as laws

-- a constant whose bound is a proof
module _ {M : Type 1} {𝓤 : Ura M} {K : Type 0} {𝓛 : Logic 𝓤} {Γ : List (Item 𝓤)} {E : Env 𝓤 𝓛.H} where
  pub big_lit : K → {w : Width} {n : ℕ} → Fits w n → Opd K 𝓛 Γ E (int_big w n) (vint w n)
  big_lit t {w} {n} z = record { go = λ Kt h. via 𝓤 (Kt (vint w n)) h (guard_i 𝓤 (Fits w n) (Kt (vint w n)) z) }

-- a table
abbrev pub Y : RattleType
Y = table.the_row

-- the type of a reference to a slice as the places of the code have it, with its lifetime erased
abbrev pub slice_there : Ty
slice_there = slice_ty (ty_ref erased mut (pointee Y.written))

-- the slice and the memory
module _ (N : NamedLft) where
  abbrev pub F : RattleType
  F = MutSlice N.mir N.lft Y

  abbrev pub S : RattleType
  S = lent.the_row N

  -- the memory lends its field
  pub hands_slice : {M : Type 1} {𝓤 : Ura M} (𝓛 : Logic 𝓤) (d : LentMemory) → HandsTo 𝓛 S F (λ o. o + 0) d d.slice (λ s. record d { slice = s })
  hands_slice 𝓛 d =
      let T = lent.the_type N in let L = laws.the_loose N in
      hands_to 𝓛 S F 0 (put_record T L 0 0 (λ x. (x.slice, tt)) lent.the_ghost (λ v g. record { slice = v.0 }) (λ v. tt) (λ x. refl) (λ v g. refl) (λ f. f))
      (kept_record T L 0 0 (λ x. (x.slice, tt)) lent.the_ghost (λ v g. record { slice = v.0 }) (λ v. tt) (λ x. refl) (λ v g. refl) (λ f. f))
      (record_fill T L 0 0 (λ x. (x.slice, tt)) lent.the_ghost (λ v g. record { slice = v.0 }) (λ v. tt) (λ x. refl) (λ v g. refl) (λ f. f) refl (λ f. refl))
      d d.slice
      (record_apart T L 0 0 (λ x. (x.slice, tt)) lent.the_ghost (λ v g. record { slice = v.0 }) (λ v. tt) (λ x. refl) (λ v g. refl) (λ f. f) 𝓛 refl refl d)

-- a slice lends an element
module _ {M : Type 1} {𝓤 : Ura M} (𝓛 : Logic 𝓤) (R : RattleType) (κ : Lft) (q : Share) (b o : ℕ) (γ : GName) where
  open 𝓛 use {H, A}

  abbrev pub Element : List R.Denot → (i p : ℕ) → R.Denot → GName → SProp 𝓤
  Element xs i p y γ' = sep 𝓤 (sem 𝓛 ((MutRef erased κ R).own_val (record { ref_ptr = (b, p); ghost_name = γ'; now = y }) (vptr b p ∷ []))) (sep 𝓤 (A.lft κ q) (sem 𝓛 (follows (Array R 0) R γ γ' (set xs i))))

  pub lends_element : (xs : List R.Denot) (i p : ℕ) (dv : R.Denot) (vs : List Val) → at o (mem R).size i ≡ p → i < length xs
      → ent 𝓤 (sep 𝓤 (sem 𝓛 ((MutSlice erased κ R).own_val (record { ref_ptr = (b, o); ghost_name = γ; now = xs }) vs)) (A.lft κ q)) (H.⇛ (ex 𝓤 (Element xs i p (get_or xs i dv))))
  lends_element xs i p dv vs ep lt =
      qed 𝓛 (‵ ((MutSlice erased κ R).own_val (record { ref_ptr = (b, o); ghost_name = γ; now = xs }) vs) ∷ ‵ (flft κ q) ∷ []) ∵
      updating ! $ fsplit3 ! $ drop ! $
      use3 𝓛 (later (some (λ (γ' : GName). ‵ (fobs γ' (R.coded.code (get_or xs i dv))) ⊛ ‵ (fbor κ (Body (mem R) b p γ')) ⊛ ‵ (flft κ q) ⊛ ‵ (after (Arr (mem R) (length xs)) (mem R) γ γ' (set (heres R xs) i)))))
      (takes_at 𝓛 (mem R) κ (length xs) b o q γ (heres R xs) i p (here (mem R) dv) (get_or xs i dv) ep (subst (λ (k : ℕ). i < k) (sym (length-map xs (here (mem R)))) lt) (get_or_heres (mem R) xs i dv)) $ await ! tt $
      pick ! (λ γ'. split3 ! $ feq_i ! (List Val) (vptr b p ∷ []) (vptr b p ∷ []) refl $ fjoin3 ! $ move ! (1 ∷ []) $ split ! $
      rewrite ! 1 (λ (l : List R.Denot). ‵ (follows (Array R 0) R γ γ' (set l i))) (heres_id R xs) refl $
      now ! $ show ! (Element xs i p (get_or xs i dv)) γ' $ move ! (2 ∷ []) $ done !)

-- the slice in a memory's field lends a table, and the memory changes with it
module _ {M : Type 1} {𝓤 : Ura M} (𝓛 : Logic 𝓤) (N : NamedLft) (κ : Lft) (q : Share) (b o : ℕ) (γ γ₁ : GName) (d : LentMemory) (i : ℕ) where
  open 𝓛 use {H, A}

  -- the index of the table
  abbrev pub spot : ℕ
  spot = i * (mem Y).size + d.slice.ref_ptr.1

  abbrev pub table_ref : GName → MutBor Y.Denot
  table_ref δ = record { ref_ptr = (d.slice.ref_ptr.0, spot); ghost_name = δ; now = get_or d.slice.now i [] }

  abbrev pub put : (F N).Denot → (S N).Denot
  put s = record d { slice = s }

  abbrev pub put_table : Y.Denot → (S N).Denot
  put_table w = put (at_last d.slice (set d.slice.now i w))

  abbrev pub Table : GName → SProp 𝓤
  Table δ = sep 𝓤 (sem 𝓛 ((MutRef erased κ Y).own_val (table_ref δ) (vptr d.slice.ref_ptr.0 spot ∷ []))) (sep 𝓤 (A.lft κ q) (sem 𝓛 (follows (S N) Y γ δ put_table)))

  pub lends_table : Incl κ N.lft → length d.slice.now < 2 ^ 64 → length d.slice.now * (mem Y).size < 2 ^ 63 → i < length d.slice.now
      → ent 𝓤 (sep 𝓤 (A.obs γ₁ ((F N).coded.code d.slice)) (sep 𝓤 (A.bor κ (Body (mem (F N)) b o γ₁)) (sep 𝓤 (A.lft κ q) (sem 𝓛 (follows (S N) (F N) γ γ₁ put))))) (H.⇛ (ex 𝓤 Table))
  lends_table inc fits small lt =
      let x = d.slice in let xs = x.now in
      qed 𝓛 (‵ (fobs γ₁ ((F N).coded.code x)) ∷ ‵ (fbor κ (Body (mem (F N)) b o γ₁)) ∷ ‵ (flft κ q) ∷ ‵ (follows (S N) (F N) γ γ₁ put) ∷ []) ∵ updating ! $
      use3 𝓛 (later (some (λ (γ₂ : GName). ‵ ((MutSlice erased κ Y).own_val (renamed x γ₂) (mut_slice_vals x)) ⊛ ‵ (flft κ q) ⊛ ‵ (follows (F N) (Array Y 0) γ₁ γ₂ (at_last x)))))
      (lends_inner_slice 𝓛 Y erased N.mir κ N.lft (record { ref_ptr = (b, o); ghost_name = γ₁; now = x }) inc (fits, small) q) $ await ! tt $ pick ! (λ γ₂. split3 ! $
      use2 𝓛 (later (some (λ (δ : GName). ‵ ((MutRef erased κ Y).own_val (table_ref δ) (vptr x.ref_ptr.0 spot ∷ [])) ⊛ ‵ (flft κ q) ⊛ ‵ (follows (Array Y 0) Y γ₂ δ (set xs i)))))
      (lends_element 𝓛 Y κ q x.ref_ptr.0 x.ref_ptr.1 γ₂ xs i spot [] (mut_slice_vals x) (at_mul x.ref_ptr.1 (mem Y).size i) lt) $ await ! tt $ pick ! (λ δ. split3 ! $
      -- [the table's reference; the token; how the list, the field and the memory change]
      move ! (3 ∷ 2 ∷ []) $ use2 𝓛 (‵ (follows (F N) Y γ₁ δ (λ w. at_last x (set xs i w)))) (follows_then 𝓛 (F N) (Array Y 0) Y (at_last x) (set xs i) γ₁ γ₂ δ) $
      move ! (3 ∷ 0 ∷ []) $ use2 𝓛 (‵ (follows (S N) Y γ δ put_table)) (follows_then 𝓛 (S N) (F N) Y put (λ w. at_last x (set xs i w)) γ γ₁ δ) $
      now ! $ show ! Table δ $ move ! (1 ∷ 2 ∷ 0 ∷ []) $ done !))

-- ---- constructing an `Option` of one machine value
module _ {M : Type 1} {𝓤 : Ura M} (𝓛 : Logic 𝓤) (R : RattleType) where
  pub some_of : (x : R.Denot) (v : Val) → ent 𝓤 (sem 𝓛 (R.own_val x (v ∷ []))) (sem 𝓛 ((Op.the_row R).own_val (Some x) (live 1 (of_list (v ∷ [])) ∷ [])))
  some_of x v =
      qed 𝓛 (‵ (R.own_val x (v ∷ [])) ∷ []) ∵ nothing ! $ move ! (1 ∷ 0 ∷ []) $ fjoin ! $ feq_i ! (List Val) (v ∷ []) (v ∷ []) refl $ fjoin ! $
      fpack ! (Valss (R ∷ [])) (in_a_row (R ∷ []) (owns (R ∷ []) (x, tt)) (v ∷ [])) (v ∷ [], tt) $
      feq_i ! (List Val) (live 1 (of_list (v ∷ [])) ∷ []) (live 1 (of_list (v ∷ [])) ∷ []) refl $ fjoin ! $
      fpack ! (List Val) (tagged_with (form_of (shape (Op.the_type R))) (form_of (shape (Op.the_type R))).payload ((Op.the_type R).to (Some x)) (live 1 (of_list (v ∷ [])) ∷ [])) (v ∷ []) $ done !

  pub none_of : ent 𝓤 (emp 𝓤) (sem 𝓛 ((Op.the_row R).own_val None (live 0 (of_list []) ∷ [])))
  none_of =
      qed 𝓛 [] ∵ nothing ! $ feq_i ! (List Val) [] [] refl $ fjoin ! $
      fpack ! (Valss []) (in_a_row [] (owns [] tt) []) tt $
      feq_i ! (List Val) (live 0 (of_list []) ∷ []) (live 0 (of_list []) ∷ []) refl $ fjoin ! $
      fpack ! (List Val) (tagged_with (form_of (shape (Op.the_type R))) (form_of (shape (Op.the_type R))).payload ((Op.the_type R).to None) (live 0 (of_list []) ∷ [])) [] $ done !
