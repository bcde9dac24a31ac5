-- `table_mut` lends a table of the slice, if there is one. Proved by hand: the borrow checker doesn't accept a type that
-- holds a reference to a slice as a lender. Assumes `Logic`.
use Rattle.std.proofs.Common.{◌<◌, ◌+◌, ◌*◌, ◌^◌, ℕ, List, [], ◌∷◌, ◌∙◌, Some, None, length, get_or, slice_set, refl, sym, lit<, ltb→lt, nltb→le, MutBor, arith}
use seplogic.Ra.Ura.{Ura}
use base.Fraction.{full_share}
use base.Logic.{ent, id⊢}
use base.Fml.{GName, Lft, fat, fres, flft, fobs, fbor, ftrue}
use mir.Syntax.{named}
use mir.Val.{Val, vptr, of_list}
use contract.Running.{tables}
use types.Kit.{‵, raw, ◌⊛◌, some, later, at_ret, ◌$◌, ◌∵◌, !, qed, done, move, keep, use0, use1, use2, use3, split, split3, join, fsplit, fsplit3, fjoin, fjoin3, feq_i, feq_l, flt_i, flt_l, pick, await, rewrite, suffices, frame, group}
use types.Logic.{Logic, sem}
use types.Match.{live}
use types.Part.{whole, sub, agg, look_in}
use types.Run.{enter, of_opd, bin, lit, addr, load, stop, fld, no_more, and_then, first, branches, skips, exec, returns, returns_within}
use types.ByLocal.{alloc_all, pass_all, free_all, look_at, get, get_in, through, sets, env}
use types.SemTy.{Body}
use types.Tokens.{name_done}
use denote.Exit.{yes, no}
use denote.Follow.{follows, follows_by, followed}
use denote.Laws.{Typed}
use denote.Memory.{mem, cell_at}
use denote.RattleType.{RattleType, owns}
use denote.Ref.{MutRef, NamedLft, mut_vals, mut_Tells}
use denote.Signature.{plain, types_at, named_lft}
use denote.Slice.{mut_slice_vals, slice_val}
use denote.Steps.{nothing, opens, closes}
use denote.Triple.Walked.{Stays, walk_of, says, stay_dropped, Goes-dropped, Goes-spent_ref, ends_at}
use Rattle.std.proofs.raw_atomic.Walks.{proved}
use Rattle.std.proofs.lemmas.Option.{slice_get-get_or, slice_get_past}
use Rattle.std.specs.contracts.option.Option as Op
use Rattle.x86_64_tables.specs.Lending.{LendsTableIfBy}
use Rattle.x86_64_tables.proofs.NumberedTables.{get-numbered}
use Rattle.x86_64_tables.specs.declared.phys_memory.lent_memory.LentMemory.{LentMemory}
use Rattle.x86_64_tables.specs.contracts.phys_memory.lent_memory.LentMemory as lent
use Rattle.x86_64_tables.specs.contracts.phys_memory.FramePlace as place
use Rattle.x86_64_tables.proofs.phys_memory.FramePlace.TheLaws as place_laws
use Rattle.x86_64_tables.proofs.LentSteps.{Y, F, S, slice_there, big_lit, put_table, lends_table, hands_slice, some_of, none_of}
use Rattle.x86_64_tables.specs.contracts.phys_memory.lent_memory.LentMemoryTableMemory.table_mut as f
use Rattle.x86_64_tables.proofs.phys_memory.lent_memory.LentMemoryTableMemory.table_mut.Statement.{statement}
use Rattle.x86_64_tables.proofs.phys_memory.lent_memory.LentMemoryTableMemory.table_mut.Code as code

abbrev stayed : Stays f.ended.signature.params f.ended.kept
stayed = (stay_dropped _ no, (stay_dropped _ yes, tt))

abbrev place_vals : ℕ → List Val
place_vals i = place_laws.lowered i ∷ []

-- the clause, in each of the two cases
module _ {M : Type 1} {𝓤 : Ura M} (𝓛 : Logic 𝓤) (N : NamedLft) (s : MutBor LentMemory) (i : ℕ) where
  open 𝓛 use {A}

  abbrev with : List ℕ → LentMemory
  with w = record s.now { slice = record s.now.slice { now = slice_set s.now.slice.now i w } }

  lends_some : (κ : Lft) (r : MutBor Y.Denot) → ent 𝓤 (sem 𝓛 (follows (S N) Y s.ghost_name r.ghost_name (put_table 𝓛 N κ full_share 0 0 0 0 s.now i))) (sem 𝓛 (LendsTableIfBy (S N) s (Some r) with))
  unfolding follows_by
  lends_some κ r = id⊢ 𝓤 _

  lends_none : ent 𝓤 (A.res s.ghost_name ((S N).coded.code s.now)) (sem 𝓛 (LendsTableIfBy (S N) s None with))
  unfolding follows_by
  lends_none = id⊢ 𝓤 _

pub table_mut_spec : {M : Type 1} → statement M
table_mut_spec 𝓤 𝓛 𝓜 𝓡 wired =
    let c = f.clauses 𝓛 𝓜.mem 𝓡.returns in let W = walk_of 𝓛 f.ended stayed c in let 𝓣 = tables 𝓤 𝓛.H 𝓜 𝓡 𝓡.env in
    proved 𝓛 f.ended stayed c 𝓜 𝓡
    (Goes-spent_ref 𝓛 2 (0 ∷ []) tt (plain (λ κs. lent.the_row (named_lft 2 1 tt κs))), (Goes-dropped 𝓛 2 (plain (λ κs. place.the_row)) yes (λ κs x w. refl), tt))
    f.Key.name code.function (code.unfolded 𝓤 𝓛.H 𝓜 𝓡 wired)
    (λ κs. (mut_vals, (place_vals, tt))) (λ κs. (mut_Tells (named 0) κs.0 (lent.the_row (named_lft 2 1 tt κs)), (place_laws.lowers.val_is, tt)))
    (λ κs qs bounds a g are.
    let κ = κs.0 in let q = qs.0 in let N : NamedLft = named_lft 2 1 tt κs in
    let b = a.0.ref_ptr.0 in let o = a.0.ref_ptr.1 in let γ = a.0.ghost_name in let d : LentMemory = a.0.now in let i : ℕ = a.1.0 in
    let x = d.slice in let b' = x.ref_ptr.0 in let o' = x.ref_ptr.1 in let n = length x.now in
    let vss : List Val × (List Val × Unit {0}) = (mut_vals a.0, (place_vals i, tt)) in
    let y : W.Ghost = ((κs, qs, bounds, a, vss), g) in
    let p = i * (mem Y).size + o' in
    let R : RattleType = MutRef (named 0) κ Y in
    let lent_at : GName → MutBor (List ℕ) = λ δ. record { ref_ptr = (b', p); ghost_name = δ; now = get_or x.now i [] } in
    let bytes : n < 2 ^ 64 → n * (mem Y).size < 2 ^ 63 → i < n → i * 4096 < 2 ^ 64 = λ fits small lt. let small' : n * 4096 < 2 ^ 63 = small in omega (arith, small', lt) in
    let good : Typed place.the_row.mir (place_vals i) = (place_laws.the_row_laws.lawful 𝓛).typed i (place_vals i) are.1.0 in
    qed 𝓛 (((‵ (flft κ q) ⊛ (‵ (flft κs.1.0 qs.1.0) ⊛ ‵ ftrue)) ⊛ ‵ (owns (types_at f.ended.signature.params κs) a vss)) ∷ raw ((c κs a).requires g) ∷ []) ∵
    split ! $ split ! $ move ! (2 ∷ []) $ fsplit ! $ fsplit3 ! $ keep ! (1 ∷ 2 ∷ 4 ∷ 5 ∷ []) $
    enter ! _ _ _ _ _ $ alloc_all ! (λ l. pass_all ! refl ((tt, tt), (good.0, tt)) $
    -- [obs and borrow of the memory; the token; the other tokens]
    use3 𝓛 (later (some (λ (γ₁ : GName). ‵ (fobs γ₁ ((F N).coded.code x)) ⊛ ‵ (fbor κ (Body (mem (F N)) b (o + 0) γ₁)) ⊛ ‵ (flft κ q) ⊛ ‵ (follows (S N) (F N) γ γ₁ (λ s. record d { slice = s })))))
    (hands_slice N 𝓛 d κ q γ b o) $ await ! tt $ pick ! (λ γ₁. split3 ! $ move ! (2 ∷ []) $ split ! $ move ! (2 ∷ 3 ∷ 0 ∷ []) $
    opens ! tt (F N) b (o + 0) (λ us. move ! (1 ∷ []) $ fsplit3 ! $ fsplit3 ! $ feq_l ! (λ ev. flt_l ! (λ fits. flt_l ! (λ small.
    move ! (2 ∷ []) $ rewrite ! 0 (λ (ws : List Val). ‵ (cell_at full_share (F N).mir ws b (o + 0))) ev refl $
    use1 𝓛 (‵ (fat full_share slice_there b (o + 0) (slice_val x.ref_ptr n))) (𝓛.laws.raw_at full_share slice_there b (o + 0) (slice_val x.ref_ptr n)) $
    sets ! (of_opd ! (get_in ! (fld ! refl (stop !)) (sub ! 0 refl (whole !)))) refl (tt, good.0.1.0) $
    sets ! (of_opd ! (load ! (through ! refl (fld ! refl (fld ! refl (stop !)))) (look_in ! 0 (sub ! 1 refl (whole !))))) refl (tt, record { fits = fits }) $
    sets ! (bin ! (get ! refl) (get ! refl) tt) refl (tt, tt) $
    first ! $ branches ! (get ! refl)
    (λ below. let lt : i < n = ltb→lt i n below in
    sets ! (bin ! (get ! refl) (big_lit ! (record { fits = omega arith })) (record { fits = bytes fits small lt })) refl (tt, record { fits = bytes fits small lt }) $
    sets ! (bin ! (load ! (through ! refl (fld ! refl (fld ! refl (stop !)))) (look_in ! 0 (sub ! 0 refl (whole !)))) (get ! refl) tt) refl (tt, tt) $
    sets ! (addr ! (through ! refl (stop !))) refl (tt, tt) $
    sets ! (agg ! (and_then ! (lit ! tt) (and_then ! (get ! refl) (no_more !)))) refl (tt, (record { fits = lit< tt }, (tt, tt))) $
    use1 𝓛 (‵ (cell_at full_share (F N).mir (mut_slice_vals x) b (o + 0))) (𝓛.laws.at_raw full_share slice_there b (o + 0) (slice_val x.ref_ptr n)) $
    move ! (1 ∷ 2 ∷ []) $ flt_i ! (n * (mem Y).size) (2 ^ 63) small $ flt_i ! n (2 ^ 64) fits $ feq_i ! (List Val) (mut_slice_vals x) (mut_slice_vals x) refl $ fjoin3 ! $ fjoin3 ! $
    move ! (1 ∷ 0 ∷ []) $ closes ! tt (F N) x (mut_slice_vals x) b (o + 0) $
    -- [obs and borrow of the field; the token; how the memory changes; the other tokens]
    move ! (0 ∷ 1 ∷ 2 ∷ 3 ∷ []) $ group ! 4 $ use1 𝓛 (later (some (λ (δ : GName). ‵ (R.own_val (lent_at δ) (vptr b' p ∷ [])) ⊛ ‵ (flft κ q) ⊛ ‵ (follows (S N) Y γ δ (put_table 𝓛 N κ q b o γ γ d i)))))
    (lends_table 𝓛 N κ q b (o + 0) γ γ₁ d i bounds.0 fits small lt) $ await ! tt $ pick ! (λ δ. split3 ! $
    use1 𝓛 (‵ ((Op.the_row R).own_val (Some (lent_at δ)) (live 1 (of_list (vptr b' p ∷ [])) ∷ []))) (some_of 𝓛 R (lent_at δ) (vptr b' p)) $
    move ! (2 ∷ []) $ use1 𝓛 (‵ (LendsTableIfBy (S N) a.0 (Some (lent_at δ)) (with 𝓛 N a.0 i))) (lends_some 𝓛 N a.0 i κ (lent_at δ)) $
    returns_within ! (W.post y) refl (look_at ! 0 refl) $ free_all ! refl $ move ! (1 ∷ 2 ∷ 0 ∷ []) $
    suffices ! _ (ends_at 𝓛 f.ended stayed c y (live 1 (of_list (vptr b' p ∷ []))) (Some (lent_at δ)) (tt, (tt, tt)) (tt, (tt, tt))) $
    nothing ! $ nothing ! $ fjoin ! $ nothing ! $ fjoin ! $ join ! $ move ! (1 ∷ 3 ∷ []) $ join ! $ join ! $ frame ! $
    says ! (sym (slice_get-get_or x.now i [] lt) ∙ get-numbered x.now i) $ done !))
    (λ past.
    use1 𝓛 (‵ (cell_at full_share (F N).mir (mut_slice_vals x) b (o + 0))) (𝓛.laws.at_raw full_share slice_there b (o + 0) (slice_val x.ref_ptr n)) $
    move ! (1 ∷ 2 ∷ []) $ flt_i ! (n * (mem Y).size) (2 ^ 63) small $ flt_i ! n (2 ^ 64) fits $ feq_i ! (List Val) (mut_slice_vals x) (mut_slice_vals x) refl $ fjoin3 ! $ fjoin3 ! $
    move ! (1 ∷ 0 ∷ []) $ closes ! tt (F N) x (mut_slice_vals x) b (o + 0) $
    -- [obs and borrow of the field; the token; how the memory changes; the other tokens]
    name_done ! tt $ move ! (3 ∷ 0 ∷ []) $ use2 𝓛 (‵ (fres γ ((S N).coded.code d))) (followed 𝓛 (S N) (F N) (λ s. record d { slice = s }) γ γ₁ x) $
    use1 𝓛 (‵ (LendsTableIfBy (S N) a.0 None (with 𝓛 N a.0 i))) (lends_none 𝓛 N a.0 i) $
    use0 𝓛 (‵ ((Op.the_row R).own_val None (live 0 (of_list []) ∷ []))) (none_of 𝓛 R) $
    skips ! $ exec ! 𝓣.C 𝓣.Λ (env code.Mir.locals l) code.Mir.t-5 (at_ret _ (W.post y)) $
    sets ! (agg ! (and_then ! (lit ! tt) (no_more !))) refl (tt, (record { fits = lit< tt }, tt)) $
    -- [the result; the clause; the field's borrow; the token; the other tokens]
    returns ! (look_at ! 0 refl) $ free_all ! refl $ keep ! (0 ∷ 3 ∷ 1 ∷ 4 ∷ []) $
    suffices ! _ (ends_at 𝓛 f.ended stayed c y (live 0 (of_list [])) None (tt, (tt, tt)) (tt, (tt, tt))) $
    nothing ! $ nothing ! $ fjoin ! $ nothing ! $ fjoin ! $ join ! $ move ! (1 ∷ 3 ∷ []) $ join ! $ join ! $ frame ! $
    says ! (sym (slice_get_past x.now i (nltb→le i n past)) ∙ get-numbered x.now i) $ done !))))))))
