-- The reference that is kept is the one that was passed. This is a walk by hand, since the borrow checker doesn't follow the
-- reference through two calls. Assumes `Logic`.
use Rattle.std.proofs.Common.{◌≡◌, ℕ, Bool, true, false, List, [], ◌∷◌, ◌++◌, refl, sym, ap, ◌∙◌, subst, lit<}
use lib.Dec.{T}
use mir.Syntax.{Fn, a_type}
use mir.MapTy.{inst_fn}
use seplogic.Ra.Ura.{Ura}
use mir.Val.{Val, has_ty, WT, vbool, of_list}
use base.Logic.{SProp, ent, emp, id⊢}
use base.Fml.{Fml, ftrue, flft}
use prog.Wp.{WpFn}
use types.Logic.{Logic}
use types.Kit.{‵, raw, ◌⊛◌, some, later, ◌$◌, ◌∵◌, !, qed, by, move, keep, drop, use0, use1, use2, split, join, fsplit, fjoin, pick, await, rewrite}
use types.Run.{no_more, and_then, returns, enter, of_opd}
use types.Match.{live}
use types.ByLocal.{alloc_all, pass_all, free_all, look_at, get, sets, lands_as}
use contract.BorrowLft.{◌⊑◌}
use contract.Running.{tables}
use contract.Monad.{fact, fact_i}
use denote.Exit.{yes, no}
use denote.RattleType.{RattleType, owns}
use denote.Signature.{types_at, plain, named_lft}
use denote.Ref.{NamedLft}
use denote.Laws.{Is, Typed, shows}
use denote.Memory.{lone}
use denote.Param.{param, layouts}
use denote.Param.Laws.{Laws, param_laws}
use denote.Plain.{bool_Tells, bool_vals}
use denote.Steps.{only, nothing, peeks, heard}
use denote.Builtin.{bool}
use denote.Triple.Call.{calls_at}
use denote.Triple.Clauses.{Lasts, lasts}
use denote.Triple.Spec.{triple_of}
use denote.Triple.Table.{framed}
use denote.Triple.Walked.{Stays, stay_dropped, walk_of, Goes-dropped}
use Rattle.std.proofs.raw_atomic.Walks.{proved_at, leaves}
use Rattle.std.specs.contracts.option.Option as Op
use Rattle.std.specs.contracts.result.Result as Res
use Rattle.std.proofs.result.Result.TheLaws as result_laws
use Rattle.x86_64_tables.specs.ActiveMemory.{kept_of, RestsUnlessKept}
use Rattle.x86_64_tables.specs.contracts.phys_memory.PhysMemory.{the_row as memory_row}
use Rattle.x86_64_tables.proofs.phys_memory.PhysMemory.TheLaws.{the_row_laws as memory_laws}
use Rattle.x86_64_tables.specs.contracts.phys_memory.active.Active as Active
use Rattle.x86_64_tables.specs.contracts.phys_memory.active.Active+L.kept_if as keeps
use Rattle.x86_64_tables.proofs.phys_memory.active.Active.TheLaws as active_laws
use Rattle.x86_64_tables.proofs.phys_memory.active.Active+L.kept_if.Met as keeps_met
use Rattle.x86_64_mappers.specs.RefusedMappers.{wrapped_of, made_of, RestsUnlessMade}
use Rattle.x86_64_mappers.specs.contracts.recursive_page_table.InvalidPageTable as Invalid
use Rattle.x86_64_mappers.specs.contracts.recursive_page_table.Recursive as Recursive
use Rattle.x86_64_mappers.specs.contracts.recursive_page_table.made.wrapped as wraps
use Rattle.x86_64_mappers.proofs.recursive_page_table.InvalidPageTable.TheLaws as invalid_laws
use Rattle.x86_64_mappers.proofs.recursive_page_table.Recursive.TheLaws as recursive_laws
use Rattle.x86_64_mappers.proofs.recursive_page_table.made.wrapped.Met as wraps_met
use Rattle.x86_64_mappers.specs.contracts.recursive_page_table.made.made as makes
use Rattle.x86_64_mappers.specs.contracts.recursive_page_table.made.made.Key.{name as #self}
use Rattle.x86_64_mappers.proofs.recursive_page_table.made.made.Statement.{statement}
use Rattle.x86_64_mappers.proofs.recursive_page_table.made.made.Code as code
use Rattle.x86_64_addr.specs.contracts.index.PageTableIndex as Index
use Rattle.x86_64_addr.proofs.index.PageTableIndex.TheLaws as index_laws
use Rattle.x86_64_tables.specs.contracts.page_table.flags.PageTableFlags as Flags
use Rattle.x86_64_tables.proofs.page_table.flags.PageTableFlags.TheLaws as flags_laws
use Rattle.x86_64_mappers.proofs.Window.WalkedCalls.{goes_blank, one, nth_type}

-- the marker of a number of levels, as a type parameter
module _ (P : RattleType) (LP : Laws P) where
  abbrev Y : RattleType
  Y = param 0 P

  abbrev LY : Laws Y
  LY = param_laws 0 P LP

  abbrev made_fn : Fn
  made_fn = inst_fn (layouts (a_type ∷ []) (P, tt)) code.function

  module _ (N : NamedLft) where
    abbrev A : RattleType
    A = Active.the_row N Y memory_row

    abbrev O : RattleType
    O = Op.the_row A

    abbrev lowered : A.Denot → Val
    lowered = active_laws.lowered N Y memory_row LY memory_laws

    fits : {M : Type 1} {𝓤 : Ura M} (𝓛 : Logic 𝓤) (a : A.Denot) (vs : List Val) → Is A a vs → T (has_ty (nth_type made_fn.locals 7) (lowered a)) × WT (lowered a)
    fits 𝓛 a vs is = (subst (Typed A.mir) ((active_laws.lowers N Y memory_row LY memory_laws).val_is a vs is) (((active_laws.the_row_laws N Y memory_row LY memory_laws).lawful 𝓛).typed a vs is)).0

    held : {M : Type 1} {𝓤 : Ura M} (𝓛 : Logic 𝓤) (a : A.Denot) (kept : Bool) (v : Val) → Is O (kept_of a kept) (v ∷ []) → T (has_ty (nth_type made_fn.locals 6) v) × WT v
    held 𝓛 a true v is =
        let e : v ≡ live 1 (of_list (lowered a ∷ [])) = ap only is.1.0 ∙ ap (λ (us : List Val). live 1 (of_list us)) (is.1.1.1.0 ∙ ap (λ (us : List Val). us ++ []) ((active_laws.lowers N Y memory_row LY memory_laws).val_is a is.1.1.0.0 is.1.1.1.1.0)) in
        subst (λ (u : Val). T (has_ty (nth_type made_fn.locals 6) u) × WT u) (sym e) (tt, (record { fits = lit< tt }, ((fits 𝓛 a is.1.1.0.0 is.1.1.1.1.0).1, tt)))
    held 𝓛 a false v is =
        let e : v ≡ live 0 (of_list []) = ap only is.1.0 ∙ ap (λ (us : List Val). live 0 (of_list us)) is.1.1.1.0 in
        subst (λ (u : Val). T (has_ty (nth_type made_fn.locals 6) u) × WT u) (sym e) (tt, (record { fits = lit< tt }, tt))

    abbrev R : RattleType
    R = Res.the_row (Recursive.the_row A Y) Invalid.the_row

    fits_result : {M : Type 1} {𝓤 : Ura M} (𝓛 : Logic 𝓤) (r : R.Denot) (v : Val) → Is R r (v ∷ []) → T (has_ty (lone R.mir) v) × WT v
    fits_result 𝓛 r v is = (((result_laws.the_row_laws (Recursive.the_row A Y) Invalid.the_row (recursive_laws.the_row_laws A Y (active_laws.the_row_laws N Y memory_row LY memory_laws) LY) invalid_laws.the_row_laws).lawful 𝓛).typed r (v ∷ []) is).0

    made_is : (a : A.Denot) (kept : Bool) (i : ℕ) (f : (Flags.the_row).Denot) (w : (Invalid.the_row).Denot) → wrapped_of (kept_of a kept) i f w ≡ made_of a kept i f w
    made_is a true i f w = refl
    made_is a false i f w = refl

    rests_as : (a : A.Denot) (kept : Bool) (i : ℕ) (f : (Flags.the_row).Denot) (w : (Invalid.the_row).Denot) → RestsUnlessKept a (kept_of a kept) ≡ RestsUnlessMade a (wrapped_of (kept_of a kept) i f w)
    rests_as a true i f w = refl
    rests_as a false i f w = refl

pub made_spec : {M : Type 1} → statement M
made_spec 𝓤 𝓛 𝓜 𝓡 wired P LP =
    let H = 𝓛.H in let 𝓣 = tables 𝓤 H 𝓜 𝓡 𝓡.env in let c = makes.clauses P 𝓛 𝓜.mem 𝓡.returns in let fn = made_fn P LP in let ended = makes.ended P in
    let sA = plain (λ κs. Active.the_row (named_lft 2 0 tt κs) (Y P LP) memory_row) in let sB = plain (λ κs. bool) in let sI = plain (λ κs. Index.the_row) in let sF = plain (λ κs. Flags.the_row) in let sW = plain (λ κs. Invalid.the_row) in
    let hs : Stays ended.signature.params ended.kept = (stay_dropped sA no, (stay_dropped sB yes, (stay_dropped sI yes, (stay_dropped sF yes, (stay_dropped sW yes, tt))))) in
    proved_at 𝓛 ended hs c 𝓜 𝓡
    (goes_blank 𝓛 2 sA no (λ κs x f. tt), (Goes-dropped 𝓛 2 sB yes (λ κs x f. refl), (Goes-dropped 𝓛 2 sI yes (λ κs x f. refl), (Goes-dropped 𝓛 2 sF yes (λ κs x f. refl), (Goes-dropped 𝓛 2 sW yes (λ κs x f. refl), tt)))))
    (#self (layouts (a_type ∷ []) (P, tt))) fn (code.unfolded 𝓤 H 𝓜 𝓡 wired (P, tt)) (λ z₀ are. let κs = z₀.0.0 in let qs = z₀.0.1 in let args = z₀.0.3 in let vss₀ = z₀.0.4 in
    let N : NamedLft = named_lft 2 0 tt κs in let a : (A P LP N).Denot = args.0 in let kept : Bool = args.1.0 in let i : ℕ = args.1.1.0 in let f : (Flags.the_row).Denot = args.1.1.1.0 in let w : (Invalid.the_row).Denot = args.1.1.1.1.0 in
    let gI = one (lone (Index.the_row).mir) vss₀.1.1.0 (((index_laws.the_row_laws).lawful 𝓛).typed i vss₀.1.1.0 are.1.1.0) in let vI : Val = gI.0 in
    let gF = one (lone (Flags.the_row).mir) vss₀.1.1.1.0 (((flags_laws.the_row_laws).lawful 𝓛).typed f vss₀.1.1.1.0 are.1.1.1.0) in let vF : Val = gF.0 in
    let gW = one (lone (Invalid.the_row).mir) vss₀.1.1.1.1.0 (((invalid_laws.the_row_laws).lawful 𝓛).typed w vss₀.1.1.1.1.0 are.1.1.1.1.0) in let vW : Val = gW.0 in
    let vA : Val = lowered P LP N a in let good = fits P LP N 𝓛 a vss₀.0 are.0 in
    let Vs : Type 0 = List Val × (List Val × (List Val × (List Val × (List Val × Unit {0})))) in
    let At : Vs → (walk_of 𝓛 ended hs c).Ghost = λ vss. ((κs, qs, z₀.0.2, args, vss), z₀.1) in
    let vss : Vs = (vA ∷ [], (bool_vals kept, (vI ∷ [], (vF ∷ [], (vW ∷ [], tt))))) in
    let z : (walk_of 𝓛 ended hs c).Ghost = At vss in let Post : Val → SProp 𝓤 = (walk_of 𝓛 ended hs c).post z in
    let toks = ‵ (flft κs.0 qs.0) ⊛ ‵ (flft κs.1.0 qs.1.0) ⊛ ‵ ftrue in let Lives : Type 0 = κs.1.0 ⊑ P.lives in
    subst (λ (us : Vs). ent 𝓤 ((walk_of 𝓛 ended hs c).pre (At us)) (WpFn 𝓤 H 𝓣.C 𝓣.Λ fn ((walk_of 𝓛 ended hs c).args (At us)) ((walk_of 𝓛 ended hs c).post (At us))))
    (λ j. (sym ((active_laws.lowers N (Y P LP) memory_row (LY P LP) memory_laws).val_is a vss₀.0 are.0) j, (sym (bool_Tells kept vss₀.1.0 are.1.0) j, (sym gI.1 j, (sym gF.1 j, (sym gW.1 j, tt)))))) (
    qed 𝓛 ((toks ⊛ ‵ (owns (types_at ended.signature.params κs) args vss)) ∷ raw ((c κs args).requires z₀.1) ∷ []) ∵
    move ! (1 ∷ []) $ use1 𝓛 (raw (fact 𝓤 Lives) ⊛ ‵ ftrue) (id⊢ 𝓤 _) $ split ! $ heard ! _ (λ lives. move ! (1 ∷ []) $
    split ! $ move ! (1 ∷ []) $ fsplit ! $ move ! (1 ∷ []) $ fsplit ! $ move ! (1 ∷ []) $ fsplit ! $ move ! (1 ∷ []) $ fsplit ! $ move ! (1 ∷ []) $ fsplit ! $ keep ! (0 ∷ 2 ∷ 3 ∷ 4 ∷ 5 ∷ 6 ∷ []) $
    -- [why; the flags; the index; whether it is kept; the memory; the tokens]
    enter ! 𝓣.C 𝓣.Λ fn (vA ∷ vbool kept ∷ vI ∷ vF ∷ vW ∷ []) Post $
    alloc_all ! (λ l. pass_all ! refl (good, ((tt, tt), (gI.2, (gF.2, (gW.2, tt))))) $
    sets ! (of_opd ! (get ! refl)) refl good $
    let G = triple_of 𝓛 (keeps.signature P) (keeps.spec P 𝓛 𝓜.mem 𝓡.returns) in
    let y : G.Ghost = ((κs, qs, tt, (a, (kept, tt)), (vA ∷ [], (bool_vals kept, tt))), tt) in
    nothing ! $ move ! (4 ∷ 0 ∷ []) $ fjoin ! $ move ! (4 ∷ 0 ∷ []) $ fjoin ! $ move ! (4 ∷ 0 ∷ []) $ join ! $
    use0 𝓛 (raw (fact 𝓤 Lives)) (fact_i 𝓤 Lives (emp 𝓤) lives) $ nothing ! $ move ! (1 ∷ 0 ∷ []) $ join ! $ move ! (1 ∷ 0 ∷ []) $ use2 𝓛 (raw (G.pre y)) (id⊢ 𝓤 _) $
    calls_at ! (framed 𝓤 H 𝓜 𝓣) G (keeps_met.met 𝓤 𝓛 𝓜 𝓡 (code.calls-x86_64_tables::phys_memory::active::Active+L::kept_if 𝓡.env wired) P LP) y (and_then ! (get ! refl) (and_then ! (get ! refl) (no_more !))) (λ v.
    use1 𝓛 (later (some (λ (o : (O P LP N).Denot). (toks ⊛ ‵ ((O P LP N).own_val o (v ∷ []))) ⊛ some (λ (ws : Lasts (keeps.ended P) κs (a, (kept, tt))).
    ‵ (lasts (keeps.ended P) κs (a, (kept, tt)) ws) ⊛ ‵ (RestsUnlessKept a o) ⊛ raw (fact 𝓤 (o ≡ kept_of a kept)))))) (id⊢ 𝓤 _) $ await ! tt $ pick ! (λ o. split ! $
    move ! (1 ∷ []) $ pick ! (λ ws. split ! $ drop ! $ split ! $ move ! (1 ∷ []) $ heard ! _ (λ is_o. move ! (1 ∷ []) $ split ! $ move ! (1 ∷ []) $
    -- [what is kept; the tokens; how the memory ends; why; the flags; the index]
    peeks ! (O P LP N) (Is (O P LP N)) (shows 𝓛 (O P LP N)) o (v ∷ []) (λ is. let good_v = held P LP N 𝓛 a kept v (subst (λ (p : (O P LP N).Denot). Is (O P LP N) p (v ∷ [])) is_o is) in
    lands_as ! refl refl good_v $
    let G' = triple_of 𝓛 (wraps.signature P) (wraps.spec P 𝓛 𝓜.mem 𝓡.returns) in
    let y' : G'.Ghost = ((κs, qs, tt, (o, (i, (f, (w, tt)))), (v ∷ [], (vI ∷ [], (vF ∷ [], (vW ∷ [], tt))))), tt) in
    nothing ! $ move ! (4 ∷ 0 ∷ []) $ fjoin ! $ move ! (4 ∷ 0 ∷ []) $ fjoin ! $ move ! (4 ∷ 0 ∷ []) $ fjoin ! $ move ! (1 ∷ 0 ∷ []) $ fjoin ! $ move ! (1 ∷ 0 ∷ []) $ join ! $
    use0 𝓛 (raw (fact 𝓤 Lives)) (fact_i 𝓤 Lives (emp 𝓤) lives) $ nothing ! $ move ! (1 ∷ 0 ∷ []) $ join ! $ move ! (1 ∷ 0 ∷ []) $ use2 𝓛 (raw (G'.pre y')) (id⊢ 𝓤 _) $
    calls_at ! (framed 𝓤 H 𝓜 𝓣) G' (wraps_met.met 𝓤 𝓛 𝓜 𝓡 (code.calls-x86_64_mappers::recursive_page_table::made::wrapped 𝓡.env wired) P LP) y' (and_then ! (get ! refl) (and_then ! (get ! refl) (and_then ! (get ! refl) (and_then ! (get ! refl) (no_more !))))) (λ v'.
    use1 𝓛 (later (some (λ (r : (R P LP N).Denot). (toks ⊛ ‵ ((R P LP N).own_val r (v' ∷ []))) ⊛ some (λ (ws : Lasts (wraps.ended P) κs (o, (i, (f, (w, tt))))).
    ‵ (lasts (wraps.ended P) κs (o, (i, (f, (w, tt)))) ws) ⊛ raw (fact 𝓤 (r ≡ wrapped_of o i f w)))))) (id⊢ 𝓤 _) $ await ! tt $ pick ! (λ r. split ! $
    move ! (1 ∷ []) $ pick ! (λ ws'. split ! $ drop ! $ heard ! _ (λ is_r. split ! $ move ! (1 ∷ []) $
    -- [the mapper or why; the tokens; how the memory ends]
    peeks ! (R P LP N) (Is (R P LP N)) (shows 𝓛 (R P LP N)) r (v' ∷ []) (λ is'. lands_as ! refl refl (fits_result P LP N 𝓛 r v' is') $
    let is_made : r ≡ wrapped_of (kept_of a kept) i f w = is_r ∙ ap (λ (p : (O P LP N).Denot). wrapped_of p i f w) is_o in let Value : Type 0 = r ≡ made_of a kept i f w in
    rewrite ! 2 (λ (F : Fml). ‵ F) (ap (RestsUnlessKept a) is_o ∙ rests_as P LP N a kept i f w ∙ ap (RestsUnlessMade a) (sym is_made)) refl $
    use0 𝓛 (raw (fact 𝓤 Value)) (fact_i 𝓤 Value (emp 𝓤) (is_made ∙ made_is P LP N a kept i f w)) $ move ! (3 ∷ 0 ∷ []) $ join ! $
    nothing ! $ nothing ! $ fjoin ! $ nothing ! $ fjoin ! $ nothing ! $ fjoin ! $ nothing ! $ fjoin ! $ nothing ! $ fjoin ! $
    returns ! (look_at ! 0 refl) $ free_all ! refl $ keep ! (3 ∷ 0 ∷ 2 ∷ 1 ∷ []) $
    by ! (leaves 𝓛 ended hs c z v' r ((tt, tt), (tt, (tt, (tt, (tt, tt))))) (tt, (tt, (tt, (tt, (tt, tt))))))))))))))))))))
