-- The block meets its trait, whose clauses are its own but for the last, which says what the array holds. Rattle makes this proof
-- for other blocks; here it does not see which impl meets the bound of a frame that is passed by value.
use Rattle.std.below.core.specs.contracts.clone.Clone+copy.TheImpl as clone
use Rattle.x86_64_page.specs.contracts.page.Size4KiB as size
use Rattle.x86_64_page.specs.contracts.page.Size4KiBEq.TheImpl as eq
use Rattle.x86_64_page.specs.contracts.page.Size4KiBOrd.TheImpl as ord
use Rattle.x86_64_page.specs.contracts.page.Size4KiBPageSize.TheImpl as page_size
use Rattle.x86_64_page.specs.contracts.page.Size4KiBPartialEq.TheImpl as partial_eq
use Rattle.x86_64_page.specs.contracts.page.Size4KiBPartialOrd.TheImpl as partial_ord
use Rattle.x86_64_page.specs.contracts.page.sealed.Size4KiBSealed.TheImpl as sealed
use Rattle.x86_64_tables.proofs.frame_alloc.lent_pool.LentPoolFrameDeallocatorSize4KiB.TheImpl.Statement.{statement}
use Rattle.x86_64_tables.proofs.frame_alloc.lent_pool.LentPoolFrameDeallocatorSize4KiB.deallocate_frame.Met
use Rattle.x86_64_tables.proofs.frame_alloc.lent_pool.LentPoolFrameDeallocatorSize4KiB.deallocate_frame.Symbol
use Rattle.x86_64_tables.specs.contracts.frame_alloc.FrameDeallocator.deallocate_frame as asked
use Rattle.x86_64_tables.specs.contracts.frame_alloc.lent_pool.LentPool as pool
use Rattle.x86_64_tables.specs.contracts.frame_alloc.lent_pool.LentPoolFrameDeallocatorSize4KiB.TheImpl as deallocator
use Rattle.x86_64_tables.specs.contracts.frame_alloc.lent_pool.LentPoolFrameDeallocatorSize4KiB.TheImpl.Laws
use Rattle.x86_64_tables.specs.contracts.frame_alloc.lent_pool.LentPoolFrameDeallocatorSize4KiB.deallocate_frame as own
use Rattle.x86_64_tables.specs.contracts.frame_alloc.lent_pool.LentPoolFrameKeeperSize4KiB.TheImpl as keeper
use Rattle.std.proofs.Common.{[], true, refl}
use base.Fml.{Lft}
use base.Logic.{SProp, ent, sep, id⊢, mono_r, fst∗}
use contract.BorrowLft.{◌⊑◌, ⊑_refl, ⊑_trans}
use contract.Lifetimes.{Lfts}
use contract.Monad.{Fun, fact}
use contract.Running.{within}
use denote.Param.{layouts}
use denote.RattleType.{RattleType}
use denote.Triple.Entry.{Args}
use denote.Triple.Clauses.{Clauses, Ended}
use denote.Triple.End.{outs}
use denote.Triple.Impl.{hidden, implements, inside, Clauses'}
use denote.Triple.Spec.{Spec, triple_of}
use denote.Triple.Table.{run_framed, widened}
use mir.Syntax.{method, erased}
use prog.Memory.{Memory}
use prog.Routine.{Routine}
use seplogic.Ra.Ura.{Ura}
use types.Logic.{Logic}

abbrev pool_row : Lft → RattleType
pool_row κ = pool.the_row (record { mir = erased; lft = κ })

-- the pool lives within the loan of its array
lent_within : (κ : Lft) → (pool_row κ).lives ⊑ κ
lent_within κ = search inside

-- the trait's contract of the method at this block
abbrev wanted : Lft → Ended
wanted κ = asked.ended (pool_row κ) size.the_row deallocator.ghosts deallocator.dict keeper.ghosts keeper.dict page_size.ghosts page_size.dict (clone.ghosts size.the_row) (clone.dict size.the_row) eq.ghosts eq.dict partial_eq.ghosts partial_eq.dict partial_ord.ghosts partial_ord.dict ord.ghosts ord.dict sealed.ghosts sealed.dict

abbrev wanted_clauses : (κ : Lft) {M : Type 1} {𝓤 : Ura M} → Logic 𝓤 → (Memory → SProp 𝓤) → (Routine → Fun 𝓤) → Clauses 𝓤 (wanted κ)
wanted_clauses κ = asked.clauses (pool_row κ) size.the_row deallocator.ghosts deallocator.dict keeper.ghosts keeper.dict page_size.ghosts page_size.dict (clone.ghosts size.the_row) (clone.dict size.the_row) eq.ghosts eq.dict partial_eq.ghosts partial_eq.dict partial_ord.ghosts partial_ord.dict ord.ghosts ord.dict sealed.ghosts sealed.dict

abbrev wanted_spec : (κ : Lft) {M : Type 1} {𝓤 : Ura M} → Logic 𝓤 → (Memory → SProp 𝓤) → (Routine → Fun 𝓤) → Spec 𝓤 (wanted κ).signature
wanted_spec κ = asked.spec (pool_row κ) size.the_row deallocator.ghosts deallocator.dict keeper.ghosts keeper.dict page_size.ghosts page_size.dict (clone.ghosts size.the_row) (clone.dict size.the_row) eq.ghosts eq.dict partial_eq.ghosts partial_eq.dict partial_ord.ghosts partial_ord.dict ord.ghosts ord.dict sealed.ghosts sealed.dict

-- leaves out the third of three facts
without_third : {M : Type 1} (𝓤 : Ura M) (P Q R : Type 0) → ent 𝓤 (sep 𝓤 (fact 𝓤 P) (sep 𝓤 (fact 𝓤 Q) (fact 𝓤 R))) (sep 𝓤 (fact 𝓤 P) (fact 𝓤 Q))
without_third 𝓤 P Q R = mono_r 𝓤 (fact 𝓤 P) (fst∗ 𝓤 (fact 𝓤 Q) (fact 𝓤 R))

pub bound : statement
bound γ wired κ M 𝓤 𝓛 𝓜 𝓡 =
    let routine = γ (method deallocator.dict 0 (layouts [] tt)) in
    let at : Lfts 3 → Lfts 2 = λ τs. (τs.0, (κ, tt)) in
    let clauses : Clauses' 𝓛 own.signature 3 (wanted κ).signature.outlives at = λ τs a. record {
      ghost = (wanted_spec κ 𝓛 𝓜.mem 𝓡.returns τs a).ghost;
      requires = λ y. (wanted_spec κ 𝓛 𝓜.mem 𝓡.returns τs a).requires y;
      ensures = (wanted_spec κ 𝓛 𝓜.mem 𝓡.returns τs a).ensures;
    } in
    let conditions : (τs : Lfts 3) → Args own.signature (at τs) → Unit {0} → SProp 𝓤 = λ τs a y.
    sep 𝓤 (own.requires-served 𝓛 (at τs) 𝓜.mem 𝓡.returns a.0 a.1.0) (own.requires-not_held 𝓛 (at τs) 𝓜.mem 𝓡.returns a.0 a.1.0) in
    record {
      held_is_served = Laws.held_is_served-law;
      take_back_rearranges = Laws.take_back_rearranges-law;
      deallocate_frame =
          implements 𝓛 own.signature 3 (wanted κ).signature.outlives at (𝓡.run routine) (run_framed 𝓤 𝓛.H 𝓜 𝓡 routine) (own.spec 𝓛 𝓜.mem 𝓡.returns) clauses
          2 (λ τs. (τs.1.0, (τs.1.1.0, tt))) (λ τs. ((pool_row κ).lives, (size.the_row.lives, tt))) ((0, tt), ((1, tt), tt)) conditions
          (λ τs a y. id⊢ 𝓤 ((clauses τs a).requires y))
          (λ τs h.
          let outer : τs.1.0 ⊑ κ = ⊑_trans τs.1.0 (pool_row κ).lives κ h.1.0 (lent_within κ) in
          ((⊑_refl τs.0, (outer, tt)), (⊑_trans τs.0 τs.1.0 κ h.0.0 outer, tt)))
          (λ τs a y. y)
          (λ τs h a y. id⊢ 𝓤 (conditions τs a y))
          (λ τs a y r. hidden 2 (at τs) 𝓛 own.signature.params own.ended.kept (true, (true, tt)) a
          (λ ws. (own.clauses 𝓛 𝓜.mem 𝓡.returns (at τs) a).ensures y r (outs {n = 2} (at τs) own.signature.params own.ended.kept a ws))
          (λ ws. (wanted_clauses κ 𝓛 𝓜.mem 𝓡.returns τs a).ensures y r (outs {n = 3} τs (wanted κ).signature.params (wanted κ).kept a ws))
          (λ ws. without_third 𝓤 _ _ _))
          (widened 𝓤 𝓛.H (triple_of 𝓛 own.signature (own.spec 𝓛 𝓜.mem 𝓡.returns)) 𝓜 𝓡 γ (γ Symbol.name) routine
          (Symbol.as_method γ wired (method deallocator.dict 0 (layouts [] tt)) refl) (Met.met 𝓤 𝓛 𝓜 (within 𝓤 𝓛.H 𝓜 𝓡 γ) wired));
    }
