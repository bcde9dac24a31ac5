-- The impl meets its trait: an unchanged limit keeps the frames that are served, and its other clauses are the trait's.
-- Rattle proves this for other impls. Here it can't find the impl that meets the bound of a frame passed by value.
use Rattle.std.below.core.specs.contracts.clone.Clone+copy.TheImpl as clone
use Rattle.x86_64_page.specs.contracts.page.Size4KiB as size
use Rattle.x86_64_page.specs.contracts.page.Size4KiBEq.TheImpl as eq
use Rattle.x86_64_page.specs.contracts.page.Size4KiBOrd.TheImpl as ord
use Rattle.x86_64_page.specs.contracts.page.Size4KiBPageSize.TheImpl as page_size
use Rattle.x86_64_page.specs.contracts.page.Size4KiBPartialEq.TheImpl as partial_eq
use Rattle.x86_64_page.specs.contracts.page.Size4KiBPartialOrd.TheImpl as partial_ord
use Rattle.x86_64_page.specs.contracts.page.sealed.Size4KiBSealed.TheImpl as sealed
use Rattle.x86_64_tables.proofs.frame_alloc.pool.FramePoolFrameDeallocatorSize4KiB.TheImpl.Statement.{statement}
use Rattle.x86_64_tables.proofs.frame_alloc.pool.FramePoolFrameDeallocatorSize4KiB.deallocate_frame.Met
use Rattle.x86_64_tables.proofs.frame_alloc.pool.FramePoolFrameDeallocatorSize4KiB.deallocate_frame.Symbol
use Rattle.x86_64_tables.specs.contracts.frame_alloc.FrameDeallocator.deallocate_frame as asked
use Rattle.x86_64_tables.specs.contracts.frame_alloc.pool.FramePool as pool
use Rattle.x86_64_tables.specs.contracts.frame_alloc.pool.FramePoolFrameDeallocatorSize4KiB.TheImpl as deallocator
use Rattle.x86_64_tables.specs.contracts.frame_alloc.pool.FramePoolFrameDeallocatorSize4KiB.TheImpl.Laws
use Rattle.x86_64_tables.specs.contracts.frame_alloc.pool.FramePoolFrameDeallocatorSize4KiB.deallocate_frame as own
use Rattle.x86_64_tables.specs.contracts.frame_alloc.pool.FramePoolFrameKeeperSize4KiB.TheImpl as keeper
use Rattle.std.proofs.Common.{[], true, refl, ap}
use Rattle.x86_64_model.specs.Pool.{serves_below}
use base.Logic.{SProp, ent, sep, id⊢, mono_r}
use contract.BorrowLft.{⊑_refl}
use contract.Lifetimes.{Lfts}
use contract.Monad.{Fun, fact, fact_i, fact_use}
use contract.Running.{within}
use denote.Param.{layouts}
use denote.Triple.Entry.{Args}
use denote.Triple.Clauses.{Clauses, Ended}
use denote.Triple.End.{outs}
use denote.Triple.Impl.{hidden, implements, Clauses'}
use denote.Triple.Spec.{Spec, triple_of}
use denote.Triple.Table.{run_framed, widened}
use mir.Syntax.{method}
use prog.Memory.{Memory}
use prog.Routine.{Routine}
use seplogic.Ra.Ura.{Ura}
use types.Logic.{Logic}

-- the trait's contract of the method, for this impl
abbrev wanted : Ended
wanted = asked.ended pool.the_row size.the_row deallocator.ghosts deallocator.dict keeper.ghosts keeper.dict page_size.ghosts page_size.dict (clone.ghosts size.the_row) (clone.dict size.the_row) eq.ghosts eq.dict partial_eq.ghosts partial_eq.dict partial_ord.ghosts partial_ord.dict ord.ghosts ord.dict sealed.ghosts sealed.dict

abbrev wanted_clauses : {M : Type 1} {𝓤 : Ura M} → Logic 𝓤 → (Memory → SProp 𝓤) → (Routine → Fun 𝓤) → Clauses 𝓤 wanted
wanted_clauses = asked.clauses pool.the_row size.the_row deallocator.ghosts deallocator.dict keeper.ghosts keeper.dict page_size.ghosts page_size.dict (clone.ghosts size.the_row) (clone.dict size.the_row) eq.ghosts eq.dict partial_eq.ghosts partial_eq.dict partial_ord.ghosts partial_ord.dict ord.ghosts ord.dict sealed.ghosts sealed.dict

abbrev wanted_spec : {M : Type 1} {𝓤 : Ura M} → Logic 𝓤 → (Memory → SProp 𝓤) → (Routine → Fun 𝓤) → Spec 𝓤 wanted.signature
wanted_spec = asked.spec pool.the_row size.the_row deallocator.ghosts deallocator.dict keeper.ghosts keeper.dict page_size.ghosts page_size.dict (clone.ghosts size.the_row) (clone.dict size.the_row) eq.ghosts eq.dict partial_eq.ghosts partial_eq.dict partial_ord.ghosts partial_ord.dict ord.ghosts ord.dict sealed.ghosts sealed.dict

-- replaces the second of two facts by one that follows from it
with_second : {M : Type 1} (𝓤 : Ura M) (P Q R : Type 0) → (Q → R) → ent 𝓤 (sep 𝓤 (fact 𝓤 P) (fact 𝓤 Q)) (sep 𝓤 (fact 𝓤 P) (fact 𝓤 R))
with_second 𝓤 P Q R follows = mono_r 𝓤 (fact 𝓤 P) (fact_use 𝓤 Q (id⊢ 𝓤 (fact 𝓤 Q)) (λ q. fact_i 𝓤 R (fact 𝓤 Q) (follows q)))

pub bound : statement
bound γ wired M 𝓤 𝓛 𝓜 𝓡 =
    let routine = γ (method deallocator.dict 0 (layouts [] tt)) in
    let at : Lfts 3 → Lfts 1 = λ τs. (τs.0, tt) in
    let clauses : Clauses' 𝓛 own.signature 3 wanted.signature.outlives at = λ τs a. record {
      ghost = (wanted_spec 𝓛 𝓜.mem 𝓡.returns τs a).ghost;
      requires = λ y. (wanted_spec 𝓛 𝓜.mem 𝓡.returns τs a).requires y;
      ensures = (wanted_spec 𝓛 𝓜.mem 𝓡.returns τs a).ensures;
    } in
    let conditions : (τs : Lfts 3) → Args own.signature (at τs) → Unit {0} → SProp 𝓤 = λ τs a y.
    sep 𝓤 (own.requires-served 𝓛 (at τs) 𝓜.mem 𝓡.returns a.0 a.1.0) (own.requires-not_held 𝓛 (at τs) 𝓜.mem 𝓡.returns a.0 a.1.0) in
    record {
      held_is_served = Laws.held_is_served-law;
      take_back_rearranges = Laws.take_back_rearranges-law;
      deallocate_frame =
          implements 𝓛 own.signature 3 wanted.signature.outlives at (𝓡.run routine) (run_framed 𝓤 𝓛.H 𝓜 𝓡 routine) (own.spec 𝓛 𝓜.mem 𝓡.returns) clauses
          2 (λ τs. (τs.1.0, (τs.1.1.0, tt))) (λ τs. (pool.the_row.lives, (size.the_row.lives, tt))) ((0, tt), tt) conditions
          (λ τs a y. id⊢ 𝓤 ((clauses τs a).requires y))
          (λ τs h. ((⊑_refl τs.0, tt), tt))
          (λ τs a y. y)
          (λ τs h a y. id⊢ 𝓤 (conditions τs a y))
          (λ τs a y r. hidden 1 (at τs) 𝓛 own.signature.params own.ended.kept (true, (true, tt)) a
          (λ ws. (own.clauses 𝓛 𝓜.mem 𝓡.returns (at τs) a).ensures y r (outs {n = 1} (at τs) own.signature.params own.ended.kept a ws))
          (λ ws. (wanted_clauses 𝓛 𝓜.mem 𝓡.returns τs a).ensures y r (outs {n = 3} τs wanted.signature.params wanted.kept a ws))
          (λ ws. with_second 𝓤 _ _ _ (ap serves_below)))
          (widened 𝓤 𝓛.H (triple_of 𝓛 own.signature (own.spec 𝓛 𝓜.mem 𝓡.returns)) 𝓜 𝓡 γ (γ Symbol.name) routine
          (Symbol.as_method γ wired (method deallocator.dict 0 (layouts [] tt)) refl) (Met.met 𝓤 𝓛 𝓜 (within 𝓤 𝓛.H 𝓜 𝓡 γ) wired));
    }
