use Rattle.std.proofs.Common.{◌≡◌, suc, ◌<◌, ◌+◌, ℕ, Bool, List, ◌∷◌, length, drop, get_or, OnOk, refl, sym, ap, ◌∙◌, subst, add-one, drop-cons}
use Rattle.std.proofs.lemmas.List.{drop_all}
use Rattle.std.proofs.lemmas.Result.{on_err_weaker}
use Rattle.x86_64_mappers.specs.Layouts.{direct}
use Rattle.x86_64_model.specs.Call.{Call}
use Rattle.x86_64_model.specs.Hierarchy.{◌laid_in◌, PoolFits}
use Rattle.x86_64_model.specs.Memory.{Memory, identity_places}
use Rattle.x86_64_model.specs.Pool.{serves_below}
use Rattle.uses.specs.Processes.{ending}
use Rattle.uses.proofs.ProcessCalls.{Served, Ended, none_so_far, one_more, then_cleaned, ended_if, goes_on_if, used_if, served_not_zero}
use Rattle.uses.proofs.processes.end.Goals as goal

-- with the limit that the pool has then
with_limit : (root : ℕ) (calls : List Call) (serves now : ℕ → Bool) (m n : Memory) (pool rest : List ℕ) → now ≡ serves → Served (direct identity_places root) calls now m pool n rest → Served (direct identity_places root) calls serves m pool n rest
with_limit root calls serves now m n pool rest same = subst (λ s. Served (direct identity_places root) calls s m pool n rest) same

left : (pages : List ℕ) (i page : ℕ) → i < length pages → page ≡ get_or pages i page → drop i pages ≡ page ∷ drop (i + 1) pages
left pages i page here item = rw add-one (drop-cons pages i page here ∙ ap (λ p. p ∷ drop (suc i) pages) (sym item))

pub loop-page-init : goal.loop-page-init
loop-page-init g c = record { served = none_so_far (direct identity_places c.args.process) c.args.pages.now _ _ _ c.requires.fits; lent = refl; limit = refl }

pub loop-page-preserved : goal.loop-page-preserved
loop-page-preserved g c = record {
  served = one_more (direct identity_places c.args.process) c.args.pages.now _ _ _ _ _ _ _ _ _ _ (left c.args.pages.now c.loop-page.page-index c.page-item.result c.loop-page-test.true c.page-item.is) c.loop-page.invariant.served
      (with_limit c.args.process _ _ _ _ _ _ _ c.loop-page.invariant.limit c.unmap_in.ensures.served);
  lent = c.unmap_in.ensures.lent ∙ c.loop-page.invariant.lent;
  limit = c.unmap_in.ensures.limit ∙ c.loop-page.invariant.limit;
}

pub give_up_space-requires : goal.give_up_space-requires
give_up_space-requires g c = record {
  fits = subst (λ (serves : ℕ → Bool). PoolFits (direct identity_places c.args.process laid_in g.T.TableMemory.tables c.free_tables.new.memory) serves c.free_tables.new.pool.frames)
      (sym c.free_tables.ensures.limit) c.free_tables.ensures.served.keeps.fits;
  served = ap (λ (s : ℕ → Bool). s c.args.process) (c.free_tables.ensures.limit ∙ c.loop-page.invariant.limit) ∙ c.requires.served;
}

pub returns-clause-ended : goal.returns-clause-ended
returns-clause-ended g c =
    let one = direct identity_places c.args.process in
    let same = c.free_tables.ensures.limit ∙ c.loop-page.invariant.limit in
    let calls = ending c.args.pages.now in
    subst (λ s. OnOk c.give_up_space.result (Ended one s (g.T.TableMemory.tables c.args.memory.now) c.args.pool.now.frames (g.T.TableMemory.tables c.give_up_space.new.memory) c.give_up_space.new.store.frames)) same
    (ended_if c.args.process calls (serves_below c.free_tables.new.pool.limit) _ (g.T.TableMemory.tables c.free_tables.new.memory) _ _ c.free_tables.new.pool.frames _ _ _ c.give_up_space.result
    (with_limit c.args.process calls (serves_below c.free_tables.new.pool.limit) (serves_below c.args.pool.now.limit) _ _ _ _ (sym same)
    (then_cleaned one c.args.pages.now _ _ _ _ _ _ _ _ (drop_all _ _ c.loop-page-test.false) c.loop-page.invariant.served
    (with_limit c.args.process _ _ _ _ _ _ _ c.loop-page.invariant.limit c.free_tables.ensures.served)))
    c.give_up_space.ensures.given_up)

pub returns-clause-goes_on : goal.returns-clause-goes_on
returns-clause-goes_on g c =
    let one = direct identity_places c.args.process in
    goes_on_if c.args.process (ending c.args.pages.now) (serves_below c.args.pool.now.limit) _ _ _ _ _ _ c.give_up_space.result
    (on_err_weaker c.give_up_space.result (λ same. (ap g.T.TableMemory.tables same.0, ap (λ pool. pool.frames) same.1)) c.give_up_space.ensures.unchanged)
    (used_if c.args.process (g.T.TableMemory.tables c.free_tables.new.memory) c.give_up_space.result c.give_up_space.ensures.reason (served_not_zero c.args.pool.now.limit c.args.process c.requires.served))
    (then_cleaned one c.args.pages.now _ _ _ _ _ _ _ _ (drop_all _ _ c.loop-page-test.false) c.loop-page.invariant.served
    (with_limit c.args.process _ _ _ _ _ _ _ c.loop-page.invariant.limit c.free_tables.ensures.served))
