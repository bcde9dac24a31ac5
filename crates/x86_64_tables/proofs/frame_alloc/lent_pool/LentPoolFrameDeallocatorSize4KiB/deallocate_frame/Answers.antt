use Rattle.std.proofs.Common.{◌≡◌, ◌∙◌, ◌<◌, ◌+◌, ◌≤◌, ℕ, ◌∷◌, true, length, slice_set, ⊎_elim, subst, sym, ap, arith}
use Rattle.std.proofs.lemmas.List.{length-set}
use Rattle.x86_64_model.specs.Entry.{is_frame}
use Rattle.x86_64_model.specs.Lists.{In, EachOnce}
use Rattle.x86_64_model.proofs.Lemmas.Entries.Words.{address-multiple}
use Rattle.std.proofs.lemmas.Bool.{eq-eqb}
use Rattle.x86_64_tables.specs.LentPool.{stacked, is_in}
use Rattle.x86_64_tables.specs.private.PoolLaws.{served_aligned}
use Rattle.x86_64_tables.proofs.Stacks.{has_room, stacked-push, lower_once, lower_in}
use Rattle.x86_64_tables.proofs.frame_alloc.lent_pool.LentPoolFrameDeallocatorSize4KiB.deallocate_frame.Goals as goal

-- a frame is served by the list of frames
pub among : (c : goal.After-as_u64) → is_in c.args.self.now.own.frames c.args.frame ≡ true
among c =
    let pool = c.args.self.now in
    sym (served_aligned pool.own.frames pool.entries.ghost_name pool.count.ghost_name c.args.frame c.start_address.ensures.aligned_to_4kib) ∙ c.requires.served

pub bounds-self-end : goal.bounds-self-end
bounds-self-end c =
    let pool = c.args.self.now in
    has_room pool.own.frames pool.entries.now pool.count.now c.args.frame pool.in_array pool.room pool.each_once pool.served (among c) c.requires.not_held

pub invariant_of-self : goal.invariant_of-self
invariant_of-self c =
    let pool = c.args.self.now in
    let entries = pool.entries.now in let count = pool.count.now in let frame : ℕ = c.args.frame in
    let below : count < length entries = bounds-self-end c in
    let start = c.start_address.ensures in
    let same : c.as_u64.result ≡ frame = c.as_u64.ensures.value ∙ start.value in
    let pushed : stacked (slice_set entries count c.as_u64.result) (count + 1) ≡ frame ∷ stacked entries count =
    stacked-push entries count c.as_u64.result below ∙ ap (λ f. f ∷ stacked entries count) same in
    let size = length-set entries count c.as_u64.result in
    let now = slice_set entries count c.as_u64.result in
    let few = pool.room in
    let inside : count + 1 ≤ length now = omega (arith, below, size) in
    let among_free = λ (f : ℕ) (is : In (stacked now (count + 1)) f). subst (λ fs. In fs f) pushed is in
    record {
      in_array = omega (arith, below, size);
      room = omega (arith, few, size);
      each_once = lower_once now _ (count + 1) inside (subst EachOnce (sym pushed) (c.requires.not_held, pool.each_once)) (omega arith);
      are_frames = λ f is. ⊎_elim (λ same. subst (λ f. is_frame f ≡ true) same (eq-eqb _ _ (address-multiple frame start.aligned_to_4kib start.below)))
          (pool.are_frames f) (among_free f (lower_in now _ (count + 1) f inside is (omega arith)));
      served = λ f is. ⊎_elim (λ same. subst (λ f. is_in pool.own.frames f ≡ true) same (among c)) (pool.served f)
          (among_free f (lower_in now _ (count + 1) f inside is (omega arith)));
    }
