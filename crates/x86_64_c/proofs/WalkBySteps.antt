-- Where the page walk arrives, by the words that it reads.
use Rattle.std.proofs.Common.{◌≡◌, ◌+◌, ◌%◌, ℕ, ◌&&◌, Bool, true, false, cond, Option, Some, None, option_map, refl, sym, ap, ◌∙◌}
use Rattle.std.specs.List.{last_or}
use Rattle.x86_64_model.specs.Entry.{present}
use Rattle.x86_64_model.specs.Mappings.{Rights, maps_page}
use Rattle.x86_64_model.specs.Memory.{Words}
use Rattle.x86_64_model.specs.PageWalk.{arrives, page_start, page_walk}
use Rattle.x86_64_model.specs.Position.{span}
use Rattle.x86_64_model.specs.Steps.{Step, steps, rights_in, last_arrival}
use Rattle.x86_64_model.proofs.Lemmas.Walks.Steps.{walks_arrive_by_steps}
use Rattle.x86_64_c.specs.Walks.{result_of_walk, result_written, told_by}

pub tells : (L : ℕ) (T : Words) (root p : ℕ) → let all = steps T p L root in
    told_by p (rights_in all) (last_or None all) ≡ option_map (result_of_walk (rights_in all).execute) (page_walk L T root p)
tells L T root p = let r = rights_in (steps T p L root) in
    by r (last_or None (steps T p L root)) ∙ sym (ap (option_map (result_of_walk r.execute)) (walks_arrive_by_steps L T root p))
  where
    by : (r : Rights) (last : Option Step) → told_by p r last ≡ option_map (result_of_walk r.execute) (last_arrival p r last)
    by r None = refl
    by r (Some s) = each (present s.word && maps_page s.level s.word)
      where
        each : (b : Bool) → let to = page_start s.level s.word + p % span s.level in
            option_map (λ a. result_written a r) (cond b (Some to) None) ≡ option_map (result_of_walk r.execute) (cond b (arrives to r.write r.user) None)
        each true = refl
        each false = refl
