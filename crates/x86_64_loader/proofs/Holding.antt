-- Held positions: they come from runs of maps, stay through later maps, and page walks arrive at their addresses.
use Rattle.std.proofs.Common.{◌≡◌, ◌<◌, ◌≤◌, ◌+◌, ◌-◌, ◌*◌, ◌/◌, ◌%◌, ℕ, false, Some, refl, sym, ap, ◌∙◌, subst, arith, pow_pos}
use Rattle.std.proofs.Math.Nat.{add-mul-mod_self_right, div-lt_iff_lt-mul, div-mul-le_self, lt-div-mul-add}
use Rattle.x86_64_model.specs.Arrivals.{NoWorse}
use Rattle.x86_64_model.specs.Entry.{writable, user}
use Rattle.x86_64_model.specs.Layout.{Layout}
use Rattle.x86_64_model.specs.Hierarchy.{Hierarchy, Valid, path_of, walk}
use Rattle.x86_64_model.specs.PageWalk.{Walked}
use Rattle.x86_64_model.specs.Path.{path_at}
use Rattle.x86_64_model.specs.Position.{span}
use Rattle.x86_64_model.specs.Window.{begins_with}
use Rattle.x86_64_model.proofs.Lemmas.Machines.Effects.{map_may}
use Rattle.x86_64_model.proofs.Lemmas.Machines.Standing.{arrives_where_stands}
use Rattle.x86_64_model.specs.MapRule.{parent_part}
use Rattle.x86_64_model.specs.Hierarchy.{paths}
use Rattle.x86_64_mappers.specs.Supplies.{Supply}
use Rattle.x86_64_loader.specs.private.Held.{IsHeld, PagesAreHeld}
use Rattle.x86_64_loader.specs.Maps.{KeptWithSupply}
use Rattle.x86_64_loader.specs.Pages.{IsFree, LeavesSupply, MayBeMapped, RunStands}
use Rattle.x86_64_loader.specs.Segments.{ReachesAt}
use Rattle.x86_64_loader.specs.declared.segment.Segment.{Segment}
use Rattle.x86_64_loader.proofs.Runs.{no_worse_then}

-- ---- the positions of a run

-- position o of a run lies in page o / size
module _ {Lent : Type 0} (h : Hierarchy Lent) (level size page frame given count : ℕ) (spans : size ≡ span level) (multiple : page % size ≡ 0) (stand : RunStands h level size page frame given count)
    (outside : (k : ℕ) → k < count → begins_with h.layout.window (path_of h level (page + k * size)) ≡ false) where
  some_bytes : 0 < size
  some_bytes = subst (λ s. 0 < s) (sym spans) (pow_pos (12 + 9 * (level - 1)))

  pub run_is_held : PagesAreHeld h (count * size) page frame given
  run_is_held o within =
      let low : o / size * size ≤ o = div-mul-le_self o size in
      let high : o < o / size * size + size = lt-div-mul-add some_bytes in
      let in_run : o / size < count = (div-lt_iff_lt-mul some_bytes).1 within in
      record {
        level = level;
        page = page + o / size * size;
        frame = frame + o / size * size;
        stands = stand (o / size) in_run;
        aligned = subst (λ s. (page + o / size * size) % s ≡ 0) spans (add-mul-mod_self_right page (o / size) size ∙ multiple);
        outside = outside (o / size) in_run;
        from_start = omega (arith, low);
        before_end = subst (λ s. page + o < (page + o / size * size) + s) spans (omega (arith, high));
        lands = omega arith;
      }

-- pages that may be mapped are outside the window
pub run_outside : {Lent : Type 0} (h after : Hierarchy Lent) (level size page frame given k : ℕ) → MayBeMapped h level size page frame given k → after.layout ≡ h.layout
    → begins_with after.layout.window (path_of after level (page + k * size)) ≡ false
run_outside h after level size page frame given k may layout =
    subst (λ (l : Layout). begins_with l.window (path_at l.levels level (page + k * size)) ≡ false) (sym layout)
    (map_may h.layout.levels h.layout.window (paths h) (path_of h level (page + k * size)) given (parent_part given) may.allowed).outside

-- ---- a held position

module _ {Lent : Type 0} (h : Hierarchy Lent) (p to given : ℕ) (held : IsHeld h p to given) where
  -- is mapped to the address at which the page walk arrives
  pub held_arrives : Valid h → walk h p ≡ Some (record { address = to; write = writable given; user = user given })
  held_arrives valid =
      let start = held.from_start in let end = held.before_end in let lands = held.lands in
      let at : held.page + (p - held.page) ≡ p = omega (arith, start) in
      let there : held.frame + (p - held.page) ≡ to = omega (arith, start, lands) in
      ap (walk h) (sym at)
      ∙ arrives_where_stands h held.level held.page held.frame given valid held.outside held.aligned held.stands (p - held.page) (omega (arith, start, end))
      ∙ ap (λ a. Some (record { address = a; write = writable given; user = user given })) there

  -- is still held after later maps
  pub held_still : {supply : Supply} (after : Hierarchy Lent) (rest : Supply) → LeavesSupply 3 h supply after rest → IsHeld after p to given
  held_still after rest left = record {
    level = held.level;
    page = held.page;
    frame = held.frame;
    stands = left.pages held.level held.page held.frame given held.stands.asks.high held.stands;
    aligned = held.aligned;
    outside = subst (λ (l : Layout). begins_with l.window (path_at l.levels held.level held.page) ≡ false) (sym left.kept.layout) held.outside;
    from_start = held.from_start;
    before_end = held.before_end;
    lands = held.lands;
  }

  -- isn't free
  pub held_not_free : (start size : ℕ) → IsFree h start size → start ≤ p → p < start + size → ⊥
  held_not_free start size free from to = free held.level held.page held.frame given held.aligned held.stands p from to held.from_start held.before_end

  -- is reached
  pub held_reached : Valid h → (walked : Walked) × (walk h p ≡ Some walked) × NoWorse (record { address = to; write = writable given; user = user given }) walked
  held_reached valid = (record { address = to; write = writable given; user = user given }, held_arrives valid, record { same_place = refl; write_kept = λ a. a; user_kept = λ a. a })

-- a page walk that arrived as it should still does after maps
pub reached_after : {Lent : Type 0} {supply : Supply} (h after : Hierarchy Lent) (rest : Supply) (s : Segment) (o : ℕ) → KeptWithSupply h supply after rest → ReachesAt h s o → ReachesAt after s o
reached_after h after rest s o kept before =
    let now = kept.walks (s.page + o) before.0 before.1 in (now.0, now.1, no_worse_then _ before.0 now.0 before.2 now.2)
