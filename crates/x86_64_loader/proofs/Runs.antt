-- Runs of pages, page by page.
use Rattle.std.proofs.Common.{◌≡◌, inl, inr, ◌<◌, ◌≤◌, ◌+◌, ◌*◌, ℕ, true, List, [], sym, ap, ◌∙◌, subst, arith}
use Rattle.std.proofs.Math.Nat.{add-mul, one-mul}
use Rattle.std.proofs.lemmas.Bool.{cases_lt}
use Rattle.x86_64_model.specs.Allowed.{map_allowed}
use Rattle.x86_64_model.specs.Arrivals.{NoWorse}
use Rattle.x86_64_model.specs.Call.{MapTo}
use Rattle.x86_64_model.specs.Entry.{present}
use Rattle.x86_64_model.specs.Layout.{Layout}
use Rattle.x86_64_model.specs.MapRule.{parent_part}
use Rattle.x86_64_model.specs.Hierarchy.{◌laid_in◌, Hierarchy, MayMap, IsMappedAs, paths, path_of, PoolFits}
use Rattle.x86_64_model.specs.PageMappings.{PageMapping}
use Rattle.x86_64_model.specs.PageWalk.{Walked}
use Rattle.x86_64_model.specs.Path.{path_at}
use Rattle.x86_64_model.proofs.Lemmas.Lists.All.{all_mapped}
use Rattle.x86_64_model.proofs.Lemmas.Machines.PageMappings.{allowed_again}
use Rattle.x86_64.specs.FreeFrames.{KeepsFree}
use Rattle.x86_64_model.specs.Store.{KeepsPool}
use Rattle.x86_64_mappers.specs.Supplies.{Supply}
use Rattle.x86_64.proofs.FreeFrames as frees
use Rattle.x86_64.proofs.Keeping.{keeps_then}
use Rattle.x86_64_loader.specs.Maps.{KeptWithSupply}
use Rattle.x86_64_loader.specs.Pages.{IsFree, LeavesSupply, MayBeMapped, RunStands}
use Rattle.x86_64_loader.specs.Segments.{AllStand}

-- what holds below a number and for that number
pub one_more : (P : ℕ → Type 0) (k : ℕ) → ((j : ℕ) → j < k → P j) → P k → (j : ℕ) → j < k + 1 → P j
one_more P k before this j within = elim (cases_lt j k) [
  | inl lower ↦ before j lower
  | inr not_lower ↦ let same : k ≡ j = omega (arith, within, not_lower) in subst P same this
]

pub no_worse_then : (w v x : Walked) → NoWorse w v → NoWorse v x → NoWorse w x
no_worse_then w v x one two = record {
  same_place = two.same_place ∙ one.same_place;
  write_kept = λ a. two.write_kept (one.write_kept a);
  user_kept = λ a. two.user_kept (one.user_kept a);
}

-- maps after other maps
pub kept_then : {Lent : Type 0} {supply : Supply} (h now after : Hierarchy Lent) (between rest : Supply) → KeptWithSupply h supply now between → KeptWithSupply now between after rest → KeptWithSupply h supply after rest
kept_then {supply = supply} h now after between rest one two = record {
  fits = two.fits;
  keeps = λ serves fits. let first = one.keeps serves fits in
      keeps_then h.layout serves h.memory now.memory after.memory supply.frames between.frames rest.frames first
      (subst (λ (l : Layout). KeepsPool l serves now.memory between.frames after.memory rest.frames) one.layout
      (two.keeps serves (subst (λ (l : Layout). PoolFits (l laid_in now.memory) serves between.frames) (sym one.layout) first.fits)));
  serves = two.serves ∙ one.serves;
  free = frees.free_then h.layout h.memory now.memory after.memory supply.frames between.frames rest.frames [] [] one.free
      (subst (λ (l : Layout). KeepsFree l now.memory between.frames [] after.memory rest.frames) one.layout two.free);
  walks = λ p w is.
      let v = one.walks p w is in let x = two.walks p v.0 v.1 in
      (x.0, x.1, no_worse_then w v.0 x.0 v.2 x.2);
  layout = two.layout ∙ one.layout;
  lent = two.lent ∙ one.lent;
}

pub leaves_then : {Lent : Type 0} {supply : Supply} (h now after : Hierarchy Lent) (between rest : Supply) (first second highest : ℕ) → highest ≤ first → highest ≤ second
    → LeavesSupply first h supply now between → LeavesSupply second now between after rest → LeavesSupply highest h supply after rest
leaves_then h now after between rest first second highest in_first in_second one two = record {
  kept = kept_then h now after between rest one.kept two.kept;
  pages = λ level page frame given low stands. two.pages level page frame given (omega (arith, low, in_second)) (one.pages level page frame given (omega (arith, low, in_first)) stands);
}

pub may_now : {Lent : Type 0} {supply : Supply} (h now : Hierarchy Lent) (rest : Supply) (level size page frame given k : ℕ) → present given ≡ true → LeavesSupply 3 h supply now rest
    → MayBeMapped h level size page frame given k → MayMap now rest.frames (MapTo level (page + k * size) (frame + k * size) given)
may_now h now rest level size page frame given k is_present left may = record {
  fits = left.kept.fits;
  allowed = subst (λ (l : Layout). map_allowed l.levels l.window (paths now) (path_at l.levels level (page + k * size)) given (parent_part given) ≡ true) (sym left.kept.layout)
      (allowed_again h.layout.levels h.layout.window (paths h) (paths now) (path_of h level (page + k * size)) given is_present may.allowed);
}

pub one_more_page : (k size : ℕ) → (k + 1) * size ≡ k * size + size
one_more_page k size = add-mul k 1 size ∙ ap (λ n. k * size + n) (one-mul size)

-- positions that were free, followed by others
pub free_then : {Lent : Type 0} {supply : Supply} (h now : Hierarchy Lent) (between : Supply) (a m b n start size : ℕ) → a ≤ start → b ≤ a + m → start + size ≤ b + n
    → IsFree h a m → LeavesSupply 3 h supply now between → IsFree now b n → IsFree h start size
free_then h now between a m b n start size from meet to free left this l q f g multiple stands p starts ends its_from its_to = elim (cases_lt p (a + m)) [
  | inl before ↦ free l q f g multiple stands p (omega (arith, from, starts)) before its_from its_to
  | inr not_before ↦ this l q f g multiple (left.pages l q f g stands.asks.high stands) p (omega (arith, not_before, meet)) (omega (arith, ends, to)) its_from its_to
]

module _ {Lent : Type 0} (h now after : Hierarchy Lent) (rest : Supply) (level size page frame given k : ℕ) where
  pub one_more_stands : {between : Supply} → level ≤ 3 → RunStands now level size page frame given k → LeavesSupply 3 now between after rest → IsMappedAs after level (page + k * size) (frame + k * size) given
      → RunStands after level size page frame given (k + 1)
  one_more_stands high stand left this = one_more (λ j. IsMappedAs after level (page + j * size) (frame + j * size) given) k
      (λ j before. left.pages level (page + j * size) (frame + j * size) given high (stand j before)) this

  pub one_more_free : {supply : Supply} (between : Supply) → IsFree h page (k * size) → LeavesSupply 3 h supply now between → IsFree now (page + k * size) size → IsFree h page ((k + 1) * size)
  one_more_free between free left this = let more = one_more_page k size in
      free_then h now between page (k * size) (page + k * size) size page ((k + 1) * size) (omega arith) (omega arith) (omega (arith, more)) free left this

-- pages that stand still do after maps
pub still_stand : {Lent : Type 0} (h after : Hierarchy Lent) (supply rest : Supply) → LeavesSupply 3 h supply after rest → (pages : List PageMapping) → AllStand h pages → AllStand after pages
still_stand h after supply rest left pages =
    all_mapped (λ x. IsMappedAs h x.level x.page x.frame x.flags) (λ x. IsMappedAs after x.level x.page x.frame x.flags) (λ x stands. left.pages x.level x.page x.frame x.flags stands.asks.high stands) pages
