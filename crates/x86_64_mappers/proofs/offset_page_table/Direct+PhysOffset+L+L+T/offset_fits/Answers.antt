use Rattle.std.proofs.Common.{◌+◌, ◌*◌, ℕ, sym, ◌∙◌, subst, refl}
use Rattle.std.proofs.lemmas.Bool.{false≢true}
use Rattle.std.proofs.lemmas.List.{take_all}
use Rattle.std.proofs.lemmas.List.Elements.{All-nil, All-more}
use Rattle.std.proofs.lemmas.Option.{slice_get-get_or, get_or_from_slice_get}
use Rattle.std.specs.FinMap.{keys}
use Rattle.std.specs.List.{All}
use Rattle.x86_64_model.specs.Position.{raw, IsCanonical}
use Rattle.x86_64_tables.specs.PhysMemory.{length_keys, nth_place_there, all_places_there}
use Rattle.x86_64_mappers.proofs.offset_page_table.Direct+PhysOffset+L+L+T.offset_fits.Goals as goal
use Rattle.x86_64_mappers.proofs.offset_page_table.Direct+PhysOffset+L+L+T.offset_fits.Goals.{in-Some+else-not-reaches_place, in_default}

pub returns-then-not-reaches_place : goal.returns-then-not-reaches_place
returns-then-not-reaches_place g c =
    let there = nth_place_there (g.T.TableMemory.tables c.args.memory.now) c.loop-n.n c.in-Some.place (sym c.place_at.ensures ∙ c.in-Some.is) in (
      λ h. absurd (false≢true h),
      λ fits. sym c.if-not-reaches_place.true ∙ c.reaches_place.ensures.1 (fits c.in-Some.place there),
    )

pub loop-n-init : goal.loop-n-init
loop-n-init g c = All-nil _

pub loop-n-preserved : goal.loop-n-preserved
loop-n-preserved g c =
    let places = keys (g.T.TableMemory.tables c.args.memory.now) in
    let IsReached : ℕ → Type 0 = λ place. IsCanonical g.L.LevelCount.LEVELS (raw g.L.LevelCount.LEVELS c.args.phys_offset + place * 4096) in
    let within = rw (c.len-n-end.ensures, sym (length_keys (g.T.TableMemory.tables c.args.memory.now))) at c.loop-n-test.true in
    elim c.match-place_at.branch [
      | in-Some+else-not-reaches_place b ↦
          let is = get_or_from_slice_get places c.loop-n.n b.in-Some.place 0 (sym c.place_at.ensures ∙ b.in-Some.is) in
          All-more IsReached places c.loop-n.n 0 within c.loop-n.invariant
          (subst IsReached (sym is) (b.reaches_place.ensures.0 b.if-not-reaches_place.false))
      | in_default b ↦ absurd (b.in_default.not-Some _ (c.place_at.ensures ∙ slice_get-get_or places c.loop-n.n 0 within))
    ]

pub returns : goal.returns
returns g c =
    let places = keys (g.T.TableMemory.tables c.args.memory.now) in
    let IsReached : ℕ → Type 0 = λ place. IsCanonical g.L.LevelCount.LEVELS (raw g.L.LevelCount.LEVELS c.args.phys_offset + place * 4096) in
    let past = rw (c.len-n-end.ensures, sym (length_keys (g.T.TableMemory.tables c.args.memory.now))) at c.loop-n-test.false in (
      λ h. all_places_there IsReached (g.T.TableMemory.tables c.args.memory.now) (subst (All IsReached) (take_all c.loop-n.n places past) c.loop-n.invariant),
      λ fits. refl,
    )
