use Rattle.std.proofs.Common.{◌≡◌, ◌≤◌, ◌&&◌, Bool, true, false, refl, sym, ◌∙◌, subst, lit≤, arith}
use Rattle.x86_64_model.proofs.Lemmas.Machines.Fitting.{ready_of_fits}
use Rattle.x86_64_model.proofs.Lemmas.Machines.Giving.{giving_from}
use Rattle.x86_64_model.specs.Call.{SetFlags}
use Rattle.x86_64_model.specs.Hierarchy.{allows}
use Rattle.x86_64_tables.specs.PageTableFlags.{bits_of}
use Rattle.x86_64.specs.Calls.{page_call}
use Rattle.x86_64.specs.private.Served.{SetsFlags}
use Rattle.x86_64.specs.Runs.{machine_of, state_in}
use Rattle.x86_64.proofs.Keeping.{kept_none}
use Rattle.x86_64.proofs.Rounds.{nothing_recorded}
use Rattle.x86_64.proofs.PageSteps.{step_refused, Start, IsServed, map_to_served, map_with_flags_served, identity_map_served, unmap_served, update_served, set_flags_served, translate_served, IsKept, map_kept, change_kept}
use Rattle.x86_64.proofs.runs.serve_page.Given.{Over}
use Rattle.x86_64.proofs.runs.serve_page.Goals as goal
use Rattle.x86_64.proofs.runs.serve_page.Goals.{in-MapTo, in-MapToWithTableFlags, in-IdentityMap, in-Unmap, in-UpdateFlags, in-SetFlagsP5, in-SetFlagsP4, in-SetFlagsP3, in-SetFlagsP2, in-TranslatePage}

is_served : (g : Over) (c : goal.Joined-call g) → IsServed _ (g.M.Tables.hierarchy c.args.mapper.now).layout g.F.FrameDeallocator.take_back (g.F.FrameKeeper.serves c.args.frames.now) (g.M.Tables.hierarchy c.args.mapper.now).memory
    (g.F.FrameAllocator.supply c.args.frames.now) (page_call g.S.PageSize.LEVEL g.P5.LevelFiveFlags.bits c.args.call) (g.M.Tables.hierarchy c.match-call.mapper).memory (g.F.FrameAllocator.supply c.match-call.frames) c.match-call.result
is_served g c =
    let mapper = c.args.mapper.now in
    let start : Start (g.M.Tables.hierarchy mapper).layout g.F.FrameDeallocator.take_back (g.F.FrameKeeper.serves c.args.frames.now) (g.M.Tables.hierarchy mapper).memory (g.F.FrameAllocator.supply c.args.frames.now) g.S.PageSize.LEVEL = record {
      at_least_four = g.met.M.Tables.at_least_four mapper;
      adds = (g.M.Tables.added_flags mapper).adds;
      gives = giving_from _ g.met.F.FrameDeallocator.take_back_rearranges;
      mapping = g.met.M.Tables.is_mapping mapper;
      fits = c.requires.fits;
      low = g.S.PageSize.low;
      high = g.S.PageSize.high;
    } in
    let some = g.met.M.Tables.at_least_four mapper in
    elim c.match-call.branch [
      | in-MapTo w ↦ rw (w.in-MapTo.is, w.mapper-is, w.frames-is, w.result-is)
          (map_to_served (g.M.Tables.hierarchy mapper) start w.in-MapTo.page w.in-MapTo.frame (bits_of w.in-MapTo.flags) w.map_to.result _ _ w.map_to.ensures.does.map w.map_to.ensures.page w.take.result w.take.ensures.result)
      | in-MapToWithTableFlags w ↦ rw (w.in-MapToWithTableFlags.is, w.mapper-is, w.frames-is, w.result-is)
          (map_with_flags_served (g.M.Tables.hierarchy mapper) start w.in-MapToWithTableFlags.page w.in-MapToWithTableFlags.frame (bits_of w.in-MapToWithTableFlags.flags) (bits_of w.in-MapToWithTableFlags.parent_flags) w.map_to_with_table_flags-mapped.result _ _
          w.map_to_with_table_flags-mapped.ensures.does.map w.map_to_with_table_flags-mapped.ensures.page w.take-in-MapToWithTableFlags.result w.take-in-MapToWithTableFlags.ensures.result)
      | in-IdentityMap w ↦ rw (w.in-IdentityMap.is, w.mapper-is, w.frames-is, w.result-is)
          (identity_map_served (g.M.Tables.hierarchy mapper) start w.in-IdentityMap.frame (bits_of w.in-IdentityMap.flags) w.identity_map.result _ _ w.identity_map.ensures.does.map w.identity_map.ensures.page w.take-in-IdentityMap.result w.take-in-IdentityMap.ensures.result)
      | in-Unmap w ↦ rw (w.in-Unmap.is, w.mapper-is, w.frames-is, w.result-is)
          (unmap_served (g.M.Tables.hierarchy mapper) start w.in-Unmap.page w.unmap.result _ w.unmap.ensures.does w.unmap.ensures.page w.take_unmapped.result w.take_unmapped.ensures.result)
      | in-UpdateFlags w ↦ rw (w.in-UpdateFlags.is, w.mapper-is, w.frames-is, w.result-is)
          (update_served (g.M.Tables.hierarchy mapper) start w.in-UpdateFlags.page (bits_of w.in-UpdateFlags.flags) _ w.update_flags.result _ w.update_flags.ensures.does w.update_flags.ensures.page w.take-in-UpdateFlags.result w.take-in-UpdateFlags.ensures.result)
      | in-SetFlagsP5 w ↦ rw (w.in-SetFlagsP5.is, w.mapper-is, w.frames-is, w.result-is)
          (let five = g.met.M.TablesIn.level_count mapper ∙ g.met.P5.LevelFiveFlags.five w.in-SetFlagsP5.flags in
          let h = g.M.Tables.hierarchy mapper in
          set_flags_served h start 5 w.in-SetFlagsP5.page (g.P5.LevelFiveFlags.bits w.in-SetFlagsP5.flags) (lit≤ tt) (subst (λ n. 5 ≤ n) (sym five) (lit≤ tt)) w.set_flags.result _
          (subst (λ given. SetsFlags h (SetFlags 5 g.S.PageSize.LEVEL w.in-SetFlagsP5.page given) w.set_flags.result (g.M.Tables.hierarchy w.set_flags.new.mapper)) w.page_table_flags.ensures.some w.set_flags.ensures.sets))
      | in-SetFlagsP4 w ↦ rw (w.in-SetFlagsP4.is, w.mapper-is, w.frames-is, w.result-is)
          (set_flags_served (g.M.Tables.hierarchy mapper) start 4 w.in-SetFlagsP4.page (bits_of w.in-SetFlagsP4.flags) (lit≤ tt) some w.set_flags-in-SetFlagsP4.result _ w.set_flags-in-SetFlagsP4.ensures.sets)
      | in-SetFlagsP3 w ↦ rw (w.in-SetFlagsP3.is, w.mapper-is, w.frames-is, w.result-is)
          (set_flags_served (g.M.Tables.hierarchy mapper) start 3 w.in-SetFlagsP3.page (bits_of w.in-SetFlagsP3.flags) (lit≤ tt) (omega (arith, some)) w.set_flags-in-SetFlagsP3.result _ w.set_flags-in-SetFlagsP3.ensures.sets)
      | in-SetFlagsP2 w ↦ rw (w.in-SetFlagsP2.is, w.mapper-is, w.frames-is, w.result-is)
          (set_flags_served (g.M.Tables.hierarchy mapper) start 2 w.in-SetFlagsP2.page (bits_of w.in-SetFlagsP2.flags) (lit≤ tt) (omega (arith, some)) w.set_flags-in-SetFlagsP2.result _ w.set_flags-in-SetFlagsP2.ensures.sets)
      | in-TranslatePage w ↦ rw (w.in-TranslatePage.is, w.mapper-is, w.frames-is, w.result-is)
          (translate_served (g.M.Tables.hierarchy mapper) start w.in-TranslatePage.page w.translate_page.result w.translate_page.ensures)
    ]

pub returns-clause-step : goal.returns-clause-step
returns-clause-step g c = (is_served g c (sym c.is_allowed.ensures ∙ c.if-not-is_allowed.false)).step

kept : (g : Over) (c : goal.Joined-call g) → IsKept (g.M.Tables.hierarchy c.args.mapper.now) (g.M.Tables.hierarchy c.match-call.mapper) (g.F.FrameKeeper.serves c.args.frames.now) (g.F.FrameKeeper.serves c.match-call.frames)
kept g c =
    let h = g.M.Tables.hierarchy c.args.mapper.now in
    elim c.match-call.branch [
      | in-MapTo w ↦ rw (w.mapper-is, w.frames-is) (map_kept h w.map_to.ensures.does.map w.map_to.ensures.does.serves)
      | in-MapToWithTableFlags w ↦ rw (w.mapper-is, w.frames-is) (map_kept h w.map_to_with_table_flags-mapped.ensures.does.map w.map_to_with_table_flags-mapped.ensures.does.serves)
      | in-IdentityMap w ↦ rw (w.mapper-is, w.frames-is) (map_kept h w.identity_map.ensures.does.map w.identity_map.ensures.does.serves)
      | in-Unmap w ↦ rw (w.mapper-is, w.frames-is) (change_kept h w.unmap.ensures.does)
      | in-UpdateFlags w ↦ rw (w.mapper-is, w.frames-is) (change_kept h w.update_flags.ensures.does)
      | in-SetFlagsP5 w ↦ rw (w.mapper-is, w.frames-is) (change_kept h w.set_flags.ensures.sets.2)
      | in-SetFlagsP4 w ↦ rw (w.mapper-is, w.frames-is) (change_kept h w.set_flags-in-SetFlagsP4.ensures.sets.2)
      | in-SetFlagsP3 w ↦ rw (w.mapper-is, w.frames-is) (change_kept h w.set_flags-in-SetFlagsP3.ensures.sets.2)
      | in-SetFlagsP2 w ↦ rw (w.mapper-is, w.frames-is) (change_kept h w.set_flags-in-SetFlagsP2.ensures.sets.2)
      | in-TranslatePage w ↦ rw (w.mapper-is, w.frames-is) (record { serves = refl; layout = refl; lent = refl })
    ]

pub returns-clause-keeps : goal.returns-clause-keeps
returns-clause-keeps g c =
    let same = kept g c in
    record { keeps = (is_served g c (sym c.is_allowed.ensures ∙ c.if-not-is_allowed.false)).keeps; serves = same.serves; layout = same.layout; lent = same.lent }

pub returns-clause-still : goal.returns-clause-still
returns-clause-still g c = (is_served g c (sym c.is_allowed.ensures ∙ c.if-not-is_allowed.false)).still

pub returns-clause-free : goal.returns-clause-free
returns-clause-free g c = (is_served g c (sym c.is_allowed.ensures ∙ c.if-not-is_allowed.false)).free

pub returns-then-not-is_allowed-clause-step : goal.returns-then-not-is_allowed-clause-step
returns-then-not-is_allowed-clause-step g c =
    let h = g.M.Tables.hierarchy c.args.mapper.now in
    let state = state_in h.layout h.memory (g.F.FrameAllocator.supply c.args.frames.now) in
    step_refused (machine_of h.layout g.F.FrameDeallocator.take_back) state (page_call g.S.PageSize.LEVEL g.P5.LevelFiveFlags.bits c.args.call) (sym c.is_allowed.ensures ∙ c.if-not-is_allowed.true)

pub returns-then-not-is_allowed-clause-keeps : goal.returns-then-not-is_allowed-clause-keeps
returns-then-not-is_allowed-clause-keeps g c = kept_none (g.M.Tables.hierarchy c.args.mapper.now) _ c.requires.fits

pub returns-then-not-is_allowed-clause-items : goal.returns-then-not-is_allowed-clause-items
returns-then-not-is_allowed-clause-items g c = nothing_recorded g.K.Tokens.records _

pub map_to-requires : goal.map_to-requires
map_to-requires g c =
    let h = g.M.Tables.hierarchy c.args.mapper.now in
    record {
      fits = ready_of_fits h.layout h.memory _ _ c.requires.fits;
      allowed = rw c.in-MapTo.is at (sym c.is_allowed.ensures ∙ c.if-not-is_allowed.false);
    }

pub map_to_with_table_flags-mapped-requires : goal.map_to_with_table_flags-mapped-requires
map_to_with_table_flags-mapped-requires g c =
    let h = g.M.Tables.hierarchy c.args.mapper.now in
    record {
      fits = ready_of_fits h.layout h.memory _ _ c.requires.fits;
      allowed = rw c.in-MapToWithTableFlags.is at (sym c.is_allowed.ensures ∙ c.if-not-is_allowed.false);
    }

pub unmap-requires : goal.unmap-requires
unmap-requires g c =
    record { valid = c.requires.fits.valid; allowed = rw c.in-Unmap.is at (sym c.is_allowed.ensures ∙ c.if-not-is_allowed.false) }

pub update_flags-requires : goal.update_flags-requires
update_flags-requires g c =
    record { valid = c.requires.fits.valid; allowed = rw c.in-UpdateFlags.is at (sym c.is_allowed.ensures ∙ c.if-not-is_allowed.false) }

pub set_flags-requires-in-SetFlagsP4-clause-may : goal.set_flags-requires-in-SetFlagsP4-clause-may
set_flags-requires-in-SetFlagsP4-clause-may g c =
    record { valid = c.requires.fits.valid; allowed = rw c.in-SetFlagsP4.is at (sym c.is_allowed.ensures ∙ c.if-not-is_allowed.false) }

pub set_flags-requires-in-SetFlagsP3-clause-may : goal.set_flags-requires-in-SetFlagsP3-clause-may
set_flags-requires-in-SetFlagsP3-clause-may g c =
    record { valid = c.requires.fits.valid; allowed = rw c.in-SetFlagsP3.is at (sym c.is_allowed.ensures ∙ c.if-not-is_allowed.false) }

pub set_flags-requires-in-SetFlagsP2-clause-may : goal.set_flags-requires-in-SetFlagsP2-clause-may
set_flags-requires-in-SetFlagsP2-clause-may g c =
    record { valid = c.requires.fits.valid; allowed = rw c.in-SetFlagsP2.is at (sym c.is_allowed.ensures ∙ c.if-not-is_allowed.false) }

pub returns-clause-items : goal.returns-clause-items
returns-clause-items g c =
    elim c.match-call.branch [
      | in-MapTo w ↦ rw (w.tokens-is, w.result-is) w.take.ensures.items
      | in-MapToWithTableFlags w ↦ rw (w.tokens-is, w.result-is) w.take-in-MapToWithTableFlags.ensures.items
      | in-IdentityMap w ↦ rw (w.tokens-is, w.result-is) w.take-in-IdentityMap.ensures.items
      | in-Unmap w ↦ rw (w.tokens-is, w.result-is) w.take_unmapped.ensures.items
      | in-UpdateFlags w ↦ rw (w.tokens-is, w.result-is) w.take-in-UpdateFlags.ensures.items
      | in-SetFlagsP5 w ↦ rw (w.tokens-is, w.result-is) w.set_flags.ensures.items
      | in-SetFlagsP4 w ↦ rw (w.tokens-is, w.result-is) w.set_flags-in-SetFlagsP4.ensures.items
      | in-SetFlagsP3 w ↦ rw (w.tokens-is, w.result-is) w.set_flags-in-SetFlagsP3.ensures.items
      | in-SetFlagsP2 w ↦ rw (w.tokens-is, w.result-is) w.set_flags-in-SetFlagsP2.ensures.items
      | in-TranslatePage w ↦ rw (w.tokens-is, w.result-is) (nothing_recorded g.K.Tokens.records _)
    ]

pub returns-clause-room : goal.returns-clause-room
returns-clause-room g c =
    elim c.match-call.branch [
      | in-MapTo w ↦ rw w.tokens-is w.take.ensures.room
      | in-MapToWithTableFlags w ↦ rw w.tokens-is w.take-in-MapToWithTableFlags.ensures.room
      | in-IdentityMap w ↦ rw w.tokens-is w.take-in-IdentityMap.ensures.room
      | in-Unmap w ↦ rw w.tokens-is w.take_unmapped.ensures.room
      | in-UpdateFlags w ↦ rw w.tokens-is w.take-in-UpdateFlags.ensures.room
      | in-SetFlagsP5 w ↦ rw w.tokens-is w.set_flags.ensures.room
      | in-SetFlagsP4 w ↦ rw w.tokens-is w.set_flags-in-SetFlagsP4.ensures.room
      | in-SetFlagsP3 w ↦ rw w.tokens-is w.set_flags-in-SetFlagsP3.ensures.room
      | in-SetFlagsP2 w ↦ rw w.tokens-is w.set_flags-in-SetFlagsP2.ensures.room
      | in-TranslatePage w ↦ rw w.tokens-is (g.K.Tokens.fewer c.args.tokens.now)
    ]

pub is_allowed-requires : goal.is_allowed-requires
is_allowed-requires g c = c.requires.fits.valid

pub take-requires : goal.take-requires
take-requires g c = c.requires.room

pub take-requires-in-MapToWithTableFlags : goal.take-requires-in-MapToWithTableFlags
take-requires-in-MapToWithTableFlags g c = c.requires.room

pub take-requires-in-IdentityMap : goal.take-requires-in-IdentityMap
take-requires-in-IdentityMap g c = c.requires.room

pub take_unmapped-requires : goal.take_unmapped-requires
take_unmapped-requires g c = c.requires.room

pub take-requires-in-UpdateFlags : goal.take-requires-in-UpdateFlags
take-requires-in-UpdateFlags g c = c.requires.room

pub set_flags-requires-clause-room : goal.set_flags-requires-clause-room
set_flags-requires-clause-room g c = c.requires.room

pub set_flags-requires-in-SetFlagsP4-clause-room : goal.set_flags-requires-in-SetFlagsP4-clause-room
set_flags-requires-in-SetFlagsP4-clause-room g c = c.requires.room

pub set_flags-requires-in-SetFlagsP3-clause-room : goal.set_flags-requires-in-SetFlagsP3-clause-room
set_flags-requires-in-SetFlagsP3-clause-room g c = c.requires.room

pub set_flags-requires-in-SetFlagsP2-clause-room : goal.set_flags-requires-in-SetFlagsP2-clause-room
set_flags-requires-in-SetFlagsP2-clause-room g c = c.requires.room

pub set_flags-requires-clause-may : goal.set_flags-requires-clause-may
set_flags-requires-clause-may g c =
    let allowed = rw c.in-SetFlagsP5.is at (sym c.is_allowed.ensures ∙ c.if-not-is_allowed.false) in
    let h = g.M.Tables.hierarchy c.args.mapper.now in
    record {
      valid = c.requires.fits.valid;
      allowed = subst (λ given. allows h (SetFlags 5 g.S.PageSize.LEVEL c.in-SetFlagsP5.page given) ≡ true) (sym
          c.page_table_flags.ensures.some) allowed;
    }

pub set_flags-requires-clause-high : goal.set_flags-requires-clause-high
set_flags-requires-clause-high g c = subst (λ n. 5 ≤ n) (sym (g.met.P5.LevelFiveFlags.five c.in-SetFlagsP5.flags)) (lit≤ tt)

pub set_flags-requires-in-SetFlagsP4-clause-high : goal.set_flags-requires-in-SetFlagsP4-clause-high
set_flags-requires-in-SetFlagsP4-clause-high g c = g.L.LevelCount.at_least_four

second_too : (a b : Bool) → (a && b) ≡ true → b ≡ true
second_too true b both = both
second_too false b both = cc

pub identity_map-requires-clause-may : goal.identity_map-requires-clause-may
identity_map-requires-clause-may g c =
    let h = g.M.Tables.hierarchy c.args.mapper.now in
    record {
      fits = ready_of_fits h.layout h.memory _ _ c.requires.fits;
      allowed = second_too _ _ (rw c.in-IdentityMap.is at (sym c.is_allowed.ensures ∙ c.if-not-is_allowed.false));
    }

pub returns-then-not-is_allowed-clause-still : goal.returns-then-not-is_allowed-clause-still
returns-then-not-is_allowed-clause-still g c = λ same. refl

pub returns-then-not-is_allowed-clause-room : goal.returns-then-not-is_allowed-clause-room
returns-then-not-is_allowed-clause-room g c = g.K.Tokens.fewer c.args.tokens.now
