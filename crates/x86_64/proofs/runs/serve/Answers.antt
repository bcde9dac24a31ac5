use Rattle.std.proofs.Common.{refl, ap}
use Rattle.x86_64_model.proofs.Lemmas.Machines.Giving.{giving_from}
use Rattle.x86_64.specs.Calls.{page_call, to_call}
use Rattle.x86_64.specs.declared.call_values.MapperReply.TheVariants as reply
use Rattle.x86_64.proofs.CallSteps.{translate_served, address_served}
use Rattle.x86_64.proofs.SizedSteps.{stepped}
use Rattle.x86_64.proofs.CleanUpSteps.{held_may_clean_up, kept_cleaned, free_cleaned, cleaned_up}
use Rattle.x86_64.proofs.FreeFrames.{nothing_keeps_free, page_keeps_free}
use Rattle.x86_64.proofs.Keeping.{kept_none}
use Rattle.x86_64.proofs.ReplyCases.{is_on_page}
use Rattle.x86_64.proofs.Rounds.{nothing_recorded}
use Rattle.x86_64.proofs.runs.serve.Goals as goal

pub returns-in-Translate-clause-step : goal.returns-in-Translate-clause-step
returns-in-Translate-clause-step g c = translate_served _ _ _ _ _ _ (ap (to_call g.L.LevelCount.LEVELS g.P5.LevelFiveFlags.bits) c.in-Translate.is) _ c.translate.ensures.answer

pub returns-in-TranslateAddr-clause-step : goal.returns-in-TranslateAddr-clause-step
returns-in-TranslateAddr-clause-step g c = address_served _ _ _ _ _ _ (ap (to_call g.L.LevelCount.LEVELS g.P5.LevelFiveFlags.bits) c.in-TranslateAddr.is) _ c.translate_addr.ensures

pub clean_up-requires : goal.clean_up-requires
clean_up-requires g c = held_may_clean_up (g.M.Tables.hierarchy c.args.mapper.now) _ _ _ (g.met.F.FrameStore.one_list _) c.requires.fits

pub clean_up_range-requires : goal.clean_up_range-requires
clean_up_range-requires g c = held_may_clean_up (g.M.Tables.hierarchy c.args.mapper.now) _ _ _ (g.met.F.FrameStore.one_list _) c.requires.fits

pub returns-in-CleanUp-clause-keeps : goal.returns-in-CleanUp-clause-keeps
returns-in-CleanUp-clause-keeps g c =
    kept_cleaned (g.M.Tables.hierarchy c.args.mapper.now) _ _ _ (g.met.F.FrameStore.one_list _) c.requires.fits _ _ _ _ _ _ (g.met.F.FrameStore.one_list _) c.clean_up.ensures.cleans
    (g.M.Tables.added_flags c.args.mapper.now).adds (giving_from _ g.met.F.FrameDeallocator.take_back_rearranges) _ c.clean_up.ensures.serves

pub returns-in-CleanUpRange-clause-keeps : goal.returns-in-CleanUpRange-clause-keeps
returns-in-CleanUpRange-clause-keeps g c =
    kept_cleaned (g.M.Tables.hierarchy c.args.mapper.now) _ _ _ (g.met.F.FrameStore.one_list _) c.requires.fits _ _ _ _ _ _ (g.met.F.FrameStore.one_list _) c.clean_up_range.ensures.cleans
    (g.M.Tables.added_flags c.args.mapper.now).adds (giving_from _ g.met.F.FrameDeallocator.take_back_rearranges) _ c.clean_up_range.ensures.serves

pub returns-in-CleanUp-clause-free : goal.returns-in-CleanUp-clause-free
returns-in-CleanUp-clause-free g c =
    rw c.in-CleanUp.is (free_cleaned (g.M.Tables.hierarchy c.args.mapper.now) _ _ _ (g.met.F.FrameStore.one_list _) c.requires.fits _ _ _ _ _ _ (g.met.F.FrameStore.one_list _) c.clean_up.ensures.cleans
    (g.met.M.Tables.is_mapping _) (giving_from _ g.met.F.FrameDeallocator.take_back_rearranges))

pub returns-in-CleanUpRange-clause-free : goal.returns-in-CleanUpRange-clause-free
returns-in-CleanUpRange-clause-free g c =
    rw c.in-CleanUpRange.is (free_cleaned (g.M.Tables.hierarchy c.args.mapper.now) _ _ _ (g.met.F.FrameStore.one_list _) c.requires.fits _ _ _ _ _ _ (g.met.F.FrameStore.one_list _) c.clean_up_range.ensures.cleans
    (g.met.M.Tables.is_mapping _) (giving_from _ g.met.F.FrameDeallocator.take_back_rearranges))

pub returns-in-Some-clause-step : goal.returns-in-Some-clause-step
returns-in-Some-clause-step g c =
    stepped reply.Of4KiB 1 (λ replies a. refl) _ _ _ _ (ap (to_call g.L.LevelCount.LEVELS g.P5.LevelFiveFlags.bits) c.in-Of4KiB.is) (is_on_page 1 g.P5.LevelFiveFlags.bits c.in-Of4KiB.call) _ _ c.in-Some.ensures.step

pub returns-in-Some-clause-free : goal.returns-in-Some-clause-free
returns-in-Some-clause-free g c =
    let call = c.in-Of4KiB.call in
    rw c.in-Of4KiB.is (page_keeps_free _ _ _ 1 (page_call 1 g.P5.LevelFiveFlags.bits call) (is_on_page 1 g.P5.LevelFiveFlags.bits call) _ _ c.serve_page.ensures.free)

pub returns-in-None-clause-step : goal.returns-in-None-clause-step
returns-in-None-clause-step g c =
    stepped reply.Of4KiB 1 (λ replies a. refl) _ _ _ _ (ap (to_call g.L.LevelCount.LEVELS g.P5.LevelFiveFlags.bits) c.in-Of4KiB.is) (is_on_page 1 g.P5.LevelFiveFlags.bits c.in-Of4KiB.call) _ _ c.in-None.ensures.step

pub returns-in-None-clause-free : goal.returns-in-None-clause-free
returns-in-None-clause-free g c =
    let call = c.in-Of4KiB.call in
    rw c.in-Of4KiB.is (page_keeps_free _ _ _ 1 (page_call 1 g.P5.LevelFiveFlags.bits call) (is_on_page 1 g.P5.LevelFiveFlags.bits call) _ _ c.serve_page.ensures.free)

pub returns-in-Some-serve_page-clause-step : goal.returns-in-Some-serve_page-clause-step
returns-in-Some-serve_page-clause-step g c =
    stepped reply.Of2MiB 2 (λ replies a. refl) _ _ _ _ (ap (to_call g.L.LevelCount.LEVELS g.P5.LevelFiveFlags.bits) c.in-Of2MiB.is) (is_on_page 2 g.P5.LevelFiveFlags.bits c.in-Of2MiB.call) _ _ c.in-Some-serve_page.ensures.step

pub returns-in-Some-serve_page-clause-free : goal.returns-in-Some-serve_page-clause-free
returns-in-Some-serve_page-clause-free g c =
    let call = c.in-Of2MiB.call in
    rw c.in-Of2MiB.is (page_keeps_free _ _ _ 2 (page_call 2 g.P5.LevelFiveFlags.bits call) (is_on_page 2 g.P5.LevelFiveFlags.bits call) _ _ c.serve_page-in-Of2MiB.ensures.free)

pub returns-in-None-serve_page-clause-step : goal.returns-in-None-serve_page-clause-step
returns-in-None-serve_page-clause-step g c =
    stepped reply.Of2MiB 2 (λ replies a. refl) _ _ _ _ (ap (to_call g.L.LevelCount.LEVELS g.P5.LevelFiveFlags.bits) c.in-Of2MiB.is) (is_on_page 2 g.P5.LevelFiveFlags.bits c.in-Of2MiB.call) _ _ c.in-None-serve_page.ensures.step

pub returns-in-None-serve_page-clause-free : goal.returns-in-None-serve_page-clause-free
returns-in-None-serve_page-clause-free g c =
    let call = c.in-Of2MiB.call in
    rw c.in-Of2MiB.is (page_keeps_free _ _ _ 2 (page_call 2 g.P5.LevelFiveFlags.bits call) (is_on_page 2 g.P5.LevelFiveFlags.bits call) _ _ c.serve_page-in-Of2MiB.ensures.free)

pub returns-in-Some-serve_page-2-clause-step : goal.returns-in-Some-serve_page-2-clause-step
returns-in-Some-serve_page-2-clause-step g c =
    stepped reply.Of1GiB 3 (λ replies a. refl) _ _ _ _ (ap (to_call g.L.LevelCount.LEVELS g.P5.LevelFiveFlags.bits) c.in-Of1GiB.is) (is_on_page 3 g.P5.LevelFiveFlags.bits c.in-Of1GiB.call) _ _ c.in-Some-serve_page-2.ensures.step

pub returns-in-Some-serve_page-2-clause-free : goal.returns-in-Some-serve_page-2-clause-free
returns-in-Some-serve_page-2-clause-free g c =
    let call = c.in-Of1GiB.call in
    rw c.in-Of1GiB.is (page_keeps_free _ _ _ 3 (page_call 3 g.P5.LevelFiveFlags.bits call) (is_on_page 3 g.P5.LevelFiveFlags.bits call) _ _ c.serve_page-in-Of1GiB.ensures.free)

pub returns-in-None-serve_page-2-clause-step : goal.returns-in-None-serve_page-2-clause-step
returns-in-None-serve_page-2-clause-step g c =
    stepped reply.Of1GiB 3 (λ replies a. refl) _ _ _ _ (ap (to_call g.L.LevelCount.LEVELS g.P5.LevelFiveFlags.bits) c.in-Of1GiB.is) (is_on_page 3 g.P5.LevelFiveFlags.bits c.in-Of1GiB.call) _ _ c.in-None-serve_page-2.ensures.step

pub returns-in-None-serve_page-2-clause-free : goal.returns-in-None-serve_page-2-clause-free
returns-in-None-serve_page-2-clause-free g c =
    let call = c.in-Of1GiB.call in
    rw c.in-Of1GiB.is (page_keeps_free _ _ _ 3 (page_call 3 g.P5.LevelFiveFlags.bits call) (is_on_page 3 g.P5.LevelFiveFlags.bits call) _ _ c.serve_page-in-Of1GiB.ensures.free)

pub returns-in-CleanUp-clause-step : goal.returns-in-CleanUp-clause-step
returns-in-CleanUp-clause-step g c =
    rw c.in-CleanUp.is (cleaned_up (g.M.Tables.hierarchy c.args.mapper.now) _ _ _ (g.met.F.FrameStore.one_list _) c.requires.fits
    _ _ _ _ _ _ (g.met.F.FrameStore.one_list _) c.clean_up.ensures.cleans)

pub returns-in-CleanUpRange-clause-step : goal.returns-in-CleanUpRange-clause-step
returns-in-CleanUpRange-clause-step g c =
    rw c.in-CleanUpRange.is (cleaned_up (g.M.Tables.hierarchy c.args.mapper.now) _ _ _ (g.met.F.FrameStore.one_list _) c.requires.fits
    _ _ _ _ _ _ (g.met.F.FrameStore.one_list _) c.clean_up_range.ensures.cleans)

pub returns-in-Translate-clause-free : goal.returns-in-Translate-clause-free
returns-in-Translate-clause-free g c =
    let h = g.M.Tables.hierarchy c.args.mapper.now in
    rw c.in-Translate.is (nothing_keeps_free h.layout h.memory _)

pub returns-in-Translate-clause-keeps : goal.returns-in-Translate-clause-keeps
returns-in-Translate-clause-keeps g c = kept_none (g.M.Tables.hierarchy c.args.mapper.now) _ c.requires.fits

pub returns-in-TranslateAddr-clause-free : goal.returns-in-TranslateAddr-clause-free
returns-in-TranslateAddr-clause-free g c =
    let h = g.M.Tables.hierarchy c.args.mapper.now in
    rw c.in-TranslateAddr.is (nothing_keeps_free h.layout h.memory _)

pub returns-in-TranslateAddr-clause-keeps : goal.returns-in-TranslateAddr-clause-keeps
returns-in-TranslateAddr-clause-keeps g c = kept_none (g.M.Tables.hierarchy c.args.mapper.now) _ c.requires.fits

pub returns-in-Translate-clause-items : goal.returns-in-Translate-clause-items
returns-in-Translate-clause-items g c = nothing_recorded g.K.Tokens.records _

pub returns-in-TranslateAddr-clause-items : goal.returns-in-TranslateAddr-clause-items
returns-in-TranslateAddr-clause-items g c = nothing_recorded g.K.Tokens.records _

pub returns-in-CleanUp-clause-items : goal.returns-in-CleanUp-clause-items
returns-in-CleanUp-clause-items g c = nothing_recorded g.K.Tokens.records _

pub returns-in-CleanUpRange-clause-items : goal.returns-in-CleanUpRange-clause-items
returns-in-CleanUpRange-clause-items g c = nothing_recorded g.K.Tokens.records _

pub returns-in-Some-clause-still : goal.returns-in-Some-clause-still
returns-in-Some-clause-still g c = c.in-Some.ensures.still

pub returns-in-Some-clause-items : goal.returns-in-Some-clause-items
returns-in-Some-clause-items g c = c.in-Some.ensures.items

pub returns-in-Some-clause-keeps : goal.returns-in-Some-clause-keeps
returns-in-Some-clause-keeps g c = c.serve_page.ensures.keeps

pub returns-in-Some-clause-room : goal.returns-in-Some-clause-room
returns-in-Some-clause-room g c = c.serve_page.ensures.room

pub returns-in-None-clause-still : goal.returns-in-None-clause-still
returns-in-None-clause-still g c = c.in-None.ensures.still

pub returns-in-None-clause-items : goal.returns-in-None-clause-items
returns-in-None-clause-items g c = c.in-None.ensures.items

pub returns-in-None-clause-keeps : goal.returns-in-None-clause-keeps
returns-in-None-clause-keeps g c = c.serve_page.ensures.keeps

pub returns-in-None-clause-room : goal.returns-in-None-clause-room
returns-in-None-clause-room g c = c.serve_page.ensures.room

pub returns-in-Some-serve_page-clause-still : goal.returns-in-Some-serve_page-clause-still
returns-in-Some-serve_page-clause-still g c = c.in-Some-serve_page.ensures.still

pub returns-in-Some-serve_page-clause-items : goal.returns-in-Some-serve_page-clause-items
returns-in-Some-serve_page-clause-items g c = c.in-Some-serve_page.ensures.items

pub returns-in-Some-serve_page-clause-keeps : goal.returns-in-Some-serve_page-clause-keeps
returns-in-Some-serve_page-clause-keeps g c = c.serve_page-in-Of2MiB.ensures.keeps

pub returns-in-Some-serve_page-clause-room : goal.returns-in-Some-serve_page-clause-room
returns-in-Some-serve_page-clause-room g c = c.serve_page-in-Of2MiB.ensures.room

pub returns-in-None-serve_page-clause-still : goal.returns-in-None-serve_page-clause-still
returns-in-None-serve_page-clause-still g c = c.in-None-serve_page.ensures.still

pub returns-in-None-serve_page-clause-items : goal.returns-in-None-serve_page-clause-items
returns-in-None-serve_page-clause-items g c = c.in-None-serve_page.ensures.items

pub returns-in-None-serve_page-clause-keeps : goal.returns-in-None-serve_page-clause-keeps
returns-in-None-serve_page-clause-keeps g c = c.serve_page-in-Of2MiB.ensures.keeps

pub returns-in-None-serve_page-clause-room : goal.returns-in-None-serve_page-clause-room
returns-in-None-serve_page-clause-room g c = c.serve_page-in-Of2MiB.ensures.room

pub returns-in-Some-serve_page-2-clause-still : goal.returns-in-Some-serve_page-2-clause-still
returns-in-Some-serve_page-2-clause-still g c = c.in-Some-serve_page-2.ensures.still

pub returns-in-Some-serve_page-2-clause-items : goal.returns-in-Some-serve_page-2-clause-items
returns-in-Some-serve_page-2-clause-items g c = c.in-Some-serve_page-2.ensures.items

pub returns-in-Some-serve_page-2-clause-keeps : goal.returns-in-Some-serve_page-2-clause-keeps
returns-in-Some-serve_page-2-clause-keeps g c = c.serve_page-in-Of1GiB.ensures.keeps

pub returns-in-Some-serve_page-2-clause-room : goal.returns-in-Some-serve_page-2-clause-room
returns-in-Some-serve_page-2-clause-room g c = c.serve_page-in-Of1GiB.ensures.room

pub returns-in-None-serve_page-2-clause-still : goal.returns-in-None-serve_page-2-clause-still
returns-in-None-serve_page-2-clause-still g c = c.in-None-serve_page-2.ensures.still

pub returns-in-None-serve_page-2-clause-items : goal.returns-in-None-serve_page-2-clause-items
returns-in-None-serve_page-2-clause-items g c = c.in-None-serve_page-2.ensures.items

pub returns-in-None-serve_page-2-clause-keeps : goal.returns-in-None-serve_page-2-clause-keeps
returns-in-None-serve_page-2-clause-keeps g c = c.serve_page-in-Of1GiB.ensures.keeps

pub returns-in-None-serve_page-2-clause-room : goal.returns-in-None-serve_page-2-clause-room
returns-in-None-serve_page-2-clause-room g c = c.serve_page-in-Of1GiB.ensures.room

pub returns-in-Translate-clause-still : goal.returns-in-Translate-clause-still
returns-in-Translate-clause-still g c = λ _. refl

pub returns-in-TranslateAddr-clause-still : goal.returns-in-TranslateAddr-clause-still
returns-in-TranslateAddr-clause-still g c = λ _. refl

pub returns-in-Translate-clause-room : goal.returns-in-Translate-clause-room
returns-in-Translate-clause-room g c = g.K.Tokens.fewer c.args.tokens.now

pub returns-in-TranslateAddr-clause-room : goal.returns-in-TranslateAddr-clause-room
returns-in-TranslateAddr-clause-room g c = g.K.Tokens.fewer c.args.tokens.now

pub returns-in-CleanUp-clause-room : goal.returns-in-CleanUp-clause-room
returns-in-CleanUp-clause-room g c = g.K.Tokens.fewer c.args.tokens.now

pub returns-in-CleanUpRange-clause-room : goal.returns-in-CleanUpRange-clause-room
returns-in-CleanUpRange-clause-room g c = g.K.Tokens.fewer c.args.tokens.now

pub returns-in-CleanUp-clause-still : goal.returns-in-CleanUp-clause-still
returns-in-CleanUp-clause-still g c = λ e. cc

pub returns-in-CleanUpRange-clause-still : goal.returns-in-CleanUpRange-clause-still
returns-in-CleanUpRange-clause-still g c = λ e. cc
