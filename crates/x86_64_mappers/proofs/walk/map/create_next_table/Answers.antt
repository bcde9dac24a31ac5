use Rattle.std.proofs.Common.{◌≡◌, ◌<◌, ℕ, Bool, List, if◌then◌else◌, Result, Ok, Err, inl, inr, bit_or, refl, sym, ap, ◌∙◌, subst, true, false, arith, get_or, length}
use Rattle.std.proofs.lemmas.List.{get_or_read}
use Rattle.x86_64_model.specs.Entry.{address, huge, used}
use Rattle.x86_64_model.specs.Layout.{Layout}
use Rattle.x86_64_model.specs.Hierarchy.{◌laid_in◌, words}
use Rattle.x86_64_model.specs.Memory.{Memory, Places, word}
use Rattle.x86_64_model.specs.Refusal.{Refusal, ParentEntryHugePage}
use Rattle.x86_64_mappers.specs.private.Writes.{IsSet, IsTableMade, word_in_frame}
use Rattle.x86_64_mappers.proofs.Memory.EntryWrites.{unchanged, supply_first, supply_empty}
use Rattle.x86_64_mappers.proofs.Map.Linking.{may_still, taken_linked}
use Rattle.x86_64_mappers.proofs.Map.OpenWays.{open_reached, may_link}
use Rattle.x86_64_mappers.proofs.walk.map.create_next_table.Goals as goal

used_made : (places : Places) (m : Memory) (supply : List ℕ) (more added table index : ℕ) (n : Memory) → used (word_in_frame places m table index) ≡ true
    → IsSet places m table index (bit_or (word_in_frame places m table index) more) n → (is_huge : Bool) → huge (word_in_frame places m table index) ≡ is_huge
    → IsTableMade places more added m supply table index (if is_huge then Err ParentEntryHugePage else Ok (address (word_in_frame places m table index))) n supply
used_made places m supply more added table index n u set true is = (record { is_used = u; is_set = set }, is, refl)
used_made places m supply more added table index n u set false is = inl (record { is_used = u; is_set = set }, is, refl, refl)

marked_made : (places : Places) (m : Memory) (supply : List ℕ) (more added table j i entry new : ℕ) (made : Result ℕ Refusal) (n : Memory) → j ≡ i
    → entry ≡ word_in_frame places m table j → used entry ≡ true → made ≡ (if huge entry then Err ParentEntryHugePage else Ok (address entry))
    → new ≡ bit_or entry more → IsSet places m table j new n → IsTableMade places more added m supply table i made n supply
marked_made places m supply more added table j i entry new made n item is u names marked set =
    let here = word_in_frame places m table j in
    let named = names ∙ ap (λ e. if huge e then Err ParentEntryHugePage else Ok (address e)) is in
    let wrote = subst (λ w. IsSet places m table j w n) (marked ∙ ap (λ e. bit_or e more) is) set in
    subst (λ i. IsTableMade places more added m supply table i made n supply) item
    (subst (λ made. IsTableMade places more added m supply table j made n supply) (sym named)
    (used_made places m supply more added table j n (ap used (sym is) ∙ u) wrote (huge here) refl))

pub returns-then-not-is_unused-clause-made : goal.returns-then-not-is_unused-clause-made
returns-then-not-is_unused-clause-made g c =
    let l = (g.M.Tables.hierarchy c.args.mapper.now).layout in
    let m = (g.M.Tables.hierarchy c.args.mapper.now).memory in
    let j = c.index-parents-k.result in
    let entry = c.entry_mut-entry in
    let new = c.mark_parent.new.entry in
    let item = get_or_read c.args.parents.now c.args.k j c.requires.within c.index-parents-k.is 0 in
    let u : used entry.result.now ≡ true = (let e = c.is_unused.ensures in let t = c.if-not-is_unused.true in grind arith) in
    record {
      is = marked_made l.places m _ c.args.parent_flags.0 l.added_flags c.args.table j _ entry.result.now new _ _ item entry.ensures.value u
          c.mark_parent.ensures.names c.mark_parent.ensures.marked (entry.ensures.set new);
      serves = refl;
    }

pub entry_mut-entry-requires-clause-reached : goal.entry_mut-entry-requires-clause-reached
entry_mut-entry-requires-clause-reached g c =
    let s = c.args.mapper.now in
    open_reached (g.M.Tables.hierarchy s).layout (g.M.Tables.hierarchy s).memory c.requires.ready.valid c.args.parent_flags.0 c.args.parents.now c.requires.outside
    c.args.k (omega (arith, c.requires.within)) c.args.table c.requires.way

pub returns-in_default-clause-made : goal.returns-in_default-clause-made
returns-in_default-clause-made g c =
    let s = c.args.mapper.now in
    let l = (g.M.Tables.hierarchy s).layout in
    let m = (g.M.Tables.hierarchy s).memory in
    let i = c.index-parents-k.result in
    let item = get_or_read c.args.parents.now c.args.k i c.requires.within c.index-parents-k.is 0 in
    let entry = c.entry_mut-entry in
    let u : used entry.result.now ≡ false = (let e = c.is_unused.ensures in let t = c.if-not-is_unused.false in grind arith) in
    let empty = supply_empty (g.A.FrameAllocator.supply c.args.frame_allocator.now) (sym c.in_default.ensures.first) in
    record {
      is = (
        ap (λ i. used (word (words (l laid_in m)) c.args.table i)) (sym item) ∙ ap used (sym entry.ensures.value) ∙ u,
        empty,
        unchanged l.places m c.args.table i entry.result.now entry.ensures.value _ (g.met.M.Tables.is_mapping s).distinct entry.ensures.index (entry.ensures.set _),
        (rw empty at c.in_default.ensures.rest),
      );
      serves = c.in_default.ensures.serves;
    }

pub link_table-requires-clause-may : goal.link_table-requires-clause-may
link_table-requires-clause-may g c =
    let s = c.args.mapper.now in
    let l = (g.M.Tables.hierarchy s).layout in
    let m = (g.M.Tables.hierarchy s).memory in
    let q = c.args.parents.now in
    let k = c.args.k in
    let f = c.in-Some.frame in
    let i = c.index-parents-k.result in
    let entry = c.entry_mut-entry in
    let apart = (g.met.M.Tables.is_mapping s).distinct in
    let item = get_or_read q k i c.requires.within c.index-parents-k.is 0 in
    let unmoved = unchanged l.places m c.args.table i entry.result.now entry.ensures.value _ apart entry.ensures.index (entry.ensures.set _) in
    let u : used entry.result.now ≡ false = (let e = c.is_unused.ensures in let t = c.if-not-is_unused.false in grind arith) in
    let kept = g.met.M.TableAccess.keeps_layout s c.args.table _ in
    let flags = c.union-flags.ensures tt ∙ ap (bit_or c.args.parent_flags.0) (c.new_table_flags.ensures ∙ ap (λ (l : Layout). l.added_flags) kept) in
    let first = supply_first _ _ f c.in-Some.ensures.first c.in-Some.ensures.rest in
    may_still l _ kept m _ unmoved q k c.args.table f c.union-flags.result.0 _ flags
    (may_link l apart (g.M.Tables.added_flags s).adds m (g.A.FrameAllocator.supply c.args.frame_allocator.now) c.requires.ready q c.requires.outside c.requires.short
    c.args.parent_flags.0 c.requires.flags k c.requires.within c.args.table c.requires.way (subst (λ i. i < 512) item entry.ensures.index)
    (ap (λ i. used (word (words (l laid_in m)) c.args.table i)) (sym item) ∙ ap used (sym entry.ensures.value) ∙ u) f (rw first (inl refl)))

pub returns-clause-made : goal.returns-clause-made
returns-clause-made g c =
    let s = c.args.mapper.now in
    let l = (g.M.Tables.hierarchy s).layout in
    let m = (g.M.Tables.hierarchy s).memory in
    let i = c.index-parents-k.result in
    let entry = c.entry_mut-entry in
    let f = c.in-Some.frame in
    let n = (g.M.Tables.hierarchy c.link_table.new.mapper).memory in
    let item = get_or_read c.args.parents.now c.args.k i c.requires.within c.index-parents-k.is 0 in
    let unmoved = unchanged l.places m c.args.table i entry.result.now entry.ensures.value _ (g.met.M.Tables.is_mapping s).distinct entry.ensures.index (entry.ensures.set _) in
    let u : used entry.result.now ≡ false = (let e = c.is_unused.ensures in let t = c.if-not-is_unused.false in grind arith) in
    let kept = g.met.M.TableAccess.keeps_layout s c.args.table _ in
    let flags = c.union-flags.ensures tt ∙ ap (bit_or c.args.parent_flags.0) (c.new_table_flags.ensures ∙ ap (λ (l : Layout). l.added_flags) kept) in
    record {
      is = inr (taken_linked l _ kept m _ unmoved _ _ c.args.table (get_or c.args.parents.now c.args.k 0) c.union-flags.result.0 _ f flags n
          (ap (λ i. used (word (words (l laid_in m)) c.args.table i)) (sym item) ∙ ap used (sym entry.ensures.value) ∙ u)
          (supply_first _ _ f c.in-Some.ensures.first c.in-Some.ensures.rest) c.link_table.ensures.linked);
      serves = c.in-Some.ensures.serves;
    }

pub returns-then-not-is_unused-clause-index : goal.returns-then-not-is_unused-clause-index
returns-then-not-is_unused-clause-index g c = subst (λ i. i < 512) (get_or_read c.args.parents.now c.args.k c.index-parents-k.result c.requires.within c.index-parents-k.is 0) c.entry_mut-entry.ensures.index

pub returns-then-not-is_unused-clause-layout : goal.returns-then-not-is_unused-clause-layout
returns-then-not-is_unused-clause-layout g c = g.met.M.TableAccess.keeps_layout c.args.mapper.now c.args.table _

pub returns-in_default-clause-index : goal.returns-in_default-clause-index
returns-in_default-clause-index g c = subst (λ i. i < 512) (get_or_read c.args.parents.now c.args.k c.index-parents-k.result c.requires.within c.index-parents-k.is 0) c.entry_mut-entry.ensures.index

pub returns-in_default-clause-layout : goal.returns-in_default-clause-layout
returns-in_default-clause-layout g c = g.met.M.TableAccess.keeps_layout c.args.mapper.now c.args.table _

pub link_table-requires-clause-short : goal.link_table-requires-clause-short
link_table-requires-clause-short g c = subst (λ (l : Layout). length c.args.parents.now < l.levels) (sym (g.met.M.TableAccess.keeps_layout c.args.mapper.now c.args.table _)) c.requires.short

pub returns-clause-index : goal.returns-clause-index
returns-clause-index g c = subst (λ i. i < 512) (get_or_read c.args.parents.now c.args.k c.index-parents-k.result c.requires.within c.index-parents-k.is 0) c.entry_mut-entry.ensures.index

pub returns-clause-layout : goal.returns-clause-layout
returns-clause-layout g c = c.link_table.ensures.layout ∙ g.met.M.TableAccess.keeps_layout c.args.mapper.now c.args.table _
