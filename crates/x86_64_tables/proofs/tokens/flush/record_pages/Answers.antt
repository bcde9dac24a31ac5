use Rattle.std.proofs.Common.{◌≡◌, ◌+◌, ◌*◌, ◌≤◌, ℕ, cond, length, [], ◌∷◌, ap, ◌∙◌, arith}
use Rattle.std.proofs.lemmas.Bool.{le-ltb}
use Rattle.std.proofs.lemmas.List.FromFn.{length-map-range_with_len}
use Rattle.x86_64_tables.specs.FlushRecorder.{page_item, page_items, range_items, flush_range}
use Rattle.x86_64_tables.specs.declared.tokens.recorder.FlushItem.TheVariants.{All}
use Rattle.x86_64_tables.specs.declared.tokens.flush.TheConstants.{MOST_PAGE_ITEMS}
use Rattle.x86_64_tables.proofs.tokens.flush.record_pages.Goals as goal

-- up to the limit there is one item for each page
items_few : (L size page count : ℕ) → count ≤ MOST_PAGE_ITEMS → length (range_items L size MOST_PAGE_ITEMS (flush_range page count)) ≡ count
items_few L size page count few = ap (λ b. length (cond b (All ∷ []) (page_items L size page count))) (le-ltb MOST_PAGE_ITEMS count few)
    ∙ length-map-range_with_len (λ k. page_item L (page + k * size) size) 0 count

pub returns-in_err-reserve-clause-succeeds : goal.returns-in_err-reserve-clause-succeeds
returns-in_err-reserve-clause-succeeds g c = λ room.
    let size = items_few g.L.LevelCount.LEVELS g.S.PageSize.SIZE c.args.page c.args.count c.if-count-gt-MOST_PAGE_ITEMS.false in
    absurd (omega (arith, size, room, c.in_err-reserve.ensures.needs_room))

pub returns-clause-room : goal.returns-clause-room
returns-clause-room g c =
    let size = items_few g.L.LevelCount.LEVELS g.S.PageSize.SIZE c.args.page c.args.count c.if-count-gt-MOST_PAGE_ITEMS.false in
    omega (arith, size, c.record_each.ensures.room, c.in_ok-reserve.ensures.kept)
