use Rattle.std.proofs.Common.{◌++◌, ◌∷◌, [], ℕ, List, sym, subst, inl, inr, map, take, get_or, rules}
use Rattle.std.proofs.lemmas.List.{map_more}
use Rattle.std.proofs.lemmas.Slice.Zip.{all_zipped_more}
use Rattle.std.specs.Borrow.{Bor}
use Rattle.x86_64_dump.specs.declared.placement.RawRange.{RawRange}
use Rattle.ptdump.specs.Placements.{AreRanges, IsRawRange}
use Rattle.ptdump.specs.Reasons.{IsNoRange}
use Rattle.ptdump.specs.Requests.{IsUnreadArgument}
use Rattle.ptdump.proofs.RangeTexts.{range_at}
use Rattle.ptdump.proofs.Reasons.{no_range_at}
use Rattle.ptdump.proofs.placement.ranges_of.Goals as goal

nothing : Bor (List ℕ)
nothing = record { ref_ptr = (0, 0); now = [] }

pub loop-text-preserved : goal.loop-text-preserved
unfolding nothing
loop-text-preserved c =
    let text = (get_or c.args.texts.now c.loop-text.text-index nothing).now in
    let before = map (λ (text : Bor (List ℕ)). text.now) (take c.loop-text.text-index c.args.texts.now) in
    let texts = map_more (λ (text : Bor (List ℕ)). text.now) c.args.texts.now c.loop-text.text-index nothing c.loop-text-test.true in
    subst (λ (ts : List (List ℕ)). AreRanges ts c.push.new.self.items) (sym texts)
    (subst (λ (rs : List RawRange). AreRanges (before ++ text ∷ []) rs) (sym c.in_ok-push.ensures.items)
    (all_zipped_more IsRawRange before c.loop-text.ranges.items text c.in_ok-range_of.field-0 c.loop-text.invariant c.in_ok-range_of.ensures.ok))

pub returns-in_err-range_of-clause-err : goal.returns-in_err-range_of-clause-err
unfolding nothing
returns-in_err-range_of-clause-err c =
    let unread : IsUnreadArgument (AreRanges (map (λ (text : Bor (List ℕ)). text.now) c.args.texts.now)) c.in_err-range_of.field-0.0 =
    elim c.in_err-range_of.ensures.err [
      | inl memory ↦ inl memory
      | inr none ↦ inr (λ ranges are. let found = range_at c.args.texts.now ranges c.loop-text.text-index nothing c.loop-text-test.true are in none found.0 found.1)
    ] in
    search (rules, unread)

pub returns-in_err-range_of-clause-reason : goal.returns-in_err-range_of-clause-reason
unfolding nothing
returns-in_err-range_of-clause-reason c =
    let reason : IsNoRange (map (λ (text : Bor (List ℕ)). text.now) c.args.texts.now) c.in_err-range_of.field-0.0 =
    no_range_at c.args.texts.now c.loop-text.text-index nothing c.in_err-range_of.field-0.0 c.loop-text-test.true c.in_err-range_of.ensures.reason c.in_err-range_of.ensures.err in
    search (rules, reason)
