use Rattle.std.proofs.Common.{◌++◌, ◌/◌, Ok, ap, refl, subst}
use Rattle.x86_64_dump.specs.Opening.{OpensAs}
use Rattle.x86_64_dump.proofs.KernelTexts.{none_in_segment, pages_of}
use Rattle.x86_64_dump.proofs.memory_search.add_segment.Goals as goal

pub returns-then-pages-eq0-clause-texts : goal.returns-then-pages-eq0-clause-texts
returns-then-pages-eq0-clause-texts g c known =
    let file = g.S.ByteSource.bytes c.args.source.now in
    let all = pages_of file c.args.segment.now _ c.args.size _ _ (g.met.S.ByteSource.counted known c.args.source.now) c.requires.size refl (ap (λ n. n / 4096) c.saturating_sub-pages.ensures) in
    none_in_segment file c.args.segment.now _ _ c.args.texts.now.items all c.if-pages-eq0.true

pub returns-clause-texts : goal.returns-clause-texts
returns-clause-texts g c known =
    let file = g.S.ByteSource.bytes c.args.source.now in
    let all = pages_of file c.args.segment.now _ c.args.size _ _ (g.met.S.ByteSource.counted known c.args.source.now) c.requires.size refl (ap (λ n. n / 4096) c.saturating_sub-pages.ensures) in
    subst (λ ts. OpensAs g.S.ByteSource.may_fail (λ _. c.add_pages.new.texts.items) c.add_pages.result (Ok (c.args.texts.now.items ++ ts))) all (c.add_pages.ensures.texts known)
