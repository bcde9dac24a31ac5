use Rattle.std.proofs.Common.{length, ap, subst, Ok}
use Rattle.x86_64_dump.specs.Opening.{OpensAs}
use Rattle.x86_64_dump.specs.KernelTexts.{texts_within}
use Rattle.x86_64_dump.proofs.dump.Dump.kernel_texts.Goals as goal

pub returns : goal.returns
returns g c known =
    let file = g.S.ByteSource.bytes c.args.self.now.source in
    subst (λ texts. OpensAs g.S.ByteSource.may_fail (λ v. v.items) c.read_texts-texts.result (Ok texts)) (ap (texts_within (length file) file) c.deref.ensures.value) (c.read_texts-texts.ensures known)
