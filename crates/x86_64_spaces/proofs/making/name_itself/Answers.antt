use Rattle.std.proofs.Common.{◌≡◌, ap, ap₂, sym, ◌∙◌, subst, List, ℕ, bit_or}
use Rattle.std.specs.Prelude.{slice_set}
use Rattle.std.proofs.lemmas.Option.{same_Some}
use Rattle.x86_64_model.specs.Entry.{huge, has}
use Rattle.x86_64_spaces.specs.private.Writes.{Stores, with_self_entry}
use Rattle.x86_64_spaces.proofs.Stored.{stores}
use Rattle.x86_64_spaces.proofs.making.name_itself.Goals as goal

pub set_frame-requires : goal.set_frame-requires
unfolding has
set_frame-requires g c = ap huge (c.union-flags.ensures tt)

pub returns-in-Some-clause-written : goal.returns-in-Some-clause-written
returns-in-Some-clause-written g c table at =
    let m = g.T.TableMemory.tables c.args.memory.now in
    let lent = c.table_at_mut.result.now in
    let written = slice_set lent c.from.result c.set_frame.new.self in
    let same : table ≡ lent = same_Some table lent (sym at ∙ c.table_at_mut.ensures.value) in
    let word : c.set_frame.new.self ≡ bit_or c.args.root 3 = c.set_frame.ensures ∙ ap (bit_or c.args.root) (c.union-flags.ensures tt) in
    subst (λ (t : List ℕ). Stores m c.args.place t (g.T.TableMemory.tables (g.T.TableMemory.with_table c.args.memory.now c.args.place written)))
    (ap₂ (λ t i. slice_set t i c.set_frame.new.self) (sym same) c.from.ensures.0 ∙ ap (slice_set table c.in-Some.index) word
    ∙ ap (λ o. with_self_entry o c.args.root table) (sym c.in-Some.is))
    (stores m (g.T.TableMemory.tables (g.T.TableMemory.with_table c.args.memory.now c.args.place written)) c.args.place written
    (g.met.T.TableMemory.puts c.args.memory.now c.args.place written c.requires))
