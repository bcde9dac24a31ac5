use Rattle.std.proofs.Common.{sym, ◌∙◌, subst}
use Rattle.x86_64_c.specs.AddressSpaces.{MakesSpace}
use Rattle.x86_64_c.specs.PoolCalls.{loan}
use Rattle.x86_64_c.proofs.SpaceArguments.{refused_new}
use Rattle.x86_64_c.proofs.SpaceResults.{makes_none, makes_space}
use Rattle.x86_64_c.proofs.address_spaces.x64_new_space.Goals as goal

pub returns-in-Err : goal.returns-in-Err
returns-in-Err g c =
    refused_new g.own c.args.template_space.now c.args.tables.now _ c.args.pool.now _ c.args.free_count.now c.args.shared_from c.args.shared_to c.in-Err.status
    c.in-Err.ensures.unchanged.0 c.in-Err.ensures.unchanged.1 c.args.root.now c.in-Err.ensures.bad

pub returns-in-Some : goal.returns-in-Some
returns-in-Some g c =
    let h = c.args.template_space.now in let from = c.args.shared_from in let to = c.args.shared_to in
    let lent = loan c.args.tables.now c.args.pool.now c.args.free_count.now in
    let after = loan c.enter.new.tables c.enter.new.array c.in-Ok.made.free_count in
    let made = rw (c.of.ensures, c.in-Some.is) at c.in-Ok.ensures.does in
    subst (λ root. MakesSpace g.own h lent from to 0 c.args.root.now after root) (sym (c.as_u64.ensures.value ∙ c.start_address.ensures.value))
    (makes_space g.own h lent after c.requires.room made.room from to c.args.root.now c.in-Some.frame c.in-Ok.ensures.good (c.requires.fits c.in-Ok.ensures.good) made)

pub returns-in-None : goal.returns-in-None
returns-in-None g c =
    let none = rw c.in-None.is at c.in-Ok.ensures.does in
    makes_none g.own c.args.template_space.now c.args.tables.now _ c.args.pool.now _ c.args.free_count.now _ c.args.shared_from c.args.shared_to none.1 none.2 none.3 c.args.root.now none.0 c.in-Ok.ensures.good
