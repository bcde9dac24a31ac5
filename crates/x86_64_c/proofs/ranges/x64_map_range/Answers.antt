use Rattle.std.proofs.Common.{◌≡◌, ◌∙◌, ℕ, List, Some, None, refl, sym, ap, subst₂, unwrap_or}
use Rattle.x86_64_c.specs.PoolCalls.{loan}
use Rattle.x86_64_c.specs.Ranges.{MapsWith, bad_map_range}
use Rattle.x86_64_c.specs.declared.arguments.Hierarchy.{Hierarchy}
use Rattle.x86_64_c.specs.declared.arguments.MapRequest.{MapRequest}
use Rattle.x86_64_c.proofs.RangeResults.{maps_with}
use Rattle.x86_64_c.proofs.ranges.x64_map_range.Goals as goal

-- a call that is refused for an argument
refused : (own : List ℕ) (h : Hierarchy) (ts us : List (List ℕ)) (array left : List ℕ) (free : ℕ) (request : MapRequest) (count was status : ℕ)
    → bad_map_range h (loan ts array free) request count ≡ Some status → us ≡ ts → left ≡ array → MapsWith own h (loan ts array free) request count
    was status (loan us left free) was
refused own h ts us array left free request count was status wrong tables same =
    subst₂ (λ us left. MapsWith own h (loan ts array free) request count was status (loan us left free) was) (sym tables) (sym same) (record {
      bad = λ why is. let same : Some status ≡ Some why = sym wrong ∙ is in (cc, refl, refl);
      refused = λ good. absurd (let z : None ≡ Some status = sym good ∙ wrong in cc);
      maps = λ good. absurd (let z : None ≡ Some status = sym good ∙ wrong in cc);
      room = refl;
      in_array = λ within. within;
    })

pub returns-in-Err : goal.returns-in-Err
returns-in-Err g c =
    refused g.own c.args.hierarchy.now c.args.tables.now c.enter.new.tables c.args.pool.now c.enter.new.array c.args.free_count.now c.args.request.now
    c.args.count c.args.done.now c.in-Err.status
    c.in-Err.ensures.bad c.in-Err.ensures.unchanged.0 c.in-Err.ensures.unchanged.1

pub returns-in-Some : goal.returns-in-Some
returns-in-Some g c =
    maps_with g.own c.args.hierarchy.now c.args.tables.now c.enter.new.tables c.args.pool.now c.enter.new.array c.args.free_count.now
    c.args.request.now c.args.count c.args.done.now
    c.in-Ok.mapped.free_count c.in-Ok.mapped.out c.in-Some.number c.in-Ok.ensures.good (rw c.of.ensures at c.in-Ok.ensures.does)
    (sym (ap (λ o. unwrap_or o c.args.done.now) c.in-Some.is))

pub returns-in_default : goal.returns-in_default
returns-in_default g c =
    let none : c.in-Ok.mapped.out.done ≡ None = c.in_default.is in
    maps_with g.own c.args.hierarchy.now c.args.tables.now c.enter.new.tables c.args.pool.now c.enter.new.array c.args.free_count.now
    c.args.request.now c.args.count c.args.done.now
    c.in-Ok.mapped.free_count c.in-Ok.mapped.out c.args.done.now c.in-Ok.ensures.good (rw c.of.ensures at c.in-Ok.ensures.does) (sym (ap (λ o. unwrap_or o c.args.done.now) none))

pub enter-requires : goal.enter-requires
enter-requires g c = λ right. (rw c.of.ensures c.requires.room, rw c.of.ensures (c.requires.fits right))
