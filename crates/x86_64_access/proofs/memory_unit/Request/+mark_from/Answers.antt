use Rattle.std.proofs.Common.{rules, ◌≡◌, ◌<◌, ◌-◌, true, false, None, Some, arith}
use Rattle.x86_64_model.proofs.Lemmas.Entries.Words.{address_aligned}
use Rattle.x86_64_model.specs.Mappings.{maps_page}
use Rattle.x86_64_model.specs.Memory.{words_of}
use Rattle.x86_64_model.specs.Position.{index}
use Rattle.x86_64_model.specs.PageWalk.{read}
use Rattle.x86_64_model.specs.Access.{bits_to_set, marked, set_bits, steps_from}
use Rattle.x86_64_model.specs.Entry.{address}
use Rattle.x86_64_access.specs.Accesses.{access_of, controls_of, access_kind}
use Rattle.x86_64_access.proofs.Walked.{arrives_below, marks_page, marks_table, none_arrives, table_high}
use Rattle.x86_64_access.proofs.memory_unit.Request.+mark_from.Goals as goal
use Rattle.x86_64_access.proofs.memory_unit.Request.+mark_from.Goals.{then-not-maps_page, else-not-maps_page}

pub returns-in_default-clause-marks : goal.returns-in_default-clause-marks
returns-in_default-clause-marks g t c =
    let words = words_of (g.T.TableMemory.tables c.args.memory.now) (g.P.PageTableFrameMapping.places c.args.mapping.now) in
    let controls = controls_of c.args.self.controls in
    let asked = access_of c.args.self.access in
    let level = c.args.level in
    let none : None ≡ read words c.args.frame (index level c.args.position) = search rules in
    absurd (none_arrives controls words c.args.position asked level c.args.frame c.requires.low c.requires.arrives none)

pub from_start_address_unchecked-below-requires : goal.from_start_address_unchecked-below-requires
from_start_address_unchecked-below-requires g t c = rw c.addr.ensures (address_aligned c.index-entry.result.now)

pub mark_from-requires : goal.mark_from-requires
mark_from-requires g t c κs within =
    let words = words_of (g.T.TableMemory.tables c.args.memory.now) (g.P.PageTableFrameMapping.places c.args.mapping.now) in
    let controls = controls_of c.args.self.controls in
    let asked = access_of c.args.self.access in
    let level = c.args.level in
    let e = c.index-entry.result.now in
    let is : Some e ≡ read words c.args.frame (index level c.args.position) = search rules in
    let table : maps_page level e ≡ false = search rules in
    let d : level ≡ t = c.decreases in
    let more : 1 < level = table_high level e c.requires.low table in
    let less : level - 1 < t = omega (arith, d, more) in
    let there = arrives_below controls words c.args.position asked level c.args.frame e c.requires.low is c.requires.arrives table in
    rw (c.from_start_address_unchecked-below.ensures, c.addr.ensures)
    (less, (within.0, (within.1, (omega (arith, more), (omega (arith, c.requires.high), there)))))

pub returns-clause-marks : goal.returns-clause-marks
returns-clause-marks g t c =
    let words = words_of (g.T.TableMemory.tables c.args.memory.now) (g.P.PageTableFrameMapping.places c.args.mapping.now) in
    let controls = controls_of c.args.self.controls in
    let asked = access_of c.args.self.access in
    let level = c.args.level in
    let e = c.index-entry.result.now in
    let is : Some e ≡ read words c.args.frame (index level c.args.position) = search rules in
    let places = g.P.PageTableFrameMapping.places c.args.mapping.now in
    let kind = access_kind c.args.self.access.kind in
    let old = g.T.TableMemory.tables c.args.memory.now in
    let new = g.T.TableMemory.tables c.set_bits.new.memory in
    elim c.if-not-maps_page.branch [
      | then-not-maps_page w ↦
          let table : maps_page level e ≡ false = search rules in
          let set : new ≡ set_bits places c.args.frame (index level c.args.position) (bits_to_set kind level e) (g.T.TableMemory.tables w.mark_from.new.memory) = search rules in
          let under : g.T.TableMemory.tables w.mark_from.new.memory ≡ marked places kind (steps_from controls words c.args.position (level - 1) (address e)) old = search rules in
          marks_table controls words c.args.position asked level c.args.frame e c.requires.low is places kind old new
          (g.T.TableMemory.tables w.mark_from.new.memory) c.requires.arrives table under set
      | else-not-maps_page w ↦
          let page : maps_page level e ≡ true = search rules in
          let set : new ≡ set_bits places c.args.frame (index level c.args.position) (bits_to_set kind level e) old = search rules in
          marks_page controls words c.args.position asked level c.args.frame e c.requires.low is places kind old new page set
    ]
