use Rattle.std.proofs.Common.{◌≡◌, ℕ, List, length, map, ◌∙◌, sym, ap, subst}
use Rattle.std.specs.FinMap.{len}
use Rattle.x86_64_dump.specs.Dump.{words_of_dump}
use Rattle.x86_64_dump.specs.Opened.{holds, opened}
use Rattle.x86_64_dump.specs.Loaded.{frames_of, up_to}
use Rattle.x86_64_dump.specs.private.FrameNumbers.{words_numbered, AreHeldBy, HoldsFor}
use Rattle.x86_64_model.specs.Memory.{Memory}
use Rattle.x86_64_dump.proofs.Frames.{no_frame}
use Rattle.x86_64_dump.proofs.Held.{all_held}
use Rattle.x86_64_dump.proofs.Places.{all_there, places_below, places_counted, tables_held, words_filled}
use Rattle.x86_64_dump.proofs.tables.loading.read_memory.Goals as goal

pub tables_of-requires-clause-there : goal.tables_of-requires-clause-there
tables_of-requires-clause-there g c =
    let has = holds g.S.ByteSource.size c.args.dump.now in
    let Held : List ℕ → Type 0 = AreHeldBy has in
    subst Held (sym c.deref.ensures.value)
    (all_there has c.in_ok-numbers.numbers.items (frames_of c.args.frames.now) c.in_ok-numbers.ensures.below c.in_ok-numbers.ensures.numbers (all_held has c.args.frames.now c.requires.there))

pub returns-clause-tables : goal.returns-clause-tables
returns-clause-tables g c known =
    let W = words_of_dump (opened g.S.ByteSource.bytes c.args.dump.now) in
    let numbers = c.in_ok-numbers.numbers.items in
    let Holds : Memory → Type 0 = HoldsFor numbers (words_numbered W) in
    let held = subst Holds (sym c.in-Some.ensures.1)
    (tables_held (words_numbered W) numbers c.in_ok-tables.tables.items (c.in_ok-tables.ensures.tables known ∙ ap (map (words_numbered W)) c.deref.ensures.value)) in
    record {
      words = words_filled W numbers c.in-Some.memory (frames_of c.args.frames.now) (no_frame (opened g.S.ByteSource.bytes c.args.dump.now)) c.in_ok-numbers.ensures.numbers held;
      places = places_below numbers (words_numbered W) c.in-Some.memory c.in_ok-numbers.ensures.below held;
    }

pub returns-clause-told : goal.returns-clause-told
returns-clause-told g c =
    let numbers = c.in_ok-numbers.numbers.items in
    let Told : ℕ → Type 0 = λ n. g.G.Progress.Told c.args.progress.now c.tables_of.new.progress (up_to n) in
    let count : length c.in_ok-tables.tables.items ≡ length numbers = c.in_ok-tables.ensures.count ∙ ap length c.deref.ensures.value in
    subst Told (ap length c.deref.ensures.value ∙ sym (ap len c.in-Some.ensures.1 ∙ places_counted numbers c.in_ok-tables.tables.items c.in_ok-numbers.ensures.increasing count))
    c.in_ok-tables.ensures.told

pub returns-in_err-numbers-clause-counted : goal.returns-in_err-numbers-clause-counted
returns-in_err-numbers-clause-counted g c = (0, g.met.G.Progress.none c.args.progress.now)
