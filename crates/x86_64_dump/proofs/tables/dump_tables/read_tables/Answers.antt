use Rattle.std.specs.Prelude.{Vec}
use Rattle.std.specs.declared.alloc.Global.{Global}
use Rattle.std.proofs.Common.{◌≡◌, List, ℕ, refl, ◌∙◌, sym, ap, subst}
use Rattle.x86_64_dump.specs.Dump.{words_of_dump}
use Rattle.x86_64_dump.specs.Opened.{holds, opened}
use Rattle.x86_64_model.specs.Memory.{words_of, identity_places}
use Rattle.x86_64_dump.specs.Loaded.{HoldsTables, frames_of}
use Rattle.x86_64_dump.specs.Tables.{tables_by_level, words_in_frames}
use Rattle.x86_64_dump.specs.private.FrameNumbers.{AreAllHeld}
use Rattle.x86_64_dump.proofs.Closed.{same_below_root}
use Rattle.x86_64_dump.proofs.SameMappings.{same_mappings, same_walks}
use Rattle.x86_64_dump.proofs.tables.dump_tables.read_tables.Given.{Over}
use Rattle.x86_64_dump.proofs.tables.dump_tables.read_tables.Goals as goal
use Rattle.x86_64_dump.proofs.tables.dump_tables.read_tables.Goals.{After-read_memory}

-- the frames whose tables are read
levels : (g : Over) (c : After-read_memory g) → g.S.ByteSource.IsKnown
    → frames_of c.deref.result.now ≡ tables_by_level g.L.LevelCount.LEVELS (words_of_dump (opened g.S.ByteSource.bytes c.args.dump.now)) c.args.root
levels g c known = ap frames_of c.deref.ensures.value ∙ c.in_ok-frames.ensures.frames known
    ∙ ap (λ n. tables_by_level n (words_of_dump (opened g.S.ByteSource.bytes c.args.dump.now)) c.args.root) c.LEVELS.ensures

pub read_memory-requires-clause-there : goal.read_memory-requires-clause-there
read_memory-requires-clause-there g c =
    let There : List (Vec ℕ Global) → Type 0 = AreAllHeld (holds g.S.ByteSource.size c.args.dump.now) in
    subst There (sym c.deref.ensures.value) c.in_ok-frames.ensures.there

pub returns-clause-same : goal.returns-clause-same
returns-clause-same g c known =
    let W = words_of_dump (opened g.S.ByteSource.bytes c.args.dump.now) in
    same_below_root g.L.LevelCount.LEVELS W c.args.root (words_of c.in_ok-memory.memory identity_places) ((c.in_ok-memory.ensures.tables known).words
    ∙ ap (λ frames. words_in_frames frames W) (levels g (goal.at.returns-clause-same g c).After-read_memory known))

pub returns-clause-mappings : goal.returns-clause-mappings
returns-clause-mappings g c known =
    let W = words_of_dump (opened g.S.ByteSource.bytes c.args.dump.now) in
    same_mappings g.L.LevelCount.LEVELS (words_of c.in_ok-memory.memory identity_places) W c.args.root (returns-clause-same g c known)

pub returns-clause-walks : goal.returns-clause-walks
returns-clause-walks g c known p =
    let W = words_of_dump (opened g.S.ByteSource.bytes c.args.dump.now) in
    same_walks g.L.LevelCount.LEVELS (words_of c.in_ok-memory.memory identity_places) W c.args.root p (returns-clause-same g c known)

pub returns-clause-count : goal.returns-clause-count
returns-clause-count g c known =
    let W = words_of_dump (opened g.S.ByteSource.bytes c.args.dump.now) in
    let Holds : List (List ℕ) → Type 0 = λ frames. HoldsTables frames W c.in_ok-memory.memory in
    (c.in_ok-memory.memory, subst Holds (levels g (goal.at.returns-clause-count g c).After-read_memory known) (c.in_ok-memory.ensures.tables known), refl)

pub returns-in_err-frames-clause-counted : goal.returns-in_err-frames-clause-counted
returns-in_err-frames-clause-counted g c = (0, g.met.G.Progress.none c.args.progress.now)
