-- Why runs fail.
use Rattle.std.proofs.Common.{◌≡◌, ◌||◌, Bool, true, false, true≢false, Result, Ok, Err, refl, sym, ap}
use Rattle.x86_64_dump.specs.Opening.{Fails}
use Rattle.x86_64_dump.specs.declared.error.DumpError.{DumpError}
use Rattle.x86_64_dump.specs.declared.error.DumpError.TheVariants as errors
use Rattle.x86_64_dump.specs.declared.error.Fault.{Fault}
use Rattle.ptdump_engine.specs.Failure.{failure_of}
use Rattle.ptdump_engine.specs.Steps.{FailsBy, MayBeForced, and_then, of_dump}
use Rattle.ptdump_engine.specs.declared.failure.Failure.{Failure}
use Rattle.ptdump_engine.specs.declared.failure.Failure.TheVariants as failures

-- a failure of a step that writes nothing remains after further steps
pub fails_then : {A B : Type 0} (fails may : Bool) (failure : Failure) (found : Result A Failure) (next : A → Result B Failure) → FailsBy fails false failure found
    → FailsBy fails may failure (and_then found next)
fails_then fails may failures.OutOfMemory found next is = tt
fails_then fails may failures.Output found next is = absurd (true≢false (sym is))
fails_then fails may failures.NoCr3 found next is = ap (λ r. and_then r next) is
fails_then fails may failures.VirtualBox found next is = ap (λ r. and_then r next) is
fails_then fails may (failures.NoProcessor cpu count) found next is = ap (λ r. and_then r next) is
fails_then fails may failures.NoProcessors found next is = ap (λ r. and_then r next) is
fails_then fails may (failures.WrongMode cpu mode) found next is = ap (λ r. and_then r next) is
fails_then fails may (failures.NotCanonical address levels) found next is = ap (λ r. and_then r next) is
fails_then fails may (failures.NotPhysical address) found next is = ap (λ r. and_then r next) is
fails_then fails may (failures.FromAboveTo from to) found next is = ap (λ r. and_then r next) is
fails_then fails may (failures.DirectMapReversed first last) found next is = ap (λ r. and_then r next) is
fails_then fails may (failures.NoRoot root) found next is = ap (λ r. and_then r next) is
fails_then fails may (failures.Dump fault) found next is = ap (λ r. and_then r next) is
fails_then fails may (failures.Read error) found next is = is

-- failures of memory allocation are always allowed, those of reads and writes if these may fail
pub forced_fails : {A : Type 0} (fails may : Bool) (failure : Failure) (found : Result A Failure) → MayBeForced fails may failure → FailsBy fails may failure found
forced_fails fails may failures.OutOfMemory found is = tt
forced_fails fails may failures.Output found is = is
forced_fails fails may failures.NoCr3 found is = absurd is
forced_fails fails may failures.VirtualBox found is = absurd is
forced_fails fails may (failures.NoProcessor cpu count) found is = absurd is
forced_fails fails may failures.NoProcessors found is = absurd is
forced_fails fails may (failures.WrongMode cpu mode) found is = absurd is
forced_fails fails may (failures.NotCanonical address levels) found is = absurd is
forced_fails fails may (failures.NotPhysical address) found is = absurd is
forced_fails fails may (failures.FromAboveTo from to) found is = absurd is
forced_fails fails may (failures.DirectMapReversed first last) found is = absurd is
forced_fails fails may (failures.NoRoot root) found is = absurd is
forced_fails fails may (failures.Dump fault) found is = absurd is
forced_fails fails may (failures.Read error) found is = is

-- what may fail may fail in a run where more may
forced_more : (some fails a b : Bool) (failure : Failure) → (some ≡ true → fails ≡ true) → (a ≡ true → b ≡ true) → MayBeForced some a failure → MayBeForced fails b failure
forced_more some fails a b failures.OutOfMemory reads writes is = tt
forced_more some fails a b (failures.Read error) reads writes is = reads is
forced_more some fails a b failures.Output reads writes is = writes is
forced_more some fails a b failures.NoCr3 reads writes is = absurd is
forced_more some fails a b failures.VirtualBox reads writes is = absurd is
forced_more some fails a b (failures.NoProcessor cpu count) reads writes is = absurd is
forced_more some fails a b failures.NoProcessors reads writes is = absurd is
forced_more some fails a b (failures.WrongMode cpu mode) reads writes is = absurd is
forced_more some fails a b (failures.NotCanonical address levels) reads writes is = absurd is
forced_more some fails a b (failures.NotPhysical address) reads writes is = absurd is
forced_more some fails a b (failures.FromAboveTo from to) reads writes is = absurd is
forced_more some fails a b (failures.DirectMapReversed first last) reads writes is = absurd is
forced_more some fails a b (failures.NoRoot root) reads writes is = absurd is
forced_more some fails a b (failures.Dump fault) reads writes is = absurd is

or_true : (a b : Bool) → b ≡ true → (a || b) ≡ true
or_true true b is = refl
or_true false b is = is

-- what a call that reads nothing may meet, one that reads may
pub forced_write : (fails a : Bool) (failure : Failure) → MayBeForced false a failure → MayBeForced fails a failure
forced_write fails a failure = forced_more false fails a a failure (λ is. absurd (true≢false (sym is))) (λ is. is)

-- a call that is expected to succeed fails because of memory or a read
pub forced_found : {A : Type 0} (fails may : Bool) (failure : Failure) (a : A) → FailsBy fails false failure (Ok a) → MayBeForced fails may failure
forced_found fails may failures.OutOfMemory a is = tt
forced_found fails may (failures.Read error) a is = is
forced_found fails may failures.Output a is = absurd (true≢false (sym is))
forced_found fails may failures.NoCr3 a is = absurd (let other : Ok a ≡ Err failures.NoCr3 = is in cc)
forced_found fails may failures.VirtualBox a is = absurd (let other : Ok a ≡ Err failures.VirtualBox = is in cc)
forced_found fails may (failures.NoProcessor cpu count) a is = absurd (let other : Ok a ≡ Err (failures.NoProcessor cpu count) = is in cc)
forced_found fails may failures.NoProcessors a is = absurd (let other : Ok a ≡ Err failures.NoProcessors = is in cc)
forced_found fails may (failures.WrongMode cpu mode) a is = absurd (let other : Ok a ≡ Err (failures.WrongMode cpu mode) = is in cc)
forced_found fails may (failures.NotCanonical address levels) a is = absurd (let other : Ok a ≡ Err (failures.NotCanonical address levels) = is in cc)
forced_found fails may (failures.NotPhysical address) a is = absurd (let other : Ok a ≡ Err (failures.NotPhysical address) = is in cc)
forced_found fails may (failures.FromAboveTo from to) a is = absurd (let other : Ok a ≡ Err (failures.FromAboveTo from to) = is in cc)
forced_found fails may (failures.DirectMapReversed first last) a is = absurd (let other : Ok a ≡ Err (failures.DirectMapReversed first last) = is in cc)
forced_found fails may (failures.NoRoot root) a is = absurd (let other : Ok a ≡ Err (failures.NoRoot root) = is in cc)
forced_found fails may (failures.Dump fault) a is = absurd (let other : Ok a ≡ Err (failures.Dump fault) = is in cc)

-- what one writer may refuse, two may
pub forced_first : (fails a b : Bool) (failure : Failure) → MayBeForced fails a failure → MayBeForced fails (a || b) failure
forced_first fails a b failure = forced_more fails fails a (a || b) failure (λ is. is) (λ is. ap (λ c. c || b) is)

pub forced_second : (fails a b : Bool) (failure : Failure) → MayBeForced fails b failure → MayBeForced fails (a || b) failure
forced_second fails a b failure = forced_more fails fails b (a || b) failure (λ is. is) (or_true a b)

pub first_write : (fails a b : Bool) (failure : Failure) → MayBeForced false a failure → MayBeForced fails (a || b) failure
first_write fails a b failure is = forced_first fails a b failure (forced_write fails a failure is)

pub second_write : (fails a b : Bool) (failure : Failure) → MayBeForced false b failure → MayBeForced fails (a || b) failure
second_write fails a b failure is = forced_second fails a b failure (forced_write fails b failure is)

-- a run fails for the reason why the dump can't be opened
pub dump_fails : {A B : Type 0} (fails may : Bool) (error : DumpError) (found : Result A Fault) (next : A → Result B Failure) → Fails fails error found
    → FailsBy fails may (failure_of error) (and_then (of_dump found) next)
dump_fails fails may errors.OutOfMemory found next is = tt
dump_fails fails may (errors.Read error) found next is = is
dump_fails fails may (errors.Fault fault) found next is = ap (λ r. and_then (of_dump r) next) is

pub dump_unread : {A : Type 0} (fails may : Bool) (error : DumpError) (found : Result A Fault) → Fails fails error found → FailsBy fails may (failure_of error) (of_dump found)
dump_unread fails may errors.OutOfMemory found is = tt
dump_unread fails may (errors.Read error) found is = is
dump_unread fails may (errors.Fault fault) found is = ap of_dump is
