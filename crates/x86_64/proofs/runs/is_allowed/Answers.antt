use Rattle.std.proofs.Common.{◌≡◌, ◌∙◌, ◌&&◌, Bool, true, false, not, refl, subst}
use Rattle.x86_64_model.specs.Entry.{huge, no_address}
use Rattle.x86_64_mappers.specs.PageAnswers.{allows_page}
use Rattle.x86_64_tables.specs.PageTableFlags.{bits_of}
use Rattle.x86_64.specs.Calls.{in_window}
use Rattle.x86_64.proofs.runs.is_allowed.Goals as goal

-- the flags of an entry above level three may be set if they fit it, and the page is outside the window
outside_too : (bare outside small result : Bool) → true ≡ (bare && small) → result ≡ outside → result ≡ ((bare && outside) && small)
outside_too true true true result fit is = is
outside_too true false true result fit is = is
outside_too true outside false result fit is = cc
outside_too false outside small result fit is = cc

unfit : (bare outside small : Bool) → false ≡ (bare && small) → false ≡ ((bare && outside) && small)
unfit true outside true fit = cc
unfit true true false fit = refl
unfit true false false fit = refl
unfit false outside small fit = refl

pub map_allowed-requires : goal.map_allowed-requires
map_allowed-requires g c = c.requires

pub map_allowed-requires-in-MapToWithTableFlags : goal.map_allowed-requires-in-MapToWithTableFlags
map_allowed-requires-in-MapToWithTableFlags g c = c.requires

pub map_allowed-requires-in-Some : goal.map_allowed-requires-in-Some
map_allowed-requires-in-Some g c = c.requires

pub returns-in-MapTo : goal.returns-in-MapTo
returns-in-MapTo g c =
    let h = g.M.Tables.hierarchy c.args.mapper.now in let w = c.in-MapTo in
    rw w.is (subst (λ more. c.map_allowed.result ≡ allows_page h g.S.PageSize.LEVEL w.page (bits_of w.flags) more) c.parent_flags.ensures
    c.map_allowed.ensures)

pub returns-in-MapToWithTableFlags : goal.returns-in-MapToWithTableFlags
returns-in-MapToWithTableFlags g c = rw c.in-MapToWithTableFlags.is c.map_allowed-in-MapToWithTableFlags.ensures

pub returns-in-Unmap : goal.returns-in-Unmap
returns-in-Unmap g c = rw c.in-Unmap.is c.is_outside_window.ensures

pub returns-then-fit_high_entry : goal.returns-then-fit_high_entry
returns-then-fit_high_entry g c =
    let fit = subst (λ given. true ≡ (no_address given && not (huge given))) c.page_table_flags.ensures.some c.if-fit_high_entry.ensures in
    rw c.in-SetFlagsP5.is (outside_too _ _ _ _ fit c.is_outside_window-then-fit_high_entry.ensures)

pub returns-else-fit_high_entry : goal.returns-else-fit_high_entry
returns-else-fit_high_entry g c =
    let fit = subst (λ given. false ≡ (no_address given && not (huge given))) c.page_table_flags.ensures.some c.if-fit_high_entry.ensures in
    let given = g.P5.LevelFiveFlags.bits c.in-SetFlagsP5.flags in
    let outside = not (in_window (g.M.Tables.hierarchy c.args.mapper.now) g.S.PageSize.LEVEL c.in-SetFlagsP5.page) in
    rw c.in-SetFlagsP5.is (c.if-fit_high_entry.false ∙ unfit (no_address given) outside (not (huge given)) fit)

pub returns-then-fit_high_entry-2 : goal.returns-then-fit_high_entry-2
returns-then-fit_high_entry-2 g c = rw c.in-SetFlagsP4.is (outside_too _ _ _ _ c.if-fit_high_entry-2.ensures
    c.is_outside_window-then-fit_high_entry-2.ensures)

pub returns-else-fit_high_entry-2 : goal.returns-else-fit_high_entry-2
returns-else-fit_high_entry-2 g c =
    let given = bits_of c.in-SetFlagsP4.flags in
    let outside = not (in_window (g.M.Tables.hierarchy c.args.mapper.now) g.S.PageSize.LEVEL c.in-SetFlagsP4.page) in
    rw c.in-SetFlagsP4.is (c.if-fit_high_entry-2.false ∙ unfit (no_address given) outside (not (huge given)) c.if-fit_high_entry-2.ensures)

pub returns-in-SetFlagsP3 : goal.returns-in-SetFlagsP3
returns-in-SetFlagsP3 g c = rw c.in-SetFlagsP3.is c.table_flags_allowed.ensures

pub returns-in-SetFlagsP2 : goal.returns-in-SetFlagsP2
returns-in-SetFlagsP2 g c = rw c.in-SetFlagsP2.is c.table_flags_allowed-in-SetFlagsP2.ensures

pub returns-in-TranslatePage : goal.returns-in-TranslatePage
returns-in-TranslatePage g c = rw c.in-TranslatePage.is refl
