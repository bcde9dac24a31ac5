use Rattle.std.proofs.Common.{refl}
use Rattle.std.proofs.lemmas.Result.{err_from_is_err_and}
use Rattle.x86_64_c.proofs.ranges.UnmapFromOperation.execute.Goals as goal

pub returns-in_err-page-clause-bad : goal.returns-in_err-page-clause-bad
returns-in_err-page-clause-bad g c =
    let e = err_from_is_err_and c.from_residual.result c.from_residual.ensures.1 in
    rw (e.1, c.in_err-page.ensures.bad, e.2) refl

pub unmap_pages-requires : goal.unmap_pages-requires
unmap_pages-requires g c = record {
  valid = c.requires.may c.in_ok-page.ensures.good;
  pages = c.in_ok-page.ensures.good;
  is_page = rw c.in-Of4KiB.is at c.in_ok-page.ensures.page;
}

pub returns-in-Of4KiB : goal.returns-in-Of4KiB
returns-in-Of4KiB g c = record {
  bad = tt;
  unchanged = tt;
  good = c.in_ok-page.ensures.good;
  does = c.unmap_pages.ensures.unmaps;
  lent = c.unmap_pages.ensures.lent;
}

pub unmap_pages-requires-in-Of2MiB : goal.unmap_pages-requires-in-Of2MiB
unmap_pages-requires-in-Of2MiB g c = record {
  valid = c.requires.may c.in_ok-page.ensures.good;
  pages = c.in_ok-page.ensures.good;
  is_page = rw c.in-Of2MiB.is at c.in_ok-page.ensures.page;
}

pub returns-in-Of2MiB : goal.returns-in-Of2MiB
returns-in-Of2MiB g c = record {
  bad = tt;
  unchanged = tt;
  good = c.in_ok-page.ensures.good;
  does = c.unmap_pages-in-Of2MiB.ensures.unmaps;
  lent = c.unmap_pages-in-Of2MiB.ensures.lent;
}

pub unmap_pages-requires-in-Of1GiB : goal.unmap_pages-requires-in-Of1GiB
unmap_pages-requires-in-Of1GiB g c = record {
  valid = c.requires.may c.in_ok-page.ensures.good;
  pages = c.in_ok-page.ensures.good;
  is_page = rw c.in-Of1GiB.is at c.in_ok-page.ensures.page;
}

pub returns-in-Of1GiB : goal.returns-in-Of1GiB
returns-in-Of1GiB g c = record {
  bad = tt;
  unchanged = tt;
  good = c.in_ok-page.ensures.good;
  does = c.unmap_pages-in-Of1GiB.ensures.unmaps;
  lent = c.unmap_pages-in-Of1GiB.ensures.lent;
}
