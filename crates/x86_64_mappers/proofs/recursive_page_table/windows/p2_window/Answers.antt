use Rattle.x86_64_mappers.proofs.recursive_page_table.windows.p2_window.Goals as goal

pub returns-clause-path : goal.returns-clause-path
returns-clause-path g c = c.table_window.ensures.path

pub returns-clause-table : goal.returns-clause-table
returns-clause-table g c = c.table_window.ensures.table
