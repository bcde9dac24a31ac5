-- The links between tables.
use Rattle.std.specs.Prelude.{◌≡◌, Some, Ok}
use Rattle.std.specs.Option.{option_map}
use Rattle.x86_64_model.specs.Memory.{Words}
use Rattle.x86_64_model.specs.PageWalk.{read}
use Rattle.x86_64_tables.specs.PageTableEntry.{frame_of}
use Rattle.ptdump_picture.specs.declared.links.TableLink.{TableLink}

-- The entry at the link's index in its parent table is present, isn't huge, and names the link's child.
abbrev pub IsLink : Words → TableLink → Type 0
IsLink words link = option_map frame_of (read words link.parent link.index) ≡ Some (Ok link.child)
