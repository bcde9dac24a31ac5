-- JSON objects that are being built.
use Rattle.serde_json.specs.Data.{Members}
use Rattle.serde_json.specs.View.{members_view}
use Rattle.ptdump_json.specs.declared.json.object.Object.{Object}

-- The members that a JSON object has so far while it is built.
abbrev pub members_in : Object → Members
members_in object = members_view object.members.entries
