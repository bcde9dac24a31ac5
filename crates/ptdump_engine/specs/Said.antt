-- Said: what a line says, as a text and as a JSON object.
use Rattle.std.specs.Prelude.{ℕ, List}
use Rattle.serde_json.specs.Data.{Data}
use Rattle.ptdump_json.specs.Lines.{line_in}
use Rattle.ptdump_json.specs.declared.options.Form.{Form}

-- A line of a report as a text without its line feed, and as a JSON object.
pub record Said : Type 0 where
  pub text : List ℕ
  pub object : Data

-- The line in a form, with its line feed.
abbrev pub line_of : Form → Said → List ℕ
line_of form said = line_in form said.text said.object
