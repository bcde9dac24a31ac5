-- Reports on walks as JSON.
use Rattle.std.specs.Prelude.{Bool, option_map, unwrap_or}
use Rattle.serde_json.specs.Data.{Data}
use Rattle.x86_64_access.specs.Accesses.{outcome_of}
use Rattle.ptdump_json.specs.Accesses.{is_arrived}
use Rattle.ptdump_json.specs.declared.json.walks.WalkReport.{WalkReport}
use Rattle.ptdump_json.specs.Walked.{end_said, is_arrival, json_of_line, json_of_value}

-- The JSON object of the report on a walk, with the access there, if there is one.
abbrev pub json_of_report : WalkReport → Data
json_of_report report = json_of_value report.address report.walk (option_map json_of_line report.access)

-- Whether the access of the report on a walk arrives, or if there is no access, the walk.
abbrev pub report_arrives : WalkReport → Bool
report_arrives report = unwrap_or (option_map (λ line. is_arrived (outcome_of line.end)) report.access) (is_arrival (end_said report.walk.end))
