-- What a line of a schedule says.
use Rattle.std.specs.Prelude.{ℕ, ℤ, pos, negsuc, nat_le, nat_eq, ◌&&◌, List, [], ◌∷◌, codes}
use Rattle.std.specs.Prelude.{Option, Some, None, option_map, option_and_then, Result, Ok, Err, if◌then◌else◌}
use Rattle.std.specs.Str.{is_utf8}
use Rattle.mon_points.specs.Records.{reads_of}
use Rattle.mon_points.specs.declared.records.RowRead.{RowRead}
use Rattle.mon_points.specs.declared.records.RowRead.TheVariants as read
use Rattle.mon_schema.specs.Names.{SchemaLists}
use Rattle.mon_script.specs.Controls.{control_of, control_word}
use Rattle.mon_script.specs.Lines.{cut_at, moment_of, space}
use Rattle.mon_script.specs.declared.controls.ControlForm.{ControlForm}
use Rattle.mon_script.specs.declared.controls.ControlForm.TheVariants as control
use Rattle.mon_script.specs.declared.controls.ControlWord.{ControlWord}
use Rattle.mon_script.specs.declared.faults.ScriptKind.{ScriptKind}
use Rattle.mon_topo.specs.declared.zones.ZoneSpec.{ZoneSpec}
use Rattle.mon_value.specs.Values.{number_of}
use Rattle.mon_value.specs.Same.{same_text}
use Rattle.mon_value.specs.declared.rows.Row.{Row}
use Rattle.schedule_lines.specs.EventNames.{event_named}
use Rattle.schedule_lines.specs.declared.calls.Call.{Call}
use Rattle.schedule_lines.specs.declared.calls.Call.TheVariants as call
use Rattle.schedule_lines.specs.declared.limits.TheConstants.{LAST_ACTOR}
use Rattle.schedule_lines.specs.declared.lines.LineForm.{LineForm}
use Rattle.schedule_lines.specs.declared.lines.LineForm.TheVariants as form

-- ---- words

-- actors are numbered from 1
abbrev pub actor_of_number : ℤ → Option ℕ
actor_of_number (pos n) = if nat_le 1 n && nat_le n LAST_ACTOR then Some n else None
actor_of_number (negsuc n) = None

abbrev pub actor_of : List ℕ → Option ℕ
actor_of word = option_and_then actor_of_number (number_of word)

-- what the word before the first space spells, and what stands behind this space
abbrev pub spelled_first : {X : Type 0} → (List ℕ → Option X) → List ℕ → Option (X × List ℕ)
spelled_first spelled text =
    option_and_then (λ cut. option_map (λ x. (x, cut.1)) (spelled cut.0)) (cut_at space text)

abbrev pub actor_and_rest : List ℕ → Option (ℕ × List ℕ)
actor_and_rest = spelled_first actor_of

abbrev pub moment_and_rest : List ℕ → Option (ℤ × List ℕ)
moment_and_rest = spelled_first moment_of

-- ---- what stands behind the first word

-- just one record, which is a row
abbrev pub only_row : List RowRead → Option Row
only_row [] = None
only_row (read.Fault why ∷ reads) = None
only_row (read.Row row ∷ []) = Some row
only_row (read.Row row ∷ another ∷ reads) = None

abbrev pub written_by : SchemaLists → ℕ × List ℕ → Option LineForm
written_by schemas words = option_map (λ row. form.Declare words.0 (call.Write row))
    (only_row (reads_of schemas words.1))

-- an actor, and the record of a row
abbrev pub write_form : SchemaLists → List ℕ → Option LineForm
write_form schemas rest = option_and_then (written_by schemas) (actor_and_rest rest)

abbrev pub asked_by : ℕ → ℤ × List ℕ → Option LineForm
asked_by actor words = if is_utf8 words.1 then Some (form.Declare actor (call.Query words.0 words.1)) else None

-- an actor, a moment and a query's text, which is any text of UTF-8
abbrev pub schedule_query_form : List ℕ → Option LineForm
schedule_query_form rest =
    option_and_then (λ words. option_and_then (asked_by words.0) (moment_and_rest words.1)) (actor_and_rest rest)

-- what is done to a leaf or a range
abbrev pub call_of : ControlForm → Call
call_of (control.Down leaf) = call.Down leaf
call_of (control.Up leaf) = call.Up leaf
call_of (control.Recover range leaf) = call.Recover range leaf
call_of (control.Trim range before) = call.Trim range before
call_of (control.Retire range leaf) = call.Retire range leaf

abbrev pub controlled_by : ℕ → Result ControlForm ScriptKind → Option LineForm
controlled_by actor (Ok what) = Some (form.Declare actor (call_of what))
controlled_by actor (Err why) = None

-- an actor, and what a script's line of the same word has behind this
abbrev pub schedule_control_form : List ZoneSpec → ControlWord → List ℕ → Option LineForm
schedule_control_form zones what rest =
    option_and_then (λ words. controlled_by words.0 (control_of zones what words.1)) (actor_and_rest rest)

abbrev pub met_by : ℕ → ℕ → Option LineForm
met_by actor other = if nat_eq actor other then None else Some (form.Meet actor other)

-- two actors that are not the same
abbrev pub meet_form : List ℕ → Option LineForm
meet_form rest = option_and_then (λ words. option_and_then (met_by words.0) (actor_of words.1)) (actor_and_rest rest)

-- an actor and the name of an event
abbrev pub until_form : List ℕ → Option LineForm
until_form rest =
    option_and_then (λ words. option_map (form.Until words.0) (event_named words.1)) (actor_and_rest rest)

-- whose turn it is, or who meets whom
abbrev pub turn_form : List ℕ → List ℕ → Option LineForm
turn_form word rest =
    if same_text word (codes "meet") then meet_form rest
    else if same_text word (codes "step") then option_map form.Step (actor_of rest)
    else if same_text word (codes "until") then until_form rest
    else if same_text word (codes "finish") then option_map form.Finish (actor_of rest)
    else None

-- what is done to a leaf or a range, or whose turn it is
abbrev pub switch_form_by : List ZoneSpec → List ℕ → List ℕ → Option ControlWord → Option LineForm
switch_form_by zones word rest (Some what) = schedule_control_form zones what rest
switch_form_by zones word rest None = turn_form word rest

abbrev pub switch_form : List ZoneSpec → List ℕ → List ℕ → Option LineForm
switch_form zones word rest = switch_form_by zones word rest (control_word word)

-- ---- lines

-- by the first word
abbrev pub schedule_form_by : SchemaLists → List ZoneSpec → List ℕ × List ℕ → Option LineForm
schedule_form_by schemas zones words =
    if same_text words.0 (codes "write") then write_form schemas words.1
    else if same_text words.0 (codes "query") then schedule_query_form words.1
    else switch_form zones words.0 words.1

-- what a line says, over these schemas and zones
abbrev pub schedule_form : SchemaLists → List ZoneSpec → List ℕ → Option LineForm
schedule_form schemas zones line = option_and_then (schedule_form_by schemas zones) (cut_at space line)
