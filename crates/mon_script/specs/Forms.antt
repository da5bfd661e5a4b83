-- What a line says by itself, or why it says nothing. Of several reasons the one counts that is told first.
use Rattle.std.specs.Prelude.{ℕ, ℤ, List, Option, Some, None, Result, Ok, Err, if◌then◌else◌, codes}
use Rattle.std.specs.Option.{ok_or}
use Rattle.std.specs.Str.{is_utf8}
use Rattle.mon_value.specs.Answers.{◌>>=◌}
use Rattle.mon_topo.specs.declared.zones.ZoneSpec.{ZoneSpec}
use Rattle.mon_value.specs.Same.{same_text}
use Rattle.mon_script.specs.Controls.{control_of, control_word}
use Rattle.mon_script.specs.Follows.{follow_form}
use Rattle.mon_script.specs.Lines.{cut_at, moment_of, space, is_file_name}
use Rattle.mon_script.specs.StandingLines.{stand_of, tick_of}
use Rattle.mon_script.specs.declared.controls.ControlWord.{ControlWord}
use Rattle.mon_script.specs.declared.faults.ScriptKind.{ScriptKind}
use Rattle.mon_script.specs.declared.faults.ScriptKind.TheVariants as kind
use Rattle.mon_script.specs.declared.forms.BlockMark.TheVariants as mark
use Rattle.mon_script.specs.declared.forms.LineForm.{LineForm}
use Rattle.mon_script.specs.declared.forms.LineForm.TheVariants as form
use Rattle.mon_script.specs.declared.questions.How.{How}
use Rattle.mon_script.specs.declared.questions.How.TheVariants as how
use Rattle.mon_script.specs.declared.questions.Question.{Question}

abbrev pub Said : Type 0
Said = Result LineForm ScriptKind

-- ---- files

-- the name of a file: a word that isn't empty, of UTF-8
abbrev pub file_name : List ℕ → Result (List ℕ) ScriptKind
file_name name = if is_file_name name then Ok name else Err kind.BadWord

abbrev pub feed_form : List ℕ → Said
feed_form rest = do
  name ← file_name rest
  Ok (form.Feed name)

-- two names, with a space between
abbrev pub poured : List ℕ → List ℕ → Said
poured one other = do
  first ← file_name one
  second ← file_name other
  Ok (form.Pour first second)

abbrev pub pour_form : List ℕ → Said
pour_form rest = do
  words ← ok_or (cut_at space rest) kind.BadWord
  poured words.0 words.1

-- ---- questions

abbrev pub how_named : List ℕ → Option How
how_named word =
    if same_text word (codes "query") then Some how.Query
    else if same_text word (codes "check") then Some how.Check
    else if same_text word (codes "explain") then Some how.Explain else None

abbrev pub question : How → ℤ → List ℕ → Question
question way moment text = record { how = way; moment = moment; text = text }

-- a word that spells a moment
abbrev pub timed : How → List ℕ → List ℕ → Result Question ScriptKind
timed way word text = do
  moment ← ok_or (moment_of word) kind.BadNumber
  Ok (question way moment text)

-- the text is any text of UTF-8
abbrev pub asked_at : How → List ℕ → List ℕ → Result Question ScriptKind
asked_at way word text = if is_utf8 text then timed way word text else Err kind.BadWord

-- a moment, a space and a text
abbrev pub question_of : How → List ℕ → Result Question ScriptKind
question_of way rest = do
  words ← ok_or (cut_at space rest) kind.BadWord
  asked_at way words.0 words.1

abbrev pub asked_form : How → List ℕ → Said
asked_form way rest = do
  question ← question_of way rest
  Ok (form.Ask question)

-- ---- by the first word

abbrev pub stand_form : List ℕ → Said
stand_form rest = do
  line ← stand_of rest
  Ok (form.Standing line)

abbrev pub tick_form : List ℕ → Said
tick_form rest = do
  line ← tick_of rest
  Ok (form.Standing line)

abbrev pub tick_or_none : List ℕ → List ℕ → Said
tick_or_none word rest = if same_text word (codes "tick") then tick_form rest else Err kind.BadWord

abbrev pub control_form : List ZoneSpec → ControlWord → List ℕ → Said
control_form zones word rest = do
  control ← control_of zones word rest
  Ok (form.Control control)

abbrev pub plain_by : List ZoneSpec → List ℕ → List ℕ → Option ControlWord → Said
plain_by zones word rest (Some control) = control_form zones control rest
plain_by zones word rest None = tick_or_none word rest

-- of a line that has no text
abbrev pub plain_form : List ZoneSpec → List ℕ → List ℕ → Said
plain_form zones word rest = plain_by zones word rest (control_word word)

-- what the rest says behind a word that asks nothing and names no file
abbrev pub other_form : List ZoneSpec → List ℕ → List ℕ → Said
other_form zones word rest =
    if same_text word (codes "standing") then stand_form rest
    else if same_text word (codes "follow") then follow_form rest else plain_form zones word rest

-- what the rest says behind a word that asks, or behind any other
abbrev pub said_by : List ZoneSpec → List ℕ → List ℕ → Option How → Said
said_by zones word rest (Some way) = asked_form way rest
said_by zones word rest None = other_form zones word rest

-- what the first word and the rest of a line say
abbrev pub form_by : List ZoneSpec → List ℕ → List ℕ → Said
form_by zones word rest =
    if same_text word (codes "feed") then feed_form rest
    else if same_text word (codes "pour") then pour_form rest else said_by zones word rest (how_named word)

-- a word alone opens a block or closes it
abbrev pub lone_form : List ℕ → Said
lone_form word =
    if same_text word (codes "together") then Ok (form.Block mark.Together)
    else if same_text word (codes "end") then Ok (form.Block mark.End) else Err kind.BadWord

abbrev pub form_cut : List ZoneSpec → List ℕ → Option (List ℕ × List ℕ) → Said
form_cut zones line (Some words) = form_by zones words.0 words.1
form_cut zones line None = lone_form line

-- what a line says, over the zones that there are
abbrev pub form_of : List ZoneSpec → List ℕ → Said
form_of zones line = form_cut zones line (cut_at space line)
