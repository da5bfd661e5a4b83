-- The lines of a script that was read are lawful.
use Rattle.std.proofs.Common.{◌≡◌, ℕ, ◌+◌, ℤ, ◌≤ℤ◌, pos, Option, Some, None}
use Rattle.std.proofs.Common.{Bool, true, false, cond, List, [], ◌∷◌, ◌++◌, Result, Ok, Err, refl, subst}
use Rattle.std.specs.List.{AllByRecursion}
use Rattle.std.specs.Option.{ok_or}
use Rattle.std.specs.Prelude.{codes}
use Rattle.std.specs.Str.{is_utf8}
use Rattle.mon_script.specs.Controls.{control_of, control_word, IsLawfulControl}
use Rattle.mon_script.specs.Forms.{Said, asked_at, asked_form, feed_form, file_name, form_cut, form_of, how_named}
use Rattle.mon_script.specs.Forms.{plain_by, pour_form, poured}
use Rattle.mon_script.specs.Forms.{question, question_of, said_by, stand_form, tick_form, timed}
use Rattle.mon_script.specs.Lawful.{IsLawfulForm, IsLawfulLine}
use Rattle.mon_script.specs.Lines.{cut_at, is_remark, moment_of, space}
use Rattle.mon_script.specs.Blocks.{mark_of, stand_at}
use Rattle.mon_script.specs.StandingLines.{IsLawfulStanding, stand_of, tick_of}
use Rattle.mon_script.specs.Scripts.{line_read, lines_read, numbered, read_as}
use Rattle.mon_script.specs.Scripts.{said_read, script_from}
use Rattle.mon_script.specs.declared.faults.ScriptFault.{ScriptFault}
use Rattle.mon_script.specs.declared.faults.ScriptKind.{ScriptKind}
use Rattle.mon_script.specs.declared.faults.ScriptKind.TheVariants as kind
use Rattle.mon_script.specs.declared.controls.ControlWord.{ControlWord}
use Rattle.mon_script.specs.declared.forms.BlockMark.TheVariants as mark
use Rattle.mon_script.specs.declared.forms.LineForm.{LineForm}
use Rattle.mon_script.specs.declared.forms.LineForm.TheVariants as form
use Rattle.mon_script.specs.declared.questions.How.{How}
use Rattle.mon_script.specs.declared.questions.Question.{Question}
use Rattle.mon_script.specs.declared.script.LineRead.{LineRead}
use Rattle.mon_script.specs.declared.script.ScriptLine.{ScriptLine}
use Rattle.mon_topo.specs.declared.zones.ZoneSpec.{ZoneSpec}
use Rattle.mon_value.specs.Answers.{◌>>=◌}
use Rattle.mon_value.specs.Values.{number_of}
use Rattle.mon_value.specs.Same.{same_text}
use Rattle.mon_script.proofs.ControlLemmas.{behind_lawful}
use Rattle.mon_script.proofs.FollowLemmas.{follow_lawful}
use Rattle.mon_script.proofs.StandingLineLemmas.{moment_lawful, standing_lawful, tick_lawful}

-- ---- what a line says

module _ (zones : List ZoneSpec) where
  abbrev fault_of : ScriptKind → Said
  fault_of why = Err why

  -- what a line says is lawful where the part of it that was read is
  part_lawful : {X : Type 0} (Lawful : X → Type 0) (what : X → LineForm) (part : Result X ScriptKind) (said : LineForm)
      → ((x : X) → Lawful x → IsLawfulForm zones (what x)) → ((x : X) → part ≡ Ok x → Lawful x)
      → part >>= (λ x. Ok (what x)) ≡ Ok said → IsLawfulForm zones said
  part_lawful Lawful what (Err why) said lawful all e = cc
  part_lawful Lawful what (Ok x) said lawful all e =
      let same : what x ≡ said = cc in subst (IsLawfulForm zones) same (lawful x (all x refl))

  abbrev IsLawfulQuestion : Question → Type 0
  IsLawfulQuestion asked = pos 0 ≤ℤ asked.moment

  timed_lawful : (way : How) (text : List ℕ) (moment : Option ℤ) (asked : Question)
      → ((m : ℤ) → moment ≡ Some m → pos 0 ≤ℤ m)
      → ok_or moment kind.BadNumber >>= (λ m. Ok (question way m text)) ≡ Ok asked → IsLawfulQuestion asked
  timed_lawful way text None asked all e = cc
  timed_lawful way text (Some m) asked all e =
      let same : question way m text ≡ asked = cc in subst IsLawfulQuestion same (all m refl)

  text_lawful : (way : How) (word text : List ℕ) (utf8 : Bool) (asked : Question)
      → cond utf8 (timed way word text) (Err kind.BadWord) ≡ Ok asked → IsLawfulQuestion asked
  text_lawful way word text true asked e =
      timed_lawful way text (moment_of word) asked (λ m. moment_lawful (number_of word) m) e
  text_lawful way word text false asked e = cc

  words_lawful : (way : How) (cut : Option (List ℕ × List ℕ)) (asked : Question)
      → ok_or cut kind.BadWord >>= (λ words. asked_at way words.0 words.1) ≡ Ok asked → IsLawfulQuestion asked
  words_lawful way None asked e = cc
  words_lawful way (Some words) asked e = text_lawful way words.0 words.1 (is_utf8 words.1) asked e

  by_lawful : (feed : Bool) (a b : Said) (said : LineForm) → (a ≡ Ok said → IsLawfulForm zones said)
      → (b ≡ Ok said → IsLawfulForm zones said) → cond feed a b ≡ Ok said → IsLawfulForm zones said
  by_lawful true a b said first second e = first e
  by_lawful false a b said first second e = second e

  bad_lawful : (said : LineForm) → fault_of kind.BadWord ≡ Ok said → IsLawfulForm zones said
  bad_lawful said e = absurd cc

  asked_lawful : (way : How) (rest : List ℕ) (said : LineForm) → asked_form way rest ≡ Ok said
      → IsLawfulForm zones said
  asked_lawful way rest said e =
      part_lawful IsLawfulQuestion form.Ask (question_of way rest) said (λ asked lawful. lawful)
      (words_lawful way (cut_at space rest)) e

  stand_lawful : (rest : List ℕ) (said : LineForm) → stand_form rest ≡ Ok said → IsLawfulForm zones said
  stand_lawful rest said e =
      part_lawful IsLawfulStanding form.Standing (stand_of rest) said (λ line lawful. lawful) (standing_lawful rest) e

  ticks_lawful : (rest : List ℕ) (said : LineForm) → tick_form rest ≡ Ok said → IsLawfulForm zones said
  ticks_lawful rest said e =
      part_lawful IsLawfulStanding form.Standing (tick_of rest) said (λ line lawful. lawful) (tick_lawful rest) e

  plain_lawful : (word rest : List ℕ) (named : Option ControlWord) (said : LineForm)
      → plain_by zones word rest named ≡ Ok said → IsLawfulForm zones said
  plain_lawful word rest (Some what) said e =
      part_lawful (IsLawfulControl zones) form.Control (control_of zones what rest) said (λ control lawful. lawful)
      (behind_lawful zones what rest) e
  plain_lawful word rest None said e =
      by_lawful (same_text word (codes "tick")) _ _ said (ticks_lawful rest said) (bad_lawful said) e

  said_lawful : (word rest : List ℕ) (named : Option How) (said : LineForm)
      → said_by zones word rest named ≡ Ok said → IsLawfulForm zones said
  said_lawful word rest (Some way) said e = asked_lawful way rest said e
  said_lawful word rest None said e =
      by_lawful (same_text word (codes "standing")) _ _ said (stand_lawful rest said)
      (by_lawful (same_text word (codes "follow")) _ _ said (follow_lawful zones rest said)
      (plain_lawful word rest (control_word word) said)) e

  abbrev IsName : List ℕ → Type 0
  IsName name = Unit {0}

  feed_lawful : (rest : List ℕ) (said : LineForm) → feed_form rest ≡ Ok said → IsLawfulForm zones said
  feed_lawful rest said e =
      part_lawful IsName form.Feed (file_name rest) said (λ name lawful. tt) (λ name is. tt) e

  poured_lawful : (first : Result (List ℕ) ScriptKind) (other : List ℕ) (said : LineForm)
      → first >>= (λ name. file_name other >>= (λ second. Ok (form.Pour name second))) ≡ Ok said
      → IsLawfulForm zones said
  poured_lawful (Err why) other said e = cc
  poured_lawful (Ok name) other said e =
      part_lawful IsName (form.Pour name) (file_name other) said (λ second lawful. tt) (λ second is. tt) e

  pour_lawful : (cut : Option (List ℕ × List ℕ)) (said : LineForm)
      → ok_or cut kind.BadWord >>= (λ words. poured words.0 words.1) ≡ Ok said → IsLawfulForm zones said
  pour_lawful None said e = cc
  pour_lawful (Some words) said e = poured_lawful (file_name words.0) words.1 said e

  abbrev said_form : LineForm → Said
  said_form what = Ok what

  mark_lawful : (what said : LineForm) → IsLawfulForm zones what → said_form what ≡ Ok said → IsLawfulForm zones said
  mark_lawful what said lawful e = let same : what ≡ said = cc in subst (IsLawfulForm zones) same lawful

  cut_lawful : (line : List ℕ) (cut : Option (List ℕ × List ℕ)) (said : LineForm)
      → form_cut zones line cut ≡ Ok said → IsLawfulForm zones said
  cut_lawful line (Some words) said e =
      by_lawful _ _ _ said (feed_lawful words.1 said)
      (by_lawful _ _ _ said (pour_lawful (cut_at space words.1) said)
      (said_lawful words.0 words.1 (how_named words.0) said)) e
  cut_lawful line None said e =
      by_lawful _ _ _ said (mark_lawful (form.Block mark.Together) said tt)
      (by_lawful _ _ _ said (mark_lawful (form.Block mark.End) said tt) (bad_lawful said)) e

  -- a form that a line says is lawful
  pub form_lawful : (line : List ℕ) (said : LineForm) → form_of zones line ≡ Ok said
      → IsLawfulForm zones said
  form_lawful line said e = cut_lawful line (cut_at space line) said e

  -- ---- lines

  abbrev pub AreLawful : List ScriptLine → Type 0
  AreLawful script = AllByRecursion (IsLawfulLine zones) script

  abbrev IfLawful : Option LineForm → Type 0
  IfLawful None = Unit {0}
  IfLawful (Some what) = IsLawfulForm zones what

  read_lawful : (number : ℕ) (what : Option LineForm) (rest : List ScriptLine) → IfLawful what → AreLawful rest
      → AreLawful (lines_read number what ++ rest)
  read_lawful number None rest lawful all = all
  read_lawful number (Some what) rest lawful all = (lawful, all)

  stood_lawful : (what : LineForm) (next : Result (Option ℕ) ScriptKind) (read : LineRead) → IsLawfulForm zones what
      → next >>= (λ behind. Ok (read_as (Some what) behind)) ≡ Ok read → IfLawful read.what
  stood_lawful what (Ok behind) read lawful e =
      let same : read_as (Some what) behind ≡ read = cc in
      subst (λ (r : LineRead). IfLawful r.what) same lawful
  stood_lawful what (Err why) read lawful e = cc

  form_read_lawful : (number : ℕ) (place : Option ℕ) (left : List (List ℕ)) (said : Said) (read : LineRead)
      → ((what : LineForm) → said ≡ Ok what → IsLawfulForm zones what) → said_read number place said left ≡ Ok read
      → IfLawful read.what
  form_read_lawful number place left (Ok what) read all e =
      stood_lawful what (stand_at number place (mark_of what) left) read (all what refl) e
  form_read_lawful number place left (Err why) read all e = cc

  remark_lawful : (place : Option ℕ) (over : Bool) (read : LineRead)
      → cond over (Err kind.TooManyLines) (Ok (read_as None place)) ≡ Ok read → IfLawful read.what
  remark_lawful place true read e = cc
  remark_lawful place false read e =
      let same : read_as None place ≡ read = cc in
      subst (λ (r : LineRead). IfLawful r.what) same tt

  either_lawful : (remark : Bool) (a b : Result LineRead ScriptKind) (read : LineRead)
      → (a ≡ Ok read → IfLawful read.what) → (b ≡ Ok read → IfLawful read.what) → cond remark a b ≡ Ok read
      → IfLawful read.what
  either_lawful true a b read first second e = first e
  either_lawful false a b read first second e = second e

  line_lawful : (number : ℕ) (place : Option ℕ) (line : List ℕ) (left : List (List ℕ))
      (read : LineRead) → line_read zones number place line left ≡ Ok read → IfLawful read.what
  line_lawful number place line left read e =
      either_lawful (is_remark line) _ _ read (remark_lawful place _ read)
      (form_read_lawful number place left (form_of zones line) read (form_lawful line)) e

  rest_lawful : (number : ℕ) (what : Option LineForm) (rest : Result (List ScriptLine) ScriptFault)
      (script : List ScriptLine) → IfLawful what → ((lines : List ScriptLine) → rest ≡ Ok lines → AreLawful lines)
      → rest >>= (λ lines. Ok (lines_read number what ++ lines)) ≡ Ok script → AreLawful script
  rest_lawful number what (Err fault) script lawful all e = cc
  rest_lawful number what (Ok lines) script lawful all e =
      let same : lines_read number what ++ lines ≡ script = cc in
      subst AreLawful same (read_lawful number what lines lawful (all lines refl))

  step_lawful : (number : ℕ) (one : Result LineRead ScriptKind)
      (rest : LineRead → Result (List ScriptLine) ScriptFault) (script : List ScriptLine)
      → ((read : LineRead) → one ≡ Ok read → IfLawful read.what)
      → ((read : LineRead) (lines : List ScriptLine) → rest read ≡ Ok lines → AreLawful lines)
      → numbered number one >>= (λ read. rest read >>= λ lines. Ok (lines_read number read.what ++ lines)) ≡ Ok script
      → AreLawful script
  step_lawful number (Err why) rest script each all e = cc
  step_lawful number (Ok read) rest script each all e =
      rest_lawful number read.what (rest read) script (each read refl) (all read) e

  -- each line of a script that was read is lawful
  pub script_lawful : (number : ℕ) (place : Option ℕ) (lines : List (List ℕ))
      (script : List ScriptLine) → script_from zones number place lines ≡ Ok script → AreLawful script
  script_lawful number place [] script e =
      let same : [] ≡ script = cc in subst AreLawful same tt
  script_lawful number place (line ∷ left) script e =
      step_lawful number (line_read zones number place line left)
      (λ read. script_from zones (number + 1) read.next left) script (line_lawful number place line left)
      (λ read. script_lawful (number + 1) read.next left) e
