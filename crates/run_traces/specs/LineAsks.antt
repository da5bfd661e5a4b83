-- What a line asks for.
use Rattle.std.specs.Prelude.{ℕ, ℤ, pos, Bool, true, false, List, [], ◌∷◌, Option, Some, None}
use Rattle.mon_script.specs.Follows.{all_moments}
use Rattle.mon_script.specs.Forms.{question}
use Rattle.mon_script.specs.declared.controls.ControlForm.{ControlForm}
use Rattle.mon_script.specs.declared.controls.ControlForm.TheVariants as control
use Rattle.mon_script.specs.declared.follows.Moments.{Moments}
use Rattle.mon_script.specs.declared.forms.LineForm.{LineForm}
use Rattle.mon_script.specs.declared.forms.LineForm.TheVariants as form
use Rattle.mon_script.specs.declared.questions.How.TheVariants as how
use Rattle.mon_script.specs.declared.standing_lines.StandingLine.{StandingLine}
use Rattle.mon_script.specs.declared.standing_lines.StandingLine.TheVariants as line
use Rattle.mon_value.specs.declared.positions.Leaf.{Leaf}
use Rattle.mon_value.specs.declared.positions.Range.{Range}

-- a leaf that is to go down, or to come up
pub record Switch : Type 0 where
  pub leaf : Leaf
  pub down : Bool

-- a range of which a replica is to be opened on a leaf
pub record Recovery : Type 0 where
  pub range : Range
  pub leaf : Leaf

-- a range of which the rows that end before a bound are to be hidden
pub record Bound : Type 0 where
  pub range : Range
  pub before : ℤ

-- a range whose replica on a leaf is to serve no more
pub record Withdrawal : Type 0 where
  pub range : Range
  pub leaf : Leaf

-- the names of two files, as far as there are any
pub record FileNames : Type 0 where
  pub first : Option (List ℕ)
  pub second : Option (List ℕ)

abbrev pub unnamed : FileNames
unnamed = record { first = None; second = None }

-- A text that is asked or is to stand, the moment at which a text or the standing queries are asked, all moments at which
-- its table is told, the names of files, the leaf that something is done to or on, and what is to be done: each as far as
-- the line has it
pub record Asks : Type 0 where
  pub text : List ℕ
  pub moment : ℤ
  pub moments : List ℤ
  pub files : FileNames
  pub leaf : Option Leaf
  pub switch : Option Switch
  pub recovery : Option Recovery
  pub bound : Option Bound
  pub withdrawal : Option Withdrawal

-- a text and a moment
abbrev pub asking : List ℕ → ℤ → Asks
asking text moment = record {
  text = text;
  moment = moment;
  moments = moment ∷ [];
  files = unnamed;
  leaf = None;
  switch = None;
  recovery = None;
  bound = None;
  withdrawal = None;
}

-- a text that is asked at the first of some moments
abbrev pub following : Moments → List ℕ → Asks
following moments text = record {
  text = text;
  moment = moments.first;
  moments = all_moments moments;
  files = unnamed;
  leaf = None;
  switch = None;
  recovery = None;
  bound = None;
  withdrawal = None;
}

-- files
abbrev pub feeding : FileNames → Asks
feeding names = record {
  text = [];
  moment = pos 0;
  moments = [];
  files = names;
  leaf = None;
  switch = None;
  recovery = None;
  bound = None;
  withdrawal = None;
}

-- a leaf that is switched, a range that is recovered onto a leaf or trimmed, or one whose replica on a leaf is retired
abbrev pub control_leaf : ControlForm → Option Leaf
control_leaf (control.Down leaf) = Some leaf
control_leaf (control.Up leaf) = Some leaf
control_leaf (control.Recover range leaf) = Some leaf
control_leaf (control.Trim range before) = None
control_leaf (control.Retire range leaf) = Some leaf

abbrev pub control_switch : ControlForm → Option Switch
control_switch (control.Down leaf) = Some (record { leaf = leaf; down = true })
control_switch (control.Up leaf) = Some (record { leaf = leaf; down = false })
control_switch (control.Recover range leaf) = None
control_switch (control.Trim range before) = None
control_switch (control.Retire range leaf) = None

abbrev pub control_recovery : ControlForm → Option Recovery
control_recovery (control.Down leaf) = None
control_recovery (control.Up leaf) = None
control_recovery (control.Recover range leaf) = Some (record { range = range; leaf = leaf })
control_recovery (control.Trim range before) = None
control_recovery (control.Retire range leaf) = None

abbrev pub control_bound : ControlForm → Option Bound
control_bound (control.Down leaf) = None
control_bound (control.Up leaf) = None
control_bound (control.Recover range leaf) = None
control_bound (control.Trim range before) = Some (record { range = range; before = before })
control_bound (control.Retire range leaf) = None

abbrev pub control_withdrawal : ControlForm → Option Withdrawal
control_withdrawal (control.Down leaf) = None
control_withdrawal (control.Up leaf) = None
control_withdrawal (control.Recover range leaf) = None
control_withdrawal (control.Trim range before) = None
control_withdrawal (control.Retire range leaf) = Some (record { range = range; leaf = leaf })

abbrev pub controlling : ControlForm → Asks
controlling what = record {
  text = [];
  moment = pos 0;
  moments = [];
  files = unnamed;
  leaf = control_leaf what;
  switch = control_switch what;
  recovery = control_recovery what;
  bound = control_bound what;
  withdrawal = control_withdrawal what;
}

-- a query that is to stand, or those that are due
abbrev pub standing_text : StandingLine → List ℕ
standing_text (line.Stand name period text) = text
standing_text (line.Tick moment) = []

abbrev pub standing_moment : StandingLine → ℤ
standing_moment (line.Stand name period text) = pos 0
standing_moment (line.Tick moment) = moment

abbrev pub asks_of : LineForm → Asks
asks_of (form.Feed name) = feeding (record { first = Some name; second = None })
asks_of (form.Pour first second) = feeding (record { first = Some first; second = Some second })
asks_of (form.Ask asked) = asking asked.text asked.moment
asks_of (form.Follow moments text) = following moments text
asks_of (form.Control what) = controlling what
asks_of (form.Standing what) = asking (standing_text what) (standing_moment what)
asks_of (form.Block mark) = asking [] (pos 0)

-- ---- each part

abbrev pub text_of : LineForm → List ℕ
text_of what = (asks_of what).text

abbrev pub moment_of : LineForm → ℤ
moment_of what = (asks_of what).moment

abbrev pub moments_of : LineForm → List ℤ
moments_of what = (asks_of what).moments

abbrev pub files_of : LineForm → FileNames
files_of what = (asks_of what).files

abbrev pub leaf_of : LineForm → Option Leaf
leaf_of what = (asks_of what).leaf

abbrev pub switch_of : LineForm → Option Switch
switch_of what = (asks_of what).switch

abbrev pub recovery_of : LineForm → Option Recovery
recovery_of what = (asks_of what).recovery

abbrev pub bound_of : LineForm → Option Bound
bound_of what = (asks_of what).bound

abbrev pub withdrawal_of : LineForm → Option Withdrawal
withdrawal_of what = (asks_of what).withdrawal

-- ---- queries

-- a line that asks for the table of a text
abbrev pub query_form : ℤ → List ℕ → LineForm
query_form moment text = form.Ask (question how.Query moment text)
