-- The tables of a result that is kept are those of the rows that it was made over, moment by moment.
use Rattle.std.proofs.Common.{◌≡◌, ◌∙◌, ◌≤◌, ◌<◌, ◌++◌, ℕ, zero, suc, ℤ, pos, ◌≤ℤ◌, true, List, [], ◌∷◌, drop, length, Ok, Err}
use Rattle.std.proofs.Common.{refl, sym, ap, subst, arith, append-nil, append_assoc}
use Rattle.std.specs.Prelude.{Contains, OnOk, Result}
use Rattle.std.specs.List.{AllByRecursion, flat_map}
use Rattle.std.proofs.lemmas.Int.{ints}
use Rattle.std.proofs.lemmas.List.Elements.{Contains-append_right}
use Rattle.line_runs.specs.Following.{AreTables, HasNoTables, IsAdded, IsKeptOf, IsNotAdded, table_then}
use Rattle.line_runs.specs.declared.followed_tables.NotFollowed.{NotFollowed}
use Rattle.line_runs.specs.declared.followed_tables.NotFollowed.TheVariants as unfollowed
use Rattle.line_runs.proofs.Printed.{table_prints}
use Rattle.mon_meaning.specs.Central.{IsAnswer, IsMeant, IsOver}
use Rattle.mon_meaning.specs.Incremental.{is_incremental}
use Rattle.mon_meaning.specs.declared.meter.OverLimit.{OverLimit}
use Rattle.mon_script.specs.Follows.{AreLawfulMoments, all_moments, moments_from}
use Rattle.mon_script.specs.declared.follows.Moments.{Moments}
use Rattle.mon_table.specs.Bags.{PrintsAlike}
use Rattle.mon_table.specs.Tables.{printed_table}
use Rattle.mon_value.specs.LeafHistories.{IsSource}
use Rattle.mon_value.specs.declared.refusals.Refusal.{Refusal}
use Rattle.mon_value.specs.declared.refusals.Refusal.TheVariants as refusal
use Rattle.mon_value.specs.declared.rows.Row.{Row}
use Rattle.mon_value.specs.declared.tables.Table.{Table}
use Rattle.mon_value.specs.declared.tables.TimedRow.{TimedRow}
use Rattle.run_traces.specs.LineTexts.{moment_heading}
use Rattle.standing_incr.specs.HeldRows.{held_of}
use Rattle.standing_incr.specs.Keeping.{StandingResult}
use Rattle.typed_trees.specs.Meaning.{load}
use Rattle.typed_trees.specs.Nodes.{TypedTree, typed_tree}
use Rattle.typed_trees.specs.Soundness.{IsTyped}

-- ---- results

-- what holds anyhow holds on Ok
pub holds_on : {T F : Type 0} (P : Type 0) (result : Result T F) → P → OnOk result P
holds_on P (Ok x) is = is
holds_on P (Err fault) is = tt

-- ---- what the laws of results that are kept say

-- what is held of rows answers as all of them
abbrev pub AnswerAlike : Type 0
AnswerAlike = (typed : TypedTree) (rows : List Row) (moment later : ℤ) (limit : ℕ)
    (answer : Result Table (Refusal OverLimit)) → is_incremental typed.tree ≡ true → IsTyped typed rows → IsSource rows
    → pos 0 ≤ℤ moment → moment ≤ℤ later → IsAnswer typed (held_of typed moment rows) later limit answer
    → IsAnswer typed rows later limit answer

-- what is held later of what was held is what is held of all
abbrev pub HoldAgain : Type 0
HoldAgain = (typed : TypedTree) (rows : List Row) (moment later : ℤ) → moment ≤ℤ later
    → held_of typed later (held_of typed moment rows) ≡ held_of typed later rows

-- ---- at one moment

module _ (alike : AnswerAlike) (kept : StandingResult) (rows : List Row) (limit : ℕ) (is : IsKeptOf kept rows) where
  abbrev query : TypedTree
  query = typed_tree kept.typed

  answers : (answer : Result Table (Refusal OverLimit)) → IsAnswer query kept.held kept.moment limit answer
      → IsAnswer query rows kept.moment limit answer
  answers answer given =
      alike query rows kept.moment kept.moment limit answer is.form is.typed is.source is.moment
      (grind (arith, ints))
      (subst (λ (held : List Row). IsAnswer query held kept.moment limit answer) is.held given)

  -- a table that was added is that of the rows
  pub table_added : ((names : List (List ℕ)) (some others : List TimedRow) → PrintsAlike names some others) → (at : ℤ)
      (table : Table) (before after : List ℕ) → kept.moment ≡ at
      → IsAnswer query kept.held kept.moment limit (Ok table)
      → after ≡ before ++ (moment_heading at ++ printed_table table)
      → IsAdded query rows at limit before after
  table_added prints at table before after then given added =
      let meant : IsMeant query rows at limit table =
      subst (λ (m : ℤ). IsMeant query rows m limit table) then (answers (Ok table) given) in
      record {
        within = meant.within;
        text_is = added ∙ ap (λ text. before ++ (moment_heading at ++ text))
            (table_prints prints query rows at limit table meant);
      }

  -- where the load is above the limit, so is that of the rows
  pub is_above : (at : ℤ) (over : OverLimit) → kept.moment ≡ at
      → IsAnswer query kept.held kept.moment limit (Err (refusal.Fault over)) → limit < load query rows at
  is_above at over then given =
      let is_over : IsOver query rows at limit over =
      subst (λ (m : ℤ). IsOver query rows m limit over) then (answers (Err (refusal.Fault over)) given) in
      let low : limit < over.load = is_over.above in
      let high : over.load ≤ load query rows at = is_over.most in
      omega arith

-- ---- from one moment to the next

-- a result that goes on is still one of the rows
pub goes_on : HoldAgain → (was now : StandingResult) (rows : List Row) (next : ℤ) → now.typed ≡ was.typed
    → now.moment ≡ next → now.held ≡ held_of (typed_tree was.typed) next was.held → was.moment ≤ℤ next
    → IsKeptOf was rows → IsKeptOf now rows
goes_on again was now rows next typed moment held later is =
    let same : typed_tree now.typed ≡ typed_tree was.typed = ap typed_tree typed in
    let here : pos 0 ≤ℤ was.moment = is.moment in
    let holds : now.held ≡ held_of (typed_tree was.typed) next rows =
    held ∙ ap (held_of (typed_tree was.typed) next) is.held
    ∙ again (typed_tree was.typed) rows was.moment next later in
    record {
      typed = subst (λ (t : TypedTree). IsTyped t rows) (sym same) is.typed;
      source = is.source;
      form = ap (λ (t : TypedTree). is_incremental t.tree) same ∙ is.form;
      moment = subst (λ (m : ℤ). pos 0 ≤ℤ m) (sym moment) (grind (arith, ints));
      held = subst (λ (t : TypedTree). now.held ≡ held_of t now.moment rows) (sym same)
          (subst (λ (m : ℤ). now.held ≡ held_of (typed_tree was.typed) m rows) (sym moment) holds);
    }

-- ---- moment by moment

-- the moments behind the first
abbrev pub behind : Moments → List ℤ
behind moments = drop 1 (all_moments moments)

first_by : (first period : ℤ) (count : ℕ) → 1 ≤ count
    → moments_from first period count ≡ first ∷ drop 1 (moments_from first period count)
first_by first period zero some = absurd (omega arith)
first_by first period (suc count) some = refl

begins : (moments : Moments) → AreLawfulMoments moments → all_moments moments ≡ moments.first ∷ behind moments
begins moments lawful = first_by moments.first moments.period moments.count lawful.some

-- the first is one of them
pub among_all : (moments : Moments) → AreLawfulMoments moments → Contains (all_moments moments) moments.first
among_all moments lawful =
    let here : 0 < length (moments.first ∷ behind moments) = omega arith in
    subst (λ (all : List ℤ). Contains all moments.first) (sym (begins moments lawful)) (0, here, refl)

-- where nothing was added at one of some moments, nothing is told of all
pub stops_there : (typed : TypedTree) (rows : List Row) (moments : List ℤ) (limit : ℕ) (at : ℤ)
    (refused : Refusal NotFollowed) → Contains moments at → IsNotAdded typed rows at limit refused
    → HasNoTables typed rows moments limit refused
stops_there typed rows moments limit at (refusal.Fault unfollowed.Form) among added = absurd added
stops_there typed rows moments limit at (refusal.Fault unfollowed.Load) among added =
    record { at = at; among = among; above = added }
stops_there typed rows moments limit at refusal.OutOfMemory among added = tt

module _ (typed : TypedTree) (rows : List Row) (moments : Moments) (limit : ℕ) where
  abbrev IsWithin : ℤ → Type 0
  IsWithin at = load typed rows at ≤ limit

  -- the tables up to the last of these moments are written
  pub record AreSoFar (last : Moments) (text : List ℕ) : Type 0 where
    pub text_is : text ++ flat_map (table_then typed rows) (behind last)
        ≡ flat_map (table_then typed rows) (all_moments moments)
    pub within : AllByRecursion IsWithin (behind last) → AllByRecursion IsWithin (all_moments moments)
    pub among : (at : ℤ) → Contains (behind last) at → Contains (all_moments moments) at

  -- the first
  pub first_table : AreLawfulMoments moments → (text more : List ℕ) → text ≡ []
      → IsAdded typed rows moments.first limit text more → AreSoFar moments more
  first_table lawful text more none added = record {
    text_is = ap (λ w. w ++ flat_map (table_then typed rows) (behind moments))
        (added.text_is ∙ ap (λ w. w ++ table_then typed rows moments.first) none)
        ∙ sym (ap (flat_map (table_then typed rows)) (begins moments lawful));
    within = λ rest. subst (AllByRecursion IsWithin) (sym (begins moments lawful)) (added.within, rest);
    among = λ at there. subst (λ (all : List ℤ). Contains all at) (sym (begins moments lawful))
        (Contains-append_right (moments.first ∷ []) (behind moments) at there);
  }

  goes_to : (last next : Moments) → AreLawfulMoments next → all_moments last ≡ last.first ∷ all_moments next
      → behind last ≡ next.first ∷ behind next
  goes_to last next lawful goes = ap (drop 1) goes ∙ begins next lawful

  -- one more
  pub next_table : (last next : Moments) → AreLawfulMoments next → all_moments last ≡ last.first ∷ all_moments next
      → (text more : List ℕ) → IsAdded typed rows next.first limit text more → AreSoFar last text → AreSoFar next more
  next_table last next lawful goes text more added so =
      let rest = goes_to last next lawful goes in
      record {
        text_is = ap (λ w. w ++ flat_map (table_then typed rows) (behind next)) added.text_is
            ∙ append_assoc text (table_then typed rows next.first) (flat_map (table_then typed rows) (behind next))
            ∙ ap (λ (some : List ℤ). text ++ flat_map (table_then typed rows) some) (sym rest) ∙ so.text_is;
        within = λ more. so.within (subst (AllByRecursion IsWithin) (sym rest) (added.within, more));
        among = λ at there. so.among at (subst (λ (all : List ℤ). Contains all at) (sym rest)
            (Contains-append_right (next.first ∷ []) (behind next) at there));
      }

  -- which is one of the moments
  pub among_next : (last next : Moments) → AreLawfulMoments next → all_moments last ≡ last.first ∷ all_moments next
      → (text : List ℕ) → AreSoFar last text → Contains (all_moments moments) next.first
  among_next last next lawful goes text so =
      let here : 0 < length (next.first ∷ behind next) = omega arith in
      so.among next.first (subst (λ (all : List ℤ). Contains all next.first) (sym (goes_to last next lawful goes))
      (0, here, refl))

  -- all of them
  pub last_table : (last : Moments) → all_moments last ≡ last.first ∷ [] → (text : List ℕ)
      → is_incremental typed.tree ≡ true → AreSoFar last text → AreTables typed rows (all_moments moments) limit text
  last_table last ends text form so = record {
    form = form;
    within = so.within (subst (AllByRecursion IsWithin) (sym (ap (drop 1) ends)) tt);
    text_is = sym (append-nil text)
        ∙ ap (λ some. text ++ flat_map (table_then typed rows) some) (sym (ap (drop 1) ends)) ∙ so.text_is;
  }
