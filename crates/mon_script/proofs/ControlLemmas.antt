-- A leaf or a range that a line names is there, one that is recovered is in the range's zone, and a time is a moment.
use Rattle.std.proofs.Common.{◌≡◌, ℕ, ℤ, pos, ◌<◌, ◌≤ℤ◌, Bool, true, false, cond, List, length, Option, Some, None}
use Rattle.std.proofs.Common.{Result, Ok, Err, IfOk, arith, option_map, refl, sym, subst}
use Rattle.std.specs.List.{position_from}
use Rattle.std.specs.Option.{ok_or}
use Rattle.mon_script.specs.Controls.{IsLawfulControl, IsRecoverable, control_of, leaf_of}
use Rattle.mon_script.specs.Controls.{range_of, recover_control, retire_control, time_of, trim_control, zoned_control}
use Rattle.mon_script.specs.Lines.{cut_at, has_space, moment_of, space}
use Rattle.mon_script.specs.declared.controls.ControlForm.{ControlForm}
use Rattle.mon_script.specs.declared.controls.ControlForm.TheVariants as control
use Rattle.mon_script.specs.declared.controls.ControlWord.{ControlWord}
use Rattle.mon_script.specs.declared.controls.ControlWord.TheVariants as word
use Rattle.mon_script.specs.declared.faults.ScriptKind.{ScriptKind}
use Rattle.mon_script.specs.declared.faults.ScriptKind.TheVariants as kind
use Rattle.mon_topo.proofs.SharedZoneLemmas.{shared_zone}
use Rattle.mon_topo.proofs.PositionLemmas.{found_within}
use Rattle.mon_topo.proofs.RangeNameLemmas.{length-range_names}
use Rattle.mon_topo.specs.Zones.{share_zone, leaf_named, leaves_in, range_named, range_names, ranges_in}
use Rattle.mon_topo.specs.declared.zones.ZoneSpec.{ZoneSpec}
use Rattle.mon_value.specs.Answers.{◌>>=◌}
use Rattle.mon_value.specs.Histories.{leaf_numbered, range_numbered}
use Rattle.mon_value.specs.Same.{same_text}
use Rattle.mon_value.specs.Values.{number_of}
use Rattle.mon_value.specs.declared.positions.Leaf.{Leaf}
use Rattle.mon_value.specs.declared.positions.Range.{Range}
use Rattle.mon_script.proofs.StandingLineLemmas.{moment_lawful}

-- ---- leaves

place_there : (zones : List ZoneSpec) (leaf : Leaf) (o : Option ℕ) → ((p : ℕ) → o ≡ Some p → p < length
    (leaves_in zones))
    → option_map leaf_numbered o ≡ Some leaf → leaf.0 < length (leaves_in zones)
place_there zones leaf None within e = absurd cc
place_there zones leaf (Some p) within e =
    let same : leaf_numbered p ≡ leaf = cc in
    subst (λ (l : Leaf). l.0 < length (leaves_in zones)) same (within p refl)

leaf_there : (zones : List ZoneSpec) (name : List ℕ) (leaf : Leaf) → leaf_named zones name ≡ Some leaf
    → leaf.0 < length (leaves_in zones)
leaf_there zones name leaf e = place_there zones leaf (position_from (same_text name) 0 (leaves_in zones))
    (λ p is. found_within (same_text name) (leaves_in zones) p (sym is)) e

known_there : (zones : List ZoneSpec) (named : Option Leaf) (leaf : Leaf)
    → ((l : Leaf) → named ≡ Some l → l.0 < length (leaves_in zones)) → ok_or named kind.UnknownLeaf ≡ Ok leaf
    → leaf.0 < length (leaves_in zones)
known_there zones None leaf within e = absurd cc
known_there zones (Some l) leaf within e =
    let same : l ≡ leaf = cc in subst (λ (l : Leaf). l.0 < length (leaves_in zones)) same (within l refl)

word_there : (zones : List ZoneSpec) (name : List ℕ) (spaced : Bool) (leaf : Leaf)
    → cond spaced (Err kind.BadWord) (ok_or (leaf_named zones name) kind.UnknownLeaf) ≡ Ok leaf
    → leaf.0 < length (leaves_in zones)
word_there zones name true leaf e = absurd cc
word_there zones name false leaf e =
    known_there zones (leaf_named zones name) leaf (λ l is. leaf_there zones name l is) e

-- what is done to the leaf of a name
leaf_lawful : (zones : List ZoneSpec) (what : Leaf → ControlForm) (found : Result Leaf ScriptKind) (said : ControlForm)
    → ((leaf : Leaf) → found ≡ Ok leaf → IsLawfulControl zones (what leaf))
    → found >>= (λ leaf. Ok (what leaf)) ≡ Ok said → IsLawfulControl zones said
leaf_lawful zones what (Err why) said all e = absurd cc
leaf_lawful zones what (Ok leaf) said all e =
    let same : what leaf ≡ said = cc in subst (IsLawfulControl zones) same (all leaf refl)

-- ---- ranges

range_place_there : (zones : List ZoneSpec) (range : Range) (o : Option ℕ)
    → ((p : ℕ) → o ≡ Some p → p < length (range_names zones)) → option_map range_numbered o ≡ Some range
    → range.0 < length (ranges_in zones)
range_place_there zones range None within e = absurd cc
range_place_there zones range (Some p) within e =
    let same : range_numbered p ≡ range = cc in
    let there : p < length (range_names zones) = within p refl in
    let listed : p < length (ranges_in zones) = omega (arith, there, length-range_names zones) in
    subst (λ (r : Range). r.0 < length (ranges_in zones)) same listed

range_there : (zones : List ZoneSpec) (name : List ℕ) (range : Range) → range_named zones name ≡ Some range
    → range.0 < length (ranges_in zones)
range_there zones name range e = range_place_there zones range (position_from (same_text name) 0 (range_names zones))
    (λ p is. found_within (same_text name) (range_names zones) p (sym is)) e

zoned_by : (zones : List ZoneSpec) (range : Range) (leaf : Leaf) (shared : Bool) (said : ControlForm)
    → share_zone zones range leaf ≡ shared → range.0 < length (ranges_in zones) → leaf.0 < length (leaves_in zones)
    → cond shared (Ok (control.Recover range leaf)) (Err kind.NotInZone) ≡ Ok said → IsLawfulControl zones said
zoned_by zones range leaf true said is ranged leafed e =
    let same : control.Recover range leaf ≡ said = cc in
    let may : IsRecoverable zones range leaf
    = record { range_there = ranged; leaf_there = leafed; zoned = shared_zone zones range leaf is } in
    subst (IsLawfulControl zones) same may
zoned_by zones range leaf false said is ranged leafed e = absurd cc

-- what is done to the range of a name
ranged_by : (zones : List ZoneSpec) (named : Option Range) (what : Range → Result ControlForm ScriptKind)
    (said : ControlForm) → ((r : Range) → named ≡ Some r → r.0 < length (ranges_in zones))
    → ((r : Range) → r.0 < length (ranges_in zones) → what r ≡ Ok said → IsLawfulControl zones said)
    → ok_or named kind.UnknownRange >>= what ≡ Ok said → IsLawfulControl zones said
ranged_by zones None what said within lawful e = absurd cc
ranged_by zones (Some range) what said within lawful e = lawful range (within range refl) e

of_range : (zones : List ZoneSpec) (name : List ℕ) (what : Range → Result ControlForm ScriptKind) (said : ControlForm)
    → ((r : Range) → r.0 < length (ranges_in zones) → what r ≡ Ok said → IsLawfulControl zones said)
    → range_of zones name >>= what ≡ Ok said → IsLawfulControl zones said
of_range zones name what said lawful e =
    ranged_by zones (range_named zones name) what said (λ r is. range_there zones name r is) lawful e

-- what is done to the leaf and the range of two names
leafed_by : (zones : List ZoneSpec) (range : List ℕ) (found : Result Leaf ScriptKind)
    (what : Range → Leaf → Result ControlForm ScriptKind) (said : ControlForm)
    → ((leaf : Leaf) → found ≡ Ok leaf → leaf.0 < length (leaves_in zones))
    → ((r : Range) (leaf : Leaf) → r.0 < length (ranges_in zones) → leaf.0 < length (leaves_in zones)
    → what r leaf ≡ Ok said → IsLawfulControl zones said)
    → found >>= (λ leaf. range_of zones range >>= λ of. what of leaf) ≡ Ok said → IsLawfulControl zones said
leafed_by zones range (Err why) what said within lawful e = absurd cc
leafed_by zones range (Ok leaf) what said within lawful e = of_range zones range (λ of. what of leaf) said
    (λ r ranged is. lawful r leaf ranged (within leaf refl) is) e

of_names : (zones : List ZoneSpec) (range leaf : List ℕ) (what : Range → Leaf → Result ControlForm ScriptKind)
    (said : ControlForm)
    → ((r : Range) (leaf : Leaf) → r.0 < length (ranges_in zones) → leaf.0 < length (leaves_in zones)
    → what r leaf ≡ Ok said → IsLawfulControl zones said)
    → leaf_of zones leaf >>= (λ found. range_of zones range >>= λ of. what of found) ≡ Ok said
    → IsLawfulControl zones said
of_names zones range leaf what said lawful e = leafed_by zones range (leaf_of zones leaf) what said
    (λ found is. word_there zones leaf (has_space leaf) found is) lawful e

-- ---- lines of two words

abbrev says : ControlForm → Result ControlForm ScriptKind
says what = Ok what

said_lawful : (zones : List ZoneSpec) (what said : ControlForm) → IsLawfulControl zones what → says what ≡ Ok said
    → IsLawfulControl zones said
said_lawful zones what said lawful e = let same : what ≡ said = cc in subst (IsLawfulControl zones) same lawful

recover_lawful : (zones : List ZoneSpec) (range leaf : List ℕ) (said : ControlForm)
    → recover_control zones range leaf ≡ Ok said → IsLawfulControl zones said
recover_lawful zones range leaf said e = of_names zones range leaf (zoned_control zones) said
    (λ r l ranged leafed is. zoned_by zones r l (share_zone zones r l) said refl ranged leafed is) e

retire_lawful : (zones : List ZoneSpec) (range leaf : List ℕ) (said : ControlForm)
    → retire_control zones range leaf ≡ Ok said → IsLawfulControl zones said
retire_lawful zones range leaf said e = of_names zones range leaf (λ r l. says (control.Retire r l)) said
    (λ r l ranged leafed is. said_lawful zones (control.Retire r l) said (ranged, leafed) is) e

timed_by : (zones : List ZoneSpec) (time : Result ℤ ScriptKind) (range : List ℕ) (said : ControlForm)
    → ((z : ℤ) → time ≡ Ok z → pos 0 ≤ℤ z)
    → time >>= (λ z. range_of zones range >>= λ of. Ok (control.Trim of z)) ≡ Ok said → IsLawfulControl zones said
timed_by zones (Err why) range said moment e = absurd cc
timed_by zones (Ok z) range said moment e = of_range zones range (λ of. says (control.Trim of z)) said
    (λ r ranged is. said_lawful zones (control.Trim r z) said (ranged, moment z refl) is) e

known_time : (moment : Option ℤ) (z : ℤ) → ((m : ℤ) → moment ≡ Some m → pos 0 ≤ℤ m)
    → ok_or moment kind.BadNumber ≡ Ok z → pos 0 ≤ℤ z
known_time None z all e = absurd cc
known_time (Some m) z all e = let same : m ≡ z = cc in subst (λ (n : ℤ). pos 0 ≤ℤ n) same (all m refl)

time_lawful : (word : List ℕ) (spaced : Bool) (z : ℤ)
    → cond spaced (Err kind.BadWord) (ok_or (moment_of word) kind.BadNumber) ≡ Ok z → pos 0 ≤ℤ z
time_lawful word true z e = absurd cc
time_lawful word false z e = known_time (moment_of word) z (moment_lawful (number_of word)) e

trim_lawful : (zones : List ZoneSpec) (range before : List ℕ) (said : ControlForm)
    → trim_control zones range before ≡ Ok said → IsLawfulControl zones said
trim_lawful zones range before said e =
    timed_by zones (time_of before) range said (λ z is. time_lawful before (has_space before) z is) e

cut_by : (zones : List ZoneSpec) (cut : Option (List ℕ × List ℕ))
    (what : List ℕ → List ℕ → Result ControlForm ScriptKind) (said : ControlForm)
    → ((a b : List ℕ) → what a b ≡ Ok said → IsLawfulControl zones said)
    → ok_or cut kind.BadWord >>= (λ words. what words.0 words.1) ≡ Ok said → IsLawfulControl zones said
cut_by zones None what said lawful e = absurd cc
cut_by zones (Some words) what said lawful e = lawful words.0 words.1 e

-- ---- what stands behind a word

pub behind_lawful : (zones : List ZoneSpec) (what : ControlWord) (rest : List ℕ) (said : ControlForm)
    → control_of zones what rest ≡ Ok said → IsLawfulControl zones said
behind_lawful zones word.Down rest said e = leaf_lawful zones control.Down (leaf_of zones rest) said
    (λ leaf is. word_there zones rest (has_space rest) leaf is) e
behind_lawful zones word.Up rest said e = leaf_lawful zones control.Up (leaf_of zones rest) said
    (λ leaf is. word_there zones rest (has_space rest) leaf is) e
behind_lawful zones word.Recover rest said e =
    cut_by zones (cut_at space rest) (recover_control zones) said (λ a b is. recover_lawful zones a b said is) e
behind_lawful zones word.Trim rest said e =
    cut_by zones (cut_at space rest) (trim_control zones) said (λ a b is. trim_lawful zones a b said is) e
behind_lawful zones word.Retire rest said e =
    cut_by zones (cut_at space rest) (retire_control zones) said (λ a b is. retire_lawful zones a b said is) e

pub if_lawful : (zones : List ZoneSpec) (what : ControlWord) (rest : List ℕ) (said : Result ControlForm ScriptKind)
    → said ≡ control_of zones what rest → IfOk said (IsLawfulControl zones)
if_lawful zones what rest (Ok said) e = behind_lawful zones what rest said (sym e)
if_lawful zones what rest (Err why) e = tt
