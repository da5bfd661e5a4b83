-- Records that a reader takes one after another are all records of the text, and each takes a byte at least.
use Rattle.std.proofs.Common.{◌≡◌, ◌∙◌, ℕ, zero, suc, ◌+◌, ◌<◌, ◌≤◌, Bool, true, false, cond, List, [], ◌∷◌, length}
use Rattle.std.proofs.Common.{Option, Some, None, Bor, refl, sym, ap, subst, arith, inl, not}
use Rattle.std.specs.Prelude.{◌==◌}
use Rattle.std.specs.Bool.{MatchBool}
use Rattle.std.proofs.lemmas.Bool.{false≢true}
use Rattle.std.proofs.lemmas.List.{length-map}
use Rattle.std.proofs.lemmas.Option.{cond_some, same_Some}
use Rattle.csv.specs.Machine.{Read, ends_at_end, ends_with, field_after, fields_after, in_field, is_end, next_record}
use Rattle.csv.specs.Machine.{start_field, start_record, step}
use Rattle.csv.proofs.ReadFacts.{rows-end, rows-more}
use Rattle.csv.specs.Reading.{Reached, ReadRecord, default_config, is_bom, records_from, records_next, strip_bom}
use Rattle.csv.specs.declared.parser.Action.{Action}
use Rattle.csv.specs.declared.parser.Action.TheVariants as act
use Rattle.csv.specs.declared.parser.State.{State}
use Rattle.csv.specs.declared.parser.State.TheVariants as state
use Rattle.csv.specs.declared.reader.Reader.{Reader}
use Rattle.mon_schema.specs.Names.{SchemaLists}
use Rattle.mon_points.specs.Left.{IsBetween, records_in, records_left}
use Rattle.mon_points.specs.Records.{reads_of}
use Rattle.mon_points.specs.declared.records.RowRead.{RowRead}

-- ---- behind a record, the end of the text ends none

abbrev EndsBetween : State × Action → Type 0
EndsBetween next = is_end next.1 ≡ true → ends_at_end next.0 ≡ false

one_of : (b : Bool) (x y : State × Action) → EndsBetween x → EndsBetween y → EndsBetween (cond b x y)
one_of true x y here there = here
one_of false x y here there = there

after_line : (b : Bool) → EndsBetween (cond b state.AfterCr state.StartRecord, act.EndRecord)
after_line true e = refl
after_line false e = refl

no_end : {P : Type 0} → false ≡ true → P
no_end e = absurd (false≢true e)

in_field-between : (c : ℕ) → EndsBetween (in_field default_config c)
in_field-between c =
    one_of (c == 44) (state.StartField, act.EndField) _ no_end
    (one_of (ends_with default_config.terminator c) _ (state.InField, act.Copy) (after_line (c == 13)) no_end)

start_field-between : (c : ℕ) → EndsBetween (start_field default_config c)
start_field-between c = one_of (c == 34) (state.InQuoted, act.Skip) _ no_end (in_field-between c)

start_record-between : (c : ℕ) → EndsBetween (start_record default_config c)
start_record-between c =
    one_of (ends_with default_config.terminator c) (state.StartRecord, act.Skip) _ no_end (start_field-between c)

step-between : (s : State) (c : ℕ) → EndsBetween (step default_config s c)
step-between state.StartRecord c = start_record-between c
step-between state.StartField c = start_field-between c
step-between state.InField c = in_field-between c
step-between state.InQuoted c = one_of (c == 34) (state.AfterQuote, act.Skip) (state.InQuoted, act.Copy) no_end no_end
step-between state.InEscape c = no_end
step-between state.AfterQuote c = one_of (c == 34) (state.InQuoted, act.Copy) _ no_end (in_field-between c)
step-between state.InComment c = one_of (c == 10) (state.StartRecord, act.Skip) (state.InComment, act.Skip) no_end
    no_end
step-between state.AfterCr c = one_of (c == 10) (state.StartRecord, act.Skip) _ no_end (start_record-between c)

-- what is left behind a record of a text of n bytes
record IsBehind (n : ℕ) (p : Read) : Type 0 where
  between : ends_at_end p.1 ≡ false
  left : length p.2 ≤ n

by_end : (s : State) (c n : ℕ) (fields : List (List ℕ)) (xs : List ℕ) (later : Option Read) (b : Bool) (p : Read)
    → is_end (step default_config s c).1 ≡ b → length xs ≤ n
    → cond b (Some (fields, (step default_config s c).0, xs)) later ≡ Some p → (later ≡ Some p → IsBehind n p)
    → IsBehind n p
by_end s c n fields xs later true p end l e more =
    subst (IsBehind n) (same_Some (fields, (step default_config s c).0, xs) p e) record {
      between = step-between s c
          end;
      left = l;
    }
by_end s c n fields xs later false p end l e more = more e

behind : (n : ℕ) (s : State) (fields : List (List ℕ)) (field xs : List ℕ) (p : Read)
    → length xs ≤ n → next_record default_config s fields field xs ≡ Some p → IsBehind n p
unfolding next_record
behind n s fields field [] p l e =
    subst (IsBehind n) (cond_some (ends_at_end s) _ p e).1 record { between = refl; left = omega arith }
behind n s fields field (c ∷ xs) p l e =
    let next = step default_config s c in
    by_end s c n (fields_after next.1 fields field) xs _ (is_end next.1) p refl (omega arith) e
    (behind n next.0 (fields_after next.1 fields field) (field_after next.1 c field) xs p (omega arith))

-- a record that begins between records takes a byte
took : (s : State) (xs : List ℕ) (p : Read) → ends_at_end s ≡ false → next_record default_config s [] [] xs ≡ Some p
    → (length p.2 < length xs) × (ends_at_end p.1 ≡ false)
unfolding next_record
took s [] p between e = let none : None ≡ Some p = rw between at e in absurd cc
took s (c ∷ xs) p between e =
    let next = step default_config s c in
    let found = by_end s c (length xs) (fields_after next.1 [] []) xs _ (is_end next.1) p refl (omega arith) e
    (behind (length xs) next.0 (fields_after next.1 [] []) (field_after next.1 c []) xs p (omega arith)) in
    let left = found.left in
    (omega arith, found.between)

-- ---- the records from a state on, one after another

next-same : (n m : ℕ) (r : Option Read)
    → ((p : Read) → r ≡ Some p → records_from default_config n p.1 p.2 ≡ records_from default_config m p.1 p.2)
    → records_next (records_from default_config n) r ≡ records_next (records_from default_config m) r
next-same n m None h = refl
next-same n m (Some p) h = ap (λ more. p.0 ∷ more) (h p refl)

-- any number above the text's length counts enough
enough : (n m : ℕ) (s : State) (xs : List ℕ) → ends_at_end s ≡ false → length xs < n → length xs < m
    → records_from default_config n s xs ≡ records_from default_config m s xs
unfolding records_from
enough zero m s xs between l k = absurd (omega arith)
enough (suc n) zero s xs between l k = absurd (omega arith)
enough (suc n) (suc m) s xs between l k = next-same n m (next_record default_config s [] [] xs) (λ p is.
    let after = took s xs p between is in
    let less = after.0 in
    enough n m p.1 p.2 after.1 (omega arith) (omega arith))

first_from : (n : ℕ) (s : State) (xs : List ℕ) (p : Read) → ends_at_end s ≡ false → length xs < n
    → next_record default_config s [] [] xs ≡ Some p
    → records_from default_config n s xs ≡ p.0 ∷ records_in p.1 (Some p.2)
unfolding records_from
first_from zero s xs p between l is = absurd (omega arith)
first_from (suc n) s xs p between l is =
    let after = took s xs p between is in
    let less = after.0 in
    rw is (ap (λ more. p.0 ∷ more) (enough n (length p.2 + 1) p.1 p.2 after.1 (omega arith) (omega arith)))

none_from : (n : ℕ) (s : State) (xs : List ℕ) → next_record default_config s [] [] xs ≡ None
    → records_from default_config n s xs ≡ []
unfolding records_from
none_from zero s xs none = refl
none_from (suc n) s xs none = rw none refl

-- ---- what a reader takes

-- a reader that has taken a record
record Took (old new : Reader (Bor (List ℕ))) (cells : List (List ℕ)) : Type 0 where
  is_between : IsBetween new
  taken : records_left false old ≡ cells ∷ records_left false new

takes : (old new : Reader (Bor (List ℕ))) (cells : List (List ℕ)) → IsBetween old → new.first ≡ true
    → ReadRecord (λ bytes. Some bytes.now) old new true cells → Took old new cells
unfolding Reached
takes old new cells is first read =
    let more = rows-more (λ (bytes : Bor (List ℕ)). Some bytes.now) old new cells default_config old.state is.rest
    is.rest [] is.config is.source (refl, refl) read in
    let p = more.2.0 in
    let next : next_record default_config old.state [] [] is.rest ≡ Some p = more.2.1 in
    let state : p.1 ≡ new.state = more.2.3.0 in
    let left : p.2 ≡ more.0 = more.2.3.1 in
    let after = took old.state is.rest p is.between next in
    let all : records_left false old ≡ p.0 ∷ records_in p.1 (Some p.2) =
    ap (records_in old.state) is.source ∙ first_from (length is.rest + 1) old.state is.rest p is.between (omega arith)
    next in
    let rest : records_in p.1 (Some p.2) ≡ records_left false new =
    ap (λ s. records_in s (Some p.2)) state ∙ (ap (λ xs. records_in new.state (Some xs)) left
    ∙ ap (records_in new.state) (sym more.1)) in
    record {
      is_between = record {
        plain = read.3 ∙ is.plain;
        ready = inl first;
        config = read.2 ∙ is.config;
        between = ap ends_at_end (sym state) ∙ after.1;
        rest = more.0;
        source = more.1;
      };
      taken = all ∙ (ap (λ more. p.0 ∷ more) rest ∙ ap (λ c. c ∷ records_left false new) (sym more.2.2));
    }

-- a reader that finds no record has none left
ends : (old new : Reader (Bor (List ℕ))) (cells : List (List ℕ)) → IsBetween old
    → ReadRecord (λ bytes. Some bytes.now) old new false cells → records_left false old ≡ []
ends old new cells is read =
    let none = rows-end (λ (bytes : Bor (List ℕ)). Some bytes.now) old new cells default_config is.rest is.config
    is.source read in
    ap (records_in old.state) is.source ∙ none_from (length is.rest + 1) old.state is.rest none

module _ (old new : Reader (Bor (List ℕ))) (cells : List (List ℕ)) (is : IsBetween old) (first : new.first ≡ true) where
  -- what a read leaves, whether it has found a record or none
  pub still_between : (found : Bool) → ReadRecord (λ bytes. Some bytes.now) old new found cells → not found ≡ false
      → IsBetween new
  still_between true read more = (takes old new cells is first read).is_between
  still_between false read more = absurd (false≢true (sym more))

  -- what a read has found
  pub reads_one : (found : Bool) → ReadRecord (λ bytes. Some bytes.now) old new found cells
      → MatchBool found (records_left false old ≡ cells ∷ records_left (not found) new) (records_left false old ≡ [])
  reads_one true read = (takes old new cells is first read).taken
  reads_one false read = ends old new cells is read

-- ---- a file has no more records than bytes

next-few : (n m : ℕ) (r : Option Read)
    → ((p : Read) → r ≡ Some p → length (records_from default_config n p.1 p.2) < m)
    → length (records_next (records_from default_config n) r) ≤ m
next-few n m None h = omega arith
next-few n m (Some p) h = let l = h p refl in omega arith

records_from-few : (n : ℕ) (s : State) (xs : List ℕ) → ends_at_end s ≡ false
    → length (records_from default_config n s xs) ≤ length xs
unfolding records_from
records_from-few zero s xs between = omega arith
records_from-few (suc n) s xs between =
    next-few n (length xs) (next_record default_config s [] [] xs) (λ p is.
    let after = took s xs p between is in
    let less = after.0 in
    let few = records_from-few n p.1 p.2 after.1 in
    omega arith)

bom-few : (b : Bool) (x y z : ℕ) (rest : List ℕ) → length (cond b rest (x ∷ y ∷ z ∷ rest)) ≤ length (x ∷ y ∷ z ∷ rest)
bom-few true x y z rest = omega arith
bom-few false x y z rest = omega arith

strip_bom-few : (xs : List ℕ) → length (strip_bom xs) ≤ length xs
unfolding strip_bom
strip_bom-few [] = omega arith
strip_bom-few (a ∷ []) = omega arith
strip_bom-few (a ∷ b ∷ []) = omega arith
strip_bom-few (a ∷ b ∷ c ∷ rest) = bom-few (is_bom a b c) a b c rest

pub reads_of-few : (schemas : SchemaLists) (bytes : List ℕ) → length (reads_of schemas bytes) ≤ length bytes
reads_of-few schemas bytes =
    let xs = strip_bom bytes in
    omega (
      arith,
      length-map {A = List (List ℕ)} {B = RowRead},
      strip_bom-few bytes,
      records_from-few (length xs + 1)
          state.StartRecord xs refl,
    )
