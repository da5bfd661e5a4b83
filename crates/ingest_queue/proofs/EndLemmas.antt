-- What came of both files is what pouring them promises.
use Rattle.std.proofs.Common.{◌≡◌, ◌+◌, ℕ, Bool, true, false, not, List, [], ◌∷◌, ◌++◌, Option, Some, None, option_to_list, sym, refl, ap, ◌∙◌, subst, if◌then◌else◌}
use Rattle.std.proofs.Common.{Result, Ok, Err, IfOk, OnOk}
use Rattle.std.specs.List.{AllByRecursion, filter_map}
use Rattle.std.specs.declared.alloc.AllocError.{AllocError}
use Rattle.std.proofs.lemmas.List.{append-nil}
use Rattle.std.proofs.lemmas.List.Elements.{filter-append, filter_map-append}
use Rattle.ingest_queue.proofs.WeaveLemmas.{by_test, woven_by}
use Rattle.ingest_queue.specs.Coming.{AllCame, AllTaken, IsOffered, answered_by, came_of, end_by, offer_of, offered, poured_by, refusal_of, refused_by, rows_in, turn_of, turns}
use Rattle.ingest_queue.specs.Ends.{IsEndOf, refusals_of, refused_at, row_of, rows_of}
use Rattle.ingest_queue.specs.Feeding.{IsOf, numbered}
use Rattle.ingest_queue.specs.Offers.{answers_to, rows_offered, rows_written}
use Rattle.ingest_queue.specs.Pours.{AreTakenBy, IsBegun, IsPoured, IsTakenBy}
use Rattle.ingest_queue.specs.Roles.{AreFirst, each, is_of, of_file}
use Rattle.ingest_queue.specs.Weaves.{IsWeave}
use Rattle.ingest_queue.specs.declared.came.Came.{Came}
use Rattle.ingest_queue.specs.declared.came.Came.TheVariants as a_came
use Rattle.ingest_queue.specs.declared.ends.FileEnd.{FileEnd}
use Rattle.ingest_queue.specs.declared.ends.Poured.{Poured}
use Rattle.ingest_queue.specs.declared.refusals.RowRefused.TheVariants as refused
use Rattle.ingest_queue.specs.declared.row_writers.Offer.{Offer}
use Rattle.ingest_queue.specs.declared.row_writers.Wrote.{Wrote}
use Rattle.ingest_queue.specs.declared.row_writers.Wrote.TheVariants as wrote
use Rattle.ingest_queue.specs.declared.turns.Turn.{Turn}
use Rattle.mon_points.specs.declared.faults.RowFault.{RowFault}
use Rattle.mon_points.specs.declared.records.RowRead.{RowRead}
use Rattle.mon_points.specs.declared.records.RowRead.TheVariants as read
use Rattle.mon_value.specs.declared.rows.Row.{Row}

-- ---- one record more

-- what a list of one more comes to
more : {A B : Type 0} (f : A → Option B) (xs : List A) (x : A) → filter_map f (xs ++ x ∷ []) ≡ filter_map f xs ++ option_to_list (f x)
more {B = B} f xs x = filter_map-append f xs (x ∷ []) ∙ ap (λ l. filter_map f xs ++ l) (alone (f x) refl)
  where
    alone : (o : Option B) → f x ≡ o → filter_map f (x ∷ []) ≡ option_to_list (f x)
    alone None e = rw e refl
    alone (Some y) e = rw e refl

-- those of its own file grow by it, and those of the other one stay
own_more : (file : Bool) (all : List Came) (one : Came) → is_of file (turn_of one) ≡ true → came_of file (all ++ one ∷ []) ≡ came_of file all ++ one ∷ []
own_more file all one e = filter-append _ all (one ∷ []) ∙ ap (λ l. came_of file all ++ l) (ap (λ c. if c then one ∷ [] else []) e)

other_more : (file : Bool) (all : List Came) (one : Came) → is_of file (turn_of one) ≡ false → came_of file (all ++ one ∷ []) ≡ came_of file all
other_more file all one e = filter-append _ all (one ∷ []) ∙ ap (λ l. came_of file all ++ l) (ap (λ c. if c then one ∷ [] else []) e) ∙ append-nil (came_of file all)

written_more : (came : List Came) (one : Came) (o : List Offer) → option_to_list (offer_of one) ≡ o → rows_written (offered (came ++ one ∷ [])) ≡ rows_written (offered came) ++ rows_written o
written_more came one o e = ap rows_written (more offer_of came one ∙ ap (λ l. offered came ++ l) e) ∙ filter_map-append _ (offered came) o

-- an end where one record more came
end_more : (came : List Came) (one : Came) → end_by (came ++ one ∷ [])
    ≡ record { accepted = rows_written (offered came) ++ rows_written (option_to_list (offer_of one)); refused = filter_map refusal_of came ++ option_to_list (refusal_of one) }
end_more came one i = record { accepted = written_more came one (option_to_list (offer_of one)) refl i; refused = more refusal_of came one i }

-- what became of a record, in its own file
abbrev after : Came → FileEnd → FileEnd
after one end = record { accepted = end.accepted ++ rows_written (option_to_list (offer_of one)); refused = end.refused ++ option_to_list (refusal_of one) }

came_more : (all : List Came) (one : Came) → poured_by (all ++ one ∷ []) ≡ record {
  accepted = (poured_by all).accepted ++ rows_written (option_to_list (offer_of one));
  first = if (turn_of one).second then (poured_by all).first else after one (poured_by all).first;
  second = if (turn_of one).second then after one (poured_by all).second else (poured_by all).second;
}
came_more all one = by (turn_of one).second refl
  where
    by : (b : Bool) → (turn_of one).second ≡ b → poured_by (all ++ one ∷ []) ≡ record {
      accepted = (poured_by all).accepted ++ rows_written (option_to_list (offer_of one));
      first = if (turn_of one).second then (poured_by all).first else after one (poured_by all).first;
      second = if (turn_of one).second then after one (poured_by all).second else (poured_by all).second;
    }
    by false e =
        let first : end_by (came_of false (all ++ one ∷ [])) ≡ after one (end_by (came_of false all)) = ap end_by (own_more false all one (ap not e)) ∙ end_more (came_of false all) one in
        let second : end_by (came_of true (all ++ one ∷ [])) ≡ end_by (came_of true all) = ap end_by (other_more true all one e) in
        λ i. record {
          accepted = written_more all one (option_to_list (offer_of one)) refl i;
          first = (first ∙ ap (λ b. if b then end_by (came_of false all) else after one (end_by (came_of false all))) (sym e)) i;
          second = (second ∙ ap (λ b. if b then after one (end_by (came_of true all)) else end_by (came_of true all)) (sym e)) i;
        }
    by true e =
        let first : end_by (came_of false (all ++ one ∷ [])) ≡ end_by (came_of false all) = ap end_by (other_more false all one (ap not e)) in
        let second : end_by (came_of true (all ++ one ∷ [])) ≡ after one (end_by (came_of true all)) = ap end_by (own_more true all one e) ∙ end_more (came_of true all) one in
        λ i. record {
          accepted = written_more all one (option_to_list (offer_of one)) refl i;
          first = (first ∙ ap (λ b. if b then end_by (came_of false all) else after one (end_by (came_of false all))) (sym e)) i;
          second = (second ∙ ap (λ b. if b then after one (end_by (came_of true all)) else end_by (came_of true all)) (sym e)) i;
        }

-- a row was answered
pub row_more : (second : Bool) (number : ℕ) (row : Row) (answer : Wrote) (all : List Came) (old new : Poured) → old ≡ poured_by all → new ≡ answered_by second number row answer old
    → new ≡ poured_by (all ++ a_came.Row second number row answer ∷ [])
row_more second number row answer all old new was is = is ∙ ap (answered_by second number row answer) was ∙ by second answer ∙ sym (came_more all (a_came.Row second number row answer))
  where
    by : (second : Bool) (answer : Wrote) → answered_by second number row answer (poured_by all) ≡ record {
      accepted = (poured_by all).accepted ++ rows_written (record { row = row; answer = answer } ∷ []);
      first = if second then (poured_by all).first else after (a_came.Row second number row answer) (poured_by all).first;
      second = if second then after (a_came.Row second number row answer) (poured_by all).second else (poured_by all).second;
    }
    by false wrote.Written i = record {
      accepted = (poured_by all).accepted ++ row ∷ [];
      first = record { accepted = (poured_by all).first.accepted ++ row ∷ []; refused = sym (append-nil (poured_by all).first.refused) i };
      second = (poured_by all).second;
    }
    by true wrote.Written i = record {
      accepted = (poured_by all).accepted ++ row ∷ [];
      first = (poured_by all).first;
      second = record { accepted = (poured_by all).second.accepted ++ row ∷ []; refused = sym (append-nil (poured_by all).second.refused) i };
    }
    by false (wrote.Refused fault) i = record {
      accepted = sym (append-nil (poured_by all).accepted) i;
      first = record { accepted = sym (append-nil (poured_by all).first.accepted) i; refused = (poured_by all).first.refused ++ refused_at number (refused.Write fault) ∷ [] };
      second = (poured_by all).second;
    }
    by true (wrote.Refused fault) i = record {
      accepted = sym (append-nil (poured_by all).accepted) i;
      first = (poured_by all).first;
      second = record { accepted = sym (append-nil (poured_by all).second.accepted) i; refused = (poured_by all).second.refused ++ refused_at number (refused.Write fault) ∷ [] };
    }

-- a record was no row
pub fault_more : (second : Bool) (number : ℕ) (fault : RowFault) (all : List Came) (old new : Poured) → old ≡ poured_by all → new ≡ refused_by second (refused_at number (refused.Read fault)) old
    → new ≡ poured_by (all ++ a_came.Fault second number fault ∷ [])
fault_more second number fault all old new was is = is ∙ ap (refused_by second (refused_at number (refused.Read fault))) was ∙ by second ∙ sym (came_more all (a_came.Fault second number fault))
  where
    by : (second : Bool) → refused_by second (refused_at number (refused.Read fault)) (poured_by all) ≡ record {
      accepted = (poured_by all).accepted ++ [];
      first = if second then (poured_by all).first else after (a_came.Fault second number fault) (poured_by all).first;
      second = if second then after (a_came.Fault second number fault) (poured_by all).second else (poured_by all).second;
    }
    by false i = record {
      accepted = sym (append-nil (poured_by all).accepted) i;
      first = record { accepted = sym (append-nil (poured_by all).first.accepted) i; refused = (poured_by all).first.refused ++ refused_at number (refused.Read fault) ∷ [] };
      second = (poured_by all).second;
    }
    by true i = record {
      accepted = sym (append-nil (poured_by all).accepted) i;
      first = (poured_by all).first;
      second = record { accepted = sym (append-nil (poured_by all).second.accepted) i; refused = (poured_by all).second.refused ++ refused_at number (refused.Read fault) ∷ [] };
    }

pub row_added : (done : Result Unit AllocError) (one : Came) (second : Bool) (number : ℕ) (row : Row) (answer : Wrote) (all : List Came) (old new : Poured) → one ≡ a_came.Row second number row answer → old ≡ poured_by all
    → OnOk done (new ≡ answered_by second number row answer old) → OnOk done (new ≡ poured_by (all ++ one ∷ []))
row_added (Ok x) one second number row answer all old new e was is = row_more second number row answer all old new was is ∙ ap (λ c. poured_by (all ++ c ∷ [])) (sym e)
row_added (Err x) one second number row answer all old new e was is = is

pub fault_added : (done : Result Unit AllocError) (one : Came) (second : Bool) (number : ℕ) (fault : RowFault) (all : List Came) (old new : Poured) → one ≡ a_came.Fault second number fault → old ≡ poured_by all
    → OnOk done (new ≡ refused_by second (refused_at number (refused.Read fault)) old) → OnOk done (new ≡ poured_by (all ++ one ∷ []))
fault_added (Ok x) one second number fault all old new e was is = fault_more second number fault all old new was is ∙ ap (λ c. poured_by (all ++ c ∷ [])) (sym e)
fault_added (Err x) one second number fault all old new e was is = is

-- ---- all that came of a file

head_is : {A : Type 0} (x y : A) (xs ys : List A) → x ∷ xs ≡ y ∷ ys → x ≡ y
head_is x y xs ys e = cc

tail_is : {A : Type 0} (x y : A) (xs ys : List A) → x ∷ xs ≡ y ∷ ys → xs ≡ ys
tail_is x y xs ys e = cc

-- the rows that were offered of a file's records are the rows among these
offered_of : (file : Bool) (n : ℕ) (reads : List RowRead) (came : List Came) → turns came ≡ numbered file n reads → rows_offered (offered came) ≡ rows_of reads
offered_of file n [] [] e = refl
offered_of file n (read ∷ reads) [] e = cc
offered_of file n [] (one ∷ came) e = cc
offered_of file n (read ∷ reads) (a_came.Row second number row answer ∷ came) e =
    let head = head_is _ _ (turns came) (numbered file (n + 1) reads) e in
    let rest = offered_of file (n + 1) reads came (tail_is _ _ (turns came) (numbered file (n + 1) reads) e) in
    subst (λ r. row ∷ rows_offered (offered came) ≡ rows_of (r ∷ reads)) (ap (λ (t : Turn). t.read) head) (ap (λ l. row ∷ l) rest)
offered_of file n (read ∷ reads) (a_came.Fault second number fault ∷ came) e =
    let head = head_is _ _ (turns came) (numbered file (n + 1) reads) e in
    let rest = offered_of file (n + 1) reads came (tail_is _ _ (turns came) (numbered file (n + 1) reads) e) in
    subst (λ r. rows_offered (offered came) ≡ rows_of (r ∷ reads)) (ap (λ (t : Turn). t.read) head) rest

-- and those that were refused are told with their numbers
refused_of : (file : Bool) (n : ℕ) (reads : List RowRead) (came : List Came) → turns came ≡ numbered file n reads → filter_map refusal_of came ≡ refusals_of n reads (answers_to (offered came))
refused_of file n [] [] e = refl
refused_of file n (read ∷ reads) [] e = cc
refused_of file n [] (one ∷ came) e = cc
refused_of file n (read ∷ reads) (a_came.Row second number row wrote.Written ∷ came) e =
    let head = head_is _ _ (turns came) (numbered file (n + 1) reads) e in
    let rest = refused_of file (n + 1) reads came (tail_is _ _ (turns came) (numbered file (n + 1) reads) e) in
    subst (λ r. filter_map refusal_of came ≡ refusals_of n (r ∷ reads) (wrote.Written ∷ answers_to (offered came))) (ap (λ (t : Turn). t.read) head) rest
refused_of file n (read ∷ reads) (a_came.Row second number row (wrote.Refused fault) ∷ came) e =
    let head = head_is _ _ (turns came) (numbered file (n + 1) reads) e in
    let rest = refused_of file (n + 1) reads came (tail_is _ _ (turns came) (numbered file (n + 1) reads) e) in
    subst (λ r. refused_at number (refused.Write fault) ∷ filter_map refusal_of came ≡ refusals_of n (r ∷ reads) (wrote.Refused fault ∷ answers_to (offered came)))
    (ap (λ (t : Turn). t.read) head)
    (ap (λ k. refused_at k (refused.Write fault) ∷ filter_map refusal_of came) (ap (λ (t : Turn). t.number) head) ∙ ap (λ l. refused_at n (refused.Write fault) ∷ l) rest)
refused_of file n (read ∷ reads) (a_came.Fault second number fault ∷ came) e =
    let head = head_is _ _ (turns came) (numbered file (n + 1) reads) e in
    let rest = refused_of file (n + 1) reads came (tail_is _ _ (turns came) (numbered file (n + 1) reads) e) in
    subst (λ r. refused_at number (refused.Read fault) ∷ filter_map refusal_of came ≡ refusals_of n (r ∷ reads) (answers_to (offered came)))
    (ap (λ (t : Turn). t.read) head)
    (ap (λ k. refused_at k (refused.Read fault) ∷ filter_map refusal_of came) (ap (λ (t : Turn). t.number) head) ∙ ap (λ l. refused_at n (refused.Read fault) ∷ l) rest)

-- the records of those that came of a file are the file's records that came
turns_of : (file : Bool) (came : List Came) → turns (came_of file came) ≡ of_file file (turns came)
turns_of file [] = refl
turns_of file (one ∷ came) = by (is_of file (turn_of one)) refl (turns_of file came)
  where
    by : (b : Bool) → is_of file (turn_of one) ≡ b → turns (came_of file came) ≡ of_file file (turns came) → turns (came_of file (one ∷ came)) ≡ of_file file (turns (one ∷ came))
    by false e rest = rw e rest
    by true e rest = rw e (ap (λ l. turn_of one ∷ l) rest)

came_apart : (one : Came) → is_of false (turn_of one) ≡ not (is_of true (turn_of one))
came_apart one = refl

ended_so : (file : Bool) (reads : List RowRead) (came : List Came) → turns (came_of file came) ≡ numbered file 1 reads → IsEndOf reads (offered (came_of file came)) (end_by (came_of file came))
ended_so file reads came e = record {
  offered = offered_of file 1 reads (came_of file came) e;
  accepted = refl;
  refused = refused_of file 1 reads (came_of file came) e;
}

poured_so : (one other : List RowRead) (before after : List Offer) (Told : List Offer → Type 0) (came : List Came) (poured : Poured) → AllCame (each (numbered false 1 one) (numbered true 1 other)) (turns came) → IsOffered before after came → Told (offered came) → poured ≡ poured_by came
    → IsPoured one other before after Told poured
poured_so one other before after Told came poured all done told is =
    subst (IsPoured one other before after Told) (sym is)
    (record {
      made = offered came;
      grown = done.0;
      told = told;
      answered = done.1;
      one = offered (came_of false came);
      other = offered (came_of true came);
      woven = woven_by offer_of (by_test _ _ came_apart came);
      first = ended_so false one came (turns_of false came ∙ all false);
      second = ended_so true other came (turns_of true came ∙ all true);
      accepted = refl;
    })

pub poured_on : (answer : Result Poured AllocError) (one other : List RowRead) (before after : List Offer) (Told : List Offer → Type 0) (came : List Came) → OnOk answer (AllCame (each (numbered false 1 one) (numbered true 1 other)) (turns came)) → IsOffered before after came → Told (offered came) → IfOk answer (λ poured. poured ≡ poured_by came)
    → IfOk answer (IsPoured one other before after Told)
poured_on (Ok poured) one other before after Told came all done told is = poured_so one other before after Told came poured all done told is
poured_on (Err fault) one other before after Told came all done told is = tt

-- the same of records that are read alike
pub poured_alike : (answer : Result Poured AllocError) (one one' other other' : List RowRead) (before after : List Offer) (Told : List Offer → Type 0) → one ≡ one' → other ≡ other' → IfOk answer (IsPoured one other before after Told)
    → IfOk answer (IsPoured one' other' before after Told)
poured_alike answer one one' other other' before after Told e d poured =
    subst (λ reads. IfOk answer (IsPoured reads other' before after Told)) e
    (subst (λ reads. IfOk answer (IsPoured one reads before after Told)) d poured)

-- ---- what came at least

rows_numbered : (file : Bool) (n : ℕ) (reads : List RowRead) → rows_in (numbered file n reads) ≡ rows_of reads
rows_numbered file n [] = refl
rows_numbered file n (read.Row row ∷ reads) = ap (λ l. row ∷ l) (rows_numbered file (n + 1) reads)
rows_numbered file n (read.Fault fault ∷ reads) = rows_numbered file (n + 1) reads

rows_came : (came : List Came) → rows_offered (offered came) ≡ rows_in (turns came)
rows_came [] = refl
rows_came (a_came.Row second number row answer ∷ came) = ap (λ l. row ∷ l) (rows_came came)
rows_came (a_came.Fault second number fault ∷ came) = rows_came came

turns_apart : (turn : Turn) → is_of false turn ≡ not (is_of true turn)
turns_apart turn = refl

front_rows : (file : Bool) (reads : List RowRead) (all : Bool → List Turn) (got : List Turn) (first : AreFirst all got) → all file ≡ numbered file 1 reads → rows_in (of_file file got) ++ rows_in (first.rest file) ≡ rows_of reads
front_rows file reads all got first e =
    sym (filter_map-append _ (of_file file got) (first.rest file)) ∙ ap rows_in (first.whole file ∙ e) ∙ rows_numbered file 1 reads

pub begun_so : (one other : List RowRead) (before after : List Offer) (Told : List Offer → Type 0) (came : List Came) → AreFirst (each (numbered false 1 one) (numbered true 1 other)) (turns came) → IsOffered before after came → Told (offered came) → IsBegun one other before after Told
begun_so one other before after Told came first done told = record {
  made = offered came;
  grown = done.0;
  told = told;
  one = rows_in (of_file false (turns came));
  other = rows_in (of_file true (turns came));
  woven = subst (λ l. IsWeave l (rows_in (of_file false (turns came))) (rows_in (of_file true (turns came)))) (sym (rows_came came))
      (woven_by (λ (turn : Turn). row_of turn.read) (by_test _ _ turns_apart (turns came)));
  first_left = rows_in (first.rest false);
  second_left = rows_in (first.rest true);
  first = front_rows false one (each (numbered false 1 one) (numbered true 1 other)) (turns came) first refl;
  second = front_rows true other (each (numbered false 1 one) (numbered true 1 other)) (turns came) first refl;
}

-- ---- what is poured

taken_numbered : (takes : Row → Bool) (file : Bool) (n : ℕ) (reads : List RowRead) → AreTakenBy takes reads → AllByRecursion (λ (turn : Turn). IsTakenBy takes turn.read) (numbered file n reads)
taken_numbered takes file n [] all = tt
taken_numbered takes file n (read ∷ reads) all = (all.0, taken_numbered takes file (n + 1) reads all.1)

pub both_taken : (takes : Row → Bool) (one other : List RowRead) → AreTakenBy takes one → AreTakenBy takes other → AllTaken takes (each (numbered false 1 one) (numbered true 1 other))
both_taken takes one other first second false = taken_numbered takes false 1 one first
both_taken takes one other first second true = taken_numbered takes true 1 other second

pub of_its_file : (file : Bool) (n : ℕ) (reads : List RowRead) → IsOf file (numbered file n reads)
of_its_file file n [] = tt
of_its_file file n (read ∷ reads) = (refl, of_its_file file (n + 1) reads)
