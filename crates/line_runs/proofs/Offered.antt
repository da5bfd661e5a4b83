-- Rows that were offered one after another: what they did all together, and those of one file among them.
use Rattle.std.proofs.Common.{◌≡◌, ◌∙◌, ℕ, ◌+◌, List, [], ◌∷◌, ◌++◌, refl, sym, subst, inl, inr, Result, Ok, Err}
use Rattle.std.specs.Prelude.{IfOk, OnErr}
use Rattle.history_book.specs.Histories.{AreFronts}
use Rattle.ingest_queue.specs.Ends.{refusals_of, rows_of}
use Rattle.ingest_queue.specs.Offers.{answers_to, rows_offered, rows_written}
use Rattle.ingest_queue.specs.Pours.{AreTakenBy, IsPoured, IsTakenBy}
use Rattle.ingest_queue.specs.Weaves.{IsWeave, ended, from_one, from_other}
use Rattle.ingest_queue.specs.declared.ends.Poured.{Poured}
use Rattle.ingest_queue.specs.declared.row_writers.Offer.{Offer}
use Rattle.ingest_queue.specs.declared.row_writers.Wrote.{Wrote}
use Rattle.ingest_queue.specs.declared.row_writers.Wrote.TheVariants as wrote
use Rattle.know.specs.Knowledge.{Knowledge}
use Rattle.line_runs.specs.Feeding.{AreOffered, HasOffered, WasAnswered, WerePoured}
use Rattle.mon_config.specs.declared.config.Config.{Config}
use Rattle.mon_points.proofs.ReadFitsLemmas.{reads_fit}
use Rattle.mon_points.specs.Fitting.{ReadFits}
use Rattle.mon_points.specs.Records.{reads_of}
use Rattle.mon_points.specs.declared.records.RowRead.{RowRead}
use Rattle.mon_points.specs.declared.records.RowRead.TheVariants as read
use Rattle.mon_schema.specs.Fits.{fits}
use Rattle.mon_schema.specs.Names.{SchemaLists}
use Rattle.mon_store.specs.Writes.{IsUnwritten}
use Rattle.mon_value.specs.declared.rows.Row.{Row}
use Rattle.run_traces.proofs.ListFacts.{all_as}
use Rattle.line_runs.proofs.FeedParts.{Part, part_both, part_refused, part_taken, unwritten_itself, unwritten_through}
use Rattle.line_runs.proofs.FileRecords.{AreFedAmid, HasGap, gap_both, refused_gap, taken_gap}

module _ (config : Config) where
  -- ---- one offer more

  pub offered_none : (x : Knowledge) → AreOffered config [] x x
  offered_none x = unwritten_itself config x

  offered_still : (offers : List Offer) (x y z : Knowledge) → AreOffered config offers x y → IsUnwritten y z
      → AreOffered config offers x z
  offered_still [] x y z offered un = unwritten_through config x y z offered un
  offered_still (offer ∷ offers) x y z offered un =
      (offered.0, offered.1, offered.2, offered.3, offered_still offers offered.1 y z offered.4 un)

  offered_more : (offers : List Offer) (offer : Offer) (x y z : Knowledge) → AreOffered config offers x y
      → WasAnswered config offer.row offer.answer y z → AreOffered config (offers ++ offer ∷ []) x z
  offered_more [] offer x y z offered answered = (y, z, offered, answered, unwritten_itself config z)
  offered_more (other ∷ offers) offer x y z offered answered =
      (offered.0, offered.1, offered.2, offered.3, offered_more offers offer offered.1 y z offered.4 answered)

  -- ---- all of them

  answered_gap : (row : Row) (answer : Wrote) (x y : Knowledge) → WasAnswered config row answer x y → HasGap config x y
  answered_gap row wrote.Written x y answered = taken_gap config row x y answered
  answered_gap row (wrote.Refused fault) x y answered = refused_gap config x y answered.unwritten

  answered_part : (row : Row) (answer : Wrote) (offers : List Offer) (x y z : Knowledge)
      → WasAnswered config row answer x y → Part config y z (rows_written offers)
      → Part config x z (rows_written (record { row = row; answer = answer } ∷ offers))
  answered_part row wrote.Written offers x y z answered rest =
      part_both config x y z (row ∷ []) (rows_written offers) (part_taken config row x y answered) rest
  answered_part row (wrote.Refused fault) offers x y z answered rest =
      part_both config x y z [] (rows_written offers) (part_refused config x y answered.unwritten) rest

  -- they did just what those did that were written
  pub offered_part : (offers : List Offer) (x z : Knowledge) → AreOffered config offers x z
      → Part config x z (rows_written offers)
  offered_part [] x z offered = part_refused config x z offered
  offered_part (offer ∷ offers) x z offered =
      part_both config x offered.0 z [] (rows_written (offer ∷ offers))
      (part_refused config x offered.0 offered.2)
      (answered_part offer.row offer.answer offers offered.0 offered.1 z offered.3
      (offered_part offers offered.1 z offered.4))

  -- ---- those of one file

  -- the next offer of a file, behind others
  record NextOwn (offer : Offer) (own others : List Offer) (x z : Knowledge) : Type 0 where
    now : Knowledge
    mid : Knowledge
    gap : HasGap config x now
    answered : WasAnswered config offer.row offer.answer now mid
    left : List Offer
    rest : List Offer
    woven : IsWeave left own rest
    offered : AreOffered config left mid z

  next_own : (offer : Offer) (own some : List Offer) {made others : List Offer} (x z : Knowledge)
      → IsWeave made some others → some ≡ offer ∷ own → AreOffered config made x z → NextOwn offer own others x z
  next_own offer own some x z ended is offered = absurd cc
  next_own offer own some x z (from_one {x = first} {all = all} {one = one} {other = other} woven) is offered =
      let same : first ≡ offer = cc in
      let rest : one ≡ own = cc in
      record {
        now = offered.0;
        mid = offered.1;
        gap = refused_gap config x offered.0 offered.2;
        answered = subst (λ (o : Offer). WasAnswered config o.row o.answer offered.0 offered.1) same offered.3;
        left = all;
        rest = other;
        woven = subst (λ (l : List Offer). IsWeave all l other) rest woven;
        offered = offered.4;
      }
  next_own offer own some x z (from_other {x = first} {all = all} {one = one} {other = other} woven) is offered =
      let next = next_own offer own one offered.1 z woven is offered.4 in
      record {
        now = next.now;
        mid = next.mid;
        gap = gap_both config x offered.1 next.now
            (gap_both config x offered.0 offered.1 (refused_gap config x offered.0 offered.2)
            (answered_gap first.row first.answer offered.0 offered.1 offered.3)) next.gap;
        answered = next.answered;
        left = next.left;
        rest = next.rest;
        woven = next.woven;
        offered = next.offered;
      }

  one_amid : (n : ℕ) (row : Row) (answer : Wrote) (reads : List RowRead) (own : List Offer) (x now mid z : Knowledge)
      → HasGap config x now → WasAnswered config row answer now mid
      → AreFedAmid config (n + 1) reads (rows_written own) (refusals_of (n + 1) reads (answers_to own)) mid z
      → AreFedAmid config n (read.Row row ∷ reads) (rows_written (record { row = row; answer = answer } ∷ own))
      (refusals_of n (read.Row row ∷ reads) (answer ∷ answers_to own)) x z
  one_amid n row wrote.Written reads own x now mid z gap answered rest =
      (now, mid, gap, inl (rows_written own, refl, answered, rest))
  one_amid n row (wrote.Refused fault) reads own x now mid z gap answered rest =
      (now, mid, gap, inr (fault, refusals_of (n + 1) reads (answers_to own), refl, answered, rest))

  -- what the offers of a file came to, among those that they are woven into
  pub offered_amid : (n : ℕ) (reads : List RowRead) (made own others : List Offer) (x z : Knowledge)
      → IsWeave made own others → AreOffered config made x z → rows_offered own ≡ rows_of reads
      → AreFedAmid config n reads (rows_written own) (refusals_of n reads (answers_to own)) x z
  offered_amid n [] made [] others x z woven offered same =
      (refl, refl, record { others = rows_written made; part = offered_part made x z offered })
  offered_amid n [] made (offer ∷ own) others x z woven offered same = absurd cc
  offered_amid n (read.Fault fault ∷ reads) made own others x z woven offered same = (
    refusals_of (n + 1) reads (answers_to own),
    refl,
    offered_amid (n + 1) reads made own others x z woven offered same,
  )
  offered_amid n (read.Row row ∷ reads) made [] others x z woven offered same = absurd cc
  offered_amid n (read.Row row ∷ reads) made (offer ∷ own) others x z woven offered same =
      let first : offer.row ≡ row = cc in
      let rest : rows_offered own ≡ rows_of reads = cc in
      let next = next_own offer own (offer ∷ own) x z woven refl offered in
      subst (λ (r : Row). AreFedAmid config n (read.Row r ∷ reads) (rows_written (offer ∷ own))
      (refusals_of n (read.Row r ∷ reads) (answers_to (offer ∷ own))) x z) first
      (one_amid n offer.row offer.answer reads own x next.now next.mid z next.gap next.answered
      (offered_amid (n + 1) reads next.left own next.rest next.mid z next.woven next.offered rest))

-- ---- rows that were written

one_written : (offer : Offer) (answer : Wrote) (all one other : List Offer)
    → IsWeave (rows_written all) (rows_written one) (rows_written other)
    → IsWeave (rows_written (record { row = offer.row; answer = answer } ∷ all))
    (rows_written (record { row = offer.row; answer = answer } ∷ one)) (rows_written other)
one_written offer wrote.Written all one other woven = from_one woven
one_written offer (wrote.Refused fault) all one other woven = woven

other_written : (offer : Offer) (answer : Wrote) (all one other : List Offer)
    → IsWeave (rows_written all) (rows_written one) (rows_written other)
    → IsWeave (rows_written (record { row = offer.row; answer = answer } ∷ all)) (rows_written one)
    (rows_written (record { row = offer.row; answer = answer } ∷ other))
other_written offer wrote.Written all one other woven = from_other woven
other_written offer (wrote.Refused fault) all one other woven = woven

-- those of all offers are those of either file's, woven together
pub written_woven : {made one other : List Offer} → IsWeave made one other
    → IsWeave (rows_written made) (rows_written one) (rows_written other)
written_woven ended = ended
written_woven (from_one {x = x} {all = all} {one = one} {other = other} rest) =
    one_written x x.answer all one other (written_woven rest)
written_woven (from_other {x = x} {all = all} {one = one} {other = other} rest) =
    other_written x x.answer all one other (written_woven rest)

-- ---- a writer

-- that offered one row more
pub more_offered : (config later now : Config) (caller same next : ℕ) (offers : List Offer) (offer : Offer)
    (x y z : Knowledge) → now ≡ later → next ≡ same
    → HasOffered config later caller same offers x y → WasAnswered later offer.row offer.answer y z
    → HasOffered config now caller next (offers ++ offer ∷ []) x z
more_offered config later now caller same next offers offer x y z store pass so_far answered = record {
  store = store ∙ so_far.store;
  pass = pass ∙ so_far.pass;
  offered = offered_more config offers offer x y z so_far.offered
      (subst (λ (c : Config). WasAnswered c offer.row offer.answer y z) so_far.store answered);
}

-- or could not
pub still_offered : (config later now : Config) (caller same next : ℕ) (offers : List Offer) (x y z : Knowledge)
    → now ≡ later → next ≡ same → HasOffered config later caller same offers x y → IsUnwritten y z
    → HasOffered config now caller next offers x z
still_offered config later now caller same next offers x y z store pass so_far un = record {
  store = store ∙ so_far.store;
  pass = pass ∙ so_far.pass;
  offered = offered_still config offers x y z so_far.offered un;
}

-- ---- what a pour asks of its files, and what it answers

read_taken : (schemas : SchemaLists) (one : RowRead) → ReadFits schemas one → IsTakenBy (fits schemas) one
read_taken schemas (read.Row row) is = is
read_taken schemas (read.Fault fault) is = tt

pub reads_taken : (schemas : SchemaLists) (bytes : List ℕ) → AreTakenBy (fits schemas) (reads_of schemas bytes)
reads_taken schemas bytes =
    all_as (ReadFits schemas) (IsTakenBy (fits schemas)) (read_taken schemas) (reads_of schemas bytes)
    (reads_fit schemas bytes)

module _ (config later : Config) (caller same : ℕ) (x y z : Knowledge) (last : z ≡ y) where
  pub fronts_at : (offers : List Offer) → HasOffered config later caller same offers x y → AreFronts x.seen z.seen
  fronts_at offers told = subst (λ (k : Knowledge). AreFronts x.seen k.seen) (sym last)
      (offered_part config offers x y told.offered).still.fronts

  poured_at : (one other : List RowRead) (past now : List Offer) (ends : Poured)
      → IsPoured one other past now (λ made. HasOffered config later caller same made x y) ends
      → WerePoured config one other x z ends
  poured_at one other past now ends poured = record {
    made = poured.made;
    offered = subst (λ (k : Knowledge). AreOffered config poured.made x k) (sym last) poured.told.offered;
    one = poured.one;
    other = poured.other;
    woven = poured.woven;
    first = poured.first;
    second = poured.second;
    accepted = poured.accepted;
  }

  -- of files as they were lent
  pub answered_at : {E : Type 0} (held : Config) (one one_lent other other_lent : List ℕ) (past now : List Offer)
      (answer : Result Poured E) → held ≡ config → one_lent ≡ one → other_lent ≡ other
      → IfOk answer (IsPoured (reads_of held.schemas one_lent) (reads_of held.schemas other_lent) past now
      (λ made. HasOffered config later caller same made x y))
      → IfOk answer (WerePoured config (reads_of config.schemas one) (reads_of config.schemas other) x z)
  answered_at held one one_lent other other_lent past now (Ok ends) same_config same_one same_other poured =
      subst (λ (l : List ℕ). WerePoured config (reads_of config.schemas one) (reads_of config.schemas l) x z ends)
      same_other
      (subst (λ (l : List ℕ). WerePoured config (reads_of config.schemas l) (reads_of config.schemas other_lent) x z
      ends) same_one
      (subst (λ (c : Config). WerePoured config (reads_of c.schemas one_lent) (reads_of c.schemas other_lent) x z ends)
      same_config
      (poured_at (reads_of held.schemas one_lent) (reads_of held.schemas other_lent) past now ends poured)))
  answered_at held one one_lent other other_lent past now (Err fault) same_config same_one same_other poured = tt

-- ---- exits

pub err_of : {T E P : Type 0} (answer : Result T E) → P → OnErr answer P
err_of (Ok x) is = tt
err_of (Err e) is = is
