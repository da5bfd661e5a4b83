-- The records of a feed, one by one: what those that are left come to, behind those that were fed.
use Rattle.std.proofs.Common.{◌≡◌, ℕ, ◌+◌, List, [], ◌∷◌, ◌++◌, refl, sym, ap, ◌∙◌, subst, append_assoc, append-nil}
use Rattle.std.proofs.Common.{inl, inr, Result, Ok, Err, OnOk}
use Rattle.know.specs.Knowledge.{Knowledge}
use Rattle.line_runs.specs.Feeding.{AreFed, ReadRefused, RecordFed, RowRefusedFor, RowTaken}
use Rattle.ingest_queue.specs.declared.ends.FileEnd.{FileEnd}
use Rattle.mon_config.specs.declared.config.Config.{Config}
use Rattle.mon_points.specs.declared.faults.RowFault.{RowFault}
use Rattle.mon_points.specs.declared.records.RowRead.{RowRead}
use Rattle.mon_points.specs.declared.records.RowRead.TheVariants as read
use Rattle.mon_value.specs.declared.rows.Row.{Row}
use Rattle.ingest_queue.specs.Ends.{refused_at}
use Rattle.ingest_queue.specs.declared.refusals.RowRefusal.{RowRefusal}
use Rattle.ingest_queue.specs.declared.refusals.RowRefused.TheVariants as refused

-- whatever the records that are left come to, all come to that behind what was fed so far
pub record Feeding (config : Config) (all left : List RowRead) (fed : FileEnd) (n : ℕ) (first now : Knowledge)
    : Type 0 where
  pub whole : (rows : List Row) (refusals : List RowRefusal) (last : Knowledge)
      → AreFed config (n + 1) left rows refusals now last
      → AreFed config 1 all (fed.accepted ++ rows) (fed.refused ++ refusals) first last

module _ (config : Config) (all : List RowRead) (first : Knowledge) where
  abbrev AllFed : List Row → List RowRefusal → Knowledge → Type 0
  AllFed rows refusals last = AreFed config 1 all rows refusals first last

  fed_as : (rows rows' : List Row) (refusals refusals' : List RowRefusal) (last : Knowledge) → rows ≡ rows'
      → refusals ≡ refusals' → AllFed rows refusals last → AllFed rows' refusals' last
  fed_as rows rows' refusals refusals' last a b fed =
      subst (λ (r : List Row). AllFed r refusals' last) a (subst (λ (r : List RowRefusal). AllFed rows r last) b fed)

  pub feeding_first : (left : List RowRead) (fed : FileEnd) → left ≡ all → fed.accepted ≡ [] → fed.refused ≡ []
      → Feeding config all left fed 0 first first
  feeding_first left fed same none none' = record {
    whole = λ rows refusals last done. fed_as rows (fed.accepted ++ rows) refusals (fed.refused ++ refusals) last
        (ap (λ w. w ++ rows) (sym none)) (ap (λ w. w ++ refusals) (sym none'))
        (subst (λ (l : List RowRead). AreFed config 1 l rows refusals first last) same done);
  }

  module _ (fed fed' : FileEnd) (n : ℕ) (now now' : Knowledge) (rest : List RowRead) where
    row_taken : (row : Row) → RowTaken config row fed fed' now now' → Feeding config all (read.Row row ∷ rest) fed n first
        now → Feeding config all rest fed' (n + 1) first now'
    row_taken row did so_far = record {
      whole = λ rows refusals last done. fed_as (fed.accepted ++ row ∷ rows) (fed'.accepted ++ rows)
          (fed.refused ++ refusals) (fed'.refused ++ refusals) last
          (sym (append_assoc fed.accepted (row ∷ []) rows) ∙ ap (λ w. w ++ rows) (sym did.accepted))
          (ap (λ w. w ++ refusals) (sym did.refused))
          (so_far.whole (row ∷ rows) refusals last (now', inl (rows, refl, did.taken, done)));
    }

    row_refused : (row : Row) → RowRefusedFor config (n + 1) row fed fed' now now'
        → Feeding config all (read.Row row ∷ rest) fed n first now → Feeding config all rest fed' (n + 1) first now'
    row_refused row did so_far = record {
      whole = λ rows refusals last done.
          let told = refused_at (n + 1) (refused.Write did.fault) in
          fed_as (fed.accepted ++ rows) (fed'.accepted ++ rows) (fed.refused ++ told ∷ refusals)
          (fed'.refused ++ refusals) last (ap (λ w. w ++ rows) (sym did.accepted))
          (sym (append_assoc fed.refused (told ∷ []) refusals) ∙ ap (λ w. w ++ refusals) (sym did.refused))
          (so_far.whole rows (told ∷ refusals) last (now', inr (did.fault, refusals, refl, did.cause, done)));
    }

    read_refused : (fault : RowFault) → ReadRefused config (n + 1) fault fed fed' now now'
        → Feeding config all (read.Fault fault ∷ rest) fed n first now → Feeding config all rest fed' (n + 1) first now'
    read_refused fault did so_far = record {
      whole = λ rows refusals last done.
          let told = refused_at (n + 1) (refused.Read fault) in
          fed_as (fed.accepted ++ rows) (fed'.accepted ++ rows) (fed.refused ++ told ∷ refusals)
          (fed'.refused ++ refusals) last (ap (λ w. w ++ rows) (sym did.accepted))
          (sym (append_assoc fed.refused (told ∷ []) refusals) ∙ ap (λ w. w ++ refusals) (sym did.refused))
          (so_far.whole rows (told ∷ refusals) last (
            refusals,
            refl,
            subst (λ (k : Knowledge). AreFed config (n + 1 + 1) rest rows refusals k last) did.same done,
          ));
    }

    one_fed : (one : RowRead) → RecordFed config (n + 1) one fed fed' now now'
        → Feeding config all (one ∷ rest) fed n first now → Feeding config all rest fed' (n + 1) first now'
    one_fed (read.Row row) did so_far = elim did [
      | inl taken ↦ row_taken row taken so_far
      | inr why ↦ row_refused row why so_far
    ]
    one_fed (read.Fault fault) did so_far = read_refused fault did so_far

    pub feeding_more : (left : List RowRead) (one : RowRead) (number : ℕ) → left ≡ one ∷ rest → number ≡ n + 1
        → RecordFed config number one fed fed' now now' → Feeding config all left fed n first now
        → Feeding config all rest fed' number first now'
    feeding_more left one number next count did so_far =
        subst (λ k. Feeding config all rest fed' k first now') (sym count)
        (one_fed one (subst (λ k. RecordFed config k one fed fed' now now') count did)
        (subst (λ (l : List RowRead). Feeding config all l fed n first now) next so_far))

  pub feeding_last : (left : List RowRead) (fed : FileEnd) (n : ℕ) (now : Knowledge) → left ≡ []
      → Feeding config all left fed n first now → AreFed config 1 all fed.accepted fed.refused first now
  feeding_last left fed n now none so_far =
      fed_as (fed.accepted ++ []) fed.accepted (fed.refused ++ []) fed.refused now (append-nil fed.accepted)
      (append-nil fed.refused)
      (so_far.whole [] [] now (subst (λ (l : List RowRead). AreFed config (n + 1) l [] [] now now) (sym none)
      (refl, refl, refl)))

-- ---- exits

pub if_ok : {T E : Type 0} {P Q : Type 0} (r : Result T E) → OnOk r P → (P → Q) → OnOk r Q
if_ok (Ok x) p f = f p
if_ok (Err e) p f = tt

pub if_both : {T E : Type 0} {P P' Q : Type 0} (r : Result T E) → OnOk r P → OnOk r P' → (P → P' → Q) → OnOk r Q
if_both (Ok x) p q f = f p q
if_both (Err e) p q f = tt
