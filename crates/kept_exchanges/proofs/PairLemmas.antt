-- Rows that are taken from the end of a list, one for each that comes.
use Rattle.std.proofs.Common.{◌≡◌, ◌∙◌, ◌++◌, Option, Some, None, List, [], ◌∷◌, append-nil, append_assoc, refl, sym, ap, subst}
use Rattle.std.specs.List.{cons_option}
use Rattle.std.specs.Option.{option_to_list}
use Rattle.std.specs.Prelude.{IsPermutation}
use Rattle.std.proofs.lemmas.List.{map-append}
use Rattle.std.proofs.lemmas.List.Sorted.{IsPermutation-append_comm, IsPermutation-append_left}
use Rattle.std.proofs.lemmas.List.Sorted.{IsPermutation-append_right, IsPermutation-sym, IsPermutation-to_front}
use Rattle.std.proofs.lemmas.List.Sorted.{IsPermutation-trans}
use Rattle.std.proofs.lemmas.List.Elements.{filter_map-append}
use Rattle.mon_value.specs.declared.tables.TimedRow.{TimedRow}
use Rattle.kept_exchanges.specs.declared.exchanges.Exchange.{Exchange}
use Rattle.kept_exchanges.specs.Exchanges.{comes, gones}
use Rattle.kept_exchanges.specs.Pairs.{IsPushed, LeadOn, LeadTo}

pub option_list : {A : Type 0} (o : Option A) → cons_option o [] ≡ option_to_list o
option_list None = refl
option_list (Some x) = refl

pub gone_last : (made : List Exchange) (exchange : Exchange)
    → gones (made ++ exchange ∷ []) ≡ gones made ++ option_to_list exchange.gone
gone_last made exchange =
    filter_map-append (λ (one : Exchange). one.gone) made (exchange ∷ [])
    ∙ ap (λ (last : List TimedRow). gones made ++ last) (option_list exchange.gone)

-- ---- pairs, and rows that stay

-- a pair more, of rows that are taken from those that are left
pub paired_more : (whole left new one made more stay extra : List TimedRow) → IsPermutation whole (left ++ (made ++ stay))
    → left ≡ new ++ one → IsPermutation (one ++ made) (more ++ extra)
    → IsPermutation whole (new ++ (more ++ (extra ++ stay)))
paired_more whole left new one made more stay extra lead taken pushed =
    let apart : left ++ (made ++ stay) ≡ new ++ ((one ++ made) ++ stay) =
    ap (λ l. l ++ (made ++ stay)) taken
    ∙ append_assoc new one (made ++ stay)
    ∙ ap (λ l. new ++ l) (sym (append_assoc one made stay)) in
    let joined : new ++ ((more ++ extra) ++ stay) ≡ new ++ (more ++ (extra ++ stay)) =
    ap (λ l. new ++ l) (append_assoc more extra stay) in
    subst (IsPermutation whole) joined
    (IsPermutation-trans _ _ _ (subst (IsPermutation whole) apart lead)
    (IsPermutation-append_right new _ _ (IsPermutation-append_left stay _ _ pushed)))

pub pushed_pair : (gone : Option TimedRow) (come : TimedRow) (before after : List Exchange)
    → after ≡ before ++ record { gone = gone; come = come } ∷ [] → IsPushed gone come before after
pushed_pair row come before after is = record {
  stay = [];
  goes =
      subst (IsPermutation (option_to_list row ++ gones before))
      (sym (append-nil (gones after) ∙ ap gones is ∙ gone_last before (record { gone = row; come = come })))
      (IsPermutation-append_comm (option_to_list row) (gones before));
  comes_so =
      subst (IsPermutation (come ∷ comes before))
      (sym (append-nil (comes after) ∙ ap comes is
      ∙ map-append (λ (one : Exchange). one.come) before (record { gone = row; come = come } ∷ [])))
      (IsPermutation-sym _ _ (IsPermutation-to_front (comes before) come));
}

pub stayed_pair : (gone : Option TimedRow) (come : TimedRow) (before : List Exchange) → gone ≡ Some come
    → IsPushed gone come before before
stayed_pair row come before same = record {
  stay = come ∷ [];
  goes =
      subst (λ (o : Option TimedRow). IsPermutation (option_to_list o ++ gones before) (gones before ++ come ∷ []))
      (sym same) (IsPermutation-sym _ _ (IsPermutation-to_front (gones before) come));
  comes_so = IsPermutation-sym _ _ (IsPermutation-to_front (comes before) come);
}

pub all_paired : (before after : List TimedRow) (exchanges : List Exchange) (left : List TimedRow) → left ≡ []
    → LeadOn before left after [] exchanges → LeadTo before after exchanges
all_paired before after exchanges left none lead = record {
  stay = lead.stay;
  gone = subst (λ l. IsPermutation before (l ++ (gones exchanges ++ lead.stay))) none lead.gone;
  come = lead.come;
}
