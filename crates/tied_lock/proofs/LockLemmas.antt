-- What a lock's steps ask for: the value is taken and brought back.
use Rattle.std.proofs.Common.{◌≡◌, ℕ, ◌<◌, List, [], ◌∷◌, ◌++◌, length, set, get_or, Some, refl, sym, subst, ◌∙◌, arith}
use Rattle.std.proofs.Common.{inl, inr}
use Rattle.std.specs.Prelude.{Option}
use Rattle.std.proofs.lemmas.Bool.{cases_eq}
use Rattle.std.proofs.lemmas.List.{get_or-set_same, length-set}
use Rattle.atomic_table.proofs.Lists.{set_here}
use Rattle.atomic_table.specs.Table.{Act, Allows, Arrives, Me, State, gives, keeps, takes}
use Rattle.tied_lock.specs.Rest.{IsKept, IsTaken}

module _ {T : Type 0} (fits : ℕ → T → Type 0) (tag : ℕ) where
  -- where the word says that the value is out, nothing is asked
  out : (words : List ℕ) (homes : List (mathlib.Core.Option.Option (Option T))) (views : List ℕ) → 0 < length words
      → IsKept fits tag (record { words = set words 0 0; homes = homes; views = views })
  out words homes views some_word = record {
    word = (let e : length (set words 0 0) ≡ length words = length-set words 0 0 in omega arith);
    home = λ e. absurd (let z : get_or (set words 0 0) 0 0 ≡ 0 = get_or-set_same words 0 0 0 some_word in
        let bad : 0 ≡ 1 = sym z ∙ e in omega arith);
  }

  pub takes_it : (slots : ℕ) → Arrives (IsKept fits tag) slots 0 (λ n. 0)
      (λ n after. n ≡ 1 → IsTaken fits tag after)
  takes_it slots s kept homes small =
      elim (cases_eq (get_or s.words 0 0) 1) [
        | inl home ↦ (let v = kept.home home in (
          tag,
          takes 0 (Some v.value),
          v.there,
          out s.words (set s.homes 0 mathlib.Core.Option.none) (s.views ++ tag ∷ []) kept.word,
          λ e. record { value = v.value; taken = refl; fit = v.fit },
        ))
        | inr away ↦ (
          tag,
          keeps,
          tt,
          out s.words s.homes (s.views ++ tag ∷ []) kept.word,
          λ e. absurd (away e),
        )
      ]

  pub gives_it : (slots id : ℕ) (me : Me (Option T) ℕ) (value : T) → 0 < slots → me.1 ≡ (0, Some value) ∷ []
      → fits tag value
      → Allows (IsKept fits tag) slots id me 0 (λ n. 1) (λ n after. Unit {0})
  gives_it slots id me value some_slot carried fit s kept homes there small =
      let P : List (ℕ × Option T) → Type 0 = λ c. IsKept fits tag (record {
        words = set s.words 0 1;
        homes = Rattle.atomic_table.specs.Table.put_back s.homes c;
        views = set s.views id me.0;
      }) in (
        me.0,
        gives,
        tt,
        subst P (sym carried) (record {
          word = (let e : length (set s.words 0 1) ≡ length s.words = length-set s.words 0 1 in
              let w : 0 < length s.words = kept.word in omega arith);
          home = λ e. record {
            value = value;
            there = set_here s.homes 0 (mathlib.Core.Option.some (Some value)) (omega arith);
            fit = fit;
          };
        }),
        tt,
      )
