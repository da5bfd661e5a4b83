-- Tokens in front of a number, with it and behind it.
use Rattle.std.proofs.Common.{◌≡◌, ◌⊎◌, inl, inr, ℕ, ℤ, pos, ◌+◌, ◌-◌, ◌*◌, ◌^◌, ◌≤◌, Bool, true, false, ◌==◌, ◌&&◌}
use Rattle.std.proofs.Common.{not, nat_le, nat_eq, List, [], ◌∷◌, ◌++◌, length, codes, refl, sym, ap, ◌∙◌, subst}
use Rattle.std.proofs.Common.{arith, if◌then◌else◌, Option, Some, None, Ok, Err}
use Rattle.std.specs.Cmp.Lexicographic.{pointwise}
use Rattle.std.proofs.lemmas.Bool.{false≢true}
use Rattle.std.proofs.lemmas.Bool.Decides.{nat_tests}
use Rattle.mon_value.specs.Answers.{◌>>=◌}
use Rattle.mql_ast.specs.declared.names.Name.{Name}
use Rattle.mql_ast.specs.declared.operations.FoldWord.{FoldWord}
use Rattle.mql_ast.specs.declared.operations.FoldWord.TheVariants as fold
use Rattle.mql_ast.specs.Tokens.{is_letter, is_digit, is_word_byte, is_metric_byte, Rest, head, behind, skip}
use Rattle.mql_ast.specs.Tokens.{word_bytes, behind_word, word_here, metric_name, minus, unit_seconds, longest}
use Rattle.mql_parse.specs.declared.faults.ParseKind.TheVariants.{NumberTooLarge}
use Rattle.mql_parse.specs.declared.faults.What.{What}
use Rattle.mql_parse.specs.declared.faults.What.TheVariants as what
use Rattle.mql_parse.specs.FaultNumbers.{AreDigits}
use Rattle.mql_parse.specs.Outcomes.{Outcome, fault, unexpected_fault, exact, apart, map_outcome}
use Rattle.mql_parse.specs.TokenReading as reading
use Rattle.mql_parse.specs.SumReading.{is_percentile}
use Rattle.mql_parse.specs.Folds.{fold_of}
use Rattle.mql_parse.specs.Steadiness.{here, next, Reaches, unit_read}
use Rattle.mql_parse.proofs.SumSound.{same_word}
use Rattle.mql_parse.proofs.Steady.{unit_if}
use Rattle.mql_parse.proofs.TokenSteady.{word_on, word_steady, metric_from_steady, digits_steady, positive_steady}
use Rattle.mql_parse.proofs.TokenSteady.{units_steady}
use Rattle.mql_parse.proofs.Firsts.{Failed}
use Rattle.mql_parse.proofs.Swaps.{numbered, with_one, rest_at, ahead, at_byte, over_pair, false_unless}
use Rattle.mql_parse.proofs.Follows.{Swap, counts, Pair, Blind, skip_pair, Any, ReadToo, FollowsIn, Follows}
use Rattle.mql_parse.proofs.Follows.{FollowsPass, beyond, where_failed, ok_any, follows_unexpected, follows_by}
use Rattle.mql_parse.proofs.Follows.{follows_to, follows_then, follows_map, follows_behind_pass, if_follows}
use Rattle.mql_parse.proofs.Follows.{head_tests, follows_if, follows_skip, behind_taken, follows_taken, next_taken}
use Rattle.mql_parse.proofs.Follows.{follows_here, part_taken}
use Rattle.mql_parse.proofs.ByteLemmas.{digit_in_word, not_false}

pub count_is_digit : (d : ℕ) → counts d ≡ true → is_digit d ≡ true
count_is_digit d h = grind (arith, nat_tests)

-- words of letters and signs
abbrev pub no_counts : List ℕ → Bool
no_counts [] = true
no_counts (c ∷ cs) = not (counts c) && no_counts cs

pub exact_follows : (x : Swap) (w : What) (cs : List ℕ) → no_counts cs ≡ true →
    FollowsPass x here here (exact w cs) (exact w cs)
exact_follows x w [] h = ok_any x here tt tt
exact_follows x w (c ∷ cs) h =
    let both = not_false (counts c) (no_counts cs) h in
    let by_head = λ (s : Rest). if head s == c then unit_read (exact w cs (behind s)) else Err (unexpected_fault w s) in
    let same = λ (s : Rest). unit_if (head s == c) (exact w cs (behind s)) (Err (unexpected_fault w s)) in
    follows_by x here here Any (λ s. unit_read (exact w (c ∷ cs) s)) by_head (λ s. unit_read (exact w (c ∷ cs) s))
    by_head same same
    (follows_taken x c here Any (λ s. unit_read (exact w cs (behind s))) (λ s. unit_read (exact w cs (behind s)))
    (λ s. Err (unexpected_fault w s)) (λ s. Err (unexpected_fault w s)) both.0
    (behind_taken x c here Any (λ s. unit_read (exact w cs s)) (λ s. unit_read (exact w cs s)) both.0
    (exact_follows x w cs both.1))
    (follows_unexpected x here Any w w))

pub blind_word : Blind is_word_byte
blind_word d h = grind (arith, nat_tests)

pub blind_letter : Blind is_letter
blind_letter d h = grind (arith, nat_tests)

pub apart_follows : (x : Swap) (w : What) → FollowsPass x here here (apart w) (apart w)
apart_follows x w =
    let by_head = λ (s : Rest). if is_word_byte (head s) then Err (unexpected_fault w s) else Ok (tt, s) in
    let same = λ (s : Rest). unit_if (is_word_byte (head s)) (Err (unexpected_fault w s)) (Ok s) in
    follows_by x here here Any (λ s. unit_read (apart w s)) by_head (λ s. unit_read (apart w s)) by_head same same
    (follows_if x here here Any (λ s. is_word_byte (head s)) (λ s. is_word_byte (head s))
    (λ s. Err (unexpected_fault w s))
    (λ s. Err (unexpected_fault w s)) (λ s. Ok (tt, s)) (λ s. Ok (tt, s)) (head_tests x is_word_byte blind_word)
    (follows_unexpected x here Any w w) (ok_any x here tt tt))

-- words that are the same, or that end in a digit, which no keyword does
abbrev last_of : ℕ → List ℕ → ℕ
last_of d [] = d
last_of d (b ∷ bs) = last_of b bs

abbrev EndsInDigit : List ℕ → Type 0
EndsInDigit bs = (d : ℕ) → is_digit (last_of d bs) ≡ true

abbrev AlikeBytes : List ℕ → List ℕ → Type 0
AlikeBytes bs cs = (bs ≡ cs) ⊎ (EndsInDigit bs × EndsInDigit cs)

-- names that are the same keyword, or none
abbrev pub AlikeNames : Name → Name → Type 0
AlikeNames a b = (fold_of a.text ≡ fold_of b.text) × (is_percentile a.text ≡ is_percentile b.text)

pub name_itself : (a : Name) → AlikeNames a a
name_itself a = (refl, refl)

no_word : (bs word : List ℕ) → EndsInDigit bs → is_digit (last_of 0 word) ≡ false → pointwise nat_eq bs word ≡ false
no_word bs word h n = false_unless (pointwise nat_eq bs word)
    (λ e. false≢true (sym n ∙ ap (λ v. is_digit (last_of 0 v)) (sym (same_word bs word e)) ∙ h 0))

no_fold : (bs : List ℕ) → EndsInDigit bs → fold_of bs ≡ None
no_fold bs h =
    none (pointwise nat_eq bs (codes "count")) fold.Count _ (no_word bs (codes "count") h refl)
    (none (pointwise nat_eq bs (codes "sum")) fold.Sum _ (no_word bs (codes "sum") h refl)
    (none (pointwise nat_eq bs (codes "min")) fold.Min _ (no_word bs (codes "min") h refl)
    (none (pointwise nat_eq bs (codes "max")) fold.Max _ (no_word bs (codes "max") h refl)
    (none (pointwise nat_eq bs (codes "mean")) fold.Mean _ (no_word bs (codes "mean") h refl)
    (none (pointwise nat_eq bs (codes "merge")) fold.Merge _ (no_word bs (codes "merge") h refl)
    (none (pointwise nat_eq bs (codes "aggregate")) fold.Aggregate None (no_word bs (codes "aggregate") h refl)
    refl))))))
  where
    none : (t : Bool) (w : FoldWord) (o : Option FoldWord) → t ≡ false → o ≡ None → (if t then Some w else o) ≡ None
    none true w o h g = absurd (false≢true (sym h))
    none false w o h g = g

alike_names : (a b : Name) → AlikeBytes a.text b.text → AlikeNames a b
alike_names a b (inl e) = (ap fold_of e, ap is_percentile e)
alike_names a b (inr z) = (
  no_fold a.text z.0 ∙ sym (no_fold b.text z.1),
  no_word a.text (codes "percentile") z.0 refl ∙ sym (no_word b.text (codes "percentile") z.1 refl),
)

digit_is_metric : (d : ℕ) → is_digit d ≡ true → is_metric_byte d ≡ true
digit_is_metric d h = grind (arith, nat_tests)

digits_end : (d : ℕ) (ds : List ℕ) → is_digit d ≡ true → AreDigits ds → is_digit (last_of d ds) ≡ true
digits_end d [] h g = h
digits_end d (e ∷ ds) h g = digits_end e ds g.0 g.1

-- the bytes of a word, and what is left behind it
record Word (x : Swap) (bs cs : List ℕ) (r q : Rest) : Type 0 where
  pair : Pair x r q
  alike : AlikeBytes bs cs

-- digits of the first text, up to the byte
module _ (x : Swap) where
  word_end : (m : ℕ) (t : Bool) → is_word_byte x.byte ≡ t → m ≡ x.at → (behind_word m (x.byte ∷ x.after)).at ≤ x.at →
      t ≡ false
  word_end m true e h l = absurd (omega (arith, h, far, l))
    where
      far : m + 1 ≤ (behind_word m (x.byte ∷ x.after)).at
      far = subst (λ t. m + 1 ≤ (if t then behind_word (m + 1) x.after else rest_at m (x.byte ∷ x.after)).at) (sym e)
          (word_on (m + 1) (m + 1) x.after (omega arith))
  word_end m false e h l = refl

  ended : (m : ℕ) → is_word_byte x.byte ≡ false → (word_bytes (x.byte ∷ x.after) ≡ []) × (behind_word m
      (x.byte ∷ x.after) ≡ rest_at m (x.byte ∷ x.after))
  ended m e = (
    ap (λ t. if t then x.byte ∷ word_bytes x.after else []) e,
    ap (λ t. if t then behind_word (m + 1) x.after else rest_at m (x.byte ∷ x.after)) e,
  )

  other_ended : (m : ℕ) → is_word_byte x.byte ≡ false → (word_bytes (x.byte ∷ x.more) ≡ []) × (behind_word m
      (x.byte ∷ x.more) ≡ rest_at m (x.byte ∷ x.more))
  other_ended m e = (
    ap (λ t. if t then x.byte ∷ word_bytes x.more else []) e,
    ap (λ t. if t then behind_word (m + 1) x.more else rest_at m (x.byte ∷ x.more)) e,
  )

  one_digit : (d m : ℕ) (bs : List ℕ) → is_digit d ≡ true →
      (word_bytes (d ∷ bs) ≡ d ∷ word_bytes bs) × (behind_word m (d ∷ bs) ≡ behind_word (m + 1) bs)
  one_digit d m bs h = (
    ap (λ t. if t then d ∷ word_bytes bs else []) (digit_in_word d h),
    ap (λ t. if t then behind_word (m + 1) bs else rest_at m (d ∷ bs)) (digit_in_word d h),
  )

  run : (ds : List ℕ) (m : ℕ) → AreDigits ds → m + length ds ≡ x.at →
      (behind_word m (ds ++ x.byte ∷ x.after)).at ≤ x.at →
      (is_word_byte x.byte ≡ false) × ((word_bytes (ds ++ x.byte ∷ x.after) ≡ ds) × (behind_word m
      (ds ++ x.byte ∷ x.after) ≡ rest_at x.at (x.byte ∷ x.after)))
  run [] m g h l =
      let here : m ≡ x.at = omega (arith, h) in
      let none : is_word_byte x.byte ≡ false = word_end m (is_word_byte x.byte) refl here l in
      (none, ((ended m none).0, (ended m none).1 ∙ ap (λ n. rest_at n (x.byte ∷ x.after)) here))
  run (d ∷ ds) m g h l =
      let one = one_digit d m (ds ++ x.byte ∷ x.after) g.0 in
      let further = run ds (m + 1) g.1 (omega (arith, h)) (subst (λ r. r.at ≤ x.at) one.1 l) in
      (further.0, (one.0 ∙ ap (λ t. d ∷ t) further.1.0, one.1 ∙ further.1.1))

  with_number : (m n : ℕ) → m + 1 + length x.digits ≡ x.at → (behind_word m (numbered x)).at ≤ x.at →
      Word x (word_bytes (numbered x)) (word_bytes (with_one x)) (behind_word m (numbered x))
      (behind_word n (with_one x))
  with_number m n h l =
      let first = count_is_digit x.digit x.begins in
      let one = one_digit x.digit m (x.digits ++ x.byte ∷ x.after) first in
      let all = run x.digits (m + 1) x.goes_on (omega (arith, h)) (subst (λ r. r.at ≤ x.at) one.1 l) in
      let other = other_ended (n + 1) all.0 in
      record {
        pair = subst (λ r. Pair x r (behind_word n (with_one x))) (sym (one.1 ∙ all.1.1))
            (subst (λ q. Pair x (rest_at x.at (x.byte ∷ x.after)) q) (sym other.1)
            (inr (at_byte x x.at (n + 1) refl)));
        alike = inr (
          subst EndsInDigit (sym (one.0 ∙ ap (λ t. x.digit ∷ t) all.1.0))
              (λ d. digits_end x.digit x.digits first x.goes_on),
          subst EndsInDigit (sym (ap (λ t. 49 ∷ t) other.0)) (λ d. refl),
        );
      }

  longer_word : (c : ℕ) (bs cs : List ℕ) → AlikeBytes bs cs → AlikeBytes (c ∷ bs) (c ∷ cs)
  longer_word c bs cs (inl e) = inl (ap (λ t. c ∷ t) e)
  longer_word c bs cs (inr z) = inr (λ d. z.0 c, λ d. z.1 c)

  word_ahead : (common : List ℕ) (m n : ℕ) → m + length common + 1 + length x.digits ≡ x.at →
      (behind_word m (common ++ numbered x)).at ≤ x.at →
      Word x (word_bytes (common ++ numbered x)) (word_bytes (common ++ with_one x))
      (behind_word m (common ++ numbered x)) (behind_word n (common ++ with_one x))
  word_ahead [] m n h l = with_number m n (omega (arith, h)) l
  word_ahead (c ∷ common) m n h l =
      either (is_word_byte c) l (word_ahead common (m + 1) (n + 1) (omega (arith, h)))
    where
      either : (t : Bool) → (if t then behind_word (m + 1) (common ++ numbered x) else rest_at m
          (c ∷ (common ++ numbered x))).at ≤ x.at →
          ((behind_word (m + 1) (common ++ numbered x)).at ≤ x.at →
          Word x (word_bytes (common ++ numbered x)) (word_bytes (common ++ with_one x))
          (behind_word (m + 1) (common ++ numbered x)) (behind_word (n + 1) (common ++ with_one x))) →
          Word x (if t then c ∷ word_bytes (common ++ numbered x) else [])
          (if t then c ∷ word_bytes (common ++ with_one x) else [])
          (if t then behind_word (m + 1) (common ++ numbered x) else rest_at m (c ∷ (common ++ numbered x)))
          (if t then behind_word (n + 1) (common ++ with_one x) else rest_at n (c ∷ (common ++ with_one x)))
      either true k ih =
          let further = ih k in
          record {
            pair = further.pair;
            alike = longer_word c (word_bytes (common ++ numbered x)) (word_bytes (common ++ with_one x)) further.alike;
          }
      either false k ih = record { pair = inl (ahead x (c ∷ common) m n h); alike = inl refl }

  word_at_byte : (m n : ℕ) → m ≡ x.at → (behind_word m (x.byte ∷ x.after)).at ≤ x.at →
      Word x (word_bytes (x.byte ∷ x.after)) (word_bytes (x.byte ∷ x.more)) (behind_word m (x.byte ∷ x.after))
      (behind_word n (x.byte ∷ x.more))
  word_at_byte m n h l =
      let none : is_word_byte x.byte ≡ false = word_end m (is_word_byte x.byte) refl h l in
      let one = ended m none in
      let other = other_ended n none in
      record {
        pair = subst (λ r. Pair x r (behind_word n (x.byte ∷ x.more))) (sym one.1)
            (subst (λ q. Pair x (rest_at m (x.byte ∷ x.after)) q) (sym other.1) (inr (at_byte x m n h)));
        alike = inl (one.0 ∙ sym other.0);
      }

  word_pair : (s t : Rest) → Pair x s t → (behind_word s.at s.bytes).at ≤ x.at →
      Word x (word_bytes s.bytes) (word_bytes t.bytes) (behind_word s.at s.bytes) (behind_word t.at t.bytes)
  word_pair = over_pair x (λ s t. (behind_word s.at s.bytes).at ≤ x.at → Word x (word_bytes s.bytes)
      (word_bytes t.bytes) (behind_word s.at s.bytes) (behind_word t.at t.bytes)) word_ahead word_at_byte

  pub word_follows : Follows x here here AlikeNames (λ s. Ok (word_here s)) (λ s. Ok (word_here s))
  word_follows = record {
    reaches = word_steady.reaches;
    follows = λ s t c l k. let w = word_pair s t c k in
        inr ((word_here t).0, ((word_here t).1, (refl, (w.pair, alike_names (word_here s).0 (word_here t).0 w.alike))));
  }

pub name_follows : (x : Swap) → Follows x next here AlikeNames reading.name reading.name
unfolding reading.name
name_follows x =
    let read = λ (t : Rest). if is_letter (head t) then Ok (word_here t) else Err (unexpected_fault what.Name t) in
    follows_skip x here AlikeNames read read
    (follows_if x here here AlikeNames (λ t. is_letter (head t)) (λ t. is_letter (head t)) (λ t. Ok (word_here t))
    (λ t. Ok (word_here t)) (λ t. Err (unexpected_fault what.Name t)) (λ t. Err (unexpected_fault what.Name t))
    (head_tests x is_letter blind_letter) (word_follows x) (follows_unexpected x here AlikeNames what.Name what.Name))

pub name_next : (x : Swap) → Follows x next next AlikeNames reading.name reading.name
name_next x = follows_to x next AlikeNames reading.name reading.name (name_follows x)

-- metrics
map_in : {A B : Type 0} (x : Swap) (to : Rest → ℕ) (f g : A → B) (o p : Outcome A) → FollowsIn x to Any o p →
    FollowsIn x to Any (map_outcome f o) (map_outcome g p)
map_in {A = A} {B = B} x to f g (Ok y) p h = λ l. by_part p (h l)
  where
    by_part : (p : Outcome A) → Failed p ⊎ ReadToo x Any y.0 y.1 p →
        Failed (map_outcome g p) ⊎ ReadToo x Any (f y.0) y.1 (map_outcome g p)
    by_part (Ok z) (inl b) = absurd b
    by_part (Err e) (inl b) = inl tt
    by_part p (inr z) = inr (g z.0, (z.1.0, (ap (map_outcome g) z.1.1.0, (z.1.1.1.0, tt))))
map_in {A = A} x to f g (Err e) p h = λ m. by_part p (h m)
  where
    by_part : (p : Outcome A) → (e.kind ≡ NumberTooLarge) ⊎ Failed p →
        (e.kind ≡ NumberTooLarge) ⊎ Failed (map_outcome g p)
    by_part p (inl b) = inl b
    by_part (Ok z) (inr b) = absurd b
    by_part (Err f) (inr b) = inr tt

map_reaches : {A B : Type 0} (f : A → B) (n : ℕ) (o : Outcome A) → Reaches here n o → Reaches here n (map_outcome f o)
map_reaches f n (Ok y) h = h
map_reaches f n (Err e) h = h

module _ (x : Swap) where
  metric_beyond : (b : ℕ) (after : Bool) (m : ℕ) (bs : List ℕ) (p : Outcome (List ℕ)) → m ≡ x.at →
      FollowsIn x here Any (reading.with_byte b (reading.metric_from after (m + 1) bs)) p
  metric_beyond b after m bs p h =
      let o = reading.metric_from after (m + 1) bs in
      beyond x here Any (m + 1) (reading.with_byte b o) p
      (map_reaches (λ more. b ∷ more) (m + 1) o ((metric_from_steady after).reaches (rest_at (m + 1) bs)))
      (omega (arith, h))

  -- where a metric ends
  metric_end : (after : Bool) (m n : ℕ) (bs cs : List ℕ) → Pair x (rest_at m bs) (rest_at n cs) →
      FollowsIn {A = List ℕ} x here Any
      (if after then Err (unexpected_fault what.Metric (rest_at m bs)) else Ok ([], rest_at m bs))
      (if after then Err (unexpected_fault what.Metric (rest_at n cs)) else Ok ([], rest_at n cs))
  metric_end true m n bs cs c = λ e. inr tt
  metric_end false m n bs cs c = λ l. inr ([], (rest_at n cs, (refl, (c, tt))))

  metric_at_byte : (after : Bool) (m n : ℕ) → m ≡ x.at →
      FollowsIn x here Any (reading.metric_from after m (x.byte ∷ x.after))
      (reading.metric_from after n (x.byte ∷ x.more))
  metric_at_byte after m n h =
      if_follows x here Any (is_metric_byte x.byte) (is_metric_byte x.byte) _ _ _ _ refl
      (λ _. metric_beyond x.byte false m x.after _ h)
      (λ _. if_follows x here Any (x.byte == 47 && not after) (x.byte == 47 && not after) _ _ _ _ refl
      (λ _. metric_beyond x.byte true m x.after _ h)
      (λ _. metric_end after m n (x.byte ∷ x.after) (x.byte ∷ x.more) (inr (at_byte x m n h))))

  -- a byte of the first text alone, and one of each
  left_byte : (b : ℕ) (o p : Outcome (List ℕ)) → FollowsIn x here Any o p →
      FollowsIn x here Any (reading.with_byte b o) p
  left_byte b (Ok y) p h = λ l. by_part (h l)
    where
      by_part : Failed p ⊎ ReadToo x Any y.0 y.1 p → Failed p ⊎ ReadToo x Any (b ∷ y.0) y.1 p
      by_part (inl f) = inl f
      by_part (inr z) = inr (z.0, (z.1.0, (z.1.1.0, (z.1.1.1.0, tt))))
  left_byte b (Err e) p h = h

  metric_digit : (after : Bool) (d m : ℕ) (bs : List ℕ) → is_digit d ≡ true →
      reading.metric_from after m (d ∷ bs) ≡ reading.with_byte d (reading.metric_from false (m + 1) bs)
  metric_digit after d m bs h =
      ap (λ t. if t then reading.with_byte d (reading.metric_from false (m + 1) bs) else
      (if d == 47 && not after then reading.with_byte d (reading.metric_from true (m + 1) bs) else
      (if after then Err (unexpected_fault what.Metric (rest_at m (d ∷ bs))) else Ok ([], rest_at m (d ∷ bs)))))
      (digit_is_metric d h)

  metric_run : (ds : List ℕ) (m n : ℕ) → AreDigits ds → m + length ds ≡ x.at →
      FollowsIn x here Any (reading.metric_from false m (ds ++ x.byte ∷ x.after))
      (reading.metric_from false n (x.byte ∷ x.more))
  metric_run [] m n g h = metric_at_byte false m n (omega (arith, h))
  metric_run (d ∷ ds) m n g h =
      let o = reading.metric_from false (m + 1) (ds ++ x.byte ∷ x.after) in
      let p = reading.metric_from false n (x.byte ∷ x.more) in
      subst (λ z. FollowsIn x here Any z p) (sym (metric_digit false d m (ds ++ x.byte ∷ x.after) g.0))
      (left_byte d o p (metric_run ds (m + 1) n g.1 (omega (arith, h))))

  metric_ahead : (after : Bool) (common : List ℕ) (m n : ℕ) → m + length common + 1 + length x.digits ≡ x.at →
      FollowsIn x here Any (reading.metric_from after m (common ++ numbered x))
      (reading.metric_from after n (common ++ with_one x))
  metric_ahead after [] m n h =
      let bs = x.digits ++ x.byte ∷ x.after in
      let cs = x.byte ∷ x.more in
      subst (λ z. FollowsIn x here Any z (reading.metric_from after n (49 ∷ cs)))
      (sym (metric_digit after x.digit m bs (count_is_digit x.digit x.begins)))
      (map_in x here (λ more. x.digit ∷ more) (λ more. 49 ∷ more) (reading.metric_from false (m + 1) bs)
      (reading.metric_from false (n + 1) cs)
      (metric_run x.digits (m + 1) (n + 1) x.goes_on (omega (arith, h))))
  metric_ahead after (c ∷ common) m n h =
      if_follows x here Any (is_metric_byte c) (is_metric_byte c) _ _ _ _ refl
      (λ _. map_in x here (λ more. c ∷ more) (λ more. c ∷ more) _ _
      (metric_ahead false common (m + 1) (n + 1) (omega (arith, h))))
      (λ _. if_follows x here Any (c == 47 && not after) (c == 47 && not after) _ _ _ _ refl
      (λ _. map_in x here (λ more. c ∷ more) (λ more. c ∷ more) _ _
      (metric_ahead true common (m + 1) (n + 1) (omega (arith, h))))
      (λ _. metric_end after m n (c ∷ (common ++ numbered x)) (c ∷ (common ++ with_one x))
      (inl (ahead x (c ∷ common) m n h))))

  metric_from_follows : (after : Bool) → Follows x here here Any (λ s. reading.metric_from after s.at s.bytes)
      (λ s. reading.metric_from after s.at s.bytes)
  metric_from_follows after = record {
    reaches = (metric_from_steady after).reaches;
    follows = λ s t c l. over_pair x (λ s t. FollowsIn x here Any (reading.metric_from after s.at s.bytes)
        (reading.metric_from after t.at t.bytes)) (metric_ahead after) (metric_at_byte after) s t c;
  }

  pub metric_follows : Follows x next here Any reading.metric reading.metric
  unfolding reading.metric
  metric_follows =
      let read = λ (n : ℕ) (t : Rest). exact what.Metric (codes "/") t >>=
      λ slash. reading.metric_from true slash.at slash.bytes >>= λ y. Ok (metric_name n y.0, y.1) in
      follows_skip x here Any (λ t. read t.at t) (λ t. read t.at t)
      (follows_here x here Any read read
      (λ m n. follows_behind_pass x here here here Any (exact what.Metric (codes "/")) (exact what.Metric (codes "/"))
      (λ slash. reading.metric_from true slash.at slash.bytes >>= λ y. Ok (metric_name m y.0, y.1))
      (λ slash. reading.metric_from true slash.at slash.bytes >>= λ y. Ok (metric_name n y.0, y.1))
      (exact_follows x what.Metric (codes "/") refl)
      (follows_map x here here (metric_name m) (metric_name n) (λ slash. reading.metric_from true slash.at slash.bytes)
      (λ slash. reading.metric_from true slash.at slash.bytes) (metric_from_follows true))))

-- numbers
left_if : {A : Type 0} (x : Swap) (t : Bool) (s : Rest) (o p : Outcome A) → FollowsIn x here Any o p →
    FollowsIn x here Any (if t then o else Err (fault NumberTooLarge s)) p
left_if x true s o p h = h
left_if x false s o p h = λ e. inl refl

right_if : {A : Type 0} (x : Swap) (t : Bool) (s : Rest) (o p : Outcome A) → FollowsIn x here Any o p →
    FollowsIn x here Any o (if t then p else Err (fault NumberTooLarge s))
right_if x true s o p h = h
right_if x false s o p h = where_failed x here Any o (Err (fault NumberTooLarge s)) tt

module _ (x : Swap) (most : ℕ) where
  abbrev further_digit : ℕ → ℕ → ℕ → List ℕ → Outcome ℕ
  further_digit v d m bs =
      if nat_le (v * 10 + (d - 48)) most then reading.digits most (v * 10 + (d - 48)) (m + 1) bs
      else Err (fault NumberTooLarge (rest_at m (d ∷ bs)))

  a_digit : (v d m : ℕ) (bs : List ℕ) → is_digit d ≡ true → reading.digits most v m (d ∷ bs) ≡ further_digit v d m bs
  a_digit v d m bs h = ap (λ t. if t then further_digit v d m bs else Ok (v, rest_at m (d ∷ bs))) h

  digits_at_byte : (v w m n : ℕ) → m ≡ x.at →
      FollowsIn x here Any (reading.digits most v m (x.byte ∷ x.after)) (reading.digits most w n (x.byte ∷ x.more))
  digits_at_byte v w m n h =
      let u = v * 10 + (x.byte - 48) in
      if_follows x here Any (is_digit x.byte) (is_digit x.byte) _ _ _ _ refl
      (λ _. left_if x (nat_le u most) (rest_at m (x.byte ∷ x.after)) (reading.digits most u (m + 1) x.after) _
      (beyond x here Any (m + 1) (reading.digits most u (m + 1) x.after) _
      ((digits_steady most u).reaches (rest_at (m + 1) x.after)) (omega (arith, h))))
      (λ _ l. inr (w, (rest_at n (x.byte ∷ x.more), (refl, (inr (at_byte x m n h), tt)))))

  digits_run : (ds : List ℕ) (v w m n : ℕ) → AreDigits ds → m + length ds ≡ x.at →
      FollowsIn x here Any (reading.digits most v m (ds ++ x.byte ∷ x.after))
      (reading.digits most w n (x.byte ∷ x.more))
  digits_run [] v w m n g h = digits_at_byte v w m n (omega (arith, h))
  digits_run (d ∷ ds) v w m n g h =
      let bs = ds ++ x.byte ∷ x.after in
      let u = v * 10 + (d - 48) in
      let p = reading.digits most w n (x.byte ∷ x.more) in
      subst (λ z. FollowsIn x here Any z p) (sym (a_digit v d m bs g.0))
      (left_if x (nat_le u most) (rest_at m (d ∷ bs)) (reading.digits most u (m + 1) bs) p
      (digits_run ds u w (m + 1) n g.1 (omega (arith, h))))

  digits_ahead : (common : List ℕ) (v m n : ℕ) → m + length common + 1 + length x.digits ≡ x.at →
      FollowsIn x here Any (reading.digits most v m (common ++ numbered x))
      (reading.digits most v n (common ++ with_one x))
  digits_ahead [] v m n h =
      let bs = x.digits ++ x.byte ∷ x.after in
      let cs = x.byte ∷ x.more in
      let u = v * 10 + (x.digit - 48) in
      let p = further_digit v 49 n cs in
      subst (λ z. FollowsIn x here Any z p) (sym (a_digit v x.digit m bs (count_is_digit x.digit x.begins)))
      (left_if x (nat_le u most) (rest_at m (x.digit ∷ bs)) (reading.digits most u (m + 1) bs) p
      (right_if x (nat_le (v * 10 + (49 - 48)) most) (rest_at n (49 ∷ cs)) (reading.digits most u (m + 1) bs)
      (reading.digits most (v * 10 + (49 - 48)) (n + 1) cs)
      (digits_run x.digits u (v * 10 + (49 - 48)) (m + 1) (n + 1) x.goes_on (omega (arith, h)))))
  digits_ahead (c ∷ common) v m n h =
      let u = v * 10 + (c - 48) in
      if_follows x here Any (is_digit c) (is_digit c) _ _ _ _ refl
      (λ _. if_follows x here Any (nat_le u most) (nat_le u most) _ _ _ _ refl
      (λ _. digits_ahead common u (m + 1) (n + 1) (omega (arith, h))) (λ _ e. inr tt))
      (λ _ l. inr (v, (rest_at n (c ∷ (common ++ with_one x)), (refl, (inl (ahead x (c ∷ common) m n h), tt)))))

  -- a number from its first digit on
  abbrev from_digit : Rest → Outcome ℕ
  from_digit t =
      if is_digit (head t) && not (head t == 48)
      then reading.digits most (head t - 48) (behind t).at (behind t).bytes
      else Err (unexpected_fault what.Number t)

  from_digit_ahead : (common : List ℕ) (m n : ℕ) → m + length common + 1 + length x.digits ≡ x.at →
      FollowsIn x here Any (from_digit (rest_at m (common ++ numbered x)))
      (from_digit (rest_at n (common ++ with_one x)))
  from_digit_ahead [] m n h =
      subst (λ t. FollowsIn x here Any (if t then reading.digits most (x.digit - 48) (m + 1)
      (x.digits ++ x.byte ∷ x.after) else Err (unexpected_fault what.Number (rest_at m (numbered x))))
      (from_digit (rest_at n (with_one x)))) (sym x.begins)
      (digits_run x.digits (x.digit - 48) (49 - 48) (m + 1) (n + 1) x.goes_on (omega (arith, h)))
  from_digit_ahead (c ∷ common) m n h =
      if_follows x here Any (counts c) (counts c) _ _ _ _ refl
      (λ _. digits_ahead common (c - 48) (m + 1) (n + 1) (omega (arith, h))) (λ _ e. inr tt)

  from_digit_at_byte : (m n : ℕ) → m ≡ x.at →
      FollowsIn x here Any (from_digit (rest_at m (x.byte ∷ x.after))) (from_digit (rest_at n (x.byte ∷ x.more)))
  from_digit_at_byte m n h =
      if_follows x here Any (counts x.byte) (counts x.byte) _ _ _ _ refl
      (λ _. beyond x here Any (m + 1) (reading.digits most (x.byte - 48) (m + 1) x.after) _
      ((digits_steady most (x.byte - 48)).reaches (rest_at (m + 1) x.after)) (omega (arith, h)))
      (λ _ e. inr tt)

  from_digit_pair : (s t : Rest) → Pair x s t → FollowsIn x here Any (from_digit s) (from_digit t)
  from_digit_pair = over_pair x (λ s t. FollowsIn x here Any (from_digit s) (from_digit t)) from_digit_ahead
      from_digit_at_byte

  pub positive_follows : Follows x next here Any (reading.positive most) (reading.positive most)
  unfolding reading.positive
  positive_follows = record {
    reaches = (positive_steady most).reaches;
    follows = λ s t c l. from_digit_pair (skip s) (skip t) (skip_pair x s t c l);
  }

  pub positive_next_follows : Follows x next next Any (reading.positive most) (reading.positive most)
  positive_next_follows = follows_to x next Any (reading.positive most) (reading.positive most) positive_follows

  pub number_follows : Follows x next here Any (reading.number most) (reading.number most)
  unfolding reading.number
  number_follows =
      next_taken x 48 here Any (λ t. Ok (0, behind t)) (λ t. Ok (0, behind t)) (reading.positive most)
      (reading.positive most) refl
      (behind_taken x 48 here Any (λ t. Ok (0, t)) (λ t. Ok (0, t)) refl (ok_any x here 0 0)) positive_follows

pub signed_follows : (x : Swap) → Follows x next here Any reading.signed_reading reading.signed_reading
unfolding reading.signed_reading
signed_follows x =
    let negative = λ (t : Rest). map_outcome minus (reading.number (2 ^ 63) t) in
    let other = λ (t : Rest). map_outcome pos (reading.number (2 ^ 63 - 1) t) in
    next_taken x 45 here Any (λ t. negative (behind t)) (λ t. negative (behind t)) other other refl
    (part_taken x 45 here Any negative negative refl
    (follows_map x next here minus minus (reading.number (2 ^ 63)) (reading.number (2 ^ 63))
    (number_follows x (2 ^ 63))))
    (follows_map x next here pos pos (reading.number (2 ^ 63 - 1)) (reading.number (2 ^ 63 - 1))
    (number_follows x (2 ^ 63 - 1)))

-- units
-- where the byte is a unit, what is left is behind it
units_in : (x : Swap) (b v w : ℕ) (s t r q : Rest) →
    ((unit_seconds b == 0) ≡ false → r.at ≤ x.at → Pair x r q) →
    FollowsIn {A = ℤ} x here Any
    (if unit_seconds b == 0 then Err (unexpected_fault what.Unit s) else
    (if nat_le (v * unit_seconds b) longest then Ok (pos (v * unit_seconds b), r) else Err (fault NumberTooLarge s)))
    (if unit_seconds b == 0 then Err (unexpected_fault what.Unit t) else
    (if nat_le (w * unit_seconds b) longest then Ok (pos (w * unit_seconds b), q) else Err (fault NumberTooLarge t)))
units_in x b v w s t r q f =
    if_follows x here Any (unit_seconds b == 0) (unit_seconds b == 0) _ _ _ _ refl (λ _ e. inr tt)
    (λ n. left_if x (nat_le (v * unit_seconds b) longest) s (Ok (pos (v * unit_seconds b), r)) _
    (right_if x (nat_le (w * unit_seconds b) longest) t (Ok (pos (v * unit_seconds b), r))
    (Ok (pos (w * unit_seconds b), q)) (λ l. inr (pos (w * unit_seconds b), (q, (refl, (f n l, tt)))))))

module _ (x : Swap) (v w : ℕ) where
  units_ahead : (common : List ℕ) (m n : ℕ) → m + length common + 1 + length x.digits ≡ x.at →
      FollowsIn x here Any (reading.units (v, rest_at m (common ++ numbered x)))
      (reading.units (w, rest_at n (common ++ with_one x)))
  units_ahead [] m n h = where_failed x here Any _ (Err (unexpected_fault what.Unit (rest_at n (with_one x)))) tt
  units_ahead (c ∷ common) m n h =
      units_in x c v w (rest_at m (c ∷ (common ++ numbered x))) (rest_at n (c ∷ (common ++ with_one x)))
      (rest_at (m + 1) (common ++ numbered x)) (rest_at (n + 1) (common ++ with_one x))
      (λ k l. inl (ahead x common (m + 1) (n + 1) (omega (arith, h))))

  units_at_byte : (m n : ℕ) → m ≡ x.at →
      FollowsIn x here Any (reading.units (v, rest_at m (x.byte ∷ x.after)))
      (reading.units (w, rest_at n (x.byte ∷ x.more)))
  units_at_byte m n h =
      units_in x x.byte v w (rest_at m (x.byte ∷ x.after)) (rest_at n (x.byte ∷ x.more)) (rest_at (m + 1) x.after)
      (rest_at (n + 1) x.more) (λ k l. absurd (omega (arith, h, l)))

  units_follows : Follows x here here Any (λ r. reading.units (v, r)) (λ r. reading.units (w, r))
  units_follows = record {
    reaches = (units_steady v).reaches;
    follows = λ s t c l. over_pair x (λ s t. FollowsIn x here Any (reading.units (v, s)) (reading.units (w, t)))
        units_ahead units_at_byte s t c;
  }

pub duration_follows : (x : Swap) → Follows x next here Any reading.duration reading.duration
unfolding reading.duration
duration_follows x =
    follows_then x next here here Any (reading.positive longest) (reading.positive longest) reading.units reading.units
    (positive_follows x longest) (units_follows x)
