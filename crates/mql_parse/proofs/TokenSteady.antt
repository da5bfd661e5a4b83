-- Each token is read without looking behind it.
use Rattle.std.proofs.Common.{◌≡◌, ℕ, ◌+◌, ◌-◌, ◌*◌, ◌^◌, ◌<◌, ◌≤◌, pos, Bool, true, false, ◌==◌, ◌&&◌, not, nat_le}
use Rattle.std.proofs.Common.{List, [], ◌∷◌, ◌++◌, length, codes, refl, sym, ap, subst, arith, if◌then◌else◌, Option}
use Rattle.std.proofs.Common.{Some, None, Ok, Err}
use Rattle.mon_value.specs.Answers.{◌>>=◌}
use Rattle.mon_value.specs.Values.{text_in}
use Rattle.mql_ast.specs.Tokens.{is_letter, is_digit, is_word_byte, is_metric_byte, Rest, head, behind, skip}
use Rattle.mql_ast.specs.Tokens.{word_bytes, behind_word, word_here, metric_name, minus, unit_seconds, longest}
use Rattle.mql_ast.specs.Quotes.{Open, Whole, TextStep, TextEnd, TextPass, TextKeep, TextBad, text_step, Sign, Plain}
use Rattle.mql_ast.specs.Quotes.{PatternStep, PatternEnd, PatternCut, PatternPass, PatternKeep, PatternUnfit}
use Rattle.mql_ast.specs.Quotes.{PatternBad, pattern_step}
use Rattle.mql_parse.specs.declared.faults.ParseFault.{ParseFault}
use Rattle.mql_parse.specs.declared.faults.ParseKind.TheVariants.{BadToken, NumberTooLarge, BadPattern}
use Rattle.mql_parse.specs.declared.faults.What.{What}
use Rattle.mql_parse.specs.declared.faults.What.TheVariants as what
use Rattle.mql_parse.specs.Outcomes.{Outcome, fault, unexpected_fault, exact, apart, map_outcome}
use Rattle.mql_parse.specs.TokenReading as reading
use Rattle.mql_parse.specs.Steadiness.{Shares, here, next, ReadAlike, AgreesBefore, Reaches, Steady, unit_read}
use Rattle.mql_parse.specs.Steadiness.{SteadyPass}
use Rattle.mql_parse.proofs.Steady.{over_common, shares, passed_on, passed_shared, shares_head, reaches_before}
use Rattle.mql_parse.proofs.Steady.{agrees_within, steady_by, steady_from, steady_ok, steady_fault, steady_unexpected}
use Rattle.mql_parse.proofs.Steady.{steady_bind, steady_map, steady_behind_pass, unit_if, head_test, next_test}
use Rattle.mql_parse.proofs.Steady.{steady_if, if_reaches, if_agrees, steady_skip, steady_behind, steady_here}
use Rattle.mql_parse.proofs.Steady.{constant_test, steady_to}

pub exact_steady : (w : What) (cs : List ℕ) → SteadyPass here here (exact w cs)
exact_steady w [] = steady_ok here tt
exact_steady w (c ∷ cs) =
    steady_by here here (λ s. unit_read (exact w (c ∷ cs) s))
    (λ s. if head s == c then unit_read (exact w cs (behind s)) else Err (unexpected_fault w s))
    (λ s. unit_if (head s == c) (exact w cs (behind s)) (Err (unexpected_fault w s)))
    (steady_if here here (λ s. head s == c) (λ s. unit_read (exact w cs (behind s))) (λ s. Err (unexpected_fault w s))
    (head_test (λ b. b == c))
    (steady_behind here (λ s. unit_read (exact w cs s)) (exact_steady w cs)) (steady_unexpected here w))

pub apart_steady : (w : What) → SteadyPass here here (apart w)
apart_steady w =
    steady_by here here (λ s. unit_read (apart w s))
    (λ s. if is_word_byte (head s) then Err (unexpected_fault w s) else Ok (tt, s))
    (λ s. unit_if (is_word_byte (head s)) (Err (unexpected_fault w s)) (Ok s))
    (steady_if here here (λ s. is_word_byte (head s)) (λ s. Err (unexpected_fault w s)) (λ s. Ok (tt, s))
    (head_test is_word_byte) (steady_unexpected here w) (steady_ok here tt))

-- words
pub word_on : (n at : ℕ) (bs : List ℕ) → n ≤ at → n ≤ (behind_word at bs).at
word_on n at [] h = h
word_on n at (b ∷ bs) h = passed_on (is_word_byte b) at n (b ∷ bs) (behind_word (at + 1) bs) h
    (word_on n (at + 1) bs (omega (arith, h)))

behind_word_shared : (e : ℕ) (common after other : List ℕ) (at : ℕ) → at + length common ≡ e →
    (behind_word at (common ++ after)).at < e → Shares e (behind_word at (common ++ after))
    (behind_word at (common ++ other))
behind_word_shared e [] after other at h l = absurd (omega (arith, h, l, word_on at at after (omega arith)))
behind_word_shared e (c ∷ common) after other at h l =
    passed_shared (is_word_byte c) e (record { at = at; bytes = c ∷ (common ++ after) })
    (record { at = at; bytes = c ∷ (common ++ other) }) (behind_word (at + 1) (common ++ after))
    (behind_word (at + 1) (common ++ other))
    (shares (c ∷ common) after other at e h) (behind_word_shared e common after other (at + 1) (omega (arith, h))) l

bytes_shared : (t : Bool) (e b : ℕ) (s r : Rest) (xs ys : List ℕ) → (r.at < e → ys ≡ xs) → (if t then r else s).at < e →
    (if t then b ∷ ys else []) ≡ (if t then b ∷ xs else [])
bytes_shared true e b s r xs ys f l = ap (λ t. b ∷ t) (f l)
bytes_shared false e b s r xs ys f l = refl

word_bytes_shared : (e : ℕ) (common after other : List ℕ) (at : ℕ) → at + length common ≡ e →
    (behind_word at (common ++ after)).at < e → word_bytes (common ++ other) ≡ word_bytes (common ++ after)
word_bytes_shared e [] after other at h l = absurd (omega (arith, h, l, word_on at at after (omega arith)))
word_bytes_shared e (c ∷ common) after other at h l =
    bytes_shared (is_word_byte c) e c (record { at = at; bytes = c ∷ (common ++ after) })
    (behind_word (at + 1) (common ++ after)) (word_bytes (common ++ after)) (word_bytes (common ++ other))
    (word_bytes_shared e common after other (at + 1) (omega (arith, h))) l

word_alike : (e : ℕ) (common after other : List ℕ) (at : ℕ) → at + length common ≡ e →
    AgreesBefore here e (Ok (word_here (record { at = at; bytes = common ++ after })))
    (Ok (word_here (record { at = at; bytes = common ++ other })))
word_alike e common after other at h l = (
  behind_word at (common ++ other),
  (
    ap (λ t. Ok (record { at = at; text = t }, behind_word at (common ++ other)))
        (word_bytes_shared e common after other at h l),
    behind_word_shared e common after other at h l,
  ),
)

pub word_steady : Steady here here (λ s. Ok (word_here s))
word_steady = record {
  reaches = λ s. word_on s.at s.at s.bytes (omega arith);
  agrees = λ e. over_common e (λ s t. AgreesBefore here e (Ok (word_here s)) (Ok (word_here t))) (word_alike e);
}

pub name_steady : Steady next here reading.name
unfolding reading.name
name_steady =
    steady_skip here (λ t. if is_letter (head t) then Ok (word_here t) else Err (unexpected_fault what.Name t))
    (steady_if here here (λ t. is_letter (head t)) (λ t. Ok (word_here t)) (λ t. Err (unexpected_fault what.Name t))
    (head_test is_letter) word_steady (steady_unexpected here what.Name))

pub name_next : Steady next next reading.name
name_next = steady_to next reading.name name_steady

-- readers that go byte by byte and keep a state
module _ {K A : Type 0} (to : Rest → ℕ) (read : K → ℕ → List ℕ → Outcome A)
    (end_reaches : (k : K) (at : ℕ) → Reaches to at (read k at []))
    (step_reaches : (k : K) (at b : ℕ) (bs : List ℕ) → ((k : K) → Reaches to (at + 1) (read k (at + 1) bs)) →
    Reaches to at (read k at (b ∷ bs)))
    (step_agrees : (e : ℕ) (k : K) (at b : ℕ) (bs cs : List ℕ) → Shares e (record { at = at; bytes = b ∷ bs })
    (record { at = at; bytes = b ∷ cs }) → Shares e (record { at = at + 1; bytes = bs })
    (record { at = at + 1; bytes = cs }) →
    ((k : K) → AgreesBefore to e (read k (at + 1) bs) (read k (at + 1) cs)) → AgreesBefore to e (read k at (b ∷ bs))
    (read k at (b ∷ cs))) where
  bytes_reach : (k : K) (at : ℕ) (bs : List ℕ) → Reaches to at (read k at bs)
  bytes_reach k at [] = end_reaches k at
  bytes_reach k at (b ∷ bs) = step_reaches k at b bs (λ l. bytes_reach l (at + 1) bs)

  bytes_agree : (e : ℕ) (k : K) (common after other : List ℕ) (at : ℕ) → at + length common ≡ e →
      AgreesBefore to e (read k at (common ++ after)) (read k at (common ++ other))
  bytes_agree e k [] after other at h = agrees_within to e at (read k at after) (read k at other)
      (bytes_reach k at after) (λ l. absurd (omega (arith, h, l)))
  bytes_agree e k (c ∷ common) after other at h =
      step_agrees e k at c (common ++ after) (common ++ other) (shares (c ∷ common) after other at e h)
      (shares common after other (at + 1) e (omega (arith, h)))
      (λ l. bytes_agree e l common after other (at + 1) (omega (arith, h)))

  pub steady_bytes : (k : K) → Steady here to (λ s. read k s.at s.bytes)
  steady_bytes k = record {
    reaches = λ s. bytes_reach k s.at s.bytes;
    agrees = λ e. over_common e (λ s t. AgreesBefore to e (read k s.at s.bytes) (read k t.at t.bytes))
        (bytes_agree e k);
  }

-- metrics
map_reaches : {A B : Type 0} (to : Rest → ℕ) (f : A → B) (n : ℕ) (o : Outcome A) → Reaches to n o →
    Reaches to n (map_outcome f o)
map_reaches to f n (Ok x) h = h
map_reaches to f n (Err x) h = h

map_agrees : {A B : Type 0} (to : Rest → ℕ) (f : A → B) (e : ℕ) (o p : Outcome A) → AgreesBefore to e o p →
    AgreesBefore to e (map_outcome f o) (map_outcome f p)
map_agrees to f e (Ok x) p h = λ l. let alike : ReadAlike e x.0 x.1 p = h l in
    (alike.0, (ap (map_outcome f) alike.1.0, alike.1.1))
map_agrees to f e (Err x) p h = λ l. ap (map_outcome f) (h l)

metric_end : (after : Bool) (at : ℕ) → Reaches here at (reading.metric_from after at [])
metric_end true at = omega arith
metric_end false at = omega arith

slash_reaches : (after : Bool) (at : ℕ) (bs : List ℕ) → Reaches {A = List ℕ} here at
    (if after then Err (unexpected_fault what.Metric (record { at = at; bytes = bs })) else Ok
    ([], record { at = at; bytes = bs }))
slash_reaches true at bs = omega arith
slash_reaches false at bs = omega arith

slash_agrees : (e : ℕ) (after : Bool) (at b : ℕ) (bs cs : List ℕ) → Shares e (record { at = at; bytes = b ∷ bs })
    (record { at = at; bytes = b ∷ cs }) →
    AgreesBefore {A = List ℕ} here e
    (if after then Err (unexpected_fault what.Metric (record { at = at; bytes = b ∷ bs })) else Ok
    ([], record { at = at; bytes = b ∷ bs }))
    (if after then Err (unexpected_fault what.Metric (record { at = at; bytes = b ∷ cs })) else Ok
    ([], record { at = at; bytes = b ∷ cs }))
slash_agrees e true at b bs cs h = λ l. refl
slash_agrees e false at b bs cs h = λ l. (record { at = at; bytes = b ∷ cs }, (refl, h))

byte_reaches : (n b : ℕ) (at : ℕ) (o : Outcome (List ℕ)) → Reaches here (at + 1) o →
    Reaches here at (reading.with_byte b o)
byte_reaches n b at o h = map_reaches here (λ more. b ∷ more) at o (reaches_before here at (at + 1) o (omega arith) h)

pub metric_from_steady : (after : Bool) → Steady here here (λ s. reading.metric_from after s.at s.bytes)
metric_from_steady = steady_bytes here reading.metric_from metric_end
    (λ after at b bs ih. if_reaches here at (is_metric_byte b) _ _ (byte_reaches at b at _ (ih false))
    (if_reaches here at (b == 47 && not after) _ _ (byte_reaches at b at _ (ih true))
    (slash_reaches after at (b ∷ bs))))
    (λ e after at b bs cs c d ih. if_agrees here e (is_metric_byte b) (is_metric_byte b) _ _ _ _ refl
    (map_agrees here (λ more. b ∷ more) e _ _ (ih false))
    (if_agrees here e (b == 47 && not after) (b == 47 && not after) _ _ _ _ refl
    (map_agrees here (λ more. b ∷ more) e _ _ (ih true)) (slash_agrees e after at b bs cs c)))

pub metric_steady : Steady next here reading.metric
unfolding reading.metric
metric_steady =
    let read = λ (n : ℕ) (t : Rest). exact what.Metric (codes "/") t >>=
    λ slash. reading.metric_from true slash.at slash.bytes >>= λ x. Ok (metric_name n x.0, x.1) in
    steady_skip here (λ t. read t.at t)
    (steady_here here read
    (λ n. steady_behind_pass here here here (exact what.Metric (codes "/"))
    (λ slash. reading.metric_from true slash.at slash.bytes >>= λ x. Ok (metric_name n x.0, x.1))
    (exact_steady what.Metric (codes "/"))
    (steady_map here here (metric_name n) (λ slash. reading.metric_from true slash.at slash.bytes)
    (metric_from_steady true))))

-- numbers
fault_reaches : {A : Type 0} (t : Bool) (at : ℕ) (o : Outcome A) (f : ParseFault) → f.at ≡ at →
    Reaches here (at + 1) o → Reaches here at (if t then o else Err f)
fault_reaches true at o f e h = reaches_before here at (at + 1) o (omega arith) h
fault_reaches false at o f e h = omega (arith, e)

pub digits_steady : (most value : ℕ) → Steady here here (λ s. reading.digits most value s.at s.bytes)
digits_steady most = steady_bytes here (reading.digits most) (λ value at. omega arith)
    (λ value at b bs ih. if_reaches here at (is_digit b) _ _
    (fault_reaches (nat_le (value * 10 + (b - 48)) most) at _
    (fault NumberTooLarge (record { at = at; bytes = b ∷ bs })) refl (ih (value * 10 + (b - 48)))) (omega arith))
    (λ e value at b bs cs c d ih. if_agrees here e (is_digit b) (is_digit b) _ _ _ _ refl
    (if_agrees here e (nat_le (value * 10 + (b - 48)) most) (nat_le (value * 10 + (b - 48)) most) _ _
    (Err (fault NumberTooLarge (record { at = at; bytes = b ∷ bs })))
    (Err (fault NumberTooLarge (record { at = at; bytes = b ∷ cs }))) refl (ih (value * 10 + (b - 48))) (λ l. refl))
    (λ l. (record { at = at; bytes = b ∷ cs }, (refl, c))))

-- what speaks of the byte that stands here
pub steady_head : {A : Type 0} (to : Rest → ℕ) (read : ℕ → Rest → Outcome A) → ((b : ℕ) → Steady here to (read b)) →
    Steady here to (λ s. read (head s) s)
steady_head to read k = record {
  reaches = λ s. (k (head s)).reaches s;
  agrees = λ e s t c. agrees_within to e s.at (read (head s) s) (read (head t) t) ((k (head s)).reaches s)
      (λ l. subst (λ b. AgreesBefore to e (read (head s) s) (read b t)) (sym (shares_head e s t c l))
      ((k (head s)).agrees e s t c));
}

pub positive_steady : (most : ℕ) → Steady next here (reading.positive most)
unfolding reading.positive
positive_steady most =
    let digits_behind = λ (b : ℕ) (t : Rest). reading.digits most (b - 48) (behind t).at (behind t).bytes in
    steady_skip here (λ t. if is_digit (head t) && not (head t == 48) then digits_behind (head t) t else Err
    (unexpected_fault what.Number t))
    (steady_if here here (λ t. is_digit (head t) && not (head t == 48)) (λ t. digits_behind (head t) t)
    (λ t. Err (unexpected_fault what.Number t)) (head_test (λ b. is_digit b && not (b == 48)))
    (steady_head here digits_behind
    (λ b. steady_behind here (λ t. reading.digits most (b - 48) t.at t.bytes) (digits_steady most (b - 48))))
    (steady_unexpected here what.Number))

pub number_steady : (most : ℕ) → Steady next here (reading.number most)
unfolding reading.number
number_steady most = steady_if next here (λ s. head (skip s) == 48) (λ s. Ok (0, behind (skip s)))
    (reading.positive most) (next_test (λ b. b == 48))
    (steady_skip here (λ t. Ok (0, behind t)) (steady_behind here (λ t. Ok (0, t)) (steady_ok here 0)))
    (positive_steady most)

pub signed_steady : Steady next here reading.signed_reading
unfolding reading.signed_reading
signed_steady = steady_if next here (λ s. head (skip s) == 45)
    (λ s. map_outcome minus (reading.number (2 ^ 63) (behind (skip s))))
    (λ s. map_outcome pos (reading.number (2 ^ 63 - 1) s)) (next_test (λ b. b == 45))
    (steady_skip here (λ t. map_outcome minus (reading.number (2 ^ 63) (behind t)))
    (steady_behind here (λ t. map_outcome minus (reading.number (2 ^ 63) t))
    (steady_from here (λ t. map_outcome minus (reading.number (2 ^ 63) t))
    (steady_map next here minus (reading.number (2 ^ 63)) (number_steady (2 ^ 63))))))
    (steady_map next here pos (reading.number (2 ^ 63 - 1)) (number_steady (2 ^ 63 - 1)))

pub units_steady : (n : ℕ) → Steady here here (λ r. reading.units (n, r))
units_steady n =
    let counted = λ (b : ℕ) (r : Rest). if nat_le (n * unit_seconds b) longest then Ok
    (pos (n * unit_seconds b), behind r) else Err (fault NumberTooLarge r) in
    let read = λ (b : ℕ) (r : Rest). if unit_seconds b == 0 then Err (unexpected_fault what.Unit r) else counted b r in
    steady_head here read
    (λ b. steady_if here here (λ r. unit_seconds b == 0) (λ r. Err (unexpected_fault what.Unit r)) (counted b)
    (constant_test here (unit_seconds b == 0)) (steady_unexpected here what.Unit)
    (steady_if here here (λ r. nat_le (n * unit_seconds b) longest) (λ r. Ok (pos (n * unit_seconds b), behind r))
    (λ r. Err (fault NumberTooLarge r)) (constant_test here (nat_le (n * unit_seconds b) longest))
    (steady_behind here (λ r. Ok (pos (n * unit_seconds b), r)) (steady_ok here (pos (n * unit_seconds b))))
    (steady_fault here NumberTooLarge)))

pub duration_steady : Steady next here reading.duration
unfolding reading.duration
duration_steady = steady_bind next here here (reading.positive longest) reading.units (positive_steady longest)
    units_steady

pub positive_next : (most : ℕ) → Steady next next (reading.positive most)
positive_next most = steady_to next (reading.positive most) (positive_steady most)

-- texts in quotes
text_end_reaches : (o : Option (List ℕ)) (at : ℕ) (s rest : Rest) → at ≤ s.at → at ≤ rest.at →
    Reaches here at (reading.text_end o s rest)
text_end_reaches None at s rest h k = h
text_end_reaches (Some text) at s rest h k = k

text_end_agrees : (e : ℕ) (o : Option (List ℕ)) (s s' rest rest' : Rest) → Shares e s s' → Shares e rest rest' →
    AgreesBefore here e (reading.text_end o s rest) (reading.text_end o s' rest')
text_end_agrees e None s s' rest rest' c d = λ l. ap (λ n. Err (record { at = n; kind = BadToken })) c.place
text_end_agrees e (Some text) s s' rest rest' c d = λ l. (rest', (refl, d))

text_step_reaches : (step : TextStep) (at b : ℕ) (s rest : Rest) (content : List ℕ)
    (go : Open → List ℕ → Outcome (List ℕ)) → at ≤ s.at → at ≤ rest.at →
    ((next : Open) (more : List ℕ) → Reaches here at (go next more)) →
    Reaches here at (reading.after_text_step step b s rest content go)
text_step_reaches TextEnd at b s rest content go h k ih = text_end_reaches (text_in content) at s rest h k
text_step_reaches (TextPass next) at b s rest content go h k ih = ih next content
text_step_reaches (TextKeep next) at b s rest content go h k ih = ih next (content ++ b ∷ [])
text_step_reaches TextBad at b s rest content go h k ih = h

text_step_agrees : (e : ℕ) (step : TextStep) (b : ℕ) (s s' rest rest' : Rest) (content : List ℕ)
    (go go' : Open → List ℕ → Outcome (List ℕ)) → Shares e s s' → Shares e rest rest' →
    ((next : Open) (more : List ℕ) → AgreesBefore here e (go next more) (go' next more)) →
    AgreesBefore here e (reading.after_text_step step b s rest content go)
    (reading.after_text_step step b s' rest' content go')
text_step_agrees e TextEnd b s s' rest rest' content go go' c d ih = text_end_agrees e (text_in content) s s' rest rest'
    c d
text_step_agrees e (TextPass next) b s s' rest rest' content go go' c d ih = ih next content
text_step_agrees e (TextKeep next) b s s' rest rest' content go go' c d ih = ih next (content ++ b ∷ [])
text_step_agrees e TextBad b s s' rest rest' content go go' c d ih = λ l. ap
    (λ n. Err (record { at = n; kind = BadToken })) c.place

pub text_from_steady : (state : Open × List ℕ) → Steady here here (λ s. reading.text_from state.0 state.1 s.at s.bytes)
text_from_steady = steady_bytes here (λ state at bs. reading.text_from state.0 state.1 at bs) (λ state at. omega arith)
    (λ state at b bs ih. text_step_reaches (text_step state.0 b) at b (record { at = at; bytes = b ∷ bs })
    (record { at = at + 1; bytes = bs }) state.1 _ (omega arith) (omega arith)
    (λ next more. reaches_before here at (at + 1) _ (omega arith) (ih (next, more))))
    (λ e state at b bs cs c d ih. text_step_agrees e (text_step state.0 b) b _ _ _ _ state.1 _ _ c d
    (λ next more. ih (next, more)))

pub text_steady : Steady here here reading.text
unfolding reading.text
text_steady = text_from_steady (Whole, [])

-- patterns
piece_reaches : (o : Option (List ℕ)) (at : ℕ) (s : Rest) (pieces : List (List ℕ))
    (go : List (List ℕ) → Outcome (List (List ℕ))) → at ≤ s.at → ((all : List (List ℕ)) → Reaches here at (go all)) →
    Reaches here at (reading.piece_end o s pieces go)
piece_reaches None at s pieces go h ih = h
piece_reaches (Some piece) at s pieces go h ih = ih (pieces ++ piece ∷ [])

piece_agrees : (e : ℕ) (o : Option (List ℕ)) (s s' : Rest) (pieces : List (List ℕ))
    (go go' : List (List ℕ) → Outcome (List (List ℕ))) → Shares e s s' →
    ((all : List (List ℕ)) → AgreesBefore here e (go all) (go' all))
    → AgreesBefore here e (reading.piece_end o s pieces go)
    (reading.piece_end o s' pieces go')
piece_agrees e None s s' pieces go go' c ih = λ l. ap (λ n. Err (record { at = n; kind = BadToken })) c.place
piece_agrees e (Some piece) s s' pieces go go' c ih = ih (pieces ++ piece ∷ [])

pattern_step_reaches : (step : PatternStep) (at b : ℕ) (s rest : Rest) (pieces : List (List ℕ)) (content : List ℕ)
    (go : Open → Sign → List (List ℕ) → List ℕ → Outcome (List (List ℕ))) → at ≤ s.at → at ≤ rest.at →
    ((next : Open) (mark : Sign) (all : List (List ℕ)) (more : List ℕ) → Reaches here at (go next mark all more)) →
    Reaches here at (reading.after_pattern_step step b s rest pieces content go)
pattern_step_reaches PatternEnd at b s rest pieces content go h k ih = piece_reaches (text_in content) at s pieces
    (λ all. Ok (all, rest)) h (λ all. k)
pattern_step_reaches PatternCut at b s rest pieces content go h k ih = piece_reaches (text_in content) at s pieces
    (λ all. go Whole Plain all []) h (λ all. ih Whole Plain all [])
pattern_step_reaches (PatternPass next mark) at b s rest pieces content go h k ih = ih next mark pieces content
pattern_step_reaches (PatternKeep next mark) at b s rest pieces content go h k ih = ih next mark pieces
    (content ++ b ∷ [])
pattern_step_reaches PatternUnfit at b s rest pieces content go h k ih = h
pattern_step_reaches PatternBad at b s rest pieces content go h k ih = h

pattern_step_agrees : (e : ℕ) (step : PatternStep) (b : ℕ) (s s' rest rest' : Rest) (pieces : List (List ℕ))
    (content : List ℕ) (go go' : Open → Sign → List (List ℕ) → List ℕ → Outcome (List (List ℕ))) → Shares e s s' →
    Shares e rest rest' →
    ((next : Open) (mark : Sign) (all : List (List ℕ)) (more : List ℕ) → AgreesBefore here e (go next mark all more)
    (go' next mark all more)) →
    AgreesBefore here e (reading.after_pattern_step step b s rest pieces content go)
    (reading.after_pattern_step step b s' rest' pieces content go')
pattern_step_agrees e PatternEnd b s s' rest rest' pieces content go go' c d ih = piece_agrees e (text_in content) s s'
    pieces (λ all. Ok (all, rest)) (λ all. Ok (all, rest')) c (λ all l. (rest', (refl, d)))
pattern_step_agrees e PatternCut b s s' rest rest' pieces content go go' c d ih = piece_agrees e (text_in content) s s'
    pieces (λ all. go Whole Plain all []) (λ all. go' Whole Plain all []) c (λ all. ih Whole Plain all [])
pattern_step_agrees e (PatternPass next mark) b s s' rest rest' pieces content go go' c d ih = ih next mark pieces
    content
pattern_step_agrees e (PatternKeep next mark) b s s' rest rest' pieces content go go' c d ih = ih next mark pieces
    (content ++ b ∷ [])
pattern_step_agrees e PatternUnfit b s s' rest rest' pieces content go go' c d ih = λ l. ap
    (λ n. Err (record { at = n; kind = BadPattern })) c.place
pattern_step_agrees e PatternBad b s s' rest rest' pieces content go go' c d ih = λ l. ap
    (λ n. Err (record { at = n; kind = BadToken })) c.place

pub pattern_from_steady : (state : Open × Sign × List (List ℕ) × List ℕ) →
    Steady here here (λ s. reading.pattern_from state.0 state.1 state.2 state.3 s.at s.bytes)
pattern_from_steady = steady_bytes here (λ state at bs. reading.pattern_from state.0 state.1 state.2 state.3 at bs)
    (λ state at. omega arith)
    (λ state at b bs ih. pattern_step_reaches (pattern_step state.0 state.1 b) at b (record { at = at; bytes = b ∷ bs })
    (record { at = at + 1; bytes = bs }) state.2 state.3 _ (omega arith) (omega arith)
    (λ next mark all more. reaches_before here at (at + 1) _ (omega arith) (ih (next, mark, all, more))))
    (λ e state at b bs cs c d ih. pattern_step_agrees e (pattern_step state.0 state.1 b) b _ _ _ _ state.2 state.3 _ _ c
    d (λ next mark all more. ih (next, mark, all, more)))

pub pattern_steady : Steady here here reading.pattern
unfolding reading.pattern
pattern_steady = pattern_from_steady (Whole, Plain, [], [])
