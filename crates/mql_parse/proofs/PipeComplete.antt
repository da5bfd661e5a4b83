-- A pipe of the grammar is read as its tree.
use Rattle.std.proofs.Common.{◌≡◌, ℕ, ℤ, suc, Bool, true, false, ◌==◌, List, [], ◌∷◌, ◌++◌, codes, refl, sym, ap, ◌∙◌}
use Rattle.std.proofs.Common.{if◌then◌else◌, Some, Ok}
use Rattle.std.proofs.lemmas.Bool.{false≢true, eqb-true}
use Rattle.mon_value.specs.Answers.{◌>>=◌}
use Rattle.mon_value.specs.declared.aligners.Aligner.TheVariants as aligner
use Rattle.mql_ast.specs.declared.names.Name.{Name}
use Rattle.mql_ast.specs.declared.operations.Aggregate.{Aggregate}
use Rattle.mql_ast.specs.declared.pipes.How.{How}
use Rattle.mql_ast.specs.declared.pipes.How.TheVariants as how
use Rattle.mql_ast.specs.Trees as tree
use Rattle.mql_ast.specs.Trees.{PredicateTree, ItemTree, DeedTree, OpTree, PipeTree, SourceTree, branches}
use Rattle.mql_ast.specs.Tokens.{is_blank, is_letter, is_word_byte, Rest, head, behind, skip, sign_at, keyword_at, past}
use Rattle.mql_ast.specs.Tokens.{name_at, metric_at, positive_at, duration_at}
use Rattle.mql_ast.specs.Grammar as grammar
use Rattle.mql_ast.specs.Grammar.{Apart, Grouping, FoldingList, ItemList, Disjunction, Deed, align_delta}
use Rattle.mql_ast.specs.Grammar.{align_next_older, Ops, no_ops, more_ops, how_word, Pipe, flow, Source, PipeList}
use Rattle.mql_ast.specs.Grammar.{two_pipes, more_pipes}
use Rattle.mql_parse.specs.declared.faults.What.{What}
use Rattle.mql_parse.specs.declared.faults.What.TheVariants as what
use Rattle.mql_parse.specs.Outcomes.{Outcome, sign, exact, apart}
use Rattle.mql_parse.specs.Repeats.{Done, Again, on_read, repetition}
use Rattle.mql_parse.specs.TokenReading as reading
use Rattle.mql_parse.specs.SumReading.{items}
use Rattle.mql_parse.specs.PredicateReading as predicates
use Rattle.mql_parse.specs.Folds as folds
use Rattle.mql_parse.specs.PipeReading as pipes
use Rattle.mql_parse.proofs.RestLemmas.{skip_off}
use Rattle.mql_parse.proofs.BehindLemmas.{sign_taken}
use Rattle.mql_parse.proofs.Loops.{loop_goes_on}
use Rattle.mql_parse.proofs.Sound.{sign_here}
use Rattle.mql_parse.proofs.PipeSound.{operation_turn_behind, branch_turn_behind}
use Rattle.mql_parse.proofs.Complete.{bound, mapped, up_to_read, sign_read, exact_read, name_read, metric_read}
use Rattle.mql_parse.proofs.Complete.{positive_read, duration_read, ends_here, other_byte, passes, other_sign}
use Rattle.mql_parse.proofs.Complete.{first_past}
use Rattle.mql_parse.proofs.ListComplete.{names_read, items_read, aggregates_read}
use Rattle.mql_parse.proofs.PredicateComplete.{filter_ends, filter_ends_barred}
use Rattle.mql_parse.proofs.ByteLemmas.{if_true, if_false}

-- a keyword and the blank behind it
apart_read : (w : What) (m : Rest) → Apart m → apart w m ≡ Ok m
apart_read w m a = if_false (is_word_byte (head m)) _ (Ok m) a

word_apart_read : (word : List ℕ) (w : What) (s m : Rest) → past word s ≡ Some m → Apart m →
    pipes.word_apart word w s ≡ Ok m
word_apart_read word w s m e a =
    bound (exact what.Operation word s) _ m _ (exact_read what.Operation word s m e) (apart_read w m a)

-- aligners
aligned_read : (word : List ℕ) (s k j i r : Rest) (z : ℤ) → past word s ≡ Some k → sign_at 40 k ≡ Some j →
    duration_at j ≡ Some (z, i) → sign_at 41 i ≡ Some r → pipes.aligned_for word s ≡ Ok (z, r)
aligned_read word s k j i r z e f g h =
    bound (exact what.Aligner word s) _ k _ (exact_read what.Aligner word s k e)
    (bound (sign 40 what.OpenParenthesis k) _ j _ (sign_read 40 what.OpenParenthesis k j f)
    (up_to_read 41 what.CloseParenthesis (reading.duration j) z i r (duration_read j i z g) h))

aligner_read : (s m r : Rest) (deed : DeedTree) → past (codes "align") (skip s) ≡ Some m → Apart m →
    pipes.aligner_here (skip m) ≡ Ok (deed, r) → pipes.align (skip s) ≡ Ok (deed, r)
unfolding pipes.align
aligner_read s m r deed e a h =
    bound (pipes.word_apart (codes "align") what.Aligner (skip s)) _ m _
    (word_apart_read (codes "align") what.Aligner (skip s) m e a) h

delta_read : (t k j i r : Rest) (z : ℤ) → past (codes "delta") t ≡ Some k → sign_at 40 k ≡ Some j →
    duration_at j ≡ Some (z, i) → sign_at 41 i ≡ Some r →
    pipes.aligner_here t ≡ Ok (tree.Align (aligner.Delta z), r)
delta_read t k j i r z e f g h =
    let b = first_past 100 (codes "elta") t k e in
    if_true (head t == 100) _ _ b.0 ∙ mapped (λ z. tree.Align (aligner.Delta z)) (pipes.aligned_for (codes "delta") t)
    z r (aligned_read (codes "delta") t k j i r z e f g h)

next_older_read : (t k j i r : Rest) (z : ℤ) → past (codes "next_older") t ≡ Some k → sign_at 40 k ≡ Some j →
    duration_at j ≡ Some (z, i) → sign_at 41 i ≡ Some r →
    pipes.aligner_here t ≡ Ok (tree.Align (aligner.NextOlder z), r)
next_older_read t k j i r z e f g h =
    let b = first_past 110 (codes "ext_older") t k e in
    if_false (head t == 100) _ _ (other_byte 100 110 (head t) refl b.0) ∙ if_true (head t == 110) _ _ b.0
    ∙ mapped (λ z. tree.Align (aligner.NextOlder z)) (pipes.aligned_for (codes "next_older") t) z r
    (aligned_read (codes "next_older") t k j i r z e f g h)

-- other operations
group_by_read : (t m k j r : Rest) (ns : List Name) (all : List Aggregate) → past (codes "group_by") t ≡ Some m →
    Grouping m k ns → sign_at 44 k ≡ Some j → FoldingList j r all → (head (skip r) == 44) ≡ false →
    pipes.group_by t ≡ Ok (tree.GroupBy ns all, r)
unfolding pipes.group_by
group_by_read t m k j r ns all e g f l h =
    let n = names_read g in
    bound (exact what.Operation (codes "group_by") t) _ m _ (exact_read what.Operation (codes "group_by") t m e)
    (bound (sign 91 what.OpenBracket m) _ n.0 _ (sign_read 91 what.OpenBracket m n.0 n.1.0)
    (bound (folds.names n.0) _ (ns, k) _ n.1.1
    (bound (sign 44 what.Comma k) _ j _ (sign_read 44 what.Comma k j f)
    (mapped (λ x. tree.GroupBy ns x) (folds.aggregates j) all r (aggregates_read j r all l h)))))

value_read : (d : ℕ) (t m k j r : Rest) (all : List ItemTree) → past (codes "value") t ≡ Some m →
    sign_at 91 m ≡ Some k → ItemList d k j all → sign_at 93 j ≡ Some r → pipes.value d t ≡ Ok (tree.Value all, r)
unfolding pipes.value
value_read d t m k j r all e f l g =
    bound (exact what.Operation (codes "value") t) _ m _ (exact_read what.Operation (codes "value") t m e)
    (bound (sign 91 what.OpenBracket m) _ k _ (sign_read 91 what.OpenBracket m k f)
    (mapped tree.Value (items d k) all r (items_read d k j r all l g)))

top_read : (t m k j r : Rest) (n : ℕ) (c : Name) → past (codes "top") t ≡ Some m → Apart m →
    positive_at 16777216 m ≡ Some (n, k) → sign_at 44 k ≡ Some j → name_at j ≡ Some (c, r) →
    pipes.top t ≡ Ok (tree.Top n c, r)
unfolding pipes.top
top_read t m k j r n c e a f g h =
    bound (pipes.word_apart (codes "top") what.Number t) _ m _ (word_apart_read (codes "top") what.Number t m e a)
    (bound (reading.positive 16777216 m) _ (n, k) _ (positive_read 16777216 m k n f)
    (bound (sign 44 what.Comma k) _ j _ (sign_read 44 what.Comma k j g)
    (mapped (λ x. tree.Top n x) (reading.name j) c r (name_read j r c h))))

duration_deed_read : (deed : ℤ → DeedTree) (word : List ℕ) (t m r : Rest) (z : ℤ) → past word t ≡ Some m → Apart m →
    duration_at m ≡ Some (z, r) → pipes.duration_deed deed word t ≡ Ok (deed z, r)
unfolding pipes.duration_deed
duration_deed_read deed word t m r z e a f =
    bound (pipes.word_apart word what.Number t) _ m _ (word_apart_read word what.Number t m e a)
    (mapped deed (reading.duration m) z r (duration_read m r z f))

-- the operation that is read by its first byte
align_here : (d : ℕ) (t : Rest) → (head t == 97) ≡ true → pipes.deed_here d t ≡ pipes.align t
unfolding pipes.deed_here
align_here d t h = if_true (head t == 97) _ _ h

module _ (d : ℕ) (t : Rest) where
  not_before : (c b : ℕ) → (c == b) ≡ false → (head t == c) ≡ true → (head t == b) ≡ false
  not_before c b z h = other_byte b c (head t) z h

  group_by_here : (head t == 103) ≡ true → pipes.deed_here d t ≡ pipes.group_by t
  unfolding pipes.deed_here
  group_by_here h = if_false (head t == 97) _ _ (not_before 103 97 refl h) ∙ if_true (head t == 103) _ _ h

  value_here : (head t == 118) ≡ true → pipes.deed_here d t ≡ pipes.value d t
  unfolding pipes.deed_here
  value_here h =
      if_false (head t == 97) _ _ (not_before 118 97 refl h)
      ∙ if_false (head t == 103) _ _ (not_before 118 103 refl h) ∙ if_true (head t == 118) _ _ h

  top_here : (head t == 116) ≡ true → pipes.deed_here d t ≡ pipes.top t
  unfolding pipes.deed_here
  top_here h =
      if_false (head t == 97) _ _ (not_before 116 97 refl h)
      ∙ if_false (head t == 103) _ _ (not_before 116 103 refl h)
      ∙ if_false (head t == 118) _ _ (not_before 116 118 refl h)
      ∙ if_true (head t == 116) _ _ h

  every_here : (head t == 101) ≡ true → pipes.deed_here d t ≡ pipes.duration_deed tree.Every (codes "every") t
  unfolding pipes.deed_here
  every_here h =
      if_false (head t == 97) _ _ (not_before 101 97 refl h)
      ∙ if_false (head t == 103) _ _ (not_before 101 103 refl h)
      ∙ if_false (head t == 118) _ _ (not_before 101 118 refl h)
      ∙ if_false (head t == 116) _ _ (not_before 101 116 refl h) ∙ if_true (head t == 101) _ _ h

  within_here : (head t == 119) ≡ true → pipes.deed_here d t ≡ pipes.duration_deed tree.Within (codes "within") t
  unfolding pipes.deed_here
  within_here h =
      if_false (head t == 97) _ _ (not_before 119 97 refl h)
      ∙ if_false (head t == 103) _ _ (not_before 119 103 refl h)
      ∙ if_false (head t == 118) _ _ (not_before 119 118 refl h)
      ∙ if_false (head t == 116) _ _ (not_before 119 116 refl h)
      ∙ if_false (head t == 101) _ _ (not_before 119 101 refl h) ∙ if_true (head t == 119) _ _ h

-- an operation ends here: no further condition or aggregate follows, and a bar is no half of `||`
abbrev OpEnds : Rest → Type 0
OpEnds r = ((head (skip r) == 38) ≡ false) × (((head (skip r) == 44) ≡ false) × ((head (skip r) == 124) ≡ true →
    (head (behind (skip r)) == 124) ≡ false))

-- what is left behind an operation, whose bar may have been read with it
abbrev Barred : Bool → Rest → Rest → Type 0
Barred false r k = k ≡ r
Barred true r k = sign_at 124 r ≡ Some k

abbrev OpRead : ℕ → Rest → Rest → DeedTree → Type 0
OpRead d s r what =
    (bar : Bool) × ((k : Rest) × (Barred bar r k × (pipes.operation d s ≡ Ok ((pipes.op_at (skip s).at what, bar), k))))

plain_op : (d c : ℕ) → (c == 102) ≡ false → (s r : Rest) (what : DeedTree) → (head (skip s) == c) ≡ true →
    pipes.deed_here d (skip s) ≡ Ok (what, r) → OpRead d s r what
unfolding pipes.operation
plain_op d c z s r what h e = (
  false,
  (
    r,
    (
      refl,
      if_false (head (skip s) == 102) _ _ (other_byte 102 c (head (skip s)) z h)
          ∙ mapped (λ deed. (pipes.op_at (skip s).at deed, false)) (pipes.deed_here d (skip s)) what r e,
    ),
  ),
)

filter_op : (d : ℕ) (s m k : Rest) (p : PredicateTree) (bar : Bool) → past (codes "filter") (skip s) ≡ Some m →
    Apart m → predicates.predicate d m ≡ Ok ((p, bar), k) →
    pipes.operation d s ≡ Ok ((pipes.op_at (skip s).at (tree.Filter p), bar), k)
unfolding pipes.operation
filter_op d s m k p bar e a h =
    if_true (head (skip s) == 102) _ _ (first_past 102 (codes "ilter") (skip s) m e).0
    ∙ bound (pipes.word_apart (codes "filter") what.Name (skip s)) _ m _
    (word_apart_read (codes "filter") what.Name (skip s) m e a)
    (mapped (λ x. (pipes.op_at (skip s).at (tree.Filter x.0), x.1)) (predicates.predicate d m) (p, bar) k h)

filter_read : (d : ℕ) (s m r : Rest) (p : PredicateTree) → past (codes "filter") (skip s) ≡ Some m → Apart m →
    Disjunction d m r p → OpEnds r → OpRead d s r (tree.Filter p)
filter_read d s m r p e a g u = by_bar (head (skip r) == 124) refl
  where
    by_bar : (t : Bool) → (head (skip r) == 124) ≡ t → OpRead d s r (tree.Filter p)
    by_bar true h = (
      true,
      (
        behind (skip r),
        (
          sign_here 124 r h,
          filter_op d s m (behind (skip r)) p true e a
              (filter_ends_barred g u.0 h (u.1.1 h)),
        ),
      ),
    )
    by_bar false h = (false, (r, (refl, filter_op d s m r p false e a (filter_ends g u.0 h))))

op_read : {d : ℕ} {s r : Rest} {what : DeedTree} → Deed d s r what → OpEnds r → OpRead d s r what
op_read {d = d} {s = s} {r = r} (grammar.filter {m = m} {p = p} e a g) u = filter_read d s m r p e a g u
op_read {d = d} {s = s} {r = r} (align_delta {m = m} {k = k} {j = j} {i = i} {z = z} e a f g h l) u =
    let b = (first_past 97 (codes "lign") (skip s) m e).0 in
    plain_op d 97 refl s r _ b (align_here d (skip s) b
    ∙ aligner_read s m r _ e a (delta_read (skip m) k j i r z f g h l))
op_read {d = d} {s = s} {r = r} (align_next_older {m = m} {k = k} {j = j} {i = i} {z = z} e a f g h l) u =
    let b = (first_past 97 (codes "lign") (skip s) m e).0 in
    plain_op d 97 refl s r _ b (align_here d (skip s) b
    ∙ aligner_read s m r _ e a (next_older_read (skip m) k j i r z f g h l))
op_read {d = d} {s = s} {r = r} (grammar.group_by {m = m} {k = k} {j = j} {ns = ns} {as' = all} e g f l) u =
    let b = (first_past 103 (codes "roup_by") (skip s) m e).0 in
    plain_op d 103 refl s r _ b (group_by_here d (skip s) b ∙ group_by_read (skip s) m k j r ns all e g f l u.1.0)
op_read {d = d} {s = s} {r = r} (grammar.value {m = m} {k = k} {j = j} {items = all} e f l g) u =
    let b = (first_past 118 (codes "alue") (skip s) m e).0 in
    plain_op d 118 refl s r _ b (value_here d (skip s) b ∙ value_read d (skip s) m k j r all e f l g)
op_read {d = d} {s = s} {r = r} (grammar.top {m = m} {k = k} {j = j} {n = n} {c = c} e a f g h) u =
    let b = (first_past 116 (codes "op") (skip s) m e).0 in
    plain_op d 116 refl s r _ b (top_here d (skip s) b ∙ top_read (skip s) m k j r n c e a f g h)
op_read {d = d} {s = s} {r = r} (grammar.every {m = m} {z = z} e a f) u =
    let b = (first_past 101 (codes "very") (skip s) m e).0 in
    plain_op d 101 refl s r _ b (every_here d (skip s) b ∙ duration_deed_read tree.Every (codes "every") (skip s) m r
    z e a f)
op_read {d = d} {s = s} {r = r} (grammar.within {m = m} {z = z} e a f) u =
    let b = (first_past 119 (codes "ithin") (skip s) m e).0 in
    plain_op d 119 refl s r _ b (within_here d (skip s) b ∙ duration_deed_read tree.Within (codes "within") (skip s) m
    r z e a f)

-- an operation begins with a letter
begins_with : (c : ℕ) → is_letter c ≡ true → (cs : List ℕ) (s m : Rest) → past (c ∷ cs) (skip s) ≡ Some m →
    is_letter (head (skip s)) ≡ true
begins_with c z cs s m e = passes is_letter c z (head (skip s)) (first_past c cs (skip s) m e).0

op_begins : {d : ℕ} {s r : Rest} {what : DeedTree} → Deed d s r what → is_letter (head (skip s)) ≡ true
op_begins {s = s} (grammar.filter {m = m} e a g) = begins_with 102 refl (codes "ilter") s m e
op_begins {s = s} (align_delta {m = m} e a f g h l) = begins_with 97 refl (codes "lign") s m e
op_begins {s = s} (align_next_older {m = m} e a f g h l) = begins_with 97 refl (codes "lign") s m e
op_begins {s = s} (grammar.group_by {m = m} e g f l) = begins_with 103 refl (codes "roup_by") s m e
op_begins {s = s} (grammar.value {m = m} e f l g) = begins_with 118 refl (codes "alue") s m e
op_begins {s = s} (grammar.top {m = m} e a f g h) = begins_with 116 refl (codes "op") s m e
op_begins {s = s} (grammar.every {m = m} e a f) = begins_with 101 refl (codes "very") s m e
op_begins {s = s} (grammar.within {m = m} e a f) = begins_with 119 refl (codes "ithin") s m e

no_bar : (k : Rest) → is_letter (head (skip k)) ≡ true → (head k == 124) ≡ false
no_bar k h = either (head k == 124) (λ e. let bar = eqb-true (head k) 124 e in ap (λ r. is_letter (head r))
    (skip_off k (ap is_blank bar)) ∙ ap is_letter bar)
  where
    either : (t : Bool) → (t ≡ true → is_letter (head (skip k)) ≡ false) → t ≡ false
    either true f = absurd (false≢true (sym (f refl) ∙ h))
    either false f = refl

-- what an operation follows
bar_ends : (m k : Rest) → sign_at 124 m ≡ Some k → is_letter (head (skip k)) ≡ true → OpEnds m
bar_ends m k e h = (
  other_sign 38 124 refl m k e,
  (
    other_sign 44 124 refl m k e,
    λ _. ap (λ n. head n == 124)
        (sign_taken 124 m k e).1 ∙ no_bar k h,
  ),
)

-- the reading of operations goes on from those so far
abbrev OpsGoOn : ℕ → Rest → Rest → List OpTree → Type 0
OpsGoOn d s r ops =
    (bar : Bool) × ((k : Rest) × (Barred bar r k × (repetition (pipes.operation_turn d) ([], false) s ≡ repetition
    (pipes.operation_turn d) (ops, bar) k)))

-- a further operation behind its bar, whether that was read or not
bar_turn : (d : ℕ) (ops : List OpTree) (bar : Bool) (m j k : Rest) → Barred bar m j → sign_at 124 m ≡ Some k →
    pipes.operation_turn d (ops, bar) j ≡ pipes.operation_from d ops k
unfolding pipes.operation_turn
bar_turn d ops false m j k e h =
    let t = sign_taken 124 m k h in
    ap (λ n. if head (skip n) == 124 then pipes.operation_from d ops (behind (skip n)) else Done (ops, false) n) e
    ∙ if_true (head (skip m) == 124) _ _ t.0 ∙ ap (pipes.operation_from d ops) t.1
bar_turn d ops true m j k e h =
    ap (pipes.operation_from d ops) (sym (sign_taken 124 m j e).1 ∙ (sign_taken 124 m k h).1)

next_op : (d : ℕ) (s m k r : Rest) (ops : List OpTree) (what : DeedTree) → OpsGoOn d s m ops →
    sign_at 124 m ≡ Some k → OpRead d k r what → OpsGoOn d s r (ops ++ pipes.op_at (skip k).at what ∷ [])
next_op d s m k r ops what (bar, (j, (g, e))) h (next_bar, (i, (f, o))) =
    let turn = bar_turn d ops bar m j k g h ∙ ap (on_read (λ x. Again (pipes.with_op ops x.0) x.1)) o in (
      next_bar,
      (
        i,
        (
          f,
          e ∙ sym (loop_goes_on (pipes.operation_turn d) (operation_turn_behind d) (ops, bar)
              (ops ++ pipes.op_at (skip k).at what ∷ [], next_bar) j i _ turn refl),
        ),
      ),
    )

ops_go_on : {d : ℕ} {s r : Rest} {ops : List OpTree} → Ops d s r ops → OpEnds r → OpsGoOn d s r ops
ops_go_on {s = s} no_ops u = (false, (s, (refl, refl)))
ops_go_on {d = d} {s = s} {r = r} (more_ops {m = m} {k = k} {ops = ops} {what = what} l e w) u =
    next_op d s m k r ops what (ops_go_on l (bar_ends m k e (op_begins w))) e (op_read w u)

-- no sign stands here that a pipe may go on with
abbrev pub PipeEnds : Rest → Type 0
PipeEnds r = ((head (skip r) == 124) ≡ false) × (((head (skip r) == 38) ≡ false) × ((head (skip r) == 44) ≡ false))

pipe_ends_before : (c : ℕ) → (c == 124) ≡ false → (c == 38) ≡ false → (c == 44) ≡ false → (s r : Rest) →
    sign_at c s ≡ Some r → PipeEnds s
pipe_ends_before c a b z s r e = (other_sign 124 c a s r e, (other_sign 38 c b s r e, other_sign 44 c z s r e))

last_op : (r : Rest) → PipeEnds r → OpEnds r
last_op r u = (u.1.0, (u.1.1, λ h. absurd (false≢true (sym u.0 ∙ h))))

ops_end : (d : ℕ) (ops : List OpTree) (bar : Bool) (k r : Rest) → Barred bar r k → (head (skip r) == 124) ≡ false →
    repetition (pipes.operation_turn d) (ops, bar) k ≡ Ok ((ops, false), r)
unfolding pipes.operation_turn
ops_end d ops false k r e h =
    ap (repetition (pipes.operation_turn d) (ops, false)) e ∙ ends_here (pipes.operation_turn d) (ops, false)
    (ops, false) r r (if_false (head (skip r) == 124) _ _ h)
ops_end d ops true k r e h = absurd (false≢true (sym h ∙ (sign_taken 124 r k e).0))

ops_read : (d : ℕ) (s r : Rest) (ops : List OpTree) → Ops d s r ops → PipeEnds r → pipes.operations d s ≡ Ok (ops, r)
unfolding pipes.operations
ops_read d s r ops l u =
    let g = ops_go_on l (last_op r u) in
    mapped (λ x. x.0) (repetition (pipes.operation_turn d) ([], false) s) (ops, false) r
    (g.1.1.1 ∙ ops_end d ops g.0 g.1.0 r g.1.1.0 u.0)

-- sources
fetch_read : (t m k j r : Rest) (n w : Name) → past (codes "fetch") t ≡ Some m → Apart m → name_at m ≡ Some (n, k) →
    keyword_at (codes "::") k ≡ Some j → metric_at j ≡ Some (w, r) →
    pipes.fetch t ≡ Ok (tree.Fetch t.at n w, r)
unfolding pipes.fetch
fetch_read t m k j r n w e a f g h =
    bound (exact what.Fetch (codes "fetch") t) _ m _ (exact_read what.Fetch (codes "fetch") t m e)
    (bound (apart what.Name m) _ m _ (apart_read what.Name m a)
    (bound (reading.name m) _ (n, k) _ (name_read m k n f)
    (bound (exact what.Colons (codes "::") (skip k)) _ j _ (exact_read what.Colons (codes "::") (skip k) j g)
    (mapped (λ x. tree.Fetch t.at n x) (reading.metric j) w r (metric_read j r w h)))))

fetch_here : (d : ℕ) (s : Rest) → (head (skip s) == 102) ≡ true → pipes.source d s ≡ pipes.fetch (skip s)
unfolding pipes.source_with
fetch_here d s h = if_true (head (skip s) == 102) _ _ h

how_read : (h : How) (i r : Rest) → keyword_at (how_word h) i ≡ Some r → pipes.how_here (skip i) ≡ Ok (h, r)
how_read how.Join i r e =
    if_true (head (skip i) == 106) _ _ (first_past 106 (codes "oin") (skip i) r e).0
    ∙ bound (exact what.How (codes "join") (skip i)) _ r _ (exact_read what.How (codes "join") (skip i) r e) refl
how_read how.Union i r e =
    let b = (first_past 117 (codes "nion") (skip i) r e).0 in
    if_false (head (skip i) == 106) _ _ (other_byte 106 117 (head (skip i)) refl b)
    ∙ if_true (head (skip i) == 117) _ _ b
    ∙ bound (exact what.How (codes "union") (skip i)) _ r _ (exact_read what.How (codes "union") (skip i) r e) refl

branches_how_read : (at : ℕ) (ps : List PipeTree) (j i r : Rest) (h : How) → sign_at 124 j ≡ Some i →
    keyword_at (how_word h) i ≡ Some r → pipes.branches_how at ps j
    ≡ Ok (tree.Branches at (branches ps) h (skip i).at, r)
unfolding pipes.branches_how
branches_how_read at ps j i r h e f =
    bound (sign 124 what.Bar j) _ i _ (sign_read 124 what.Bar j i e)
    (mapped (λ by. tree.Branches at (branches ps) by (skip i).at) (pipes.how_here (skip i)) h r (how_read h i r f))

branches_here : (d : ℕ) (s m : Rest) → sign_at 123 s ≡ Some m → pipes.source (suc d) s ≡ pipes.branches_with
    (pipes.pipe d) (skip s).at m
unfolding pipes.source_with pipes.pipe_group
branches_here d s m e =
    let t = sign_taken 123 s m e in
    if_false (head (skip s) == 102) _ _ (other_sign 102 123 refl s m e) ∙ if_true (head (skip s) == 123) _ _ t.0
    ∙ ap (pipes.branches_with (pipes.pipe d) (skip s).at) t.1

abbrev joined_by : ℕ → List PipeTree × Rest → Outcome SourceTree
joined_by at all = pipes.branches_how at all.0 all.1

first_branch : (d at : ℕ) (s m k : Rest) (p : PipeTree) → pipes.pipe d s ≡ Ok (p, m) → sign_at 59 m ≡ Some k →
    pipes.branches_with (pipes.pipe d) at s ≡ (repetition (pipes.branch_turn (pipes.pipe d)) (p ∷ []) k >>= joined_by
    at)
unfolding pipes.branches_with
first_branch d at s m k p e h =
    bound (pipes.pipe d s) _ (p, m) _ e
    (bound (sign 59 (pipes.behind_branch p) m) _ k _ (sign_read 59 (pipes.behind_branch p) m k h) refl)

branch_next : (d : ℕ) (all : List PipeTree) (p : PipeTree) (s m k : Rest) → pipes.pipe d s ≡ Ok (p, m) →
    sign_at 59 m ≡ Some k → pipes.branch_turn (pipes.pipe d) all s ≡ Again (all ++ p ∷ []) k
unfolding pipes.branch_turn
branch_next d all p s m k e h =
    let t = sign_taken 59 m k h in
    ap (on_read (pipes.branch_behind all)) e ∙ if_true (head (skip m) == 59) _ _ t.0 ∙ ap (Again (all ++ p ∷ [])) t.1

branch_last : (d : ℕ) (all : List PipeTree) (p : PipeTree) (s m k : Rest) → pipes.pipe d s ≡ Ok (p, m) →
    sign_at 125 m ≡ Some k → pipes.branch_turn (pipes.pipe d) all s ≡ Done (all ++ p ∷ []) k
unfolding pipes.branch_turn
branch_last d all p s m k e h =
    let t = sign_taken 125 m k h in
    ap (on_read (pipes.branch_behind all)) e ∙ if_false (head (skip m) == 59) _ _ (other_sign 59 125 refl m k h)
    ∙ if_true (head (skip m) == 125) _ _ t.0 ∙ ap (Done (all ++ p ∷ [])) t.1

next_branch : (d at : ℕ) (all : List PipeTree) (p : PipeTree) (s m k : Rest) → pipes.pipe d s ≡ Ok (p, m) →
    sign_at 59 m ≡ Some k →
    (repetition (pipes.branch_turn (pipes.pipe d)) all s >>= joined_by at) ≡ (repetition
    (pipes.branch_turn (pipes.pipe d)) (all ++ p ∷ []) k >>= joined_by at)
next_branch d at all p s m k e h =
    ap (λ o. o >>= joined_by at)
    (sym (loop_goes_on (pipes.branch_turn (pipes.pipe d)) (branch_turn_behind d) all (all ++ p ∷ []) s k _
    (branch_next d all p s m k e h) refl))

last_branch : (d at : ℕ) (all : List PipeTree) (p : PipeTree) (s m k : Rest) → pipes.pipe d s ≡ Ok (p, m) →
    sign_at 125 m ≡ Some k →
    (repetition (pipes.branch_turn (pipes.pipe d)) all s >>= joined_by at) ≡ pipes.branches_how at (all ++ p ∷ []) k
last_branch d at all p s m k e h =
    ap (λ o. o >>= joined_by at) (ends_here (pipes.branch_turn (pipes.pipe d)) all (all ++ p ∷ []) s k
    (branch_last d all p s m k e h))

flow_read : (d : ℕ) (s m r : Rest) (t : SourceTree) (ops : List OpTree) → pipes.source d s ≡ Ok (t, m) →
    Ops d m r ops → PipeEnds r → pipes.pipe d s ≡ Ok (tree.Flow t ops, r)
unfolding pipes.pipe_with
flow_read d s m r t ops e l u =
    bound (pipes.source d s) _ (t, m) _ e (mapped (λ x. tree.Flow t x) (pipes.operations d m) ops r
    (ops_read d m r ops l u))

before_semicolon : (s r : Rest) → sign_at 59 s ≡ Some r → PipeEnds s
before_semicolon s r e = pipe_ends_before 59 refl refl refl s r e

before_brace : (s r : Rest) → sign_at 125 s ≡ Some r → PipeEnds s
before_brace s r e = pipe_ends_before 125 refl refl refl s r e

mutual
  -- each pipe of the grammar is read as its tree
  pub pipe_read : {d : ℕ} {s r : Rest} {t : PipeTree} → Pipe d s r t → PipeEnds r → pipes.pipe d s ≡ Ok (t, r)
  pipe_read {d = d} {s = s} {r = r} (flow {m = m} {t = t} {ops = ops} h l) u =
      flow_read d s m r t ops (source_read h) l u

  source_read : {d : ℕ} {s r : Rest} {t : SourceTree} → Source d s r t → pipes.source d s ≡ Ok (t, r)
  source_read {d = d} {s = s} {r = r} (grammar.fetch {m = m} {k = k} {j = j} {n = n} {w = w} e a f g h) =
      fetch_here d s (first_past 102 (codes "etch") (skip s) m e).0 ∙ fetch_read (skip s) m k j r n w e a f g h
  source_read {s = s} {r = r} (grammar.join {d = d} {m = m} {j = j} {i = i} {ps = ps} {h = h} e l f g w) =
      branches_here d s m e ∙ branches_end l j f (skip s).at ∙ branches_how_read (skip s).at ps j i r h g w

  branches_go_on : {d : ℕ} {s r : Rest} {ps : List PipeTree} → PipeList d s r ps → (k : Rest) →
      sign_at 59 r ≡ Some k → (at : ℕ) →
      pipes.branches_with (pipes.pipe d) at s ≡ (repetition (pipes.branch_turn (pipes.pipe d)) ps k >>= joined_by at)
  branches_go_on {d = d} {s = s} {r = r} (two_pipes {m = m} {k = j} {p = p} {q = q} h e g) k f at =
      first_branch d at s m j p (pipe_read h (before_semicolon m j e)) e
      ∙ next_branch d at (p ∷ []) q j r k (pipe_read g (before_semicolon r k f)) f
  branches_go_on {d = d} {r = r} (more_pipes {k = j} {ps = ps} {p = p} l e h) k f at =
      branches_go_on l j e at ∙ next_branch d at ps p j r k (pipe_read h (before_semicolon r k f)) f

  branches_end : {d : ℕ} {s r : Rest} {ps : List PipeTree} → PipeList d s r ps → (k : Rest) → sign_at 125 r ≡ Some k →
      (at : ℕ) →
      pipes.branches_with (pipes.pipe d) at s ≡ pipes.branches_how at ps k
  branches_end {d = d} {s = s} {r = r} (two_pipes {m = m} {k = j} {p = p} {q = q} h e g) k f at =
      first_branch d at s m j p (pipe_read h (before_semicolon m j e)) e
      ∙ last_branch d at (p ∷ []) q j r k (pipe_read g (before_brace r k f)) f
  branches_end {d = d} {r = r} (more_pipes {k = j} {ps = ps} {p = p} l e h) k f at =
      branches_go_on l j e at ∙ last_branch d at ps p j r k (pipe_read h (before_brace r k f)) f
