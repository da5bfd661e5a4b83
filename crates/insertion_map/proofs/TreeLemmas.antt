-- What lies along the paths of a digital search tree, and how it grows by an entry.
use Rattle.std.proofs.Common.{◌≡◌, ℕ, zero, suc, ◌+◌, ◌<◌, ◌≤◌, ◌/◌, ◌⊎◌, inl, inr, Bool, true, false, cond}
use Rattle.std.proofs.Common.{List, [], ◌∷◌, ◌++◌, length, slice_get, slice_set, Some, None}
use Rattle.std.proofs.Common.{refl, sym, ap, ◌∙◌, subst, arith}
use Rattle.std.proofs.lemmas.List.{length_push}
use Rattle.std.proofs.lemmas.Option.{none-some, same_Some, slice_get_within}
use Rattle.insertion_map.specs.declared.tree.Node.{Node}
use Rattle.insertion_map.specs.Tree.{below, hung, is_odd, with_even, with_odd, here, down, hashes_of}
use Rattle.insertion_map.specs.Tree.{EndsAt, IsTree, Leads}

-- the node of a hash
pub node_of : (nodes : List Node) (i hash : ℕ) → slice_get (hashes_of nodes) i ≡ Some hash →
    (node : Node) × (slice_get nodes i ≡ Some node) × (node.hash ≡ hash)
node_of [] i hash e = absurd (none-some _ e)
node_of (n ∷ ns) zero hash e = (n, refl, same_Some _ _ e)
node_of (n ∷ ns) (suc i) hash e = node_of ns i hash e

-- a path goes on by one node
pub one_further : (nodes : List Node) (place bits end rest : ℕ) (node : Node) → Leads nodes place bits end rest →
    slice_get nodes end ≡ Some node → end < below node rest → Leads nodes place bits (below node rest) (rest / 2)
one_further nodes place bits end rest node here at more = down node at more here
one_further nodes place bits end rest node (down n at' more' path) at more =
    down n at' more' (one_further nodes _ _ end rest node path at more)

module _ (Missed : ℕ → Type 0) (nodes : List Node) (hash : ℕ) where
  -- each entry with the hash was missed, or lies further down
  abbrev pub AreBelow : ℕ → ℕ → Type 0
  AreBelow place bits =
      (i : ℕ) → slice_get (hashes_of nodes) i ≡ Some hash → Missed i ⊎ ((rest : ℕ) × Leads nodes place bits i rest)

  pub AreBelow-root : IsTree nodes → AreBelow 0 hash
  AreBelow-root tree i e =
      let n = node_of nodes i hash e in
      let path = tree.reached i n.0 n.1 in
      inr (path.0, subst (λ h. Leads nodes 0 h i path.0) n.2 path.1)

  pub AreBelow-child : (place bits : ℕ) (node : Node) → slice_get nodes place ≡ Some node →
      (node.hash ≡ hash → Missed place) → AreBelow place bits → AreBelow (below node bits) (bits / 2)
  AreBelow-child place bits node at missed all i e = elim (all i e) [ inl m ↦ inl m | inr p ↦ further p.0 i p.1 e ]
    where
      further : (rest i : ℕ) → Leads nodes place bits i rest → slice_get (hashes_of nodes) i ≡ Some hash →
          Missed i ⊎ ((rest : ℕ) × Leads nodes (below node bits) (bits / 2) i rest)
      further rest i here e =
          let n = node_of nodes place hash e in
          inl (missed (ap (λ (m : Node). m.hash) (same_Some _ _ (sym at ∙ n.1)) ∙ n.2))
      further rest i (down n at' more path) e =
          let same = same_Some _ _ (sym at' ∙ at) in
          inr (rest, subst (λ (m : Node). Leads nodes (below m bits) (bits / 2) i rest) same path)

  pub all_missed : (place bits : ℕ) (node : Node) → slice_get nodes place ≡ Some node →
      (node.hash ≡ hash → Missed place) → below node bits ≤ place → AreBelow place bits →
      (i : ℕ) → slice_get (hashes_of nodes) i ≡ Some hash → Missed i
  all_missed place bits node at missed last all i e = elim (all i e) [ inl m ↦ m | inr p ↦ further p.0 i p.1 e ]
    where
      further : (rest i : ℕ) → Leads nodes place bits i rest → slice_get (hashes_of nodes) i ≡ Some hash → Missed i
      further rest i here e =
          let n = node_of nodes place hash e in
          missed (ap (λ (m : Node). m.hash) (same_Some _ _ (sym at ∙ n.1)) ∙ n.2)
      further rest i (down n at' more path) e =
          let same = same_Some _ _ (sym at' ∙ at) in
          let less : place < below node bits = subst (λ (m : Node). place < below m bits) same more in
          absurd (omega (arith, less, last))

  pub missed_outside : (place bits : ℕ) → slice_get nodes place ≡ None → AreBelow place bits →
      (i : ℕ) → slice_get (hashes_of nodes) i ≡ Some hash → Missed i
  missed_outside place bits none all i e = elim (all i e) [ inl m ↦ m | inr p ↦ further p.0 i p.1 e ]
    where
      further : (rest i : ℕ) → Leads nodes place bits i rest → slice_get (hashes_of nodes) i ≡ Some hash → Missed i
      further rest i here e = absurd (none-some _ (sym none ∙ (node_of nodes place hash e).1))
      further rest i (down n at' more path) e = absurd (none-some _ (sym none ∙ at'))

-- a node with nothing below it
abbrev pub leaf : ℕ → Node
leaf hash = record { hash = hash; even = 0; odd = 0 }

-- what lies below a node that a number was hung at
module _ (node : Node) (bits number : ℕ) where
  pub hung-hash : (hung node bits number).hash ≡ node.hash
  hung-hash = by (is_odd bits)
    where
      by : (u : Bool) → (cond u (with_odd node number) (with_even node number)).hash ≡ node.hash
      by true = refl
      by false = refl

  pub hung-below : below (hung node bits number) bits ≡ number
  hung-below = by (is_odd bits)
    where
      by : (u : Bool) →
          let n : Node = cond u (with_odd node number) (with_even node number) in
          cond u n.odd n.even ≡ number
      by true = refl
      by false = refl

  -- on other paths it is what it was
  pub hung-other : (other place : ℕ) → below node bits ≤ place → place < below node other →
      below (hung node bits number) other ≡ below node other
  hung-other other place last more = by (is_odd bits) (is_odd other) last more
    where
      by : (u v : Bool) → cond u node.odd node.even ≤ place → place < cond v node.odd node.even →
          let n : Node = cond u (with_odd node number) (with_even node number) in
          cond v n.odd n.even ≡ cond v node.odd node.even
      by true true l m = absurd (omega (arith, l, m))
      by true false l m = refl
      by false true l m = refl
      by false false l m = absurd (omega (arith, l, m))

  pub hung-either : (other : ℕ) →
      (below (hung node bits number) other ≡ number) ⊎ (below (hung node bits number) other ≡ below node other)
  hung-either other = by (is_odd bits) (is_odd other)
    where
      by : (u v : Bool) →
          let n : Node = cond u (with_odd node number) (with_even node number) in
          (cond v n.odd n.even ≡ number) ⊎ (cond v n.odd n.even ≡ cond v node.odd node.even)
      by true true = inl refl
      by true false = inr refl
      by false true = inr refl
      by false false = inl refl

-- a node of a list in which one was replaced: the new one, or one that was there
abbrev pub Replaced : (node new : Node) (place i : ℕ) → Node → Node → Type 0
Replaced node new place i n m = ((i ≡ place) × (n ≡ node) × (m ≡ new)) ⊎ (m ≡ n)

next_Replaced : {node new : Node} {place i : ℕ} {n m : Node} → Replaced node new place i n m →
    Replaced node new (suc place) (suc i) n m
next_Replaced (inl r) = inl (ap suc r.0, r.1, r.2)
next_Replaced (inr e) = inr e

pub after_set : (nodes : List Node) (place : ℕ) (node new : Node) → slice_get nodes place ≡ Some node →
    (i : ℕ) (n : Node) → slice_get nodes i ≡ Some n →
    (m : Node) × (slice_get (slice_set nodes place new) i ≡ Some m) × Replaced node new place i n m
after_set [] place node new at i n e = absurd (none-some _ e)
after_set (x ∷ xs) zero node new at zero n e = (new, refl, inl (refl, sym (same_Some _ _ e) ∙ same_Some _ _ at, refl))
after_set (x ∷ xs) zero node new at (suc i) n e = (n, e, inr refl)
after_set (x ∷ xs) (suc place) node new at zero n e = (n, e, inr refl)
after_set (x ∷ xs) (suc place) node new at (suc i) n e =
    let r = after_set xs place node new at i n e in
    (r.0, r.1, next_Replaced r.2)

pub before_set : (nodes : List Node) (place : ℕ) (node new : Node) → slice_get nodes place ≡ Some node →
    (i : ℕ) (m : Node) → slice_get (slice_set nodes place new) i ≡ Some m →
    (n : Node) × (slice_get nodes i ≡ Some n) × Replaced node new place i n m
before_set [] place node new at i m e = absurd (none-some _ at)
before_set (x ∷ xs) zero node new at zero m e = (x, refl, inl (refl, same_Some _ _ at, sym (same_Some _ _ e)))
before_set (x ∷ xs) zero node new at (suc i) m e = (m, e, inr refl)
before_set (x ∷ xs) (suc place) node new at zero m e = (m, e, inr refl)
before_set (x ∷ xs) (suc place) node new at (suc i) m e =
    let r = before_set xs place node new at i m e in
    (r.0, r.1, next_Replaced r.2)

pub set_at : (nodes : List Node) (place : ℕ) (node new : Node) → slice_get nodes place ≡ Some node →
    slice_get (slice_set nodes place new) place ≡ Some new
set_at [] place node new at = absurd (none-some _ at)
set_at (x ∷ xs) zero node new at = refl
set_at (x ∷ xs) (suc place) node new at = set_at xs place node new at

in_front : (nodes behind : List Node) (i : ℕ) (n : Node) → slice_get nodes i ≡ Some n →
    slice_get (nodes ++ behind) i ≡ Some n
in_front [] behind i n e = absurd (none-some _ e)
in_front (x ∷ xs) behind zero n e = e
in_front (x ∷ xs) behind (suc i) n e = in_front xs behind i n e

-- an item of a list with one item more
pub in_pushed : (nodes : List Node) (last : Node) (i : ℕ) (n : Node) → slice_get (nodes ++ last ∷ []) i ≡ Some n →
    (slice_get nodes i ≡ Some n) ⊎ ((i ≡ length nodes) × (n ≡ last))
in_pushed [] last zero n e = inr (refl, sym (same_Some _ _ e))
in_pushed [] last (suc i) n e = absurd (none-some _ e)
in_pushed (x ∷ xs) last zero n e = inl e
in_pushed (x ∷ xs) last (suc i) n e = elim (in_pushed xs last i n e) [ inl s ↦ inl s | inr r ↦ inr (ap suc r.0, r.1) ]

length-set : (nodes : List Node) (place : ℕ) (new : Node) → length (slice_set nodes place new) ≡ length nodes
length-set [] place new = refl
length-set (x ∷ xs) zero new = refl
length-set (x ∷ xs) (suc place) new = ap suc (length-set xs place new)

-- paths stay where what lies below each node still lies there
pub Leads-grown : (nodes grown : List Node) → ((i : ℕ) (n : Node) → slice_get nodes i ≡ Some n →
    (m : Node) × (slice_get grown i ≡ Some m) × ((bits : ℕ) → i < below n bits → below m bits ≡ below n bits)) →
    (place bits end rest : ℕ) → Leads nodes place bits end rest → Leads grown place bits end rest
Leads-grown nodes grown keeps place bits end rest here = here
Leads-grown nodes grown keeps place bits end rest (down n at more path) =
    let k = keeps place n at in
    let same : below k.0 bits ≡ below n bits = k.2 bits more in
    down k.0 k.1 (subst (λ q. place < q) (sym same) more)
    (subst (λ q. Leads grown q (bits / 2) end rest) (sym same) (Leads-grown nodes grown keeps _ _ end rest path))

pub IsTree-first : (hash : ℕ) → IsTree (leaf hash ∷ [])
IsTree-first hash = record { reached = reached; there = there }
  where
    reached : (i : ℕ) (n : Node) → slice_get (leaf hash ∷ []) i ≡ Some n →
        (rest : ℕ) × Leads (leaf hash ∷ []) 0 n.hash i rest
    reached zero n e = (n.hash, here)
    reached (suc i) n e = absurd (none-some _ e)

    there : (i : ℕ) (n : Node) (bits : ℕ) → slice_get (leaf hash ∷ []) i ≡ Some n → below n bits < 1
    there zero n bits e = subst (λ (m : Node). below m bits < 1) (same_Some _ _ e) (by (is_odd bits))
      where
        by : (u : Bool) → cond u 0 0 < 1
        by true = omega arith
        by false = omega arith
    there (suc i) n bits e = absurd (none-some _ e)

-- a tree in which an entry was hung at the end of its path
module _ (nodes : List Node) (hash place bits : ℕ) (node : Node) (tree : IsTree nodes)
    (ends : EndsAt nodes hash place bits) (at : slice_get nodes place ≡ Some node) where
  -- the node at the end of the path, with the new one below it
  abbrev pub end : Node
  end = hung node bits (length nodes)

  abbrev pub in_place : List Node
  in_place = slice_set nodes place end

  abbrev pub pushed : List Node
  pushed = in_place ++ leaf hash ∷ []

  last : below node bits ≤ place
  last = subst (λ (n : Node). below n bits ≤ place) (same_Some _ _ (sym ends.last.1 ∙ at)) ends.last.2

  set_length : length in_place ≡ length nodes
  set_length = length-set nodes place end

  pushed_length : length pushed ≡ length nodes + 1
  pushed_length = length_push in_place (leaf hash) ∙ ap (λ n. n + 1) set_length

  keeps : (i : ℕ) (n : Node) → slice_get nodes i ≡ Some n →
      (m : Node) × (slice_get pushed i ≡ Some m) × ((other : ℕ) → i < below n other → below m other ≡ below n other)
  keeps i n e =
      let r = after_set nodes place node end at i n e in
      (r.0, in_front in_place (leaf hash ∷ []) i r.0 r.1, kept r.0 r.2)
    where
      kept : (m : Node) → Replaced node end place i n m → (other : ℕ) → i < below n other →
          below m other ≡ below n other
      kept m (inl r) other more =
          ap (λ (k : Node). below k other) r.2
          ∙ hung-other node bits (length nodes) other place last
          (subst (λ p. p < below node other) r.0 (subst (λ (k : Node). i < below k other) r.1 more))
          ∙ sym (ap (λ (k : Node). below k other) r.1)
      kept m (inr e) other more = ap (λ (k : Node). below k other) e

  grown : (from left to rest : ℕ) → Leads nodes from left to rest → Leads pushed from left to rest
  grown = Leads-grown nodes pushed keeps

  to_leaf : (rest : ℕ) × Leads pushed 0 hash (length nodes) rest
  to_leaf =
      let placed = set_at nodes place node end at in
      let there = in_front in_place (leaf hash ∷ []) place _ placed in
      let to : below end bits ≡ length nodes = hung-below node bits (length nodes) in
      let more : place < below end bits = omega (arith, to, slice_get_within nodes place node at) in
      let path = one_further pushed 0 hash place bits _ (grown 0 hash place bits ends.path) there more in
      (bits / 2, subst (λ q. Leads pushed 0 hash q (bits / 2)) to path)

  same_hash : (i : ℕ) (n m : Node) → Replaced node end place i n m → m.hash ≡ n.hash
  same_hash i n m (inl r) =
      ap (λ (k : Node). k.hash) r.2 ∙ hung-hash node bits (length nodes) ∙ sym (ap (λ (k : Node). k.hash) r.1)
  same_hash i n m (inr e) = ap (λ (k : Node). k.hash) e

  reached : (i : ℕ) (m : Node) → slice_get pushed i ≡ Some m → (rest : ℕ) × Leads pushed 0 m.hash i rest
  reached i m e = elim (in_pushed in_place (leaf hash) i m e) [
    | inl old ↦
        let r = before_set nodes place node end at i m old in
        let path = tree.reached i r.0 r.1 in
        let onward = grown 0 r.0.hash i path.0 path.1 in
        (path.0, subst (λ h. Leads pushed 0 h i path.0) (sym (same_hash i r.0 m r.2)) onward)
    | inr r ↦ (
      to_leaf.0,
      subst (λ (n : Node). Leads pushed 0 n.hash i to_leaf.0) (sym r.1)
          (subst (λ q. Leads pushed 0 hash q to_leaf.0) (sym (r.0 ∙ set_length)) to_leaf.1),
    )
  ]

  there : (i : ℕ) (m : Node) (other : ℕ) → slice_get pushed i ≡ Some m → below m other < length pushed
  there i m other e = elim (in_pushed in_place (leaf hash) i m e) [
    | inl old ↦
        let r = before_set nodes place node end at i m old in
        replaced r.0 r.1 r.2
    | inr r ↦ omega (arith, pushed_length, ap (λ (n : Node). below n other) r.1, none_below (is_odd other))
  ]
    where
      none_below : (u : Bool) → cond {A = ℕ} u 0 0 ≡ 0
      none_below true = refl
      none_below false = refl

      replaced : (n : Node) → slice_get nodes i ≡ Some n → Replaced node end place i n m →
          below m other < length pushed
      replaced n old (inl r) = elim (hung-either node bits (length nodes) other) [
        | inl e ↦ omega (arith, pushed_length, ap (λ (k : Node). below k other) r.2, e)
        | inr e ↦ omega (arith, pushed_length, ap (λ (k : Node). below k other) r.2, e, tree.there place node other at)
      ]
      replaced n old (inr e) =
          omega (arith, pushed_length, ap (λ (k : Node). below k other) e, tree.there i n other old)

  pub IsTree-pushed : IsTree pushed
  IsTree-pushed = record { reached = reached; there = there }

-- the hashes of a list in which a node was replaced by one of its hash
pub hashes-set : (nodes : List Node) (place : ℕ) (node new : Node) → slice_get nodes place ≡ Some node →
    new.hash ≡ node.hash → hashes_of (slice_set nodes place new) ≡ hashes_of nodes
hashes-set [] place node new at same = refl
hashes-set (x ∷ xs) zero node new at same =
    ap (λ h. h ∷ hashes_of xs) (same ∙ ap (λ (n : Node). n.hash) (sym (same_Some _ _ at)))
hashes-set (x ∷ xs) (suc place) node new at same = ap (λ hs. x.hash ∷ hs) (hashes-set xs place node new at same)

pub hashes-push : (nodes : List Node) (node : Node) → hashes_of (nodes ++ node ∷ []) ≡ hashes_of nodes ++ node.hash ∷ []
hashes-push [] node = refl
hashes-push (x ∷ xs) node = ap (λ hs. x.hash ∷ hs) (hashes-push xs node)
