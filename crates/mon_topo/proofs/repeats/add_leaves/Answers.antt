use Rattle.std.proofs.Common.{◌≡◌, ◌∙◌, ◌+◌, ◌∷◌, ℕ, List, ap, arith, drop, length, not, sym, take}
use Rattle.std.specs.List.{list_any}
use Rattle.std.specs.Map.{keys_of}
use Rattle.std.proofs.lemmas.List.{drop_more}
use Rattle.mon_value.specs.Same.{same_text}
use Rattle.mon_topo.proofs.NumberedLemmas.{keys-numbered}
use Rattle.mon_topo.proofs.PlaceLemmas.{first_at-found, first_at-past}
use Rattle.mon_topo.proofs.RepeatLemmas.{leaves_more, leaves_so_far, repeated, unrepeated, with_new_name}
use Rattle.mon_topo.specs.Faults.{repeated_at, first_at}
use Rattle.mon_topo.specs.Indexed.{numbered_texts, with_name}
use Rattle.mon_topo.specs.declared.places.Place.TheVariants as place
use Rattle.mon_topo.proofs.repeats.add_leaves.Goals as goal

pub overflow_cast-number : goal.overflow_cast-number
overflow_cast-number c =
    let long = leaves_so_far c.args.leaves.now c.loop-j.leaves c.args.texts.now c.loop-j.j
    (omega (arith, c.loop-j-test.true)) c.loop-j.invariant.0 in
    omega (arith, c.len-number.ensures.count, c.requires.room, c.loop-j-test.true)

-- the text at hand stood earlier
pub returns-then-not-branch-clause-apart : goal.returns-then-not-branch-clause-apart
returns-then-not-branch-clause-apart c =
    let texts = c.args.texts.now in
    let j = c.loop-j.j in
    let i = c.args.i in
    let text : List ℕ = c.index-texts-j.result in
    let name : List ℕ = c.as_bytes.result.now in
    let old : List (List ℕ × ℕ) = c.args.leaves.now in
    let so_far : List (List ℕ × ℕ) = c.loop-j.leaves in
    let named : name ≡ text = c.as_bytes.ensures.bytes in
    let at_fault = repeated_at (place.Leaf i) (keys_of old) texts in
    let next : drop j texts ≡ text ∷ drop (j + 1) texts = drop_more texts j text (omega (arith, c.loop-j-test.true))
    ∙ ap (λ (t : List ℕ). t ∷ drop (j + 1) texts) (sym c.index-texts-j.is) in
    let whole = ap (first_at at_fault j) (sym next) ∙ c.loop-j.invariant.1 in
    let own = numbered_texts (length old) (take j texts) in
    let keys = keys-numbered (length old) (take j texts) in
    let told : list_any (same_text name) (keys_of so_far) ≡ list_any (same_text text) (keys_of so_far) =
    ap (λ (t : List ℕ). list_any (same_text t) (keys_of so_far)) named in
    let again = ap not (sym told) ∙ sym c.in_ok-add.ensures.new ∙ c.if-not-branch.true in
    sym whole ∙ first_at-found at_fault j text (drop (j + 1) texts) (place.Leaf i j)
    (repeated (place.Leaf i) old so_far own texts j text c.loop-j.invariant.0 keys again)

-- it did not
pub loop-j-preserved : goal.loop-j-preserved
loop-j-preserved c =
    let texts = c.args.texts.now in
    let j = c.loop-j.j in
    let i = c.args.i in
    let text : List ℕ = c.index-texts-j.result in
    let name : List ℕ = c.as_bytes.result.now in
    let old : List (List ℕ × ℕ) = c.args.leaves.now in
    let so_far : List (List ℕ × ℕ) = c.loop-j.leaves in
    let named : name ≡ text = c.as_bytes.ensures.bytes in
    let at_fault = repeated_at (place.Leaf i) (keys_of old) texts in
    let next : drop j texts ≡ text ∷ drop (j + 1) texts = drop_more texts j text (omega (arith, c.loop-j-test.true))
    ∙ ap (λ (t : List ℕ). t ∷ drop (j + 1) texts) (sym c.index-texts-j.is) in
    let whole = ap (first_at at_fault j) (sym next) ∙ c.loop-j.invariant.1 in
    let own = numbered_texts (length old) (take j texts) in
    let keys = keys-numbered (length old) (take j texts) in
    let told : list_any (same_text name) (keys_of so_far) ≡ list_any (same_text text) (keys_of so_far) =
    ap (λ (t : List ℕ). list_any (same_text t) (keys_of so_far)) named in
    let fresh = ap not (sym told) ∙ sym c.in_ok-add.ensures.new ∙ c.if-not-branch.false in
    let none = unrepeated (place.Leaf i) old so_far own texts j text c.loop-j.invariant.0 keys fresh in
    let n = length so_far in
    let added = c.in_ok-add.ensures.added ∙ ap (λ (t : List ℕ). with_name so_far t c.len-number.result) named
    ∙ ap (with_name so_far text) c.len-number.ensures.count in (
      leaves_more old so_far c.add.new.self texts j text (omega (arith, c.loop-j-test.true)) c.index-texts-j.is
          c.loop-j.invariant.0 (with_new_name so_far c.add.new.self text n fresh added),
      sym (first_at-past at_fault j text (drop (j + 1) texts) none) ∙ whole,
    )
