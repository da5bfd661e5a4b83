use Rattle.std.proofs.Common.{◌≡◌, ◌∙◌, ◌∷◌, ◌++◌, ℕ, Bool, false, true, List, [], not, ap, sym, cond}
use Rattle.std.specs.List.{list_any}
use Rattle.std.specs.Map.{keys_of}
use Rattle.mon_value.specs.Same.{same_text}
use Rattle.mon_topo.proofs.NameMapLemmas.{insert_name, list_any-keys}
use Rattle.mon_topo.proofs.names.NameMap.add.Goals as goal

-- the name is there
pub returns-then-contains_key-clause-new : goal.returns-then-contains_key-clause-new
returns-then-contains_key-clause-new c =
    let name = c.args.name.now in
    let there : list_any (same_text name) (keys_of c.args.self.now) ≡ true =
    ap (λ (es : List (List ℕ × ℕ)). list_any (same_text name) (keys_of es)) (sym c.self.view_is) ∙ list_any-keys name
    c.self.inside.numbers.entries ∙ sym c.contains_key.ensures ∙ c.if-contains_key.true in
    sym (ap not there)

pub returns-then-contains_key-clause-added : goal.returns-then-contains_key-clause-added
returns-then-contains_key-clause-added c =
    let name = c.args.name.now in
    let there : list_any (same_text name) (keys_of c.args.self.now) ≡ true =
    ap (λ (es : List (List ℕ × ℕ)). list_any (same_text name) (keys_of es)) (sym c.self.view_is) ∙ list_any-keys name
    c.self.inside.numbers.entries ∙ sym c.contains_key.ensures ∙ c.if-contains_key.true in
    sym (ap (λ (b : Bool). cond b c.args.self.now (c.args.self.now ++ (name, c.args.number) ∷ [])) there)

-- it is not
pub returns-clause-new : goal.returns-clause-new
returns-clause-new c =
    let name = c.args.name.now in
    let none : list_any (same_text name) (keys_of c.args.self.now) ≡ false =
    ap (λ (es : List (List ℕ × ℕ)). list_any (same_text name) (keys_of es)) (sym c.self.view_is) ∙ list_any-keys name
    c.self.inside.numbers.entries ∙ sym c.contains_key.ensures ∙ c.if-contains_key.false in
    sym (ap not none)

pub returns-clause-added : goal.returns-clause-added
returns-clause-added c =
    let name = c.args.name.now in
    let none : list_any (same_text name) (keys_of c.args.self.now) ≡ false =
    ap (λ (es : List (List ℕ × ℕ)). list_any (same_text name) (keys_of es)) (sym c.self.view_is) ∙ list_any-keys name
    c.self.inside.numbers.entries ∙ sym c.contains_key.ensures ∙ c.if-contains_key.false in
    let unknown = sym c.contains_key.ensures ∙ c.if-contains_key.false in
    insert_name c.self.inside.numbers name c.in_ok-key.key c.args.number c.insert.new.self.entries
    c.in_ok-key.ensures.items unknown c.in_ok-insert.ensures.entries
    ∙ ap (λ (es : List (List ℕ × ℕ)). es ++ (name, c.args.number) ∷ []) c.self.view_is
    ∙ sym (ap (λ (b : Bool). cond b c.args.self.now (c.args.self.now ++ (name, c.args.number) ∷ [])) none)
