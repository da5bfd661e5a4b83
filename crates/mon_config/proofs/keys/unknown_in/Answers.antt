use Rattle.std.proofs.Common.{◌≡◌, false, Bool, Some, sym, ap, ◌∙◌, cond, string_bytes}
use Rattle.std.specs.List.{list_any}
use Rattle.mon_value.specs.Same.{same_text}
use Rattle.mon_config.specs.Objects.{keys_of_form}
use Rattle.mon_config.proofs.UnknownKeyLemmas.{first_unknown, unknown_in-keys}
use Rattle.mon_config.proofs.keys.unknown_in.Goals as goal

-- the key at hand is the first unknown one of the rest
pub returns-then-not-knows : goal.returns-then-not-knows
returns-then-not-knows c =
    let known = keys_of_form c.args.form in
    let rest = first_unknown known c.next.new.self in
    let key = string_bytes c.in-Some.key.now in
    let is_unknown : list_any (same_text key) known ≡ false = ap (λ text. list_any (same_text text) known)
    (sym c.as_str.ensures.value) ∙ sym c.if-not-knows.ensures.known in
    record {
      unknown = sym (unknown_in-keys known c.args.members.now.entries c.keys-key-items.ensures.ordered
          ∙ c.loop-key.invariant ∙ ap (first_unknown known) c.in-Some.ensures.steps
          ∙ ap (λ (b : Bool). cond b rest (Some key)) is_unknown);
    }

-- no key is left
pub returns : goal.returns
returns c = record {
  unknown = sym (unknown_in-keys (keys_of_form c.args.form) c.args.members.now.entries
      c.keys-key-items.ensures.ordered ∙ c.loop-key.invariant ∙ ap (first_unknown (keys_of_form c.args.form))
      c.in-None.ensures.steps.0);
}
