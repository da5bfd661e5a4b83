-- An entry whose value is written in place.
use Rattle.std.proofs.Common.{◌≡◌, ◌<◌, ℕ, zero, suc, List, [], ◌∷◌, length, slice_get, slice_set, Some, get_or}
use Rattle.std.proofs.Common.{sym, ap, ◌∙◌}
use Rattle.std.specs.Map.{keys_of, values_of}
use Rattle.std.proofs.lemmas.Option.{none-some, same_Some, slice_get-get_or}
use Rattle.indexmap.specs.Layout.{set_value_at}

module _ {K V : Type 0} where
  pub set_entry : (es : List (K × V)) (i : ℕ) (e : K × V) (w : V) → slice_get es i ≡ Some e →
      slice_set es i (e.0, w) ≡ set_value_at es i w
  set_entry [] i e w at = absurd (none-some _ at)
  set_entry (x ∷ es) zero e w at = ap (λ (k : K). (k, w) ∷ es) (ap (λ (y : K × V). y.0) (sym (same_Some _ _ at)))
  set_entry (x ∷ es) (suc i) e w at = ap (λ l. x ∷ l) (set_entry es i e w at)

  pub value_at : (es : List (K × V)) (i : ℕ) (e : K × V) → slice_get es i ≡ Some e →
      slice_get (values_of es) i ≡ Some e.1
  value_at [] i e at = absurd (none-some _ at)
  value_at (x ∷ es) zero e at = ap (λ (y : K × V). Some y.1) (same_Some _ _ at)
  value_at (x ∷ es) (suc i) e at = value_at es i e at

  pub key_at : (es : List (K × V)) (i : ℕ) (e : K × V) (d : K) → slice_get es i ≡ Some e → get_or (keys_of es) i d ≡ e.0
  key_at [] i e d at = absurd (none-some _ at)
  key_at (x ∷ es) zero e d at = ap (λ (y : K × V). y.0) (same_Some _ _ at)
  key_at (x ∷ es) (suc i) e d at = key_at es i e d at

pub at_number : (hashes : List ℕ) (i hash : ℕ) → i < length hashes → get_or hashes i 0 ≡ hash →
    slice_get hashes i ≡ Some hash
at_number hashes i hash within e = slice_get-get_or hashes i 0 within ∙ ap Some e
