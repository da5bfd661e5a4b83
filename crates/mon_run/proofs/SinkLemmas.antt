-- What a sink took, text behind text.
use Rattle.std.proofs.Common.{◌≡◌, ◌∙◌, ℕ, List, [], ◌++◌, Option, Some, None, take, drop, refl, sym, ap, append_assoc}
use Rattle.std.proofs.Common.{append-nil}
use Rattle.std.proofs.lemmas.List.{take-append-drop}
use Rattle.mon_run.specs.Outside.{SinkState, Takes, written_then}

-- ---- texts behind texts

pub nothing_written : (written : Option (List ℕ)) → written ≡ written_then [] written
nothing_written None = refl
nothing_written (Some bytes) = ap Some (sym (append-nil bytes))

pub written_both : (front more : List ℕ) (written : Option (List ℕ)) → written_then more (written_then front written)
    ≡ written_then (front ++ more) written
written_both front more None = refl
written_both front more (Some bytes) = ap Some (append_assoc bytes front more)

-- ---- the front of a text

-- a sink took the front of a text, and this is left
pub record TookTo (text rest : List ℕ) (before after : SinkState) : Type 0 where
  pub front : List ℕ
  pub split : text ≡ front ++ rest
  pub takes : Takes front before after

-- before the first write nothing is taken
pub took_none : (text : List ℕ) (sink : SinkState) → TookTo text text sink sink
took_none text sink = record { front = []; split = refl; takes = nothing_written sink.written }

-- a further write takes the front of the rest
pub took_more : (text rest left : List ℕ) (n : ℕ) (before mid after : SinkState) → TookTo text rest before mid
    → after.written ≡ written_then (take n rest) mid.written → left ≡ drop n rest → TookTo text left before after
took_more text rest left n before mid after took more is = record {
  front = took.front ++ take n rest;
  split = took.split ∙ ap (λ (r : List ℕ). took.front ++ r) (sym (take-append-drop n rest))
      ∙ sym (append_assoc took.front (take n rest) (drop n rest))
      ∙ ap (λ (r : List ℕ). (took.front ++ take n rest) ++ r) (sym is);
  takes = more ∙ ap (written_then (take n rest)) took.takes ∙ written_both took.front (take n rest) before.written;
}
