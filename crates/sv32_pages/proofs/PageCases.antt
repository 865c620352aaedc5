-- The bytes of a page, by the memory that it lies in.
use Rattle.std.proofs.Common.{◌≡◌, ℕ, List, [], false, Option, None, Some, is_some, IfSome, Bor, sym, ◌∙◌}
use Rattle.std.specs.Option.{unwrap_or, option_or}
use Rattle.notation.specs.Choice.{choose}
use Rattle.rules.specs.Lent.{Memory, memory_area, page_area, lies_in}
use Rattle.rules.specs.Reader.{page_in, page_bytes}

-- what is found in a memory of page P
abbrev pub Found : Memory → ℕ → Option (Bor (List ℕ)) → Type 0
Found m P r = record { found : is_some r ≡ lies_in (page_area P) (memory_area m); bytes : IfSome r (λ part. part.now ≡ page_in m P) }

not_in : (m : Memory) (P : ℕ) → lies_in (page_area P) (memory_area m) ≡ false → page_in m P ≡ []
unfolding page_in choose
not_in m P e = rw e

module _ (ram flash : Memory) (P : ℕ) (none : Bor (List ℕ)) (n : none.now ≡ []) where
  pub part_is : (r s : Option (Bor (List ℕ))) → Found ram P r → Found flash P s → (unwrap_or (option_or r s) none).now ≡ page_bytes ram flash P
  unfolding page_bytes choose
  part_is (Some part) s f g = rw (← f.found) f.bytes
  part_is None (Some part) f g = rw (← f.found) g.bytes
  part_is None None f g = rw (← f.found) (n ∙ sym (not_in flash P (sym g.found)))
