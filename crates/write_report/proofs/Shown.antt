-- A field as it is shown.
use Rattle.std.proofs.Common.{◌≡◌, List, [], ◌∷◌, ℕ, ◌+◌, add-one, get_or}
use Rattle.notation.specs.Lists.{tab}
use Rattle.laws.specs.Lists.{tab_next}
use Rattle.text.specs.declared.Out.{Out}
use Rattle.text.specs.Puts.{Puts}
use Rattle.text.proofs.Appended.{puts_none, puts_then}
use Rattle.write_report.specs.Lines.{shown_byte}

-- the first i bytes
pub shown_none : (t : List ℕ) (o : Out) → Puts o (tab 0 (λ i. shown_byte (get_or t i 0))) o
unfolding tab
shown_none t o = puts_none o

pub shown_next : (t : List ℕ) (i : ℕ) {o m n : Out} (c : ℕ) → Puts o (tab i (λ k. shown_byte (get_or t k 0))) m
    → c ≡ shown_byte (get_or t i 0) → Puts m (c ∷ []) n → Puts o (tab (i + 1) (λ k. shown_byte (get_or t k 0))) n
shown_next t i c p e q = rw (add-one, tab_next) (puts_then p (rw e at q))
