use Rattle.std.proofs.Common.{◌≡◌, ℕ, ◌<◌}
use Rattle.notation.specs.Lists.{sum}
use Rattle.order_places.specs.Capped.{capped}
use Rattle.order_places.proofs.capped_total.Given as goal

abbrev pub invariant-loop-i : goal.invariant-loop-i
invariant-loop-i g l =
    (f : ℕ → ℕ) → ((i : ℕ) (r : _) → i < l.n → goal.F-post g l.part i r → r ≡ f i) → l.total ≡ capped (sum l.i f)
