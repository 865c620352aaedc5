-- The page tracker's bytes.
use Rattle.std.specs.Prelude.{◌≡◌, List, Bool, ℕ, ◌+◌, ◌-◌, ◌≤◌, ◌<◌, length, get_or, take}
use Rattle.std.proofs.Common.{◌∙◌, arith, length-append}
use Rattle.std.proofs.Math.Decide.{dec_lt}
use Rattle.std.proofs.Math.ListN.{get_or-append, get_or-eq_default}
use Rattle.notation.specs.Lists.{tab}
use Rattle.rules.specs.Block.{io_pages}
use Rattle.rules.specs.Order.{use_of, pages_for, tracker_pages, owner}
use Rattle.rules.specs.Contents.{tracker}
use Rattle.laws.specs.Lists.{tab_length, tab_get, take_tab_append, append_get_right}

-- the tracker has one byte for each RAM and I/O page
pub tracker_length : (b : List ℕ) (xip : ℕ → Bool) (N : ℕ) → length (tracker b xip N) ≡ N + io_pages b
unfolding tracker
tracker_length b xip N = simp (length-append, tab_length)

pub tracker_pages_lem : (b : List ℕ) (xip : ℕ → Bool) (N : ℕ) → pages_for (length (tracker b xip N)) ≡ tracker_pages b N
unfolding tracker_pages
tracker_pages_lem b xip N = rw tracker_length

-- its byte for RAM page k is the owner of that page
pub tracker_byte_lem : (b : List ℕ) (xip : ℕ → Bool) (N k : ℕ) → k < N → get_or (tracker b xip N) k 0 ≡ owner (use_of b xip N k)
unfolding tracker
tracker_byte_lem b xip N k h =
    get_or-append (tab N (λ k. owner (use_of b xip N k))) _ 0 k (rw tab_length h) ∙ tab_get N _ k 0 h

-- its bytes for the I/O pages, and all after them, are 0
pub tracker_io : (b : List ℕ) (xip : ℕ → Bool) (N k : ℕ) → N ≤ k → get_or (tracker b xip N) k 0 ≡ 0
unfolding tracker
tracker_io b xip N k h = append_get_right (tab N (λ k. owner (use_of b xip N k))) _ N k 0 (tab_length _ _) h ∙ zeros (io_pages b) (k - N)
  where
    zeros : (n i : ℕ) → get_or (tab n (λ (k : ℕ). ◌+◌ 0 0)) i 0 ≡ 0
    zeros n i = elim (dec_lt i n) [ yes l ↦ tab_get n _ i 0 l | no l ↦ get_or-eq_default (tab n _) 0 (rw tab_length (omega arith)) ]

-- the tracker's part for RAM
pub tracker_ram : (b : List ℕ) (xip : ℕ → Bool) (N : ℕ) → take N (tracker b xip N) ≡ tab N (λ k. owner (use_of b xip N k))
unfolding tracker
tracker_ram b xip N = take_tab_append N _ _
