-- The walk over the leaf tables of a process, as it is told by an iterator.
use Rattle.std.specs.Prelude.{◌≡◌, Option, MatchOption, ◌+◌}
use Rattle.rules.specs.Order.{has_leaf}
use Rattle.loader.specs.LeafCursor.{First}
use Rattle.loader.specs.declared.leaf_cursor.Leaf.{Leaf}
use Rattle.loader.specs.declared.leaf_cursor.LeafCursor.{LeafCursor}

-- the first leaf table from the cursor's slot on, or there is none
abbrev pub Found : LeafCursor → Option Leaf → Type 0
Found s r = MatchOption r (First (has_leaf s.share.plan.now.block.bytes.now s.share.q) s.slot 1024)
    (λ leaf. (leaf.share ≡ s.share) × First (has_leaf s.share.plan.now.block.bytes.now s.share.q) s.slot leaf.slot)

-- the same, and the cursor then starts at the slot after it
abbrev pub NextLeaf : LeafCursor → Option Leaf → LeafCursor → Type 0
NextLeaf s r t = Found s r × (t.share ≡ s.share) × MatchOption r (t.slot ≡ s.slot) (λ leaf. t.slot ≡ leaf.slot + 1)
