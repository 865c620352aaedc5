-- What a fill of a part of a table leaves.
use Rattle.std.proofs.lemmas.Bool.{lt-leb}
use Rattle.std.proofs.Common.{◌≡◌, ℕ, ◌+◌, ◌-◌, min, List, length, get_or, take, drop, replicate, ◌&&◌, leb, ltb, arith, le-leb, lt-ltb, le-ltb}
use Rattle.std.proofs.Math.Bool.{and-false}
use borrow.Rule.Slice.PartMut.{put_mid}
use Rattle.notation.specs.Choice.{choose}
use Rattle.notation.specs.Lists.{tab}
use Rattle.stores.proofs.Written.{part_filled, chosen_is}

-- the table has the entries of the virtual pages from `base` on; those from lo up to hi, without it, are filled
pub filled_between : (v a e : ℕ) (d ys : List ℕ) → ys ≡ replicate (length (take (e - a) (drop a d))) v
    → (base lo hi : ℕ) → e ≡ min (hi - base) (length d) → a ≡ min (lo - base) e
    → put_mid a (e - a) d ys ≡ tab (length d) (λ k. choose (leb lo (base + k) && ltb (base + k) hi) v (get_or d k 0))
filled_between v a e d ys n base lo hi h l = chosen_is (part_filled v a e d ys n (omega arith) (omega arith)) (record {
  hit = λ k m n o. rw (le-leb lo (base + k) (omega arith), lt-ltb (base + k) hi (omega arith));
  low = λ k m n. rw (lt-leb lo (base + k) (omega arith));
  high = λ k m n. rw (le-ltb (base + k) hi (omega arith), and-false);
})
