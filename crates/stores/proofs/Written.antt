-- Writes to a stretch of a list: what a loop that writes has done so far, and the definitions of specs/Writes.antt as such writes.
use Rattle.std.specs.Prelude.{◌≡◌, refl, Bool, true, false, ◌&&◌, List, ℕ, ◌+◌, ◌-◌, ◌≤◌, ◌<◌, min, leb, ltb, length, get_or, take, drop}
use Rattle.std.proofs.Common.{sym, ◌∙◌, arith, rules, replicate, set, length-set, length-take, length-drop, length-take-le, get_or-take, get_or-drop, ext_get_or, lt-ltb, le-ltb, le-leb}
use Rattle.std.proofs.Math.Nat.{sub-zero}
use Rattle.std.proofs.Math.Decide.{dec_lt, ℕ_discrete}
use Rattle.std.proofs.Math.ListN.{get_or-eq_default}
use Rattle.std.proofs.Math.Seq.{get_or-set_same, get_or-set_other, take-length}
use Rattle.std.proofs.lemmas.List.{places}
use borrow.Rule.Slice.PartMut.{put_mid}
use Rattle.std.proofs.lemmas.Bool.{lt-leb}
use Rattle.std.proofs.Math.Bool.{and-false}
use Rattle.notation.specs.Choice.{choose}
use Rattle.notation.specs.Lists.{tab}
use Rattle.laws.specs.Choice.{choose_yes, choose_no}
use Rattle.laws.specs.Lists.{tab_length, tab_get, tab_by}
use Rattle.stores.specs.Writes.{copied, filled}

-- WRITTEN: d is d₀ with f k at each index k from a up to b
pub record Written (f : ℕ → ℕ) (a b : ℕ) (d₀ d : List ℕ) : Type 0 where
  pub size : length d ≡ length d₀
  pub inside : (k : ℕ) → a ≤ k → k < b → k < length d₀ → get_or d k 0 ≡ f k
  pub below : (k : ℕ) → k < a → get_or d k 0 ≡ get_or d₀ k 0
  pub above : (k : ℕ) → b ≤ k → get_or d k 0 ≡ get_or d₀ k 0

pub written_none : (f : ℕ → ℕ) (a b : ℕ) (d : List ℕ) → b ≡ a → Written f a b d d
written_none f a b d e = record { size = refl; inside = λ k h l m. absurd (omega arith); below = λ k h. refl; above = λ k h. refl }

-- one element more
pub written_more : {f : ℕ → ℕ} {a b : ℕ} {d₀ d : List ℕ} {x : ℕ} → Written f a b d₀ d → (c : ℕ) → c ≡ b + 1 → x ≡ f b → a ≤ b → Written f a c d₀ (set d b x)
written_more {f} {a} {b} {d₀} {d} {x} w c e v h = record {
  size = length-set d b x ∙ w.size;
  inside = λ k l m n. elim (ℕ_discrete k b) [
    | yes z ↦ rw z (get_or-set_same d b x 0 (omega (arith, w.size)) ∙ v)
    | no z ↦ get_or-set_other d b k x 0 z ∙ w.inside k l (omega arith) n
  ];
  below = λ k l. get_or-set_other d b k x 0 (λ z. omega arith) ∙ w.below k l;
  above = λ k l. get_or-set_other d b k x 0 (λ z. omega arith) ∙ w.above k (omega arith);
}

-- one stretch, then the next
pub written_then : {f : ℕ → ℕ} {a b c : ℕ} {d₀ d e : List ℕ} → Written f a b d₀ d → Written f b c d e → a ≤ b → b ≤ c → Written f a c d₀ e
written_then {f} {a} {b} {c} {d₀} {d} {e} v w h l = record {
  size = w.size ∙ v.size;
  inside = λ k m n z. elim (dec_lt k b) [
    | yes y ↦ w.below k y ∙ v.inside k m y z
    | no y ↦ w.inside k (omega arith) n (omega (arith, v.size))
  ];
  below = λ k m. w.below k (omega arith) ∙ v.below k m;
  above = λ k m. w.above k m ∙ v.above k (omega arith);
}

-- the next elements are as the rule has them
pub written_skip : {f : ℕ → ℕ} {a b c : ℕ} {d₀ d : List ℕ} → Written f a b d₀ d → b ≤ c → ((k : ℕ) → b ≤ k → k < c → f k ≡ get_or d₀ k 0) → Written f a c d₀ d
written_skip {b = b} w h e = record {
  size = w.size;
  inside = λ k l m n. elim (dec_lt k b) [
    | yes x ↦ w.inside k l x n
    | no x ↦ w.above k (omega arith) ∙ sym (e k (omega arith) m)
  ];
  below = w.below;
  above = λ k l. w.above k (omega arith);
}

-- the same elements by another rule
pub written_same : {f g : ℕ → ℕ} {a b : ℕ} {d₀ d : List ℕ} → Written f a b d₀ d → ((k : ℕ) → a ≤ k → k < b → f k ≡ g k) → Written g a b d₀ d
written_same w h = record {
  size = w.size;
  inside = λ k l m n. w.inside k l m n ∙ h k l m;
  below = w.below;
  above = w.above;
}

-- CHOSEN: a list by a test
-- of the indices below n the test t passes at those from a up to b
pub record Between (n a b : ℕ) (t : ℕ → Bool) : Type 0 where
  pub hit : (k : ℕ) → k < n → a ≤ k → k < b → t k ≡ true
  pub low : (k : ℕ) → k < n → k < a → t k ≡ false
  pub high : (k : ℕ) → k < n → b ≤ k → t k ≡ false

pub between : (n a b : ℕ) → a ≤ b → Between n a b (λ k. leb a k && ltb k b)
between n a b h = record {
  hit = λ k _ l m. rw (le-leb a k l, lt-ltb k b m);
  low = λ k _ l. rw (lt-leb a k l);
  high = λ k _ l. rw (le-leb a k (omega arith), le-ltb k b l);
}

pub below_bound : (n b c : ℕ) → min b n ≡ min c n → Between n 0 b (λ k. ltb k c)
below_bound n b c e = record {
  hit = λ k h l m. lt-ltb k c (omega arith);
  low = λ k h l. absurd (omega arith);
  high = λ k h l. le-ltb k c (omega arith);
}

-- only where it ends below n counts
pub between_cut : {n a b c : ℕ} {t : ℕ → Bool} → Between n a b t → min b n ≡ min c n → Between n a c t
between_cut r e = record {
  hit = λ k h l m. r.hit k h l (omega arith);
  low = r.low;
  high = λ k h l. r.high k h (omega arith);
}

pub chosen_is : {f : ℕ → ℕ} {a b : ℕ} {d₀ d : List ℕ} {t : ℕ → Bool} → Written f a b d₀ d → Between (length d₀) a b t
    → d ≡ tab (length d₀) (λ k. choose (t k) (f k) (get_or d₀ k 0))
chosen_is {f} {a} {b} {d₀} {d} {t} w r = tab_by (length d₀) _ 0 d w.size (λ k h. elim (dec_lt k a) [
  | yes l ↦ w.below k l ∙ sym (choose_no _ _ (r.low k h l))
  | no l ↦ elim (dec_lt k b) [
    | yes m ↦ w.inside k (omega arith) m h ∙ sym (choose_yes _ _ (r.hit k h (omega arith) m))
    | no m ↦ w.above k (omega arith) ∙ sym (choose_no _ _ (r.high k h (omega arith)))
  ]
])

pub chosen_written : (f : ℕ → ℕ) {a b : ℕ} (d : List ℕ) {t : ℕ → Bool} → Between (length d) a b t
    → Written f a b d (tab (length d) (λ k. choose (t k) (f k) (get_or d k 0)))
chosen_written f {a} {b} d {t} r = record {
  size = tab_length (length d) g;
  inside = λ k h l m. tab_get (length d) g k 0 m ∙ choose_yes _ _ (r.hit k m h l);
  below = λ k h. kept k (λ m. r.low k m h);
  above = λ k h. kept k (λ m. r.high k m h);
}
  where
    g : ℕ → ℕ
    g = λ k. choose (t k) (f k) (get_or d k 0)

    kept : (k : ℕ) → (k < length d → t k ≡ false) → get_or (tab (length d) g) k 0 ≡ get_or d k 0
    kept k n = elim (dec_lt k (length d)) [
      | yes m ↦ tab_get (length d) g k 0 m ∙ choose_no _ _ (n m)
      | no m ↦ get_or-eq_default (tab (length d) g) 0 {n = k} (omega (arith, tab_length (length d) g)) ∙ sym (get_or-eq_default d 0 {n = k} (omega arith))
    ]

-- ALL WRITTEN
pub written_all : {f : ℕ → ℕ} {d₀ d : List ℕ} {i : ℕ} → Written f 0 i d₀ d → length d₀ ≤ i → d ≡ tab (length d₀) f
written_all {d₀ = d₀} {d} w h = tab_by (length d₀) _ 0 d w.size (λ k l. w.inside k (omega arith) (omega arith) l)

-- A PART FILLED: the elements from a up to e, by the library's `fill`
pub part_filled : (v a e : ℕ) (d ys : List ℕ) → ys ≡ replicate (length (take (e - a) (drop a d))) v → a ≤ e → e ≤ length d → Written (λ k. v) a e d (put_mid a (e - a) d ys)
part_filled v a e d ys n h l = rw n (record {
  size = search (rules, places);
  inside = λ k m n o. search (rules, places);
  below = λ k m. search (rules, places);
  above = λ k m. search (rules, places);
})

pub all_filled : (v : ℕ) (d : List ℕ) {ys : List ℕ} → ys ≡ replicate (length d) v → ys ≡ tab (length d) (λ k. v)
all_filled v d n = rw n (tab_by (length d) _ 0 (replicate (length d) v) (search (rules, places)) (λ k h. search (rules, places)))

-- COPIED
-- index k of a copy of s to index `at`
abbrev pub copy_of : ℕ → List ℕ → ℕ → ℕ
copy_of at s k = get_or s (k - at) 0

pub copied_more : {at : ℕ} {d₀ d : List ℕ} (s : List ℕ) (i : ℕ) → Written (copy_of at s) at (at + i) d₀ d
    → Written (copy_of at s) at (at + (i + 1)) d₀ (set d (at + i) (get_or s i 0))
copied_more {at} s i w = let e : at + i - at ≡ i = omega arith in written_more w (at + (i + 1)) (omega arith) (rw e) (omega arith)

pub copied_is : {d₀ d : List ℕ} {at n : ℕ} (s : List ℕ) → Written (copy_of at s) at (at + n) d₀ d → n ≡ min (length s) (length d₀ - at) → d ≡ copied d₀ at s
unfolding copied
copied_is {d₀} {at = at} s w e = chosen_is w (between_cut (between (length d₀) at (at + length s) (omega arith)) (omega arith))

pub copied_written : (d : List ℕ) (at : ℕ) (s : List ℕ) → Written (copy_of at s) at (at + length s) d (copied d at s)
unfolding copied
copied_written d at s = chosen_written (copy_of at s) d (between (length d) at (at + length s) (omega arith))

-- onto a zero: past its end s counts as 0
pub copied_zero : (z : List ℕ) (at : ℕ) (s : List ℕ) (k : ℕ) → k < length z → get_or z k 0 ≡ 0
    → get_or (copied z at s) k 0 ≡ choose (leb at k) (get_or s (k - at) 0) 0
copied_zero z at s k h o =
    let w = copied_written z at s in
    elim (dec_lt k at) [
      | yes l ↦ w.below k l ∙ o ∙ sym (choose_no _ _ (lt-leb at k l))
      | no l ↦ sym (choose_yes _ _ (le-leb at k (omega arith)) ∙ elim (dec_lt k (at + length s)) [
        | yes m ↦ sym (w.inside k (omega arith) m h)
        | no m ↦ get_or-eq_default s 0 {n = k - at} (omega arith) ∙ sym (w.above k (omega arith) ∙ o)
      ])
    ]

-- the first n bytes of s
pub copied_taken : {d₀ d : List ℕ} {at i : ℕ} (n : ℕ) (s : List ℕ) → Written (copy_of at s) at (at + i) d₀ d → i ≡ n → n ≤ length s → at + n ≤ length d₀ → d ≡ copied d₀ at (take n s)
copied_taken {at = at} n s w e h l = copied_is (take n s)
    (written_same w (λ k a b. sym (get_or-take n s (k - at) 0 (omega arith))))
    (rw length-take (omega arith))

-- by way of c, a list that had room for s
pub copied_by_way : (d₀ z : List ℕ) (at : ℕ) (s : List ℕ) {c d : List ℕ} → length s ≤ length z
    → c ≡ copied z 0 (take (length s) s) → d ≡ copied d₀ at (take (length s) c) → d ≡ copied d₀ at s
copied_by_way d₀ z at s {c} {d} h ec ed = ed ∙ rw same
  where
    w : Written (copy_of 0 s) 0 (0 + length s) z c
    w = rw (ec, take-length) (copied_written z 0 s)

    same : take (length s) c ≡ s
    same = ext_get_or 0 (take (length s) c) s (length-take-le (length s) c (omega (arith, w.size))) (λ k l.
        let m : k < length s = omega (arith, length-take (length s) c) in
        get_or-take (length s) c k 0 m ∙ w.inside k (omega arith) (omega arith) (omega arith) ∙ rw sub-zero)

-- the bytes of s up to `end`
pub copied_next : {d₀ d e : List ℕ} {at : ℕ} (i end : ℕ) (s : List ℕ) → Written (copy_of at s) at (at + i) d₀ d → e ≡ copied d (at + i) (take (end - i) (drop i s))
    → i ≤ end → end ≤ length s → Written (copy_of at s) at (at + end) d₀ e
copied_next {d₀} {d} {e} {at} i end s w ee h l = written_then w (written_same {f = copy_of (at + i) t} v (λ k a b.
    let x : i + (k - (at + i)) ≡ k - at = omega arith in
    get_or-take (end - i) (drop i s) (k - (at + i)) 0 (omega arith) ∙ rw (get_or-drop, x))) (omega arith) (omega arith)
  where
    t : List ℕ
    t = take (end - i) (drop i s)

    z : at + i + length t ≡ at + end
    z = rw (length-take, length-drop) (omega arith)

    v : Written (copy_of (at + i) t) (at + i) (at + end) d e
    v = rw (ee, ← z) (copied_written d (at + i) t)

-- FILLED
pub filled_is : {d₀ d : List ℕ} {a e : ℕ} (from to v : ℕ) → Written (λ k. v) a e d₀ d → e ≡ min to (length d₀) → a ≡ min from e → d ≡ filled d₀ from to v
unfolding filled
filled_is from to v w h l = chosen_is w (record {
  hit = λ k m n o. rw (le-leb from k (omega arith), lt-ltb k to (omega arith));
  low = λ k m n. rw (lt-leb from k (omega arith));
  high = λ k m n. rw (le-ltb k to (omega arith), and-false);
})

pub filled_written : (d : List ℕ) (from to v : ℕ) → from ≤ to → Written (λ k. v) from to d (filled d from to v)
unfolding filled
filled_written d from to v h = chosen_written (λ k. v) d (between (length d) from to h)

-- COPIED, and 0 before and after the copy
pub copied_written_all : (d₀ : List ℕ) (at : ℕ) (s : List ℕ) {end : ℕ} {d e f : List ℕ} → end ≡ min at (length d₀) + min (length s) (length d₀ - at)
    → d ≡ filled d₀ 0 at 0 → e ≡ copied d at s → f ≡ filled e end (length d₀) 0 → f ≡ copied (tab (length d₀) (λ k. 0)) at s
copied_written_all d₀ at s {end} {d} {e} {f} ee h₁ h₂ h₃ = ext_get_or 0 f (copied z at s) (w₃.size ∙ w₂.size ∙ w₁.size ∙ sym (u.size ∙ zn)) (λ k h.
    let l : k < length d₀ = omega (arith, w₃.size, w₂.size, w₁.size) in
    let zero : get_or z k 0 ≡ 0 = tab_get (length d₀) _ k 0 l in
    elim (dec_lt k at) [
      | yes a ↦ w₃.below k (omega arith) ∙ w₂.below k a ∙ w₁.inside k (omega arith) a l ∙ sym (u.below k a ∙ zero)
      | no a ↦ elim (dec_lt k (at + length s)) [
        | yes b ↦ w₃.below k (omega arith) ∙ w₂.inside k (omega arith) b (omega (arith, w₁.size)) ∙ sym (u.inside k (omega arith) b (omega (arith, zn)))
        | no b ↦ w₃.inside k (omega arith) l (omega (arith, w₂.size, w₁.size)) ∙ sym (u.above k (omega arith) ∙ zero)
      ]
    ])
  where
    z : List ℕ
    z = tab (length d₀) (λ k. 0)

    zn : length z ≡ length d₀
    zn = tab_length (length d₀) _

    u : Written (copy_of at s) at (at + length s) z (copied z at s)
    u = copied_written z at s

    w₁ : Written (λ k. 0) 0 at d₀ d
    w₁ = rw h₁ (filled_written d₀ 0 at 0 (omega arith))

    w₂ : Written (copy_of at s) at (at + length s) d e
    w₂ = rw h₂ (copied_written d at s)

    w₃ : Written (λ k. 0) end (length d₀) e f
    w₃ = rw h₃ (filled_written e end (length d₀) 0 (omega arith))
