-- The root slots of some sections, counted section by section.
use Rattle.std.proofs.lemmas.Bool.{lt-leb}
use Rattle.std.proofs.Math.Decide.{dec_lt}
use Rattle.std.proofs.Common.{◌≡◌, refl, sym, ap, ◌∙◌, Bool, true, false, not, ◌&&◌, List, ℕ, zero, suc, ◌+◌, ◌-◌, ◌*◌, ◌/◌, ◌≤◌, ◌<◌, min, max, zero-mul, suc-mul, add-one, arith, leb, eqb, length, eq-eqb, ne_eqb, le-leb}
use Rattle.notation.specs.Choice.{choose}
use Rattle.notation.specs.Lists.{exists, sum}
use Rattle.laws.specs.Numbers.{leb_one}
use Rattle.laws.specs.Choice.{choose_yes, choose_no, by_choose, by_test}
use Rattle.laws.specs.Lists.{some_of_tab}
use Rattle.laws.specs.Counts.{one, one_yes, one_no, one_le, sum_next, sum_same, sum_add, sum_zero}
use Rattle.rules.specs.Block.{first_section_of, sections_of, section_record, first_page_of, last_page_of}
use Rattle.rules.specs.Order.{slots_of, in_slots, has_leaf, table_uses}
use Rattle.order_laws.specs.Places.{leaves_below, table_count, table_uses_length}
use Rattle.order_leaves.specs.TakenSlots.{slot_taken, with_slots, IsTaken}
use Rattle.order_leaves.specs.declared.Taken.{Taken}

-- slot k is none of the slots from a to z
outside : (a z k : ℕ) → ((a ≤ k) × (k ≤ z) → ⊥) → (leb a k && leb k z) ≡ false
outside a z k h = elim (dec_lt k a) [
  | yes l ↦ rw (lt-leb a k l)
  | no l ↦ elim (dec_lt z k) [
    | yes p ↦ rw (le-leb a k (omega arith), lt-leb k z p)
    | no p ↦ absurd (h (omega arith, omega arith))
  ]
]

-- SECTION BY SECTION
taken_none : (b : List ℕ) (f m : ℕ) → slot_taken b f 0 m ≡ false
unfolding slot_taken exists
taken_none b f m = refl

taken_next : (b : List ℕ) (f k : ℕ) {s x y : ℕ} → s ≡ f + k → x ≡ first_page_of b s → y ≡ last_page_of b s
    → slot_taken b f (k + 1) ≡ with_slots (x / 1024) (y / 1024) (slot_taken b f k)
unfolding slot_taken with_slots exists in_slots slots_of
taken_next b f k es ex ey = rw (add-one, ex, ey, es)

pub is_taken_none : (b : List ℕ) (f : ℕ) → IsTaken (slot_taken b f 0) (record { slots = 0; end = 0 })
is_taken_none b f = record { slots_are = sym (sum_zero 1024 _ (λ m _. one_no (taken_none b f m))); end_low = omega arith; none_after = λ m _ _. taken_none b f m }

pub is_taken_next : (b : List ℕ) (f k : ℕ) {s x y : ℕ} {r : Taken} → s ≡ f + k → x ≡ first_page_of b s → y ≡ last_page_of b s
    → IsTaken (with_slots (x / 1024) (y / 1024) (slot_taken b f k)) r → IsTaken (slot_taken b f (k + 1)) r
is_taken_next b f k es ex ey i = rw (taken_next b f k es ex ey) i

-- SLOTS FROM A TO Z ADDED
-- 1 where slot k is one of the slots from a to z and does not pass
abbrev pub added : (ℕ → Bool) → ℕ → ℕ → ℕ → ℕ
added t a z k = one (choose (t k) false (leb a k && leb k z))

with_one : (c d : Bool) → one (choose c true d) ≡ one d + one (choose d false c)
unfolding choose
with_one true true = refl
with_one true false = refl
with_one false true = refl
with_one false false = refl

with_sum : (t : ℕ → Bool) (a z n : ℕ) → sum n (λ m. one (with_slots a z t m)) ≡ sum n (λ m. one (t m)) + sum n (added t a z)
unfolding with_slots
with_sum t a z n = sum_same n _ (λ m. one (t m) + added t a z m) (λ m _. with_one _ _) ∙ sum_add n _ _

added_outside : (t : ℕ → Bool) (a z k : ℕ) → ((a ≤ k) × (k ≤ z) → ⊥) → added t a z k ≡ 0
added_outside t a z k h = one_no (by_choose (λ c. c ≡ false) (t k) _ _ (λ _. refl) (λ _. outside a z k h))

added_free : (t : ℕ → Bool) (a z k : ℕ) → t k ≡ false → a ≤ k → k ≤ z → added t a z k ≡ 1
added_free t a z k e h l = one_yes (choose_no _ _ e ∙ rw (le-leb a k h, le-leb k z l))

-- d terms more, all of them v
pub sum_span : (f : ℕ → ℕ) (v a d : ℕ) → ((k : ℕ) → a ≤ k → k < a + d → f k ≡ v) → sum (a + d) f ≡ sum a f + d * v
unfolding sum
sum_span f v a zero h = let e : a + 0 ≡ a = omega arith in rw (e, zero-mul v) (omega arith)
sum_span f v a (suc d) h =
    let e : a + suc d ≡ suc (a + d) = omega arith in
    rw (e, suc-mul d v) (omega (arith, h (a + d) (omega arith) (omega arith), sum_span f v a d (λ k l i. h k l (omega arith))))

sum_ones : (n : ℕ) (t : ℕ → Bool) → sum n (λ m. one (t m)) ≤ n
unfolding sum
sum_ones zero t = omega arith
sum_ones (suc n) t = omega (arith, sum_ones n t, one_le (t n))

pub is_taken_few : {t : ℕ → Bool} {r : Taken} → IsTaken t r → r.slots ≤ 1024
is_taken_few {t} i = omega (arith, i.slots_are, sum_ones 1024 t)

pub added_start : (t : ℕ → Bool) (a z : ℕ) → sum a (added t a z) ≡ 0
added_start t a z = sum_zero a _ (λ k l. added_outside t a z k (λ x. let y = x.0 in omega arith))

-- one slot more
pub added_next : (t : ℕ → Bool) (a z m : ℕ) → a ≤ m → m ≤ z → sum (m + 1) (added t a z) ≡ sum m (added t a z) + one (not (t m))
unfolding choose
added_next t a z m h l = sum_next m _ ∙ ap (λ n. sum m (added t a z) + n)
    (by_test (λ c. one (choose c false (leb a m && leb m z)) ≡ one (not c)) (t m) (λ _. refl) (λ _. rw (le-leb a m h, le-leb m z l)))

-- the slots from m on: up to slot e none passes, and after it none is one of those from a to z
added_rest : (t : ℕ → Bool) (a z m e : ℕ) → e ≡ min (z + 1) 1024 → a ≤ m → m ≤ max a e → ((k : ℕ) → m ≤ k → k < e → t k ≡ false)
    → sum 1024 (added t a z) ≡ sum m (added t a z) + (e - m)
added_rest t a z m e d h l n = elim (dec_lt a e) [
  | yes p ↦
      let to : m + (e - m) ≡ e = omega arith in
      let all : e + (1024 - e) ≡ 1024 = omega arith in
      let ones : sum e (added t a z) ≡ sum m (added t a z) + (e - m) * 1
      = rw to at (sum_span _ 1 m (e - m) (λ k i j. added_free t a z k (n k i (omega arith)) (omega arith) (omega arith))) in
      let none : sum 1024 (added t a z) ≡ sum e (added t a z) + (1024 - e) * 0
      = rw all at (sum_span _ 0 e (1024 - e) (λ k i j. added_outside t a z k (λ x. let y = x.1 in omega arith))) in
      omega arith
  | no p ↦
      let s : m ≡ a = omega arith in
      let none : sum 1024 (added t a z) ≡ 0 = sum_zero 1024 _ (λ k i. added_outside t a z k (λ x. let y = x.0 in let v = x.1 in omega arith)) in
      rw s (omega (arith, none, added_start t a z))
]

with_count : (t : ℕ → Bool) (a z m w : ℕ) {n s : ℕ} → s ≡ sum 1024 (λ k. one (t k)) → n ≡ s + sum m (added t a z) → sum 1024 (added t a z) ≡ sum m (added t a z) + w
    → n + w ≡ sum 1024 (λ k. one (with_slots a z t k))
with_count t a z m w es en e = omega (arith, with_sum t a z 1024)

-- with the slots from a to z: n are counted below slot m, and from there up to slot e none passes
pub is_taken_with : {t : ℕ → Bool} {r : Taken} (a z m e n : ℕ) {w y : ℕ} → IsTaken t r → e ≡ min (z + 1) 1024 → a ≤ m → m ≤ max a (min r.end e) → min r.end e ≤ m
    → n ≡ r.slots + sum m (added t a z) → w ≡ e - m → y ≡ max r.end e → IsTaken (with_slots a z t) (record { slots = n + w; end = y })
unfolding with_slots
is_taken_with {t} {r} a z m e n {w} i d h l g c ew ey = record {
  slots_are = with_count t a z m w i.slots_are c (rw ew (added_rest t a z m e d h (omega arith) (λ k p q. i.none_after k (omega arith) (omega arith))));
  end_low = omega (arith, i.end_low);
  none_after = λ k p q. choose_no _ _ (outside a z k (λ j. let v = j.1 in omega arith)) ∙ i.none_after k (omega arith) q;
}

-- ALL TABLES OF A PROCESS
pub kernel_tables : (b : List ℕ) (q : ℕ) → q ≡ 1 → 2 ≡ length (table_uses b q)
unfolding table_count leaves_below has_leaf
kernel_tables b q k =
    let f : ℕ → ℕ = λ m. one (has_leaf b q m) in
    let leaf : (m : ℕ) → f m ≡ one (eqb m 1023) = λ m. rw (choose_yes (eqb m 1023) _ (eq-eqb q 1 k)) in
    let below : sum 1023 f ≡ 0 = sum_zero 1023 f (λ m l. leaf m ∙ one_no (ne_eqb m 1023 (λ e. omega arith))) in
    omega (arith, table_uses_length b q, sum_next 1023 f, below, leaf 1023 ∙ one_yes (eq-eqb 1023 1023 refl))

pub user_tables : (b : List ℕ) (q : ℕ) {f n : ℕ} {r : Taken} → (q ≡ 1 → ⊥) → f ≡ first_section_of b q → n ≡ sections_of b q
    → IsTaken (with_slots 511 511 (slot_taken b f n)) r → 1 + r.slots ≡ length (table_uses b q)
unfolding table_count leaves_below has_leaf with_slots slot_taken section_record
user_tables b q {r = r} k ef en i =
    let leaf : (m : ℕ) → has_leaf b q m ≡ with_slots 511 511 (slot_taken b (first_section_of b q) (sections_of b q)) m
    = λ m. rw (choose_no (eqb m 1023) _ (ne_eqb q 1 k), some_of_tab, leb_one 511 m) in
    let same : sum 1024 (λ m. one (has_leaf b q m)) ≡ r.slots = sum_same 1024 _ _ (λ m _. ap one (leaf m)) ∙ sym (rw (ef, en) at i.slots_are) in
    omega (arith, table_uses_length b q, same)
