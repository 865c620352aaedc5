-- What std's `any` says of numbers in a row, rising or falling, as `exists`.
use Rattle.std.proofs.Common.{◌≡◌, refl, sym, ap, subst, zero-add, ◌∙◌, Bool, true, false, List, [], ◌∷◌, length, get_or, ℕ, zero, suc, ◌+◌, ◌-◌, ◌<◌, MatchBool, MatchOption, Option, Some, None, arith}
use Rattle.std.proofs.Math.Path.{fun_ext}
use Rattle.std.specs.List.{HoldsAt, AllWithin, range_with_len}
use Rattle.std.specs.declared.iter.Rev.{Rev}
use Rattle.std.specs.declared.ops.Range.{Range}
use Rattle.std.specs.Iterator.Adapters.{rev_source, rev_steps}
use Rattle.std.proofs.lemmas.List.FromFn.{length-range_with_len, get_or-range_with_len}
use Rattle.std.proofs.lemmas.Iterator.{YieldsList}
use Rattle.std.proofs.lemmas.Iterator.Consumers.{YieldsList-from_shown}
use Rattle.notation.specs.Lists.{exists}
use Rattle.laws.specs.Lists.{exists_hit, exists_miss}

-- js are the n numbers from `from` on, in some order
pub record InARow (from n : ℕ) (js : List ℕ) : Type 0 where
  pub size : length js ≡ n
  pub item : (i : ℕ) → i < n → (k : ℕ) × (k < n) × (get_or js i 0 ≡ from + k)
  pub place : (k : ℕ) → k < n → (i : ℕ) × (i < n) × (get_or js i 0 ≡ from + k)

pub rising : (from n : ℕ) → InARow from n (range_with_len from n)
rising from n = record {
  size = length-range_with_len from n;
  item = λ i h. (i, h, get_or-range_with_len from n i 0 h);
  place = λ k h. (k, h, get_or-range_with_len from n k 0 h);
}

-- from + n - 1 down to `from`
abbrev pub counted_down : ℕ → ℕ → List ℕ
counted_down from zero = []
counted_down from (suc n) = (from + n) ∷ counted_down from n

counted_length : (from n : ℕ) → length (counted_down from n) ≡ n
counted_length from zero = refl
counted_length from (suc n) = rw (counted_length from n)

counted_get : (from n i : ℕ) → i < n → get_or (counted_down from n) i 0 ≡ from + (n - 1 - i)
counted_get from zero i h = omega (arith, h)
counted_get from (suc n) zero h = omega arith
counted_get from (suc n) (suc i) h = counted_get from n i (omega (arith, h)) ∙ omega (arith, h)

pub falling : (from n : ℕ) → InARow from n (counted_down from n)
falling from n = record {
  size = counted_length from n;
  item = λ i h. (n - 1 - i, omega (arith, h), counted_get from n i h);
  place = λ k h. (n - 1 - k, omega (arith, h), counted_get from n (n - 1 - k) (omega (arith, h)) ∙ omega (arith, h));
}

-- how a range goes from its end on
abbrev pub nat_range_steps_back : Range ℕ → Option ℕ → Range ℕ → Type 0
nat_range_steps_back s r t = (t.start ≡ s.start) × MatchOption r ((s.end - s.start ≡ 0) × (t.end ≡ s.end)) (λ x. (0 < s.end - s.start) × (x ≡ t.end) × (s.end ≡ t.end + 1))

pub YieldsList-from_rev_range : {s : Rev (Range ℕ)} (a b n : ℕ) → rev_source s ≡ record { start = a; end = b } → b - a ≡ n → YieldsList (rev_steps nat_range_steps_back) (λ x. x) s (counted_down a n)
YieldsList-from_rev_range {s} a b n e f =
    subst (λ k. YieldsList (rev_steps nat_range_steps_back) (λ x. x) s (counted_down a k)) f
    (subst (λ (r : Range ℕ). YieldsList (rev_steps nat_range_steps_back) (λ x. x) s (counted_down r.start (r.end - r.start))) e
    (YieldsList-from_shown (rev_steps nat_range_steps_back) (λ x. x) shown none some s))
  where
    shown : Rev (Range ℕ) → List ℕ
    shown u = counted_down (rev_source u).start ((rev_source u).end - (rev_source u).start)

    none : (u t : Rev (Range ℕ)) → rev_steps nat_range_steps_back u None t → length (shown u) ≡ 0
    none u t h = rw h.1.0 refl

    some : (u : Rev (Range ℕ)) (x : ℕ) (t : Rev (Range ℕ)) → rev_steps nat_range_steps_back u (Some x) t → shown u ≡ x ∷ shown t
    some u x t h =
        let more : (rev_source u).end - (rev_source u).start ≡ suc ((rev_source t).end - (rev_source t).start) = omega (arith, h.0, h.1.0, h.1.2) in
        let last : (rev_source u).start + ((rev_source t).end - (rev_source t).start) ≡ x = omega (arith, h.0, h.1.0, h.1.1, h.1.2) in
        rw (more, last, h.0) refl

-- what `any` says of the numbers js
abbrev pub Any : (ℕ → Bool) → List ℕ → Bool → Type 0
Any t js r = MatchBool r ((k : ℕ) × (k < length js) × HoldsAt (λ j. t j ≡ true) js k) (AllWithin (λ j. t j ≡ false) js 0 (length js))

pub exists_by_any : (t : ℕ → Bool) {from n : ℕ} {js : List ℕ} (r : Bool) → InARow from n js → Any t js r → r ≡ exists (λ k. t (from + k)) n
exists_by_any t {from} {n} true row h =
    let k = row.item h.0 (omega (arith, row.size, h.1)) in
    sym (exists_hit (λ k. t (from + k)) n k.0 (rw k.2 at (h.2 0)) k.1)
exists_by_any t {from} {n} false row h = sym (exists_miss (λ k. t (from + k)) n (λ j l.
    let i = row.place j l in
    rw i.2 at (h i.0 0 (omega arith) (omega (arith, row.size, i.1)))))

-- the same of the numbers below n
pub exists_by_any_below : (t : ℕ → Bool) {n : ℕ} {js : List ℕ} (r : Bool) → InARow 0 n js → Any t js r → r ≡ exists t n
exists_by_any_below t {n} r row h = exists_by_any t r row h ∙ ap (λ u. exists u n) (fun_ext (λ k. ap t (zero-add k)))
