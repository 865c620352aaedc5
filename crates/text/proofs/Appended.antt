-- Texts put one after the other.
use Rattle.std.proofs.Common.{◌≡◌, refl, sym, ap, ◌∙◌, List, [], ◌++◌, arith, ltb, length, get_or, length-append, ext_get_or, lt-ltb, le-ltb, le-leb, ℕ, ◌+◌, ◌-◌, ◌^◌, ◌≤◌, ◌<◌, min}
use Rattle.std.proofs.Math.Nat.{pow-le-pow_right}
use Rattle.std.proofs.Math.Decide.{dec_lt}
use Rattle.std.proofs.Math.ListN.{get_or-append}
use Rattle.std.proofs.lemmas.Bool.{lt-leb}
use Rattle.io.specs.Digits.{last_digits, IsDigitCount}
use Rattle.laws.specs.Choice.{choose_yes, choose_no}
use Rattle.laws.specs.Lists.{tab_length, tab_get, append_get_right, first_at_tab}
use Rattle.stores.specs.Writes.{copied}
use Rattle.text.specs.Text.{Appended, places, numeral}
use Rattle.text.specs.Puts.{Puts}
use Rattle.text.specs.declared.Out.{Out}

-- COPIED
pub copied_length : (d : List ℕ) (at : ℕ) (s : List ℕ) → length (copied d at s) ≡ length d
unfolding copied
copied_length d at s = tab_length (length d) _

pub copied_below : (d : List ℕ) (at : ℕ) (s : List ℕ) (k : ℕ) → k < length d → k < at → get_or (copied d at s) k 0 ≡ get_or d k 0
unfolding copied
copied_below d at s k h l = tab_get (length d) _ k 0 h ∙ choose_no _ _ (rw (lt-leb at k l))

pub copied_inside : (d : List ℕ) (at : ℕ) (s : List ℕ) (k : ℕ) → k < length d → at ≤ k → k < at + length s → get_or (copied d at s) k 0 ≡ get_or s (k - at) 0
unfolding copied
copied_inside d at s k h l m = tab_get (length d) _ k 0 h ∙ choose_yes _ _ (rw (le-leb at k l, lt-ltb k (at + length s) m))

pub copied_above : (d : List ℕ) (at : ℕ) (s : List ℕ) (k : ℕ) → k < length d → at + length s ≤ k → get_or (copied d at s) k 0 ≡ get_or d k 0
unfolding copied
copied_above d at s k h l = tab_get (length d) _ k 0 h ∙ choose_no _ _ (let m : at ≤ k = omega arith in rw (le-leb at k m, le-ltb k (at + length s) l))

copied_then : (d : List ℕ) (at : ℕ) (s t : List ℕ) (m : ℕ) → m ≡ min (at + length s) (length d) → copied (copied d at s) m t ≡ copied d at (s ++ t)
copied_then d at s t m e =
    let n : length (copied d at s) ≡ length d = copied_length d at s in
    let z : length (s ++ t) ≡ length s + length t = length-append s t in
    ext_get_or 0 _ _ (copied_length _ m t ∙ n ∙ sym (copied_length d at (s ++ t))) (λ k h.
    let i : k < length d = omega (arith, copied_length (copied d at s) m t) in
    let j : k < length (copied d at s) = omega arith in
    elim (dec_lt k at) [
      | yes l ↦ copied_below _ m t k j (omega arith) ∙ copied_below d at s k i l ∙ sym (copied_below d at (s ++ t) k i l)
      | no l ↦ elim (dec_lt k (at + length s)) [
        | yes p ↦ copied_below _ m t k j (omega arith) ∙ copied_inside d at s k i (omega arith) p
            ∙ sym (get_or-append s t 0 (k - at) (omega arith)) ∙ sym (copied_inside d at (s ++ t) k i (omega arith) (omega arith))
        | no p ↦ elim (dec_lt k (m + length t)) [
          | yes q ↦
              let o : k - at - length s ≡ k - m = omega arith in
              copied_inside _ m t k j (omega arith) q ∙ rw (← o) (sym (append_get_right s t (length s) (k - at) 0 refl (omega arith)))
              ∙ sym (copied_inside d at (s ++ t) k i (omega arith) (omega arith))
          | no q ↦ copied_above _ m t k j (omega arith) ∙ copied_above d at s k i (omega arith) ∙ sym (copied_above d at (s ++ t) k i (omega arith))
        ]
      ]
    ])

-- APPENDED
pub appended_length : {xs ys : List ℕ} {at r : ℕ} {t : List ℕ} → Appended xs at t ys r → length ys ≡ length xs
appended_length {xs} {at = at} {t = t} p = rw p.bytes_are (copied_length xs at t)

pub appended_none : (xs : List ℕ) (at r : ℕ) → r ≡ min at (length xs) → Appended xs at [] xs r
appended_none xs at r e = record {
  bytes_are = ext_get_or 0 xs (copied xs at []) (sym (copied_length xs at [])) (λ k h. elim (dec_lt k at) [
    | yes l ↦ sym (copied_below xs at [] k h l)
    | no l ↦ sym (copied_above xs at [] k h (omega arith))
  ]);
  end_is = omega arith;
}

pub appended_then : {xs ys zs : List ℕ} {at m r : ℕ} {s t : List ℕ} → Appended xs at s ys m → Appended ys m t zs r → Appended xs at (s ++ t) zs r
appended_then {xs} {ys} {zs} {at} {m} {r} {s} {t} p q =
    let n : length ys ≡ length xs = appended_length p in
    record {
      bytes_are = q.bytes_are ∙ rw p.bytes_are (copied_then xs at s t m p.end_is);
      end_is = omega (arith, p.end_is, q.end_is, length-append s t);
    }

-- an index past the end is as the end
pub appended_at : (xs ys : List ℕ) (at e : ℕ) (t : List ℕ) {r : ℕ} → e ≡ min at (length xs) → Appended xs e t ys r → Appended xs at t ys r
appended_at xs ys at e t {r} h p = record {
  bytes_are = p.bytes_are ∙ ext_get_or 0 (copied xs e t) (copied xs at t) (copied_length xs e t ∙ sym (copied_length xs at t)) (λ k l.
      let g : k < length xs = omega (arith, copied_length xs e t) in
      elim (dec_lt at (length xs)) [
        | yes s ↦ let same : e ≡ at = omega arith in rw same refl
        | no s ↦ copied_below xs e t k g (omega arith) ∙ sym (copied_below xs at t k g (omega arith))
      ]);
  end_is = omega (arith, p.end_is);
}

-- PUTS
pub puts_none : (o : Out) → Puts o [] o
puts_none o = record {
  same_buffer = refl;
  appended = appended_none _ _ _ (omega (arith, o.in_buffer));
}

pub puts_then : {old mid new : Out} {s t : List ℕ} → Puts old s mid → Puts mid t new → Puts old (s ++ t) new
puts_then p q = record {
  same_buffer = q.same_buffer ∙ p.same_buffer;
  appended = appended_then p.appended q.appended;
}

-- in a buffer with no text in it yet
pub puts_all : {old new : Out} {xs t : List ℕ} → old.buffer.now ≡ xs → old.end ≡ 0 → Puts old t new → Appended xs 0 t new.buffer.now new.end
puts_all e z p = rw (e, z) at p.appended

-- NUMERAL
places_is : (b n k : ℕ) → 0 < b → n < b ^ 20 → IsDigitCount b 1 n k → places b n ≡ k
unfolding places
places_is b n k p h f =
    let most : k ≤ 20 = elim (dec_lt 20 k) [ yes l ↦ absurd (omega (arith, f.2 (omega arith), pow-le-pow_right p {i = 20} {j = k - 1} (omega arith))) | no l ↦ omega arith ] in
    let e : k - 1 + 1 ≡ k = omega (arith, f.0) in
    let at = first_at_tab (λ j. ltb n (b ^ (j + 1))) 20 (λ j. j) (k - 1) (omega (arith, f.0))
    (lt-ltb n (b ^ (k - 1 + 1)) (rw e f.1))
    (λ j l. le-ltb n (b ^ (j + 1)) (omega (arith, f.2 (omega arith), pow-le-pow_right p {i = j + 1} {j = k - 1} (omega arith)))) in
    rw at.before (omega (arith, f.0))

pub numeral_is : (b n k : ℕ) (t : List ℕ) → 0 < b → n < b ^ 20 → IsDigitCount b 1 n k → t ≡ last_digits b k n → t ≡ numeral b n
unfolding numeral
numeral_is b n k t p h f e = e ∙ ap (λ (j : ℕ). last_digits b j n) (sym (places_is b n k p h f))
