-- Laws of words.
use Rattle.std.specs.Prelude.{◌≡◌, refl, Bool, true, false, List, [], ◌∷◌, ◌++◌, ℕ, zero, suc, ◌+◌, ◌*◌, ◌/◌, ◌%◌, ◌≤◌, ◌<◌, length, get_or}
use Rattle.std.proofs.Common.{◌∙◌, div-one, add-zero, not-suc-le-zero, le_of_suc-le-suc, arith, ext_get_or, eq-eqb, ne_eqb}
use Rattle.std.proofs.Math.Nat.{mul-add-div, div-eq_of_lt}
use Rattle.std.proofs.Math.ListN.{get_or-eq_default}
use Rattle.notation.specs.Lists.{tab}
use Rattle.notation.specs.Words.{word, byte_of, bytes_of, bit}
use Rattle.laws.specs.Numbers.{four_bytes, byte_0, byte_1, byte_2, byte_3}
use Rattle.laws.specs.Lists.{tab_length, tab_get}
use Rattle.laws.specs.Counts.{one, one_yes, one_no, one_le}

-- the word whose four bytes stand at x is read there
pub word_of_bytes : (l : List ℕ) (x n : ℕ) → n < 0x1_0000_0000 → ((c : ℕ) → c < 4 → get_or l (x + c) 0 ≡ byte_of n c) → word l x ≡ n
unfolding word byte_of
word_of_bytes l x n b h =
    let z : get_or l x 0 ≡ n % 256 = rw (add-zero, div-one) at (h 0 (omega arith)) in
    rw (z, h 1 (omega arith), h 2 (omega arith), h 3 (omega arith)) (four_bytes n b)

-- a bit, by what the digit is
bit_is : (n k : ℕ) (c : Bool) → n / k % 2 ≡ one c → bit n k ≡ c
bit_is n k true h = eq-eqb (n / k % 2) 1 (omega (arith, one_yes {c = true} refl))
bit_is n k false h = ne_eqb (n / k % 2) 1 (λ z. omega (arith, one_no {c = false} refl))

-- a bit, by what stands above and below it
pub bit_between : (n k above below : ℕ) (c : Bool) → n ≡ k * (one c + 2 * above) + below → below < k → bit n k ≡ c
bit_between n k above below c e h =
    let q : n / k ≡ one c + 2 * above = rw (e, mul-add-div {m = k} (omega arith) (one c + 2 * above) below, div-eq_of_lt h) (omega arith) in
    bit_is n k c (omega (arith, q, one_le c))

-- past the end every word is 0
pub word_past : (l : List ℕ) (x : ℕ) → length l ≤ x → word l x ≡ 0
unfolding word
word_past l x h = rw (
  get_or-eq_default l 0 {n = x} h,
  get_or-eq_default l 0 {n = x + 1} (omega arith),
  get_or-eq_default l 0 {n = x + 2} (omega arith),
  get_or-eq_default l 0 {n = x + 3} (omega arith),
)

-- BYTES OF WORDS
pub bytes_of_length : (ws : List ℕ) → length (bytes_of ws) ≡ 4 * length ws
unfolding bytes_of
bytes_of_length [] = refl
bytes_of_length (w ∷ ws) = omega (arith, bytes_of_length ws)

pub bytes_of_append : (xs ys : List ℕ) → bytes_of (xs ++ ys) ≡ bytes_of xs ++ bytes_of ys
unfolding bytes_of
bytes_of_append [] ys = refl
bytes_of_append (x ∷ xs) ys = rw (bytes_of_append xs ys)

-- byte c of word i
pub bytes_of_get : (ws : List ℕ) (i c : ℕ) → i < length ws → c < 4 → get_or (bytes_of ws) (4 * i + c) 0 ≡ byte_of (get_or ws i 0) c
unfolding bytes_of
bytes_of_get [] i c h l = absurd (not-suc-le-zero h)
bytes_of_get (w ∷ ws) zero zero h l = refl
bytes_of_get (w ∷ ws) zero (suc zero) h l = refl
bytes_of_get (w ∷ ws) zero (suc (suc zero)) h l = refl
bytes_of_get (w ∷ ws) zero (suc (suc (suc zero))) h l = refl
bytes_of_get (w ∷ ws) zero (suc (suc (suc (suc c)))) h l = absurd (omega arith)
bytes_of_get (w ∷ ws) (suc i) c h l =
    let e : 4 * suc i + c ≡ suc (suc (suc (suc (4 * i + c)))) = omega arith in
    rw e (bytes_of_get ws i c (le_of_suc-le-suc h) l)

-- each word is read where its bytes stand
pub word_of_words : (ws : List ℕ) (i : ℕ) → i < length ws → get_or ws i 0 < 0x1_0000_0000 → word (bytes_of ws) (4 * i) ≡ get_or ws i 0
word_of_words ws i h l = word_of_bytes (bytes_of ws) (4 * i) (get_or ws i 0) l (λ c. bytes_of_get ws i c h)

-- byte c of the word read at x
pub byte_of_word : (l : List ℕ) (x c : ℕ) → ((k : ℕ) → get_or l k 0 < 256) → c < 4 → byte_of (word l x) c ≡ get_or l (x + c) 0
unfolding word byte_of
byte_of_word l x zero h s = rw (div-one, add-zero) (byte_0 _ _ _ _ (h x))
byte_of_word l x (suc zero) h s = byte_1 _ _ _ _ (h x) (h (x + 1))
byte_of_word l x (suc (suc zero)) h s = byte_2 _ _ _ _ (h x) (h (x + 1)) (h (x + 2))
byte_of_word l x (suc (suc (suc zero))) h s = byte_3 _ _ _ _ (h x) (h (x + 1)) (h (x + 2)) (h (x + 3))
byte_of_word l x (suc (suc (suc (suc c)))) h s = absurd (omega arith)

-- bytes are those of the words read from them
pub bytes_of_read : (b : List ℕ) (n : ℕ) → length b ≡ 4 * n → ((k : ℕ) → get_or b k 0 < 256) → bytes_of (tab n (λ i. word b (4 * i))) ≡ b
bytes_of_read b n e h =
    let ws : List ℕ = tab n (λ i. word b (4 * i)) in
    let long : length ws ≡ n = tab_length n (λ i. word b (4 * i)) in
    let size : length (bytes_of ws) ≡ length b = bytes_of_length ws ∙ omega arith in
    ext_get_or 0 (bytes_of ws) b size (λ k l.
    let at : 4 * (k / 4) + k % 4 ≡ k = omega arith in
    let inside : k / 4 < n = omega arith in
    let word-is : get_or ws (k / 4) 0 ≡ word b (4 * (k / 4)) = tab_get n (λ i. word b (4 * i)) (k / 4) 0 inside in
    let byte-is : get_or (bytes_of ws) (4 * (k / 4) + k % 4) 0 ≡ byte_of (get_or ws (k / 4) 0) (k % 4) =
    bytes_of_get ws (k / 4) (k % 4) (omega arith) (omega arith) in
    rw at at ((rw word-is at byte-is) ∙ byte_of_word b (4 * (k / 4)) (k % 4) h (omega arith)))
