-- Stored words as writes to a stretch of a list.
use Rattle.std.specs.Prelude.{◌≡◌, refl, ◌&&◌, List, ℕ, zero, suc, ◌+◌, ◌-◌, ◌*◌, ◌/◌, ◌%◌, ◌≤◌, ◌<◌, min, length, get_or, leb, ltb}
use Rattle.std.specs.Int.{to_le_bytes, w32}
use Rattle.std.proofs.Common.{◌∙◌, sym, arith, div-one, set, le-leb}
use Rattle.std.proofs.lemmas.Bool.{lt-leb}
use Rattle.notation.specs.Words.{byte_of}
use Rattle.stores.specs.Writes.{copied}
use Rattle.stores.proofs.Written.{Written, Between, written_none, written_more, written_then, written_same, between, below_bound, chosen_is, chosen_written, copy_of, copied_written}
use Rattle.word_stores.specs.Words.{with_word, with_words}

-- WITH-WORD
-- index k of the word w at index `at`
abbrev pub word_of : ℕ → ℕ → ℕ → ℕ
word_of at w k = byte_of w (k - at)

fits : (n at : ℕ) → at + 4 ≤ n → Between n at (at + 4) (λ k. leb (at + 4) n && (leb at k && ltb k (at + 4)))
fits n at h = rw (le-leb (at + 4) n h) (between n at (at + 4) (omega arith))

pub with_word_is : {d₀ d : List ℕ} {at : ℕ} (w : ℕ) → Written (word_of at w) at (at + 4) d₀ d → at + 4 ≤ length d₀ → d ≡ with_word d₀ at w
unfolding with_word
with_word_is {d₀} {at = at} w v h = chosen_is v (fits (length d₀) at h)

pub with_word_written : (d : List ℕ) (at w : ℕ) → at + 4 ≤ length d → Written (word_of at w) at (at + 4) d (with_word d at w)
unfolding with_word
with_word_written d at w h = chosen_written (word_of at w) d (fits (length d) at h)

-- no room
pub with_word_none : (d : List ℕ) (at w : ℕ) → length d < at + 4 → with_word d at w ≡ d
unfolding with_word
with_word_none d at w h = sym (chosen_is {f = word_of at w} (written_none (word_of at w) 0 0 d refl) (record {
  hit = λ k l m n. absurd (omega arith);
  low = λ k l m. absurd (omega arith);
  high = λ k l m. rw (lt-leb (at + 4) (length d) h);
}))

-- byte k of the bytes of a word
byte_of_word : (w k : ℕ) → k < 4 → get_or (to_le_bytes w32 w) k 0 ≡ byte_of w k
unfolding byte_of
byte_of_word w zero h = rw div-one
byte_of_word w (suc zero) h = refl
byte_of_word w (suc (suc zero)) h = refl
byte_of_word w (suc (suc (suc zero))) h = refl
byte_of_word w (suc (suc (suc (suc k)))) h = absurd (omega arith)

-- byte by byte
pub with_word_stored : (d : List ℕ) (at w : ℕ) {r : List ℕ} → at + 4 ≤ length d → r ≡ to_le_bytes w32 w
    → set (set (set (set d at (get_or r 0 0)) (at + 1) (get_or r 1 0)) (at + 2) (get_or r 2 0)) (at + 3) (get_or r 3 0) ≡ with_word d at w
with_word_stored d at w {r} h e =
    let byte : (c k : ℕ) → k ≡ at + c → c < 4 → get_or r c 0 ≡ word_of at w k = λ c k j l. let z : k - at ≡ c = omega arith in rw (e, z) (byte_of_word w c l) in
    let w₁ = written_more (written_none (word_of at w) at at d refl) (at + 1) refl (byte 0 at (omega arith) (omega arith)) (omega arith) in
    let w₂ = written_more w₁ (at + 2) (omega arith) (byte 1 (at + 1) refl (omega arith)) (omega arith) in
    let w₃ = written_more w₂ (at + 3) (omega arith) (byte 2 (at + 2) refl (omega arith)) (omega arith) in
    with_word_is w (written_more w₃ (at + 4) (omega arith) (byte 3 (at + 3) refl (omega arith)) (omega arith)) h

-- WITH-WORDS
-- index k of the words ws from index 0 on
abbrev pub words_of : List ℕ → ℕ → ℕ
words_of ws k = byte_of (get_or ws (k / 4) 0) (k % 4)

word_of_words : (ws : List ℕ) (i k : ℕ) → 4 * i ≤ k → k < 4 * i + 4 → word_of (4 * i) (get_or ws i 0) k ≡ words_of ws k
word_of_words ws i k h l =
    let e : k / 4 ≡ i = omega arith in
    let m : k % 4 ≡ k - 4 * i = omega arith in
    rw (e, m)

-- the next word
pub with_words_more : {d₀ d e : List ℕ} (ws : List ℕ) (i : ℕ) → Written (words_of ws) 0 (4 * i) d₀ d
    → e ≡ with_word d (4 * i) (get_or ws i 0)
    → 4 * i + 4 ≤ length d₀
    → Written (words_of ws) 0 (4 * (i + 1)) d₀ e
with_words_more {d₀} {d} ws i v e h =
    let m : 4 * (i + 1) ≡ 4 * i + 4 = omega arith in
    let w = with_word_written d (4 * i) (get_or ws i 0) (omega (arith, v.size)) in
    rw (e, m) (written_then v (written_same w (word_of_words ws i)) (omega arith) (omega arith))

-- as much of the next word as there is room for
pub with_words_rest : {d₀ d e b : List ℕ} (ws : List ℕ) (i : ℕ) → Written (words_of ws) 0 (4 * i) d₀ d
    → b ≡ to_le_bytes w32 (get_or ws i 0)
    → e ≡ copied d (4 * i) b
    → Written (words_of ws) 0 (4 * i + 4) d₀ e
with_words_rest {d₀} {d} {e} {b} ws i v p q =
    let n : length b ≡ 4 = rw p refl in
    let w : Written (copy_of (4 * i) b) (4 * i) (4 * i + 4) d e = rw q (rw n at (copied_written d (4 * i) b)) in
    written_then v (written_same w (λ k l m. rw p (byte_of_word (get_or ws i 0) (k - 4 * i) (omega arith)) ∙ word_of_words ws i k l m)) (omega arith) (omega arith)

pub with_words_is : {d₀ d : List ℕ} {b : ℕ} (ws : List ℕ) → Written (words_of ws) 0 b d₀ d → min b (length d₀) ≡ min (4 * length ws) (length d₀) → d ≡ with_words d₀ ws
unfolding with_words
with_words_is {d₀} {b = b} ws w e = chosen_is w (below_bound (length d₀) b (4 * length ws) e)
