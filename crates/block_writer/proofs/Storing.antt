-- The block stored in the buffer part by part.
use Rattle.std.proofs.Common.{◌≡◌, refl, sym, ◌∙◌, List, [], ◌++◌, append_assoc, arith, length, get_or, take, drop, length-append, take_at, drop-drop, lt-ltb, ℕ, ◌+◌, ◌-◌, ◌*◌, ◌/◌, ◌%◌, ◌≤◌}
use Rattle.std.proofs.Math.Seq.{drop-append-add}
use borrow.Rule.Slice.PartMut.{put_mid, mid_of, mid_len, Post-is}
use Rattle.notation.specs.Words.{byte_of, bytes_of}
use Rattle.laws.specs.Choice.{choose_yes}
use Rattle.laws.specs.Lists.{tab_by}
use Rattle.laws.specs.Words.{bytes_of_length, bytes_of_append, bytes_of_get}
use Rattle.rules.specs.Writer.{Records, processes_in, sections_in, regions_in, header_words, block_words, block_of}
use Rattle.word_stores.specs.Words.{with_words}
use Rattle.block_writer.specs.Lists.{block_at_start}

-- words that fill a list
with_words_all : (d ws : List ℕ) → length d ≡ 4 * length ws → with_words d ws ≡ bytes_of ws
unfolding with_words
with_words_all d ws e = sym (tab_by (length d) _ 0 (bytes_of ws) (bytes_of_length ws ∙ sym e) (λ k h.
    let at : 4 * (k / 4) + k % 4 ≡ k = omega arith in
    let byte : get_or (bytes_of ws) (4 * (k / 4) + k % 4) 0 ≡ byte_of (get_or ws (k / 4) 0) (k % 4) = bytes_of_get ws (k / 4) (k % 4) (omega arith) (omega arith) in
    (rw at at byte) ∙ sym (choose_yes _ _ (lt-ltb k (4 * length ws) (omega arith)))))

-- a part of d, lent from `at` to e, comes back with the words
pub put_words_is : (d p ws : List ℕ) (at e : ℕ) → e ≡ at + 4 * length ws → e ≤ length d → p ≡ with_words (mid_of at (e - at) d) ws
    → put_mid at (e - at) d p ≡ take at d ++ (bytes_of ws ++ drop e d)
put_words_is d p ws at e ends fits is =
    let n : length (mid_of at (e - at) d) ≡ 4 * length ws = mid_len at e d fits ∙ omega arith in
    rw (Post-is at e d (omega arith), is, with_words_all (mid_of at (e - at) d) ws n)

-- d is d₀ with `done` at its start
pub record Begun (done d₀ d : List ℕ) (n : ℕ) : Type 0 where
  pub size : length done ≡ n
  pub is : d ≡ done ++ drop n d₀

pub begun_none : (d : List ℕ) → Begun [] d d 0
begun_none d = record { size = refl; is = refl }

pub begun_more : {done d₀ d e : List ℕ} {n : ℕ} (ws : List ℕ) (n' : ℕ) → Begun done d₀ d n → n' ≡ n + 4 * length ws
    → e ≡ take n d ++ (bytes_of ws ++ drop (n + 4 * length ws) d)
    → Begun (done ++ bytes_of ws) d₀ e n'
begun_more {done} {d₀} {d} {n = n} ws n' b z e =
    let m : ℕ = 4 * length ws in
    let front : take n d ≡ done = rw b.is (take_at done (drop n d₀) n b.size) in
    let rest : drop (n + m) (done ++ drop n d₀) ≡ drop (n + m) d₀ = (rw b.size at (drop-append-add done (drop n d₀) m)) ∙ drop-drop m n d₀ in
    let back : drop (n + m) d ≡ drop (n + m) d₀ = rw b.is rest in
    record {
      size = length-append done (bytes_of ws) ∙ omega (arith, b.size, bytes_of_length ws);
      is = e ∙ rw (z, front, back, append_assoc done (bytes_of ws) (drop (n + m) d₀));
    }

-- THE WHOLE BLOCK
pub all_stored : (l : Records) {done d₀ d : List ℕ} {n : ℕ} → Begun done d₀ d n
    → done ≡ ((([] ++ bytes_of (header_words (processes_in l) (sections_in l) (regions_in l))) ++ bytes_of l.processes) ++ bytes_of l.sections) ++ bytes_of l.regions
    → d ≡ block_at_start l d₀
unfolding block_at_start block_of block_words
all_stored l {done} {d₀} b e =
    let h : List ℕ = header_words (processes_in l) (sections_in l) (regions_in l) in
    let same : done ≡ block_of l =
    rw (e, bytes_of_append h (l.processes ++ (l.sections ++ l.regions)), bytes_of_append l.processes (l.sections ++ l.regions), bytes_of_append l.sections l.regions)
    (simp append_assoc) in
    b.is ∙ rw (← b.size, same)
