-- The process list's bytes: word by word, and the page of each root table.
use Rattle.std.proofs.Common.{◌≡◌, refl, ◌∙◌, List, Bool, ℕ, ◌+◌, ◌-◌, ◌*◌, ◌/◌, ◌%◌, ◌≤◌, ◌<◌, arith, length, take, drop, length-take, length-drop}
use borrow.Rule.Slice.PartMut.{put_mid, mid_of}
use Rattle.notation.specs.Lists.{tab}
use Rattle.notation.specs.Words.{byte_of}
use Rattle.laws.specs.Lists.{tab_length, tab_get, tab_same}
use Rattle.types.specs.declared.PageRange.{PageRange}
use Rattle.rules.specs.Block.{process_count, entry_point_of}
use Rattle.rules.specs.Order.{root_table, table_uses, tracker_pages}
use Rattle.rules.specs.Contents.{stack_pointer, process_word, process_list_byte}
use Rattle.rules.specs.Entries.{satp_of}
use Rattle.rules.specs.Load.{phys_page, satp_word}
use Rattle.order_laws.specs.Places.{tracker_place, table_count, root_place, tables_before_none, tables_before_next, table_uses_length, place_root, ram_page_at}
use Rattle.order_laws.specs.Room.{needed_parts, tables_room}
use Rattle.word_stores.specs.Words.{with_word}
use Rattle.stores.proofs.Written.{Written, written_then, written_same, below_bound, chosen_is}
use Rattle.word_stores.proofs.Words.{word_of, with_word_written}
use Rattle.writing.specs.Pages.{put, put_part}
use Rattle.accepted.specs.Fits.{Fits}

-- ROOTS
module _ {b : List ℕ} {xip : ℕ → Bool} {ram : PageRange} (f : Fits b xip ram) where
  -- the place after the tables of i processes
  abbrev root_after : ℕ → ℕ
  root_after i = root_place b xip (tracker_pages b ram.pages) (i + 1)

  pub root_next : (i : ℕ) {place count : ℕ} → place ≡ root_after i → count ≡ length (table_uses b (i + 1)) → place + count ≡ root_after (i + 1)
  unfolding root_place
  root_next i e c =
      let z : i + 1 - 1 ≡ i = omega arith in
      let s : i + 1 + 1 - 1 ≡ i + 1 = omega arith in
      rw (e, c, z, s) (omega (arith, tables_before_next b i, table_uses_length b (i + 1)))

  pub tables_fit : (i : ℕ) {place count : ℕ} → i < process_count b → place ≡ root_after i → count ≡ length (table_uses b (i + 1)) → place + count ≤ ram.pages
  tables_fit i h e c = omega (arith, tables_room b xip ram.pages (i + 1) f.enough (omega arith) (omega arith), table_uses_length b (i + 1))

  pub root_fits : (i : ℕ) {place : ℕ} → i < process_count b → place ≡ root_after i → place < ram.pages
  unfolding table_count
  root_fits i h e = omega (arith, tables_fit i h e refl, table_uses_length b (i + 1))

  -- satp, from the place of the root
  pub satp_is : (i : ℕ) {place root : ℕ} → i < process_count b → place ≡ root_after i → root ≡ ram.base + (ram.pages - 1 - place)
      → satp_of (i + 1) root ≡ satp_word b xip ram (i + 1)
  unfolding satp_word phys_page
  satp_is i h e r =
      let p = ram_page_at b xip ram.pages (root_table (i + 1)) _ (place_root b xip (tracker_pages b ram.pages) (i + 1) (omega arith) (omega arith)) in
      rw (r, e, p) refl

  module _ {left : ℕ} (e : left ≡ ram.pages - (tracker_place b xip + tracker_pages b ram.pages)) where
    -- the list's page is inside RAM of n bytes, which has the pages that are left
    pub list_fits : {k n : ℕ} → k ≡ left - 1 → 4096 * left ≤ n → k * 4096 + 4096 ≤ n
    list_fits p h = omega (arith, f.enough, needed_parts b xip ram.pages)

    pub first_root : ram.pages - left + 2 ≡ root_place b xip (tracker_pages b ram.pages) 1
    unfolding root_place
    first_root = omega (arith, f.enough, needed_parts b xip ram.pages, tables_before_none b)

-- WORDS
-- three words, one after the other
pub three_words : (d₀ : List ℕ) (a : ℕ) {d₁ d₂ d₃ : List ℕ} {w₀ w₁ w₂ v₀ v₁ v₂ : ℕ} → d₁ ≡ with_word d₀ a w₀ → d₂ ≡ with_word d₁ (a + 4) w₁ → d₃ ≡ with_word d₂ (a + 8) w₂
    → w₀ ≡ v₀ → w₁ ≡ v₁ → w₂ ≡ v₂ → d₃ ≡ with_word (with_word (with_word d₀ a v₀) (a + 4) v₁) (a + 8) v₂
three_words d₀ a e₁ e₂ e₃ p₀ p₁ p₂ = e₃ ∙ rw (e₂, e₁, p₀, p₁, p₂)

-- a word of its own size is told as it is
pub satp_small : (q root w : ℕ) → q ≤ 16 → root < 0x10_0000 → w ≡ satp_of q root % 0x1_0000_0000 → w ≡ satp_of q root
unfolding satp_of
satp_small q root w h l e = omega arith

-- byte k of the list
abbrev pub list_byte : List ℕ → (ℕ → ℕ) → ℕ → ℕ
list_byte b satp k = byte_of (process_word b satp (k / 12 + 1) (k / 4 % 3)) (k % 4)

module _ (b : List ℕ) (satp : ℕ → ℕ) where
  -- word c of process i + 1 is in its place
  list_word : (i c k : ℕ) → c < 3 → 12 * i + 4 * c ≤ k → k < 12 * i + 4 * c + 4
      → word_of (12 * i + 4 * c) (process_word b satp (i + 1) c) k ≡ list_byte b satp k
  list_word i c k h l m =
      let q : k / 12 ≡ i = omega arith in
      let w : k / 4 % 3 ≡ c = omega arith in
      let o : k % 4 ≡ k - (12 * i + 4 * c) = omega arith in
      rw (q, w, o)

  -- one word more
  word_turn : (i c a : ℕ) {d₀ d : List ℕ} → c < 3 → a ≡ 12 * i + 4 * c → a + 4 ≤ length d₀ → Written (list_byte b satp) 0 a d₀ d
      → Written (list_byte b satp) 0 (a + 4) d₀ (with_word d a (process_word b satp (i + 1) c))
  word_turn i c a {d₀} {d} h e l w =
      let v = with_word_written d a (process_word b satp (i + 1) c) (omega (arith, w.size)) in
      written_then w (written_same v (λ k m n. rw e (list_word i c k h (omega arith) (omega arith)))) (omega arith) (omega arith)

  -- the words of one process more
  pub process_turn : (i : ℕ) {w : ℕ} {d₀ d e : List ℕ} → Written (list_byte b satp) 0 (12 * i) d₀ d → 12 * i + 12 ≤ length d₀ → w ≡ satp (i + 1)
      → e ≡ with_word (with_word (with_word d (12 * (i + 1 - 1)) w) (12 * (i + 1 - 1) + 4) (entry_point_of b (i + 1))) (12 * (i + 1 - 1) + 8) (stack_pointer (i + 1))
      → Written (list_byte b satp) 0 (12 * (i + 1)) d₀ e
  unfolding process_word
  process_turn i v h s p =
      let z : i + 1 - 1 ≡ i = omega arith in
      let n : 12 * (i + 1) ≡ 12 * i + 4 + 4 + 4 = omega arith in
      let m : 12 * i + 8 ≡ 12 * i + 4 + 4 = omega arith in
      rw (p, s, z, n, m)
      (word_turn i 2 (12 * i + 4 + 4) (omega arith) (omega arith) (omega arith)
      (word_turn i 1 (12 * i + 4) (omega arith) (omega arith) (omega arith)
      (word_turn i 0 (12 * i) (omega arith) (omega arith) (omega arith) v)))

  pub list_end : (i m : ℕ) {d₀ d : List ℕ} → Written (list_byte b satp) 0 (12 * i) d₀ d → i ≡ process_count b → d₀ ≡ tab m (λ k. 0) → d ≡ tab m (process_list_byte b satp)
  unfolding process_list_byte
  list_end i m {d₀} w e z =
      let n : length d₀ ≡ m = rw z (tab_length m _) in
      chosen_is w (below_bound (length d₀) (12 * i) (12 * process_count b) (rw e))
      ∙ rw n (tab_same m _ _ 0 (λ k h. rw (z, tab_get {A = ℕ} m (λ k. 0) k 0 h)))

-- THE PAGE
pub page_long : (x : ℕ) (r : List ℕ) → x + 4096 ≤ length r → 192 ≤ length (take (x + 4096 - x) (drop x r))
page_long x r h = simp (length-take, length-drop) (omega arith)

-- page k of RAM, lent whole, comes back as the list
pub list_page : (b : List ℕ) (satp : ℕ → ℕ) (k j : ℕ) (r p : List ℕ) → k * 4096 + 4096 ≤ length r → k ≡ j
    → p ≡ tab (length (mid_of (k * 4096) (k * 4096 + 4096 - k * 4096) r)) (process_list_byte b satp)
    → put_mid (k * 4096) (k * 4096 + 4096 - k * 4096) r p ≡ put r j (process_list_byte b satp)
list_page b satp k j r p h e q = put_part r p k (k * 4096) (k * 4096 + 4096) (process_list_byte b satp) (omega arith) (omega arith) q ∙ rw e
