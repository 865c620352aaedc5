-- A page of a memory, and an entry of a table that is such a page.
use Rattle.std.proofs.lemmas.Bool.{lt-leb}
use Rattle.std.proofs.Common.{◌≡◌, ℕ, ◌+◌, ◌-◌, ◌*◌, ◌≤◌, ◌<◌, List, true, false, length, get_or, take, drop, length-drop, arith, refl, sym, ◌∙◌, inl, inr, ap, Option, None, Some, IfSome, is_some, Bor, le-leb}
use Rattle.std.specs.List.{PartBy}
use Rattle.std.proofs.Math.Seq.{length-take-le, get_or-take, get_or-drop}
use Rattle.notation.specs.Choice.{choose}
use Rattle.notation.specs.Lists.{tab}
use Rattle.notation.specs.Words.{word}
use Rattle.laws.specs.Lists.{tab_by, tab_get}
use Rattle.types.specs.declared.Entry.TheVariants.{Absent}
use Rattle.rules.specs.Lent.{Memory, memory_area, page_area, lies_in}
use Rattle.rules.specs.Entries.{decode}
use Rattle.rules.specs.Reader.{table_entry, page_in}

-- n elements from an index on, by their indices
take_drop_tab : (n at : ℕ) (l : List ℕ) → at + n ≤ length l → take n (drop at l) ≡ tab n (λ k. get_or l (at + k) 0)
take_drop_tab n at l h =
    tab_by n _ 0 (take n (drop at l)) (length-take-le n (drop at l) (rw length-drop (omega arith)))
    (λ i m. get_or-take n (drop at l) i 0 m ∙ get_or-drop at l i 0)

-- the word at j of the page that starts at index s
word_shifted : (l : List ℕ) (s j : ℕ) → j + 4 ≤ 4096 → word (tab 4096 (λ k. get_or l (s + k) 0)) j ≡ word l (s + j)
unfolding word
word_shifted l s j h = rw (
  byte j (s + j) refl (omega arith),
  byte (j + 1) (s + j + 1) (omega arith) (omega arith),
  byte (j + 2) (s + j + 2) (omega arith) (omega arith),
  byte (j + 3) (s + j + 3) (omega arith) (omega arith),
)
  where
    byte : (k x : ℕ) → s + k ≡ x → k < 4096 → get_or (tab 4096 (λ k. get_or l (s + k) 0)) k 0 ≡ get_or l x 0
    byte k x e n = tab_get 4096 _ k 0 n ∙ rw e

module _ (m : Memory) (P : ℕ) where
  pub starts_below : 4096 * P < m.start → lies_in (page_area P) (memory_area m) ≡ false
  unfolding lies_in
  starts_below h = rw (lt-leb m.start (4096 * P) h)

  ends_above : m.start ≤ 4096 * P → m.start + length m.bytes < 4096 * P + 4096 → lies_in (page_area P) (memory_area m) ≡ false
  unfolding lies_in
  ends_above h l = rw (le-leb m.start (4096 * P) h, lt-leb (4096 * P + 4096) (m.start + length m.bytes) l)

  inside : m.start ≤ 4096 * P → 4096 * P + 4096 ≤ m.start + length m.bytes → lies_in (page_area P) (memory_area m) ≡ true
  unfolding lies_in
  inside h l = rw (le-leb m.start (4096 * P) h, le-leb (4096 * P + 4096) (m.start + length m.bytes) l)

  -- the bytes from `from` on, if there are as many
  pub part_found : (r : Option (Bor (List ℕ))) (from to : ℕ) → m.start ≤ 4096 * P → from ≡ 4096 * P - m.start → to ≡ from + 4096
      → PartBy (λ (x : Bor (List ℕ)). x.now) m.bytes from to r
      → (is_some r ≡ lies_in (page_area P) (memory_area m)) × IfSome r (λ part. part.now ≡ page_in m P)
  unfolding page_in choose
  part_found None from to h e t p = elim p.0 [
    | inl l ↦ absurd (omega arith)
    | inr l ↦ (sym (ends_above h (omega arith)), tt)
  ]
  part_found (Some part) from to h e t p =
      let i : lies_in (page_area P) (memory_area m) ≡ true = inside h (omega arith) in
      let n : to - from ≡ 4096 = omega arith in
      (sym i, rw i (p.0.2 ∙ rw (n, take_drop_tab 4096 from m.bytes (omega arith), e) refl))

  -- a table's bytes have its entries
  pub entry_found : (i : ℕ) (part : List ℕ) → i < 1024 → lies_in (page_area P) (memory_area m) ≡ true → part ≡ page_in m P
      → decode (word part (4 * i)) ≡ table_entry m P i
  unfolding table_entry page_in choose
  entry_found i part h l e = rw (e, l) (ap decode (word_shifted m.bytes (4096 * P - m.start) (4 * i) (omega arith)))

  pub entry_absent : (i : ℕ) → lies_in (page_area P) (memory_area m) ≡ false → table_entry m P i ≡ Absent
  unfolding table_entry choose
  entry_absent i l = rw l
