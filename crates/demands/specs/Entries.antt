-- An entry reads as it was written, and a page entry is one that a chip can use without setting a bit of it.
use Rattle.std.specs.Prelude.{◌≡◌, refl, Bool, true, ℕ, ◌+◌, ◌*◌, ◌/◌, ◌%◌, ◌<◌}
use Rattle.std.proofs.Common.{◌∙◌, arith, eq-eqb, ne_eqb}
use Rattle.notation.specs.Choice.{choose}
use Rattle.notation.specs.Words.{bit}
use Rattle.types.specs.declared.Rights.{Rights}
use Rattle.types.specs.declared.Entry.TheVariants.{Absent, Reserved, Pointer, Page}
use Rattle.rules.specs.Entries.{absent_entry, reserved_entry, pointer_entry, page_entry, rights_in, decode}
use Rattle.laws.specs.Counts.{one, one_yes, one_le, choose_times}
use Rattle.laws.specs.Words.{bit_between}

-- PAGE ENTRIES, as the sum of page number and flags
module _ (P : ℕ) (t : Rights) where
  abbrev r : ℕ
  r = one t.read

  abbrev w : ℕ
  w = one t.write

  abbrev x : ℕ
  x = one t.execute

  abbrev u : ℕ
  u = one t.user

  abbrev sum : ℕ
  sum = 1024 * P + (1 + 2 * r + 4 * w + 8 * x + 16 * u + 64 + 128 * w)

  page_entry_sum : page_entry P t ≡ sum
  unfolding page_entry
  page_entry_sum = omega (arith, choose_times t.read 2, choose_times t.write 4, choose_times t.execute 8, choose_times t.user 16, choose_times t.write 128)

  -- the bit of weight k, by what stands above and below it
  page_entry_bit : (k above below : ℕ) (c : Bool) → sum ≡ k * (one c + 2 * above) + below → below < k → bit (page_entry P t) k ≡ c
  page_entry_bit k above below c e h = bit_between (page_entry P t) k above below c (page_entry_sum ∙ e) h

  page_entry_rights : rights_in (page_entry P t) ≡ t
  unfolding rights_in
  page_entry_rights =
      rw (
        page_entry_bit 2 (256 * P + w + 2 * x + 4 * u + 16 + 32 * w) 1 t.read (omega arith) (omega arith),
        page_entry_bit 4 (128 * P + x + 2 * u + 8 + 16 * w) (1 + 2 * r) t.write (omega arith) (omega (arith, one_le t.read)),
        page_entry_bit 8 (64 * P + u + 4 + 8 * w) (1 + 2 * r + 4 * w) t.execute (omega arith) (omega (arith, one_le t.read, one_le t.write)),
        page_entry_bit 16 (32 * P + 2 + 4 * w) (1 + 2 * r + 4 * w + 8 * x) t.user (omega arith) (omega (arith, one_le t.read, one_le t.write, one_le t.execute)),
      )

  -- the flags of the rights, with valid, stand below accessed and dirty
  rights_below : 1 + 2 * r + 4 * w + 8 * x + 16 * u < 32
  rights_below = omega (arith, one_le t.read, one_le t.write, one_le t.execute, one_le t.user)

  -- 02, A1: accessed always, and dirty with write
  pub page_entry_accessed : bit (page_entry P t) 64 ≡ true
  page_entry_accessed = page_entry_bit 64 (8 * P + w) (1 + 2 * r + 4 * w + 8 * x + 16 * u) true (omega (arith, one_yes {c = true} refl)) (omega (arith, rights_below))

  pub page_entry_dirty : bit (page_entry P t) 128 ≡ t.write
  page_entry_dirty = page_entry_bit 128 (4 * P) (1 + 2 * r + 4 * w + 8 * x + 16 * u + 64) t.write (omega arith) (omega (arith, rights_below))

-- a readable page
pub decode_page : (P : ℕ) (t : Rights) → t.read ≡ true → decode (page_entry P t) ≡ Page t (record { 0 = P })
unfolding decode choose
decode_page P t readable =
    let e : ℕ = page_entry P t in
    let p : e / 1024 ≡ P = omega (arith, page_entry_sum P t, rights_below P t, one_le t.write) in
    rw (
      ne_eqb (e % 2) 0 (λ z. omega (arith, page_entry_sum P t)),
      ne_eqb (e / 2 % 8) 0 (λ z. omega (arith, page_entry_sum P t, one_yes readable, one_le t.write, one_le t.execute)),
      page_entry_rights P t,
      p,
    )

pub decode_pointer : (P : ℕ) → decode (pointer_entry P) ≡ Pointer (record { 0 = P })
unfolding decode pointer_entry choose
decode_pointer P =
    let e : ℕ = 1024 * P + 1 in
    let p : e / 1024 ≡ P = omega arith in
    rw (ne_eqb (e % 2) 0 (λ z. omega arith), eq-eqb (e / 2 % 8) 0 (omega arith), p)

-- the page number in a pointer
pub pointer_entry_page : (P : ℕ) → pointer_entry P / 1024 ≡ P
unfolding pointer_entry
pointer_entry_page P = omega arith

pub decode_absent : decode absent_entry ≡ Absent
unfolding decode absent_entry choose
decode_absent = refl

pub decode_reserved : decode reserved_entry ≡ Reserved
unfolding decode reserved_entry choose
decode_reserved = refl

-- 02, A1: a pointer has its flag 1 alone
pub pointer_entry_flags : (P : ℕ) → pointer_entry P % 1024 ≡ 1
unfolding pointer_entry
pointer_entry_flags P = omega arith

-- an entry of a page number below 2^20 is a word
pub page_entry_word : (P : ℕ) (t : Rights) → P < 0x10_0000 → page_entry P t < 0x1_0000_0000
page_entry_word P t h = omega (arith, page_entry_sum P t, rights_below P t, one_le t.write)

pub pointer_entry_word : (P : ℕ) → P < 0x10_0000 → pointer_entry P < 0x1_0000_0000
unfolding pointer_entry
pointer_entry_word P h = omega arith
