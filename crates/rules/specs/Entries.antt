-- 01, "Entries", and 02, A1: the page table entry of Sv32.
--
--    31            10 9   8   7   6   5   4   3   2   1   0
--   +----------------+-----+---+---+---+---+---+---+---+---+
--   |      PPN       | RSW | D | A | G | U | X | W | R | V |
--   +----------------+-----+---+---+---+---+---+---+---+---+
--
--   V      1  valid
--   R      2  read
--   W      4  write
--   X      8  execute
--   U     16  user
--   G     32  global    the loader leaves it clear
--   A     64  accessed  the loader sets it in every page entry
--   D    128  dirty     the loader sets it in a page entry with write
--   RSW  256, 512       the loader leaves them clear
--   PPN       the physical page number
--
-- G, A, D and RSW change nothing in how a valid entry reads. A chip that does not set A and D itself may fault where a page is used without
-- A, or stored to without D.
--
-- R, W and X all clear in a valid entry: a pointer to the next level's table. Valid clear and the whole word 22: reserved.
use Rattle.std.specs.Prelude.{ℕ, ◌+◌, ◌*◌, ◌/◌, ◌%◌, eqb}
use Rattle.notation.specs.Choice.{choose}
use Rattle.notation.specs.Words.{bit}
use Rattle.types.specs.declared.Rights.{Rights}
use Rattle.types.specs.declared.Entry.{Entry}
use Rattle.types.specs.declared.Entry.TheVariants.{Absent, Reserved, Pointer, Page}

-- WRITING AN ENTRY: 1,024 times the physical page number P plus flags
unfoldable pub absent_entry : ℕ
absent_entry = 0

unfoldable pub reserved_entry : ℕ
reserved_entry = 22

-- with flag 1 only
unfoldable pub pointer_entry : ℕ → ℕ
pointer_entry P = 1024 * P + 1

-- valid, a flag for each right, accessed, and dirty where there is write
unfoldable pub page_entry : ℕ → Rights → ℕ
page_entry P t = 1024 * P + (1 + choose t.read 2 0 + choose t.write 4 0 + choose t.execute 8 0 + choose t.user 16 0 + 64 + choose t.write 128 0)

-- READING AN ENTRY
unfoldable pub rights_in : ℕ → Rights
rights_in e = record { read = bit e 2; write = bit e 4; execute = bit e 8; user = bit e 16 }

-- valid is bit 0; read, write and execute are bits 1 to 3
unfoldable pub decode : ℕ → Entry
decode e =
    choose (eqb (e % 2) 0) (choose (eqb e 22) Reserved Absent)
    (choose (eqb (e / 2 % 8) 0) (Pointer (record { 0 = e / 1024 })) (Page (rights_in e) (record { 0 = e / 1024 })))

-- THE REGISTER satp
-- mode Sv32, the address space's number (ASID), which is that of its process q, and the physical page P of its root table
unfoldable pub satp_of : ℕ → ℕ → ℕ
satp_of q P = 0x8000_0000 + 0x40_0000 * q + P

-- all definitions of this file, to be unfolded as one
unfoldable pub entry_rules : Unit {0}
unfolding absent_entry reserved_entry pointer_entry page_entry rights_in decode satp_of
entry_rules = tt
