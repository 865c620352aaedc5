-- 02, A1: on a chip that sets neither accessed nor dirty itself, no use of a page within its rights faults for want of one.
use Rattle.std.specs.Prelude.{◌≡◌, refl, List, Bool, true, ℕ, ◌*◌, ◌/◌, ◌%◌, ◌≤◌, ◌<◌, length}
use Rattle.std.proofs.Common.{sym, ap, ◌∙◌, arith}
use Rattle.std.proofs.Math.Nat.{div-div-eq-div-mul}
use Rattle.notation.specs.Words.{bit}
use Rattle.types.specs.declared.PageRange.{PageRange}
use Rattle.types.specs.declared.PhysPage.{PhysPage}
use Rattle.types.specs.declared.Rights.{Rights}
use Rattle.types.specs.declared.Entry.TheVariants.{Page}
use Rattle.rules.specs.Lent.{Image, Memory, memory_of, memory_area, pages_in}
use Rattle.rules.specs.Block.{process_count}
use Rattle.rules.specs.Space.{Data, Mapping, unmapped, stack, maps, mapping_at}
use Rattle.rules.specs.InPlace.{xip_of}
use Rattle.rules.specs.Order.{root_table, tracker_pages}
use Rattle.rules.specs.Entries.{page_entry}
use Rattle.rules.specs.Load.{phys_page, data_page, boots, loaded, after}
use Rattle.rules.specs.Reader.{walk}
use Rattle.rules.specs.Sees.{root_of}
use Rattle.accepted.specs.NoCause.{booted}
use Rattle.accepted.specs.Fits.{Whole, Fits, whole, fits}
use Rattle.demands.specs.Entries.{page_entry_accessed, page_entry_dirty}
use Rattle.demands.specs.Walk.{table_word, answer_for, walk_answers, page_words}
use Rattle.demands.specs.Loaded.{loaded_length, loaded_use, after_boot, flashed}

-- THE TWO WORDS on the way from a root table to address a: the pointer in it, and the entry in the leaf table there
unfoldable pub pointer_word : Memory → ℕ → ℕ → ℕ
pointer_word r root a = table_word r root (a / 4_194_304)

unfoldable pub leaf_word : Memory → ℕ → ℕ → ℕ
leaf_word r root a = table_word r (pointer_word r root a / 1024) (a / 4096 % 1024)

-- so of a page with rights t: the pointer has flag 1 alone, the entry accessed, and dirty where the page can be written
pub record Usable (r : Memory) (root a : ℕ) (t : Rights) : Type 0 where
  pub pointer : pointer_word r root a % 1024 ≡ 1
  pub accessed : bit (leaf_word r root a) 64 ≡ true
  pub dirty : bit (leaf_word r root a) 128 ≡ t.write

by_page : (r : Memory) (root a : ℕ) (page : Data → ℕ) (t : Rights) (P : PhysPage) (s : Mapping)
    → ((d : Data) (t : Rights) → s ≡ maps d t → (pointer_word r root a % 1024 ≡ 1) × (leaf_word r root a ≡ page_entry (page d) t))
    → answer_for page s ≡ Page t P → Usable r root a t
unfolding answer_for
by_page r root a page t P unmapped h e = let z : ◌≡◌ {A = ℕ} 0 1 = cc in absurd (omega arith)
by_page r root a page t P stack h e = let z : ◌≡◌ {A = ℕ} 0 1 = cc in absurd (omega arith)
by_page r root a page t P (maps d u) h e =
    let f : u ≡ t = cc in
    let w : (pointer_word r root a % 1024 ≡ 1) × (leaf_word r root a ≡ page_entry (page d) u) = h d u refl in
    record {
      pointer = w.0;
      accessed = rw w.1 (page_entry_accessed (page d) u);
      dirty = rw w.1 (page_entry_dirty (page d) u ∙ ap (λ (t : Rights). t.write) f);
    }

module _ (x : Image) (r : Memory) (boot : boots x r ≡ true) where
  abbrev b : List ℕ
  b = x.block

  abbrev xip : ℕ → Bool
  xip = xip_of x

  abbrev ram : PageRange
  ram = pages_in (memory_area r)

  whole_ram : Whole (memory_area r)
  whole_ram = whole x (memory_area r) (booted x r boot)

  fits_ram : Fits b xip ram
  fits_ram = fits x (memory_area r) (booted x r boot)

  length_ram : length (loaded x r) ≡ 4096 * ram.pages
  length_ram = loaded_length x r ∙ sym whole_ram.length_whole

  on_loaded : (q a : ℕ) → 1 ≤ q → q ≤ process_count b → a < 0x1_0000_0000 → (t : Rights) (P : PhysPage)
      → walk (memory_of (4096 * ram.base) (loaded x r)) (phys_page b xip ram (root_table q)) a ≡ Page t P
      → Usable (memory_of (4096 * ram.base) (loaded x r)) (phys_page b xip ram (root_table q)) a t
  unfolding pointer_word leaf_word
  on_loaded q a lo hi h t P e =
      by_page (memory_of (4096 * ram.base) (loaded x r)) (phys_page b xip ram (root_table q)) a (data_page b xip (x.flash.start / 4096) ram) t P (mapping_at b (tracker_pages b ram.pages) q (a / 4096))
      (λ d u m. rw (← (div-div-eq-div-mul a 4096 1024)) (page_words x ram fits_ram r.bytes (loaded x r) length_ram (loaded_use x r whole_ram) (flashed x r boot) q (a / 4096) lo hi (omega arith) d u m))
      (sym (walk_answers x ram fits_ram r.bytes (loaded x r) length_ram (loaded_use x r whole_ram) (flashed x r boot) q a lo hi h) ∙ e)

  -- AFTER A BOOT it is so at every address where a process has a page
  pub accessed_and_dirty : (q a : ℕ) → 1 ≤ q → q ≤ process_count b → a < 0x1_0000_0000 → (t : Rights) (P : PhysPage)
      → walk (after x r) (root_of x r q) a ≡ Page t P → Usable (after x r) (root_of x r q) a t
  unfolding root_of
  accessed_and_dirty q a lo hi h t P = rw (after_boot x r boot) (rw whole_ram.start_whole at (on_loaded q a lo hi h t P))
