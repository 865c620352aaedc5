-- Reading a section record.
use Rattle.std.specs.Prelude.{◌≡◌, Bool, List, ℕ, ◌+◌, ◌-◌, ◌*◌, ◌/◌, ◌<◌, length, get_or}
use Rattle.std.proofs.Common.{◌∙◌, sym, arith, add-zero, Fits, w8}
use Rattle.notation.specs.Words.{word, bit}
use Rattle.laws.specs.Words.{word_past}
use Rattle.rules.specs.Block.{sections_at, section_at, address, size, flash_offset_of, flags, is_no_copy, writable, executable, section_end, first_page_of, last_page_of, page_count}
use Rattle.block_records.specs.Read.{IsSection}

-- the words past the end are those of every section record past the end
pub section_past : (b : List ℕ) (n : ℕ) → length b / 16 < n → (k : ℕ) → word b (length b + k) ≡ word b (section_at b n + k)
unfolding section_at
section_past b n h k = word_past b (length b + k) (omega arith) ∙ sym (word_past b (sections_at b + 16 * n + k) (omega arith))

-- the word itself, where those from it on are the same
pub first_word : (b : List ℕ) (x y v : ℕ) → ((k : ℕ) → word b (x + k) ≡ word b (y + k)) → v ≡ word b x → v ≡ word b y
first_word b x y v h e = e ∙ rw (add-zero, add-zero) at (h 0)

pub word_small : (b : List ℕ) (x : ℕ) → ((i : ℕ) → Fits w8 (get_or b i 0)) → word b x < 0x1_0000_0000
unfolding word
word_small b x h = omega (arith, h x, h (x + 1), h (x + 2), h (x + 3))

-- a section from its four words
pub section_is : {b : List ℕ} {n a s e o f l : ℕ} {z w x : Bool}
    → a ≡ address b n → s ≡ size b n → o ≡ flash_offset_of b n → f ≡ flags b n
    → z ≡ bit f 1 → w ≡ bit f 2 → x ≡ bit f 4
    → e ≡ a + s → l ≡ e - 1 → ((i : ℕ) → Fits w8 (get_or b i 0))
    → IsSection b n (record {
      address = a;
      size = s;
      end = e;
      flash_offset = o;
      flags = f;
      no_copy = z;
      writable = w;
      executable = x;
      first_page = record { 0 = a / 4096 };
      last_page = record { 0 = l / 4096 };
      pages = l / 4096 + 1 - a / 4096;
    })
unfolding address size is_no_copy writable executable section_end first_page_of last_page_of page_count
section_is {b} {n} ea es eo ef ez ew ex ee el h = record {
  address_is = ea;
  size_is = es;
  flash_offset = eo;
  flags_are = ef;
  no_copy_is = rw ef at ez;
  is_writable = rw ef at ew;
  is_executable = rw ef at ex;
  first_page = rw ea;
  last_page = rw (el, ee, ea, es);
  page_count_is = rw (el, ee, ea, es);
  pages_few = omega (arith, ea, es, ee, el, word_small b (section_at b n) h, word_small b (section_at b n + 4) h);
  end_is = rw (ee, ea, es);
}
