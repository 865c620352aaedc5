-- A page that has a copy, and is zero around it.
use Rattle.std.proofs.lemmas.Bool.{lt-leb}
use Rattle.std.proofs.Math.ListN.{get_or-eq_default}
use Rattle.std.proofs.Math.Decide.{dec_lt}
use Rattle.std.proofs.Math.Nat.{sub-zero}
use Rattle.std.proofs.Common.{◌≡◌, sym, ◌∙◌, true, false, ◌&&◌, List, ℕ, suc, ◌+◌, ◌-◌, ◌*◌, ◌%◌, arith, leb, ltb, length, get_or, take, drop, length-take, get_or-take, get_or-drop, lt-ltb, le-ltb, le-leb}
use Rattle.notation.specs.Choice.{choose}
use Rattle.notation.specs.Lists.{tab}
use Rattle.laws.specs.Choice.{choose_yes, choose_no}
use Rattle.laws.specs.Numbers.{leb_shift}
use Rattle.laws.specs.Lists.{tab_length, tab_get, tab_by, tab_same}
use Rattle.block_records.specs.declared.Section.{Section}
use Rattle.stores.specs.Writes.{copied}
use Rattle.stores.proofs.Written.{copied_written, copied_zero}
use Rattle.load_page.specs.Pages.{page_of}

-- A COPY AND ZEROS
abbrev cleared : ℕ → List ℕ
cleared n = tab n (λ k. 0)

-- zeros with s from index `at` on: past its end s counts as 0
copied_cleared : (n at : ℕ) (s : List ℕ) → copied (cleared n) at s ≡ tab n (λ k. choose (leb at k) (get_or s (k - at) 0) 0)
copied_cleared n at s =
    let l : length (cleared n) ≡ n = tab_length n _ in
    tab_by n _ 0 (copied (cleared n) at s) ((copied_written (cleared n) at s).size ∙ l) (λ k h.
    copied_zero (cleared n) at s k (omega arith) (tab_get n _ k 0 h))

pub block_page_is : (m : ℕ) {q : List ℕ} (b : List ℕ) → q ≡ copied (cleared m) 0 b → q ≡ tab m (λ k. get_or b k 0)
block_page_is m b eq = eq ∙ copied_cleared m 0 b ∙ tab_same m _ _ 0 (λ k h. choose_yes _ _ (le-leb 0 k (omega arith)) ∙ rw sub-zero)

-- A SECTION'S PAGE
-- byte x of the first n of some bytes
take_byte : (n : ℕ) (l : List ℕ) (x : ℕ) → get_or (take n l) x 0 ≡ choose (ltb x n) (get_or l x 0) 0
take_byte n l x = elim (dec_lt x n) [
  | yes h ↦ get_or-take n l x 0 h ∙ sym (choose_yes _ _ (lt-ltb x n h))
  | no h ↦ get_or-eq_default (take n l) 0 {n = x} (rw length-take (omega arith)) ∙ sym (choose_no _ _ (le-ltb x n (omega arith)))
]

-- s bytes of l from index o on begin at byte `offset` of the first page; byte k of the page that starts at byte `first`, counted from there
page_byte_lem : (l : List ℕ) (o s offset first k : ℕ)
    → choose (leb (offset - first) k) (get_or (drop (first - offset) (take s (drop o l))) (k - (offset - first)) 0) 0
    ≡ choose (leb offset (first + k) && ltb (first + k) (offset + s)) (get_or l (o + (first + k - offset)) 0) 0
page_byte_lem l o s offset first k = elim (dec_lt (first + k) offset) [
  | yes h ↦ choose_no _ _ (lt-leb (offset - first) k (omega arith)) ∙ sym (choose_no _ _ (rw (lt-leb offset (first + k) h)))
  | no h ↦
      let x : first - offset + (k - (offset - first)) ≡ first + k - offset = omega arith in
      choose_yes _ _ (le-leb (offset - first) k (omega arith))
      ∙ get_or-drop (first - offset) (take s (drop o l)) (k - (offset - first)) 0
      ∙ rw (x, take_byte, get_or-drop, le-leb offset (first + k) (omega arith), leb_shift (suc (first + k - offset)) s (suc (first + k)) (offset + s) (omega arith))
]

pub no_copy_page_is : (m : ℕ) {p : List ℕ} (r : Section) (f : List ℕ) (i : ℕ) → r.no_copy ≡ true
    → p ≡ cleared m → p ≡ tab m (page_of r f i)
unfolding page_of
no_copy_page_is m r f i c ep = ep ∙ tab_same m _ _ 0 (λ k h. sym (choose_yes _ _ c))

pub section_page_is_lem : (m : ℕ) {q t u : List ℕ} {at skip : ℕ} (r : Section) (f : List ℕ) (i : ℕ) → r.no_copy ≡ false
    → t ≡ take r.size (drop r.flash_offset f)
    → skip ≡ 4096 * i - r.address % 4096
    → u ≡ drop skip t
    → at ≡ r.address % 4096 - 4096 * i
    → q ≡ copied (cleared m) at u
    → q ≡ tab m (page_of r f i)
unfolding page_of
section_page_is_lem m r f i c et es eu ea eq =
    eq ∙ rw (eu, et, es, ea) (copied_cleared m _ _ ∙ tab_same m _ _ 0 (λ k h.
    page_byte_lem f r.flash_offset r.size (r.address % 4096) (4096 * i) k ∙ sym (choose_no _ _ c)))
