-- Writing the pages of all uses in order leaves RAM as the rules say.
use Rattle.std.specs.Prelude.{◌≡◌, refl, List, [], ◌∷◌, ◌++◌, Bool, true, false, ℕ, ◌+◌, ◌-◌, ◌/◌, ◌≤◌, ◌<◌, length}
use Rattle.std.proofs.Common.{◌∙◌, arith, length-append}
use Rattle.std.proofs.Math.Option.{Option, none, some}
use Rattle.std.proofs.Math.Decide.{dec_lt}
use Rattle.notation.specs.Lists.{tab, gather, lookup}
use Rattle.rules.specs.Block.{section_record}
use Rattle.types.specs.declared.PageRange.{PageRange}
use Rattle.rules.specs.Lent.{Image, Memory, image_of, memory_area, pages_in}
use Rattle.rules.specs.Space.{section_page}
use Rattle.rules.specs.Order.{Use, top, holds, root_table, leaf_table, section_pages, section_uses, all_sections, tracker_uses, has_leaf, table_uses, all_tables, below_top, order, uses, tracker_pages, pages_needed, use_of}
use Rattle.rules.specs.Contents.{section_page_byte, data_byte}
use Rattle.rules.specs.Load.{page_byte, loaded}
use Rattle.rules.specs.InPlace.{xip_of}
use Rattle.laws.specs.Choice.{by_choose}
use Rattle.laws.specs.Lists.{Every, every_at, every_append, every_tab, every_gather, tab_length, tab_by, lookup_right}
use Rattle.order_laws.specs.Uses.{use_top}
use Rattle.accepted.specs.Fits.{Whole}
use Rattle.writing.specs.Uses.{write_uses, write_length, write_above, after_use, write_byte, write_same, Wrote, wrote_none, wrote_then, wrote_tab_none, wrote_tab_next, wrote_gather_none, wrote_gather_next}

-- byte o of the page of a use that is written
unfoldable pub content : Image → (ℕ → Bool) → PageRange → Use → ℕ → ℕ
content x xip ram u o = page_byte x xip ram (some u) 0 o

pub below_top_length : (b : List ℕ) (xip : ℕ → Bool) (T : ℕ) → length (order b xip T) ≡ 4 + length (below_top b xip T)
unfolding order
below_top_length b xip T = length-append (tab 4 top) (below_top b xip T) ∙ rw tab_length

-- they are all written
is_top : Use → Bool
is_top (top i) = true
is_top (holds d) = false
is_top (root_table q) = false
is_top (leaf_table q m) = false

abbrev Written : Use → Type 0
Written u = is_top u ≡ false

sections_written : (b : List ℕ) (xip : ℕ → Bool) (q : ℕ) → Every Written (section_uses b xip q)
unfolding section_uses section_pages is_top
sections_written b xip q = every_gather Written _ _ (λ j _. every_tab Written _ _ (λ i _. refl))

below_top_written : (b : List ℕ) (xip : ℕ → Bool) (T : ℕ) → Every Written (below_top b xip T)
unfolding below_top all_sections tracker_uses all_tables table_uses is_top
below_top_written b xip T =
    every_append Written (gather _ _ ++ _) _
    (every_append Written (gather _ _) _ (every_gather Written _ _ (λ i _. sections_written b xip (i + 2))) (sections_written b xip 1))
    (every_append Written (tab T _) _ (every_tab Written T _ (λ i _. refl)) (
      refl,
      (
        refl,
        every_gather Written _ _ (λ i _.
            (refl, every_gather Written 1024 _ (λ m _. by_choose (Every Written) (has_leaf b (i + 1) m) _ _ (λ _. (refl, tt)) (λ _. tt)))),
      ),
    ))

written_byte : (x : Image) (xip : ℕ → Bool) (ram : PageRange) (u : Use) (old o : ℕ) → Written u → content x xip ram u o ≡ page_byte x xip ram (some u) old o
unfolding content page_byte is_top
written_byte x xip ram (top i) old o e = cc
written_byte x xip ram (holds d) old o e = refl
written_byte x xip ram (root_table q) old o e = refl
written_byte x xip ram (leaf_table q m) old o e = refl

after_use_lem : (x : Image) (xip : ℕ → Bool) (ram : PageRange) (us : List Use) → Every Written us → (i old o : ℕ) (m : Option Use) → lookup us i ≡ m
    → after_use (content x xip ram) m old o ≡ page_byte x xip ram m old o
unfolding after_use page_byte
after_use_lem x xip ram us w i old o none e = refl
after_use_lem x xip ram us w i old o (some u) e = written_byte x xip ram u old o (every_at Written us i w e)

use_below : (b : List ℕ) (xip : ℕ → Bool) (N k : ℕ) → k < N - 4 → use_of b xip N k ≡ lookup (below_top b xip (tracker_pages b N)) (N - 4 - 1 - k)
unfolding use_of uses order
use_below b xip N k h =
    let e : N - 1 - k ≡ length (tab 4 top) + (N - 4 - 1 - k) = rw tab_length (omega arith) in
    rw e (lookup_right (tab 4 top) _ _)

pub written_is_loaded : (x : Image) (r : Memory) → Whole (memory_area r) → pages_needed x.block (xip_of x) (pages_in (memory_area r)).pages ≤ (pages_in (memory_area r)).pages
    → write_uses (content x (xip_of x) (pages_in (memory_area r))) r.bytes ((pages_in (memory_area r)).pages - 4) (below_top x.block (xip_of x) (tracker_pages x.block (pages_in (memory_area r)).pages))
    ≡ loaded x r
unfolding loaded pages_needed uses page_byte
written_is_loaded x r whole enough =
    let b : List ℕ = x.block in
    let xip : ℕ → Bool = xip_of x in
    let N : ℕ = length r.bytes / 4096 in
    let us : List Use = below_top b xip (tracker_pages b N) in
    let c : Use → ℕ → ℕ = content x (xip_of x) (pages_in (memory_area r)) in
    let l : length us + 4 ≤ N = omega (arith, below_top_length b xip (tracker_pages b N)) in
    tab_by (length r.bytes) _ 0 _ (write_length c r.bytes (N - 4) us) (λ k h. elim (dec_lt (k / 4096) (N - 4)) [
      | yes g ↦ write_byte c r.bytes (N - 4) us k (omega arith) h g
          ∙ after_use_lem x xip (pages_in (memory_area r)) us (below_top_written b xip (tracker_pages b N)) _ _ _ _ refl ∙ rw (use_below b xip N (k / 4096) g)
      | no g ↦ write_above c r.bytes (N - 4) us k (omega arith) h (omega (arith, whole.length_whole)) ∙ rw (use_top b xip N (k / 4096) (omega arith) (omega (arith, whole.length_whole)))
    ])

-- SECTIONS: the bytes of a section's page depend on no board
unfoldable pub section_content : List ℕ → List ℕ → Use → ℕ → ℕ
section_content b flash = content (image_of b 0 flash) (λ n. false) (record { base = 0; pages = 0 })

pub section_content_lem : (b flash : List ℕ) (start q j i o : ℕ)
    → section_content b flash (holds (section_page q j i)) o ≡ section_page_byte (image_of b start flash) (section_record b q j) i o
unfolding section_content content page_byte data_byte section_page_byte
section_content_lem b flash start q j i o = refl

same_bytes : (x : Image) (xip : ℕ → Bool) (ram : PageRange) (q : ℕ)
    → Every (λ u. (o : ℕ) → o < 4096 → section_content x.block x.flash.bytes u o ≡ content x xip ram u o) (section_uses x.block xip q)
unfolding section_uses section_pages section_content content page_byte data_byte section_page_byte
same_bytes x xip ram q = every_gather _ _ _ (λ j _. every_tab _ _ _ (λ i _ o _. refl))

pub wrote_sections : (x : Image) (xip : ℕ → Bool) (ram : PageRange) {r₀ : List ℕ} {n₀ : ℕ} {r : List ℕ} {n : ℕ}
    → Wrote (section_content x.block x.flash.bytes) (all_sections x.block xip) r₀ n₀ r n → Wrote (content x xip ram) (all_sections x.block xip) r₀ n₀ r n
unfolding all_sections
wrote_sections x xip ram {r₀} {n₀} w = record {
  long = w.long;
  left = w.left;
  bytes = w.bytes
      ∙ write_same _ _ r₀ n₀ _ (every_append _ (gather _ _) _ (every_gather _ _ _ (λ i _. same_bytes x xip ram (i + 2))) (same_bytes x xip ram 1));
}

-- THE OTHER USES, whatever flash holds, where it starts at this address
pub record WroteAny (b : List ℕ) (xip : ℕ → Bool) (start : ℕ) (ram : PageRange) (us : List Use) (r₀ : List ℕ) (n₀ : ℕ) (r : List ℕ) (n : ℕ) : Type 0 where
  pub long : length r ≡ length r₀
  pub left : n ≡ n₀ - length us
  pub wrote : (flash : List ℕ) → Wrote (content (image_of b start flash) xip ram) us r₀ n₀ r n

module _ {b : List ℕ} {xip : ℕ → Bool} {start : ℕ} {ram : PageRange} where
  pub wrote_any : {us : List Use} {r₀ : List ℕ} {n₀ : ℕ} {r : List ℕ} {n : ℕ} → ((flash : List ℕ) → Wrote (content (image_of b start flash) xip ram) us r₀ n₀ r n)
      → WroteAny b xip start ram us r₀ n₀ r n
  wrote_any w = record { long = (w []).long; left = (w []).left; wrote = w }

  pub any_none : (r : List ℕ) (n : ℕ) → WroteAny b xip start ram [] r n r n
  any_none r n = wrote_any (λ flash. wrote_none _ r n)

  pub any_then : {us vs : List Use} {r₀ : List ℕ} {n₀ : ℕ} {r : List ℕ} {n : ℕ} {r' : List ℕ} {n' : ℕ}
      → WroteAny b xip start ram us r₀ n₀ r n → WroteAny b xip start ram vs r n r' n' → WroteAny b xip start ram (us ++ vs) r₀ n₀ r' n'
  any_then w v = wrote_any (λ flash. wrote_then (w.wrote flash) (v.wrote flash))

  pub any_tab_none : (f : ℕ → Use) (r : List ℕ) (n : ℕ) → WroteAny b xip start ram (tab 0 f) r n r n
  any_tab_none f r n = wrote_any (λ flash. wrote_tab_none _ f r n)

  pub any_tab_next : (f : ℕ → Use) (i : ℕ) {r₀ : List ℕ} {n₀ : ℕ} {r : List ℕ} {n : ℕ} {r' : List ℕ} {n' : ℕ}
      → WroteAny b xip start ram (tab i f) r₀ n₀ r n → WroteAny b xip start ram (f i ∷ []) r n r' n' → WroteAny b xip start ram (tab (i + 1) f) r₀ n₀ r' n'
  any_tab_next f i w v = wrote_any (λ flash. wrote_tab_next _ f i (w.wrote flash) (v.wrote flash))

  pub any_gather_none : (f : ℕ → List Use) (r : List ℕ) (n : ℕ) → WroteAny b xip start ram (gather 0 f) r n r n
  any_gather_none f r n = wrote_any (λ flash. wrote_gather_none _ f r n)

  pub any_gather_next : (f : ℕ → List Use) (i : ℕ) {r₀ : List ℕ} {n₀ : ℕ} {r : List ℕ} {n : ℕ} {r' : List ℕ} {n' : ℕ}
      → WroteAny b xip start ram (gather i f) r₀ n₀ r n → WroteAny b xip start ram (f i) r n r' n' → WroteAny b xip start ram (gather (i + 1) f) r₀ n₀ r' n'
  any_gather_next f i w v = wrote_any (λ flash. wrote_gather_next _ f i (w.wrote flash) (v.wrote flash))
