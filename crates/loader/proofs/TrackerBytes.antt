-- The tracker's bytes: the owner of each RAM page by its place in the order, and what the fills leave.
use Rattle.std.proofs.Common.{◌≡◌, refl, sym, ◌∙◌, List, ◌++◌, Bool, ℕ, ◌+◌, ◌-◌, ◌*◌, ◌≤◌, ◌<◌, arith, length, get_or, length-append}
use Rattle.std.proofs.Math.Option.{some}
use Rattle.std.proofs.Math.Decide.{dec_lt}
use Rattle.std.proofs.Math.ListN.{get_or-eq_default}
use Rattle.notation.specs.Choice.{choose}
use Rattle.notation.specs.Lists.{tab, gather, lookup}
use Rattle.laws.specs.Choice.{by_choose}
use Rattle.laws.specs.Lists.{Every, every_tab, every_gather, tab_length, tab_get, tab_by, tab_same, lookup_some, lookup_left, lookup_right, lookup_outside, lookup_gather, every_at}
use Rattle.laws.specs.Counts.{sum_le}
use Rattle.types.specs.declared.PageRange.{PageRange}
use Rattle.rules.specs.Block.{process_count}
use Rattle.rules.specs.Space.{tracker_page}
use Rattle.rules.specs.Order.{Use, top, holds, section_pages, section_uses, tracker_uses, has_leaf, table_uses, order, uses, tracker_pages, pages_needed, use_of, data_owner, use_owner, owner}
use Rattle.rules.specs.Contents.{tracker, data_byte}
use Rattle.rules.specs.Load.{page_byte}
use Rattle.accepted.specs.Tracker.{tracker_byte_lem, tracker_io}
use Rattle.accepted.specs.Fits.{Fits}
use Rattle.order_laws.specs.Uses.{after_users, order_users, every_after_users}
use Rattle.order_laws.specs.Places.{process_pages, user_pages, section_place, tracker_place, section_uses_length, user_uses_length, user_pages_next, order_count}
use Rattle.writing.specs.Pages.{put}
use Rattle.writing.specs.Uses.{wrote_page}
use Rattle.writing.specs.Loaded.{content, WroteAny, wrote_any, any_tab_next}
use Rattle.stores.specs.Writes.{filled}
use Rattle.stores.proofs.Written.{Written, between, chosen_written, written_same}

-- OWNERS BY PLACE
-- place i of the list has a use of owner v
record Owned (l : List Use) (i v : ℕ) : Type 0 where
  element : Use
  found : lookup l i ≡ some element
  owned : use_owner element ≡ v

owned_all : (l : List Use) (i v : ℕ) → Every (λ u. use_owner u ≡ v) l → i < length l → Owned l i v
owned_all l i v e h = let x = lookup_some l i h in record { element = x.0; found = x.1; owned = every_at _ l i e x.1 }

owned_left : {l : List Use} (m : List Use) {i v : ℕ} → Owned l i v → Owned (l ++ m) i v
owned_left {l} m {i} o = record { element = o.element; found = lookup_left l m i o.element o.found; owned = o.owned }

owned_right : (l : List Use) {m : List Use} {i v : ℕ} (n j : ℕ) → length l ≡ n → j ≡ n + i → Owned m i v → Owned (l ++ m) j v
owned_right l {m} {i} n j e f o = record { element = o.element; found = rw (f, ← e) (lookup_right l m i ∙ o.found); owned = o.owned }

owned_gather : (n : ℕ) (f : ℕ → List Use) (k : ℕ) {i v : ℕ} → k < n → Owned (f k) i v → Owned (gather n f) (length (gather k f) + i) v
owned_gather n f k {i} h o = record { element = o.element; found = lookup_gather n f k i o.element h o.found; owned = o.owned }

module _ (b : List ℕ) (xip : ℕ → Bool) where
  -- v owns every use of the list
  abbrev Owns : ℕ → List Use → Type 0
  Owns v l = Every (λ u. use_owner u ≡ v) l

  sections_owned : (q : ℕ) → Owns q (section_uses b xip q)
  unfolding section_uses section_pages use_owner data_owner
  sections_owned q = every_gather _ _ _ (λ j _. every_tab _ _ _ (λ i _. refl))

  tables_owned : (q : ℕ) → Owns 1 (table_uses b q)
  unfolding table_uses use_owner
  tables_owned q = (refl, every_gather _ 1024 _ (λ m _. by_choose (Owns 1) (has_leaf b q m) _ _ (λ _. (refl, tt)) (λ _. tt)))

  module _ (T : ℕ) where
    after_owned : Owns 1 (after_users b xip T)
    unfolding use_owner data_owner
    after_owned = every_after_users (λ u. use_owner u ≡ 1) b xip T (sections_owned 1) (λ i. refl) refl refl tables_owned

    owned_top : (i : ℕ) → i < 4 → Owned (order b xip T) i 1
    unfolding order use_owner
    owned_top i h = owned_left _ (owned_all (tab 4 top) i 1 (every_tab _ 4 top (λ i _. refl)) (rw tab_length h))

    -- section page i of process t + 2
    owned_user : (t i : ℕ) → t < process_count b - 1 → i < process_pages b xip (t + 2) → Owned (order b xip T) (4 + (user_pages b xip t + i)) (t + 2)
    owned_user t i h l =
        rw (order_users b xip T) (owned_right (tab 4 top) 4 _ (tab_length 4 top) refl
        (owned_left _ (rw (user_uses_length b xip t) at (owned_gather (process_count b - 1) (λ i. section_uses b xip (i + 2)) t h
        (owned_all (section_uses b xip (t + 2)) i (t + 2) (sections_owned (t + 2)) (rw section_uses_length l))))))

    owned_rest : (i : ℕ) → 4 + user_pages b xip (process_count b - 1) ≤ i → i < length (order b xip T) → Owned (order b xip T) i 1
    owned_rest i h l =
        let u : ℕ = user_pages b xip (process_count b - 1) in
        let n : length (order b xip T) ≡ 4 + (u + length (after_users b xip T)) = rw (order_users b xip T) (simp (length-append, tab_length, user_uses_length)) in
        rw (order_users b xip T) (owned_right (tab 4 top) {i = u + (i - (4 + u))} 4 _ (tab_length 4 top) (omega arith)
        (owned_right (gather _ _) u _ (user_uses_length b xip _) refl
        (owned_all (after_users b xip T) (i - (4 + u)) 1 after_owned (omega arith))))

-- BYTES
-- byte k of the tracker for RAM of N pages
abbrev pub tracker_byte : List ℕ → (ℕ → Bool) → ℕ → ℕ → ℕ
tracker_byte b xip N k = get_or (tracker b xip N) k 0

abbrev zeros : ℕ → List ℕ
zeros n = tab n (λ k. 0)

zero_byte : (n k : ℕ) → get_or (zeros n) k 0 ≡ 0
zero_byte n k = elim (dec_lt k n) [
  | yes h ↦ tab_get n _ k 0 h
  | no h ↦ get_or-eq_default (zeros n) 0 {n = k} (rw tab_length (omega arith))
]

module _ (b : List ℕ) (xip : ℕ → Bool) (N : ℕ) where
  free_byte : (k : ℕ) → k < N - pages_needed b xip N → tracker_byte b xip N k ≡ 0
  unfolding use_of pages_needed owner
  free_byte k h = tracker_byte_lem b xip N k (omega arith) ∙ rw (lookup_outside (uses b xip N) (N - 1 - k) (omega arith))

  owner_byte : (k i v : ℕ) → k + i + 1 ≡ N → Owned (order b xip (tracker_pages b N)) i v → tracker_byte b xip N k ≡ v
  unfolding use_of uses owner
  owner_byte k i v e o =
      let z : N - 1 - k ≡ i = omega arith in
      tracker_byte_lem b xip N k (omega arith) ∙ rw (z, o.found) o.owned

-- the section pages of user processes are among those needed
pub users_fit : {b : List ℕ} {xip : ℕ → Bool} {ram : PageRange} {needed : ℕ} (t : ℕ) → Fits b xip ram → needed ≡ pages_needed b xip ram.pages → t ≤ process_count b - 1 → 4 + user_pages b xip t ≤ needed
unfolding pages_needed uses tracker_place section_place choose user_pages
users_fit {b} {xip} {ram} t c n h = omega (arith, n, order_count b xip (tracker_pages b ram.pages), sum_le t (process_count b - 1) (λ i. process_pages b xip (i + 2)) h)

pub user_fits : {b : List ℕ} {xip : ℕ → Bool} {ram : PageRange} {needed count : ℕ} (t : ℕ) → Fits b xip ram → needed ≡ pages_needed b xip ram.pages → t < process_count b - 1 → count ≡ process_pages b xip (t + 2)
    → 4 + user_pages b xip t + count ≤ ram.pages
user_fits {b} {xip} t c n h e = omega (arith, users_fit (t + 1) c n (omega arith), user_pages_next b xip t, c.enough)

-- FILLS
filled_written : (d : List ℕ) (from to v : ℕ) → from ≤ to → Written (λ k. v) from to d (filled d from to v)
unfolding filled
filled_written d from to v h = chosen_written (λ k. v) d (between (length d) from to h)

-- one stretch, then the one below it
written_below : {f : ℕ → ℕ} {a b c : ℕ} {d₀ d e : List ℕ} → Written f b c d₀ d → Written f a b d e → a ≤ b → b ≤ c → Written f a c d₀ e
written_below {b = b} v w h l = record {
  size = w.size ∙ v.size;
  inside = λ k m n z. elim (dec_lt k b) [
    | yes y ↦ w.inside k m y (omega (arith, v.size))
    | no y ↦ w.above k (omega arith) ∙ v.inside k (omega arith) n z
  ];
  below = λ k m. w.below k m ∙ v.below k (omega arith);
  above = λ k m. w.above k (omega arith) ∙ v.above k m;
}

-- the pages of one process more
pub track_turn : {b : List ℕ} {xip : ℕ → Bool} {ram : PageRange} {needed t start end count : ℕ} {d₀ d e : List ℕ} → Fits b xip ram → needed ≡ pages_needed b xip ram.pages → t < process_count b - 1
    → end ≡ ram.pages - 4 - user_pages b xip t
    → Written (tracker_byte b xip ram.pages) end (ram.pages - 4) d₀ d
    → count ≡ process_pages b xip (t + 2)
    → start ≡ end - count
    → e ≡ filled d start end (t + 2)
    → (start ≡ ram.pages - 4 - user_pages b xip (t + 1)) × Written (tracker_byte b xip ram.pages) start (ram.pages - 4) d₀ e
track_turn {b} {xip} {ram} {needed} {t} {start} {end} {count} {d = d} c n h ee w ec es ed =
    let u : user_pages b xip (t + 1) ≡ user_pages b xip t + count = rw ec (user_pages_next b xip t) in
    let f : 4 + user_pages b xip t + count ≤ ram.pages = user_fits t c n h ec in (
      omega arith,
      written_below w (rw ed (written_same (filled_written d start end (t + 2) (omega arith)) (λ k l m.
          let i : ℕ = end - 1 - k in
          sym (owner_byte b xip ram.pages k (4 + (user_pages b xip t + i)) (t + 2) (omega arith) (owned_user b xip (tracker_pages b ram.pages) t i h (rw (← ec) (omega arith)))))))
          (omega arith) (omega arith),
    )

pub track_end : {b : List ℕ} {xip : ℕ → Bool} {ram : PageRange} {needed t end : ℕ} (m : ℕ) {d₀ d₁ d : List ℕ} → Fits b xip ram → needed ≡ pages_needed b xip ram.pages
    → d₀ ≡ zeros m
    → d₁ ≡ filled d₀ (ram.pages - needed) ram.pages 1
    → end ≡ ram.pages - 4 - user_pages b xip t
    → t ≡ process_count b - 1
    → Written (tracker_byte b xip ram.pages) end (ram.pages - 4) d₁ d
    → d ≡ tab m (tracker_byte b xip ram.pages)
unfolding pages_needed uses
track_end {b} {xip} {ram} {needed} {t} {end} m {d₀} {d₁} {d} c is e₀ e₁ ee et w =
    let v : Written (λ k. 1) (ram.pages - needed) ram.pages d₀ d₁ = rw e₁ (filled_written d₀ (ram.pages - needed) ram.pages 1 (omega arith)) in
    let n : length d₀ ≡ m = rw e₀ (tab_length m _) in
    let z : (k : ℕ) → get_or d₀ k 0 ≡ 0 = λ k. rw e₀ (zero_byte m k) in
    let f : 4 + user_pages b xip t ≤ needed = users_fit t c is (omega arith) in
    tab_by m _ 0 d (w.size ∙ v.size ∙ n) (λ k h. elim (dec_lt k end) [
      | yes l ↦ w.below k l ∙ elim (dec_lt k (ram.pages - needed)) [
        | yes g ↦ v.below k g ∙ z k ∙ sym (free_byte b xip ram.pages k (omega (arith, is)))
        | no g ↦ v.inside k (omega arith) (omega arith) (omega arith)
            ∙ sym (owner_byte b xip ram.pages k (ram.pages - 1 - k) 1 (omega arith) (owned_rest b xip (tracker_pages b ram.pages) (ram.pages - 1 - k) (rw (← et) (omega arith)) (omega (arith, is, c.enough))))
      ]
      | no l ↦ elim (dec_lt k (ram.pages - 4)) [
        | yes g ↦ w.inside k (omega arith) g (omega (arith, v.size))
        | no g ↦ w.above k (omega arith) ∙ elim (dec_lt k ram.pages) [
          | yes r ↦ v.inside k (omega arith) r (omega arith) ∙ sym (owner_byte b xip ram.pages k (ram.pages - 1 - k) 1 (omega arith) (owned_top b xip _ (ram.pages - 1 - k) (omega arith)))
          | no r ↦ v.above k (omega arith) ∙ z k ∙ sym (tracker_io b xip ram.pages k (omega arith))
        ]
      ]
    ])

-- PAGES
-- page 0 has the bytes of RAM's pages
pub first_page : (b : List ℕ) (xip : ℕ → Bool) (N i m : ℕ) {d : List ℕ} → i ≡ 0 → d ≡ tab m (tracker_byte b xip N) → d ≡ tab m (λ o. tracker_byte b xip N (4096 * i + o))
first_page b xip N i m z e = e ∙ tab_same m _ _ 0 (λ o _. let s : 4096 * i + o ≡ o = omega arith in rw s)

pub later_page : (b : List ℕ) (xip : ℕ → Bool) (N i m : ℕ) {d : List ℕ} → N ≤ 4096 → (i ≡ 0 → ⊥) → d ≡ zeros m → d ≡ tab m (λ o. tracker_byte b xip N (4096 * i + o))
later_page b xip N i m h n e = e ∙ tab_same m _ _ 0 (λ o _. sym (tracker_io b xip N (4096 * i + o) (omega arith)))

-- the tracker's pages are among those needed
pub tracker_fits : {b : List ℕ} {xip : ℕ → Bool} {ram : PageRange} → Fits b xip ram → tracker_pages b ram.pages ≤ ram.pages
unfolding pages_needed uses
tracker_fits {b} {xip} {ram} f = omega (arith, f.enough, order_count b xip (tracker_pages b ram.pages))

-- one page more
pub page_turn : (b : List ℕ) (xip : ℕ → Bool) (start : ℕ) (ram : PageRange) (i : ℕ) {r₀ : List ℕ} {n₀ : ℕ} {r : List ℕ} {n : ℕ} {r' : List ℕ} {n' k : ℕ}
    → WroteAny b xip start ram (tab i (λ i. holds (tracker_page i))) r₀ n₀ r n
    → n' ≡ n - 1 → k ≡ n - 1 → r' ≡ put r k (λ o. tracker_byte b xip ram.pages (4096 * i + o))
    → WroteAny b xip start ram (tab (i + 1) (λ i. holds (tracker_page i))) r₀ n₀ r' n'
unfolding content page_byte data_byte
page_turn b xip start ram i w l k p =
    any_tab_next (λ i. holds (tracker_page i)) i w (wrote_any (λ flash. wrote_page (holds (tracker_page i)) _ l k p (λ o _. refl)))

pub tracker_end : (b : List ℕ) (xip : ℕ → Bool) (start : ℕ) (ram : PageRange) (i : ℕ) {r₀ : List ℕ} {n₀ : ℕ} {r : List ℕ} {n : ℕ}
    → WroteAny b xip start ram (tab i (λ i. holds (tracker_page i))) r₀ n₀ r n → i ≡ tracker_pages b ram.pages
    → WroteAny b xip start ram (tracker_uses (tracker_pages b ram.pages)) r₀ n₀ r n
unfolding tracker_uses
tracker_end b xip start ram i w e = rw (← e) w
