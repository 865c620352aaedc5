-- RAM with the pages of a list of uses written one after the other, from the top down.
use Rattle.std.specs.Prelude.{◌≡◌, get_or}
use Rattle.std.proofs.Math.Path.{refl}
use Rattle.std.proofs.Common.{sym, ap, ◌∙◌, length-append}
use mathlib.Core.List.{List, [], ◌∷◌, ◌++◌}
use Rattle.std.proofs.Math.Option.{Option, none, some}
use Prim.Native.Nat.{ℕ, suc, ◌+◌, ◌-◌, ◌/◌, ◌%◌, ◌≤◌, ◌<◌}
use Rattle.std.proofs.Math.Decide.{ℕ_discrete}
use Rattle.std.proofs.Math.Numerals.{add-one}
use native.Mathlib.Omega.{arith}
use Rattle.std.proofs.Math.ListN.{length}
use Rattle.notation.specs.Lists.{tab, gather, lookup}
use Rattle.rules.specs.Order.{Use}
use Rattle.laws.specs.Lists.{Every, tab_length, tab_next}
use Rattle.writing.specs.Pages.{put, put_length, put_in, put_out, put_same}

-- the uses go into RAM pages n - 1, n - 2 and so on; `byte u` gives the bytes of a use
unfoldable pub write_uses : (Use → ℕ → ℕ) → List ℕ → ℕ → List Use → List ℕ
write_uses byte r n [] = r
write_uses byte r n (u ∷ us) = write_uses byte (put r (n - 1) (byte u)) (n - 1) us

module _ (c : Use → ℕ → ℕ) where
  pub write_length : (r : List ℕ) (n : ℕ) (us : List Use) → length (write_uses c r n us) ≡ length r
  unfolding write_uses
  write_length r n [] = refl
  write_length r n (u ∷ us) = write_length (put r (n - 1) (c u)) (n - 1) us ∙ put_length r (n - 1) (c u)

  pub write_none : (r : List ℕ) (n : ℕ) → write_uses c r n [] ≡ r
  unfolding write_uses
  write_none r n = refl

  pub write_one : (r : List ℕ) (n : ℕ) (u : Use) → write_uses c r n (u ∷ []) ≡ put r (n - 1) (c u)
  unfolding write_uses
  write_one r n u = refl

  -- first one list, then the other
  pub write_append : (r : List ℕ) (n : ℕ) (us vs : List Use) → write_uses c r n (us ++ vs) ≡ write_uses c (write_uses c r n us) (n - length us) vs
  unfolding write_uses
  write_append r n [] vs = let e : n - 0 ≡ n = omega arith in rw e
  write_append r n (u ∷ us) vs =
      let e : n - 1 - length us ≡ n - suc (length us) = omega arith in
      rw e at (write_append (put r (n - 1) (c u)) (n - 1) us vs)

  -- the uses of a rule, one more
  pub write_tab_next : (r : List ℕ) (n i : ℕ) (f : ℕ → Use)
      → write_uses c r n (tab (suc i) f) ≡ put (write_uses c r n (tab i f)) (n - i - 1) (c (f i))
  write_tab_next r n i f =
      let l : length (tab i f) ≡ i = tab_length i f in
      rw tab_next (write_append r n (tab i f) (f i ∷ []) ∙ rw l (write_one (write_uses c r n (tab i f)) (n - i) (f i)))

  -- pages above those written keep their bytes
  pub write_above : (r : List ℕ) (n : ℕ) (us : List Use) (x : ℕ) → length us ≤ n → x < length r → n ≤ x / 4096
      → get_or (write_uses c r n us) x 0 ≡ get_or r x 0
  unfolding write_uses
  write_above r n [] x l h a = refl
  write_above r n (u ∷ us) x l h a =
      write_above (put r (n - 1) (c u)) (n - 1) us x (omega arith) (rw put_length h) (omega arith)
      ∙ put_out r (n - 1) (c u) x h (λ e. omega arith)

  -- a byte of a page with this use, if it has one, that was `old`
  unfoldable pub after_use : Option Use → ℕ → ℕ → ℕ
  after_use none old o = old
  after_use (some u) old o = c u o

  -- a byte of a page below n
  pub write_byte : (r : List ℕ) (n : ℕ) (us : List Use) (x : ℕ) → length us ≤ n → x < length r → x / 4096 < n
      → get_or (write_uses c r n us) x 0 ≡ after_use (lookup us (n - 1 - x / 4096)) (get_or r x 0) (x % 4096)
  unfolding write_uses lookup after_use
  write_byte r n [] x l h b = refl
  write_byte r n (u ∷ us) x l h b = elim (ℕ_discrete (x / 4096) (n - 1)) [
    | yes e ↦
        let z : n - 1 - x / 4096 ≡ 0 = omega arith in
        rw z (write_above (put r (n - 1) (c u)) (n - 1) us x (omega arith) (rw put_length h) (omega arith) ∙ put_in r (n - 1) (c u) x h e)
    | no e ↦
        let z : n - 1 - x / 4096 ≡ suc (n - 1 - 1 - x / 4096) = omega arith in
        rw z (write_byte (put r (n - 1) (c u)) (n - 1) us x (omega arith) (rw put_length h) (omega arith)
        ∙ rw (put_out r (n - 1) (c u) x h e))
  ]

-- uses with the same bytes
pub write_same : (c c' : Use → ℕ → ℕ) (r : List ℕ) (n : ℕ) (us : List Use) → Every (λ u. (o : ℕ) → o < 4096 → c u o ≡ c' u o) us
    → write_uses c r n us ≡ write_uses c' r n us
unfolding write_uses
write_same c c' r n [] e = refl
write_same c c' r n (u ∷ us) e = rw (put_same r (n - 1) (c u) (c' u) e.0) (write_same c c' (put r (n - 1) (c' u)) (n - 1) us e.1)

-- WRITTEN: RAM r₀ with n₀ pages left became r with n pages left when these uses were written
pub record Wrote (c : Use → ℕ → ℕ) (us : List Use) (r₀ : List ℕ) (n₀ : ℕ) (r : List ℕ) (n : ℕ) : Type 0 where
  pub long : length r ≡ length r₀
  pub left : n ≡ n₀ - length us
  pub bytes : r ≡ write_uses c r₀ n₀ us

pub wrote_none : (c : Use → ℕ → ℕ) (r : List ℕ) (n : ℕ) → Wrote c [] r n r n
unfolding write_uses
wrote_none c r n = record { long = refl; left = omega arith; bytes = refl }

-- one page
pub wrote_page : {c : Use → ℕ → ℕ} (u : Use) {r : List ℕ} {n : ℕ} {r' : List ℕ} {n' k : ℕ} (f : ℕ → ℕ)
    → n' ≡ n - 1 → k ≡ n - 1 → r' ≡ put r k f → ((o : ℕ) → o < 4096 → f o ≡ c u o) → Wrote c (u ∷ []) r n r' n'
wrote_page {c} u {r} {n} f l k e s =
    let p : put r (n - 1) f ≡ put r (n - 1) (c u) = put_same r (n - 1) f (c u) s in
    record { long = ap length e ∙ put_length r _ f; left = l; bytes = e ∙ rw k (p ∙ sym (write_one c r n u)) }

-- first some, then some more
pub wrote_then : {c : Use → ℕ → ℕ} {us vs : List Use} {r₀ : List ℕ} {n₀ : ℕ} {r : List ℕ} {n : ℕ} {r' : List ℕ} {n' : ℕ}
    → Wrote c us r₀ n₀ r n → Wrote c vs r n r' n' → Wrote c (us ++ vs) r₀ n₀ r' n'
wrote_then {c} {us} {vs} {r₀} {n₀} w v = record {
  long = v.long ∙ w.long;
  left = simp length-append (omega (arith, w.left, v.left));
  bytes = v.bytes ∙ rw (w.left, w.bytes) (sym (write_append c r₀ n₀ us vs));
}

-- a list of uses given by a rule, and one more of it
module _ (c : Use → ℕ → ℕ) where
  pub wrote_tab_none : (f : ℕ → Use) (r : List ℕ) (n : ℕ) → Wrote c (tab 0 f) r n r n
  unfolding tab
  wrote_tab_none f r n = wrote_none c r n

  pub wrote_tab_next : (f : ℕ → Use) (i : ℕ) {r₀ : List ℕ} {n₀ : ℕ} {r : List ℕ} {n : ℕ} {r' : List ℕ} {n' : ℕ}
      → Wrote c (tab i f) r₀ n₀ r n → Wrote c (f i ∷ []) r n r' n' → Wrote c (tab (i + 1) f) r₀ n₀ r' n'
  wrote_tab_next f i w v = rw (add-one, tab_next) (wrote_then w v)

  pub wrote_gather_none : (f : ℕ → List Use) (r : List ℕ) (n : ℕ) → Wrote c (gather 0 f) r n r n
  unfolding gather
  wrote_gather_none f r n = wrote_none c r n

  pub wrote_gather_next : (f : ℕ → List Use) (i : ℕ) {r₀ : List ℕ} {n₀ : ℕ} {r : List ℕ} {n : ℕ} {r' : List ℕ} {n' : ℕ}
      → Wrote c (gather i f) r₀ n₀ r n → Wrote c (f i) r n r' n' → Wrote c (gather (i + 1) f) r₀ n₀ r' n'
  unfolding gather
  wrote_gather_next f i w v = rw add-one (wrote_then w v)
