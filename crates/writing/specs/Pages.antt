-- RAM with one page's bytes put in the place of those it had.
use Rattle.std.specs.Prelude.{◌≡◌, ◌≢◌, List, ◌++◌, ℕ, ◌+◌, ◌-◌, ◌*◌, ◌/◌, ◌%◌, ◌<◌, min, length, get_or, take, drop, eqb}
use Rattle.std.proofs.Common.{sym, ap, ◌∙◌, arith, length-append, length-drop, get_or-take, get_or-drop, length-take-le, eq-eqb, ne_eqb}
use Rattle.std.proofs.Math.Decide.{dec_lt}
use Rattle.std.proofs.Math.ListN.{get_or-append}
use borrow.Rule.Slice.PartMut.{put_mid, mid_of, mid_len, Post-is}
use Rattle.notation.specs.Choice.{choose}
use Rattle.notation.specs.Lists.{tab}
use Rattle.laws.specs.Choice.{choose_yes, choose_no}
use Rattle.laws.specs.Lists.{tab_length, tab_get, tab_by, tab_same, append_get_right}

-- byte o of RAM page k becomes `byte o`
unfoldable pub put : List ℕ → ℕ → (ℕ → ℕ) → List ℕ
put r k byte = tab (length r) (λ x. choose (eqb (x / 4096) k) (byte (x % 4096)) (get_or r x 0))

pub put_length : (r : List ℕ) (k : ℕ) (f : ℕ → ℕ) → length (put r k f) ≡ length r
unfolding put
put_length r k f = tab_length _ _

pub put_in : (r : List ℕ) (k : ℕ) (f : ℕ → ℕ) (x : ℕ) → x < length r → x / 4096 ≡ k → get_or (put r k f) x 0 ≡ f (x % 4096)
unfolding put
put_in r k f x h e = tab_get _ _ x 0 h ∙ choose_yes _ _ (eq-eqb (x / 4096) k e)

pub put_out : (r : List ℕ) (k : ℕ) (f : ℕ → ℕ) (x : ℕ) → x < length r → x / 4096 ≢ k → get_or (put r k f) x 0 ≡ get_or r x 0
unfolding put
put_out r k f x h e = tab_get _ _ x 0 h ∙ choose_no _ _ (ne_eqb (x / 4096) k e)

pub put_same : (r : List ℕ) (k : ℕ) (f g : ℕ → ℕ) → ((o : ℕ) → o < 4096 → f o ≡ g o) → put r k f ≡ put r k g
unfolding put
put_same r k f g h = tab_same _ _ _ 0 (λ x _. rw (h (x % 4096) (omega arith)))

-- page k, as far as RAM has it, lent from a to e, comes back with the bytes f
pub put_part : (r p : List ℕ) (k a e : ℕ) (f : ℕ → ℕ) → a ≡ min (k * 4096) (length r) → e ≡ min (a + 4096) (length r)
    → p ≡ tab (length (mid_of a (e - a) r)) f
    → put_mid a (e - a) r p ≡ put r k f
unfolding put
put_part r p k a e f ea ee ep =
    let m : length (mid_of a (e - a) r) ≡ e - a = mid_len a e r (omega arith) in
    let n : length p ≡ e - a = ap length ep ∙ tab_length _ f ∙ m in
    let t : length (take a r) ≡ a = length-take-le a r (omega arith) in
    let q : put_mid a (e - a) r p ≡ take a r ++ (p ++ drop e r) = rw (Post-is a e r (omega arith)) in
    q ∙ tab_by (length r) _ 0 _ (simp (length-append, length-drop) (omega arith)) (λ x h. elim (dec_lt x a) [
      | yes l ↦
          get_or-append (take a r) _ 0 x (omega arith) ∙ get_or-take a r x 0 l
          ∙ sym (choose_no _ _ (ne_eqb (x / 4096) k (λ z. omega arith)))
      | no l ↦ append_get_right (take a r) _ a x 0 t (omega arith) ∙ elim (dec_lt x e) [
        | yes g ↦
            let w : x - a < length p = omega arith in
            let s : x - a ≡ x % 4096 = omega arith in
            get_or-append p _ 0 (x - a) w ∙ rw (ep, s) (tab_get _ f (x % 4096) 0 (omega arith))
            ∙ sym (choose_yes _ _ (eq-eqb (x / 4096) k (omega arith)))
        | no g ↦
            let s : e + (x - a - (e - a)) ≡ x = omega arith in
            append_get_right p _ (e - a) (x - a) 0 n (omega arith) ∙ get_or-drop e r _ 0 ∙ rw s
            (sym (choose_no _ _ (ne_eqb (x / 4096) k (λ z. omega arith))))
      ]
    ])
