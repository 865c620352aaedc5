-- Words put one after the other, as many as fit.
use Rattle.std.proofs.Common.{◌≡◌, ℕ, suc, zero, ◌+◌, ◌-◌, ◌≤◌, ◌<◌, min, List, [], ◌∷◌, length, get_or, take, set, refl, sym, arith, length-set}
use Rattle.std.proofs.Math.Seq.{set_out}
use Rattle.std.proofs.lemmas.List.Edits.{sets}

-- one more word
pub sets_next : (l : List ℕ) (j : ℕ) (ws : List ℕ) (i k : ℕ) → i < length ws → k ≡ j + i → set (sets l j (take i ws)) k (get_or ws i 0) ≡ sets l j (take (suc i) ws)
sets_next l j [] i k h e = absurd (omega arith)
sets_next l j (w ∷ ws) zero k h e = let z : k ≡ j = omega arith in rw z refl
sets_next l j (w ∷ ws) (suc i) k h e = sets_next (set l j w) (suc j) ws i k (omega arith) (omega arith)

-- words beyond the end are not put
sets_beyond : (l : List ℕ) (j : ℕ) (ws : List ℕ) → length l ≤ j → sets l j ws ≡ l
sets_beyond l j [] h = refl
sets_beyond l j (w ∷ ws) h = rw (set_out l j w h) (sets_beyond l (suc j) ws (omega arith))

-- the first n words are all that fit
pub sets_fit : (l : List ℕ) (j : ℕ) (ws : List ℕ) (n : ℕ) → min (length ws) (length l - j) ≤ n → sets l j (take n ws) ≡ sets l j ws
sets_fit l j [] zero h = refl
sets_fit l j [] (suc n) h = refl
sets_fit l j (w ∷ ws) zero h = sym (sets_beyond l j (w ∷ ws) (omega arith))
sets_fit l j (w ∷ ws) (suc n) h = sets_fit (set l j w) (suc j) ws n (omega (arith, length-set {A = ℕ}))
