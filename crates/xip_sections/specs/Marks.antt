-- Marks, one byte for each section record: 1 where it is used in place, else 0.
use Rattle.std.specs.Prelude.{◌≡◌, refl, Bool, false, List, [], ◌∷◌, ℕ, ◌+◌, ◌-◌, ◌*◌, ◌/◌, ◌%◌, ◌≤◌, length, get_or, eqb, leb}
use Rattle.std.proofs.Common.{sym, arith}
use Rattle.std.proofs.Math.Path.{fun_ext}
use Rattle.std.proofs.Math.Decide.{dec_lt}
use Rattle.std.proofs.Math.ListN.{get_or-eq_default}
use Rattle.notation.specs.Choice.{choose, all}
use Rattle.notation.specs.Lists.{tab}
use Rattle.rules.specs.InPlace.{zero_between, in_place}
use Rattle.block_records.specs.declared.Section.{Section}
use Rattle.laws.specs.Choice.{by_test}
use Rattle.laws.specs.Lists.{tab_length, tab_get}

-- section record n is marked; one that the marks do not reach is not
unfoldable pub marked : List ℕ → ℕ → Bool
marked marks n = eqb (get_or marks n 0) 1

-- the mark of section record n, and those of records 0 to k - 1
unfoldable pub mark_of : List ℕ → List ℕ → ℕ → ℕ
mark_of b flash n = choose (in_place b flash n) 1 0

unfoldable pub marks_of : List ℕ → List ℕ → ℕ → List ℕ
marks_of b flash k = tab k (mark_of b flash)

-- the tests of `in_place` that ask for flash's bytes, by what was read of the record
unfoldable pub lies_in_pages : Section → List ℕ → Bool
lies_in_pages r flash =
    let start = r.flash_offset in
    let end = start + r.size in
    let to = 4096 * ((end - 1) / 4096 + 1) in
    all (eqb (start % 4096) (r.address % 4096)
    ∷ leb to (length flash)
    ∷ zero_between flash (4096 * (start / 4096)) start
    ∷ zero_between flash end to
    ∷ [])

mark_says : (b flash : List ℕ) (n : ℕ) → eqb (mark_of b flash n) 1 ≡ in_place b flash n
unfolding mark_of choose
mark_says b flash n = by_test (λ c. eqb (choose c 1 0) 1 ≡ c) (in_place b flash n) (λ _. refl) (λ _. refl)

-- marks that reach every record that is used in place say of each whether it is
pub marks_say : (b flash : List ℕ) (k : ℕ) → ((n : ℕ) → k ≤ n → in_place b flash n ≡ false) → marked (marks_of b flash k) ≡ in_place b flash
unfolding marked marks_of
marks_say b flash k past = fun_ext (λ n. elim (dec_lt n k) [
  | yes l ↦ rw (tab_get k (mark_of b flash) n 0 l) (mark_says b flash n)
  | no l ↦
      let e : get_or (tab k (mark_of b flash)) n 0 ≡ 0 = get_or-eq_default (tab k (mark_of b flash)) 0 (rw tab_length (omega arith)) in
      rw e (sym (past n (omega arith)))
])
