-- The fields of a line of records.
use Rattle.std.specs.Prelude.{Bool, List, [], ◌∷◌, ℕ, eqb, take}
use Rattle.notation.specs.Choice.{choose, any}
use Rattle.notation.specs.Lists.{count_before}

module _ {A : Type 0} where
  -- what stands before the first element that passes the test; all where none does
  unfoldable pub before : (A → Bool) → List A → List A
  before t l = take (count_before t l) l

  -- the lists with x in front of the first
  unfoldable pub on_first : A → List (List A) → List (List A)
  on_first x [] = (x ∷ []) ∷ []
  on_first x (p ∷ ps) = (x ∷ p) ∷ ps

  -- the pieces of a list: each ends before an element that passes the test, or with the list. After such an element at the very end
  -- there is no piece
  unfoldable pub pieces : (A → Bool) → List A → List (List A)
  pieces t [] = []
  pieces t (x ∷ l) = let ps = pieces t l in choose (t x) ([] ∷ ps) (on_first x ps)

  -- the lists that have an element
  unfoldable pub non_empty : List (List A) → List (List A)
  non_empty [] = []
  non_empty ([] ∷ ps) = non_empty ps
  non_empty ((x ∷ p) ∷ ps) = (x ∷ p) ∷ non_empty ps

-- comma, semicolon, blank, tab; and the carriage return, so that a line may end with both
unfoldable pub separator : ℕ → Bool
separator c = any (eqb c 44 ∷ eqb c 59 ∷ eqb c 32 ∷ eqb c 9 ∷ eqb c 13 ∷ [])

-- a comment starts with #
unfoldable pub hash : ℕ → Bool
hash c = eqb c 35

-- the fields of a line: what separators leave of what stands before a comment
unfoldable pub fields : List ℕ → List (List ℕ)
fields line = non_empty (pieces separator (before hash line))
