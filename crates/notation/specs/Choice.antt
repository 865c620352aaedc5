-- Choices by tests.
use Rattle.std.specs.Prelude.{Bool, true, false, ◌||◌, ◌&&◌, List, [], ◌∷◌}

-- if the test passes the first, else the second
unfoldable pub choose : {A : Type 0} → Bool → A → A → A
choose true x y = x
choose false x y = y

-- one of the tests passes
unfoldable pub any : List Bool → Bool
any [] = false
any (t ∷ ts) = t || any ts

-- all of the tests pass
unfoldable pub all : List Bool → Bool
all [] = true
all (t ∷ ts) = t && all ts

-- all definitions of this file, to be unfolded as one
unfoldable pub choices : Unit {0}
unfolding choose any all
choices = tt
