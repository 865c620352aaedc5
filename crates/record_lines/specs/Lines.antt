-- What a line of records says.
use Rattle.std.specs.Prelude.{Bool, true, false, ◌&&◌, List, [], ◌∷◌, ℕ, ◌+◌, ◌-◌, eqb, ltb, length, get_or, drop, Option, Some, None, Result, Ok, Err}
use Rattle.notation.specs.Choice.{choose}
use Rattle.notation.specs.Lists.{tab, count_before}
use Rattle.numerals.specs.declared.NumberError.{NumberError}
use Rattle.numerals.specs.declared.NumberError.TheVariants as number
use Rattle.numerals.specs.Numerals.{number_of}
use Rattle.record_fields.specs.Fields.{fields}
use Rattle.record_lines.specs.declared.Kind.{Kind}
use Rattle.record_lines.specs.declared.Kind.TheVariants as kind
use Rattle.record_lines.specs.declared.Record.{Record}
use Rattle.record_lines.specs.declared.Record.TheVariants.{Process, Section, Region}
use Rattle.record_lines.specs.declared.Fault.{Fault}
use Rattle.record_lines.specs.declared.Fault.TheVariants.{UnknownWord, WrongCount, NotNumber, TooLarge}

-- WORDS
-- the same bytes
unfoldable pub same : List ℕ → List ℕ → Bool
same [] [] = true
same [] (b ∷ t) = false
same (a ∷ s) [] = false
same (a ∷ s) (b ∷ t) = eqb a b && same s t

-- `process`, `section`, `region`
unfoldable pub word_of : List ℕ → Option Kind
word_of t =
    choose (same t (112 ∷ 114 ∷ 111 ∷ 99 ∷ 101 ∷ 115 ∷ 115 ∷ [])) (Some kind.Process)
    (choose (same t (115 ∷ 101 ∷ 99 ∷ 116 ∷ 105 ∷ 111 ∷ 110 ∷ [])) (Some kind.Section)
    (choose (same t (114 ∷ 101 ∷ 103 ∷ 105 ∷ 111 ∷ 110 ∷ [])) (Some kind.Region)
    None))

-- how many numbers belong after a word
abbrev pub numbers_after : Kind → ℕ
numbers_after kind.Process = 4
numbers_after kind.Section = 4
numbers_after kind.Region = 2

-- NUMBERS
-- no number of 32 bits
abbrev pub unread : Result ℕ NumberError → Bool
unread (Ok v) = false
unread (Err e) = true

abbrev pub value_of : Result ℕ NumberError → ℕ
value_of (Ok v) = v
value_of (Err e) = 0

-- the number of field k
unfoldable pub value_at : List (List ℕ) → ℕ → ℕ
value_at f k = value_of (number_of (get_or f k []))

-- the first field after the word that is no number of 32 bits; one past the last where all are
unfoldable pub first_unread : List (List ℕ) → ℕ
first_unread f = 1 + count_before (λ t. unread (number_of t)) (drop 1 f)

-- field k is no number of 32 bits
abbrev pub fault_at : ℕ → Result ℕ NumberError → Fault
fault_at k (Ok v) = NotNumber k
fault_at k (Err number.TooLarge) = TooLarge k
fault_at k (Err number.NotNumber) = NotNumber k

-- the n numbers after the word, or what is wrong: how many there are is looked at first
unfoldable pub numbers_of : ℕ → List (List ℕ) → Result (List ℕ) Fault
numbers_of n f =
    let k = first_unread f in
    choose (eqb (length f) (1 + n))
    (choose (ltb k (length f)) (Err (fault_at k (number_of (get_or f k [])))) (Ok (tab n (λ i. value_at f (1 + i)))))
    (Err (WrongCount n (length f - 1)))

-- LINES
-- a record of these words: a region has the first two
abbrev pub record_of : Kind → ℕ → ℕ → ℕ → ℕ → Record
record_of kind.Process a b c d = Process (a ∷ b ∷ c ∷ d ∷ [])
record_of kind.Section a b c d = Section (a ∷ b ∷ c ∷ d ∷ [])
record_of kind.Region a b c d = Region (a ∷ b ∷ [])

-- a line of these fields, whose word has as many numbers as it should
unfoldable pub numbered : Kind → List (List ℕ) → Result (Option Record) Fault
numbered w f =
    let k = first_unread f in
    choose (ltb k (length f))
    (Err (fault_at k (number_of (get_or f k []))))
    (Ok (Some (record_of w (value_at f 1) (value_at f 2) (value_at f 3) (value_at f 4))))

-- a line of these fields with that word
abbrev pub said_after : Option Kind → List (List ℕ) → Result (Option Record) Fault
said_after None f = Err UnknownWord
said_after (Some w) f =
    let n = numbers_after w in
    choose (eqb (length f) (1 + n)) (numbered w f) (Err (WrongCount n (length f - 1)))

-- what a line of these fields says: the word is looked at first, then how many numbers there are, then each number
unfoldable pub said_by : List (List ℕ) → Result (Option Record) Fault
said_by f = choose (eqb (length f) 0) (Ok None) (said_after (word_of (get_or f 0 [])) f)

unfoldable pub line_of : List ℕ → Result (Option Record) Fault
line_of line = said_by (fields line)

-- the line is at fault
abbrev pub faulty : Result (Option Record) Fault → Bool
faulty (Ok r) = false
faulty (Err f) = true
