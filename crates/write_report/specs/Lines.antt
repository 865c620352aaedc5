-- The lines of a reply.
use Rattle.std.specs.Prelude.{◌&&◌, List, [], ◌∷◌, ◌++◌, ℕ, min, eqb, leb, ltb, length, get_or, Option, Result, Ok, Err}
use Rattle.notation.specs.Choice.{choose}
use Rattle.notation.specs.Lists.{tab}
use Rattle.text.specs.Text.{numeral}
use Rattle.record_fields.specs.Fields.{fields}
use Rattle.record_lines.specs.declared.Record.{Record}
use Rattle.record_lines.specs.declared.Fault.{Fault}
use Rattle.record_lines.specs.declared.Fault.TheVariants.{UnknownWord, WrongCount, NotNumber, TooLarge}
use Rattle.record_lines.specs.Lines.{line_of}

-- A FIELD AS IT IS SHOWN
-- a byte from 33 to 126 as it is, any other as ?
unfoldable pub shown_byte : ℕ → ℕ
shown_byte c = choose (leb 33 c && leb c 126) c 63

-- its first 40 bytes, and `..` where it has more
unfoldable pub shown : List ℕ → List ℕ
shown t = tab (min 40 (length t)) (λ i. shown_byte (get_or t i 0)) ++ choose (ltb 40 (length t)) (46 ∷ 46 ∷ []) []

-- A LINE AT FAULT
-- `is` or `are`
unfoldable pub verb : ℕ → List ℕ
verb n = choose (eqb n 1) (105 ∷ 115 ∷ []) (97 ∷ 114 ∷ 101 ∷ [])

-- what is wrong with a line of these fields. One that is not at fault has no text
abbrev pub cause_text : Result (Option Record) Fault → List (List ℕ) → List ℕ
-- `not process, section or region: WORD`
cause_text (Err UnknownWord) f =
    (110 ∷ 111 ∷ 116 ∷ 32 ∷ 112 ∷ 114 ∷ 111 ∷ 99 ∷ 101 ∷ 115 ∷ 115 ∷ 44 ∷ 32 ∷ 115 ∷ 101 ∷ 99 ∷ 116 ∷ 105 ∷ 111 ∷ 110 ∷ 32 ∷ 111 ∷ 114 ∷ 32 ∷ 114 ∷ 101 ∷ 103 ∷ 105 ∷ 111 ∷ 110 ∷ 58 ∷ 32 ∷ [])
    ++ shown (get_or f 0 [])
-- `process has 4 numbers, here are 3`
cause_text (Err (WrongCount n m)) f =
    shown (get_or f 0 []) ++ ((32 ∷ 104 ∷ 97 ∷ 115 ∷ 32 ∷ []) ++ (numeral 10 n
    ++ ((32 ∷ 110 ∷ 117 ∷ 109 ∷ 98 ∷ 101 ∷ 114 ∷ 115 ∷ 44 ∷ 32 ∷ 104 ∷ 101 ∷ 114 ∷ 101 ∷ 32 ∷ [])
    ++ (verb m ++ ((32 ∷ []) ++ numeral 10 m)))))
-- `not a number: FIELD`
cause_text (Err (NotNumber k)) f =
    (110 ∷ 111 ∷ 116 ∷ 32 ∷ 97 ∷ 32 ∷ 110 ∷ 117 ∷ 109 ∷ 98 ∷ 101 ∷ 114 ∷ 58 ∷ 32 ∷ [])
    ++ shown (get_or f k [])
-- `over 32 bits: FIELD`
cause_text (Err (TooLarge k)) f =
    (111 ∷ 118 ∷ 101 ∷ 114 ∷ 32 ∷ 51 ∷ 50 ∷ 32 ∷ 98 ∷ 105 ∷ 116 ∷ 115 ∷ 58 ∷ 32 ∷ [])
    ++ shown (get_or f k [])
cause_text (Ok r) f = []

-- `line N: CAUSE`
unfoldable pub fault_line : ℕ → List ℕ → List ℕ
fault_line n line =
    (108 ∷ 105 ∷ 110 ∷ 101 ∷ 32 ∷ []) ++ (numeral 10 n ++ ((58 ∷ 32 ∷ []) ++ (cause_text (line_of line) (fields line) ++ (10 ∷ []))))

-- SUCCESS
-- a number of things: the ending stands where there is not one of them
unfoldable pub counted : ℕ → List ℕ → List ℕ → List ℕ
counted n word ending = numeral 10 n ++ (word ++ choose (eqb n 1) [] ending)

-- `P processes, S sections, R regions`
unfoldable pub counts_text : ℕ → ℕ → ℕ → List ℕ
counts_text p s r =
    counted p (32 ∷ 112 ∷ 114 ∷ 111 ∷ 99 ∷ 101 ∷ 115 ∷ 115 ∷ []) (101 ∷ 115 ∷ []) ++ ((44 ∷ 32 ∷ [])
    ++ (counted s (32 ∷ 115 ∷ 101 ∷ 99 ∷ 116 ∷ 105 ∷ 111 ∷ 110 ∷ []) (115 ∷ []) ++ ((44 ∷ 32 ∷ [])
    ++ counted r (32 ∷ 114 ∷ 101 ∷ 103 ∷ 105 ∷ 111 ∷ 110 ∷ []) (115 ∷ []))))

-- `block N bytes: P processes, S sections, R regions`
unfoldable pub block_line : ℕ → ℕ → ℕ → ℕ → List ℕ
block_line n p s r =
    (98 ∷ 108 ∷ 111 ∷ 99 ∷ 107 ∷ 32 ∷ []) ++ (numeral 10 n ++ ((32 ∷ 98 ∷ 121 ∷ 116 ∷ 101 ∷ 115 ∷ 58 ∷ 32 ∷ []) ++ (counts_text p s r ++ (10 ∷ []))))
