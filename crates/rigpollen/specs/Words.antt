-- Answers as the words that C gets.
use Rattle.std.specs.Prelude.{List, [], ◌∷◌, ℕ, ◌+◌, eqb}
use Rattle.notation.specs.Choice.{choose}
use Rattle.types.specs.declared.Area.{Area}
use Rattle.rules.specs.Answers.{Answer, Written}
use Rattle.types.specs.declared.Rights.{Rights}
use Rattle.types.specs.declared.Entry.{Entry}
use Rattle.types.specs.declared.Entry.TheVariants.{Absent, Reserved, Pointer, Page}
use Rattle.rules.specs.Lent.{Image, pages_in}
use Rattle.rules.specs.InPlace.{xip_of}
use Rattle.rules.specs.Refusals.{verdict}
use Rattle.rules.specs.Contents.{process_word}
use Rattle.rules.specs.Load.{satp_word}
use Rattle.refusals.specs.Numbers.{number_of}
use Rattle.order_roots.specs.Roots.{is_process}
use Rattle.rigpollen.specs.declared.NotStarted.{NotStarted}
use Rattle.rigpollen.specs.declared.NotStarted.TheVariants.{Refused, NoProcess}

-- the full answer: number, place, pages taken, pages free, tracker pages, offset
abbrev pub answer_words : Answer → List ℕ
answer_words a = a.number ∷ a.place ∷ a.taken ∷ a.free ∷ a.tracker ∷ a.offset ∷ []

-- what a process starts with, for RAM that lies here: 0, the refusal's number, or 31 where there is no process q
unfoldable pub process_number : Image → Area → ℕ → ℕ
process_number x ram q = let v = verdict x ram in choose (eqb v.number 0) (choose (is_process x.block q) 0 31) v.number

-- why a process does not start, as that number
abbrev pub not_started_number : NotStarted → ℕ
not_started_number (Refused e) = number_of e.refusal
not_started_number NoProcess = 31

-- its words of the process list, where that is 0
unfoldable pub process_words : Image → Area → ℕ → List ℕ
process_words x ram q =
    let word = process_word x.block (satp_word x.block (xip_of x) (pages_in ram)) q in
    choose (eqb (process_number x ram q) 0) (word 0 ∷ word 1 ∷ word 2 ∷ []) []

-- the rights of a page: read 1, write 2, execute 4, user 8
unfoldable pub rights_word : Rights → ℕ
rights_word t = choose t.read 1 0 + choose t.write 2 0 + choose t.execute 4 0 + choose t.user 8 0

-- the walk's answer: 0 absent, 1 reserved, 2 a page. (The walk never answers a pointer.)
abbrev pub entry_number : Entry → ℕ
entry_number Absent = 0
entry_number Reserved = 1
entry_number (Pointer P) = 0
entry_number (Page t P) = 2

-- of a page its rights and its physical page number
abbrev pub entry_words : Entry → List ℕ
entry_words Absent = []
entry_words Reserved = []
entry_words (Pointer P) = []
entry_words (Page t P) = rights_word t ∷ P.0 ∷ []

-- the block writer's answer: number, place, length, offset
abbrev pub written_words : Written → List ℕ
written_words w = w.number ∷ w.place ∷ w.length ∷ w.offset ∷ []
