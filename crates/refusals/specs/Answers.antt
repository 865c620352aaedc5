-- What 01's definitions say of a call, from what it returns: a refusal's number, place and offset; of success number, place and offset 0.
use Rattle.std.specs.Prelude.{ℕ, ◌%◌, Option, Some, None, Result, Ok, Err}
use Rattle.rules.specs.Answers.{RecordCheck, Verdict, Answer, Written}
use Rattle.rules.specs.Refusals.{record_check, refused, accepted}
use Rattle.rules.specs.Load.{refusal_answer}
use Rattle.refusals.specs.declared.Refusal.{Refusal}
use Rattle.refusals.specs.declared.Refused.{Refused}
use Rattle.refusals.specs.declared.RecordRefusal.{RecordRefusal}
use Rattle.refusals.specs.declared.Boot.{Boot}
use Rattle.refusals.specs.Numbers.{number_of}

-- the number of a refusal, 0 of none
unfoldable pub number_or_0 : Option Refusal → ℕ
number_or_0 None = 0
number_or_0 (Some r) = number_of r

-- the check of one record
abbrev pub check_of : RecordRefusal → RecordCheck
check_of r = record_check (number_or_0 r.refusal) r.offset

-- what a record draws, as a refusal of record i, its offset told in 32 bits
unfoldable pub refused_at : RecordRefusal → ℕ → Option Refused
refused_at r i = elim r.refusal [ None ↦ None | Some x ↦ Some (record { refusal = x; place = i; offset = r.offset % 0x1_0000_0000 }) ]

-- a refusal's verdict
abbrev pub refused_of : Refused → Verdict
refused_of e = refused (number_of e.refusal) e.place e.offset

-- a verdict
unfoldable pub verdict_of : Result Unit Refused → Verdict
verdict_of (Ok u) = accepted
verdict_of (Err e) = refused_of e

-- a load's full answer; in a refusal the three counts are 0
unfoldable pub answer_of : Result Boot Refused → Answer
answer_of (Ok b) = record { number = 0; place = 0; taken = b.taken; free = b.free; tracker = b.tracker; offset = 0 }
answer_of (Err e) = refusal_answer (refused_of e)

-- the block writer's answer: the block's length, in a refusal 0
unfoldable pub written_of : Result ℕ Refused → Written
written_of (Ok n) = record { number = 0; place = 0; length = n; offset = 0 }
written_of (Err e) = record { number = number_of e.refusal; place = e.place; length = 0; offset = e.offset }
