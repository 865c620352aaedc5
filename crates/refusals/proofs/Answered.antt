-- The number of an answer: of a refusal not 0, of a boot 0.
use Rattle.std.proofs.Common.{◌≡◌, ◌≢◌, refl, Ok, Err}
use Rattle.rules.specs.Refusals.{refused}
use Rattle.rules.specs.Load.{refusal_answer}
use Rattle.refusals.specs.declared.Refused.{Refused}
use Rattle.refusals.specs.declared.Boot.{Boot}
use Rattle.refusals.specs.Answers.{answer_of}
use Rattle.refusals.proofs.Given.{number_given}

pub answer_refused : (e : Refused) → (answer_of (Err e)).number ≢ 0
unfolding answer_of refusal_answer refused
answer_refused e = number_given e.refusal

pub answer_booted : (b : Boot) → (answer_of (Ok b)).number ≡ 0
unfolding answer_of
answer_booted b = refl

pub taken_of : (b : Boot) → (answer_of (Ok b)).taken ≡ b.taken
unfolding answer_of
taken_of b = refl
