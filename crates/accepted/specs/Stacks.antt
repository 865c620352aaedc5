-- 02, A7: what is known of kind words and of stacks, in any block.
use Rattle.std.specs.Prelude.{◌≡◌, ◌≢◌, ◌↔◌, false, List, ℕ, ◌+◌, ◌-◌, ◌*◌, ◌/◌, ◌%◌, ◌≤◌, eqb}
use Rattle.std.proofs.Common.{◌∙◌, arith, eqb-true, eq-eqb, ne_eqb, ltb-false, le-ltb}
use Rattle.std.proofs.Math.Decide.{ℕ_discrete}
use Rattle.std.proofs.lemmas.Bool.{eqb-false, not-false}
use Rattle.notation.specs.Choice.{any}
use Rattle.rules.specs.Block.{kind_of, stack_bits, kind_word_of, stack_pages, stack_first}
use Rattle.rules.specs.Refusals.{kind_unfit, range_last}
use Rattle.laws.specs.Choice.{by_choose, choose_yes, choose_no, any_none}

-- 6 leaves the kernel no kind word but 0
only_zero : (w : ℕ) → kind_unfit w 0 ≡ false → w ≡ 0
unfolding kind_unfit kind_of stack_bits
only_zero w e =
    omega (
      arith,
      ltb-false 1 (w % 256) (any_none _ e 0),
      eqb-false (w % 256) 1 (any_none _ e 1),
      ltb-false 0xFFFF w (any_none _ e 2),
      eqb-true (w / 256 % 256) 0 (not-false _ (any_none _ e 3)),
    )

pub kernel_kind_word : (w : ℕ) → (kind_unfit w 0 ≡ false) ↔ (w ≡ 0)
unfolding kind_unfit kind_of stack_bits any
kernel_kind_word w = (only_zero w, λ e. rw e)

-- and a user process kinds 0 and 1, with any stack bits and no bit above them
only_low_bits : (w i : ℕ) → kind_unfit w i ≡ false → (kind_of w ≤ 1) × (w ≡ kind_of w + 256 * stack_bits w)
unfolding kind_unfit kind_of stack_bits
only_low_bits w i e = (ltb-false 1 (w % 256) (any_none _ e 0), omega (arith, ltb-false 0xFFFF w (any_none _ e 2)))

pub user_kind_word : (w i : ℕ) → i ≢ 0 → (kind_unfit w i ≡ false) ↔ ((kind_of w ≤ 1) × (w ≡ kind_of w + 256 * stack_bits w))
unfolding kind_unfit kind_of stack_bits any
user_kind_word w i user = (only_low_bits w i, λ p. rw (ne_eqb i 0 user, le-ltb 1 (w % 256) p.0, le-ltb 0xFFFF w (omega (arith, p.1))))

-- the kernel has no stack, a user process one of 1 to 255 pages
pub kernel_stack : (b : List ℕ) (q : ℕ) → q ≡ 1 → stack_pages b q ≡ 0
unfolding stack_pages
kernel_stack b q e = choose_yes _ _ (eq-eqb q 1 e)

pub user_stack : (b : List ℕ) (q : ℕ) → q ≢ 1 → (1 ≤ stack_pages b q) × (stack_pages b q ≤ 255)
unfolding stack_pages stack_bits
user_stack b q user =
    let n : ℕ = kind_word_of b q / 256 % 256 in
    by_choose (λ s. (1 ≤ s) × (s ≤ 255)) (eqb q 1) _ _ (λ e. absurd (user (eqb-true q 1 e)))
    (λ _. by_choose (λ s. (1 ≤ s) × (s ≤ 255)) (eqb n 0) _ _ (λ _. (omega arith, omega arith)) (λ e. (omega (arith, eqb-false n 0 e), omega arith)))

pub stack_at_most : (b : List ℕ) (q : ℕ) → stack_pages b q ≤ 255
stack_at_most b q = elim (ℕ_discrete q 1) [
  | yes e ↦ omega (arith, kernel_stack b q e)
  | no user ↦ (user_stack b q user).1
]

-- the range for the sections of a user process ends just below its stack, in 02's numbers
pub range_ends : (b : List ℕ) (q : ℕ) → q ≢ 1 → range_last b q ≡ 0x7FFF_FFFF - 4096 * stack_pages b q
unfolding range_last stack_first
range_ends b q user = choose_no _ _ (ne_eqb q 1 user) ∙ omega (arith, stack_at_most b q)
