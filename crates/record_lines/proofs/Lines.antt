-- Words and numbers of a line.
use Rattle.std.proofs.Common.{rules, codes, ◌≡◌, ◌≢◌, refl, sym, ap, ◌∙◌, List, [], true, false, ℕ, ◌+◌, ◌-◌, ◌≤◌, ◌<◌, eqb, ltb, length, get_or, set, drop, Option, Some, None, Result, Ok, Err, below_more, replicate, length-set, get_or-set_same, get_or-set_other, get_or-drop, length-drop, arith, eq-eqb, ne_eqb, lt-ltb, le-ltb}
use Rattle.std.specs.Bool.{Decides}
use Rattle.std.proofs.lemmas.Slice.Eq.{HasBytesAt, compares_Decides, text_from_reads}
use Rattle.std.specs.Result.{result_map_both}
use Rattle.std.proofs.lemmas.List.{length-replicate}
use Rattle.std.proofs.lemmas.List.Sums.{position_or_len_is}
use Rattle.notation.specs.Choice.{choose}
use Rattle.notation.specs.Lists.{tab}
use Rattle.laws.specs.Choice.{choose_yes, choose_no, choose_map, by_test}
use Rattle.laws.specs.Lists.{tab_by}
use Rattle.numerals.specs.Numerals.{number_of}
use Rattle.numerals.specs.declared.NumberError.{NumberError}
use Rattle.record_fields.proofs.Pieces.{count_before_is}
use Rattle.record_lines.specs.Lines.{same, word_of, numbers_after, unread, value_at, first_unread, fault_at, numbers_of, numbered, said_after, said_by}
use Rattle.record_lines.specs.declared.Kind.{Kind}
use Rattle.record_lines.specs.declared.Kind.TheVariants as kind
use Rattle.record_lines.specs.declared.Record.{Record}
use Rattle.record_lines.specs.declared.Record.TheVariants.{Process, Section, Region}
use Rattle.record_lines.specs.declared.Fault.{Fault}
use Rattle.record_lines.specs.declared.Fault.TheVariants.{UnknownWord, WrongCount}

-- WORDS
same_Decides : (s t : List ℕ) → Decides (same s t) (s ≡ t)
unfolding same
same_Decides = compares_Decides same (search rules)

differ : (s t : List ℕ) → s ≢ t → same s t ≡ false
differ s t n = by_test (λ c. c ≡ false) (same s t) (λ e. absurd (n ((same_Decides s t).0 e))) (λ e. refl)

module _ (t : List ℕ) where
  pub word_process : length t ≡ 7 → HasBytesAt t 0 (codes "process") → Some kind.Process ≡ word_of t
  unfolding word_of same choose
  word_process n h = rw (text_from_reads t (codes "process") n h)

  pub word_section : length t ≡ 7 → HasBytesAt t 0 (codes "section") → Some kind.Section ≡ word_of t
  unfolding word_of same choose
  word_section n h = rw (text_from_reads t (codes "section") n h)

  pub word_region : length t ≡ 6 → HasBytesAt t 0 (codes "region") → Some kind.Region ≡ word_of t
  unfolding word_of same choose
  word_region n h = rw (text_from_reads t (codes "region") n h)

  pub word_unknown : t ≢ codes "process" → t ≢ codes "section" → t ≢ codes "region" → None ≡ word_of t
  unfolding word_of choose
  word_unknown p s r = rw (differ _ _ p, differ _ _ s, differ _ _ r)

-- NUMBERS
abbrev pub number_at : List (List ℕ) → ℕ → Result ℕ NumberError
number_at f k = number_of (get_or f k [])

-- of n numbers the first k are read
pub record Numbers (f : List (List ℕ)) (n : ℕ) (ns : List ℕ) (k : ℕ) : Type 0 where
  pub size : length ns ≡ n
  pub read : (i : ℕ) → i < k → unread (number_at f (i + 1)) ≡ false
  pub values : (i : ℕ) → i < k → get_or ns i 0 ≡ value_at f (i + 1)

pub numbers_none : (f : List (List ℕ)) (n : ℕ) → Numbers f n (replicate n 0) 0
numbers_none f n = record { size = length-replicate n 0; read = λ i h. absurd (omega arith); values = λ i h. absurd (omega arith) }

-- the next is field a
pub numbers_next : (f : List (List ℕ)) (n : ℕ) (ns : List ℕ) (k v a : ℕ) → Numbers f n ns k → k < n → a ≡ k + 1 → number_at f a ≡ Ok v → Numbers f n (set ns k v) (k + 1)
unfolding value_at
numbers_next f n ns k v a p h i g =
    let e : number_at f (k + 1) ≡ Ok v = rw (← i) g in
    let l : k < length ns = omega (arith, p.size) in
    record {
      size = length-set ns k v ∙ p.size;
      read = below_more _ _ p.read (rw e);
      values = below_more _ _
          (λ i l. let ne : i ≢ k = omega arith in rw get_or-set_other (p.values i l))
          (rw (get_or-set_same, e));
    }

first_is : (f : List (List ℕ)) (k : ℕ) → k + 1 ≤ length f → ((i : ℕ) → i < k → unread (number_at f (i + 1)) ≡ false)
    → (k + 1 < length f → unread (number_at f (k + 1)) ≡ true) → first_unread f ≡ k + 1
unfolding first_unread
first_is f k h none one =
    let t = λ (x : List ℕ). unread (number_of x) in
    let n : length (drop 1 f) + 1 ≡ length f = omega (arith, length-drop 1 f) in
    omega (
      arith,
      count_before_is t (drop 1 f),
      position_or_len_is t (drop 1 f) k [] (omega arith)
          (λ i l. let e : 1 + i ≡ i + 1 = omega arith in rw (get_or-drop, e) (none i l))
          (λ l. let e : 1 + k ≡ k + 1 = omega arith in rw (get_or-drop, e) (one (omega arith))),
    )

pub numbers_count : (n m : ℕ) (f : List (List ℕ)) → m ≡ length f → m ≢ 1 + n → Err (WrongCount n (m - 1)) ≡ numbers_of n f
unfolding numbers_of
numbers_count n m f e h = rw e (sym (choose_no _ _ (ne_eqb _ _ (λ z. h (e ∙ z)))))

module _ (n m k : ℕ) (f : List (List ℕ)) (ns : List ℕ) (c : m ≡ length f) (e : m ≡ 1 + n) (p : Numbers f n ns k) where
  pub numbers_fault : (a : ℕ) → k < n → a ≡ k + 1 → unread (number_at f a) ≡ true → Err (fault_at a (number_at f a)) ≡ numbers_of n f
  unfolding numbers_of
  numbers_fault a h j v =
      let u : unread (number_at f (k + 1)) ≡ true = rw (← j) v in
      let i : first_unread f ≡ k + 1 = first_is f k (omega arith) p.read (λ _. u) in
      rw j (sym (choose_yes _ _ (eq-eqb _ _ (sym c ∙ e)) ∙ rw i (choose_yes _ _ (lt-ltb (k + 1) (length f) (omega arith)))))

  pub numbers_all : n ≤ k → Ok ns ≡ numbers_of n f
  unfolding numbers_of
  numbers_all h =
      let i : first_unread f ≡ n + 1 = first_is f n (omega arith) (λ j l. p.read j (omega arith)) (λ l. absurd (omega arith)) in
      let v : ns ≡ tab n (λ i. value_at f (1 + i)) = tab_by n (λ i. value_at f (1 + i)) 0 ns p.size (λ j l. let o : 1 + j ≡ j + 1 = omega arith in rw o (p.values j (omega arith))) in
      let no : ltb (first_unread f) (length f) ≡ false = rw i (le-ltb (n + 1) (length f) (omega arith)) in
      rw v (sym (choose_yes _ _ (eq-eqb _ _ (sym c ∙ e)) ∙ choose_no _ _ no))

-- LINES, by the numbers after the word
abbrev pub made : Kind → List ℕ → Record
made kind.Process ns = Process ns
made kind.Section ns = Section ns
made kind.Region ns = Region ns

abbrev pub to_line : Kind → Result (List ℕ) Fault → Result (Option Record) Fault
to_line w r = result_map_both (λ ns. Some (made w ns)) (λ e. e) r

pub said_is : (w : Kind) (f : List (List ℕ)) → to_line w (numbers_of (numbers_after w) f) ≡ said_after (Some w) f
unfolding numbers_of numbered tab
said_is kind.Process f = choose_map (to_line kind.Process) _ _ _ ∙ ap (λ (l : Result (Option Record) Fault). choose (eqb (length f) 5) l (Err (WrongCount 4 (length f - 1)))) (choose_map (to_line kind.Process) _ _ _)
said_is kind.Section f = choose_map (to_line kind.Section) _ _ _ ∙ ap (λ (l : Result (Option Record) Fault). choose (eqb (length f) 5) l (Err (WrongCount 4 (length f - 1)))) (choose_map (to_line kind.Section) _ _ _)
said_is kind.Region f = choose_map (to_line kind.Region) _ _ _ ∙ ap (λ (l : Result (Option Record) Fault). choose (eqb (length f) 3) l (Err (WrongCount 2 (length f - 1)))) (choose_map (to_line kind.Region) _ _ _)

module _ (f : List (List ℕ)) (m : ℕ) (e : m ≡ length f) where
  pub said_empty : m ≡ 0 → Ok None ≡ said_by f
  unfolding said_by
  said_empty z = sym (choose_yes _ _ (eq-eqb _ _ (sym e ∙ z)))

  module _ (h : m ≢ 0) where
    said_some : said_after (word_of (get_or f 0 [])) f ≡ said_by f
    unfolding said_by
    said_some = sym (choose_no _ _ (ne_eqb _ _ (λ z. h (e ∙ z))))

    pub said_unknown : None ≡ word_of (get_or f 0 []) → Err UnknownWord ≡ said_by f
    said_unknown w = rw (← w) at said_some

    pub said_numbers : (w : Kind) (r : Result (List ℕ) Fault) → Some w ≡ word_of (get_or f 0 []) → r ≡ numbers_of (numbers_after w) f → to_line w r ≡ said_by f
    said_numbers w r s n = ap (to_line w) n ∙ said_is w f ∙ rw (← s) at said_some
