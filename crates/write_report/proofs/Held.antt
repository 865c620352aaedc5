-- Lists of records that are not held whole: the writer answers alike.
use Rattle.std.proofs.Common.{◌≡◌, refl, sym, ap, ◌∙◌, Bool, true, false, List, [], ◌∷◌, ℕ, zero, suc, ◌+◌, ◌-◌, ◌≤◌, ◌<◌, ltb, length, get_or, take, length-take, get_or-take, length-take-le, ext_get_or, arith, lt-ltb, le-leb}
use Rattle.std.proofs.Math.Decide.{dec_lt}
use Rattle.std.proofs.lemmas.List.{take_all}
use Rattle.notation.specs.Choice.{choose, any}
use Rattle.laws.specs.Choice.{choose_yes}
use Rattle.laws.specs.Lists.{tab_get}
use Rattle.rules.specs.Answers.{Written}
use Rattle.rules.specs.Refusals.{outside, counts_outside, refused}
use Rattle.rules.specs.Writer.{Records, records_in, processes_in, sections_in, regions_in, lists_unfit, written, buffer_after}
use Rattle.block_writer.proofs.Answering.{verdict_21}
use Rattle.stores.specs.Writes.{copied}
use Rattle.text.specs.Text.{Appended}
use Rattle.text.proofs.Appended.{appended_length}

-- what is put at the start of a list, as much as there is room for
pub held_take : {xs ys t : List ℕ} {r : ℕ} → Appended xs 0 t ys r → (r ≤ length ys) × (take r ys ≡ take (length xs) t)
unfolding copied
held_take {xs} {ys} {t} {r} p =
    let n : length ys ≡ length xs = appended_length p in
    let m : length (take r ys) ≡ r = length-take-le r ys (omega (arith, p.end_is)) in (
      omega (arith, p.end_is),
      ext_get_or 0 _ _ (m ∙ sym (length-take (length xs) t ∙ omega (arith, p.end_is))) (λ k h.
          let i : k < r = omega arith in
          let j : k < length xs = omega (arith, p.end_is) in
          let z : k - 0 ≡ k = omega arith in
          get_or-take r ys k 0 i ∙ rw p.bytes_are (tab_get (length xs) _ k 0 j ∙ choose_yes _ _ (rw (lt-ltb k (0 + length t) (omega (arith, p.end_is)), le-leb 0 k (omega arith))) ∙ rw z)
          ∙ sym (get_or-take (length xs) t k 0 j)),
    )

-- LISTS THAT ARE TOO LONG draw 21
any_at : (ts : List Bool) (i : ℕ) → get_or ts i false ≡ true → any ts ≡ true
unfolding any
any_at [] i e = e
any_at (true ∷ ts) i e = refl
any_at (false ∷ ts) zero e = absurd (let z : ◌≡◌ {A = ℕ} 0 1 = cc in omega arith)
any_at (false ∷ ts) (suc i) e = any_at ts i e

over : (lo hi n : ℕ) → hi < n → outside lo hi n ≡ true
unfolding outside
over lo hi n h = any_at (ltb n lo ∷ ltb hi n ∷ []) 1 (lt-ltb hi n h)

module _ (l : Records) where
  counts_unfit : counts_outside (processes_in l) (sections_in l) (regions_in l) ≡ true → lists_unfit l ≡ true
  unfolding lists_unfit
  counts_unfit e = any_at _ 3 e

  many_processes : 68 ≤ length l.processes → lists_unfit l ≡ true
  unfolding counts_outside
  many_processes h = counts_unfit (any_at _ 0 (over 1 16 (processes_in l) (omega arith)))

  many_sections : 260 ≤ length l.sections → lists_unfit l ≡ true
  unfolding counts_outside
  many_sections h = counts_unfit (any_at _ 1 (over 1 64 (sections_in l) (omega arith)))

  many_regions : 66 ≤ length l.regions → lists_unfit l ≡ true
  unfolding counts_outside
  many_regions h = counts_unfit (any_at _ 2 (over 0 32 (regions_in l) (omega arith)))

-- the writer's answer to lists that draw 21
unfit_written : (l : Records) (room : ℕ) → lists_unfit l ≡ true → written l room ≡ record { number = 21; place = 0; length = 0; offset = 0 }
unfolding written refused choose
unfit_written l room e = rw (← verdict_21 l room e)

unfit_buffer : (l : Records) (d : List ℕ) → lists_unfit l ≡ true → buffer_after l d ≡ d
unfolding buffer_after refused choose
unfit_buffer l d e = rw (← verdict_21 l (length d) e)

-- THE SAME ANSWER: of each list at least so many words are held
abbrev pub Alike : Records → Records → List ℕ → Type 0
Alike l m d = (written l (length d) ≡ written m (length d)) × (buffer_after l d ≡ buffer_after m d)

unfit_alike : (l m : Records) (d : List ℕ) → lists_unfit l ≡ true → lists_unfit m ≡ true → Alike l m d
unfit_alike l m d e f = (unfit_written l (length d) e ∙ sym (unfit_written m (length d) f), unfit_buffer l d e ∙ sym (unfit_buffer m d f))

module _ (ps ss rs d : List ℕ) (a b c : ℕ) (ha : 68 ≤ a) (hb : 260 ≤ b) (hc : 66 ≤ c) where
  pub cut_alike : Alike (records_in (take a ps) (take b ss) (take c rs)) (records_in ps ss rs) d
  cut_alike = elim (dec_lt a (length ps)) [
    | yes p ↦ unfit_alike _ _ d (many_processes _ (omega (arith, length-take a ps))) (many_processes _ (omega arith))
    | no p ↦ elim (dec_lt b (length ss)) [
      | yes s ↦ unfit_alike _ _ d (many_sections _ (omega (arith, length-take b ss))) (many_sections _ (omega arith))
      | no s ↦ elim (dec_lt c (length rs)) [
        | yes r ↦ unfit_alike _ _ d (many_regions _ (omega (arith, length-take c rs))) (many_regions _ (omega arith))
        | no r ↦ rw (take_all a ps (omega arith), take_all b ss (omega arith), take_all c rs (omega arith)) (refl, refl)
      ]
    ]
  ]

-- where the writer succeeds, the lists are short
number_21 : (l : Records) (room : ℕ) {A : Type 0} → (written l room).number ≡ 0 → lists_unfit l ≡ true → A
number_21 l room z e = absurd (omega (arith, ap (λ (w : Written). w.number) (unfit_written l room e)))

pub success_short : (l : Records) (room : ℕ) → (written l room).number ≡ 0 → (length l.processes < 68) × (length l.sections < 260) × (length l.regions < 66)
success_short l room z = (
  elim (dec_lt (length l.processes) 68) [ yes h ↦ h | no h ↦ number_21 l room z (many_processes l (omega arith)) ],
  elim (dec_lt (length l.sections) 260) [ yes h ↦ h | no h ↦ number_21 l room z (many_sections l (omega arith)) ],
  elim (dec_lt (length l.regions) 66) [ yes h ↦ h | no h ↦ number_21 l room z (many_regions l (omega arith)) ],
)
