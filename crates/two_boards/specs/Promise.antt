-- DEMANDS 2 AND 3 of the code: what one call of the loader, and two calls with the same block and flash at one address, each on a RAM of
-- its own, promise for process q at address a.
use Rattle.std.specs.Prelude.{◌≡◌, ◌≢◌, ◌&&◌, List, ℕ, ◌-◌, ◌≤◌, ◌<◌, Option, Some, None}
use Rattle.notation.specs.Choice.{choose}
use Rattle.types.specs.declared.PhysPage.{PhysPage}
use Rattle.types.specs.declared.Rights.{Rights}
use Rattle.types.specs.declared.Entry.TheVariants.{Page}
use Rattle.types.specs.declared.View.{View}
use Rattle.types.specs.declared.View.TheVariants.{Absent}
use Rattle.rules.specs.Lent.{Image, Memory, memory_of, memory_area, pages_in}
use Rattle.rules.specs.Block.{process_count}
use Rattle.rules.specs.Order.{tracker_pages}
use Rattle.rules.specs.Load.{boots, ram_after, answer}
use Rattle.rules.specs.Reader.{walk}
use Rattle.rules.specs.Sees.{sees_on, seen_from, root_of, process_sees}
use Rattle.rules.specs.Compare.{compared, Agree}
use Rattle.demands.specs.Exactly.{Exactly, StackReservation}
use Rattle.demands.specs.Demand2.{OneOwnerEach, InRamOrFlash, FlashByte, AddUp}
use Rattle.refusals.specs.Answers.{answer_of}
use Rattle.order_roots.specs.Roots.{is_process}
use Rattle.two_boards.specs.declared.Board.{Board}
use Rattle.two_boards.specs.declared.Boards.{Boards}

-- what is seen by way of a root, or nothing
abbrev pub seen_at : Option PhysPage → Memory → Memory → ℕ → View
seen_at None ram flash a = Absent
seen_at (Some P) ram flash a = seen_from ram flash P.0 a

-- what process q sees after a call that boots; nothing where it is refused or there is no such process
unfoldable pub seen_after : Image → Memory → ℕ → ℕ → View
seen_after x r q a = choose (boots x r && is_process x.block q) (process_sees x r q a) Absent

-- demand 2 of a call on RAM `r` that boots; `exit` is RAM's bytes after it
pub record Demand2 (x : Image) (r : Memory) (exit : List ℕ) (q a : ℕ) (o : Board) : Type 0 where
  -- process q sees what the rules give it: exactly its sections, zero around them, those rights, and nothing else but the kernel's own
  -- mapping and the stack reservation
  pub views : 1 ≤ q → q ≤ process_count x.block → o.seen ≡ sees_on x (pages_in (memory_area r)) q a
  pub exactly : 1 ≤ q → q ≤ process_count x.block → Exactly x (pages_in (memory_area r)) q a o.seen
  -- what it sees reserved is just its stack
  pub stack : 1 ≤ q → q ≤ process_count x.block → StackReservation x q a o.seen
  -- on a page of flash it sees flash's own byte
  pub flash_byte : 1 ≤ q → q ≤ process_count x.block → FlashByte x q a o.seen
  -- a RAM page reached with the user right, by any process at any address, has one owner and one virtual page
  pub one_owner : OneOwnerEach x r (memory_of r.start exit)
  -- a page that any process reaches at any address lies in RAM, or in flash, read-only
  pub in_ram_or_flash : (q' a' : ℕ) → 1 ≤ q' → q' ≤ process_count x.block → a' < 0x1_0000_0000 → (t : Rights) (P : PhysPage) → walk (memory_of r.start exit) (root_of x r q') a' ≡ Page t P → InRamOrFlash x (memory_of r.start exit) t P
  -- owners' pages and free pages add up to RAM, and are the answer's
  pub pages : AddUp x (pages_in (memory_area r)).pages (answer_of o.answer)

-- one call: its answer, RAM after it, and what process q sees at address a; and demand 2 where it boots
pub record OneBoard (x : Image) (r : Memory) (exit : List ℕ) (q a : ℕ) (o : Board) : Type 0 where
  pub answers : answer_of o.answer ≡ answer x r
  pub leaves : exit ≡ ram_after x r
  pub shows : o.seen ≡ seen_after x r q a
  pub demand_2 : (answer_of o.answer).number ≡ 0 → Demand2 x r exit q a o

-- both calls; and where the first boots, and the second RAM has as many pages or more and draws none of 1, 11 and 13, the second
-- boots, process q sees the same on both, in all that is compared, and pages taken less tracker pages is the same number (demand 3)
pub record TwoBoards (x : Image) (r r' : Memory) (exit exit' : List ℕ) (q a : ℕ) (o : Boards) : Type 0 where
  pub first : OneBoard x r exit q a o.first
  pub second : OneBoard x r' exit' q a o.second
  pub demand_3 : (answer_of o.first.answer).number ≡ 0 → (pages_in (memory_area r)).pages ≤ (pages_in (memory_area r')).pages
      → (answer_of o.second.answer).number ≢ 1 → (answer_of o.second.answer).number ≢ 11 → (answer_of o.second.answer).number ≢ 13
      → ((answer_of o.second.answer).number ≡ 0)
      × (1 ≤ q → q ≤ process_count x.block
      → Agree (compared x.block (tracker_pages x.block (pages_in (memory_area r)).pages) (tracker_pages x.block (pages_in (memory_area r')).pages) a) o.first.seen o.second.seen)
      × ((answer_of o.first.answer).taken - (answer_of o.first.answer).tracker ≡ (answer_of o.second.answer).taken - (answer_of o.second.answer).tracker)
