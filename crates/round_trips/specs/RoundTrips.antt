-- 02, A2: "Reading what it wrote gives the same records, and a block that passes refusals 2 to 6 is written back to the same bytes."
-- 02, A5, of the writer: where in the block to be written a refusal's record is.
use Rattle.std.specs.Prelude.{◌≡◌, true, List, ◌++◌, ℕ, ◌≤◌, length, take, drop}
use Rattle.std.proofs.Common.{sym, arith, take_at, eq-eqb}
use Rattle.notation.specs.Choice.{choose}
use Rattle.laws.specs.Lists.{◌and◌}
use Rattle.rules.specs.Block.{process_count, section_count, region_count}
use Rattle.rules.specs.Block.{length_for}
use Rattle.rules.specs.Refusals.{accepted, refused, process_checks, well_formed}
use Rattle.rules.specs.Writer.{Records, records_of, processes_in, sections_in, regions_in, block_of, writer_checks, writer_verdict, written, buffer_after}
use Rattle.accepted.specs.Located.{Located, whole_located, process_located, all_located}
use Rattle.round_trips.specs.Accepting.{accepts, writer_numbered}
use Rattle.round_trips.specs.WrittenBlock.{WordLists, bounded, block_length, processes_read, sections_read, regions_read, records_read}
use Rattle.round_trips.specs.WellFormed.{block_well_formed}
use Rattle.round_trips.specs.ReadBlock.{Bytes, same_block, accepted_again, process_count_is, section_count_is, region_count_is, true_length}

-- READING WHAT WAS WRITTEN
-- the block that a call leaves in a buffer
abbrev pub written_block : Records → List ℕ → List ℕ
written_block l buffer = take (written l (length buffer)).length (buffer_after l buffer)

-- block b has the records l: the counts, every word of every record; and it draws none of 2 to 6
pub record HasRecords (b : List ℕ) (l : Records) : Type 0 where
  pub process_count_is : process_count b ≡ processes_in l
  pub section_count_is : section_count b ≡ sections_in l
  pub region_count_is : region_count b ≡ regions_in l
  pub same_records : records_of b ≡ l
  pub well_formed_is : well_formed b ≡ true

-- THE FIRST: where the writer gives no refusal, the block in the buffer has the records that it was given
pub reading_gives_the_records : (l : Records) (buffer : List ℕ) → WordLists l → (written l (length buffer)).number ≡ 0 → HasRecords (written_block l buffer) l
unfolding written buffer_after choose
reading_gives_the_records l buffer ws e =
    let a = accepts l (length buffer) e in
    let ok = bounded l a.lists_fit in
    let block : written_block l buffer ≡ block_of l = rw (eq-eqb _ 0 e) (take_at (block_of l) _ _ (block_length l ok)) in
    rw block record {
      process_count_is = processes_read l ok ws;
      section_count_is = sections_read l ok ws;
      region_count_is = regions_read l ok ws;
      same_records = records_read l ok ws;
      well_formed_is = block_well_formed l ws a.lists_fit a.processes_fit;
    }

-- WRITING WHAT WAS READ
-- THE SECOND: the records of a block that draws none of 2 to 6, written into any buffer that is long enough, give the same bytes
pub block_is_written_back : (b buffer : List ℕ) → Bytes b → well_formed b ≡ true → length b ≤ length buffer
    → (written (records_of b) (length buffer) ≡ record { number = 0; place = 0; length = length b; offset = 0 }) × (buffer_after (records_of b) buffer ≡ b ++ drop (length b) buffer)
unfolding written buffer_after accepted refused choose
block_is_written_back b buffer bytes well h =
    let v = accepted_again b bytes well (length buffer) h in
    let n : length_for (processes_in (records_of b)) (sections_in (records_of b)) (regions_in (records_of b)) ≡ length b =
    rw (process_count_is b bytes well, section_count_is b bytes well, region_count_is b bytes well) (sym (true_length b bytes well)) in
    (rw (v, n), rw (v, same_block b bytes well))

-- WHERE A REFUSAL IS: of 6 the process record's place and its offset in the block to be written; on success, for 21 and for 22 both 0
pub writer_place_and_offset : (l : Records) (room : ℕ)
    → Located (block_of l) (refused (written l room).number (written l room).place (written l room).offset)
unfolding written writer_verdict writer_checks process_checks refused
writer_place_and_offset l room =
    let b : List ℕ = block_of l in
    all_located b 22 (writer_checks l room) (writer_numbered l room)
    (whole_located b 21 _ (λ h m. omega arith) and whole_located b 22 _ (λ h m. omega arith) and process_located b and tt)
