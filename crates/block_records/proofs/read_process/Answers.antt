use Rattle.block_records.proofs.Processes.{process_of_record}
use Rattle.block_records.proofs.read_process.Goals as goal

pub returns : goal.returns
returns c = process_of_record _ _ _ _ c.saturating_sub.ensures c.read_process_record.ensures
