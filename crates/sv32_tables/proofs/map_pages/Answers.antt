use Rattle.std.proofs.lemmas.Bool.{lt-leb}
use Rattle.std.proofs.Common.{◌+◌, ◌*◌, arith, refl, ◌∙◌, le-leb}
use Rattle.stores.proofs.Written.{written_none, written_more, chosen_is}
use Rattle.sv32_tables.specs.Filled.{pages_mapped}
use Rattle.sv32_tables.proofs.map_pages.Goals as goal

pub loop-i-init : goal.loop-i-init
loop-i-init c = record { to_end = omega arith; done = written_none _ _ _ _ (omega arith) }

pub loop-i-preserved : goal.loop-i-preserved
loop-i-preserved c = record {
  to_end = omega arith;
  done = written_more c.loop-i.invariant.done _ refl (c.page_entry.ensures ∙ rw c.nth.ensures) (omega arith);
}

pub returns : goal.returns
unfolding pages_mapped
returns c =
    let lo = c.args.from.0 in
    let hi = c.args.to.0 in
    let base = 1024 * c.args.slot in
    chosen_is c.loop-i.invariant.done (record {
      hit = λ k h l m. rw (le-leb lo (base + k) (omega arith), le-leb (base + k) hi (omega arith));
      low = λ k h l. rw (lt-leb lo (base + k) (omega arith));
      high = λ k h l. rw (le-leb lo (base + k) (omega arith), lt-leb (base + k) hi (omega arith));
    })
