use Rattle.std.proofs.Common.{sym, arith}
use Rattle.loader.proofs.LeafEntries.{first_user_place, next_user_place}
use Rattle.loader.proofs.Shares.{walk}
use Rattle.loader.proofs.table_pages.next_section_place.Goals as goal

pub returns-then-share-eq1 : goal.returns-then-share-eq1
returns-then-share-eq1 c = sym (first_user_place _ _ _ c.if-share-eq1.true)

pub returns : goal.returns
returns c =
    let share = c.args.share.now in
    rw (share.placed, c.process_pages.ensures.0) (sym (next_user_place _ _ _ share.first c.if-share-eq1.false))

pub overflow_cast-result : goal.overflow_cast-result
overflow_cast-result c = omega (arith, (walk c.args.share.now).room, c.process_pages.ensures.0)

pub overflow_add-result : goal.overflow_add-result
overflow_add-result c = omega (arith, (walk c.args.share.now).room, c.args.share.now.placed, c.process_pages.ensures.0)
