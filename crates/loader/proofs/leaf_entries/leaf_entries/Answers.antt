use Rattle.loader.proofs.LeafCursor.{kernel_slot, user_slot}
use Rattle.loader.proofs.LeafEntries.{leaf_kernel, leaf_user}
use Rattle.loader.proofs.Shares.{walk}
use Rattle.loader.proofs.leaf_entries.leaf_entries.Goals as goal

pub kernel_entries-requires : goal.kernel_entries-requires
kernel_entries-requires c =
    let q = c.if-leaf-eq1.true in
    (q, kernel_slot _ _ _ q c.args.leaf.now.here, c.requires)

pub returns-then-leaf-eq1 : goal.returns-then-leaf-eq1
returns-then-leaf-eq1 c = leaf_kernel _ _ _ _ _ (kernel_slot _ _ _ c.if-leaf-eq1.true c.args.leaf.now.here) c.kernel_entries.ensures

pub returns-else-leaf-eq1 : goal.returns-else-leaf-eq1
returns-else-leaf-eq1 c =
    let n = c.if-leaf-eq1.false in
    leaf_user _ _ _ _ _ n (user_slot (walk c.args.leaf.now.share) _ n c.args.leaf.now.here) c.user_entries.ensures
