use Rattle.std.proofs.Common.{◌≡◌, refl, ◌∙◌, rules, length, get_or}
use Rattle.notation.specs.Lists.{tab}
use Rattle.page_allocator.specs.Bytes.{page_bytes}
use Rattle.writing.specs.Pages.{put_part}
use Rattle.loader.proofs.load_block.Goals as goal

pub returns : goal.returns
returns c =
    let got = c.allocate-got in
    let page : c.fill_page.ensures.0 ≡ tab (length (page_bytes c.args.ram.now got.result.page.0)) (λ o. get_or c.args.block.now o 0) = search rules in
    (got.ensures.1, c.fill_page.ensures.2 ∙ put_part c.args.ram.now _ got.result.page.0 _ _ _ refl refl page ∙ rw got.ensures.0)
