use Rattle.std.proofs.Common.{◌≡◌, refl, ◌∙◌, rules, length}
use Rattle.notation.specs.Lists.{tab}
use Rattle.load_page.specs.Pages.{page_of}
use Rattle.page_allocator.specs.Bytes.{page_bytes}
use Rattle.writing.specs.Pages.{put_part}
use Rattle.load_sections.proofs.load_page.Goals as goal

pub returns : goal.returns
returns c =
    let page : c.fill_page.ensures.0 ≡ tab (length (page_bytes c.args.ram.now c.args.k.0)) (page_of c.args.section c.args.flash.now c.args.i) = search rules in
    c.fill_page.ensures.2 ∙ put_part c.args.ram.now _ c.args.k.0 _ _ _ refl refl page
