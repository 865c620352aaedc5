use Rattle.std.proofs.Common.{◌≡◌, refl, ◌∙◌, rules}
use Rattle.page_allocator.specs.Bytes.{page_bytes}
use Rattle.word_stores.specs.Words.{with_words}
use Rattle.loader.proofs.TablePages.{stored}
use Rattle.loader.proofs.table_pages.store.Goals as goal

pub returns : goal.returns
returns c =
    let page : c.fill_page.ensures.0 ≡ with_words (page_bytes c.args.ram.now c.args.k.0) c.args.entries.now = search rules in
    c.fill_page.ensures.2 ∙ stored c.args.ram.now _ c.args.entries.now c.args.k.0 _ _ refl refl c.requires page
